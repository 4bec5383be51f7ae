-- What the proofs of the functions share.
pub mod Text
pub mod Windows
