-- What the proofs of the functions share (Stores, Digits), and what callers cite (Puts, Lines).
pub mod Stores
pub mod Digits
pub mod Puts
pub mod Lines
