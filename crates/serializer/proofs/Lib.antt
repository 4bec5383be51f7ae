-- What the proofs of the functions share.
pub mod Numbers
pub mod Pieces
pub mod Ways
pub mod Comments
pub mod Patterns
pub mod References
pub mod Variants
pub mod Rows
pub mod Loops
pub mod Parts
pub mod Expressions
pub mod Messages
pub mod TopLevel
pub mod Outcome
