-- The claim on a file cut in two holds for the definitions: Theorem, and what it rests on.
pub mod Tree
pub mod Text
pub mod Theorem
