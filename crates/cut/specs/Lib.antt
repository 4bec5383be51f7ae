-- A file cut in two: the claim, examples, and laws of words and lines.
pub mod Claim
pub mod Definition
pub mod LastLine
pub mod Words
pub mod Clean
pub mod Faithful
pub mod Table
