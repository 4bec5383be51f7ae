-- What the proofs of the functions share, and what callers cite of trees.
pub mod Numbers
pub mod Table
pub mod Steps
pub mod Stack
pub mod Sizes
pub mod Walk
pub mod Words
pub mod Children
pub mod Contents
pub mod References
pub mod Messages
pub mod Entries
pub mod Turns
pub mod Stands
pub mod Tests
