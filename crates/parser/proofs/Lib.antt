-- What the proofs of several functions use.
pub mod Seeks
pub mod Changed
pub mod Granted
pub mod Zeros
pub mod ErrorRows
pub mod Words
pub mod Outcome
pub mod Stops
pub mod Got
pub mod Rows
pub mod Files
