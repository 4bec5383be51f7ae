-- What the contracts of the program cite.
pub mod Rows
pub mod Report
