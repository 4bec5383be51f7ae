pub mod Stored
pub mod Agreement
pub mod Written
