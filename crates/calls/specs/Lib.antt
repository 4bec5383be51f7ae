-- A file cut in two, by what the reading call leaves and what the writing call makes of it.
pub mod Calls
pub mod Theorem
