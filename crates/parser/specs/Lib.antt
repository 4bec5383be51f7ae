-- What the contracts of the parser say of results and of lent words.
pub mod Laid
pub mod Place
pub mod ErrorList
pub mod Call
pub mod Resource
pub mod Next
