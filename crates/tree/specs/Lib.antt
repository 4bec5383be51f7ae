-- What the contracts of the crate cite, and the nodes at the marks of a list.
pub mod Walk
pub mod Words
pub mod Models
pub mod Shape
