-- What the contracts of the writer cite.
pub mod Walk
pub mod Writer
pub mod Comment
pub mod Serialize
pub mod Message
pub mod Resource
pub mod Call
