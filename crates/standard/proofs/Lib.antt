-- For every source that is accepted, the tree is the standard's with the departures on: Theorem, and what it rests on.
pub mod PatternAgrees
pub mod WholePattern
pub mod Words
pub mod Inline
pub mod Arguments
pub mod Select
pub mod Placeable
pub mod Attributes
pub mod Messages
pub mod Pieces
pub mod Resource
pub mod Theorem
