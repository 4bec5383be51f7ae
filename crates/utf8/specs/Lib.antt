-- What well-formed UTF-8 is, worked examples, and laws that other crates cite.
pub mod Utf8
pub mod Table
pub mod Sequence
pub mod Law
pub mod Text
