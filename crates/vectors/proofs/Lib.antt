pub mod Rows
pub mod Laid
pub mod Replays
pub mod Longs
pub mod Rewrites
