-- The shape of mark lists: runs over the content models, the check, the theorem on its verdict, and bounds on its stack.
pub mod Run
pub mod Check
pub mod Verdict
pub mod Bound
