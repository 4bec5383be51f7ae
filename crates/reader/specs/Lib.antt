-- What the reader's contracts cite, and theorems on the definitions of Next in Rattle.syntax: its answers are the entries of the reading.

-- a reader after a call
pub mod Moved
-- each entry takes a byte; the entries after a place are the first one, and those after where it stopped
pub mod Extents
-- calls one after the other; that they answer the entries in order is in proofs/Calls
pub mod Calls
-- the same for calls on a reader; proofs/Runs
pub mod Runs
-- the entries stand in the tree: `agrees`
pub mod Tree
-- what an entry begins with: `entry-begins`
pub mod Begins
