-- calls one after the other answer the entries in order, and then that none is left: `reader-tells`
pub mod Calls
-- the same for calls on a reader: `new-tells`
pub mod Runs
