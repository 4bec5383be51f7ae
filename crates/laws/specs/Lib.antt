-- Laws of the definitions, for the proofs of code and of theorems to cite. All that a file's reading has is stated in File and Formed.

-- tests on bytes; sources that end in a newline, and what follows a cut
pub mod Bytes
-- std's tests on a byte are the grammar's
pub mod Ascii
-- moving up composes and distributes; sequencing associates
pub mod Moving
-- what holds of an answer, by its parts
pub mod Answers
-- which values inline expressions have
pub mod Values
-- a placeable's second test for a term's attribute never fires
pub mod Attribute
-- `repeat` is a turn, and then `repeat`
pub mod Loop
-- the nodes that marks make
pub mod Balanced
-- every answer is within the bytes there are, with eight marks at most for each, and too deep only past as many openings as are allowed
pub mod Bounds
-- junk uses a byte
pub mod Progress
-- a file's entries one by one, and its reading
pub mod File
-- with more openings allowed, what was not too deep is the same
pub mod Limit
-- where lines start; that entries start there
pub mod Lines
-- what readers answer at a cut
pub mod Stable
-- readings without junk, and the last line, at a cut
pub mod Entries
-- the words of a tree and of a list of errors, read back
pub mod Layout
-- an answer with its number and values
pub mod Answered
-- what an answer's number tells of lent memory
pub mod Effect
-- the tests 1, 2 and 6
pub mod Tests
-- calls that are accepted
pub mod Call
-- the shape of mark lists, its check and the verdict
pub mod Shape
-- the marks of a reading are well formed
pub mod Formed
-- the writer's pieces without their fuel; how long a text can be
pub mod Text
-- elements stored one after another
pub mod Sets
