-- `put_marks` meets its contract: in the loop the lines so far have been put.
use Rattle.std.proofs.Common.{length}
use Rattle.syntax.specs.Listing.{lines}
use Rattle.output.specs.Put.{DidPut}
use Rattle.marks.specs.Rows.{rows, mark_row}
use Rattle.marks.proofs.listing.put_marks.Given as goal

abbrev pub invariant-loop-kind : goal.invariant-loop-kind
invariant-loop-kind l = DidPut l.initial.output l.output (lines (rows (mark_row l.tree) (length l.yielded)))
