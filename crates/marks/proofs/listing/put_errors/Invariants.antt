-- `put_errors` meets its contract: in the loop the lines so far have been put.
use Rattle.std.proofs.Common.{length}
use Rattle.syntax.specs.Listing.{lines}
use Rattle.output.specs.Put.{DidPut}
use Rattle.marks.specs.Rows.{rows, error_row}
use Rattle.marks.proofs.listing.put_errors.Given as goal

abbrev pub invariant-loop-kind : goal.invariant-loop-kind
invariant-loop-kind l = DidPut l.initial.output l.output (lines (rows (error_row l.errors) (length l.yielded)))
