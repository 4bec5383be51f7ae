-- `put_span` meets its contract.
use native.Mathlib.Omega.{arith}
use mathlib.Core.Path.{ap₂}
use Rattle.output.proofs.Puts.{did_as, did_then}
use Rattle.marks.specs.Rows.{span}
use Rattle.marks.proofs.listing.put_span.Goals as goal

pub returns : goal.returns
unfolding span
returns c =
    did_as (did_then c.put_field.ensures (omega arith) c.put_field-2.ensures) (ap₂ span c.from.ensures c.from-2.ensures)
