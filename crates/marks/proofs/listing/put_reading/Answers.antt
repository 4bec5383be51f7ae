-- `put_reading` meets its contract.
use native.Mathlib.Omega.{arith}
use Rattle.marks.proofs.Lines.{put-reading}
use Rattle.marks.proofs.listing.put_reading.Goals as goal

pub put_marks-requires : goal.put_marks-requires
put_marks-requires c = record { held = c.requires.marks_held; fits = omega (arith, c.put_pair.ensures.put.next) }

pub put_errors-requires : goal.put_errors-requires
put_errors-requires c = record { held = c.requires.errors_held; fits = omega (arith, c.put_marks.ensures.put.next) }

pub returns : goal.returns
returns c =
    let accepted = c.put_field.ensures in
    let counts = c.put_pair.ensures in
    put-reading _ _ (omega arith) c.from.ensures c.from-2.ensures accepted counts c.put_marks.ensures c.put_errors.ensures
