-- `report` meets its contract.
use native.Mathlib.Omega.{arith}
use Rattle.std.proofs.Common.{rules}
use mathlib.Core.Path.{ap, ap₂, ◌∙◌}
use mathlib.Core.List.{[], ◌∷◌}
use lib.ListN.{length}
use Rattle.syntax.specs.Listing.{line}
use Rattle.output.proofs.Puts.{did_as}
use Rattle.output.proofs.Lines.{line-few}
use Rattle.marks.proofs.Outcome.{reported, refusal, acceptance}
use Rattle.marks.proofs.report.Goals as goal

pub put_reading-requires : goal.put_reading-requires
put_reading-requires c =
    let ready = acceptance c.requires c.read.ensures c.in-Ok.is c.read.auto.tree c.read.auto.errors in
    record { marks_held = ready.marks; errors_held = ready.errors }

pub returns-in-Ok : goal.returns-in-Ok
returns-in-Ok c =
    let ready = acceptance c.requires c.read.ensures c.in-Ok.is c.read.auto.tree c.read.auto.errors in
    let new = c.new-lent.ensures in
    reported ready.room (omega arith) (did_as c.put_reading.ensures ready.text) new.bytes new.nothing (search rules)

pub returns-in-Err : goal.returns-in-Err
returns-in-Err c =
    let lent = c.requires in
    let pair = ap₂ (λ n v. line (n ∷ v ∷ [])) (c.from.ensures ∙ c.number.ensures) c.value.ensures in
    let text = pair ∙ refusal lent (rw c.in-Err.is at c.read.ensures) in
    let room = line-few c.from.result (c.value.result ∷ []) in
    let new = c.new-lent.ensures in
    reported (omega (arith, lent.output, ap length text)) (omega arith) (did_as c.put_pair.ensures text) new.bytes new.nothing (search rules)
