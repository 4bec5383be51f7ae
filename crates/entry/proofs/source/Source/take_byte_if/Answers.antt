-- `source::Source::take_byte_if` meets its contract.
use mathlib.Core.Path.{refl}
use native.Mathlib.Omega.{arith}
use Rattle.entry.proofs.Tests.{by}
use Rattle.entry.proofs.Places.{take-yes, take_no}
use Rattle.entry.proofs.Moves.{goes}
use Rattle.entry.proofs.source.Source.take_byte_if.Goals as goal

pub returns-then-is_current_byte : goal.returns-then-is_current_byte
returns-then-is_current_byte c =
    let l = c.is_current_byte.ensures.here c.if-is_current_byte.true in
    let q = by c.is_current_byte.ensures.is c.if-is_current_byte.true in
    goes refl (rw q at (take-yes _ _ q)) refl (omega arith)

pub returns-else-is_current_byte : goal.returns-else-is_current_byte
returns-else-is_current_byte c =
    let q = by c.is_current_byte.ensures.is c.if-is_current_byte.false in
    goes refl (rw q at (take_no _ _ q)) (omega arith) c.args.self.now.inside
