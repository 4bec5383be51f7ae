-- `source::Source::skip_number` meets its contract.
use Rattle.std.specs.Prelude.{◌≡◌, Err}
use Rattle.std.proofs.Common.{rules}
use mathlib.Core.Path.{refl}
use native.Mathlib.Omega.{arith}
use Rattle.syntax.specs.Reader.{pure}
use Rattle.syntax.specs.Helper.{number, fraction}
use Rattle.entry.proofs.Moves.{finds, goes-then, goes-bind, finds-then, stop-then}
use Rattle.entry.proofs.source.Source.skip_number.Goals as goal

pub returns-in_err-skip_digits : goal.returns-in_err-skip_digits
unfolding number
returns-in_err-skip_digits c =
    let e : c.from_residual.result ≡ Err c.in_err-skip_digits.field-0.0 = search rules in
    rw e (goes-then _ _ c.take_byte_if.ensures (stop-then _ _ c.in_err-skip_digits.ensures))

pub returns-in_err-skip_digits-2 : goal.returns-in_err-skip_digits-2
unfolding number fraction
returns-in_err-skip_digits-2 c =
    let e : c.from_residual-in_err-skip_digits-2.result ≡ Err c.in_err-skip_digits-2.field-0.0 = search rules in
    rw e
    (goes-then _ _ c.take_byte_if.ensures
    (finds-then _ _ c.in_ok-skip_digits.ensures
    (goes-bind _ _ (rw c.if-take_byte_if.true at c.take_byte_if-2.ensures) c.in_err-skip_digits-2.ensures)))

pub returns-in_ok-skip_digits-2 : goal.returns-in_ok-skip_digits-2
unfolding number fraction
returns-in_ok-skip_digits-2 c =
    goes-then _ _ c.take_byte_if.ensures
    (finds-then _ _ c.in_ok-skip_digits.ensures
    (goes-bind _ _ (rw c.if-take_byte_if.true at c.take_byte_if-2.ensures) c.in_ok-skip_digits-2.ensures))

pub returns-else-take_byte_if : goal.returns-else-take_byte_if
unfolding number fraction pure
returns-else-take_byte_if c =
    goes-then _ _ c.take_byte_if.ensures
    (finds-then _ _ c.in_ok-skip_digits.ensures
    (goes-bind _ _ (rw c.if-take_byte_if.false at c.take_byte_if-2.ensures)
    (finds refl refl (omega arith) c.take_byte_if-2.new.self.inside)))
