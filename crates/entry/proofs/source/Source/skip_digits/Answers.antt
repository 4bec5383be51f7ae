-- `source::Source::skip_digits` meets its contract.
use Rattle.std.proofs.Common.{rules}
use native.Mathlib.Omega.{arith}
use Rattle.syntax.specs.Bytes.{is_digit}
use mathlib.Core.Path.{refl}
use Rattle.entry.proofs.Run.{skips-run}
use Rattle.entry.proofs.Places.{digits-some, digits-none}
use Rattle.entry.proofs.Moves.{finds, finds-stay}
use Rattle.entry.proofs.source.Source.skip_digits.Goals as goal

pub returns-then-skip_while-eq0 : goal.returns-then-skip_while-eq0
unfolding is_digit
returns-then-skip_while-eq0 c =
    let h = c.skip_while.ensures in
    let p = skips-run is_digit (λ b r e. search rules) h in
    finds-stay _ _ h.bytes (omega (arith, h.end, c.if-skip_while-eq0.true)) (digits-none _ (omega (arith, p.1, c.if-skip_while-eq0.true))) refl c.error.ensures

pub returns : goal.returns
unfolding is_digit
returns c =
    let h = c.skip_while.ensures in
    let p = skips-run is_digit (λ b r e. search rules) h in
    finds h.bytes (digits-some _ (λ z. c.if-skip_while-eq0.false (omega (arith, z, p.1)))) p.0.end p.0.within
