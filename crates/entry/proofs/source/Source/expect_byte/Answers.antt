-- `source::Source::expect_byte` meets its contract.
use mathlib.Core.Path.{refl}
use native.Mathlib.Omega.{arith}
use Rattle.entry.proofs.Tests.{by}
use borrow.Author.Tests.{not-true, not-false}
use Rattle.entry.proofs.Places.{expect-yes, expect-no}
use Rattle.entry.proofs.Moves.{finds, finds-fail}
use Rattle.entry.proofs.source.Source.expect_byte.Goals as goal

pub returns-then-not-is_current_byte : goal.returns-then-not-is_current_byte
returns-then-not-is_current_byte c =
    finds-fail _ _ (expect-no _ _ (by c.is_current_byte.ensures.is (not-true _ c.if-not-is_current_byte.true-raw))) refl c.error.ensures

pub returns : goal.returns
returns c =
    let r = not-false _ c.if-not-is_current_byte.false-raw in
    let l = c.is_current_byte.ensures.here r in
    finds refl (expect-yes _ _ (by c.is_current_byte.ensures.is r)) refl (omega arith)
