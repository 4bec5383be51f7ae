-- `border::is_readable` meets its contract, test by test.
use Rattle.std.specs.Prelude.{leb}
use mathlib.Core.Path.{ap}
use native.Mathlib.Omega.{arith}
use borrow.Author.Tests.{le-leb, lt-leb}
use Rattle.entry.specs.Border.{readable}
use Rattle.entry.proofs.border.is_readable.Goals as goal

pub returns-then-n-at : goal.returns-then-n-at
unfolding readable
returns-then-n-at c =
    rw (le-leb _ _ c.if-length-le-MAX_LENGTH.true, le-leb _ _ c.if-at-length.true, le-leb _ _ c.if-n-at.true)
    (ap (λ i. leb i c.args.words) (omega (arith, c.tree_words.ensures, c.if-length-le-MAX_LENGTH.true)))

pub returns-else-n-at : goal.returns-else-n-at
unfolding readable
returns-else-n-at c =
    rw (le-leb _ _ c.if-length-le-MAX_LENGTH.true, le-leb _ _ c.if-at-length.true, lt-leb _ _ c.if-n-at.false)

pub returns-else-at-length : goal.returns-else-at-length
unfolding readable
returns-else-at-length c = rw (le-leb _ _ c.if-length-le-MAX_LENGTH.true, lt-leb _ _ c.if-at-length.false)

pub returns-else-length-le-MAX_LENGTH : goal.returns-else-length-le-MAX_LENGTH
unfolding readable
returns-else-length-le-MAX_LENGTH c = rw (lt-leb _ _ c.if-length-le-MAX_LENGTH.false)
