-- `marks::place_at` meets its contract.
use Prim.Native.Nat.{◌+◌}
use native.Mathlib.Omega.{arith}
use Rattle.syntax.specs.Layout.{capacity}
use Rattle.tree.specs.Words.{place_in}
use Rattle.tree.proofs.Words.{no_word}
use Rattle.tree.proofs.marks.place_at.Goals as goal

pub returns-in_default : goal.returns-in_default
unfolding place_in
returns-in_default c = let a = c.args in no_word a.tree.now (2 + capacity a.tree.now + a.mark) (omega arith)

pub returns : goal.returns
unfolding place_in capacity
returns c = c.word_at.ensures
