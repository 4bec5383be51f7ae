-- `marks::text_at` meets its contract.
use Rattle.tree.specs.Words.{text_in}
use Rattle.tree.proofs.Words.{between-held, no_text}
use Rattle.tree.proofs.marks.text_at.Goals as goal

pub returns-then-tree-mark : goal.returns-then-tree-mark
returns-then-tree-mark c = no_text _ _ _ c.if-tree-mark.true

pub returns : goal.returns
unfolding text_in
returns c =
    between-held _ _ _ _ _ (rw c.place_at.ensures at c.min-end.ensures) (rw c.place_at-2.ensures at c.min-start.ensures)
