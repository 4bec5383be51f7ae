-- `marks::kind_at` meets its contract.
use borrow.Author.Rules.{rules}
use Rattle.tree.specs.Words.{kind_in}
use Rattle.tree.proofs.marks.kind_at.Goals as goal

pub returns : goal.returns
unfolding kind_in
returns c = c.word_at.ensures
