-- `models::Node::may_end` meets its contract: the last byte of a row of the table is read.
use Rattle.tree.proofs.Numbers.{parent_small}
use Rattle.tree.proofs.Table.{end_read}
use Rattle.tree.proofs.models.Node.may_end.Goals as goal

pub returns : goal.returns
returns c = rw c.index.ensures (end_read _ c.models.ensures _ _ (parent_small _) c.requires)
