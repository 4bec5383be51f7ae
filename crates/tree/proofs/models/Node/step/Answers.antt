-- `models::Node::step` meets its contract: the byte of the table is read.
use Rattle.tree.proofs.Table.{step-none, step-text, step-node}
use Rattle.tree.proofs.models.Node.step.Goals as goal

pub returns-then-next-eq45 : goal.returns-then-next-eq45
returns-then-next-eq45 c =
    step-none _ c.models.ensures c.args.self.kind c.args.child c.requires c.index.ensures c.number.ensures c.if-next-eq45.true

pub returns-then-next-lt97 : goal.returns-then-next-lt97
returns-then-next-lt97 c =
    (step-text _ c.models.ensures c.args.self.kind c.args.child c.requires c.index.ensures c.number.ensures c.if-next-eq45.false
    c.if-next-lt97.true).1

pub overflow_sub-result : goal.overflow_sub-result
overflow_sub-result c =
    (step-text _ c.models.ensures c.args.self.kind c.args.child c.requires c.index.ensures c.number.ensures c.if-next-eq45.false
    c.if-next-lt97.true).0

pub returns-else-next-lt97 : goal.returns-else-next-lt97
returns-else-next-lt97 c =
    step-node _ c.models.ensures c.args.self.kind c.args.child c.requires c.index.ensures c.number.ensures c.if-next-lt97.false
