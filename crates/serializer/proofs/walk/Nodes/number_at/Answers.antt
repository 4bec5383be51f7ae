-- `walk::Nodes::number_at` meets its contract.
use native.Mathlib.Omega.{arith}
use Rattle.tree.specs.Words.{kind_in}
use Rattle.tree.proofs.Sizes.{sizes}
use Rattle.tree.proofs.Words.{kind-word}
use Rattle.serializer.proofs.walk.Nodes.number_at.Goals as goal

pub overflow_add-result : goal.overflow_add-result
overflow_add-result c = omega (arith, sizes c.args.self.tree.now c.args.self.fit, c.requires)

pub offset_bounds-self-mark : goal.offset_bounds-self-mark
offset_bounds-self-mark c = omega (arith, sizes c.args.self.tree.now c.args.self.fit, c.requires)

pub bounds-self-mark : goal.bounds-self-mark
bounds-self-mark c = omega (arith, sizes c.args.self.tree.now c.args.self.fit, c.requires)

pub returns : goal.returns
unfolding kind_in
returns c = let a = c.args in kind-word a.self.tree.now (sizes a.self.tree.now c.args.self.fit) a.mark c.requires
