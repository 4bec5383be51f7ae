-- `Nodes::after_element` meets its contract.
use native.Mathlib.Omega.{arith}
use mathlib.Core.Path.{sym, ◌∙◌}
use Rattle.syntax.specs.Kind as Kind
use Rattle.tree.proofs.Sizes.{sizes}
use Rattle.tree.proofs.Walk.{at_count, at-kind, text-after}
use Rattle.tree.proofs.Words.{after-word}
use Rattle.serializer.proofs.Numbers.{is}
use Rattle.serializer.proofs.walk.Nodes.after_element.Goals as goal

pub is_at-requires : goal.is_at-requires
is_at-requires c =
    let a = c.args in
    (at_count a.self.tree.now (sizes a.self.tree.now c.args.self.fit) c.requires.at)

pub overflow_add-result : goal.overflow_add-result
overflow_add-result c =
    let a = c.args in
    let fit = sizes a.self.tree.now c.args.self.fit in omega (arith, fit, at_count a.self.tree.now fit c.requires.at)

pub returns-then-is_at : goal.returns-then-is_at
unfolding Kind.is_text
returns-then-is_at c =
    sym
    (text-after c.requires.at
    (rw (sym (at-kind c.requires.at) ∙ is c.is_at.ensures c.if-is_at.true)))

pub returns : goal.returns
returns c =
    let a = c.args in c.after_node.ensures ∙ after-word a.self.tree.now (sizes a.self.tree.now c.args.self.fit) c.requires.at
