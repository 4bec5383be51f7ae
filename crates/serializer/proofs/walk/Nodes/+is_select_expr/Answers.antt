-- `Nodes::is_select_expr` meets its contract: the marks that are left to look at fall.
use native.Mathlib.Omega.{arith}
use mathlib.Core.Path.{sym, ◌∙◌}
use Rattle.tree.proofs.Sizes.{sizes}
use Rattle.tree.proofs.Walk.{at_count, at-kind}
use Rattle.serializer.proofs.Numbers.{is, other}
use Rattle.serializer.proofs.Patterns.{select-here, select-within, select-other}
use Rattle.serializer.proofs.walk.Nodes.+is_select_expr.Goals as goal

pub is_at-requires : goal.is_at-requires
is_at-requires t c =
    (at_count c.args.self.tree.now (sizes c.args.self.tree.now c.args.self.fit) c.requires.at)

pub is_at-requires-else-is_at : goal.is_at-requires-else-is_at
is_at-requires-else-is_at t c =
    (at_count c.args.self.tree.now (sizes c.args.self.tree.now c.args.self.fit) c.requires.at)

pub overflow_add-mark : goal.overflow_add-mark
overflow_add-mark t c =
    omega (
      arith,
      (sizes c.args.self.tree.now c.args.self.fit),
      at_count c.args.self.tree.now (sizes c.args.self.tree.now c.args.self.fit) c.requires.at,
    )

pub is_select_expr-requires : goal.is_select_expr-requires
is_select_expr-requires t c =
    let a = c.requires.at in (
      omega (arith, c.decreases, at_count c.args.self.tree.now (sizes c.args.self.tree.now c.args.self.fit) a),
      (select-within a (sym (at-kind a) ∙ is c.is_at-else-is_at.ensures c.if-is_at-2.true)).there,
    )

pub returns-then-is_at : goal.returns-then-is_at
returns-then-is_at t c =
    let a = c.requires.at in rw c.if-is_at.true (select-here a (sym (at-kind a) ∙ is c.is_at.ensures c.if-is_at.true))

pub returns-then-is_at-2 : goal.returns-then-is_at-2
returns-then-is_at-2 t c =
    let a = c.requires.at in
    (select-within a (sym (at-kind a) ∙ is c.is_at-else-is_at.ensures c.if-is_at-2.true)).same
    c.is_select_expr.result c.is_select_expr.ensures

pub returns-else-is_at-2 : goal.returns-else-is_at-2
returns-else-is_at-2 t c =
    let a = c.requires.at in
    rw c.if-is_at-2.false
    (select-other a (λ e. other c.is_at.ensures c.if-is_at.false (at-kind a ∙ e))
    (λ e. other c.is_at-else-is_at.ensures c.if-is_at-2.false (at-kind a ∙ e)))
