-- `Nodes::is_multiline_element` meets its contract.
use native.Mathlib.Omega.{arith}
use mathlib.Core.Path.{sym, ap, ◌∙◌}
use mathlib.Core.Bool.{true, false}
use mathlib.Core.List.{[]}
use Rattle.syntax.specs.Serializer.{has_newline}
use Rattle.tree.proofs.Sizes.{sizes}
use Rattle.tree.proofs.Walk.{at_count, at-kind}
use Rattle.serializer.proofs.Patterns.{element-text, multiline-text, multiline-placeable}
use Rattle.serializer.proofs.Patterns.{select-here, select-within, select-other}
use Rattle.serializer.proofs.Numbers.{is, other}
use Rattle.serializer.proofs.walk.Nodes.is_multiline_element.Goals as goal

pub is_at-requires : goal.is_at-requires
is_at-requires c =
    let t = c.args.self.tree.now in
    at_count t (sizes t c.args.self.fit) c.requires.at

pub text_at-text-requires : goal.text_at-text-requires
text_at-text-requires c =
    element-text c.requires (is c.is_at.ensures c.if-is_at.true)

pub returns-then-is_at : goal.returns-then-is_at
returns-then-is_at c =
    c.has_newline.ensures ∙ ap (λ t. has_newline [] t) c.text_at-text.ensures
    ∙ sym (multiline-text c.requires c.args.self.source.now (is c.is_at.ensures c.if-is_at.true))

pub overflow_add-inner : goal.overflow_add-inner
overflow_add-inner c =
    let t = c.args.self.tree.now in let fit = sizes t c.args.self.fit in omega (arith, fit, at_count t fit c.requires.at)

pub is_at-requires-2 : goal.is_at-requires-2
is_at-requires-2 c =
    let t = c.args.self.tree.now in
    let placed = multiline-placeable c.requires (other c.is_at.ensures c.if-is_at.false) in
    at_count t (sizes t c.args.self.fit) placed.there.at

pub is_at-requires-else-is_at-2 : goal.is_at-requires-else-is_at-2
is_at-requires-else-is_at-2 c =
    let t = c.args.self.tree.now in
    let placed = multiline-placeable c.requires (other c.is_at.ensures c.if-is_at.false) in
    (at_count t (sizes t c.args.self.fit) placed.there.at)

pub overflow_add-inner-then-is_at-3 : goal.overflow_add-inner-then-is_at-3
overflow_add-inner-then-is_at-3 c =
    let t = c.args.self.tree.now in let fit = sizes t c.args.self.fit in omega (arith, fit, at_count t fit c.requires.at)

pub is_select_expr-requires : goal.is_select_expr-requires
is_select_expr-requires c =
    let placed = multiline-placeable c.requires (other c.is_at.ensures c.if-is_at.false) in
    let a = placed.there.at in
    (select-within a (sym (at-kind a) ∙ is c.is_at-else-is_at-2.ensures c.if-is_at-3.true)).there

pub returns-then-is_at-2 : goal.returns-then-is_at-2
returns-then-is_at-2 c =
    let placed = multiline-placeable c.requires (other c.is_at.ensures c.if-is_at.false) in
    let a = placed.there.at in
    rw c.if-is_at-2.true
    (placed.same c.args.self.source.now true (select-here a (sym (at-kind a) ∙ is c.is_at-2.ensures c.if-is_at-2.true)))

pub returns-then-is_at-3 : goal.returns-then-is_at-3
returns-then-is_at-3 c =
    let placed = multiline-placeable c.requires (other c.is_at.ensures c.if-is_at.false) in
    let a = placed.there.at in
    let within = select-within a (sym (at-kind a) ∙ is c.is_at-else-is_at-2.ensures c.if-is_at-3.true) in
    placed.same c.args.self.source.now c.is_select_expr.result (within.same c.is_select_expr.result c.is_select_expr.ensures)

pub returns-else-is_at-3 : goal.returns-else-is_at-3
returns-else-is_at-3 c =
    let placed = multiline-placeable c.requires (other c.is_at.ensures c.if-is_at.false) in
    let a = placed.there.at in
    rw c.if-is_at-3.false
    (placed.same c.args.self.source.now false
    (select-other a (λ e. other c.is_at-2.ensures c.if-is_at-2.false (at-kind a ∙ e))
    (λ e. other c.is_at-else-is_at-2.ensures c.if-is_at-3.false (at-kind a ∙ e))))
