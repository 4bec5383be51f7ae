-- `Nodes::is_multiline` meets its contract: in the loop, the elements so far take a line each.
use Prim.Native.Nat.{◌<◌}
use native.Mathlib.Omega.{arith}
use mathlib.Core.Path.{refl, sym, ap, ◌∙◌}
use Rattle.syntax.specs.Kind as Kind
use Rattle.syntax.specs.Layout.{marks_in}
use Rattle.syntax.specs.Serializer.{nodes, is_multiline}
use Rattle.tree.specs.Walk.{kind_at, after}
use Rattle.tree.proofs.Sizes.{sizes}
use Rattle.tree.proofs.Walk.{at_count, inside-count, enter}
use Rattle.serializer.proofs.Patterns.{element-next, multiline-first, multiline-later, multiline-none}
use Rattle.serializer.proofs.Numbers.{starts, ends}
use Rattle.serializer.proofs.walk.Nodes.is_multiline.Goals as goal

pub overflow_add-next : goal.overflow_add-next
overflow_add-next c =
    omega (
      arith,
      sizes c.args.self.tree.now c.args.self.fit,
      at_count c.args.self.tree.now (sizes c.args.self.tree.now c.args.self.fit) c.requires,
    )

pub loop-self-init : goal.loop-self-init
unfolding Kind.is_text
loop-self-init c =
    let m = enter c.requires refl in (
      record { state = 0; least = omega arith; here = m.first },
      ap (λ ns. is_multiline c.args.self.source.now (nodes ns)) (sym m.inner),
    )

pub is_open-requires : goal.is_open-requires
is_open-requires c =
    (inside-count c.args.self.tree.now (sizes c.args.self.tree.now c.args.self.fit) c.loop-self.invariant.0.here)

pub is_multiline_element-requires : goal.is_multiline_element-requires
is_multiline_element-requires c =
    ((element-next c.loop-self.invariant.0 (starts c.is_open.ensures c.loop-self-test.true)).follows.child)

pub returns-then-is_multiline_element : goal.returns-then-is_multiline_element
returns-then-is_multiline_element c =
    sym
    (c.loop-self.invariant.1
    ∙ multiline-first c.loop-self.invariant.0 c.args.self.source.now
    (starts c.is_open.ensures c.loop-self-test.true)
    (sym c.is_multiline_element.ensures ∙ c.if-is_multiline_element.true))

pub after_element-next-requires : goal.after_element-next-requires
after_element-next-requires c =
    let e =
    (element-next c.loop-self.invariant.0 (starts c.is_open.ensures c.loop-self-test.true)).follows.child in
    (record { boundary = _; kind = e.kind; at = e.at })

pub loop-self-smaller : goal.loop-self-smaller
unfolding after
loop-self-smaller c =
    let tree = c.args.self.tree.now in
    let fit = sizes tree c.args.self.fit in
    omega (arith, inside-count tree fit c.loop-self.invariant.0.here, c.after_element-next.ensures)

pub loop-self-preserved : goal.loop-self-preserved
loop-self-preserved c =
    let source = c.args.self.source.now in
    let tree = c.args.self.tree.now in
    let l : kind_at (marks_in tree) c.loop-self.next < Kind.closing 0 =
    starts c.is_open.ensures c.loop-self-test.true in
    let g = element-next c.loop-self.invariant.0 l in
    rw c.after_element-next.ensures (
      record { state = g.state; least = g.least; here = g.follows.on },
      c.loop-self.invariant.1
          ∙ multiline-later c.loop-self.invariant.0 source l
          (sym c.is_multiline_element.ensures ∙ c.if-is_multiline_element.false),
    )

pub returns : goal.returns
returns c =
    sym
    (c.loop-self.invariant.1
    ∙ multiline-none c.loop-self.invariant.0 c.args.self.source.now
    (ends c.is_open.ensures c.loop-self-test.false))
