-- `Serializer::serialize_attributes` meets its contract: in the loop, with the attributes that are left all are written.
use Rattle.std.proofs.Common.{◌+◌, [], ◌∷◌, refl, sym, ap, ◌∙◌, arith}
use Rattle.syntax.specs.Kind as Kind
use Rattle.syntax.specs.Serializer.{attribute}
use Rattle.tree.specs.Walk.{after}
use Rattle.tree.proofs.Sizes.{sizes}
use Rattle.tree.proofs.Walk.{inside-count}
use Rattle.serializer.specs.Serialize.{state_of, output_of}
use Rattle.serializer.proofs.Messages.{attributes-first, attribute-next, attributes-done, attributes-wrote}
use Rattle.serializer.proofs.Loops.{carried-kind, carried-mark, carried-ready, carried-did, carried-on, done-with}
use Rattle.serializer.proofs.Numbers.{is, other}
use Rattle.serializer.proofs.serializer.Serializer.serialize_attributes.Goals as goal

pub indent-requires : goal.indent-requires
indent-requires c =
    let tree = c.args.self.now.nodes.tree.now in
    let fit = sizes tree c.args.self.now.nodes.fit in omega (arith, fit, c.requires.shallow, inside-count tree fit c.requires.here)

pub loop-self-init : goal.loop-self-init
loop-self-init c =
    let s = c.args.self.now in
    rw c.indent.ensures
    (record { same_reference = refl; is = refl }, attributes-first s.nodes.source.now s.nodes.tree.now (output_of s) (state_of s) c.requires)

pub is_at-requires : goal.is_at-requires
is_at-requires c =
    let tree = c.args.self.now.nodes.tree.now in
    let r = c.loop-self.invariant in
    let k = carried-mark r.0 (inside-count tree (sizes tree c.args.self.now.nodes.fit) r.1.here) in
    k

pub serialize_attribute-requires : goal.serialize_attribute-requires
serialize_attribute-requires c =
    let s = c.args.self.now in
    let r = c.loop-self.invariant in
    let e = sym (carried-kind r.0) ∙ is c.is_at.ensures c.loop-self-test.true in
    carried-ready r.0 (Kind.attribute ∷ []) attribute ((attribute-next s.nodes.source.now s.nodes.tree.now r.1 e).ready)

pub loop-self-smaller : goal.loop-self-smaller
unfolding after
loop-self-smaller c =
    let tree = c.args.self.now.nodes.tree.now in
    omega (
      arith,
      c.serialize_attribute.ensures.went.next,
      inside-count tree (sizes tree c.args.self.now.nodes.fit) c.loop-self.invariant.1.here,
    )

pub loop-self-preserved : goal.loop-self-preserved
loop-self-preserved c =
    let s = c.args.self.now in
    let r = c.loop-self.invariant in
    let e = sym (carried-kind r.0) ∙ is c.is_at.ensures c.loop-self-test.true in
    let d = c.serialize_attribute.ensures in
    (carried-on r.0 d, (attribute-next s.nodes.source.now s.nodes.tree.now r.1 e).on _ _ (carried-did r.0 attribute d))

pub dedent-requires : goal.dedent-requires
dedent-requires c =
    let s = c.args.self.now in
    let r = c.loop-self.invariant in
    let d =
    attributes-done s.nodes.source.now s.nodes.tree.now r.1 (λ e. other c.is_at.ensures c.loop-self-test.false (carried-kind r.0 ∙ e)) in
    omega (arith, d.wrote.level, ap (λ w. w.indent_level) c.indent.ensures)

pub overflow_add-self : goal.overflow_add-self
overflow_add-self c =
    let tree = c.args.self.now.nodes.tree.now in
    let fit = sizes tree c.args.self.now.nodes.fit in omega (arith, fit, inside-count tree fit c.loop-self.invariant.1.here)

pub returns : goal.returns
returns c =
    let s = c.args.self.now in
    let r = rw c.indent.ensures at c.loop-self.invariant in
    let d =
    attributes-done s.nodes.source.now s.nodes.tree.now r.1 (λ e. other c.is_at.ensures c.loop-self-test.false (carried-kind r.0 ∙ e)) in
    rw c.dedent.ensures
    (done-with (record { same_reference = r.0.same_reference; is = r.0.is })
    (attributes-wrote s.nodes.source.now s.nodes.tree.now s.mark d.wrote) (ap (λ m. m + 1) d.end))
