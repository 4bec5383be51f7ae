-- `serialize_with_options` meets its contract.
use Rattle.std.proofs.Common.{false, ap, subst, arith, rules}
use Rattle.syntax.specs.Layout.{marks_in}
use Rattle.syntax.specs.Serializer.{nodes, resource, serialize}
use Rattle.serializer.specs.Writer.{Place, place_of, Wrote}
use Rattle.serializer.proofs.Outcome.{stored_as}
use Rattle.serializer.proofs.resource.serialize_with_options.Goals as goal

pub returns : goal.returns
unfolding serialize
returns c =
    let e = c.new-serializer.ensures in
    let end = c.serialize_resource.new.self in
    let P : Place → Type 0 =
    λ z. Wrote c.args.output.now end.output.now z (place_of end.writer)
    (resource c.args.source.now c.args.with_junk false (nodes (marks_in c.args.tree.now))) in
    let w =
    subst P (ap (λ z. z.writer) e.begun) (rw (e.nodes, e.output) at c.serialize_resource.ensures.wrote.wrote) in
    record { stored = stored_as w.stored (search rules); length = omega (arith, w.end) }
