-- `Serializer::serialize_attributes` meets its contract: in the loop, with the attributes that are left all are written.
use Rattle.std.proofs.Common.{◌-◌}
use Rattle.syntax.specs.Layout.{count}
use Rattle.serializer.specs.Writer.{place_of}
use Rattle.serializer.specs.Serialize.{state_of, output_of}
use Rattle.serializer.proofs.Messages.{Attributes}
use Rattle.serializer.proofs.Loops.{Carried}
use Rattle.serializer.proofs.serializer.Serializer.serialize_attributes.Given as goal

abbrev pub invariant-loop-self : goal.invariant-loop-self
invariant-loop-self l =
    let s = l.initial.self in
    Carried s l.self
    × Attributes s.nodes.source.now s.nodes.tree.now (output_of s) (output_of l.self) (place_of s.writer) s.mark (state_of l.self)

abbrev pub decreases-loop-self : goal.decreases-loop-self
decreases-loop-self l = count l.initial.self.nodes.tree.now - l.self.mark
