-- `Serializer::serialize_resource` meets its contract: in the loop, with the entries that are left the file is written.
use Rattle.std.proofs.Common.{◌-◌}
use Rattle.serializer.specs.Serialize.{state_of, output_of}
use Rattle.serializer.proofs.TopLevel.{Entries}
use Rattle.serializer.proofs.Loops.{Carried}
use Rattle.serializer.proofs.serializer.Serializer.serialize_resource.Given as goal

abbrev pub invariant-loop-self : goal.invariant-loop-self
invariant-loop-self l =
    let s = l.initial.self in
    Carried s l.self
    × Entries s.nodes.source.now s.nodes.tree.now l.with_junk (output_of s) (output_of l.self) (state_of l.self) l.wrote_non_junk_entry

abbrev pub decreases-loop-self : goal.decreases-loop-self
decreases-loop-self l = l.count - l.self.mark
