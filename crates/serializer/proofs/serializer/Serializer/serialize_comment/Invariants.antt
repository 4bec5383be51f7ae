-- `Serializer::serialize_comment` meets its contract: in the loop, with the lines that are left the comment is written.
use Rattle.std.proofs.Common.{◌-◌}
use Rattle.syntax.specs.Layout.{count}
use Rattle.serializer.proofs.Loops.{CommentLoop}
use Rattle.serializer.proofs.serializer.Serializer.serialize_comment.Given as goal

abbrev pub invariant-loop-line : goal.invariant-loop-line
invariant-loop-line l = CommentLoop l.prefix l.initial.self l.self

abbrev pub decreases-loop-line : goal.decreases-loop-line
decreases-loop-line l = count l.initial.self.nodes.tree.now - l.self.mark
