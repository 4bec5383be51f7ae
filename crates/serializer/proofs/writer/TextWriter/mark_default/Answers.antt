-- `TextWriter::mark_default` meets its contract.
use Rattle.syntax.specs.Serializer.{if}
use Rattle.serializer.proofs.Pieces.{has_empty}
use Rattle.serializer.proofs.writer.TextWriter.mark_default.Goals as goal

pub star-requires : goal.star-requires
unfolding if
star-requires c = record { le_indent = c.requires.le_indent; room = rw c.if-default.true at c.requires.room }

pub returns-then-default : goal.returns-then-default
unfolding if
returns-then-default c = rw c.if-default.true c.star.ensures

pub returns-else-default : goal.returns-else-default
unfolding if
returns-else-default c = rw c.if-default.false has_empty
