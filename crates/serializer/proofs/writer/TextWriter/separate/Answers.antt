-- `TextWriter::separate` meets its contract.
use Rattle.syntax.specs.Serializer.{if}
use Rattle.serializer.proofs.Pieces.{has_empty}
use Rattle.serializer.proofs.writer.TextWriter.separate.Goals as goal

pub write_literal-requires : goal.write_literal-requires
unfolding if
write_literal-requires c = rw c.if-argument_written.true at c.requires

pub returns-then-argument_written : goal.returns-then-argument_written
unfolding if
returns-then-argument_written c = rw c.if-argument_written.true c.write_literal.ensures

pub returns-else-argument_written : goal.returns-else-argument_written
unfolding if
returns-else-argument_written c = rw c.if-argument_written.false has_empty
