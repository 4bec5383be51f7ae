-- `TextWriter::newline_after_entry` meets its contract.
use Rattle.syntax.specs.Serializer.{if}
use Rattle.serializer.proofs.Pieces.{has_empty}
use Rattle.serializer.proofs.writer.TextWriter.newline_after_entry.Goals as goal

pub newline-requires : goal.newline-requires
unfolding if
newline-requires c = rw c.if-wrote_non_junk_entry.true at c.requires

pub returns-then-wrote_non_junk_entry : goal.returns-then-wrote_non_junk_entry
unfolding if
returns-then-wrote_non_junk_entry c = rw c.if-wrote_non_junk_entry.true c.newline.ensures

pub returns-else-wrote_non_junk_entry : goal.returns-else-wrote_non_junk_entry
unfolding if
returns-else-wrote_non_junk_entry c = rw c.if-wrote_non_junk_entry.false has_empty
