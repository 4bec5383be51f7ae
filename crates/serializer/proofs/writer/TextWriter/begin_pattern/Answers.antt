-- `TextWriter::begin_pattern` meets its contract.
use Rattle.std.proofs.Common.{refl, add-zero}
use Rattle.serializer.specs.Writer.{place_of}
use Rattle.serializer.specs.Serialize.{pattern_start}
use Rattle.serializer.proofs.writer.TextWriter.begin_pattern.Goals as goal

pub newline-requires : goal.newline-requires
unfolding pattern_start
newline-requires c = rw c.if-start_on_newline.true at c.requires.room

pub returns-then-start_on_newline : goal.returns-then-start_on_newline
unfolding pattern_start
returns-then-start_on_newline c =
    rw (c.if-start_on_newline.true, c.indent.ensures)
    (record {
      line = place_of c.newline.new.self;
      wrote = c.newline.ensures.wrote;
      raised = refl;
    })

pub write_literal-requires : goal.write_literal-requires
unfolding pattern_start
write_literal-requires c = rw c.if-start_on_newline.false at c.requires.room

pub returns : goal.returns
unfolding pattern_start
returns c =
    rw c.if-start_on_newline.false
    (record {
      line = place_of c.write_literal.new.self;
      wrote = c.write_literal.ensures.wrote;
      raised = rw (add-zero c.write_literal.new.self.indent_level) refl;
    })
