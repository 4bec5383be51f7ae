-- `TextWriter::begin_line` meets its contract.
use Rattle.std.proofs.Common.{◌*◌, length, replicate, sym, ap, ◌∙◌, arith, []}
use mathlib.Core.List.{append-nil}
use lib.ListN.{length-append, length-replicate}
use Rattle.syntax.specs.Byte as Byte
use Rattle.syntax.specs.Serializer.{indent_width, literal}
use Rattle.serializer.specs.Writer.{place_of}
use Rattle.serializer.proofs.Pieces.{has_nothing, has_as, literal-indented, literal-plain}
use Rattle.serializer.proofs.writer.TextWriter.begin_line.Goals as goal

pub write_indent-requires : goal.write_indent-requires
write_indent-requires c =
    let w = c.args.self.now in
    let n = indent_width * w.indent_level in
    omega (
      arith,
      ap length (literal-indented (place_of w) [] c.if-self-eq10.true) ∙ length-append (replicate n Byte.space) [],
      length-replicate n Byte.space,
      c.requires,
    )

pub returns-then-self-eq10 : goal.returns-then-self-eq10
returns-then-self-eq10 c =
    let w = c.args.self.now in
    has_as (literal [])
    (sym (literal-indented (place_of w) [] c.if-self-eq10.true ∙ append-nil (replicate (indent_width * w.indent_level) Byte.space)))
    c.write_indent.ensures

pub returns-else-self-eq10 : goal.returns-else-self-eq10
returns-else-self-eq10 c = has_nothing (literal-plain (place_of c.args.self.now) [] c.if-self-eq10.false)
