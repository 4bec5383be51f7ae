-- `TextWriter::write_comment_line` meets its contract.
use Rattle.std.proofs.Common.{sym, ◌∙◌}
use Rattle.serializer.specs.Writer.{place_of}
use Rattle.serializer.proofs.Pieces.{room-first, line-room, line-blank, line-full}
use Rattle.serializer.proofs.Ways.{writing, writes_on, written}
use Rattle.serializer.proofs.writer.TextWriter.write_comment_line.Goals as goal

pub write_literal-requires : goal.write_literal-requires
write_literal-requires c = line-room (place_of c.args.self.now) c.args.prefix.now c.args.line.now c.requires

pub newline-requires : goal.newline-requires
newline-requires c =
    let e = sym c.is_blank_line.ensures ∙ c.if-is_blank_line.true in
    let g = writing c.args.output.now c.args.self.now (line-blank c.args.prefix.now c.args.line.now e) c.requires in
    room-first (writes_on g c.write_literal.ensures).pieces

pub returns-then-is_blank_line : goal.returns-then-is_blank_line
returns-then-is_blank_line c =
    let e = sym c.is_blank_line.ensures ∙ c.if-is_blank_line.true in
    let g = writing c.args.output.now c.args.self.now (line-blank c.args.prefix.now c.args.line.now e) c.requires in
    written (writes_on (writes_on g c.write_literal.ensures) c.newline.ensures)

pub write_literal-requires-2 : goal.write_literal-requires-2
write_literal-requires-2 c =
    let e = sym c.is_blank_line.ensures ∙ c.if-is_blank_line.false in
    let g = writing c.args.output.now c.args.self.now (line-full c.args.prefix.now c.args.line.now e) c.requires in
    room-first (writes_on g c.write_literal.ensures).pieces

pub write_literal-requires-3 : goal.write_literal-requires-3
write_literal-requires-3 c =
    let e = sym c.is_blank_line.ensures ∙ c.if-is_blank_line.false in
    let g = writing c.args.output.now c.args.self.now (line-full c.args.prefix.now c.args.line.now e) c.requires in
    room-first (writes_on (writes_on g c.write_literal.ensures) c.write_literal-2.ensures).pieces

pub newline-requires-2 : goal.newline-requires-2
newline-requires-2 c =
    let e = sym c.is_blank_line.ensures ∙ c.if-is_blank_line.false in
    let g = writing c.args.output.now c.args.self.now (line-full c.args.prefix.now c.args.line.now e) c.requires in
    room-first (writes_on (writes_on (writes_on g c.write_literal.ensures) c.write_literal-2.ensures) c.write_literal-3.ensures).pieces

pub returns : goal.returns
returns c =
    let e = sym c.is_blank_line.ensures ∙ c.if-is_blank_line.false in
    let g = writing c.args.output.now c.args.self.now (line-full c.args.prefix.now c.args.line.now e) c.requires in
    written
    (writes_on
    (writes_on (writes_on (writes_on g c.write_literal.ensures) c.write_literal-2.ensures) c.write_literal-3.ensures)
    c.newline-2.ensures)
