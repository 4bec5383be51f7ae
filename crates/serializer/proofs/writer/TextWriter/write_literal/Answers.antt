-- `TextWriter::write_literal` meets its contract: the indent where a line begins, and then the bytes.
use Rattle.serializer.specs.Writer.{place_of}
use Rattle.serializer.proofs.Pieces.{room-line, room-literal, has-literal}
use Rattle.serializer.proofs.writer.TextWriter.write_literal.Goals as goal

pub begin_line-requires : goal.begin_line-requires
begin_line-requires c = room-line (place_of c.args.self.now) c.args.item.now c.requires

pub write_bytes-requires : goal.write_bytes-requires
write_bytes-requires c = room-literal (place_of c.args.self.now) c.args.item.now c.begin_line.ensures.wrote c.requires

pub returns : goal.returns
returns c = has-literal c.args.item.now c.begin_line.ensures c.write_bytes.ensures
