-- `TextWriter::star` meets its contract.
use Rattle.std.proofs.Common.{◌*◌, refl, arith}
use lib.ListN.{length-replicate}
use Rattle.syntax.specs.Byte as Byte
use Rattle.syntax.specs.Serializer.{indent_width}
use Rattle.serializer.specs.Writer.{place_of}
use Rattle.serializer.proofs.Pieces.{room-star, wrote-star}
use Rattle.serializer.proofs.writer.TextWriter.star.Goals as goal

pub write_indent-requires : goal.write_indent-requires
write_indent-requires c = room-star (place_of c.args.self.now) c.requires.le_indent c.requires.room

pub write_bytes-requires : goal.write_bytes-requires
write_bytes-requires c =
    omega (
      arith,
      c.requires.le_indent,
      room-star (place_of c.args.self.now) c.requires.le_indent c.requires.room,
      c.write_indent.ensures.wrote.end,
      length-replicate (indent_width * c.args.self.now.indent_level) Byte.space,
    )

pub returns : goal.returns
returns c =
    record {
      wrote =
          wrote-star (place_of c.args.self.now) c.requires.le_indent c.write_indent.ensures.wrote refl refl c.write_bytes.ensures.wrote;
    }
