-- `TextWriter::newline` meets its contract.
use Rattle.std.proofs.Common.{length, sym, ap, arith, [], ◌∷◌}
use Rattle.syntax.specs.Byte as Byte
use Rattle.syntax.specs.Serializer.{◌⊕◌, newline}
use Rattle.serializer.specs.Writer.{bytes, place_of}
use Rattle.serializer.proofs.Pieces.{has_as, has_then, newline-doubled, newline-alone}
use Rattle.serializer.proofs.writer.TextWriter.newline.Goals as goal
use Rattle.serializer.proofs.writer.TextWriter.newline.Goals.{then-self-eq13, else-self-eq13}

pub write_bytes-requires : goal.write_bytes-requires
write_bytes-requires c = omega (arith, ap length (newline-doubled (place_of c.args.self.now) c.if-self-eq13.true), c.requires)

pub write_bytes-requires-2 : goal.write_bytes-requires-2
write_bytes-requires-2 c =
    let w = place_of c.args.self.now in
    elim c.if-self-eq13.branch [
      | then-self-eq13 b ↦
          omega (
            arith,
            ap length (newline-doubled w b.if-self-eq13.true),
            c.requires,
            b.write_bytes.ensures.wrote.end,
            ap (λ z. z.at) b.self-is,
          )
      | else-self-eq13 b ↦
          omega (arith, ap length (newline-alone w b.if-self-eq13.false), c.requires, ap (λ z. z.at) b.self-is)
    ]

pub returns : goal.returns
unfolding ◌⊕◌
returns c =
    let w = place_of c.args.self.now in
    let end = bytes (Byte.line_feed ∷ []) in
    elim c.if-self-eq13.branch [
      | then-self-eq13 b ↦
          has_as newline (sym (newline-doubled w b.if-self-eq13.true))
          (has_then b.write_bytes.ensures end (rw (b.self-is, b.output-is) at c.write_bytes-2.ensures))
      | else-self-eq13 b ↦ has_as newline (sym (newline-alone w b.if-self-eq13.false)) (rw (b.self-is, b.output-is) at c.write_bytes-2.ensures)
    ]
