-- `TextWriter::write_indent` meets its contract.
use Rattle.std.proofs.Common.{◌*◌, replicate, ap, arith, rules}
use Rattle.syntax.specs.Byte as Byte
use Rattle.syntax.specs.Serializer.{indent_width}
use Rattle.serializer.proofs.Pieces.{has_nothing, has-spaces}
use Rattle.serializer.proofs.writer.TextWriter.write_indent.Goals as goal

pub returns-then-self-eq0 : goal.returns-then-self-eq0
returns-then-self-eq0 c =
    has_nothing (ap (λ n. replicate (indent_width * n) Byte.space) c.if-self-eq0.true)

pub returns : goal.returns
returns c = has-spaces (omega (arith, c.if-self-eq0.false)) c.requires c.put_indent.ensures (search rules)
