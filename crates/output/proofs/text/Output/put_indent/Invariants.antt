-- `Output::put_indent` meets its contract: in the loop the levels so far have been stored.
use Rattle.std.proofs.Common.{◌+◌, ◌*◌, ◌≡◌, replicate}
use Rattle.std.proofs.lemmas.List.Edits.{sets}
use Rattle.syntax.specs.Byte as Byte
use Rattle.syntax.specs.Serializer.{indent_width}
use Rattle.output.proofs.text.Output.put_indent.Given as goal

abbrev pub invariant-loop : goal.invariant-loop
invariant-loop l =
    (l.self.bytes.ghost_name ≡ l.initial.self.bytes.ghost_name) × (l.self.at ≡ l.initial.self.at + indent_width * l.counter) × (l.self.bytes.now ≡ sets l.initial.self.bytes.now l.initial.self.at (replicate (indent_width * l.counter) Byte.space))
