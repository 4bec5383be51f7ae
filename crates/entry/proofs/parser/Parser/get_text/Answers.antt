-- `parser::Parser::get_text` meets its contract.
use mathlib.Core.Path.{refl}
use Rattle.entry.proofs.TextTurns.{text-next, text-bad}
use Rattle.entry.proofs.parser.Parser.get_text.Goals as goal

pub returns-in-Ok-clause-reads : goal.returns-in-Ok-clause-reads
returns-in-Ok-clause-reads c = text-next c.requires c.in-Ok.slice (rw c.in-Ok.is at c.get_text_slice.ensures) c.with_text.ensures.reads

pub returns-in-Err-clause-reads : goal.returns-in-Err-clause-reads
returns-in-Err-clause-reads c =
    rw c.error.ensures
    (text-bad c.requires c.in-Err.length (rw c.in-Err.is at c.get_text_slice.ensures)
    (record { bytes = refl; tree = record { words = refl; capacity = refl } }) refl refl refl)
