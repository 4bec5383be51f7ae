-- `junk::skip_to_next_entry_start` meets its contract: bytes passed until a line starts an entry.
use Rattle.parser.proofs.Seeks.{Seeking}
use Rattle.parser.proofs.junk.skip_to_next_entry_start.Given as goal

abbrev pub invariant-loop-end : goal.invariant-loop-end
invariant-loop-end l = Seeking l.source l.at l.end l.new_line
