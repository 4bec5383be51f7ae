-- `next::entry_at` meets its contract.
use Rattle.parser.proofs.Stops.{stoppable, entry_read}
use Rattle.parser.proofs.next.entry_at.Goals as goal

pub stopped_at-requires : goal.stopped_at-requires
stopped_at-requires c = stoppable _ _ c.requires.1 c.requires.0 _ c.get_entry-read.ensures.answers

pub returns : goal.returns
returns c = entry_read _ _ c.requires.1 _ c.get_entry-read.ensures c.stopped_at.ensures
