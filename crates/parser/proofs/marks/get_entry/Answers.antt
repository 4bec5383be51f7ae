-- `marks::get_entry` meets its contract: an entry can be read, so one was.
use Rattle.parser.proofs.Granted.{can-read, is-read}
use Rattle.parser.proofs.marks.get_entry.Goals as goal

pub unwrap-requires : goal.unwrap-requires
unwrap-requires c = is-read _ _ _ _ _ _ _ (rw (can-read c.requires) at c.read_entry.ensures)
