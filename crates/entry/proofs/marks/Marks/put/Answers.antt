-- `marks::Marks::put` meets its contract.
use mathlib.Core.Path.{refl}
use Rattle.entry.proofs.marks.Marks.put.Goals as goal

pub returns : goal.returns
returns c = record { same = record { words = refl; capacity = refl }; count = refl; step = c.store.ensures }
