-- `marks::Marks::text` meets its contract.
use mathlib.Core.Path.{refl}
use Rattle.entry.proofs.Steps.{step_then}
use Rattle.entry.proofs.marks.Marks.text.Goals as goal

pub returns : goal.returns
returns c =
    record {
      same = record { words = refl; capacity = refl };
      count = refl;
      step = rw (← c.closing.ensures, ← c.number.ensures) (step_then c.store.ensures refl c.store-2.ensures);
    }
