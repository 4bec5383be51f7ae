-- `marks::Marks::insert` meets its contract.
use mathlib.Core.Path.{refl}
use Rattle.entry.proofs.Insert.{inserted}
use Rattle.entry.proofs.marks.Marks.insert.Goals as goal

pub returns : goal.returns
returns c =
    let l = c.args.self.now.layout in
    record {
      same = record { words = refl; capacity = refl };
      count = refl;
      inserted = rw c.number.ensures (inserted _ _ _ _ _ _ _ c.requires.from_le_count c.requires.room.room l c.copy_within.ensures.len
          c.copy_within-2.ensures.len c.copy_within.ensures.by_index.0 c.copy_within.ensures.by_index.1 c.copy_within.ensures.by_index.2
          c.copy_within-2.ensures.by_index.0 c.copy_within-2.ensures.by_index.1 c.copy_within-2.ensures.by_index.2);
    }
