-- `marks::store` meets its contract.
use Rattle.entry.proofs.Steps.{step-set}
use Rattle.entry.proofs.marks.store.Goals as goal

pub returns : goal.returns
returns c = step-set _ _ _ _ _ c.requires.room.fits c.requires.room.layout
