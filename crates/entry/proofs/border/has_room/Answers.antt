-- `border::has_room` meets its contract.
use borrow.Author.Tests.{lt-ltb, le-ltb}
use Rattle.entry.specs.Border.{roomy}
use Rattle.entry.proofs.Guards.{half}
use Rattle.entry.proofs.border.has_room.Goals as goal

pub returns-then-n-cap : goal.returns-then-n-cap
unfolding roomy
returns-then-n-cap c = rw (lt-ltb _ _ c.if-n-cap.true) (half c.args.words c.args.cap)

pub returns-else-n-cap : goal.returns-else-n-cap
unfolding roomy
returns-else-n-cap c = rw (le-ltb _ _ c.if-n-cap.false)
