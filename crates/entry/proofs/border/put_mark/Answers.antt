-- `border::put_mark` meets its contract, by whether there is room.
use mathlib.Core.Path.{refl, sym}
use Rattle.entry.proofs.Tests.{by}
use Rattle.entry.proofs.Guards.{fits}
use Rattle.entry.proofs.border.put_mark.Goals as goal

pub returns-then-not-has_room : goal.returns-then-not-has_room
returns-then-not-has_room c = rw (by c.has_room.ensures c.if-not-has_room.true) (refl, refl)

pub invariant_of-marks : goal.invariant_of-marks
invariant_of-marks c = record { layout = (fits _ _ _ (by c.has_room.ensures c.if-not-has_room.false)).1 }

pub put-requires-clause-room : goal.put-requires-clause-room
put-requires-clause-room c = record { room = (fits _ _ _ (by c.has_room.ensures c.if-not-has_room.false)).0 }

pub returns : goal.returns
returns c =
    rw (by c.has_room.ensures c.if-not-has_room.false, c.tree-1.given.1.1 (sym c.put.ensures.same.words))
    (c.put.ensures.count, c.put.ensures.step)
