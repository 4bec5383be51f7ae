-- `list_entries` meets its contract: in the loop the entries so far are listed.
use Prim.Native.Nat.{◌-◌}
use lib.ListN.{length}
use Rattle.entries.proofs.Going.{Going}
use Rattle.entries.proofs.list_entries.Given as goal

abbrev pub invariant-loop-extent : goal.invariant-loop-extent
invariant-loop-extent l = Going l.source l.initial.list l.list l.at l.n

abbrev pub decreases-loop-extent : goal.decreases-loop-extent
decreases-loop-extent l = length l.source - l.at
