-- `replay_all` meets its contract: no more cases differ than were replayed.
use Prim.Native.Nat.{◌≤◌}
use Rattle.vectors.proofs.replay_all.Given as goal

abbrev pub invariant-loop-cases : goal.invariant-loop-cases
invariant-loop-cases g l = l.different ≤ l.cases
