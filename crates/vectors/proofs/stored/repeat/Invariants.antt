-- `stored::repeat` meets its contract: what is passed repeats, and the first bytes and what is not passed are as they were.
use Prim.Native.Nat.{ℕ, ◌-◌, ◌≤◌, ◌<◌}
use mathlib.Core.Path.{◌≡◌}
use lib.ListN.{length, get_or, take}
use Rattle.vectors.proofs.stored.repeat.Given as goal

abbrev pub invariant-loop-i : goal.invariant-loop-i
invariant-loop-i l =
    (l.n ≤ l.i) × (length l.source ≡ length l.initial.source) × (take l.n l.source ≡ take l.n l.initial.source)
    × ((k : ℕ) → l.n ≤ k → k < l.i → k < length l.source → get_or l.source k 0 ≡ get_or l.source (k - l.n) 0)
