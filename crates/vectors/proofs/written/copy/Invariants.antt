-- `written::copy` meets its contract: every word passed is the stored one.
use Prim.Native.Nat.{ℕ, ◌<◌}
use mathlib.Core.Path.{◌≡◌}
use mathlib.Core.List.{[]}
use lib.ListN.{length, get_or}
use Rattle.std.specs.Int.{from_le_bytes, w32}
use Rattle.vectors.proofs.written.copy.Given as goal

abbrev pub invariant-loop-i : goal.invariant-loop-i
invariant-loop-i l =
    (length l.words ≡ length l.initial.words)
    × ((k : ℕ) → k < l.i → get_or l.words k 0 ≡ from_le_bytes w32 (get_or l.bytes-items k []))
