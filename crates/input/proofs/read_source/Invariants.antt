-- `read_source` meets its contract: what was read so far stands at the start of the buffer.
use Prim.Native.Nat.{◌≤◌}
use lib.ListN.{length, take}
use Rattle.std.specs.Io.KnownBytes.{Consumes}
use Rattle.input.proofs.read_source.Given as goal

abbrev pub invariant-loop : goal.invariant-loop
invariant-loop g l =
    (l.length ≤ length l.buffer)
    × Consumes (g.R.Read.remaining l.initial.input) (g.R.Read.remaining l.input) (take l.length l.buffer)
