-- `helper::blank_block` meets its contract: turns over blank lines, and the spaces at the start of the next.
use Rattle.std.specs.Prelude.{◌-◌, ◌≤◌, length}
use Rattle.syntax.specs.Helper.{block_turn}
use Rattle.entry.proofs.Turns.{Turning}
use Rattle.entry.proofs.Blanks.{Spaced}
use Rattle.entry.proofs.helper.blank_block.Given as goal

abbrev pub invariant-loop-next : goal.invariant-loop-next
invariant-loop-next l =
    Turning block_turn l.source l.at 0 l.end l.count × Spaced l.source l.end l.next × (l.count ≤ l.end)

abbrev pub decreases-loop-next : goal.decreases-loop-next
decreases-loop-next l = length l.source - l.next
