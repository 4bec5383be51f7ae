-- `utf8::check`: what there is to find is found from `at` on.
use Rattle.std.proofs.Common.{length, ◌-◌}
use Rattle.utf8.specs.Utf8.{FoundFrom}
use Rattle.utf8.proofs.check.Given as goal

abbrev pub invariant-loop-at : goal.invariant-loop-at
invariant-loop-at l = FoundFrom l.source l.at

abbrev pub decreases-loop-at : goal.decreases-loop-at
decreases-loop-at l = length l.source - l.at
