-- `check::check_shape` meets its contract: in the loop, the check goes on from the state to the verdict.
use Rattle.std.proofs.Common.{◌≡◌, length}
use Rattle.tree.proofs.Stands.{Stands}
use Rattle.tree.proofs.check.check_shape.Given as goal

abbrev pub invariant-loop-i : goal.invariant-loop-i
invariant-loop-i l = record {
  stands : Stands l.source l.tree l.checker.frames l.state (length l.yielded);
  source : l.checker.source.now ≡ l.source;
}
