-- `check::Checker::enter` meets its contract.
use Prim.Native.Nat.{◌<◌}
use mathlib.Core.Path.{sym}
use native.Mathlib.Omega.{arith}
use Rattle.syntax.specs.Limits.{max_open}
use Rattle.laws.specs.Shape.Bound.{most_frames}
use Rattle.tree.specs.Shape.{state_of, outcome}
use Rattle.tree.proofs.Steps.{not_entered}
use Rattle.tree.proofs.Stack.{enter-room, enter-goes, opens-needs}
use Rattle.syntax.specs.Kind.{number_of}
use Rattle.tree.proofs.check.Checker.enter.Goals as goal
use Rattle.tree.proofs.check.Checker.enter.Goals.{Else-o-needs}

room : (c : Else-o-needs) → c.args.o.depth < most_frames max_open
room c =
    enter-room _ _ _ _ c.requires.fits c.requires.child_kind c.requires.child_step
    (rw c.needs.ensures at c.if-o-needs.false)

pub returns-then-o-needs-clause-goes : goal.returns-then-o-needs-clause-goes
unfolding outcome state_of
returns-then-o-needs-clause-goes c = sym (not_entered _ _ _ _ _ (rw c.needs.ensures at c.if-o-needs.true))

pub bounds-self-o : goal.bounds-self-o
bounds-self-o c = omega (arith, room (goal.at.bounds-self-o c).Else-o-needs)

pub returns-clause-goes : goal.returns-clause-goes
unfolding outcome state_of
returns-clause-goes c =
    enter-goes _ _ _ _ _ (omega arith) c.requires.fits c.requires.child_kind c.requires.child_step
    (rw c.needs.ensures at c.if-o-needs.false) c.opens.ensures

pub overflow_sub-result : goal.overflow_sub-result
overflow_sub-result c = omega (arith, opens-needs (number_of c.args.child), c.needs.ensures, c.opens.ensures)
