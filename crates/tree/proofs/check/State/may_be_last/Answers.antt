-- `check::State::may_be_last` meets its contract.
use borrow.Author.Tests.{ne_eqb}
use Rattle.syntax.specs.Shape.{may_end}
use Rattle.tree.specs.Shape.{frames_in, state_of}
use Rattle.tree.proofs.Stack.{frames-pop}
use Rattle.tree.proofs.check.State.may_be_last.Goals as goal

pub returns-then-o-eq0 : goal.returns-then-o-eq0
unfolding may_end state_of frames_in
returns-then-o-eq0 c = λ fs. rw (c.in-Between.is, c.if-o-eq0.true) c.may_end.ensures

pub returns-else-o-eq0 : goal.returns-else-o-eq0
unfolding may_end state_of
returns-else-o-eq0 c = λ fs. rw (c.in-Between.is, frames-pop fs _ c.if-o-eq0.false) (ne_eqb _ _ c.if-o-eq0.false)

pub returns-in-Within : goal.returns-in-Within
unfolding may_end state_of
returns-in-Within c = λ fs. rw c.in-Within.is
