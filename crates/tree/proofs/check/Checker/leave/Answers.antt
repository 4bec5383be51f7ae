-- `check::Checker::leave` meets its contract.
use mathlib.Core.Path.{sym, ◌∙◌, ap}
use native.Mathlib.Omega.{arith}
use Rattle.syntax.specs.Kind.{number_of}
use Rattle.tree.specs.Models.{parent}
use Rattle.tree.specs.Shape.{frames_in, state_of, outcome}
use Rattle.tree.proofs.Numbers.{not-text, no-child, closes}
use Rattle.tree.proofs.Steps.{strange, misplaced, not-closed, unclosed}
use Rattle.tree.proofs.Stack.{leave-top, leave-goes, opens_small}
use Rattle.tree.proofs.check.Checker.leave.Goals as goal
use Rattle.tree.proofs.check.Checker.leave.Goals.{
  then-kind-closing-via-then-kind-closing,
  then-kind-closing-via-else-kind-closing+then-place-ne0,
  then-kind-closing-via-else-kind-closing+else-place-ne0+then-not-may_end,
}

pub returns-in_err-closed : goal.returns-in_err-closed
unfolding outcome state_of frames_in
returns-in_err-closed c =
    λ b. rw (c.from_residual.ensures, c.requires.fits.inner.list (ap parent c.in_err-closed.was))
    (sym (unclosed b _ _ _ _ _ (no-child _ c.requires.no_kind _ _)))

pub returns-then-kind-closing : goal.returns-then-kind-closing
unfolding outcome state_of
returns-then-kind-closing c =
    let closing = closes c.in_ok-closed.was c.closing.ensures in
    elim c.then-kind-closing.branch [
      | then-kind-closing-via-then-kind-closing w ↦ λ b. sym
          (strange b _ _ _ _ _ _ (no-child _ c.requires.no_kind _ _) (λ e. w.if-kind-closing.true (e ∙ sym closing)))
      | then-kind-closing-via-else-kind-closing+then-place-ne0 w ↦ λ b. sym
          (misplaced b _ _ _ _ _ _ (not-text _ c.requires.no_kind) w.if-place-ne0.true)
      | then-kind-closing-via-else-kind-closing+else-place-ne0+then-not-may_end w ↦ λ b. rw (w.if-kind-closing.false ∙ closing)
          (sym (not-closed b _ _ _ _ _ (sym w.if-not-may_end.ensures)))
    ]

pub returns-in_err-outer : goal.returns-in_err-outer
unfolding outcome state_of
returns-in_err-outer c =
    λ b. rw (c.from_residual-in_err-outer.ensures, c.if-kind-closing.false ∙ closes c.in_ok-closed.was c.closing.ensures, c.if-place-ne0.false)
    (leave-top _ _ b (sym c.if-not-may_end.ensures) (omega (arith, c.in_err-outer.ensures)))

pub overflow_add-result : goal.overflow_add-result
overflow_add-result c = omega (arith, opens_small (number_of c.in_ok-closed.closed), c.opens.ensures, c.requires.fits.inner.small)

pub returns : goal.returns
unfolding outcome state_of
returns c =
    let outer = c.in_ok-outer.ensures in
    λ b. rw (c.if-kind-closing.false ∙ closes c.in_ok-closed.was c.closing.ensures, c.if-place-ne0.false, outer.1)
    (leave-goes _ _ b (sym c.if-not-may_end.ensures) _ (λ e. omega (arith, outer.0)) (rw c.in_ok-closed.was c.opens.ensures))
