-- `check::Checker::step_between` meets its contract.
use mathlib.Core.Path.{sym, ◌∙◌, ap}
use native.Mathlib.Omega.{arith}
use Rattle.std.specs.Prelude.{Some}
use Rattle.tree.specs.Shape.{state_of, outcome}
use Rattle.tree.proofs.Numbers.{number_small}
use Rattle.tree.proofs.Steps.{strange, misplaced, opened}
use Rattle.tree.proofs.Table.{next-text, next-node, next-none}
use Rattle.tree.proofs.check.Checker.step_between.Goals as goal

pub returns-in_err-next-clause-goes : goal.returns-in_err-next-clause-goes
unfolding outcome state_of
returns-in_err-next-clause-goes c =
    let n = number_small c.in-Ok.child in
    rw (c.from_residual.ensures, ← c.in-Ok.ensures)
    (sym (strange _ _ _ _ _ _ _ (next-none _ _ c.in_err-next.ensures) (λ e. omega arith)))

pub start-requires : goal.start-requires
start-requires c =
    let t = next-text _ _ _ (sym (ap Some c.in-Text.is) ∙ c.in_ok-next.ensures) in record { child_kind = t.0; child_step = t.1 }

pub enter-requires : goal.enter-requires
enter-requires c =
    let t = next-node _ _ _ (sym (ap Some c.in-Node.is) ∙ c.in_ok-next.ensures) in
    record { fits = c.requires.fits; child_kind = t.0; child_step = t.1 }

pub returns-in-Node-clause-goes : goal.returns-in-Node-clause-goes
unfolding outcome state_of
returns-in-Node-clause-goes c =
    let t = next-node _ _ _ (sym (ap Some c.in-Node.is) ∙ c.in_ok-next.ensures) in
    c.enter.ensures.goes ∙ rw (c.if-place-eq0.true, ← c.in-Ok.ensures) (sym (opened _ _ _ _ _ _ (number_small c.in-Ok.child) t.0))

pub returns-in-Node-2-clause-goes : goal.returns-in-Node-2-clause-goes
unfolding outcome state_of
returns-in-Node-2-clause-goes c =
    let t = next-node _ _ _ (sym (ap Some c.in-Node-2.is) ∙ c.in_ok-next.ensures) in
    rw (← c.in-Ok.ensures) (sym (misplaced _ _ _ _ _ _ _ t.0 c.if-place-eq0.false))
