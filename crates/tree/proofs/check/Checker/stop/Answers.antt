-- `check::Checker::stop` meets its contract.
use mathlib.Core.Path.{sym, ◌∙◌}
use Rattle.utf8.specs.Utf8.{is_boundary}
use Rattle.laws.specs.Bytes.{by_case}
use Rattle.tree.specs.Shape.{state_of, outcome}
use Rattle.tree.proofs.Steps.{stopped, stopped-by-other, stopped-before, stopped-inside}
use Rattle.tree.proofs.check.Checker.stop.Goals as goal
use Rattle.tree.proofs.check.Checker.stop.Goals.{then-kind-closing-via-then-kind-closing}
use Rattle.tree.proofs.check.Checker.stop.Goals.{then-kind-closing-via-else-kind-closing+then-end-start}

pub returns-then-kind-closing : goal.returns-then-kind-closing
unfolding outcome state_of
returns-then-kind-closing c =
    elim c.then-kind-closing.branch [
      | then-kind-closing-via-then-kind-closing w ↦ sym
          (stopped-by-other _ _ _ _ _ _ _ _ _ (λ e. w.if-kind-closing.true (e ∙ sym c.closing.ensures)))
      | then-kind-closing-via-else-kind-closing+then-end-start w ↦ sym (stopped-before _ _ _ _ _ _ _ _ _ w.if-end-start.true)
    ]

pub returns : goal.returns
unfolding outcome state_of
returns c =
    let a = c.args in
    rw (c.if-kind-closing.false ∙ c.closing.ensures)
    (by_case (is_boundary a.self.now.source.now a.end)
    (λ h. rw (c.then_some.ensures, c.is_boundary.ensures, h) (sym (stopped _ _ _ _ _ _ _ _ c.requires h c.if-end-start.false)))
    (λ h. rw (c.then_some.ensures, c.is_boundary.ensures, h) (sym (stopped-inside _ _ _ _ _ _ _ _ _ h))))
