-- `check::Checker::start` meets its contract.
use mathlib.Core.Path.{sym}
use Rattle.utf8.specs.Utf8.{is_boundary}
use Rattle.laws.specs.Bytes.{by_case}
use Rattle.tree.specs.Shape.{state_of, outcome}
use Rattle.tree.proofs.Steps.{started, not-started}
use Rattle.tree.proofs.check.Checker.start.Goals as goal

pub returns : goal.returns
unfolding outcome state_of
returns c =
    let a = c.args in
    by_case (is_boundary a.self.now.source.now a.place)
    (λ h. rw (c.then_some.ensures, c.is_boundary.ensures, h) (sym (started _ _ _ _ _ _ _ _ c.requires.child_kind c.requires.child_step h)))
    (λ h. rw (c.then_some.ensures, c.is_boundary.ensures, h) (sym (not-started _ _ _ _ _ _ _ c.requires.child_kind h)))
