-- `compare::is_zeroed` meets its contract: the zeros, then the filling.
use native.Mathlib.Omega.{arith}
use mathlib.Core.Path.{sym, ◌∙◌}
use Rattle.std.proofs.lemmas.Bool.{false≢true, lt-leb}
use Rattle.vectors.proofs.Rows.{tells-false, tells-same, tells-all, untold}
use Rattle.vectors.proofs.Laid.{zeroed-long, zeroed-first, zeroed_rest, zeroed-is}
use Rattle.vectors.proofs.compare.is_zeroed.Goals as goal
use Rattle.vectors.proofs.compare.is_zeroed.Goals.{then-n-slice, else-n-slice}

pub returns-then-are_all : goal.returns-then-are_all
returns-then-are_all c =
    elim c.if-n-slice.branch [
      | then-n-slice w ↦
          tells-same (zeroed-is _ _ w.if-n-slice.true ((tells-all _ _ w.are_all.ensures).yes (sym w.value-is ∙ c.if-are_all.true)))
          (zeroed_rest _ c.args.n) (tells-all _ _ c.are_all-then-are_all.ensures)
      | else-n-slice w ↦ absurd (false≢true (sym (lt-leb _ _ w.if-n-slice.false) ∙ sym w.value-is ∙ c.if-are_all.true))
    ]

pub returns-else-are_all : goal.returns-else-are_all
returns-else-are_all c =
    tells-false c.if-are_all.false
    (λ e.
    elim c.if-n-slice.branch [
      | then-n-slice w ↦ untold (tells-all _ _ w.are_all.ensures) (sym w.value-is ∙ c.if-are_all.false) (zeroed-first _ c.args.n e)
      | else-n-slice w ↦ omega (arith, zeroed-long _ c.args.n e, w.if-n-slice.false)
    ])
