-- `compare::is_left` meets its contract, by the answer.
use mathlib.Core.Path.{sym}
use Rattle.std.specs.Prelude.{Err, ◌≡◌}
use Rattle.syntax.specs.declared.answer.Refusal.TheVariants.{TooDeep}
use Rattle.std.proofs.Common.{rules}
use Rattle.vectors.specs.Agreement.{filled}
use Rattle.vectors.proofs.Rows.{tells-equal, tells-all}
use Rattle.vectors.proofs.Laid.{left_laid, left-zeroed, left-filled}
use Rattle.vectors.proofs.compare.is_left.Goals as goal

pub returns-in-Ok : goal.returns-in-Ok
returns-in-Ok c = rw c.in-Ok.is (tells-equal (sym (left_laid _ _ _ _ _)) c.is_laid_out.ensures)

pub returns-in-Err-TooDeep : goal.returns-in-Err-TooDeep
returns-in-Err-TooDeep c =
    let e : c.args.answer ≡ Err (TooDeep c.in-Err-TooDeep.field-0-0) = search rules in
    rw e (tells-equal (sym (left-zeroed _ _ _ _ _)) c.is_zeroed.ensures)

pub returns-in-Err : goal.returns-in-Err
unfolding filled
returns-in-Err c = rw c.in-Err.is
    (tells-equal (sym (left-filled _ _ _ _ _ (search rules))) (tells-all _ _ c.are_all.ensures))
