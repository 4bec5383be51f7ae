-- `helper::is_callee` meets its contract.
use Rattle.std.specs.Prelude.{◌≡◌, true, false}
use Rattle.std.proofs.Common.{rules}
use borrow.Author.Tests.{tests}
use Rattle.std.proofs.lemmas.Iterator.{cases_from_all, YieldsList-from_slice}
use Rattle.syntax.specs.Bytes.{is_callee_part}
use Rattle.entry.proofs.Run.{all-passing}
use Rattle.entry.proofs.helper.is_callee.Goals as goal

pub returns : goal.returns
returns c =
    all-passing is_callee_part c.args.name.now c.all.result
    (cases_from_all _ _ _ (λ b. is_callee_part b ≡ true) (λ b. is_callee_part b ≡ false) c.all.ensures.ran
    (YieldsList-from_slice c.args.name.now cc) (λ x q k. search (rules, tests)) (λ x q k. search (rules, tests)))
