-- `check::sizes_fit` meets its contract.
use native.Mathlib.Omega.{arith}
use Rattle.std.proofs.lemmas.Bool.Decides.{nat_tests}
use borrow.Author.Tests.{lt-leb}
use Rattle.syntax.specs.Layout.{count, capacity}
use Rattle.syntax.specs.Tests.{sizes_fit}
use Rattle.tree.proofs.check.sizes_fit.Goals as goal

pub returns-in_default : goal.returns-in_default
unfolding sizes_fit count capacity
returns-in_default c = rw (sizes_fit, lt-leb _ _ c.in_default.len_below)

pub returns-then-count-capacity : goal.returns-then-count-capacity
unfolding sizes_fit count capacity
returns-then-count-capacity c = grind (arith, nat_tests)

pub returns-else-count-capacity : goal.returns-else-count-capacity
unfolding sizes_fit count capacity
returns-else-count-capacity c = grind (arith, nat_tests)
