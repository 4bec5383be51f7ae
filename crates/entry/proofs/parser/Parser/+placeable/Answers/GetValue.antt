-- `get_value`, a member of the cycle.
use native.Mathlib.Omega.{arith}
use mathlib.Core.Path.{refl}
use Rattle.std.proofs.lemmas.Result.{err_from_is_err_and}
use Rattle.syntax.specs.declared.errors.ErrorKind.TheVariants.{MissingValue}
use Rattle.syntax.specs.Expression.{needs_value}
use Rattle.entry.specs.Entry.{get_value}
use Rattle.entry.proofs.Chains.{reads-plain, reads-pure, reads-fail, stop-bind}
use Rattle.entry.proofs.parser.Parser.+placeable.Goals as goal

pub get_value-get_pattern-requires : goal.get_value-get_pattern-requires
get_value-get_pattern-requires t c = omega (arith, c.decreases, c.requires)

pub get_value-returns-in_err-get_pattern-clause-reads : goal.get_value-returns-in_err-get_pattern-clause-reads
unfolding get_value
get_value-returns-in_err-get_pattern-clause-reads t c =
    let p = err_from_is_err_and c.from_residual.result c.from_residual.ensures.1 in
    rw (p.1, p.2) (stop-bind _ _ (rw c.in_err-get_pattern.was at c.get_pattern.ensures.reads))

pub get_value-returns-then-branch-clause-reads : goal.get_value-returns-then-branch-clause-reads
unfolding get_value needs_value
get_value-returns-then-branch-clause-reads t c =
    reads-plain _ needs_value (rw (c.in_ok-get_pattern.was, c.if-branch.true) at c.get_pattern.ensures.reads) (reads-pure _ _ tt _)

pub get_value-returns-else-branch-clause-reads : goal.get_value-returns-else-branch-clause-reads
unfolding get_value needs_value
get_value-returns-else-branch-clause-reads t c =
    rw c.error.ensures
    (reads-plain _ needs_value (rw (c.in_ok-get_pattern.was, c.if-branch.false) at c.get_pattern.ensures.reads)
    (reads-fail _ _ MissingValue _ refl))
