-- `test::test_source` meets its contract: each test refuses, or hands on.
use Rattle.std.proofs.lemmas.Result.{err_from_is_err_and}
use Rattle.syntax.proofs.Tests.{long, ill-formed, well-formed}
use Rattle.syntax.proofs.test.test_source.Goals as goal

pub returns-then-length-gt-MAX_LENGTH-clause-tested :
    goal.returns-then-length-gt-MAX_LENGTH-clause-tested
returns-then-length-gt-MAX_LENGTH-clause-tested c = long _ c.if-length-gt-MAX_LENGTH.true

pub returns-in_err-check-clause-tested : goal.returns-in_err-check-clause-tested
returns-in_err-check-clause-tested c =
    let p = err_from_is_err_and c.from_residual.result c.from_residual.ensures.1 in
    rw (p.1, p.2) (ill-formed _ c.if-length-gt-MAX_LENGTH.false _ c.in_err-check.ensures)

pub returns-clause-tested : goal.returns-clause-tested
returns-clause-tested c = well-formed _ c.if-length-gt-MAX_LENGTH.false c.in_ok-check.ensures
