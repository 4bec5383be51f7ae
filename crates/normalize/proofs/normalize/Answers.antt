use Rattle.std.proofs.lemmas.Result.{err_from_is_err_and}
use Rattle.normalize.proofs.Outcome.{normal-written, normal-refused}
use Rattle.normalize.proofs.normalize.Goals as goal

pub returns-in_err-read : goal.returns-in_err-read
returns-in_err-read c =
    let p = err_from_is_err_and c.from_residual.result c.from_residual.ensures.1 in
    rw (p.1, p.2) (normal-refused c.in_err-read.ensures)

pub returns : goal.returns
returns c = normal-written c.read.ensures c.in_ok-read.was c.write.ensures
