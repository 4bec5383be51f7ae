-- `write::write` meets its contract: the tests refuse, or hand on.
use Rattle.std.proofs.lemmas.Result.{err_from_is_err_and}
use Rattle.serializer.proofs.Outcome.{refused, passed, passing}
use Rattle.serializer.proofs.write.write.Goals as goal

pub returns-in_err-test_tree : goal.returns-in_err-test_tree
returns-in_err-test_tree c =
    let p = err_from_is_err_and c.from_residual.result c.from_residual.ensures.1 in
    rw (p.1, p.2) (refused _ _ _ _ _ c.in_err-test_tree.ensures)

pub write_into-requires : goal.write_into-requires
write_into-requires c = passing _ _ c.in_ok-test_tree.ensures

pub returns : goal.returns
returns c = passed _ _ _ _ c.in_ok-test_tree.ensures _ _ c.write_into.ensures
