-- `end_placeable` meets its contract.
use Rattle.std.proofs.lemmas.Result.{err_from_is_err_and}
use Rattle.entry.specs.Shape.{placeable_end}
use Rattle.entry.proofs.Moves.{goes-then, stop-then}
use Rattle.entry.proofs.Sources.{finds-goes}
use Rattle.entry.proofs.Follows.{attribute-finds}
use Rattle.entry.proofs.source.Source.end_placeable.Goals as goal

pub returns-in_err-expect_byte : goal.returns-in_err-expect_byte
unfolding placeable_end
returns-in_err-expect_byte c =
    let p = err_from_is_err_and c.from_residual.result c.from_residual.ensures.1 in
    rw (p.1, p.2)
    (goes-then _ _ c.skip_blank_inline.ensures (stop-then _ _ (rw c.in_err-expect_byte.was at c.expect_byte.ensures)))

pub returns : goal.returns
unfolding placeable_end
returns c =
    rw c.check_placeable.ensures
    (goes-then _ _ c.skip_blank_inline.ensures
    (goes-then _ _ (finds-goes (rw c.in_ok-expect_byte.was at c.expect_byte.ensures)) (attribute-finds c.expect_byte.new.self _)))
