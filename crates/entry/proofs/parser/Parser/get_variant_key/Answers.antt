-- `get_variant_key` meets its contract: a key between blanks, and a bracket.
use Rattle.std.proofs.lemmas.Result.{err_from_is_err_and}
use Rattle.syntax.specs.Expression.{get_variant_key}
use Rattle.entry.proofs.Chains.{reads-goes, reads-finds, reads-then, stop-then}
use Rattle.entry.proofs.parser.Parser.get_variant_key.Goals as goal

pub returns-in_err-get_key-clause-reads : goal.returns-in_err-get_key-clause-reads
unfolding get_variant_key
returns-in_err-get_key-clause-reads c =
    let p = err_from_is_err_and c.from_residual.result c.from_residual.ensures.1 in
    rw (p.1, p.2)
    (reads-then _ _ (reads-goes c.skip_blank.ensures) (stop-then _ _ (rw c.in_err-get_key.was at c.get_key.ensures.reads)))

pub returns-clause-reads : goal.returns-clause-reads
unfolding get_variant_key
returns-clause-reads c =
    reads-then _ _ (reads-goes c.skip_blank.ensures)
    (reads-then _ _ (rw c.in_ok-get_key.was at c.get_key.ensures.reads)
    (reads-then _ _ (reads-goes c.skip_blank-2.ensures) (reads-finds c.expect_byte.ensures)))
