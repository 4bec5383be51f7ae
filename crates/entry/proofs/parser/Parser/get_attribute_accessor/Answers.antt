-- `get_attribute_accessor` meets its contract.
use native.Mathlib.Omega.{arith}
use Rattle.std.proofs.lemmas.Result.{err_from_is_err_and}
use Rattle.entry.proofs.Entries.{taken, accessor-none, accessor-some}
use Rattle.entry.proofs.Chains.{reads-goes, reads-then, reads-pure, stop-then}
use Rattle.entry.proofs.parser.Parser.get_attribute_accessor.Goals as goal

pub returns-then-not-take_byte_if-clause-reads : goal.returns-then-not-take_byte_if-clause-reads
returns-then-not-take_byte_if-clause-reads c =
    let g = rw c.if-not-take_byte_if.true at c.take_byte_if.ensures in
    rw (accessor-none _ (taken _ _ g.went.answers)) (reads-goes g)

pub get_identifier-requires : goal.get_identifier-requires
get_identifier-requires c =
    let g = rw c.if-not-take_byte_if.false at c.take_byte_if.ensures in
    record {
      spent = omega (arith, c.requires.spent, g.went.onward);
    }

pub returns-in_err-get_identifier-clause-reads : goal.returns-in_err-get_identifier-clause-reads
returns-in_err-get_identifier-clause-reads c =
    let g = rw c.if-not-take_byte_if.false at c.take_byte_if.ensures in
    let p = err_from_is_err_and c.from_residual.result c.from_residual.ensures.1 in
    rw (p.1, p.2, accessor-some _ (taken _ _ g.went.answers))
    (stop-then _ _ (reads-then _ _ (reads-goes g) (rw c.in_err-get_identifier.was at c.get_identifier.ensures.reads)))

pub returns-clause-reads : goal.returns-clause-reads
returns-clause-reads c =
    let g = rw c.if-not-take_byte_if.false at c.take_byte_if.ensures in
    rw (accessor-some _ (taken _ _ g.went.answers))
    (reads-then _ _ (reads-then _ _ (reads-goes g) (rw c.in_ok-get_identifier.was at c.get_identifier.ensures.reads)) (reads-pure _ _ _ _))
