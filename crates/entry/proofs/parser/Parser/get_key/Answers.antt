-- `get_key` meets its contract: a number or an identifier, by the first byte.
use Rattle.std.proofs.lemmas.Result.{err_from_is_err_and}
use Rattle.entry.specs.Did.{silent}
use Rattle.entry.proofs.Tests.{by}
use Rattle.entry.proofs.Entries.{key-number, key-name}
use Rattle.entry.proofs.Chains.{reads-map, reads-error}
use Rattle.entry.proofs.parser.Parser.get_key.Goals as goal

pub returns-then-is_number_start-clause-reads : goal.returns-then-is_number_start-clause-reads
returns-then-is_number_start-clause-reads c =
    rw (key-number _ (by c.is_number_start.ensures.is c.if-is_number_start.true)) c.get_number_literal.ensures.reads

pub returns-in_err-get_identifier-clause-reads : goal.returns-in_err-get_identifier-clause-reads
returns-in_err-get_identifier-clause-reads c =
    let p = err_from_is_err_and c.from_residual.result c.from_residual.ensures.1 in
    rw (p.1, p.2, key-name _ (by c.is_number_start.ensures.is c.if-is_number_start.false))
    (reads-error _ (rw c.in_err-get_identifier.was at c.get_identifier.ensures.reads))

pub returns-in_ok-get_identifier-clause-reads : goal.returns-in_ok-get_identifier-clause-reads
returns-in_ok-get_identifier-clause-reads c =
    rw (key-name _ (by c.is_number_start.ensures.is c.if-is_number_start.false))
    (reads-map silent (rw c.in_ok-get_identifier.was at c.get_identifier.ensures.reads))
