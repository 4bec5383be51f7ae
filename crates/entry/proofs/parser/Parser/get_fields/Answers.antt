-- `get_fields` meets its contract: a name, a pattern, blank lines and attributes.
use native.Mathlib.Omega.{arith}
use Rattle.std.proofs.lemmas.Result.{err_from_is_err_and}
use Rattle.entry.proofs.Entries.{name-room, pattern-room, fields-law}
use Rattle.entry.proofs.Chains.{reads-plain, reads-goes, reads-then, reads-pure, stop-bind}
use Rattle.entry.proofs.parser.Parser.get_fields.Goals as goal

pub get_pattern-requires : goal.get_pattern-requires
get_pattern-requires c =
    let s = name-room (rw c.in_ok-name.was at c.get_name.ensures.reads) in
    record { spent = omega (arith, s.room, c.requires.spent) }

pub get_attributes-requires : goal.get_attributes-requires
get_attributes-requires c =
    let s = name-room (rw c.in_ok-name.was at c.get_name.ensures.reads) in
    let p = pattern-room _ (rw c.in_ok-value.was at c.get_pattern.ensures.reads) in
    record { spent = omega (arith, s.room, p.room, c.skip_blank_block.ensures.went.onward, c.requires.spent) }

pub returns-in_err-name-clause-reads : goal.returns-in_err-name-clause-reads
returns-in_err-name-clause-reads c =
    let p = err_from_is_err_and c.from_residual.result c.from_residual.ensures.1 in
    rw (p.1, p.2, fields-law) (stop-bind _ _ (rw c.in_err-name.was at c.get_name.ensures.reads))

pub returns-in_err-value-clause-reads : goal.returns-in_err-value-clause-reads
returns-in_err-value-clause-reads c =
    let p = err_from_is_err_and c.from_residual-in_err-value.result c.from_residual-in_err-value.ensures.1 in
    rw (p.1, p.2, fields-law)
    (reads-plain _ _ (rw c.in_ok-name.was at c.get_name.ensures.reads)
    (stop-bind _ _ (rw c.in_err-value.was at c.get_pattern.ensures.reads)))

pub returns-in_err-attributes-clause-reads : goal.returns-in_err-attributes-clause-reads
returns-in_err-attributes-clause-reads c =
    let p = err_from_is_err_and c.from_residual-in_err-attributes.result c.from_residual-in_err-attributes.ensures.1 in
    rw (p.1, p.2, fields-law)
    (reads-plain _ _ (rw c.in_ok-name.was at c.get_name.ensures.reads)
    (reads-plain _ _ (rw c.in_ok-value.was at c.get_pattern.ensures.reads)
    (reads-then _ _ (reads-goes c.skip_blank_block.ensures)
    (stop-bind _ _ (rw c.in_err-attributes.was at c.get_attributes.ensures.reads)))))

pub returns-clause-reads : goal.returns-clause-reads
returns-clause-reads c =
    rw fields-law
    (reads-plain _ _ (rw c.in_ok-name.was at c.get_name.ensures.reads)
    (reads-plain _ _ (rw c.in_ok-value.was at c.get_pattern.ensures.reads)
    (reads-then _ _ (reads-goes c.skip_blank_block.ensures)
    (reads-plain _ _ (rw c.in_ok-attributes.was at c.get_attributes.ensures.reads) (reads-pure _ _ _ _)))))
