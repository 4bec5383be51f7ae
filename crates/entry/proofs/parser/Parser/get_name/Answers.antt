-- `get_name` meets its contract: an identifier, blanks and an equals sign.
use native.Mathlib.Omega.{arith}
use Rattle.std.proofs.lemmas.Result.{err_from_is_err_and}
use Rattle.entry.specs.Entry.{get_name}
use Rattle.entry.proofs.Entries.{identified, identifier-stops}
use Rattle.entry.proofs.Chains.{reads-goes, reads-finds, reads-text, reads-plain, reads-then, reads-pure, stop-bind, stop-then, stop-late}
use Rattle.entry.proofs.parser.Parser.get_name.Goals as goal

pub returns-in_err-skip_identifier-clause-reads : goal.returns-in_err-skip_identifier-clause-reads
unfolding get_name
returns-in_err-skip_identifier-clause-reads c =
    let p = err_from_is_err_and c.from_residual.result c.from_residual.ensures.1 in
    rw (p.1, p.2) (stop-bind _ _ (identifier-stops 9 (rw c.in_err-skip_identifier.was at c.skip_identifier.ensures)))

pub returns-in_err-expect_byte-clause-reads : goal.returns-in_err-expect_byte-clause-reads
unfolding get_name
returns-in_err-expect_byte-clause-reads c =
    let p = err_from_is_err_and c.from_residual-in_err-expect_byte.result c.from_residual-in_err-expect_byte.ensures.1 in
    let n = identified 9 (rw c.in_ok-skip_identifier.was at c.skip_identifier.ensures) in
    rw (p.1, p.2)
    (stop-late _ _ n.is c.skip_identifier.ensures.bytes n.place
    (reads-then _ _ (reads-goes c.skip_blank_inline.ensures)
    (stop-then _ _ (reads-finds (rw c.in_err-expect_byte.was at c.expect_byte.ensures)))))

pub text-requires-clause-room : goal.text-requires-clause-room
text-requires-clause-room c =
    let n = identified 9 (rw c.in_ok-skip_identifier.was at c.skip_identifier.ensures) in
    record { room = omega (arith, c.requires.spent, c.args.self.now.holds, n.onward, n.within) }

pub returns-clause-reads : goal.returns-clause-reads
unfolding get_name
returns-clause-reads c =
    let n = identified 9 (rw c.in_ok-skip_identifier.was at c.skip_identifier.ensures) in
    reads-plain _ _ (reads-text 9 c.skip_identifier.ensures.bytes n.is n.place c.text.ensures)
    (reads-then _ _ (reads-goes c.skip_blank_inline.ensures)
    (reads-then _ _ (reads-finds (rw c.in_ok-expect_byte.was at c.expect_byte.ensures)) (reads-pure _ _ _ _)))
