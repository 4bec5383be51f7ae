-- `get_term` meets its contract.
use native.Mathlib.Omega.{arith}
use Rattle.std.specs.Prelude.{◌≡◌, ◌+◌}
use borrow.Author.Tests.{not-true, not-false}
use Rattle.std.proofs.lemmas.Result.{err_from_is_err_and}
use Rattle.syntax.specs.Core.{term_fields}
use Rattle.entry.specs.Entry.{fields_of}
use Rattle.entry.proofs.Entries.{keeps-term, term-some, term-none, name-lies, expect-one}
use Rattle.entry.proofs.Chains.{reads-through, reads-finds, reads-then, stop-then}
use Rattle.entry.proofs.parser.Parser.get_term.Goals as goal

pub returns-in_err-expect_byte-clause-reads : goal.returns-in_err-expect_byte-clause-reads
unfolding term_fields
returns-in_err-expect_byte-clause-reads c =
    let p = err_from_is_err_and c.from_residual.result c.from_residual.ensures.1 in
    rw (p.1, p.2)
    (reads-through {w = fields_of} keeps-term _ (stop-then _ _ (reads-finds (rw c.in_err-expect_byte.was at c.expect_byte.ensures))))

pub returns-in_err-fields-clause-reads : goal.returns-in_err-fields-clause-reads
unfolding term_fields
returns-in_err-fields-clause-reads c =
    let p = err_from_is_err_and c.from_residual-in_err-fields.result c.from_residual-in_err-fields.ensures.1 in
    rw (p.1, p.2)
    (reads-through keeps-term _
    (reads-then _ _ (reads-finds (rw c.in_ok-expect_byte.was at c.expect_byte.ensures))
    (rw c.in_err-fields.was at c.get_fields.ensures.reads)))

pub overflow_add-end : goal.overflow_add-end
overflow_add-end c =
    let l = name-lies _ (rw c.in_ok-fields.was at c.get_fields.ensures.reads) in
    omega (arith, c.expect_byte.new.self.short)

pub overflow_cast-kind-then-not-fields : goal.overflow_cast-kind-then-not-fields
overflow_cast-kind-then-not-fields c =
    let l = name-lies _ (rw c.in_ok-fields.was at c.get_fields.ensures.reads) in
    omega (arith, c.expect_byte.new.self.short)

pub returns-then-not-fields-clause-reads : goal.returns-then-not-fields-clause-reads
unfolding term_fields
returns-then-not-fields-clause-reads c =
    let x = rw c.in_ok-expect_byte.was at c.expect_byte.ensures in
    let e : c.expect_byte.new.self.ptr ≡ c.args.self.now.source.ptr + 1 = expect-one _ x in
    rw (c.error_from.ensures, e)
    (term-none (reads-then _ _ (reads-finds x) (rw c.in_ok-fields.was at c.get_fields.ensures.reads)) (not-true _ c.if-not-fields.true))

pub returns-clause-reads : goal.returns-clause-reads
unfolding term_fields
returns-clause-reads c =
    let x = rw c.in_ok-expect_byte.was at c.expect_byte.ensures in
    term-some (reads-then _ _ (reads-finds x) (rw c.in_ok-fields.was at c.get_fields.ensures.reads)) (not-false _ c.if-not-fields.false)
