-- `get_message` meets its contract.
use native.Mathlib.Omega.{arith}
use borrow.Author.Tests.{not-true, not-false}
use Rattle.std.proofs.lemmas.Result.{err_from_is_err_and}
use Rattle.entry.proofs.Entries.{keeps-message, message-some, message-none, name-lies, field-some, field-value, field-none}
use Rattle.entry.proofs.Chains.{reads-through}
use Rattle.entry.proofs.parser.Parser.get_message.Goals as goal
use Rattle.entry.proofs.parser.Parser.get_message.Goals.{else-not-fields-via-then-not-fields+else-fields-eq0, else-not-fields-via-else-not-fields}

pub returns-in_err-fields-clause-reads : goal.returns-in_err-fields-clause-reads
returns-in_err-fields-clause-reads c =
    let p = err_from_is_err_and c.from_residual.result c.from_residual.ensures.1 in
    rw (p.1, p.2) (reads-through keeps-message _ (rw c.in_err-fields.was at c.get_fields.ensures.reads))

pub overflow_add-end : goal.overflow_add-end
overflow_add-end c =
    let l = name-lies _ (rw c.in_ok-fields.was at c.get_fields.ensures.reads) in
    omega (arith, c.args.self.now.source.short)

pub overflow_cast-kind-then-fields-eq0 : goal.overflow_cast-kind-then-fields-eq0
overflow_cast-kind-then-fields-eq0 c =
    let l = name-lies _ (rw c.in_ok-fields.was at c.get_fields.ensures.reads) in
    omega (arith, c.args.self.now.source.short)

pub returns-then-fields-eq0-clause-reads : goal.returns-then-fields-eq0-clause-reads
returns-then-fields-eq0-clause-reads c =
    rw c.error_from.ensures
    (message-none (rw c.in_ok-fields.was at c.get_fields.ensures.reads) (field-none _ _ (not-true _ c.if-not-fields.true) c.if-fields-eq0.true))

pub returns-clause-reads : goal.returns-clause-reads
returns-clause-reads c =
    message-some (rw c.in_ok-fields.was at c.get_fields.ensures.reads)
    (elim c.else-not-fields.branch [
      | else-not-fields-via-then-not-fields+else-fields-eq0 w ↦ field-some _ _ w.if-fields-eq0.false
      | else-not-fields-via-else-not-fields w ↦ field-value _ _ (not-false _ w.if-not-fields.false)
    ])
