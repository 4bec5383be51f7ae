-- `get_entry` meets its contract: a comment, a term or a message, by the first byte.
use Rattle.std.proofs.lemmas.Result.{err_from_is_err_and}
use Rattle.entry.proofs.Tests.{by}
use Rattle.syntax.specs.Expression.{level}
use Rattle.entry.proofs.Comments.{told-some}
use Rattle.entry.proofs.Entries.{leveled, entry-comment, entry-term, entry-message, keeps-comment, reads-comment, reads-term, reads-message}
use Rattle.entry.proofs.Chains.{reads-through, reads-error}
use Rattle.entry.proofs.parser.Parser.get_entry.Goals as goal

pub returns-in_err-get_comment-clause-reads : goal.returns-in_err-get_comment-clause-reads
returns-in_err-get_comment-clause-reads c =
    let p = err_from_is_err_and c.from_residual.result c.from_residual.ensures.1 in
    rw (p.1, p.2, entry-comment _ _ (by c.is_current_byte.ensures.is c.if-is_current_byte.true))
    (reads-through keeps-comment _ (rw c.in_err-get_comment.was at c.get_comment.ensures.reads))

pub unwrap-level-requires : goal.unwrap-level-requires
unwrap-level-requires c =
    let h = entry-comment _ _ (by c.is_current_byte.ensures.is c.if-is_current_byte.true) in
    told-some _ (leveled (level c.args.left) h (rw c.in_ok-get_comment.was at c.get_comment.ensures.reads))

pub returns-then-is_current_byte-clause-reads : goal.returns-then-is_current_byte-clause-reads
returns-then-is_current_byte-clause-reads c =
    rw (entry-comment _ _ (by c.is_current_byte.ensures.is c.if-is_current_byte.true))
    (reads-comment _ (rw c.unwrap-level.ensures at (rw c.in_ok-get_comment.was at c.get_comment.ensures.reads)))

pub returns-in_err-get_term-clause-reads : goal.returns-in_err-get_term-clause-reads
returns-in_err-get_term-clause-reads c =
    let p = err_from_is_err_and c.from_residual-in_err-get_term.result c.from_residual-in_err-get_term.ensures.1 in
    let h = by c.is_current_byte.ensures.is c.if-is_current_byte.false in
    rw (p.1, p.2, entry-term _ _ h (by c.is_current_byte-2.ensures.is c.if-is_current_byte-2.true))
    (reads-error _ (rw c.in_err-get_term.was at c.get_term.ensures.reads))

pub returns-then-is_current_byte-2-clause-reads : goal.returns-then-is_current_byte-2-clause-reads
returns-then-is_current_byte-2-clause-reads c =
    let h = by c.is_current_byte.ensures.is c.if-is_current_byte.false in
    rw (entry-term _ _ h (by c.is_current_byte-2.ensures.is c.if-is_current_byte-2.true))
    (reads-term _ (rw c.in_ok-get_term.was at c.get_term.ensures.reads))

pub returns-in_err-get_message-clause-reads : goal.returns-in_err-get_message-clause-reads
returns-in_err-get_message-clause-reads c =
    let p = err_from_is_err_and c.from_residual-in_err-get_message.result c.from_residual-in_err-get_message.ensures.1 in
    let h = by c.is_current_byte.ensures.is c.if-is_current_byte.false in
    rw (p.1, p.2, entry-message _ _ h (by c.is_current_byte-2.ensures.is c.if-is_current_byte-2.false))
    (reads-error _ (rw c.in_err-get_message.was at c.get_message.ensures.reads))

pub returns-clause-reads : goal.returns-clause-reads
returns-clause-reads c =
    let h = by c.is_current_byte.ensures.is c.if-is_current_byte.false in
    rw (entry-message _ _ h (by c.is_current_byte-2.ensures.is c.if-is_current_byte-2.false))
    (reads-message _ (rw c.in_ok-get_message.was at c.get_message.ensures.reads))
