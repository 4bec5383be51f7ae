-- `comment::line_feed` meets its contract.
use Rattle.std.specs.Prelude.{eqb, not, length}
use Rattle.std.proofs.Common.{rules}
use mathlib.Core.Path.{subst}
use native.Mathlib.Omega.{arith}
use Rattle.syntax.specs.Byte as Byte
use Rattle.memchr.specs.Find.{Nowhere, NoneBefore, Passes, is_byte}
use Rattle.entry.proofs.Run.{all-left, counted-by}
use Rattle.entry.proofs.Lines.{feed-near, feed-nowhere, feed-far}
use Rattle.entry.proofs.comment.line_feed.Goals as goal

pub returns-then-near-most : goal.returns-then-near-most
returns-then-near-most c =
    feed-near c.args.rest.now _ _ (omega (arith, c.min-most.ensures))
    (counted-by (λ b. not (eqb b Byte.line_feed)) (λ b r e. search rules) c.count_while-near.ensures) c.if-near-most.true

pub returns-in_err-memchr : goal.returns-in_err-memchr
returns-in_err-memchr c =
    rw c.from_residual.ensures
    (feed-nowhere c.args.rest.now _ _ (omega (arith, c.min-most.ensures))
    (counted-by (λ b. not (eqb b Byte.line_feed)) (λ b r e. search rules) c.count_while-near.ensures) (omega (arith, c.if-near-most.false))
    (subst (λ l. Nowhere (Passes (is_byte Byte.line_feed) l) 0 (length l)) (all-left c.args.rest.now c.min-most.result) c.in_err-memchr.ensures))

pub returns : goal.returns
returns c =
    feed-far c.args.rest.now _ _ (omega (arith, c.min-most.ensures))
    (counted-by (λ b. not (eqb b Byte.line_feed)) (λ b r e. search rules) c.count_while-near.ensures) _ (omega (arith, c.if-near-most.false))
    (subst (λ l. NoneBefore (Passes (is_byte Byte.line_feed) l) 0 (length l) c.in_ok-memchr.field-0 × Passes (is_byte Byte.line_feed) l c.in_ok-memchr.field-0)
    (all-left c.args.rest.now c.min-most.result) c.in_ok-memchr.ensures)
