-- `get_expression`, a member of the cycle.
use native.Mathlib.Omega.{arith}
use Rattle.std.specs.Prelude.{false}
use Rattle.std.proofs.lemmas.Result.{err_from_is_err_and}
use Rattle.syntax.specs.Expression.{level}
use Rattle.laws.specs.Bounds.Expression.{level-bounds, inline-expression-bounds, variants-bounds}
use Rattle.entry.proofs.Chains.{reads-room}
use Rattle.entry.proofs.Cycle.{length-same}
use Rattle.entry.proofs.Selects.{expression-stop, expression-refused, expression-alone, reads-select, stop-select}
use Rattle.entry.proofs.parser.Parser.+placeable.Goals as goal

pub get_expression-get_inline_expression-requires : goal.get_expression-get_inline_expression-requires
get_expression-get_inline_expression-requires t c = omega (arith, c.decreases, c.requires)

pub get_expression-returns-in_err-exp-clause-reads : goal.get_expression-returns-in_err-exp-clause-reads
get_expression-returns-in_err-exp-clause-reads t c =
    let p = err_from_is_err_and c.from_residual.result c.from_residual.ensures.1 in
    rw (p.1, p.2) (expression-stop _ (level c.args.left) (rw c.in_err-exp.was at c.get_inline_expression.ensures.reads))

pub get_expression-returns-in_err-after_inline-clause-reads : goal.get_expression-returns-in_err-after_inline-clause-reads
get_expression-returns-in_err-after_inline-clause-reads t c =
    let p = err_from_is_err_and c.from_residual-in_err-after_inline.result c.from_residual-in_err-after_inline.ensures.1 in
    rw (p.1, p.2)
    (expression-refused _ (level c.args.left) (rw c.in_ok-exp.was at c.get_inline_expression.ensures.reads)
    (rw c.in_err-after_inline.was at c.after_inline.ensures))

pub get_expression-returns-then-not-branch-clause-reads : goal.get_expression-returns-then-not-branch-clause-reads
get_expression-returns-then-not-branch-clause-reads t c =
    expression-alone _ (level c.args.left) (rw c.in_ok-exp.was at c.get_inline_expression.ensures.reads)
    (rw (c.in_ok-after_inline.was, c.if-not-branch.true) at c.after_inline.ensures)

pub get_expression-insert-requires-clause-room : goal.get_expression-insert-requires-clause-room
get_expression-insert-requires-clause-room t c =
    let q = c.get_inline_expression.new.self in
    let r = reads-room _ ((inline-expression-bounds (level-bounds c.args.left) false).on _)
    (rw c.in_ok-exp.was at c.get_inline_expression.ensures.reads) in
    record { room = omega (arith, r.room, c.requires.spent, q.holds, q.source.inside) }

pub get_expression-get_variants-requires : goal.get_expression-get_variants-requires
get_expression-get_variants-requires t c =
    let r = reads-room _ ((inline-expression-bounds (level-bounds c.args.left) false).on _)
    (rw c.in_ok-exp.was at c.get_inline_expression.ensures.reads) in
    let g = rw (c.in_ok-after_inline.was, c.if-not-branch.false) at c.after_inline.ensures in
    omega (
      arith,
      r.room,
      r.onward,
      g.is.0,
      length-same g.bytes,
      length-same c.get_inline_expression.ensures.reads.frame.bytes,
      c.after_inline.new.self.inside,
      c.insert.ensures.count,
      c.decreases,
      c.requires,
    )

pub get_expression-returns-in_err-get_variants-clause-reads : goal.get_expression-returns-in_err-get_variants-clause-reads
get_expression-returns-in_err-get_variants-clause-reads t c =
    let p = err_from_is_err_and c.from_residual-in_err-get_variants.result c.from_residual-in_err-get_variants.ensures.1 in
    rw (p.1, p.2)
    (stop-select _ (level c.args.left) (rw c.in_ok-exp.was at c.get_inline_expression.ensures.reads)
    (rw (c.in_ok-after_inline.was, c.if-not-branch.false) at c.after_inline.ensures) c.insert.ensures
    (rw c.in_err-get_variants.was at c.get_variants.ensures.reads))

pub get_expression-close-requires : goal.get_expression-close-requires
get_expression-close-requires t c =
    let q = c.get_variants.new.self in
    let r = reads-room _ ((inline-expression-bounds (level-bounds c.args.left) false).on _)
    (rw c.in_ok-exp.was at c.get_inline_expression.ensures.reads) in
    let g = rw (c.in_ok-after_inline.was, c.if-not-branch.false) at c.after_inline.ensures in
    let v = reads-room _ ((variants-bounds (level-bounds c.args.left)).on _) (rw c.in_ok-get_variants.was at c.get_variants.ensures.reads) in
    record { room = omega (arith, r.room, g.is.0, v.room, c.insert.ensures.count, c.requires.spent, q.holds, q.source.inside) }

pub get_expression-returns-clause-reads : goal.get_expression-returns-clause-reads
get_expression-returns-clause-reads t c =
    reads-select _ (level c.args.left) (rw c.in_ok-exp.was at c.get_inline_expression.ensures.reads)
    (rw (c.in_ok-after_inline.was, c.if-not-branch.false) at c.after_inline.ensures) c.insert.ensures
    (rw c.in_ok-get_variants.was at c.get_variants.ensures.reads) c.close.ensures
