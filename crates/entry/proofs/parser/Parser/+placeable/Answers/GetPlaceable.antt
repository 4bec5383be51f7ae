-- `get_placeable`, a member of the cycle.
use native.Mathlib.Omega.{arith}
use mathlib.Core.Path.{refl}
use Rattle.std.specs.Prelude.{◌-◌}
use Rattle.std.proofs.lemmas.Result.{err_from_is_err_and}
use Rattle.syntax.specs.Byte as Byte
use Rattle.syntax.specs.Expression.{level, braced, get_expression}
use Rattle.entry.specs.Shape.{placeable_end}
use Rattle.entry.proofs.Chains.{reads-then, reads-goes, stop-bind}
use Rattle.entry.proofs.Cycle.{length-same, with-here, reads-byte, braces-deep, braces-open}
use Rattle.entry.proofs.Selects.{reads-placeable}
use Rattle.entry.proofs.parser.Parser.+placeable.Goals as goal

pub get_placeable-returns-then-left-eq0-clause-reads : goal.get_placeable-returns-then-left-eq0-clause-reads
get_placeable-returns-then-left-eq0-clause-reads t c = braces-deep _ c.if-left-eq0.true

pub get_placeable-invariant_of-self : goal.get_placeable-invariant_of-self
get_placeable-invariant_of-self t c =
    let p = c.args.self.now in
    record { inside = omega (arith, with-here Byte.open_brace p.source c.requires.begins); short = p.source.short }

pub get_placeable-get_expression-requires : goal.get_placeable-get_expression-requires
get_placeable-get_expression-requires t c =
    omega (
      arith,
      with-here Byte.open_brace c.args.self.now.source c.requires.begins,
      c.skip_blank.ensures.went.onward,
      length-same c.skip_blank.ensures.bytes,
      c.decreases,
      c.requires.room,
    )

pub get_placeable-returns-in_err-exp-clause-reads : goal.get_placeable-returns-in_err-exp-clause-reads
unfolding braced
get_placeable-returns-in_err-exp-clause-reads t c =
    let p = err_from_is_err_and c.from_residual.result c.from_residual.ensures.1 in
    rw (p.1, p.2)
    (braces-open _ c.if-left-eq0.false
    (reads-then _ _ (reads-byte Byte.open_brace c.requires.begins refl refl)
    (reads-then _ _ (reads-goes c.skip_blank.ensures)
    (stop-bind _ _ (rw c.in_err-exp.was at c.get_expression.ensures.reads)))))

pub get_placeable-returns-clause-reads : goal.get_placeable-returns-clause-reads
unfolding braced placeable_end
get_placeable-returns-clause-reads t c =
    braces-open _ c.if-left-eq0.false
    (reads-then _ _ (reads-byte Byte.open_brace c.requires.begins refl refl)
    (reads-then _ _ (reads-goes c.skip_blank.ensures)
    (reads-placeable _ (get_expression (level (c.args.left - 1))) (rw c.in_ok-exp.was at c.get_expression.ensures.reads) c.end_placeable.ensures)))
