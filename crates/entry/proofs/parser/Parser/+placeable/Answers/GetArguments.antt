-- `get_arguments`, a member of the cycle.
use native.Mathlib.Omega.{arith}
use mathlib.Core.Path.{◌∙◌, refl}
use Rattle.std.proofs.lemmas.Result.{err_from_is_err_and}
use Rattle.syntax.specs.Expression.{level}
use Rattle.entry.proofs.Tests.{by}
use Rattle.entry.proofs.Cycle.{length-same}
use Rattle.entry.proofs.ArgumentTurns.{going-from, past, room, on-positional, on-named, on-stop, on-end, is-named}
use Rattle.entry.proofs.parser.Parser.+placeable.Goals as goal

pub get_arguments-loop-self-init : goal.get_arguments-loop-self-init
get_arguments-loop-self-init t c = record {
  same = refl;
  going =
      let p = c.args.self.now in
      going-from (level c.args.left) p.source p.tree.now (omega (arith, c.requires.spent))
      (omega (arith, c.requires.spent, p.holds, p.source.inside));
}

pub get_arguments-get_argument-requires : goal.get_arguments-get_argument-requires
get_arguments-get_argument-requires t c =
    let g = c.loop-self.invariant.going in (
      omega (arith, g.from, length-same g.frame.bytes, c.loop-self.self.source.inside, c.decreases),
      (record { names = g.names; are = g.held }, record { spent = omega (arith, g.spent) }),
    )

pub get_arguments-returns-in_err-get_argument-clause-reads : goal.get_arguments-returns-in_err-get_argument-clause-reads
get_arguments-returns-in_err-get_argument-clause-reads t c =
    let g = c.loop-self.invariant.going in
    let p = err_from_is_err_and c.from_residual.result c.from_residual.ensures.1 in
    rw (p.1, p.2)
    (on-stop c.args.left g (by c.is_argument.ensures c.loop-self-test.true)
    (rw c.in_err-get_argument.was at (c.get_argument.ensures.reads g.names g.held)))

pub get_arguments-loop-self-smaller-in-Positional : goal.get_arguments-loop-self-smaller-in-Positional
get_arguments-loop-self-smaller-in-Positional t c =
    let g = c.loop-self.invariant.going in
    let d = rw c.in_ok-get_argument.was at (c.get_argument.ensures.reads g.names g.held) in
    let l = past c.args.left g (by c.is_argument.ensures c.loop-self-test.true) d in
    omega (arith, l, length-same d.reads.frame.bytes, c.get_argument.new.self.source.inside)

pub get_arguments-loop-self-preserved-in-Positional : goal.get_arguments-loop-self-preserved-in-Positional
get_arguments-loop-self-preserved-in-Positional t c = record {
  same = c.get_argument.ensures.same ∙ c.loop-self.invariant.same;
  going =
      let g = c.loop-self.invariant.going in
      let q = c.get_argument.new.self in
      let h = by c.is_argument.ensures c.loop-self-test.true in
      let d = rw c.in_ok-get_argument.was at (c.get_argument.ensures.reads g.names g.held) in
      on-positional c.args.left g h d c.in-Positional.is
      (room c.args.left g h d);
}

pub get_arguments-loop-self-smaller : goal.get_arguments-loop-self-smaller
get_arguments-loop-self-smaller t c =
    let g = c.loop-self.invariant.going in
    let d = rw c.in_ok-get_argument.was at (c.get_argument.ensures.reads g.names g.held) in
    let l = past c.args.left g (by c.is_argument.ensures c.loop-self-test.true) d in
    omega (arith, l, length-same d.reads.frame.bytes, c.get_argument.new.self.source.inside)

pub get_arguments-loop-self-preserved : goal.get_arguments-loop-self-preserved
get_arguments-loop-self-preserved t c = record {
  same = c.get_argument.ensures.same ∙ c.loop-self.invariant.same;
  going =
      let g = c.loop-self.invariant.going in
      let d = rw c.in_ok-get_argument.was at (c.get_argument.ensures.reads g.names g.held) in
      on-named c.args.left g (by c.is_argument.ensures c.loop-self-test.true) d (is-named _ c.in_default.not-Positional);
}

pub get_arguments-returns-clause-reads : goal.get_arguments-returns-clause-reads
get_arguments-returns-clause-reads t c =
    on-end (level c.args.left) c.loop-self.invariant.going (by c.is_argument.ensures c.loop-self-test.false)
