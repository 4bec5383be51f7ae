-- `get_variants`, a member of the cycle.
use native.Mathlib.Omega.{arith}
use mathlib.Core.Path.{◌∙◌, refl}
use Rattle.std.proofs.lemmas.Result.{err_from_is_err_and}
use Rattle.syntax.specs.Expression.{level}
use Rattle.entry.proofs.Chains.{reads-room}
use Rattle.entry.proofs.Cycle.{length-same}
use Rattle.entry.proofs.Variants.{going-none, next-bad, variants-stop, variants-end, with-bounds, going-on, or-true, or_false}
use Rattle.entry.proofs.parser.Parser.+placeable.Goals as goal

pub get_variants-loop-default-init : goal.get_variants-loop-default-init
get_variants-loop-default-init t c = record {
  same = refl;
  going =
      going-none _ _ _ (omega (arith, c.requires.spent));
}

pub get_variants-returns-in_err-default-clause-reads : goal.get_variants-returns-in_err-default-clause-reads
get_variants-returns-in_err-default-clause-reads t c =
    let p = err_from_is_err_and c.from_residual.result c.from_residual.ensures.1 in
    rw (p.1, p.2)
    (c.loop-default.invariant.going.on _ _ _
    (next-bad (level c.args.left) c.loop-default.has_default (rw c.in_err-default.was at c.next_variant.ensures)))

pub get_variants-get_variant-requires : goal.get_variants-get_variant-requires
get_variants-get_variant-requires t c =
    let n = rw (c.in_ok-default.was, c.in-Some.is) at c.next_variant.ensures in
    let g = c.loop-default.invariant.going in (
      omega (
        arith,
        n.is.0,
        g.from,
        g.spent,
        length-same n.bytes,
        length-same g.frame.bytes,
        c.decreases,
      ),
      (n.is.1, record { spent = omega (arith, n.is.0, g.spent) }),
    )

pub get_variants-returns-in_err-get_variant-clause-reads : goal.get_variants-returns-in_err-get_variant-clause-reads
get_variants-returns-in_err-get_variant-clause-reads t c =
    let p = err_from_is_err_and c.from_residual-in_err-get_variant.result c.from_residual-in_err-get_variant.ensures.1 in
    let n = rw (c.in_ok-default.was, c.in-Some.is) at c.next_variant.ensures in
    rw (p.1, p.2)
    (c.loop-default.invariant.going.on _ _ _
    (variants-stop _ _ c.args.left c.in-Some.default c.loop-default.has_default n.bytes n.is.0 (n.is.2 (level c.args.left))
    (rw c.in_err-get_variant.was at (c.get_variant.ensures.reads c.loop-default.has_default))))

pub get_variants-loop-default-smaller-then-has_default : goal.get_variants-loop-default-smaller-then-has_default
get_variants-loop-default-smaller-then-has_default t c =
    let n = rw (c.in_ok-default.was, c.in-Some.is) at c.next_variant.ensures in
    let r = reads-room _ ((with-bounds c.args.left c.in-Some.default c.loop-default.has_default).on _)
    (rw c.in_ok-get_variant.was at (c.get_variant.ensures.reads c.loop-default.has_default)) in
    let l = (c.get_variant.ensures.reads c.loop-default.has_default).frame.bytes in
    omega (arith, n.is.0, r, length-same n.bytes, length-same l, c.get_variant.new.self.source.inside)

pub get_variants-loop-default-preserved-then-has_default : goal.get_variants-loop-default-preserved-then-has_default
get_variants-loop-default-preserved-then-has_default t c = record {
  same = c.get_variant.ensures.same ∙ c.loop-default.invariant.same;
  going =
      let n = rw (c.in_ok-default.was, c.in-Some.is) at c.next_variant.ensures in
      let d = rw c.in_ok-get_variant.was at (c.get_variant.ensures.reads c.loop-default.has_default) in
      let h = or-true c.in-Some.default in
      going-on c.args.left c.in-Some.default c.loop-default.has_default c.loop-default.invariant.going n.bytes n.is.0 (n.is.2 (level c.args.left)) d
      (rw c.if-has_default.true h);
}

pub get_variants-loop-default-smaller : goal.get_variants-loop-default-smaller
get_variants-loop-default-smaller t c =
    let n = rw (c.in_ok-default.was, c.in-Some.is) at c.next_variant.ensures in
    let r = reads-room _ ((with-bounds c.args.left c.in-Some.default c.loop-default.has_default).on _)
    (rw c.in_ok-get_variant.was at (c.get_variant.ensures.reads c.loop-default.has_default)) in
    let l = (c.get_variant.ensures.reads c.loop-default.has_default).frame.bytes in
    omega (arith, n.is.0, r, length-same n.bytes, length-same l, c.get_variant.new.self.source.inside)

pub get_variants-loop-default-preserved : goal.get_variants-loop-default-preserved
get_variants-loop-default-preserved t c = record {
  same = c.get_variant.ensures.same ∙ c.loop-default.invariant.same;
  going =
      let n = rw (c.in_ok-default.was, c.in-Some.is) at c.next_variant.ensures in
      let d = rw c.in_ok-get_variant.was at (c.get_variant.ensures.reads c.loop-default.has_default) in
      going-on c.args.left c.in-Some.default c.loop-default.has_default c.loop-default.invariant.going n.bytes n.is.0 (n.is.2 (level c.args.left)) d
      (rw c.if-has_default.false (or_false c.in-Some.default));
}

pub get_variants-returns-clause-reads : goal.get_variants-returns-clause-reads
get_variants-returns-clause-reads t c =
    let n = rw (c.in_ok-default.was, c.in_default.is) at c.next_variant.ensures in
    c.loop-default.invariant.going.on _ _ _
    (variants-end (level c.args.left) c.loop-default.has_default n.bytes n.is.0 (n.is.1 (level c.args.left)))
