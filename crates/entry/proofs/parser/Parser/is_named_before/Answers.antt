-- `is_named_before` meets its contract.
use Rattle.std.specs.Prelude.{◌≡◌, ◌+◌, ◌&&◌, false, eqb}
use native.Mathlib.Omega.{arith}
use mathlib.Core.Path.{refl, sym, ◌∙◌}
use Rattle.syntax.specs.Expression.{same_bytes}
use Rattle.entry.specs.Names.{name_at}
use Rattle.entry.proofs.NamedBefore.{looking-none, looking-name, looking-deep, looking-found, looking-open, looking-close, looking-end}
use Rattle.entry.proofs.NamedBefore.{same-name, no-name}
use Rattle.entry.proofs.parser.Parser.is_named_before.Goals as goal
use Rattle.entry.proofs.parser.Parser.is_named_before.Goals.{then-kind-lt-CLOSING, else-kind-lt-CLOSING}
use Rattle.entry.proofs.parser.Parser.is_named_before.Goals.{else-depth-eq0-via-then-depth-eq0+else-eq, else-depth-eq0-via-else-depth-eq0}

pub loop-i-init : goal.loop-i-init
loop-i-init c = looking-none _ c.requires

pub name_at-requires : goal.name_at-requires
name_at-requires c = looking-name c.loop-i.invariant c.loop-i-test.true c.requires c.if-depth-eq0.true

pub returns-then-eq : goal.returns-then-eq
returns-then-eq c =
    record {
      is =
          looking-found c.loop-i.invariant c.loop-i-test.true
          (same-name _ _ _ c.if-depth-eq0.true c.eq.ensures c.name_at.ensures) c.if-eq.true;
    }

pub overflow_add-depth : goal.overflow_add-depth
overflow_add-depth c = omega (arith, c.loop-i-test.true, c.loop-i.invariant.small, c.ranges.to)

pub overflow_sub-depth : goal.overflow_sub-depth
overflow_sub-depth c =
    let i : 2 + c.loop-i.i ≡ c.loop-i.i + 2 = omega arith in
    looking-deep c.loop-i.invariant c.loop-i-test.true c.requires (rw (c.kind.ensures, i) at c.if-kind-lt-CLOSING.false)

pub loop-i-preserved : goal.loop-i-preserved
loop-i-preserved c =
    let p = c.args.self.now in
    let i : 2 + c.loop-i.i ≡ c.loop-i.i + 2 = omega arith in
    let e : false ≡ eqb c.loop-i.depth 0
    && same_bytes c.args.name.now (name_at p.source.bytes.now p.tree.now.words.now p.tree.now.capacity c.loop-i.i) =
    elim c.else-depth-eq0.branch [
      | else-depth-eq0-via-then-depth-eq0+else-eq w ↦
          sym w.if-eq.false ∙ same-name _ _ _ w.if-depth-eq0.true w.eq.ensures w.name_at.ensures
      | else-depth-eq0-via-else-depth-eq0 w ↦ no-name _ w.if-depth-eq0.false
    ] in
    elim c.if-kind-lt-CLOSING.branch [
      | then-kind-lt-CLOSING w ↦
          rw w.depth-is (looking-open c.loop-i.invariant c.loop-i-test.true e refl (rw (c.kind.ensures, i) at w.if-kind-lt-CLOSING.true))
      | else-kind-lt-CLOSING w ↦
          rw w.depth-is (looking-close c.loop-i.invariant c.loop-i-test.true e refl (rw (c.kind.ensures, i) at w.if-kind-lt-CLOSING.false))
    ]

pub returns : goal.returns
returns c = record { is = looking-end c.loop-i.invariant c.loop-i-test.false }
