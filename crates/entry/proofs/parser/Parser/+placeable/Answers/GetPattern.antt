-- `get_pattern`, a member of the cycle.
use mathlib.Core.Path.{refl, sym, ◌∙◌}
use native.Mathlib.Omega.{arith}
use Rattle.std.proofs.lemmas.Result.{err_from_is_err_and}
use Rattle.laws.specs.Bounds.Expression.{level-bounds}
use Rattle.laws.specs.Formed.Expression.{level-formed}
use Rattle.entry.proofs.Patterns.{shorter, going_start, going-left, going-room, exit-ends, exit-did, text-less, text-next, text-ends}
use Rattle.entry.proofs.Patterns.{text-end-did, text-stops, placeable-in, placeable-next, placeable-stops}
use Rattle.entry.proofs.parser.Parser.+placeable.Goals.{get_pattern-else-loop-self-test, get_pattern-then-loop-self-test+else-is_current_byte+in_ok-next+in_default}
use Rattle.entry.proofs.parser.Parser.+placeable.Goals as goal

pub get_pattern-loop-self-init : goal.get_pattern-loop-self-init
get_pattern-loop-self-init t c = record {
  same = refl;
  going =
      going_start c.requires c.open.ensures refl c.start_pattern-st.ensures;
}

pub get_pattern-open-requires-then-is_current_byte : goal.get_pattern-open-requires-then-is_current_byte
get_pattern-open-requires-then-is_current_byte t c =
    record { room = omega (arith, going-room c.loop-self.invariant.going c.loop-self-test.true) }

pub get_pattern-get_placeable-requires : goal.get_pattern-get_placeable-requires
get_pattern-get_placeable-requires t c = (
  omega (arith, c.decreases, going-left c.loop-self.invariant.going),
  (
    sym c.is_current_byte.ensures.is ∙ c.if-is_current_byte.true,
    omega (arith, c.loop-self.invariant.going.spent, c.open-then-is_current_byte.ensures.count),
  ),
)

pub get_pattern-returns-in_err-get_placeable-clause-reads : goal.get_pattern-returns-in_err-get_placeable-clause-reads
get_pattern-returns-in_err-get_placeable-clause-reads t c =
    let p = err_from_is_err_and c.from_residual.result c.from_residual.ensures.1 in
    rw (p.1, p.2)
    (placeable-stops c.loop-self.invariant.going c.loop-self-test.true
    (sym c.is_current_byte.ensures.is ∙ c.if-is_current_byte.true) (level-bounds c.args.left) (level-formed c.args.left)
    _ _ _ c.open-then-is_current_byte.ensures c.get_placeable.ensures.reads c.in_err-get_placeable.was)

pub get_pattern-close-requires : goal.get_pattern-close-requires
get_pattern-close-requires t c =
    let o =
    placeable-in c.loop-self.invariant.going c.loop-self-test.true
    (sym c.is_current_byte.ensures.is ∙ c.if-is_current_byte.true) (level-bounds c.args.left) (level-formed c.args.left)
    _ _ _ c.open-then-is_current_byte.ensures c.get_placeable.ensures.reads c.in_ok-get_placeable.was in
    record { room = omega (arith, o.room) }

pub get_pattern-loop-self-smaller-then-is_current_byte : goal.get_pattern-loop-self-smaller-then-is_current_byte
get_pattern-loop-self-smaller-then-is_current_byte t c =
    let o =
    placeable-in c.loop-self.invariant.going c.loop-self-test.true
    (sym c.is_current_byte.ensures.is ∙ c.if-is_current_byte.true) (level-bounds c.args.left) (level-formed c.args.left)
    _ _ _ c.open-then-is_current_byte.ensures c.get_placeable.ensures.reads c.in_ok-get_placeable.was in
    shorter c.loop-self.self.source c.get_placeable.new.self.source c.get_placeable.ensures.reads.frame.bytes o.onward o.within

pub get_pattern-loop-self-preserved-then-is_current_byte : goal.get_pattern-loop-self-preserved-then-is_current_byte
get_pattern-loop-self-preserved-then-is_current_byte t c = record {
  same = c.get_placeable.ensures.same ∙ c.loop-self.invariant.same;
  going =
      rw c.with_placeable-st.ensures
      (placeable-next c.loop-self.invariant.going c.loop-self-test.true
      (sym c.is_current_byte.ensures.is ∙ c.if-is_current_byte.true) (level-bounds c.args.left) (level-formed c.args.left)
      _ _ _ c.open-then-is_current_byte.ensures c.get_placeable.ensures.reads c.in_ok-get_placeable.was refl c.close.ensures);
}

pub get_pattern-text_turn-requires : goal.get_pattern-text_turn-requires
get_pattern-text_turn-requires t c =
    record {
      room = record { spent = c.loop-self.invariant.going.spent };
      inside = c.loop-self-test.true;
      no_brace = sym c.is_current_byte.ensures.is ∙ c.if-is_current_byte.false;
    }

pub get_pattern-returns-in_err-next-clause-reads : goal.get_pattern-returns-in_err-next-clause-reads
get_pattern-returns-in_err-next-clause-reads t c =
    let p = err_from_is_err_and c.from_residual-in_err-next.result c.from_residual-in_err-next.ensures.1 in
    rw (p.1, p.2)
    (text-stops c.loop-self.invariant.going c.loop-self-test.true (sym c.is_current_byte.ensures.is ∙ c.if-is_current_byte.false)
    c.text_turn.ensures.reads c.in_err-next.was)

pub get_pattern-loop-self-smaller : goal.get_pattern-loop-self-smaller
get_pattern-loop-self-smaller t c =
    let o =
    text-less c.loop-self.invariant.going c.loop-self-test.true (sym c.is_current_byte.ensures.is ∙ c.if-is_current_byte.false)
    c.text_turn.ensures.reads c.in-Some.next (rw c.in-Some.is at c.in_ok-next.was) in
    shorter c.loop-self.self.source c.text_turn.new.self.source c.text_turn.ensures.reads.frame.bytes o.0 o.1

pub get_pattern-loop-self-preserved : goal.get_pattern-loop-self-preserved
get_pattern-loop-self-preserved t c = record {
  same = c.text_turn.ensures.same ∙ c.loop-self.invariant.same;
  going =
      text-next c.loop-self.invariant.going c.loop-self-test.true (sym c.is_current_byte.ensures.is ∙ c.if-is_current_byte.false)
      c.text_turn.ensures.reads c.in-Some.next (level-bounds c.args.left) (rw c.in-Some.is at c.in_ok-next.was);
}

pub get_pattern-end_pattern-requires : goal.get_pattern-end_pattern-requires
get_pattern-end_pattern-requires t c =
    elim c.loop-self-test.branch [
      | get_pattern-else-loop-self-test w ↦ rw w.self-is (exit-ends c.loop-self.invariant.going)
      | get_pattern-then-loop-self-test+else-is_current_byte+in_ok-next+in_default w ↦ rw w.self-is
          (text-ends c.loop-self.invariant.going w.loop-self-test.true
          (sym w.is_current_byte.ensures.is ∙ w.if-is_current_byte.false) w.text_turn.ensures.reads
          (rw w.in_default.is at w.in_ok-next.was))
    ]

pub get_pattern-returns-clause-reads : goal.get_pattern-returns-clause-reads
get_pattern-returns-clause-reads t c =
    elim c.loop-self-test.branch [
      | get_pattern-else-loop-self-test w ↦ exit-did c.loop-self.invariant.going w.loop-self-test.false
          (rw w.self-is at c.end_pattern.ensures.reads)
      | get_pattern-then-loop-self-test+else-is_current_byte+in_ok-next+in_default w ↦ text-end-did c.loop-self.invariant.going
          w.loop-self-test.true
          (sym w.is_current_byte.ensures.is ∙ w.if-is_current_byte.false) w.text_turn.ensures.reads
          (rw w.in_default.is at w.in_ok-next.was) (rw w.self-is at c.end_pattern.ensures.reads)
    ]
