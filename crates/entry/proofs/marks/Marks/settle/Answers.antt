-- `marks::Marks::settle` meets its contract.
use Rattle.std.specs.Prelude.{◌≡◌, ◌+◌, ◌<◌, get_or}
use borrow.Author.Rules.{rules}
use mathlib.Core.Path.{refl}
use native.Mathlib.Omega.{arith}
use Rattle.entry.proofs.Settle.{indent-fits, settle-none, settle_other, settle-line, settle-all}
use Rattle.entry.proofs.marks.Marks.settle.Goals.{then-words-i-eq-LINE_START, else-words-i-eq-LINE_START}
use Rattle.entry.proofs.marks.Marks.settle.Goals as goal

pub loop-i-init : goal.loop-i-init
loop-i-init c = settle-none _ _ _ _ _ _ c.requires.from_le_count

pub overflow_add-words-then-words-i-eq-LINE_START : goal.overflow_add-words-then-words-i-eq-LINE_START
overflow_add-words-then-words-i-eq-LINE_START c =
    let w : get_or c.loop-i.words (2 + c.args.self.now.capacity + c.loop-i.i) 0 < 4294967296 = search rules in
    let f = indent-fits c.args.source.now _ _ _ w (omega (arith, c.requires.short)) c.indent.ensures in
    record { fits = omega arith }

pub overflow_cast-words : goal.overflow_cast-words
overflow_cast-words c =
    let w : get_or c.loop-i.words (2 + c.args.self.now.capacity + c.loop-i.i) 0 < 4294967296 = search rules in
    record { fits = indent-fits c.args.source.now _ _ _ w (omega (arith, c.requires.short)) c.indent.ensures }

pub loop-i-preserved : goal.loop-i-preserved
loop-i-preserved c =
    let k : 2 + c.loop-i.i ≡ c.loop-i.i + 2 = omega arith in
    let q : 2 + c.args.self.now.capacity + c.loop-i.i ≡ c.args.self.now.capacity + c.loop-i.i + 2 = omega arith in
    elim c.if-words-i-eq-LINE_START.branch [
      | then-words-i-eq-LINE_START w ↦ rw (w.words-is, w.number.ensures, k, q)
          (settle-line _ _ _ _ _ _ _ _ _ (omega (arith, c.requires.room)) c.args.self.now.layout c.loop-i.invariant (omega (arith, c.min-i-end.ensures, c.loop-i-test.true))
          (rw k at w.if-words-i-eq-LINE_START.true) (rw q at w.indent.ensures))
      | else-words-i-eq-LINE_START w ↦ rw w.words-is
          (settle_other _ _ _ _ _ _ _ _ c.loop-i.invariant (omega (arith, c.min-i-end.ensures, c.loop-i-test.true)) (rw k at w.if-words-i-eq-LINE_START.false))
    ]

pub returns : goal.returns
returns c = record {
  same = record { words = refl; capacity = refl };
  count = refl;
  settled = settle-all _ _ _ _ _ _ _ _ _ c.loop-i.invariant (omega (arith, c.min-i-end.ensures, c.loop-i-test.false)) c.requires.none_after;
}
