-- `source::Source::skip_blank` meets its contract.
use mathlib.Core.Path.{refl, sym, ◌∙◌}
use native.Mathlib.Omega.{arith}
use Rattle.syntax.specs.Helper.{blank_turn}
use Rattle.entry.proofs.Turns.{turning-none}
use Rattle.entry.proofs.Blanks.{blanks-space, blanks-eol, blanks-went}
use Rattle.entry.proofs.source.Source.skip_blank.Goals as goal

pub loop-ptr-init : goal.loop-ptr-init
loop-ptr-init c = turning-none blank_turn _ _ _ c.args.self.now.inside

pub loop-ptr-preserved-then-is_byte_at : goal.loop-ptr-preserved-then-is_byte_at
loop-ptr-preserved-then-is_byte_at c =
    let b = c.is_byte_at.ensures in
    blanks-space c.loop-ptr.invariant (b.here c.if-is_byte_at.true) (sym b.is ∙ c.if-is_byte_at.true)

pub loop-ptr-preserved : goal.loop-ptr-preserved
loop-ptr-preserved c =
    blanks-eol c.loop-ptr.invariant (sym c.is_byte_at.ensures.is ∙ c.if-is_byte_at.false) c.eol_width-n.ensures (omega (arith, c.if-n-eq0.false))

pub overflow_add-ptr-in-loop-ptr : goal.overflow_add-ptr-in-loop-ptr
overflow_add-ptr-in-loop-ptr c = record { fits = omega (arith, (loop-ptr-preserved c).inside) }

pub loop-ptr-smaller : goal.loop-ptr-smaller
loop-ptr-smaller c = omega (arith, (loop-ptr-preserved c).inside, c.if-n-eq0.false)

pub returns : goal.returns
returns c =
    record {
      bytes = refl;
      went = blanks-went c.loop-ptr.invariant (sym c.is_byte_at.ensures.is ∙ c.if-is_byte_at.false) c.eol_width-n.ensures c.if-n-eq0.true;
    }
