-- `helper::blank_block` meets its contract: turns over blank lines.
use mathlib.Core.Path.{sym, ◌∙◌}
use native.Mathlib.Omega.{arith}
use Rattle.syntax.specs.Helper.{block_turn}
use Rattle.entry.proofs.Turns.{turning-none}
use Rattle.entry.proofs.Blanks.{spaced-none, spaced-more, block-on, block-went}
use Rattle.entry.proofs.helper.blank_block.Goals as goal

pub loop-next-init : goal.loop-next-init
loop-next-init c = (turning-none block_turn _ _ _ c.requires, spaced-none _ _ c.requires, omega arith)

pub loop-next-preserved-then-is_byte_at : goal.loop-next-preserved-then-is_byte_at
loop-next-preserved-then-is_byte_at c =
    let i = c.loop-next.invariant in
    (i.0, spaced-more i.1 (sym c.is_byte_at.ensures.is ∙ c.if-is_byte_at.true), i.2)

pub returns-then-n-eq0 : goal.returns-then-n-eq0
returns-then-n-eq0 c =
    let i = c.loop-next.invariant in
    block-went i.0 i.1 (sym c.is_byte_at.ensures.is ∙ c.if-is_byte_at.false) (sym c.eol_width-n.ensures ∙ c.if-n-eq0.true)

pub loop-next-preserved : goal.loop-next-preserved
loop-next-preserved c =
    let i = c.loop-next.invariant in
    let t = block-on i.0 i.1 (sym c.is_byte_at.ensures.is ∙ c.if-is_byte_at.false) (sym c.eol_width-n.ensures) (omega (arith, c.if-n-eq0.false)) in
    (t, spaced-none _ _ t.inside, omega (arith, i.2, i.1.onward, c.if-n-eq0.false))

pub overflow_add-next-in-loop-next : goal.overflow_add-next-in-loop-next
overflow_add-next-in-loop-next c = record { fits = omega (arith, (loop-next-preserved c).0.inside) }

pub loop-next-smaller : goal.loop-next-smaller
loop-next-smaller c = omega (arith, (loop-next-preserved c).0.inside, c.if-n-eq0.false)
