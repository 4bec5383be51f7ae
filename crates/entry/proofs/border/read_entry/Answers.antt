-- `border::read_entry` meets its contract, by whether an entry can be read.
use mathlib.Core.Path.{refl, sym, ap, ◌∙◌}
use native.Mathlib.Omega.{arith}
use Rattle.entry.specs.declared.marks.Marks.{Marks}
use Rattle.entry.proofs.Tests.{by}
use Rattle.entry.proofs.Guards.{opened}
use Rattle.entry.proofs.border.read_entry.Goals as goal

pub returns-then-not-is_readable : goal.returns-then-not-is_readable
returns-then-not-is_readable c = rw (by c.is_readable.ensures c.if-not-is_readable.true) (refl, refl)

pub overflow_mul-marks : goal.overflow_mul-marks
overflow_mul-marks c = omega (arith, (opened (by c.is_readable.ensures c.if-not-is_readable.false)).short)

pub invariant_of-marks : goal.invariant_of-marks
invariant_of-marks c = record { layout = (opened (by c.is_readable.ensures c.if-not-is_readable.false)).layout }

pub invariant_of-parser : goal.invariant_of-parser
invariant_of-parser c =
    let o = opened (by c.is_readable.ensures c.if-not-is_readable.false) in
    record { inside = o.inside; short = o.short }

pub get_entry-entry-requires : goal.get_entry-entry-requires
get_entry-entry-requires c = record { spent = (opened (by c.is_readable.ensures c.if-not-is_readable.false)).spent }

pub returns : goal.returns
returns c =
    let a = c.marks-4-1.given.1 (sym c.get_entry-entry.ensures.same) in
    let w = ap (λ (m : Marks). m.words.ghost_name) a ∙ c.get_entry-entry.ensures.reads.frame.tree.words in
    let b = c.tree-1.given.1.1 (sym w) in
    rw (by c.is_readable.ensures c.if-not-is_readable.false, b, a) c.get_entry-entry.ensures.reads.did
