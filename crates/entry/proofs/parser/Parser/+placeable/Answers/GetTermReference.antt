-- `get_term_reference`, a member of the cycle.
use native.Mathlib.Omega.{arith}
use mathlib.Core.Path.{refl}
use Rattle.std.proofs.lemmas.Result.{err_from_is_err_and}
use Rattle.syntax.specs.Byte as Byte
use Rattle.syntax.specs.Expression.{term, term_reference}
use Rattle.laws.specs.Bounds.Helper.{identifier-bounds}
use Rattle.laws.specs.Bounds.Expression.{level-bounds, accessor-bounds, call-bounds}
use Rattle.entry.proofs.Chains.{reads-then, reads-plain, reads-pure, reads-room, stop-then, stop-bind}
use Rattle.entry.proofs.Cycle.{length-same, with-here, reads-byte, reads-inline, reads-inline-stop}
use Rattle.entry.proofs.parser.Parser.+placeable.Goals as goal

pub get_term_reference-open-requires : goal.get_term_reference-open-requires
get_term_reference-open-requires t c =
    let p = c.args.self.now in
    record { room = omega (arith, with-here Byte.minus p.source c.requires.begins, c.requires.room.spent, p.holds) }

pub get_term_reference-invariant_of-self : goal.get_term_reference-invariant_of-self
get_term_reference-invariant_of-self t c =
    let p = c.args.self.now in
    record { inside = omega (arith, with-here Byte.minus p.source c.requires.begins); short = p.source.short }

pub get_term_reference-returns-in_err-get_identifier-clause-reads : goal.get_term_reference-returns-in_err-get_identifier-clause-reads
unfolding term_reference
get_term_reference-returns-in_err-get_identifier-clause-reads t c =
    let p = err_from_is_err_and c.from_residual.result c.from_residual.ensures.1 in
    rw (p.1, p.2)
    (reads-inline-stop _ _ c.open.ensures
    (reads-then _ _ (reads-byte Byte.minus c.requires.begins refl refl)
    (stop-then _ _ (rw c.in_err-get_identifier.was at c.get_identifier.ensures.reads))))

pub get_term_reference-get_attribute_accessor-requires : goal.get_term_reference-get_attribute_accessor-requires
get_term_reference-get_attribute_accessor-requires t c =
    let r = reads-room _ ((identifier-bounds {n = 0} 9).on _) (rw c.in_ok-get_identifier.was at c.get_identifier.ensures.reads) in
    record { spent = omega (arith, r.room, c.open.ensures.count, c.requires.room.spent) }

pub get_term_reference-returns-in_err-attribute-clause-reads : goal.get_term_reference-returns-in_err-attribute-clause-reads
unfolding term_reference
get_term_reference-returns-in_err-attribute-clause-reads t c =
    let p = err_from_is_err_and c.from_residual-in_err-attribute.result c.from_residual-in_err-attribute.ensures.1 in
    rw (p.1, p.2)
    (reads-inline-stop _ _ c.open.ensures
    (reads-then _ _ (reads-byte Byte.minus c.requires.begins refl refl)
    (reads-then _ _ (rw c.in_ok-get_identifier.was at c.get_identifier.ensures.reads)
    (stop-bind _ _ (rw c.in_err-attribute.was at c.get_attribute_accessor.ensures.reads)))))

pub get_term_reference-get_call_arguments-requires : goal.get_term_reference-get_call_arguments-requires
get_term_reference-get_call_arguments-requires t c =
    let r = reads-room _ ((identifier-bounds {n = 0} 9).on _) (rw c.in_ok-get_identifier.was at c.get_identifier.ensures.reads) in
    let a = reads-room _ ((accessor-bounds {n = 0}).on _) (rw c.in_ok-attribute.was at c.get_attribute_accessor.ensures.reads) in
    omega (
      arith,
      r.room,
      r.onward,
      a.room,
      a.onward,
      c.open.ensures.count,
      with-here Byte.minus c.args.self.now.source c.requires.begins,
      length-same c.get_identifier.ensures.reads.frame.bytes,
      length-same c.get_attribute_accessor.ensures.reads.frame.bytes,
      c.decreases,
      c.requires.room,
    )

pub get_term_reference-returns-in_err-get_call_arguments-clause-reads : goal.get_term_reference-returns-in_err-get_call_arguments-clause-reads
unfolding term_reference
get_term_reference-returns-in_err-get_call_arguments-clause-reads t c =
    let p =
    err_from_is_err_and c.from_residual-in_err-get_call_arguments.result c.from_residual-in_err-get_call_arguments.ensures.1 in
    rw (p.1, p.2)
    (reads-inline-stop _ _ c.open.ensures
    (reads-then _ _ (reads-byte Byte.minus c.requires.begins refl refl)
    (reads-then _ _ (rw c.in_ok-get_identifier.was at c.get_identifier.ensures.reads)
    (reads-plain _ _ (rw c.in_ok-attribute.was at c.get_attribute_accessor.ensures.reads)
    (stop-then _ _ (rw c.in_err-get_call_arguments.was at c.get_call_arguments.ensures.reads))))))

pub get_term_reference-close-requires : goal.get_term_reference-close-requires
get_term_reference-close-requires t c =
    let q = c.get_call_arguments.new.self in
    let r = reads-room _ ((identifier-bounds {n = 0} 9).on _) (rw c.in_ok-get_identifier.was at c.get_identifier.ensures.reads) in
    let a = reads-room _ ((accessor-bounds {n = 0}).on _) (rw c.in_ok-attribute.was at c.get_attribute_accessor.ensures.reads) in
    let v = reads-room _ ((call-bounds (level-bounds c.args.left)).on _)
    (rw c.in_ok-get_call_arguments.was at c.get_call_arguments.ensures.reads) in
    record { room = omega (arith, r.room, a.room, v.room, c.open.ensures.count, c.requires.room.spent, q.holds, q.source.inside) }

pub get_term_reference-returns-clause-reads : goal.get_term_reference-returns-clause-reads
unfolding term_reference
get_term_reference-returns-clause-reads t c =
    reads-inline _ _ c.open.ensures
    (reads-then _ _ (reads-byte Byte.minus c.requires.begins refl refl)
    (reads-then _ _ (rw c.in_ok-get_identifier.was at c.get_identifier.ensures.reads)
    (reads-plain _ _ (rw c.in_ok-attribute.was at c.get_attribute_accessor.ensures.reads)
    (reads-then _ _ (rw c.in_ok-get_call_arguments.was at c.get_call_arguments.ensures.reads)
    (reads-pure _ _ (term c.in_ok-attribute.attribute) _))))) c.close.ensures
