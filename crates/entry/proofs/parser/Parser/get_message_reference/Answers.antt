-- `get_message_reference` meets its contract.
use native.Mathlib.Omega.{arith}
use mathlib.Core.Path.{refl}
use Rattle.std.specs.Prelude.{◌≡◌, ◌+◌, true, [], ◌∷◌}
use Rattle.syntax.specs.Bytes.{starts, run, is_letter, is_name_part}
use Rattle.syntax.specs.Helper.{skip_blank}
use Rattle.entry.specs.Tree.{word}
use Rattle.entry.specs.Marks.{Wrote}
use Rattle.entry.specs.Reads.{rest, Goes}
use Rattle.std.proofs.lemmas.Result.{err_from_is_err_and}
use Rattle.laws.specs.Bounds.Expression.{accessor-bounds}
use Rattle.entry.specs.declared.source.Source.{Source}
use Rattle.entry.proofs.Chains.{reads-room}
use Rattle.entry.proofs.Cycle.{letter-here, reads-inline, reads-inline-stop, name-long}
use Rattle.entry.proofs.References.{reads-message, stop-message}
use Rattle.entry.proofs.parser.Parser.get_message_reference.Goals as goal

pub open-requires : goal.open-requires
open-requires c =
    let p = c.args.self.now in
    record { room = omega (arith, letter-here p.source.bytes.now c.args.start c.requires.begins, c.requires.spent, p.holds) }

pub text-requires-clause-room : goal.text-requires-clause-room
text-requires-clause-room c =
    let p = c.args.self.now in
    record {
      room =
          omega (
            arith,
            letter-here p.source.bytes.now c.args.start c.requires.begins,
            c.requires.spent,
            c.open.ensures.count,
            c.open.ensures.same.capacity,
            p.holds,
          );
    }

pub get_attribute_accessor-requires : goal.get_attribute_accessor-requires
get_attribute_accessor-requires c =
    let p = c.args.self.now in
    let l = name-long p.source.bytes.now c.args.start c.requires.begins in
    record {
      spent =
          omega (
            arith,
            l,
            c.requires.name.end,
            c.requires.blank.onward,
            c.requires.spent,
            c.open.ensures.count,
            c.text.ensures.count,
          );
    }

pub returns-in_err-attribute-clause-reads : goal.returns-in_err-attribute-clause-reads
returns-in_err-attribute-clause-reads c sub s h =
    let p = err_from_is_err_and c.from_residual.result c.from_residual.ensures.1 in
    let f = c.args.self.now.source in
    let e : Source = record { bytes = f.bytes; ptr = c.args.end; inside = c.requires.name.within; short = f.short } in
    let begins : starts is_letter (rest s) ≡ true = rw (h.bytes, ← h.place) at c.requires.begins in
    let end : c.args.end ≡ s.ptr + run is_name_part (rest s) = rw (h.bytes, ← h.place) at c.requires.name.end in
    let text : Wrote c.open.new.self c.text.new.self (word 9 s.ptr ∷ word 109 c.args.end ∷ []) = rw (← h.place) at c.text.ensures in
    let blank : Goes e f (skip_blank (rest e)) tt = record { bytes = refl; went = c.requires.blank } in
    rw (p.1, p.2, ← h.place)
    (reads-inline-stop _ _ c.open.ensures
    (stop-message {s₁ = e} h.bytes begins end text sub blank c.requires.no_call
    (rw c.in_err-attribute.was at c.get_attribute_accessor.ensures.reads)))

pub close-requires : goal.close-requires
close-requires c =
    let p = c.args.self.now in
    let q = c.get_attribute_accessor.new.self in
    let l = name-long p.source.bytes.now c.args.start c.requires.begins in
    let r = reads-room _ ((accessor-bounds {n = 0}).on _) (rw c.in_ok-attribute.was at c.get_attribute_accessor.ensures.reads) in
    record {
      room =
          omega (
            arith,
            r.room,
            l,
            c.requires.name.end,
            c.requires.blank.onward,
            c.requires.spent,
            c.open.ensures.count,
            c.text.ensures.count,
            q.holds,
            q.source.inside,
          );
    }

pub returns-clause-reads : goal.returns-clause-reads
returns-clause-reads c sub s h =
    let f = c.args.self.now.source in
    let e : Source = record { bytes = f.bytes; ptr = c.args.end; inside = c.requires.name.within; short = f.short } in
    let begins : starts is_letter (rest s) ≡ true = rw (h.bytes, ← h.place) at c.requires.begins in
    let end : c.args.end ≡ s.ptr + run is_name_part (rest s) = rw (h.bytes, ← h.place) at c.requires.name.end in
    let text : Wrote c.open.new.self c.text.new.self (word 9 s.ptr ∷ word 109 c.args.end ∷ []) = rw (← h.place) at c.text.ensures in
    let blank : Goes e f (skip_blank (rest e)) tt = record { bytes = refl; went = c.requires.blank } in
    rw (← h.place)
    (reads-inline _ _ c.open.ensures
    (reads-message {s₁ = e} h.bytes begins end text sub blank c.requires.no_call
    (rw c.in_ok-attribute.was at c.get_attribute_accessor.ensures.reads)) c.close.ensures)
