-- Moves over a source, one after the other.
use Rattle.std.specs.Prelude.{◌≡◌, ℕ, ◌+◌, ◌-◌, ◌≤◌, true, Ok, Err, List, [], drop}
use mathlib.Core.Path.{refl, sym, ap, ◌∙◌}
use native.Mathlib.Nat.{add-zero}
use native.Mathlib.Omega.{arith}
use lib.Seq.{drop-drop}
use Rattle.syntax.specs.Bytes.{starts_with}
use Rattle.syntax.specs.declared.errors.ErrorKind.{ErrorKind}
use Rattle.syntax.specs.declared.errors.ParserError.{ParserError}
use Rattle.syntax.specs.Errors.{up_kind, up_fault, fault_at}
use Rattle.syntax.specs.Marks.{move_up}
use Rattle.syntax.specs.Reader.{Out, ok, Reader, after, next, ◌>>=◌, ◌>>◌, pure, fail}
use Rattle.syntax.specs.Helper.{expect_byte}
use Rattle.laws.specs.Moving.{after-after, after_none}
use Rattle.entry.specs.declared.errors.Stop.TheVariants.{Error}
use Rattle.entry.specs.declared.source.Source.{Source}
use Rattle.entry.specs.Place.{Went}
use Rattle.entry.specs.Reads.{rest, Goes, Finds}
use Rattle.entry.specs.Shape.{Fails}
use Rattle.entry.proofs.Moves.{finds-fail}
use Rattle.entry.proofs.Places.{found_ok, found_at, found-bad, expect-yes}
use Rattle.entry.proofs.Dids.{fault-up}

went_then : {A B : Type 0} {s : List ℕ} {at i r : ℕ} {o : Out A} {a : A} {b : B} (q : A → Reader B) → Went s at o a i
    → Went s i (q a (drop i s)) b r → Went s at (next (drop at s) q o) b r
unfolding next after move_up
went_then {s = s} {at} {i} {r} {a = a} {b} q w v =
    let l = w.onward in
    let m = v.onward in
    let j : at + (i - at) ≡ i = omega arith in
    let k : i - at + (r - i) ≡ r - at = omega arith in
    record { answers = rw (w.answers, drop-drop, j, v.answers) (ap (ok b []) k); onward = omega arith; within = v.within }

-- ---- answers
module _ {A B : Type 0} {s s₁ s₂ : Source} {a : A} {b : B} where
  goes_next : {o : Out A} (q : A → Reader B) → Goes s s₁ o a → Goes s₁ s₂ (q a (rest s₁)) b → Goes s s₂ (next (rest s) q o) b
  goes_next {o} q g h =
      let w : Went s.bytes.now s₁.ptr (q a (drop s₁.ptr s.bytes.now)) b s₂.ptr = rw g.bytes at h.went in
      record { bytes = h.bytes ∙ g.bytes; went = went_then q g.went w }

  pub goes-both : (f : Reader A) (q : Reader B) → Goes s s₁ (f (rest s)) a → Goes s₁ s₂ (q (rest s₁)) b → Goes s s₂ ((f >> q) (rest s)) b
  unfolding ◌>>◌
  goes-both f q g h = goes_next (λ _. q) g h

pub goes-pure : {A : Type 0} (s : Source) (a : A) → Goes s s (pure a (rest s)) a
unfolding pure
goes-pure s a =
    let e : s.ptr - s.ptr ≡ 0 = omega arith in
    record { bytes = refl; went = record { answers = rw e; onward = omega arith; within = s.inside } }

-- ---- results
pub finds-ok : (s : Source) {A : Type 0} (a : A) → Finds s s (pure a (rest s)) (Ok tt)
unfolding pure
finds-ok s a =
    record {
      bytes = refl;
      found = found_ok refl (sym (add-zero s.ptr)) s.inside;
      shallow = λ e. let z : ◌≡◌ {A = ℕ} 0 1 = cc in omega arith;
    }

pub fails-here : {A : Type 0} (s : Source) (kind : ErrorKind) → up_kind s.ptr kind ≡ kind
    → Finds s s (fail {A = A} kind (rest s)) (Err (Error (fault_at kind s.ptr)))
fails-here s kind u = finds-fail (rest s) kind refl u refl

pub finds-goes : {s s₁ : Source} {o : Out (Unit {0})} {u : Unit {0}} → Finds s s₁ o (Ok u) → Goes s s₁ o tt
finds-goes {s} {s₁} {o} h =
    let f = found_at h.found refl in
    record {
      bytes = h.bytes;
      went = record { answers = f.is ∙ ap (ok tt []) (omega (arith, f.place)); onward = omega (arith, f.place); within = h.found.within };
    }

pub finds-fails : {A : Type 0} {s s₁ : Source} {o : Out A} {f : ParserError} → Finds s s₁ o (Err (Error f)) → Fails s.ptr f s₁.ptr o
finds-fails h = let b = found-bad h.found refl in record { fault = b.f; j = b.k; is = b.is; moved = b.error; place = b.place }

-- ---- up to a place, and what is read from there on
pub record Leads {B : Type 0} (at e : ℕ) (x o : Out B) : Type 0 where
  pub is : x ≡ after [] (e - at) o
  pub on : at ≤ e

twice : {B : Type 0} (k j : ℕ) (o : Out B) → after [] k (after [] j o) ≡ after [] (k + j) o
twice k j o = after-after [] k [] j o ∙ (unfold move_up in refl)

pub leads-here : {B : Type 0} (at : ℕ) (o : Out B) → Leads at at o o
leads-here at o = let j : at - at ≡ 0 = omega arith in record { is = rw j (sym (after_none o)); on = omega arith }

leads-more : {A B : Type 0} {at a e : ℕ} {o : Out A} {z : Out B} {v : A} (s : List ℕ) (q : A → Reader B) → o ≡ ok v [] (a - at)
    → at ≤ a → Leads a e (q v (drop a s)) z → Leads at e (next (drop at s) q o) z
unfolding next
leads-more {at = at} {a} {e} {z = z} {v} s q h l g =
    let m = g.on in
    let j : at + (a - at) ≡ a = omega arith in
    let k : a - at + (e - a) ≡ e - at = omega arith in
    let y : after [] (a - at) (q v (drop a s)) ≡ after [] (e - at) z = ap (after [] (a - at)) g.is ∙ twice (a - at) (e - a) z
    ∙ ap (λ (n : ℕ). after [] n z) k in
    record { is = rw (h, drop-drop, j) y; on = omega arith }

module _ {A B : Type 0} {s s₁ : Source} {a : A} {e : ℕ} {z : Out B} where
  pub leads-next : {o : Out A} (q : A → Reader B) → Goes s s₁ o a → Leads s₁.ptr e (q a (rest s₁)) z → Leads s.ptr e (next (rest s) q o) z
  leads-next {o} q g l =
      let w : Leads s₁.ptr e (q a (drop s₁.ptr s.bytes.now)) z = rw g.bytes at l in
      leads-more s.bytes.now q g.went.answers g.went.onward w

  pub leads-then : (f : Reader A) (q : Reader B) → Goes s s₁ (f (rest s)) a → Leads s₁.ptr e (q (rest s₁)) z
      → Leads s.ptr e ((f >> q) (rest s)) z
  unfolding ◌>>◌
  leads-then f q g l = leads-next (λ _. q) g l

  pub leads-bind : (f : Reader A) (q : A → Reader B) → Goes s s₁ (f (rest s)) a → Leads s₁.ptr e (q a (rest s₁)) z
      → Leads s.ptr e ((f >>= q) (rest s)) z
  unfolding ◌>>=◌
  leads-bind f q g l = leads-next q g l

-- past a byte that stands there
pub leads-byte : {B : Type 0} {e : ℕ} {z : Out B} (s : List ℕ) (at b : ℕ) (q : Reader B) → starts_with b (drop at s) ≡ true
    → Leads (at + 1) e (q (drop (at + 1) s)) z → Leads at e ((expect_byte b >> q) (drop at s)) z
unfolding ◌>>◌
leads-byte s at b q h l =
    let k : ◌≡◌ {A = ℕ} 1 (at + 1 - at) = omega arith in
    leads-more s (λ _. q) (expect-yes b (drop at s) h ∙ ap (ok tt []) k) (omega arith) l

-- an error after bytes that were passed
pub fails-after : {B : Type 0} {at e j : ℕ} {f : ParserError} {o x : Out B} → Leads at e x o → Fails e f j o → Fails at f j x
unfolding after
fails-after {at = at} {e} {o = o} l g =
    let m = l.on in
    let j : at + (e - at) ≡ e = omega arith in
    record {
      fault = up_fault (e - at) g.fault;
      j = e - at + g.j;
      is = l.is ∙ ap (after [] (e - at)) g.is;
      moved = g.moved ∙ sym (fault-up at (e - at) g.fault ∙ ap (λ (n : ℕ). up_fault n g.fault) j);
      place = omega (arith, g.place);
    }

pub leads-trans : {B : Type 0} {at a e : ℕ} {x y z : Out B} → Leads at a x y → Leads a e y z → Leads at e x z
leads-trans {at = at} {a} {e} {x} {y} {z} l m =
    let p = l.on in
    let q = m.on in
    let k : a - at + (e - a) ≡ e - at = omega arith in
    record {
      is = l.is ∙ ap (after [] (a - at)) m.is ∙ twice (a - at) (e - a) z ∙ ap (λ (n : ℕ). after [] n z) k;
      on = omega arith;
    }
