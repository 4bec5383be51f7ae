-- Moves over a source, one after the other, as a function's body has them.
use Rattle.std.specs.Prelude.{◌≡◌, ℕ, ◌+◌, ◌-◌, ◌≤◌, Bool, true, false, Result, Ok, Err, List, [], length, drop}
use mathlib.Core.Path.{refl, sym, ◌∙◌}
use native.Mathlib.Omega.{arith}
use Rattle.syntax.specs.Bytes.{starts_with, spaces}
use Rattle.syntax.specs.declared.errors.ErrorKind.{ErrorKind}
use Rattle.syntax.specs.declared.errors.ParserError.{ParserError}
use Rattle.syntax.specs.Errors.{up_kind, fault_at}
use Rattle.syntax.specs.Reader.{Out, ok, Reader, next, ◌>>=◌, ◌>>◌, fail}
use Rattle.syntax.specs.Helper.{take_byte_if, skip_blank_inline}
use Rattle.laws.specs.Bytes.{by_case, clash}
use Rattle.entry.specs.declared.errors.Stop.{Stop}
use Rattle.entry.specs.declared.errors.Stop.TheVariants.{Error, TooDeep}
use Rattle.entry.specs.declared.source.Source.{Source}
use Rattle.entry.specs.Place.{Bad, Passed, Went, Found, Tests}
use Rattle.entry.specs.Reads.{rest, Goes, Finds, place_of}
use Rattle.entry.proofs.Places.{went-ok, found_ok, found-fail, went-next, found-next, found-stop, found_at, take-yes, take_no}

-- ---- one that ends in a value, and one in an error

pub goes : {A : Type 0} {s s' : Source} {o : Out A} {a : A} {k : ℕ} → s'.bytes ≡ s.bytes → o ≡ ok a [] k → s'.ptr ≡ s.ptr + k
    → s'.ptr ≤ length s.bytes.now → Goes s s' o a
goes b h e l = record { bytes = b; went = went-ok h e l }

pub no-stop : {u : Unit {0}} → ◌≡◌ {A = Result (Unit {0}) Stop} (Ok u) (Err TooDeep) → ⊥
no-stop h = let z : ◌≡◌ {A = ℕ} 0 1 = cc in omega arith

pub finds : {A : Type 0} {s s' : Source} {o : Out A} {a : A} {k : ℕ} → s'.bytes ≡ s.bytes → o ≡ ok a [] k → s'.ptr ≡ s.ptr + k
    → s'.ptr ≤ length s.bytes.now → Finds s s' o (Ok tt)
finds b h e l = record { bytes = b; found = found_ok h e l; shallow = no-stop }

pub finds-fail : {A : Type 0} {s : Source} {o : Out A} {r : Result (Unit {0}) Stop} (x : List ℕ) (kind : ErrorKind) → o ≡ fail kind x
    → up_kind s.ptr kind ≡ kind → r ≡ Err (Error (fault_at kind s.ptr)) → Finds s s o r
finds-fail {s = s} x kind h u e =
    rw e (record { bytes = refl; found = found-fail x kind h s.inside u refl; shallow = λ q. let z : ◌≡◌ {A = ℕ} 0 1 = cc in omega arith })

pub finds-bad : {A : Type 0} {s s' : Source} {o : Out A} {r : Result (Unit {0}) Stop} {f : ParserError} → s'.bytes ≡ s.bytes
    → Found s.bytes.now s.ptr o (Bad f s'.ptr) → r ≡ Err (Error f) → Finds s s' o r
finds-bad b f e = rw e (record { bytes = b; found = f; shallow = λ q. let z : ◌≡◌ {A = ℕ} 0 1 = cc in omega arith })

-- an error where nothing was passed
pub finds-stay : {A : Type 0} {s s' : Source} {o : Out A} {r : Result (Unit {0}) Stop} (x : List ℕ) (kind : ErrorKind) → s'.bytes ≡ s.bytes
    → s'.ptr ≡ s.ptr → o ≡ fail kind x → up_kind s.ptr kind ≡ kind → r ≡ Err (Error (fault_at kind s'.ptr)) → Finds s s' o r
finds-stay {s = s} x kind b p h u e = finds-bad b (rw p (found-fail x kind h s.inside u refl)) e

-- ---- one after the other

module _ {A B : Type 0} {s s₁ s₂ : Source} {r : Result (Unit {0}) Stop} where
  pub goes-next : (q : A → Reader B) {o : Out A} {a : A} → Goes s s₁ o a → Finds s₁ s₂ (q a (rest s₁)) r
      → Finds s s₂ (next (rest s) q o) r
  goes-next q {a = a} g f =
      let f' : Found s.bytes.now s₁.ptr (q a (drop s₁.ptr s.bytes.now)) (place_of r s₂.ptr) = rw g.bytes at f.found in
      record { bytes = f.bytes ∙ g.bytes; found = went-next q g.went f'; shallow = f.shallow }

  pub goes-bind : (p : Reader A) (q : A → Reader B) {a : A} → Goes s s₁ (p (rest s)) a → Finds s₁ s₂ (q a (rest s₁)) r
      → Finds s s₂ ((p >>= q) (rest s)) r
  unfolding ◌>>=◌
  goes-bind p q g f = goes-next q g f

  pub goes-then : (p : Reader A) (q : Reader B) {a : A} → Goes s s₁ (p (rest s)) a → Finds s₁ s₂ (q (rest s₁)) r
      → Finds s s₂ ((p >> q) (rest s)) r
  unfolding ◌>>◌
  goes-then p q g f = goes-next (λ _. q) g f

module _ {B : Type 0} {s s₁ s₂ : Source} {r : Result (Unit {0}) Stop} where
  pub finds-then : (p : Reader (Unit {0})) (q : Reader B) → Finds s s₁ (p (rest s)) (Ok tt) → Finds s₁ s₂ (q (rest s₁)) r
      → Finds s s₂ ((p >> q) (rest s)) r
  unfolding ◌>>◌
  finds-then p q g f =
      let h = found_at g.found refl in
      let f' : Found s.bytes.now s₁.ptr (q (drop s₁.ptr s.bytes.now)) (place_of r s₂.ptr) = rw g.bytes at f.found in
      record { bytes = f.bytes ∙ g.bytes; found = found-next (λ _. q) h.is h.place f'; shallow = f.shallow }

-- the first one fails
pub stop-next : {A B : Type 0} {s s₁ : Source} (q : A → Reader B) (o : Out A) (e : Stop) → Finds s s₁ o (Err e)
    → Finds s s₁ (next (rest s) q o) (Err e)
stop-next {s = s} q o (Error f) g = record { bytes = g.bytes; found = found-stop (rest s) q g.found refl; shallow = g.shallow }
stop-next q o TooDeep g = absurd (g.shallow refl)

pub stop-then : {A B : Type 0} {s s₁ : Source} {e : Stop} (p : Reader A) (q : Reader B) → Finds s s₁ (p (rest s)) (Err e)
    → Finds s s₁ ((p >> q) (rest s)) (Err e)
unfolding ◌>>◌
stop-then {s = s} {e = e} p q g = stop-next (λ _. q) (p (rest s)) e g

-- ---- what take_byte_if and skip_blank_inline answered

pub took : (b : ℕ) {s : List ℕ} {at i : ℕ} {r : Bool} → Went s at (take_byte_if b (drop at s)) r i → Tests (starts_with b) s at r
took b {s} {at} {i} {r} w = by_case (starts_with b (drop at s)) yes not
  where
    yes : starts_with b (drop at s) ≡ true → Tests (starts_with b) s at r
    yes q =
        let h = sym (take-yes b (drop at s) q) ∙ w.answers in
        let v : starts_with b (drop at s) ≡ r = cc in
        let k : 1 ≡ i - at = cc in
        record { is = sym v; here = λ t. omega (arith, w.within, k) }

    not : starts_with b (drop at s) ≡ false → Tests (starts_with b) s at r
    not q =
        let h = sym (take_no b (drop at s) q) ∙ w.answers in
        let v : starts_with b (drop at s) ≡ r = cc in
        record { is = sym v; here = λ t. clash t (sym v ∙ q) }

pub took_one : (b : ℕ) {s : List ℕ} {at i : ℕ} {r : Bool} → Went s at (take_byte_if b (drop at s)) r i → r ≡ true → i ≡ at + 1
took_one b {s} {at} {i} w h =
    let t = took b w in
    let q = sym (take-yes b (drop at s) (sym t.is ∙ h)) ∙ w.answers in
    let k : 1 ≡ i - at = cc in
    omega (arith, w.onward, k)

pub took-none : (b : ℕ) {s : List ℕ} {at i : ℕ} {r : Bool} → Went s at (take_byte_if b (drop at s)) r i → r ≡ false → i ≡ at
took-none b {s} {at} {i} w h =
    let t = took b w in
    let q = sym (take_no b (drop at s) (sym t.is ∙ h)) ∙ w.answers in
    let k : 0 ≡ i - at = cc in
    omega (arith, w.onward, k)

pub record Blank (s : List ℕ) (at n i : ℕ) : Type 0 where
  pub is : n ≡ spaces (drop at s)
  pub passed : Passed s at (spaces (drop at s)) i

pub blank : {s : List ℕ} {at n i : ℕ} → Went s at (skip_blank_inline (drop at s)) n i → Blank s at n i
unfolding skip_blank_inline
blank {s} {at} {n} {i} w =
    let h = w.answers in
    let v : spaces (drop at s) ≡ n = cc in
    let k : spaces (drop at s) ≡ i - at = cc in
    record { is = sym v; passed = record { end = omega (arith, w.onward, k); within = w.within } }
