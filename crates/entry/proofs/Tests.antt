-- Tests that the code makes, and what stands at a place of a source.
use Rattle.std.specs.Prelude.{◌≡◌, ℕ, suc, ◌+◌, ◌-◌, ◌<◌, ◌≤◌, Bool, true, false, ◌&&◌, eqb, ltb, List, [], ◌∷◌, length, get_or, drop, Option, Some, None}
use Rattle.std.specs.Option.{is_some, IfSome, MatchOption, option_copied}
use denote.Ref.{Bor}
use mathlib.Core.Path.{refl, sym, ap, ◌∙◌}
use native.Mathlib.Numerals.{add-one}
use native.Mathlib.Omega.{arith}
use Rattle.std.proofs.lemmas.Bool.{false≢true}
use lib.ListN.{drop_of_length-le, length-drop}
use lib.Seq.{drop-cons, drop-drop}
use borrow.Author.Tests.{ltb-true, ltb-false}
use Rattle.syntax.specs.Bytes.{starts_with, starts, second}
use Rattle.entry.specs.Place.{Tests, Starting}

-- a test that the code made, and what came of it
pub by : {A : Type 0} {a b d : A} → a ≡ b → a ≡ d → b ≡ d
by p q = sym p ∙ q

pub both : (a b : Bool) → (a && b) ≡ true → (a ≡ true) × (b ≡ true)
both true true h = (refl, refl)
both true false h = (refl, h)
both false b h = (h, let z : ◌≡◌ {A = ℕ} 0 1 = cc in absurd (omega arith))

-- `starts_with` is a test of the first byte
pub starts-with : (b : ℕ) (x : List ℕ) → starts_with b x ≡ starts (λ y. eqb y b) x
unfolding starts_with starts
starts-with b [] = refl
starts-with b (y ∷ x) = refl

pub starts-at : (p : ℕ → Bool) (s : List ℕ) (i : ℕ) → i < length s → starts p (drop i s) ≡ p (get_or s i 0)
unfolding starts
starts-at p s i h = rw (drop-cons s i 0 h)

pub test-with : (b : ℕ) {s : List ℕ} {i : ℕ} {r : Bool} → Tests (starts (λ y. eqb y b)) s i r → Tests (starts_with b) s i r
test-with b {s} {i} t = record { is = t.is ∙ sym (starts-with b (drop i s)); here = t.here }

-- the byte after the one at a place
pub second-next : (p : ℕ → Bool) (s : List ℕ) (i : ℕ) → second p (drop i s) ≡ starts p (drop (i + 1) s)
second-next p s i = tail (drop i s) ∙ ap (starts p) (drop-drop 1 i s)
  where
    tail : (x : List ℕ) → second p x ≡ starts p (drop 1 x)
    tail [] = unfold second starts in refl
    tail (b ∷ x) = unfold second starts in refl

-- ---- the code got the byte at a place, if there is one

pub record Got (s : List ℕ) (i : ℕ) (o : Option (Bor ℕ)) : Type 0 where
  pub some : is_some o ≡ ltb i (length s)
  pub byte : IfSome o (λ x. x.now ≡ get_or s i x.now)

pub got-none : {s : List ℕ} {i : ℕ} → Got s i None → length s ≤ i
got-none {s} {i} g = ltb-false i (length s) (sym g.some)

pub got_some : {s : List ℕ} {i : ℕ} {x : Bor ℕ} → Got s i (Some x) → i < length s
got_some {s} {i} g = ltb-true i (length s) (sym g.some)

pub got-rest : {s : List ℕ} {i : ℕ} {x : Bor ℕ} → Got s i (Some x) → drop i s ≡ x.now ∷ drop (i + 1) s
got-rest {s} {i} {x} g = rw (drop-cons s i x.now (got_some g), add-one, ← g.byte) refl

pub got_end : {s : List ℕ} {i : ℕ} → Got s i None → drop i s ≡ []
got_end {s} {i} g = drop_of_length-le s (got-none g)

pub test-got : (p : ℕ → Bool) {s : List ℕ} {i : ℕ} {r : Bool} (o : Option (Bor ℕ)) → Got s i o
    → r ≡ elim o [ None ↦ false | Some x ↦ p x.now ] → Tests (starts p) s i r
unfolding starts
test-got p None g e = record { is = e ∙ rw (got_end g) refl; here = λ t. let z : ◌≡◌ {A = ℕ} 0 1 = cc in absurd (omega arith) }
test-got p (Some x) g e = record { is = e ∙ rw (got-rest g) refl; here = λ t. got_some g }

pub starting-got : (answers : ℕ → Bool → Type 0) {s : List ℕ} {i : ℕ} (r : Bool) (o : Option (Bor ℕ)) → Got s i o
    → MatchOption o (r ≡ false) (λ x. answers x.now r) → Starting answers (drop i s) r
unfolding Starting
starting-got answers r None g e = rw (got_end g) e
starting-got answers r (Some x) g e = rw (got-rest g) e

-- a test that answers by p
pub starting-tests : (p : ℕ → Bool) {answers : ℕ → Bool → Type 0} (s : List ℕ) (i : ℕ) {r : Bool}
    → ((b : ℕ) (r : Bool) → answers b r → r ≡ p b) → Starting answers (drop i s) r → Tests (starts p) s i r
unfolding Starting starts
starting-tests p {answers} s i {r} f h = go (drop i s) refl h
  where
    go : (x : List ℕ) → drop i s ≡ x → Starting answers x r → Tests (starts p) s i r
    go [] e q = record { is = rw e q; here = λ t. let z : ◌≡◌ {A = Bool} false true = sym q ∙ t in absurd (false≢true z) }
    go (b ∷ x) e q =
        let l : length (drop i s) ≡ length s - i = length-drop i s in
        let m : length (drop i s) ≡ suc (length x) = ap length e in
        record { is = rw e (f b r q); here = λ t. omega arith }

-- a byte that stands at a place
pub record Stands (s : List ℕ) (i b : ℕ) : Type 0 where
  pub inside : i < length s
  pub rest : drop i s ≡ b ∷ drop (i + 1) s

pub stands : {s : List ℕ} {i b : ℕ} (o : Option (Bor ℕ)) → Got s i o → Some b ≡ option_copied o → Stands s i b
stands None g e = let z : ◌≡◌ {A = ℕ} 0 1 = cc in absurd (omega arith)
stands {b = b} (Some x) g e = let q : b ≡ x.now = cc in record { inside = got_some g; rest = rw q (got-rest g) }

pub stands-none : {s : List ℕ} {i : ℕ} (o : Option (Bor ℕ)) → Got s i o → ◌≡◌ {A = Option ℕ} None (option_copied o) → length s ≤ i
stands-none None g e = got-none g
stands-none (Some x) g e = let z : ◌≡◌ {A = ℕ} 0 1 = cc in absurd (omega arith)
