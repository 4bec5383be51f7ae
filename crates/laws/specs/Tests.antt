-- The tests 1, 2 and 6: which refusal each of them gives, what holds where none is given, and that a refusal of theirs changes nothing.
use Rattle.std.specs.Prelude.{ℕ, ◌≤◌, ◌<◌, ◌≡◌, refl, true, false, List, ltb, length, Ok, Err}
use Rattle.std.proofs.Common.{arith, sym, ap, ◌∙◌, ltb-true, ltb-false, lt-ltb, le-ltb}
use Rattle.std.proofs.Math.Option.{Option, some, none}
use Rattle.utf8.specs.Utf8.{first_ill_formed, is_boundary}
use Rattle.syntax.specs.declared.answer.Refusal.{Refusal}
use Rattle.syntax.specs.declared.answer.Refusal.TheVariants.{TooLong, NotUtf8, IllFormed}
use Rattle.syntax.specs.Answer.{effect_of, untouched}
use Rattle.syntax.specs.Limits.{max_length, max_open}
use Rattle.syntax.specs.Layout.{marks_in}
use Rattle.syntax.specs.Shape.{verdict}
use Rattle.syntax.specs.Tests.{no_mark, sizes_fit, source_refusal, tree_refusal, refusal, tested_of}
use Rattle.laws.specs.Bytes.{by_case}

-- the answer of a function that tests tells the refusal, and back
module _ {o : Option Refusal} where
  pub refused : {r : Refusal} → o ≡ some r → Err r ≡ tested_of o
  unfolding tested_of
  refused e = sym (ap tested_of e)

  pub passed : o ≡ none → Ok tt ≡ tested_of o
  unfolding tested_of
  passed e = sym (ap tested_of e)

pub refusal-of : (o : Option Refusal) (r : Refusal) → Err r ≡ tested_of o → o ≡ some r
unfolding tested_of
refusal-of none r e = let z : ◌≡◌ {A = ℕ} 0 1 = cc in absurd (omega arith)
refusal-of (some b) r e = let same : b ≡ r = cc in ap some same

pub none_of : (o : Option Refusal) → Ok tt ≡ tested_of o → o ≡ none
unfolding tested_of
none_of none e = refl
none_of (some b) e = let z : ◌≡◌ {A = ℕ} 0 1 = cc in absurd (omega arith)

-- what holds where none is given
pub record Passes (s t : List ℕ) : Type 0 where
  pub short : length s ≤ max_length
  pub formed : first_ill_formed s ≡ none
  pub sizes : sizes_fit t ≡ true
  pub shape : verdict (is_boundary s) max_open (marks_in t) ≡ none

-- the refusal of each test, where no earlier one gives one
module _ (s t : List ℕ) where
  pub too_long : max_length < length s → refusal s t ≡ some (TooLong (length s))
  unfolding refusal source_refusal
  too_long h = let q : source_refusal s ≡ some (TooLong (length s)) = rw (lt-ltb max_length (length s) h, source_refusal) in rw (q, refusal)

  module _ (h : length s ≤ max_length) where
    short : ltb max_length (length s) ≡ false
    short = le-ltb max_length (length s) h

    pub not-utf8 : (k : ℕ) → first_ill_formed s ≡ some k → refusal s t ≡ some (NotUtf8 k)
    unfolding refusal source_refusal
    not-utf8 k f = let q : source_refusal s ≡ some (NotUtf8 k) = rw (short, source_refusal, f) in rw (q, refusal)

    module _ (f : first_ill_formed s ≡ none) where
      of_tree : refusal s t ≡ tree_refusal s t
      unfolding refusal source_refusal
      of_tree = let q : source_refusal s ≡ none = rw (short, source_refusal, f) in rw (q, refusal)

      pub sizes-off : sizes_fit t ≡ false → refusal s t ≡ some (IllFormed no_mark)
      unfolding tree_refusal
      sizes-off z = of_tree ∙ rw (z, tree_refusal)

      module _ (z : sizes_fit t ≡ true) where
        pub shape-off : (v : ℕ) → verdict (is_boundary s) max_open (marks_in t) ≡ some v → refusal s t ≡ some (IllFormed v)
        unfolding tree_refusal
        shape-off v q = of_tree ∙ rw (z, tree_refusal, q)

        pub all-well : verdict (is_boundary s) max_open (marks_in t) ≡ none → refusal s t ≡ none
        unfolding tree_refusal
        all-well q = of_tree ∙ rw (z, tree_refusal, q)

  pub none-refuses : Passes s t → refusal s t ≡ none
  none-refuses p = all-well p.short p.formed p.sizes p.shape

-- the tests of a source: one that refuses is the first, and what holds where none does
module _ (s : List ℕ) where
  pub source-first : (t : List ℕ) {r : Refusal} → source_refusal s ≡ some r → refusal s t ≡ some r
  unfolding refusal
  source-first t e = rw (e, refusal) refl

  pub source-passes : source_refusal s ≡ none → (length s ≤ max_length) × (first_ill_formed s ≡ none)
  unfolding source_refusal
  source-passes e =
      by_case (ltb max_length (length s))
      (λ q. let g = rw (q, source_refusal) at e in let z : ◌≡◌ {A = ℕ} 0 1 = cc in absurd (omega arith))
      (λ q. (ltb-false _ _ q, go (first_ill_formed s) refl (rw (q, source_refusal) at e)))
    where
      go : (o : Option ℕ) → first_ill_formed s ≡ o → elim o as (λ _. Option Refusal) [ some k ↦ some (NotUtf8 k) | none ↦ none ] ≡ none
          → first_ill_formed s ≡ none
      go none q g = q
      go (some k) q g = let z : ◌≡◌ {A = ℕ} 0 1 = cc in absurd (omega arith)

by_option : {G : Type 0} → (o : Option ℕ) → ((k : ℕ) → o ≡ some k → G) → (o ≡ none → G) → G
by_option none f g = g refl
by_option (some k) f g = f k refl

-- One of the tests refuses, with a refusal that changes nothing, or a source and a tree pass.
pub by_test : {G : Type 0} (s t : List ℕ) → ((r : Refusal) → refusal s t ≡ some r → effect_of (Err r) ≡ untouched → G) → (Passes s t → G) → G
unfolding effect_of
by_test s t refuse pass =
    by_case (ltb max_length (length s))
    (λ q. refuse _ (too_long s t (ltb-true _ _ q)) refl)
    (λ q. let h = ltb-false _ _ q in by_option (first_ill_formed s)
    (λ k e. refuse _ (not-utf8 s t h k e) refl)
    (λ f. by_case (sizes_fit t)
    (λ z. by_option (verdict (is_boundary s) max_open (marks_in t))
    (λ v e. refuse _ (shape-off s t h f z v e) refl)
    (λ w. pass (record { short = h; formed = f; sizes = z; shape = w })))
    (λ z. refuse _ (sizes-off s t h f z) refl)))

some-none : {G : Type 0} {A : Type 0} {a : A} {x : Option A} → x ≡ some a → x ≡ none → G
some-none p q = let z : ◌≡◌ {A = ℕ} 0 1 = cc in absurd (omega arith)

pub passes : (s t : List ℕ) → refusal s t ≡ none → Passes s t
passes s t e = by_test s t (λ r q u. some-none q e) (λ p. p)

pub refusal-keeps : (s t : List ℕ) (r : Refusal) → refusal s t ≡ some r → effect_of (Err r) ≡ untouched
refusal-keeps s t r e =
    by_test s t (λ b q u. let same : r ≡ b = cc in rw (same, u)) (λ p. some-none e (none-refuses s t p))
