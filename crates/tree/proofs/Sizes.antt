-- The sizes of a tree that fit, and its marks one by one.
use Prim.Native.Nat.{ℕ, zero, suc, ◌+◌, ◌*◌, ◌≤◌, ◌<◌}
use native.Mathlib.Numerals.{add-one}
use native.Mathlib.Omega.{arith}
use mathlib.Core.Path.{◌≡◌, refl, sym, ◌∙◌}
use mathlib.Core.Bool.{true, and-eq-true_iff}
use mathlib.Core.List.{List, [], ◌∷◌}
use lib.Dec.{leb, ltb}
use lib.ListN.{length, get_or, drop, length-take, length-drop, drop_of_length-le}
use lib.Seq.{drop-cons, get_or-take, get_or-drop}
use borrow.Author.Tests.{leb-true, ltb-true, ltb-false}
use Rattle.syntax.specs.Marks.{Mark}
use Rattle.syntax.specs.Layout.{count, capacity, kinds, places, mark_of, marks_by, marks_in}
use Rattle.syntax.specs.Tests.{sizes_fit}
use Rattle.laws.specs.Bytes.{by_case}

-- the sizes of a tree, as facts
pub record Sizes (ws : List ℕ) : Type 0 where
  pub there : 2 ≤ length ws
  pub small : capacity ws ≤ 8_000_000
  pub inside : count ws ≤ capacity ws
  pub arrays : 2 + 2 * capacity ws ≤ length ws

pub sizes : (ws : List ℕ) → sizes_fit ws ≡ true → Sizes ws
unfolding sizes_fit
sizes ws e =
    let a = (and-eq-true_iff (leb 2 (length ws)) _).0 e in
    let b = (and-eq-true_iff (leb (capacity ws) 8_000_000) _).0 a.1 in
    let d = (and-eq-true_iff (leb (count ws) (capacity ws)) _).0 b.1 in
    record { there = leb-true _ _ a.0; small = leb-true _ _ b.0; inside = leb-true _ _ d.0; arrays = leb-true _ _ d.1 }

-- the marks from one on are those of the kinds and places from there on
marks-none : (ks : List ℕ) → marks_by ks [] ≡ []
unfolding marks_by
marks-none [] = refl
marks-none (k ∷ ks) = refl

marks-drop : (i : ℕ) (ks ps : List ℕ) → drop i (marks_by ks ps) ≡ marks_by (drop i ks) (drop i ps)
unfolding marks_by
marks-drop zero ks ps = refl
marks-drop (suc i) [] ps = refl
marks-drop (suc i) (k ∷ ks) [] = sym (marks-none (drop i ks))
marks-drop (suc i) (k ∷ ks) (p ∷ ps) = marks-drop i ks ps

pub marks-at : (i : ℕ) (ks ps : List ℕ) → i < length ks → i < length ps
    → drop i (marks_by ks ps) ≡ mark_of (get_or ks i 0) (get_or ps i 0) ∷ drop (suc i) (marks_by ks ps)
unfolding marks_by
marks-at i ks ps h l = rw (marks-drop i ks ps, marks-drop (suc i) ks ps, drop-cons ks i 0 h, drop-cons ps i 0 l)

module _ (ws : List ℕ) (fit : Sizes ws) where
  pub kinds-length : length (kinds ws) ≡ count ws
  unfolding kinds
  kinds-length = simp (length-take, length-drop) (omega arith)

  pub places-length : length (places ws) ≡ count ws
  unfolding places
  places-length = simp (length-take, length-drop) (omega arith)

  kind-at : (i : ℕ) → i < count ws → get_or (kinds ws) i 0 ≡ get_or ws (2 + i) 0
  unfolding kinds
  kind-at i h = rw (get_or-take, get_or-drop)

  place_at : (i : ℕ) → i < count ws → get_or (places ws) i 0 ≡ get_or ws (2 + capacity ws + i) 0
  unfolding places
  place_at i h = rw (get_or-take, get_or-drop)

  -- the mark after i others
  pub next-mark : (i : ℕ) → i < count ws
      → drop i (marks_in ws) ≡ mark_of (get_or ws (2 + i) 0) (get_or ws (2 + capacity ws + i) 0) ∷ drop (suc i) (marks_in ws)
  unfolding marks_in
  next-mark i h =
      rw (← kind-at i h, ← place_at i h) (marks-at i (kinds ws) (places ws) (omega (arith, kinds-length)) (omega (arith, places-length)))

  pub no-mark : (i : ℕ) → count ws ≤ i → drop i (marks_in ws) ≡ []
  unfolding marks_in marks_by
  no-mark i h =
      let l : length (kinds ws) ≤ i = omega (arith, kinds-length) in
      marks-drop i (kinds ws) (places ws) ∙ rw (drop_of_length-le (kinds ws) l)

  -- where a mark stands, and the marks after it
  pub mark-inside : (i : ℕ) (m : Mark) (rest : List Mark) → drop i (marks_in ws) ≡ m ∷ rest → i < count ws
  mark-inside i m rest e =
      by_case (ltb i (count ws)) (λ q. ltb-true i (count ws) q)
      (λ q. cc (no-mark i (ltb-false i (count ws) q)))

  pub mark-next : (i : ℕ) (m : Mark) (rest : List Mark) → drop i (marks_in ws) ≡ m ∷ rest → drop (i + 1) (marks_in ws) ≡ rest
  mark-next i m rest e = rw add-one (cc (next-mark i (mark-inside i m rest e)))
