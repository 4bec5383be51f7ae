-- Where a line starts, and where junk ends.
use Prim.Native.Nat.{ℕ, zero, suc, ◌+◌, ◌-◌, ◌≤◌, ◌<◌}
use mathlib.Core.Path.{◌≡◌, refl, sym, ap, ◌∙◌}
use mathlib.Core.List.{List, [], ◌∷◌}
use mathlib.Core.Bool.{Bool, true, false, ◌&&◌}
use native.Mathlib.Nat.{add-zero, add-suc, not-suc-le-zero, le_of_suc-le-suc}
use native.Mathlib.Numerals.{add-one}
use native.Mathlib.Omega.{arith}
use lib.Dec.{eqb}
use lib.ListN.{length, get_or, drop, length-drop, drop_of_length-le}
use lib.Seq.{drop-cons, get_or-drop}
use Rattle.syntax.specs.Byte as Byte
use Rattle.syntax.specs.Bytes.{is_fresh}
use Rattle.syntax.specs.Core.{to_next_entry, line_starts_at}
use Rattle.entry.specs.Place.{Passed}

-- ---- the start of a line

start-after : (n : ℕ) (s : List ℕ) → n < length s → line_starts_at (suc n) s ≡ eqb (get_or s n 0) Byte.line_feed
unfolding line_starts_at
start-after n [] l = absurd (not-suc-le-zero l)
start-after zero (b ∷ s) l = refl
start-after (suc n) (b ∷ s) l = start-after n s (le_of_suc-le-suc l)

pub starts_first : (s : List ℕ) (i : ℕ) → i ≡ 0 → true ≡ line_starts_at i s
unfolding line_starts_at
starts_first s i h = rw h

pub starts-after : (s : List ℕ) (i : ℕ) → (i ≡ 0 → ⊥) → i ≤ length s → eqb (get_or s (i - 1) 0) Byte.line_feed ≡ line_starts_at i s
starts-after s i h l = let e : i ≡ suc (i - 1) = omega arith in
    sym (ap (λ (k : ℕ). line_starts_at k s) e ∙ start-after (i - 1) s (omega arith))

-- past a place, whether a line starts does not depend on the place
pub starts-past : (s : List ℕ) (i k : ℕ) → i + suc k ≤ length s → line_starts_at (i + suc k) s ≡ line_starts_at (suc k) (drop i s)
starts-past s i k l =
    let e : i + k < length s = omega arith in
    rw (add-suc, start-after (i + k) s e, start-after k (drop i s) (omega (arith, length-drop i s)), get_or-drop i s k 0)

-- a line that starts after one does
pub starts-later : (s : List ℕ) (i k : ℕ) → line_starts_at i s ≡ true → i + k ≤ length s → line_starts_at (i + k) s ≡ line_starts_at k (drop i s)
unfolding line_starts_at
starts-later s i zero h l = rw add-zero h
starts-later s i (suc k) h l = starts-past s i k l

-- ---- junk

pub record Seeking (s : List ℕ) (at i : ℕ) (fresh : Bool) : Type 0 where
  pub inside : i ≤ length s
  pub sum : at + to_next_entry (line_starts_at at s) (drop at s) ≡ i + to_next_entry fresh (drop i s)

pub seeking-none : (s : List ℕ) (at : ℕ) (t : Bool) → at ≤ length s → t ≡ line_starts_at at s → Seeking s at at t
seeking-none s at t l h = record { inside = l; sum = rw h }

module _ {s : List ℕ} {at i : ℕ} {fresh : Bool} (g : Seeking s at i fresh) where
  pub seeking-end : length s ≤ i → Passed s at (to_next_entry (line_starts_at at s) (drop at s)) (length s)
  seeking-end l = let e = none in record { end = omega (arith, g.sum, g.inside); within = omega arith }
    where
      none : to_next_entry fresh (drop i s) ≡ 0
      none = unfold to_next_entry in rw (drop_of_length-le s l)

  module _ {r : Bool} (l : i < length s) (t : r ≡ fresh && is_fresh (get_or s i 0)) where
    pub seeking-found : r ≡ true → Passed s at (to_next_entry (line_starts_at at s) (drop at s)) i
    seeking-found h = let e = here in record { end = omega (arith, g.sum); within = g.inside }
      where
        here : to_next_entry fresh (drop i s) ≡ 0
        here = unfold to_next_entry in rw (drop-cons s i 0 l, to_next_entry, sym t ∙ h)

    pub seeking-more : r ≡ false → Seeking s at (i + 1) (eqb (get_or s i 0) Byte.line_feed)
    seeking-more h = let e = further in record { inside = omega arith; sum = omega (arith, g.sum) }
      where
        further : to_next_entry fresh (drop i s) ≡ suc (to_next_entry (eqb (get_or s i 0) Byte.line_feed) (drop (i + 1) s))
        further = unfold to_next_entry in rw (add-one, drop-cons s i 0 l, to_next_entry, sym t ∙ h)
