-- A mark put before others, which move up by one.
use Rattle.std.specs.Prelude.{◌≡◌, ℕ, zero, suc, ◌+◌, ◌-◌, ◌*◌, ◌<◌, ◌≤◌, List, ◌∷◌, ◌++◌, length, get_or, take, drop, set}
use Rattle.std.specs.List.{CopiedTo, SameBelow, SameFrom}
use Rattle.std.proofs.lemmas.Grind.{same_number_lists}
use Rattle.std.proofs.lemmas.List.{get_or-take, get_or-drop}
use mathlib.Core.Path.{refl, sym, ap, ap₂, ◌∙◌}
use native.Mathlib.Omega.{arith}
use lib.ListN.{length-set, length-take, length-drop}
use lib.Seq.{get_or-set_same, get_or-set_other}
use Rattle.entry.specs.Tree.{Word, word, marks_in, marks_from, Inserted}
use Rattle.entry.proofs.Steps.{marks-same}
use Rattle.entry.proofs.MarksFrom.{marks-split}

-- the same words at the start, and at the end
take-same : (xs ys : List ℕ) (n : ℕ) → length xs ≡ length ys → ((k : ℕ) → k < n → get_or xs k 0 ≡ get_or ys k 0) → take n xs ≡ take n ys
take-same xs ys n l h =
    let x = length-take n xs in
    let y = length-take n ys in
    same_number_lists (take n xs) (take n ys) (omega arith)
    (λ k m. let j : k < n = omega arith in get_or-take n xs k 0 j ∙ h k j ∙ sym (get_or-take n ys k 0 j))

drop-same : (xs ys : List ℕ) (n : ℕ) → length xs ≡ length ys → ((k : ℕ) → n ≤ k → get_or xs k 0 ≡ get_or ys k 0) → drop n xs ≡ drop n ys
drop-same xs ys n l h =
    let x = length-drop n xs in
    let y = length-drop n ys in
    same_number_lists (drop n xs) (drop n ys) (omega arith)
    (λ k m. get_or-drop n xs k 0 ∙ h (n + k) (omega arith) ∙ sym (get_or-drop n ys k 0))

-- marks that moved up
marks-up : (cap i c : ℕ) (t w : List ℕ) → ((j : ℕ) → i ≤ j → j < i + c → get_or w (j + 3) 0 ≡ get_or t (j + 2) 0)
    → ((j : ℕ) → i ≤ j → j < i + c → get_or w (cap + j + 3) 0 ≡ get_or t (cap + j + 2) 0)
    → marks_from cap (i + 1) c w ≡ marks_from cap i c t
unfolding marks_from
marks-up cap i zero t w f g = refl
marks-up cap i (suc c) t w f g =
    let a : i + 1 + 2 ≡ i + 3 = omega arith in
    let b : cap + (i + 1) + 2 ≡ cap + i + 3 = omega arith in
    rw (a, b, f i (omega arith) (omega arith), g i (omega arith) (omega arith))
    (ap (λ (l : List Word). word (get_or t (i + 2) 0) (get_or t (cap + i + 2) 0) ∷ l)
    (marks-up cap (i + 1) c t w (λ j x y. f j (omega (arith, x)) (omega (arith, y))) (λ j x y. g j (omega (arith, x)) (omega (arith, y)))))

-- Kinds and places were each copied one up, of u into v, after t into u; then the mark was written.
module _ (cap from n kind : ℕ) (t u v : List ℕ) (o : from ≤ n) (r : n + 1 ≤ cap) (l : 2 + 2 * cap ≤ length t)
    (lu : length u ≡ length t) (lv : length v ≡ length u)
    (cu : CopiedTo t u (2 + from) (2 + from + 1) (2 + from + (n - from) - (2 + from)))
    (bu : SameBelow t u (2 + from + 1)) (au : SameFrom t u (2 + from + 1 + (2 + from + (n - from) - (2 + from))))
    (cv : CopiedTo u v (2 + cap + from) (2 + cap + from + 1) (2 + cap + from + (n - from) - (2 + cap + from)))
    (bv : SameBelow u v (2 + cap + from + 1)) (av : SameFrom u v (2 + cap + from + 1 + (2 + cap + from + (n - from) - (2 + cap + from)))) where
  abbrev pub w : List ℕ
  w = set (set v (2 + from) kind) (2 + cap + from) 0

  long : length w ≡ length t
  long = length-set (set v (2 + from) kind) _ _ ∙ length-set v _ _ ∙ lv ∙ lu

  other : (j : ℕ) → (j ≡ 2 + from → ⊥) → (j ≡ 2 + cap + from → ⊥) → get_or w j 0 ≡ get_or v j 0
  other j p q =
      get_or-set_other (set v (2 + from) kind) (2 + cap + from) j 0 0 q
      ∙ get_or-set_other v (2 + from) j kind 0 p

  low : (j : ℕ) → j < 2 + from → get_or w j 0 ≡ get_or t j 0
  low j h = other j (λ e. omega arith) (λ e. omega arith) ∙ bv j 0 (omega arith) ∙ bu j 0 (omega arith)

  between : (j : ℕ) → 2 + n < j → j < 2 + cap + from → get_or w j 0 ≡ get_or t j 0
  between j h k = other j (λ e. omega arith) (λ e. omega arith) ∙ bv j 0 (omega arith) ∙ au j 0 (omega arith)

  high : (j : ℕ) → 2 + cap + n < j → get_or w j 0 ≡ get_or t j 0
  high j h = other j (λ e. omega arith) (λ e. omega arith) ∙ av j 0 (omega arith) ∙ au j 0 (omega arith)

  kinds : (j : ℕ) → from ≤ j → j < from + (n - from) → get_or w (j + 3) 0 ≡ get_or t (j + 2) 0
  kinds j h k =
      let e : 2 + from + (j + 3 - (2 + from + 1)) ≡ j + 2 = omega arith in
      other (j + 3) (λ e. omega arith) (λ e. omega arith) ∙ bv (j + 3) 0 (omega arith) ∙ cu (j + 3) 0 (omega arith) (omega arith)
      ∙ ap (λ (i : ℕ). get_or t i 0) e

  places : (j : ℕ) → from ≤ j → j < from + (n - from) → get_or w (cap + j + 3) 0 ≡ get_or t (cap + j + 2) 0
  places j h k =
      let e : 2 + cap + from + (cap + j + 3 - (2 + cap + from + 1)) ≡ cap + j + 2 = omega arith in
      other (cap + j + 3) (λ e. omega arith) (λ e. omega arith) ∙ cv (cap + j + 3) 0 (omega arith) (omega arith)
      ∙ ap (λ (i : ℕ). get_or u i 0) e ∙ au (cap + j + 2) 0 (omega arith)

  here : word (get_or w (from + 2) 0) (get_or w (cap + from + 2) 0) ≡ word kind 0
  here =
      let a : from + 2 ≡ 2 + from = omega arith in
      let b : cap + from + 2 ≡ 2 + cap + from = omega arith in
      let lw = length-set v (2 + from) kind in
      ap₂ word
      (ap (λ (i : ℕ). get_or w i 0) a ∙ get_or-set_other (set v (2 + from) kind) (2 + cap + from) (2 + from) 0 0 (λ e. omega arith)
      ∙ get_or-set_same v (2 + from) kind 0 (omega arith))
      (ap (λ (i : ℕ). get_or w i 0) b ∙ get_or-set_same (set v (2 + from) kind) (2 + cap + from) 0 0 (omega arith))

  after : marks_from cap from (suc (n - from)) w ≡ word kind 0 ∷ marks_from cap from (n - from) t
  unfolding marks_from
  after = ap₂ (λ (a : Word) (b : List Word). a ∷ b) here (marks-up cap from (n - from) t w kinds places)

  pub inserted : Inserted cap from n t w (word kind 0)
  inserted =
      let e : n + 1 ≡ from + suc (n - from) = omega arith in
      record {
        long = long;
        marks =
            ap (λ (k : ℕ). marks_in cap k w) e ∙ marks-split cap from (suc (n - from)) w
            ∙ ap₂ (λ (a b : List Word). a ++ b)
            (marks-same cap from t w (λ i h. low (i + 2) (omega arith)) (λ i h. between' i h)) after;
        head = take-same w t 2 long (λ k h. low k (omega arith));
        rest = drop-same w t (2 + 2 * cap) long (λ k h. high k (omega arith));
      }
    where
      between' : (i : ℕ) → i < from → get_or w (cap + i + 2) 0 ≡ get_or t (cap + i + 2) 0
      between' i h = other (cap + i + 2) (λ e. omega arith) (λ e. omega arith) ∙ bv (cap + i + 2) 0 (omega arith) ∙ au (cap + i + 2) 0 (omega arith)
