-- An error in a list's words: a kind in the first array, and a group in the second.
use Prim.Native.Nat.{ℕ, suc, ◌+◌, ◌-◌, ◌*◌, ◌≤◌}
use native.Mathlib.Nat.{add-suc, add_comm}
use native.Mathlib.Numerals.{add-one}
use native.Mathlib.Omega.{arith}
use mathlib.Core.Path.{◌≡◌, refl, sym, ap, ◌∙◌}
use mathlib.Core.List.{List, [], ◌∷◌, ◌++◌}
use lib.ListN.{length, take, drop, set, length-set, length-append, length-take, length-drop}
use lib.Seq.{sets, sets-eq, length-sets, take-set-le, drop-set-lt, drop-set-add, take-suc-set, take_at}
use Rattle.syntax.specs.declared.errors.KindWords.{KindWords}
use Rattle.syntax.specs.Errors.{words_of}
use Rattle.syntax.specs.Core.{Error}
use Rattle.syntax.specs.Layout.{groups, group, error_number}
use Rattle.laws.specs.Sets.{sets-append}
use Rattle.parser.specs.ErrorList.{Spare, ErrorStep}

-- words before, from and past what is written
before-set : (m p i : ℕ) (l : List ℕ) (a : ℕ) → p + m ≤ i → take m (drop p (set l i a)) ≡ take m (drop p l)
before-set m p i l a h =
    let e : p + (i - p) ≡ i = omega arith in
    ap (λ k. take m (drop p (set l k a))) (sym e) ∙ ap (take m) (drop-set-add p l (i - p) a)
    ∙ take-set-le m (drop p l) (i - p) a (omega arith)

before-sets : (m p i : ℕ) (l vs : List ℕ) → p + m ≤ i → take m (drop p (sets l i vs)) ≡ take m (drop p l)
before-sets m p i l [] h = refl
before-sets m p i l (a ∷ vs) h = before-sets m p (suc i) (set l i a) vs (omega arith) ∙ before-set m p i l a h

from-sets : (p i : ℕ) (l vs : List ℕ) → drop p (sets l (p + i) vs) ≡ sets (drop p l) i vs
from-sets p i l [] = refl
from-sets p i l (a ∷ vs) =
    ap (λ k. drop p (sets (set l (p + i) a) k vs)) (sym (add-suc p i)) ∙ from-sets p (suc i) (set l (p + i) a) vs
    ∙ ap (λ r. sets r (suc i) vs) (drop-set-add p l i a)

past-sets : (p i : ℕ) (l vs : List ℕ) → i + length vs ≤ p → drop p (sets l i vs) ≡ drop p l
past-sets p i l [] h = refl
past-sets p i l (a ∷ vs) h = past-sets p (suc i) (set l i a) vs (omega arith) ∙ drop-set-lt p l i a (omega arith)

-- the first i + length vs words
through-sets : (i n : ℕ) (l vs : List ℕ) → i + length vs ≤ length l → n ≡ i + length vs → take n (sets l i vs) ≡ take i l ++ vs
through-sets i n l vs h e =
    let k : length (take i l ++ vs) ≡ n = simp (length-append, length-take) (omega arith) in
    ap (take n) (sets-eq vs l i h) ∙ take_at (take i l ++ vs) (drop (i + length vs) l) n k

-- six words in three goes
three-pairs : (l : List ℕ) (i a b c d x y : ℕ)
    → sets (sets (sets l i (a ∷ b ∷ [])) (i + 2) (c ∷ d ∷ [])) (i + 4) (x ∷ y ∷ []) ≡ sets l i
    (a ∷ b ∷ c ∷ d ∷ x ∷ y ∷ [])
three-pairs l i a b c d x y =
    ap (λ r. sets r (i + 4) (x ∷ y ∷ [])) (sets-append l i (a ∷ b ∷ []) (c ∷ d ∷ [])) ∙ sets-append l i (a ∷ b ∷ c ∷ d ∷ []) (x ∷ y ∷ [])

module _ (cap n : ℕ) (t : List ℕ) (s : Spare t cap n) (e : Error) where
  error-step : (t' : List ℕ) → t' ≡ sets (set t (n + 2) (error_number e)) (cap + 6 * n + 2) (group e) → ErrorStep cap n t t' (e ∷ [])
  unfolding groups group
  error-step t' eq = record {
    long = ap length eq ∙ length-sets written (cap + 6 * n + 2) (group e) ∙ length-set t (n + 2) (error_number e);
    kinds =
        ap (λ r. take (n + 1) (drop 2 r)) eq ∙ before-sets (n + 1) 2 (cap + 6 * n + 2) written (group e) (omega arith)
        ∙ ap (λ k. take (n + 1) (drop 2 (set t k (error_number e)))) (add_comm n 2) ∙ ap (take (n + 1)) (drop-set-add 2 t n (error_number e))
        ∙ ap (λ k. take k (set (drop 2 t) n (error_number e))) (add-one n)
        ∙ take-suc-set (drop 2 t) n (error_number e) (simp length-drop (omega arith));
    groups =
        let place : cap + 6 * n + 2 ≡ 2 + cap + 6 * n = omega arith in
        let long : 6 * n + 6 ≤ length (drop (2 + cap) written) = simp (length-drop, length-set) (omega arith) in
        ap (λ r. take (6 * (n + 1)) (drop (2 + cap) r)) (eq ∙ ap (λ k. sets written k (group e)) place)
        ∙ ap (take (6 * (n + 1))) (from-sets (2 + cap) (6 * n) written (group e))
        ∙ through-sets (6 * n) (6 * (n + 1)) (drop (2 + cap) written) (group e) long (omega arith)
        ∙ ap (λ r. take (6 * n) r ++ group e) (drop-set-lt (2 + cap) t (n + 2) (error_number e) (omega arith));
    rest = ap (drop (2 + 7 * cap)) eq ∙ past-sets (2 + 7 * cap) (cap + 6 * n + 2) written (group e) (omega arith)
        ∙ drop-set-lt (2 + 7 * cap) t (n + 2) (error_number e) (omega arith);
  }
    where
      written : List ℕ
      written = set t (n + 2) (error_number e)

  -- as `list::put_error` writes it
  pub error-written : (w : KindWords) (t₁ t₂ t₃ : List ℕ) → w ≡ words_of e.fault.kind
      → t₁ ≡ sets (set t (n + 2) w.number) (cap + 6 * n + 2) (e.fault.start ∷ e.fault.end ∷ [])
      → t₂ ≡ sets t₁ (cap + 6 * n + 2 + 2) (e.junk_from ∷ e.junk_till ∷ [])
      → t₃ ≡ sets t₂ (cap + 6 * n + 2 + 4) (w.first ∷ w.second ∷ []) → ErrorStep cap n t t₃ (e ∷ [])
  unfolding group error_number
  error-written w t₁ t₂ t₃ h e₁ e₂ e₃ =
      let g = cap + 6 * n + 2 in
      error-step t₃
      (e₃ ∙ ap (λ r. sets r (g + 4) (w.first ∷ w.second ∷ [])) (e₂ ∙ ap (λ r. sets r (g + 2) (e.junk_from ∷ e.junk_till ∷ [])) e₁)
      ∙ three-pairs (set t (n + 2) w.number) g e.fault.start e.fault.end e.junk_from e.junk_till w.first w.second
      ∙ ap
      (λ (v : KindWords). sets (set t (n + 2) v.number) g
      (e.fault.start ∷ e.fault.end ∷ e.junk_from ∷ e.junk_till ∷ v.first ∷ v.second ∷ [])) h)
