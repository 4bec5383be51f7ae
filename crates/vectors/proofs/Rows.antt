-- Laws that the proofs share: on tests, and on lists of words and what is stored of them.
use Prim.Native.Nat.{ℕ, zero, suc, ◌+◌, ◌-◌, ◌*◌, ◌≤◌}
use native.Mathlib.Omega.{arith}
use mathlib.Core.Path.{◌≡◌, refl, sym, ap, ap₂, ◌∙◌}
use mathlib.Core.Bool.{Bool, true, false}
use mathlib.Core.List.{List, [], ◌∷◌, ◌++◌, map}
use lib.Dec.{eqb}
use Rattle.std.specs.List.{list_all}
use Rattle.std.specs.Simd.{first_chunks}
use Rattle.std.proofs.lemmas.Bool.{false≢true, and_parts, and_from, eqb-true, eq-eqb}
use lib.ListN.{length, take, drop, replicate, length-append, length-replicate, take-append-drop, length-drop}
use lib.Seq.{take_all, take_at, drop_at}
use Rattle.syntax.specs.Layout.{array}
use Rattle.vectors.specs.Stored.{short_at, shorts}
use Rattle.vectors.specs.Agreement.{Tells}

pub tells-false : {r : Bool} {P : Type 0} → r ≡ false → (P → ⊥) → Tells r P
tells-false e h = record { yes = λ q. absurd (false≢true (sym e ∙ q)); no = λ p. absurd (h p) }

pub tells-same : {r : Bool} {P Q : Type 0} → (P → Q) → (Q → P) → Tells r P → Tells r Q
tells-same f g t = record { yes = λ e. f (t.yes e); no = λ q. t.no (g q) }

pub tells-equal : {r : Bool} {A : Type 0} {x y z : A} → y ≡ z → Tells r (x ≡ y) → Tells r (x ≡ z)
tells-equal q t = tells-same (λ e. e ∙ q) (λ e. e ∙ sym q) t

pub untold : {r : Bool} {P : Type 0} → Tells r P → r ≡ false → P → ⊥
untold t e p = false≢true (sym e ∙ t.no p)

-- whether all words are v
all-is : (v : ℕ) (words : List ℕ) → list_all (λ x. eqb x v) words ≡ true → words ≡ replicate (length words) v
all-is v [] e = refl
all-is v (x ∷ words) e = let b = and_parts (eqb x v) _ e in ap₂ (λ y ys. y ∷ ys) (eqb-true x v b.0) (all-is v words b.1)

is_all : (v : ℕ) (words : List ℕ) → words ≡ replicate (length words) v → list_all (λ x. eqb x v) words ≡ true
is_all v [] e = refl
is_all v (x ∷ words) e =
    let x-v : x ≡ v = cc in
    let same : words ≡ replicate (length words) v = cc in
    and_from (eqb x v) _ (eq-eqb x v x-v) (is_all v words same)

pub tells-all : (v : ℕ) (words : List ℕ) {r : Bool} → r ≡ list_all (λ x. eqb x v) words → Tells r (words ≡ replicate (length words) v)
tells-all v words e = record { yes = λ q. all-is v words (sym e ∙ q); no = λ q. e ∙ is_all v words q }

-- stored numbers
pub length-shorts : (n : ℕ) (bytes : List ℕ) → length bytes ≡ 2 * n → length (shorts bytes) ≡ n
unfolding shorts
length-shorts zero [] e = refl
length-shorts (suc n) [] e = absurd (omega arith)
length-shorts zero (a ∷ bytes) e = absurd (omega arith)
length-shorts (suc n) (a ∷ []) e = absurd (omega arith)
length-shorts (suc n) (a ∷ b ∷ bytes) e = ap suc (length-shorts n bytes (omega arith))

-- chunks of two bytes
pub shorts-chunks : (n : ℕ) (bytes : List ℕ) → length bytes ≡ 2 * n → map (λ b. short_at b 0) (first_chunks 2 n bytes) ≡ shorts bytes
unfolding shorts
shorts-chunks zero [] e = refl
shorts-chunks (suc n) [] e = absurd (omega arith)
shorts-chunks zero (a ∷ bytes) e = absurd (omega arith)
shorts-chunks (suc n) (a ∷ []) e = absurd (omega arith)
shorts-chunks (suc n) (a ∷ b ∷ bytes) e = ap (λ r. (a + 256 * b) ∷ r) (shorts-chunks n bytes (omega arith))

-- a list in two parts
pub parts : (s x y : List ℕ) (n : ℕ) → take n s ≡ x → drop n s ≡ y → s ≡ x ++ y
parts s x y n p q = sym (take-append-drop n s) ∙ (ap (λ z. z ++ drop n s) p ∙ ap (λ z. x ++ z) q)

pub first_part : (s x y : List ℕ) (n : ℕ) → length x ≡ n → s ≡ x ++ y → take n s ≡ x
first_part s x y n l e = ap (take n) e ∙ take_at x y n l

pub second-part : (s x y : List ℕ) (n : ℕ) → length x ≡ n → s ≡ x ++ y → drop n s ≡ y
second-part s x y n l e = ap (drop n) e ∙ drop_at x y n l

-- the part from n to the end
pub end-part : (l : List ℕ) (n : ℕ) → take (length l - n) (drop n l) ≡ drop n l
end-part l n = take_all (length l - n) (drop n l) (rw length-drop (omega arith))

-- an array: what is stored, and zeros
pub length-array : (n : ℕ) (ws : List ℕ) → length ws ≤ n → length (array n ws) ≡ n
unfolding array
length-array n ws h = simp (length-append, length-replicate) (omega arith)

module _ (words ws : List ℕ) (n : ℕ) (l : length ws ≡ n) where
  pub array-yes : n ≤ length words → take n words ≡ ws → drop n words ≡ replicate (length (drop n words)) 0
      → words ≡ array (length words) ws
  unfolding array
  array-yes h p q =
      let k : length words - n ≡ length words - length ws = omega arith in
      parts words ws (replicate (length words - length ws) 0) n p (q ∙ ap (λ m. replicate m 0) (length-drop n words ∙ k))

  pub array-first : words ≡ array (length words) ws → take n words ≡ ws
  unfolding array
  array-first e = first_part words ws (replicate (length words - length ws) 0) n l e

  pub array-rest : words ≡ array (length words) ws → drop n words ≡ replicate (length (drop n words)) 0
  unfolding array
  array-rest e =
      let k : length words - length ws ≡ length words - n = omega arith in
      second-part words ws (replicate (length words - length ws) 0) n l e ∙ ap (λ m. replicate m 0) (k ∙ sym (length-drop n words))
