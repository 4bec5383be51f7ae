-- Elements stored one after another from a place on.
use Rattle.std.specs.Prelude.{ℕ, suc, ◌+◌, ◌≤◌, ◌≡◌, refl, List, [], ◌∷◌, ◌++◌, length, drop, set}
use Rattle.std.proofs.Common.{add-zero, add-suc, suc-add, arith, sym, ap, ◌∙◌, set-set}
use Rattle.std.proofs.lemmas.List.Edits.{sets, sets-eq}

-- in two goes
pub sets-append : (l : List ℕ) (i : ℕ) (xs ys : List ℕ) → sets (sets l i xs) (i + length xs) ys ≡ sets l i (xs ++ ys)
sets-append l i [] ys = ap (λ k. sets l k ys) (add-zero i)
sets-append l i (x ∷ xs) ys =
    ap (λ k. sets (sets (set l i x) (suc i) xs) k ys) (add-suc i (length xs) ∙ sym (suc-add i (length xs)))
    ∙ sets-append (set l i x) (suc i) xs ys

-- the last of them again
pub sets_last : (l : List ℕ) (i : ℕ) (xs : List ℕ) (a b : ℕ) → set (sets l i (xs ++ (a ∷ []))) (i + length xs) b ≡ sets l i (xs ++ (b ∷ []))
sets_last l i xs a b =
    ap (λ r. set r (i + length xs) b) (sym (sets-append l i xs (a ∷ []))) ∙ set-set (sets l i xs) (i + length xs) a b
    ∙ sets-append l i xs (b ∷ [])

-- into a list with no room, and from the start of one with enough
pub sets-nothing : (i : ℕ) (xs : List ℕ) → sets [] i xs ≡ []
sets-nothing i [] = refl
sets-nothing i (x ∷ xs) = sets-nothing (suc i) xs

pub sets_first : (l xs : List ℕ) → length xs ≤ length l → sets l 0 xs ≡ xs ++ drop (length xs) l
sets_first l xs h = let e : 0 + length xs ≡ length xs = omega arith in sets-eq xs l 0 (omega arith) ∙ ap (λ k. xs ++ drop k l) e
