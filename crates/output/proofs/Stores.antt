-- Bytes stored where there is room for them.
use Prim.Native.Nat.{ℕ, zero, suc, ◌+◌, ◌-◌, ◌≤◌, ◌<◌}
use native.Mathlib.Omega.{arith}
use mathlib.Core.Path.{◌≡◌, refl, sym, ap, ◌∙◌}
use mathlib.Core.List.{List, [], ◌∷◌, ◌++◌, append_assoc, append-nil}
use lib.ListN.{length, take, drop, set, get_or, replicate, drop_of_length-le, length-set, length-replicate, replicate-append-replicate}
use lib.Seq.{sets, sets-eq, set_out, take-nil, take-add, drop-cons, length-sets, length-take-le}
use borrow.Rule.Slice.PartMut.{put_mid}
use Rattle.std.proofs.lemmas.List.{drop-drop}
use Rattle.laws.specs.Sets.{sets-append}

-- past the end
pub sets-past : (l : List ℕ) (i : ℕ) (xs : List ℕ) → length l ≤ i → sets l i xs ≡ l
sets-past l i [] h = refl
sets-past l i (x ∷ xs) h = ap (λ r. sets r (suc i) xs) (set_out l i x h) ∙ sets-past l (suc i) xs (omega arith)

-- as many as there is room for
sets-room : (l : List ℕ) (i n : ℕ) (xs : List ℕ) → length l ≤ i + n → sets l i (take n xs) ≡ sets l i xs
sets-room l i n [] h = ap (λ t. sets l i t) (take-nil n)
sets-room l i zero (x ∷ xs) h = sym (sets-past l i (x ∷ xs) (omega arith))
sets-room l i (suc n) (x ∷ xs) h = sets-room (set l i x) (suc i) n xs (omega (arith, length-set l i x))

-- some more after the first n, and one more
pub sets_more : (l : List ℕ) (i : ℕ) (xs : List ℕ) (n m : ℕ) → n ≤ length xs
    → sets (sets l i (take n xs)) (i + n) (take m (drop n xs)) ≡ sets l i (take (n + m) xs)
sets_more l i xs n m h =
    ap (λ k. sets (sets l i (take n xs)) (i + k) (take m (drop n xs))) (sym (length-take-le n xs h))
    ∙ sets-append l i (take n xs) (take m (drop n xs))
    ∙ ap (λ t. sets l i t) (sym (take-add n m xs))

pub sets-one : (l : List ℕ) (i : ℕ) (xs : List ℕ) (n : ℕ) → n < length xs
    → set (sets l i (take n xs)) (i + n) (get_or xs n 0) ≡ sets l i (take (n + 1) xs)
sets-one l i xs n h =
    ap (λ t. sets (sets l i (take n xs)) (i + n) (take 1 t)) (sym (drop-cons xs n 0 h)) ∙ sets_more l i xs n 1 (omega arith)

-- all of a list, overwritten
pub sets_all : (l xs : List ℕ) → length l ≡ length xs → sets l 0 xs ≡ xs
sets_all l xs e =
    let z : length l ≤ 0 + length xs = omega arith in
    sets-eq xs l 0 (omega arith) ∙ ap (λ d. xs ++ d) (drop_of_length-le l z) ∙ append-nil xs

-- a part of the output, overwritten
pub stored-part : (l : List ℕ) (i k : ℕ) (xs : List ℕ) → length xs ≡ k → i + k ≤ length l → put_mid i k l xs ≡ sets l i xs
stored-part l i k xs e h =
    ap (λ d. take i l ++ (xs ++ d)) (drop-drop k i l ∙ ap (λ n. drop (i + n) l) (sym e))
    ∙ sym (append_assoc (take i l) xs (drop (i + length xs) l))
    ∙ sym (sets-eq xs l i (omega (arith, e)))

-- all the room, of which there is too little
pub stored-rest : (l : List ℕ) (i k : ℕ) (xs : List ℕ) → i + k ≡ length l → k ≤ length xs → put_mid i k l (take k xs) ≡ sets l i xs
stored-rest l i k xs e h =
    stored-part l i k (take k xs) (length-take-le k xs h) (omega (arith, e)) ∙ sets-room l i k xs (omega (arith, e))

-- some bytes b, and then some more
pub sets-repeat : (l : List ℕ) (i b n m : ℕ) → sets (sets l i (replicate n b)) (i + n) (replicate m b) ≡ sets l i (replicate (n + m) b)
sets-repeat l i b n m =
    ap (λ k. sets (sets l i (replicate n b)) (i + k) (replicate m b)) (sym (length-replicate n b))
    ∙ sets-append l i (replicate n b) (replicate m b)
    ∙ ap (λ t. sets l i t) (replicate-append-replicate n m b)

-- as many of them as there is room for
pub sets-repeat-room : (l : List ℕ) (i b n m : ℕ) → length l ≤ i + n → n ≤ m → sets l i (replicate n b) ≡ sets l i (replicate m b)
sets-repeat-room l i b n m e h =
    let more : n + (m - n) ≡ m = omega arith in
    sym
    (ap (λ k. sets l i (replicate k b)) (sym more)
    ∙ sym (sets-repeat l i b n (m - n))
    ∙ sets-past (sets l i (replicate n b)) (i + n) (replicate (m - n) b) (omega (arith, length-sets l i (replicate n b))))
