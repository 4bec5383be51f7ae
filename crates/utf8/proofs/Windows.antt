-- What a window of a source tells of it: the check goes from one to the next.
use Rattle.std.specs.Prelude.{ℕ, zero, suc, ◌+◌, min, ◌≤◌, ◌<◌, ◌≡◌, refl, List, [], ◌∷◌, leb, length, take, drop}
use Rattle.std.proofs.Common.{not-suc-le-zero, add_assoc, arith, sym, ap, ◌∙◌, length-drop, drop-drop, drop_of_length-le}
use Rattle.std.proofs.Math.Option.{Option, none, some}
use Rattle.std.proofs.lemmas.List.{take-append-drop, take-take, length-take-le}
use Rattle.utf8.specs.Utf8.{width, width_of_first, scan, first_ill_formed, moved, valid_length, FoundFrom, WellFormed}
use Rattle.utf8.specs.Sequence.{cases, read-within, read_take, read_first}
use Rattle.utf8.specs.Law.{scan-read, ill-here, formed-onward}
use Rattle.utf8.proofs.Text.{stops}

-- the bytes of a window before its first fault
pub window_formed : (s : List ℕ) (k : ℕ) → k ≤ length s
    → (valid_length (take k s) ≤ k) × WellFormed (take (valid_length (take k s)) s)
unfolding valid_length first_ill_formed
window_formed s k h = go (first_ill_formed (take k s)) refl
  where
    n : length (take k s) ≡ k
    n = length-take-le k s h

    go : (o : Option ℕ) → first_ill_formed (take k s) ≡ o
        → (valid_length (take k s) ≤ k) × WellFormed (take (valid_length (take k s)) s)
    go none e =
        let v : valid_length (take k s) ≡ k = rw (e, valid_length) n in
        rw v (omega arith, e)
    go (some m) e =
        let v : valid_length (take k s) ≡ m = rw (e, valid_length) refl in
        let p = stops (take k s) 0 m e in
        let l : m ≤ k = omega (arith, p.1, n) in
        rw v (l, ap (scan 0) (sym (take-take m k s l)) ∙ p.2)

-- what there is to find is found past those
pub found_onward : (s : List ℕ) (at k : ℕ) → FoundFrom s at → k ≤ length (drop at s) → FoundFrom s (at + valid_length (take k (drop at s)))
found_onward s at k f h =
    let rest = drop at s in
    let v = valid_length (take k rest) in
    let p = window_formed rest k h in
    let n : length (take v rest) ≡ v = length-take-le v rest (omega (arith, p.0)) in
    record {
      inside = omega (arith, p.0, length-drop at s, f.inside);
      found =
          f.found
          ∙ ap (λ l. moved at (first_ill_formed l)) (sym (take-append-drop v rest))
          ∙ ap (moved at) (formed-onward (take v rest) (drop v rest) p.1 ∙ ap (λ i. moved i (first_ill_formed (drop v rest))) n)
          ∙ moved-moved at v (first_ill_formed (drop v rest))
          ∙ ap (λ l. moved (at + v) (first_ill_formed l)) (drop-drop v at s);
    }
  where
    moved-moved : (a b : ℕ) (o : Option ℕ) → moved a (moved b o) ≡ moved (a + b) o
    moved-moved a b none = refl
    moved-moved a b (some i) = ap {B = Option ℕ} some (sym (add_assoc a b i))

-- no sequence is longer than four bytes
four : (b : ℕ) → width_of_first b ≤ 4
unfolding width_of_first
four b =
    cases (leb b 127) (λ t. rw (t, width_of_first) (omega arith))
    (λ t.
    cases (leb b 223) (λ u. rw (t, width_of_first, u) (omega arith))
    (λ u.
    cases (leb b 239) (λ v. rw (t, width_of_first, u, v) (omega arith)) (λ v. rw (t, width_of_first, u, v) (omega arith))))

-- a window that starts with a fault, where it has the bytes of any sequence or all that are left
pub window_ill : (s : List ℕ) (k : ℕ) → 0 < k → min 4 (length s) ≤ k → valid_length (take k s) ≡ 0 → 0 < length s → first_ill_formed s ≡ some 0
unfolding valid_length first_ill_formed scan
window_ill s zero p h e l = absurd (not-suc-le-zero p)
window_ill [] (suc j) p h e l = absurd (not-suc-le-zero l)
window_ill (b ∷ r) (suc j) p h e l = go (width (b ∷ r)) refl
  where
    within : (w : ℕ) → width (b ∷ r) ≡ suc w → w ≤ j
    within w q = omega (arith, h, (read_first b r w q).0, four b, read-within b r w q)

    some_left : (w : ℕ) (o : Option ℕ) → scan w (take j r) ≡ o → width (b ∷ take j r) ≡ suc w → ⊥
    some_left w none i q = let z : length (b ∷ take j r) ≡ 0 = rw (scan-read b (take j r) w q, i, valid_length) at e in omega arith
    some_left w (some m) i q = let z : suc m ≡ 0 = rw (scan-read b (take j r) w q, i, valid_length) at e in omega arith

    go : (n : ℕ) → width (b ∷ r) ≡ n → first_ill_formed (b ∷ r) ≡ some 0
    go zero q = ill-here b r q
    go (suc w) q = absurd (some_left w (scan w (take j r)) refl (read_take b r w j (within w q) q))

-- at the end nothing is left to find
pub ill-none : (s : List ℕ) (at : ℕ) → length s ≤ at → first_ill_formed s ≡ moved at (first_ill_formed (drop at s))
    → first_ill_formed s ≡ none
unfolding first_ill_formed scan
ill-none s at h found = rw (drop_of_length-le s h) at found
