-- A whole slice by its parts.
use Prim.Native.Nat.{ℕ, zero, suc, ◌+◌, ◌-◌, ◌≤◌}
use native.Mathlib.Omega.{arith}
use mathlib.Core.Path.{◌≡◌, refl, sym, ap, ◌∙◌}
use mathlib.Core.List.{List, [], ◌∷◌, ◌++◌, append_assoc}
use lib.ListN.{length, get_or, take, drop, replicate, length-append, length-replicate, length-drop}
use lib.Seq.{drop-drop, length-take-le}
use Rattle.std.proofs.Common.{Ok, Err}
use Rattle.syntax.specs.declared.answer.Refusal.{Refusal}
use Rattle.syntax.specs.declared.answer.Refusal.TheVariants.{TooLong, NotUtf8, TreeTooShort, ErrorsTooShort}
use Rattle.syntax.specs.declared.answer.Refusal.TheVariants.{TooDeep, IllFormed, OutputTooShort}
use Rattle.syntax.specs.Answer.{Answer, Effect, effect_of, slice_by, slice_after}
use Rattle.syntax.specs.Layout.{array}
use Rattle.laws.specs.Effect.{writes, zeroes, leaves}
use Rattle.vectors.specs.Stored.{between, shorts}
use Rattle.vectors.specs.Agreement.{Stores, filling, filled, laid, laid_length, left}
use Rattle.vectors.specs.declared.compare.Arrays.{Arrays}
use Rattle.vectors.proofs.Rows.{parts, first_part, second-part, end-part, length-array, length-shorts}

-- what is past n of a filled slice
drop-replicate : (n m v : ℕ) → drop n (replicate m v) ≡ replicate (m - n) v
drop-replicate zero m v = let k : m ≡ m - 0 = omega arith in ap (λ i. replicate i v) k
drop-replicate (suc n) zero v = let k : 0 ≡ 0 - suc n = omega arith in ap (λ i. replicate i v) k
drop-replicate (suc n) (suc m) v = let k : m - n ≡ suc m - suc n = omega arith in drop-replicate n m v ∙ ap (λ i. replicate i v) k

pub length-between : (from to : ℕ) (l : List ℕ) → from ≤ to → to ≤ length l → length (between from to l) ≡ to - from
length-between from to l h k = length-take-le (to - from) (drop from l) (rw length-drop (omega arith))

-- the rest of a slice is filled with v
pub rest-yes : (s : List ℕ) (n v : ℕ) → between n (length s) s ≡ replicate (length (between n (length s) s)) v
    → drop n s ≡ drop n (replicate (length s) v)
rest-yes s n v e = sym (end-part s n)
    ∙ (e ∙ (ap (λ i. replicate i v) (ap length (end-part s n) ∙ length-drop n s) ∙ sym (drop-replicate n (length s) v)))

pub rest-no : (s : List ℕ) (n v : ℕ) → drop n s ≡ drop n (replicate (length s) v)
    → between n (length s) s ≡ replicate (length (between n (length s) s)) v
rest-no s n v e = end-part s n
    ∙ (e ∙ (drop-replicate n (length s) v ∙ ap (λ i. replicate i v) (sym (ap length (end-part s n) ∙ length-drop n s))))

-- an array in a slice
module _ (s ws : List ℕ) (from n to : ℕ) (e : to ≡ from + n) (h : to ≤ length s) where
  width : to - from ≡ n
  width = omega arith

  pub array-in : between from to s ≡ array (length (between from to s)) ws → take n (drop from s) ≡ array n ws
  array-in p =
      sym (ap (λ k. take k (drop from s)) width) ∙ (p ∙ ap (λ k. array k ws) (length-between from to s (omega arith) h ∙ width))

  pub in_array : take n (drop from s) ≡ array n ws → between from to s ≡ array (length (between from to s)) ws
  in_array p =
      ap (λ k. take k (drop from s)) width ∙ (p ∙ ap (λ k. array k ws) (sym (length-between from to s (omega arith) h ∙ width)))

-- what is compared of a slice that acceptance left
pub record Laid (s : List ℕ) (a : Arrays) (f g : List ℕ) : Type 0 where
  pub long : laid_length a ≤ length s
  pub count : get_or s 0 0 ≡ a.count
  pub capacity : get_or s 1 0 ≡ a.capacity
  pub first : between 2 (2 + a.capacity) s ≡ array (length (between 2 (2 + a.capacity) s)) (shorts f)
  pub second : between (2 + a.capacity) (laid_length a) s ≡ array (length (between (2 + a.capacity) (laid_length a) s)) (shorts g)
  pub rest : between (laid_length a) (length s) s ≡ replicate (length (between (laid_length a) (length s) s)) filling

heads : (s : List ℕ) → 2 ≤ length s → s ≡ get_or s 0 0 ∷ get_or s 1 0 ∷ drop 2 s
heads [] h = absurd (omega arith)
heads (x ∷ []) h = absurd (omega arith)
heads (x ∷ y ∷ s) h = refl

module _ (s : List ℕ) (a : Arrays) (f g : List ℕ) (st : Stores a f g) where
  abbrev firsts : List ℕ
  firsts = array a.capacity (shorts f)

  abbrev seconds : List ℕ
  seconds = array a.size (shorts g)

  abbrev past : List ℕ
  past = drop (laid_length a) (filled (length s))

  length-firsts : length firsts ≡ a.capacity
  length-firsts = length-array a.capacity (shorts f) (let k = length-shorts a.count f st.firsts in omega (arith, st.held))

  length-seconds : length seconds ≡ a.size
  length-seconds = length-array a.size (shorts g) (let k = length-shorts a.used g st.seconds in omega (arith, st.room))

  pub is-laid : s ≡ laid a f g ++ past → Laid s a f g
  unfolding laid filled
  is-laid e =
      let l = length-firsts in
      let m = length-seconds in
      let long : laid_length a ≤ length s = let k = simp length-append at (ap length e) in omega arith in
      let tail : drop 2 s ≡ firsts ++ (seconds ++ past) = ap (drop 2) e ∙ append_assoc firsts seconds past in
      let one = first_part (drop 2 s) firsts (seconds ++ past) a.capacity l tail in
      let more = sym (drop-drop a.capacity 2 s) ∙ second-part (drop 2 s) firsts (seconds ++ past) a.capacity l tail in
      let two = first_part (drop (2 + a.capacity) s) seconds past a.size m more in
      let last = sym (drop-drop a.size (2 + a.capacity) s) ∙ second-part (drop (2 + a.capacity) s) seconds past a.size m more in
      record {
        long = long;
        count = ap (λ z. get_or z 0 0) e;
        capacity = ap (λ z. get_or z 1 0) e;
        first = in_array s (shorts f) 2 a.capacity (2 + a.capacity) refl (omega arith) one;
        second = in_array s (shorts g) (2 + a.capacity) a.size (laid_length a) refl long two;
        rest = rest-no s (laid_length a) filling last;
      }

  pub laid-is : Laid s a f g → s ≡ laid a f g ++ past
  unfolding laid filled
  laid-is p =
      let one = array-in s (shorts f) 2 a.capacity (2 + a.capacity) refl (omega (arith, p.long)) p.first in
      let two = array-in s (shorts g) (2 + a.capacity) a.size (laid_length a) refl p.long p.second in
      let last = drop-drop a.size (2 + a.capacity) s ∙ rest-yes s (laid_length a) filling p.rest in
      let more = drop-drop a.capacity 2 s ∙ parts (drop (2 + a.capacity) s) seconds past a.size two last in
      let tail = parts (drop 2 s) firsts (seconds ++ past) a.capacity one more ∙ sym (append_assoc firsts seconds past) in
      heads s (omega (arith, p.long))
      ∙ (ap (λ z. z ∷ get_or s 1 0 ∷ drop 2 s) p.count
      ∙ (ap (λ z. a.count ∷ z ∷ drop 2 s) p.capacity ∙ ap (λ z. a.count ∷ a.capacity ∷ z) tail))

-- the same of a slice that refusal 5 left
module _ (s : List ℕ) (n : ℕ) where
  pub zeroed-long : s ≡ replicate n 0 ++ drop n (filled (length s)) → n ≤ length s
  zeroed-long e = let k = simp (length-append, length-replicate) at (ap length e) in omega arith

  pub zeroed-first : s ≡ replicate n 0 ++ drop n (filled (length s)) → take n s ≡ replicate (length (take n s)) 0
  zeroed-first e =
      let p = first_part s (replicate n 0) (drop n (filled (length s))) n (length-replicate n 0) e in
      p ∙ ap (λ i. replicate i 0) (sym (ap length p ∙ length-replicate n 0))

  pub zeroed_rest : s ≡ replicate n 0 ++ drop n (filled (length s))
      → between n (length s) s ≡ replicate (length (between n (length s) s)) filling
  unfolding filled
  zeroed_rest e = rest-no s n filling (second-part s (replicate n 0) (drop n (filled (length s))) n (length-replicate n 0) e)

  pub zeroed-is : n ≤ length s → take n s ≡ replicate (length (take n s)) 0
      → between n (length s) s ≡ replicate (length (between n (length s) s)) filling
      → s ≡ replicate n 0 ++ drop n (filled (length s))
  unfolding filled
  zeroed-is h p q =
      parts s (replicate n 0) (drop n (filled (length s))) n (p ∙ ap (λ i. replicate i 0) (length-take-le n s h)) (rest-yes s n filling q)

-- what the call leaves, by its answer
module _ (a : Arrays) (f g : List ℕ) (n : ℕ) where
  by : (r : Answer) {e : Effect} → effect_of r ≡ e → left r a f g n ≡ slice_by e (laid_length a) (laid a f g) (filled n)
  unfolding left slice_after
  by r h = ap (λ e. slice_by e (laid_length a) (laid a f g) (filled n)) h

  pub left_laid : (v : ℕ) → left (Ok v) a f g n ≡ laid a f g ++ drop (laid_length a) (filled n)
  unfolding slice_by
  left_laid v = by (Ok v) (writes (Ok v) refl)

  pub left-zeroed : (v : ℕ) → left (Err (TooDeep v)) a f g n ≡ replicate (laid_length a) 0 ++ drop (laid_length a) (filled n)
  unfolding slice_by
  left-zeroed v = by (Err (TooDeep v)) (zeroes (Err (TooDeep v)) refl)

  pub left-filled : (r : Refusal) → ((v : ℕ) → r ≡ TooDeep v → ⊥) → left (Err r) a f g n ≡ filled n
  unfolding slice_by
  left-filled (TooLong v) p = by (Err (TooLong v)) (leaves (Err (TooLong v)) (λ e. omega arith) (λ e. omega arith))
  left-filled (NotUtf8 v) p = by (Err (NotUtf8 v)) (leaves (Err (NotUtf8 v)) (λ e. omega arith) (λ e. omega arith))
  left-filled (TreeTooShort v) p = by (Err (TreeTooShort v)) (leaves (Err (TreeTooShort v)) (λ e. omega arith) (λ e. omega arith))
  left-filled (ErrorsTooShort v) p = by (Err (ErrorsTooShort v)) (leaves (Err (ErrorsTooShort v)) (λ e. omega arith) (λ e. omega arith))
  left-filled (TooDeep v) p = absurd (p v refl)
  left-filled (IllFormed v) p = by (Err (IllFormed v)) (leaves (Err (IllFormed v)) (λ e. omega arith) (λ e. omega arith))
  left-filled (OutputTooShort v) p = by (Err (OutputTooShort v)) (leaves (Err (OutputTooShort v)) (λ e. omega arith) (λ e. omega arith))
