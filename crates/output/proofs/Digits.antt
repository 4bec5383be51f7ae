-- A number's digits: how many, and how they come one after another.
use Prim.Native.Nat.{ℕ, zero, suc, ◌+◌, ◌/◌, ◌%◌, ◌^◌, ◌≤◌, ◌<◌}
use native.Mathlib.Nat.{div-lt_iff_lt-mul, pow-suc}
use native.Mathlib.Omega.{arith}
use mathlib.Core.Path.{◌≡◌, refl, sym, ◌∙◌}
use mathlib.Core.List.{List, [], ◌∷◌, ◌++◌}
use lib.ListN.{length}
use lib.Dec.{ltb}
use borrow.Author.Tests.{lt-ltb, le-ltb}
use Rattle.laws.specs.Bytes.{by_case}
use Rattle.syntax.specs.Byte as Byte
use Rattle.syntax.specs.Decimal.{digits, max_digits, decimal}

-- what follows the digits
digits-then : (n x : ℕ) (ds es : List ℕ) → digits n x (ds ++ es) ≡ digits n x ds ++ es
unfolding digits
digits-then zero x ds es = refl
digits-then (suc n) x ds es =
    let one = (Byte.digit0 + (x % 10)) ∷ ds in
    by_case (ltb x 10) (λ q. rw (q, digits)) (λ q. rw (q, digits) (digits-then n (x / 10) one es))

digits-few : (n x : ℕ) (ds : List ℕ) → length (digits n x ds) ≤ n + length ds
unfolding digits
digits-few zero x ds = omega arith
digits-few (suc n) x ds =
    let one = (Byte.digit0 + (x % 10)) ∷ ds in
    by_case (ltb x 10) (λ q. rw (q, digits) (omega arith)) (λ q. rw (q, digits) (omega (arith, digits-few n (x / 10) one)))

tenth : (n x : ℕ) → x < 10 ^ suc n → x / 10 < 10 ^ n
tenth n x h = (div-lt_iff_lt-mul {k = 10} {x = x} {y = 10 ^ n} (omega arith)).1 (omega (arith, pow-suc 10 n))

-- more digits allowed than there are
digits_more : (n x : ℕ) (ds : List ℕ) → x < 10 ^ suc n → digits (suc (suc n)) x ds ≡ digits (suc n) x ds
unfolding digits
digits_more zero x ds h = rw (lt-ltb x 10 (omega arith), digits)
digits_more (suc n) x ds h =
    let one = (Byte.digit0 + (x % 10)) ∷ ds in
    by_case (ltb x 10) (λ q. rw (q, digits)) (λ q. rw (q, digits) (digits_more n (x / 10) one (tenth (suc n) x h)))

module _ (x : ℕ) where
  pub decimal-few : length (decimal x) ≤ max_digits
  unfolding decimal
  decimal-few = omega (arith, digits-few max_digits x [])

  -- one digit
  pub decimal-one : x < 10 → decimal x ≡ (Byte.digit0 + x) ∷ []
  unfolding decimal digits
  decimal-one h = rw (lt-ltb x 10 h, digits)

  -- the last digit of several
  pub decimal-last : 10 ≤ x → x < 2 ^ 64 → decimal x ≡ decimal (x / 10) ++ ((Byte.digit0 + (x % 10)) ∷ [])
  unfolding decimal digits
  decimal-last l s =
      let last = (Byte.digit0 + (x % 10)) ∷ [] in
      let fewer = digits_more 18 (x / 10) last (tenth 19 x (omega arith)) in
      rw (le-ltb x 10 l, digits) (sym fewer ∙ digits-then max_digits (x / 10) [] last)
