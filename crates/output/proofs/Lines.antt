-- Lines of numbers, put number by number.
use Prim.Native.Nat.{ℕ, ◌+◌, ◌*◌, ◌^◌, ◌≤◌, ◌<◌}
use native.Mathlib.Omega.{arith}
use mathlib.Core.Path.{◌≡◌}
use mathlib.Core.List.{List, [], ◌∷◌, ◌++◌, append_assoc}
use lib.ListN.{length, length-append}
use Rattle.syntax.specs.Byte as Byte
use Rattle.syntax.specs.Decimal.{max_digits, decimal}
use Rattle.syntax.specs.Listing.{line}
use Rattle.output.specs.declared.text.Output.{Output}
use Rattle.output.specs.Put.{DidPut}
use Rattle.output.proofs.Digits.{decimal-few}
use Rattle.output.proofs.Puts.{did_as, did_then}

-- a number and the byte that ends it have at most so many bytes
abbrev pub field_room : ℕ
field_room = max_digits + 1

pub line-few : (x : ℕ) (xs : List ℕ) → length (line (x ∷ xs)) ≤ field_room * length (x ∷ xs)
unfolding line
line-few x [] = omega (arith, decimal-few x, length-append (decimal x) (Byte.line_feed ∷ []))
line-few x (y ∷ ys) = omega (arith, decimal-few x, length-append (decimal x) (Byte.space ∷ line (y ∷ ys)), line-few y ys)

-- a line's first number, and the others
pub line_first : (x y : ℕ) (ys : List ℕ) → (decimal x ++ (Byte.space ∷ [])) ++ line (y ∷ ys) ≡ line (x ∷ y ∷ ys)
unfolding line
line_first x y ys = append_assoc (decimal x) (Byte.space ∷ []) (line (y ∷ ys))

pub put_first : {o o₁ o₂ : Output} (x y : ℕ) (ys : List ℕ) → length o.bytes.now < 2 ^ 64
    → DidPut o o₁ (decimal x ++ (Byte.space ∷ [])) → DidPut o₁ o₂ (line (y ∷ ys)) → DidPut o o₂ (line (x ∷ y ∷ ys))
put_first x y ys l h k = did_as (did_then h l k) (line_first x y ys)

-- a line's last number
pub put_last : {o o' : Output} (x : ℕ) → DidPut o o' (decimal x ++ (Byte.line_feed ∷ [])) → DidPut o o' (line (x ∷ []))
unfolding line
put_last x h = h
