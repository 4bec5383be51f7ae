-- Numbers in decimal, as the programs print them and as the Rust's format! does.
use Rattle.std.specs.Prelude.{ℕ, zero, suc, ◌+◌, ◌/◌, ◌%◌, true, false, List, [], ◌∷◌, ltb}
use Rattle.syntax.specs.Byte as Byte

-- a number's digits, at most n of them, before others
unfoldable pub digits : ℕ → ℕ → List ℕ → List ℕ
digits zero x ds = ds
digits (suc n) x ds = elim (ltb x 10) [ true ↦ (Byte.digit0 + x) ∷ ds | false ↦ digits n (x / 10) ((Byte.digit0 + (x % 10)) ∷ ds) ]

-- a number of 64 bits has at most so many
abbrev pub max_digits : ℕ
max_digits = 20

unfoldable pub decimal : ℕ → List ℕ
unfolding digits
decimal x = digits max_digits x []
