-- That the table's well-formed bytes are text as std knows it: the UTF-8 of some characters.
use Rattle.std.specs.Prelude.{ℕ, ◌≡◌, ◌↔◌, List}
use Rattle.std.specs.Str.{IsUtf8, IsValidUpTo}
use Rattle.std.proofs.Math.Option.{some}
use Rattle.utf8.specs.Utf8.{first_ill_formed, WellFormed}

-- the table finds no fault just where the bytes are text, and a first fault at n just where the longest text in front ends at n
pub record IsTextByTable (s : List ℕ) : Type 0 where
  pub text : WellFormed s ↔ IsUtf8 s
  pub fault : (n : ℕ) → (first_ill_formed s ≡ some n) ↔ IsValidUpTo s n
