-- Calls one after the other, and what they should tell: the entries of a source in order, and then that none is left, for ever.
-- That they do is in proofs/Calls.
use Rattle.std.specs.Prelude.{ℕ, zero, suc, ◌≤◌, List, [], ◌∷◌, Ok, Some, None}
use Rattle.syntax.specs.declared.next.Extent.{Extent}
use Rattle.syntax.specs.Next.{Next, next_answer, place_after}

-- the answers of calls one after the other, from a place, with trees of so many words
unfoldable pub answers : List ℕ → ℕ → List ℕ → List Next
answers s at [] = []
answers s at (m ∷ ms) = next_answer s at m ∷ answers s (place_after s at (next_answer s at m)) ms

-- the first n of: the entries in order, then that none is left, for ever
unfoldable pub told : List Extent → ℕ → List Next
told xs zero = []
told [] (suc n) = Ok None ∷ told [] n
told (x ∷ xs) (suc n) = Ok (Some x) ∷ told xs n

-- trees that are long enough
abbrev pub Long : ℕ → List ℕ → Type 0
Long n [] = Unit {0}
Long n (m ∷ ms) = (n ≤ m) × Long n ms
