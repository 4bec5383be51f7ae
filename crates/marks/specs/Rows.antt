-- The lines of an accepted reading, by the words that the reading call leaves.
use Rattle.std.specs.Prelude.{ℕ, zero, suc, ◌+◌, ◌*◌, ◌≤◌, List, [], ◌∷◌, ◌++◌, length, get_or}
use Rattle.syntax.specs.Layout.{sizes, group_size, count, capacity}
use Rattle.syntax.specs.Byte as Byte
use Rattle.syntax.specs.Decimal.{decimal}

-- two numbers, a space after each
unfoldable pub span : ℕ → ℕ → List ℕ
span x y = (decimal x ++ (Byte.space ∷ [])) ++ (decimal y ++ (Byte.space ∷ []))

-- the rows 0, 1 and so on below n
unfoldable pub rows : (ℕ → List ℕ) → ℕ → List (List ℕ)
rows f zero = []
rows f (suc n) = rows f n ++ (f n ∷ [])

-- mark i of a tree
unfoldable pub mark_row : List ℕ → ℕ → List ℕ
mark_row t i = get_or t (sizes + i) 0 ∷ get_or t (sizes + capacity t + i) 0 ∷ []

-- error i of a list of errors
unfoldable pub error_row : List ℕ → ℕ → List ℕ
error_row e i =
    let g = sizes + capacity e + group_size * i in
    get_or e (sizes + i) 0 ∷ get_or e g 0 ∷ get_or e (g + 1) 0 ∷ get_or e (g + 2) 0 ∷ get_or e (g + 3) 0 ∷ get_or e (g + 4) 0 ∷ get_or e (g + 5) 0 ∷ []

-- all lines
unfoldable pub read_rows : (t e : List ℕ) → List (List ℕ)
read_rows t e = (0 ∷ count t ∷ count e ∷ []) ∷ (rows (mark_row t) (count t) ++ rows (error_row e) (count e))

-- as many items are counted as there is room for, each with its words
pub record Held (size : ℕ) (ws : List ℕ) : Type 0 where
  pub counted : count ws ≤ capacity ws
  pub words : sizes + (1 + size) * capacity ws ≤ length ws
