-- The marks of a tree, and moving them up.
use Rattle.std.specs.Prelude.{ℕ, ◌+◌, List, [], ◌∷◌, ◌++◌, map}
use Rattle.syntax.specs.Kind as Kind

-- a mark: of a kind without a text, or of a T kind, with its place
pub data Mark : Type 0 where
  plain : ℕ → Mark
  placed : ℕ → ℕ → Mark

abbrev pub kind_of : Mark → ℕ
kind_of (plain k) = k
kind_of (placed k p) = k

abbrev pub place_of : Mark → ℕ
place_of (plain k) = 0
place_of (placed k p) = p

abbrev pub up : ℕ → Mark → Mark
up n (plain k) = plain k
up n (placed k p) = placed k (n + p)

unfoldable pub move_up : ℕ → List Mark → List Mark
move_up n ms = map (up n) ms

-- a node without a text, and one with a text from a to e
unfoldable pub node : ℕ → List Mark → List Mark
node k inner = plain k ∷ (inner ++ (plain (Kind.closing k) ∷ []))

unfoldable pub text_node : ℕ → ℕ → ℕ → List Mark
text_node k a e = placed k a ∷ placed (Kind.closing k) e ∷ []
