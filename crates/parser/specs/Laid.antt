-- What the contracts say of a lent slice as a whole.
use Rattle.std.specs.Prelude.{ℕ, ◌+◌, ◌≤◌, List, ◌∷◌, ◌++◌, length, take, drop}
use Rattle.syntax.specs.Layout.{array}

-- a slice has room for cap items, of which n are there; its second array is `size` words long, of which `used` are used
pub record Laid (t : List ℕ) (cap n size used : ℕ) : Type 0 where
  pub held : n ≤ cap
  pub filled : used ≤ size
  pub small : cap ≤ 8_000_000
  pub layout : 2 + cap + size ≤ length t

-- its words once the sizes stand there and the rest of both arrays is 0
unfoldable pub finished : (cap n size used : ℕ) → List ℕ → List ℕ
finished cap n size used t = n ∷ cap
    ∷ ((array cap (take n (drop 2 t)) ++ array size (take used (drop (2 + cap) t))) ++ drop (2 + cap + size) t)
