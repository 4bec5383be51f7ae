-- Places of the source, and what a reader of an entry asks.
use Rattle.std.specs.Prelude.{ℕ, ◌+◌, ◌*◌, ◌≤◌, List, length}
use Rattle.syntax.specs.Limits.{max_length}
use Rattle.syntax.specs.Layout.{tree_capacity}

-- a place of a source that is short enough
pub record Inside (s : List ℕ) (at : ℕ) : Type 0 where
  pub inside : at ≤ length s
  pub short : length s ≤ max_length

-- the marks so far, with the opening mark of the entry, are at most eight for each byte before it and that one, and there is room for eight
-- a byte
pub record Entered (s t : List ℕ) (cap at n : ℕ) : Type 0 where
  pub inside : at ≤ length s
  pub spent : n ≤ tree_capacity at + 1
  pub short : length s ≤ max_length
  pub holds : tree_capacity (length s) ≤ cap
  pub layout : 2 + 2 * cap ≤ length t
