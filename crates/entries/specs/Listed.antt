-- The entries of a source in a list.
use Rattle.std.specs.Prelude.{ℕ, ◌≤◌, ◌≡◌, List, ◌++◌, length, drop}
use Rattle.syntax.specs.Layout.{tree_layout}
use Rattle.syntax.specs.declared.next.Extent.{Extent}
use Rattle.syntax.specs.Next.{entries_of}

-- the longest source
abbrev pub max_source : ℕ
max_source = 4_000

pub record Lent (s t : List ℕ) (xs : List Extent) : Type 0 where
  pub source : length s ≤ max_source
  pub tree : tree_layout max_source ≤ length t
  pub list : max_source ≤ length xs

-- r entries were listed, all that there are; past them nothing has changed
pub record Listed (s : List ℕ) (xs xs' : List Extent) (r : ℕ) : Type 0 where
  pub count : r ≡ length (entries_of s)
  pub entries : xs' ≡ entries_of s ++ drop r xs
  pub within : r ≤ length xs'
