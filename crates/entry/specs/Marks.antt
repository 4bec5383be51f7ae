-- What the contracts say of a tree to which marks are written.
use Rattle.std.specs.Prelude.{◌≡◌, ℕ, ◌+◌, ◌≤◌, List, length}
use Rattle.entry.specs.Tree.{Word, word, Step, Inserted}
use Rattle.entry.specs.declared.marks.Marks.{Marks}

-- there is room for k marks more
pub record Holds (m : Marks) (k : ℕ) : Type 0 where
  pub room : m.count + k ≤ m.capacity

-- the words are the same place in memory, and hold as many marks
pub record Same (m m' : Marks) : Type 0 where
  pub words : m'.words.ghost_name ≡ m.words.ghost_name
  pub capacity : m'.capacity ≡ m.capacity

-- the marks ws were written
pub record Wrote (m m' : Marks) (ws : List Word) : Type 0 where
  pub same : Same m m'
  pub count : m'.count ≡ m.count + length ws
  pub step : Step m.capacity m.count m.words.now m'.words.now ws

-- a mark of a kind was put before those from the i-th on
pub record Put (i kind : ℕ) (m m' : Marks) : Type 0 where
  pub same : Same m m'
  pub count : m'.count ≡ m.count + 1
  pub inserted : Inserted m.capacity i m.count m.words.now m'.words.now (word kind 0)
