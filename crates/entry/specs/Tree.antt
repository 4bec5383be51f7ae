-- What the contracts say of the words of a tree while it is written.
use Rattle.std.specs.Prelude.{◌≡◌, ℕ, zero, suc, ◌+◌, ◌-◌, ◌*◌, ◌≤◌, List, [], ◌∷◌, ◌++◌, map, length, take, drop, slice_index}
use Rattle.syntax.specs.Marks.{Mark, kind_of, place_of, move_up}

-- a mark as two words: its kind and its place
pub data Word : Type 0 where
  word : ℕ → ℕ → Word

abbrev pub word_of : Mark → Word
word_of m = word (kind_of m) (place_of m)

-- marks that count from a place of the source
unfoldable pub words_at : ℕ → List Mark → List Word
words_at at ms = map word_of (move_up at ms)

-- the first n marks of a tree
unfoldable pub marks_in : ℕ → ℕ → List ℕ → List Word
marks_in cap zero t = []
marks_in cap (suc n) t = marks_in cap n t ++ (word (slice_index t (n + 2)) (slice_index t (cap + n + 2)) ∷ [])

-- after the first n marks stand ws. The sizes and the words past the layout are as they were
pub record Step (cap n : ℕ) (t t' : List ℕ) (ws : List Word) : Type 0 where
  pub long : length t' ≡ length t
  pub marks : marks_in cap (n + length ws) t' ≡ marks_in cap n t ++ ws
  pub head : take 2 t' ≡ take 2 t
  pub rest : drop (2 + 2 * cap) t' ≡ drop (2 + 2 * cap) t

-- there is room for k marks after n
pub record Fits (t : List ℕ) (cap n k : ℕ) : Type 0 where
  pub fits : n + k ≤ cap
  pub layout : 2 + 2 * cap ≤ length t

-- c marks from the i-th on
unfoldable pub marks_from : ℕ → ℕ → ℕ → List ℕ → List Word
marks_from cap i zero t = []
marks_from cap i (suc c) t = word (slice_index t (i + 2)) (slice_index t (cap + i + 2)) ∷ marks_from cap (i + 1) c t

-- a mark was put before those from the i-th of n on
pub record Inserted (cap i n : ℕ) (t t' : List ℕ) (w : Word) : Type 0 where
  pub long : length t' ≡ length t
  pub marks : marks_in cap (n + 1) t' ≡ marks_in cap i t ++ (w ∷ marks_from cap i (n - i) t)
  pub head : take 2 t' ≡ take 2 t
  pub rest : drop (2 + 2 * cap) t' ≡ drop (2 + 2 * cap) t
