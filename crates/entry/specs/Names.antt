-- The named arguments whose marks stand in a tree, by their names.
use Rattle.std.specs.Prelude.{◌≡◌, ℕ, suc, ◌+◌, ◌-◌, ◌*◌, ◌<◌, ◌≤◌, Bool, true, false, List, [], ◌∷◌, ◌++◌, length, take, drop, nat_lt, slice_index, slice_index_or, slice_range}
use Rattle.syntax.specs.Kind as Kind
use Rattle.syntax.specs.Expression.{is_among}
use Rattle.entry.specs.Tree.{Word, word, marks_from}

-- from d nodes open to none
abbrev pub Nested : ℕ → List Word → Type 0
Nested d [] = d ≡ 0
Nested d (word k p ∷ ws) = elim (nat_lt k 100) [ true ↦ Nested (suc d) ws | false ↦ (0 < d) × Nested (d - 1) ws ]

-- a named argument: its name from a to e, and the marks of its value
abbrev pub named_words : ℕ → ℕ → List Word → List Word
named_words a e inner = word Kind.named_argument 0 ∷ word Kind.identifier a ∷ word (Kind.closing Kind.identifier) e
    ∷ (inner ++ (word (Kind.closing Kind.named_argument) 0 ∷ []))

-- marks of named arguments in a row, with their names, the last first
pub data NamedRow (s : List ℕ) : List Word → List (List ℕ) → Type 0 where
  none : NamedRow s [] []
  more : {ws : List Word} {names : List (List ℕ)} (a e : ℕ) (inner : List Word) → a ≤ e → e ≤ length s → Nested 0 inner
      → NamedRow s ws names
      → NamedRow s (ws ++ named_words a e inner) (slice_range s a e ∷ names)

-- the marks of t from the i-th up to the n-th are named arguments with these names
pub record Names (s t : List ℕ) (cap i n : ℕ) (names : List (List ℕ)) : Type 0 where
  pub order : i ≤ n
  pub room : n ≤ cap
  pub layout : 2 + 2 * cap ≤ length t
  pub row : NamedRow s (marks_from cap i (n - i) t) names

-- they are named arguments
pub record HasNames (s t : List ℕ) (cap i n : ℕ) : Type 0 where
  pub names : List (List ℕ)
  pub are : Names s t cap i n names

-- whether a name is one of theirs
pub record Among (s t : List ℕ) (cap i n : ℕ) (name : List ℕ) (r : Bool) : Type 0 where
  pub is : (names : List (List ℕ)) → Names s t cap i n names → r ≡ is_among name names

-- the name of the argument at the i-th mark, from the marks after it
abbrev pub name_at : List ℕ → List ℕ → ℕ → ℕ → List ℕ
name_at s t cap i = take (slice_index t (cap + i + 4) - slice_index t (cap + i + 3)) (drop (slice_index t (cap + i + 3)) s)

pub record HasName (s t : List ℕ) (cap i : ℕ) : Type 0 where
  pub inside : cap + i + 4 < length t
  pub order : slice_index_or t (cap + i + 3) 0 ≤ slice_index t (cap + i + 4)
  pub within : slice_index_or t (cap + i + 4) 0 ≤ length s
