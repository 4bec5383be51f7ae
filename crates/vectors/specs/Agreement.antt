-- When the reading call agrees with a case.
use Rattle.std.specs.Prelude.{ℕ, ◌+◌, ◌*◌, ◌≤◌, ◌≡◌, Bool, true, false, Option, Some, None, Result, Ok, Err, List, ◌∷◌, ◌++◌, length, replicate}
use Rattle.syntax.specs.Answer.{Answer, number_of, value_of, slice_after}
use Rattle.syntax.specs.Layout.{array, tree_capacity, group_size}
use Rattle.syntax.specs.Reading.{read_answer, tree_after, errors_after}
use Rattle.vectors.specs.Stored.{between, shorts, Repeats}
use Rattle.vectors.specs.declared.replay.Case.{Case}
use Rattle.vectors.specs.declared.compare.Arrays.{Arrays}

-- the answer of a test: whether P holds
pub record Tells (r : Bool) (P : Type 0) : Type 0 where
  pub yes : r ≡ true → P
  pub no : P → r ≡ true

-- what lent slices hold before the call
abbrev pub filling : ℕ
filling = 2863311530

unfoldable pub filled : ℕ → List ℕ
filled n = replicate n filling

-- the words of a slice after acceptance, by what is stored of its two arrays
unfoldable pub laid : Arrays → (first second : List ℕ) → List ℕ
laid a first second = a.count ∷ a.capacity ∷ (array a.capacity (shorts first) ++ array a.size (shorts second))

-- how many words they are
abbrev pub laid_length : Arrays → ℕ
laid_length a = 2 + a.capacity + a.size

-- a slice that was filled, after the call
unfoldable pub left : Answer → Arrays → (first second : List ℕ) → ℕ → List ℕ
left r a first second n = slice_after r (laid_length a) (laid a first second) (filled n)

-- what is stored of the arrays has their numbers of words, which are no more than they hold
pub record Stores (a : Arrays) (first second : List ℕ) : Type 0 where
  pub firsts : length first ≡ 2 * a.count
  pub held : a.count ≤ a.capacity
  pub seconds : length second ≡ 2 * a.used
  pub room : a.used ≤ a.size
  pub low : a.capacity ≤ 8000008
  pub small : a.size ≤ 8000008

-- how many bytes the listing has: two numbers a mark, seven an error
abbrev pub listed : Case → ℕ
listed c = 4 * c.marks + 14 * c.faults

-- the arrays of a tree, and of a list of errors, for a source of n bytes
abbrev pub tree_arrays : Case → ℕ → Arrays
tree_arrays c n = record { count = c.marks; capacity = tree_capacity n; used = c.marks; size = tree_capacity n }

abbrev pub error_arrays : Case → ℕ → Arrays
error_arrays c n = record { count = c.faults; capacity = n; used = group_size * c.faults; size = group_size * n }

-- the listing's parts: kinds and places of marks, kinds and groups of errors
abbrev pub kinds_in : Case → List ℕ → List ℕ
kinds_in c l = between 0 (2 * c.marks) l

abbrev pub places_in : Case → List ℕ → List ℕ
places_in c l = between (2 * c.marks) (4 * c.marks) l

abbrev pub errors_in : Case → List ℕ → List ℕ
errors_in c l = between (4 * c.marks) (4 * c.marks + 2 * c.faults) l

abbrev pub groups_in : Case → List ℕ → List ℕ
groups_in c l = between (4 * c.marks + 2 * c.faults) (length l) l

-- the listing is the case's, and no longer than a source of n bytes allows
pub record Lists (c : Case) (n : ℕ) (l : List ℕ) : Type 0 where
  pub whole : length l ≡ listed c
  pub marks : c.marks ≤ tree_capacity n
  pub faults : c.faults ≤ n
  pub short : n ≤ 1000001

-- the answer has this number and value
pub record Answers (n v : ℕ) (r : Answer) : Type 0 where
  pub number : number_of r ≡ n
  pub value : value_of r ≡ v

-- what the reading call, handed filled slices of t and e words, answers and leaves
pub record ReadFilled (s : List ℕ) (t e : ℕ) (tree errors : List ℕ) (r : Answer) : Type 0 where
  pub answers : r ≡ read_answer s t e
  pub leaves : tree ≡ tree_after s (filled t) (filled e)
  pub lists : errors ≡ errors_after s (filled t) (filled e)

-- the definition's answer for the source s and filled slices of t and e words is the case's, and so is every word that it leaves
pub record Agrees (c : Case) (s l : List ℕ) (t e : ℕ) : Type 0 where
  pub answers : Answers c.number c.value (read_answer s t e)
  pub tree : tree_after s (filled t) (filled e) ≡ left (read_answer s t e) (tree_arrays c (length s)) (kinds_in c l) (places_in c l) t
  pub errors : errors_after s (filled t) (filled e) ≡ left (read_answer s t e) (error_arrays c (length s)) (errors_in c l) (groups_in c l) e

-- a case fits in slices of so many bytes and words
pub record Fits (c : Case) (s l t e : ℕ) : Type 0 where
  pub short : c.length ≤ 1000001
  pub stored : c.stored ≤ c.length
  pub source : c.length ≤ s
  pub tree : c.tree ≤ t
  pub errors : c.errors ≤ e
  pub marks : c.marks ≤ tree_capacity c.length
  pub faults : c.faults ≤ c.length
  pub listing : listed c ≤ l

-- a case was replayed: its source is what is stored, repeated
pub record Replayed (c : Case) (before after listing : List ℕ) (r : Bool) : Type 0 where
  pub repeats : Repeats c.stored (between 0 c.length before) (between 0 c.length after)
  pub agrees : Tells r (Agrees c (between 0 c.length after) (between 0 (listed c) listing) c.tree c.errors)

-- whether a file is over, and how many cases differ in a turn: a case is the same or differs, none is left, or one can't be read
abbrev pub over : {E : Type 0} → Result (Option Bool) E → Bool
over (Ok None) = true
over (Ok (Some same)) = false
over (Err e) = true

abbrev pub differing : {E : Type 0} → Result (Option Bool) E → ℕ
differing (Ok None) = 0
differing (Ok (Some true)) = 0
differing (Ok (Some false)) = 1
differing (Err e) = 0
