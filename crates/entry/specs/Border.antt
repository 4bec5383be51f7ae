-- What the functions that the crate above calls need, and what they did with it or without.
use Rattle.std.specs.Prelude.{◌≡◌, ℕ, Option, Some, None, ◌+◌, ◌*◌, Bool, true, false, ◌&&◌, List, [], ◌∷◌, length, drop, nat_le, nat_lt}
use Rattle.syntax.specs.Limits.{max_length}
use Rattle.syntax.specs.Layout.{sizes, tree_capacity, tree_layout}
use Rattle.syntax.specs.Helper.{skip_blank_block}
use Rattle.syntax.specs.Pattern.{used_by}
use Rattle.syntax.specs.Expression.{level}
use Rattle.syntax.specs.Core as Core
use Rattle.entry.specs.Tree.{word, Step}
use Rattle.entry.specs.Did.{told, result_by, plain, Did}
use Rattle.entry.specs.Entry.{entry_of}
use Rattle.entry.specs.declared.border.BlankBlock.{BlankBlock}
use Rattle.entry.specs.declared.border.EntryRead.{EntryRead}

-- ---- an entry

-- whether one can be read at a place, after n marks, from l bytes into m words: the source is short enough and has the place, the marks are
-- at most as many as the bytes before have room for and the entry's opening, and the tree has the source's layout
unfoldable pub readable : (l m at n : ℕ) → Bool
readable l m at n = nat_le l max_length && (nat_le at l && (nat_le n (tree_capacity at + 1) && nat_le (tree_layout l) m))

-- what was done where it can be read: the words of the two arrays past the entry's marks are open (`Step`)
abbrev pub ReadAs : List ℕ → (at left n : ℕ) → (t t' : List ℕ) → Option EntryRead → Type 0
ReadAs s at left n t t' (Some x) =
    Did plain (tree_capacity (length s)) at n t t' (told (result_by entry_of x.entry) x.at x.marks) (Core.get_entry (level left) (drop at s))
ReadAs s at left n t t' None = ⊥

-- what was done, by whether it can be read
abbrev pub TriedBy : Bool → List ℕ → (at left n : ℕ) → (t t' : List ℕ) → Option EntryRead → Type 0
TriedBy true s at left n t t' r = ReadAs s at left n t t' r
TriedBy false s at left n t t' r = (r ≡ None) × (t' ≡ t)

abbrev pub DidTry : List ℕ → (at left n : ℕ) → (t t' : List ℕ) → Option EntryRead → Type 0
DidTry s at left n t t' r = TriedBy (readable (length s) (length t) at n) s at left n t t' r

-- ---- blank lines

-- they were passed from a place on: past the end of the source there are none
pub record Skipped (s : List ℕ) (at : ℕ) (r : BlankBlock) : Type 0 where
  pub end : r.end ≡ at + used_by (skip_blank_block (drop at s))
  pub count : r.count ≡ Core.count (skip_blank_block (drop at s))

-- ---- a mark

-- whether there is room for one after n, in m words with two arrays of `cap`
unfoldable pub roomy : (m cap n : ℕ) → Bool
roomy m cap n = nat_lt n cap && nat_le (sizes + 2 * cap) m

abbrev pub PutBy : Bool → (cap n kind place : ℕ) → (t t' : List ℕ) → ℕ → Type 0
PutBy true cap n kind place t t' r = (r ≡ n + 1) × Step cap n t t' (word kind place ∷ [])
PutBy false cap n kind place t t' r = (r ≡ n) × (t' ≡ t)

-- one was written, or there is no room for it
abbrev pub DidPut : (cap n kind place : ℕ) → (t t' : List ℕ) → ℕ → Type 0
DidPut cap n kind place t t' r = PutBy (roomy (length t) cap n) cap n kind place t t' r
