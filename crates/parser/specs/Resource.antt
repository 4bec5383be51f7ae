-- A file that is read part way, and what its loop's methods do to it and to the lent slices.
use Rattle.std.specs.Prelude.{ℕ, suc, ◌+◌, ◌-◌, ◌≤◌, ◌<◌, ◌≡◌, List, [], ◌∷◌, ◌++◌, Option, Some, None, Result, Ok, Err}
use Rattle.std.specs.Prelude.{Bool, true, false, eqb, ltb, length, drop, set}
use Rattle.syntax.specs.Limits.{max_open}
use Rattle.syntax.specs.Kind as Kind
use Rattle.syntax.specs.Layout.{tree_capacity}
use Rattle.syntax.specs.declared.errors.ParserError.{ParserError}
use Rattle.syntax.specs.Marks.{Mark, node}
use Rattle.syntax.specs.Helper.{skip_blank_block}
use Rattle.syntax.specs.Pattern.{used_by}
use Rattle.syntax.specs.Expression.{level}
use Rattle.syntax.specs.Core.{comment, get_entry, to_next_entry, line_starts_at, Error, refused, following, is_named, count}
use Rattle.syntax.specs.Core.{kind_of_entry, entries, parse}
use Rattle.entry.specs.Tree.{Word, word, Step, Fits, words_at}
use Rattle.entry.specs.Level.{number}
use Rattle.entry.specs.declared.parser_core.Entry.{Entry}
use Rattle.entry.specs.declared.parser_core.Entry.TheVariants.{Message, Term, Comment}
use Rattle.parser.specs.ErrorList.{ErrorStep, with_junk}
use Rattle.parser.specs.Call.{Sized}
use Rattle.parser.specs.declared.resource.Resource.{Resource}

-- ---- what stays

-- the source, and the places in memory of the lent slices
pub record Same (x y : Resource) : Type 0 where
  pub source : y.source ≡ x.source
  pub tree : y.tree.ghost_name ≡ x.tree.ghost_name
  pub errors : y.errors.ghost_name ≡ x.errors.ghost_name

-- all but the words of the tree, the count of marks and the last comment
pub record Aside (x y : Resource) : Type 0 where
  pub same : Same x y
  pub list : y.errors.now ≡ x.errors.now
  pub at : y.at ≡ x.at
  pub error_count : y.error_count ≡ x.error_count

-- ---- marks

-- there is room for k marks more
abbrev pub Holds : Resource → ℕ → Type 0
Holds x k = Fits x.tree.now (tree_capacity (length x.source.now)) x.marks k

-- the marks ws were written
pub record Wrote (ws : List Word) (x y : Resource) : Type 0 where
  pub aside : Aside x y
  pub comment : y.comment ≡ x.comment
  pub marks : y.marks ≡ x.marks + length ws
  pub step : Step (tree_capacity (length x.source.now)) x.marks x.tree.now y.tree.now ws

-- ---- the last comment

unfoldable pub regular : ℕ → ℕ → Option ℕ
regular l n = elim (eqb l 1) [ true ↦ Some n | false ↦ None ]

-- it is kept where fewer than two line ends follow
unfoldable pub kept : Option ℕ → ℕ → Option ℕ
kept c k = elim (ltb k 2) [ true ↦ c | false ↦ None ]

-- its marks, of which the last is the n-th, lie in the tree
abbrev pub Attachable : List ℕ → Option ℕ → ℕ → Type 0
Attachable t (Some i) n = (i < n) × (n + 1 < length t)
Attachable t None n = Unit {0}

abbrev pub attached : Option ℕ → ℕ → List ℕ → List ℕ
attached (Some i) n t = set (set t (i + 2) Kind.attached_comment) (n - 1 + 2) (Kind.closing Kind.attached_comment)
attached None n t = t

-- after it was
abbrev pub joined : ℕ → Resource → Resource
joined n x = record x { tree = record x.tree { now = attached x.comment n x.tree.now }; comment = None }

-- past blank lines
abbrev pub past : Resource → Resource
past x =
    let b = skip_blank_block (drop x.at x.source.now) in
    record x { at = x.at + used_by b; comment = kept x.comment (count b) }

-- ---- an entry that was read, whose opening mark is the n-th

pub record Closable (n : ℕ) (x : Resource) : Type 0 where
  pub room : Holds x 1
  pub opened : n < x.marks
  pub comment : Attachable x.tree.now x.comment n

-- it got the kind κ and was closed; before, the tree's words were t. The last comment is c
pub record Closed (n κ : ℕ) (c : Option ℕ) (t : List ℕ) (x y : Resource) : Type 0 where
  pub aside : Aside x y
  pub comment : y.comment ≡ c
  pub marks : y.marks ≡ x.marks + 1
  pub step : Step (tree_capacity (length x.source.now)) x.marks (set t (n + 2) κ) y.tree.now (word (Kind.closing κ) 0 ∷ [])

abbrev pub EntryClosed : Entry → ℕ → Resource → Resource → Type 0
EntryClosed Message n x y = Closed n Kind.message None (attached x.comment n x.tree.now) x y
EntryClosed Term n x y = Closed n Kind.term None (attached x.comment n x.tree.now) x y
EntryClosed (Comment l) n x y = Closed n (2 + number l) (regular (number l) n) x.tree.now x y

-- ---- junk

-- where the junk ends, if reading stopped at k
abbrev pub junk_till : ℕ → List ℕ → ℕ
junk_till k s = k + to_next_entry (line_starts_at k s) (drop k s)

-- an error was written with its junk
pub record Listed (f : ParserError) (a z : ℕ) (x y : Resource) : Type 0 where
  pub same : Same x y
  pub tree : y.tree.now ≡ x.tree.now
  pub at : y.at ≡ x.at
  pub marks : y.marks ≡ x.marks
  pub comment : y.comment ≡ x.comment
  pub error_count : y.error_count ≡ x.error_count + 1
  pub list : ErrorStep (length x.source.now) x.error_count x.errors.now y.errors.now (with_junk f a z ∷ [])

-- an entry could not be read, and there is room for junk and an error
pub record Troubled (x : Resource) (k : ℕ) : Type 0 where
  pub sized : Sized x.source.now x.tree.now x.errors.now
  pub inside : k ≤ length x.source.now
  pub here : x.at < length x.source.now
  pub marks : x.marks ≤ tree_capacity x.at
  pub error_count : x.error_count ≤ x.at

pub record Junked (f : ParserError) (k : ℕ) (x y : Resource) : Type 0 where
  pub same : Same x y
  pub at : y.at ≡ junk_till k x.source.now
  pub marks : y.marks ≡ x.marks + 2
  pub error_count : y.error_count ≡ x.error_count + 1
  pub comment : y.comment ≡ None
  pub tree : Step (tree_capacity (length x.source.now)) x.marks x.tree.now y.tree.now
      (word Kind.junk x.at ∷ word (Kind.closing Kind.junk) (junk_till k x.source.now) ∷ [])
  pub list : ErrorStep (length x.source.now) x.error_count x.errors.now y.errors.now (with_junk f x.at (junk_till k x.source.now) ∷ [])

-- ---- a file up to an entry

-- marks of which the last comment's are a part: the i-th opens it, and whether it is attached is still open
pub record Open (i : ℕ) (marks : Bool → List Mark) : Type 0 where
  pub before : List Mark
  pub inner : List Mark
  pub opens : i ≡ length before
  pub is : (b : Bool) → marks b ≡ before ++ node (kind_of_entry (comment 1) b) inner

abbrev pub Pending : Option ℕ → (Bool → List Mark) → Type 0
Pending (Some i) marks = Open i marks
Pending None marks = marks true ≡ marks false

-- the marks and errors so far stand in the slices, and what follows them is the file's reading. The marks are those after a comment
-- that stays free, or is attached as a message or a term comes next
pub record Held (s : List ℕ) (x : Resource) : Type 0 where
  pub sized : Sized s x.tree.now x.errors.now
  pub inside : x.at ≤ length s
  pub starts : x.at < length s → line_starts_at x.at s ≡ true
  pub marks : Bool → List Mark
  pub faults : List Error
  pub room : x.marks ≤ tree_capacity x.at
  pub few : x.error_count ≤ x.at
  pub counted : x.marks ≡ length (marks false)
  pub listed : x.error_count ≡ length faults
  pub tree : Step (tree_capacity (length s)) 0 x.tree.now x.tree.now (words_at 0 (marks false))
  pub list : ErrorStep (length s) 0 x.errors.now x.errors.now faults
  pub pending : Pending x.comment marks
  pub answer : parse max_open s ≡ following (marks (is_named (get_entry (level max_open) (drop x.at s)))) faults x.at
      (entries (suc (length s)) (level max_open) (drop x.at s))

-- ---- an entry

-- the words past the layouts are as they were
pub record Framed (s t t' e e' : List ℕ) : Type 0 where
  pub tree : Step (tree_capacity (length s)) 0 t t' []
  pub list : ErrorStep (length s) 0 e e' []

-- from x one was passed: up to the next one, the file is held again
abbrev pub Turned : List ℕ → Resource → Resource → Result (Unit {0}) ℕ → Type 0
Turned s x y (Ok u) = Framed s x.tree.now y.tree.now x.errors.now y.errors.now × Held s (past y) × (x.at < (past y).at)
Turned s x y (Err k) = Framed s x.tree.now y.tree.now x.errors.now y.errors.now × (parse max_open s ≡ refused k)
