-- A file cut in two, said once: a single claim about a source and a cut, tree, errors and
-- texts together. It is said of any
-- view of reading; the definitions are one (Definition, proved in Theorem), the calls another (crate calls).
use Rattle.std.specs.Prelude.{ℕ, ◌+◌, ◌≤◌, ◌≡◌, Bool, true, false, ◌||◌, List, [], ◌∷◌, ◌++◌, map, length, take, drop, eqb}
use Rattle.syntax.specs.declared.errors.ErrorKind.TheVariants.{ExpectedMessageField, ExpectedTermField}
use Rattle.syntax.specs.declared.errors.ErrorKind.TheVariants.{DuplicatedNamedArgument, InvalidUnicodeEscapeSequence}
use Rattle.syntax.specs.Byte as Byte
use Rattle.syntax.specs.Kind as Kind
use Rattle.syntax.specs.Bytes.{starts_with, run, line_run, Whole, Fresh}
use Rattle.syntax.specs.Errors.{words_of}
use Rattle.syntax.specs.Layout.{has_place, group_size}

-- Trees and error lists, as they are compared: by counts, kinds and places or groups; capacities do not matter.

-- two trees are equal if their counts, kinds and places agree
pub record Tree : Type 0 where
  pub count : ℕ
  pub kinds : List ℕ
  pub places : List ℕ

-- two error lists, if their counts, kinds and groups do
pub record Errors : Type 0 where
  pub count : ℕ
  pub kinds : List ℕ
  pub groups : List ℕ

-- Moving up adds n, the first part's length, to T places, error positions, junk and span arguments, and to nothing else.

unfoldable pub move_places : ℕ → (kinds places : List ℕ) → List ℕ
move_places n [] ps = []
move_places n (k ∷ ks) [] = []
move_places n (k ∷ ks) (p ∷ ps) = elim (has_place k) [ true ↦ n + p | false ↦ p ] ∷ move_places n ks ps

unfoldable pub move_tree : ℕ → Tree → Tree
move_tree n t = record { count = t.count; kinds = t.kinds; places = move_places n t.kinds t.places }

-- whether an error kind's arguments are a span
unfoldable pub has_span : ℕ → Bool
has_span k =
    eqb k (words_of (ExpectedMessageField 0 0)).number
    || (eqb k (words_of (ExpectedTermField 0 0)).number
    || (eqb k (words_of (DuplicatedNamedArgument 0 0)).number || eqb k (words_of (InvalidUnicodeEscapeSequence 0 0)).number))

-- the four words of position and junk, then the two arguments
unfoldable pub move_group : ℕ → (kind : ℕ) → List ℕ → List ℕ
move_group n k g = map (λ x. n + x) (take 4 g) ++ elim (has_span k) [ true ↦ map (λ x. n + x) (drop 4 g) | false ↦ drop 4 g ]

unfoldable pub move_groups : ℕ → (kinds groups : List ℕ) → List ℕ
move_groups n [] gs = []
move_groups n (k ∷ ks) gs = move_group n k (take group_size gs) ++ move_groups n ks (drop group_size gs)

unfoldable pub move_errors : ℕ → Errors → Errors
move_errors n e = record { count = e.count; kinds = e.kinds; groups = move_groups n e.kinds e.groups }

-- parts joined are the first part's marks, then the second's moved up, the counts added
unfoldable pub join : Tree → Tree → Tree
join a b = record { count = a.count + b.count; kinds = a.kinds ++ b.kinds; places = a.places ++ b.places }

-- Lines and entries.

-- a line with its newline: none stands before the last byte
unfoldable pub one_line : List ℕ → Bool
one_line s = eqb (line_run s + 1) (length s)

-- the last line of a source that ends in a newline, with it: the longest end that is one line
unfoldable pub last_line : List ℕ → List ℕ
last_line [] = []
last_line (b ∷ bs) = elim (one_line (b ∷ bs)) [ true ↦ b ∷ bs | false ↦ last_line bs ]

-- a line's level, and that of the comment which it starts: the number of '#' it starts with
unfoldable pub hashes : List ℕ → ℕ
hashes s = run (λ b. eqb b Byte.hash) s

-- the kind of a tree's first entry, by the kinds of its marks; 0 where it has none. A second part starts with an entry:
-- its first is the one at its
-- first byte
unfoldable pub first_entry : List ℕ → ℕ
first_entry [] = 0
first_entry (k ∷ ks) = k

unfoldable pub is_named : ℕ → Bool
is_named k = eqb k Kind.message || eqb k Kind.term

abbrev pub is_free : ℕ → Bool
is_free k = eqb k Kind.comment || (eqb k Kind.group_comment || eqb k Kind.resource_comment)

-- attached ones too
unfoldable pub is_comment : ℕ → Bool
is_comment k = is_free k || eqb k Kind.attached_comment

-- what the bytes B start with, an entry of the kind k, joins a comment line of the level l right before it: it is a
-- comment of the same level or, after a
-- one-'#' comment, a message or term
pub data Joins (l : ℕ) (B : List ℕ) (k : ℕ) : Type 0 where
  level : is_comment k ≡ true → hashes B ≡ l → Joins l B k
  named : is_named k ≡ true → l ≡ 1 → Joins l B k

-- the first part's last line is a comment line, and the second part's first entry joins it; ks are the kinds of the second part's marks
pub record Exception (A B : List ℕ) (ks : List ℕ) : Type 0 where
  pub line : starts_with Byte.hash (last_line A) ≡ true
  pub joins : Joins (hashes (last_line A)) B (first_entry ks)

-- what stands between the normal texts of two parts: a newline exactly when the first part has an entry and the second
-- opens with a free comment
unfoldable pub between : (first second : List ℕ) → List ℕ
between [] ks = []
between (j ∷ js) ks = elim (is_free (first_entry ks)) [ true ↦ Byte.line_feed ∷ [] | false ↦ [] ]

-- kinds without x
abbrev pub Without : ℕ → List ℕ → Type 0
Without x [] = Unit {0}
Without x (y ∷ ys) = (eqb y x ≡ false) × Without x ys

-- A view of reading.
pub record View : Type 1 where
  -- the kinds of the marks that are read of a source, by the definition of this reading
  pub kinds : List ℕ → List ℕ
  -- the readings that a source can have, by what they are lent, and whether no cause of 1 to 5 holds
  pub Reading : List ℕ → Type 0
  pub Accepted : (s : List ℕ) → Reading s → Type 0
  -- the tree and the errors that a reading leaves, and which bytes are its tree's normal text, with junk written or not
  pub tree : (s : List ℕ) → Reading s → Tree
  pub errors : (s : List ℕ) → Reading s → Errors
  pub Text : (s : List ℕ) → Reading s → (junk : Bool) → List ℕ → Type 0

-- A source s cut at the byte k, with readings of the whole and of each part as a file of its own. The conditions and
-- the exception go by the bytes, by what is
-- lent and by the definition of the reading, not by what a reading leaves.
module _ (view : View) (s : List ℕ) (k : ℕ) (whole : view.Reading s) (first : view.Reading (take k s))
    (second : view.Reading (drop k s)) where
  -- the conditions
  pub record Fit : Type 0 where
    pub within : k ≤ length s
    -- let the first part be empty, or end in a newline
    pub ends : Whole (take k s)
    -- and read without junk
    pub clean : Without Kind.junk (view.kinds (take k s))
    -- let the second be empty, or start with an ASCII letter, '-' or '#'
    pub starts : Fresh (drop k s)
    -- let the readings of both parts and of the uncut file be accepted
    pub first_read : view.Accepted (take k s) first
    pub second_read : view.Accepted (drop k s) second
    pub whole_read : view.Accepted s whole

  -- the uncut file's tree equals that of the parts joined (later places moved up)
  abbrev pub SameTree : Type 0
  SameTree = view.tree s whole ≡ join (view.tree (take k s) first) (move_tree k (view.tree (drop k s) second))

  abbrev pub Except : Type 0
  Except = Exception (take k s) (drop k s) (view.kinds (drop k s))

  -- the claim
  pub record Claim : Type 0 where
    -- the tree is that of the parts joined, except exactly in one case
    pub same : ¬ Except → SameTree
    pub differs : Except → ¬ SameTree
    -- the uncut file's errors are always the second part's, moved up
    pub errors : view.errors s whole ≡ move_errors k (view.errors (drop k s) second)
    -- where the trees are equal, its normal text, with junk written or not, is the two parts' in a row, with what stands between them
    pub texts : SameTree → (junk : Bool) (t a b : List ℕ)
        → view.Text s whole junk t → view.Text (take k s) first junk a → view.Text (drop k s) second junk b
        → t ≡ a ++ (between (view.kinds (take k s)) (view.kinds (drop k s)) ++ b)

-- for every source, cut and readings
abbrev pub Demand3 : View → Type 0
Demand3 view = (s : List ℕ) (k : ℕ) (whole : view.Reading s) (first : view.Reading (take k s)) (second : view.Reading (drop k s))
    → Fit view s k whole first second → Claim view s k whole first second
