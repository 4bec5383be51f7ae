-- A source entry by entry: where each entry starts and where its reading stopped, and what a call from a place
-- answers and leaves.
use Rattle.std.specs.Prelude.{ℕ, zero, suc, ◌+◌, ◌≡◌, true, false, List, [], ◌∷◌, map, length, take, drop, ltb, Result, Ok, Err, Some, None}
use Rattle.std.specs.Prelude.{Option as Maybe}
use Rattle.std.proofs.Math.Option.{Option, some, none}
use Rattle.utf8.specs.Utf8.{first_ill_formed}
pub use Rattle.syntax.specs.declared.next.Extent.{Extent}
use Rattle.syntax.specs.declared.answer.Refusal.{Refusal}
use Rattle.syntax.specs.declared.answer.Refusal.TheVariants.{TreeTooShort}
use Rattle.syntax.specs.Answer.{number_of, refusal_value}
use Rattle.syntax.specs.Limits.{max_length, max_open}
use Rattle.syntax.specs.Reader.{Out, ok, bad, deep}
use Rattle.syntax.specs.Helper.{skip_blank_block}
use Rattle.syntax.specs.Pattern.{Inside, used_by}
use Rattle.syntax.specs.Expression.{level}
use Rattle.syntax.specs.Core as Core
use Rattle.syntax.specs.Core.{get_entry, junk_end}
use Rattle.syntax.specs.Layout.{tree_layout}

-- ---- the entries of a source

-- an entry's extent is its first byte, and where its reading stopped, for junk its end; n bytes further on
unfoldable pub up_extent : ℕ → Extent → Extent
up_extent n x = record { start = n + x.start; stop = n + x.stop }

-- where what starts a rest stops; nowhere if it nests too deep
unfoldable pub stop_of : List ℕ → Out Core.Entry → Option ℕ
stop_of s (ok e ms k) = some k
stop_of s (bad f k) = some (junk_end k s)
stop_of s (deep k) = none

-- the entries of a rest that starts at one, as `Core.entries` reads them, up to one that nests too deep
unfoldable pub extents : ℕ → Inside → List ℕ → List Extent
extents zero sub s = []
extents (suc n) sub [] = []
extents (suc n) sub (b ∷ bs) =
    elim (stop_of (b ∷ bs) (get_entry sub (b ∷ bs))) [
      | some k ↦
          let next = k + used_by (skip_blank_block (drop k (b ∷ bs))) in
          record { start = 0; stop = k } ∷ map (up_extent next) (extents n sub (drop next (b ∷ bs)))
      | none ↦ []
    ]

-- as `Core.parse`, with at most n openings at a time
unfoldable pub parse_extents : ℕ → List ℕ → List Extent
parse_extents n s = let k = used_by (skip_blank_block s) in map (up_extent k) (extents (suc (length s)) (level n) (drop k s))

-- the entries of a source: none where refusal 1 or 2 holds
unfoldable pub entries_of : List ℕ → List Extent
entries_of s =
    elim
    (ltb max_length (length s)) [
      | true ↦ []
      | false ↦ elim (first_ill_formed s) [ some k ↦ [] | none ↦ parse_extents max_open s ]
    ]

-- the place from which a new reader goes on: the end where refusal 1 or 2 holds, so that none is left, else the start
unfoldable pub first_place : List ℕ → ℕ
first_place s = elim (ltb max_length (length s)) [ true ↦ length s | false ↦ elim (first_ill_formed s) [ some k ↦ length s | none ↦ 0 ] ]

-- ---- a call

-- what a call from a place finds with a tree of m words: the start of an entry, that there is none, or that the tree is
-- too short to read it
pub data Ahead : Type 0 where
  entry_at : ℕ → Ahead
  nothing short : Ahead

unfoldable pub ahead_from : List ℕ → (start m : ℕ) → Ahead
ahead_from s start m =
    elim
    (ltb start (length s)) [
      | true ↦ elim (ltb m (tree_layout (length s))) [ true ↦ short | false ↦ entry_at start ]
      | false ↦ nothing
    ]

-- past the blank lines; nothing where refusal 1 holds. Refusal 2 is tested once, by `first_place`
unfoldable pub ahead : List ℕ → (at m : ℕ) → Ahead
ahead s at m = elim (ltb max_length (length s)) [ true ↦ nothing | false ↦ ahead_from s (at + used_by (skip_blank_block (drop at s))) m ]

-- an entry, or none where none is left; or a refusal
abbrev pub Next : Type 0
Next = Result (Maybe Extent) Refusal

unfoldable pub stopped : ℕ → Option ℕ → Maybe Extent
stopped start (some k) = Some (record { start = start; stop = start + k })
stopped start none = None

unfoldable pub answer_by : List ℕ → Ahead → Next
answer_by s (entry_at a) = Ok (stopped a (stop_of (drop a s) (get_entry (level max_open) (drop a s))))
answer_by s nothing = Ok None
answer_by s short = Err (TreeTooShort (tree_layout (length s)))

unfoldable pub next_answer : List ℕ → (at m : ℕ) → Next
next_answer s at m = answer_by s (ahead s at m)

-- what comes with an answer, in a source of l bytes: the entry's start, the end if none is left, or the words needed
abbrev pub value_of : ℕ → Next → ℕ
value_of l (Ok (Some x)) = x.start
value_of l (Ok None) = l
value_of l (Err r) = refusal_value r

-- an entry's second value, where its reading stopped; the other answers have one value
abbrev pub second_of : ℕ → Next → ℕ
second_of l (Ok (Some x)) = x.stop
second_of l (Ok None) = l
second_of l (Err r) = refusal_value r

-- what a promise says of an answer r where a definition gives a, in a source of l bytes: the case, its number and its values.
-- That none is left is no refusal, so its number is 0
pub record Answered (l : ℕ) (r a : Next) : Type 0 where
  pub same : r ≡ a
  pub number : number_of r ≡ number_of a
  pub value : value_of l r ≡ value_of l a
  pub second : second_of l r ≡ second_of l a

-- the place after an answer: where the entry stopped, the end if none is left, or the same place
abbrev pub place_after : List ℕ → ℕ → Next → ℕ
place_after s at (Ok (Some x)) = x.stop
place_after s at (Ok None) = length s
place_after s at (Err r) = at

-- a tree t in whose arrays, of a layout of n words, scratch was written: they are open, its length, its two sizes and the words past the
-- layout are as they were
pub record Scratched (n : ℕ) (t t' : List ℕ) : Type 0 where
  pub long : length t' ≡ length t
  pub sizes : take 2 t' ≡ take 2 t
  pub rest : drop n t' ≡ drop n t

-- the lent tree t after a call: scratch if there was an entry to read, one that nests too deep among them, else as it was
abbrev pub TreeBy : List ℕ → Ahead → (t t' : List ℕ) → Type 0
TreeBy s (entry_at a) t t' = Scratched (tree_layout (length s)) t t'
TreeBy s nothing t t' = t' ≡ t
TreeBy s short t t' = t' ≡ t

abbrev pub NextTree : List ℕ → ℕ → (t t' : List ℕ) → Type 0
NextTree s at t t' = TreeBy s (ahead s at (length t)) t t'
