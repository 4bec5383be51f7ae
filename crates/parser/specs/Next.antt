-- What the contracts say of the entry after a place.
use Rattle.std.specs.Prelude.{ℕ, ◌≡◌, List, length, Option, Some, None}
use Rattle.syntax.specs.declared.next.Extent.{Extent}
use Rattle.syntax.specs.Core.{Entry}
use Rattle.syntax.specs.Next.{next_answer, Answered, place_after, NextTree}
use Rattle.parser.specs.Place.{Inside}
use Rattle.parser.specs.Resource.{junk_till}
use Rattle.entry.specs.Did.{Told, yes, no, over, told, result_by}
use Rattle.entry.specs.Entry.{entry_of}
use Rattle.entry.specs.declared.border.EntryRead.{EntryRead}
use Rattle.parser.specs.declared.next.Asked.{Asked}

-- what is told of an answer: an error lies in the source
abbrev pub StopIn : List ℕ → Told Entry → Type 0
StopIn s (yes x k m) = Unit {0}
StopIn s (no f k) = Inside s k
StopIn s (over k) = Unit {0}

-- the same of the answer itself
abbrev pub Stoppable : List ℕ → EntryRead → Type 0
Stoppable s x = StopIn s (told (result_by entry_of x.entry) x.at x.marks)

-- where what starts at a place stopped, by what is told of its answer
abbrev pub extent_of : List ℕ → ℕ → Told Entry → Option Extent
extent_of s start (yes x k m) = Some (record { start = start; stop = k })
extent_of s start (no f k) = Some (record { start = start; stop = junk_till k s })
extent_of s start (over k) = None

-- the same by the answer itself
abbrev pub stopped_at : List ℕ → ℕ → EntryRead → Option Extent
stopped_at s start x = extent_of s start (told (result_by entry_of x.entry) x.at x.marks)

-- a call from a place: its answer, the place after it, and what it leaves of the tree
pub record DidAsk (s : List ℕ) (at : ℕ) (t t' : List ℕ) (r : Asked) : Type 0 where
  pub answers : Answered (length s) r.next (next_answer s at (length t))
  pub place : r.at ≡ place_after s at (next_answer s at (length t))
  pub tree : NextTree s at t t'
