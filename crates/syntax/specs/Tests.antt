-- The tests for the refusals 1, 2 and 6, which every call that is given a source and a tree makes first, in this order.
use Rattle.std.specs.Prelude.{ℕ, ◌+◌, ◌*◌, Bool, true, false, ◌&&◌, List, length, leb, ltb, Result, Ok, Err}
use Rattle.std.proofs.Math.Option.{Option, some, none}
use Rattle.utf8.specs.Utf8.{first_ill_formed, is_boundary}
use Rattle.syntax.specs.declared.answer.Refusal.{Refusal}
use Rattle.syntax.specs.declared.answer.Refusal.TheVariants.{TooLong, NotUtf8, IllFormed}
use Rattle.syntax.specs.Limits.{max_length, max_open}
use Rattle.syntax.specs.Layout.{sizes, tree_capacity, count, capacity, marks_in}
use Rattle.syntax.specs.Shape.{verdict}

-- refusal 6's value where the sizes don't fit
abbrev pub no_mark : ℕ
no_mark = 4_294_967_295

-- the sizes fit: the slice has them, the capacity is no more than a longest source's, the count is within it, and both arrays are there
unfoldable pub sizes_fit : List ℕ → Bool
sizes_fit ws =
    leb sizes (length ws)
    && (leb (capacity ws) (tree_capacity max_length) && (leb (count ws) (capacity ws) && leb (sizes + 2 * capacity ws) (length ws)))

-- 1 and 2, of a source
unfoldable pub source_refusal : List ℕ → Option Refusal
source_refusal s =
    elim (ltb max_length (length s)) [
      | true ↦ some (TooLong (length s))
      | false ↦ elim (first_ill_formed s) [ some k ↦ some (NotUtf8 k) | none ↦ none ]
    ]

-- 6, of a tree over a source
unfoldable pub tree_refusal : (source tree : List ℕ) → Option Refusal
tree_refusal s t =
    elim (sizes_fit t) [
      | false ↦ some (IllFormed no_mark)
      | true ↦ elim (verdict (is_boundary s) max_open (marks_in t)) [ some v ↦ some (IllFormed v) | none ↦ none ]
    ]

-- the first refusal of them, if any
unfoldable pub refusal : (source tree : List ℕ) → Option Refusal
refusal s t = elim (source_refusal s) [ some r ↦ some r | none ↦ tree_refusal s t ]

-- the answer of a function that tests: nothing, or the refusal
unfoldable pub tested_of : Option Refusal → Result (Unit {0}) Refusal
tested_of none = Ok tt
tested_of (some r) = Err r
