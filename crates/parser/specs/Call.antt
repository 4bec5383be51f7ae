-- What the contracts say of the reading call, and of the reading under it.
use Rattle.std.specs.Prelude.{ℕ, ◌≤◌, ◌≡◌, List, length, Result, Ok, Err}
use Rattle.syntax.specs.Answer.{Answer, Answered, slice_after}
use Rattle.syntax.specs.Limits.{max_length, max_open}
use Rattle.syntax.specs.Core.{Reading, read, refused, parse}
use Rattle.syntax.specs.Layout.{tree_capacity, tree_layout, error_layout, tree_words, error_words}
use Rattle.syntax.specs.Reading.{read_answer, tree_after, errors_after, answer_of, marks_of, errors_of}
use Rattle.entry.specs.Tree.{Step, words_at}
use Rattle.parser.specs.ErrorList.{ErrorStep}
use Rattle.parser.specs.declared.resource.Counts.{Counts}

-- the source is short enough, and the slices are long enough
pub record Sized (s t e : List ℕ) : Type 0 where
  pub short : length s ≤ max_length
  pub tree : tree_layout (length s) ≤ length t
  pub errors : error_layout (length s) ≤ length e

-- a reading as the counts of marks and errors, or the place of the opening that is one too many
abbrev pub parsed_of : Reading → Result Counts ℕ
parsed_of (read ms es) = Ok (record { marks = length ms; errors = length es })
parsed_of (refused k) = Err k

pub record DidParse (s t t' e e' : List ℕ) (r : Result Counts ℕ) (o : Reading) : Type 0 where
  pub answers : r ≡ parsed_of o
  pub tree : Step (tree_capacity (length s)) 0 t t' (words_at 0 (marks_of o))
  pub errors : ErrorStep (length s) 0 e e' (errors_of o)

-- the reading where no earlier test refuses: its answer, and every word of both slices
pub record DidReadInto (s t t' e e' : List ℕ) (r : Answer) : Type 0 where
  pub answers : r ≡ answer_of (parse max_open s)
  pub tree : t' ≡ slice_after (answer_of (parse max_open s)) (tree_layout (length s))
      (tree_words (tree_capacity (length s)) (marks_of (parse max_open s))) t
  pub errors : e' ≡ slice_after (answer_of (parse max_open s)) (error_layout (length s)) (error_words (length s) (errors_of (parse max_open s))) e

-- the reading call: its answer, and every word of both slices
pub record DidRead (s t t' e e' : List ℕ) (r : Answer) : Type 0 where
  pub answers : Answered r (read_answer s (length t) (length e))
  pub tree : t' ≡ tree_after s t e
  pub errors : e' ≡ errors_after s t e
