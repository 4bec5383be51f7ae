-- The reading call: for a source and the lent slices, what it answers and what every word of the slices then is.
use Rattle.std.specs.Prelude.{ℕ, true, false, List, [], length, ltb, Ok, Err}
use Rattle.std.proofs.Math.Option.{some, none}
use Rattle.utf8.specs.Utf8.{first_ill_formed}
use Rattle.syntax.specs.declared.answer.Refusal.TheVariants.{TooLong, NotUtf8, TreeTooShort, ErrorsTooShort, TooDeep}
use Rattle.syntax.specs.Answer.{Answer, slice_after}
use Rattle.syntax.specs.Limits.{max_length, max_open}
use Rattle.syntax.specs.Marks.{Mark}
use Rattle.syntax.specs.Layout.{tree_capacity, tree_layout, error_layout, tree_words, error_words}
use Rattle.syntax.specs.Core.{Error, Reading, read, refused, parse}

unfoldable pub answer_of : Reading → Answer
answer_of (read ms es) = Ok 0
answer_of (refused k) = Err (TooDeep k)

-- the tests in their order; the slices have t and e words
unfoldable pub read_answer : List ℕ → (t e : ℕ) → Answer
read_answer s t e =
    let n = length s in
    elim (ltb max_length n) [
      | true ↦ Err (TooLong n)
      | false ↦ elim (first_ill_formed s) [
        | some k ↦ Err (NotUtf8 k)
        | none ↦ elim (ltb t (tree_layout n)) [
          | true ↦ Err (TreeTooShort (tree_layout n))
          | false ↦ elim (ltb e (error_layout n)) [ true ↦ Err (ErrorsTooShort (error_layout n)) | false ↦ answer_of (parse max_open s) ]
        ]
      ]
    ]

unfoldable pub marks_of : Reading → List Mark
marks_of (read ms es) = ms
marks_of (refused k) = []

unfoldable pub errors_of : Reading → List Error
errors_of (read ms es) = es
errors_of (refused k) = []

-- every word of the tree and of the errors at the end
unfoldable pub tree_after : (source tree errors : List ℕ) → List ℕ
tree_after s t e =
    slice_after (read_answer s (length t) (length e)) (tree_layout (length s))
    (tree_words (tree_capacity (length s)) (marks_of (parse max_open s))) t

unfoldable pub errors_after : (source tree errors : List ℕ) → List ℕ
errors_after s t e =
    slice_after (read_answer s (length t) (length e)) (error_layout (length s)) (error_words (length s) (errors_of (parse max_open s))) e
