-- What the program marks prints.
use Rattle.std.specs.Prelude.{ℕ, List, [], ◌∷◌, ◌++◌, map, length}
use Rattle.syntax.specs.Byte as Byte
use Rattle.syntax.specs.Decimal.{decimal}
use Rattle.syntax.specs.Answer.{number_of, value_of}
use Rattle.syntax.specs.Marks.{Mark, kind_of, place_of}
use Rattle.syntax.specs.Core.{Error, Reading, read, refused, parse}
use Rattle.syntax.specs.Layout.{group, error_number}
use Rattle.syntax.specs.Limits.{max_open}
use Rattle.syntax.specs.Reading.{answer_of}

-- a line of numbers, one space apart
unfoldable pub line : List ℕ → List ℕ
line [] = Byte.line_feed ∷ []
line (x ∷ xs) = decimal x ++ elim xs [ [] ↦ line xs | y ∷ ys ↦ Byte.space ∷ line xs ]

unfoldable pub lines : List (List ℕ) → List ℕ
lines [] = []
lines (xs ∷ xss) = line xs ++ lines xss

unfoldable pub mark_line : Mark → List ℕ
mark_line m = kind_of m ∷ place_of m ∷ []

unfoldable pub error_line : Error → List ℕ
error_line e = error_number e ∷ group e

-- acceptance with the counts, then a line for each mark and each error; or a refusal's number and value
unfoldable pub lines_of : Reading → List (List ℕ)
lines_of (read ms es) = (number_of (answer_of (read ms es)) ∷ length ms ∷ length es ∷ []) ∷ (map mark_line ms ++ map error_line es)
lines_of (refused k) = (number_of (answer_of (refused k)) ∷ value_of (answer_of (refused k)) ∷ []) ∷ []

unfoldable pub listing : List ℕ → List ℕ
listing s = lines (lines_of (parse max_open s))
