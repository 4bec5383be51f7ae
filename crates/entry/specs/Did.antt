-- What a reader with marks did: the code's answer is the definition's, moved to a place of the source, and the tree's words became what
-- they were with the definition's marks after the first n.
use Rattle.std.specs.Prelude.{◌≡◌, ℕ, ◌+◌, Result, Ok, Err, List, [], length}
use Rattle.syntax.specs.declared.errors.ParserError.{ParserError}
use Rattle.syntax.specs.Errors.{up_fault}
use Rattle.syntax.specs.Marks.{Mark}
use Rattle.syntax.specs.Reader.{Out, ok, bad, deep}
use Rattle.entry.specs.Tree.{Step, words_at}
use Rattle.entry.specs.declared.errors.Stop.{Stop}
use Rattle.entry.specs.declared.errors.Stop.TheVariants.{Error, TooDeep}

-- what is told of an answer: a value with the place after it and the count of marks; an error with the place where reading stopped; the
-- place of the opening that is one too many
pub data Told (T : Type 0) : Type 0 where
  yes : T → ℕ → ℕ → Told T
  no : ParserError → ℕ → Told T
  over : ℕ → Told T

-- the code's result, where the place and the count of marks then are p and m
abbrev pub told : {T : Type 0} → Result T Stop → ℕ → ℕ → Told T
told (Ok x) p m = yes x p m
told (Err (Error f)) p m = no f p
told (Err TooDeep) p m = over p

-- a result with the definition's value for the code's
abbrev pub result_by : {T A : Type 0} → (T → A) → Result T Stop → Result A Stop
result_by v (Ok x) = Ok (v x)
result_by v (Err e) = Err e

-- the definition's answer, which counts from the place `at`, after n marks; w is the code's value for the definition's
abbrev pub answer : {A T : Type 0} → (A → T) → ℕ → ℕ → Out A → Told T
answer w at n (ok a ms k) = yes (w a) (at + k) (n + length ms)
answer w at n (bad f k) = no (up_fault at f) (at + k)
answer w at n (deep k) = over (at + k)

-- what fails leaves no marks: whatever lies above the count is free
abbrev pub marks_of : {A : Type 0} → Out A → List Mark
marks_of (ok a ms k) = ms
marks_of (bad f k) = []
marks_of (deep k) = []

pub record Did {A T : Type 0} (w : A → T) (cap at n : ℕ) (t t' : List ℕ) (r : Told T) (o : Out A) : Type 0 where
  pub answers : r ≡ answer w at n o
  pub wrote : Step cap n t t' (words_at at (marks_of o))

-- a reader whose value is not told, and one whose value is
abbrev pub silent : {A : Type 0} → A → Unit {0}
silent a = tt

abbrev pub plain : {A : Type 0} → A → A
plain a = a
