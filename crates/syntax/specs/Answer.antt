-- The number and the value of each answer of the calls, as docs/CALLS.md has them: 0 for acceptance, then the refusals in the order of
-- its table; and what becomes of the memory that a call was lent to write.
use Rattle.std.specs.Prelude.{ℕ, ◌≡◌, true, false, List, ◌++◌, drop, replicate, eqb, Result, Ok, Err}
use Rattle.syntax.specs.declared.answer.Refusal.{Refusal}
use Rattle.syntax.specs.declared.answer.Refusal.TheVariants.{TooLong, NotUtf8, TreeTooShort}
use Rattle.syntax.specs.declared.answer.Refusal.TheVariants.{ErrorsTooShort, TooDeep, IllFormed, OutputTooShort}

-- acceptance with a value, or a refusal
abbrev pub Answer : Type 0
Answer = Result ℕ Refusal

abbrev pub refusal_number : Refusal → ℕ
refusal_number (TooLong v) = 1
refusal_number (NotUtf8 v) = 2
refusal_number (TreeTooShort v) = 3
refusal_number (ErrorsTooShort v) = 4
refusal_number (TooDeep v) = 5
refusal_number (IllFormed v) = 6
refusal_number (OutputTooShort v) = 7

abbrev pub refusal_value : Refusal → ℕ
refusal_value (TooLong v) = v
refusal_value (NotUtf8 v) = v
refusal_value (TreeTooShort v) = v
refusal_value (ErrorsTooShort v) = v
refusal_value (TooDeep v) = v
refusal_value (IllFormed v) = v
refusal_value (OutputTooShort v) = v

-- the number of an answer with values of any type
abbrev pub number_of : {T : Type 0} → Result T Refusal → ℕ
number_of (Ok v) = 0
number_of (Err r) = refusal_number r

abbrev pub value_of : Answer → ℕ
value_of (Ok v) = v
value_of (Err r) = refusal_value r

-- what a promise says of an answer r where a definition gives a: the case, its number and its value
pub record Answered (r a : Answer) : Type 0 where
  pub same : r ≡ a
  pub number : number_of r ≡ number_of a
  pub value : value_of r ≡ value_of a

pub data Effect : Type 0 where
  written zeroed untouched : Effect

-- by the number: acceptance writes, refusal 5 zeroes, any other leaves all as it was
unfoldable pub effect_of : Answer → Effect
effect_of a = elim (eqb (number_of a) 0) [ true ↦ written | false ↦ elim (eqb (number_of a) 5) [ true ↦ zeroed | false ↦ untouched ] ]

-- a lent slice then: its first n items, which the call may write, are ws, or zeros, or as they were; those past them never change
unfoldable pub slice_by : Effect → (n : ℕ) → (ws slice : List ℕ) → List ℕ
slice_by written n ws slice = ws ++ drop n slice
slice_by zeroed n ws slice = replicate n 0 ++ drop n slice
slice_by untouched n ws slice = slice

unfoldable pub slice_after : Answer → (n : ℕ) → (ws slice : List ℕ) → List ℕ
slice_after a n ws slice = slice_by (effect_of a) n ws slice
