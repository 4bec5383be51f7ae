-- UTF-8, from table 3-7 of the Unicode Standard, "Well-Formed UTF-8 Byte Sequences". A source is the list of its bytes.
use Rattle.std.specs.Prelude.{ℕ, zero, suc, ◌+◌, ◌≤◌, ◌≡◌, Bool, true, false, not, List, [], ◌∷◌, leb, ltb, eqb, length, get_or, drop, Result, Ok, Err}
use Rattle.std.proofs.Math.Option.{Option, none, some, map}
use Rattle.utf8.specs.declared.Utf8Error.{Utf8Error}

-- the bytes from low to high, both included
pub record Range : Type 0 where
  pub low : ℕ
  pub high : ℕ

-- a row of the table: the range of a sequence's first byte, and those of the bytes after it
pub record Row : Type 0 where
  pub first : Range
  pub rest : List Range

infix 90 ◌‥◌
infix 40 ◌then◌
abbrev pub ◌‥◌ : ℕ → ℕ → Range
low ‥ high = record { low = low; high = high }

abbrev pub ◌then◌ : Range → List Range → Row
first then rest = record { first = first; rest = rest }

unfoldable pub table : List Row
table =
    (0x00 ‥ 0x7F then [])
    ∷ (0xC2 ‥ 0xDF then 0x80 ‥ 0xBF ∷ [])
    ∷ (0xE0 ‥ 0xE0 then 0xA0 ‥ 0xBF ∷ 0x80 ‥ 0xBF ∷ [])
    ∷ (0xE1 ‥ 0xEC then 0x80 ‥ 0xBF ∷ 0x80 ‥ 0xBF ∷ [])
    ∷ (0xED ‥ 0xED then 0x80 ‥ 0x9F ∷ 0x80 ‥ 0xBF ∷ [])
    ∷ (0xEE ‥ 0xEF then 0x80 ‥ 0xBF ∷ 0x80 ‥ 0xBF ∷ [])
    ∷ (0xF0 ‥ 0xF0 then 0x90 ‥ 0xBF ∷ 0x80 ‥ 0xBF ∷ 0x80 ‥ 0xBF ∷ [])
    ∷ (0xF1 ‥ 0xF3 then 0x80 ‥ 0xBF ∷ 0x80 ‥ 0xBF ∷ 0x80 ‥ 0xBF ∷ [])
    ∷ (0xF4 ‥ 0xF4 then 0x80 ‥ 0x8F ∷ 0x80 ‥ 0xBF ∷ 0x80 ‥ 0xBF ∷ [])
    ∷ []

unfoldable pub within : Range → ℕ → Bool
within r b = elim (leb r.low b) [ true ↦ leb b r.high | false ↦ false ]

-- is each range met by the byte in its place
unfoldable pub fits : List Range → List ℕ → Bool
fits [] s = true
fits (r ∷ rs) [] = false
fits (r ∷ rs) (b ∷ s) = elim (within r b) [ true ↦ fits rs s | false ↦ false ]

-- the width of a sequence whose first byte is followed by s and asks for rs; 0 where s does not fit
unfoldable pub whole : List Range → List ℕ → ℕ
whole rs s = elim (fits rs s) [ true ↦ suc (length rs) | false ↦ 0 ]

-- the row that has the first byte b decides: the rows have no first byte in common
unfoldable pub width_by : List Row → ℕ → List ℕ → ℕ
width_by [] b s = 0
width_by (row ∷ rows) b s = elim (within row.first b) [ true ↦ whole row.rest s | false ↦ width_by rows b s ]

-- how many bytes the well-formed sequence takes that the rest starts with; 0 where it starts with none
unfoldable pub width : List ℕ → ℕ
width [] = 0
width (b ∷ s) = width_by table b s

-- the width that a first byte asks for
unfoldable pub width_of_first : ℕ → ℕ
width_of_first b = elim (leb b 127) [ true ↦ 1 | false ↦ elim (leb b 223) [ true ↦ 2 | false ↦ elim (leb b 239) [ true ↦ 3 | false ↦ 4 ] ] ]

-- the offset of the first byte from which no well-formed sequence can be read, past `skip` bytes of a sequence that has been read
unfoldable pub scan : (skip : ℕ) → List ℕ → Option ℕ
scan skip [] = none
scan zero (b ∷ s) = elim (width (b ∷ s)) [ zero ↦ some 0 | suc more ↦ map suc (scan more s) ]
scan (suc skip) (b ∷ s) = map suc (scan skip s)

unfoldable pub first_ill_formed : List ℕ → Option ℕ
first_ill_formed s = scan 0 s

-- an offset, counted from k bytes before
abbrev pub moved : ℕ → Option ℕ → Option ℕ
moved k o = map (λ n. k + n) o

-- how many bytes stand before the first fault, or in all
unfoldable pub valid_length : List ℕ → ℕ
valid_length s = elim (first_ill_formed s) [ none ↦ length s | some n ↦ n ]

-- what there is to find in s is found from `at` on
pub record FoundFrom (s : List ℕ) (at : ℕ) : Type 0 where
  pub inside : at ≤ length s
  pub found : first_ill_formed s ≡ moved at (first_ill_formed (drop at s))

abbrev pub WellFormed : List ℕ → Type 0
WellFormed s = first_ill_formed s ≡ none

-- a byte of a sequence past its first
unfoldable pub is_continuation : ℕ → Bool
is_continuation b = within (0x80 ‥ 0xBF) b

-- Rust's `is_char_boundary`: the start, the end, or a place where no continuation byte stands
unfoldable pub is_boundary : List ℕ → ℕ → Bool
is_boundary s at = elim (eqb at 0) [
  | true ↦ true
  | false ↦ elim (ltb at (length s)) [ true ↦ not (is_continuation (get_or s at 0)) | false ↦ eqb at (length s) ]
]

-- the answer of the function `check`
unfoldable pub checked_of : Option ℕ → Result (Unit {0}) Utf8Error
checked_of none = Ok tt
checked_of (some at) = Err (record { valid_up_to = at })
