-- Places of the source: what the functions that write no marks ask and answer.
use Rattle.std.specs.Prelude.{◌≡◌, ℕ, ◌+◌, ◌-◌, ◌<◌, ◌≤◌, Bool, true, false, List, [], ◌∷◌, length, drop, slice_index, nat_lt}
use Rattle.syntax.specs.Bytes.{eol}
use Rattle.syntax.specs.declared.errors.ParserError.{ParserError}
use Rattle.syntax.specs.Errors.{up_fault}
use Rattle.syntax.specs.Reader.{Out, ok, bad, deep}

-- a test of what stands at a place, which fails at the end
pub record Tests (p : List ℕ → Bool) (s : List ℕ) (at : ℕ) (r : Bool) : Type 0 where
  pub is : r ≡ p (drop at s)
  pub here : r ≡ true → at < length s

-- the first byte passes a test or not, by what a call of it may answer; at the end none does
unfoldable pub Starting : (ℕ → Bool → Type 0) → List ℕ → Bool → Type 0
Starting answers [] r = r ≡ false
Starting answers (b ∷ bs) r = answers b r

-- n bytes at the start pass a test, by what a call of it may answer, and not the byte after them
pub record Counted (answers : ℕ → Bool → Type 0) (s : List ℕ) (n : ℕ) : Type 0 where
  pub within : n ≤ length s
  pub passing : (k : ℕ) → k < n → answers (slice_index s k) true
  pub stops : n < length s → answers (slice_index s n) false

-- k bytes were passed, which are there
pub record Passed (s : List ℕ) (at k r : ℕ) : Type 0 where
  pub end : r ≡ at + k
  pub within : r ≤ length s

-- the definition's answer o is the value a, without marks, up to the place r
pub record Went {A : Type 0} (s : List ℕ) (at : ℕ) (o : Out A) (a : A) (r : ℕ) : Type 0 where
  pub answers : o ≡ ok a [] (r - at)
  pub onward : at ≤ r
  pub within : r ≤ length s

-- where reading stands after a reader without marks, and with what: a place, or an error with the place where it stopped
pub data Place : Type 0 where
  At : ℕ → Place
  Bad : ParserError → ℕ → Place

-- an answer as a place of the source; those for which it is cited are never too deep
abbrev pub placed : {A : Type 0} → ℕ → Out A → Place
placed at (ok a ms k) = At (at + k)
placed at (bad f k) = Bad (up_fault at f) (at + k)
placed at (deep k) = At (at + k)

abbrev pub reached : Place → ℕ
reached (At k) = k
reached (Bad f k) = k

-- an answer without marks, which is never too deep
abbrev pub Bare : {A : Type 0} → Out A → Type 0
Bare (ok a ms k) = ms ≡ []
Bare (bad f k) = Unit {0}
Bare (deep k) = ⊥

-- the place is the definition's answer o, and lies in the source
pub record Found {A : Type 0} (s : List ℕ) (at : ℕ) (o : Out A) (r : Place) : Type 0 where
  pub answers : r ≡ placed at o
  pub bare : Bare o
  pub within : reached r ≤ length s

-- whether a line ends here, by a line end or with the source
unfoldable pub is_eol : List ℕ → Bool
is_eol [] = true
is_eol (b ∷ bs) = nat_lt 0 (eol (b ∷ bs))
