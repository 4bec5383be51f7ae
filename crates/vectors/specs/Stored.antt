-- What a file of cases holds: numbers, lowest byte first, and bytes.
use Rattle.std.specs.Prelude.{ℕ, ◌+◌, ◌-◌, ◌*◌, ◌≤◌, ◌<◌, ◌≡◌, List, [], ◌∷◌, length, get_or, take, drop}
use Rattle.vectors.specs.declared.replay.Case.{Case}

-- what stands from one index to another
abbrev pub between : ℕ → ℕ → List ℕ → List ℕ
between from to l = take (to - from) (drop from l)

-- the number of the two bytes at a place, and of the four
abbrev pub short_at : List ℕ → ℕ → ℕ
short_at bytes at = get_or bytes at 0 + 256 * get_or bytes (at + 1) 0

abbrev pub long_at : List ℕ → ℕ → ℕ
long_at bytes at = short_at bytes at + 65536 * short_at bytes (at + 2)

-- numbers of two bytes in a row
unfoldable pub shorts : List ℕ → List ℕ
shorts [] = []
shorts (a ∷ []) = []
shorts (a ∷ b ∷ bytes) = (a + 256 * b) ∷ shorts bytes

-- the case whose eight numbers these are
abbrev pub case_in : List ℕ → Case
case_in h =
    record {
      stored = long_at h 0;
      length = long_at h 4;
      tree = long_at h 8;
      errors = long_at h 12;
      number = long_at h 16;
      value = long_at h 20;
      marks = long_at h 24;
      faults = long_at h 28;
    }

-- bytes of which the first n are repeated to the end
pub record Repeats (n : ℕ) (before after : List ℕ) : Type 0 where
  pub long : length after ≡ length before
  pub first : take n after ≡ take n before
  pub again : (i : ℕ) → n ≤ i → i < length after → get_or after i 0 ≡ get_or after (i - n) 0
