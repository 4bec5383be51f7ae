-- Tests on bytes, and on what the rest of a source starts with.
use Rattle.std.specs.Prelude.{ℕ, suc, ◌≡◌, Bool, true, false, ◌&&◌, ◌||◌, not, List, [], ◌∷◌, eqb, leb}
use Prim.Native.Char.{code}
use Prim.Native.String.{String, [] as end, ◌∷◌ as cons}
use Rattle.syntax.specs.Byte as Byte

-- the bytes of a text in ASCII
abbrev pub ascii : String → List ℕ
ascii end = []
ascii (cons c s) = code c ∷ ascii s

unfoldable pub starts_with : ℕ → List ℕ → Bool
starts_with b [] = false
starts_with b (x ∷ xs) = eqb x b

-- does the rest start with a byte that passes the test
unfoldable pub starts : (ℕ → Bool) → List ℕ → Bool
starts p [] = false
starts p (x ∷ xs) = p x

unfoldable pub second : (ℕ → Bool) → List ℕ → Bool
second p [] = false
second p (x ∷ xs) = starts p xs

abbrev pub within : ℕ → ℕ → ℕ → Bool
within lo hi b = leb lo b && leb b hi

unfoldable pub is_upper : ℕ → Bool
is_upper b = within Byte.upper_a Byte.upper_z b

unfoldable pub is_letter : ℕ → Bool
is_letter b = within Byte.upper_a Byte.upper_z b || within Byte.lower_a Byte.lower_z b

unfoldable pub is_digit : ℕ → Bool
is_digit b = within Byte.digit0 Byte.digit9 b

unfoldable pub is_name_part : ℕ → Bool
is_name_part b = is_letter b || (is_digit b || (eqb b Byte.minus || eqb b Byte.underscore))

unfoldable pub is_hex : ℕ → Bool
is_hex b = is_digit b || (within Byte.upper_a Byte.upper_f b || within Byte.lower_a Byte.lower_f b)

unfoldable pub is_callee_part : ℕ → Bool
is_callee_part b = is_upper b || (is_digit b || (eqb b Byte.minus || eqb b Byte.underscore))

-- how many bytes at the start pass the test
unfoldable pub run : (ℕ → Bool) → List ℕ → ℕ
run p [] = 0
run p (x ∷ xs) = elim (p x) [ true ↦ suc (run p xs) | false ↦ 0 ]

unfoldable pub all : (ℕ → Bool) → List ℕ → Bool
all p [] = true
all p (x ∷ xs) = p x && all p xs

-- the width of the line end that the rest starts with, 0 where there is none
unfoldable pub eol : List ℕ → ℕ
eol [] = 0
eol (x ∷ xs) =
    elim
    (eqb x Byte.line_feed) [
      | true ↦ 1
      | false ↦ elim (eqb x Byte.carriage_return && starts_with Byte.line_feed xs) [ true ↦ 2 | false ↦ 0 ]
    ]

-- how many spaces the rest starts with
unfoldable pub spaces : List ℕ → ℕ
spaces s = run (λ b. eqb b Byte.space) s

-- how many bytes the first character takes, by its first byte; 0 at the end
unfoldable pub first_width : List ℕ → ℕ
first_width [] = 0
first_width (b ∷ bs) =
    elim
    (leb b 127) [ true ↦ 1 | false ↦ elim (leb b 223) [ true ↦ 2 | false ↦ elim (leb b 239) [ true ↦ 3 | false ↦ 4 ] ] ]

-- the bytes before the first newline
unfoldable pub line_run : List ℕ → ℕ
line_run s = run (λ b. not (eqb b Byte.line_feed)) s

-- empty, or ending in a newline
abbrev pub Whole : List ℕ → Type 0
Whole [] = Unit {0}
Whole (b ∷ []) = b ≡ Byte.line_feed
Whole (b ∷ c ∷ bs) = Whole (c ∷ bs)

-- what follows a cut
abbrev pub is_fresh : ℕ → Bool
is_fresh b = is_letter b || (eqb b Byte.minus || eqb b Byte.hash)

abbrev pub Fresh : List ℕ → Type 0
Fresh [] = Unit {0}
Fresh (b ∷ bs) = is_fresh b ≡ true
