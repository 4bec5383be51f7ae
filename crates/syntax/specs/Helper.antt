-- helper.rs, and the identifier of core.rs
use Rattle.std.specs.Prelude.{ℕ, suc, ◌+◌, min, Bool, true, false, List, [], drop, eqb, ltb}
use Rattle.syntax.specs.Byte as Byte
use Rattle.syntax.specs.Errors as Errors
use Rattle.syntax.specs.Bytes.{starts_with, starts, is_letter, is_digit, is_name_part, is_hex, spaces, eol, run, first_width}
use Rattle.syntax.specs.Marks.{text_node}
use Rattle.syntax.specs.Reader.{Out, ok, bad, deep, Reader, ◌>>=◌, ◌>>◌, pure, fail, Turn, again, done, repeat}

-- skip_blank_inline: answers how many spaces
unfoldable pub skip_blank_inline : Reader ℕ
skip_blank_inline s = ok (spaces s) [] (spaces s)

-- skip_eol: answers whether there was one
unfoldable pub skip_eol : Reader Bool
skip_eol s = ok (ltb 0 (eol s)) [] (eol s)

unfoldable pub blank_turn : Unit {0} → List ℕ → Turn (Unit {0}) (Unit {0})
blank_turn u s =
    elim
    (starts_with Byte.space s) [
      | true ↦ again tt [] 1
      | false ↦ elim (ltb 0 (eol s)) [ true ↦ again tt [] (eol s) | false ↦ done (ok tt [] 0) ]
    ]

-- skip_blank
unfoldable pub skip_blank : Reader (Unit {0})
skip_blank s = repeat blank_turn tt s

unfoldable pub block_turn : ℕ → List ℕ → Turn ℕ ℕ
block_turn n s =
    let e = eol (drop (spaces s) s) in
    elim (ltb 0 e) [ true ↦ again (suc n) [] (spaces s + e) | false ↦ done (ok n [] 0) ]

-- skip_blank_block: answers how many line ends it passed
unfoldable pub skip_blank_block : Reader ℕ
skip_blank_block s = repeat block_turn 0 s

unfoldable pub take_byte_if : ℕ → Reader Bool
take_byte_if b s = elim (starts_with b s) [ true ↦ ok true [] 1 | false ↦ ok false [] 0 ]

unfoldable pub expect_byte : ℕ → Reader (Unit {0})
expect_byte b s = elim (starts_with b s) [ true ↦ ok tt [] 1 | false ↦ fail (Errors.ExpectedToken b) s ]

unfoldable pub skip_digits : Reader (Unit {0})
skip_digits s =
    elim
    (eqb (run is_digit s) 0) [
      | true ↦ fail (Errors.ExpectedCharRange Errors.Digits) s
      | false ↦ ok tt [] (run is_digit s)
    ]

unfoldable pub fraction : Bool → Reader (Unit {0})
fraction true = skip_digits
fraction false = pure tt

unfoldable pub number : Reader (Unit {0})
number = do
  take_byte_if Byte.minus
  skip_digits
  dot ← take_byte_if Byte.dot
  fraction dot

-- all that was read, as the text of a node
unfoldable pub as_text : ℕ → Out (Unit {0}) → Out ℕ
as_text kind (ok u ms k) = ok k (text_node kind 0 k) k
as_text kind (bad f k) = bad f k
as_text kind (deep k) = deep k

-- get_number_literal
unfoldable pub get_number_literal : ℕ → Reader ℕ
get_number_literal kind s = as_text kind (number s)

-- get_identifier: answers the identifier's length
unfoldable pub get_identifier : ℕ → Reader ℕ
get_identifier kind s =
    elim
    (starts is_letter s) [
      | true ↦ ok (run is_name_part s) (text_node kind 0 (run is_name_part s)) (run is_name_part s)
      | false ↦ fail (Errors.ExpectedCharRange Errors.Letters) s
    ]

-- skip_unicode_escape_sequence. The argument of its error ends after the first wrong character, of which the Rust takes a byte
unfoldable pub skip_unicode_escape_sequence : ℕ → Reader (Unit {0})
skip_unicode_escape_sequence len s =
    let n = min len (run is_hex s) in
    elim
    (eqb n len) [
      | true ↦ ok tt [] n
      | false ↦ bad (Errors.fault_at (Errors.InvalidUnicodeEscapeSequence 0 (n + first_width (drop n s))) n) n
    ]
