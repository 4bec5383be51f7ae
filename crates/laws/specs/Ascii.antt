-- std's tests on a byte, those of u8's methods, are the grammar's.
use Rattle.std.specs.Prelude.{ℕ, ◌≡◌, refl}
use Rattle.std.specs.Char.{is_ascii_uppercase, is_ascii_alphabetic, is_ascii_digit, is_ascii_hexdigit}
use Rattle.std.specs.Int.{is_in_range}
use Rattle.std.proofs.Math.Bool.{or_assoc}
use Rattle.syntax.specs.Bytes.{is_upper, is_letter, is_digit, is_hex}

pub upper-std : (b : ℕ) → is_ascii_uppercase b ≡ is_upper b
unfolding is_upper
upper-std b = refl

pub letter-std : (b : ℕ) → is_ascii_alphabetic b ≡ is_letter b
unfolding is_letter
letter-std b = refl

pub digit-std : (b : ℕ) → is_ascii_digit b ≡ is_digit b
unfolding is_digit
digit-std b = refl

-- std groups the cases otherwise
pub hex-std : (b : ℕ) → is_ascii_hexdigit b ≡ is_hex b
unfolding is_hex is_digit
hex-std b = or_assoc (is_in_range 48 57 b) (is_in_range 65 70 b) (is_in_range 97 102 b)
