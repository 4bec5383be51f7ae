-- The bytes that productions name.
use Rattle.syntax.specs.Byte as Byte
use Rattle.standard.specs.Peg.{Parser, byte}

abbrev pub LF : Parser (Unit {0})
LF = byte Byte.line_feed

abbrev pub CR : Parser (Unit {0})
CR = byte Byte.carriage_return

abbrev pub space : Parser (Unit {0})
space = byte Byte.space

abbrev pub quote : Parser (Unit {0})
quote = byte Byte.quote

abbrev pub hash : Parser (Unit {0})
hash = byte Byte.hash

abbrev pub dollar : Parser (Unit {0})
dollar = byte Byte.dollar

abbrev pub open-parenthesis : Parser (Unit {0})
open-parenthesis = byte Byte.open_parenthesis

abbrev pub close-parenthesis : Parser (Unit {0})
close-parenthesis = byte Byte.close_parenthesis

abbrev pub star : Parser (Unit {0})
star = byte Byte.star

abbrev pub comma : Parser (Unit {0})
comma = byte Byte.comma

abbrev pub minus : Parser (Unit {0})
minus = byte Byte.minus

abbrev pub dot : Parser (Unit {0})
dot = byte Byte.dot

abbrev pub colon : Parser (Unit {0})
colon = byte Byte.colon

abbrev pub equals : Parser (Unit {0})
equals = byte Byte.equals

abbrev pub greater : Parser (Unit {0})
greater = byte Byte.greater

abbrev pub open-bracket : Parser (Unit {0})
open-bracket = byte Byte.open_bracket

abbrev pub backslash : Parser (Unit {0})
backslash = byte Byte.backslash

abbrev pub close-bracket : Parser (Unit {0})
close-bracket = byte Byte.close_bracket

abbrev pub open-brace : Parser (Unit {0})
open-brace = byte Byte.open_brace

abbrev pub close-brace : Parser (Unit {0})
close-brace = byte Byte.close_brace

abbrev pub letter-U : Parser (Unit {0})
letter-U = byte Byte.upper_u

abbrev pub letter-u : Parser (Unit {0})
letter-u = byte Byte.lower_u
