-- Entries, and what messages and terms have, in the code's terms.
use Rattle.std.specs.Prelude.{ℕ, true, false, []}
use Rattle.syntax.specs.Byte as Byte
use Rattle.syntax.specs.Bytes.{starts, run, is_letter, is_name_part}
use Rattle.syntax.specs.declared.errors.CharRange.TheVariants.{Letters}
use Rattle.syntax.specs.declared.errors.ErrorKind.TheVariants.{ExpectedCharRange}
use Rattle.syntax.specs.Kind as Kind
use Rattle.syntax.specs.Reader.{Reader, ok, ◌>>=◌, ◌>>◌, pure, fail}
use Rattle.syntax.specs.Helper.{skip_blank_inline, expect_byte, get_identifier}
use Rattle.syntax.specs.Pattern.{Inside, get_pattern}
use Rattle.syntax.specs.Expression.{needs_value}
use Rattle.syntax.specs.Core as Core
use Rattle.syntax.specs.Core.{comment, message, term}
use Rattle.entry.specs.declared.parser_core.Entry.{Entry}
use Rattle.entry.specs.declared.parser_core.Entry.TheVariants.{Message, Term, Comment}
use Rattle.entry.specs.declared.parser_core.Fields.{Fields}
use Rattle.entry.specs.Level.{number}

-- the definition's entry, a comment with the number of its level
abbrev pub entry_of : Entry → Core.Entry
entry_of Message = message
entry_of Term = term
entry_of (Comment l) = comment (number l)

abbrev pub fields_of : Core.Fields → Fields
fields_of x = record { name = x.name; value = x.value; attributes = x.attributes }

-- what get_identifier reads, without its marks
unfoldable pub identifier : Reader (Unit {0})
identifier s = elim (starts is_letter s) [ true ↦ ok tt [] (run is_name_part s) | false ↦ fail (ExpectedCharRange Letters) s ]

-- the identifier and the '=' with which messages, terms and attributes start; answers the identifier's length
unfoldable pub get_name : Reader ℕ
get_name = do
  n ← get_identifier Kind.identifier
  skip_blank_inline
  expect_byte Byte.equals
  pure n

-- a pattern that must be there
unfoldable pub get_value : Inside → Reader (Unit {0})
get_value sub = do
  value ← get_pattern sub
  needs_value value
