-- The productions that are the same in all dialects, under the names of the EBNF with - for _. A production stands
-- after those that it names, so the
-- order is about the EBNF's from the end to the start. Bytes are read, not characters: each byte of a character above
-- 127 passes for a character of its
-- own, and none is special.
use Rattle.std.specs.Prelude.{ℕ, true, List, [], ◌∷◌}
use Rattle.syntax.specs.Kind as Kind
use Rattle.syntax.specs.Bytes.{is_letter, is_digit, is_name_part, is_hex}
use Rattle.standard.specs.Peg.{Parser, pure, ◌>>=◌, ◌>>◌, ◌//◌, opt, many, some, times, bar, ◌but◌, one, eof, void}
use Rattle.standard.specs.Peg.{sized, in-node, as-text}
use Rattle.standard.specs.Signs.{LF, CR, space, quote, hash, dollar, star, minus, dot, open-bracket, letter-U}
use Rattle.standard.specs.Signs.{backslash, close-bracket, letter-u, open-brace, close-brace}
use Rattle.standard.specs.Abstract.{Item, junk, Line, Raw, text, lines, indent, Form, number, variable}

-- line_end = CR LF / LF / EOF
unfoldable pub line-end : Parser ℕ
line-end = sized ((CR >> LF) // LF // eof)

-- blank_inline = " "+
unfoldable pub blank-inline : Parser ℕ
blank-inline = sized (some space)

unfoldable pub blank-line : Parser Line
blank-line = do
  n ← opt 0 blank-inline
  e ← line-end
  pure (record { spaces = n; ending = e })

-- blank_block = (blank_inline? line_end)+
unfoldable pub blank-block : Parser (List Line)
blank-block = some blank-line

-- blank = (blank_inline / line_end)+
unfoldable pub blank : Parser (Unit {0})
blank = void (some (blank-inline // line-end))

unfoldable pub blank-inline? : Parser (Unit {0})
blank-inline? = void (opt 0 blank-inline)

unfoldable pub blank? : Parser (Unit {0})
blank? = opt tt blank

-- digits = [0-9]+
unfoldable pub digits : Parser (Unit {0})
digits = void (some (one is_digit))

-- any_char
unfoldable pub any-char : Parser (Unit {0})
any-char = one (λ b. true)

-- special_quoted_char = '"' / "\"
unfoldable pub special-quoted-char : Parser (Unit {0})
special-quoted-char = quote // backslash

-- unicode_escape = "\u" [0-9a-f_a-F]{4} / "\U" [0-9a-f_a-F]{6}
unfoldable pub unicode-escape : Parser (Unit {0})
unicode-escape = (backslash >> letter-u >> times 4 (one is_hex)) // (backslash >> letter-U >> times 6 (one is_hex))

-- special_text_char = "{" / "}"
unfoldable pub special-text-char : Parser (Unit {0})
special-text-char = open-brace // close-brace

-- text_char = any_char - special_text_char - line_end
unfoldable pub text-char : Parser (Unit {0})
text-char = any-char but special-text-char but line-end

-- indented_char = text_char - "[" - "*" - "."
unfoldable pub indented-char : Parser (Unit {0})
indented-char = text-char but open-bracket but star but dot

-- comment_char = any_char - line_end
unfoldable pub comment-char : Parser (Unit {0})
comment-char = any-char but line-end

-- Identifier = [a-z_a-Z] [a-z_a-Z0-9_-]*. A text of the kind; answers its bytes
unfoldable pub Identifier : ℕ → Parser (List ℕ)
Identifier kind = as-text kind (one is_letter >> many (one is_name_part))

-- digits ("." digits)?
unfoldable pub unsigned : Parser (Unit {0})
unsigned = do
  digits
  opt tt (dot >> digits)

-- NumberLiteral = "-"? digits ("." digits)?
unfoldable pub NumberLiteral : ℕ → Parser Form
NumberLiteral kind = do
  as-text kind (opt tt minus >> unsigned)
  pure number

unfoldable pub UnsignedLiteral : Parser Form
UnsignedLiteral = do
  as-text Kind.number unsigned
  pure number

-- VariantKey = "[" blank? (NumberLiteral / Identifier) blank? "]"
unfoldable pub VariantKey : Parser (Unit {0})
VariantKey = do
  open-bracket
  blank?
  void (NumberLiteral Kind.number_key) // void (Identifier Kind.identifier_key)
  blank?
  close-bracket

-- AttributeAccessor = "." Identifier
unfoldable pub AttributeAccessor : Parser (Unit {0})
AttributeAccessor = do
  dot
  void (Identifier Kind.identifier)

-- VariableReference = "$" Identifier
unfoldable pub VariableReference : Parser Form
VariableReference = in-node Kind.variable do
  dollar
  Identifier Kind.identifier
  pure variable

-- inline_text = text_char+
unfoldable pub inline-text : Parser ℕ
inline-text = sized (some text-char)

-- blank_block blank_inline indented_char inline_text?
unfoldable pub indented-text : Parser (List Raw)
indented-text = do
  ls ← blank-block
  n ← blank-inline
  m ← sized (indented-char >> opt 0 inline-text)
  pure (lines ls ∷ indent n ∷ text m ∷ [])

-- blank_block CR !LF inline_text?
unfoldable pub cr-text : Parser (List Raw)
cr-text = do
  ls ← blank-block
  m ← sized (CR >> bar LF >> opt 0 inline-text)
  pure (lines ls ∷ indent 0 ∷ text m ∷ [])

-- blank_block blank_inline? "{"
unfoldable pub block-brace : Parser (Unit {0})
block-brace = blank-block >> blank-inline? >> open-brace

-- "###" / "##" / "#", answering the level
unfoldable pub sigil : Parser ℕ
sigil = (hash >> hash >> hash >> pure 3) // (hash >> hash >> pure 2) // (hash >> pure 1)

-- junk_line = [^LF]* (LF / EOF)
unfoldable pub junk-line : Parser (Unit {0})
junk-line = do
  many (any-char but LF)
  LF // eof

unfoldable pub entry-start : Parser (Unit {0})
entry-start = hash // minus // one is_letter

-- Junk = junk_line (!"#" !"-" ![a-z_a-Z] junk_line)*
unfoldable pub junk-lines : Parser Item
junk-lines = do
  as-text Kind.junk (junk-line >> many (junk-line but entry-start))
  pure junk
