-- The productions that a dialect or nesting bears on, as in Lexical. Where one goes round, it takes the productions of
-- what stands in one more "{" or "("
-- from `Inside`. A departure is written where the production has it, by a switch of the dialect d.
use Rattle.std.specs.Prelude.{ℕ, zero, suc, true, false, List, [], ◌∷◌, ◌++◌, length}
use Rattle.syntax.specs.Kind as Kind
use Rattle.syntax.specs.Marks.{Mark, text_node}
use Rattle.syntax.specs.Reader.{ok, bad, deep}
use Rattle.syntax.specs.Expression.{level}
use Rattle.syntax.specs.Core.{get_entry, junk_end}
use Rattle.standard.specs.Dialect.{Dialect}
use Rattle.standard.specs.Peg.{Answer, fits, fails, Parser, pure, never, ◌>>=◌, ◌>>◌, ◌//◌, opt, many, some}
use Rattle.standard.specs.Peg.{list_of, ahead, bar, void, in-node, as-text, only, given, pick, shared, ◌but◌}
use Rattle.standard.specs.Signs.{LF, CR, space, quote, open-parenthesis, close-parenthesis, star, comma, minus}
use Rattle.standard.specs.Signs.{dot, colon, equals, greater, backslash, open-brace, close-brace}
use Rattle.standard.specs.Abstract.{A1, A2, A3, A8, A9, A10, A11, pattern_node, Item, comment, message, term, junk}
use Rattle.standard.specs.Abstract.{Part, Raw, text, lines, brace-indent, placeable, Form, string, function}
use Rattle.standard.specs.Abstract.{message_reference, term_reference, nested_placeable, Arg, positional, named}
use Rattle.standard.specs.Abstract.{Content, inline, select, blank as gap}
use Rattle.standard.specs.Lexical.{line-end, blank-inline, blank-block, blank-inline?, blank?, any-char}
use Rattle.standard.specs.Lexical.{special-quoted-char, unicode-escape, comment-char, Identifier, NumberLiteral}
use Rattle.standard.specs.Lexical.{UnsignedLiteral, VariantKey, AttributeAccessor, VariableReference, inline-text}
use Rattle.standard.specs.Lexical.{indented-text, cr-text, block-brace, sigil, junk-lines}

-- what opens a "{" or a "(", where it is read with one more open
pub record Inside : Type 0 where
  pub inline-placeable : Parser (Unit {0})
  pub CallArguments : Parser (Unit {0})

-- a placeable, with its marks, as a raw element
unfoldable pub raw_placeable : Answer (Unit {0}) → Answer Raw
raw_placeable (fits u ms k) = fits (placeable ms k) [] k
raw_placeable fails = fails

unfoldable pub flat : List (List Raw) → List Raw
flat [] = []
flat (rs ∷ rss) = rs ++ flat rss

-- A4 to A7 on the raw elements that were read from s
unfoldable pub in_pattern : Dialect → List ℕ → Answer (List (List Raw)) → Answer (Unit {0})
in_pattern d s (fits rss ms k) = fits tt (pattern_node d s (flat rss)) k
in_pattern d s fails = fails

unfoldable pub as_part : Answer Item → Answer Part
as_part (fits i ms k) = fits (record { item = i; inside = ms; size = k }) [] k
as_part fails = fails

unfoldable pub part : Parser Item → Parser Part
part p s = as_part (p s)

-- what the parts make: A2 and A3
unfoldable pub tree_of : Answer (List Part) → List Mark
tree_of (fits ps ms k) = A3 (A2 ps)
tree_of fails = []

-- The productions of a dialect
-- ----------------------------------------------------------------------------------------------------------------

module _ (d : Dialect) where
  -- special_escape = "\" special_quoted_char
  -- Departure escape-brace: or "{"
  unfoldable pub special-escape : Parser (Unit {0})
  special-escape = backslash >> (special-quoted-char // given d.escape-brace open-brace)

  -- quoted_char = (any_char - special_quoted_char - line_end) / special_escape / unicode_escape
  unfoldable pub quoted-char : Parser (Unit {0})
  quoted-char = (any-char but special-quoted-char but line-end) // special-escape // unicode-escape

  -- StringLiteral = '"' quoted_char* '"'
  unfoldable pub StringLiteral : Parser Form
  StringLiteral = do
    quote
    as-text Kind.string (many quoted-char)
    quote
    pure string

  -- MessageReference = Identifier AttributeAccessor?
  -- Departure blank-before-dot: (blank? AttributeAccessor)?
  unfoldable pub MessageReference : Parser Form
  MessageReference = in-node Kind.message_reference do
    Identifier Kind.identifier
    opt tt (given d.blank-before-dot (blank? >> AttributeAccessor) // AttributeAccessor)
    pure message_reference

  -- block_text = blank_block blank_inline indented_char inline_text?
  -- Departure cr-continues: / blank_block CR !LF inline_text?
  unfoldable pub block-text : Parser (List Raw)
  block-text = indented-text // given d.cr-continues cr-text

  module _ (sub : Inside) where
    -- Expressions

    -- FunctionReference = Identifier CallArguments
    -- Rule A8
    unfoldable pub FunctionReference : Parser Form
    FunctionReference = in-node Kind.function do
      name ← Identifier Kind.identifier
      sub.CallArguments
      only (A8 name)
      pure function

    -- TermReference = "-" Identifier AttributeAccessor? CallArguments?
    unfoldable pub TermReference : Parser Form
    TermReference = in-node Kind.term_reference do
      minus
      Identifier Kind.identifier
      attribute ← opt false (AttributeAccessor >> pure true)
      opt tt sub.CallArguments
      pure (term_reference attribute)

    -- InlineExpression = StringLiteral / NumberLiteral / FunctionReference / MessageReference / TermReference /
    -- VariableReference / inline_placeable
    unfoldable pub InlineExpression : Parser Form
    InlineExpression =
        StringLiteral
        // NumberLiteral Kind.number
        // FunctionReference
        // MessageReference
        // TermReference
        // VariableReference
        // (sub.inline-placeable >> pure nested_placeable)

    -- StringLiteral / NumberLiteral
    -- Departures named-no-minus: without "-"; named-reference: / FunctionReference / MessageReference
    unfoldable pub literal : Parser Form
    literal =
        StringLiteral
        // pick d.named-no-minus UnsignedLiteral (NumberLiteral Kind.number)
        // given d.named-reference (FunctionReference // MessageReference)

    -- NamedArgument = Identifier blank? ":" blank? (StringLiteral / NumberLiteral)
    unfoldable pub NamedArgument : Parser Arg
    NamedArgument = in-node Kind.named_argument do
      name ← Identifier Kind.identifier
      blank?
      colon
      blank?
      literal
      pure (named name)

    -- Argument = NamedArgument / InlineExpression
    unfoldable pub Argument : Parser Arg
    Argument = NamedArgument // (InlineExpression >> pure positional)

    -- blank? "," blank?
    -- Departure optional-commas: ","?
    unfoldable pub separator : Parser (Unit {0})
    separator = do
      blank?
      pick d.optional-commas (opt tt comma) comma
      blank?

    -- argument_list = (Argument blank? "," blank?)* Argument?
    -- Rule A9
    unfoldable pub argument-list : Parser (Unit {0})
    argument-list = do
      args ← list_of Argument separator
      only (A9 args)

    -- CallArguments = blank? "(" blank? argument_list blank? ")"
    unfoldable pub CallArguments : Parser (Unit {0})
    CallArguments = in-node Kind.arguments do
      blank?
      open-parenthesis
      blank?
      argument-list
      blank?
      close-parenthesis

    -- Patterns

    unfoldable pub raw-placeable : Parser Raw
    raw-placeable s = raw_placeable (sub.inline-placeable s)

    -- block_placeable = blank_block blank_inline? inline_placeable
    unfoldable pub block-placeable : Parser (List Raw)
    block-placeable = do
      ls ← blank-block
      n ← opt 0 blank-inline
      r ← raw-placeable
      pure (lines ls ∷ brace-indent n ∷ r ∷ [])

    -- PatternElement = inline_text / block_text / inline_placeable / block_placeable
    unfoldable pub PatternElement : Parser (List Raw)
    PatternElement =
        (inline-text >>= λ n. pure (text n ∷ []))
        // block-text
        // (raw-placeable >>= λ r. pure (r ∷ []))
        // block-placeable

    unfoldable pub dedented-pattern : Parser (Unit {0})
    dedented-pattern s = in_pattern d s (some PatternElement s)

    -- Pattern = PatternElement+
    -- Rules A4 to A7. Departure block-commits: !block-brace behind it
    unfoldable pub Pattern : Parser (Unit {0})
    Pattern = do
      dedented-pattern
      pick d.block-commits (bar block-brace) (pure tt)

    -- Selects

    -- Variant = line_end blank? VariantKey blank_inline? Pattern
    unfoldable pub Variant : Parser (Unit {0})
    Variant = in-node Kind.variant do
      line-end
      blank?
      VariantKey
      blank-inline?
      Pattern

    -- DefaultVariant = line_end blank? "*" VariantKey blank_inline? Pattern
    unfoldable pub DefaultVariant : Parser (Unit {0})
    DefaultVariant = in-node Kind.default_variant do
      line-end
      blank?
      star
      VariantKey
      blank-inline?
      Pattern

    -- vs DefaultVariant Variant* line_end
    unfoldable pub variants : Parser (List (Unit {0})) → Parser (Unit {0})
    variants vs = do
      vs
      DefaultVariant
      many Variant
      void line-end

    -- vs line_end blank? "*" &(blank_inline? "}")
    unfoldable pub bare-variants : Parser (List (Unit {0})) → Parser (Unit {0})
    bare-variants vs = do
      vs
      line-end
      blank?
      star
      ahead (blank-inline? >> close-brace)

    -- variant_list = Variant* DefaultVariant Variant* line_end
    -- Departure bare-star: / Variant* line_end blank? "*" &(blank_inline? "}")
    unfoldable pub variant-list : Parser (Unit {0})
    variant-list = shared (many Variant) λ vs. variants vs // given d.bare-star (bare-variants vs)

    -- SelectExpression = InlineExpression blank? "->" blank_inline? variant_list
    -- Rule A10
    unfoldable pub SelectExpression : Parser Form → Parser Content
    SelectExpression inline-expression = in-node Kind.select do
      selector ← inline-expression
      only (A10 selector)
      blank?
      minus
      greater
      blank-inline?
      variant-list
      pure select

    -- SelectExpression / InlineExpression, where the InlineExpression with which both start is read once
    unfoldable pub expression : Parser Content
    expression = shared InlineExpression λ e. SelectExpression e // (e >>= λ form. pure (inline form))

    -- inline_placeable = "{" blank? (SelectExpression / InlineExpression) blank? "}"
    -- Rule A11
    unfoldable pub inline-placeable : Parser (Unit {0})
    inline-placeable = in-node Kind.placeable do
      open-brace
      blank?
      content ← expression
      blank?
      close-brace
      only (A11 content)

    -- Entries

    -- Attribute = line_end blank? "." Identifier blank_inline? "=" blank_inline? Pattern
    -- Departure attribute-line-end: &line_end
    unfoldable pub Attribute : Parser (Unit {0})
    Attribute = in-node Kind.attribute do
      line-end
      blank?
      dot
      Identifier Kind.identifier
      blank-inline?
      equals
      blank-inline?
      Pattern
      pick d.attribute-line-end (ahead line-end) (pure tt)

    -- Term = "-" Identifier blank_inline? "=" blank_inline? Pattern Attribute*
    unfoldable pub Term : Parser (Unit {0})
    Term = do
      minus
      Identifier Kind.identifier
      blank-inline?
      equals
      blank-inline?
      Pattern
      void (many Attribute)

    -- Message = Identifier blank_inline? "=" blank_inline? (Pattern Attribute* / Attribute+)
    unfoldable pub Message : Parser (Unit {0})
    Message = do
      Identifier Kind.identifier
      blank-inline?
      equals
      blank-inline?
      (Pattern >> void (many Attribute)) // void (some Attribute)

  -- what stands in at most n more "{" and "("
  unfoldable pub nesting : ℕ → Inside
  nesting zero = record { inline-placeable = never; CallArguments = never }
  nesting (suc n) = record { inline-placeable = inline-placeable (nesting n); CallArguments = CallArguments (nesting n) }

  -- CommentLine = ("###" / "##" / "#") (" " comment_char*)? line_end
  -- Rule A1
  unfoldable pub CommentLine : Parser Item
  CommentLine = do
    l ← sigil
    void (space >> as-text Kind.comment_line (many comment-char)) // A1 d
    line-end
    pure (comment l)

  module _ (n : ℕ) where
    -- the junk of the departure junk-swallows: it ends at the first entry start at or after the place where the Rust's
    -- reading stopped, which is taken
    -- from the definition of that reading
    unfoldable pub swallowing-junk : Parser Item
    swallowing-junk s =
        elim (get_entry (level n) s) [
          | ok e ms k ↦ fails
          | bad f k ↦ let j = junk_end k s in fits junk (text_node Kind.junk 0 j) j
          | deep k ↦ fails
        ]

    -- Junk = junk_line (!"#" !"-" ![a-z_a-Z] junk_line)*
    -- Departure junk-swallows: swallowing-junk / junk-lines
    unfoldable pub Junk : Parser Item
    Junk = given d.junk-swallows swallowing-junk // junk-lines

    -- line_end behind a Message or Term
    -- Departure blank-at-end: line_end blank_block?
    unfoldable pub entry-end : Parser (Unit {0})
    entry-end = line-end >> pick d.blank-at-end (void (opt [] blank-block)) (pure tt)

    -- Entry = Message line_end / Term line_end / CommentLine
    unfoldable pub Entry : Parser Item
    Entry =
        (Message (nesting n) >> entry-end >> pure message)
        // (Term (nesting n) >> entry-end >> pure term)
        // CommentLine

    -- blank_block between entries
    -- Departure blank-at-end: (blank_inline? (CR LF / LF))+
    unfoldable pub blank-lines : Parser Item
    blank-lines = pick d.blank-at-end (some (blank-inline? >> ((CR >> LF) // LF)) >> pure gap) (blank-block >> pure gap)

    -- Entry / blank_block / Junk
    unfoldable pub piece : Parser Part
    piece = part (Entry // blank-lines // Junk)

  -- Resource = (Entry / blank_block / Junk)*
  -- Rules A2, A3. The marks of a source, with at most n "{" and "(" open at a time
  unfoldable pub ResourceWithin : ℕ → List ℕ → List Mark
  ResourceWithin n s = tree_of (many (piece n) s)

  -- no more can be open than there are bytes
  unfoldable pub Resource : List ℕ → List Mark
  Resource s = ResourceWithin (length s) s
