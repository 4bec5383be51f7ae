-- expression.rs, with get_variants and get_placeable of core.rs
use Rattle.std.specs.Prelude.{ℕ, zero, suc, ◌+◌, ◌-◌, Bool, true, false, ◌&&◌, ◌||◌, List, [], ◌∷◌, drop, take, eqb}
use Rattle.syntax.specs.Byte as Byte
use Rattle.syntax.specs.Kind as Kind
use Rattle.syntax.specs.Bytes.{starts_with, starts, second, all, is_letter, is_digit, is_callee_part}
use Rattle.syntax.specs.Errors as Errors
use Rattle.syntax.specs.Marks.{Mark, move_up, text_node, node}
use Rattle.syntax.specs.Reader.{Out, ok, bad, deep, Reader, ◌>>=◌, ◌>>◌, pure, fail, wrap, in_node, Turn, again}
use Rattle.syntax.specs.Reader.{done, turn_of, repeat, after}
use Rattle.syntax.specs.Helper.{skip_blank, skip_blank_inline, skip_eol, take_byte_if, expect_byte, get_identifier}
use Rattle.syntax.specs.Helper.{get_number_literal, skip_unicode_escape_sequence}
use Rattle.syntax.specs.Pattern.{Inside, get_pattern}

-- what an inline expression is: of a message reference the length of its identifier, and of a message or term reference
-- whether it has an attribute
pub data Inline : Type 0 where
  string number variable function inner : Inline
  message : ℕ → Bool → Inline
  term : Bool → Inline

-- what stands in braces
pub data Expression : Type 0 where
  inline : Inline → Expression
  select : Expression

unfoldable pub inline_kind : Inline → ℕ
inline_kind string = Kind.string
inline_kind number = Kind.number
inline_kind variable = Kind.variable
inline_kind function = Kind.function
inline_kind (message n a) = Kind.message_reference
inline_kind (term a) = Kind.term_reference
inline_kind inner = Kind.placeable

unfoldable pub as_inline : Out Inline → Out Inline
as_inline (ok a ms k) = ok a (node (inline_kind a) ms) k
as_inline (bad f k) = bad f k
as_inline (deep k) = deep k

-- what follows a backslash
unfoldable pub escape_turn : List ℕ → List ℕ → Turn (Unit {0}) (Unit {0})
escape_turn s [] = done (fail (Errors.UnknownEscapeSequence Byte.space) s)
escape_turn s (b ∷ bs) =
    elim (eqb b Byte.backslash || (eqb b Byte.open_brace || eqb b Byte.quote)) [
      | true ↦ again tt [] 2
      | false ↦ elim (eqb b Byte.lower_u) [
        | true ↦ turn_of (after [] 2 (skip_unicode_escape_sequence 4 bs))
        | false ↦ elim (eqb b Byte.upper_u) [
          | true ↦ turn_of (after [] 2 (skip_unicode_escape_sequence 6 bs))
          | false ↦ done (fail (Errors.UnknownEscapeSequence b) s)
        ]
      ]
    ]

unfoldable pub string_turn : Unit {0} → List ℕ → Turn (Unit {0}) (Unit {0})
string_turn u [] = done (ok tt [] 0)
string_turn u (b ∷ bs) =
    elim (eqb b Byte.backslash) [
      | true ↦ escape_turn (b ∷ bs) bs
      | false ↦ elim (eqb b Byte.quote) [
        | true ↦ done (ok tt [] 0)
        | false ↦ elim (eqb b Byte.line_feed) [ true ↦ done (fail Errors.UnterminatedStringLiteral (b ∷ bs)) | false ↦ again tt [] 1 ]
      ]
    ]

unfoldable pub string_literal : Reader (Unit {0})
string_literal = do
  expect_byte Byte.quote
  repeat string_turn tt
  expect_byte Byte.quote

unfoldable pub as_string : Out (Unit {0}) → Out Inline
as_string (ok u ms k) = ok string (text_node Kind.string 1 (k - 1)) k
as_string (bad f k) = bad f k
as_string (deep k) = deep k

unfoldable pub number_literal : Reader Inline
number_literal = do
  get_number_literal Kind.number
  pure number

-- get_call_arguments: answers whether there are any
unfoldable pub call_arguments : Inside → Reader Bool
call_arguments sub s = elim (starts_with Byte.open_parenthesis s) [ true ↦ (sub.parenthesised >> pure true) s | false ↦ ok false [] 0 ]

unfoldable pub get_call_arguments : Inside → Reader Bool
get_call_arguments sub = do
  skip_blank
  call_arguments sub

unfoldable pub get_attribute_accessor : Reader Bool
get_attribute_accessor s =
    elim
    (starts_with Byte.dot s) [
      | true ↦ (expect_byte Byte.dot >> get_identifier Kind.identifier >> pure true) s
      | false ↦ ok false [] 0
    ]

unfoldable pub term_reference : Inside → Reader Inline
term_reference sub = do
  expect_byte Byte.minus
  get_identifier Kind.identifier
  attribute ← get_attribute_accessor
  get_call_arguments sub
  pure (term attribute)

unfoldable pub variable_reference : Reader Inline
variable_reference = do
  expect_byte Byte.dollar
  get_identifier Kind.identifier
  pure variable

unfoldable pub message_reference : ℕ → Reader Inline
message_reference n = do
  attribute ← get_attribute_accessor
  pure (message n attribute)

-- is_callee
unfoldable pub function_reference : List ℕ → Reader Inline
function_reference name s = elim (all is_callee_part name) [ true ↦ pure function s | false ↦ fail Errors.ForbiddenCallee s ]

unfoldable pub reference_by : List ℕ → ℕ → Bool → Reader Inline
reference_by s n true = function_reference (take n s)
reference_by s n false = message_reference n

-- a function or message reference: s is where its name starts
unfoldable pub reference : Inside → Reader Inline
reference sub s = (do
  n ← get_identifier Kind.identifier
  call ← get_call_arguments sub
  reference_by s n call) s

unfoldable pub nested_placeable : Inside → Reader Inline
nested_placeable sub = do
  sub.braced
  pure inner

unfoldable pub no_inline : Bool → Reader Inline
no_inline true = fail Errors.ExpectedLiteral
no_inline false = fail Errors.ExpectedInlineExpression

-- an inline expression that a literal alone may not be, by its first byte
unfoldable pub non_literal : Inside → List ℕ → ℕ → List ℕ → Out Inline
non_literal sub s b bs =
    elim (eqb b Byte.minus) [
      | true ↦ elim (starts is_letter bs) [ true ↦ as_inline (term_reference sub s) | false ↦ number_literal s ]
      | false ↦ elim (eqb b Byte.dollar) [
        | true ↦ as_inline (variable_reference s)
        | false ↦ elim (eqb b Byte.open_brace) [ true ↦ as_inline (nested_placeable sub s) | false ↦ no_inline false s ]
      ]
    ]

-- get_inline_expression
unfoldable pub get_inline_expression : Inside → Bool → Reader Inline
get_inline_expression sub only_literal [] = no_inline only_literal []
get_inline_expression sub only_literal (b ∷ bs) =
    elim (eqb b Byte.quote) [
      | true ↦ as_string (string_literal (b ∷ bs))
      | false ↦ elim (is_digit b) [
        | true ↦ number_literal (b ∷ bs)
        | false ↦ elim (is_letter b) [
          | true ↦ as_inline (reference sub (b ∷ bs))
          | false ↦ elim only_literal [ true ↦ no_inline true (b ∷ bs) | false ↦ non_literal sub (b ∷ bs) b bs ]
        ]
      ]
    ]

unfoldable pub same_bytes : List ℕ → List ℕ → Bool
same_bytes [] [] = true
same_bytes [] (y ∷ ys) = false
same_bytes (x ∷ xs) [] = false
same_bytes (x ∷ xs) (y ∷ ys) = eqb x y && same_bytes xs ys

unfoldable pub is_among : List ℕ → List (List ℕ) → Bool
is_among n [] = false
is_among n (m ∷ ms) = same_bytes n m || is_among n ms

unfoldable pub is_none : List (List ℕ) → Bool
is_none [] = true
is_none (x ∷ xs) = false

-- the blanks and the comma after an argument
unfoldable pub separator : List (List ℕ) → Reader (List (List ℕ))
separator names = do
  skip_blank
  take_byte_if Byte.comma
  skip_blank
  pure names

-- a positional argument after which k bytes are used; names are those of the named arguments before it
unfoldable pub positional : List (List ℕ) → List Mark → ℕ → List ℕ → Out (List (List ℕ))
positional names ms k s =
    elim
    (is_none names) [
      | true ↦ after ms k (separator names (drop k s))
      | false ↦ after [] k (fail Errors.PositionalArgumentFollowsNamed (drop k s))
    ]

-- from the ':' of a named argument on
unfoldable pub named_value : Inside → Reader Inline
named_value sub = do
  expect_byte Byte.colon
  skip_blank
  get_inline_expression sub true

-- a named argument: s starts with its name of n bytes, and k bytes stand before its ':'
unfoldable pub named_argument : Inside → List (List ℕ) → ℕ → ℕ → List ℕ → Out (List (List ℕ))
named_argument sub names n k s =
    elim (is_among (take n s) names) [
      | true ↦ bad (Errors.fault_at (Errors.DuplicatedNamedArgument 0 n) k) k
      | false ↦ ((λ r. wrap Kind.named_argument (after (text_node Kind.identifier 0 n) k (named_value sub (drop k r))))
          >> separator (take n s ∷ names)) s
    ]

unfoldable pub after_reference : Inside → List (List ℕ) → ℕ → List Mark → ℕ → List ℕ → Out (List (List ℕ))
after_reference sub names n ms k s =
    elim (starts_with Byte.colon (drop k s)) [ true ↦ named_argument sub names n k s | false ↦ positional names ms k s ]

-- bytes used, and blanks after them
unfoldable pub past_blank : ℕ → List ℕ → ℕ
past_blank k s = elim (skip_blank (drop k s)) [ ok u ms j ↦ k + j | bad f j ↦ k | deep j ↦ k ]

-- an argument that was read as an inline expression
unfoldable pub argument_by : Inside → List (List ℕ) → List ℕ → Out Inline → Out (List (List ℕ))
argument_by sub names s (ok (message n false) ms k) = after_reference sub names n ms (past_blank k s) s
argument_by sub names s (ok (message n true) ms k) = positional names ms k s
argument_by sub names s (ok string ms k) = positional names ms k s
argument_by sub names s (ok number ms k) = positional names ms k s
argument_by sub names s (ok variable ms k) = positional names ms k s
argument_by sub names s (ok function ms k) = positional names ms k s
argument_by sub names s (ok inner ms k) = positional names ms k s
argument_by sub names s (ok (term a) ms k) = positional names ms k s
argument_by sub names s (bad f k) = bad f k
argument_by sub names s (deep k) = deep k

unfoldable pub argument_turn : Inside → List (List ℕ) → List ℕ → Turn (List (List ℕ)) (Unit {0})
argument_turn sub names [] = done (ok tt [] 0)
argument_turn sub names (b ∷ bs) =
    elim
    (eqb b Byte.close_parenthesis) [
      | true ↦ done (ok tt [] 0)
      | false ↦ turn_of (argument_by sub names (b ∷ bs) (get_inline_expression sub false (b ∷ bs)))
    ]

-- the arguments, from '(' through ')'
unfoldable pub parenthesised : Inside → Reader (Unit {0})
parenthesised sub = in_node Kind.arguments do
  expect_byte Byte.open_parenthesis
  skip_blank
  repeat (argument_turn sub) []
  expect_byte Byte.close_parenthesis

-- get_variant_key
unfoldable pub key_text : Reader ℕ
key_text s =
    elim
    (starts (λ b. is_digit b || eqb b Byte.minus) s) [
      | true ↦ get_number_literal Kind.number_key s
      | false ↦ get_identifier Kind.identifier_key s
    ]

unfoldable pub get_variant_key : Reader (Unit {0})
get_variant_key = do
  skip_blank
  key_text
  skip_blank
  expect_byte Byte.close_bracket

unfoldable pub needs_value : Bool → Reader (Unit {0})
needs_value true = pure tt
needs_value false = fail Errors.MissingValue

-- a variant from its '[' on
unfoldable pub variant : Inside → Reader (Unit {0})
variant sub = do
  expect_byte Byte.open_bracket
  get_variant_key
  value ← get_pattern sub
  needs_value value

unfoldable pub variant_kind : Bool → ℕ
variant_kind true = Kind.default_variant
variant_kind false = Kind.variant

unfoldable pub end_variants : Bool → Reader (Unit {0})
end_variants true = pure tt
end_variants false = fail Errors.MissingDefaultVariant

-- a variant, with the blanks after it
unfoldable pub variant_with : Inside → Bool → Bool → Reader Bool
variant_with sub default has_default = do
  in_node (variant_kind default) (variant sub)
  skip_blank
  pure (default || has_default)

-- what follows the '*', if there was one
unfoldable pub after_star : Inside → Bool → Bool → List ℕ → Turn Bool (Unit {0})
after_star sub default has_default s =
    elim (default && has_default) [
      | true ↦ done (fail Errors.MultipleDefaultVariants s)
      | false ↦ elim
          (starts_with Byte.open_bracket s) [
            | true ↦ turn_of (variant_with sub default has_default s)
            | false ↦ done (end_variants (default || has_default) s)
          ]
    ]

unfoldable pub turn_after : {S A : Type 0} → ℕ → Turn S A → Turn S A
turn_after k (again st ms j) = again st (move_up k ms) (k + j)
turn_after k (done o) = done (after [] k o)

-- the state is whether there was a default
unfoldable pub variant_turn : Inside → Bool → List ℕ → Turn Bool (Unit {0})
variant_turn sub has_default s =
    elim
    (starts_with Byte.star s) [
      | true ↦ turn_after 1 (after_star sub true has_default (drop 1 s))
      | false ↦ after_star sub false has_default s
    ]

unfoldable pub get_variants : Inside → Reader (Unit {0})
get_variants sub = repeat (variant_turn sub) false

-- whether an inline expression can be a selector
unfoldable pub selector : Inline → Reader (Unit {0})
selector string = pure tt
selector number = pure tt
selector variable = pure tt
selector function = pure tt
selector (term true) = pure tt
selector (term false) = fail Errors.TermReferenceAsSelector
selector (message n true) = fail Errors.MessageAttributeAsSelector
selector (message n false) = fail Errors.MessageReferenceAsSelector
selector inner = fail Errors.ExpectedSimpleExpressionAsSelector

unfoldable pub is_term_attribute : Expression → Bool
is_term_attribute (inline string) = false
is_term_attribute (inline number) = false
is_term_attribute (inline variable) = false
is_term_attribute (inline function) = false
is_term_attribute (inline (message n a)) = false
is_term_attribute (inline (term a)) = a
is_term_attribute (inline inner) = false
is_term_attribute select = false

-- a term's attribute can't stand in braces by itself
unfoldable pub no_term_attribute : Bool → Reader (Unit {0})
no_term_attribute true = fail Errors.TermAttributeAsPlaceable
no_term_attribute false = pure tt

-- without "->"
unfoldable pub alone : Inline → Reader Expression
alone i = do
  no_term_attribute (is_term_attribute (inline i))
  pure (inline i)

unfoldable pub needs_line_end : Bool → Reader (Unit {0})
needs_line_end true = pure tt
needs_line_end false = fail (Errors.ExpectedCharRange Errors.LineEnd)

-- from "->" on
unfoldable pub select_from : Inside → Inline → Reader Expression
select_from sub shape = do
  selector shape
  expect_byte Byte.minus
  expect_byte Byte.greater
  skip_blank_inline
  end ← skip_eol
  needs_line_end end
  skip_blank
  get_variants sub
  pure select

unfoldable pub after_inline : Inside → Inline → Reader Expression
after_inline sub shape s =
    elim
    (starts_with Byte.minus s && second (λ b. eqb b Byte.greater) s) [
      | true ↦ select_from sub shape s
      | false ↦ alone shape s
    ]

unfoldable pub in_select : Out Expression → Out Expression
in_select (ok select ms k) = ok select (node Kind.select ms) k
in_select (ok (inline i) ms k) = ok (inline i) ms k
in_select (bad f k) = bad f k
in_select (deep k) = deep k

unfoldable pub inline_or_select : Inside → Reader Expression
inline_or_select sub = do
  shape ← get_inline_expression sub false
  skip_blank
  after_inline sub shape

-- get_expression
unfoldable pub get_expression : Inside → Reader Expression
get_expression sub s = in_select (inline_or_select sub s)

-- get_placeable, from '{' through '}'. A term's attribute is tested for again
unfoldable pub braced : Inside → Reader (Unit {0})
braced sub = do
  expect_byte Byte.open_brace
  skip_blank
  expression ← get_expression sub
  skip_blank_inline
  expect_byte Byte.close_brace
  no_term_attribute (is_term_attribute expression)

unfoldable pub too_deep : Reader (Unit {0})
too_deep s = deep 0

-- the readers with n more openings allowed
unfoldable pub level : ℕ → Inside
level zero = record { braced = too_deep; parenthesised = too_deep }
level (suc n) = record { braced = braced (level n); parenthesised = parenthesised (level n) }
