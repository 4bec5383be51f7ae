-- What was read as an expression, in the code's terms.
use Rattle.std.specs.Prelude.{◌≡◌, ℕ, ◌+◌, ◌-◌, ◌≤◌, Bool, true, false, Result, Ok, Err, List, [], ◌∷◌, drop, ◌==◌}
use Rattle.syntax.specs.Byte as Byte
use Rattle.syntax.specs.Bytes.{starts_with, starts, is_letter, is_digit, run, is_name_part}
use Rattle.syntax.specs.Errors.{up_fault, fault_at}
use Rattle.syntax.specs.declared.errors.ParserError.{ParserError}
use Rattle.syntax.specs.declared.errors.ErrorKind.{ErrorKind}
use Rattle.syntax.specs.declared.errors.ErrorKind.TheVariants.{MessageAttributeAsSelector}
use Rattle.syntax.specs.declared.errors.ErrorKind.TheVariants.{MessageReferenceAsSelector, TermReferenceAsSelector}
use Rattle.syntax.specs.declared.errors.ErrorKind.TheVariants.{ExpectedSimpleExpressionAsSelector}
use Rattle.syntax.specs.declared.errors.ErrorKind.TheVariants.{ExpectedLiteral, ExpectedInlineExpression}
use Rattle.syntax.specs.Reader.{Out, bad, Reader, after, ◌>>◌, pure}
use Rattle.syntax.specs.Helper.{skip_blank, skip_blank_inline, expect_byte}
use Rattle.syntax.specs.Layout.{tree_capacity}
use Rattle.syntax.specs.Pattern.{Inside}
use Rattle.syntax.specs.Expression.{Inline, string, number, variable, function, inner, message, term, get_variants}
use Rattle.syntax.specs.Expression.{Expression as Content, inline, select}
use Rattle.syntax.specs.Expression.{no_term_attribute, after_inline}
use Rattle.entry.specs.declared.errors.Stop.{Stop}
use Rattle.entry.specs.declared.errors.Stop.TheVariants.{Error, TooDeep}
use Rattle.entry.specs.declared.source.Source.{Source}
use Rattle.entry.specs.declared.expression.Expression.{Expression}
use Rattle.entry.specs.declared.expression.Expression.TheVariants.{StringLiteral, NumberLiteral}
use Rattle.entry.specs.declared.expression.Expression.TheVariants.{VariableReference, FunctionReference}
use Rattle.entry.specs.declared.expression.Expression.TheVariants.{MessageReference, TermReference, Placeable}
use Rattle.entry.specs.declared.expression.Expression.TheVariants.{Select}
use Rattle.entry.specs.declared.expression.Start.{Start}
use Rattle.entry.specs.declared.expression.Start.TheVariants.{String, Number, Reference, Term, Variable}
use Rattle.entry.specs.declared.expression.Start.TheVariants as starts-of
use Rattle.entry.specs.declared.parser.Parser.{Parser}
use Rattle.entry.specs.Place.{Passed, Went}
use Rattle.entry.specs.Reads.{rest}

-- an inline expression that starts at a place
abbrev pub shape_at : ℕ → Inline → Expression
shape_at at string = StringLiteral
shape_at at number = NumberLiteral
shape_at at variable = VariableReference
shape_at at function = FunctionReference
shape_at at inner = Placeable
shape_at at (message n a) = MessageReference (at + n) a
shape_at at (term a) = TermReference a

-- what stands in braces, from a place on
abbrev pub content_at : ℕ → Content → Expression
content_at at (inline i) = shape_at at i
content_at at select = Select

-- an error, told from a place
pub record Fails {A : Type 0} (at : ℕ) (f : ParserError) (k : ℕ) (o : Out A) : Type 0 where
  pub fault : ParserError
  pub j : ℕ
  pub is : o ≡ bad fault j
  pub moved : f ≡ up_fault at fault
  pub place : k ≡ at + j

-- what a test of a place answers: nothing, or an error there
abbrev pub refused : ℕ → ErrorKind → Result (Unit {0}) Stop
refused at kind = Err (Error (fault_at kind at))

-- whether an inline expression can be a selector
abbrev pub selector_at : ℕ → Expression → Result (Unit {0}) Stop
selector_at at StringLiteral = Ok tt
selector_at at NumberLiteral = Ok tt
selector_at at VariableReference = Ok tt
selector_at at FunctionReference = Ok tt
selector_at at (MessageReference e true) = refused at MessageAttributeAsSelector
selector_at at (MessageReference e false) = refused at MessageReferenceAsSelector
selector_at at (TermReference true) = Ok tt
selector_at at (TermReference false) = refused at TermReferenceAsSelector
selector_at at Placeable = refused at ExpectedSimpleExpressionAsSelector
selector_at at Select = refused at ExpectedSimpleExpressionAsSelector

-- whether it is a term's attribute, which can't stand in braces by itself
abbrev pub is_attribute_of_term : Expression → Bool
is_attribute_of_term StringLiteral = false
is_attribute_of_term NumberLiteral = false
is_attribute_of_term VariableReference = false
is_attribute_of_term FunctionReference = false
is_attribute_of_term (MessageReference e a) = false
is_attribute_of_term (TermReference a) = a
is_attribute_of_term Placeable = false
is_attribute_of_term Select = false

-- a test by a truth value: nothing where it is false
abbrev pub refused_if : Bool → ℕ → ErrorKind → Result (Unit {0}) Stop
refused_if true at kind = refused at kind
refused_if false at kind = Ok tt

-- from the end of an inline expression on
unfoldable pub followed_by : Inside → Inline → Reader Content
followed_by sub i = do
  skip_blank
  after_inline sub i

-- what follows an inline expression x: nothing, the variants of a select, or an error
abbrev pub FollowedAs : Source → Source → Expression → Result Bool Stop → Type 0
FollowedAs s s' x (Ok false) = (sub : Inside) (b : ℕ) (i : Inline) → x ≡ shape_at b i → Went s.bytes.now s.ptr (followed_by sub i (rest s)) (inline i) s'.ptr
FollowedAs s s' x (Ok true) = (s.ptr + 2 ≤ s'.ptr)
    × ((sub : Inside) (b : ℕ) (i : Inline) → x ≡ shape_at b i
    → followed_by sub i (rest s) ≡ after [] (s'.ptr - s.ptr) ((get_variants sub >> pure select) (rest s')))
FollowedAs s s' x (Err (Error f)) = (sub : Inside) (b : ℕ) (i : Inline) → x ≡ shape_at b i → Fails s.ptr f s'.ptr (followed_by sub i (rest s))
FollowedAs s s' x (Err TooDeep) = ⊥

pub record Followed (s s' : Source) (x : Expression) (r : Result Bool Stop) : Type 0 where
  pub bytes : s'.bytes ≡ s.bytes
  pub is : FollowedAs s s' x r

-- the end of a placeable, by whether a term's attribute stands in it
unfoldable pub placeable_end : Bool → Reader (Unit {0})
placeable_end attribute = do
  skip_blank_inline
  expect_byte Byte.close_brace
  no_term_attribute attribute

-- by a first byte that starts no literal, and whether a letter follows it
unfoldable pub non_literal_start : ℕ → Bool → Result Start ErrorKind
non_literal_start b letter =
    elim (b == Byte.minus) [
      | true ↦ elim letter [ true ↦ Ok Term | false ↦ Ok Number ]
      | false ↦ elim (b == Byte.dollar) [
        | true ↦ Ok Variable
        | false ↦ elim (b == Byte.open_brace) [ true ↦ Ok starts-of.Placeable | false ↦ Err ExpectedInlineExpression ]
      ]
    ]

-- where nothing starts
abbrev pub no_start : Bool → Result Start ErrorKind
no_start true = Err ExpectedLiteral
no_start false = Err ExpectedInlineExpression

-- what an inline expression starts with
unfoldable pub start_of : Bool → List ℕ → Result Start ErrorKind
start_of only_literal [] = no_start only_literal
start_of only_literal (b ∷ bs) =
    elim (b == Byte.quote) [
      | true ↦ Ok String
      | false ↦ elim (is_digit b) [
        | true ↦ Ok Number
        | false ↦ elim (is_letter b) [
          | true ↦ Ok Reference
          | false ↦ elim only_literal [
            | true ↦ Err ExpectedLiteral
            | false ↦ non_literal_start b (starts is_letter bs)
          ]
        ]
      ]
    ]

-- the same, with an error's position
abbrev pub start_at : ℕ → Result Start ErrorKind → Result Start Stop
start_at at (Ok x) = Ok x
start_at at (Err kind) = Err (Error (fault_at kind at))

-- a message reference's identifier stands from start to end, and no '(' follows past blanks, where the parser stands
pub record Named (p : Parser) (start end : ℕ) : Type 0 where
  pub begins : starts is_letter (drop start p.source.bytes.now) ≡ true
  pub name : Passed p.source.bytes.now start (run is_name_part (drop start p.source.bytes.now)) end
  pub blank : Went p.source.bytes.now end (skip_blank (drop end p.source.bytes.now)) tt p.source.ptr
  pub no_call : starts_with Byte.open_parenthesis (rest p.source) ≡ false
  pub spent : p.tree.now.count ≤ tree_capacity start

-- a source that stands at a place of the same bytes
pub record StandsAt (at : ℕ) (s' s : Source) : Type 0 where
  pub bytes : s'.bytes ≡ s.bytes
  pub place : s.ptr ≡ at
