-- What was read as an argument of a call, in the code's terms.
use Rattle.std.specs.Prelude.{◌≡◌, ℕ, Bool, true, false, Option, Some, None, Result, Ok, Err, not, List, [], ◌∷◌, ◌==◌}
use Rattle.syntax.specs.Byte as Byte
use Rattle.syntax.specs.Bytes.{starts_with}
use Rattle.syntax.specs.Errors.{fault_at}
use Rattle.syntax.specs.declared.errors.ErrorKind.TheVariants.{PositionalArgumentFollowsNamed}
use Rattle.syntax.specs.Marks.{Mark}
use Rattle.syntax.specs.Reader.{Out, ok}
use Rattle.syntax.specs.Helper.{skip_blank}
use Rattle.syntax.specs.Pattern.{Inside}
use Rattle.syntax.specs.Expression.{get_inline_expression, separator, argument_by}
use Rattle.entry.specs.Names.{Names}
use Rattle.entry.specs.Reads.{rest, Goes, Reads}
use Rattle.entry.specs.declared.errors.Stop.{Stop}
use Rattle.entry.specs.declared.errors.Stop.TheVariants.{Error}
use Rattle.entry.specs.declared.source.Source.{Source}
use Rattle.entry.specs.declared.parser.Parser.{Parser}
use Rattle.entry.specs.declared.expression.Argument.{Argument}
use Rattle.entry.specs.declared.expression.Argument.TheVariants.{Positional, Named}
use Rattle.entry.specs.declared.expression.Expression.{Expression}
use Rattle.entry.specs.declared.expression.Expression.TheVariants.{StringLiteral, NumberLiteral}
use Rattle.entry.specs.declared.expression.Expression.TheVariants.{VariableReference, FunctionReference}
use Rattle.entry.specs.declared.expression.Expression.TheVariants.{MessageReference, TermReference, Placeable}
use Rattle.entry.specs.declared.expression.Expression.TheVariants.{Select}

-- whether another argument is to be read
unfoldable pub is_argument : List ℕ → Bool
is_argument [] = false
is_argument (b ∷ bs) = not (b == Byte.close_parenthesis)

-- an identifier that ends at e is an argument's name if a ':' follows it
abbrev pub name_by : Bool → ℕ → Option ℕ
name_by true e = Some e
name_by false e = None

-- the name that an inline expression is, if the blanks after it were passed; what is no reference has none after it
abbrev pub NameAs : Source → Source → Expression → Option ℕ → Type 0
NameAs s s' StringLiteral r = (s' ≡ s) × (r ≡ None)
NameAs s s' NumberLiteral r = (s' ≡ s) × (r ≡ None)
NameAs s s' VariableReference r = (s' ≡ s) × (r ≡ None)
NameAs s s' FunctionReference r = (s' ≡ s) × (r ≡ None)
NameAs s s' (MessageReference e true) r = (s' ≡ s) × (r ≡ None)
NameAs s s' (MessageReference e false) r = Goes s s' (skip_blank (rest s)) tt × (r ≡ name_by (starts_with Byte.colon (rest s')) e)
NameAs s s' (TermReference a) r = (s' ≡ s) × (r ≡ None)
NameAs s s' Placeable r = (s' ≡ s) × (r ≡ None)
NameAs s s' Select r = (s' ≡ s) × (r ≡ None)

pub record NameIs (s s' : Source) (x : Expression) (r : Option ℕ) : Type 0 where
  pub is : NameAs s s' x r

-- after a positional argument, by whether a named one stands before it
abbrev pub PositionalAs : Bool → Source → Source → Result Argument Stop → Type 0
PositionalAs true s s' r = (s' ≡ s) × (r ≡ Err (Error (fault_at PositionalArgumentFollowsNamed s.ptr)))
PositionalAs false s s' r = Goes s s' (separator [] (rest s)) [] × (r ≡ Ok Positional)

pub record EndsPositional (after_named : Bool) (s s' : Source) (r : Result Argument Stop) : Type 0 where
  pub is : PositionalAs after_named s s' r

-- an argument's value is the names of the named arguments through it: after a positional one there are none
abbrev pub argument_read : List (List ℕ) → Argument
argument_read [] = Positional
argument_read (x ∷ xs) = Named

-- an argument, with what separates it from the next, after named arguments with these names
abbrev pub argument_of : Inside → List (List ℕ) → List ℕ → Out (List (List ℕ))
argument_of sub names x = argument_by sub names x (get_inline_expression sub false x)

-- what the reading of an argument did, whose named arguments before it have their marks from the `named`-th on: after another named one
-- there is one more
pub record Argued (sub : Inside) (p p' : Parser) (named : ℕ) (names : List (List ℕ)) (r : Result Argument Stop) : Type 0 where
  pub reads : Reads argument_read p p' r (argument_of sub names (rest p.source))
  pub more : r ≡ Ok Named → (names' : List (List ℕ)) (ms : List Mark) (k : ℕ)
      → argument_of sub names (rest p.source) ≡ ok names' ms k
      → Names p.source.bytes.now p'.tree.now.words.now p.tree.now.capacity named p'.tree.now.count names'
