-- errors.rs: the number and the arguments of each error, as docs/CALLS.md has them, and moving errors up.
use Rattle.std.specs.Prelude.{ℕ, ◌+◌}
pub use Rattle.syntax.specs.declared.errors.CharRange.{CharRange}
pub use Rattle.syntax.specs.declared.errors.CharRange.TheVariants.{Letters, LineEnd, Digits, Other}
pub use Rattle.syntax.specs.declared.errors.ErrorKind.{ErrorKind}
pub use Rattle.syntax.specs.declared.errors.ErrorKind.TheVariants.{
  ExpectedToken,
  ExpectedCharRange,
  ExpectedMessageField,
  ExpectedTermField,
  ForbiddenCallee,
  MissingDefaultVariant,
  MissingValue,
  MultipleDefaultVariants,
  MessageReferenceAsSelector,
  TermReferenceAsSelector,
  MessageAttributeAsSelector,
  TermAttributeAsPlaceable,
  UnterminatedStringLiteral,
  PositionalArgumentFollowsNamed,
  DuplicatedNamedArgument,
  UnknownEscapeSequence,
  InvalidUnicodeEscapeSequence,
  UnbalancedClosingBrace,
  ExpectedInlineExpression,
  ExpectedSimpleExpressionAsSelector,
  ExpectedLiteral,
}
pub use Rattle.syntax.specs.declared.errors.ParserError.{ParserError}
use Rattle.syntax.specs.declared.errors.KindWords.{KindWords}

-- the codes of "a-zA-Z", a line end and "0-9"; any other stands for itself
abbrev pub code_of : CharRange → ℕ
code_of Letters = 1
code_of LineEnd = 2
code_of Digits = 3
code_of (Other code) = code

-- the number of a kind, in the order of `ErrorKind`, and its two arguments
abbrev pub words_of : ErrorKind → KindWords
words_of (ExpectedToken b) = record { number = 1; first = b; second = 0 }
words_of (ExpectedCharRange r) = record { number = 2; first = code_of r; second = 0 }
words_of (ExpectedMessageField a e) = record { number = 3; first = a; second = e }
words_of (ExpectedTermField a e) = record { number = 4; first = a; second = e }
words_of ForbiddenCallee = record { number = 5; first = 0; second = 0 }
words_of MissingDefaultVariant = record { number = 6; first = 0; second = 0 }
words_of MissingValue = record { number = 7; first = 0; second = 0 }
words_of MultipleDefaultVariants = record { number = 8; first = 0; second = 0 }
words_of MessageReferenceAsSelector = record { number = 9; first = 0; second = 0 }
words_of TermReferenceAsSelector = record { number = 10; first = 0; second = 0 }
words_of MessageAttributeAsSelector = record { number = 11; first = 0; second = 0 }
words_of TermAttributeAsPlaceable = record { number = 12; first = 0; second = 0 }
words_of UnterminatedStringLiteral = record { number = 13; first = 0; second = 0 }
words_of PositionalArgumentFollowsNamed = record { number = 14; first = 0; second = 0 }
words_of (DuplicatedNamedArgument a e) = record { number = 15; first = a; second = e }
words_of (UnknownEscapeSequence b) = record { number = 16; first = b; second = 0 }
words_of (InvalidUnicodeEscapeSequence a e) = record { number = 17; first = a; second = e }
words_of UnbalancedClosingBrace = record { number = 18; first = 0; second = 0 }
words_of ExpectedInlineExpression = record { number = 19; first = 0; second = 0 }
words_of ExpectedSimpleExpressionAsSelector = record { number = 20; first = 0; second = 0 }
words_of ExpectedLiteral = record { number = 21; first = 0; second = 0 }

-- a kind n bytes further on: spans move, bytes and ranges do not
abbrev pub up_kind : ℕ → ErrorKind → ErrorKind
up_kind n (ExpectedToken b) = ExpectedToken b
up_kind n (ExpectedCharRange r) = ExpectedCharRange r
up_kind n (ExpectedMessageField a e) = ExpectedMessageField (n + a) (n + e)
up_kind n (ExpectedTermField a e) = ExpectedTermField (n + a) (n + e)
up_kind n ForbiddenCallee = ForbiddenCallee
up_kind n MissingDefaultVariant = MissingDefaultVariant
up_kind n MissingValue = MissingValue
up_kind n MultipleDefaultVariants = MultipleDefaultVariants
up_kind n MessageReferenceAsSelector = MessageReferenceAsSelector
up_kind n TermReferenceAsSelector = TermReferenceAsSelector
up_kind n MessageAttributeAsSelector = MessageAttributeAsSelector
up_kind n TermAttributeAsPlaceable = TermAttributeAsPlaceable
up_kind n UnterminatedStringLiteral = UnterminatedStringLiteral
up_kind n PositionalArgumentFollowsNamed = PositionalArgumentFollowsNamed
up_kind n (DuplicatedNamedArgument a e) = DuplicatedNamedArgument (n + a) (n + e)
up_kind n (UnknownEscapeSequence b) = UnknownEscapeSequence b
up_kind n (InvalidUnicodeEscapeSequence a e) = InvalidUnicodeEscapeSequence (n + a) (n + e)
up_kind n UnbalancedClosingBrace = UnbalancedClosingBrace
up_kind n ExpectedInlineExpression = ExpectedInlineExpression
up_kind n ExpectedSimpleExpressionAsSelector = ExpectedSimpleExpressionAsSelector
up_kind n ExpectedLiteral = ExpectedLiteral

abbrev pub up_fault : ℕ → ParserError → ParserError
up_fault n e = record { start = n + e.start; end = n + e.end; kind = up_kind n e.kind }

-- error!: an error at a place; without an end, its position is the one byte there
abbrev pub fault_from_to : ErrorKind → ℕ → ℕ → ParserError
fault_from_to k a e = record { start = a; end = e; kind = k }

abbrev pub fault_at : ErrorKind → ℕ → ParserError
fault_at k a = fault_from_to k a (a + 1)
