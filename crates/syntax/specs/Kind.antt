-- The kinds of nodes, with the numbers of their opening marks, for what ast/mod.rs declares. A T kind has a text.
use Rattle.std.specs.Prelude.{ℕ, ◌+◌, Bool, ◌||◌, eqb}
pub use Rattle.syntax.specs.declared.kind.Kind.{Kind}
use Rattle.syntax.specs.declared.kind.Kind.TheVariants.{
  Message,
  Term,
  Comment,
  GroupComment,
  ResourceComment,
  AttachedComment,
  Junk,
  CommentLine,
  Identifier,
  Attribute,
  Pattern,
  Text,
  Placeable,
  Select,
  Variant,
  DefaultVariant,
  NumberKey,
  IdentifierKey,
  StringLiteral,
  NumberLiteral,
  VariableReference,
  FunctionReference,
  MessageReference,
  TermReference,
  Arguments,
  NamedArgument,
}

abbrev pub message : ℕ
message = 1

abbrev pub term : ℕ
term = 2

-- free comments: regular, group, resource
abbrev pub comment : ℕ
comment = 3

abbrev pub group_comment : ℕ
group_comment = 4

abbrev pub resource_comment : ℕ
resource_comment = 5

-- a regular comment attached to the message or term right after it
abbrev pub attached_comment : ℕ
attached_comment = 6

-- T
abbrev pub junk : ℕ
junk = 7

-- T
abbrev pub comment_line : ℕ
comment_line = 8

-- T
abbrev pub identifier : ℕ
identifier = 9

abbrev pub attribute : ℕ
attribute = 10

abbrev pub pattern : ℕ
pattern = 11

-- T
abbrev pub text : ℕ
text = 12

abbrev pub placeable : ℕ
placeable = 13

abbrev pub select : ℕ
select = 14

abbrev pub variant : ℕ
variant = 15

abbrev pub default_variant : ℕ
default_variant = 16

-- T
abbrev pub number_key : ℕ
number_key = 17

-- T
abbrev pub identifier_key : ℕ
identifier_key = 18

-- T, without the quotes
abbrev pub string : ℕ
string = 19

-- T
abbrev pub number : ℕ
number = 20

abbrev pub variable : ℕ
variable = 21

abbrev pub function : ℕ
function = 22

abbrev pub message_reference : ℕ
message_reference = 23

abbrev pub term_reference : ℕ
term_reference = 24

abbrev pub arguments : ℕ
arguments = 25

abbrev pub named_argument : ℕ
named_argument = 26

-- the number of the mark that opens a node of a kind
abbrev pub number_of : Kind → ℕ
number_of Message = message
number_of Term = term
number_of Comment = comment
number_of GroupComment = group_comment
number_of ResourceComment = resource_comment
number_of AttachedComment = attached_comment
number_of Junk = junk
number_of CommentLine = comment_line
number_of Identifier = identifier
number_of Attribute = attribute
number_of Pattern = pattern
number_of Text = text
number_of Placeable = placeable
number_of Select = select
number_of Variant = variant
number_of DefaultVariant = default_variant
number_of NumberKey = number_key
number_of IdentifierKey = identifier_key
number_of StringLiteral = string
number_of NumberLiteral = number
number_of VariableReference = variable
number_of FunctionReference = function
number_of MessageReference = message_reference
number_of TermReference = term_reference
number_of Arguments = arguments
number_of NamedArgument = named_argument

-- the kind of the mark that closes a node of the kind k
abbrev pub closing : ℕ → ℕ
closing k = 100 + k

-- whether a kind is a T kind
unfoldable pub is_text : ℕ → Bool
is_text k =
    eqb k junk
    || (eqb k comment_line
    || (eqb k identifier
    || (eqb k text || (eqb k number_key || (eqb k identifier_key || (eqb k string || eqb k number))))))
