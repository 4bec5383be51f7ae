-- Worked cuts, by computation: whether the whole's tree is the parts' joined, and what stands between the parts' texts where it is.
use Rattle.std.specs.Prelude.{ℕ, ◌-◌, ◌≡◌, refl, Bool, true, false, ◌&&◌, List, [], ◌∷◌, ◌++◌, map, length, take, drop}
use Prim.Native.String.{String}
use Rattle.std.proofs.Math.Option.{Option, some, none}
use Rattle.syntax.specs.Limits.{max_open}
use Rattle.syntax.specs.Marks as Marks
use Rattle.syntax.specs.Marks.{Mark, kind_of, place_of}
use Rattle.syntax.specs.Bytes as Bytes
use Rattle.syntax.specs.Bytes.{ascii}
use Rattle.syntax.specs.Reader as Reader
use Rattle.syntax.specs.Helper as Helper
use Rattle.syntax.specs.Comment as Comment
use Rattle.syntax.specs.Pattern as Pattern
use Rattle.syntax.specs.Expression as Expression
use Rattle.syntax.specs.Expression.{same_bytes}
use Rattle.syntax.specs.Core as Core
use Rattle.syntax.specs.Core.{parse}
use Rattle.syntax.specs.Reading as Reading
use Rattle.syntax.specs.Reading.{marks_of}
use Rattle.syntax.specs.Serializer as Serializer
use Rattle.syntax.specs.Serializer.{serialize}

-- the trees differ, or they are equal, with a text between
pub data Join : Type 0 where
  differ : Join
  equal : String → Join

pub record Row : Type 0 where
  pub first : String
  pub second : String
  pub join : Join

abbrev pub ◌and◌gives◌ : String → String → Join → Row
a and b gives j = record { first = a; second = b; join = j }

infix 30 ◌and◌gives◌
abbrev pub rows : List Row
rows =
    -- a comment line and what follows it: a comment of its level, or, at level 1, a message or a term, joins it
    ("# c\n" and "a = b\n" gives differ)
    ∷ ("# c\n" and "-t = b\n" gives differ)
    ∷ ("# c\n" and "#" gives differ)
    ∷ ("# c\n" and "# d\n" gives differ)
    ∷ ("## c\n" and "## d\n" gives differ)
    ∷ ("### c\n" and "### d\na = b\n" gives differ)
    ∷ ("a = b\n# c\n" and "d = e\n" gives differ)
    -- of another level, junk, or after a blank line, it does not
    ∷ ("# c\n" and "#x\n" gives equal "")
    ∷ ("# c\n" and "x\n" gives equal "")
    ∷ ("# c\n" and "## d\n" gives equal "\n")
    ∷ ("### c\n" and "# d\n" gives equal "\n")
    ∷ ("## c\n" and "a = b\n" gives equal "")
    ∷ ("# c\n\n" and "a = b\n" gives equal "")
    ∷ ("# c\n\n" and "# d\n" gives equal "\n")
    ∷ ("# c\n \n" and "# d\n" gives equal "\n")
    ∷ ("a = b # c\n" and "d = e\n" gives equal "")
    -- a newline stands before a free comment, if anything stands before it
    ∷ ("a = b\n" and "# c\n" gives equal "\n")
    ∷ ("a = b\n" and "#" gives equal "\n")
    ∷ ("" and "# c\n" gives equal "")
    ∷ ("\n" and "# c\n" gives equal "")
    -- not before an attached one, a message, or junk
    ∷ ("a = b\n" and "# c\nd = e\n" gives equal "")
    ∷ ("a = b\n" and "d = e\n" gives equal "")
    ∷ ("a = b\n" and "x\n# c\n" gives equal "")
    ∷ ("a = b\n" and "" gives equal "")
    ∷ ("" and "" gives equal "")
    ∷ []

unfoldable pub tree : List ℕ → List Mark
tree s = marks_of (parse max_open s)

unfoldable pub same_marks : List Mark → List Mark → Bool
same_marks ms ns = same_bytes (map kind_of ms) (map kind_of ns) && same_bytes (map place_of ms) (map place_of ns)

-- the whole's text without the parts', where the trees are equal. Junk is not written
unfoldable pub given : Row → Option (List ℕ)
given r =
    let a = ascii r.first in
    let b = ascii r.second in
    let ta = serialize a false (tree a) in
    let tb = serialize b false (tree b) in
    let t = serialize (a ++ b) false (tree (a ++ b)) in
    elim
    (same_marks (tree (a ++ b)) (tree a ++ Marks.move_up (length a) (tree b))) [
      | true ↦ some
          (take (length t - length ta - length tb) (drop (length ta) t))
      | false ↦ none
    ]

unfoldable pub expected : Join → Option (List ℕ)
expected differ = none
expected (equal t) = some (ascii t)

pub cuts-hold : map given rows ≡ map (λ (r : Row). expected r.join) rows
unfolding given expected tree same_marks Bytes.starts_with Bytes.starts Bytes.second Bytes.is_upper Bytes.is_letter
    Bytes.is_digit Bytes.is_name_part Bytes.is_hex Bytes.is_callee_part Bytes.run Bytes.all Bytes.eol Bytes.spaces
    Bytes.first_width Bytes.line_run Marks.move_up Marks.node Marks.text_node Reader.after Reader.next Reader.◌>>=◌
    Reader.◌>>◌ Reader.pure Reader.fail Reader.wrap Reader.in_node Reader.turn_of Reader.loop Reader.repeat
    Helper.skip_blank_inline Helper.skip_eol Helper.blank_turn Helper.skip_blank Helper.block_turn Helper.skip_blank_block
    Helper.take_byte_if Helper.expect_byte Helper.skip_digits Helper.fraction Helper.number Helper.as_text
    Helper.get_number_literal Helper.get_identifier Helper.skip_unicode_escape_sequence Comment.line_length Comment.level_of
    Comment.line_end_used Comment.line_read Comment.line_turn Comment.comment_turn Comment.get_comment Pattern.is_text_byte
    Pattern.is_blank Pattern.ends_in_cr Pattern.line_slice Pattern.slice_by Pattern.get_text_slice Pattern.is_line_start
    Pattern.role_after Pattern.is_line_feed Pattern.least_indent Pattern.is_continuation Pattern.with_placeable
    Pattern.common_after Pattern.is_element Pattern.with_text Pattern.goes_on Pattern.line_turn Pattern.text_turn
    Pattern.pattern_turn Pattern.trimmed Pattern.dedented Pattern.text_marks Pattern.element_marks Pattern.finish
    Pattern.state_at Pattern.used_by Pattern.first_state Pattern.get_pattern Expression.inline_kind Expression.as_inline
    Expression.escape_turn Expression.string_turn Expression.string_literal Expression.as_string Expression.number_literal
    Expression.call_arguments Expression.get_call_arguments Expression.get_attribute_accessor Expression.term_reference
    Expression.variable_reference Expression.message_reference Expression.function_reference Expression.reference_by
    Expression.reference Expression.nested_placeable Expression.no_inline Expression.non_literal
    Expression.get_inline_expression Expression.same_bytes Expression.is_among Expression.is_none Expression.separator
    Expression.positional Expression.named_value Expression.named_argument Expression.after_reference Expression.past_blank
    Expression.argument_by Expression.argument_turn Expression.parenthesised Expression.key_text Expression.get_variant_key
    Expression.needs_value Expression.variant Expression.variant_kind Expression.end_variants Expression.variant_with
    Expression.after_star Expression.turn_after Expression.variant_turn Expression.get_variants Expression.selector
    Expression.is_term_attribute Expression.no_term_attribute Expression.alone Expression.needs_line_end Expression.select_from
    Expression.after_inline Expression.in_select
    Expression.inline_or_select Expression.get_expression Expression.braced Expression.too_deep Expression.level
    Core.get_attribute Core.attribute_by Core.attribute_turn Core.get_attributes Core.fields Core.term_fields Core.as_message
    Core.as_term Core.as_comment Core.get_entry Core.to_next_entry Core.line_starts_at Core.junk_end Core.up_error Core.following
    Core.is_named Core.count Core.kind_of_entry Core.entries Core.parse Serializer.nodes_from Serializer.nodes
    Serializer.last_of Serializer.◌⊕◌ Serializer.empty Serializer.literal Serializer.newline Serializer.indented
    Serializer.star Serializer.each Serializer.if Serializer.between Serializer.text_of Serializer.first
    Serializer.has_kind Serializer.is_empty Serializer.of_kind Serializer.name Serializer.blank_line Serializer.comment_line
    Serializer.comment Serializer.is_select Serializer.has_newline Serializer.multiline_element Serializer.is_multiline
    Serializer.leading_dot Serializer.reference Serializer.attribute Serializer.attributes Serializer.message
    Serializer.free_comment Serializer.entry Serializer.wrote_by Serializer.resource Serializer.serialize
    Serializer.pattern Reading.marks_of
cuts-hold = refl
