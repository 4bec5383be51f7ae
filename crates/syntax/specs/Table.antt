-- Worked sources, the rows P1 to P10 and two more, each with its whole listing or text, and the theorem that they hold.
use Rattle.std.specs.Prelude.{ℕ, ◌≡◌, refl, false, List, [], ◌∷◌, map}
use Prim.Native.String.{String}
use Rattle.syntax.specs.Bytes as Bytes
use Rattle.syntax.specs.Bytes.{ascii}
use Rattle.syntax.specs.Limits.{max_open}
use Rattle.syntax.specs.Marks as Marks
use Rattle.syntax.specs.Reader as Reader
use Rattle.syntax.specs.Helper as Helper
use Rattle.syntax.specs.Comment as Comment
use Rattle.syntax.specs.Pattern as Pattern
use Rattle.syntax.specs.Expression as Expression
use Rattle.syntax.specs.Core as Core
use Rattle.syntax.specs.Serializer as Serializer
use Rattle.syntax.specs.Layout as Layout
use Rattle.syntax.specs.Reading as Reading
use Rattle.syntax.specs.Decimal as Decimal
use Rattle.syntax.specs.Listing as Listing

-- a source with its listing, or with its normal text
pub data Row : Type 0 where
  listed : String → String → Row
  written : String → String → Row

abbrev pub rows : List Row
rows =
    -- P1: no marks
    listed "" "0 0 0\n"
    -- P2: 3, 103
    ∷ listed "#" "0 2 0\n3 0\n103 0\n"
    -- P3: error 3, position 0 to 4, junk 0 to 4, argument 0, 1
    ∷ listed "a =\n" "0 2 1\n7 0\n107 4\n3 0 4 0 4 0 1\n"
    -- P4: error 1, position 1 to 2, junk 0 to 3, argument 32, 0
    ∷ listed "#x\n" "0 2 1\n7 0\n107 3\n1 1 2 0 3 32 0\n"
    -- P5: error 5, position 9 to 10, junk 0 to 11
    ∷ listed "a = {f(1)}\n" "0 2 1\n7 0\n107 11\n5 9 10 0 11 0 0\n"
    -- P6: texts 4 to 5, 6 to 7, 9 to 10
    ∷ listed "a = x\r\n  y\n" "0 12 0\n1 0\n9 0\n109 1\n11 0\n12 4\n112 5\n12 6\n112 7\n12 9\n112 10\n111 0\n101 0\n"
    -- P7: texts 7 to 8, 8 to 11
    ∷ listed "a =\n{1}\n  b\n" "0 14 0\n1 0\n9 0\n109 1\n11 0\n13 0\n20 5\n120 6\n113 0\n12 7\n112 8\n12 8\n112 11\n111 0\n101 0\n"
    -- P8: texts 8 to 9, 11 to 12
    ∷ listed "a =\n {1}\n  b\n" "0 14 0\n1 0\n9 0\n109 1\n11 0\n13 0\n20 6\n120 7\n113 0\n12 8\n112 9\n12 11\n112 12\n111 0\n101 0\n"
    -- P9: two positionals
    ∷ listed "a = {F(1 2)}\n" "0 18 0\n1 0\n9 0\n109 1\n11 0\n13 0\n22 0\n9 5\n109 6\n25 0\n20 7\n120 8\n20 9\n120 10\n125 0\n122 0\n113 0\n111 0\n101 0\n"
    -- P10
    ∷ written "a = .b\n  c\n" "a = .b\nc\n"
    -- the first of the two tests for a term's attribute: error 12, position 9 to 10, junk 0 to 11
    ∷ listed "a = {-t.a}\n" "0 2 1\n7 0\n107 11\n12 9 10 0 11 0 0\n"
    -- a message and its value
    ∷ listed "a = b\n" "0 8 0\n1 0\n9 0\n109 1\n11 0\n12 4\n112 5\n111 0\n101 0\n"
    ∷ []

-- what the definitions give, and what stands in the row
unfoldable pub given : Row → List ℕ
given (listed s t) = Listing.listing (ascii s)
given (written s t) = Serializer.serialize (ascii s) false (Reading.marks_of (Core.parse max_open (ascii s)))

unfoldable pub expected : Row → List ℕ
expected (listed s t) = ascii t
expected (written s t) = ascii t

pub table-holds : map given rows ≡ map expected rows
unfolding given expected Bytes.starts_with Bytes.starts Bytes.second Bytes.is_upper Bytes.is_letter Bytes.is_digit
    Bytes.is_name_part Bytes.is_hex Bytes.is_callee_part Bytes.run Bytes.all Bytes.eol Bytes.spaces Bytes.first_width
    Bytes.line_run Marks.move_up Marks.node Marks.text_node Reader.after Reader.next Reader.◌>>=◌ Reader.◌>>◌ Reader.pure
    Reader.fail Reader.wrap Reader.in_node Reader.turn_of Reader.loop Reader.repeat Helper.skip_blank_inline Helper.skip_eol
    Helper.blank_turn Helper.skip_blank Helper.block_turn Helper.skip_blank_block Helper.take_byte_if Helper.expect_byte
    Helper.skip_digits Helper.fraction Helper.number Helper.as_text Helper.get_number_literal Helper.get_identifier
    Helper.skip_unicode_escape_sequence Comment.line_length Comment.level_of Comment.line_end_used Comment.line_read
    Comment.line_turn Comment.comment_turn Comment.get_comment Pattern.is_text_byte Pattern.is_blank Pattern.ends_in_cr
    Pattern.line_slice Pattern.slice_by Pattern.get_text_slice Pattern.is_line_start Pattern.role_after Pattern.is_line_feed
    Pattern.least_indent Pattern.is_continuation Pattern.with_placeable Pattern.common_after Pattern.is_element
    Pattern.with_text Pattern.goes_on Pattern.line_turn Pattern.text_turn Pattern.pattern_turn Pattern.trimmed
    Pattern.dedented Pattern.text_marks Pattern.element_marks Pattern.finish Pattern.state_at Pattern.used_by
    Pattern.first_state Pattern.get_pattern Expression.inline_kind Expression.as_inline Expression.escape_turn
    Expression.string_turn Expression.string_literal Expression.as_string Expression.number_literal Expression.call_arguments
    Expression.get_call_arguments Expression.get_attribute_accessor Expression.term_reference Expression.variable_reference
    Expression.message_reference Expression.function_reference Expression.reference_by Expression.reference
    Expression.nested_placeable Expression.no_inline Expression.non_literal Expression.get_inline_expression
    Expression.same_bytes Expression.is_among Expression.is_none Expression.separator Expression.positional
    Expression.named_value Expression.named_argument Expression.after_reference Expression.past_blank Expression.argument_by
    Expression.argument_turn Expression.parenthesised Expression.key_text Expression.get_variant_key Expression.needs_value
    Expression.variant Expression.variant_kind Expression.end_variants Expression.variant_with Expression.after_star
    Expression.turn_after Expression.variant_turn Expression.get_variants Expression.selector Expression.is_term_attribute
    Expression.no_term_attribute Expression.alone
    Expression.needs_line_end Expression.select_from Expression.after_inline Expression.in_select Expression.inline_or_select
    Expression.get_expression Expression.braced Expression.too_deep Expression.level Core.get_attribute Core.attribute_by
    Core.attribute_turn Core.get_attributes Core.fields Core.term_fields Core.as_message Core.as_term Core.as_comment
    Core.get_entry Core.to_next_entry Core.line_starts_at Core.junk_end Core.up_error Core.following Core.is_named Core.count
    Core.kind_of_entry Core.entries Core.parse Serializer.nodes_from Serializer.nodes Serializer.last_of Serializer.◌⊕◌
    Serializer.empty Serializer.literal Serializer.newline Serializer.indented Serializer.star Serializer.each
    Serializer.if Serializer.between Serializer.text_of Serializer.first Serializer.has_kind Serializer.is_empty
    Serializer.of_kind Serializer.name Serializer.blank_line Serializer.comment_line Serializer.comment Serializer.is_select
    Serializer.has_newline Serializer.multiline_element Serializer.is_multiline Serializer.leading_dot Serializer.reference
    Serializer.attribute Serializer.attributes Serializer.message Serializer.free_comment Serializer.entry
    Serializer.wrote_by Serializer.resource Serializer.serialize Serializer.pattern Layout.group Layout.error_number
    Reading.answer_of Reading.read_answer Reading.marks_of Reading.errors_of Reading.tree_after Reading.errors_after
    Decimal.digits Decimal.decimal Listing.line Listing.lines Listing.mark_line Listing.error_line Listing.lines_of
    Listing.listing
table-holds = refl
