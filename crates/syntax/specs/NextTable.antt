-- Worked sources: where their entries start and stop, and the first place, by computation.
use Rattle.std.specs.Prelude.{ℕ, ◌≡◌, refl, List, [], ◌∷◌, map}
use Prim.Native.String.{String}
use Rattle.syntax.specs.Bytes as Bytes
use Rattle.syntax.specs.Bytes.{ascii}
use Rattle.syntax.specs.Marks as Marks
use Rattle.syntax.specs.Reader as Reader
use Rattle.syntax.specs.Helper as Helper
use Rattle.syntax.specs.Comment as Comment
use Rattle.syntax.specs.Pattern as Pattern
use Rattle.syntax.specs.Expression as Expression
use Rattle.syntax.specs.Core as Core
use Rattle.syntax.specs.Decimal as Decimal
use Rattle.syntax.specs.Listing as Listing
use Rattle.syntax.specs.Next as Next
use Rattle.syntax.specs.Next.{Extent, parse_extents, first_place}
use Rattle.utf8.specs.Utf8 as Utf8

-- how many openings may be open at a time, a source, and a line for each entry
pub data Row : Type 0 where
  listed : ℕ → String → String → Row

abbrev pub rows : List Row
rows =
    -- nothing
    listed 64 "" ""
    -- blank lines alone
    ∷ listed 64 "\n \n" ""
    -- a comment's reading stops at the end of its last line
    ∷ listed 64 "# c\n\na = b\n" "0 3\n5 11\n"
    -- a message's stops after the blank lines that follow it
    ∷ listed 64 "a = b\n\n# c\n" "0 7\n7 11\n"
    -- the same with CRLF
    ∷ listed 64 "# x\r\n# y\r\n-t = u\r\n\r\n" "0 9\n10 20\n"
    -- junk reaches to the next entry
    ∷ listed 64 "j\n k\na = b\n" "0 5\n5 11\n"
    -- an attribute is dropped: its line is junk
    ∷ listed 64 "a = b\n .c =\nd = e\n" "0 6\n6 12\n12 18\n"
    -- one opening is allowed, and the second entry has two
    ∷ listed 1 "a = {1}\nb = {{1}}\nc = d\n" "0 8\n"
    ∷ []

unfoldable pub line : Extent → List ℕ
line x = x.start ∷ x.stop ∷ []

unfoldable pub given : Row → List ℕ
given (listed n s t) = Listing.lines (map line (parse_extents n (ascii s)))

unfoldable pub expected : Row → List ℕ
expected (listed n s t) = ascii t

pub table-holds : map given rows ≡ map expected rows
unfolding line given expected Decimal.digits Decimal.decimal Listing.line Listing.lines Next.up_extent Next.stop_of
    Next.extents Next.parse_extents Bytes.starts_with Bytes.starts Bytes.second Bytes.is_upper Bytes.is_letter Bytes.is_digit
    Bytes.is_name_part Bytes.is_hex Bytes.is_callee_part Bytes.run Bytes.all Bytes.eol Bytes.spaces Bytes.first_width
    Bytes.line_run Marks.move_up Marks.node Marks.text_node Reader.after Reader.next Reader.◌>>=◌ Reader.◌>>◌ Reader.pure
    Reader.fail Reader.wrap Reader.in_node Reader.turn_of Reader.loop Reader.repeat Helper.skip_blank_inline Helper.skip_eol
    Helper.blank_turn Helper.skip_blank Helper.block_turn Helper.skip_blank_block Helper.take_byte_if Helper.expect_byte
    Helper.skip_digits Helper.fraction Helper.number Helper.as_text Helper.get_number_literal Helper.get_identifier
    Helper.skip_unicode_escape_sequence Comment.line_length Comment.level_of Comment.line_end_used Comment.line_read
    Comment.line_turn Comment.comment_turn Comment.get_comment Pattern.is_text_byte Pattern.is_blank Pattern.ends_in_cr
    Pattern.line_slice Pattern.slice_by Pattern.get_text_slice Pattern.is_line_start Pattern.role_after Pattern.is_line_feed
    Pattern.least_indent Pattern.is_continuation Pattern.with_placeable Pattern.common_after Pattern.is_element
    Pattern.with_text Pattern.goes_on Pattern.line_turn Pattern.text_turn Pattern.pattern_turn Pattern.trimmed
    Pattern.dedented Pattern.text_marks Pattern.element_marks Pattern.finish Pattern.state_at Pattern.used_by
    Pattern.first_state Pattern.get_pattern Expression.inline_kind Expression.as_inline Expression.escape_turn
    Expression.string_turn Expression.string_literal Expression.as_string Expression.number_literal Expression.call_arguments
    Expression.get_call_arguments Expression.get_attribute_accessor Expression.term_reference Expression.variable_reference
    Expression.message_reference Expression.function_reference Expression.reference_by Expression.reference
    Expression.nested_placeable Expression.no_inline Expression.non_literal Expression.get_inline_expression
    Expression.same_bytes Expression.is_among Expression.is_none Expression.separator Expression.positional
    Expression.named_value Expression.named_argument Expression.after_reference Expression.past_blank Expression.argument_by
    Expression.argument_turn Expression.parenthesised Expression.key_text Expression.get_variant_key Expression.needs_value
    Expression.variant Expression.variant_kind Expression.end_variants Expression.variant_with Expression.after_star
    Expression.turn_after Expression.variant_turn Expression.get_variants Expression.selector Expression.is_term_attribute
    Expression.no_term_attribute Expression.alone
    Expression.needs_line_end Expression.select_from Expression.after_inline Expression.in_select Expression.inline_or_select
    Expression.get_expression Expression.braced Expression.too_deep Expression.level Core.get_attribute Core.attribute_by
    Core.attribute_turn Core.get_attributes Core.fields Core.term_fields Core.as_message Core.as_term Core.as_comment
    Core.get_entry Core.to_next_entry Core.line_starts_at Core.junk_end Core.up_error Core.following Core.is_named Core.count
    Core.kind_of_entry Core.entries Core.parse
table-holds = refl

-- a reader starts at the start; at the end of a source that is not UTF-8
pub first-places : map first_place ((97 ∷ 10 ∷ []) ∷ (97 ∷ 255 ∷ 10 ∷ []) ∷ []) ≡ 0 ∷ 3 ∷ []
unfolding Next.first_place Utf8.table Utf8.within Utf8.fits Utf8.whole Utf8.width_by Utf8.width Utf8.scan Utf8.first_ill_formed
first-places = refl
