-- Worked rows of the standard, by computation: for each departure its smallest source, read with all departures and
-- with all but that one; and rows of the
-- pure standard. A reading is a line of kind and place for each mark.
use Rattle.std.specs.Prelude.{ℕ, ◌≡◌, refl, not, List, [], ◌∷◌, ◌++◌, map, eqb}
use Prim.Native.String.{String}
use Rattle.syntax.specs.Bytes.{ascii}
use Rattle.syntax.specs.Listing.{lines, mark_line}
use Rattle.standard.specs.Dialect.{Dialect, standard, rust}
use Rattle.standard.specs.Grammar.{Resource}
use Rattle.syntax.specs.Bytes as ReadBytes
use Rattle.syntax.specs.Marks as ReadMarks
use Rattle.syntax.specs.Reader as ReadReader
use Rattle.syntax.specs.Helper as ReadHelper
use Rattle.syntax.specs.Comment as ReadComment
use Rattle.syntax.specs.Pattern as ReadPattern
use Rattle.syntax.specs.Expression as ReadExpression
use Rattle.syntax.specs.Core as ReadCore
use Rattle.syntax.specs.Decimal as ReadDecimal
use Rattle.syntax.specs.Listing as ReadListing
use Rattle.standard.specs.Dialect as Dialect
use Rattle.standard.specs.Peg as Peg
use Rattle.standard.specs.Abstract as Abstract
use Rattle.standard.specs.Lexical as Lexical
use Rattle.standard.specs.Grammar as Grammar

-- all departures but the i-th, in the order of the record
unfoldable pub but : ℕ → Dialect
but i = record {
  optional-commas = not (eqb i 0);
  named-reference = not (eqb i 1);
  named-no-minus = not (eqb i 2);
  blank-before-dot = not (eqb i 3);
  bare-star = not (eqb i 4);
  blank-line-spaces = not (eqb i 5);
  cr-continues = not (eqb i 6);
  escape-brace = not (eqb i 7);
  junk-swallows = not (eqb i 8);
  brace-indent = not (eqb i 9);
  texts-apart = not (eqb i 10);
  hash-at-end = not (eqb i 11);
  block-commits = not (eqb i 12);
  attribute-line-end = not (eqb i 13);
  trim-cr = not (eqb i 14);
  blank-at-end = not (eqb i 15);
}

-- a source, its reading with all departures, and with all but one
pub data Departure : Type 0 where
  departs : ℕ → String → String → String → Departure

abbrev pub departures : List Departure
departures =
    -- optional-commas
    departs
    0 "a={A(1a)}" "1 0\n9 0\n109 1\n11 0\n13 0\n22 0\n9 3\n109 4\n25 0\n20 5\n120 6\n23 0\n9 6\n109 7\n123 0\n125 0\n122 0\n113 0\n111 0\n101 0\n" "7 0\n107 9\n"
    -- named-reference
    ∷ departs
    1 "a={A(a:a)}" "1 0\n9 0\n109 1\n11 0\n13 0\n22 0\n9 3\n109 4\n25 0\n26 0\n9 5\n109 6\n23 0\n9 7\n109 8\n123 0\n126 0\n125 0\n122 0\n113 0\n111 0\n101 0\n" "7 0\n107 10\n"
    -- named-no-minus
    ∷ departs
    2 "a={A(b:-1)}" "7 0\n107 11\n" "1 0\n9 0\n109 1\n11 0\n13 0\n22 0\n9 3\n109 4\n25 0\n26 0\n9 5\n109 6\n20 7\n120 9\n126 0\n125 0\n122 0\n113 0\n111 0\n101 0\n"
    -- blank-before-dot
    ∷ departs 3 "a={b .c}" "1 0\n9 0\n109 1\n11 0\n13 0\n23 0\n9 3\n109 4\n9 6\n109 7\n123 0\n113 0\n111 0\n101 0\n" "7 0\n107 8\n"
    -- bare-star
    ∷ departs 4 "a={1->\n*}" "1 0\n9 0\n109 1\n11 0\n13 0\n14 0\n20 3\n120 4\n114 0\n113 0\n111 0\n101 0\n" "7 0\n107 9\n"
    -- blank-line-spaces
    ∷ departs
    5 "a=b\n  \n c" "1 0\n9 0\n109 1\n11 0\n12 2\n112 4\n12 5\n112 7\n12 8\n112 9\n111 0\n101 0\n" "1 0\n9 0\n109 1\n11 0\n12 2\n112 4\n12 6\n112 7\n12 8\n112 9\n111 0\n101 0\n"
    -- cr-continues
    ∷ departs 6 "a=\n\r" "1 0\n9 0\n109 1\n11 0\n12 3\n112 3\n111 0\n101 0\n" "7 0\n107 4\n"
    -- escape-brace
    ∷ departs 7 "a={\"\\{\"}" "1 0\n9 0\n109 1\n11 0\n13 0\n19 4\n119 6\n113 0\n111 0\n101 0\n" "7 0\n107 8\n"
    -- junk-swallows
    ∷ departs 8 "a={\na" "7 0\n107 5\n" "7 0\n107 4\n7 4\n107 5\n"
    -- brace-indent
    ∷ departs
    9 "a=\n x\n  {1}" "1 0\n9 0\n109 1\n11 0\n12 4\n112 6\n13 0\n20 9\n120 10\n113 0\n111 0\n101 0\n" "1 0\n9 0\n109 1\n11 0\n12 4\n112 6\n12 7\n112 8\n13 0\n20 9\n120 10\n113 0\n111 0\n101 0\n"
    -- texts-apart
    ∷ departs
    10 "a=b\n c" "1 0\n9 0\n109 1\n11 0\n12 2\n112 4\n12 5\n112 6\n111 0\n101 0\n" "1 0\n9 0\n109 1\n11 0\n12 2\n112 4\n27 5\n127 6\n111 0\n101 0\n"
    -- hash-at-end
    ∷ departs 11 "#" "3 0\n103 0\n" "3 0\n8 1\n108 1\n103 0\n"
    -- block-commits
    ∷ departs 12 "a=b\n{" "7 0\n107 5\n" "1 0\n9 0\n109 1\n11 0\n12 2\n112 3\n111 0\n101 0\n7 4\n107 5\n"
    -- attribute-line-end
    ∷ departs 13 "a=b\n.c=d}" "1 0\n9 0\n109 1\n11 0\n12 2\n112 3\n111 0\n101 0\n7 4\n107 9\n" "7 0\n107 9\n"
    -- trim-cr
    ∷ departs 14 "a=b\r" "1 0\n9 0\n109 1\n11 0\n12 2\n112 3\n111 0\n101 0\n" "1 0\n9 0\n109 1\n11 0\n12 2\n112 4\n111 0\n101 0\n"
    -- blank-at-end
    ∷ departs 15 " " "7 0\n107 1\n" ""
    ∷ []

-- a source and its reading by the standard
pub data Row : Type 0 where
  reads : String → String → Row

abbrev pub rows : List Row
rows =
    -- multiline values, the common indent off
    reads "a =\n    b\n      c\n    d\n" "1 0\n9 0\n109 1\n11 0\n12 8\n112 10\n27 14\n127 18\n27 22\n127 23\n111 0\n101 0\n"
    -- a blank line inside
    ∷ reads "a =\n    b\n\n    c\n" "1 0\n9 0\n109 1\n11 0\n12 8\n112 11\n27 15\n127 16\n111 0\n101 0\n"
    -- CRLF
    ∷ reads "a = b\r\n  c\r\n" "1 0\n9 0\n109 1\n11 0\n12 4\n112 5\n27 6\n127 7\n27 9\n127 10\n111 0\n101 0\n"
    -- a placeable keeps its indent
    ∷ reads "a =\n  b\n    {c}\n" "1 0\n9 0\n109 1\n11 0\n12 6\n112 8\n27 10\n127 12\n13 0\n23 0\n9 13\n109 14\n123 0\n113 0\n111 0\n101 0\n"
    -- a select
    ∷ reads "a = {$x ->\n    [one] b\n   *[other] c\n}\n" "1 0\n9 0\n109 1\n11 0\n13 0\n14 0\n21 0\n9 6\n109 7\n121 0\n15 0\n18 16\n118 19\n11 0\n12 21\n112 22\n111 0\n115 0\n16 0\n18 28\n118 33\n11 0\n12 35\n112 36\n111 0\n116 0\n114 0\n113 0\n111 0\n101 0\n"
    -- named arguments
    ∷ reads "a = {F(1, $x, n: \"s\", m: -1.5)}\n" "1 0\n9 0\n109 1\n11 0\n13 0\n22 0\n9 5\n109 6\n25 0\n20 7\n120 8\n21 0\n9 11\n109 12\n121 0\n26 0\n9 14\n109 15\n19 18\n119 19\n126 0\n26 0\n9 22\n109 23\n20 25\n120 29\n126 0\n125 0\n122 0\n113 0\n111 0\n101 0\n"
    -- a missing comma
    ∷ reads "a = {F(1 2)}\n" "7 0\n107 13\n"
    -- escapes
    ∷ reads "a = {\"\\u00e9 \\\\ \\\"\"}\n" "1 0\n9 0\n109 1\n11 0\n13 0\n19 6\n119 18\n113 0\n111 0\n101 0\n"
    -- \{ is none
    ∷ reads "a = {\"\\{\"}\n" "7 0\n107 11\n"
    -- comments of one level are one, and attach
    ∷ reads "# b\n# c\na = d\n" "6 0\n8 2\n108 3\n8 6\n108 7\n106 0\n1 0\n9 8\n109 9\n11 0\n12 12\n112 13\n111 0\n101 0\n"
    -- group and resource comments do not
    ∷ reads "## b\na = c\n### d\n" "4 0\n8 3\n108 4\n104 0\n1 0\n9 5\n109 6\n11 0\n12 9\n112 10\n111 0\n101 0\n5 0\n8 15\n108 16\n105 0\n"
    -- a comment after a blank line is free
    ∷ reads "# b\n\na = c\n" "3 0\n8 2\n108 3\n103 0\n1 0\n9 5\n109 6\n11 0\n12 9\n112 10\n111 0\n101 0\n"
    -- junk to the next entry
    ∷ reads "a = {\n  b\nc = d\n" "7 0\n107 10\n1 0\n9 10\n109 11\n11 0\n12 14\n112 15\n111 0\n101 0\n"
    -- attributes
    ∷ reads "a = b\n    .c = d\n    .e =\n        f\n" "1 0\n9 0\n109 1\n11 0\n12 4\n112 5\n111 0\n10 0\n9 11\n109 12\n11 0\n12 15\n112 16\n111 0\n110 0\n10 0\n9 22\n109 23\n11 0\n12 34\n112 35\n111 0\n110 0\n101 0\n"
    -- a term and its attribute as a selector
    ∷ reads "-t = b\n    .c = d\na = {-t.c ->\n   *[x] y\n}\n" "2 0\n9 1\n109 2\n11 0\n12 5\n112 6\n111 0\n10 0\n9 12\n109 13\n11 0\n12 16\n112 17\n111 0\n110 0\n102 0\n1 0\n9 18\n109 19\n11 0\n13 0\n14 0\n24 0\n9 24\n109 25\n9 26\n109 27\n124 0\n16 0\n18 36\n118 37\n11 0\n12 39\n112 40\n111 0\n116 0\n114 0\n113 0\n111 0\n101 0\n"
    -- spaces at the end
    ∷ reads "a = b  \n  " "1 0\n9 0\n109 1\n11 0\n12 4\n112 5\n111 0\n101 0\n"
    ∷ []

unfoldable pub reading : Dialect → String → List ℕ
reading d s = lines (map mark_line (Resource d (ascii s)))

unfoldable pub both : Departure → List ℕ
both (departs i s on off) = reading rust s ++ (0 ∷ reading (but i) s)

unfoldable pub expected : Departure → List ℕ
expected (departs i s on off) = ascii on ++ (0 ∷ ascii off)

unfoldable pub pure : Row → List ℕ
pure (reads s ms) = reading standard s

unfoldable pub given : Row → List ℕ
given (reads s ms) = ascii ms

pub departures-hold : map both departures ≡ map expected departures
unfolding but reading both expected ReadBytes.starts_with ReadBytes.starts ReadBytes.second ReadBytes.is_upper
    ReadBytes.is_letter ReadBytes.is_digit ReadBytes.is_name_part ReadBytes.is_hex ReadBytes.is_callee_part ReadBytes.run
    ReadBytes.all ReadBytes.eol ReadBytes.spaces ReadBytes.first_width ReadBytes.line_run ReadMarks.move_up ReadMarks.node
    ReadMarks.text_node ReadReader.after ReadReader.next ReadReader.◌>>=◌ ReadReader.◌>>◌ ReadReader.pure ReadReader.fail
    ReadReader.wrap ReadReader.in_node ReadReader.turn_of ReadReader.loop ReadReader.repeat ReadHelper.skip_blank_inline
    ReadHelper.skip_eol ReadHelper.blank_turn ReadHelper.skip_blank ReadHelper.block_turn ReadHelper.skip_blank_block
    ReadHelper.take_byte_if ReadHelper.expect_byte ReadHelper.skip_digits ReadHelper.fraction ReadHelper.number
    ReadHelper.as_text ReadHelper.get_number_literal ReadHelper.get_identifier ReadHelper.skip_unicode_escape_sequence
    ReadComment.line_length ReadComment.level_of ReadComment.line_end_used ReadComment.line_read ReadComment.line_turn
    ReadComment.comment_turn ReadComment.get_comment ReadPattern.is_text_byte ReadPattern.is_blank ReadPattern.ends_in_cr
    ReadPattern.line_slice ReadPattern.slice_by ReadPattern.get_text_slice ReadPattern.is_line_start ReadPattern.role_after
    ReadPattern.is_line_feed ReadPattern.least_indent ReadPattern.is_continuation ReadPattern.with_placeable
    ReadPattern.common_after ReadPattern.is_element ReadPattern.with_text ReadPattern.goes_on ReadPattern.line_turn
    ReadPattern.text_turn ReadPattern.pattern_turn ReadPattern.trimmed ReadPattern.dedented ReadPattern.text_marks
    ReadPattern.element_marks ReadPattern.finish ReadPattern.state_at ReadPattern.used_by ReadPattern.first_state
    ReadPattern.get_pattern ReadExpression.inline_kind ReadExpression.as_inline ReadExpression.escape_turn
    ReadExpression.string_turn ReadExpression.string_literal ReadExpression.as_string ReadExpression.number_literal
    ReadExpression.call_arguments ReadExpression.get_call_arguments ReadExpression.get_attribute_accessor
    ReadExpression.term_reference ReadExpression.variable_reference ReadExpression.message_reference
    ReadExpression.function_reference ReadExpression.reference_by ReadExpression.reference ReadExpression.nested_placeable
    ReadExpression.no_inline ReadExpression.non_literal ReadExpression.get_inline_expression ReadExpression.same_bytes
    ReadExpression.is_among ReadExpression.is_none ReadExpression.separator ReadExpression.positional
    ReadExpression.named_value ReadExpression.named_argument ReadExpression.after_reference ReadExpression.past_blank
    ReadExpression.argument_by ReadExpression.argument_turn ReadExpression.parenthesised ReadExpression.key_text
    ReadExpression.get_variant_key ReadExpression.needs_value ReadExpression.variant ReadExpression.variant_kind
    ReadExpression.end_variants ReadExpression.variant_with ReadExpression.after_star ReadExpression.turn_after
    ReadExpression.variant_turn ReadExpression.get_variants ReadExpression.selector ReadExpression.is_term_attribute
    ReadExpression.no_term_attribute ReadExpression.alone
    ReadExpression.needs_line_end ReadExpression.select_from ReadExpression.after_inline ReadExpression.in_select
    ReadExpression.inline_or_select ReadExpression.get_expression ReadExpression.braced ReadExpression.too_deep
    ReadExpression.level ReadCore.get_attribute ReadCore.attribute_by ReadCore.attribute_turn ReadCore.get_attributes
    ReadCore.fields ReadCore.term_fields ReadCore.as_message ReadCore.as_term ReadCore.as_comment ReadCore.get_entry
    ReadCore.to_next_entry ReadCore.line_starts_at ReadCore.junk_end ReadCore.up_error ReadCore.following ReadCore.is_named
    ReadCore.count ReadCore.kind_of_entry ReadCore.entries ReadCore.parse ReadDecimal.digits ReadDecimal.decimal
    ReadListing.line ReadListing.lines ReadListing.mark_line Dialect.all Dialect.standard Dialect.rust Peg.pure Peg.never
    Peg.after Peg.next Peg.◌>>=◌ Peg.◌>>◌ Peg.◌//◌ Peg.opt Peg.with_first Peg.turns Peg.many Peg.some Peg.times
    Peg.list_turns Peg.list_of Peg.ahead Peg.bar Peg.◌but◌ Peg.one Peg.byte Peg.eof Peg.void Peg.sized Peg.in-node
    Peg.as-text Peg.only Peg.given Peg.pick Peg.share Peg.shared Abstract.empty-line Abstract.A1 Abstract.level_of
    Abstract.beside Abstract.A2 Abstract.is_named Abstract.named_first Abstract.part_marks Abstract.A3 Abstract.least
    Abstract.common Abstract.cut Abstract.dedented Abstract.A5 Abstract.width Abstract.pieces Abstract.pieces_from
    Abstract.all_pieces Abstract.touches Abstract.onto Abstract.A6 Abstract.is_space Abstract.is_trimmed Abstract.trimmed
    Abstract.bytes_of Abstract.trim_span Abstract.trim_spans Abstract.only_spaces Abstract.trim_text Abstract.trim_last
    Abstract.A7 Abstract.further_marks Abstract.element_marks Abstract.pattern_node Abstract.A8 Abstract.same
    Abstract.fresh_in Abstract.A9 Abstract.A10 Abstract.A11 Lexical.line-end Lexical.blank-inline Lexical.blank-line
    Lexical.blank-block Lexical.blank Lexical.blank-inline? Lexical.blank? Lexical.digits Lexical.any-char
    Lexical.special-quoted-char Lexical.unicode-escape Lexical.special-text-char Lexical.text-char Lexical.indented-char
    Lexical.comment-char Lexical.Identifier Lexical.unsigned Lexical.NumberLiteral Lexical.UnsignedLiteral
    Lexical.VariantKey Lexical.AttributeAccessor Lexical.VariableReference Lexical.inline-text Lexical.indented-text
    Lexical.cr-text Lexical.block-brace Lexical.sigil Lexical.junk-line Lexical.entry-start Lexical.junk-lines
    Grammar.raw_placeable Grammar.flat Grammar.in_pattern Grammar.as_part Grammar.part Grammar.tree_of
    Grammar.special-escape Grammar.quoted-char Grammar.StringLiteral Grammar.MessageReference Grammar.block-text
    Grammar.FunctionReference Grammar.TermReference Grammar.InlineExpression Grammar.literal Grammar.NamedArgument
    Grammar.Argument Grammar.separator Grammar.argument-list Grammar.CallArguments Grammar.raw-placeable
    Grammar.block-placeable Grammar.PatternElement Grammar.dedented-pattern Grammar.Pattern Grammar.Variant
    Grammar.DefaultVariant Grammar.variants Grammar.bare-variants Grammar.variant-list Grammar.SelectExpression
    Grammar.expression Grammar.inline-placeable Grammar.Attribute Grammar.Term Grammar.Message Grammar.nesting
    Grammar.CommentLine Grammar.swallowing-junk Grammar.Junk Grammar.entry-end Grammar.Entry Grammar.blank-lines
    Grammar.piece Grammar.ResourceWithin Grammar.Resource
departures-hold = refl

pub rows-hold : map pure rows ≡ map given rows
unfolding reading pure given ReadBytes.starts_with ReadBytes.starts ReadBytes.second ReadBytes.is_upper ReadBytes.is_letter
    ReadBytes.is_digit ReadBytes.is_name_part ReadBytes.is_hex ReadBytes.is_callee_part ReadBytes.run ReadBytes.all
    ReadBytes.eol ReadBytes.spaces ReadBytes.first_width ReadBytes.line_run ReadMarks.move_up ReadMarks.node
    ReadMarks.text_node ReadReader.after ReadReader.next ReadReader.◌>>=◌ ReadReader.◌>>◌ ReadReader.pure ReadReader.fail
    ReadReader.wrap ReadReader.in_node ReadReader.turn_of ReadReader.loop ReadReader.repeat ReadHelper.skip_blank_inline
    ReadHelper.skip_eol ReadHelper.blank_turn ReadHelper.skip_blank ReadHelper.block_turn ReadHelper.skip_blank_block
    ReadHelper.take_byte_if ReadHelper.expect_byte ReadHelper.skip_digits ReadHelper.fraction ReadHelper.number
    ReadHelper.as_text ReadHelper.get_number_literal ReadHelper.get_identifier ReadHelper.skip_unicode_escape_sequence
    ReadComment.line_length ReadComment.level_of ReadComment.line_end_used ReadComment.line_read ReadComment.line_turn
    ReadComment.comment_turn ReadComment.get_comment ReadPattern.is_text_byte ReadPattern.is_blank ReadPattern.ends_in_cr
    ReadPattern.line_slice ReadPattern.slice_by ReadPattern.get_text_slice ReadPattern.is_line_start ReadPattern.role_after
    ReadPattern.is_line_feed ReadPattern.least_indent ReadPattern.is_continuation ReadPattern.with_placeable
    ReadPattern.common_after ReadPattern.is_element ReadPattern.with_text ReadPattern.goes_on ReadPattern.line_turn
    ReadPattern.text_turn ReadPattern.pattern_turn ReadPattern.trimmed ReadPattern.dedented ReadPattern.text_marks
    ReadPattern.element_marks ReadPattern.finish ReadPattern.state_at ReadPattern.used_by ReadPattern.first_state
    ReadPattern.get_pattern ReadExpression.inline_kind ReadExpression.as_inline ReadExpression.escape_turn
    ReadExpression.string_turn ReadExpression.string_literal ReadExpression.as_string ReadExpression.number_literal
    ReadExpression.call_arguments ReadExpression.get_call_arguments ReadExpression.get_attribute_accessor
    ReadExpression.term_reference ReadExpression.variable_reference ReadExpression.message_reference
    ReadExpression.function_reference ReadExpression.reference_by ReadExpression.reference ReadExpression.nested_placeable
    ReadExpression.no_inline ReadExpression.non_literal ReadExpression.get_inline_expression ReadExpression.same_bytes
    ReadExpression.is_among ReadExpression.is_none ReadExpression.separator ReadExpression.positional
    ReadExpression.named_value ReadExpression.named_argument ReadExpression.after_reference ReadExpression.past_blank
    ReadExpression.argument_by ReadExpression.argument_turn ReadExpression.parenthesised ReadExpression.key_text
    ReadExpression.get_variant_key ReadExpression.needs_value ReadExpression.variant ReadExpression.variant_kind
    ReadExpression.end_variants ReadExpression.variant_with ReadExpression.after_star ReadExpression.turn_after
    ReadExpression.variant_turn ReadExpression.get_variants ReadExpression.selector ReadExpression.is_term_attribute
    ReadExpression.no_term_attribute ReadExpression.alone
    ReadExpression.needs_line_end ReadExpression.select_from ReadExpression.after_inline ReadExpression.in_select
    ReadExpression.inline_or_select ReadExpression.get_expression ReadExpression.braced ReadExpression.too_deep
    ReadExpression.level ReadCore.get_attribute ReadCore.attribute_by ReadCore.attribute_turn ReadCore.get_attributes
    ReadCore.fields ReadCore.term_fields ReadCore.as_message ReadCore.as_term ReadCore.as_comment ReadCore.get_entry
    ReadCore.to_next_entry ReadCore.line_starts_at ReadCore.junk_end ReadCore.up_error ReadCore.following ReadCore.is_named
    ReadCore.count ReadCore.kind_of_entry ReadCore.entries ReadCore.parse ReadDecimal.digits ReadDecimal.decimal
    ReadListing.line ReadListing.lines ReadListing.mark_line Dialect.all Dialect.standard Dialect.rust Peg.pure Peg.never
    Peg.after Peg.next Peg.◌>>=◌ Peg.◌>>◌ Peg.◌//◌ Peg.opt Peg.with_first Peg.turns Peg.many Peg.some Peg.times
    Peg.list_turns Peg.list_of Peg.ahead Peg.bar Peg.◌but◌ Peg.one Peg.byte Peg.eof Peg.void Peg.sized Peg.in-node
    Peg.as-text Peg.only Peg.given Peg.pick Peg.share Peg.shared Abstract.empty-line Abstract.A1 Abstract.level_of
    Abstract.beside Abstract.A2 Abstract.is_named Abstract.named_first Abstract.part_marks Abstract.A3 Abstract.least
    Abstract.common Abstract.cut Abstract.dedented Abstract.A5 Abstract.width Abstract.pieces Abstract.pieces_from
    Abstract.all_pieces Abstract.touches Abstract.onto Abstract.A6 Abstract.is_space Abstract.is_trimmed Abstract.trimmed
    Abstract.bytes_of Abstract.trim_span Abstract.trim_spans Abstract.only_spaces Abstract.trim_text Abstract.trim_last
    Abstract.A7 Abstract.further_marks Abstract.element_marks Abstract.pattern_node Abstract.A8 Abstract.same
    Abstract.fresh_in Abstract.A9 Abstract.A10 Abstract.A11 Lexical.line-end Lexical.blank-inline Lexical.blank-line
    Lexical.blank-block Lexical.blank Lexical.blank-inline? Lexical.blank? Lexical.digits Lexical.any-char
    Lexical.special-quoted-char Lexical.unicode-escape Lexical.special-text-char Lexical.text-char Lexical.indented-char
    Lexical.comment-char Lexical.Identifier Lexical.unsigned Lexical.NumberLiteral Lexical.UnsignedLiteral
    Lexical.VariantKey Lexical.AttributeAccessor Lexical.VariableReference Lexical.inline-text Lexical.indented-text
    Lexical.cr-text Lexical.block-brace Lexical.sigil Lexical.junk-line Lexical.entry-start Lexical.junk-lines
    Grammar.raw_placeable Grammar.flat Grammar.in_pattern Grammar.as_part Grammar.part Grammar.tree_of
    Grammar.special-escape Grammar.quoted-char Grammar.StringLiteral Grammar.MessageReference Grammar.block-text
    Grammar.FunctionReference Grammar.TermReference Grammar.InlineExpression Grammar.literal Grammar.NamedArgument
    Grammar.Argument Grammar.separator Grammar.argument-list Grammar.CallArguments Grammar.raw-placeable
    Grammar.block-placeable Grammar.PatternElement Grammar.dedented-pattern Grammar.Pattern Grammar.Variant
    Grammar.DefaultVariant Grammar.variants Grammar.bare-variants Grammar.variant-list Grammar.SelectExpression
    Grammar.expression Grammar.inline-placeable Grammar.Attribute Grammar.Term Grammar.Message Grammar.nesting
    Grammar.CommentLine Grammar.swallowing-junk Grammar.Junk Grammar.entry-end Grammar.Entry Grammar.blank-lines
    Grammar.piece Grammar.ResourceWithin Grammar.Resource
rows-hold = refl
