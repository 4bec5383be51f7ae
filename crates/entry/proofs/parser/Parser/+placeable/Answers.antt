-- The answers, a file for each function.
mod GetArgument
mod GetArguments
mod GetCallArguments
mod GetExpression
mod GetInlineExpression
mod GetPattern
mod GetPlaceable
mod GetReference
mod GetTermReference
mod GetValue
mod GetVariant
mod GetVariants
use Rattle.entry.proofs.parser.Parser.+placeable.Goals as goal

pub get_argument-get_inline_expression-requires : goal.get_argument-get_inline_expression-requires
get_argument-get_inline_expression-requires t c = GetArgument.get_argument-get_inline_expression-requires t c

pub get_argument-returns-in_err-exp-clause-reads : goal.get_argument-returns-in_err-exp-clause-reads
get_argument-returns-in_err-exp-clause-reads t c = GetArgument.get_argument-returns-in_err-exp-clause-reads t c

pub get_argument-returns-in_default-clause-reads : goal.get_argument-returns-in_default-clause-reads
get_argument-returns-in_default-clause-reads t c = GetArgument.get_argument-returns-in_default-clause-reads t c

pub get_argument-slice_bounds-is_named_before-end : goal.get_argument-slice_bounds-is_named_before-end
get_argument-slice_bounds-is_named_before-end t c = GetArgument.get_argument-slice_bounds-is_named_before-end t c

pub get_argument-is_named_before-requires : goal.get_argument-is_named_before-requires
get_argument-is_named_before-requires t c = GetArgument.get_argument-is_named_before-requires t c

pub get_argument-returns-then-is_named_before-clause-reads : goal.get_argument-returns-then-is_named_before-clause-reads
get_argument-returns-then-is_named_before-clause-reads t c = GetArgument.get_argument-returns-then-is_named_before-clause-reads t c

pub get_argument-open-requires : goal.get_argument-open-requires
get_argument-open-requires t c = GetArgument.get_argument-open-requires t c

pub get_argument-text-requires-clause-room : goal.get_argument-text-requires-clause-room
get_argument-text-requires-clause-room t c = GetArgument.get_argument-text-requires-clause-room t c

pub get_argument-invariant_of-self-3 : goal.get_argument-invariant_of-self-3
get_argument-invariant_of-self-3 t c = GetArgument.get_argument-invariant_of-self-3 t c

pub get_argument-get_inline_expression-requires-2 : goal.get_argument-get_inline_expression-requires-2
get_argument-get_inline_expression-requires-2 t c = GetArgument.get_argument-get_inline_expression-requires-2 t c

pub get_argument-returns-in_err-get_inline_expression-clause-reads : goal.get_argument-returns-in_err-get_inline_expression-clause-reads
get_argument-returns-in_err-get_inline_expression-clause-reads t c = GetArgument.get_argument-returns-in_err-get_inline_expression-clause-reads t c

pub get_argument-close-requires : goal.get_argument-close-requires
get_argument-close-requires t c = GetArgument.get_argument-close-requires t c

pub get_argument-invariant_of-self-5 : goal.get_argument-invariant_of-self-5
get_argument-invariant_of-self-5 t c = GetArgument.get_argument-invariant_of-self-5 t c

pub get_argument-returns-clause-reads : goal.get_argument-returns-clause-reads
get_argument-returns-clause-reads t c = GetArgument.get_argument-returns-clause-reads t c

pub get_arguments-loop-self-init : goal.get_arguments-loop-self-init
get_arguments-loop-self-init t c = GetArguments.get_arguments-loop-self-init t c

pub get_arguments-get_argument-requires : goal.get_arguments-get_argument-requires
get_arguments-get_argument-requires t c = GetArguments.get_arguments-get_argument-requires t c

pub get_arguments-returns-in_err-get_argument-clause-reads : goal.get_arguments-returns-in_err-get_argument-clause-reads
get_arguments-returns-in_err-get_argument-clause-reads t c = GetArguments.get_arguments-returns-in_err-get_argument-clause-reads t c

pub get_arguments-loop-self-smaller-in-Positional : goal.get_arguments-loop-self-smaller-in-Positional
get_arguments-loop-self-smaller-in-Positional t c = GetArguments.get_arguments-loop-self-smaller-in-Positional t c

pub get_arguments-loop-self-preserved-in-Positional : goal.get_arguments-loop-self-preserved-in-Positional
get_arguments-loop-self-preserved-in-Positional t c = GetArguments.get_arguments-loop-self-preserved-in-Positional t c

pub get_arguments-loop-self-smaller : goal.get_arguments-loop-self-smaller
get_arguments-loop-self-smaller t c = GetArguments.get_arguments-loop-self-smaller t c

pub get_arguments-loop-self-preserved : goal.get_arguments-loop-self-preserved
get_arguments-loop-self-preserved t c = GetArguments.get_arguments-loop-self-preserved t c

pub get_arguments-returns-clause-reads : goal.get_arguments-returns-clause-reads
get_arguments-returns-clause-reads t c = GetArguments.get_arguments-returns-clause-reads t c

pub get_call_arguments-returns-then-not-is_current_byte-clause-reads : goal.get_call_arguments-returns-then-not-is_current_byte-clause-reads
get_call_arguments-returns-then-not-is_current_byte-clause-reads t c = GetCallArguments.get_call_arguments-returns-then-not-is_current_byte-clause-reads t c

pub get_call_arguments-returns-then-left-eq0-clause-reads : goal.get_call_arguments-returns-then-left-eq0-clause-reads
get_call_arguments-returns-then-left-eq0-clause-reads t c = GetCallArguments.get_call_arguments-returns-then-left-eq0-clause-reads t c

pub get_call_arguments-get_arguments-requires : goal.get_call_arguments-get_arguments-requires
get_call_arguments-get_arguments-requires t c = GetCallArguments.get_call_arguments-get_arguments-requires t c

pub get_call_arguments-returns-in_err-get_arguments-clause-reads : goal.get_call_arguments-returns-in_err-get_arguments-clause-reads
get_call_arguments-returns-in_err-get_arguments-clause-reads t c = GetCallArguments.get_call_arguments-returns-in_err-get_arguments-clause-reads t c

pub get_call_arguments-returns-in_err-expect_byte-clause-reads : goal.get_call_arguments-returns-in_err-expect_byte-clause-reads
get_call_arguments-returns-in_err-expect_byte-clause-reads t c = GetCallArguments.get_call_arguments-returns-in_err-expect_byte-clause-reads t c

pub get_call_arguments-close-requires : goal.get_call_arguments-close-requires
get_call_arguments-close-requires t c = GetCallArguments.get_call_arguments-close-requires t c

pub get_call_arguments-returns-clause-reads : goal.get_call_arguments-returns-clause-reads
get_call_arguments-returns-clause-reads t c = GetCallArguments.get_call_arguments-returns-clause-reads t c

pub get_expression-get_inline_expression-requires : goal.get_expression-get_inline_expression-requires
get_expression-get_inline_expression-requires t c = GetExpression.get_expression-get_inline_expression-requires t c

pub get_expression-returns-in_err-exp-clause-reads : goal.get_expression-returns-in_err-exp-clause-reads
get_expression-returns-in_err-exp-clause-reads t c = GetExpression.get_expression-returns-in_err-exp-clause-reads t c

pub get_expression-returns-in_err-after_inline-clause-reads : goal.get_expression-returns-in_err-after_inline-clause-reads
get_expression-returns-in_err-after_inline-clause-reads t c = GetExpression.get_expression-returns-in_err-after_inline-clause-reads t c

pub get_expression-returns-then-not-branch-clause-reads : goal.get_expression-returns-then-not-branch-clause-reads
get_expression-returns-then-not-branch-clause-reads t c = GetExpression.get_expression-returns-then-not-branch-clause-reads t c

pub get_expression-insert-requires-clause-room : goal.get_expression-insert-requires-clause-room
get_expression-insert-requires-clause-room t c = GetExpression.get_expression-insert-requires-clause-room t c

pub get_expression-get_variants-requires : goal.get_expression-get_variants-requires
get_expression-get_variants-requires t c = GetExpression.get_expression-get_variants-requires t c

pub get_expression-returns-in_err-get_variants-clause-reads : goal.get_expression-returns-in_err-get_variants-clause-reads
get_expression-returns-in_err-get_variants-clause-reads t c = GetExpression.get_expression-returns-in_err-get_variants-clause-reads t c

pub get_expression-close-requires : goal.get_expression-close-requires
get_expression-close-requires t c = GetExpression.get_expression-close-requires t c

pub get_expression-returns-clause-reads : goal.get_expression-returns-clause-reads
get_expression-returns-clause-reads t c = GetExpression.get_expression-returns-clause-reads t c

pub get_inline_expression-returns-in_err-inline_start-clause-reads : goal.get_inline_expression-returns-in_err-inline_start-clause-reads
get_inline_expression-returns-in_err-inline_start-clause-reads t c = GetInlineExpression.get_inline_expression-returns-in_err-inline_start-clause-reads t c

pub get_inline_expression-get_number_literal-requires : goal.get_inline_expression-get_number_literal-requires
get_inline_expression-get_number_literal-requires t c = GetInlineExpression.get_inline_expression-get_number_literal-requires t c

pub get_inline_expression-returns-in_err-get_number_literal-in-Number-clause-reads : goal.get_inline_expression-returns-in_err-get_number_literal-in-Number-clause-reads
get_inline_expression-returns-in_err-get_number_literal-in-Number-clause-reads t c = GetInlineExpression.get_inline_expression-returns-in_err-get_number_literal-in-Number-clause-reads t c

pub get_inline_expression-get_reference-requires : goal.get_inline_expression-get_reference-requires
get_inline_expression-get_reference-requires t c = GetInlineExpression.get_inline_expression-get_reference-requires t c

pub get_inline_expression-get_term_reference-requires : goal.get_inline_expression-get_term_reference-requires
get_inline_expression-get_term_reference-requires t c = GetInlineExpression.get_inline_expression-get_term_reference-requires t c

pub get_inline_expression-get_variable_reference-requires-clause-begins : goal.get_inline_expression-get_variable_reference-requires-clause-begins
get_inline_expression-get_variable_reference-requires-clause-begins t c = GetInlineExpression.get_inline_expression-get_variable_reference-requires-clause-begins t c

pub get_inline_expression-open-requires : goal.get_inline_expression-open-requires
get_inline_expression-open-requires t c = GetInlineExpression.get_inline_expression-open-requires t c

pub get_inline_expression-get_placeable-requires : goal.get_inline_expression-get_placeable-requires
get_inline_expression-get_placeable-requires t c = GetInlineExpression.get_inline_expression-get_placeable-requires t c

pub get_inline_expression-returns-in_err-get_placeable-in-Placeable-clause-reads : goal.get_inline_expression-returns-in_err-get_placeable-in-Placeable-clause-reads
get_inline_expression-returns-in_err-get_placeable-in-Placeable-clause-reads t c = GetInlineExpression.get_inline_expression-returns-in_err-get_placeable-in-Placeable-clause-reads t c

pub get_inline_expression-close-requires : goal.get_inline_expression-close-requires
get_inline_expression-close-requires t c = GetInlineExpression.get_inline_expression-close-requires t c

pub get_inline_expression-returns-in-String-clause-reads : goal.get_inline_expression-returns-in-String-clause-reads
get_inline_expression-returns-in-String-clause-reads t c = GetInlineExpression.get_inline_expression-returns-in-String-clause-reads t c

pub get_inline_expression-returns-in_ok-get_number_literal-in-Number-clause-reads : goal.get_inline_expression-returns-in_ok-get_number_literal-in-Number-clause-reads
get_inline_expression-returns-in_ok-get_number_literal-in-Number-clause-reads t c = GetInlineExpression.get_inline_expression-returns-in_ok-get_number_literal-in-Number-clause-reads t c

pub get_inline_expression-returns-in-Reference-clause-reads : goal.get_inline_expression-returns-in-Reference-clause-reads
get_inline_expression-returns-in-Reference-clause-reads t c = GetInlineExpression.get_inline_expression-returns-in-Reference-clause-reads t c

pub get_inline_expression-returns-in-Term-clause-reads : goal.get_inline_expression-returns-in-Term-clause-reads
get_inline_expression-returns-in-Term-clause-reads t c = GetInlineExpression.get_inline_expression-returns-in-Term-clause-reads t c

pub get_inline_expression-returns-in-Variable-clause-reads : goal.get_inline_expression-returns-in-Variable-clause-reads
get_inline_expression-returns-in-Variable-clause-reads t c = GetInlineExpression.get_inline_expression-returns-in-Variable-clause-reads t c

pub get_inline_expression-returns-in_ok-get_placeable-in-Placeable-clause-reads : goal.get_inline_expression-returns-in_ok-get_placeable-in-Placeable-clause-reads
get_inline_expression-returns-in_ok-get_placeable-in-Placeable-clause-reads t c = GetInlineExpression.get_inline_expression-returns-in_ok-get_placeable-in-Placeable-clause-reads t c

pub get_pattern-loop-self-init : goal.get_pattern-loop-self-init
get_pattern-loop-self-init t c = GetPattern.get_pattern-loop-self-init t c

pub get_pattern-open-requires-then-is_current_byte : goal.get_pattern-open-requires-then-is_current_byte
get_pattern-open-requires-then-is_current_byte t c = GetPattern.get_pattern-open-requires-then-is_current_byte t c

pub get_pattern-get_placeable-requires : goal.get_pattern-get_placeable-requires
get_pattern-get_placeable-requires t c = GetPattern.get_pattern-get_placeable-requires t c

pub get_pattern-returns-in_err-get_placeable-clause-reads : goal.get_pattern-returns-in_err-get_placeable-clause-reads
get_pattern-returns-in_err-get_placeable-clause-reads t c = GetPattern.get_pattern-returns-in_err-get_placeable-clause-reads t c

pub get_pattern-close-requires : goal.get_pattern-close-requires
get_pattern-close-requires t c = GetPattern.get_pattern-close-requires t c

pub get_pattern-loop-self-smaller-then-is_current_byte : goal.get_pattern-loop-self-smaller-then-is_current_byte
get_pattern-loop-self-smaller-then-is_current_byte t c = GetPattern.get_pattern-loop-self-smaller-then-is_current_byte t c

pub get_pattern-loop-self-preserved-then-is_current_byte : goal.get_pattern-loop-self-preserved-then-is_current_byte
get_pattern-loop-self-preserved-then-is_current_byte t c = GetPattern.get_pattern-loop-self-preserved-then-is_current_byte t c

pub get_pattern-text_turn-requires : goal.get_pattern-text_turn-requires
get_pattern-text_turn-requires t c = GetPattern.get_pattern-text_turn-requires t c

pub get_pattern-returns-in_err-next-clause-reads : goal.get_pattern-returns-in_err-next-clause-reads
get_pattern-returns-in_err-next-clause-reads t c = GetPattern.get_pattern-returns-in_err-next-clause-reads t c

pub get_pattern-loop-self-smaller : goal.get_pattern-loop-self-smaller
get_pattern-loop-self-smaller t c = GetPattern.get_pattern-loop-self-smaller t c

pub get_pattern-loop-self-preserved : goal.get_pattern-loop-self-preserved
get_pattern-loop-self-preserved t c = GetPattern.get_pattern-loop-self-preserved t c

pub get_pattern-end_pattern-requires : goal.get_pattern-end_pattern-requires
get_pattern-end_pattern-requires t c = GetPattern.get_pattern-end_pattern-requires t c

pub get_pattern-returns-clause-reads : goal.get_pattern-returns-clause-reads
get_pattern-returns-clause-reads t c = GetPattern.get_pattern-returns-clause-reads t c

pub get_placeable-returns-then-left-eq0-clause-reads : goal.get_placeable-returns-then-left-eq0-clause-reads
get_placeable-returns-then-left-eq0-clause-reads t c = GetPlaceable.get_placeable-returns-then-left-eq0-clause-reads t c

pub get_placeable-invariant_of-self : goal.get_placeable-invariant_of-self
get_placeable-invariant_of-self t c = GetPlaceable.get_placeable-invariant_of-self t c

pub get_placeable-get_expression-requires : goal.get_placeable-get_expression-requires
get_placeable-get_expression-requires t c = GetPlaceable.get_placeable-get_expression-requires t c

pub get_placeable-returns-in_err-exp-clause-reads : goal.get_placeable-returns-in_err-exp-clause-reads
get_placeable-returns-in_err-exp-clause-reads t c = GetPlaceable.get_placeable-returns-in_err-exp-clause-reads t c

pub get_placeable-returns-clause-reads : goal.get_placeable-returns-clause-reads
get_placeable-returns-clause-reads t c = GetPlaceable.get_placeable-returns-clause-reads t c

pub get_reference-returns-then-not-is_current_byte-clause-reads : goal.get_reference-returns-then-not-is_current_byte-clause-reads
get_reference-returns-then-not-is_current_byte-clause-reads t c = GetReference.get_reference-returns-then-not-is_current_byte-clause-reads t c

pub get_reference-get_call_arguments-requires : goal.get_reference-get_call_arguments-requires
get_reference-get_call_arguments-requires t c = GetReference.get_reference-get_call_arguments-requires t c

pub get_reference-returns-in_err-get_call_arguments-clause-reads : goal.get_reference-returns-in_err-get_call_arguments-clause-reads
get_reference-returns-in_err-get_call_arguments-clause-reads t c = GetReference.get_reference-returns-in_err-get_call_arguments-clause-reads t c

pub get_reference-returns-in_err-check_callee-clause-reads : goal.get_reference-returns-in_err-check_callee-clause-reads
get_reference-returns-in_err-check_callee-clause-reads t c = GetReference.get_reference-returns-in_err-check_callee-clause-reads t c

pub get_reference-close-requires : goal.get_reference-close-requires
get_reference-close-requires t c = GetReference.get_reference-close-requires t c

pub get_reference-returns-clause-reads : goal.get_reference-returns-clause-reads
get_reference-returns-clause-reads t c = GetReference.get_reference-returns-clause-reads t c

pub get_term_reference-open-requires : goal.get_term_reference-open-requires
get_term_reference-open-requires t c = GetTermReference.get_term_reference-open-requires t c

pub get_term_reference-invariant_of-self : goal.get_term_reference-invariant_of-self
get_term_reference-invariant_of-self t c = GetTermReference.get_term_reference-invariant_of-self t c

pub get_term_reference-returns-in_err-get_identifier-clause-reads : goal.get_term_reference-returns-in_err-get_identifier-clause-reads
get_term_reference-returns-in_err-get_identifier-clause-reads t c = GetTermReference.get_term_reference-returns-in_err-get_identifier-clause-reads t c

pub get_term_reference-get_attribute_accessor-requires : goal.get_term_reference-get_attribute_accessor-requires
get_term_reference-get_attribute_accessor-requires t c = GetTermReference.get_term_reference-get_attribute_accessor-requires t c

pub get_term_reference-returns-in_err-attribute-clause-reads : goal.get_term_reference-returns-in_err-attribute-clause-reads
get_term_reference-returns-in_err-attribute-clause-reads t c = GetTermReference.get_term_reference-returns-in_err-attribute-clause-reads t c

pub get_term_reference-get_call_arguments-requires : goal.get_term_reference-get_call_arguments-requires
get_term_reference-get_call_arguments-requires t c = GetTermReference.get_term_reference-get_call_arguments-requires t c

pub get_term_reference-returns-in_err-get_call_arguments-clause-reads : goal.get_term_reference-returns-in_err-get_call_arguments-clause-reads
get_term_reference-returns-in_err-get_call_arguments-clause-reads t c = GetTermReference.get_term_reference-returns-in_err-get_call_arguments-clause-reads t c

pub get_term_reference-close-requires : goal.get_term_reference-close-requires
get_term_reference-close-requires t c = GetTermReference.get_term_reference-close-requires t c

pub get_term_reference-returns-clause-reads : goal.get_term_reference-returns-clause-reads
get_term_reference-returns-clause-reads t c = GetTermReference.get_term_reference-returns-clause-reads t c

pub get_value-get_pattern-requires : goal.get_value-get_pattern-requires
get_value-get_pattern-requires t c = GetValue.get_value-get_pattern-requires t c

pub get_value-returns-in_err-get_pattern-clause-reads : goal.get_value-returns-in_err-get_pattern-clause-reads
get_value-returns-in_err-get_pattern-clause-reads t c = GetValue.get_value-returns-in_err-get_pattern-clause-reads t c

pub get_value-returns-then-branch-clause-reads : goal.get_value-returns-then-branch-clause-reads
get_value-returns-then-branch-clause-reads t c = GetValue.get_value-returns-then-branch-clause-reads t c

pub get_value-returns-else-branch-clause-reads : goal.get_value-returns-else-branch-clause-reads
get_value-returns-else-branch-clause-reads t c = GetValue.get_value-returns-else-branch-clause-reads t c

pub get_variant-open-requires : goal.get_variant-open-requires
get_variant-open-requires t c = GetVariant.get_variant-open-requires t c

pub get_variant-invariant_of-self : goal.get_variant-invariant_of-self
get_variant-invariant_of-self t c = GetVariant.get_variant-invariant_of-self t c

pub get_variant-returns-in_err-get_variant_key-clause-reads : goal.get_variant-returns-in_err-get_variant_key-clause-reads
get_variant-returns-in_err-get_variant_key-clause-reads t c = GetVariant.get_variant-returns-in_err-get_variant_key-clause-reads t c

pub get_variant-get_value-requires : goal.get_variant-get_value-requires
get_variant-get_value-requires t c = GetVariant.get_variant-get_value-requires t c

pub get_variant-returns-in_err-get_value-clause-reads : goal.get_variant-returns-in_err-get_value-clause-reads
get_variant-returns-in_err-get_value-clause-reads t c = GetVariant.get_variant-returns-in_err-get_value-clause-reads t c

pub get_variant-close-requires : goal.get_variant-close-requires
get_variant-close-requires t c = GetVariant.get_variant-close-requires t c

pub get_variant-returns-clause-reads : goal.get_variant-returns-clause-reads
get_variant-returns-clause-reads t c = GetVariant.get_variant-returns-clause-reads t c

pub get_variants-loop-default-init : goal.get_variants-loop-default-init
get_variants-loop-default-init t c = GetVariants.get_variants-loop-default-init t c

pub get_variants-returns-in_err-default-clause-reads : goal.get_variants-returns-in_err-default-clause-reads
get_variants-returns-in_err-default-clause-reads t c = GetVariants.get_variants-returns-in_err-default-clause-reads t c

pub get_variants-get_variant-requires : goal.get_variants-get_variant-requires
get_variants-get_variant-requires t c = GetVariants.get_variants-get_variant-requires t c

pub get_variants-returns-in_err-get_variant-clause-reads : goal.get_variants-returns-in_err-get_variant-clause-reads
get_variants-returns-in_err-get_variant-clause-reads t c = GetVariants.get_variants-returns-in_err-get_variant-clause-reads t c

pub get_variants-loop-default-smaller-then-has_default : goal.get_variants-loop-default-smaller-then-has_default
get_variants-loop-default-smaller-then-has_default t c = GetVariants.get_variants-loop-default-smaller-then-has_default t c

pub get_variants-loop-default-preserved-then-has_default : goal.get_variants-loop-default-preserved-then-has_default
get_variants-loop-default-preserved-then-has_default t c = GetVariants.get_variants-loop-default-preserved-then-has_default t c

pub get_variants-loop-default-smaller : goal.get_variants-loop-default-smaller
get_variants-loop-default-smaller t c = GetVariants.get_variants-loop-default-smaller t c

pub get_variants-loop-default-preserved : goal.get_variants-loop-default-preserved
get_variants-loop-default-preserved t c = GetVariants.get_variants-loop-default-preserved t c

pub get_variants-returns-clause-reads : goal.get_variants-returns-clause-reads
get_variants-returns-clause-reads t c = GetVariants.get_variants-returns-clause-reads t c
