use Rattle.std.proofs.Common.{◌≡◌, ◌+◌, length, ◌-◌, ◌*◌}
use Rattle.syntax.specs.Expression.{level}
use Rattle.entry.proofs.ArgumentTurns.{Going as ArgumentsGoing}
use Rattle.entry.proofs.Patterns.{Going as PatternGoing}
use Rattle.entry.proofs.Variants.{Going as VariantsGoing}
use Rattle.entry.proofs.parser.Parser.+placeable.Given as goal

abbrev pub decreases-get_argument : goal.decreases-get_argument
decreases-get_argument l = 4 * (length l.self.now.source.bytes.now - l.self.now.source.ptr) + 2

abbrev pub decreases-get_arguments : goal.decreases-get_arguments
decreases-get_arguments l = 4 * (length l.self.now.source.bytes.now - l.self.now.source.ptr) + 3

abbrev pub decreases-get_call_arguments : goal.decreases-get_call_arguments
decreases-get_call_arguments l = 4 * (length l.self.now.source.bytes.now - l.self.now.source.ptr) + 0

abbrev pub decreases-get_expression : goal.decreases-get_expression
decreases-get_expression l = 4 * (length l.self.now.source.bytes.now - l.self.now.source.ptr) + 2

abbrev pub decreases-get_inline_expression : goal.decreases-get_inline_expression
decreases-get_inline_expression l = 4 * (length l.self.now.source.bytes.now - l.self.now.source.ptr) + 1

abbrev pub decreases-get_pattern : goal.decreases-get_pattern
decreases-get_pattern l = 4 * (length l.self.now.source.bytes.now - l.self.now.source.ptr) + 1

abbrev pub decreases-get_placeable : goal.decreases-get_placeable
decreases-get_placeable l = 4 * (length l.self.now.source.bytes.now - l.self.now.source.ptr) + 0

abbrev pub decreases-get_reference : goal.decreases-get_reference
decreases-get_reference l = 4 * (length l.self.now.source.bytes.now - l.self.now.source.ptr) + 0

abbrev pub decreases-get_term_reference : goal.decreases-get_term_reference
decreases-get_term_reference l = 4 * (length l.self.now.source.bytes.now - l.self.now.source.ptr) + 0

abbrev pub decreases-get_value : goal.decreases-get_value
decreases-get_value l = 4 * (length l.self.now.source.bytes.now - l.self.now.source.ptr) + 2

abbrev pub decreases-get_variant : goal.decreases-get_variant
decreases-get_variant l = 4 * (length l.self.now.source.bytes.now - l.self.now.source.ptr) + 0

abbrev pub decreases-get_variants : goal.decreases-get_variants
decreases-get_variants l = 4 * (length l.self.now.source.bytes.now - l.self.now.source.ptr) + 1

abbrev pub invariant-get_arguments-loop-self : goal.invariant-get_arguments-loop-self
invariant-get_arguments-loop-self l = record {
  same : l.self.tree.ghost_name ≡ l.fn.self.tree.ghost_name;
  going : ArgumentsGoing (level l.left) l.fn.self.source l.self.source l.fn.self.tree.now l.self.tree.now l.named;
}

abbrev pub decreases-get_arguments-loop-self : goal.decreases-get_arguments-loop-self
decreases-get_arguments-loop-self l = length l.self.source.bytes.now - l.self.source.ptr

abbrev pub invariant-get_pattern-loop-self : goal.invariant-get_pattern-loop-self
invariant-get_pattern-loop-self l = record {
  same : l.self.tree.ghost_name ≡ l.fn.self.tree.ghost_name;
  going : PatternGoing (level l.fn.left) l.fn.self l.self l.st;
}

abbrev pub decreases-get_pattern-loop-self : goal.decreases-get_pattern-loop-self
decreases-get_pattern-loop-self l = length l.self.source.bytes.now - l.self.source.ptr

abbrev pub invariant-get_variants-loop-default : goal.invariant-get_variants-loop-default
invariant-get_variants-loop-default l = record {
  same : l.self.tree.ghost_name ≡ l.fn.self.tree.ghost_name;
  going : VariantsGoing (level l.left) l.fn.self.source l.self.source l.fn.self.tree.now l.self.tree.now l.has_default;
}

abbrev pub decreases-get_variants-loop-default : goal.decreases-get_variants-loop-default
decreases-get_variants-loop-default l = length l.self.source.bytes.now - l.self.source.ptr
