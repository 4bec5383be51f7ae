-- The measures and the invariants.
use Rattle.std.proofs.Common.{◌+◌, ◌-◌, ◌*◌, false}
use Rattle.syntax.specs.Kind as Kind
use Rattle.syntax.specs.Layout.{count, marks_in}
use Rattle.syntax.specs.Serializer.{nodes, each}
use Rattle.laws.specs.Text.{element_of, separated_of}
use Rattle.tree.specs.Walk.{inner_at}
use Rattle.serializer.specs.Serialize.{variant_lines}
use Rattle.serializer.proofs.Loops.{Loop}
use Rattle.serializer.proofs.serializer.Serializer.+pattern.Given as goal

abbrev pub decreases-serialize_call_arguments : goal.decreases-serialize_call_arguments
decreases-serialize_call_arguments l = 2 * (count l.self.now.nodes.tree.now - l.self.now.mark)

abbrev pub decreases-serialize_element : goal.decreases-serialize_element
decreases-serialize_element l = 2 * (count l.self.now.nodes.tree.now - l.self.now.mark)

abbrev pub decreases-serialize_expression : goal.decreases-serialize_expression
decreases-serialize_expression l = 2 * (count l.self.now.nodes.tree.now - l.self.now.mark) + 1

abbrev pub decreases-serialize_inline_expression : goal.decreases-serialize_inline_expression
decreases-serialize_inline_expression l = 2 * (count l.self.now.nodes.tree.now - l.self.now.mark)

abbrev pub decreases-serialize_pattern : goal.decreases-serialize_pattern
decreases-serialize_pattern l = 2 * (count l.self.now.nodes.tree.now - l.self.now.mark)

abbrev pub decreases-serialize_select_expression : goal.decreases-serialize_select_expression
decreases-serialize_select_expression l = 2 * (count l.self.now.nodes.tree.now - l.self.now.mark)

abbrev pub decreases-serialize_variant : goal.decreases-serialize_variant
decreases-serialize_variant l = 2 * (count l.self.now.nodes.tree.now - l.self.now.mark)

abbrev pub invariant-serialize_call_arguments-loop-self : goal.invariant-serialize_call_arguments-loop-self
invariant-serialize_call_arguments-loop-self l =
    let s = l.initial.self in
    Loop Kind.arguments 0 (separated_of s.nodes.source.now false (nodes (inner_at (marks_in s.nodes.tree.now) s.mark)))
    (separated_of s.nodes.source.now l.argument_written) s l.self

abbrev pub decreases-serialize_call_arguments-loop-self : goal.decreases-serialize_call_arguments-loop-self
decreases-serialize_call_arguments-loop-self l = count l.initial.self.nodes.tree.now - l.self.mark

abbrev pub invariant-serialize_pattern-loop-self : goal.invariant-serialize_pattern-loop-self
invariant-serialize_pattern-loop-self l =
    let s = l.initial.self in
    Loop Kind.pattern 0 (each (element_of s.nodes.source.now) (nodes (inner_at (marks_in s.nodes.tree.now) s.mark)))
    (each (element_of s.nodes.source.now)) s l.self

abbrev pub decreases-serialize_pattern-loop-self : goal.decreases-serialize_pattern-loop-self
decreases-serialize_pattern-loop-self l = count l.initial.self.nodes.tree.now - l.self.mark

abbrev pub invariant-serialize_select_expression-loop-self : goal.invariant-serialize_select_expression-loop-self
invariant-serialize_select_expression-loop-self l =
    let s = l.initial.self in
    Loop Kind.select 1 (variant_lines s.nodes.source.now (nodes (inner_at (marks_in s.nodes.tree.now) s.mark)))
    (variant_lines s.nodes.source.now) s l.self

abbrev pub decreases-serialize_select_expression-loop-self : goal.decreases-serialize_select_expression-loop-self
decreases-serialize_select_expression-loop-self l = count l.initial.self.nodes.tree.now - l.self.mark
