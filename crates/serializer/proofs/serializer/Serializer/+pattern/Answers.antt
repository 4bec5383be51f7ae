-- The functions that write patterns, and what stands in them, meet their contracts.
use Rattle.std.proofs.Common.{ℕ, ◌+◌, ◌<◌, ◌≡◌, Bool, List, [], ◌∷◌, true, refl, sym, ap, ◌∙◌, subst, arith, length}
use lib.Dec.{eqb}
use Rattle.syntax.specs.declared.kind.Kind.{Kind as TheKind}
use Rattle.syntax.specs.declared.kind.Kind.TheVariants as Kinds
use Rattle.syntax.specs.Kind as Kind
use Rattle.syntax.specs.Kind.{number_of}
use Rattle.syntax.specs.Bytes.{ascii}
use Rattle.utf8.specs.Utf8.{is_boundary}
use Rattle.syntax.specs.Layout.{count, marks_in}
use Rattle.syntax.specs.Shape.{among, models, inline}
use Rattle.syntax.specs.Serializer.{Node, Piece, literal, newline, nodes, each, if, of_kind, ◌⊕◌}
use Rattle.laws.specs.Text.{element_of, expression_of, inline_of, variant_of, separated_of, argument_of, separated-none, separated-is}
use Rattle.tree.specs.Walk.{kind_at, node_at, after, inner_at, OneAt, elements, variants, arguments, references}
use Rattle.tree.proofs.Sizes.{sizes}
use Rattle.tree.proofs.Walk.{at_count, after-count, inside-count}
use Rattle.tree.proofs.Contents.{variant-pair}
use Rattle.serializer.specs.declared.serializer.Serializer.{Serializer}
use Rattle.serializer.specs.Writer.{Place, place_of, Room, Wrote}
use Rattle.serializer.specs.Serialize.{one_if, output_of, pattern_in, arguments_in, reference_of, variant_lines}
use Rattle.serializer.proofs.Pieces.{Row, two, then-assoc, room-first, going_on, gone, one-most, room_within, wrote-within}
use Rattle.serializer.proofs.Parts.{pattern-at, pattern-entered, pattern-parts, element-name, placeable-inside, braced}
use Rattle.serializer.proofs.Parts.{expression-select, expression-inline}
use Rattle.serializer.proofs.Patterns.{element-text}
use Rattle.serializer.proofs.Rows.{rows-count}
use Rattle.serializer.proofs.Expressions.{inline-string, inline-number, inline-placeable, inline-reference, no_call, a_call}
use Rattle.serializer.proofs.Expressions.{chosen, variant_parts, arguments-entered, arguments-parts, argued, from-one}
use Rattle.serializer.proofs.Numbers.{is, other, starts, ends, unlike, expression-kind, inline-kind}
use Rattle.serializer.proofs.Ways.{Way, way, moves, split, room, writes, goes, ready, writes_node, kind-ready, kind-is, done}
use Rattle.serializer.proofs.Loops.{Loop, LoopTurn, loop-first, loop-count, loop-ready, loop-turn, loop-done, loop-way, done-with}
use Rattle.serializer.proofs.Loops.{indented-ready, indented-wrote}
use Rattle.serializer.proofs.serializer.Serializer.+pattern.Goals as goal
use Rattle.serializer.proofs.serializer.Serializer.+pattern.Goals.{serialize_inline_expression-then-is_at}
use Rattle.serializer.proofs.serializer.Serializer.+pattern.Goals.{serialize_inline_expression-else-is_at}

-- a variant on a line, and an argument after a comma if one is written
abbrev variant_line : List ℕ → Node → Piece
variant_line source v = variant_of source v ⊕ newline

abbrev separated : Bool → List ℕ → Node → Piece
separated a source n = if a (literal (ascii ", ")) ⊕ argument_of source n

-- A turn of the loops over the elements, the variants and the arguments, and the way that it goes.
module _ {s₀ s : Serializer} {whole : Piece} where
  element-turn : Loop Kind.pattern 0 whole (each (element_of s₀.nodes.source.now)) s₀ s → kind_at (marks_in s.nodes.tree.now) s.mark < Kind.closing 0
      → LoopTurn Kind.pattern 0 elements whole element_of (each (element_of s₀.nodes.source.now)) s₀ s
  unfolding models among each
  element-turn r l = loop-turn r elements refl element_of (each (element_of s₀.nodes.source.now)) (λ n ns. refl) l

  variant-turn : Loop Kind.select 1 whole (variant_lines s₀.nodes.source.now) s₀ s → kind_at (marks_in s.nodes.tree.now) s.mark < Kind.closing 0
      → LoopTurn Kind.select 1 variants whole variant_line (variant_lines s₀.nodes.source.now) s₀ s
  unfolding models among each variant_lines
  variant-turn r l = loop-turn r variants refl variant_line (variant_lines s₀.nodes.source.now) (λ n ns. refl) l

  variant-way : LoopTurn Kind.select 1 variants whole variant_line (variant_lines s₀.nodes.source.now) s₀ s
      → Way s s (variant_line s.nodes.source.now (node_at (marks_in s.nodes.tree.now) s.mark)) (variant_of s.nodes.source.now (node_at (marks_in s.nodes.tree.now) s.mark) ∷ newline ∷ []) s.mark
  variant-way t = way s (two (variant_of s.nodes.source.now (node_at (marks_in s.nodes.tree.now) s.mark)) newline) t.ready.room

  module _ (a : Bool) where
    argument-turn : Loop Kind.arguments 0 whole (separated_of s₀.nodes.source.now a) s₀ s → kind_at (marks_in s.nodes.tree.now) s.mark < Kind.closing 0
        → LoopTurn Kind.arguments 0 arguments whole (separated a) (separated_of s₀.nodes.source.now true) s₀ s
    unfolding models among
    argument-turn r l =
        let source = s₀.nodes.source.now in
        loop-turn r arguments refl (separated a) (separated_of source true)
        (λ n ns. separated-is source a n ns
        ∙ sym (then-assoc (if a (literal (ascii ", "))) (argument_of source n) (separated_of source true ns))) l

    argument-way : LoopTurn Kind.arguments 0 arguments whole (separated a) (separated_of s₀.nodes.source.now true) s₀ s
        → Way s s (separated a s.nodes.source.now (node_at (marks_in s.nodes.tree.now) s.mark)) (if a (literal (ascii ", ")) ∷ argument_of s.nodes.source.now (node_at (marks_in s.nodes.tree.now) s.mark) ∷ []) s.mark
    argument-way t =
        way s (two (if a (literal (ascii ", "))) (argument_of s.nodes.source.now (node_at (marks_in s.nodes.tree.now) s.mark))) t.ready.room

-- An inline expression that is no string, number or placeable is a reference.
reference-in : (s : Serializer) {k : TheKind} → OneAt (is_boundary s.nodes.source.now) inline (marks_in s.nodes.tree.now) s.mark
    → number_of k ≡ kind_at (marks_in s.nodes.tree.now) s.mark → (k ≡ Kinds.StringLiteral → ⊥) → (k ≡ Kinds.NumberLiteral → ⊥)
    → (k ≡ Kinds.Placeable → ⊥) → OneAt (is_boundary s.nodes.source.now) references (marks_in s.nodes.tree.now) s.mark
    × Row (inline_of s.nodes.source.now (node_at (marks_in s.nodes.tree.now) s.mark))
    (reference_of s.nodes.source.now (node_at (marks_in s.nodes.tree.now) s.mark)
    ∷ each (arguments_in s.nodes.source.now)
    (of_kind s.nodes.source.now (λ k. eqb k Kind.arguments) (nodes (node_at (marks_in s.nodes.tree.now) s.mark).inner)) ∷ [])
reference-in s a h x y z =
    inline-reference s.nodes.source.now a (unlike h Kinds.StringLiteral x) (unlike h Kinds.NumberLiteral y) (unlike h Kinds.Placeable z)

-- serialize_pattern: its elements after a blank, or on lines of their own
pub serialize_pattern-starts_on_new_line-start_on_newline-requires : goal.serialize_pattern-starts_on_new_line-start_on_newline-requires
serialize_pattern-starts_on_new_line-start_on_newline-requires t c =
    pattern-at c.args.self.now.nodes.source.now c.requires.node

pub serialize_pattern-begin_pattern-requires : goal.serialize_pattern-begin_pattern-requires
serialize_pattern-begin_pattern-requires t c =
    let s = c.args.self.now in
    let fit = sizes s.nodes.tree.now c.args.self.now.nodes.fit in
    let here = at_count s.nodes.tree.now fit c.requires.node.at in
    record {
      room =
          room
          (way s (pattern-parts s.nodes.source.now c.requires.node _ c.starts_on_new_line-start_on_newline.ensures) c.requires.room);
      indent_bound = omega (arith, fit, here, c.requires.shallow);
    }

pub serialize_pattern-overflow_add-self : goal.serialize_pattern-overflow_add-self
serialize_pattern-overflow_add-self t c =
    let tree = c.args.self.now.nodes.tree.now in
    let fit = sizes tree c.args.self.now.nodes.fit in omega (arith, fit, at_count tree fit c.requires.node.at)

pub serialize_pattern-loop-self-init : goal.serialize_pattern-loop-self-init
serialize_pattern-loop-self-init t c =
    let s = c.args.self.now in
    let start = c.starts_on_new_line-start_on_newline.result in
    let begun = c.begin_pattern.ensures in
    let p = each (element_of s.nodes.source.now) (nodes (inner_at (marks_in s.nodes.tree.now) (s.mark + 1))) in
    let w = way s (pattern-parts s.nodes.source.now c.requires.node start c.starts_on_new_line-start_on_newline.ensures) c.requires.room in
    let g = going_on w.pieces begun.wrote in
    let P : Place → Type 0 = λ z. Room z p in
    loop-first
    (record {
      at = record { state = 0; least = omega arith; here = (pattern-entered s.nodes.source.now c.requires.node).first };
      shallow = omega (arith, c.requires.shallow, begun.wrote.level, ap (λ z. z.indent) begun.raised, one-most start);
      room = subst P (sym begun.raised) (room_within start begun.line p (room-first g));
    })

pub serialize_pattern-is_open-requires : goal.serialize_pattern-is_open-requires
serialize_pattern-is_open-requires t c =
    let k = loop-ready c.loop-self.invariant in k

pub serialize_pattern-serialize_element-requires : goal.serialize_pattern-serialize_element-requires
serialize_pattern-serialize_element-requires t c =
    let s = c.args.self.now in
    let here = at_count s.nodes.tree.now (sizes s.nodes.tree.now c.args.self.now.nodes.fit) c.requires.node.at in
    let r = c.loop-self.invariant in
    let turn = element-turn r (starts c.is_open.ensures c.loop-self-test.true) in
    (omega (arith, c.decreases, here, r.rows.later, loop-count r), turn.ready)

pub serialize_pattern-loop-self-smaller : goal.serialize_pattern-loop-self-smaller
unfolding after
serialize_pattern-loop-self-smaller t c =
    omega (arith, rows-count c.loop-self.invariant.rows, c.serialize_element.ensures.went.next)

pub serialize_pattern-loop-self-preserved : goal.serialize_pattern-loop-self-preserved
serialize_pattern-loop-self-preserved t c =
    let turn = element-turn c.loop-self.invariant (starts c.is_open.ensures c.loop-self-test.true) in
    turn.on _ c.serialize_element.ensures

pub serialize_pattern-overflow_add-self-2 : goal.serialize_pattern-overflow_add-self-2
serialize_pattern-overflow_add-self-2 t c =
    omega (arith, sizes c.args.self.now.nodes.tree.now c.args.self.now.nodes.fit, rows-count c.loop-self.invariant.rows)

pub serialize_pattern-returns : goal.serialize_pattern-returns
unfolding each
serialize_pattern-returns t c =
    let s = c.args.self.now in
    let start = c.starts_on_new_line-start_on_newline.result in
    let begun = c.begin_pattern.ensures in
    let p = each (element_of s.nodes.source.now) (nodes (inner_at (marks_in s.nodes.tree.now) (s.mark + 1))) in
    let w = way s (pattern-parts s.nodes.source.now c.requires.node start c.starts_on_new_line-start_on_newline.ensures) c.requires.room in
    let g = going_on w.pieces begun.wrote in
    let r = c.loop-self.invariant in
    let d = loop-done r refl (ends c.is_open.ensures c.loop-self-test.false) in
    let P : Place → Type 0 =
    λ z. Wrote c.begin_pattern.new.output (output_of c.loop-self.self) z (place_of c.loop-self.self.writer) p in
    rw c.end_pattern.ensures
    (done-with (record { same_reference = r.carried.same_reference; is = r.carried.is })
    (gone (going_on g (wrote-within start begun.line p (subst P begun.raised d.0))))
    (ap (λ m. m + 1) d.1 ∙ (pattern-entered s.nodes.source.now c.requires.node).behind))

-- serialize_element: a text, or a placeable
pub serialize_element-is_at-requires : goal.serialize_element-is_at-requires
serialize_element-is_at-requires t c =
    let tree = c.args.self.now.nodes.tree.now in
    at_count tree (sizes tree c.args.self.now.nodes.fit) c.requires.node.at

pub serialize_element-serialize_text-requires : goal.serialize_element-serialize_text-requires
serialize_element-serialize_text-requires t c =
    let is = is c.is_at.ensures c.if-is_at.true in
    record {
      text_at = element-text c.requires.node is;
      room = rw (element-name c.args.self.now.nodes.source.now c.requires.node is) at c.requires.room;
    }

pub serialize_element-returns-then-is_at : goal.serialize_element-returns-then-is_at
serialize_element-returns-then-is_at t c =
    let is = is c.is_at.ensures c.if-is_at.true in
    rw (element-name c.args.self.now.nodes.source.now c.requires.node is) c.serialize_text.ensures

pub serialize_element-overflow_add-self : goal.serialize_element-overflow_add-self
serialize_element-overflow_add-self t c =
    let tree = c.args.self.now.nodes.tree.now in
    let fit = sizes tree c.args.self.now.nodes.fit in omega (arith, fit, at_count tree fit c.requires.node.at)

pub serialize_element-kind_at-kind-requires : goal.serialize_element-kind_at-kind-requires
serialize_element-kind_at-kind-requires t c =
    let s = c.args.self.now in
    let inside =
    placeable-inside s.nodes.source.now c.requires.node (other c.is_at.ensures c.if-is_at.false) in
    let b = braced s.nodes.source.now c.requires.node (other c.is_at.ensures c.if-is_at.false) in
    record {
      mark_bound = at_count s.nodes.tree.now (sizes s.nodes.tree.now c.args.self.now.nodes.fit) inside.at;
      is_kind = expression-kind inside;
    }

pub serialize_element-begin_placeable-requires : goal.serialize_element-begin_placeable-requires
serialize_element-begin_placeable-requires t c =
    let s = c.args.self.now in
    let fit = sizes s.nodes.tree.now c.args.self.now.nodes.fit in
    let b = braced s.nodes.source.now c.requires.node (other c.is_at.ensures c.if-is_at.false) in
    let w = way s b.parts c.requires.room in
    rw c.kind_at-kind.ensures
    (record { room = room w; mark_bound = omega (arith, fit, at_count s.nodes.tree.now fit c.requires.node.at) })

pub serialize_element-serialize_expression-requires : goal.serialize_element-serialize_expression-requires
serialize_element-serialize_expression-requires t c =
    let s = c.args.self.now in
    let here = at_count s.nodes.tree.now (sizes s.nodes.tree.now c.args.self.now.nodes.fit) c.requires.node.at in
    let k = c.kind_at-kind.ensures in
    let b = braced s.nodes.source.now c.requires.node (other c.is_at.ensures c.if-is_at.false) in
    let w = goes (way s b.parts c.requires.room) refl refl (rw k at c.begin_placeable.ensures) in (
      omega (arith, c.decreases, here, ap (λ z. z.mark) w.is, ap (λ z. count z.nodes.tree.now) w.is, b.some),
      ready expression_of w b.child (omega (arith, c.requires.shallow)),
    )

pub serialize_element-end_placeable-requires : goal.serialize_element-end_placeable-requires
serialize_element-end_placeable-requires t c =
    let s = c.args.self.now in
    let fit = sizes s.nodes.tree.now c.args.self.now.nodes.fit in
    let end = after-count s.nodes.tree.now fit c.requires.node.at in
    let k = c.kind_at-kind.ensures in
    let b = braced s.nodes.source.now c.requires.node (other c.is_at.ensures c.if-is_at.false) in
    let w = goes (way s b.parts c.requires.room) refl refl (rw k at c.begin_placeable.ensures) in
    let w₂ = writes_node expression_of w refl c.serialize_expression.ensures in
    rw k (record { room = room w₂; mark_bound = omega (arith, fit, end, ap (λ z. z.mark) w₂.is, b.till) })

pub serialize_element-returns : goal.serialize_element-returns
serialize_element-returns t c =
    let s = c.args.self.now in
    let k = c.kind_at-kind.ensures in
    let b = braced s.nodes.source.now c.requires.node (other c.is_at.ensures c.if-is_at.false) in
    let w = goes (way s b.parts c.requires.room) refl refl (rw k at c.begin_placeable.ensures) in
    let w₂ = writes_node expression_of w refl c.serialize_expression.ensures in
    done (goes w₂ refl refl (rw k at c.end_placeable.ensures)) (omega (arith, ap (λ z. z.mark) w₂.is, b.till))

-- serialize_expression: a select, or an inline expression
pub serialize_expression-is_at-requires : goal.serialize_expression-is_at-requires
serialize_expression-is_at-requires t c =
    let tree = c.args.self.now.nodes.tree.now in
    at_count tree (sizes tree c.args.self.now.nodes.fit) c.requires.node.at

pub serialize_expression-serialize_select_expression-requires : goal.serialize_expression-serialize_select_expression-requires
serialize_expression-serialize_select_expression-requires t c =
    let select =
    expression-select c.args.self.now.nodes.source.now c.requires.node (is c.is_at.ensures c.if-is_at.true) in (
      omega (arith, c.decreases),
      record { node = select.0; shallow = c.requires.shallow; room = rw select.1 at c.requires.room },
    )

pub serialize_expression-returns-then-is_at : goal.serialize_expression-returns-then-is_at
serialize_expression-returns-then-is_at t c =
    let select =
    expression-select c.args.self.now.nodes.source.now c.requires.node (is c.is_at.ensures c.if-is_at.true) in
    rw select.1 c.serialize_select_expression.ensures

pub serialize_expression-serialize_inline_expression-requires : goal.serialize_expression-serialize_inline_expression-requires
serialize_expression-serialize_inline_expression-requires t c =
    let inline =
    expression-inline c.args.self.now.nodes.source.now c.requires.node
    (other c.is_at.ensures c.if-is_at.false) in (
      omega (arith, c.decreases),
      record { node = inline.0; shallow = c.requires.shallow; room = rw inline.1 at c.requires.room },
    )

pub serialize_expression-returns : goal.serialize_expression-returns
serialize_expression-returns t c =
    let inline =
    expression-inline c.args.self.now.nodes.source.now c.requires.node
    (other c.is_at.ensures c.if-is_at.false) in
    rw inline.1 c.serialize_inline_expression.ensures

-- serialize_inline_expression, by the kind
pub serialize_inline_expression-kind_at-requires : goal.serialize_inline_expression-kind_at-requires
serialize_inline_expression-kind_at-requires t c =
    let tree = c.args.self.now.nodes.tree.now in
    record {
      mark_bound = at_count tree (sizes tree c.args.self.now.nodes.fit) c.requires.node.at;
      is_kind = inline-kind c.requires.node;
    }

pub serialize_inline_expression-serialize_string_literal-requires : goal.serialize_inline_expression-serialize_string_literal-requires
serialize_inline_expression-serialize_string_literal-requires t c =
    let string = inline-string c.args.self.now.nodes.source.now c.requires.node (sym c.kind_at.ensures ∙ ap number_of c.in-StringLiteral.is) in
    record { node = string.0; shallow = c.requires.shallow; room = rw string.1 at c.requires.room }

pub serialize_inline_expression-returns-in-StringLiteral : goal.serialize_inline_expression-returns-in-StringLiteral
serialize_inline_expression-returns-in-StringLiteral t c =
    let string = inline-string c.args.self.now.nodes.source.now c.requires.node (sym c.kind_at.ensures ∙ ap number_of c.in-StringLiteral.is) in
    rw string.1 c.serialize_string_literal.ensures

pub serialize_inline_expression-serialize_text-requires : goal.serialize_inline_expression-serialize_text-requires
serialize_inline_expression-serialize_text-requires t c =
    let number = inline-number c.args.self.now.nodes.source.now c.requires.node (sym c.kind_at.ensures ∙ ap number_of c.in-NumberLiteral.is) in
    record { text_at = number.0; room = rw number.1 at c.requires.room }

pub serialize_inline_expression-returns-in-NumberLiteral : goal.serialize_inline_expression-returns-in-NumberLiteral
serialize_inline_expression-returns-in-NumberLiteral t c =
    let number = inline-number c.args.self.now.nodes.source.now c.requires.node (sym c.kind_at.ensures ∙ ap number_of c.in-NumberLiteral.is) in
    rw number.1 c.serialize_text.ensures

pub serialize_inline_expression-write_literal-requires : goal.serialize_inline_expression-write_literal-requires
serialize_inline_expression-write_literal-requires t c =
    let s = c.args.self.now in
    let held = inline-placeable s.nodes.source.now c.requires.node (sym c.kind_at.ensures ∙ ap number_of c.in-Placeable.is) in
    room (way s held.1 c.requires.room)

pub serialize_inline_expression-overflow_add-self : goal.serialize_inline_expression-overflow_add-self
serialize_inline_expression-overflow_add-self t c =
    let tree = c.args.self.now.nodes.tree.now in
    let fit = sizes tree c.args.self.now.nodes.fit in omega (arith, fit, at_count tree fit c.requires.node.at)

pub serialize_inline_expression-serialize_expression-requires : goal.serialize_inline_expression-serialize_expression-requires
serialize_inline_expression-serialize_expression-requires t c =
    let s = c.args.self.now in
    let here = at_count s.nodes.tree.now (sizes s.nodes.tree.now c.args.self.now.nodes.fit) c.requires.node.at in
    let held = inline-placeable s.nodes.source.now c.requires.node (sym c.kind_at.ensures ∙ ap number_of c.in-Placeable.is) in
    let w = moves 1 (writes (way s held.1 c.requires.room) c.write_literal.ensures) in (
      omega (arith, c.decreases, here),
      ready expression_of w held.0.child (omega (arith, c.requires.shallow)),
    )

pub serialize_inline_expression-write_literal-requires-in-Placeable : goal.serialize_inline_expression-write_literal-requires-in-Placeable
serialize_inline_expression-write_literal-requires-in-Placeable t c =
    let s = c.args.self.now in
    let held = inline-placeable s.nodes.source.now c.requires.node (sym c.kind_at.ensures ∙ ap number_of c.in-Placeable.is) in
    let w = moves 1 (writes (way s held.1 c.requires.room) c.write_literal.ensures) in
    room (writes_node expression_of w refl c.serialize_expression.ensures)

pub serialize_inline_expression-overflow_add-self-in-Placeable : goal.serialize_inline_expression-overflow_add-self-in-Placeable
serialize_inline_expression-overflow_add-self-in-Placeable t c =
    let s = c.args.self.now in
    let fit = sizes s.nodes.tree.now c.args.self.now.nodes.fit in
    let end = after-count s.nodes.tree.now fit c.requires.node.at in
    let held = inline-placeable s.nodes.source.now c.requires.node (sym c.kind_at.ensures ∙ ap number_of c.in-Placeable.is) in
    omega (arith, fit, end, held.0.till, c.serialize_expression.ensures.went.next)

pub serialize_inline_expression-returns-in-Placeable : goal.serialize_inline_expression-returns-in-Placeable
serialize_inline_expression-returns-in-Placeable t c =
    let s = c.args.self.now in
    let held = inline-placeable s.nodes.source.now c.requires.node (sym c.kind_at.ensures ∙ ap number_of c.in-Placeable.is) in
    let w = moves 1 (writes (way s held.1 c.requires.room) c.write_literal.ensures) in
    let w₂ = writes_node expression_of w refl c.serialize_expression.ensures in
    done (moves 1 (writes w₂ c.write_literal-in-Placeable.ensures)) held.0.till

pub serialize_inline_expression-serialize_reference-requires : goal.serialize_inline_expression-serialize_reference-requires
serialize_inline_expression-serialize_reference-requires t c =
    let s = c.args.self.now in
    let d = c.in_default in
    let reference = reference-in s c.requires.node c.kind_at.ensures d.not-StringLiteral d.not-NumberLiteral d.not-Placeable in
    record {
      node = reference.0;
      shallow = c.requires.shallow;
      room = room (way s reference.1 c.requires.room);
    }

pub serialize_inline_expression-is_at-requires : goal.serialize_inline_expression-is_at-requires
serialize_inline_expression-is_at-requires t c =
    let s = c.args.self.now in
    let d = c.in_default in
    let reference = reference-in s c.requires.node c.kind_at.ensures d.not-StringLiteral d.not-NumberLiteral d.not-Placeable in
    let w = goes (way s reference.1 c.requires.room) refl refl c.serialize_reference.ensures.went in
    let named = c.serialize_reference.ensures.named in
    let k = kind-ready w (inside-count s.nodes.tree.now (sizes s.nodes.tree.now c.args.self.now.nodes.fit) named.at.here) in
    k

pub serialize_inline_expression-serialize_call_arguments-requires : goal.serialize_inline_expression-serialize_call_arguments-requires
serialize_inline_expression-serialize_call_arguments-requires t c =
    let s = c.args.self.now in
    let here = at_count s.nodes.tree.now (sizes s.nodes.tree.now c.args.self.now.nodes.fit) c.requires.node.at in
    let d = c.in_default in
    let reference = reference-in s c.requires.node c.kind_at.ensures d.not-StringLiteral d.not-NumberLiteral d.not-Placeable in
    let w = goes (way s reference.1 c.requires.room) refl refl c.serialize_reference.ensures.went in
    let named = c.serialize_reference.ensures.named in
    let call =
    a_call s.nodes.source.now s.nodes.tree.now named (sym (kind-is w) ∙ is c.is_at.ensures c.if-is_at.true) in (
      omega (arith, c.decreases, here, named.later, ap (λ z. count z.nodes.tree.now) w.is),
      ready arguments_in (split call.1.0 w) call.0 (omega (arith, c.requires.shallow, named.later)),
    )

pub serialize_inline_expression-overflow_add-self-in_default : goal.serialize_inline_expression-overflow_add-self-in_default
serialize_inline_expression-overflow_add-self-in_default t c =
    let s = c.args.self.now in
    let fit = sizes s.nodes.tree.now c.args.self.now.nodes.fit in
    let end = after-count s.nodes.tree.now fit c.requires.node.at in
    let d = c.in_default in
    let reference = reference-in s c.requires.node c.kind_at.ensures d.not-StringLiteral d.not-NumberLiteral d.not-Placeable in
    let w = goes (way s reference.1 c.requires.room) refl refl c.serialize_reference.ensures.went in
    let named = c.serialize_reference.ensures.named in
    elim c.if-is_at.branch [
      | serialize_inline_expression-then-is_at b ↦
          let call =
          a_call s.nodes.source.now s.nodes.tree.now named
          (sym (kind-is w) ∙ is c.is_at.ensures b.if-is_at.true) in
          let w₂ = writes_node arguments_in (split call.1.0 w) refl b.serialize_call_arguments.ensures in
          omega (arith, fit, end, call.1.1, ap (λ z. z.mark) w₂.is, ap (λ z. z.mark) b.self-is)
      | serialize_inline_expression-else-is_at b ↦
          omega (arith, fit, inside-count s.nodes.tree.now fit named.at.here, ap (λ z. z.mark) b.self-is)
    ]

pub serialize_inline_expression-returns-after-is_at : goal.serialize_inline_expression-returns-after-is_at
serialize_inline_expression-returns-after-is_at t c =
    let s = c.args.self.now in
    let d = c.in_default in
    let reference = reference-in s c.requires.node c.kind_at.ensures d.not-StringLiteral d.not-NumberLiteral d.not-Placeable in
    let w = goes (way s reference.1 c.requires.room) refl refl c.serialize_reference.ensures.went in
    let named = c.serialize_reference.ensures.named in
    elim c.if-is_at.branch [
      | serialize_inline_expression-then-is_at b ↦
          let call =
          a_call s.nodes.source.now s.nodes.tree.now named
          (sym (kind-is w) ∙ is c.is_at.ensures b.if-is_at.true) in
          let w₂ = writes_node arguments_in (split call.1.0 w) refl b.serialize_call_arguments.ensures in
          rw b.self-is (done (moves 1 w₂) call.1.1)
      | serialize_inline_expression-else-is_at b ↦
          let none =
          no_call s.nodes.source.now s.nodes.tree.now named (λ e. other c.is_at.ensures b.if-is_at.false (kind-is w ∙ e)) in
          rw b.self-is (done (moves 1 (split none.0 w)) none.1)
    ]

-- serialize_select_expression: the selector, and its variants on a line each
pub serialize_select_expression-overflow_add-self : goal.serialize_select_expression-overflow_add-self
serialize_select_expression-overflow_add-self t c =
    let tree = c.args.self.now.nodes.tree.now in
    let fit = sizes tree c.args.self.now.nodes.fit in omega (arith, fit, at_count tree fit c.requires.node.at)

pub serialize_select_expression-serialize_inline_expression-requires : goal.serialize_select_expression-serialize_inline_expression-requires
serialize_select_expression-serialize_inline_expression-requires t c =
    let s = c.args.self.now in
    let here = at_count s.nodes.tree.now (sizes s.nodes.tree.now c.args.self.now.nodes.fit) c.requires.node.at in
    let ch = chosen s.nodes.source.now c.requires.node in
    let w = moves 1 (way s ch.parts c.requires.room) in (
      omega (arith, c.decreases, here),
      ready inline_of w ch.selector (omega (arith, c.requires.shallow)),
    )

pub serialize_select_expression-write_literal-requires : goal.serialize_select_expression-write_literal-requires
serialize_select_expression-write_literal-requires t c =
    let s = c.args.self.now in
    let w = moves 1 (way s (chosen s.nodes.source.now c.requires.node).parts c.requires.room) in
    room (writes_node inline_of w refl c.serialize_inline_expression.ensures)

pub serialize_select_expression-newline-requires : goal.serialize_select_expression-newline-requires
serialize_select_expression-newline-requires t c =
    let s = c.args.self.now in
    let w = moves 1 (way s (chosen s.nodes.source.now c.requires.node).parts c.requires.room) in
    let w₂ = writes_node inline_of w refl c.serialize_inline_expression.ensures in room (writes w₂ c.write_literal.ensures)

pub serialize_select_expression-indent-requires : goal.serialize_select_expression-indent-requires
serialize_select_expression-indent-requires t c =
    let s = c.args.self.now in
    let fit = sizes s.nodes.tree.now c.args.self.now.nodes.fit in
    let w = moves 1 (way s (chosen s.nodes.source.now c.requires.node).parts c.requires.room) in
    let w₂ = writes_node inline_of w refl c.serialize_inline_expression.ensures in
    let w₃ = writes (writes w₂ c.write_literal.ensures) c.newline.ensures in
    omega (arith, fit, at_count s.nodes.tree.now fit c.requires.node.at, c.requires.shallow, w₃.level)

pub serialize_select_expression-loop-self-init : goal.serialize_select_expression-loop-self-init
unfolding after
serialize_select_expression-loop-self-init t c =
    let s = c.args.self.now in
    let ch = chosen s.nodes.source.now c.requires.node in
    let w = moves 1 (way s ch.parts c.requires.room) in
    let w₂ = writes_node inline_of w refl c.serialize_inline_expression.ensures in
    let w₃ = writes (writes w₂ c.write_literal.ensures) c.newline.ensures in
    rw c.indent.ensures
    (loop-first (indented-ready variant_lines w₃ ch.rest (omega (arith, c.requires.shallow))))

pub serialize_select_expression-is_open-requires : goal.serialize_select_expression-is_open-requires
serialize_select_expression-is_open-requires t c =
    let k = loop-ready c.loop-self.invariant in k

pub serialize_select_expression-serialize_variant-requires : goal.serialize_select_expression-serialize_variant-requires
unfolding models among each variant_lines after
serialize_select_expression-serialize_variant-requires t c =
    let s = c.args.self.now in
    let here = at_count s.nodes.tree.now (sizes s.nodes.tree.now c.args.self.now.nodes.fit) c.requires.node.at in
    let selected = c.serialize_inline_expression.ensures in
    let l = c.loop-self.self in
    let r = c.loop-self.invariant in
    let turn =
    loop-turn r variants refl (λ source v. variant_of source v ⊕ newline) (variant_lines c.serialize_inline_expression.new.self.nodes.source.now) (λ n ns. refl)
    (starts c.is_open.ensures c.loop-self-test.true) in
    let w = way l (two (variant_of l.nodes.source.now (node_at (marks_in l.nodes.tree.now) l.mark)) newline) turn.ready.room in (
      omega (arith, c.decreases, here, selected.went.next, r.rows.later, loop-count r, ap (λ z. count z.nodes.tree.now) selected.is),
      (
        ready variant_of w turn.ready.node turn.ready.shallow,
        omega (arith, r.rows.level, ap (λ z. z.indent_level) c.indent.ensures),
      ),
    )

pub serialize_select_expression-newline-requires-in-loop-self : goal.serialize_select_expression-newline-requires-in-loop-self
serialize_select_expression-newline-requires-in-loop-self t c =
    let r = c.loop-self.invariant in
    let turn = variant-turn r (starts c.is_open.ensures c.loop-self-test.true) in
    let w = variant-way turn in
    room (writes_node variant_of w refl c.serialize_variant.ensures)

pub serialize_select_expression-loop-self-smaller : goal.serialize_select_expression-loop-self-smaller
unfolding after
serialize_select_expression-loop-self-smaller t c =
    omega (arith, rows-count c.loop-self.invariant.rows, c.serialize_variant.ensures.went.next)

pub serialize_select_expression-loop-self-preserved : goal.serialize_select_expression-loop-self-preserved
serialize_select_expression-loop-self-preserved t c =
    let r = c.loop-self.invariant in
    let turn = variant-turn r (starts c.is_open.ensures c.loop-self-test.true) in
    let w = variant-way turn in
    turn.on _ (done (writes (writes_node variant_of w refl c.serialize_variant.ensures) c.newline-in-loop-self.ensures) refl)

pub serialize_select_expression-overflow_add-self-2 : goal.serialize_select_expression-overflow_add-self-2
serialize_select_expression-overflow_add-self-2 t c =
    omega (
      arith,
      sizes c.args.self.now.nodes.tree.now c.args.self.now.nodes.fit,
      rows-count c.loop-self.invariant.rows,
      ap (λ z. count z.nodes.tree.now) c.serialize_inline_expression.ensures.is,
    )

pub serialize_select_expression-returns : goal.serialize_select_expression-returns
unfolding each variant_lines
serialize_select_expression-returns t c =
    let s = c.args.self.now in
    let l = c.loop-self.self in
    let ch = chosen s.nodes.source.now c.requires.node in
    let w = moves 1 (way s ch.parts c.requires.room) in
    let w₂ = writes_node inline_of w refl c.serialize_inline_expression.ensures in
    let w₃ = writes (writes w₂ c.write_literal.ensures) c.newline.ensures in
    let r = rw c.indent.ensures at c.loop-self.invariant in
    let d = loop-done r refl (ends c.is_open.ensures c.loop-self-test.false) in
    let f : Serializer → Serializer = λ z. record z { output = l.output; writer = l.writer; mark = l.mark } in
    let g : Serializer → ℕ = λ z. z.mark + length (inner_at (marks_in z.nodes.tree.now) z.mark) + 1 in
    rw c.dedent.ensures
    (done-with
    (record { same_reference = r.carried.same_reference ∙ w₃.same_reference; is = r.carried.is ∙ ap f w₃.is })
    (gone (going_on w₃.pieces (indented-wrote variant_lines w₃ (output_of l) l.writer d.0))) (ap (λ m. m + 1) d.1 ∙ ap g w₃.is ∙ ch.till))

-- serialize_variant: the key, and the pattern
pub serialize_variant-serialize_variant_key-requires : goal.serialize_variant-serialize_variant_key-requires
serialize_variant-serialize_variant_key-requires t c =
    let s = c.args.self.now in
    record {
      one_at = c.requires.ready.node;
      le_indent = c.requires.le_indent;
      room = room (way s (variant_parts s.nodes.source.now c.requires.ready.node) c.requires.ready.room);
    }

pub serialize_variant-serialize_pattern-requires : goal.serialize_variant-serialize_pattern-requires
serialize_variant-serialize_pattern-requires t c =
    let s = c.args.self.now in
    let here = at_count s.nodes.tree.now (sizes s.nodes.tree.now c.args.self.now.nodes.fit) c.requires.ready.node.at in
    let w =
    goes (way s (variant_parts s.nodes.source.now c.requires.ready.node) c.requires.ready.room) refl refl
    c.serialize_variant_key.ensures in (
      omega (arith, c.decreases, here, ap (λ z. z.mark) w.is, ap (λ z. count z.nodes.tree.now) w.is),
      ready pattern_in w (variant-pair c.requires.ready.node).value (omega (arith, c.requires.ready.shallow)),
    )

pub serialize_variant-overflow_add-self : goal.serialize_variant-overflow_add-self
serialize_variant-overflow_add-self t c =
    let s = c.args.self.now in
    let fit = sizes s.nodes.tree.now c.args.self.now.nodes.fit in
    let w =
    goes (way s (variant_parts s.nodes.source.now c.requires.ready.node) c.requires.ready.room) refl refl
    c.serialize_variant_key.ensures in
    let w₂ = writes_node pattern_in w refl c.serialize_pattern.ensures in
    omega (
      arith,
      fit,
      (variant-pair c.requires.ready.node).till,
      after-count s.nodes.tree.now fit c.requires.ready.node.at,
      ap (λ z. z.mark) w₂.is,
    )

pub serialize_variant-returns : goal.serialize_variant-returns
serialize_variant-returns t c =
    let s = c.args.self.now in
    let w =
    goes (way s (variant_parts s.nodes.source.now c.requires.ready.node) c.requires.ready.room) refl refl
    c.serialize_variant_key.ensures in
    let w₂ = writes_node pattern_in w refl c.serialize_pattern.ensures in
    done (moves 1 w₂) (variant-pair c.requires.ready.node).till

-- serialize_call_arguments: they are separated by commas
pub serialize_call_arguments-write_literal-requires : goal.serialize_call_arguments-write_literal-requires
serialize_call_arguments-write_literal-requires t c =
    let s = c.args.self.now in room (way s (arguments-parts s.nodes.source.now c.requires.node) c.requires.room)

pub serialize_call_arguments-overflow_add-self : goal.serialize_call_arguments-overflow_add-self
serialize_call_arguments-overflow_add-self t c =
    let tree = c.args.self.now.nodes.tree.now in
    let fit = sizes tree c.args.self.now.nodes.fit in omega (arith, fit, at_count tree fit c.requires.node.at)

pub serialize_call_arguments-loop-self-init : goal.serialize_call_arguments-loop-self-init
serialize_call_arguments-loop-self-init t c =
    let s = c.args.self.now in
    let w = moves 1 (writes (way s (arguments-parts s.nodes.source.now c.requires.node) c.requires.room) c.write_literal.ensures) in
    loop-first
    (record {
      at = record { state = 0; least = omega arith; here = (arguments-entered s.nodes.source.now c.requires.node).first };
      shallow = omega (arith, c.requires.shallow, w.level);
      room = room w;
    })

pub serialize_call_arguments-is_open-requires : goal.serialize_call_arguments-is_open-requires
serialize_call_arguments-is_open-requires t c =
    let k = loop-ready c.loop-self.invariant in k

pub serialize_call_arguments-separate-requires : goal.serialize_call_arguments-separate-requires
serialize_call_arguments-separate-requires t c =
    let r = c.loop-self.invariant in
    let a = c.loop-self.argument_written in
    let turn = argument-turn a r (starts c.is_open.ensures c.loop-self-test.true) in
    let w = argument-way a turn in
    room w

pub serialize_call_arguments-is_at-named-requires : goal.serialize_call_arguments-is_at-named-requires
serialize_call_arguments-is_at-named-requires t c =
    let k = loop-ready c.loop-self.invariant in k

pub serialize_call_arguments-begin_argument-requires : goal.serialize_call_arguments-begin_argument-requires
serialize_call_arguments-begin_argument-requires t c =
    let l = c.loop-self.self in
    let r = c.loop-self.invariant in
    let a = c.loop-self.argument_written in
    let turn = argument-turn a r (starts c.is_open.ensures c.loop-self-test.true) in
    let w = argument-way a turn in
    let ar = argued l.nodes.source.now turn.ready.node in
    let w₂ = split ar.parts (writes w c.separate.ensures) in
    rw c.is_at-named.ensures (record { at = ar.key; room = room w₂ })

pub serialize_call_arguments-serialize_inline_expression-requires : goal.serialize_call_arguments-serialize_inline_expression-requires
serialize_call_arguments-serialize_inline_expression-requires t c =
    let l = c.loop-self.self in
    let r = c.loop-self.invariant in
    let a = c.loop-self.argument_written in
    let turn = argument-turn a r (starts c.is_open.ensures c.loop-self-test.true) in
    let w = argument-way a turn in
    let here = at_count c.args.self.now.nodes.tree.now (sizes c.args.self.now.nodes.tree.now c.args.self.now.nodes.fit) c.requires.node.at in
    let ar = argued l.nodes.source.now turn.ready.node in
    let w₂ = split ar.parts (writes w c.separate.ensures) in
    let w₃ = goes w₂ refl refl (rw c.is_at-named.ensures at c.begin_argument.ensures) in (
      omega (arith, c.decreases, here, r.rows.later, loop-count r, ap (λ z. z.mark) w₃.is, ap (λ z. count z.nodes.tree.now) w₃.is),
      ready inline_of w₃ ar.value (omega (arith, turn.ready.shallow)),
    )

pub serialize_call_arguments-overflow_add-self-in-loop-self : goal.serialize_call_arguments-overflow_add-self-in-loop-self
serialize_call_arguments-overflow_add-self-in-loop-self t c =
    let l = c.loop-self.self in
    let r = c.loop-self.invariant in
    let a = c.loop-self.argument_written in
    let turn = argument-turn a r (starts c.is_open.ensures c.loop-self-test.true) in
    let w = argument-way a turn in
    let ar = argued l.nodes.source.now turn.ready.node in
    let w₂ = split ar.parts (writes w c.separate.ensures) in
    let w₃ = goes w₂ refl refl (rw c.is_at-named.ensures at c.begin_argument.ensures) in
    let w₄ = writes_node inline_of w₃ refl c.serialize_inline_expression.ensures in
    let e = c.from.ensures ∙ from-one c.is_at-named.result ∙ ap one_if c.is_at-named.ensures in
    let fit = sizes l.nodes.tree.now l.nodes.fit in
    omega (arith, fit, after-count l.nodes.tree.now fit turn.ready.node.at, ar.till, e, ap (λ z. z.mark) w₄.is)

pub serialize_call_arguments-loop-self-smaller : goal.serialize_call_arguments-loop-self-smaller
unfolding after
serialize_call_arguments-loop-self-smaller t c =
    let l = c.loop-self.self in
    let r = c.loop-self.invariant in
    let a = c.loop-self.argument_written in
    let turn = argument-turn a r (starts c.is_open.ensures c.loop-self-test.true) in
    let w = argument-way a turn in
    let ar = argued l.nodes.source.now turn.ready.node in
    let w₂ = split ar.parts (writes w c.separate.ensures) in
    let w₃ = goes w₂ refl refl (rw c.is_at-named.ensures at c.begin_argument.ensures) in
    let w₄ = writes_node inline_of w₃ refl c.serialize_inline_expression.ensures in
    let e = c.from.ensures ∙ from-one c.is_at-named.result ∙ ap one_if c.is_at-named.ensures in
    omega (arith, rows-count r.rows, ar.till, e, ap (λ z. z.mark) w₄.is)

pub serialize_call_arguments-loop-self-preserved : goal.serialize_call_arguments-loop-self-preserved
serialize_call_arguments-loop-self-preserved t c =
    let l = c.loop-self.self in
    let r = c.loop-self.invariant in
    let a = c.loop-self.argument_written in
    let turn = argument-turn a r (starts c.is_open.ensures c.loop-self-test.true) in
    let w = argument-way a turn in
    let ar = argued l.nodes.source.now turn.ready.node in
    let w₂ = split ar.parts (writes w c.separate.ensures) in
    let w₃ = goes w₂ refl refl (rw c.is_at-named.ensures at c.begin_argument.ensures) in
    let w₄ = writes_node inline_of w₃ refl c.serialize_inline_expression.ensures in
    let e = c.from.ensures ∙ from-one c.is_at-named.result ∙ ap one_if c.is_at-named.ensures in
    turn.on _ (done (moves c.from.result w₄) (omega (arith, e, ar.till)))

pub serialize_call_arguments-write_literal-requires-2 : goal.serialize_call_arguments-write_literal-requires-2
serialize_call_arguments-write_literal-requires-2 t c =
    let s = c.args.self.now in
    let w = moves 1 (writes (way s (arguments-parts s.nodes.source.now c.requires.node) c.requires.room) c.write_literal.ensures) in
    room
    (loop-way w c.loop-self.invariant (separated-none s.nodes.source.now c.loop-self.argument_written)
    (ends c.is_open.ensures c.loop-self-test.false))

pub serialize_call_arguments-overflow_add-self-2 : goal.serialize_call_arguments-overflow_add-self-2
serialize_call_arguments-overflow_add-self-2 t c =
    omega (arith, sizes c.args.self.now.nodes.tree.now c.args.self.now.nodes.fit, rows-count c.loop-self.invariant.rows)

pub serialize_call_arguments-returns : goal.serialize_call_arguments-returns
serialize_call_arguments-returns t c =
    let s = c.args.self.now in
    let w = moves 1 (writes (way s (arguments-parts s.nodes.source.now c.requires.node) c.requires.room) c.write_literal.ensures) in
    let w₂ =
    loop-way w c.loop-self.invariant (separated-none s.nodes.source.now c.loop-self.argument_written)
    (ends c.is_open.ensures c.loop-self-test.false) in
    done (moves 1 (writes w₂ c.write_literal-2.ensures)) (arguments-entered s.nodes.source.now c.requires.node).behind
