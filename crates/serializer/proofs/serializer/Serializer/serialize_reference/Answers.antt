-- `Serializer::serialize_reference` meets its contract.
use Rattle.std.proofs.Common.{refl, sym, ap, ◌∙◌, arith}
use Rattle.syntax.specs.Serializer.{name}
use Rattle.tree.proofs.Sizes.{sizes}
use Rattle.tree.proofs.Walk.{at_count, inside-count}
use Rattle.serializer.proofs.References.{begun, no-further, further-on}
use Rattle.serializer.proofs.Ways.{way, moves, split, room, writes, text, writes_node, kind-ready, kind-is, done}
use Rattle.serializer.proofs.Numbers.{is, other, reference-kind}
use Rattle.serializer.proofs.serializer.Serializer.serialize_reference.Goals as goal

pub kind_at-requires : goal.kind_at-requires
kind_at-requires c =
    let tree = c.args.self.now.nodes.tree.now in
    record {
      mark_bound = at_count tree (sizes tree c.args.self.now.nodes.fit) c.requires.node.at;
      is_kind = reference-kind c.requires.node;
    }

pub write_sigil-requires : goal.write_sigil-requires
write_sigil-requires c =
    let s = c.args.self.now in
    let b = begun s.nodes.source.now s.nodes.tree.now s.mark c.requires.node in rw c.kind_at.ensures (room (way s b.parts c.requires.room))

pub overflow_add-self : goal.overflow_add-self
overflow_add-self c =
    let tree = c.args.self.now.nodes.tree.now in
    let fit = sizes tree c.args.self.now.nodes.fit in omega (arith, fit, at_count tree fit c.requires.node.at)

pub serialize_text-requires : goal.serialize_text-requires
serialize_text-requires c =
    let s = c.args.self.now in
    let b = begun s.nodes.source.now s.nodes.tree.now s.mark c.requires.node in
    let w = moves 1 (writes (way s b.parts c.requires.room) (rw c.kind_at.ensures at c.write_sigil.ensures)) in
    let t = text w b.first in record { text_at = t.text_at; room = t.room }

pub is_at-requires : goal.is_at-requires
is_at-requires c =
    let s = c.args.self.now in
    let b = begun s.nodes.source.now s.nodes.tree.now s.mark c.requires.node in
    let w = moves 1 (writes (way s b.parts c.requires.room) (rw c.kind_at.ensures at c.write_sigil.ensures)) in
    let w₂ = writes_node name w b.behind c.serialize_text.ensures in
    let k = kind-ready w₂ (inside-count s.nodes.tree.now (sizes s.nodes.tree.now c.args.self.now.nodes.fit) b.on) in
    k

pub returns-else-is_at : goal.returns-else-is_at
returns-else-is_at c =
    let s = c.args.self.now in
    let b = begun s.nodes.source.now s.nodes.tree.now s.mark c.requires.node in
    let w = moves 1 (writes (way s b.parts c.requires.room) (rw c.kind_at.ensures at c.write_sigil.ensures)) in
    let w₂ = writes_node name w b.behind c.serialize_text.ensures in
    let x = no-further b (λ e. other c.is_at.ensures c.if-is_at.false (kind-is w₂ ∙ e)) in
    let m = ap (λ z. z.mark) w₂.is in record { went = done (split x.0 w₂) (sym m); named = rw m x.1 }

pub write_literal-requires : goal.write_literal-requires
write_literal-requires c =
    let s = c.args.self.now in
    let b = begun s.nodes.source.now s.nodes.tree.now s.mark c.requires.node in
    let w = moves 1 (writes (way s b.parts c.requires.room) (rw c.kind_at.ensures at c.write_sigil.ensures)) in
    let w₂ = writes_node name w b.behind c.serialize_text.ensures in
    let f = further-on b (sym (kind-is w₂) ∙ is c.is_at.ensures c.if-is_at.true) in
    room (split f.parts w₂)

pub serialize_text-requires-then-is_at : goal.serialize_text-requires-then-is_at
serialize_text-requires-then-is_at c =
    let s = c.args.self.now in
    let b = begun s.nodes.source.now s.nodes.tree.now s.mark c.requires.node in
    let w = moves 1 (writes (way s b.parts c.requires.room) (rw c.kind_at.ensures at c.write_sigil.ensures)) in
    let w₂ = writes_node name w b.behind c.serialize_text.ensures in
    let f = further-on b (sym (kind-is w₂) ∙ is c.is_at.ensures c.if-is_at.true) in
    let t = text (writes (split f.parts w₂) c.write_literal.ensures) f.second in
    record { text_at = t.text_at; room = t.room }

pub returns-then-is_at : goal.returns-then-is_at
returns-then-is_at c =
    let s = c.args.self.now in
    let b = begun s.nodes.source.now s.nodes.tree.now s.mark c.requires.node in
    let w = moves 1 (writes (way s b.parts c.requires.room) (rw c.kind_at.ensures at c.write_sigil.ensures)) in
    let w₂ = writes_node name w b.behind c.serialize_text.ensures in
    let f = further-on b (sym (kind-is w₂) ∙ is c.is_at.ensures c.if-is_at.true) in
    let w₃ = writes_node name (writes (split f.parts w₂) c.write_literal.ensures) refl c.serialize_text-then-is_at.ensures in
    let m = ap (λ z. z.mark) w₃.is in record { went = done w₃ (sym m); named = rw m f.rest }
