-- `Serializer::serialize_attribute` meets its contract.
use Rattle.std.proofs.Common.{refl, ap, arith}
use Rattle.serializer.specs.Serialize.{pattern_in}
use Rattle.tree.proofs.Sizes.{sizes}
use Rattle.tree.proofs.Walk.{after-count}
use Rattle.serializer.proofs.Messages.{attribute-parts, attribute-row}
use Rattle.serializer.proofs.Ways.{way, moves, room, writes, goes, ready, writes_node, done}
use Rattle.serializer.proofs.serializer.Serializer.serialize_attribute.Goals as goal

pub newline-requires : goal.newline-requires
newline-requires c =
    let s = c.args.self.now in room (way s (attribute-row s.nodes.source.now (attribute-parts c.requires.node)) c.requires.room)

pub write_literal-requires : goal.write_literal-requires
write_literal-requires c =
    let s = c.args.self.now in
    let w = way s (attribute-row s.nodes.source.now (attribute-parts c.requires.node)) c.requires.room in
    room (writes w c.newline.ensures)

pub serialize_name-requires : goal.serialize_name-requires
serialize_name-requires c =
    let s = c.args.self.now in
    let p = attribute-parts c.requires.node in
    let w = way s (attribute-row s.nodes.source.now p) c.requires.room in
    record {
      text_at = p.key;
      room = room (writes (writes w c.newline.ensures) c.write_literal.ensures);
    }

pub serialize_pattern-requires : goal.serialize_pattern-requires
serialize_pattern-requires c =
    let s = c.args.self.now in
    let p = attribute-parts c.requires.node in
    let w = way s (attribute-row s.nodes.source.now p) c.requires.room in
    let w₂ = goes (writes (writes w c.newline.ensures) c.write_literal.ensures) refl refl c.serialize_name.ensures in
    ready pattern_in w₂ p.value (omega (arith, c.requires.shallow))

pub overflow_add-self : goal.overflow_add-self
overflow_add-self c =
    let s = c.args.self.now in
    let fit = sizes s.nodes.tree.now c.args.self.now.nodes.fit in
    let p = attribute-parts c.requires.node in
    let w = way s (attribute-row s.nodes.source.now p) c.requires.room in
    let w₂ = goes (writes (writes w c.newline.ensures) c.write_literal.ensures) refl refl c.serialize_name.ensures in
    let w₃ = writes_node pattern_in w₂ refl c.serialize_pattern.ensures in
    omega (arith, fit, p.till, after-count s.nodes.tree.now fit c.requires.node.at, ap (λ z. z.mark) w₃.is)

pub returns : goal.returns
returns c =
    let s = c.args.self.now in
    let p = attribute-parts c.requires.node in
    let w = way s (attribute-row s.nodes.source.now p) c.requires.room in
    let w₂ = goes (writes (writes w c.newline.ensures) c.write_literal.ensures) refl refl c.serialize_name.ensures in
    done (moves 1 (writes_node pattern_in w₂ refl c.serialize_pattern.ensures)) p.till
