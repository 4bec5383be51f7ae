-- `Serializer::serialize_string_literal` meets its contract.
use Rattle.std.proofs.Common.{refl, sym}
use Rattle.syntax.specs.Kind as Kind
use Rattle.syntax.specs.Layout.{marks_in}
use Rattle.tree.specs.Walk.{node_at}
use Rattle.tree.proofs.Children.{text-one}
use Rattle.tree.proofs.Walk.{text-after}
use Rattle.serializer.proofs.References.{quoted-row}
use Rattle.serializer.proofs.Ways.{way, room, writes, text, writes_text, done}
use Rattle.serializer.proofs.serializer.Serializer.serialize_string_literal.Goals as goal

pub write_literal-requires : goal.write_literal-requires
write_literal-requires c =
    let s = c.args.self.now in room (way s (quoted-row s.nodes.source.now (node_at (marks_in s.nodes.tree.now) s.mark)) c.requires.room)

pub serialize_text-requires : goal.serialize_text-requires
unfolding Kind.is_text
serialize_text-requires c =
    let s = c.args.self.now in
    let w = writes (way s (quoted-row s.nodes.source.now (node_at (marks_in s.nodes.tree.now) s.mark)) c.requires.room) c.write_literal.ensures in
    let t = text w (text-one c.requires.node refl) in
    record { text_at = t.text_at; room = t.room }

pub write_literal-requires-2 : goal.write_literal-requires-2
unfolding Kind.is_text
write_literal-requires-2 c =
    let s = c.args.self.now in
    let w = writes (way s (quoted-row s.nodes.source.now (node_at (marks_in s.nodes.tree.now) s.mark)) c.requires.room) c.write_literal.ensures in
    room (writes_text w (text-one c.requires.node refl) c.serialize_text.ensures)

pub returns : goal.returns
unfolding Kind.is_text
returns c =
    let s = c.args.self.now in
    let w = writes (way s (quoted-row s.nodes.source.now (node_at (marks_in s.nodes.tree.now) s.mark)) c.requires.room) c.write_literal.ensures in
    let t = text-one c.requires.node refl in
    done (writes (writes_text w t c.serialize_text.ensures) c.write_literal-2.ensures) (sym (text-after t.at t.is_text))
