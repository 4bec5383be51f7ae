-- `Serializer::serialize_term` meets its contract.
use Rattle.std.proofs.Common.{refl}
use Rattle.syntax.specs.Layout.{marks_in}
use Rattle.tree.specs.Walk.{node_at}
use Rattle.serializer.specs.Message.{message_in}
use Rattle.serializer.proofs.Messages.{term-row, term-named}
use Rattle.serializer.proofs.Ways.{way, room, writes, ready, writes_node, done}
use Rattle.serializer.proofs.serializer.Serializer.serialize_term.Goals as goal

pub write_literal-requires : goal.write_literal-requires
write_literal-requires c =
    let s = c.args.self.now in room (way s (term-row s.nodes.source.now (node_at (marks_in s.nodes.tree.now) s.mark)) c.requires.room)

pub serialize_message-requires : goal.serialize_message-requires
serialize_message-requires c =
    let s = c.args.self.now in
    let w = way s (term-row s.nodes.source.now (node_at (marks_in s.nodes.tree.now) s.mark)) c.requires.room in
    ready message_in (writes w c.write_literal.ensures) (term-named c.requires.node) c.requires.shallow

pub returns : goal.returns
returns c =
    let s = c.args.self.now in
    let w = way s (term-row s.nodes.source.now (node_at (marks_in s.nodes.tree.now) s.mark)) c.requires.room in
    done (writes_node message_in (writes w c.write_literal.ensures) refl c.serialize_message.ensures) refl
