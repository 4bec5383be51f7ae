-- `Serializer::serialize_name` meets its contract.
use Rattle.std.proofs.Common.{◌+◌, arith}
use Rattle.syntax.specs.Layout.{marks_in}
use Rattle.tree.specs.Walk.{node_at}
use Rattle.tree.proofs.Sizes.{sizes}
use Rattle.tree.proofs.Walk.{at_count}
use Rattle.serializer.proofs.Messages.{naming-row}
use Rattle.serializer.proofs.Ways.{way, moves, room, writes, text, writes_text, done}
use Rattle.serializer.proofs.serializer.Serializer.serialize_name.Goals as goal

pub overflow_add-self : goal.overflow_add-self
overflow_add-self c =
    let tree = c.args.self.now.nodes.tree.now in
    let fit = sizes tree c.args.self.now.nodes.fit in omega (arith, fit, at_count tree fit c.requires.text_at.at)

pub serialize_text-requires : goal.serialize_text-requires
serialize_text-requires c =
    let s = c.args.self.now in
    let w = moves 1 (way s (naming-row s.nodes.source.now (node_at (marks_in s.nodes.tree.now) (s.mark + 1))) c.requires.room) in
    let t = text w c.requires.text_at in record { text_at = t.text_at; room = t.room }

pub write_literal-requires : goal.write_literal-requires
write_literal-requires c =
    let s = c.args.self.now in
    let w = moves 1 (way s (naming-row s.nodes.source.now (node_at (marks_in s.nodes.tree.now) (s.mark + 1))) c.requires.room) in
    room (writes_text w c.requires.text_at c.serialize_text.ensures)

pub returns : goal.returns
returns c =
    let s = c.args.self.now in
    let w = moves 1 (way s (naming-row s.nodes.source.now (node_at (marks_in s.nodes.tree.now) (s.mark + 1))) c.requires.room) in
    done (writes (writes_text w c.requires.text_at c.serialize_text.ensures) c.write_literal.ensures) (omega arith)
