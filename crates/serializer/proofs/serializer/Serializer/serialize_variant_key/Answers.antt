-- `Serializer::serialize_variant_key` meets its contract.
use Rattle.std.proofs.Common.{arith}
use Rattle.syntax.specs.Layout.{marks_in}
use Rattle.tree.proofs.Sizes.{sizes}
use Rattle.tree.proofs.Walk.{at_count}
use Rattle.tree.proofs.Contents.{variant-pair}
use Rattle.serializer.proofs.Variants.{key_row}
use Rattle.serializer.proofs.Ways.{way, moves, room, writes, text, writes_text, done}
use Rattle.serializer.proofs.serializer.Serializer.serialize_variant_key.Goals as goal

pub is_at-requires : goal.is_at-requires
is_at-requires c =
    let tree = c.args.self.now.nodes.tree.now in
    at_count tree (sizes tree c.args.self.now.nodes.fit) c.requires.one_at.at

pub mark_default-requires : goal.mark_default-requires
mark_default-requires c =
    let s = c.args.self.now in
    let w = way s (key_row s.nodes.source.now (marks_in s.nodes.tree.now) s.mark) c.requires.room in
    record { le_indent = c.requires.le_indent; room = rw c.is_at.ensures (room w) }

pub write_literal-requires : goal.write_literal-requires
write_literal-requires c =
    let s = c.args.self.now in
    let w = way s (key_row s.nodes.source.now (marks_in s.nodes.tree.now) s.mark) c.requires.room in
    room (writes w (rw c.is_at.ensures at c.mark_default.ensures))

pub overflow_add-self : goal.overflow_add-self
overflow_add-self c =
    let tree = c.args.self.now.nodes.tree.now in
    let fit = sizes tree c.args.self.now.nodes.fit in omega (arith, fit, at_count tree fit c.requires.one_at.at)

pub serialize_text-requires : goal.serialize_text-requires
serialize_text-requires c =
    let s = c.args.self.now in
    let w = way s (key_row s.nodes.source.now (marks_in s.nodes.tree.now) s.mark) c.requires.room in
    let w₂ = moves 1 (writes (writes w (rw c.is_at.ensures at c.mark_default.ensures)) c.write_literal.ensures) in
    let t = text w₂ (variant-pair c.requires.one_at).key in
    record { text_at = t.text_at; room = t.room }

pub write_literal-requires-2 : goal.write_literal-requires-2
write_literal-requires-2 c =
    let s = c.args.self.now in
    let w = way s (key_row s.nodes.source.now (marks_in s.nodes.tree.now) s.mark) c.requires.room in
    let w₂ = moves 1 (writes (writes w (rw c.is_at.ensures at c.mark_default.ensures)) c.write_literal.ensures) in
    room (writes_text w₂ (variant-pair c.requires.one_at).key c.serialize_text.ensures)

pub returns : goal.returns
returns c =
    let s = c.args.self.now in
    let w = way s (key_row s.nodes.source.now (marks_in s.nodes.tree.now) s.mark) c.requires.room in
    let w₂ = moves 1 (writes (writes w (rw c.is_at.ensures at c.mark_default.ensures)) c.write_literal.ensures) in
    let t = (variant-pair c.requires.one_at).key in
    done (writes (writes_text w₂ t c.serialize_text.ensures) c.write_literal-2.ensures) (omega arith)
