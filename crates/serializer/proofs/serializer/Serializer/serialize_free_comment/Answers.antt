-- `Serializer::serialize_free_comment` meets its contract.
use Rattle.std.proofs.Common.{ℕ, List, refl}
use Rattle.syntax.specs.Layout.{marks_in}
use Rattle.syntax.specs.Serializer.{Node, Piece, comment}
use Rattle.tree.specs.Walk.{node_at}
use Rattle.serializer.proofs.Pieces.{free-row}
use Rattle.serializer.proofs.Ways.{way, room, writes, writes_node, done}
use Rattle.serializer.proofs.serializer.Serializer.serialize_free_comment.Goals as goal

pub newline_after_entry-requires : goal.newline_after_entry-requires
newline_after_entry-requires c =
    let s = c.args.self.now in
    let inner = (node_at (marks_in s.nodes.tree.now) s.mark).inner in
    room (way s (free-row s.nodes.source.now c.args.wrote_non_junk_entry c.args.prefix.now inner) c.requires.room)

pub serialize_comment-requires : goal.serialize_comment-requires
serialize_comment-requires c =
    let s = c.args.self.now in
    let inner = (node_at (marks_in s.nodes.tree.now) s.mark).inner in
    let w = way s (free-row s.nodes.source.now c.args.wrote_non_junk_entry c.args.prefix.now inner) c.requires.room in
    record {
      comment_at = c.requires.comment_at;
      room = room (writes w c.newline_after_entry.ensures);
    }

pub newline-requires : goal.newline-requires
newline-requires c =
    let s = c.args.self.now in
    let inner = (node_at (marks_in s.nodes.tree.now) s.mark).inner in
    let w = way s (free-row s.nodes.source.now c.args.wrote_non_junk_entry c.args.prefix.now inner) c.requires.room in
    let piece : List ℕ → Node → Piece = λ source n. comment source c.args.prefix.now n.inner in
    room (writes_node piece (writes w c.newline_after_entry.ensures) refl c.serialize_comment.ensures)

pub returns : goal.returns
returns c =
    let s = c.args.self.now in
    let inner = (node_at (marks_in s.nodes.tree.now) s.mark).inner in
    let w = way s (free-row s.nodes.source.now c.args.wrote_non_junk_entry c.args.prefix.now inner) c.requires.room in
    let piece : List ℕ → Node → Piece = λ source n. comment source c.args.prefix.now n.inner in
    let w₂ = writes_node piece (writes w c.newline_after_entry.ensures) refl c.serialize_comment.ensures in
    done (writes w₂ c.newline.ensures) refl
