-- `Serializer::serialize_comment` meets its contract: in the loop, with the lines that are left the comment is written.
use Rattle.std.proofs.Common.{refl, arith}
use Rattle.tree.proofs.Sizes.{sizes}
use Rattle.tree.proofs.Walk.{at_count, inside-count}
use Rattle.serializer.proofs.Comments.{lines-first}
use Rattle.serializer.specs.Writer.{place_of}
use Rattle.serializer.specs.Serialize.{output_of}
use Rattle.serializer.proofs.Loops.{carried-mark, comment-turn, comment-done}
use Rattle.serializer.proofs.Numbers.{is, other}
use Rattle.serializer.proofs.serializer.Serializer.serialize_comment.Goals as goal

pub overflow_add-self : goal.overflow_add-self
overflow_add-self c =
    let tree = c.args.self.now.nodes.tree.now in
    let fit = sizes tree c.args.self.now.nodes.fit in omega (arith, fit, at_count tree fit c.requires.comment_at.at)

pub loop-line-init : goal.loop-line-init
loop-line-init c =
    let s = c.args.self.now in
    record {
      carried = record { same_reference = refl; is = refl };
      lines =
          lines-first s.nodes.source.now s.nodes.tree.now c.args.prefix.now (output_of s) (place_of s.writer) s.mark
          c.requires.comment_at c.requires.room;
    }

pub is_at-requires : goal.is_at-requires
is_at-requires c =
    let tree = c.args.self.now.nodes.tree.now in
    let r = c.loop-line.invariant in
    let k = carried-mark r.carried (inside-count tree (sizes tree c.args.self.now.nodes.fit) r.lines.here) in
    k

pub text_at-line-requires : goal.text_at-line-requires
text_at-line-requires c =
    let tree = c.args.self.now.nodes.tree.now in
    let r = c.loop-line.invariant in
    let k = carried-mark r.carried (inside-count tree (sizes tree c.args.self.now.nodes.fit) r.lines.here) in
    (comment-turn r (is c.is_at.ensures c.loop-line-test.true)).text

pub write_comment_line-requires : goal.write_comment_line-requires
write_comment_line-requires c =
    rw c.text_at-line.ensures (comment-turn c.loop-line.invariant (is c.is_at.ensures c.loop-line-test.true)).room

pub overflow_add-self-in-loop-line : goal.overflow_add-self-in-loop-line
overflow_add-self-in-loop-line c =
    let tree = c.args.self.now.nodes.tree.now in
    let fit = sizes tree c.args.self.now.nodes.fit in omega (arith, fit, inside-count tree fit c.loop-line.invariant.lines.here)

pub loop-line-smaller : goal.loop-line-smaller
loop-line-smaller c =
    let tree = c.args.self.now.nodes.tree.now in
    omega (arith, inside-count tree (sizes tree c.args.self.now.nodes.fit) c.loop-line.invariant.lines.here)

pub loop-line-preserved : goal.loop-line-preserved
loop-line-preserved c =
    (comment-turn c.loop-line.invariant (is c.is_at.ensures c.loop-line-test.true)).on _ _
    (rw c.text_at-line.ensures at c.write_comment_line.ensures)

pub overflow_add-self-2 : goal.overflow_add-self-2
overflow_add-self-2 c =
    let tree = c.args.self.now.nodes.tree.now in
    let fit = sizes tree c.args.self.now.nodes.fit in omega (arith, fit, inside-count tree fit c.loop-line.invariant.lines.here)

pub returns : goal.returns
returns c =
    comment-done c.requires.comment_at c.loop-line.invariant (other c.is_at.ensures c.loop-line-test.false)
