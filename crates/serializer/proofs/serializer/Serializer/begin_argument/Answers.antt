-- `Serializer::begin_argument` meets its contract.
use Rattle.std.proofs.Common.{◌+◌, sym, add-zero, arith}
use Rattle.syntax.specs.Layout.{marks_in}
use Rattle.syntax.specs.Serializer.{if}
use Rattle.tree.specs.Walk.{node_at}
use Rattle.tree.proofs.Sizes.{sizes}
use Rattle.tree.proofs.Walk.{at_count}
use Rattle.tree.proofs.Contents.{argument-pair}
use Rattle.serializer.proofs.Variants.{name-row}
use Rattle.serializer.proofs.Ways.{stays, way, moves, room, writes, text, writes_text, done}
use Rattle.serializer.proofs.serializer.Serializer.begin_argument.Goals as goal

pub returns-then-not-named : goal.returns-then-not-named
unfolding if
returns-then-not-named c = rw c.if-not-named.true (stays (sym (add-zero c.args.self.now.mark)))

pub overflow_add-self : goal.overflow_add-self
overflow_add-self c =
    let tree = c.args.self.now.nodes.tree.now in
    let fit = sizes tree c.args.self.now.nodes.fit in omega (arith, fit, at_count tree fit (c.requires.at c.if-not-named.false))

pub serialize_text-requires : goal.serialize_text-requires
unfolding if
serialize_text-requires c =
    let s = c.args.self.now in
    let row = name-row s.nodes.source.now (node_at (marks_in s.nodes.tree.now) (s.mark + 1)) in
    let w = moves 1 (way s row (rw c.if-not-named.false at c.requires.room)) in
    let t = text w (argument-pair (c.requires.at c.if-not-named.false)).key in
    record { text_at = t.text_at; room = t.room }

pub write_literal-requires : goal.write_literal-requires
unfolding if
write_literal-requires c =
    let s = c.args.self.now in
    let row = name-row s.nodes.source.now (node_at (marks_in s.nodes.tree.now) (s.mark + 1)) in
    let w = moves 1 (way s row (rw c.if-not-named.false at c.requires.room)) in
    room (writes_text w (argument-pair (c.requires.at c.if-not-named.false)).key c.serialize_text.ensures)

pub returns : goal.returns
unfolding if
returns c =
    let s = c.args.self.now in
    let row = name-row s.nodes.source.now (node_at (marks_in s.nodes.tree.now) (s.mark + 1)) in
    let w = moves 1 (way s row (rw c.if-not-named.false at c.requires.room)) in
    let t = (argument-pair (c.requires.at c.if-not-named.false)).key in
    rw c.if-not-named.false (done (writes (writes_text w t c.serialize_text.ensures) c.write_literal.ensures) (omega arith))
