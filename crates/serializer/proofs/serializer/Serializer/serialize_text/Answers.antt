-- `Serializer::serialize_text` meets its contract.
use Rattle.std.proofs.Common.{sym, arith}
use Rattle.syntax.specs.Layout.{marks_in}
use Rattle.syntax.specs.Serializer.{name}
use Rattle.tree.specs.Walk.{node_at}
use Rattle.tree.proofs.Sizes.{sizes}
use Rattle.tree.proofs.Walk.{at_count, text-after}
use Rattle.serializer.proofs.Pieces.{one}
use Rattle.serializer.proofs.Ways.{way, writes, moves, done}
use Rattle.serializer.proofs.serializer.Serializer.serialize_text.Goals as goal

pub write_literal-requires : goal.write_literal-requires
unfolding name
write_literal-requires c = rw c.text_at-text.ensures c.requires.room

pub overflow_add-self : goal.overflow_add-self
overflow_add-self c =
    let tree = c.args.self.now.nodes.tree.now in
    let fit = sizes tree c.args.self.now.nodes.fit in omega (arith, fit, at_count tree fit c.requires.text_at.at)

pub returns : goal.returns
unfolding name
returns c =
    let s = c.args.self.now in
    let w = way s (one (name s.nodes.source.now (node_at (marks_in s.nodes.tree.now) s.mark))) c.requires.room in
    done (moves 2 (writes w (rw c.text_at-text.ensures at c.write_literal.ensures)))
    (sym (text-after c.requires.text_at.at c.requires.text_at.is_text))
