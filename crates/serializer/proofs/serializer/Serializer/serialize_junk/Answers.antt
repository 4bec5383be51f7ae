-- `Serializer::serialize_junk` meets its contract.
use Rattle.std.proofs.Common.{refl, arith}
use Rattle.syntax.specs.Kind as Kind
use Rattle.syntax.specs.Serializer.{if}
use Rattle.serializer.specs.Resource.{junk_in}
use Rattle.tree.proofs.Sizes.{sizes}
use Rattle.tree.proofs.Walk.{at_count, text-after}
use Rattle.tree.proofs.Children.{text-one}
use Rattle.serializer.proofs.Pieces.{has_empty}
use Rattle.serializer.proofs.Ways.{wrote-on}
use Rattle.serializer.proofs.serializer.Serializer.serialize_junk.Goals as goal

pub serialize_text-requires : goal.serialize_text-requires
unfolding Kind.is_text junk_in if
serialize_text-requires c =
    record {
      text_at = text-one c.requires.node refl;
      room = rw c.if-with_junk.true at c.requires.room;
    }

pub returns-then-with_junk : goal.returns-then-with_junk
unfolding junk_in if
returns-then-with_junk c = rw c.if-with_junk.true c.serialize_text.ensures

pub overflow_add-self : goal.overflow_add-self
overflow_add-self c =
    let tree = c.args.self.now.nodes.tree.now in
    let fit = sizes tree c.args.self.now.nodes.fit in omega (arith, fit, at_count tree fit c.requires.node.at)

pub returns : goal.returns
unfolding junk_in if Kind.is_text
returns c =
    let t = text-one c.requires.node refl in
    rw (c.if-with_junk.false, text-after t.at t.is_text) (wrote-on has_empty)
