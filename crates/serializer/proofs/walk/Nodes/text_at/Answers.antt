-- `walk::Nodes::text_at` meets its contract.
use native.Mathlib.Omega.{arith}
use Rattle.syntax.specs.Layout.{count, capacity}
use Rattle.tree.specs.Words.{place_in, text_in}
use Rattle.tree.proofs.Words.{text-words}
use Rattle.serializer.proofs.walk.Nodes.text_at.Goals as goal

pub bounds-self-1 : goal.bounds-self-1
unfolding count capacity place_in
bounds-self-1 c = let a = c.args in omega (arith, text-words a.self.source.now a.self.tree.now c.args.self.fit c.requires)

pub overflow_add-start : goal.overflow_add-start
unfolding count capacity place_in
overflow_add-start c = let a = c.args in omega (arith, text-words a.self.source.now a.self.tree.now c.args.self.fit c.requires)

pub offset_bounds-self-places : goal.offset_bounds-self-places
unfolding count capacity place_in
offset_bounds-self-places c =
    let a = c.args in omega (arith, text-words a.self.source.now a.self.tree.now c.args.self.fit c.requires)

pub bounds-self-places : goal.bounds-self-places
unfolding count capacity place_in
bounds-self-places c = let a = c.args in omega (arith, text-words a.self.source.now a.self.tree.now c.args.self.fit c.requires)

pub overflow_add-end : goal.overflow_add-end
unfolding count capacity place_in
overflow_add-end c = let a = c.args in omega (arith, text-words a.self.source.now a.self.tree.now c.args.self.fit c.requires)

pub overflow_add-end-2 : goal.overflow_add-end-2
unfolding count capacity place_in
overflow_add-end-2 c = let a = c.args in omega (arith, text-words a.self.source.now a.self.tree.now c.args.self.fit c.requires)

pub offset_bounds-self-places-2 : goal.offset_bounds-self-places-2
unfolding count capacity place_in
offset_bounds-self-places-2 c =
    let a = c.args in omega (arith, text-words a.self.source.now a.self.tree.now c.args.self.fit c.requires)

pub bounds-self-places-2 : goal.bounds-self-places-2
unfolding count capacity place_in
bounds-self-places-2 c =
    let a = c.args in omega (arith, text-words a.self.source.now a.self.tree.now c.args.self.fit c.requires)

pub slice_bounds-result-count : goal.slice_bounds-result-count
unfolding count capacity place_in
slice_bounds-result-count c =
    let a = c.args in omega (arith, text-words a.self.source.now a.self.tree.now c.args.self.fit c.requires)

pub slice_bounds-result-start : goal.slice_bounds-result-start
unfolding count capacity place_in
slice_bounds-result-start c =
    let a = c.args in omega (arith, text-words a.self.source.now a.self.tree.now c.args.self.fit c.requires)

pub slice_bounds-result-end : goal.slice_bounds-result-end
unfolding count capacity place_in
slice_bounds-result-end c =
    let a = c.args in omega (arith, text-words a.self.source.now a.self.tree.now c.args.self.fit c.requires)

pub returns : goal.returns
unfolding capacity place_in text_in
returns c = let a = c.args in (text-words a.self.source.now a.self.tree.now c.args.self.fit c.requires).same
