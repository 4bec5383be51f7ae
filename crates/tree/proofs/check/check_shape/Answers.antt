-- `check::check_shape` meets its contract: in the loop, the check goes on from the state to the verdict.
use native.Mathlib.Omega.{arith}
use mathlib.Core.Path.{refl, sym, ap, ◌∙◌}
use Rattle.std.proofs.lemmas.List.{length_push}
use Rattle.std.proofs.lemmas.Result.{err_from_is_err_and}
use lib.ListN.{take, drop, get_or}
use Prim.Native.Nat.{◌+◌, ◌-◌}
use mathlib.Core.Path.{◌≡◌}
use Rattle.std.specs.Iterator.Adapters.{zip_first, zip_second, enumerate_source, enumerate_count}
use Rattle.std.specs.Slice.Iter.{iter_rest}
use Rattle.syntax.specs.Layout.{count, capacity, kinds, places}
use Rattle.tree.proofs.Sizes.{sizes}
use Rattle.tree.proofs.Turns.{Begun, turn-made, turns-over}
use Rattle.tree.proofs.Stands.{stands-first, stands-on, stands-refused, stands-whole, stands-early}
use Rattle.tree.proofs.check.check_shape.Goals as goal
use Rattle.tree.proofs.check.check_shape.Goals.{After-into_iter-i-iterator}

begun : (c : After-into_iter-i-iterator) → Begun c.args.tree.now c.into_iter-i-iterator.result
unfolding kinds places count capacity
begun c =
    let t = c.args.tree.now in
    let i = c.into_iter-i-iterator.ensures.into_iter_gives in
    let e = c.enumerate-i-items.ensures in
    let source = ap enumerate_source i ∙ e.source in
    let first : iter_rest (zip_first c.zip.result) ≡ take (2 + get_or t 0 0 - 2) (drop 2 t) = cc in
    let second : iter_rest (zip_second c.zip.result) ≡ take (2 + get_or t 1 0 + get_or t 0 0 - (2 + get_or t 1 0)) (drop (2 + get_or t 1 0) t) = cc in
    let n : 2 + get_or t 0 0 - 2 ≡ get_or t 0 0 = omega arith in
    let m : 2 + get_or t 1 0 + get_or t 0 0 - (2 + get_or t 1 0) ≡ get_or t 0 0 = omega arith in
    record {
      first = ap (λ s. iter_rest (zip_first s)) source ∙ first ∙ ap (λ n. take n (drop 2 t)) n;
      second = ap (λ s. iter_rest (zip_second s)) source ∙ second ∙ ap (λ n. take n (drop (2 + get_or t 1 0) t)) m;
      zeroth = ap enumerate_count i ∙ e.count;
    }

pub bounds-tree-0 : goal.bounds-tree-0
unfolding count capacity
bounds-tree-0 c = omega (arith, sizes _ c.requires)

pub bounds-tree-1 : goal.bounds-tree-1
unfolding count capacity
bounds-tree-1 c = omega (arith, sizes _ c.requires)

pub slice_bounds-kinds-end : goal.slice_bounds-kinds-end
unfolding count capacity
slice_bounds-kinds-end c = omega (arith, sizes _ c.requires)

pub slice_bounds-places-end : goal.slice_bounds-places-end
unfolding count capacity
slice_bounds-places-end c = omega (arith, sizes _ c.requires)

pub loop-i-init : goal.loop-i-init
loop-i-init c = record { stands = stands-first _ _; source = refl }

pub returns-in_err-state : goal.returns-in_err-state
unfolding kinds places count capacity
returns-in_err-state c =
    let t =
    turn-made _ (sizes _ c.requires) _
    (begun
    (goal.at.returns-in_err-state c).After-into_iter-i-iterator) _ _ c.next.new.self c.loop-i.yielded_by _ _
    c.in-Some.is c.next.ensures.steps in
    let p = err_from_is_err_and c.from_residual.result c.from_residual.ensures.1 in
    rw (p.1, p.2)
    (stands-refused _ _ (sizes _ c.requires) _ _ _ c.loop-i.invariant.stands t _ _ _
    (rw c.loop-i.invariant.source at c.step_mark.ensures.goes)
    (sym c.in_err-state.was ∙ c.ok_or.ensures.value))

pub loop-i-preserved : goal.loop-i-preserved
unfolding kinds places count capacity
loop-i-preserved c =
    let t =
    turn-made _ (sizes _ c.requires) _
    (begun
    (goal.at.loop-i-preserved c).After-into_iter-i-iterator) _ _ c.next.new.self c.loop-i.yielded_by _ _
    c.in-Some.is c.next.ensures.steps in
    record {
      stands =
          rw (length_push c.loop-i.yielded _)
          (stands-on _ _ (sizes _ c.requires) _ _ _ c.loop-i.invariant.stands t _ _ _
          (rw c.loop-i.invariant.source at c.step_mark.ensures.goes)
          (sym c.in_ok-state.was ∙ c.ok_or.ensures.value));
      source = ap (λ b. b.now) c.step_mark.ensures.source ∙ c.loop-i.invariant.source;
    }

pub returns-then-may_be_last : goal.returns-then-may_be_last
unfolding kinds places count capacity
returns-then-may_be_last c =
    let n =
    turns-over _ (sizes _ c.requires) _
    (begun
    (goal.at.returns-then-may_be_last c).After-into_iter-i-iterator) _ _ c.next.new.self c.loop-i.yielded_by _
    c.in-None.is c.next.ensures.steps in
    stands-whole _ _ (sizes _ c.requires) _ _ _ c.loop-i.invariant.stands n (c.if-may_be_last.ensures _)

pub returns-else-may_be_last : goal.returns-else-may_be_last
unfolding kinds places count capacity
returns-else-may_be_last c =
    let n =
    turns-over _ (sizes _ c.requires) _
    (begun
    (goal.at.returns-else-may_be_last c).After-into_iter-i-iterator) _ _ c.next.new.self c.loop-i.yielded_by _
    c.in-None.is c.next.ensures.steps in
    stands-early _ _ (sizes _ c.requires) _ _ _ c.loop-i.invariant.stands n (c.if-may_be_last.ensures _)
