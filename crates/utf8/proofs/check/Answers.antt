-- `utf8::check` meets its contract. The loop's invariant: what the definition finds in the source it finds from `at` on.
use Rattle.std.proofs.Common.{◌≤◌, ◌<◌, ◌-◌, ℕ, length, drop, arith, sym, ap, ◌∙◌, add-zero, length-drop, min}
use Rattle.std.proofs.Math.Option.{Option, some}
use Rattle.utf8.specs.Utf8.{checked_of, moved}
use Rattle.utf8.proofs.Windows.{found_onward, window_ill, ill-none}
use Rattle.utf8.proofs.check.Goals as goal

pub returns-then-valid-eq0 : goal.returns-then-valid-eq0
unfolding checked_of
returns-then-valid-eq0 c =
    let at = c.loop-at.at in
    let n = length-drop at c.args.source.now in
    let k = c.min-end.result - at in
    let h : (0 < k) × (min 4 (length (drop at c.args.source.now)) ≤ k) = omega (arith, n, c.min-end.ensures, c.loop-at-test.true) in
    let ill =
    window_ill (drop at c.args.source.now) k h.0 h.1 (sym c.valid_length-valid.ensures ∙ c.if-valid-eq0.true) (omega (arith, n)) in
    sym (ap checked_of (c.loop-at.invariant.found ∙ ap (moved at) ill ∙ ap {B = Option ℕ} some (add-zero at)))

pub overflow_add-at : goal.overflow_add-at
overflow_add-at c = omega arith

pub loop-at-preserved : goal.loop-at-preserved
loop-at-preserved c =
    rw c.valid_length-valid.ensures
    (found_onward _ c.loop-at.at _ c.loop-at.invariant (omega (arith, c.min-end.ensures, length-drop c.loop-at.at c.args.source.now)))

pub overflow_add-at-in-loop-at : goal.overflow_add-at-in-loop-at
overflow_add-at-in-loop-at c = omega (arith, (loop-at-preserved c).inside)

pub returns : goal.returns
unfolding checked_of
returns c = sym (ap checked_of (ill-none _ c.loop-at.at c.loop-at-test.false c.loop-at.invariant.found))
