-- `marks::after_node` meets its contract: in the loop, as many nodes are open as are counted.
use Prim.Native.Nat.{◌+◌}
use native.Mathlib.Nat.{add-zero}
use native.Mathlib.Omega.{arith}
use mathlib.Core.Path.{◌≡◌, ap}
use lib.ListN.{length}
use Rattle.tree.proofs.Words.{kind-in-part, part-length, none_passed, passing-first, passing-open}
use Rattle.tree.proofs.Words.{passing-close, passing-last, passing-end}
use Rattle.tree.proofs.marks.after_node.Goals as goal
use Rattle.tree.proofs.marks.after_node.Goals.{then-kind-lt-CLOSING, else-kind-lt-CLOSING+else-depth-eq0}

pub returns-then-kinds-mark : goal.returns-then-kinds-mark
returns-then-kinds-mark c = none_passed _ _ (rw c.kinds-kinds.ensures at c.if-kinds-mark.true)

pub loop-i-init : goal.loop-i-init
loop-i-init c = rw add-zero (passing-first _ _ (rw c.kinds-kinds.ensures at c.if-kinds-mark.false))

pub returns-then-depth-eq0 : goal.returns-then-depth-eq0
returns-then-depth-eq0 c =
    let k = kind-in-part _ _ _ _ c.kinds-kinds.ensures c.loop-i-test.true in
    passing-last _ _ c.loop-i.invariant k.0 (rw k.1 at c.if-kind-lt-CLOSING.false) c.if-depth-eq0.true

pub loop-i-preserved : goal.loop-i-preserved
loop-i-preserved c =
    let k = kind-in-part _ _ _ _ c.kinds-kinds.ensures c.loop-i-test.true in
    let i = c.loop-i.i in
    let e : c.args.mark + 1 + (i + 1) ≡ c.args.mark + 1 + i + 1 = omega arith in
    rw e
    (elim c.if-kind-lt-CLOSING.branch [
      | then-kind-lt-CLOSING w ↦ rw w.depth-is (passing-open _ _ c.loop-i.invariant k.0 (rw k.1 at w.if-kind-lt-CLOSING.true))
      | else-kind-lt-CLOSING+else-depth-eq0 w ↦ rw w.depth-is
          (passing-close _ _ c.loop-i.invariant k.0 (rw k.1 at w.if-kind-lt-CLOSING.false) w.if-depth-eq0.false)
    ])

pub returns : goal.returns
returns c =
    let n = part-length c.args.tree.now _ (c.args.mark + 1) c.kinds-kinds.ensures in
    let e = ap length c.kinds-kinds.ensures in
    let l : length c.kinds-kinds.result.now ≡ c.args.mark + 1 + c.loop-i.i = omega (arith, n, c.loop-i-test.false) in
    rw l (passing-end _ _ c.loop-i.invariant (omega arith))
