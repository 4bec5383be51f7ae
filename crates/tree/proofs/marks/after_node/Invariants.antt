-- `marks::after_node` meets its contract: in the loop, as many nodes are open as are counted.
use Prim.Native.Nat.{◌+◌}
use Rattle.tree.proofs.Words.{Passing}
use Rattle.tree.proofs.marks.after_node.Given as goal

abbrev pub invariant-loop-i : goal.invariant-loop-i
invariant-loop-i l = Passing l.tree l.mark l.depth (l.mark + 1 + l.i)
