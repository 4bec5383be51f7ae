-- The measures and the invariants.
use Prim.Native.Nat.{◌-◌}
use Rattle.syntax.specs.Layout.{count}
use Rattle.serializer.proofs.walk.Nodes.+is_select_expr.Given as goal

abbrev pub decreases-is_select_expr : goal.decreases-is_select_expr
decreases-is_select_expr l = count l.self.tree.now - l.mark
