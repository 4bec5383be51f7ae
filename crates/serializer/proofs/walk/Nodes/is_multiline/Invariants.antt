-- `Nodes::is_multiline` meets its contract: in the loop, the elements so far take a line each.
use Prim.Native.Nat.{◌-◌}
use mathlib.Core.Path.{◌≡◌}
use Rattle.utf8.specs.Utf8.{is_boundary}
use Rattle.syntax.specs.Kind as Kind
use Rattle.syntax.specs.Layout.{count, marks_in}
use Rattle.syntax.specs.Shape.{start}
use Rattle.syntax.specs.Serializer.{nodes, is_multiline}
use Rattle.tree.specs.Walk.{node_at, inner_at, Open}
use Rattle.serializer.proofs.walk.Nodes.is_multiline.Given as goal

abbrev pub invariant-loop-self : goal.invariant-loop-self
invariant-loop-self l =
    Open (is_boundary l.self.source.now) (marks_in l.self.tree.now) l.next Kind.pattern start
    × (is_multiline l.self.source.now (nodes (node_at (marks_in l.self.tree.now) l.mark).inner)
    ≡ is_multiline l.self.source.now (nodes (inner_at (marks_in l.self.tree.now) l.next)))

abbrev pub decreases-loop-self : goal.decreases-loop-self
decreases-loop-self l = count l.self.tree.now - l.next
