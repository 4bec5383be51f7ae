-- `get_attributes` meets its contract: what is read from a line's start on completes the whole.
use Rattle.std.specs.Prelude.{◌≡◌, ◌-◌, length}
use Rattle.entry.proofs.Attributes.{Attributing}
use Rattle.entry.proofs.parser.Parser.get_attributes.Given as goal

abbrev pub invariant-loop-self : goal.invariant-loop-self
invariant-loop-self l = record {
  same : l.self.tree.ghost_name ≡ l.initial.self.tree.ghost_name;
  going : Attributing l.left l.initial.self.source l.self.source l.initial.self.tree.now l.self.tree.now l.count;
}

abbrev pub decreases-loop-self : goal.decreases-loop-self
decreases-loop-self l = length l.self.source.bytes.now - l.self.source.ptr
