-- `source::Source::skip_blank` meets its contract.
use Rattle.std.specs.Prelude.{◌-◌, length}
use Rattle.syntax.specs.Helper.{blank_turn}
use Rattle.entry.proofs.Turns.{Turning}
use Rattle.entry.proofs.source.Source.skip_blank.Given as goal

abbrev pub invariant-loop-ptr : goal.invariant-loop-ptr
invariant-loop-ptr l = Turning blank_turn l.self.bytes.now l.self.ptr tt l.ptr tt

abbrev pub decreases-loop-ptr : goal.decreases-loop-ptr
decreases-loop-ptr l = length l.self.bytes.now - l.ptr
