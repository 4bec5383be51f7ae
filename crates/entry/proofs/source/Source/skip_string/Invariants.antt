-- `source::Source::skip_string` meets its contract.
use Rattle.std.specs.Prelude.{◌≡◌, ◌-◌, length}
use Rattle.syntax.specs.Expression.{string_turn}
use Rattle.entry.proofs.Turns.{Turning}
use Rattle.entry.proofs.source.Source.skip_string.Given as goal

abbrev pub invariant-loop-b : goal.invariant-loop-b
invariant-loop-b l =
    record {
      bytes : l.self.bytes ≡ l.initial.self.bytes;
      turns : Turning string_turn l.initial.self.bytes.now l.initial.self.ptr tt l.self.ptr tt;
    }

abbrev pub decreases-loop-b : goal.decreases-loop-b
decreases-loop-b l = length l.self.bytes.now - l.self.ptr
