-- `source::Source::is_current_byte` meets its contract.
use Rattle.std.proofs.Common.{rules}
use Rattle.std.specs.Prelude.{eqb}
use Rattle.entry.proofs.Tests.{test-with, starting-tests}
use Rattle.entry.proofs.source.Source.is_current_byte.Goals as goal

pub returns : goal.returns
returns c = test-with _ (starting-tests (λ y. eqb y c.args.b) _ _ (λ b r e. search rules) c.starts.ensures)
