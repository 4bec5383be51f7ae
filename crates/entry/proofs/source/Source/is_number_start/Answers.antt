-- `source::Source::is_number_start` meets its contract.
use Rattle.std.specs.Prelude.{◌||◌, ◌==◌}
use Rattle.syntax.specs.Byte as Byte
use Rattle.syntax.specs.Bytes.{is_digit}
use Rattle.entry.proofs.Tests.{starting-tests}
use Rattle.entry.proofs.source.Source.is_number_start.Goals as goal

pub returns : goal.returns
returns c = starting-tests (λ b. is_digit b || b == Byte.minus) _ _ (λ b r e. e) c.starts.ensures
