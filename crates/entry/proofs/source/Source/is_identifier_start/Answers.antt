-- `source::Source::is_identifier_start` meets its contract.
use Rattle.std.proofs.Common.{rules}
use Rattle.syntax.specs.Bytes.{is_letter}
use Rattle.entry.proofs.Tests.{starting-tests}
use Rattle.entry.proofs.source.Source.is_identifier_start.Goals as goal

pub returns : goal.returns
unfolding is_letter
returns c = starting-tests is_letter _ _ (λ b r e. search rules) c.starts.ensures
