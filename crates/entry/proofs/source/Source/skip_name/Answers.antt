-- `source::Source::skip_name` meets its contract.
use Rattle.syntax.specs.Bytes.{is_name_part}
use Rattle.entry.proofs.Run.{skips-run}
use Rattle.entry.proofs.source.Source.skip_name.Goals as goal

pub returns : goal.returns
returns c = record { bytes = c.skip_while.ensures.bytes; passed = (skips-run is_name_part (λ b r e. e) c.skip_while.ensures).0 }
