-- `source::Source::starts` meets its contract.
use Rattle.std.proofs.Common.{rules}
use Rattle.entry.proofs.Tests.{starting-got}
use Rattle.entry.proofs.source.Source.starts.Goals as goal

pub returns : goal.returns
returns g c = starting-got _ c.is_some_and.result c.get.result (record { some = c.get.ensures.lookup.0; byte = c.get.ensures.lookup.1 }) (search rules)
