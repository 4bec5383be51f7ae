-- `helper::is_byte_at` meets its contract.
use Rattle.std.proofs.Common.{rules}
use Rattle.std.specs.Prelude.{eqb}
use Rattle.entry.proofs.Tests.{test-with, test-got}
use Rattle.entry.proofs.helper.is_byte_at.Goals as goal

pub returns : goal.returns
returns c =
    test-with c.args.b
    (test-got (λ y. eqb y c.args.b) c.get.result (record { some = c.get.ensures.lookup.0; byte = c.get.ensures.lookup.1 }) (search rules))
