-- `skip_separator` meets its contract.
use Rattle.syntax.specs.Expression.{separator}
use Rattle.entry.proofs.Sources.{goes-both, goes-pure}
use Rattle.entry.proofs.source.Source.skip_separator.Goals as goal

pub returns : goal.returns
unfolding separator
returns c names =
    goes-both _ _ c.skip_blank.ensures (goes-both _ _ c.take_byte_if.ensures (goes-both _ _ c.skip_blank-2.ensures (goes-pure _ names)))
