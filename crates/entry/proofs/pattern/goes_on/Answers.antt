-- `pattern::goes_on` meets its contract.
use Rattle.entry.proofs.Settle.{goes-cr, goes-lf, goes-byte}
use Rattle.entry.proofs.pattern.goes_on.Goals as goal

pub returns-then-b-eq13 : goal.returns-then-b-eq13
returns-then-b-eq13 c = goes-cr _ _ c.if-indent-eq0.true c.if-b-eq13.true

pub returns-else-b-eq13 : goal.returns-else-b-eq13
returns-else-b-eq13 c = goes-lf _ _ c.if-indent-eq0.true c.if-b-eq13.false

pub returns : goal.returns
returns c = goes-byte _ _ c.if-indent-eq0.false c.is_byte_pattern_continuation.ensures
