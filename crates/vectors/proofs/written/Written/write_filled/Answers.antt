-- `write_filled` meets its contract.
use Rattle.vectors.proofs.Rewrites.{did_write}
use Rattle.vectors.proofs.written.Written.write_filled.Goals as goal

pub returns : goal.returns
returns c = did_write _ _ _ _ _ _ _ _ c.lay_tree.ensures (c.fill.ensures.after (λ y e. e)) c.write.ensures
