-- `replay::read_filled` meets its contract.
use Rattle.vectors.proofs.Replays.{did_read}
use Rattle.vectors.proofs.replay.read_filled.Goals as goal

pub returns : goal.returns
returns c = did_read _ _ _ _ _ _ _ _ (c.fill.ensures.after (λ y e. e)) (c.fill-2.ensures.after (λ y e. e)) c.read.ensures
