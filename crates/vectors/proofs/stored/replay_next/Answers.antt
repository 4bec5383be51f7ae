-- The head that `replay_next` reads is as small as the trait says.
use native.Mathlib.Omega.{arith}
use Rattle.vectors.proofs.stored.replay_next.Goals as goal

pub read_head-requires : goal.read_head-requires
read_head-requires g c = let (some, small) = g.met.C.Stored.head_size in (omega (arith, small), (some, small))
