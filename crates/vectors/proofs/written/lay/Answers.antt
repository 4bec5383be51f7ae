-- `written::lay` meets its contract: the words that are copied, then the zeros.
use native.Mathlib.Omega.{arith}
use mathlib.Core.Path.{ap, ◌∙◌}
use lib.ListN.{replicate}
use Rattle.vectors.proofs.Longs.{array-laid}
use Rattle.vectors.proofs.written.lay.Goals as goal

pub returns : goal.returns
returns c =
    array-laid _ _ _ _ c.copy.ensures
    (c.fill.ensures.after (λ y e. e)
    ∙ ap (λ k. replicate k 0) (omega (arith, c.split_at_mut-start.ensures.front_len, c.split_at_mut-start.ensures.back_len, c.copy.auto.words)))
