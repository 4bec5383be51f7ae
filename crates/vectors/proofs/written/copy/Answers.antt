-- `written::copy` meets its contract: every word passed is the stored one.
use native.Mathlib.Omega.{arith}
use Prim.Native.Nat.{◌/◌}
use mathlib.Core.List.{[]}
use mathlib.Core.Path.{◌≡◌, ap, ◌∙◌}
use lib.ListN.{length, length-set, get_or}
use Rattle.std.specs.Int.{from_le_bytes, w32}
use Rattle.std.specs.Simd.{first_chunks}
use Rattle.std.proofs.lemmas.List.Edits.{fill_by_more}
use Rattle.vectors.proofs.Longs.{all-copied}
use Rattle.vectors.proofs.written.copy.Goals as goal

pub loop-i-preserved : goal.loop-i-preserved
loop-i-preserved c =
    let (long, inv) = c.loop-i.invariant in (
      length-set _ _ _ ∙ long,
      rw c.from_le_bytes.ensures
          (fill_by_more (λ k. from_le_bytes w32 (get_or c.as_chunks.result.0.now k [])) c.loop-i.words c.loop-i.i 0 (omega (arith, c.requires, c.as_chunks.ensures.front_len)) inv),
    )

pub returns : goal.returns
returns c =
    let (long, inv) = c.loop-i.invariant in
    let chunks = c.as_chunks.ensures in
    let n : length c.args.stored.now / 4 ≡ length c.loop-i.words = omega (arith, c.requires) in
    all-copied _ _ _ c.loop-i.i (omega (arith, c.requires)) (chunks.front ∙ ap (λ k. first_chunks 4 k c.args.stored.now) n)
    (omega arith) (chunks.front_len ∙ n) inv
