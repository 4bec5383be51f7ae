-- `read_source` meets its contract: what was read so far stands at the start of the buffer.
use native.Mathlib.Omega.{arith}
use Rattle.input.proofs.Pieces.{read_more, read_none}
use Rattle.input.proofs.read_source.Goals as goal
use Rattle.input.proofs.read_source.Goals.{in-Ok, in-Err}

pub loop-preserved : goal.loop-preserved
loop-preserved g c =
    let (within, so_far) = c.loop.invariant in
    elim c.match-read.branch [
      | in-Ok w ↦
          let read = w.in-Ok.ensures in
          read_more _ _ _ within (omega (arith, c.read.auto.buf)) _ _ _ so_far _ w.in-Ok.n w.length-is read.bound.0 read.bytes.0
      | in-Err w ↦
          read_none _ _ _ within (omega (arith, c.read.auto.buf)) _ _ _ so_far _ w.length-is w.in-Err.ensures.bytes
    ]
