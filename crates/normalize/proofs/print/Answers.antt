-- The text that was written fits the output.
use mathlib.Core.Path.{sym}
use lib.Seq.{length-take-le}
use Rattle.normalize.proofs.Outcome.{normal-fits}
use Rattle.normalize.proofs.print.Goals as goal

pub slice_bounds-output-end : goal.slice_bounds-output-end
slice_bounds-output-end g c = normal-fits c.normalize.ensures c.in-Ok.is

pub slice_bounds-write_all-end : goal.slice_bounds-write_all-end
slice_bounds-write_all-end g c = sym (length-take-le _ _ (normal-fits c.normalize.ensures c.in-Ok.is))
