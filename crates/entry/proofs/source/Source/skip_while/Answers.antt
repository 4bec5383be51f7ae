-- `source::Source::skip_while` meets its contract.
use mathlib.Core.Path.{refl}
use Rattle.entry.proofs.Run.{counted-rest}
use Rattle.entry.proofs.source.Source.skip_while.Goals as goal

pub returns : goal.returns
returns g c = record { bytes = refl; counted = counted-rest c.args.self.now.bytes.now c.args.self.now.ptr c.count_while-n.ensures; end = refl }
