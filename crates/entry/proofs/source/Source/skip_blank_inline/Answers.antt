-- `source::Source::skip_blank_inline` meets its contract.
use Rattle.std.specs.Prelude.{◌==◌}
use Rattle.syntax.specs.Byte as Byte
use Rattle.syntax.specs.Bytes.{spaces}
use Rattle.syntax.specs.Helper.{skip_blank_inline}
use mathlib.Core.Path.{refl}
use Rattle.entry.proofs.Run.{skips-run}
use Rattle.entry.proofs.Moves.{goes}
use Rattle.entry.proofs.source.Source.skip_blank_inline.Goals as goal

pub returns : goal.returns
unfolding skip_blank_inline spaces
returns c =
    let p = skips-run (λ b. b == Byte.space) (λ b r e. e) c.skip_while.ensures in
    goes c.skip_while.ensures.bytes (rw p.1 refl) c.skip_while.ensures.end p.0.within
