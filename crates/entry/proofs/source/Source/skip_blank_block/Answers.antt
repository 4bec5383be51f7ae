-- `source::Source::skip_blank_block` meets its contract.
use mathlib.Core.Path.{refl}
use Rattle.entry.proofs.source.Source.skip_blank_block.Goals as goal

pub returns : goal.returns
returns c = record { bytes = refl; went = c.blank_block-block.ensures }
