-- `source::Source::start_pattern` meets its contract.
use Rattle.entry.proofs.Patterns.{started-here, started-below}
use Rattle.entry.proofs.source.Source.start_pattern.Goals as goal

pub returns-then-skip_eol : goal.returns-then-skip_eol
returns-then-skip_eol c = started-below c.skip_blank_inline.ensures c.skip_eol.ensures c.if-skip_eol.true c.skip_blank_block.ensures

pub returns-else-skip_eol : goal.returns-else-skip_eol
returns-else-skip_eol c = started-here c.skip_blank_inline.ensures c.skip_eol.ensures c.if-skip_eol.false
