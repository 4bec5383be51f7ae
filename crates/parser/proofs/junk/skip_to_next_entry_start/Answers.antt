-- `junk::skip_to_next_entry_start` meets its contract: bytes passed until a line starts an entry.
use Rattle.parser.proofs.Seeks.{seeking-none, seeking-end, seeking-found, seeking-more}
use Rattle.parser.proofs.junk.skip_to_next_entry_start.Goals as goal

pub loop-end-init : goal.loop-end-init
loop-end-init c = seeking-none _ _ _ c.requires.inside c.is_line_start-new_line.ensures

pub returns-then-is_entry_start : goal.returns-then-is_entry_start
returns-then-is_entry_start c =
    seeking-found c.loop-end.invariant c.loop-end-test.true c.is_entry_start.ensures c.if-is_entry_start.true

pub loop-end-preserved : goal.loop-end-preserved
loop-end-preserved c =
    seeking-more c.loop-end.invariant c.loop-end-test.true c.is_entry_start.ensures c.if-is_entry_start.false

pub returns : goal.returns
returns c = seeking-end c.loop-end.invariant c.loop-end-test.false
