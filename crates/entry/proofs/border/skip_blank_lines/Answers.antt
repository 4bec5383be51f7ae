-- `border::skip_blank_lines` meets its contract, past the end and in the source.
use borrow.Author.Rules.{rules}
use Rattle.entry.proofs.Guards.{skipped, skipped-none}
use Rattle.entry.proofs.border.skip_blank_lines.Goals as goal

pub returns-then-source-at : goal.returns-then-source-at
returns-then-source-at c = skipped-none _ _ c.if-source-at.true

pub blank_block-requires : goal.blank_block-requires
blank_block-requires c = search rules

pub returns : goal.returns
returns c = skipped _ c.blank_block.ensures
