-- `resource::Resource::skip_blank_block` meets its contract.
use Rattle.parser.proofs.Files.{past-kept, past-lost}
use Rattle.parser.proofs.resource.Resource.skip_blank_block.Goals as goal

pub returns-then-block-ge2 : goal.returns-then-block-ge2
returns-then-block-ge2 c = past-lost _ c.skip_blank_lines-block.ensures c.if-block-ge2.true

pub returns-else-block-ge2 : goal.returns-else-block-ge2
returns-else-block-ge2 c = past-kept _ c.skip_blank_lines-block.ensures c.if-block-ge2.false
