-- `put_pair` meets its contract.
use Rattle.std.proofs.Common.{[], arith}
use Rattle.output.proofs.Lines.{put_first, put_last}
use Rattle.marks.proofs.listing.put_pair.Goals as goal

pub returns : goal.returns
returns c =
    let start = c.args in put_first start.x start.y [] (omega arith) c.put_field.ensures (put_last start.y c.put_field-2.ensures)
