-- `Output::put_field` meets its contract.
use Rattle.std.proofs.Common.{arith}
use Rattle.output.proofs.Puts.{did_then}
use Rattle.output.proofs.text.Output.put_field.Goals as goal

pub returns : goal.returns
returns c = did_then c.put_number.ensures (omega arith) c.put.ensures
