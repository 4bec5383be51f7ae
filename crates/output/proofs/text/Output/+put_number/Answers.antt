-- `Output::put_number` meets its contract: the number falls.
use Rattle.std.proofs.Common.{sym, arith}
use Rattle.output.proofs.Digits.{decimal-one, decimal-last}
use Rattle.output.proofs.Puts.{did_as, did_then}
use Rattle.output.proofs.text.Output.+put_number.Goals as goal

pub returns-then-x-lt-BASE : goal.returns-then-x-lt-BASE
returns-then-x-lt-BASE t c =
    did_as c.put.ensures (sym (decimal-one c.args.x c.if-x-lt-BASE.true))

pub returns : goal.returns
returns t c =
    did_as
    (did_then c.put_number.ensures (omega arith) c.put-2.ensures)
    (sym (decimal-last c.args.x c.if-x-lt-BASE.false c.ranges.x.fits))
