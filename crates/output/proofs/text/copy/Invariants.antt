-- `text::copy` meets its contract: in the loop the bytes so far have been stored.
use Rattle.std.proofs.Common.{◌≡◌, take}
use lib.Seq.{sets}
use Rattle.output.proofs.text.copy.Given as goal

abbrev pub invariant-loop-i : goal.invariant-loop-i
invariant-loop-i l = l.bytes ≡ sets l.initial.bytes 0 (take l.i l.item)
