-- `marks::Marks::settle` meets its contract.
use Rattle.entry.proofs.Settle.{Settling}
use Rattle.entry.proofs.marks.Marks.settle.Given as goal

abbrev pub invariant-loop-i : goal.invariant-loop-i
invariant-loop-i l = Settling l.source l.fn.self.capacity l.fn.from l.fn.self.count l.fn.common l.fn.self.words.now l.words l.i
