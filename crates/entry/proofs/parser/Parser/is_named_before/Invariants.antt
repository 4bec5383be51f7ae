-- `is_named_before`: in the loop, the name is among all just where it is among those that are left.
use Rattle.entry.proofs.NamedBefore.{Looking}
use Rattle.entry.proofs.parser.Parser.is_named_before.Given as goal

abbrev pub invariant-loop-i : goal.invariant-loop-i
invariant-loop-i l = Looking l.self.source.bytes.now l.self.tree.now.words.now l.name l.self.tree.now.capacity l.from l.to l.i l.depth
