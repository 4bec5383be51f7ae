-- `parser::Parser::get_comment` meets its contract.
use Rattle.std.specs.Prelude.{◌≡◌, ◌-◌, length}
use Rattle.entry.specs.Level.{number_if}
use Rattle.entry.proofs.Comments.{Commenting}
use Rattle.entry.proofs.parser.Parser.get_comment.Given as goal

abbrev pub invariant-loop-line_level : goal.invariant-loop-line_level
invariant-loop-line_level l = record {
  same : l.self.tree.ghost_name ≡ l.initial.self.tree.ghost_name;
  going : Commenting l.initial.self l.self (number_if l.level);
}

abbrev pub decreases-loop-line_level : goal.decreases-loop-line_level
decreases-loop-line_level l = length l.self.source.bytes.now - l.self.source.ptr
