-- `parser::Parser::put_comment_line` meets its contract.
use native.Mathlib.Omega.{arith}
use Rattle.entry.specs.Reads.{rest}
use Rattle.entry.proofs.Lines.{line-ends}
use Rattle.entry.proofs.Comments.{passed-line}
use Rattle.entry.proofs.parser.Parser.put_comment_line.Goals as goal

pub skip_line_end-requires : goal.skip_line_end-requires
skip_line_end-requires c = c.requires.ends c.if-empty.true

pub returns-then-empty-clause-reads : goal.returns-then-empty-clause-reads
returns-then-empty-clause-reads c =
    let s = c.args.self.now.source in
    let e = line-ends (rest s) (c.requires.ends c.if-empty.true) in
    record {
      bytes = c.skip_line_end.ensures.bytes;
      end = s.ptr;
      text = record { end = omega (arith, e); within = s.inside };
      used = c.skip_line_end.ensures.passed;
      wrote = c.text.ensures;
    }

pub skip_line_end-requires-2 : goal.skip_line_end-requires-2
skip_line_end-requires-2 c = rw c.get_comment_line.ensures.bytes (passed-line c.get_comment_line.ensures.passed)
