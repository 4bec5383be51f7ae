-- `source::Source::skip_line_end` meets its contract.
use Rattle.std.specs.Prelude.{◌<◌, ◌≤◌, length}
use native.Mathlib.Omega.{arith}
use borrow.Author.Tests.{not-true, not-false}
use Rattle.entry.proofs.Comments.{line-over, used-last, feed-some, used-comment, used-feed}
use Rattle.entry.proofs.source.Source.skip_line_end.Goals.{else-self-via-then-self+else-not-is_current_byte, else-self-via-else-self}
use Rattle.entry.proofs.source.Source.skip_line_end.Goals as goal

pub overflow_sub-self : goal.overflow_sub-self
overflow_sub-self c =
    let p = line-over c.skip_eol.ensures.went in
    let l : c.skip_eol.new.self.ptr < length c.args.self.now.bytes.now = rw c.skip_eol.ensures.bytes at c.if-self.true in
    let m = feed-some p c.requires c.args.self.now.inside (λ e. omega arith) in
    omega arith

pub returns-then-not-is_current_byte : goal.returns-then-not-is_current_byte
returns-then-not-is_current_byte c =
    let p = line-over c.skip_eol.ensures.went in
    let l : c.skip_eol.new.self.ptr < length c.args.self.now.bytes.now = rw c.skip_eol.ensures.bytes at c.if-self.true in
    record {
      bytes = c.skip_eol.ensures.bytes;
      passed = used-feed p (rw c.skip_eol.ensures.bytes at c.is_current_byte.ensures) c.requires c.args.self.now.inside (λ e. omega arith)
          (not-true _ c.if-not-is_current_byte.true-raw);
    }

pub returns-else-self : goal.returns-else-self
returns-else-self c =
    let p = line-over c.skip_eol.ensures.went in
    elim c.else-self.branch [
      | else-self-via-then-self+else-not-is_current_byte w ↦ record {
        bytes = c.skip_eol.ensures.bytes;
        passed = used-comment p (rw c.skip_eol.ensures.bytes at w.is_current_byte.ensures) (not-false _ w.if-not-is_current_byte.false-raw);
      }
      | else-self-via-else-self w ↦ record {
        bytes = c.skip_eol.ensures.bytes;
        passed =
            let l : length c.args.self.now.bytes.now ≤ c.skip_eol.new.self.ptr = rw c.skip_eol.ensures.bytes at w.if-self.false in
            let v = p.within in
            used-last p (omega arith);
      }
    ]
