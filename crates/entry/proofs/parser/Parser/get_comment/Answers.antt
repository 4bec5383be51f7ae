-- `parser::Parser::get_comment` meets its contract.
use mathlib.Core.Path.{refl, ◌∙◌}
use borrow.Author.Tests.{not-true, not-false}
use Rattle.entry.specs.Level.{number_if}
use Rattle.entry.proofs.Comments.{none-level, some-level, commenting-none, commenting-line, commenting-end, commenting-bad, at-over, at-last, at-empty, at-text, at-fails, at-other}
use Rattle.entry.proofs.parser.Parser.get_comment.Goals.{else-not-empty-via-then-not-empty+else-not-take_byte_if, else-not-empty-via-else-not-empty}
use Rattle.entry.proofs.parser.Parser.get_comment.Goals as goal

pub loop-line_level-init : goal.loop-line_level-init
loop-line_level-init c = record {
  same = refl;
  going =
      commenting-none _ c.requires;
}

pub returns-then-is_over-clause-reads : goal.returns-then-is_over-clause-reads
returns-then-is_over-clause-reads c = commenting-end c.loop-line_level.invariant.going c.get_comment_level-line_level.ensures.passes.bytes refl (at-over c.loop-line_level.self.source c.get_comment_level-line_level.new.self (number_if c.loop-line_level.level) (number_if c.get_comment_level-line_level.result) c.get_comment_level-line_level.ensures c.is_over.ensures c.if-is_over.true)

pub returns-then-self-clause-reads : goal.returns-then-self-clause-reads
returns-then-self-clause-reads c = commenting-end c.loop-line_level.invariant.going c.get_comment_level-line_level.ensures.passes.bytes refl (at-last c.loop-line_level.self.source c.get_comment_level-line_level.new.self (number_if c.loop-line_level.level) (number_if c.get_comment_level-line_level.result) c.get_comment_level-line_level.ensures c.is_over.ensures c.if-is_over.false c.if-self.true)

pub returns-then-is_none-clause-reads : goal.returns-then-is_none-clause-reads
returns-then-is_none-clause-reads c =
    rw c.error.ensures
    (commenting-bad c.loop-line_level.invariant.going (c.take_byte_if.ensures.bytes ∙ c.get_comment_level-line_level.ensures.passes.bytes) refl
    (at-fails c.loop-line_level.self.source c.get_comment_level-line_level.new.self (number_if c.loop-line_level.level) (number_if c.get_comment_level-line_level.result) c.get_comment_level-line_level.ensures c.is_over.ensures c.if-is_over.false c.is_eol-empty.ensures c.take_byte_if.new.self (not-true _ c.if-not-empty.true-raw) c.take_byte_if.ensures
    (not-true _ c.if-not-take_byte_if.true-raw) (none-level _ (rw c.if-is_none.true at c.is_none.ensures))))

pub returns-then-not-take_byte_if-clause-reads : goal.returns-then-not-take_byte_if-clause-reads
returns-then-not-take_byte_if-clause-reads c =
    commenting-end c.loop-line_level.invariant.going (c.take_byte_if.ensures.bytes ∙ c.get_comment_level-line_level.ensures.passes.bytes) refl
    (at-other c.loop-line_level.self.source c.get_comment_level-line_level.new.self (number_if c.loop-line_level.level) (number_if c.get_comment_level-line_level.result) c.get_comment_level-line_level.ensures c.is_over.ensures c.if-is_over.false c.is_eol-empty.ensures c.take_byte_if.new.self (not-true _ c.if-not-empty.true-raw) c.take_byte_if.ensures
    (not-true _ c.if-not-take_byte_if.true-raw) (some-level _ (rw c.if-is_none.false at c.is_none.ensures)))

pub loop-line_level-preserved : goal.loop-line_level-preserved
loop-line_level-preserved c = record {
  same =
      elim c.else-not-empty.branch [
        | else-not-empty-via-then-not-empty+else-not-take_byte_if w ↦ rw w.self-is at c.put_comment_line.ensures.same ∙ c.loop-line_level.invariant.same
        | else-not-empty-via-else-not-empty w ↦ rw w.self-is at c.put_comment_line.ensures.same ∙ c.loop-line_level.invariant.same
      ];
  going =
      elim c.else-not-empty.branch [
        | else-not-empty-via-then-not-empty+else-not-take_byte_if w ↦ let x = rw w.self-is at c.put_comment_line.ensures.reads in
            commenting-line c.loop-line_level.invariant.going (x.bytes ∙ w.take_byte_if.ensures.bytes ∙ c.get_comment_level-line_level.ensures.passes.bytes)
            (at-text c.loop-line_level.self.source c.get_comment_level-line_level.new.self (number_if c.loop-line_level.level) (number_if c.get_comment_level-line_level.result) c.get_comment_level-line_level.ensures c.is_over.ensures c.if-is_over.false c.is_eol-empty.ensures w.take_byte_if.new.self (not-true _ w.if-not-empty.true-raw) w.take_byte_if.ensures
            (not-false _ w.if-not-take_byte_if.false-raw) x.text x.used) x.wrote
        | else-not-empty-via-else-not-empty w ↦ let x = rw w.self-is at c.put_comment_line.ensures.reads in
            commenting-line c.loop-line_level.invariant.going (x.bytes ∙ c.get_comment_level-line_level.ensures.passes.bytes)
            (at-empty c.loop-line_level.self.source c.get_comment_level-line_level.new.self (number_if c.loop-line_level.level) (number_if c.get_comment_level-line_level.result) c.get_comment_level-line_level.ensures c.is_over.ensures c.if-is_over.false c.is_eol-empty.ensures (not-false _ w.if-not-empty.false-raw) c.if-self.false x.text x.used) x.wrote
      ];
}
