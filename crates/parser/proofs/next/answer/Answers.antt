-- `next::answer` meets its contract: each test says that none is left or refuses, or hands on.
use native.Mathlib.Omega.{arith}
use Rattle.parser.proofs.Stops.{asked-long, asked-end, asked-short, asked_entry}
use Rattle.parser.proofs.next.answer.Goals as goal

pub returns-then-length-gt-MAX_LENGTH : goal.returns-then-length-gt-MAX_LENGTH
returns-then-length-gt-MAX_LENGTH c = asked-long _ _ c.args.tree.now c.if-length-gt-MAX_LENGTH.true

pub returns-then-length-start : goal.returns-then-length-start
returns-then-length-start c =
    asked-end _ _ c.args.tree.now c.if-length-gt-MAX_LENGTH.false c.skip_blank_lines-block.ensures c.if-length-start.true

pub returns-then-tree-words : goal.returns-then-tree-words
returns-then-tree-words c =
    asked-short _ _ c.args.tree.now c.if-length-gt-MAX_LENGTH.false c.skip_blank_lines-block.ensures
    c.if-length-start.false (omega (arith, c.tree_words-words.ensures, c.if-length-gt-MAX_LENGTH.false)) c.if-tree-words.true

pub returns : goal.returns
returns c =
    asked_entry _ _ c.args.tree.now c.if-length-gt-MAX_LENGTH.false c.skip_blank_lines-block.ensures
    c.if-length-start.false (omega (arith, c.tree_words-words.ensures, c.if-length-gt-MAX_LENGTH.false)) c.if-tree-words.false c.entry_at.ensures
