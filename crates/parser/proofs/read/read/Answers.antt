-- `read::read` meets its contract: each test refuses, or hands on.
use native.Mathlib.Omega.{arith}
use Rattle.std.proofs.lemmas.Result.{err_from_is_err_and}
use Rattle.laws.specs.Tests.{none_of, source-passes}
use Rattle.parser.proofs.Outcome.{source-refused, tree-short, errors-short, none-short}
use Rattle.parser.proofs.read.read.Goals as goal

pub returns-in_err-test_source : goal.returns-in_err-test_source
returns-in_err-test_source c =
    let p = err_from_is_err_and c.from_residual.result c.from_residual.ensures.1 in
    rw (p.1, p.2) (source-refused _ _ _ _ c.in_err-test_source.ensures.tested)

pub returns-then-tree-words : goal.returns-then-tree-words
returns-then-tree-words c =
    let s = source-passes _ (none_of _ c.in_ok-test_source.ensures.tested) in
    tree-short _ _ _ s.0 s.1 (omega (arith, c.tree_words-words.ensures, s.0)) c.if-tree-words.true

pub returns-then-errors-rows : goal.returns-then-errors-rows
returns-then-errors-rows c =
    let s = source-passes _ (none_of _ c.in_ok-test_source.ensures.tested) in
    errors-short _ _ _ s.0 s.1 (omega (arith, c.tree_words-words.ensures, s.0)) c.if-tree-words.false (omega (arith, c.error_words-rows.ensures, s.0)) c.if-errors-rows.true

pub returns : goal.returns
returns c =
    let s = source-passes _ (none_of _ c.in_ok-test_source.ensures.tested) in
    none-short _ _ _ s.0 s.1 (omega (arith, c.tree_words-words.ensures, s.0)) c.if-tree-words.false (omega (arith, c.error_words-rows.ensures, s.0)) _ _ _ c.if-errors-rows.false c.read_into.ensures
