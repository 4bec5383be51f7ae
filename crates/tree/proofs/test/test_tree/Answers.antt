-- `test::test_tree` meets its contract: each test refuses, or hands on.
use borrow.Author.Tests.{not-true, not-false}
use mathlib.Core.Path.{sym, ◌∙◌}
use Rattle.std.proofs.lemmas.Result.{err_from_is_err_and}
use Rattle.laws.specs.Tests.{refused, passed, refusal-of, none_of, source-first, source-passes, sizes-off, shape-off, all-well}
use Rattle.tree.proofs.Tests.{well-shaped, ill-shaped}
use Rattle.tree.proofs.test.test_tree.Goals as goal

pub returns-in_err-test_source : goal.returns-in_err-test_source
returns-in_err-test_source c =
    let p = err_from_is_err_and c.from_residual.result c.from_residual.ensures.1 in
    rw (p.1, p.2) (refused (source-first _ _ (refusal-of _ _ c.in_err-test_source.ensures.tested)))

pub returns-then-not-sizes_fit : goal.returns-then-not-sizes_fit
returns-then-not-sizes_fit c =
    let s = source-passes _ (none_of _ c.in_ok-test_source.ensures.tested) in
    refused (sizes-off _ _ s.0 s.1 (sym c.sizes_fit.ensures ∙ not-true _ c.if-not-sizes_fit.true-raw))

pub returns-in-Err : goal.returns-in-Err
returns-in-Err c =
    let s = source-passes _ (none_of _ c.in_ok-test_source.ensures.tested) in
    refused
    (shape-off _ _ s.0 s.1 (sym c.sizes_fit.ensures ∙ not-false _ c.if-not-sizes_fit.false-raw) _
    (ill-shaped _ _ (sym c.in-Err.is ∙ c.check_shape.ensures)))

pub returns : goal.returns
returns c =
    let s = source-passes _ (none_of _ c.in_ok-test_source.ensures.tested) in
    passed
    (all-well _ _ s.0 s.1 (sym c.sizes_fit.ensures ∙ not-false _ c.if-not-sizes_fit.false-raw)
    (well-shaped _ (sym c.in_default.is ∙ c.check_shape.ensures)))
