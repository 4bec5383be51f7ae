-- `source::Source::skip_string_literal` meets its contract.
use Rattle.std.specs.Prelude.{◌≡◌, Err}
use Rattle.std.proofs.Common.{rules}
use Rattle.syntax.specs.Expression.{string_literal}
use Rattle.entry.proofs.Moves.{finds-then, stop-then}
use Rattle.entry.proofs.source.Source.skip_string_literal.Goals as goal

pub returns-in_err-expect_byte : goal.returns-in_err-expect_byte
unfolding string_literal
returns-in_err-expect_byte c =
    let e : c.from_residual.result ≡ Err c.in_err-expect_byte.field-0.0 = search rules in
    rw e (stop-then _ _ c.in_err-expect_byte.ensures)

pub returns-in_err-skip_string : goal.returns-in_err-skip_string
unfolding string_literal
returns-in_err-skip_string c =
    let e : c.from_residual-in_err-skip_string.result ≡ Err c.in_err-skip_string.field-0.0 = search rules in
    rw e (finds-then _ _ c.in_ok-expect_byte.ensures (stop-then _ _ c.in_err-skip_string.ensures))

pub returns : goal.returns
unfolding string_literal
returns c = finds-then _ _ c.in_ok-expect_byte.ensures (finds-then _ _ c.in_ok-skip_string.ensures c.expect_byte-2.ensures)
