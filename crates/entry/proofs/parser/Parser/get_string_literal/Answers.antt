-- `get_string_literal` meets its contract.
use native.Mathlib.Omega.{arith}
use Rattle.std.proofs.lemmas.Result.{err_from_is_err_and}
use Rattle.laws.specs.Bounds.Expression.{string-bounds}
use Rattle.entry.proofs.Chains.{reads-finds, reads-room}
use Rattle.entry.proofs.Sources.{finds-goes}
use Rattle.entry.proofs.References.{string-stop, reads-string}
use Rattle.entry.proofs.parser.Parser.get_string_literal.Goals as goal

pub returns-in_err-skip_string_literal-clause-reads : goal.returns-in_err-skip_string_literal-clause-reads
returns-in_err-skip_string_literal-clause-reads c =
    let p = err_from_is_err_and c.from_residual.result c.from_residual.ensures.1 in
    rw (p.1, p.2) (string-stop _ _ (reads-finds (rw c.in_err-skip_string_literal.was at c.skip_string_literal.ensures)))

pub overflow_sub-self : goal.overflow_sub-self
overflow_sub-self c =
    let g = rw c.in_ok-skip_string_literal.was at c.skip_string_literal.ensures in
    let r = reads-room _ ((string-bounds {n = 0}).on _) (reads-finds {m = c.args.self.now.tree.now} g) in
    omega (arith, r.room)

pub text-requires-clause-room : goal.text-requires-clause-room
text-requires-clause-room c =
    let g = rw c.in_ok-skip_string_literal.was at c.skip_string_literal.ensures in
    let r = reads-room _ ((string-bounds {n = 0}).on _) (reads-finds {m = c.args.self.now.tree.now} g) in
    record { room = omega (arith, r.room, (finds-goes g).went.within, c.requires.spent, c.args.self.now.holds) }

pub returns-clause-reads : goal.returns-clause-reads
returns-clause-reads c =
    let g = rw c.in_ok-skip_string_literal.was at c.skip_string_literal.ensures in
    let r = reads-room _ ((string-bounds {n = 0}).on _) (reads-finds {m = c.args.self.now.tree.now} g) in
    reads-string (finds-goes g) (omega (arith, r.room)) c.text.ensures
