-- `get_identifier` meets its contract: the bytes of an identifier, whose marks are put.
use native.Mathlib.Omega.{arith}
use Rattle.std.proofs.lemmas.Result.{err_from_is_err_and}
use Rattle.syntax.specs.Kind.{number_of}
use Rattle.entry.proofs.Entries.{identified, identifier-stops}
use Rattle.entry.proofs.Chains.{reads-text}
use Rattle.entry.proofs.parser.Parser.get_identifier.Goals as goal

pub returns-in_err-skip_identifier-clause-reads : goal.returns-in_err-skip_identifier-clause-reads
returns-in_err-skip_identifier-clause-reads c =
    let p = err_from_is_err_and c.from_residual.result c.from_residual.ensures.1 in
    rw (p.1, p.2) (identifier-stops (number_of c.args.kind) (rw c.in_err-skip_identifier.was at c.skip_identifier.ensures))

pub text-requires-clause-room : goal.text-requires-clause-room
text-requires-clause-room c =
    let n = identified (number_of c.args.kind) (rw c.in_ok-skip_identifier.was at c.skip_identifier.ensures) in
    record { room = omega (arith, c.requires.spent, c.args.self.now.holds, n.onward, n.within) }

pub returns-clause-reads : goal.returns-clause-reads
returns-clause-reads c =
    let n = identified (number_of c.args.kind) (rw c.in_ok-skip_identifier.was at c.skip_identifier.ensures) in
    reads-text (number_of c.args.kind) c.skip_identifier.ensures.bytes n.is n.place c.text.ensures
