-- `get_variable_reference` meets its contract.
use native.Mathlib.Omega.{arith}
use mathlib.Core.Path.{refl}
use Rattle.std.proofs.lemmas.Result.{err_from_is_err_and}
use Rattle.syntax.specs.Byte as Byte
use Rattle.syntax.specs.Expression.{variable, variable_reference}
use Rattle.laws.specs.Bounds.Helper.{identifier-bounds}
use Rattle.entry.proofs.Chains.{reads-then, reads-pure, stop-then, reads-room}
use Rattle.entry.proofs.Cycle.{with-here, reads-byte, reads-inline, reads-inline-stop}
use Rattle.entry.proofs.parser.Parser.get_variable_reference.Goals as goal

pub open-requires : goal.open-requires
open-requires c =
    let p = c.args.self.now in
    record { room = omega (arith, with-here Byte.dollar p.source c.requires.begins, c.requires.room.spent, p.holds) }

pub invariant_of-self : goal.invariant_of-self
invariant_of-self c =
    let p = c.args.self.now in
    record { inside = omega (arith, with-here Byte.dollar p.source c.requires.begins); short = p.source.short }

pub returns-in_err-get_identifier-clause-reads : goal.returns-in_err-get_identifier-clause-reads
unfolding variable_reference
returns-in_err-get_identifier-clause-reads c =
    let p = err_from_is_err_and c.from_residual.result c.from_residual.ensures.1 in
    rw (p.1, p.2)
    (reads-inline-stop _ _ c.open.ensures
    (reads-then _ _ (reads-byte Byte.dollar c.requires.begins refl refl)
    (stop-then _ _ (rw c.in_err-get_identifier.was at c.get_identifier.ensures.reads))))

pub close-requires : goal.close-requires
close-requires c =
    let p = c.args.self.now in
    let r = reads-room _ ((identifier-bounds {n = 0} 9).on _) (rw c.in_ok-get_identifier.was at c.get_identifier.ensures.reads) in
    record {
      room =
          omega (
            arith,
            r,
            c.open.ensures.count,
            c.open.ensures.same.capacity,
            c.get_identifier.ensures.reads.frame.tree.capacity,
            c.requires.room.spent,
            p.holds,
          );
    }

pub returns-clause-reads : goal.returns-clause-reads
unfolding variable_reference
returns-clause-reads c =
    reads-inline _ _ c.open.ensures
    (reads-then _ _ (reads-byte Byte.dollar c.requires.begins refl refl)
    (reads-then _ _ (rw c.in_ok-get_identifier.was at c.get_identifier.ensures.reads) (reads-pure _ _ variable _))) c.close.ensures
