-- `get_attribute` meets its contract: a node around a name and a pattern that must be there.
use native.Mathlib.Omega.{arith}
use Rattle.std.proofs.lemmas.Result.{err_from_is_err_and}
use Rattle.entry.proofs.Entries.{name-room, value-room, attribute-law}
use Rattle.entry.proofs.Chains.{reads-node, reads-node-stop, reads-then, stop-then}
use Rattle.entry.proofs.parser.Parser.get_attribute.Goals as goal

pub get_value-requires : goal.get_value-requires
get_value-requires c =
    let s = name-room (rw c.in_ok-get_name.was at c.get_name.ensures.reads) in
    record { spent = omega (arith, s.room, c.open.ensures.count, c.requires.spent) }

pub close-requires : goal.close-requires
close-requires c =
    let s = name-room (rw c.in_ok-get_name.was at c.get_name.ensures.reads) in
    let v = value-room _ (rw c.in_ok-get_value.was at c.get_value.ensures.reads) in
    record {
      room =
          omega (
            arith,
            s.room,
            v.room,
            c.open.ensures.count,
            c.requires.spent,
            c.args.self.now.holds,
            c.open.ensures.same.capacity,
            c.get_name.ensures.reads.frame.tree.capacity,
            c.get_value.ensures.reads.frame.tree.capacity,
          );
    }

pub returns-in_err-get_name-clause-reads : goal.returns-in_err-get_name-clause-reads
returns-in_err-get_name-clause-reads c =
    let p = err_from_is_err_and c.from_residual.result c.from_residual.ensures.1 in
    rw (p.1, p.2, attribute-law)
    (reads-node-stop _ c.open.ensures (stop-then _ _ (rw c.in_err-get_name.was at c.get_name.ensures.reads)))

pub returns-in_err-get_value-clause-reads : goal.returns-in_err-get_value-clause-reads
returns-in_err-get_value-clause-reads c =
    let p = err_from_is_err_and c.from_residual-in_err-get_value.result c.from_residual-in_err-get_value.ensures.1 in
    rw (p.1, p.2, attribute-law)
    (reads-node-stop _ c.open.ensures
    (reads-then _ _ (rw c.in_ok-get_name.was at c.get_name.ensures.reads) (rw c.in_err-get_value.was at c.get_value.ensures.reads)))

pub returns-clause-reads : goal.returns-clause-reads
returns-clause-reads c =
    rw attribute-law
    (reads-node _ c.open.ensures
    (reads-then _ _ (rw c.in_ok-get_name.was at c.get_name.ensures.reads) (rw c.in_ok-get_value.was at c.get_value.ensures.reads)) c.close.ensures)
