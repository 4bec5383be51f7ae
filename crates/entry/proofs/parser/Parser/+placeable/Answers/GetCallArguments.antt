-- `get_call_arguments`, a member of the cycle.
use native.Mathlib.Omega.{arith}
use mathlib.Core.Path.{refl}
use Rattle.std.specs.Prelude.{◌≡◌, ◌-◌, true, []}
use Rattle.std.proofs.lemmas.Result.{err_from_is_err_and}
use Rattle.syntax.specs.Byte as Byte
use Rattle.syntax.specs.Bytes.{starts_with}
use Rattle.syntax.specs.Kind as Kind
use Rattle.syntax.specs.Reader.{in_node}
use Rattle.syntax.specs.Expression.{level, parenthesised}
use Rattle.laws.specs.Bounds.{repeat-bounds}
use Rattle.laws.specs.Bounds.Helper.{expect_byte-bounds}
use Rattle.laws.specs.Bounds.Expression.{level-bounds, argument_turn-bounds}
use Rattle.entry.specs.Reads.{rest}
use Rattle.entry.proofs.Tests.{by}
use Rattle.entry.proofs.Chains.{reads-then, reads-goes, reads-finds, reads-room, reads-node, reads-node-stop, stop-then}
use Rattle.entry.proofs.Cycle.{length-same, reads-byte, calls-deep, calls-open, call_none, call-some, call-stop}
use Rattle.entry.proofs.parser.Parser.+placeable.Goals as goal

pub get_call_arguments-returns-then-not-is_current_byte-clause-reads : goal.get_call_arguments-returns-then-not-is_current_byte-clause-reads
get_call_arguments-returns-then-not-is_current_byte-clause-reads t c =
    call_none (level c.args.left) c.skip_blank.ensures (by c.is_current_byte.ensures.is c.if-not-is_current_byte.true)

pub get_call_arguments-returns-then-left-eq0-clause-reads : goal.get_call_arguments-returns-then-left-eq0-clause-reads
get_call_arguments-returns-then-left-eq0-clause-reads t c =
    call-stop (level c.args.left) c.skip_blank.ensures (by c.is_current_byte.ensures.is c.if-not-is_current_byte.false)
    (calls-deep _ c.if-left-eq0.true)

pub get_call_arguments-get_arguments-requires : goal.get_call_arguments-get_arguments-requires
get_call_arguments-get_arguments-requires t c =
    omega (
      arith,
      c.is_current_byte.ensures.here c.if-not-is_current_byte.false,
      length-same c.skip_blank.ensures.bytes,
      length-same c.skip_blank-2.ensures.bytes,
      c.skip_blank.ensures.went.onward,
      c.skip_blank-2.ensures.went.onward,
      c.open.ensures.count,
      c.decreases,
      c.requires,
    )

pub get_call_arguments-returns-in_err-get_arguments-clause-reads : goal.get_call_arguments-returns-in_err-get_arguments-clause-reads
unfolding parenthesised in_node
get_call_arguments-returns-in_err-get_arguments-clause-reads t c =
    let p = err_from_is_err_and c.from_residual.result c.from_residual.ensures.1 in
    let h : starts_with Byte.open_parenthesis (rest c.skip_blank.new.self) ≡ true =
    by c.is_current_byte.ensures.is c.if-not-is_current_byte.false in
    rw (p.1, p.2)
    (call-stop (level c.args.left) c.skip_blank.ensures h
    (calls-open _ c.if-left-eq0.false
    (reads-node-stop Kind.arguments c.open.ensures
    (reads-then _ _ (reads-byte Byte.open_parenthesis h refl refl)
    (reads-then _ _ (reads-goes c.skip_blank-2.ensures)
    (stop-then _ _ (rw c.in_err-get_arguments.was at c.get_arguments.ensures.reads)))))))

pub get_call_arguments-returns-in_err-expect_byte-clause-reads : goal.get_call_arguments-returns-in_err-expect_byte-clause-reads
unfolding parenthesised in_node
get_call_arguments-returns-in_err-expect_byte-clause-reads t c =
    let p = err_from_is_err_and c.from_residual-in_err-expect_byte.result c.from_residual-in_err-expect_byte.ensures.1 in
    let h : starts_with Byte.open_parenthesis (rest c.skip_blank.new.self) ≡ true =
    by c.is_current_byte.ensures.is c.if-not-is_current_byte.false in
    rw (p.1, p.2)
    (call-stop (level c.args.left) c.skip_blank.ensures h
    (calls-open _ c.if-left-eq0.false
    (reads-node-stop Kind.arguments c.open.ensures
    (reads-then _ _ (reads-byte Byte.open_parenthesis h refl refl)
    (reads-then _ _ (reads-goes c.skip_blank-2.ensures)
    (reads-then _ _ (rw c.in_ok-get_arguments.was at c.get_arguments.ensures.reads)
    (reads-finds (rw c.in_err-expect_byte.was at c.expect_byte.ensures))))))))

pub get_call_arguments-close-requires : goal.get_call_arguments-close-requires
get_call_arguments-close-requires t c =
    let q = c.get_arguments.new.self in
    let r = reads-room _ ((repeat-bounds (argument_turn-bounds (level-bounds (c.args.left - 1))) []).on _)
    (rw c.in_ok-get_arguments.was at c.get_arguments.ensures.reads) in
    let x = reads-room _ ((expect_byte-bounds {n = 0} Byte.close_parenthesis).on _)
    (reads-finds {m = q.tree.now} (rw c.in_ok-expect_byte.was at c.expect_byte.ensures)) in
    record {
      room =
          omega (
            arith,
            r.room,
            x.room,
            c.skip_blank-2.ensures.went.onward,
            c.skip_blank.ensures.went.onward,
            c.open.ensures.count,
            c.requires.spent,
            length-same c.expect_byte.ensures.bytes,
            c.expect_byte.new.self.inside,
            q.holds,
          );
    }

pub get_call_arguments-returns-clause-reads : goal.get_call_arguments-returns-clause-reads
unfolding parenthesised in_node
get_call_arguments-returns-clause-reads t c =
    let h : starts_with Byte.open_parenthesis (rest c.skip_blank.new.self) ≡ true =
    by c.is_current_byte.ensures.is c.if-not-is_current_byte.false in
    call-some (level c.args.left) c.skip_blank.ensures h
    (calls-open _ c.if-left-eq0.false
    (reads-node Kind.arguments c.open.ensures
    (reads-then _ _ (reads-byte Byte.open_parenthesis h refl refl)
    (reads-then _ _ (reads-goes c.skip_blank-2.ensures)
    (reads-then _ _ (rw c.in_ok-get_arguments.was at c.get_arguments.ensures.reads)
    (reads-finds (rw c.in_ok-expect_byte.was at c.expect_byte.ensures))))) c.close.ensures))
