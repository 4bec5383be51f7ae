-- `get_reference`, a member of the cycle.
use native.Mathlib.Omega.{arith}
use mathlib.Core.Path.{refl, ◌∙◌}
use Rattle.std.proofs.lemmas.Result.{err_from_is_err_and}
use Rattle.syntax.specs.declared.errors.ErrorKind.TheVariants.{ForbiddenCallee}
use Rattle.syntax.specs.Expression.{level}
use Rattle.laws.specs.Bounds.Expression.{level-bounds, call-bounds}
use Rattle.entry.proofs.Tests.{by}
use Rattle.entry.proofs.Chains.{reads-room}
use Rattle.entry.proofs.Cycle.{length-same, name-long, reads-inline, reads-inline-stop}
use Rattle.entry.proofs.References.{stop-function, reads-function, forbidden-function, call-true, callee-yes, callee-no, callee-same}
use Rattle.entry.proofs.parser.Parser.+placeable.Goals as goal

pub get_reference-returns-then-not-is_current_byte-clause-reads : goal.get_reference-returns-then-not-is_current_byte-clause-reads
get_reference-returns-then-not-is_current_byte-clause-reads t c =
    c.get_message_reference.ensures.reads (level c.args.left) c.args.self.now.source
    (record { bytes = c.skip_blank.ensures.bytes ∙ c.skip_name.ensures.bytes; place = refl })

pub get_reference-get_call_arguments-requires : goal.get_reference-get_call_arguments-requires
get_reference-get_call_arguments-requires t c =
    let s = c.args.self.now.source in
    omega (
      arith,
      name-long s.bytes.now s.ptr c.requires.begins,
      c.skip_name.ensures.passed.end,
      length-same c.skip_name.ensures.bytes,
      c.skip_name.new.self.inside,
      c.open.ensures.count,
      c.text.ensures.count,
      c.decreases,
      c.requires.room,
    )

pub get_reference-returns-in_err-get_call_arguments-clause-reads : goal.get_reference-returns-in_err-get_call_arguments-clause-reads
get_reference-returns-in_err-get_call_arguments-clause-reads t c =
    let p = err_from_is_err_and c.from_residual.result c.from_residual.ensures.1 in
    rw (p.1, p.2)
    (reads-inline-stop _ _ c.open.ensures
    (stop-function c.skip_name.ensures.bytes c.requires.begins c.skip_name.ensures.passed.end c.text.ensures
    (level c.args.left) (rw c.in_err-get_call_arguments.was at c.get_call_arguments.ensures.reads)))

pub get_reference-returns-in_err-check_callee-clause-reads : goal.get_reference-returns-in_err-check_callee-clause-reads
get_reference-returns-in_err-check_callee-clause-reads t c =
    let p = err_from_is_err_and c.from_residual-in_err-check_callee.result c.from_residual-in_err-check_callee.ensures.1 in
    let s = c.args.self.now.source in
    let d = rw c.in_ok-get_call_arguments.was at c.get_call_arguments.ensures.reads in
    let v = call-true (level c.args.left) c.skip_blank.ensures (by c.is_current_byte.ensures.is c.if-not-is_current_byte.false) d in
    let q = callee-no _ ForbiddenCallee _ c.check_callee.ensures c.in_err-check_callee.was in
    let same = callee-same c.args.self.now.source.ptr (c.get_call_arguments.ensures.reads.frame.bytes ∙ c.skip_name.ensures.bytes) c.skip_name.ensures.passed.end in
    rw (p.1, p.2, q.1)
    (reads-inline-stop _ _ c.open.ensures
    (forbidden-function c.skip_name.ensures.bytes c.requires.begins c.skip_name.ensures.passed.end c.text.ensures
    (level c.args.left) (rw (c.in_ok-get_call_arguments.was, v) at c.get_call_arguments.ensures.reads) same q.0))

pub get_reference-close-requires : goal.get_reference-close-requires
get_reference-close-requires t c =
    let s = c.args.self.now.source in
    let q = c.get_call_arguments.new.self in
    let v = reads-room _ ((call-bounds (level-bounds c.args.left)).on _)
    (rw c.in_ok-get_call_arguments.was at c.get_call_arguments.ensures.reads) in
    record {
      room =
          omega (
            arith,
            name-long s.bytes.now s.ptr c.requires.begins,
            c.skip_name.ensures.passed.end,
            v.room,
            c.open.ensures.count,
            c.text.ensures.count,
            c.requires.room.spent,
            q.holds,
            q.source.inside,
          );
    }

pub get_reference-returns-clause-reads : goal.get_reference-returns-clause-reads
get_reference-returns-clause-reads t c =
    let d = rw c.in_ok-get_call_arguments.was at c.get_call_arguments.ensures.reads in
    let v = call-true (level c.args.left) c.skip_blank.ensures (by c.is_current_byte.ensures.is c.if-not-is_current_byte.false) d in
    let q = callee-yes _ ForbiddenCallee _ c.check_callee.ensures c.in_ok-check_callee.was in
    let same = callee-same c.args.self.now.source.ptr (c.get_call_arguments.ensures.reads.frame.bytes ∙ c.skip_name.ensures.bytes) c.skip_name.ensures.passed.end in
    reads-inline _ _ c.open.ensures
    (reads-function c.skip_name.ensures.bytes c.requires.begins c.skip_name.ensures.passed.end c.text.ensures
    (level c.args.left) (rw (c.in_ok-get_call_arguments.was, v) at c.get_call_arguments.ensures.reads) same q) c.close.ensures
