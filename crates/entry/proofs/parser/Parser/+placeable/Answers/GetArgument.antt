-- `get_argument`, a member of the cycle.
use native.Mathlib.Omega.{arith}
use mathlib.Core.Path.{refl, sym, ◌∙◌}
use Rattle.std.specs.Prelude.{◌≤◌, true, []}
use Rattle.std.proofs.lemmas.Result.{err_from_is_err_and}
use Rattle.syntax.specs.Expression.{level}
use Rattle.entry.proofs.Chains.{reads-room}
use Rattle.entry.proofs.NamedBefore.{names-some, names-cut}
use Rattle.entry.proofs.ArgumentTurns.{names-same}
use Rattle.entry.proofs.Dids.{failed-wrote}
use Rattle.entry.proofs.Cycle.{length-same, with-here}
use Rattle.entry.proofs.Arguments.{argument-stop, argument-room, named-at, unnamed-at, ends-positional, no-error, not_named}
use Rattle.entry.proofs.Arguments.{among-same, reads-twice, stop-named, reads-named, more-names}
use Rattle.laws.specs.Bounds.Expression.{level-bounds, inline-expression-bounds}
use Rattle.syntax.specs.Byte as Byte
use Rattle.entry.proofs.parser.Parser.+placeable.Goals as goal

pub get_argument-get_inline_expression-requires : goal.get_argument-get_inline_expression-requires
get_argument-get_inline_expression-requires t c = omega (arith, c.decreases, c.requires.room)

pub get_argument-returns-in_err-exp-clause-reads : goal.get_argument-returns-in_err-exp-clause-reads
get_argument-returns-in_err-exp-clause-reads t c names held =
    let p = err_from_is_err_and c.from_residual.result c.from_residual.ensures.1 in
    rw (p.1, p.2)
    (record {
      reads = argument-stop _ (level c.args.left) names (rw c.in_err-exp.was at c.get_inline_expression.ensures.reads);
      more = λ e. absurd (no-error e);
    })

pub get_argument-returns-in_default-clause-reads : goal.get_argument-returns-in_default-clause-reads
get_argument-returns-in_default-clause-reads t c names held =
    let d = rw c.in_ok-exp.was at c.get_inline_expression.ensures.reads in
    let v = unnamed-at c.args.left d c.argument_name.ensures c.in_default.is in
    record {
      reads = ends-positional (level c.args.left) names _ v c.get_inline_expression.ensures.reads.frame.tree _ (names-some held) c.end_positional.ensures;
      more = λ e. absurd (not_named _ c.end_positional.ensures e);
    }

pub get_argument-slice_bounds-is_named_before-end : goal.get_argument-slice_bounds-is_named_before-end
get_argument-slice_bounds-is_named_before-end t c =
    let v = named-at c.args.left (rw c.in_ok-exp.was at c.get_inline_expression.ensures.reads) c.argument_name.ensures c.in-Some.is in
    omega (arith, v.order, c.argument_name.new.self.inside)

pub get_argument-is_named_before-requires : goal.get_argument-is_named_before-requires
get_argument-is_named_before-requires t c =
    let d = c.get_inline_expression.ensures.reads in
    let v = named-at c.args.left (rw c.in_ok-exp.was at d) c.argument_name.ensures c.in-Some.is in
    let n = c.requires.has_names in
    record { names = n.names; are = names-same v.bytes d.frame.tree.capacity (names-cut n.are (failed-wrote d.did)) }

pub get_argument-returns-then-is_named_before-clause-reads : goal.get_argument-returns-then-is_named_before-clause-reads
get_argument-returns-then-is_named_before-clause-reads t c names held =
    let d = c.get_inline_expression.ensures.reads in
    let v = named-at c.args.left (rw c.in_ok-exp.was at d) c.argument_name.ensures c.in-Some.is in
    let n = c.is_named_before.ensures.is names (names-same v.bytes d.frame.tree.capacity (names-cut held (failed-wrote d.did))) in
    rw c.error.ensures
    (record {
      reads =
          reads-twice _ _ (level c.args.left) names _ v d.frame.tree (failed-wrote d.did)
          (among-same _ _ names v.bytes (sym n ∙ c.if-is_named_before.true));
      more = λ e. absurd (no-error e);
    })

pub get_argument-open-requires : goal.get_argument-open-requires
get_argument-open-requires t c =
    let d = c.get_inline_expression.ensures.reads in
    let v = named-at c.args.left (rw c.in_ok-exp.was at d) c.argument_name.ensures c.in-Some.is in
    record { room = omega (arith, argument-room {p = c.args.self.now} c.requires.room d.frame.tree v) }

pub get_argument-text-requires-clause-room : goal.get_argument-text-requires-clause-room
get_argument-text-requires-clause-room t c =
    let d = c.get_inline_expression.ensures.reads in
    let v = named-at c.args.left (rw c.in_ok-exp.was at d) c.argument_name.ensures c.in-Some.is in
    let r = argument-room {p = c.args.self.now} c.requires.room d.frame.tree v in
    record { room = omega (arith, r, c.open.ensures.count, c.open.ensures.same.capacity) }

pub get_argument-invariant_of-self-3 : goal.get_argument-invariant_of-self-3
get_argument-invariant_of-self-3 t c =
    let v = named-at c.args.left (rw c.in_ok-exp.was at c.get_inline_expression.ensures.reads) c.argument_name.ensures c.in-Some.is in
    record {
      inside = omega (arith, with-here Byte.colon c.argument_name.new.self v.colon);
      short = c.argument_name.new.self.short;
    }

pub get_argument-get_inline_expression-requires-2 : goal.get_argument-get_inline_expression-requires-2
get_argument-get_inline_expression-requires-2 t c =
    let d = c.get_inline_expression.ensures.reads in
    let v = named-at c.args.left (rw c.in_ok-exp.was at d) c.argument_name.ensures c.in-Some.is in
    omega (
      arith,
      v.order,
      v.stop,
      length-same v.bytes,
      length-same c.skip_blank.ensures.bytes,
      c.skip_blank.ensures.went.onward,
      with-here Byte.colon c.argument_name.new.self v.colon,
      c.open.ensures.count,
      c.text.ensures.count,
      c.decreases,
      c.requires.room,
    )

pub get_argument-returns-in_err-get_inline_expression-clause-reads : goal.get_argument-returns-in_err-get_inline_expression-clause-reads
get_argument-returns-in_err-get_inline_expression-clause-reads t c names held =
    let r = c.from_residual-in_err-get_inline_expression in
    let p = err_from_is_err_and r.result r.ensures.1 in
    let d = c.get_inline_expression.ensures.reads in
    let v = named-at c.args.left (rw c.in_ok-exp.was at d) c.argument_name.ensures c.in-Some.is in
    let n = c.is_named_before.ensures.is names (names-same v.bytes d.frame.tree.capacity (names-cut held (failed-wrote d.did))) in
    rw (p.1, p.2)
    (record {
      reads =
          stop-named _ _ (level c.args.left) names _ v _ c.open.ensures c.text.ensures
          (record { words = d.frame.tree.words; capacity = d.frame.tree.capacity }) refl (failed-wrote d.did)
          (among-same _ _ names v.bytes (sym n ∙ c.if-is_named_before.false)) refl refl c.skip_blank.ensures
          (rw c.in_err-get_inline_expression.was at c.get_inline_expression-2.ensures.reads);
      more = λ e. absurd (no-error e);
    })

pub get_argument-close-requires : goal.get_argument-close-requires
get_argument-close-requires t c =
    let d = c.get_inline_expression.ensures.reads in
    let q = c.get_inline_expression-2.new.self in
    let v = named-at c.args.left (rw c.in_ok-exp.was at d) c.argument_name.ensures c.in-Some.is in
    let r = reads-room _ ((inline-expression-bounds (level-bounds c.args.left) true).on _)
    (rw c.in_ok-get_inline_expression.was at c.get_inline_expression-2.ensures.reads) in
    record {
      room =
          omega (
            arith,
            r.room,
            v.order,
            v.stop,
            c.skip_blank.ensures.went.onward,
            c.open.ensures.count,
            c.text.ensures.count,
            c.requires.room.spent,
            q.holds,
            q.source.inside,
          );
    }

pub get_argument-invariant_of-self-5 : goal.get_argument-invariant_of-self-5
get_argument-invariant_of-self-5 t c =
    let q = c.get_inline_expression-2.new.self in
    record {
      holds =
          omega (arith, q.holds, length-same (c.skip_separator.ensures []).bytes, c.close.ensures.same.capacity);
    }

pub get_argument-returns-clause-reads : goal.get_argument-returns-clause-reads
get_argument-returns-clause-reads t c names held =
    let d = c.get_inline_expression.ensures.reads in
    let q = c.get_inline_expression-2.new.self in
    let v = named-at c.args.left (rw c.in_ok-exp.was at d) c.argument_name.ensures c.in-Some.is in
    let cut = names-cut held (failed-wrote d.did) in
    let n = c.is_named_before.ensures.is names (names-same v.bytes d.frame.tree.capacity cut) in
    let h = among-same _ _ names v.bytes (sym n ∙ c.if-is_named_before.false) in
    let r = reads-room _ ((inline-expression-bounds (level-bounds c.args.left) true).on _)
    (rw c.in_ok-get_inline_expression.was at c.get_inline_expression-2.ensures.reads) in
    let room : c.close.new.self.count ≤ c.close.new.self.capacity =
    omega (
      arith,
      r.room,
      v.order,
      v.stop,
      c.skip_blank.ensures.went.onward,
      c.open.ensures.count,
      c.text.ensures.count,
      c.close.ensures.count,
      c.close.ensures.same.capacity,
      c.requires.room.spent,
      q.holds,
      q.source.inside,
    ) in
    record {
      reads =
          reads-named _ _ (level c.args.left) names _ v _ c.open.ensures c.text.ensures
          (record { words = d.frame.tree.words; capacity = d.frame.tree.capacity }) refl (failed-wrote d.did) h refl refl
          c.skip_blank.ensures (rw c.in_ok-get_inline_expression.was at c.get_inline_expression-2.ensures.reads) c.close.ensures
          c.skip_separator.ensures;
      more =
          λ e names' ms k is. more-names _ _ (level c.args.left) names _ v c.args.self.now.tree.now c.open.ensures c.text.ensures
          (record { words = d.frame.tree.words; capacity = d.frame.tree.capacity }) refl (failed-wrote d.did) h refl refl
          c.skip_blank.ensures c.args.left refl
          (rw c.in_ok-get_inline_expression.was at c.get_inline_expression-2.ensures.reads) c.close.ensures room
          (omega (arith, v.order, length-same v.bytes, c.argument_name.new.self.inside)) cut is;
    }
