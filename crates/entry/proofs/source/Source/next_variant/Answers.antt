-- `next_variant` meets its contract.
use Rattle.std.specs.Prelude.{◌≡◌, false, ◌&&◌}
use mathlib.Core.Path.{refl}
use Rattle.entry.proofs.Tests.{by}
use Rattle.entry.proofs.Nexts.{and_second, and_first, or-first, or-second, or-none}
use Rattle.entry.proofs.Nexts.{next-double, next-some, next-end, next-none}
use Rattle.entry.proofs.source.Source.next_variant.Goals as goal
use Rattle.entry.proofs.source.Source.next_variant.Goals.{else-default-via-then-default+else-has_default, else-default-via-else-default}
use Rattle.entry.proofs.source.Source.next_variant.Goals.{then-default-2-via-then-default-2, then-default-2-via-else-default-2+then-has_default-2}

pub returns-then-has_default : goal.returns-then-has_default
returns-then-has_default c =
    let t = c.take_byte_if-default.ensures in
    rw c.error.ensures (record {
      bytes = t.bytes;
      is = λ sub. next-double sub c.args.has_default t.went c.if-default.true c.if-has_default.true refl;
    })

pub returns-then-is_current_byte : goal.returns-then-is_current_byte
returns-then-is_current_byte c =
    let t = c.take_byte_if-default.ensures in
    let b = by c.is_current_byte.ensures.is c.if-is_current_byte.true in
    let d : (c.take_byte_if-default.result && c.args.has_default) ≡ false =
    elim c.else-default.branch [
      | else-default-via-then-default+else-has_default w ↦ and_second _ _ w.if-default.true w.if-has_default.false
      | else-default-via-else-default w ↦ and_first _ _ w.if-default.false
    ] in
    record {
      bytes = t.bytes;
      is = (t.went.onward, b, λ sub. rw t.bytes (next-some sub c.args.has_default t.went d (rw t.bytes at b)));
    }

pub returns-then-default-2 : goal.returns-then-default-2
returns-then-default-2 c =
    let t = c.take_byte_if-default.ensures in
    let b = by c.is_current_byte.ensures.is c.if-is_current_byte.false in
    record {
      bytes = t.bytes;
      is = (
        t.went.onward,
        λ sub. next-end sub c.args.has_default t.went
            (elim c.else-default.branch [
              | else-default-via-then-default+else-has_default w ↦ and_second _ _ w.if-default.true w.if-has_default.false
              | else-default-via-else-default w ↦ and_first _ _ w.if-default.false
            ])
            (rw t.bytes at b)
            (elim c.then-default-2.branch [
              | then-default-2-via-then-default-2 w ↦ or-first _ _ w.if-default-2.true
              | then-default-2-via-else-default-2+then-has_default-2 w ↦ or-second _ _ w.if-default-2.false w.if-has_default-2.true
            ]),
      );
    }

pub returns : goal.returns
returns c =
    let t = c.take_byte_if-default.ensures in
    let b = by c.is_current_byte.ensures.is c.if-is_current_byte.false in
    rw c.error-2.ensures (record {
      bytes = t.bytes;
      is =
          λ sub. next-none sub c.args.has_default t.went (and_first _ _ c.if-default-2.false) (rw t.bytes at b)
          (or-none _ _ c.if-default-2.false c.if-has_default-2.false) refl;
    })
