-- `read::read_into` meets its contract.
use native.Mathlib.Omega.{arith}
use Rattle.std.specs.Prelude.{◌≡◌, length}
use Rattle.syntax.specs.Layout.{tree_layout, error_layout}
use Rattle.parser.proofs.Outcome.{counted, accepted, too-deep}
use Rattle.parser.proofs.read.read_into.Goals as goal

pub finish-requires : goal.finish-requires
finish-requires c =
    let k = counted _ _ _ _ _ _ c.requires c.parse.ensures _ c.in-Ok.is in
    let l = c.parse.ensures.tree.long in
    let z = c.requires in
    record {
      held = omega (arith, k.marks, k.room);
      filled = omega (arith, k.marks, k.room);
      small = omega (arith, z.short);
      layout = omega (arith, l, z.tree);
    }

pub overflow_mul-n : goal.overflow_mul-n
overflow_mul-n c =
    let k = counted _ _ _ _ _ _ c.requires c.parse.ensures _ c.in-Ok.is in
    omega (arith, k.errors, k.few, c.requires.short)

pub finish-requires-in-Ok : goal.finish-requires-in-Ok
finish-requires-in-Ok c =
    let k = counted _ _ _ _ _ _ c.requires c.parse.ensures _ c.in-Ok.is in
    let l = c.parse.ensures.errors.long in
    let z = c.requires in
    record {
      held = omega (arith, k.errors, k.few);
      filled = omega (arith, k.errors, k.few);
      small = omega (arith, z.short);
      layout = omega (arith, l, z.errors);
    }

pub returns-in-Ok : goal.returns-in-Ok
returns-in-Ok c =
    accepted _ _ _ _ _ _ c.requires c.parse.ensures _ _ _ c.in-Ok.is c.finish.ensures c.finish-in-Ok.ensures

pub returns-in-Err : goal.returns-in-Err
returns-in-Err c =
    let s = c.args.source.now in
    let words : c.tree_words.result ≡ tree_layout (length s) = omega (arith, c.tree_words.ensures, c.requires.short) in
    let rows : c.error_words.result ≡ error_layout (length s) = omega (arith, c.error_words.ensures, c.requires.short) in
    too-deep _ _ _ _ _ _ c.requires c.parse.ensures _ _ _ c.in-Err.is (rw words at c.zero.ensures) (rw rows at c.zero-in-Err.ensures)
