-- `Output::put_indent` meets its contract: in the loop the levels so far have been stored.
use Rattle.std.proofs.Common.{◌+◌, ◌*◌, ◌-◌, length, replicate, ap, ap₂, ◌∙◌, arith}
use lib.ListN.{length-replicate}
use lib.Seq.{sets, length-sets}
use borrow.Rule.Slice.PartMut.{put_mid}
use Rattle.syntax.specs.Byte as Byte
use Rattle.syntax.specs.Serializer.{indent_width}
use Rattle.output.proofs.Stores.{stored-part, sets-repeat, sets-repeat-room}
use Rattle.output.proofs.text.Output.put_indent.Goals as goal

pub slice_bounds-copy_from_slice-end : goal.slice_bounds-copy_from_slice-end
slice_bounds-copy_from_slice-end c =
    let start = c.args.self.now in
    omega (arith, ap length c.loop.invariant.2, length-sets start.bytes.now start.at (replicate (indent_width * c.loop.counter) Byte.space), c.min-whole.ensures, c.saturating_sub-room.ensures)

pub loop-preserved : goal.loop-preserved
loop-preserved c =
    let start = c.args.self.now in
    let loop = c.loop in
    let n = indent_width * loop.counter in
    let long = length-sets start.bytes.now start.at (replicate n Byte.space) in (
      loop.invariant.0,
      omega arith,
      ap (λ xs. put_mid loop.self.at (loop.self.at + indent_width - loop.self.at) loop.self.bytes.now xs) c.copy_from_slice.ensures.after
          ∙ stored-part loop.self.bytes.now loop.self.at _ (replicate indent_width Byte.space) (omega arith)
          (omega (arith, ap length loop.invariant.2, long, c.min-whole.ensures, c.saturating_sub-room.ensures))
          ∙ ap₂ (λ o k. sets o k (replicate indent_width Byte.space)) loop.invariant.2 loop.invariant.1
          ∙ sets-repeat start.bytes.now start.at Byte.space n indent_width
          ∙ ap (λ k. sets start.bytes.now start.at (replicate k Byte.space)) {x = n + indent_width} {y = indent_width * (loop.counter + 1)} (omega arith),
    )

pub returns-then-whole-levels : goal.returns-then-whole-levels
returns-then-whole-levels c =
    let start = c.args.self.now in
    let loop = c.loop in
    let n = indent_width * loop.counter in
    record {
      same_reference = c.store.ensures.same_reference ∙ loop.invariant.0;
      put = record {
        stored =
            c.store.ensures.stored
            ∙ ap₂ (λ o k. sets o k (replicate indent_width Byte.space)) loop.invariant.2 loop.invariant.1
            ∙ sets-repeat start.bytes.now start.at Byte.space n indent_width
            ∙ sets-repeat-room start.bytes.now start.at Byte.space (n + indent_width) (indent_width * c.args.levels)
            (omega (arith, c.min-whole.ensures, c.saturating_sub-room.ensures)) (omega (arith, c.min-whole.ensures));
        next = omega (arith, c.saturating_add-self.ensures, c.saturating_mul-more.ensures, c.store.ensures.at, c.min-whole.ensures, length-replicate (indent_width * c.args.levels) Byte.space);
      };
    }
