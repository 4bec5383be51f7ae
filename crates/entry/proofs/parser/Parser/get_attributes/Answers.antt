-- `get_attributes` meets its contract.
use Rattle.std.specs.Prelude.{◌≡◌, length}
use native.Mathlib.Omega.{arith}
use mathlib.Core.Path.{refl, ◌∙◌}
use Rattle.entry.proofs.Entries.{taken-one}
use Rattle.entry.proofs.Attributes.{attributing, attributes-end, attributes-deep, attributes-stop, attributes-more}
use Rattle.entry.proofs.parser.Parser.get_attributes.Goals as goal

pub loop-self-init : goal.loop-self-init
loop-self-init c = record { same = refl; going = attributing c.args.left _ _ (omega (arith, c.requires.spent)) }

pub returns-then-not-take_byte_if-clause-reads : goal.returns-then-not-take_byte_if-clause-reads
returns-then-not-take_byte_if-clause-reads c =
    attributes-end c.loop-self.invariant.going c.skip_blank_inline.ensures
    (rw c.if-not-take_byte_if.true at c.take_byte_if.ensures) refl refl

pub get_attribute-attribute-requires : goal.get_attribute-attribute-requires
get_attribute-attribute-requires c =
    let h = rw c.if-not-take_byte_if.false at c.take_byte_if.ensures in
    record {
      spent =
          omega (
            arith,
            c.loop-self.invariant.going.spent,
            c.skip_blank_inline.ensures.went.onward,
            h.went.onward,
            taken-one _ _ h.went.answers,
          );
    }

pub loop-self-smaller : goal.loop-self-smaller
loop-self-smaller c =
    let h = rw c.if-not-take_byte_if.false at c.take_byte_if.ensures in
    let d = rw c.in_default.is at c.get_attribute-attribute.ensures.reads in
    let m = (attributes-more c.loop-self.invariant.going c.skip_blank_inline.ensures h d).0 in
    let b : length c.get_attribute-attribute.new.self.source.bytes.now ≡ length c.loop-self.self.source.bytes.now =
    rw (d.frame.bytes, h.bytes, c.skip_blank_inline.ensures.bytes) in
    omega (arith, m, c.get_attribute-attribute.new.self.source.inside)

pub loop-self-preserved : goal.loop-self-preserved
loop-self-preserved c = record {
  same = c.get_attribute-attribute.ensures.same ∙ c.loop-self.invariant.same;
  going =
      (attributes-more c.loop-self.invariant.going c.skip_blank_inline.ensures
      (rw c.if-not-take_byte_if.false at c.take_byte_if.ensures)
      (rw c.in_default.is at c.get_attribute-attribute.ensures.reads)).1;
}

pub returns-in-TooDeep-clause-reads : goal.returns-in-TooDeep-clause-reads
returns-in-TooDeep-clause-reads c =
    rw c.in-TooDeep.is
    (attributes-deep c.loop-self.invariant.going c.skip_blank_inline.ensures (rw c.if-not-take_byte_if.false at c.take_byte_if.ensures)
    (rw (c.in-Err.is, c.in-TooDeep.is) at c.get_attribute-attribute.ensures.reads))

pub returns-in-Err-clause-reads : goal.returns-in-Err-clause-reads
returns-in-Err-clause-reads c =
    attributes-stop c.loop-self.invariant.going c.skip_blank_inline.ensures (rw c.if-not-take_byte_if.false at c.take_byte_if.ensures)
    (rw (c.in-Err.is, c.in_default-stop.is) at c.get_attribute-attribute.ensures.reads) refl refl
    (record { words = refl; capacity = refl }) refl refl

pub returns-then-not-take_byte_if-clause-same : goal.returns-then-not-take_byte_if-clause-same
returns-then-not-take_byte_if-clause-same c = c.loop-self.invariant.same

pub returns-in-TooDeep-clause-same : goal.returns-in-TooDeep-clause-same
returns-in-TooDeep-clause-same c = c.get_attribute-attribute.ensures.same ∙ c.loop-self.invariant.same

pub returns-in-Err-clause-same : goal.returns-in-Err-clause-same
returns-in-Err-clause-same c = c.get_attribute-attribute.ensures.same ∙ c.loop-self.invariant.same
