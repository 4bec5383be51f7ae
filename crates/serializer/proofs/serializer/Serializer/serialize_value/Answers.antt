-- `Serializer::serialize_value` meets its contract.
use Rattle.std.proofs.Common.{◌≡◌, refl, sym, ap, ◌∙◌, arith}
use Rattle.syntax.specs.Kind as Kind
use Rattle.syntax.specs.Layout.{marks_in}
use Rattle.tree.specs.Walk.{kind_at}
use Rattle.tree.proofs.Sizes.{sizes}
use Rattle.tree.proofs.Walk.{inside-count}
use Rattle.serializer.proofs.Messages.{unvalued, no-values, value}
use Rattle.serializer.proofs.Ways.{stays}
use Rattle.serializer.proofs.Numbers.{is, other}
use Rattle.serializer.proofs.serializer.Serializer.serialize_value.Goals as goal

pub is_at-requires : goal.is_at-requires
is_at-requires c =
    let tree = c.args.self.now.nodes.tree.now in
    inside-count tree (sizes tree c.args.self.now.nodes.fit) c.requires.here

pub serialize_pattern-requires : goal.serialize_pattern-requires
serialize_pattern-requires c =
    let s = c.args.self.now in
    let v =
    value s.nodes.source.now s.nodes.tree.now c.requires.kind c.requires.one c.requires.here
    (is c.is_at.ensures c.if-is_at.true) in
    record {
      node = v.there;
      shallow = omega (arith, c.requires.shallow);
      room = rw v.same at c.requires.room;
    }

pub returns-then-is_at : goal.returns-then-is_at
returns-then-is_at c =
    let s = c.args.self.now in
    let d = c.serialize_pattern.ensures in
    let v =
    value s.nodes.source.now s.nodes.tree.now c.requires.kind c.requires.one c.requires.here
    (is c.is_at.ensures c.if-is_at.true) in
    record {
      went = record {
        same_reference = d.same_reference;
        went = record { wrote = rw v.same d.went.wrote; next = refl };
        is = d.is ∙ ap (λ m. record s { output = c.serialize_pattern.new.self.output; writer = c.serialize_pattern.new.self.writer; mark = m }) (sym d.went.next);
      };
      valued = rw d.went.next v.on;
    }

pub returns-else-is_at : goal.returns-else-is_at
returns-else-is_at c =
    let s = c.args.self.now in
    let other : kind_at (marks_in s.nodes.tree.now) s.mark ≡ Kind.pattern → ⊥ =
    other c.is_at.ensures c.if-is_at.false in
    record {
      went = rw (no-values s.nodes.source.now s.nodes.tree.now c.requires.kind c.requires.one c.requires.here other) (stays refl);
      valued = unvalued s.nodes.source.now s.nodes.tree.now c.requires.kind c.requires.one c.requires.here other;
    }
