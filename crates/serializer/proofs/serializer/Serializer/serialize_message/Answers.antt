-- `Serializer::serialize_message` meets its contract.
use Rattle.std.proofs.Common.{ℕ, ◌+◌, refl, ap, subst, arith, length}
use Rattle.syntax.specs.Layout.{marks_in}
use Rattle.syntax.specs.Serializer.{attributes}
use Rattle.serializer.specs.declared.serializer.Serializer.{Serializer}
use Rattle.serializer.specs.Message.{values, Valued}
use Rattle.tree.specs.Walk.{inner_at}
use Rattle.tree.proofs.Messages.{head}
use Rattle.serializer.proofs.Messages.{message-row}
use Rattle.serializer.proofs.Ways.{way, room, writes, goes, ready-for, writes_in, done}
use Rattle.serializer.proofs.serializer.Serializer.serialize_message.Goals as goal

pub serialize_name-requires : goal.serialize_name-requires
serialize_name-requires c =
    let s = c.args.self.now in
    let h = head c.requires.node in
    record { text_at = h.key; room = room (way s (message-row s.nodes.source.now h) c.requires.room) }

pub serialize_value-requires : goal.serialize_value-requires
serialize_value-requires c =
    let s = c.args.self.now in
    let h = head c.requires.node in
    let w = goes (way s (message-row s.nodes.source.now h) c.requires.room) refl refl c.serialize_name.ensures in
    ready-for values w h.kind h.one h.here (omega (arith, c.requires.shallow))

pub serialize_attributes-requires : goal.serialize_attributes-requires
serialize_attributes-requires c =
    let s = c.args.self.now in
    let h = head c.requires.node in
    let w = goes (way s (message-row s.nodes.source.now h) c.requires.room) refl refl c.serialize_name.ensures in
    let P : Serializer → Type 0 = λ z. Valued z.nodes.source.now z.nodes.tree.now z.mark c.serialize_value.new.self.mark in
    let v : Valued s.nodes.source.now s.nodes.tree.now (s.mark + 3) c.serialize_value.new.self.mark =
    subst P w.is c.serialize_value.ensures.valued in
    let w₂ = rw v.left at (writes_in values w refl c.serialize_value.ensures.went) in
    ready-for attributes w₂ v.kind v.one v.here (omega (arith, c.requires.shallow, v.later))

pub newline-requires : goal.newline-requires
newline-requires c =
    let s = c.args.self.now in
    let h = head c.requires.node in
    let w = goes (way s (message-row s.nodes.source.now h) c.requires.room) refl refl c.serialize_name.ensures in
    let P : Serializer → Type 0 = λ z. Valued z.nodes.source.now z.nodes.tree.now z.mark c.serialize_value.new.self.mark in
    let v : Valued s.nodes.source.now s.nodes.tree.now (s.mark + 3) c.serialize_value.new.self.mark =
    subst P w.is c.serialize_value.ensures.valued in
    let w₂ = rw v.left at (writes_in values w refl c.serialize_value.ensures.went) in
    room (writes_in attributes w₂ refl c.serialize_attributes.ensures)

pub returns : goal.returns
returns c =
    let s = c.args.self.now in
    let h = head c.requires.node in
    let w = goes (way s (message-row s.nodes.source.now h) c.requires.room) refl refl c.serialize_name.ensures in
    let P : Serializer → Type 0 = λ z. Valued z.nodes.source.now z.nodes.tree.now z.mark c.serialize_value.new.self.mark in
    let v : Valued s.nodes.source.now s.nodes.tree.now (s.mark + 3) c.serialize_value.new.self.mark =
    subst P w.is c.serialize_value.ensures.valued in
    let w₂ = rw v.left at (writes_in values w refl c.serialize_value.ensures.went) in
    let g : Serializer → ℕ = λ z. z.mark + length (inner_at (marks_in z.nodes.tree.now) z.mark) + 1 in
    let w₃ = writes_in attributes w₂ (ap g w₂.is) c.serialize_attributes.ensures in
    done (writes w₃ c.newline.ensures) (omega (arith, v.till, h.till))
