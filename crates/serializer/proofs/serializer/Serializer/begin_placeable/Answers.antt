-- `Serializer::begin_placeable` meets its contract.
use mathlib.Core.Path.{refl}
use borrow.Author.Tests.{ne_eqb}
use Rattle.syntax.specs.declared.kind.Kind.TheVariants.{Placeable}
use Rattle.syntax.specs.Kind as Kind
use Rattle.serializer.specs.Serialize.{opening_braces, braces_of}
use Rattle.serializer.proofs.Numbers.{unlike}
use Rattle.serializer.proofs.Ways.{wrote-on}
use Rattle.serializer.proofs.serializer.Serializer.begin_placeable.Goals as goal

pub write_literal-requires : goal.write_literal-requires
unfolding opening_braces
write_literal-requires c = rw c.in-Placeable.is at c.requires.room

pub write_literal-requires-in_default : goal.write_literal-requires-in_default
unfolding opening_braces
write_literal-requires-in_default c =
    rw (ne_eqb _ Kind.placeable (unlike refl Placeable c.in_default.not-Placeable), opening_braces) at c.requires.room

pub returns-in-Placeable : goal.returns-in-Placeable
unfolding opening_braces braces_of
returns-in-Placeable c = rw c.in-Placeable.is (wrote-on c.write_literal.ensures)

pub returns-in_default : goal.returns-in_default
unfolding opening_braces braces_of
returns-in_default c =
    rw (ne_eqb _ Kind.placeable (unlike refl Placeable c.in_default.not-Placeable), opening_braces, braces_of)
    (wrote-on c.write_literal-in_default.ensures)
