-- `wrote_by` meets its contract.
use borrow.Author.Tests.{ne_eqb}
use mathlib.Core.Path.{refl}
use Rattle.syntax.specs.declared.kind.Kind.TheVariants.{Junk, AttachedComment}
use Rattle.syntax.specs.Kind as Kind
use Rattle.syntax.specs.Serializer.{wrote_by}
use Rattle.serializer.proofs.Numbers.{unlike}
use Rattle.serializer.proofs.resource.wrote_by.Goals as goal

pub returns-in-Junk : goal.returns-in-Junk
unfolding wrote_by
returns-in-Junk c = rw c.in-Junk.is

pub returns-in-AttachedComment : goal.returns-in-AttachedComment
unfolding wrote_by
returns-in-AttachedComment c = rw c.in-AttachedComment.is

pub returns-in_default : goal.returns-in_default
unfolding wrote_by
returns-in_default c =
    rw (
      ne_eqb _ Kind.junk (unlike refl Junk c.in_default.not-Junk),
      wrote_by,
      ne_eqb _ Kind.attached_comment (unlike refl AttachedComment c.in_default.not-AttachedComment),
    )
