-- `TextWriter::write_sigil` meets its contract.
use mathlib.Core.Path.{refl}
use Rattle.syntax.specs.declared.kind.Kind.TheVariants.{VariableReference, TermReference}
use Rattle.serializer.proofs.Numbers.{unlike}
use Rattle.serializer.proofs.Pieces.{has_empty}
use Rattle.serializer.proofs.References.{sigil-variable, sigil-term, sigil-none}
use Rattle.serializer.proofs.writer.TextWriter.write_sigil.Goals as goal

pub write_literal-requires : goal.write_literal-requires
write_literal-requires c = rw (c.in-VariableReference.is, sigil-variable) at c.requires

pub write_literal-requires-in-TermReference : goal.write_literal-requires-in-TermReference
write_literal-requires-in-TermReference c = rw (c.in-TermReference.is, sigil-term) at c.requires

pub returns-in-VariableReference : goal.returns-in-VariableReference
returns-in-VariableReference c = rw (c.in-VariableReference.is, sigil-variable) c.write_literal.ensures

pub returns-in-TermReference : goal.returns-in-TermReference
returns-in-TermReference c = rw (c.in-TermReference.is, sigil-term) c.write_literal-in-TermReference.ensures

pub returns-in_default : goal.returns-in_default
returns-in_default c =
    rw
    (sigil-none _ (unlike refl VariableReference c.in_default.not-VariableReference)
    (unlike refl TermReference c.in_default.not-TermReference))
    has_empty
