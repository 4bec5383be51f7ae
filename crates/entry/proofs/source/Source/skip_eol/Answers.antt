-- `source::Source::skip_eol` meets its contract.
use mathlib.Core.Path.{refl, sym}
use native.Mathlib.Omega.{arith}
use Rattle.entry.proofs.Lines.{past-eol, goes-eol}
use Rattle.entry.proofs.Moves.{goes}
use Rattle.entry.proofs.source.Source.skip_eol.Goals as goal

pub overflow_add-self : goal.overflow_add-self
overflow_add-self c =
    let self = c.args.self.now in
    record { fits = omega (arith, past-eol _ _ self.inside c.eol_width-n.ensures, self.short) }

pub invariant_of-self : goal.invariant_of-self
invariant_of-self c =
    let self = c.args.self.now in
    record { inside = past-eol _ _ self.inside c.eol_width-n.ensures; short = self.short }

pub returns : goal.returns
returns c = goes refl (goes-eol _ (sym c.eol_width-n.ensures)) refl (past-eol _ _ c.args.self.now.inside c.eol_width-n.ensures)
