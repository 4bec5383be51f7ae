-- `models::needs` meets its contract.
use Rattle.std.proofs.Common.{rules}
use Rattle.syntax.specs.Shape.{among, needs}
use Rattle.tree.proofs.models.needs.Goals as goal

pub returns-in-Placeable : goal.returns-in-Placeable
unfolding needs among
returns-in-Placeable c = search rules

pub returns-in_default : goal.returns-in_default
unfolding needs among
returns-in_default c = search rules
