-- `models::opens` meets its contract.
use Rattle.std.proofs.Common.{rules}
use Rattle.syntax.specs.Shape.{among, opens}
use Rattle.tree.proofs.models.opens.Goals as goal

pub returns-in-Placeable : goal.returns-in-Placeable
unfolding opens among
returns-in-Placeable c = search rules

pub returns-in_default : goal.returns-in_default
unfolding opens among
returns-in_default c = search rules
