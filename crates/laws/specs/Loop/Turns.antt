-- Every turn of the definitions uses a byte, and no more than there are: the loops of `repeat-again`.
use Rattle.std.specs.Prelude.{ℕ}
use Rattle.syntax.specs.Helper.{blank_turn, block_turn}
use Rattle.syntax.specs.Comment.{comment_turn}
use Rattle.syntax.specs.Pattern.{Inside}
use Rattle.syntax.specs.Expression.{string_turn}
use Rattle.syntax.specs.Core.{attribute_turn}
use Rattle.laws.specs.Loop.{Moves}
use Rattle.laws.specs.Bounds.{moves}
use Rattle.laws.specs.Bounds.Helper.{blank_turn-bounds, block_turn-bounds}
use Rattle.laws.specs.Bounds.Comment.{comment_turn-bounds}
use Rattle.laws.specs.Bounds.Pattern.{InsideBounds}
use Rattle.laws.specs.Bounds.Expression.{string_turn-bounds}
use Rattle.laws.specs.Bounds.Entry.{attribute_turn-bounds}

pub blank_turn-moves : Moves blank_turn
blank_turn-moves = moves (blank_turn-bounds {n = 0})

pub block_turn-moves : Moves block_turn
block_turn-moves = moves (block_turn-bounds {n = 0})

pub comment_turn-moves : Moves comment_turn
comment_turn-moves = moves (comment_turn-bounds {n = 0})

pub string_turn-moves : Moves string_turn
string_turn-moves = moves (string_turn-bounds {n = 0})

-- where what is nested is bounded, as at each level (`level-bounds`)
module _ {n : ℕ} {sub : Inside} (law : InsideBounds n sub) where
  pub attribute_turn-moves : Moves (attribute_turn sub)
  attribute_turn-moves = moves (attribute_turn-bounds law)
