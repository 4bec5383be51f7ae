-- The piece of an entry that may be left out.
use Rattle.std.specs.Prelude.{ℕ, Bool, List}
use Rattle.syntax.specs.Serializer.{Node, Piece, if, name}

-- junk, where it is asked for
unfoldable pub junk_in : (source : List ℕ) (junk : Bool) → Node → Piece
junk_in source junk n = if junk (name source n)
