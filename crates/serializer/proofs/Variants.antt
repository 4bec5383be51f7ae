-- Variants and named arguments: their first children, and the pieces of their parts.
use Prim.Native.Nat.{ℕ, ◌+◌}
use mathlib.Core.List.{List, [], ◌∷◌}
use lib.Dec.{eqb}
use Rattle.syntax.specs.Kind as Kind
use Rattle.syntax.specs.Bytes.{ascii}
use Rattle.syntax.specs.Marks.{Mark}
use Rattle.syntax.specs.Serializer.{Node, literal, star, if, name}
use Rattle.tree.specs.Walk.{kind_at, node_at}
use Rattle.serializer.specs.Serialize.{key_at, argument_name}
use Rattle.serializer.proofs.Pieces.{Row, two, four}

pub key_row : (source : List ℕ) (ms : List Mark) (i : ℕ)
    → Row (key_at source ms i)
    (if (eqb (kind_at ms i) Kind.default_variant) star ∷ literal (ascii "[") ∷ name source (node_at ms (i + 1))
    ∷ literal (ascii "]") ∷ [])
unfolding key_at
key_row source ms i =
    four (if (eqb (kind_at ms i) Kind.default_variant) star) (literal (ascii "[")) (name source (node_at ms (i + 1)))
    (literal (ascii "]"))

pub name-row : (source : List ℕ) (n : Node) → Row (argument_name source n) (name source n ∷ literal (ascii ": ") ∷ [])
unfolding argument_name
name-row source n = two (name source n) (literal (ascii ": "))
