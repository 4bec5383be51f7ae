-- What is asked of a mark whose kind is looked up.
use Rattle.std.specs.Prelude.{ℕ, ◌≡◌}
use Rattle.syntax.specs.declared.kind.Kind.{Kind}
use Rattle.syntax.specs.Kind.{number_of}

-- n is the number of a kind
pub record IsKind (n : ℕ) : Type 0 where
  pub kind : Kind
  pub number : number_of kind ≡ n
