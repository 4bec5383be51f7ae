-- The levels of comments as numbers, as the definitions have them.
use Rattle.std.specs.Prelude.{ℕ, Option, Some, None}
use Rattle.entry.specs.declared.comment.Level.{Level}
use Rattle.entry.specs.declared.comment.Level.TheVariants.{Regular, Group, Resource}

abbrev pub number : Level → ℕ
number Regular = 1
number Group = 2
number Resource = 3

-- where there is no level, 0
abbrev pub number_if : Option Level → ℕ
number_if (Some l) = number l
number_if None = 0
