-- `has_newline` meets its contract.
use Rattle.std.specs.Prelude.{◌≡◌, ℕ, eqb, List, [], ◌∷◌}
use Rattle.std.specs.List.{list_any}
use mathlib.Core.Path.{refl, ◌∙◌}
use Rattle.syntax.specs.Byte as Byte
use Rattle.syntax.specs.Serializer.{has_newline}
use Rattle.serializer.proofs.serializer.has_newline.Goals as goal

contains-newline : (t : List ℕ) → list_any (λ b. eqb b Byte.line_feed) t ≡ has_newline [] t
unfolding has_newline
contains-newline [] = refl
contains-newline (b ∷ t) = rw (contains-newline t)

pub returns : goal.returns
returns c = c.contains.ensures.value ∙ contains-newline c.args.text.now
