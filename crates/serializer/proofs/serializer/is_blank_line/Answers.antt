-- `is_blank_line` meets its contract.
use Rattle.std.specs.Prelude.{◌≡◌, ℕ, ◌||◌, Bool, eqb, List, [], ◌∷◌}
use Rattle.std.specs.List.{list_all}
use Rattle.std.proofs.Common.{rules}
use borrow.Author.Tests.{tests}
use mathlib.Core.Path.{refl, ◌∙◌}
use Rattle.std.proofs.lemmas.Iterator.{YieldsList-from_slice}
use Rattle.std.proofs.lemmas.Iterator.Search.{all_from_yields_List}
use Rattle.syntax.specs.Byte as Byte
use Rattle.syntax.specs.Bytes.{all}
use Rattle.syntax.specs.Serializer.{blank_line}
use Rattle.serializer.proofs.serializer.is_blank_line.Goals as goal

abbrev blank : ℕ → Bool
blank b = eqb b Byte.space || (eqb b Byte.carriage_return || eqb b Byte.line_feed)

all-blank : (t : List ℕ) → list_all blank t ≡ blank_line [] t
unfolding blank_line all
all-blank [] = refl
all-blank (b ∷ t) = rw (all-blank t)

pub returns : goal.returns
returns c =
    all_from_yields_List blank _ _ _ c.all.ensures.ran (YieldsList-from_slice c.args.text.now cc) (λ x b q k. search (rules, tests))
    ∙ all-blank c.args.text.now
