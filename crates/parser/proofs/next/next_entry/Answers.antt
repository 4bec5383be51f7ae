-- `next::next_entry` meets its contract.
use mathlib.Core.Path.{ap, ◌∙◌}
use Rattle.syntax.specs.Next.{place_after}
use Rattle.laws.specs.Answered.{told}
use Rattle.parser.proofs.next.next_entry.Goals as goal

pub returns : goal.returns
returns c =
    record {
      answers = told _ c.answer-next.ensures.0;
      place = c.place_after-place.ensures ∙ ap (place_after _ _) c.answer-next.ensures.0;
      tree = c.answer-next.ensures.1;
    }
