-- Reading as the definitions give it, for lent slices of any length and content.
use Rattle.std.specs.Prelude.{ℕ, ◌≡◌, List, map, length, Ok}
use Rattle.syntax.specs.Answer.{Answer}
use Rattle.syntax.specs.Limits.{max_open}
use Rattle.syntax.specs.Marks.{kind_of}
use Rattle.syntax.specs.Core as Core
use Rattle.syntax.specs.Core.{parse}
use Rattle.syntax.specs.Layout as Layout
use Rattle.syntax.specs.Layout.{marks_in}
use Rattle.syntax.specs.Reading.{marks_of, read_answer, tree_after, errors_after}
use Rattle.syntax.specs.Serializer.{serialize}
use Rattle.cut.specs.Claim.{Tree, Errors, View}

-- what stands in a slice's words; its capacity and the words past its arrays don't matter
unfoldable pub tree_in : List ℕ → Tree
tree_in ws = record { count = Layout.count ws; kinds = Layout.kinds ws; places = Layout.places ws }

unfoldable pub errors_in : List ℕ → Errors
errors_in ws = record { count = Layout.count ws; kinds = Layout.kinds ws; groups = Layout.groups_in ws }

-- the slices that a reading is lent
pub record Slices : Type 0 where
  pub tree : List ℕ
  pub errors : List ℕ

-- the kinds of the marks that were read
unfoldable pub kinds_of : Core.Reading → List ℕ
kinds_of r = map kind_of (marks_of r)

-- a reading by the definition of what is read, by the answer for a source and the lengths of the slices, and by the
-- words that it leaves in both. Its normal
-- text is what the definition of the writer makes of the tree that is left
abbrev pub defined : (parse : List ℕ → Core.Reading) (answer : List ℕ → ℕ → ℕ → Answer)
    (tree_after errors_after : (source tree errors : List ℕ) → List ℕ)
    → View
defined parse answer tree_after errors_after = record {
  kinds = λ s. kinds_of (parse s);
  Reading = λ s. Slices;
  Accepted = λ s l. answer s (length l.tree) (length l.errors) ≡ Ok 0;
  tree = λ s l. tree_in (tree_after s l.tree l.errors);
  errors = λ s l. errors_in (errors_after s l.tree l.errors);
  Text = λ s l junk t. t ≡ serialize s junk (marks_in (tree_after s l.tree l.errors));
}

-- the reading call
abbrev pub reading : View
reading = defined (parse max_open) read_answer tree_after errors_after
