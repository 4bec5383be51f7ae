-- A view that shows what is read.
use Rattle.std.specs.Prelude.{ℕ, ◌≡◌, Bool, List, map}
use Rattle.syntax.specs.Marks.{Mark, kind_of}
use Rattle.syntax.specs.Core.{Error, read, parse}
use Rattle.syntax.specs.Serializer.{serialize}
use Rattle.cut.specs.Claim.{View}
use Rattle.cut.specs.Words.{of_marks, of_errors}

-- a reading leaves what `parse` reads of its source, with at most n openings at a time
pub record Shows (n : ℕ) (view : View) (s : List ℕ) (r : view.Reading s) : Type 0 where
  pub marks : List Mark
  pub list : List Error
  pub reads : parse n s ≡ read marks list
  pub kinds : view.kinds s ≡ map kind_of marks
  pub tree : view.tree s r ≡ of_marks marks
  pub errors : view.errors s r ≡ of_errors list
  pub text : (junk : Bool) (t : List ℕ) → view.Text s r junk t → t ≡ serialize s junk marks

-- the accepted ones do
abbrev pub Faithful : ℕ → View → Type 0
Faithful n view = (s : List ℕ) (r : view.Reading s) → view.Accepted s r → Shows n view s r
