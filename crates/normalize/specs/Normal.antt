-- The normal text of a source: it is read, and the tree that was left is written, junk with it.
use Rattle.std.specs.Prelude.{ℕ, ◌≡◌, true, false, List, length, eqb}
use Rattle.syntax.specs.Answer.{Answer, number_of}
use Rattle.syntax.specs.Reading.{read_answer, tree_after}
use Rattle.syntax.specs.Writing.{write_answer, output_after}

-- what follows an accepted answer, or what was there before
unfoldable pub where_accepted : {A : Type 0} → Answer → (then else : A) → A
where_accepted a x y = elim (eqb (number_of a) 0) [ true ↦ x | false ↦ y ]

-- a source s with the lent words t and e and the output o: the writing's answer and output, or the reading's refusal and nothing written
pub record Normalized (s t e o o' : List ℕ) (r : Answer) : Type 0 where
  pub answers : r ≡ where_accepted (read_answer s (length t) (length e)) (write_answer s (tree_after s t e) (length o) true)
      (read_answer s (length t) (length e))
  pub output : o' ≡ where_accepted (read_answer s (length t) (length e)) (output_after s (tree_after s t e) o true) o
