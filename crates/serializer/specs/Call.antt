-- What the contracts say of the writing call, and of the writing under it.
use Rattle.std.specs.Prelude.{ℕ, ◌≡◌, Bool, List, length}
use Rattle.syntax.specs.Answer.{Answer, Answered, slice_after}
use Rattle.syntax.specs.Writing.{text_answer, write_answer, output_after}

-- the writing where no earlier test refuses: its answer, and every byte of the output
pub record DidWriteInto (text o o' : List ℕ) (r : Answer) : Type 0 where
  pub answers : r ≡ text_answer (length o) (length text)
  pub output : o' ≡ slice_after (text_answer (length o) (length text)) (length text) text o

-- the writing call: its answer, and every byte of the output
pub record DidWrite (s t o o' : List ℕ) (junk : Bool) (r : Answer) : Type 0 where
  pub answers : Answered r (write_answer s t (length o) junk)
  pub output : o' ≡ output_after s t o junk
