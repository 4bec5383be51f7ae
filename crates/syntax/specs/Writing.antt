-- The writing call: for a source, the words of a tree, an output and the flag `junk`, what it answers and what every byte
-- of the output then is.
use Rattle.std.specs.Prelude.{ℕ, Bool, true, false, List, length, ltb, Ok, Err}
use Rattle.std.proofs.Math.Option.{some, none}
use Rattle.syntax.specs.declared.answer.Refusal.TheVariants.{OutputTooShort}
use Rattle.syntax.specs.Answer.{Answer, slice_after}
use Rattle.syntax.specs.Layout.{marks_in}
use Rattle.syntax.specs.Tests.{refusal}
use Rattle.syntax.specs.Serializer.{serialize}

-- the answer for a text of n bytes and an output of o: test 7
unfoldable pub text_answer : (o n : ℕ) → Answer
text_answer o n = elim (ltb o n) [ true ↦ Err (OutputTooShort n) | false ↦ Ok n ]

-- the tests in their order; the output has o bytes
unfoldable pub write_answer : (source tree : List ℕ) → (o : ℕ) → (junk : Bool) → Answer
write_answer s t o junk = elim (refusal s t) [ some r ↦ Err r | none ↦ text_answer o (length (serialize s junk (marks_in t))) ]

-- the output at the end: where it is written it starts with the text, and the bytes past the text never change
unfoldable pub output_after : (source tree output : List ℕ) → (junk : Bool) → List ℕ
output_after s t o junk =
    let text = serialize s junk (marks_in t) in
    slice_after (write_answer s t (length o) junk) (length text) text o
