-- Calls on a reader one after the other, as the contracts of `new` and `next` give them. What they tell is in proofs/Runs.
use Rattle.std.specs.Prelude.{ℕ, List, [], ◌∷◌}
use Rattle.syntax.specs.Next.{Next, next_answer}
use Rattle.reader.specs.declared.Reader.{Reader}
use Rattle.reader.specs.Moved.{moved}

-- the answers of calls with trees of so many words
unfoldable pub run : Reader → List ℕ → List Next
run r [] = []
run r (m ∷ ms) = next_answer r.source.now r.at m ∷ run (moved r m) ms
