-- The reader after a call with a tree of m words: the same borrow, at the place after the answer.
use Rattle.std.specs.Prelude.{ℕ}
use Rattle.syntax.specs.Next.{next_answer, place_after}
use Rattle.reader.specs.declared.Reader.{Reader}

abbrev pub moved : Reader → ℕ → Reader
moved r m = record { source = r.source; at = place_after r.source.now r.at (next_answer r.source.now r.at m) }
