-- What the text writer does, by the definition's pieces of text.
use Rattle.std.specs.Prelude.{ℕ, ◌+◌, ◌<◌, ◌^◌, ◌≡◌, List, length}
use Rattle.std.proofs.lemmas.List.Edits.{sets}
use Rattle.syntax.specs.Serializer.{Piece, last_of}
use Rattle.serializer.specs.declared.writer.TextWriter.{TextWriter}

-- Where a writer stands: how many bytes have been written, the last of them (0 at the start), and the indent level.
pub record Place : Type 0 where
  pub at : ℕ
  pub last : ℕ
  pub indent : ℕ

abbrev pub place_of : TextWriter → Place
place_of w = record { at = w.at; last = w.last; indent = w.indent_level }

-- before anything is written
abbrev pub begun : Place
begun = record { at = 0; last = 0; indent = 0 }

-- the bytes of a piece where the writer stands
abbrev pub text_at : Place → Piece → List ℕ
text_at w p = p w.indent w.last

-- bytes as they are
abbrev pub bytes : List ℕ → Piece
bytes t level last = t

-- the count of the bytes stays small with the piece
abbrev pub Room : Place → Piece → Type 0
Room w p = w.at + length (text_at w p) < 2 ^ 63

-- The piece was written: its bytes stand in the output as far as that goes, and the writer stands after them.
pub record Wrote (out out' : List ℕ) (w w' : Place) (p : Piece) : Type 0 where
  pub stored : out' ≡ sets out w.at (text_at w p)
  pub end : w'.at ≡ w.at + length (text_at w p)
  pub ending : w'.last ≡ last_of w.last (text_at w p)
  pub level : w'.indent ≡ w.indent

-- a writer wrote the piece into the output
pub record HasWritten (out out' : List ℕ) (w w' : TextWriter) (p : Piece) : Type 0 where
  pub wrote : Wrote out out' (place_of w) (place_of w') p
