-- What putting a text into a lent output does, and what it counts.
use Rattle.std.specs.Prelude.{ℕ, ◌+◌, ◌-◌, ◌^◌, min, ◌≡◌, List, length}
use Rattle.std.proofs.lemmas.List.Edits.{sets}
use Rattle.output.specs.declared.text.Output.{Output}

-- A count in 64 bits: a larger one stays at the largest number. Every output is shorter than a count that stays there.
abbrev pub counted : ℕ → ℕ
counted n = min n (2 ^ 64 - 1)

-- The text stands in the output from a place on, as far as there is room, and the next place is the count after all of it.
pub record Put (out out' : List ℕ) (at at' : ℕ) (text : List ℕ) : Type 0 where
  pub stored : out' ≡ sets out at text
  pub next : at' ≡ counted (at + length text)

-- the text was put where the output stands, into the same slice
pub record DidPut (o o' : Output) (text : List ℕ) : Type 0 where
  pub same_reference : o'.bytes.ghost_name ≡ o.bytes.ghost_name
  pub put : Put o.bytes.now o'.bytes.now o.at o'.at text
