-- The scan of a string literal: what a turn at a backslash did.
use Rattle.std.specs.Prelude.{◌≡◌, ℕ, ◌-◌, ◌<◌, ◌≤◌, Result, Err, List, [], length}
use Rattle.syntax.specs.declared.errors.ParserError.{ParserError}
use Rattle.syntax.specs.Reader.{Out, Turn, again, done}
use Rattle.syntax.specs.Expression.{string_turn}
use Rattle.entry.specs.declared.errors.Stop.{Stop}
use Rattle.entry.specs.declared.errors.Stop.TheVariants.{TooDeep}
use Rattle.entry.specs.declared.source.Source.{Source}
use Rattle.entry.specs.Place.{Place, At, Bad, Found}
use Rattle.entry.specs.Reads.{rest, place_of}

-- the turn goes on at i
pub record Onward (s : List ℕ) (at : ℕ) (t : Turn (Unit {0}) (Unit {0})) (i : ℕ) : Type 0 where
  pub turn : t ≡ again tt [] (i - at)
  pub onward : at < i
  pub within : i ≤ length s

-- the turn ends the loop with an error
pub record Ended (s : List ℕ) (at : ℕ) (t : Turn (Unit {0}) (Unit {0})) (e : ParserError) (j : ℕ) : Type 0 where
  pub out : Out (Unit {0})
  pub turn : t ≡ done out
  pub found : Found s at out (Bad e j)

abbrev pub Turned : List ℕ → ℕ → Turn (Unit {0}) (Unit {0}) → Place → Type 0
Turned s at t (At i) = Onward s at t i
Turned s at t (Bad e j) = Ended s at t e j

-- the turn of an escape was made
pub record Escapes (s s' : Source) (r : Result (Unit {0}) Stop) : Type 0 where
  pub bytes : s'.bytes ≡ s.bytes
  pub turned : Turned s.bytes.now s.ptr (string_turn tt (rest s)) (place_of r s'.ptr)
  pub shallow : r ≡ Err TooDeep → ⊥
