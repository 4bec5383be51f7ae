-- What stands where a variant may start.
use Rattle.std.specs.Prelude.{◌≡◌, ℕ, ◌+◌, ◌-◌, ◌≤◌, Bool, true, Option, Some, None, Result, Ok, Err, []}
use Rattle.syntax.specs.Byte as Byte
use Rattle.syntax.specs.Bytes.{starts_with}
use Rattle.syntax.specs.Errors.{up_fault}
use Rattle.syntax.specs.declared.errors.ParserError.{ParserError}
use Rattle.syntax.specs.Reader.{ok, bad, Turn, done, turn_of}
use Rattle.syntax.specs.Pattern.{Inside}
use Rattle.syntax.specs.Expression.{variant_turn, variant_with, turn_after}
use Rattle.entry.specs.declared.errors.Stop.{Stop}
use Rattle.entry.specs.declared.errors.Stop.TheVariants.{Error, TooDeep}
use Rattle.entry.specs.declared.source.Source.{Source}
use Rattle.entry.specs.Reads.{rest}

-- a turn ends in an error, told from a place
pub record Stops {S A : Type 0} (at : ℕ) (f : ParserError) (k : ℕ) (t : Turn S A) : Type 0 where
  pub fault : ParserError
  pub j : ℕ
  pub is : t ≡ done (bad fault j)
  pub moved : f ≡ up_fault at fault
  pub place : k ≡ at + j

-- what stands where a variant may start, after variants of which one was a default if `has` says so: one, which is the default or not;
-- none; or an error
abbrev pub NextAs : Source → Source → Bool → Result (Option Bool) Stop → Type 0
NextAs s s' has (Ok (Some d)) =
    (s.ptr ≤ s'.ptr) × (starts_with Byte.open_bracket (rest s') ≡ true)
    × ((sub : Inside)
    → variant_turn sub has (rest s) ≡ turn_after (s'.ptr - s.ptr) (turn_of (variant_with sub d has (rest s'))))
NextAs s s' has (Ok None) = (s.ptr ≤ s'.ptr) × ((sub : Inside) → variant_turn sub has (rest s) ≡ done (ok tt [] (s'.ptr - s.ptr)))
NextAs s s' has (Err (Error f)) = (sub : Inside) → Stops s.ptr f s'.ptr (variant_turn sub has (rest s))
NextAs s s' has (Err TooDeep) = ⊥

pub record NextIs (s s' : Source) (has : Bool) (r : Result (Option Bool) Stop) : Type 0 where
  pub bytes : s'.bytes ≡ s.bytes
  pub is : NextAs s s' has r
