-- What the program prints for a source, and what it needs for that.
use Rattle.std.specs.Prelude.{ℕ, ◌≤◌, ◌≡◌, List, [], ◌∷◌, ◌++◌, length, drop}
use Rattle.std.proofs.Math.Option.{some, none}
use Rattle.utf8.specs.Utf8.{first_ill_formed}
use Rattle.syntax.specs.declared.answer.Refusal.TheVariants.{NotUtf8}
use Rattle.syntax.specs.Answer.{refusal_number, refusal_value}
use Rattle.syntax.specs.Layout.{tree_layout, error_layout}
use Rattle.syntax.specs.Listing.{line, listing}

-- the refusal of a source that is not UTF-8, or the listing of what is read
unfoldable pub printed : List ℕ → List ℕ
printed s = elim (first_ill_formed s) [ some k ↦ line (refusal_number (NotUtf8 k) ∷ refusal_value (NotUtf8 k) ∷ []) | none ↦ listing s ]

-- the longest source
abbrev pub max_source : ℕ
max_source = 1_000

-- at least a line for each of 8,000 marks and 1,000 errors, and the first one
abbrev pub output_room : ℕ
output_room = 500_000

pub record Lent (s t e out : List ℕ) : Type 0 where
  pub source : length s ≤ max_source
  pub tree : tree_layout max_source ≤ length t
  pub errors : error_layout max_source ≤ length e
  pub output : output_room ≤ length out

-- the output starts with what is printed, and past it nothing has changed
pub record Reported (s out out' : List ℕ) (r : ℕ) : Type 0 where
  pub text : out' ≡ printed s ++ drop r out
  pub size : r ≡ length (printed s)
  pub within : r ≤ length out'
