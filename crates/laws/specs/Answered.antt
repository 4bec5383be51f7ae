-- An answer that is the definition's has its number and its values.
use Rattle.std.specs.Prelude.{ℕ, ◌≡◌}
use Rattle.std.proofs.Common.{ap}
use Rattle.syntax.specs.Answer as Answer
use Rattle.syntax.specs.Next as Next

pub answered : {r a : Answer.Answer} → r ≡ a → Answer.Answered r a
answered h = record { same = h; number = ap Answer.number_of h; value = ap Answer.value_of h }

pub told : {r a : Next.Next} (l : ℕ) → r ≡ a → Next.Answered l r a
told l h = record { same = h; number = ap Answer.number_of h; value = ap (Next.value_of l) h; second = ap (Next.second_of l) h }
