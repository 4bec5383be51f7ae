-- What an answer's number tells: that it is acceptance, and what becomes of lent memory.
use Rattle.std.specs.Prelude.{ℕ, ◌≡◌, refl, IsErr, Ok, Err}
use Rattle.std.proofs.Common.{arith}
use borrow.Author.Tests.{eq-eqb, ne_eqb}
use Rattle.syntax.specs.declared.answer.Refusal.TheVariants.{TooLong, NotUtf8, TreeTooShort, ErrorsTooShort}
use Rattle.syntax.specs.declared.answer.Refusal.TheVariants.{TooDeep, IllFormed, OutputTooShort}
use Rattle.syntax.specs.Answer.{Answer, number_of, value_of, effect_of, written, zeroed, untouched}

pub accepted : (a : Answer) → number_of a ≡ 0 → a ≡ Ok (value_of a)
accepted (Ok v) e = refl
accepted (Err (TooLong v)) e = absurd (omega arith)
accepted (Err (NotUtf8 v)) e = absurd (omega arith)
accepted (Err (TreeTooShort v)) e = absurd (omega arith)
accepted (Err (ErrorsTooShort v)) e = absurd (omega arith)
accepted (Err (TooDeep v)) e = absurd (omega arith)
accepted (Err (IllFormed v)) e = absurd (omega arith)
accepted (Err (OutputTooShort v)) e = absurd (omega arith)

pub not-accepted : (a : Answer) → IsErr a → (v : ℕ) → a ≡ Ok v → ⊥
not-accepted (Ok w) h v e = let z : ◌≡◌ {A = ℕ} 0 1 = cc in absurd (omega arith)
not-accepted (Err r) h v e = let z : ◌≡◌ {A = ℕ} 0 1 = cc in absurd (omega arith)

module _ (a : Answer) where
  pub writes : number_of a ≡ 0 → effect_of a ≡ written
  unfolding effect_of
  writes e = rw (eq-eqb (number_of a) 0 e, effect_of)

  pub zeroes : number_of a ≡ 5 → effect_of a ≡ zeroed
  unfolding effect_of
  zeroes e = rw (ne_eqb (number_of a) 0 (λ z. omega arith), effect_of, eq-eqb (number_of a) 5 e)

  pub leaves : (number_of a ≡ 0 → ⊥) → (number_of a ≡ 5 → ⊥) → effect_of a ≡ untouched
  unfolding effect_of
  leaves p q = rw (ne_eqb (number_of a) 0 p, effect_of, ne_eqb (number_of a) 5 q)
