-- The refusals 1 and 2, by what the tests for them find.
use Rattle.std.proofs.Common.{◌≡◌, ℕ, ◌<◌, ◌≤◌, List, length, Ok, Err, refl, arith, lt-ltb, le-ltb}
use Rattle.std.proofs.Math.Option.{Option, some, none}
use Rattle.utf8.specs.Utf8.{first_ill_formed, checked_of}
use Rattle.utf8.specs.declared.Utf8Error.{Utf8Error}
use Rattle.syntax.specs.declared.answer.Refusal.TheVariants.{TooLong, NotUtf8}
use Rattle.syntax.specs.Limits.{max_length}
use Rattle.syntax.specs.Tests.{source_refusal, tested_of}

module _ (s : List ℕ) where
  pub long : max_length < length s → Err (TooLong (length s)) ≡ tested_of (source_refusal s)
  unfolding source_refusal tested_of
  long h = rw (lt-ltb max_length (length s) h, source_refusal) refl

  module _ (h : length s ≤ max_length) where
    pub ill-formed : (e : Utf8Error) → Err e ≡ checked_of (first_ill_formed s) → Err (NotUtf8 e.valid_up_to) ≡ tested_of (source_refusal s)
    unfolding source_refusal tested_of checked_of
    ill-formed e q = go (first_ill_formed s) refl q
      where
        go : (o : Option ℕ) → first_ill_formed s ≡ o → Err e ≡ checked_of o → Err (NotUtf8 e.valid_up_to) ≡ tested_of (source_refusal s)
        go none p q = let z : ◌≡◌ {A = ℕ} 0 1 = cc in absurd (omega arith)
        go (some k) p q = let same : e.valid_up_to ≡ k = cc in rw (le-ltb max_length (length s) h, source_refusal, p, same) refl

    pub well-formed : Ok tt ≡ checked_of (first_ill_formed s) → Ok tt ≡ tested_of (source_refusal s)
    unfolding source_refusal tested_of checked_of
    well-formed q = go (first_ill_formed s) refl q
      where
        go : (o : Option ℕ) → first_ill_formed s ≡ o → Ok tt ≡ checked_of o → Ok tt ≡ tested_of (source_refusal s)
        go none p q = rw (le-ltb max_length (length s) h, source_refusal, p) refl
        go (some k) p q = let z : ◌≡◌ {A = ℕ} 0 1 = cc in absurd (omega arith)
