-- Loops: `repeat` is one turn and then `repeat` from where it ends. As each turn uses a byte, the turns that are allowed never run out.
pub mod Turns
use Prim.Native.Nat.{ℕ, zero, suc, ◌≤◌, ◌<◌}
use Rattle.std.proofs.Common.{not-suc-le-zero, arith, subst}
use Rattle.std.proofs.Math.Path.{◌≡◌, refl, ap}
use mathlib.Core.List.{List}
use Rattle.std.specs.Prelude.{drop}
use Rattle.std.proofs.Math.ListN.{length, length-drop}
use Rattle.syntax.specs.Marks.{Mark}
use Rattle.syntax.specs.Reader.{Out, after, Turn, again, done, loop, repeat}

-- a turn that goes on uses a byte, and no more than there are
abbrev pub Moved : {S A : Type 0} → List ℕ → Turn S A → Type 0
Moved s (again st ms k) = (0 < k) × (k ≤ length s)
Moved s (done o) = Unit {0}

pub record Moves {S A : Type 0} (turn : S → List ℕ → Turn S A) : Type 0 where
  pub moves : (st : S) (s : List ℕ) → Moved s (turn st s)

module _ {S A : Type 0} {turn : S → List ℕ → Turn S A} where
  pub turn-moves : Moves turn → (st : S) (s : List ℕ) {st' : S} {ms : List Mark} {k : ℕ} → turn st s ≡ again st' ms k
      → (0 < k) × (k ≤ length s)
  turn-moves m st s e = subst (Moved s) e (m.moves st s)

  -- with more turns allowed than there are bytes, how many does not matter
  pub loop-fuel : Moves turn → (n n' : ℕ) (st : S) (s : List ℕ) → length s < n → length s < n' → loop n turn st s ≡ loop n' turn st s
  unfolding loop
  loop-fuel m zero n' st s l l' = absurd (not-suc-le-zero l)
  loop-fuel m (suc n) zero st s l l' = absurd (not-suc-le-zero l')
  loop-fuel m (suc n) (suc n') st s l l' = go (turn st s) (m.moves st s) (λ st' r h h'. loop-fuel m n n' st' r h h')
    where
      go : (t : Turn S A) → Moved s t → ((st' : S) (r : List ℕ) → length r < n → length r < n' → loop n turn st' r ≡ loop n' turn st' r)
          → ◌≡◌ {A = Out A} (elim t [ again st' ms k ↦ after ms k (loop n turn st' (drop k s)) | done o ↦ o ])
          (elim t [ again st' ms k ↦ after ms k (loop n' turn st' (drop k s)) | done o ↦ o ])
      go (again st' ms k) h f = ap (after ms k) (f st' (drop k s) (omega (arith, length-drop k s)) (omega (arith, length-drop k s)))
      go (done o) h f = refl

  pub repeat-again : Moves turn → (st : S) (s : List ℕ) {st' : S} {ms : List Mark} {k : ℕ} → turn st s ≡ again st' ms k
      → repeat turn st s ≡ after ms k (repeat turn st' (drop k s))
  unfolding repeat loop
  repeat-again m st s {st'} {ms} {k} e =
      let h = turn-moves m st s e in
      rw (e, loop)
      (ap (after ms k)
      (loop-fuel m (length s) (suc (length (drop k s))) st' (drop k s) (omega (arith, length-drop k s))
      (omega arith)))

pub repeat-done : {S A : Type 0} (turn : S → List ℕ → Turn S A) (st : S) (s : List ℕ) {o : Out A} → turn st s ≡ done o
    → repeat turn st s ≡ o
unfolding repeat loop
repeat-done turn st s e = rw (e, loop)
