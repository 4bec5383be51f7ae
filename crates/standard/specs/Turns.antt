-- Loops of readers and repetitions of parsers, a turn at a time. Where each turn uses a byte, how many turns are allowed does not matter.
use Prim.Native.Nat.{ℕ, zero, suc, ◌≤◌, ◌<◌}
use Rattle.std.proofs.Common.{not-suc-le-zero, add-zero, arith, ◌∙◌}
use Rattle.std.proofs.Math.Path.{◌≡◌, refl, sym, ap, ap₂}
use Rattle.std.proofs.Math.Bool.{true, false}
use mathlib.Core.List.{List, [], ◌∷◌, append-nil}
use Rattle.std.specs.Prelude.{drop, eqb}
use Rattle.std.proofs.Math.ListN.{length, length-drop}
use Rattle.std.proofs.Math.Dec.{eqb-suc-zero}
use Rattle.std.proofs.lemmas.Bool.{eqb-false}
use Rattle.syntax.specs.Marks.{Mark, move_up}
use Rattle.syntax.specs.Reader as Reader
use Rattle.syntax.specs.Reader.{Out, Reader, Turn, again, done, loop, repeat}
use Rattle.laws.specs.Bytes.{by_case}
use Rattle.standard.specs.Peg as Peg
use Rattle.standard.specs.Peg.{Answer, fits, fails, Parser, many, some, turns, with_first, pure, ◌>>=◌, sized, bar}
use Rattle.standard.specs.Steps.{bind-fits, bind-fails}

-- a turn that goes on leaves less
abbrev pub Shrinks : {S A : Type 0} → List ℕ → Turn S A → Type 0
Shrinks s (again st ms k) = length (drop k s) < length s
Shrinks s (done o) = Unit {0}

module _ {S A : Type 0} (t : S → List ℕ → Turn S A) (h : (st : S) (s : List ℕ) → Shrinks s (t st s)) where
  loop-any : (n m : ℕ) (st : S) (s : List ℕ) → length s < n → length s < m → loop n t st s ≡ loop m t st s
  unfolding loop
  loop-any zero m st s l k = absurd (not-suc-le-zero l)
  loop-any (suc n) zero st s l k = absurd (not-suc-le-zero k)
  loop-any (suc n) (suc m) st s l k = go (t st s) (h st s) (λ st' r p q. loop-any n m st' r p q)
    where
      go : (w : Turn S A) → Shrinks s w → ((st' : S) (r : List ℕ) → length r < n → length r < m → loop n t st' r ≡ loop m t st' r)
          → ◌≡◌ {A = Out A} (elim w [ again st' ms k ↦ Reader.after ms k (loop n t st' (drop k s)) | done o ↦ o ])
          (elim w [ again st' ms k ↦ Reader.after ms k (loop m t st' (drop k s)) | done o ↦ o ])
      go (again st' ms j) z f = ap (Reader.after ms j) (f st' (drop j s) (omega arith) (omega arith))
      go (done o) z f = refl

  pub repeat-again : (st : S) (s : List ℕ) (st' : S) (ms : List Mark) (k : ℕ) → t st s ≡ again st' ms k
      → repeat t st s ≡ Reader.after ms k (repeat t st' (drop k s))
  unfolding repeat loop
  repeat-again st s st' ms k e =
      rw (e, loop)
      (ap (Reader.after ms k)
      (loop-any (length s) (suc (length (drop k s))) st' (drop k s) (rw e at (h st s)) (omega arith)))

pub repeat-done : {S A : Type 0} (t : S → List ℕ → Turn S A) (st : S) (s : List ℕ) (o : Out A) → t st s ≡ done o → repeat t st s ≡ o
unfolding repeat loop
repeat-done t st s o e = rw (e, loop) refl

-- nothing is used at the end of input
abbrev pub AtEnd : {A : Type 0} → Answer A → Type 0
AtEnd (fits a ms k) = k ≡ 0
AtEnd fails = Unit {0}

-- repetitions
module _ {A : Type 0} (p : Parser A) (e : AtEnd (p [])) where
  shorter : (k : ℕ) (s : List ℕ) (n : ℕ) → eqb k 0 ≡ false → length s ≤ suc n → length (drop k s) ≤ n
  shorter zero s n q l = absurd (eqb-false 0 0 q refl)
  shorter (suc k) s n q l = omega (arith, length-drop (suc k) s)

  turns-nil : (n : ℕ) → turns n p [] ≡ fits [] [] 0
  unfolding turns
  turns-nil zero = refl
  turns-nil (suc n) = go (p []) e
    where
      go : (o : Answer A) → AtEnd o
          → ◌≡◌ {A = Answer (List A)}
          (elim o [
            | fits a ms k ↦ elim
                (eqb k 0) [ true ↦ fits [] [] 0 | false ↦ with_first a (Peg.after ms k (turns n p (drop k []))) ]
            | fails ↦ fits [] [] 0
          ])
          (fits [] [] 0)
      go (fits a ms k) q = rw q refl
      go fails q = refl

  turns-short : (n : ℕ) (s : List ℕ) → length s ≤ 0 → turns n p s ≡ fits [] [] 0
  turns-short n [] l = turns-nil n
  turns-short n (b ∷ bs) l = absurd (not-suc-le-zero l)

  turns-any : (n m : ℕ) (s : List ℕ) → length s ≤ n → length s ≤ m → turns n p s ≡ turns m p s
  unfolding turns
  turns-any zero m s l k = sym (turns-short m s l)
  turns-any (suc n) zero s l k = turns-short (suc n) s k
  turns-any (suc n) (suc m) s l k = go (p s) (λ r a c. turns-any n m r a c)
    where
      go : (o : Answer A) → ((r : List ℕ) → length r ≤ n → length r ≤ m → turns n p r ≡ turns m p r)
          → ◌≡◌ {A = Answer (List A)}
          (elim o [
            | fits a ms k ↦ elim
                (eqb k 0) [ true ↦ fits [] [] 0 | false ↦ with_first a (Peg.after ms k (turns n p (drop k s))) ]
            | fails ↦ fits [] [] 0
          ])
          (elim o [
            | fits a ms k ↦ elim
                (eqb k 0) [ true ↦ fits [] [] 0 | false ↦ with_first a (Peg.after ms k (turns m p (drop k s))) ]
            | fails ↦ fits [] [] 0
          ])
      go (fits a ms j) f =
          by_case (eqb j 0) (λ q. rw q refl)
          (λ q. rw q (ap (λ z. with_first a (Peg.after ms j z)) (f (drop j s) (shorter j s n q l) (shorter j s m q k))))
      go fails f = refl

  -- one turn, and the others
  pub many-again : (s : List ℕ) (a : A) (ms : List Mark) (k : ℕ) → p s ≡ fits a ms k → 0 < k
      → many p s ≡ with_first a (Peg.after ms k (many p (drop k s)))
  unfolding many turns
  many-again s a ms zero q h = absurd (not-suc-le-zero h)
  many-again [] a ms (suc k) q h = let z : suc k ≡ 0 = rw q at e in absurd (omega arith)
  many-again (b ∷ bs) a ms (suc k) q h =
      rw (q, turns)
      (rw eqb-suc-zero
      (ap (λ z. with_first a (Peg.after ms (suc k) z))
      (turns-any (length bs) (length (drop k bs)) (drop k bs) (omega (arith, length-drop k bs)) (omega arith))))

  -- no turn: none fits, or it uses nothing
  pub many-none : (s : List ℕ) → p s ≡ fails → many p s ≡ fits [] [] 0
  unfolding many turns
  many-none [] q = refl
  many-none (b ∷ bs) q = rw (q, turns) refl

  pub many-still : (s : List ℕ) (a : A) (ms : List Mark) → p s ≡ fits a ms 0 → many p s ≡ fits [] [] 0
  unfolding many turns
  many-still [] a ms q = refl
  many-still (b ∷ bs) a ms q = rw (q, turns) refl

  first-many : (a : A) (ms : List Mark) (k : ℕ) (r : List ℕ) (o : Answer (List A)) → many p r ≡ o
      → Peg.after ms k ((many p >>= λ more. pure (a ∷ more)) r) ≡ with_first a (Peg.after ms k (many p r))
  unfolding with_first pure Peg.after move_up
  first-many a ms k r (fits more ns j) f =
      rw f
      (ap (Peg.after ms k)
      (bind-fits (many p) (λ more. pure (a ∷ more)) r f
      ∙ ap₂ (λ x n. fits (a ∷ more) x n) (append-nil ns) (add-zero j)))
  first-many a ms k r fails f = rw f (ap (Peg.after ms k) (bind-fails (many p) (λ more. pure (a ∷ more)) r f))

  -- p+ is p* where a turn uses something
  pub some-many : (s : List ℕ) (a : A) (ms : List Mark) (k : ℕ) → p s ≡ fits a ms k → 0 < k → some p s ≡ many p s
  unfolding some
  some-many s a ms k q h = bind-fits p (λ x. many p >>= λ more. pure (x ∷ more)) s q
      ∙ first-many a ms k (drop k s) (many p (drop k s)) refl ∙ sym (many-again s a ms k q h)

-- further steps
module _ {A : Type 0} (p : Parser A) (s : List ℕ) where
  pub sized-fits : {a : A} {ms : List Mark} {k : ℕ} → p s ≡ fits a ms k → sized p s ≡ fits k ms k
  unfolding sized
  sized-fits e = rw (e, sized) refl

  pub sized-fails : p s ≡ fails → sized p s ≡ fails
  unfolding sized
  sized-fails e = rw (e, sized) refl

  pub bar-fits : {a : A} {ms : List Mark} {k : ℕ} → p s ≡ fits a ms k → bar p s ≡ fails
  unfolding bar
  bar-fits e = rw (e, bar) refl

  pub bar-fails : p s ≡ fails → bar p s ≡ fits tt [] 0
  unfolding bar
  bar-fails e = rw (e, bar) refl

-- no marks
abbrev pub Plain : {A : Type 0} → Answer A → Type 0
Plain (fits a ms k) = ms ≡ []
Plain fails = Unit {0}

pub plain-after : {A : Type 0} (k : ℕ) (a : Answer A) → Plain a → Plain (Peg.after [] k a)
unfolding Peg.after move_up
plain-after k (fits a ms j) h = rw h refl
plain-after k fails h = tt

plain-first : {A : Type 0} (a : A) (o : Answer (List A)) → Plain o → Plain (with_first a o)
unfolding with_first
plain-first a (fits more ms k) h = h
plain-first a fails h = tt

module _ {A : Type 0} (p : Parser A) (h : (s : List ℕ) → Plain (p s)) where
  turns-plain : (n : ℕ) (s : List ℕ) → Plain (turns n p s)
  unfolding turns
  turns-plain zero s = refl
  turns-plain (suc n) s = go (p s) (h s) (λ r. turns-plain n r)
    where
      go : (o : Answer A) → Plain o → ((r : List ℕ) → Plain (turns n p r))
          → Plain {A = List A}
          (elim o [
            | fits a ms k ↦ elim
                (eqb k 0) [ true ↦ fits [] [] 0 | false ↦ with_first a (Peg.after ms k (turns n p (drop k s))) ]
            | fails ↦ fits [] [] 0
          ])
      go (fits a ms k) q f =
          by_case (eqb k 0) (λ z. rw z refl)
          (λ z. rw (z, q)
          (plain-first a (Peg.after [] k (turns n p (drop k s))) (plain-after k (turns n p (drop k s)) (f (drop k s)))))
      go fails q f = refl

  pub many-plain : (s : List ℕ) → Plain (many p s)
  unfolding many
  many-plain s = turns-plain (length s) s

  pub some-plain : (s : List ℕ) → Plain (some p s)
  unfolding some pure Peg.after move_up
  some-plain s = go (p s) refl (h s)
    where
      rest : (a : A) (r : List ℕ) (o : Answer (List A)) → many p r ≡ o → Plain o → Plain ((many p >>= λ more. pure (a ∷ more)) r)
      rest a r (fits more ms k) e q = rw (bind-fits (many p) (λ more. pure (a ∷ more)) r e, q) refl
      rest a r fails e q = rw (bind-fails (many p) (λ more. pure (a ∷ more)) r e) tt

      go : (o : Answer A) → p s ≡ o → Plain o → Plain (some p s)
      go (fits a ms k) e q =
          rw (bind-fits p (λ x. many p >>= λ more. pure (x ∷ more)) s e, q)
          (plain-after k ((many p >>= λ more. pure (a ∷ more)) (drop k s))
          (rest a (drop k s) (many p (drop k s)) refl (many-plain (drop k s))))
      go fails e q = rw (bind-fails p (λ x. many p >>= λ more. pure (x ∷ more)) s e) tt

-- a repetition always fits
abbrev pub Fitting : {A : Type 0} → Answer A → Type 0
Fitting (fits a ms k) = Unit {0}
Fitting fails = ⊥

fitting-first : {A : Type 0} (a : A) (ms : List Mark) (k : ℕ) (o : Answer (List A)) → Fitting o → Fitting (with_first a (Peg.after ms k o))
unfolding with_first Peg.after
fitting-first a ms k (fits more ns j) h = tt
fitting-first a ms k fails h = h

turns_fit : {A : Type 0} (p : Parser A) (n : ℕ) (s : List ℕ) → Fitting (turns n p s)
unfolding turns
turns_fit p zero s = tt
turns_fit {A} p (suc n) s = go (p s) (λ r. turns_fit p n r)
  where
    go : (o : Answer A) → ((r : List ℕ) → Fitting (turns n p r))
        → Fitting {A = List A}
        (elim o [
          | fits a ms k ↦ elim
              (eqb k 0) [ true ↦ fits [] [] 0 | false ↦ with_first a (Peg.after ms k (turns n p (drop k s))) ]
          | fails ↦ fits [] [] 0
        ])
    go (fits a ms k) f = by_case (eqb k 0) (λ z. rw z tt) (λ z. rw z (fitting-first a ms k (turns n p (drop k s)) (f (drop k s))))
    go fails f = tt

pub many-fit : {A : Type 0} (p : Parser A) (s : List ℕ) → Fitting (many p s)
unfolding many
many-fit p s = turns_fit p (length s) s
