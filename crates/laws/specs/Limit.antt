-- With more openings allowed a reading that is not too deep is the same. (That a limit of the file's length is enough
-- is `parse-reads` of File.)
pub mod Readers
pub mod Readings
use Prim.Native.Nat.{ℕ, zero, suc, ◌+◌}
use Rattle.std.proofs.Common.{arith, ap, ◌∙◌}
use Rattle.std.specs.Prelude.{◌≡◌, refl, drop, length}
use mathlib.Core.List.{List}
use Rattle.syntax.specs.Marks.{Mark}
use Rattle.syntax.specs.declared.errors.ParserError.{ParserError}
use Rattle.syntax.specs.Reader.{Out, ok, bad, deep, Reader, after, next, ◌>>=◌, ◌>>◌, wrap, in_node, Turn, again, done, turn_of, loop, repeat}

-- an answer that is not too deep is kept
pub data Kept {A : Type 0} (o : Out A) : Out A → Type 0 where
  same : Kept o o
  lost : {o' : Out A} (k : ℕ) → o ≡ deep k → Kept o o'

pub record Keeps {A : Type 0} (p p' : Reader A) : Type 0 where
  pub on : (s : List ℕ) → Kept (p s) (p' s)

pub keeps : {A : Type 0} {p : Reader A} → Keeps p p
keeps = record { on = λ s. same }

pub kept-after : {A : Type 0} {o o' : Out A} (ms : List Mark) (k : ℕ) → Kept o o' → Kept (after ms k o) (after ms k o')
unfolding after
kept-after ms k same = same
kept-after ms k (lost j e) = lost (k + j) (ap (after ms k) e)

-- answers relabelled
pub kept_by : {A B : Type 0} {o o' : Out A} (f : Out A → Out B) → ((k : ℕ) → f (deep k) ≡ deep k) → Kept o o' → Kept (f o) (f o')
kept_by f q same = same
kept_by f q (lost k e) = lost k (ap f e ∙ q k)

module _ {A B : Type 0} where
  pub kept_next : {q q' : A → Reader B} {o o' : Out A} (s : List ℕ) → Kept o o' → ((a : A) → Keeps (q a) (q' a))
      → Kept (next s q o) (next s q' o')
  unfolding next
  kept_next {q} {q'} {o} s same f = go o
    where
      go : (o : Out A) → Kept (next s q o) (next s q' o)
      go (ok a ms k) = kept-after ms k ((f a).on (drop k s))
      go (bad e k) = same
      go (deep k) = same
  kept_next {q} s (lost k e) f = lost k (ap (next s q) e)

  pub bind : {p p' : Reader A} {q q' : A → Reader B} → Keeps p p' → ((a : A) → Keeps (q a) (q' a)) → Keeps (p >>= q) (p' >>= q')
  unfolding ◌>>=◌
  bind k f = record { on = λ s. kept_next s (k.on s) f }

  pub then : {p p' : Reader A} {q q' : Reader B} → Keeps p p' → Keeps q q' → Keeps (p >> q) (p' >> q')
  unfolding ◌>>◌
  then k f = record { on = λ s. kept_next s (k.on s) (λ _. f) }

pub node-keeps : {A : Type 0} {p p' : Reader A} (kind : ℕ) → Keeps p p' → Keeps (in_node kind p) (in_node kind p')
unfolding in_node wrap
node-keeps kind k = record { on = λ s. kept_by (wrap kind) (λ j. refl) (k.on s) }

-- turns
pub data TurnKept {S A : Type 0} (t : Turn S A) : Turn S A → Type 0 where
  same_turn : TurnKept t t
  lost_turn : {t' : Turn S A} (k : ℕ) → t ≡ done (deep k) → TurnKept t t'

pub turn_of-kept : {S A : Type 0} {o o' : Out S} → Kept o o' → TurnKept {A = A} (turn_of o) (turn_of o')
unfolding turn_of
turn_of-kept same = same_turn
turn_of-kept (lost k e) = lost_turn k (ap turn_of e)

module _ {S A : Type 0} {t t' : S → List ℕ → Turn S A} (h : (st : S) (s : List ℕ) → TurnKept (t st s) (t' st s)) where
  loop-kept : (n : ℕ) (st : S) (s : List ℕ) → Kept (loop n t st s) (loop n t' st s)
  unfolding loop
  loop-kept zero st s = same
  loop-kept (suc n) st s = go (t st s) (t' st s) (h st s) (λ st' r. loop-kept n st' r)
    where
      go : (w w' : Turn S A) → TurnKept w w' → ((st' : S) (r : List ℕ) → Kept (loop n t st' r) (loop n t' st' r))
          → Kept {A = A} (elim w [ again st' ms k ↦ after ms k (loop n t st' (drop k s)) | done o ↦ o ])
          (elim w' [ again st' ms k ↦ after ms k (loop n t' st' (drop k s)) | done o ↦ o ])
      go (again st' ms k) w' same_turn f = kept-after ms k (f st' (drop k s))
      go (done o) w' same_turn f = same
      go w w' (lost_turn k e) f = rw e (lost k refl)

  pub repeat-keeps : (st : S) → Keeps (repeat t st) (repeat t' st)
  unfolding repeat
  repeat-keeps st = record { on = λ s. loop-kept (suc (length s)) st s }

-- what is kept of each answer
module _ {A : Type 0} {p p' : Reader A} (h : Keeps p p') (s : List ℕ) where
  pub ok-kept : {a : A} {ms : List Mark} {k : ℕ} → p s ≡ ok a ms k → p' s ≡ ok a ms k
  ok-kept {a} {ms} {k} e = go (p s) (p' s) (h.on s) e
    where
      go : (o o' : Out A) → Kept o o' → o ≡ ok a ms k → o' ≡ ok a ms k
      go o o' same e = e
      go o o' (lost j d) e = let z : ◌≡◌ {A = ℕ} 0 1 = cc in absurd (omega arith)

  pub bad-kept : {f : ParserError} {k : ℕ} → p s ≡ bad f k → p' s ≡ bad f k
  bad-kept {f} {k} e = go (p s) (p' s) (h.on s) e
    where
      go : (o o' : Out A) → Kept o o' → o ≡ bad f k → o' ≡ bad f k
      go o o' same e = e
      go o o' (lost j d) e = let z : ◌≡◌ {A = ℕ} 0 1 = cc in absurd (omega arith)
