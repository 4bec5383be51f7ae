-- What holds of an answer, by its parts: of one that follows others, and of a loop's, by its turns.
use Prim.Native.Nat.{ℕ, zero, suc, ◌+◌, ◌≤◌, ◌<◌}
use Rattle.std.proofs.Common.{not-suc-le-zero, arith}
use Rattle.std.specs.Prelude.{◌≡◌, refl, List, ◌++◌, drop, length}
use Rattle.syntax.specs.Marks.{Mark, move_up}
use Rattle.syntax.specs.Reader.{Out, ok, bad, deep, Reader, after, next, Turn, again, done, loop, repeat}

-- what holds of an answer, if it is ok
abbrev pub Holds : {A : Type 0} → (A → List Mark → ℕ → Type 0) → Out A → Type 0
Holds P (ok a ms k) = P a ms k
Holds P (bad f k) = Unit {0}
Holds P (deep k) = Unit {0}

pub holds-map : {A : Type 0} (P Q : A → List Mark → ℕ → Type 0)
    → ((a : A) (ms : List Mark) (k : ℕ) → P a ms k → Q a ms k) → (o : Out A) → Holds P o → Holds Q o
holds-map P Q f (ok a ms k) h = f a ms k h
holds-map P Q f (bad e k) h = tt
holds-map P Q f (deep k) h = tt

pub holds_after : {A : Type 0} (P Q : A → List Mark → ℕ → Type 0) (ms : List Mark) (k : ℕ)
    → ((a : A) (ns : List Mark) (j : ℕ) → P a ns j → Q a (ms ++ move_up k ns) (k + j)) → (o : Out A) → Holds P o → Holds Q (after ms k o)
unfolding after
holds_after P Q ms k f (ok a ns j) h = f a ns j h
holds_after P Q ms k f (bad e j) h = tt
holds_after P Q ms k f (deep j) h = tt

-- what holds of every answer, whatever the marks and the bytes
plain-after : {A : Type 0} (P : A → Type 0) (ms : List Mark) (k : ℕ) (o : Out A) → Holds (λ a ns j. P a) o
    → Holds (λ a ns j. P a) (after ms k o)
plain-after P ms k o h = holds_after (λ a ns j. P a) (λ a ns j. P a) ms k (λ a ns j g. g) o h

pub plain-next : {A B : Type 0} (P : B → Type 0) (s : List ℕ) (q : A → Reader B) (o : Out A)
    → ((a : A) (r : List ℕ) → Holds (λ b ns j. P b) (q a r))
    → Holds (λ b ns j. P b) (next s q o)
unfolding next
plain-next P s q (ok a ms k) h = plain-after P ms k (q a (drop k s)) (h a (drop k s))
plain-next P s q (bad f k) h = tt
plain-next P s q (deep k) h = tt

-- an answer that used some bytes
abbrev pub Takes : {A : Type 0} → Out A → Type 0
Takes o = Holds (λ a ms k. 0 < k) o

takes-after : {A : Type 0} (k : ℕ) (ms : List Mark) (o : Out A) → Takes o → Takes (after ms k o)
takes-after k ms o t = holds_after (λ a ns j. 0 < j) (λ a ns j. 0 < j) ms k (λ a ns j g. omega arith) o t

pub takes-next : {A B : Type 0} (s : List ℕ) (q : A → Reader B) (o : Out A) → ((a : A) (r : List ℕ) → Takes (q a r)) → Takes (next s q o)
unfolding next
takes-next s q (ok a ms k) t = takes-after k ms (q a (drop k s)) (t a (drop k s))
takes-next s q (bad f k) t = tt
takes-next s q (deep k) t = tt

-- what holds of a loop's answers, by its turns
module _ {S A : Type 0} (t : S → List ℕ → Turn S A) (G : S → List ℕ → A → List Mark → ℕ → Type 0) where
  abbrev pub TurnHolds : S → List ℕ → Turn S A → Type 0
  TurnHolds st s (again st' ms k) = (a : A) (ns : List Mark) (j : ℕ) → G st' (drop k s) a ns j → G st s a (ms ++ move_up k ns) (k + j)
  TurnHolds st s (done o) = Holds (G st s) o

  step-holds : (st : S) (s : List ℕ) (n : ℕ) (w : Turn S A) → TurnHolds st s w → ((st' : S) (r : List ℕ) → Holds (G st' r) (loop n t st' r))
      → Holds {A = A} (G st s) (elim w [ again st' ms k ↦ after ms k (loop n t st' (drop k s)) | done o ↦ o ])
  step-holds st s n (again st' ms k) h f = holds_after (G st' (drop k s)) (G st s) ms k h (loop n t st' (drop k s)) (f st' (drop k s))
  step-holds st s n (done o) h f = h

  pub loop-holds : ((st : S) (s : List ℕ) → TurnHolds st s (t st s)) → (n : ℕ) (st : S) (s : List ℕ) → Holds (G st s) (loop n t st s)
  unfolding loop
  loop-holds h zero st s = tt
  loop-holds h (suc n) st s = step-holds st s n (t st s) (h st s) (λ st' r. loop-holds h n st' r)

-- loops that end
abbrev pub Sure : {A : Type 0} → Out A → Type 0
Sure (ok a ms k) = Unit {0}
Sure (bad f k) = ⊥
Sure (deep k) = ⊥

abbrev pub TurnSure : {S A : Type 0} → List ℕ → Turn S A → Type 0
TurnSure s (again st ms k) = length (drop k s) < length s
TurnSure s (done o) = Sure o

pub sure-after : {A : Type 0} (ms : List Mark) (k : ℕ) (o : Out A) → Sure o → Sure (after ms k o)
unfolding after
sure-after ms k (ok a ns j) h = tt
sure-after ms k (bad f j) h = absurd h
sure-after ms k (deep j) h = absurd h

module _ {S A : Type 0} (t : S → List ℕ → Turn S A) (h : (st : S) (s : List ℕ) → TurnSure s (t st s)) where
  step-sure : (n : ℕ) (s : List ℕ) (w : Turn S A) → TurnSure s w → length s ≤ n
      → ((st : S) (r : List ℕ) → length r < n → Sure (loop n t st r))
      → Sure {A = A} (elim w [ again st' ms k ↦ after ms k (loop n t st' (drop k s)) | done o ↦ o ])
  step-sure n s (again st ms k) g l f = sure-after ms k (loop n t st (drop k s)) (f st (drop k s) (omega arith))
  step-sure n s (done o) g l f = g

  pub loop-sure : (n : ℕ) (st : S) (s : List ℕ) → length s < n → Sure (loop n t st s)
  unfolding loop
  loop-sure zero st s l = absurd (not-suc-le-zero l)
  loop-sure (suc n) st s l = step-sure n s (t st s) (h st s) (omega arith) (λ st' r k. loop-sure n st' r k)

  pub repeat-sure : (st : S) (s : List ℕ) → Sure (repeat t st s)
  unfolding repeat
  repeat-sure st s = loop-sure (suc (length s)) st s (omega arith)

pub sure-ok : {A : Type 0} (o : Out A) → Sure o → (a : A) × (ms : List Mark) × (k : ℕ) × (o ≡ ok a ms k)
sure-ok (ok a ms k) h = (a, ms, k, refl)
sure-ok (bad f k) h = absurd h
sure-ok (deep k) h = absurd h
