-- What a reader does at a cut. Of a source x that is empty or ends in a newline, and of what follows it:
-- `stops`: where a '#' or nothing follows, it uses no more than x. `keeps`: it answers on x and y what it answered on
-- x, where it left some of x
-- (loose), where what follows is fresh (fresh), always (any), or never (none).
pub mod Helper
pub mod Pattern
pub mod String
pub mod Inline
pub mod Argument
pub mod Expression
pub mod Entry
pub mod Comment
use Prim.Native.Nat.{ℕ, zero, suc, ◌+◌, ◌-◌, ◌≤◌, ◌<◌}
use Rattle.std.proofs.Common.{le_of_suc-le-suc, not-suc-le-zero, sym, ◌∙◌, subst}
use native.Mathlib.Omega.{arith}
use Rattle.std.specs.Prelude.{◌≡◌, drop}
use Rattle.std.proofs.Math.Path.{refl, ap}
use mathlib.Core.List.{List, [], ◌∷◌, ◌++◌, append-nil}
use Rattle.std.proofs.Math.ListN.{length, length-drop, length-append}
use Rattle.syntax.specs.Marks.{Mark, node}
use Rattle.syntax.specs.declared.errors.ErrorKind.{ErrorKind}
use Rattle.syntax.specs.declared.errors.ParserError.{ParserError}
use Rattle.syntax.specs.Reader.{Out, ok, bad, deep, Reader, after, next, ◌>>=◌, ◌>>◌, pure, fail, wrap, in_node, Turn}
use Rattle.syntax.specs.Reader.{again, done, turn_of, loop, repeat}
pub use Rattle.laws.specs.Answers.{Holds, Takes, plain-next}
use Rattle.laws.specs.Answers.{holds-map, holds_after, takes-next}
use Rattle.laws.specs.Bytes.{Whole, whole_drop, Fresh, Stop, drop_app}

pub data Mode : Type 0 where
  loose fresh any none : Mode

-- k of n bytes, before y
abbrev pub Upto : Mode → List ℕ → ℕ → ℕ → Type 0
Upto loose y n k = k < n
Upto fresh y n k = (k ≤ n) × Fresh y
Upto any y n k = k ≤ n
Upto none y n k = ⊥

pub upto_le : (m : Mode) (y : List ℕ) (n k : ℕ) → Upto m y n k → k ≤ n
upto_le loose y n k u = omega arith
upto_le fresh y n k u = u.0
upto_le any y n k u = u
upto_le none y n k u = absurd u

pub upto-down : (m : Mode) (y : List ℕ) (n k j : ℕ) → Upto m y n (k + j) → Upto m y n k
upto-down loose y n k j u = omega arith
upto-down fresh y n k j u = (omega arith, u.1)
upto-down any y n k j u = omega arith
upto-down none y n k j u = u

pub upto_rest : (m : Mode) (y : List ℕ) (x : List ℕ) (k j : ℕ) → Upto m y (length x) (k + j) → Upto m y (length (drop k x)) j
upto_rest loose y x k j u = rw length-drop (omega arith)
upto_rest fresh y x k j u = (rw length-drop (omega arith), u.1)
upto_rest any y x k j u = rw length-drop (omega arith)
upto_rest none y x k j u = u

abbrev pub Within : {A : Type 0} → ℕ → Out A → Type 0
Within n o = Holds (λ a ms k. k ≤ n) o

abbrev pub Carries : {A : Type 0} → (ℕ → Type 0) → Out A → Out A → Type 0
Carries N (ok a ms k) o = N k → o ≡ ok a ms k
Carries N (bad f k) o = Unit {0}
Carries N (deep k) o = Unit {0}

abbrev pub KeepsAt : {A : Type 0} → Mode → Reader A → List ℕ → List ℕ → Type 0
KeepsAt m p x y = Carries (Upto m y (length x)) (p x) (p (x ++ y))

pub record Reads {A : Type 0} (m : Mode) (p : Reader A) : Type 0 where
  pub stops : (x y : List ℕ) → Whole x → Stop y → Within (length x) (p (x ++ y))
  pub keeps : (x y : List ℕ) → Whole x → KeepsAt m p x y

-- a reader that ends with a byte of its own
pub record Closes {A : Type 0} (p : Reader A) : Type 0 where
  pub reads : Reads any p
  pub takes : (s : List ℕ) → Takes (p s)

pub same-carries : {A : Type 0} (N : ℕ → Type 0) (o o' : Out A) → o' ≡ o → Carries N o o'
same-carries N (ok a ms k) o' e = λ u. e
same-carries N (bad f k) o' e = tt
same-carries N (deep k) o' e = tt

pub weaker : {A : Type 0} (N M : ℕ → Type 0) → ((k : ℕ) → M k → N k) → (o o' : Out A) → Carries N o o' → Carries M o o'
weaker N M h (ok a ms k) o' c = λ u. c (h k u)
weaker N M h (bad f k) o' c = tt
weaker N M h (deep k) o' c = tt

pub from-any : {A : Type 0} (m : Mode) {p : Reader A} → Reads any p → Reads m p
from-any m {p} r =
    record {
      stops = r.stops;
      keeps =
          λ x y w. weaker (Upto any y (length x)) (Upto m y (length x)) (λ k u. upto_le m y (length x) k u) (p x) (p (x ++ y))
          (r.keeps x y w);
    }

pub after-within : {A : Type 0} (n k : ℕ) (ms : List Mark) (o : Out A) → k ≤ n → Within (n - k) o → Within n (after ms k o)
after-within n k ms o h w = holds_after (λ a ns j. j ≤ n - k) (λ a ns j. j ≤ n) ms k (λ a ns j g. omega arith) o w

takes-upto : {B : Type 0} (y : List ℕ) (n k j : ℕ) (b : B) (ns : List Mark) (o : Out B) → Takes o → o ≡ ok b ns j → k + j ≤ n → k < n
takes-upto y n k j b ns (ok a ms i) t e u = let h : i ≡ j = cc in omega arith
takes-upto y n k j b ns (bad f i) t e u = let z : ◌≡◌ {A = ℕ} 0 1 = cc in absurd (omega arith)
takes-upto y n k j b ns (deep i) t e u = let z : ◌≡◌ {A = ℕ} 0 1 = cc in absurd (omega arith)

module _ {A B : Type 0} where
  pub next-within : (x y : List ℕ) (q : A → Reader B) (o : Out A) → Within (length x) o
      → ((a : A) (k : ℕ) → k ≤ length x → Within (length (drop k x)) (q a (drop k x ++ y))) → Within (length x) (next (x ++ y) q o)
  unfolding next
  next-within x y q (ok a ms k) h f =
      rw (drop_app k x y) (after-within (length x) k ms (q a (drop k x ++ y)) h (rw length-drop at (f a k h)))
  next-within x y q (bad f k) h g = tt
  next-within x y q (deep k) h g = tt

  pub next-ok : (N : ℕ → Type 0) (x y : List ℕ) (q : A → Reader B) (a : A) (ms : List Mark) (k : ℕ) (o' : Out A) (w : Out B)
      → ((j : ℕ) → N (k + j) → k ≤ length x) → Carries (λ j. N (k + j)) w (q a (drop k x ++ y))
      → ((b : B) (ns : List Mark) (j : ℕ) → w ≡ ok b ns j → N (k + j) → o' ≡ ok a ms k)
      → Carries N (after ms k w) (next (x ++ y) q o')
  unfolding next after
  next-ok N x y q a ms k o' (ok b ns j) le c e =
      λ u. ap (next (x ++ y) q) (e b ns j refl u) ∙ ap (λ s. after ms k (q a s)) (drop_app k x y (le j u)) ∙ ap (after ms k) (c u)
  next-ok N x y q a ms k o' (bad f j) le c e = tt
  next-ok N x y q a ms k o' (deep j) le c e = tt

  -- m is the mode of the whole, n that of the first
  pub next-keeps : (m n : Mode) (x y : List ℕ) (q : A → Reader B) (o o' : Out A) → Carries (Upto n y (length x)) o o'
      → ((a : A) (k : ℕ) → KeepsAt m (q a) (drop k x) y)
      → ((a : A) (b : B) (ns : List Mark) (k j : ℕ) → q a (drop k x) ≡ ok b ns j → Upto m y (length x) (k + j) → Upto n y (length x) k)
      → Carries (Upto m y (length x)) (next x q o) (next (x ++ y) q o')
  unfolding next
  next-keeps m n x y q (ok a ms k) o' c f d =
      next-ok (Upto m y (length x)) x y q a ms k o' (q a (drop k x)) (λ j u. upto_le m y (length x) k (upto-down m y (length x) k j u))
      (weaker (Upto m y (length (drop k x))) (λ j. Upto m y (length x) (k + j)) (λ j u. upto_rest m y x k j u)
      (q a (drop k x)) (q a (drop k x ++ y)) (f a k))
      (λ b ns j e u. c (d a b ns k j e u))
  next-keeps m n x y q (bad f k) o' c g d = tt
  next-keeps m n x y q (deep k) o' c g d = tt

  pub bind : {m : Mode} {p : Reader A} {q : A → Reader B} → Reads m p → ((a : A) → Reads m (q a)) → Reads m (p >>= q)
  unfolding ◌>>=◌
  bind {m} {p} {q} r f = record {
    stops = λ x y w s. next-within x y q (p (x ++ y)) (r.stops x y w s) (λ a k h. (f a).stops (drop k x) y (whole_drop k x w) s);
    keeps =
        λ x y w. next-keeps m m x y q (p x) (p (x ++ y)) (r.keeps x y w)
        (λ a k. (f a).keeps (drop k x) y (whole_drop k x w)) (λ a b ns k j e u. upto-down m y (length x) k j u);
  }

  pub then : {m : Mode} {p : Reader A} {q : Reader B} → Reads m p → Reads m q → Reads m (p >> q)
  unfolding ◌>>=◌ ◌>>◌
  then {m} {p} {q} r f = bind {q = λ _. q} r (λ _. f)

  pub bind-closes : {p : Reader A} {q : A → Reader B} → Reads loose p → ((a : A) → Closes (q a)) → Closes (p >>= q)
  unfolding ◌>>=◌
  bind-closes {p} {q} r f = record {
    reads = record {
      stops = λ x y w s. next-within x y q (p (x ++ y)) (r.stops x y w s) (λ a k h. (f a).reads.stops (drop k x) y (whole_drop k x w) s);
      keeps =
          λ x y w. next-keeps any loose x y q (p x) (p (x ++ y)) (r.keeps x y w)
          (λ a k. (f a).reads.keeps (drop k x) y (whole_drop k x w))
          (λ a b ns k j e u. takes-upto y (length x) k j b ns (q a (drop k x)) ((f a).takes (drop k x)) e u);
    };
    takes = λ s. takes-next s q (p s) (λ a r. (f a).takes r);
  }

  pub then-closes : {p : Reader A} {q : Reader B} → Reads loose p → Closes q → Closes (p >> q)
  unfolding ◌>>=◌ ◌>>◌
  then-closes {p} {q} r f = bind-closes {q = λ _. q} r (λ _. f)

pub pure-reads : {A : Type 0} (m : Mode) (a : A) → Reads m (pure a)
unfolding pure
pure-reads m a = record { stops = λ x y w s. omega arith; keeps = λ x y w u. refl }

pub fail-reads : {A : Type 0} (m : Mode) (k : ErrorKind) → Reads m (fail {A = A} k)
unfolding fail
fail-reads m k = record { stops = λ x y w s. tt; keeps = λ x y w. tt }

-- answers relabelled: the bytes used stay
pub record Relabels {A B : Type 0} (f : Out A → Out B) : Type 1 where
  pub within : (n : ℕ) (o : Out A) → Within n o → Within n (f o)
  pub carries : (N : ℕ → Type 0) (o o' : Out A) → Carries N o o' → Carries N (f o) (f o')
  pub takes : (o : Out A) → Takes o → Takes (f o)

module _ {A B : Type 0} {f : Out A → Out B} where
  pub relabel : {m : Mode} {p : Reader A} → Relabels f → Reads m p → Reads m (λ s. f (p s))
  relabel {m} {p} l r = record {
    stops = λ x y w s. l.within (length x) (p (x ++ y)) (r.stops x y w s);
    keeps = λ x y w. l.carries (Upto m y (length x)) (p x) (p (x ++ y)) (r.keeps x y w);
  }

  pub relabel-closes : {p : Reader A} → Relabels f → Closes p → Closes (λ s. f (p s))
  relabel-closes {p} l r = record { reads = relabel l r.reads; takes = λ s. l.takes (p s) (r.takes s) }

-- given by what becomes of each kind of answer
module _ {A B : Type 0} (f : Out A → Out B) (g : A → List Mark → ℕ → B) (h : A → List Mark → ℕ → List Mark)
    (good : (a : A) (ms : List Mark) (k : ℕ) → f (ok a ms k) ≡ ok (g a ms k) (h a ms k) k)
    (wrong : (e : ParserError) (k : ℕ) → f (bad e k) ≡ bad e k) (far : (k : ℕ) → f (deep k) ≡ deep k) where
  relabels-within : (n : ℕ) (o : Out A) → Within n o → Within n (f o)
  relabels-within n (ok a ms k) w = subst (Within n) (sym (good a ms k)) w
  relabels-within n (bad e k) w = subst (Within n) (sym (wrong e k)) tt
  relabels-within n (deep k) w = subst (Within n) (sym (far k)) tt

  relabels-carries : (N : ℕ → Type 0) (o o' : Out A) → Carries N o o' → Carries N (f o) (f o')
  relabels-carries N (ok a ms k) o' c = subst (λ z. Carries N z (f o')) (sym (good a ms k)) (λ u. ap f (c u) ∙ good a ms k)
  relabels-carries N (bad e k) o' c = subst (λ z. Carries N z (f o')) (sym (wrong e k)) tt
  relabels-carries N (deep k) o' c = subst (λ z. Carries N z (f o')) (sym (far k)) tt

  relabels-takes : (o : Out A) → Takes o → Takes (f o)
  relabels-takes (ok a ms k) t = subst Takes (sym (good a ms k)) t
  relabels-takes (bad e k) t = subst Takes (sym (wrong e k)) tt
  relabels-takes (deep k) t = subst Takes (sym (far k)) tt

  pub relabels : Relabels f
  relabels = record { within = relabels-within; carries = relabels-carries; takes = relabels-takes }

pub wrap-relabels : {A : Type 0} (kind : ℕ) → Relabels (wrap {A = A} kind)
unfolding wrap
wrap-relabels kind = relabels (wrap kind) (λ a ms k. a) (λ a ms k. node kind ms) (λ a ms k. refl) (λ e k. refl) (λ k. refl)

pub node-reads : {A : Type 0} {m : Mode} {p : Reader A} (kind : ℕ) → Reads m p → Reads m (in_node kind p)
unfolding in_node
node-reads kind r = relabel {f = wrap kind} (wrap-relabels kind) r

pub node-closes : {A : Type 0} {p : Reader A} (kind : ℕ) → Closes p → Closes (in_node kind p)
unfolding in_node
node-closes kind r = relabel-closes {f = wrap kind} (wrap-relabels kind) r

-- turns of a loop, with what holds of the state and the rest of x before each
abbrev pub TurnWithin : {S A : Type 0} → (S → ℕ → Type 0) → ℕ → Turn S A → Type 0
TurnWithin H n (again st ms k) = (k ≤ n) × H st k
TurnWithin H n (done o) = Within n o

abbrev pub TurnCarries : {S A : Type 0} → (S → ℕ → Type 0) → (ℕ → Type 0) → Turn S A → Turn S A → Type 0
TurnCarries H N (again st ms k) t = N k → (t ≡ again st ms k) × H st k
TurnCarries H N (done (ok a ms k)) t = N k → t ≡ done (ok a ms k)
TurnCarries H N (done (bad f k)) t = Unit {0}
TurnCarries H N (done (deep k)) t = Unit {0}

pub record Turns {S A : Type 0} (m : Mode) (I : S → List ℕ → Type 0) (t : S → List ℕ → Turn S A) : Type 0 where
  pub stops : (st : S) (x y : List ℕ) → Whole x → I st x → Stop y → TurnWithin (λ st' k. I st' (drop k x)) (length x) (t st (x ++ y))
  pub keeps : (st : S) (x y : List ℕ) → Whole x → I st x
      → TurnCarries (λ st' k. I st' (drop k x)) (Upto m y (length x)) (t st x) (t st (x ++ y))

pub done-carries : {S A : Type 0} (H : S → ℕ → Type 0) (N : ℕ → Type 0) (o o' : Out A) → Carries N o o' → TurnCarries H N (done o) (done o')
done-carries H N (ok a ms k) o' c = λ u. ap done (c u)
done-carries H N (bad f k) o' c = tt
done-carries H N (deep k) o' c = tt

-- where nothing is asked of the state
abbrev pub Free : {S : Type 0} → S → ℕ → Type 0
Free st k = Unit {0}

abbrev pub Any : {S : Type 0} → S → List ℕ → Type 0
Any st x = Unit {0}

pub turn_of-carries : (A : Type 0) {S : Type 0} (N : ℕ → Type 0) (o o' : Out S) → Carries N o o'
    → TurnCarries {A = A} Free N (turn_of o) (turn_of o')
unfolding turn_of
turn_of-carries A N (ok a ms k) o' c = λ u. (ap turn_of (c u), tt)
turn_of-carries A N (bad f k) o' c = tt
turn_of-carries A N (deep k) o' c = tt

pub turn_of-within : (A : Type 0) {S : Type 0} (n : ℕ) (o : Out S) → Within n o → TurnWithin {A = A} Free n (turn_of o)
unfolding turn_of
turn_of-within A n (ok a ms k) c = (c, tt)
turn_of-within A n (bad f k) c = tt
turn_of-within A n (deep k) c = tt

module _ {S A : Type 0} (t : S → List ℕ → Turn S A) where
  step-within : (H : S → ℕ → Type 0) (n : ℕ) (x y : List ℕ) (w : Turn S A) → TurnWithin H (length x) w
      → ((st : S) (k : ℕ) → k ≤ length x → H st k → Within (length (drop k x)) (loop n t st (drop k x ++ y)))
      → Within {A = A} (length x) (elim w [ again st' ms k ↦ after ms k (loop n t st' (drop k (x ++ y))) | done o ↦ o ])
  step-within H n x y (again st ms k) h f =
      rw (drop_app k x y h.0)
      (after-within (length x) k ms (loop n t st (drop k x ++ y)) h.0 (rw length-drop at (f st k h.0 h.1)))
  step-within H n x y (done o) h f = h

  step-carries : (H : S → ℕ → Type 0) (m : Mode) (n n' : ℕ) (x y : List ℕ) (w w' : Turn S A) → TurnCarries H (Upto m y (length x)) w w'
      → ((st : S) (k : ℕ) → H st k → Carries (Upto m y (length (drop k x))) (loop n t st (drop k x)) (loop n' t st (drop k x ++ y)))
      → Carries {A = A} (Upto m y (length x)) (elim w [ again st' ms k ↦ after ms k (loop n t st' (drop k x)) | done o ↦ o ])
      (elim w' [ again st' ms k ↦ after ms k (loop n' t st' (drop k (x ++ y))) | done o ↦ o ])
  unfolding after
  step-carries H m n n' x y (again st ms k) w' c f = go (loop n t st (drop k x)) (λ q. f st k q)
    where
      go : (o : Out A) → (H st k → Carries (Upto m y (length (drop k x))) o (loop n' t st (drop k x ++ y)))
          → Carries (Upto m y (length x)) (after ms k o)
          (elim w' [ again st' ms k ↦ after ms k (loop n' t st' (drop k (x ++ y))) | done o ↦ o ])
      go (ok a ns j) h = λ u.
          let v = upto-down m y (length x) k j u in
          rw (c v).0 (rw (drop_app k x y (upto_le m y (length x) k v)) (ap (after ms k) (h (c v).1 (upto_rest m y x k j u))))
      go (bad f j) h = tt
      go (deep j) h = tt
  step-carries H m n n' x y (done (ok a ms k)) w' c f = λ u. rw (c u) refl
  step-carries H m n n' x y (done (bad e k)) w' c f = tt
  step-carries H m n n' x y (done (deep k)) w' c f = tt

  module _ {m : Mode} {I : S → List ℕ → Type 0} (r : Turns m I t) where
    pub loop-stops : (n : ℕ) (st : S) (x y : List ℕ) → Whole x → I st x → Stop y → Within (length x) (loop n t st (x ++ y))
    unfolding loop
    loop-stops zero st x y w i s = tt
    loop-stops (suc n) st x y w i s =
        step-within (λ st' k. I st' (drop k x)) n x y (t st (x ++ y)) (r.stops st x y w i s)
        (λ st' k h j. loop-stops n st' (drop k x) y (whole_drop k x w) j s)

    pub loop-keeps : (n n' : ℕ) (st : S) (x y : List ℕ) → n ≤ n' → Whole x → I st x
        → Carries (Upto m y (length x)) (loop n t st x) (loop n' t st (x ++ y))
    unfolding loop
    loop-keeps zero n' st x y le w i = tt
    loop-keeps (suc n) zero st x y le w i = absurd (not-suc-le-zero le)
    loop-keeps (suc n) (suc n') st x y le w i =
        step-carries (λ st' k. I st' (drop k x)) m n n' x y (t st x) (t st (x ++ y)) (r.keeps st x y w i)
        (λ st' k j. loop-keeps n n' st' (drop k x) y (le_of_suc-le-suc le) (whole_drop k x w) j)

    pub repeat-stops : (st : S) (x y : List ℕ) → Whole x → I st x → Stop y → Within (length x) (repeat t st (x ++ y))
    unfolding repeat
    repeat-stops st x y w i s = loop-stops (suc (length (x ++ y))) st x y w i s

    pub repeat-keeps : (st : S) (x y : List ℕ) → Whole x → I st x → Carries (Upto m y (length x)) (repeat t st x) (repeat t st (x ++ y))
    unfolding repeat
    repeat-keeps st x y w i = loop-keeps (suc (length x)) (suc (length (x ++ y))) st x y (omega (arith, length-append x y)) w i

  pub repeat-reads : {m : Mode} → Turns m Any t → (st : S) → Reads m (repeat t st)
  repeat-reads r st = record { stops = λ x y w s. repeat-stops r st x y w tt s; keeps = λ x y w. repeat-keeps r st x y w tt }

-- readers that leave a byte of x
abbrev pub Short : {A : Type 0} → ℕ → Out A → Type 0
Short n o = Holds (λ a ms k. k < n) o

pub record Strict {A : Type 0} (p : Reader A) : Type 0 where
  pub short : (x y : List ℕ) → Whole x → Stop y → Short (length x) (p (x ++ y))

-- readers of an x that is not empty
pub record Inner {A : Type 0} (m : Mode) (p : Reader A) : Type 0 where
  pub stops : (b : ℕ) (bs y : List ℕ) → Whole (b ∷ bs) → Stop y → Within (suc (length bs)) (p ((b ∷ bs) ++ y))
  pub keeps : (b : ℕ) (bs y : List ℕ) → Whole (b ∷ bs) → KeepsAt m p (b ∷ bs) y

short-after : {A : Type 0} (n k : ℕ) (ms : List Mark) (o : Out A) → k ≤ n → Short (n - k) o → Short n (after ms k o)
short-after n k ms o h w = holds_after (λ a ns j. j < n - k) (λ a ns j. j < n) ms k (λ a ns j g. omega arith) o w

pub inner-within : {B : Type 0} {m : Mode} {p : Reader B} → Inner m p → (x y : List ℕ) → 0 < length x → Whole x → Stop y
    → Within (length x) (p (x ++ y))
inner-within i [] y h w s = absurd (not-suc-le-zero h)
inner-within i (b ∷ bs) y h w s = i.stops b bs y w s

pub inner-keeps : {B : Type 0} {m : Mode} {p : Reader B} → Inner m p → (x y : List ℕ) → 0 < length x → Whole x → KeepsAt m p x y
inner-keeps i [] y h w = absurd (not-suc-le-zero h)
inner-keeps i (b ∷ bs) y h w = i.keeps b bs y w

module _ {A B : Type 0} {m : Mode} {p : Reader A} {q : A → Reader B} where
  pub bind-strict : Reads m p → ((a : A) → Strict (q a)) → Strict (p >>= q)
  unfolding ◌>>=◌ next
  bind-strict r f = record { short = λ x y w s. go x y w s (p (x ++ y)) (r.stops x y w s) }
    where
      go : (x y : List ℕ) → Whole x → Stop y → (o : Out A) → Within (length x) o → Short (length x) (next (x ++ y) q o)
      go x y w s (ok a ms k) h =
          rw (drop_app k x y h)
          (short-after (length x) k ms (q a (drop k x ++ y)) h
          (rw length-drop at ((f a).short (drop k x) y (whole_drop k x w) s)))
      go x y w s (bad e k) h = tt
      go x y w s (deep k) h = tt

  pub inner-bind : Inner m p → ((a : A) → Reads m (q a)) → Inner m (p >>= q)
  unfolding ◌>>=◌
  inner-bind r f = record {
    stops =
        λ b bs y w s. next-within (b ∷ bs) y q (p ((b ∷ bs) ++ y)) (r.stops b bs y w s)
        (λ a k h. (f a).stops (drop k (b ∷ bs)) y (whole_drop k (b ∷ bs) w) s);
    keeps =
        λ b bs y w. next-keeps m m (b ∷ bs) y q (p (b ∷ bs)) (p ((b ∷ bs) ++ y)) (r.keeps b bs y w)
        (λ a k. (f a).keeps (drop k (b ∷ bs)) y (whole_drop k (b ∷ bs) w))
        (λ a c ns k j e u. upto-down m y (length (b ∷ bs)) k j u);
  }

  pub strict-bind : Reads m p → Strict p → ((a : A) → Inner m (q a)) → Reads m (p >>= q)
  unfolding ◌>>=◌ next
  strict-bind r t f = record {
    stops = λ x y w s. go x y w s (p (x ++ y)) (t.short x y w s);
    keeps =
        λ x y w. keep x y w (p x) (p (x ++ y)) (subst (λ z. Short (length x) (p z)) (append-nil x) (t.short x [] w tt))
        (r.keeps x y w);
  }
    where
      go : (x y : List ℕ) → Whole x → Stop y → (o : Out A) → Short (length x) o → Within (length x) (next (x ++ y) q o)
      go x y w s (ok a ms k) h =
          let le : k ≤ length x = omega arith in
          rw (drop_app k x y le)
          (after-within (length x) k ms (q a (drop k x ++ y)) le
          (rw length-drop at (inner-within (f a) (drop k x) y (rw length-drop (omega arith)) (whole_drop k x w) s)))
      go x y w s (bad e k) h = tt
      go x y w s (deep k) h = tt

      keep : (x y : List ℕ) → Whole x → (o o' : Out A) → Short (length x) o → Carries (Upto m y (length x)) o o'
          → Carries (Upto m y (length x)) (next x q o) (next (x ++ y) q o')
      keep x y w (ok a ms k) o' h c =
          next-ok (Upto m y (length x)) x y q a ms k o' (q a (drop k x)) (λ j u. upto_le m y (length x) k (upto-down m y (length x) k j u))
          (weaker (Upto m y (length (drop k x))) (λ j. Upto m y (length x) (k + j)) (λ j u. upto_rest m y x k j u)
          (q a (drop k x)) (q a (drop k x ++ y))
          (inner-keeps (f a) (drop k x) y (rw length-drop (omega arith)) (whole_drop k x w)))
          (λ b ns j e u. c (upto-down m y (length x) k j u))
      keep x y w (bad e k) o' h c = tt
      keep x y w (deep k) o' h c = tt

module _ {A B : Type 0} {m : Mode} {p : Reader A} {q : Reader B} where
  pub then-strict : Reads m p → Strict q → Strict (p >> q)
  unfolding ◌>>=◌ ◌>>◌
  then-strict r f = bind-strict {q = λ _. q} r (λ _. f)

  pub strict-then : Reads m p → Strict p → Inner m q → Reads m (p >> q)
  unfolding ◌>>=◌ ◌>>◌
  strict-then r t f = strict-bind {q = λ _. q} r t (λ _. f)

  pub inner-then : Inner m p → Reads m q → Inner m (p >> q)
  unfolding ◌>>=◌ ◌>>◌
  inner-then r f = inner-bind {q = λ _. q} r (λ _. f)

-- what follows k bytes and some marks
module _ {A : Type 0} (p : Reader A) (r : Reads loose p) (x y : List ℕ) (w : Whole x) (ms : List Mark) (k : ℕ) where
  pub cont-within : Stop y → k ≤ length x → Within (length x) (after ms k (p (drop k (x ++ y))))
  cont-within s h =
      rw (drop_app k x y h)
      (after-within (length x) k ms (p (drop k x ++ y)) h
      (rw length-drop at (r.stops (drop k x) y (whole_drop k x w) s)))

  pub cont-keeps : Carries (Upto loose y (length x)) (after ms k (p (drop k x))) (after ms k (p (drop k (x ++ y))))
  unfolding next
  cont-keeps = next-ok {A = Unit {0}} (Upto loose y (length x)) x y (λ _. p) tt ms k (ok tt ms k) (p (drop k x)) (λ j u. omega arith)
      (weaker (Upto loose y (length (drop k x))) (λ j. Upto loose y (length x) (k + j))
      (λ j u. upto_rest loose y x k j u) (p (drop k x)) (p (drop k x ++ y))
      (r.keeps (drop k x) y (whole_drop k x w)))
      (λ b ns j e u. refl)

pub carries-trans : {A : Type 0} (N : ℕ → Type 0) (o o' o'' : Out A) → Carries N o o' → Holds (λ b ns j. N j → o'' ≡ o') o → Carries N o o''
carries-trans N (ok a ms k) o' o'' c h = λ u. h u ∙ c u
carries-trans N (bad f k) o' o'' c h = tt
carries-trans N (deep k) o' o'' c h = tt

-- an answer of at least k bytes
pub after-least : {A : Type 0} (ms : List Mark) (k : ℕ) (o : Out A) → Holds (λ b ns j. k ≤ j) (after ms k o)
unfolding after
after-least ms k (ok a ns j) = omega arith
after-least ms k (bad f j) = tt
after-least ms k (deep j) = tt

pub least-next : {A B : Type 0} (k : ℕ) (s : List ℕ) (q : A → Reader B) (o : Out A) → Holds (λ b ns j. k ≤ j) o
    → Holds (λ b ns j. k ≤ j) (next s q o)
unfolding next
least-next k s q (ok a ms j) h =
    holds-map (λ b ns i. j ≤ i) (λ b ns i. k ≤ i) (λ b ns i l. omega arith) (after ms j (q a (drop j s)))
    (after-least ms j (q a (drop j s)))
least-next k s q (bad f j) h = tt
least-next k s q (deep j) h = tt

pub least-wrap : {A : Type 0} (k kind : ℕ) (o : Out A) → Holds (λ b ns j. k ≤ j) o → Holds (λ b ns j. k ≤ j) (wrap kind o)
unfolding wrap
least-wrap k kind (ok a ms j) h = h
least-wrap k kind (bad f j) h = tt
least-wrap k kind (deep j) h = tt

pub beyond : {A : Type 0} (y : List ℕ) (n k : ℕ) (o o' : Out A) → n ≤ k → Holds (λ b ns j. k ≤ j) o → Carries (Upto loose y n) o o'
beyond y n k (ok a ms j) o' l h = λ u. absurd (omega arith)
beyond y n k (bad f j) o' l h = tt
beyond y n k (deep j) o' l h = tt
