-- What a reader may answer on a rest s, with n openings still allowed.
-- ok: it used no more than s; its marks are at most eight for each byte used, with c marks to spare.
-- bad: it stopped within s. deep: at a byte of s, with n bytes at least before it.
-- Of a reader p with `b : Bounds n c p`: `ok-uses b s e`, `bad-within b s e` and `deep-within b s e` say it of the
-- answer that e gives, as `e : p s ≡ ok a ms k`.
-- Where what is nested is read at a level n, `level-bounds n` is the hypothesis that the readers of nesting ask for.
pub mod Helper
pub mod Comment
pub mod Pattern
pub mod Expression
pub mod Entry
use Prim.Native.Nat.{ℕ, zero, suc, ◌+◌, ◌-◌, ◌*◌, ◌≤◌, ◌<◌}
use Rattle.std.proofs.Common.{not-suc-le-zero, arith, subst, length-append}
use Rattle.std.specs.Prelude.{◌≡◌, refl, drop}
use mathlib.Core.List.{List, [], ◌∷◌, ◌++◌}
use Rattle.std.proofs.Math.ListN.{length, length-drop}
use Rattle.syntax.specs.Marks.{Mark, plain, move_up, node, text_node}
use Rattle.syntax.specs.declared.errors.ErrorKind.{ErrorKind}
use Rattle.syntax.specs.declared.errors.ParserError.{ParserError}
use Rattle.syntax.specs.Reader.{Out, ok, bad, deep, Reader, after, next, ◌>>=◌, ◌>>◌, pure, fail, wrap, in_node, Turn}
use Rattle.syntax.specs.Reader.{again, done, turn_of, loop, repeat}
use Rattle.laws.specs.Moving.{move_up-length}
use Rattle.laws.specs.Loop.{Moved, Moves, repeat-again, repeat-done}

pub record Uses (c : ℕ) (s : List ℕ) (ms : List Mark) (k : ℕ) : Type 0 where
  pub within : k ≤ length s
  pub room : c + length ms ≤ 8 * k

-- the room to spare may depend on the value
pub data Bounded {A : Type 0} (n : ℕ) (c : A → ℕ) (s : List ℕ) : Out A → Type 0 where
  used : {a : A} {ms : List Mark} {k : ℕ} → Uses (c a) s ms k → Bounded n c s (ok a ms k)
  stopped : {f : ParserError} (k : ℕ) → k ≤ length s → Bounded n c s (bad f k)
  too_deep : (k : ℕ) → n ≤ k → k < length s → Bounded n c s (deep k)

pub record Bounds {A : Type 0} (n : ℕ) (c : A → ℕ) (p : Reader A) : Type 0 where
  pub on : (s : List ℕ) → Bounded n c s (p s)

pub uses-nil : {c : ℕ} {s : List ℕ} (k : ℕ) → k ≤ length s → c ≤ 8 * k → Uses c s [] k
uses-nil k h l = record { within = h; room = omega arith }

pub uses-text : {c : ℕ} {s : List ℕ} (k kind a e : ℕ) → k ≤ length s → c + 2 ≤ 8 * k → Uses c s (text_node kind a e) k
unfolding text_node
uses-text k kind a e h r = record { within = h; room = omega arith }

pub uses-less : {c d : ℕ} {s : List ℕ} {ms : List Mark} {k : ℕ} → d ≤ c → Uses c s ms k → Uses d s ms k
uses-less l u = record { within = u.within; room = omega (arith, u.room) }

pub uses-after : {c d : ℕ} {s : List ℕ} {ms ns : List Mark} {k j : ℕ} → Uses c s ms k → Uses d (drop k s) ns j
    → Uses (c + d) s (ms ++ move_up k ns) (k + j)
uses-after {s = s} {ms} {ns} {k} {j} u v = record {
  within = omega (arith, u.within, v.within, length-drop k s);
  room = omega (arith, u.room, v.room, length-append ms (move_up k ns), move_up-length k ns);
}

pub uses-node : {c : ℕ} {s : List ℕ} {ms : List Mark} {k : ℕ} (kind : ℕ) → 2 ≤ c → Uses c s ms k → Uses (c - 2) s (node kind ms) k
unfolding node
uses-node {ms = ms} {k} kind l u = record {
  within = u.within;
  room = omega (arith, u.room, length-append ms (plain (100 + kind) ∷ []));
}

module _ {A : Type 0} {n : ℕ} {s : List ℕ} where
  pub bounded-less : {c d : A → ℕ} {o : Out A} → ((a : A) → d a ≤ c a) → Bounded n c s o → Bounded n d s o
  bounded-less l (used {a} u) = used (uses-less (l a) u)
  bounded-less l (stopped j h) = stopped j h
  bounded-less l (too_deep j h g) = too_deep j h g

  pub after-bounded : {c : ℕ} {d : A → ℕ} {ms : List Mark} {k : ℕ} {o : Out A} → Uses c s ms k
      → Bounded n d (drop k s) o → Bounded n (λ a. c + d a) s (after ms k o)
  unfolding after
  after-bounded u (used v) = used (uses-after u v)
  after-bounded {k = k} u (stopped j h) = stopped (k + j) (omega (arith, u.within, length-drop k s))
  after-bounded {k = k} u (too_deep j h g) = too_deep (k + j) (omega arith) (omega (arith, u.within, length-drop k s))

  pub wrap-bounded : {c : ℕ} {o : Out A} (kind : ℕ) → 2 ≤ c → Bounded n (λ _. c) s o → Bounded n (λ _. c - 2) s (wrap kind o)
  unfolding wrap
  wrap-bounded kind l (used u) = used (uses-node kind l u)
  wrap-bounded kind l (stopped j h) = stopped j h
  wrap-bounded kind l (too_deep j h g) = too_deep j h g

module _ {A B : Type 0} {n : ℕ} where
  -- the room to spare by both values
  pub next-bounded : {c : A → ℕ} {d : A → B → ℕ} {e : B → ℕ} {s : List ℕ} {q : A → Reader B} {o : Out A}
      → ((a : A) (b : B) → e b ≤ c a + d a b)
      → Bounded n c s o → ((a : A) → Bounds n (d a) (q a)) → Bounded n e s (next s q o)
  unfolding next
  next-bounded {s = s} l (used {a} {k = k} u) bq = bounded-less (l a) (after-bounded u ((bq a).on (drop k s)))
  next-bounded l (stopped k h) bq = stopped k h
  next-bounded l (too_deep k h g) bq = too_deep k h g

  pub bind-by : {c : A → ℕ} {d : A → B → ℕ} {e : B → ℕ} {p : Reader A} {q : A → Reader B} → ((a : A) (b : B) → e b ≤ c a + d a b)
      → Bounds n c p → ((a : A) → Bounds n (d a) (q a)) → Bounds n e (p >>= q)
  unfolding ◌>>=◌
  bind-by l bp bq = record { on = λ s. next-bounded l (bp.on s) bq }

  pub bind : {c : ℕ} {d : B → ℕ} {p : Reader A} {q : A → Reader B} → Bounds n (λ _. c) p → ((a : A) → Bounds n d (q a))
      → Bounds n (λ b. c + d b) (p >>= q)
  bind bp bq = bind-by (λ a b. omega arith) bp bq

  pub then : {c : ℕ} {d : B → ℕ} {p : Reader A} {q : Reader B} → Bounds n (λ _. c) p → Bounds n d q → Bounds n (λ b. c + d b) (p >> q)
  unfolding ◌>>=◌ ◌>>◌
  then {q = q} bp bq = bind {q = λ _. q} bp (λ _. bq)

-- what follows an opening byte may open one less
pub then-inside : {A B : Type 0} {n c : ℕ} {d : B → ℕ} {p : Reader A} {q : Reader B} → 1 ≤ c → Bounds (suc n) (λ _. c) p → Bounds n d q
    → Bounds (suc n) (λ b. c + d b) (p >> q)
unfolding ◌>>◌ next after
then-inside {A} {B} {n} {c} {d} {p} {q} l bp bq = record { on = λ s. go s (p s) (bp.on s) }
  where
    inner : {s : List ℕ} {ms : List Mark} {k : ℕ} {o : Out B} → Uses c s ms k → Bounded n d (drop k s) o
        → Bounded (suc n) (λ b. c + d b) s (after ms k o)
    inner u (used v) = used (uses-after u v)
    inner {s} {k = k} u (stopped j h) = stopped (k + j) (omega (arith, u.within, length-drop k s))
    inner {s} {k = k} u (too_deep j h g) = too_deep (k + j) (omega (arith, u.room)) (omega (arith, u.within, length-drop k s))

    go : (s : List ℕ) (o : Out A) → Bounded (suc n) (λ _. c) s o → Bounded (suc n) (λ b. c + d b) s (next s (λ _. q) o)
    go s (ok a ms k) (used u) = inner u (bq.on (drop k s))
    go s (bad f k) (stopped j h) = stopped j h
    go s (deep k) (too_deep j h g) = too_deep j h g

pub less : {A : Type 0} {n : ℕ} {c d : A → ℕ} {p : Reader A} → ((a : A) → d a ≤ c a) → Bounds n c p → Bounds n d p
less l b = record { on = λ s. bounded-less l (b.on s) }

pub pure-bounds : {A : Type 0} {n : ℕ} (a : A) → Bounds n (λ _. 0) (pure a)
unfolding pure
pure-bounds a = record { on = λ s. used (uses-nil 0 (omega arith) (omega arith)) }

pub fail-bounds : {A : Type 0} {n : ℕ} {c : A → ℕ} (kind : ErrorKind) → Bounds n c (fail kind)
unfolding fail
fail-bounds kind = record { on = λ s. stopped 0 (omega arith) }

pub node-bounds : {A : Type 0} {n c : ℕ} {p : Reader A} (kind : ℕ) → 2 ≤ c → Bounds n (λ _. c) p → Bounds n (λ _. c - 2) (in_node kind p)
unfolding in_node
node-bounds kind l b = record { on = λ s. wrap-bounded kind l (b.on s) }

-- a turn, with c marks to spare where it goes on and d where it is done
pub data TurnBounded {S A : Type 0} (n c d : ℕ) (s : List ℕ) : Turn S A → Type 0 where
  goes : {st : S} {ms : List Mark} {k : ℕ} → Uses c s ms k → TurnBounded n c d s (again st ms k)
  ends : {o : Out A} → Bounded n (λ _. d) s o → TurnBounded n c d s (done o)

pub turn_of-bounded : {S A : Type 0} {n c d : ℕ} {s : List ℕ} {o : Out S} → Bounded n (λ _. c) s o → TurnBounded {A = A} n c d s (turn_of o)
unfolding turn_of
turn_of-bounded (used u) = goes u
turn_of-bounded (stopped k h) = ends (stopped k h)
turn_of-bounded (too_deep k h g) = ends (too_deep k h g)

pub turn-less : {S A : Type 0} {n c d c' d' : ℕ} {s : List ℕ} {t : Turn S A} → c' ≤ c → d' ≤ d → TurnBounded n c d s t
    → TurnBounded n c' d' s t
turn-less l l' (goes u) = goes (uses-less l u)
turn-less l l' (ends b) = ends (bounded-less (λ _. l') b)

-- a turn that goes on has a mark to spare, so that it uses a byte
pub record TurnBounds {S A : Type 0} (n : ℕ) (turn : S → List ℕ → Turn S A) : Type 0 where
  pub on : (st : S) (s : List ℕ) → TurnBounded n 1 0 s (turn st s)

module _ {S A : Type 0} {n : ℕ} {turn : S → List ℕ → Turn S A} (b : TurnBounds n turn) where
  pub moves : Moves turn
  moves = record { moves = λ st s. go s (turn st s) (b.on st s) }
    where
      go : (s : List ℕ) (t : Turn S A) → TurnBounded n 1 0 s t → Moved s t
      go s (again st ms k) (goes u) = (omega (arith, u.room), u.within)
      go s (done o) (ends h) = tt

  loop-bounded : (m : ℕ) (st : S) (s : List ℕ) → length s < m → Bounded n (λ _. 0) s (loop m turn st s)
  unfolding loop
  loop-bounded zero st s l = absurd (not-suc-le-zero l)
  loop-bounded (suc m) st s l = go (turn st s) (b.on st s) (λ st' r h. loop-bounded m st' r h)
    where
      go : (t : Turn S A) → TurnBounded n 1 0 s t → ((st' : S) (r : List ℕ) → length r < m → Bounded n (λ _. 0) r (loop m turn st' r))
          → Bounded {A = A} n (λ _. 0) s (elim t [ again st' ms k ↦ after ms k (loop m turn st' (drop k s)) | done o ↦ o ])
      go (again st' ms k) (goes u) f =
          bounded-less (λ _. omega arith)
          (after-bounded u (f st' (drop k s) (omega (arith, u.room, u.within, length-drop k s))))
      go (done o) (ends h) f = h

  pub repeat-bounds : (st : S) → Bounds n (λ _. 0) (repeat turn st)
  unfolding repeat
  repeat-bounds st = record { on = λ s. loop-bounded (suc (length s)) st s (omega arith) }

  -- what the first turn spares, the loop spares
  pub first-bounded : {c : ℕ} (st : S) (s : List ℕ) → TurnBounded n c c s (turn st s) → Bounded n (λ _. c) s (repeat turn st s)
  first-bounded {c} st s h = go (turn st s) refl h
    where
      go : (t : Turn S A) → turn st s ≡ t → TurnBounded n c c s t → Bounded n (λ _. c) s (repeat turn st s)
      go (again st' ms k) e (goes u) =
          rw (repeat-again moves st s e)
          (bounded-less (λ _. omega arith) (after-bounded u ((repeat-bounds st').on (drop k s))))
      go (done o) e (ends h) = rw (repeat-done turn st s e) h

-- what the bounds say of each answer
module _ {A : Type 0} {n : ℕ} {c : A → ℕ} {p : Reader A} (b : Bounds n c p) (s : List ℕ) where
  pub ok-uses : {a : A} {ms : List Mark} {k : ℕ} → p s ≡ ok a ms k → Uses (c a) s ms k
  ok-uses e = go (subst (Bounded n c s) e (b.on s))
    where
      go : {a : A} {ms : List Mark} {k : ℕ} → Bounded n c s (ok a ms k) → Uses (c a) s ms k
      go (used u) = u

  pub bad-within : {f : ParserError} {k : ℕ} → p s ≡ bad f k → k ≤ length s
  bad-within e = go (subst (Bounded n c s) e (b.on s))
    where
      go : {f : ParserError} {k : ℕ} → Bounded n c s (bad f k) → k ≤ length s
      go (stopped j h) = h

  pub deep-within : {k : ℕ} → p s ≡ deep k → (n ≤ k) × (k < length s)
  deep-within e = go (subst (Bounded n c s) e (b.on s))
    where
      go : {k : ℕ} → Bounded n c s (deep k) → (n ≤ k) × (k < length s)
      go (too_deep j h g) = (h, g)
