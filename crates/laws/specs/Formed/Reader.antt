-- What a reader's marks do to the node that they stand in, of the kind k with n openings left: where its automaton
-- stands after them, by the value
-- that was read. The places of the marks are edges, and so is where the reading ends.
use Prim.Native.Nat.{ℕ, zero, suc, ◌+◌}
use Rattle.std.specs.Prelude.{◌≡◌, Bool, true, false, drop, length}
use Rattle.std.proofs.Math.Path.{refl}
use mathlib.Core.List.{List, [], ◌++◌, append-nil}
use Rattle.std.proofs.Math.Option.{some}
use Rattle.syntax.specs.Kind as Kind
use Rattle.syntax.specs.Marks.{Mark, move_up, node}
use Rattle.syntax.specs.declared.errors.ErrorKind.{ErrorKind}
use Rattle.syntax.specs.declared.errors.ParserError.{ParserError}
use Rattle.syntax.specs.Reader.{Out, ok, bad, deep, Reader, after, next, ◌>>=◌, ◌>>◌, pure, fail, wrap, in_node, Turn}
use Rattle.syntax.specs.Reader.{again, done, turn_of, loop, repeat}
use Rattle.syntax.specs.Shape.{start, step, final, opens, Run, stay, Content}
use Rattle.laws.specs.Shape.Run.{run-append, run_moved, run-node}
use Rattle.laws.specs.Formed.Edge.{edge, edge-add}

-- in a state; where the node may end; or nothing is said
pub data Stand : Type 0 where
  at : ℕ → Stand
  ended : Stand
  anywhere : Stand

-- the marks lead the automaton from where it stands to where it stands then
pub data Leads (boundary : ℕ → Bool) (n k : ℕ) : Stand → Stand → List Mark → Type 0 where
  by : {q t : ℕ} {ms : List Mark} → Run boundary n k q t ms → Leads boundary n k (at q) (at t) ms
  closes : {q t : ℕ} {ms : List Mark} → Run boundary n k q t ms → final k t ≡ true → Leads boundary n k (at q) ended ms
  over : Leads boundary n k ended ended []
  unsaid : {g : Stand} {ms : List Mark} → Leads boundary n k g anywhere ms

pub leads-nil : {boundary : ℕ → Bool} {n k : ℕ} (g : Stand) → Leads boundary n k g g []
leads-nil (at q) = by stay
leads-nil ended = over
leads-nil anywhere = unsaid

module _ {boundary : ℕ → Bool} {n k : ℕ} where
  leads-append : {g h i : Stand} {ms ns : List Mark} → Leads boundary n k g h ms → Leads boundary n k h i ns
      → Leads boundary n k g i (ms ++ ns)
  leads-append (by w) (by v) = by (run-append boundary w v)
  leads-append (by w) (closes v f) = closes (run-append boundary w v) f
  leads-append (by w) unsaid = unsaid
  leads-append (closes w f) over = rw append-nil (closes w f)
  leads-append (closes w f) unsaid = unsaid
  leads-append over over = over
  leads-append over unsaid = unsaid
  leads-append unsaid unsaid = unsaid

  pub leads-end : {t : ℕ} {g : Stand} {ms : List Mark} → final k t ≡ true → Leads boundary n k g (at t) ms → Leads boundary n k g ended ms
  leads-end f (by w) = closes w f

  pub leads-content : {q : ℕ} {ms : List Mark} → Leads boundary n k (at q) ended ms → Content boundary n k q ms
  leads-content (closes {t = t} w f) = record { to = t; run = w; ended = f }

leads-up : {boundary boundary' : ℕ → Bool} {n k : ℕ} {g h : Stand} {ms : List Mark} (j : ℕ)
    → ((a : ℕ) → boundary a ≡ true → boundary' (j + a) ≡ true) → Leads boundary n k g h ms
    → Leads boundary' n k g h (move_up j ms)
unfolding move_up
leads-up {boundary} {boundary'} j c (by w) = by (run_moved boundary boundary' j c w)
leads-up {boundary} {boundary'} j c (closes w f) = closes (run_moved boundary boundary' j c w) f
leads-up j c over = over
leads-up j c unsaid = unsaid

pub leads-after : (s : List ℕ) {n k : ℕ} (j : ℕ) {g h i : Stand} {ms ns : List Mark} → edge s j ≡ true
    → Leads (edge s) n k g h ms → Leads (edge (drop j s)) n k h i ns → Leads (edge s) n k g i (ms ++ move_up j ns)
leads-after s j e l m = leads-append l (leads-up j (λ a f. edge-add s j a e f) m)

-- a node, and a T node
pub leads-node : {boundary : ℕ → Bool} {n inside k q r : ℕ} {ms : List Mark} (kind : ℕ) → Kind.is_text kind ≡ false
    → step k q kind ≡ some r → opens kind + inside ≡ n
    → Leads boundary inside kind (at start) ended ms → Leads boundary n k (at q) (at r) (node kind ms)
leads-node {boundary} kind t s o l = by (run-node boundary t s o (leads-content l))

-- ---- readers

pub data Made {A : Type 0} (n k : ℕ) (g : Stand) (f : A → Stand) (s : List ℕ) : Out A → Type 0 where
  made : {a : A} {ms : List Mark} {j : ℕ} → edge s j ≡ true → Leads (edge s) n k g (f a) ms → Made n k g f s (ok a ms j)
  stopped : {e : ParserError} {j : ℕ} → Made n k g f s (bad e j)
  too_deep : {j : ℕ} → Made n k g f s (deep j)

pub record Makes {A : Type 0} (n k : ℕ) (g : Stand) (f : A → Stand) (p : Reader A) : Type 0 where
  pub on : (s : List ℕ) → Made n k g f s (p s)

-- no marks
pub skips : {A : Type 0} {n k : ℕ} {g : Stand} {s : List ℕ} {a : A} {j : ℕ} → edge s j ≡ true → Made n k g (λ _. g) s (ok a [] j)
skips {g = g} e = made e (leads-nil g)

module _ {A : Type 0} {n k : ℕ} where
  pub after-made : {g h : Stand} {f : A → Stand} {s : List ℕ} {ms : List Mark} {o : Out A} (j : ℕ) → edge s j ≡ true
      → Leads (edge s) n k g h ms → Made n k h f (drop j s) o → Made n k g f s (after ms j o)
  unfolding after
  after-made {s = s} j e l (made {j = i} d m) = made (edge-add s j i e d) (leads-after s j e l m)
  after-made j e l stopped = stopped
  after-made j e l too_deep = too_deep

  pub wrap-made : {inside q r : ℕ} {s : List ℕ} {o : Out A} (kind : ℕ) → Kind.is_text kind ≡ false
      → step k q kind ≡ some r → opens kind + inside ≡ n
      → Made inside kind (at start) (λ _. ended) s o → Made n k (at q) (λ _. at r) s (wrap kind o)
  unfolding wrap
  wrap-made kind t z o (made e l) = made e (leads-node kind t z o l)
  wrap-made kind t z o stopped = stopped
  wrap-made kind t z o too_deep = too_deep

  pub node-makes : {inside q r : ℕ} {p : Reader A} (kind : ℕ) → Kind.is_text kind ≡ false → step k q kind ≡ some r → opens kind + inside ≡ n
      → Makes inside kind (at start) (λ _. ended) p → Makes n k (at q) (λ _. at r) (in_node kind p)
  unfolding in_node
  node-makes kind t z o m = record { on = λ s. wrap-made kind t z o (m.on s) }

  pub pure-makes : {g : Stand} {f : A → Stand} (a : A) → ((boundary : ℕ → Bool) → Leads boundary n k g (f a) []) → Makes n k g f (pure a)
  unfolding pure edge
  pure-makes a l = record { on = λ s. made refl (l (edge s)) }

  pub fail-makes : {g : Stand} {f : A → Stand} (kind : ErrorKind) → Makes n k g f (fail kind)
  unfolding fail
  fail-makes kind = record { on = λ s. stopped }

  -- the node may end here
  end-made : {t : ℕ} {g : Stand} {s : List ℕ} {o : Out A} → final k t ≡ true → Made n k g (λ _. at t) s o → Made n k g (λ _. ended) s o
  end-made f (made e l) = made e (leads-end f l)
  end-made f stopped = stopped
  end-made f too_deep = too_deep

  pub end-makes : {t : ℕ} {g : Stand} {p : Reader A} → final k t ≡ true → Makes n k g (λ _. at t) p → Makes n k g (λ _. ended) p
  end-makes f m = record { on = λ s. end-made f (m.on s) }

  -- nothing is said of the marks
  pub forget-made : {m i : ℕ} {g h : Stand} {f : A → Stand} {s : List ℕ} {o : Out A} → Made n k g f s o → Made m i h (λ _. anywhere) s o
  forget-made (made e l) = made e unsaid
  forget-made stopped = stopped
  forget-made too_deep = too_deep

  pub forget : {m i : ℕ} {g h : Stand} {f : A → Stand} {p : Reader A} → Makes n k g f p → Makes m i h (λ _. anywhere) p
  forget m = record { on = λ s. forget-made (m.on s) }

module _ {A B : Type 0} {n k : ℕ} where
  pub next-made : {g : Stand} {f : A → Stand} {e : B → Stand} {s : List ℕ} {q : A → Reader B} {o : Out A}
      → Made n k g f s o → ((a : A) → Makes n k (f a) e (q a)) → Made n k g e s (next s q o)
  unfolding next
  next-made {s = s} (made {a} {j = j} d l) m = after-made j d l ((m a).on (drop j s))
  next-made stopped m = stopped
  next-made too_deep m = too_deep

  pub bind : {g : Stand} {f : A → Stand} {e : B → Stand} {p : Reader A} {q : A → Reader B} → Makes n k g f p
      → ((a : A) → Makes n k (f a) e (q a)) → Makes n k g e (p >>= q)
  unfolding ◌>>=◌
  bind m l = record { on = λ s. next-made (m.on s) l }

  pub then_by : {g : Stand} {f : A → Stand} {e : B → Stand} {p : Reader A} {q : Reader B} → Makes n k g f p
      → ((a : A) → Makes n k (f a) e q) → Makes n k g e (p >> q)
  unfolding ◌>>◌
  then_by m l = record { on = λ s. next-made (m.on s) l }

  pub then : {g h : Stand} {e : B → Stand} {p : Reader A} {q : Reader B} → Makes n k g (λ _. h) p → Makes n k h e q → Makes n k g e (p >> q)
  then m l = then_by m (λ _. l)

-- ---- loops: the automaton stands by the state

pub data TurnMade {S A : Type 0} (n k : ℕ) (g : Stand) (f : S → Stand) (e : A → Stand) (s : List ℕ) : Turn S A → Type 0 where
  goes : {st : S} {ms : List Mark} {j : ℕ} → edge s j ≡ true → Leads (edge s) n k g (f st) ms → TurnMade n k g f e s (again st ms j)
  ends : {o : Out A} → Made n k g e s o → TurnMade n k g f e s (done o)

module _ {S A : Type 0} {n k : ℕ} {f : S → Stand} {e : A → Stand} where
  pub turn_of-made : {g : Stand} {s : List ℕ} {o : Out S} → Made n k g f s o → TurnMade n k g f e s (turn_of o)
  unfolding turn_of
  turn_of-made (made d l) = goes d l
  turn_of-made stopped = ends stopped
  turn_of-made too_deep = ends too_deep

  module _ {turn : S → List ℕ → Turn S A} (m : (st : S) (s : List ℕ) → TurnMade n k (f st) f e s (turn st s)) where
    loop-made : (i : ℕ) (st : S) (s : List ℕ) → Made n k (f st) e s (loop i turn st s)
    unfolding loop
    loop-made zero st s = too_deep
    loop-made (suc i) st s = go (turn st s) (m st s) (λ st' r. loop-made i st' r)
      where
        go : (t : Turn S A) → TurnMade n k (f st) f e s t → ((st' : S) (r : List ℕ) → Made n k (f st') e r (loop i turn st' r))
            → Made {A = A} n k (f st) e s (elim t [ again st' ms j ↦ after ms j (loop i turn st' (drop j s)) | done o ↦ o ])
        go (again st' ms j) (goes d l) h = after-made j d l (h st' (drop j s))
        go (done o) (ends d) h = d

    pub repeat-makes : (st : S) → Makes n k (f st) e (repeat turn st)
    unfolding repeat
    repeat-makes st = record { on = λ s. loop-made (suc (length s)) st s }
