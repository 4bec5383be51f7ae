-- The check's steps: a run is a way of the check, and a way of the check to an end completes a list; invariants.
use Rattle.std.specs.Prelude.{ℕ, suc, ◌+◌, ◌-◌, ◌≤◌, max, ◌≡◌, Bool, ◌&&◌, ◌||◌, not, ltb, length}
use native.Mathlib.Omega.{arith}
use Rattle.std.proofs.Math.Path.{refl}
use Rattle.std.proofs.Common.{ap}
use Rattle.std.proofs.Math.Bool.{true, false, and-eq-true_iff}
use mathlib.Core.List.{List, [], ◌∷◌, ◌++◌, append_assoc}
use Rattle.std.proofs.Math.Option.{Option, some, none}
use Rattle.std.proofs.Math.Dec.{eqb, leb}
use borrow.Author.Tests.{eqb-true, leb-true, le-leb, eq-eqb, ne_eqb, not-true}
use Rattle.syntax.specs.Kind as Kind
use Rattle.syntax.specs.Marks.{Mark, plain, placed, node, text_node}
use Rattle.syntax.specs.Shape.{start, models, among, step, final, opens, Run, stay, text, nest, Content, Frame, frame}
use Rattle.syntax.specs.Shape.{State, between, within, needs, enter, leave, step_mark, may_end}
use Rattle.laws.specs.Bytes.{by_case, clash}
use Rattle.laws.specs.Shape.Run.{lost, otherwise, rule, end-rule, content-append, run-text, run-node, known-child}

-- The openings that a node of the kind k in the state q needs to come to its end: no child lessens the need but
-- one that opens, and where a node may end there is none.
unfoldable pub demand : ℕ → ℕ → ℕ
demand k q = elim (eqb k Kind.function && ltb q 2) [ true ↦ 1 | false ↦ 0 ]

pub needs-demand : (j : ℕ) → needs j ≡ opens j + demand j start
unfolding needs opens demand among
needs-demand j =
    by_case (eqb j Kind.function) (λ e. rw (eqb-true j Kind.function e))
    (λ e.
    let n : needs j ≡ opens j = rw (e, needs) in
    let d : demand j start ≡ 0 = rw (e, demand) in
    omega arith)

demand-text : (k q j r : ℕ) → step k q j ≡ some r → Kind.is_text j ≡ true → demand k q ≤ demand k r
unfolding models demand Kind.is_text
demand-text k q j r s i =
    leb-true _ _
    (otherwise (not (Kind.is_text j)) _
    (rule (λ k q j r. not (Kind.is_text j) || leb (demand k q) (demand k r)) refl k q j r s) (ap not i))

demand-nest : (k q j r : ℕ) → step k q j ≡ some r → demand k q ≤ max (demand k r) (opens j)
unfolding models demand opens among
demand-nest k q j r s = leb-true _ _ (rule (λ k q j r. leb (demand k q) (max (demand k r) (opens j))) refl k q j r s)

pub demand-falls : (k q j r : ℕ) → step k q j ≡ some r → demand k r ≤ demand k q
unfolding models demand
demand-falls k q j r s = leb-true _ _ (rule (λ k q j r. leb (demand k r) (demand k q)) refl k q j r s)

demand-end : (k q : ℕ) → final k q ≡ true → demand k q ≡ 0
unfolding models demand
demand-end k q f = eqb-true _ _ (end-rule (λ k q. eqb (demand k q) 0) refl k q f)

-- the check goes from s to s' by the marks
pub data Steps (boundary : ℕ → Bool) : State → List Mark → State → Type 0 where
  here : {s : State} → Steps boundary s [] s
  more : {s s' s'' : State} {m : Mark} {ms : List Mark} → step_mark boundary s m ≡ some s' → Steps boundary s' ms s''
      → Steps boundary s (m ∷ ms) s''

pub steps-append : {boundary : ℕ → Bool} {s s' s'' : State} {xs ys : List Mark} → Steps boundary s xs s'
    → Steps boundary s' ys s'' → Steps boundary s (xs ++ ys) s''
steps-append here y = y
steps-append (more e x) y = more e (steps-append x y)

-- where the check is stuck at m after xs, no list that begins so takes it anywhere
pub steps-stuck : {boundary : ℕ → Bool} {s s' s'' : State} {xs : List Mark} (m : Mark) (ys : List Mark)
    → Steps boundary s xs s' → step_mark boundary s' m ≡ none → Steps boundary s (xs ++ (m ∷ ys)) s'' → ⊥
steps-stuck m ys here f (more e y) = let z : ◌≡◌ {A = ℕ} 0 1 = cc in omega arith
steps-stuck m ys (more {s' = t} d x) f (more {s' = u} e y) = let z : u ≡ t = cc in steps-stuck m ys x f (rw z at y)

-- the steps of the check as rules: `step_mark` with its tests as facts
pub data Stepped (boundary : ℕ → Bool) : State → Mark → State → Type 0 where
  starts : {left k q r : ℕ} {fs : List Frame} (j a : ℕ) → Kind.is_text j ≡ true → step k q j ≡ some r → boundary a ≡ true
      → Stepped boundary (between left k q fs) (placed j a) (within j a left k r fs)
  stops : {left k q : ℕ} {fs : List Frame} (j a e : ℕ) → boundary e ≡ true → a ≤ e
      → Stepped boundary (within j a left k q fs) (placed (Kind.closing j) e) (between left k q fs)
  enters : {left k q r : ℕ} {fs : List Frame} (j : ℕ) → Kind.is_text j ≡ false → step k q j ≡ some r → needs j ≤ left
      → Stepped boundary (between left k q fs) (plain j) (between (left - opens j) j start (frame k r ∷ fs))
  leaves : {left k q k' q' : ℕ} {fs : List Frame} → final k q ≡ true
      → Stepped boundary (between left k q (frame k' q' ∷ fs)) (plain (Kind.closing k))
      (between (opens k + left) k' q' fs)

-- the marks that complete the innermost node, then each node around it, to a whole list
pub data Rest (boundary : ℕ → Bool) : (left k q : ℕ) → List Frame → List Mark → Type 0 where
  last : {left k q : ℕ} {ms : List Mark} → Content boundary left k q ms → Rest boundary left k q [] ms
  outer : {left k q k' q' : ℕ} {fs : List Frame} {inner ms : List Mark} → Content boundary left k q inner
      → Rest boundary (opens k + left) k' q' fs ms
      → Rest boundary left k q (frame k' q' ∷ fs) (inner ++ (plain (Kind.closing k) ∷ ms))

-- the marks that complete a list from a state of the check on
pub data After (boundary : ℕ → Bool) : State → List Mark → Type 0 where
  after-child : {left k q : ℕ} {fs : List Frame} {ms : List Mark} → Rest boundary left k q fs ms → After boundary (between left k q fs) ms
  after-start : {j a left k q : ℕ} {fs : List Frame} {ms : List Mark} (e : ℕ) → boundary e ≡ true → a ≤ e
      → Rest boundary left k q fs ms → After boundary (within j a left k q fs) (placed (Kind.closing j) e ∷ ms)

module _ (boundary : ℕ → Bool) where
  demand-run : {left k q t : ℕ} {ms : List Mark} → Run boundary left k q t ms → final k t ≡ true → demand k q ≤ left
  demand-run (stay {k = k} {q = q}) f = let d = demand-end k q f in omega arith
  demand-run (text {k = k} {q = q} {r = r} j a e i s x y l w) f = let d = demand-text k q j r s i in let h = demand-run w f in omega arith
  demand-run (nest {k = k} {q = q} {r = r} {j = j} i s o v g w) f = let d = demand-nest k q j r s in let h = demand-run w f in omega arith

  pub stepped-to : {s s' : State} {m : Mark} → Stepped boundary s m s' → step_mark boundary s m ≡ some s'
  unfolding step_mark enter leave
  stepped-to (starts j a i s x) = rw (i, x, s, step_mark)
  stepped-to (stops j a e y l) = let c = eq-eqb (Kind.closing j) (Kind.closing j) refl in let d = le-leb a e l in rw (c, y, d, step_mark)
  stepped-to (enters {left} {k} {q} {r} j i s n) =
      let b = known-child k q j r s in
      let c : eqb j (Kind.closing k) ≡ false = ne_eqb j (Kind.closing k) (λ e. omega arith) in
      let d = le-leb (needs j) left n in
      rw (c, step_mark, i, d, s, enter)
  stepped-to (leaves {k = k} f) = let c = eq-eqb (Kind.closing k) (Kind.closing k) refl in rw (c, f, step_mark)

  enter-from : (left k q : ℕ) (fs : List Frame) (j : ℕ) (s' : State) → enter left k q fs j ≡ some s'
      → Stepped boundary (between left k q fs) (plain j) s'
  unfolding enter
  enter-from left k q fs j s' e =
      by_case (not (Kind.is_text j) && leb (needs j) left)
      (λ h.
      let b = (and-eq-true_iff (not (Kind.is_text j)) (leb (needs j) left)).0 h in
      go (step k q j) refl (rw (h, enter) at e) (not-true (Kind.is_text j) b.0) (leb-true (needs j) left b.1))
      (λ h. lost (rw (h, enter) at e))
    where
      go : (o : Option ℕ) → step k q j ≡ o
          → (elim o as
          (λ o. Option State) [ none ↦ none | some r ↦ some (between (left - opens j) j start (frame k r ∷ fs)) ])
          ≡ some s'
          → Kind.is_text j ≡ false → needs j ≤ left → Stepped boundary (between left k q fs) (plain j) s'
      go none s d i n = lost d
      go (some r) s d i n = let z : between (left - opens j) j start (frame k r ∷ fs) ≡ s' = cc in rw (← z) (enters j i s n)

  leave-from : (left k q : ℕ) (fs : List Frame) (s' : State) → final k q ≡ true → leave left k fs ≡ some s'
      → Stepped boundary (between left k q fs) (plain (Kind.closing k)) s'
  unfolding leave
  leave-from left k q [] s' f e = lost e
  leave-from left k q (frame k' q' ∷ fs) s' f e = let z : between (opens k + left) k' q' fs ≡ s' = cc in rw (← z) (leaves f)

  pub stepped-from : (s s' : State) (m : Mark) → step_mark boundary s m ≡ some s' → Stepped boundary s m s'
  unfolding step_mark
  stepped-from (between left k q fs) s' (plain j) e =
      by_case (eqb j (Kind.closing k))
      (λ c. by_case (final k q)
      (λ f. rw (eqb-true j (Kind.closing k) c) (leave-from left k q fs s' f (rw (c, step_mark, f) at e)))
      (λ f. lost (rw (c, step_mark, f) at e)))
      (λ c. enter-from left k q fs j s' (rw (c, step_mark) at e))
  stepped-from (between left k q fs) s' (placed j a) e =
      by_case (Kind.is_text j && boundary a)
      (λ h.
      let b = (and-eq-true_iff (Kind.is_text j) (boundary a)).0 h in
      go (step k q j) refl (rw (h, step_mark) at e) b.0 b.1)
      (λ h. lost (rw (h, step_mark) at e))
    where
      go : (o : Option ℕ) → step k q j ≡ o
          → (elim o as (λ o. Option State) [ none ↦ none | some r ↦ some (within j a left k r fs) ]) ≡ some s'
          → Kind.is_text j ≡ true → boundary a ≡ true → Stepped boundary (between left k q fs) (placed j a) s'
      go none s d i x = lost d
      go (some r) s d i x = let z : within j a left k r fs ≡ s' = cc in rw (← z) (starts j a i s x)
  stepped-from (within j a left k q fs) s' (plain i) e = lost e
  stepped-from (within j a left k q fs) s' (placed i x) e =
      by_case (eqb i (Kind.closing j) && (boundary x && leb a x))
      (λ h.
      let b = (and-eq-true_iff (eqb i (Kind.closing j)) (boundary x && leb a x)).0 h in
      let c = (and-eq-true_iff (boundary x) (leb a x)).0 b.1 in
      let d : some (between left k q fs) ≡ some s' = rw (h, step_mark) at e in
      let z : between left k q fs ≡ s' = cc in
      rw (eqb-true i (Kind.closing j) b.0, ← z) (stops j a x c.0 (leb-true a x c.1)))
      (λ h. lost (rw (h, step_mark) at e))

  -- a run is a way of the check
  pub run-steps : {left k q t : ℕ} {ms : List Mark} (fs : List Frame) → Run boundary left k q t ms
      → Steps boundary (between left k q fs) ms (between left k t fs)
  unfolding node text_node
  run-steps fs stay = here
  run-steps fs (text j a e i s x y l w) = more (stepped-to (starts j a i s x)) (more (stepped-to (stops j a e y l)) (run-steps fs w))
  run-steps fs (nest {left} {inside} {k} {q} {r} {s = z} {j = j} i s o v g w) =
      let d = demand-run v g in
      let n = needs-demand j in
      let p : left - opens j ≡ inside = omega arith in
      let m : needs j ≤ left = omega arith in
      let into : Stepped boundary (between left k q fs) (plain j) (between inside j start (frame k r ∷ fs)) = rw (← p) (enters j i s m) in
      let out : Stepped boundary (between inside j z (frame k r ∷ fs)) (plain (Kind.closing j)) (between left k r fs) =
      rw (← o) (leaves g) in
      more (stepped-to into) (steps-append (steps-append (run-steps (frame k r ∷ fs) v) (more (stepped-to out) here)) (run-steps fs w))

  rest-append : {left k q r : ℕ} {fs : List Frame} {xs ms : List Mark} → Run boundary left k q r xs
      → Rest boundary left k r fs ms → Rest boundary left k q fs (xs ++ ms)
  rest-append w (last c) = last (content-append boundary w c)
  rest-append {xs = xs} w (outer {inner = ns} c z) = rw (← append_assoc xs ns) (outer (content-append boundary w c) z)

  -- a step backwards
  before : {s s' : State} {m : Mark} {ms : List Mark} → Stepped boundary s m s' → After boundary s' ms → After boundary s (m ∷ ms)
  unfolding node text_node
  before (starts j a i s x) (after-start e y l z) = after-child (rest-append (run-text boundary j a e i s x y l) z)
  before (stops j a e y l) (after-child z) = after-start e y l z
  before (enters {left} j i s n) (after-child (outer {inner = ns} {ms = ms} c z)) =
      let d = needs-demand j in
      let o : opens j + (left - opens j) ≡ left = omega arith in
      after-child (rw (append_assoc ns (plain (Kind.closing j) ∷ []) ms) at (rest-append (run-node boundary i s o c) (rw o at z)))
  before (leaves {q = q} f) (after-child z) = after-child (outer {inner = []} (record { to = q; run = stay; ended = f }) z)

  -- a way of the check to where a list may end completes a list
  pub steps-complete : {s s' : State} {ms : List Mark} → Steps boundary s ms s' → may_end s' ≡ true → After boundary s ms
  unfolding may_end
  steps-complete (here {s}) f = ended s f
    where
      ended : (s : State) → may_end s ≡ true → After boundary s []
      ended (between left k q []) f = after-child (last (record { to = q; run = stay; ended = f }))
      ended (between left k q (g ∷ fs)) f = clash f refl
      ended (within j a left k q fs) f = clash f refl
  steps-complete (more {s} {s'} {m = m} e w) f = before (stepped-from s s' m e) (steps-complete w f)

-- An invariant of the check: P holds of the innermost open node, and of each node around it as it stood there.
-- It is kept if P is kept from child to child and from a node to a node inside it; `depth` counts the frames around.
abbrev pub Around : (P : (left k q depth : ℕ) → Type 0) (left k : ℕ) → List Frame → Type 0
Around P left k [] = Unit {0}
Around P left k (frame k' q ∷ fs) = P (opens k + left) k' q (length fs) × Around P (opens k + left) k' fs

pub data Holds (boundary : ℕ → Bool) (P : (left k q depth : ℕ) → Type 0) : State → Type 0 where
  holds-between : {left k q : ℕ} {fs : List Frame} → P left k q (length fs) → Around P left k fs → Holds boundary P (between left k q fs)
  holds-within : {j a left k q : ℕ} {fs : List Frame} → boundary a ≡ true → P left k q (length fs) → Around P left k fs
      → Holds boundary P (within j a left k q fs)

module _ (boundary : ℕ → Bool) (P : (left k q depth : ℕ) → Type 0)
    (along : (left k q j r depth : ℕ) → step k q j ≡ some r → P left k q depth → P left k r depth)
    (down : (left k q j r depth : ℕ) → step k q j ≡ some r → Kind.is_text j ≡ false → needs j ≤ left → P left k q depth
    → P (left - opens j) j start (suc depth)) where
  stepped-holds : {s s' : State} {m : Mark} → Stepped boundary s m s' → Holds boundary P s → Holds boundary P s'
  stepped-holds (starts {left} {k} {q} {r} {fs} j a i s x) (holds-between p o) = holds-within x (along left k q j r (length fs) s p) o
  stepped-holds (stops j a e y l) (holds-within x p o) = holds-between p o
  stepped-holds (enters {left} {k} {q} {r} {fs} j i s n) (holds-between p o) =
      let d = needs-demand j in
      let e : opens j + (left - opens j) ≡ left = omega arith in
      holds-between {fs = frame k r ∷ fs} (down left k q j r (length fs) s i n p) (rw e (along left k q j r (length fs) s p, o))
  stepped-holds (leaves f) (holds-between p o) = holds-between o.0 o.1

  pub holds-step : (s s' : State) (m : Mark) → step_mark boundary s m ≡ some s' → Holds boundary P s → Holds boundary P s'
  holds-step s s' m e h = stepped-holds (stepped-from boundary s s' m e) h

  pub holds-steps : {s s' : State} {ms : List Mark} → Steps boundary s ms s' → Holds boundary P s → Holds boundary P s'
  holds-steps here h = h
  holds-steps (more {s} {s'} {m = m} e w) h = holds-steps w (holds-step s s' m e h)
