-- The walk over a mark list: the node that starts at a mark, and what is left of the one that is open there.
use Prim.Native.Nat.{ℕ, suc, ◌+◌, ◌-◌, ◌≤◌, ◌<◌}
use native.Mathlib.Omega.{arith}
use mathlib.Core.Path.{◌≡◌, refl, sym, ap, ap₂, ◌∙◌}
use mathlib.Core.Bool.{Bool, true, false}
use mathlib.Core.List.{List, [], ◌∷◌, ◌++◌, append_assoc}
use mathlib.Core.Option.{some}
use lib.Dec.{ltb}
use lib.ListN.{length, drop, length-append}
use lib.Seq.{drop-drop, drop-append_seam}
use borrow.Author.Tests.{lt-ltb, le-ltb, ne_eqb}
use Rattle.syntax.specs.Kind as Kind
use Rattle.syntax.specs.Marks.{Mark, plain, placed, kind_of, node, text_node}
use Rattle.syntax.specs.Layout.{count, marks_in}
use Rattle.syntax.specs.Shape.{start, step, final, Run, stay, text, nest, Content}
use Rattle.syntax.specs.Serializer.{Node, nodes}
use Rattle.laws.specs.Bytes.{clash}
use Rattle.laws.specs.Balanced.{Levels, Opened, run-levels}
use Rattle.laws.specs.Balanced.Nodes.{node_of, nodes-node, nodes-text}
use Rattle.laws.specs.Shape.Run.{known-child}
use Rattle.tree.specs.Walk.{first_kind, kind_at, first_node, node_at, after, inside, inner_at, Child, At, Inside}
use Rattle.tree.specs.Walk as Spec
use Rattle.tree.proofs.Sizes.{Sizes, mark-inside, mark-next}

-- the marks up to the one that closes
inside-levels : (d : ℕ) (ms : List Mark) (k : ℕ) (rest : List Mark) → Levels d ms → inside d (ms ++ (plain (Kind.closing k) ∷ rest)) ≡ ms
unfolding inside
inside-levels d [] k rest l = rw (le-ltb (Kind.closing k) 100 (omega arith), inside, l)
inside-levels d (m ∷ ms) k rest l = go (ltb (kind_of m) 100) refl l (λ i. inside-levels i ms k rest)
  where
    go : (v : Bool) → ltb (kind_of m) 100 ≡ v → Opened v d ms
        → ((i : ℕ) → Levels i ms → inside i (ms ++ (plain (Kind.closing k) ∷ rest)) ≡ ms)
        → inside d (m ∷ (ms ++ (plain (Kind.closing k) ∷ rest))) ≡ m ∷ ms
    go true e o f = rw (e, inside) (ap (λ r. m ∷ r) (f (suc d) o))
    go false e o f = rw (e, inside) (rw (ne_eqb d 0 (λ z. omega (arith, o.0))) (ap (λ r. m ∷ r) (f (d - 1) o.1)))

-- a child, as the first node of what starts with it
record Head (j : ℕ) (marks rest : List Mark) : Type 0 where
  first : Node
  split : nodes (marks ++ rest) ≡ first ∷ nodes rest
  long : length marks ≡ 2 + length first.inner
  kind : first.kind ≡ j
  opens : first_kind (marks ++ rest) ≡ j

head : {boundary : ℕ → Bool} {j : ℕ} {marks : List Mark} → Child boundary j marks → j ≤ Kind.named_argument
    → (rest : List Mark) → Head j marks rest
unfolding text_node node
head {j = j} (Spec.text a e x ba be l) h rest =
    record {
      first = record { kind = j; opening = placed j a; closing = placed (Kind.closing j) e; inner = [] };
      split = nodes-text j a e rest (lt-ltb j 100 (omega arith));
      long = omega arith;
      kind = refl;
      opens = refl;
    }
head {j = j} (Spec.nest {inner = inner} left x content) h rest =
    record {
      first = node_of j inner;
      split = nodes-node j inner rest (lt-ltb j 100 (omega arith)) (run-levels content.run);
      long = rw (length-append inner (plain (Kind.closing j) ∷ [])) (omega arith);
      kind = refl;
      opens = refl;
    }

head-same : {boundary : ℕ → Bool} {j : ℕ} {marks : List Mark} (c : Child boundary j marks) (h : j ≤ Kind.named_argument)
    (xs ys : List Mark)
    → (head c h xs).first ≡ (head c h ys).first
unfolding head
head-same (Spec.text a e x ba be l) h xs ys = refl
head-same (Spec.nest left x content) h xs ys = refl

module _ {boundary : ℕ → Bool} {ms : List Mark} {i j : ℕ} (a : At boundary ms i j) where
  abbrev the-head : Head j a.marks a.rest
  the-head = head a.child a.known a.rest

  at-node : node_at ms i ≡ the-head.first
  unfolding node_at
  at-node = ap (λ r. first_node (nodes r)) a.there ∙ ap first_node the-head.split

  pub at-kind : kind_at ms i ≡ j
  at-kind = ap first_kind a.there ∙ the-head.opens

  pub node-kind : (node_at ms i).kind ≡ j
  node-kind = ap (λ n. n.kind) at-node ∙ the-head.kind

  pub at_after : after ms i ≡ i + length a.marks
  unfolding after
  at_after = ap (λ n. i + (2 + length n.inner)) at-node ∙ ap (λ n. i + n) (sym the-head.long)

  -- what follows the node
  pub at_rest : drop (after ms i) ms ≡ a.rest
  at_rest = ap (λ n. drop n ms) at_after ∙ sym (drop-drop (length a.marks) i ms)
      ∙ ap (λ r. drop (length a.marks) r) a.there ∙ drop-append_seam a.marks a.rest

  -- a T node is two marks
  pub text-after : Kind.is_text j ≡ true → after ms i ≡ i + 2
  unfolding text_node
  text-after t = go a.child at_after
    where
      go : {marks : List Mark} → Child boundary j marks → after ms i ≡ i + length marks → after ms i ≡ i + 2
      go (Spec.text x e y p q l) n = n
      go (Spec.nest left x content) n = clash t x

-- where a node may end, or a child follows
pub data Next (boundary : ℕ → Bool) (ms : List Mark) (i k q : ℕ) : Type 0 where
  ends : kind_at ms i ≡ Kind.closing k → inner_at ms i ≡ [] → final k q ≡ true → Next boundary ms i k q
  goes : (j r : ℕ) → step k q j ≡ some r → At boundary ms i j → Inside boundary ms (after ms i) k r
      → nodes (inner_at ms i) ≡ node_at ms i ∷ nodes (inner_at ms (after ms i))
      → i + length (inner_at ms i) ≡ after ms i + length (inner_at ms (after ms i)) → Next boundary ms i k q

pub inner-at : {boundary : ℕ → Bool} {ms : List Mark} {i k q : ℕ} (h : Inside boundary ms i k q) → inner_at ms i ≡ h.marks
unfolding inner_at
inner-at {k = k} h = ap (λ r. inside 0 r) h.there ∙ inside-levels 0 h.marks k h.rest (run-levels h.content.run)

module _ {boundary : ℕ → Bool} {ms : List Mark} {i k q : ℕ} where
  child-next : {left j r : ℕ} {cs ns : List Mark} (h : Inside boundary ms i k q) → h.marks ≡ cs ++ ns
      → Child boundary j cs → step k q j ≡ some r → Content boundary left k r ns → Next boundary ms i k q
  child-next {left} {j} {r} {cs} {ns} h e c s o =
      let known = (known-child k q j r s).1 in
      let behind = ns ++ (plain (Kind.closing k) ∷ h.rest) in
      let a : At boundary ms i j =
      record {
        marks = cs;
        rest = behind;
        there = h.there ∙ ap (λ z. z ++ (plain (Kind.closing k) ∷ h.rest)) e
            ∙ append_assoc cs ns (plain (Kind.closing k) ∷ h.rest);
        known = known;
        child = c;
      }
      in
      let n : Inside boundary ms (after ms i) k r = record { marks = ns; rest = h.rest; there = at_rest a; left = left; content = o } in
      goes j r s a n
      (ap nodes (inner-at h ∙ e) ∙ (head c known ns).split
      ∙ ap₂ (λ x y. x ∷ nodes y) (head-same c known ns behind ∙ sym (at-node a)) (sym (inner-at n)))
      (omega (arith, ap length (inner-at h ∙ e), length-append cs ns, at_after a, ap length (inner-at n)))

  pub next : Inside boundary ms i k q → Next boundary ms i k q
  next h = go refl h.content.run h.content.ended
    where
      go : {left t : ℕ} {cs : List Mark} → h.marks ≡ cs → Run boundary left k q t cs → final k t ≡ true → Next boundary ms i k q
      go e stay f = ends (ap first_kind (h.there ∙ ap (λ z. z ++ (plain (Kind.closing k) ∷ h.rest)) e)) (inner-at h ∙ e) f
      go e (text {t = t} j a b x s p y l rest) f = child-next h e (Spec.text a b x p y l) s (record { to = t; run = rest; ended = f })
      go e (nest {inside = left} {s = u} {t = t} x s o inner g rest) f =
          child-next h e (Spec.nest left x (record { to = u; run = inner; ended = g })) s (record { to = t; run = rest; ended = f })

-- into a node
pub record Entered (boundary : ℕ → Bool) (ms : List Mark) (i j : ℕ) : Type 0 where
  pub first : Inside boundary ms (i + 1) j start
  pub inner : inner_at ms (i + 1) ≡ (node_at ms i).inner
  pub behind : i + 1 + length (inner_at ms (i + 1)) + 1 ≡ after ms i

pub enter : {boundary : ℕ → Bool} {ms : List Mark} {i j : ℕ} → At boundary ms i j → Kind.is_text j ≡ false → Entered boundary ms i j
unfolding node head after
enter {boundary} {ms} {i} {j} a plainly = go a.child a.there (at-node a)
  where
    go : {marks : List Mark} (c : Child boundary j marks) → drop i ms ≡ marks ++ a.rest
        → node_at ms i ≡ (head c a.known a.rest).first → Entered boundary ms i j
    go (Spec.text x e t p q l) there n = clash t plainly
    go (Spec.nest {inner = cs} left x content) there n =
        let h : Inside boundary ms (i + 1) j start =
        record {
          marks = cs;
          rest = a.rest;
          there = sym (drop-drop 1 i ms) ∙ ap (λ r. drop 1 r) there
              ∙ append_assoc cs (plain (Kind.closing j) ∷ []) a.rest;
          left = left;
          content = content;
        }
        in
        let e : (node_at ms i).inner ≡ cs = ap (λ m. m.inner) n in
        record { first = h; inner = inner-at h ∙ sym e; behind = omega (arith, ap length (inner-at h), ap length e) }

-- a mark stands where a node is open
pub inside-count : (ws : List ℕ) (fit : Sizes ws) {boundary : ℕ → Bool} {i k q : ℕ} → Inside boundary (marks_in ws) i k q → i < count ws
inside-count ws fit {i = i} {k} h = go h.marks h.there
  where
    go : (xs : List Mark) → drop i (marks_in ws) ≡ xs ++ (plain (Kind.closing k) ∷ h.rest) → i < count ws
    go [] e = mark-inside ws fit i (plain (Kind.closing k)) h.rest e
    go (x ∷ xs) e = mark-inside ws fit i x (xs ++ (plain (Kind.closing k) ∷ h.rest)) e

-- and where one starts
pub at_count : (ws : List ℕ) (fit : Sizes ws) {boundary : ℕ → Bool} {i j : ℕ} → At boundary (marks_in ws) i j → i < count ws
unfolding node text_node
at_count ws fit {boundary} {i} {j} a = go a.child a.there
  where
    go : {cs : List Mark} → Child boundary j cs → drop i (marks_in ws) ≡ cs ++ a.rest → i < count ws
    go (Spec.text x e t p q l) there = mark-inside ws fit i (placed j x) (placed (Kind.closing j) e ∷ a.rest) there
    go (Spec.nest {inner = inner} left x content) there =
        mark-inside ws fit i (plain j) ((inner ++ (plain (Kind.closing j) ∷ [])) ++ a.rest) there

marks-count : (ws : List ℕ) (fit : Sizes ws) (xs : List Mark) (i : ℕ) (rest : List Mark) → i ≤ count ws
    → drop i (marks_in ws) ≡ xs ++ rest → i + length xs ≤ count ws
marks-count ws fit [] i rest h e = omega arith
marks-count ws fit (x ∷ xs) i rest h e =
    omega (
      arith,
      marks-count ws fit xs (i + 1) rest (omega (arith, mark-inside ws fit i x (xs ++ rest) e))
          (mark-next ws fit i x (xs ++ rest) e),
    )

-- a node ends within the marks
pub after-count : (ws : List ℕ) (fit : Sizes ws) {boundary : ℕ → Bool} {i j : ℕ} → At boundary (marks_in ws) i j
    → after (marks_in ws) i ≤ count ws
after-count ws fit {i = i} a = rw (at_after a) (marks-count ws fit a.marks i a.rest (omega (arith, at_count ws fit a)) a.there)
