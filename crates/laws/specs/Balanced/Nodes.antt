-- Marks split into nodes.
use Rattle.std.specs.Prelude.{ℕ, suc, ◌+◌, ◌-◌, ◌<◌, ◌≡◌, refl, Bool, true, false, eqb, ltb}
use Rattle.std.proofs.Common.{add-zero, arith, sym, ap, ap₂, ◌∙◌, subst, eqb-true, le-ltb, ne_eqb}
use mathlib.Core.List.{List, [], ◌∷◌, ◌++◌, map, append-nil, append_assoc}
use Rattle.std.proofs.lemmas.Bool.{eqb-false}
use Rattle.syntax.specs.Marks.{Mark, plain, placed, kind_of, up, move_up, node, text_node}
use Rattle.syntax.specs.Serializer.{Node, outside, opened, into, closed, nodes_from, nodes}
use Rattle.laws.specs.Moving.{move_up-append}
use Rattle.syntax.specs.Shape.{Run, stay, text, nest}
use Rattle.laws.specs.Balanced.{Levels, Opened}

into-nil : (o : Node) → into o [] ≡ o
into-nil o i = record { kind = o.kind; opening = o.opening; closing = o.closing; inner = append-nil o.inner i }

into-into : (o : Node) (m : Mark) (ms : List Mark) → into (into o (m ∷ [])) ms ≡ into o (m ∷ ms)
into-into o m ms i = record { kind = o.kind; opening = o.opening; closing = o.closing; inner = append_assoc o.inner (m ∷ []) ms i }

from-open : (o : Node) (d : ℕ) (m : Mark) (ms : List Mark) → ltb (kind_of m) 100 ≡ true → 0 < d
    → nodes_from o d (m ∷ ms) ≡ nodes_from (into o (m ∷ [])) (suc d) ms
unfolding nodes_from
from-open o d m ms q h = rw (q, nodes_from) (rw (ne_eqb d 0 (λ e. omega arith)) refl)

from-close : (o : Node) (d : ℕ) (m : Mark) (ms : List Mark) → ltb (kind_of m) 100 ≡ false → 1 < d
    → nodes_from o d (m ∷ ms) ≡ nodes_from (into o (m ∷ [])) (d - 1) ms
unfolding nodes_from
from-close o d m ms q h = rw (q, nodes_from) (rw (ne_eqb d 1 (λ e. omega arith)) refl)

-- marks that open and close are taken into the node that is open
absorb : (ms xs : List Mark) (o : Node) (d j : ℕ) → 0 < d → Levels j ms → nodes_from o (d + j) (ms ++ xs) ≡ nodes_from (into o ms) d xs
absorb [] xs o d j h l = ap (λ i. nodes_from o (d + i) xs) l ∙ ap₂ (λ i z. nodes_from z i xs) (add-zero d) (sym (into-nil o))
absorb (m ∷ ms) xs o d j h l = go (ltb (kind_of m) 100) refl l (λ o i. absorb ms xs o d i h)
  where
    go : (v : Bool) → ltb (kind_of m) 100 ≡ v → Opened v j ms
        → ((o : Node) (i : ℕ) → Levels i ms → nodes_from o (d + i) (ms ++ xs) ≡ nodes_from (into o ms) d xs)
        → nodes_from o (d + j) (m ∷ (ms ++ xs)) ≡ nodes_from (into o (m ∷ ms)) d xs
    go true q l f = let z : suc (d + j) ≡ d + suc j = omega arith in
        from-open o (d + j) m (ms ++ xs) q (omega arith) ∙ ap (λ i. nodes_from (into o (m ∷ [])) i (ms ++ xs)) z
        ∙ f (into o (m ∷ [])) (suc j) l ∙ ap (λ z. nodes_from z d xs) (into-into o m ms)
    go false q l f = let z : d + j - 1 ≡ d + (j - 1) = omega (arith, l.0) in
        from-close o (d + j) m (ms ++ xs) q (omega (arith, l.0)) ∙ ap (λ i. nodes_from (into o (m ∷ [])) i (ms ++ xs)) z
        ∙ f (into o (m ∷ [])) (j - 1) l.1 ∙ ap (λ z. nodes_from z d xs) (into-into o m ms)

-- a node of a kind without a text
abbrev pub node_of : ℕ → List Mark → Node
node_of k ms = record { kind = k; opening = plain k; closing = plain (100 + k); inner = ms }

top : (m c : Mark) (ms xs : List Mark) → ltb (kind_of m) 100 ≡ true → ltb (kind_of c) 100 ≡ false → Levels 0 ms
    → nodes (m ∷ (ms ++ (c ∷ xs))) ≡ closed (into (opened m) ms) c ∷ nodes xs
unfolding nodes nodes_from
top m c ms xs p q l = rw (p, nodes, nodes_from) (absorb ms (c ∷ xs) (opened m) 1 0 (omega arith) l ∙ rw (q, nodes_from) refl)

pub nodes-node : (k : ℕ) (ms xs : List Mark) → ltb k 100 ≡ true → Levels 0 ms → nodes (node k ms ++ xs) ≡ node_of k ms ∷ nodes xs
unfolding node
nodes-node k ms xs q l = ap (λ z. nodes (plain k ∷ z)) (append_assoc ms (plain (100 + k) ∷ []) xs)
    ∙ top (plain k) (plain (100 + k)) ms xs q (le-ltb (100 + k) 100 (omega arith)) l

pub nodes-text : (k a e : ℕ) (xs : List Mark) → ltb k 100 ≡ true
    → nodes (text_node k a e ++ xs) ≡ record { kind = k; opening = placed k a; closing = placed (100 + k) e; inner = [] } ∷ nodes xs
unfolding text_node
nodes-text k a e xs q = top (placed k a) (placed (100 + k) e) [] xs q (le-ltb (100 + k) 100 (omega arith)) refl

-- nodes moved up
abbrev pub up_node : ℕ → Node → Node
up_node k n = record { kind = n.kind; opening = up k n.opening; closing = up k n.closing; inner = move_up k n.inner }

into-up : (k : ℕ) (o : Node) (m : Mark) → into (up_node k o) (up k m ∷ []) ≡ up_node k (into o (m ∷ []))
unfolding move_up
into-up k o m i =
    record {
      kind = o.kind;
      opening = up k o.opening;
      closing = up k o.closing;
      inner = sym (move_up-append k o.inner (m ∷ [])) i;
    }

abbrev pub pick_from : Bool → Bool → Bool → Node → ℕ → Mark → List Mark → List Node
pick_from u v w o d m ms = elim u [
  | true ↦ elim v [ true ↦ nodes_from (opened m) 1 ms | false ↦ nodes_from (into o (m ∷ [])) (suc d) ms ]
  | false ↦ elim w [ true ↦ closed o m ∷ nodes_from outside 0 ms | false ↦ nodes_from (into o (m ∷ [])) (d - 1) ms ]
]

from_step : (u v w : Bool) (o : Node) (d : ℕ) (m : Mark) (k : ℕ) (ms : List Mark)
    → ((z : Node) (i : ℕ) → nodes_from (up_node k z) i (move_up k ms) ≡ map (up_node k) (nodes_from z i ms))
    → opened (up k m) ≡ up_node k (opened m)
    → pick_from u v w (up_node k o) d (up k m) (move_up k ms) ≡ map (up_node k) (pick_from u v w o d m ms)
unfolding move_up
from_step true true w o d m k ms f e = ap (λ z. nodes_from z 1 (move_up k ms)) e ∙ f (opened m) 1
from_step true false w o d m k ms f e = ap (λ z. nodes_from z (suc d) (move_up k ms)) (into-up k o m) ∙ f (into o (m ∷ [])) (suc d)
from_step false v true o d m k ms f e = ap (λ z. closed (up_node k o) (up k m) ∷ z) (f outside 0)
from_step false v false o d m k ms f e = ap (λ z. nodes_from z (d - 1) (move_up k ms)) (into-up k o m) ∙ f (into o (m ∷ [])) (d - 1)

from_up : (k : ℕ) (o : Node) (d : ℕ) (ms : List Mark) → nodes_from (up_node k o) d (move_up k ms) ≡ map (up_node k) (nodes_from o d ms)
unfolding nodes_from move_up
from_up k o d [] = refl
from_up k o d (plain i ∷ ms) = from_step (ltb i 100) (eqb d 0) (eqb d 1) o d (plain i) k ms (λ z j. from_up k z j ms) refl
from_up k o d (placed i p ∷ ms) = from_step (ltb i 100) (eqb d 0) (eqb d 1) o d (placed i p) k ms (λ z j. from_up k z j ms) refl

pub nodes-up : (k : ℕ) (ms : List Mark) → nodes (move_up k ms) ≡ map (up_node k) (nodes ms)
unfolding nodes move_up
nodes-up k ms = from_up k outside 0 ms

-- a property of places, of marks and of nodes
module _ (P : ℕ → Type 0) where
  abbrev pub OkMark : Mark → Type 0
  OkMark (plain i) = Unit {0}
  OkMark (placed i p) = P p

  abbrev pub OkMarks : List Mark → Type 0
  OkMarks [] = Unit {0}
  OkMarks (m ∷ ms) = OkMark m × OkMarks ms

  abbrev pub OkNode : Node → Type 0
  OkNode n = OkMark n.opening × OkMark n.closing × OkMarks n.inner

  abbrev pub OkNodes : List Node → Type 0
  OkNodes [] = Unit {0}
  OkNodes (n ∷ ns) = OkNode n × OkNodes ns

  ok_snoc : (ms : List Mark) (m : Mark) → OkMarks ms → OkMark m → OkMarks (ms ++ (m ∷ []))
  ok_snoc [] m a b = (b, tt)
  ok_snoc (x ∷ xs) m a b = (a.0, ok_snoc xs m a.1 b)

  ok-pick : (u v w : Bool) (o : Node) (d : ℕ) (m : Mark) (ms : List Mark) → OkNode o → OkMark m
      → ((z : Node) (i : ℕ) → OkNode z → OkNodes (nodes_from z i ms))
      → OkNodes (pick_from u v w o d m ms)
  ok-pick true true w o d m ms a b f = f (opened m) 1 (b, tt, tt)
  ok-pick true false w o d m ms a b f = f (into o (m ∷ [])) (suc d) (a.0, a.1, ok_snoc o.inner m a.2 b)
  ok-pick false v true o d m ms a b f = ((a.0, b, a.2), f outside 0 (tt, tt, tt))
  ok-pick false v false o d m ms a b f = f (into o (m ∷ [])) (d - 1) (a.0, a.1, ok_snoc o.inner m a.2 b)

  ok_from : (o : Node) (d : ℕ) (ms : List Mark) → OkNode o → OkMarks ms → OkNodes (nodes_from o d ms)
  unfolding nodes_from
  ok_from o d [] a b = tt
  ok_from o d (m ∷ ms) a b = ok-pick (ltb (kind_of m) 100) (eqb d 0) (eqb d 1) o d m ms a b.0 (λ z i c. ok_from z i ms c b.1)

  ok-append : (ms ns : List Mark) → OkMarks ms → OkMarks ns → OkMarks (ms ++ ns)
  ok-append [] ns a b = b
  ok-append (m ∷ ms) ns a b = (a.0, ok-append ms ns a.1 b)

  -- of a run's marks, where P holds on boundaries
  pub run_ok : {boundary : ℕ → Bool} {left k q t : ℕ} {ms : List Mark} → ((a : ℕ) → boundary a ≡ true → P a)
      → Run boundary left k q t ms → OkMarks ms
  unfolding node text_node
  run_ok f stay = tt
  run_ok f (text j a e i s x y l rest) = (f a x, (f e y, run_ok f rest))
  run_ok f (nest {j = j} {inner} {ms} i s o w g rest) = (
    tt,
    ok-append (inner ++ (plain (100 + j) ∷ [])) ms (ok-append inner (plain (100 + j) ∷ []) (run_ok f w) (tt, tt))
        (run_ok f rest),
  )

  pub ok-nodes : (ms : List Mark) → OkMarks ms → OkNodes (nodes ms)
  unfolding nodes
  ok-nodes ms a = ok_from outside 0 ms (tt, tt, tt) a

-- the nodes of marks that close all they open, and of what follows them
split-pick : (u v w : Bool) (o : Node) (d : ℕ) (m : Mark) (ms xs : List Mark) → eqb d 0 ≡ v → eqb d 1 ≡ w → Opened u d ms
    → ((z : Node) (i : ℕ) → Levels i ms → (i ≡ 0 → z ≡ outside) → nodes_from z i (ms ++ xs) ≡ nodes_from z i ms ++ nodes xs)
    → pick_from u v w o d m (ms ++ xs) ≡ pick_from u v w o d m ms ++ nodes xs
split-pick true true w o d m ms xs p q l f = f (opened m) 1 (subst (λ i. Levels (suc i) ms) (eqb-true d 0 p) l) (λ e. absurd (omega arith))
split-pick true false w o d m ms xs p q l f = f (into o (m ∷ [])) (suc d) l (λ e. absurd (omega arith))
split-pick false v true o d m ms xs p q l f =
    ap (λ r. closed o m ∷ r)
    (f outside 0 (let e : d - 1 ≡ 0 = omega (arith, eqb-true d 1 q) in subst (λ i. Levels i ms) e l.1) (λ e. refl))
split-pick false v false o d m ms xs p q l f = f (into o (m ∷ [])) (d - 1) l.1 (λ e. absurd (eqb-false d 1 q (omega (arith, l.0))))

split_from : (ms xs : List Mark) (o : Node) (d : ℕ) → Levels d ms → (d ≡ 0 → o ≡ outside)
    → nodes_from o d (ms ++ xs) ≡ nodes_from o d ms ++ nodes xs
unfolding nodes_from nodes
split_from [] xs o d l h = ap₂ (λ z i. nodes_from z i xs) (h l) l
split_from (m ∷ ms) xs o d l h =
    split-pick (ltb (kind_of m) 100) (eqb d 0) (eqb d 1) o d m ms xs refl refl l (λ z i g e. split_from ms xs z i g e)

pub nodes-append : (ms xs : List Mark) → Levels 0 ms → nodes (ms ++ xs) ≡ nodes ms ++ nodes xs
unfolding nodes
nodes-append ms xs l = split_from ms xs outside 0 l (λ e. refl)
