-- Messages and terms: their name, their value and their attributes.
use Prim.Native.Nat.{ℕ, ◌+◌}
use native.Mathlib.Omega.{arith}
use mathlib.Core.Path.{◌≡◌, refl, sym, ap, ◌∙◌}
use mathlib.Core.Bool.{Bool, true, false, ◌&&◌, ◌||◌, not, and-eq-true_iff}
use mathlib.Core.List.{List, [], ◌∷◌, ◌++◌}
use mathlib.Core.Option.{some}
use lib.Dec.{eqb}
use lib.ListN.{length}
use borrow.Author.Tests.{eqb-true, lt-ltb, eq-eqb, ne_eqb}
use Rattle.syntax.specs.Kind as Kind
use Rattle.syntax.specs.Marks.{Mark, plain, node}
use Rattle.syntax.specs.Shape.{named, among, models, step_in, step_by, step, final_by, final, Run, stay, text, nest, Content}
use Rattle.syntax.specs.Serializer.{nodes_from, nodes, of_kind}
use Rattle.laws.specs.Bytes.{by_case, clash}
use Rattle.laws.specs.Balanced.{run-levels}
use Rattle.laws.specs.Balanced.Nodes.{node_of, nodes-node}
use Rattle.laws.specs.Shape.Run.{otherwise, every_move, child-rule, rule, end-rule}
use Rattle.tree.specs.Walk.{first_kind, kind_at, node_at, after, inner_at, At, TextAt, OneAt, Inside}
use Rattle.tree.proofs.Walk.{inner-at, enter, node-kind, text-after}
use Rattle.tree.proofs.Children.{Leads, must, keeps, omits, text-one}

-- a T node is of no kind that has no text
pub text-other : {boundary : ℕ → Bool} {ms : List Mark} {i : ℕ} (k : ℕ) → TextAt boundary ms i → Kind.is_text k ≡ false
    → (node_at ms i).kind ≡ k → ⊥
text-other k t p e = clash (rw (sym (node-kind t.at) ∙ e) at t.is_text) p

-- Messages and terms have their name in the state 0, a value or an attribute in the state 1, attributes in the state 2.
abbrev Then : ℕ → List ℕ → Type 0
Then q js = every_move (λ k q' j r. not (among k named && eqb q q') || (among j js && eqb r 2)) models ≡ true

module _ (k : ℕ) (one : among k named ≡ true) where
  then-two : (q : ℕ) (js : List ℕ) → Then q js → (j r : ℕ) → step k q j ≡ some r → (among j js ≡ true) × (r ≡ 2)
  then-two q js h j r s =
      let b =
      otherwise (not (among k named && eqb q q)) (among j js && eqb r 2)
      (rule (λ k q' j r. not (among k named && eqb q q') || (among j js && eqb r 2)) h k q j r s)
      (rw (one, eq-eqb q q refl)) in
      let c = (and-eq-true_iff (among j js) (eqb r 2)).0 b in
      (c.0, eqb-true r 2 c.1)

  pub second : (j r : ℕ) → step k 1 j ≡ some r → (among j (Kind.pattern ∷ Kind.attribute ∷ []) ≡ true) × (r ≡ 2)
  unfolding models among
  second = then-two 1 (Kind.pattern ∷ Kind.attribute ∷ []) refl

  pub third : (j r : ℕ) → step k 2 j ≡ some r → (j ≡ Kind.attribute) × (r ≡ 2)
  unfolding models among
  third j r s =
      let b = then-two 2 (Kind.attribute ∷ []) refl j r s in
      (by_case (eqb j Kind.attribute) (λ e. eqb-true j Kind.attribute e) (λ e. clash b.0 (rw e)), b.1)

  again : step k 2 Kind.attribute ≡ some 2
  unfolding among models step_in step_by step
  again =
      by_case (eqb k Kind.message) (λ e. rw (eqb-true k Kind.message e) refl)
      (λ e. by_case (eqb k Kind.term) (λ z. rw (eqb-true k Kind.term z) refl) (λ z. clash one (rw (e, z))))

  -- the children in the state 2
  run-attributes : {boundary : ℕ → Bool} {left q t : ℕ} {ms : List Mark} (source : List ℕ) → Run boundary left k q t ms → q ≡ 2
      → (of_kind source (λ j. eqb j Kind.pattern) (nodes ms) ≡ []) × (of_kind source (λ j. eqb j Kind.attribute) (nodes ms) ≡ nodes ms)
  unfolding nodes nodes_from of_kind Kind.is_text
  run-attributes source stay e = (refl, refl)
  run-attributes source (text {r = r} j a b i s x y l rest) e = clash i (rw (third j r (rw e at s)).0)
  run-attributes source (nest {q = q} {r = r} {j = j} {inner = inner} {ms = ms} i s o w g rest) e =
      let f = third j r (rw e at s) in
      let b = run-attributes source rest f.1 in
      let n : nodes (node j inner ++ ms) ≡ node_of j inner
      ∷ nodes ms = nodes-node j inner ms (lt-ltb j 100 (omega (arith, f.0))) (run-levels w) in (
        rw n (omits source Kind.pattern (node_of j inner) (nodes ms) (λ z. omega (arith, f.0)) ∙ b.0),
        rw n (keeps source Kind.attribute (node_of j inner) (nodes ms) f.0 ∙ ap (λ ns. node_of j inner ∷ ns) b.1),
      )

  pub attributes-only : {boundary : ℕ → Bool} {ms : List Mark} {i : ℕ} (source : List ℕ) → Inside boundary ms i k 2
      → (of_kind source (λ j. eqb j Kind.pattern) (nodes (inner_at ms i)) ≡ [])
      × (of_kind source (λ j. eqb j Kind.attribute) (nodes (inner_at ms i)) ≡ nodes (inner_at ms i))
  attributes-only source h = rw (inner-at h) (run-attributes source h.content.run refl)

  -- without a value the state 1 is as good as 2
  pub no_value : {boundary : ℕ → Bool} {ms : List Mark} {i : ℕ} → Inside boundary ms i k 1
      → (kind_at ms i ≡ Kind.pattern → ⊥) → Inside boundary ms i k 2
  unfolding among models final_by final Kind.is_text node
  no_value {boundary} {ms} {i} h other =
      record {
        marks = h.marks;
        rest = h.rest;
        there = h.there;
        left = h.left;
        content = go refl h.content.run h.content.ended;
      }
    where
      go : {left t : ℕ} {cs : List Mark} → h.marks ≡ cs → Run boundary left k 1 t cs → final k t ≡ true → Content boundary left k 2 cs
      go e stay f =
          record {
            to = 2;
            run = stay;
            ended =
                otherwise (not (among k named && eqb 1 1)) (final k 2)
                (end-rule (λ k q. not (among k named && eqb q 1) || final k 2) refl k 1 f) (rw one);
          }
      go e (text {r = r} j a b i s x y l rest) f =
          clash (child-rule (λ j. not (Kind.is_text j)) (Kind.pattern ∷ Kind.attribute ∷ []) j refl (second j r s).0)
          (ap not i)
      go e (nest {r = r} {t = t} {j = j} x s o inner g rest) f =
          let b = second j r s in
          let p : j ≡ Kind.pattern → ⊥ = λ z. other (ap first_kind (h.there ∙ ap (λ cs. cs ++ (plain (Kind.closing k) ∷ h.rest)) e) ∙ z) in
          let a : j ≡ Kind.attribute =
          by_case (eqb j Kind.attribute) (λ z. eqb-true j Kind.attribute z)
          (λ z. clash b.0 (rw (ne_eqb j Kind.pattern p, z))) in
          let s₂ : step k 2 j ≡ some r = rw (a, b.1) again in
          record { to = t; run = nest x s₂ o inner g rest; ended = f }

-- A message or term: its name is next, and then its value.
pub record Head (boundary : ℕ → Bool) (ms : List Mark) (i : ℕ) : Type 0 where
  pub kind : ℕ
  pub one : among kind named ≡ true
  pub key : TextAt boundary ms (i + 1)
  pub here : Inside boundary ms (i + 3) kind 1
  pub split : nodes (node_at ms i).inner ≡ node_at ms (i + 1) ∷ nodes (inner_at ms (i + 3))
  pub till : i + 3 + length (inner_at ms (i + 3)) + 1 ≡ after ms i

pub head : {boundary : ℕ → Bool} {ms : List Mark} {i : ℕ} → OneAt boundary named ms i → Head boundary ms i
unfolding Kind.is_text among models final_by final
head {boundary} {ms} {i} a =
    by_case (eqb a.kind Kind.message) (λ e. of Kind.message e refl refl refl refl)
    (λ e. by_case (eqb a.kind Kind.term) (λ z. of Kind.term z refl refl refl refl) (λ z. clash a.one (rw (e, z))))
  where
    of : (k : ℕ) → eqb a.kind k ≡ true → among k named ≡ true → Kind.is_text k ≡ false
        → Leads k 0 (Kind.identifier ∷ []) 1 → final k 0 ≡ false → Head boundary ms i
    of k e one p l f₀ =
        let at : At boundary ms i k = rw (eqb-true a.kind k e) at a.at in
        let m = enter at p in
        let f = must (Kind.identifier ∷ []) 1 l f₀ m.first in
        let t = text-one f.child refl in
        let behind : after ms (i + 1) ≡ i + 3 = text-after t.at t.is_text ∙ omega arith in
        record {
          kind = k;
          one = one;
          key = t;
          here = rw behind at f.on;
          split = ap nodes (sym m.inner) ∙ f.split ∙ ap (λ j. node_at ms (i + 1) ∷ nodes (inner_at ms j)) behind;
          till = omega (arith, m.behind, f.till, ap (λ j. length (inner_at ms j)) behind);
        }
