-- Nodes of a fixed content: a placeable holds an expression, a variant, an attribute and a named argument hold a key and a value.
use Prim.Native.Nat.{ℕ, ◌+◌}
use native.Mathlib.Omega.{arith}
use mathlib.Core.Path.{◌≡◌, refl, sym, ap, ◌∙◌}
use mathlib.Core.Bool.{Bool, true, false}
use mathlib.Core.List.{List, [], ◌∷◌}
use lib.Dec.{eqb}
use lib.ListN.{length}
use borrow.Author.Tests.{eqb-true}
use Rattle.syntax.specs.Kind as Kind
use Rattle.syntax.specs.Marks.{Mark}
use Rattle.syntax.specs.Shape.{among, models, final_by, final, inline}
use Rattle.syntax.specs.Serializer.{nodes_from, nodes}
use Rattle.laws.specs.Bytes.{by_case, clash}
use Rattle.laws.specs.Shape.Run.{every_child}
use Rattle.tree.specs.Walk.{node_at, after, inner_at, At, TextAt, OneAt, Inside, expressions, variants}
use Rattle.tree.proofs.Walk.{enter, text-after}
use Rattle.tree.proofs.Children.{Leads, must, none, text-one}

-- a placeable, with the expression in it
pub record Held (boundary : ℕ → Bool) (ms : List Mark) (i : ℕ) : Type 0 where
  pub child : OneAt boundary expressions ms (i + 1)
  pub all : nodes (node_at ms i).inner ≡ node_at ms (i + 1) ∷ []
  pub till : after ms (i + 1) + 1 ≡ after ms i

pub held : {boundary : ℕ → Bool} {ms : List Mark} {i : ℕ} → At boundary ms i Kind.placeable → Held boundary ms i
unfolding Kind.is_text among models final_by final nodes nodes_from
held {ms = ms} {i} a =
    let m = enter a refl in
    let f = must expressions 1 refl refl m.first in
    let z = none 0 refl f.on in
    record {
      child = f.child;
      all = ap nodes (sym m.inner) ∙ f.split ∙ ap (λ r. node_at ms (i + 1) ∷ nodes r) z;
      till = omega (arith, m.behind, f.till, ap length z);
    }

-- A node with a T child first, and a child of one of the kinds js next and last.
pub record Pair (boundary : ℕ → Bool) (ms : List Mark) (i : ℕ) (js : List ℕ) : Type 0 where
  pub key : TextAt boundary ms (i + 1)
  pub behind : after ms (i + 1) ≡ i + 3
  pub value : OneAt boundary js ms (i + 3)
  pub both : nodes (node_at ms i).inner ≡ node_at ms (i + 1) ∷ node_at ms (i + 3) ∷ []
  pub till : after ms (i + 3) + 1 ≡ after ms i

module _ (k : ℕ) (ks js : List ℕ) (plainly : Kind.is_text k ≡ false) (texts : every_child Kind.is_text ks ≡ true)
    (keys : Leads k 0 ks 1) (more : final k 0 ≡ false) (values : Leads k 1 js 2) (more₁ : final k 1 ≡ false)
    (last : Leads k 2 [] 0) where
  pair : {boundary : ℕ → Bool} {ms : List Mark} {i : ℕ} → At boundary ms i k → Pair boundary ms i js
  unfolding nodes nodes_from
  pair {boundary} {ms} {i} a =
      let m = enter a plainly in
      let f = must ks 1 keys more m.first in
      let t = text-one f.child texts in
      let behind : after ms (i + 1) ≡ i + 3 = text-after t.at t.is_text ∙ omega arith in
      let on : Inside boundary ms (i + 3) k 1 = rw behind at f.on in
      let g = must js 2 values more₁ on in
      let z = none 0 last g.on in
      record {
        key = t;
        behind = behind;
        value = g.child;
        both = ap nodes (sym m.inner) ∙ f.split
            ∙ ap (λ ns. node_at ms (i + 1) ∷ ns)
            (ap (λ j. nodes (inner_at ms j)) behind ∙ g.split ∙ ap (λ r. node_at ms (i + 3) ∷ nodes r) z);
        till = omega (arith, m.behind, f.till, ap (λ j. length (inner_at ms j)) behind, g.till, ap length z);
      }

module _ {boundary : ℕ → Bool} {ms : List Mark} {i : ℕ} where
  pub variant-pair : OneAt boundary variants ms i → Pair boundary ms i (Kind.pattern ∷ [])
  unfolding Kind.is_text among models final_by final
  variant-pair a =
      by_case (eqb a.kind Kind.variant) (λ e. of Kind.variant e refl refl refl refl refl refl)
      (λ e. by_case (eqb a.kind Kind.default_variant) (λ z. of Kind.default_variant z refl refl refl refl refl refl)
      (λ z. clash a.one (rw (e, z))))
    where
      keys : List ℕ
      keys = Kind.number_key ∷ Kind.identifier_key ∷ []

      of : (k : ℕ) → eqb a.kind k ≡ true → Kind.is_text k ≡ false → Leads k 0 keys 1 → final k 0 ≡ false
          → Leads k 1 (Kind.pattern ∷ []) 2 → final k 1 ≡ false → Leads k 2 [] 0
          → Pair boundary ms i (Kind.pattern ∷ [])
      of k e p l₀ f₀ l₁ f₁ l₂ = pair k keys (Kind.pattern ∷ []) p refl l₀ f₀ l₁ f₁ l₂ (rw (eqb-true a.kind k e) at a.at)

  pub attribute-pair : At boundary ms i Kind.attribute → Pair boundary ms i (Kind.pattern ∷ [])
  unfolding Kind.is_text among models final_by final
  attribute-pair a = pair Kind.attribute (Kind.identifier ∷ []) (Kind.pattern ∷ []) refl refl refl refl refl refl refl a

  pub argument-pair : At boundary ms i Kind.named_argument → Pair boundary ms i inline
  unfolding Kind.is_text among models final_by final
  argument-pair a = pair Kind.named_argument (Kind.identifier ∷ []) inline refl refl refl refl refl refl refl a
