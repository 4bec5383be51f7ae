-- Whether a pattern takes more than a line, element by element.
use Prim.Native.Nat.{ℕ, suc, ◌+◌, ◌≤◌, ◌<◌, zero}
use native.Mathlib.Omega.{arith}
use mathlib.Core.Path.{◌≡◌, refl, sym, ap, ◌∙◌}
use mathlib.Core.Bool.{Bool, true, false, ◌||◌}
use mathlib.Core.List.{List, [], ◌∷◌}
use lib.Dec.{eqb}
use lib.ListN.{length}
use borrow.Author.Tests.{eqb-true, eq-eqb, ne_eqb}
use Rattle.syntax.specs.Byte as Byte
use Rattle.syntax.specs.Kind as Kind
use Rattle.syntax.specs.Marks.{Mark}
use Rattle.syntax.specs.Shape.{start, among, models, final_by, final}
use Rattle.syntax.specs.Serializer.{nodes_from, nodes, text_of, has_newline, multiline_element, is_multiline, Node, is_select, leading_dot}
use Rattle.syntax.specs.Bytes.{starts_with}
use Rattle.laws.specs.Bytes.{by_case, clash}
use Rattle.tree.specs.Walk.{kind_at, node_at, after, inner_at, At, NodeAt, TextAt, OneAt, Open, elements, Inside}
use Rattle.tree.proofs.Walk.{at-kind, node-kind, enter, Next, ends, goes, next, Entered}
use Rattle.tree.proofs.Children.{Follows, Goes, goes_on, goes-out, must}

-- what `is_select_expr` says of the node at a mark
abbrev pub Selects : List Mark → ℕ → Bool → Type 0
Selects ms i v = (source : List ℕ) (n : ℕ) (more : List Node) → length (node_at ms i).inner < n → v ≡ is_select source n (node_at ms i ∷ more)

module _ {boundary : ℕ → Bool} {ms : List Mark} {i j : ℕ} (a : At boundary ms i j) where
  pub select-here : j ≡ Kind.select → Selects ms i true
  unfolding is_select
  select-here e source zero more h = absurd (omega arith)
  select-here e source (suc n) more h = rw (eq-eqb (node_at ms i).kind Kind.select (node-kind a ∙ e), is_select)

  pub select-other : (j ≡ Kind.select → ⊥) → (j ≡ Kind.placeable → ⊥) → Selects ms i false
  unfolding is_select
  select-other x y source zero more h = absurd (omega arith)
  select-other x y source (suc n) more h =
      rw (
        ne_eqb (node_at ms i).kind Kind.select (λ e. x (sym (node-kind a) ∙ e)),
        ne_eqb (node_at ms i).kind Kind.placeable (λ e. y (sym (node-kind a) ∙ e)),
        is_select,
      )

  -- into a placeable
  pub record Within : Type 0 where
    pub there : NodeAt ms (i + 1)
    pub same : (v : Bool) → Selects ms (i + 1) v → Selects ms i v

  within-from : j ≡ Kind.placeable → (m : Entered boundary ms i j) → Next boundary ms (i + 1) j start → Within
  unfolding final final_by models among after is_select
  within-from e m (ends c z f) = clash (rw e at f) refl
  within-from e m (goes k r s b n ns l) = record { there = record { boundary = boundary; kind = k; at = b }; same = same }
    where
      same : (v : Bool) → Selects ms (i + 1) v → Selects ms i v
      same v f source zero more h = absurd (omega arith)
      same v f source (suc n) more h =
          let x = node-kind a ∙ e in
          rw (
            ne_eqb (node_at ms i).kind Kind.select (λ z. omega arith),
            eq-eqb (node_at ms i).kind Kind.placeable x,
            is_select,
            ← m.inner,
            ns,
          )
          (f source n (nodes (inner_at ms (after ms (i + 1)))) (omega (arith, l, ap length m.inner)))

  pub select-within : j ≡ Kind.placeable → Within
  unfolding Kind.is_text
  select-within e = let m = enter a (rw e) in within-from e m (next m.first)

-- the first element of a pattern
module _ {boundary : ℕ → Bool} {ms : List Mark} {i : ℕ} (a : At boundary ms i Kind.pattern) where
  entered : Entered boundary ms i Kind.pattern
  unfolding Kind.is_text
  entered = enter a refl

  pub pattern-first : Inside boundary ms (i + 1) Kind.pattern start
  pattern-first = entered.first

  pub no-leading : (source : List ℕ) → (kind_at ms (i + 1) ≡ Kind.text → ⊥) → leading_dot source (nodes (node_at ms i).inner) ≡ false
  unfolding leading_dot nodes nodes_from
  no-leading source h = rw (← entered.inner) (go (next pattern-first))
    where
      go : Next boundary ms (i + 1) Kind.pattern start → leading_dot source (nodes (inner_at ms (i + 1))) ≡ false
      go (ends c z f) = rw z
      go (goes j r s b n ns l) =
          rw (ns, leading_dot, ne_eqb (node_at ms (i + 1)).kind Kind.text (λ e. h (at-kind b ∙ sym (node-kind b) ∙ e)))

  pub record Leading (source : List ℕ) : Type 0 where
    pub text : TextAt boundary ms (i + 1)
    pub same : leading_dot source (nodes (node_at ms i).inner) ≡ starts_with Byte.dot (text_of source (node_at ms (i + 1)))

  pub leading : (source : List ℕ) → kind_at ms (i + 1) ≡ Kind.text → Leading source
  unfolding leading_dot Kind.is_text
  leading source h = go (next pattern-first)
    where
      go : Next boundary ms (i + 1) Kind.pattern start → Leading source
      go (ends c z f) = absurd (omega arith)
      go (goes j r s b n ns l) =
          let e : j ≡ Kind.text = sym (at-kind b) ∙ h in
          record {
            text = record { kind = j; is_text = rw e; at = b };
            same = rw (← entered.inner, ns, leading_dot, eq-eqb (node_at ms (i + 1)).kind Kind.text (node-kind b ∙ e));
          }

newline-any : (source t : List ℕ) → has_newline source t ≡ has_newline [] t
unfolding has_newline
newline-any source [] = refl
newline-any source (b ∷ t) = ap (λ v. eqb b Byte.line_feed || v) (newline-any source t)

module _ {boundary : ℕ → Bool} {ms : List Mark} {i : ℕ} (e : OneAt boundary elements ms i) where
  pub element-text : kind_at ms i ≡ Kind.text → TextAt boundary ms i
  unfolding Kind.is_text
  element-text h = let k : e.kind ≡ Kind.text = sym (at-kind e.at) ∙ h in record { kind = e.kind; is_text = rw k; at = e.at }

  pub element-placeable : (kind_at ms i ≡ Kind.text → ⊥) → e.kind ≡ Kind.placeable
  unfolding among
  element-placeable h =
      by_case (eqb e.kind Kind.placeable) (λ z. eqb-true e.kind Kind.placeable z)
      (λ z. clash e.one (rw (ne_eqb e.kind Kind.text (λ k. h (at-kind e.at ∙ k)), z)))

  pub multiline-text : (source : List ℕ) → kind_at ms i ≡ Kind.text
      → multiline_element source (node_at ms i) ≡ has_newline [] (text_of source (node_at ms i))
  unfolding multiline_element
  multiline-text source h =
      rw (eq-eqb (node_at ms i).kind Kind.text (node-kind e.at ∙ sym (at-kind e.at) ∙ h), multiline_element)
      (newline-any source (text_of source (node_at ms i)))

  -- a placeable, and the expression in it
  pub record Placed : Type 0 where
    pub there : NodeAt ms (i + 1)
    pub same : (source : List ℕ) (v : Bool) → Selects ms (i + 1) v → v ≡ multiline_element source (node_at ms i)

  pub multiline-placeable : (kind_at ms i ≡ Kind.text → ⊥) → Placed
  unfolding Kind.is_text among models final_by final multiline_element after
  multiline-placeable h =
      let k = element-placeable h in
      let a : At boundary ms i Kind.placeable = rw k at e.at in
      let m = enter a refl in
      let f : Follows boundary ms (i + 1) Kind.placeable _ 1 =
      must
      (Kind.select ∷ Kind.string ∷ Kind.number ∷ Kind.variable ∷ Kind.function ∷ Kind.message_reference
      ∷ Kind.term_reference ∷ Kind.placeable ∷ []) 1 refl refl
      m.first in
      record {
        there = record { boundary = boundary; kind = f.child.kind; at = f.child.at };
        same = λ source v s.
            rw (ne_eqb (node_at ms i).kind Kind.text (λ z. omega (arith, node-kind a)), multiline_element, ← m.inner, f.split)
            (s source (suc (length (inner_at ms (i + 1)))) (nodes (inner_at ms (after ms (i + 1)))) (omega (arith, f.till)));
      }

-- a pattern's elements, from one on
module _ {boundary : ℕ → Bool} {ms : List Mark} {i : ℕ} (n : Open boundary ms i Kind.pattern start) where
  pub element-next : kind_at ms i < Kind.closing 0 → Goes boundary ms i Kind.pattern start elements
  unfolding models among
  element-next l = goes_on elements refl n l

  pub multiline-first : (source : List ℕ) (l : kind_at ms i < Kind.closing 0)
      → multiline_element source (node_at ms i) ≡ true → is_multiline source (nodes (inner_at ms i)) ≡ true
  unfolding is_multiline
  multiline-first source l h = rw ((element-next l).follows.split, is_multiline, h)

  pub multiline-later : (source : List ℕ) (l : kind_at ms i < Kind.closing 0)
      → multiline_element source (node_at ms i) ≡ false
      → is_multiline source (nodes (inner_at ms i)) ≡ is_multiline source (nodes (inner_at ms (after ms i)))
  unfolding is_multiline
  multiline-later source l h = rw ((element-next l).follows.split, is_multiline, h)

  pub multiline-none : (source : List ℕ) → Kind.closing 0 ≤ kind_at ms i → is_multiline source (nodes (inner_at ms i)) ≡ false
  unfolding is_multiline nodes nodes_from
  multiline-none source l = rw (goes-out n.here l, is_multiline)
