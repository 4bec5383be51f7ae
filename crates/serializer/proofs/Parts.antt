-- The parts of each node that is written, and their pieces in a row.
use Prim.Native.Nat.{ℕ, ◌+◌, ◌≤◌}
use native.Mathlib.Omega.{arith}
use mathlib.Core.Path.{◌≡◌, refl, sym, ap, ◌∙◌}
use mathlib.Core.Bool.{Bool, true, false, ◌&&◌, not}
use mathlib.Core.List.{List, [], ◌∷◌}
use lib.Dec.{eqb}
use borrow.Author.Tests.{eqb-true, eq-eqb, ne_eqb}
use Rattle.syntax.specs.Kind as Kind
use Rattle.syntax.specs.Bytes.{ascii}
use Rattle.syntax.specs.Marks.{Mark}
use Rattle.syntax.specs.Shape.{among, inline}
use Rattle.syntax.specs.Serializer.{Node, nodes, Piece, ◌⊕◌, literal, newline, indented, each, first, name, leading_dot, is_multiline}
use Rattle.laws.specs.Bytes.{by_case}
use Rattle.laws.specs.Text.{element_of, in_braces_of, expression_of, inline_of}
use Rattle.laws.specs.Text as Text
use Rattle.tree.specs.Walk.{kind_at, node_at, after, inner_at, At, OneAt, elements, expressions}
use Rattle.serializer.specs.Serialize.{pattern_in, select_in, pattern_start, opening_braces, closing_braces, braces_of}
use Rattle.serializer.proofs.Pieces.{Row, two, three, row_same, within}
use Rattle.tree.proofs.Walk.{at-kind, node-kind, enter, Entered}
use Rattle.tree.proofs.Children.{only, at-as, others}
use Rattle.tree.proofs.Contents.{Held, held}
use Rattle.serializer.proofs.Patterns.{element-placeable}

module _ (source : List ℕ) {boundary : ℕ → Bool} {ms : List Mark} {i : ℕ} where
  -- a pattern, on lines of its own or not
  module _ (a : OneAt boundary (Kind.pattern ∷ []) ms i) where
    pub pattern-at : At boundary ms i Kind.pattern
    pattern-at = rw (only a) at a.at

    pub pattern-entered : Entered boundary ms i Kind.pattern
    unfolding Kind.is_text
    pattern-entered = enter pattern-at refl

    abbrev body : Piece
    body = each (element_of source) (nodes (inner_at ms (i + 1)))

    pub pattern-parts : (b : Bool)
        → b ≡ (not (leading_dot source (nodes (node_at ms i).inner)) && is_multiline source (nodes (node_at ms i).inner))
        → Row (pattern_in source (node_at ms i)) (pattern_start b ∷ within b body ∷ [])
    unfolding pattern_start
    pattern-parts true e =
        row_same (Text.pattern-is source (node_at ms i).inner ∙ rw (sym e, pattern-entered.inner))
        (two newline (indented body))
    pattern-parts false e =
        row_same (Text.pattern-is source (node_at ms i).inner ∙ rw (sym e, pattern-entered.inner))
        (two (literal (ascii " ")) body)

  -- an expression
  module _ (a : OneAt boundary expressions ms i) where
    pub expression-select : kind_at ms i ≡ Kind.select → OneAt boundary (Kind.select ∷ []) ms i
        × (expression_of source (node_at ms i) ≡ select_in source (node_at ms i))
    unfolding among
    expression-select e =
        let b = at-as a e in (
          record { kind = Kind.select; one = refl; at = b },
          Text.expression-is source (node_at ms i)
              ∙ rw (eq-eqb (node_at ms i).kind Kind.select (node-kind b)),
        )

    pub expression-inline : (kind_at ms i ≡ Kind.select → ⊥) → OneAt boundary inline ms i
        × (expression_of source (node_at ms i) ≡ inline_of source (node_at ms i))
    expression-inline h = (
      others a h,
      Text.expression-is source (node_at ms i)
          ∙ rw (ne_eqb (node_at ms i).kind Kind.select (λ e. h (at-kind a.at ∙ sym (node-kind a.at) ∙ e))),
    )

-- a pattern's placeable, with so many marks for its braces before and behind the expression
pub record Braced (source : List ℕ) (boundary : ℕ → Bool) (ms : List Mark) (i n : ℕ) (opening closing : List ℕ) : Type 0 where
  pub parts : Row (element_of source (node_at ms i)) (literal opening ∷ expression_of source (node_at ms (i + n)) ∷ literal closing ∷ [])
  pub child : OneAt boundary expressions ms (i + n)
  pub till : after ms (i + n) + n ≡ after ms i
  pub some : 1 ≤ n
  pub few : n ≤ 2

module _ (source : List ℕ) {boundary : ℕ → Bool} {ms : List Mark} {i : ℕ} (a : OneAt boundary elements ms i) where
  pub element-name : kind_at ms i ≡ Kind.text → element_of source (node_at ms i) ≡ name source (node_at ms i)
  element-name e = Text.element-is source (node_at ms i)
      ∙ rw (eq-eqb (node_at ms i).kind Kind.text (node-kind a.at ∙ sym (at-kind a.at) ∙ e))

  module _ (h : kind_at ms i ≡ Kind.text → ⊥) where
    placeable-at : At boundary ms i Kind.placeable
    placeable-at = rw (element-placeable a h) at a.at

    in-braces : element_of source (node_at ms i) ≡ in_braces_of source (node_at ms (i + 1))
    unfolding first
    in-braces =
        Text.element-is source (node_at ms i)
        ∙ rw (
          ne_eqb (node_at ms i).kind Kind.text (λ e. h (at-kind a.at ∙ sym (node-kind a.at) ∙ e)),
          (held placeable-at).all,
          first,
        )

    pub placeable-inside : OneAt boundary expressions ms (i + 1)
    placeable-inside = (held placeable-at).child

    pub braced : Braced source boundary ms i (braces_of (kind_at ms (i + 1))) (opening_braces (kind_at ms (i + 1)))
        (closing_braces (kind_at ms (i + 1)))
    unfolding braces_of opening_braces closing_braces first
    braced =
        by_case (eqb (kind_at ms (i + 1)) Kind.placeable) (λ e. twice (eqb-true _ _ e))
        (λ e. by_case (eqb (kind_at ms (i + 1)) Kind.select) (λ z. around (eqb-true _ _ z)) (λ z. once e z))
      where
        x : Node
        x = node_at ms (i + 1)

        o : Held boundary ms i
        o = held placeable-at

        same : x.kind ≡ kind_at ms (i + 1)
        same = node-kind o.child.at ∙ sym (at-kind o.child.at)

        twice : kind_at ms (i + 1) ≡ Kind.placeable
            → Braced source boundary ms i (braces_of (kind_at ms (i + 1))) (opening_braces (kind_at ms (i + 1)))
            (closing_braces (kind_at ms (i + 1)))
        twice e =
            let p = held (at-as o.child e) in
            let up : i + 1 + 1 ≡ i + 2 = omega arith in
            let all : nodes x.inner ≡ node_at ms (i + 2) ∷ [] = rw up at p.all in
            rw e
            (record {
              parts =
                  row_same
                  (in-braces ∙ Text.in_braces-is source x ∙ rw (eq-eqb x.kind Kind.placeable (same ∙ e), all, first))
                  (three (literal (ascii "{{ ")) (expression_of source (node_at ms (i + 2))) (literal (ascii " }}")));
              child = rw up at p.child;
              till = omega (arith, p.till, o.till, ap (λ j. after ms j) up);
              some = omega arith;
              few = omega arith;
            })

        alone : (closing : List ℕ)
            → in_braces_of source x ≡ (literal (ascii "{ ") ⊕ expression_of source x ⊕ literal closing)
            → Braced source boundary ms i 1 (ascii "{ ") closing
        alone closing e =
            record {
              parts =
                  row_same (in-braces ∙ e) (three (literal (ascii "{ ")) (expression_of source x) (literal closing));
              child = o.child;
              till = o.till;
              some = omega arith;
              few = omega arith;
            }

        around : kind_at ms (i + 1) ≡ Kind.select
            → Braced source boundary ms i (braces_of (kind_at ms (i + 1))) (opening_braces (kind_at ms (i + 1)))
            (closing_braces (kind_at ms (i + 1)))
        around e =
            rw e
            (alone (ascii "}")
            (Text.in_braces-is source x
            ∙ rw
            (ne_eqb x.kind Kind.placeable (λ z. omega (arith, same)), eq-eqb x.kind Kind.select (same ∙ e))))

        once : eqb (kind_at ms (i + 1)) Kind.placeable ≡ false → eqb (kind_at ms (i + 1)) Kind.select ≡ false
            → Braced source boundary ms i (braces_of (kind_at ms (i + 1))) (opening_braces (kind_at ms (i + 1)))
            (closing_braces (kind_at ms (i + 1)))
        once e z =
            rw (e, braces_of, opening_braces, closing_braces, z)
            (alone (ascii " }")
            (Text.in_braces-is source x
            ∙ rw (ap (λ k. eqb k Kind.placeable) same ∙ e, ap (λ k. eqb k Kind.select) same ∙ z)))
