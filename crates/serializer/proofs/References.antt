-- String literals and references: the pieces of their parts, and what follows a reference's names.
use Prim.Native.Nat.{ℕ, ◌+◌}
use native.Mathlib.Omega.{arith}
use mathlib.Core.Path.{◌≡◌, refl, sym, ap, ◌∙◌}
use mathlib.Core.Bool.{Bool, true}
use mathlib.Core.List.{List, [], ◌∷◌}
use lib.Dec.{eqb}
use lib.ListN.{length}
use borrow.Author.Tests.{ne_eqb}
use Rattle.utf8.specs.Utf8.{is_boundary}
use Rattle.syntax.specs.Kind as Kind
use Rattle.syntax.specs.Bytes.{ascii}
use Rattle.syntax.specs.Marks.{Mark}
use Rattle.syntax.specs.Layout.{marks_in}
use Rattle.syntax.specs.Shape.{among}
use Rattle.syntax.specs.Serializer.{Node, nodes_from, nodes, Piece, ◌⊕◌, empty, literal, each, if, of_kind, name, reference}
use Rattle.tree.specs.Walk.{kind_at, node_at, after, inner_at, TextAt, OneAt, Inside, references, Call}
use Rattle.tree.specs.Walk as Spec
use Rattle.serializer.specs.Serialize.{sigil, quoted, reference_of, Named}
use Rattle.serializer.proofs.Pieces.{Row, two, three, row_same, then-empty, empty-then}
use Rattle.tree.proofs.Walk.{at-kind, node-kind, enter, text-after}
use Rattle.tree.proofs.Children.{text-one, only, keeps, omits}
use Rattle.tree.proofs.References.{reference-plain, first-name, second-name, no_name, call-here}

pub quoted-row : (source : List ℕ) (n : Node) → Row (quoted source n) (literal (ascii "\"") ∷ name source n ∷ literal (ascii "\"") ∷ [])
unfolding quoted
quoted-row source n = three (literal (ascii "\"")) (name source n) (literal (ascii "\""))

pub sigil-variable : sigil Kind.variable ≡ literal (ascii "$")
unfolding sigil if
sigil-variable = then-empty (literal (ascii "$"))

pub sigil-term : sigil Kind.term_reference ≡ literal (ascii "-")
unfolding sigil if
sigil-term = empty-then (literal (ascii "-"))

pub sigil-none : (k : ℕ) → (k ≡ Kind.variable → ⊥) → (k ≡ Kind.term_reference → ⊥) → sigil k ≡ empty
unfolding sigil if
sigil-none k x y = rw (ne_eqb k Kind.variable x, ne_eqb k Kind.term_reference y, sigil) (empty-then empty)

module _ (source : List ℕ) where
  abbrev names : List Node → List Node
  names ns = of_kind source (λ k. eqb k Kind.identifier) ns

  abbrev calls : List Node → List Node
  calls ns = of_kind source (λ k. eqb k Kind.arguments) ns

  -- the name of the attribute, if there is one
  abbrev pub attribute_name : List Node → Piece
  attribute_name ns = each (λ a. literal (ascii ".") ⊕ name source a) (names ns)

  call-names : {boundary : ℕ → Bool} {ms : List Mark} {m : ℕ} → Call boundary ms m → names (nodes (inner_at ms m)) ≡ []
  unfolding of_kind nodes nodes_from
  call-names (Spec.none l z) = rw z
  call-names {ms = ms} {m} (Spec.some a ns t) = rw ns (omits source Kind.identifier (node_at ms m) [] (λ e. omega (arith, node-kind a)))

  call-left : {boundary : ℕ → Bool} {ms : List Mark} {m : ℕ} → Call boundary ms m → calls (nodes (inner_at ms m)) ≡ nodes (inner_at ms m)
  unfolding of_kind nodes nodes_from
  call-left (Spec.none l z) = rw z
  call-left {ms = ms} {m} (Spec.some a ns t) = rw ns (keeps source Kind.arguments (node_at ms m) [] (node-kind a))

-- a reference after its name
pub record Begun (source tree : List ℕ) (i : ℕ) : Type 0 where
  pub kind : ℕ
  pub one : among kind references ≡ true
  pub first : TextAt (is_boundary source) (marks_in tree) (i + 1)
  pub behind : after (marks_in tree) (i + 1) ≡ i + 3
  pub on : Inside (is_boundary source) (marks_in tree) (i + 3) kind 1
  pub parts : Row (reference_of source (node_at (marks_in tree) i))
      (sigil (kind_at (marks_in tree) i) ∷ name source (node_at (marks_in tree) (i + 1))
      ∷ attribute_name source (nodes (inner_at (marks_in tree) (i + 3))) ∷ [])
  pub left : calls source (nodes (node_at (marks_in tree) i).inner) ≡ calls source (nodes (inner_at (marks_in tree) (i + 3)))
  pub till : i + 3 + length (inner_at (marks_in tree) (i + 3)) + 1 ≡ after (marks_in tree) i

-- and after the attribute's
pub record Further (source tree : List ℕ) (i : ℕ) : Type 0 where
  pub second : TextAt (is_boundary source) (marks_in tree) (i + 3)
  pub parts : Row (attribute_name source (nodes (inner_at (marks_in tree) (i + 3))))
      (literal (ascii ".") ∷ name source (node_at (marks_in tree) (i + 3)) ∷ [])
  pub rest : Named source tree i (after (marks_in tree) (i + 3))

module _ (source tree : List ℕ) (i : ℕ) where
  pub begun : OneAt (is_boundary source) references (marks_in tree) i → Begun source tree i
  unfolding reference_of reference Kind.is_text among
  begun a =
      let ms = marks_in tree in
      let m = enter a.at (reference-plain a.kind a.one) in
      let f = first-name a.one m.first in
      let t = text-one f.child refl in
      let behind : after ms (i + 1) ≡ i + 3 = text-after t.at t.is_text ∙ omega arith in
      let all : nodes (node_at ms i).inner ≡ node_at ms (i + 1) ∷ nodes (inner_at ms (i + 3)) = ap nodes (sym m.inner)
      ∙ f.split ∙ ap (λ j. node_at ms (i + 1) ∷ nodes (inner_at ms j)) behind in
      let k : (node_at ms (i + 1)).kind ≡ Kind.identifier = node-kind f.child.at ∙ only f.child in
      record {
        kind = a.kind;
        one = a.one;
        first = t;
        behind = behind;
        on = rw behind at f.on;
        parts =
            row_same
            (ap (λ ns. sigil (node_at ms i).kind ⊕ reference source (names source ns)) all
            ∙ ap (λ ns. sigil (node_at ms i).kind ⊕ reference source ns)
            (keeps source Kind.identifier (node_at ms (i + 1)) (nodes (inner_at ms (i + 3))) k)
            ∙ ap
            (λ j. sigil j ⊕ name source (node_at ms (i + 1)) ⊕ attribute_name source (nodes (inner_at ms (i + 3))))
            (node-kind a.at ∙ sym (at-kind a.at)))
            (three (sigil (kind_at ms i)) (name source (node_at ms (i + 1))) (attribute_name source (nodes (inner_at ms (i + 3)))));
        left = ap (λ ns. calls source ns) all
            ∙ omits source Kind.arguments (node_at ms (i + 1)) (nodes (inner_at ms (i + 3))) (λ z. omega arith);
        till = omega (arith, m.behind, f.till, ap (λ j. length (inner_at ms j)) behind);
      }

module _ {source tree : List ℕ} {i : ℕ} (b : Begun source tree i) where
  -- the attribute's name is not there
  pub no-further : (kind_at (marks_in tree) (i + 3) ≡ Kind.identifier → ⊥)
      → Row (attribute_name source (nodes (inner_at (marks_in tree) (i + 3)))) [] × Named source tree i (i + 3)
  unfolding each
  no-further x =
      let c = call-here b.one (omega arith) b.on x in (
        record { same = ap (λ ns. each (λ a. literal (ascii ".") ⊕ name source a) ns) (call-names source c) },
        record {
          kind = b.kind;
          at = record { state = 1; least = omega arith; here = b.on };
          call = c;
          left = b.left ∙ call-left source c;
          till = b.till;
          later = omega arith;
        },
      )

  -- or it is
  pub further-on : kind_at (marks_in tree) (i + 3) ≡ Kind.identifier → Further source tree i
  unfolding each Kind.is_text
  further-on x =
      let ms = marks_in tree in
      let f = second-name b.one b.on x in
      let t = text-one f.child refl in
      let m = after ms (i + 3) in
      let k : (node_at ms (i + 3)).kind ≡ Kind.identifier = node-kind f.child.at ∙ only f.child in
      let c = call-here b.one (omega arith) f.on (no_name b.one f.on) in
      record {
        second = t;
        parts =
            row_same
            (ap (λ ns. attribute_name source ns) f.split
            ∙ ap (λ ns. each (λ a. literal (ascii ".") ⊕ name source a) ns)
            (keeps source Kind.identifier (node_at ms (i + 3)) (nodes (inner_at ms m)) k
            ∙ ap (λ ns. node_at ms (i + 3) ∷ ns) (call-names source c))
            ∙ then-empty (literal (ascii ".") ⊕ name source (node_at ms (i + 3))))
            (two (literal (ascii ".")) (name source (node_at ms (i + 3))));
        rest =
            record {
              kind = b.kind;
              at = record { state = 2; least = omega arith; here = f.on };
              call = c;
              left = b.left ∙ ap (λ ns. calls source ns) f.split
                  ∙ omits source Kind.arguments (node_at ms (i + 3)) (nodes (inner_at ms m)) (λ z. omega arith)
                  ∙ call-left source c;
              till = omega (arith, b.till, f.till);
              later = omega (arith, text-after t.at t.is_text);
            };
      }
