-- The parts of expressions, variants and arguments, and their pieces in a row.
use Prim.Native.Nat.{ℕ, ◌+◌, ◌*◌}
use native.Mathlib.Omega.{arith}
use mathlib.Core.Path.{◌≡◌, refl, sym, ap, ◌∙◌}
use mathlib.Core.Bool.{Bool, true, false, ◌||◌}
use mathlib.Core.List.{List, [], ◌∷◌}
use lib.Dec.{eqb}
use lib.ListN.{length}
use borrow.Author.Tests.{eqb-true, eq-eqb, ne_eqb}
use Rattle.std.specs.Int.{from_bool}
use Rattle.utf8.specs.Utf8.{is_boundary}
use Rattle.syntax.specs.Kind as Kind
use Rattle.syntax.specs.Bytes.{ascii}
use Rattle.syntax.specs.Marks.{Mark}
use Rattle.syntax.specs.Layout.{marks_in}
use Rattle.syntax.specs.Shape.{among, models, final_by, final, inline}
use Rattle.syntax.specs.Serializer.{Node, nodes_from, nodes, ◌⊕◌, empty, literal, newline, indented, star, each, if}
use Rattle.syntax.specs.Serializer.{first, of_kind, name, reference}
use Rattle.laws.specs.Bytes.{by_case, clash}
use Rattle.laws.specs.Shape.Run.{otherwise, child-rule}
use Rattle.laws.specs.Text.{expression_of, select_of, variant_of, inline_of, separated_of, argument_of}
use Rattle.laws.specs.Text as Text
use Rattle.tree.specs.Walk.{kind_at, node_at, after, inner_at, At, TextAt, OneAt, Open, variants, arguments, references, Call}
use Rattle.tree.specs.Walk as Spec
use Rattle.serializer.specs.Serialize.{pattern_in, select_in, arguments_in, variant_lines, sigil, quoted, reference_of}
use Rattle.serializer.specs.Serialize.{key_at, argument_name, one_if, Named}
use Rattle.serializer.proofs.Pieces.{Row, two, three, four, row_same, then-assoc, empty-then}
use Rattle.tree.proofs.Walk.{at-kind, node-kind, enter, Entered}
use Rattle.tree.proofs.Children.{must, only, at-as, others, keeps, omits}
use Rattle.tree.proofs.Contents.{Pair, variant-pair, argument-pair, Held, held}

-- a `bool` as a number
pub from-one : (b : Bool) → from_bool b ≡ one_if b
from-one true = refl
from-one false = refl

-- an inline expression
module _ (source : List ℕ) {boundary : ℕ → Bool} {ms : List Mark} {i : ℕ} (a : OneAt boundary inline ms i) where
  abbrev x : Node
  x = node_at ms i

  same : x.kind ≡ kind_at ms i
  same = node-kind a.at ∙ sym (at-kind a.at)

  pub inline-string : kind_at ms i ≡ Kind.string → OneAt boundary (Kind.string ∷ []) ms i × (inline_of source x ≡ quoted source x)
  unfolding among quoted
  inline-string e = (
    record { kind = Kind.string; one = refl; at = at-as a e },
    Text.inline-is source x
        ∙ rw (eq-eqb x.kind Kind.string (same ∙ e)),
  )

  pub inline-number : kind_at ms i ≡ Kind.number → TextAt boundary ms i × (inline_of source x ≡ name source x)
  unfolding Kind.is_text
  inline-number e = (
    record { kind = Kind.number; is_text = refl; at = at-as a e },
    Text.inline-is source x
        ∙ rw (ne_eqb x.kind Kind.string (λ z. omega (arith, same)), eq-eqb x.kind Kind.number (same ∙ e)),
  )

  pub inline-placeable : kind_at ms i ≡ Kind.placeable → Held boundary ms i
      × Row (inline_of source x)
      (literal (ascii "{") ∷ expression_of source (node_at ms (i + 1)) ∷ literal (ascii "}") ∷ [])
  unfolding first
  inline-placeable e =
      let h = held (at-as a e) in (
        h,
        row_same
            (Text.inline-is source x
            ∙ rw (
              ne_eqb x.kind Kind.string (λ z. omega (arith, same)),
              ne_eqb x.kind Kind.number (λ z. omega (arith, same)),
              eq-eqb x.kind Kind.placeable (same ∙ e),
              h.all,
              first,
            ))
            (three (literal (ascii "{")) (expression_of source (node_at ms (i + 1))) (literal (ascii "}"))),
      )

  pub inline-reference : (kind_at ms i ≡ Kind.string → ⊥) → (kind_at ms i ≡ Kind.number → ⊥) → (kind_at ms i ≡ Kind.placeable → ⊥)
      → OneAt boundary references ms i
      × Row (inline_of source x)
      (reference_of source x
      ∷ each (arguments_in source) (of_kind source (λ k. eqb k Kind.arguments) (nodes x.inner)) ∷ [])
  unfolding among reference_of sigil
  inline-reference s n p =
      let b = others (others a s) n in
      let c =
      otherwise (eqb b.kind Kind.placeable) (among b.kind references)
      (child-rule (λ j. eqb j Kind.placeable || among j references)
      (Kind.variable ∷ Kind.function ∷ Kind.message_reference ∷ Kind.term_reference ∷ Kind.placeable ∷ [])
      b.kind refl b.one)
      (ne_eqb b.kind Kind.placeable (λ z. p (at-kind b.at ∙ z))) in
      let A = if (eqb x.kind Kind.variable) (literal (ascii "$")) in
      let B = if (eqb x.kind Kind.term_reference) (literal (ascii "-")) in
      let R = reference source (of_kind source (λ j. eqb j Kind.identifier) (nodes x.inner)) in
      let E = each (arguments_in source) (of_kind source (λ k. eqb k Kind.arguments) (nodes x.inner)) in (
        record { kind = b.kind; one = c; at = b.at },
        row_same
            (Text.inline-is source x
            ∙ rw (
              ne_eqb x.kind Kind.string (λ z. s (sym same ∙ z)),
              ne_eqb x.kind Kind.number (λ z. n (sym same ∙ z)),
              ne_eqb x.kind Kind.placeable (λ z. p (sym same ∙ z)),
            )
            (sym (then-assoc A B (R ⊕ E)) ∙ sym (then-assoc (A ⊕ B) R E)))
            (two ((A ⊕ B) ⊕ R) E),
      )

-- the arguments of a reference, if there are any
module _ (source tree : List ℕ) {i m : ℕ} (n : Named source tree i m) where
  abbrev calls : List Node
  calls = of_kind source (λ k. eqb k Kind.arguments) (nodes (node_at (marks_in tree) i).inner)

  pub no_call : (kind_at (marks_in tree) m ≡ Kind.arguments → ⊥) → Row (each (arguments_in source) calls) [] × (m + 1 ≡ after (marks_in tree) i)
  unfolding each nodes nodes_from
  no_call h = go n.call
    where
      go : Call (is_boundary source) (marks_in tree) m → Row (each (arguments_in source) calls) [] × (m + 1 ≡ after (marks_in tree) i)
      go (Spec.none l z) = (
        record { same = ap (λ ns. each (arguments_in source) ns) (n.left ∙ ap nodes z) },
        omega (arith, n.till, ap length z),
      )
      go (Spec.some a ns t) = absurd (h (at-kind a))

  pub a_call : kind_at (marks_in tree) m ≡ Kind.arguments
      → OneAt (is_boundary source) (Kind.arguments ∷ []) (marks_in tree) m
      × (Row (each (arguments_in source) calls) (arguments_in source (node_at (marks_in tree) m) ∷ [])
      × (after (marks_in tree) m + 1 ≡ after (marks_in tree) i))
  unfolding each among
  a_call h = go n.call
    where
      go : Call (is_boundary source) (marks_in tree) m → OneAt (is_boundary source) (Kind.arguments ∷ []) (marks_in tree) m
          × (Row (each (arguments_in source) calls) (arguments_in source (node_at (marks_in tree) m) ∷ [])
          × (after (marks_in tree) m + 1 ≡ after (marks_in tree) i))
      go (Spec.none l z) = absurd (omega arith)
      go (Spec.some a ns t) = (
        record { kind = Kind.arguments; one = refl; at = a },
        (record { same = ap (λ ns. each (arguments_in source) ns) (n.left ∙ ns) }, omega (arith, n.till, t)),
      )

-- a select: the selector, and the variants
pub record Chosen (source : List ℕ) (boundary : ℕ → Bool) (ms : List Mark) (i : ℕ) : Type 0 where
  pub selector : OneAt boundary inline ms (i + 1)
  pub parts : Row (select_in source (node_at ms i))
      (inline_of source (node_at ms (i + 1)) ∷ literal (ascii " ->") ∷ newline
      ∷ indented (variant_lines source (nodes (inner_at ms (after ms (i + 1))))) ∷ [])
  pub rest : Open boundary ms (after ms (i + 1)) Kind.select 1
  pub till : after ms (i + 1) + length (inner_at ms (after ms (i + 1))) + 1 ≡ after ms i

-- an argument, by whether it is a named one: its name, and its value at the mark j
pub record Argued (source : List ℕ) (boundary : ℕ → Bool) (ms : List Mark) (i j : ℕ) (named : Bool) : Type 0 where
  pub key : named ≡ true → At boundary ms i Kind.named_argument
  pub value : OneAt boundary inline ms j
  pub parts : Row (argument_of source (node_at ms i))
      (if named (argument_name source (node_at ms (i + 1))) ∷ inline_of source (node_at ms j) ∷ [])
  pub till : after ms j + one_if named ≡ after ms i

module _ (source : List ℕ) {boundary : ℕ → Bool} {ms : List Mark} {i : ℕ} where
  pub chosen : OneAt boundary (Kind.select ∷ []) ms i → Chosen source boundary ms i
  unfolding Kind.is_text among models final_by final variant_lines
  chosen a =
      let b : At boundary ms i Kind.select = rw (only a) at a.at in
      let m = enter b refl in
      let f = must inline 1 refl refl m.first in
      let vs = nodes (inner_at ms (after ms (i + 1))) in
      record {
        selector = f.child;
        parts =
            row_same (ap (λ ns. select_of source ns) (ap nodes (sym m.inner) ∙ f.split) ∙ Text.select-is source (node_at ms (i + 1)) vs)
            (four (inline_of source (node_at ms (i + 1))) (literal (ascii " ->")) newline (indented (variant_lines source vs)));
        rest = record { state = 1; least = omega arith; here = f.on };
        till = omega (arith, m.behind, f.till);
      }

  -- a variant: the key, and the pattern
  pub variant_parts : OneAt boundary variants ms i
      → Row (variant_of source (node_at ms i)) (key_at source ms i ∷ pattern_in source (node_at ms (i + 3)) ∷ [])
  unfolding first key_at Kind.is_text
  variant_parts a =
      let p = variant-pair a in
      let K = node_at ms (i + 1) in
      let P = node_at ms (i + 3) in
      let S = if (eqb (kind_at ms i) Kind.default_variant) star in
      let same : (node_at ms i).kind ≡ kind_at ms i = node-kind a.at ∙ sym (at-kind a.at) in
      let value : of_kind source (λ k. eqb k Kind.pattern) (K ∷ P ∷ []) ≡ P ∷ of_kind source (λ k. eqb k Kind.pattern) [] =
      omits source Kind.pattern K (P ∷ [])
      (λ e. clash p.key.is_text (ap Kind.is_text (sym (node-kind p.key.at) ∙ e)))
      ∙ keeps source Kind.pattern P [] (node-kind p.value.at ∙ only p.value)
      in
      row_same
      (Text.variant_is source (node_at ms i)
      ∙ rw (same, p.both, value, first)
      (sym
      (then-assoc S (literal (ascii "[") ⊕ name source K ⊕ literal (ascii "]")) (pattern_in source P)
      ∙ ap (λ z. S ⊕ z)
      (then-assoc (literal (ascii "[")) (name source K ⊕ literal (ascii "]")) (pattern_in source P)
      ∙ ap (λ z. literal (ascii "[") ⊕ z)
      (then-assoc (name source K) (literal (ascii "]")) (pattern_in source P))))))
      (two (key_at source ms i) (pattern_in source P))

  -- arguments, in their parentheses
  module _ (a : OneAt boundary (Kind.arguments ∷ []) ms i) where
    pub arguments-entered : Entered boundary ms i Kind.arguments
    unfolding Kind.is_text
    arguments-entered = let b : At boundary ms i Kind.arguments = rw (only a) at a.at in enter b refl

    pub arguments-parts : Row (arguments_in source (node_at ms i))
        (literal (ascii "(") ∷ separated_of source false (nodes (inner_at ms (i + 1))) ∷ literal (ascii ")") ∷ [])
    arguments-parts =
        row_same (Text.arguments-is source (nodes (node_at ms i).inner) ∙ rw arguments-entered.inner)
        (three (literal (ascii "(")) (separated_of source false (nodes (inner_at ms (i + 1)))) (literal (ascii ")")))

  -- an argument: a value, or a name and a value
  module _ (a : OneAt boundary arguments ms i) where
    argument-value : (kind_at ms i ≡ Kind.named_argument → ⊥) → OneAt boundary inline ms i
        × (argument_of source (node_at ms i) ≡ inline_of source (node_at ms i))
    argument-value h = (
      others a h,
      Text.argument_is source (node_at ms i)
          ∙ rw
          (ne_eqb (node_at ms i).kind Kind.named_argument (λ e. h (at-kind a.at ∙ sym (node-kind a.at) ∙ e))),
    )

    argument-named : kind_at ms i ≡ Kind.named_argument → Pair boundary ms i inline
        × Row (argument_of source (node_at ms i))
        (argument_name source (node_at ms (i + 1)) ∷ inline_of source (node_at ms (i + 3)) ∷ [])
    unfolding first argument_name
    argument-named e =
        let b = at-as a e in
        let p = argument-pair b in
        let K = node_at ms (i + 1) in
        let P = node_at ms (i + 3) in (
          p,
          row_same
              (Text.argument_is source (node_at ms i)
              ∙ rw (eq-eqb (node_at ms i).kind Kind.named_argument (node-kind b), p.both)
              (Text.named_argument-is source K (P ∷ [])
              ∙ sym (then-assoc (name source K) (literal (ascii ": ")) (inline_of source P))))
              (two (argument_name source K) (inline_of source P)),
        )

    value-alone : (kind_at ms i ≡ Kind.named_argument → ⊥) → (j : ℕ) → j ≡ i → Argued source boundary ms i j false
    unfolding if
    value-alone h j e =
        let v = argument-value h in
        let x = inline_of source (node_at ms i) in
        rw e
        (record {
          key = λ z. clash z refl;
          value = v.0;
          parts = row_same (v.1 ∙ sym (empty-then x)) (two empty x);
          till = omega arith;
        })

    pub argued : Argued source boundary ms i (i + 3 * one_if (eqb (kind_at ms i) Kind.named_argument)) (eqb (kind_at ms i) Kind.named_argument)
    unfolding if
    argued =
        by_case (eqb (kind_at ms i) Kind.named_argument)
        (λ e. let is = eqb-true (kind_at ms i) Kind.named_argument e in let n = argument-named is in
        rw e (record { key = λ z. at-as a is; value = n.0.value; parts = n.1; till = n.0.till }))
        (λ e. rw e (value-alone (λ z. clash (eq-eqb (kind_at ms i) Kind.named_argument z) e) (i + 3 * 0) (omega arith)))
