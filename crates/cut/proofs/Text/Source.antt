-- The normal text reads the source only at its places.
use Prim.Native.Nat.{ℕ, zero, suc, ◌+◌, ◌-◌}
use Rattle.std.proofs.Math.Path.{◌≡◌, refl, ap, ap₂}
use Rattle.std.proofs.Common.{◌∙◌}
use Rattle.std.specs.Prelude.{Bool, ◌&&◌, ◌||◌, drop, length, take}
use Rattle.std.proofs.Math.Bool.{true, false, not}
use mathlib.Core.List.{List, [], ◌∷◌, map}
use Rattle.std.proofs.Math.ListN.{length-map}
use Rattle.std.proofs.Math.Dec.{eqb}
use Rattle.syntax.specs.Bytes.{starts_with}
use Rattle.syntax.specs.Marks.{Mark, plain, placed, up, move_up}
use Rattle.syntax.specs.Serializer as Ser
use Rattle.syntax.specs.Serializer.{Node, nodes, Piece, ◌⊕◌, literal, newline, indented, star}
use Rattle.laws.specs.Balanced.Nodes.{up_node, nodes-up, OkMark, OkMarks, OkNode, OkNodes, ok-nodes}

abbrev choice : Bool → Piece → Piece → Piece
choice v a b = elim v [ true ↦ a | false ↦ b ]

abbrev pattern_by : Bool → Piece → Piece
pattern_by v body = elim v [ true ↦ newline ⊕ indented body | false ↦ literal (32 ∷ []) ⊕ body ]

module _ (S S' : List ℕ) (k : ℕ) (P : ℕ → Type 0)
    (same_span : (p q : ℕ) → P p → P q → take (k + q - (k + p)) (drop (k + p) S') ≡ take (q - p) (drop p S)) where
  between-same : (m c : Mark) → OkMark P m → OkMark P c → Ser.between S' (up k m) (up k c) ≡ Ser.between S m c
  unfolding Ser.between
  between-same (plain i) c a b = refl
  between-same (placed i p) (plain j) a b = refl
  between-same (placed i p) (placed j q) a b = same_span p q a b

  text_same : (n : Node) → OkNode P n → Ser.text_of S' (up_node k n) ≡ Ser.text_of S n
  unfolding Ser.text_of
  text_same n a = between-same n.opening n.closing a.0 a.1

  name-same : (n : Node) → OkNode P n → Ser.name S' (up_node k n) ≡ Ser.name S n
  unfolding Ser.name
  name-same n a = ap literal (text_same n a)

  each_same : (f g : Node → Piece) → ((n : Node) → OkNode P n → f (up_node k n) ≡ g n) → (ns : List Node) → OkNodes P ns
      → Ser.each f (map (up_node k) ns) ≡ Ser.each g ns
  unfolding Ser.each
  each_same f g h [] a = refl
  each_same f g h (n ∷ ns) a = ap₂ (λ p q. p ⊕ q) (h n a.0) (each_same f g h ns a.1)

  first-same : (f g : Node → Piece) → ((n : Node) → OkNode P n → f (up_node k n) ≡ g n) → (ns : List Node) → OkNodes P ns
      → Ser.first S' f (map (up_node k) ns) ≡ Ser.first S g ns
  unfolding Ser.first
  first-same f g h [] a = refl
  first-same f g h (n ∷ ns) a = h n a.0

  of_kind-same : (t : ℕ → Bool) (ns : List Node) → Ser.of_kind S' t (map (up_node k) ns) ≡ map (up_node k) (Ser.of_kind S t ns)
  unfolding Ser.of_kind
  of_kind-same t [] = refl
  of_kind-same t (n ∷ ns) = go (t n.kind) (of_kind-same t ns)
    where
      go : (v : Bool) → Ser.of_kind S' t (map (up_node k) ns) ≡ map (up_node k) (Ser.of_kind S t ns)
          → ◌≡◌ {A = List Node}
          (elim v [
            | true ↦ up_node k n ∷ Ser.of_kind S' t (map (up_node k) ns)
            | false ↦ Ser.of_kind S' t (map (up_node k) ns)
          ])
          (map (up_node k) (elim v [ true ↦ n ∷ Ser.of_kind S t ns | false ↦ Ser.of_kind S t ns ]))
      go true e = ap (λ r. up_node k n ∷ r) e
      go false e = e

  of_kind-ok : (t : ℕ → Bool) (ns : List Node) → OkNodes P ns → OkNodes P (Ser.of_kind S t ns)
  unfolding Ser.of_kind
  of_kind-ok t [] a = tt
  of_kind-ok t (n ∷ ns) a = go (t n.kind) (of_kind-ok t ns a.1)
    where
      go : (v : Bool) → OkNodes P (Ser.of_kind S t ns) → OkNodes P (elim v [ true ↦ n ∷ Ser.of_kind S t ns | false ↦ Ser.of_kind S t ns ])
      go true b = (a.0, b)
      go false b = b

  -- the same for the nodes of marks
  each-inner : (f g : Node → Piece) → ((n : Node) → OkNode P n → f (up_node k n) ≡ g n) → (ms : List Mark) → OkMarks P ms
      → Ser.each f (nodes (move_up k ms)) ≡ Ser.each g (nodes ms)
  each-inner f g h ms a = ap (Ser.each f) (nodes-up k ms) ∙ each_same f g h (nodes ms) (ok-nodes P ms a)

  first_inner : (f g : Node → Piece) → ((n : Node) → OkNode P n → f (up_node k n) ≡ g n) → (ms : List Mark)
      → OkMarks P ms → Ser.first S' f (nodes (move_up k ms)) ≡ Ser.first S g (nodes ms)
  first_inner f g h ms a = ap (Ser.first S' f) (nodes-up k ms) ∙ first-same f g h (nodes ms) (ok-nodes P ms a)

  kind-inner : (t : ℕ → Bool) (ms : List Mark) → Ser.of_kind S' t (nodes (move_up k ms)) ≡ map (up_node k) (Ser.of_kind S t (nodes ms))
  kind-inner t ms = ap (Ser.of_kind S' t) (nodes-up k ms) ∙ of_kind-same t (nodes ms)

  length-same : (ms : List Mark) → length (move_up k ms) ≡ length ms
  unfolding move_up
  length-same ms = length-map ms (up k)

  -- tests
  has_newline-same : (t : List ℕ) → Ser.has_newline S' t ≡ Ser.has_newline S t
  unfolding Ser.has_newline
  has_newline-same [] = refl
  has_newline-same (b ∷ bs) = ap (λ v. eqb b 10 || v) (has_newline-same bs)

  is_select-same : (n : ℕ) (es : List Node) → Ser.is_select S' n (map (up_node k) es) ≡ Ser.is_select S n es
  unfolding Ser.is_select
  is_select-same zero es = refl
  is_select-same (suc n) [] = refl
  is_select-same (suc n) (e ∷ es) =
      ap (λ v. elim (eqb e.kind 14) [ true ↦ true | false ↦ elim (eqb e.kind 13) [ true ↦ v | false ↦ false ] ])
      (ap (Ser.is_select S' n) (nodes-up k e.inner) ∙ is_select-same n (nodes e.inner))

  multiline-element : (e : Node) → OkNode P e → Ser.multiline_element S' (up_node k e) ≡ Ser.multiline_element S e
  unfolding Ser.multiline_element
  multiline-element e a = ap₂ (λ u v. elim (eqb e.kind 12) [ true ↦ u | false ↦ v ])
      (ap (Ser.has_newline S') (text_same e a) ∙ has_newline-same (Ser.text_of S e))
      (ap₂ (λ i es. Ser.is_select S' (suc i) es) (length-same e.inner) (nodes-up k e.inner)
      ∙ is_select-same (suc (length e.inner)) (nodes e.inner))

  multiline-same : (es : List Node) → OkNodes P es → Ser.is_multiline S' (map (up_node k) es) ≡ Ser.is_multiline S es
  unfolding Ser.is_multiline
  multiline-same [] a = refl
  multiline-same (e ∷ es) a = ap₂ (λ u v. u || v) (multiline-element e a.0) (multiline-same es a.1)

  dot-same : (es : List Node) → OkNodes P es → Ser.leading_dot S' (map (up_node k) es) ≡ Ser.leading_dot S es
  unfolding Ser.leading_dot
  dot-same [] a = refl
  dot-same (e ∷ es) a = ap (λ t. eqb e.kind 12 && starts_with 46 t) (text_same e a.0)

  reference-same : (ns : List Node) → OkNodes P ns → Ser.reference S' (map (up_node k) ns) ≡ Ser.reference S ns
  unfolding Ser.reference
  reference-same [] a = refl
  reference-same (n ∷ ns) a = ap₂ (λ p q. p ⊕ q) (name-same n a.0)
      (each_same (λ x. literal (46 ∷ []) ⊕ Ser.name S' x) (λ x. literal (46 ∷ []) ⊕ Ser.name S x)
      (λ x b. ap (λ p. literal (46 ∷ []) ⊕ p) (name-same x b)) ns a.1)

  -- the functions that go into a pattern, n deep
  record Same (n : ℕ) : Type 0 where
    pattern : (ms : List Mark) → OkMarks P ms → Ser.pattern S' n (move_up k ms) ≡ Ser.pattern S n ms
    element : (e : Node) → OkNode P e → Ser.element S' n (up_node k e) ≡ Ser.element S n e
    in_braces : (e : Node) → OkNode P e → Ser.in_braces S' n (up_node k e) ≡ Ser.in_braces S n e
    expression : (e : Node) → OkNode P e → Ser.expression S' n (up_node k e) ≡ Ser.expression S n e
    select : (es : List Node) → OkNodes P es → Ser.select S' n (map (up_node k) es) ≡ Ser.select S n es
    variant : (e : Node) → OkNode P e → Ser.variant S' n (up_node k e) ≡ Ser.variant S n e
    inline : (e : Node) → OkNode P e → Ser.inline S' n (up_node k e) ≡ Ser.inline S n e
    arguments : (es : List Node) → OkNodes P es → Ser.arguments S' n (map (up_node k) es) ≡ Ser.arguments S n es
    separated : (v : Bool) (es : List Node) → OkNodes P es → Ser.separated S' n v (map (up_node k) es) ≡ Ser.separated S n v es
    argument : (e : Node) → OkNode P e → Ser.argument S' n (up_node k e) ≡ Ser.argument S n e
    named_argument : (es : List Node) → OkNodes P es → Ser.named_argument S' n (map (up_node k) es) ≡ Ser.named_argument S n es

  same-zero : Same 0
  unfolding Ser.pattern Ser.element Ser.in_braces Ser.expression Ser.select Ser.variant Ser.inline Ser.arguments
      Ser.separated Ser.argument Ser.named_argument
  same-zero =
      record {
        pattern = λ ms a. refl;
        element = λ e a. refl;
        in_braces = λ e a. refl;
        expression = λ e a. refl;
        select = λ e a. refl;
        variant = λ e a. refl;
        inline = λ e a. refl;
        arguments = λ e a. refl;
        separated = λ v e a. refl;
        argument = λ e a. refl;
        named_argument = λ e a. refl;
      }

  module _ (n : ℕ) (s : Same n) where
    pattern-suc : (ms : List Mark) → OkMarks P ms → Ser.pattern S' (suc n) (move_up k ms) ≡ Ser.pattern S (suc n) ms
    unfolding Ser.pattern
    pattern-suc ms a = ap₂ pattern_by
        (ap₂ (λ u v. not u && v) (ap (Ser.leading_dot S') (nodes-up k ms) ∙ dot-same (nodes ms) (ok-nodes P ms a))
        (ap (Ser.is_multiline S') (nodes-up k ms) ∙ multiline-same (nodes ms) (ok-nodes P ms a)))
        (each-inner (λ z. Ser.element S' n z) (λ z. Ser.element S n z) s.element ms a)

    element-suc : (e : Node) → OkNode P e → Ser.element S' (suc n) (up_node k e) ≡ Ser.element S (suc n) e
    unfolding Ser.element
    element-suc e a =
        ap₂ (choice (eqb e.kind 12)) (name-same e a)
        (first_inner (λ z. Ser.in_braces S' n z) (λ z. Ser.in_braces S n z) s.in_braces e.inner a.2)

    in_braces-suc : (e : Node) → OkNode P e → Ser.in_braces S' (suc n) (up_node k e) ≡ Ser.in_braces S (suc n) e
    unfolding Ser.in_braces
    in_braces-suc e a = ap₂ (λ p q. choice (eqb e.kind 13) (literal (123 ∷ 123 ∷ 32 ∷ []) ⊕ p ⊕ literal (32 ∷ 125 ∷ 125 ∷ []))
        (choice (eqb e.kind 14) (literal (123 ∷ 32 ∷ []) ⊕ q ⊕ literal (125 ∷ []))
        (literal (123 ∷ 32 ∷ []) ⊕ q ⊕ literal (32 ∷ 125 ∷ []))))
        (first_inner (λ z. Ser.expression S' n z) (λ z. Ser.expression S n z) s.expression e.inner a.2) (s.expression e a)

    expression-suc : (e : Node) → OkNode P e → Ser.expression S' (suc n) (up_node k e) ≡ Ser.expression S (suc n) e
    unfolding Ser.expression
    expression-suc e a =
        ap₂ (choice (eqb e.kind 14))
        (ap (Ser.select S' n) (nodes-up k e.inner) ∙ s.select (nodes e.inner) (ok-nodes P e.inner a.2))
        (s.inline e a)

    select-suc : (es : List Node) → OkNodes P es → Ser.select S' (suc n) (map (up_node k) es) ≡ Ser.select S (suc n) es
    unfolding Ser.select
    select-suc [] a = refl
    select-suc (x ∷ vs) a = ap₂ (λ p q. p ⊕ literal (32 ∷ 45 ∷ 62 ∷ []) ⊕ newline ⊕ indented q) (s.inline x a.0)
        (each_same (λ v. Ser.variant S' n v ⊕ newline) (λ v. Ser.variant S n v ⊕ newline)
        (λ v b. ap (λ p. p ⊕ newline) (s.variant v b)) vs a.1)

    variant-suc : (e : Node) → OkNode P e → Ser.variant S' (suc n) (up_node k e) ≡ Ser.variant S (suc n) e
    unfolding Ser.variant
    variant-suc e a = ap₂ (λ p q. Ser.if (eqb e.kind 16) star ⊕ literal (91 ∷ []) ⊕ p ⊕ literal (93 ∷ []) ⊕ q)
        (first_inner (Ser.name S') (Ser.name S) name-same e.inner a.2)
        (ap (Ser.first S' (λ p. Ser.pattern S' n p.inner)) (kind-inner (λ j. eqb j 11) e.inner)
        ∙ first-same (λ p. Ser.pattern S' n p.inner) (λ p. Ser.pattern S n p.inner)
        (λ p b. s.pattern p.inner b.2) (Ser.of_kind S (λ j. eqb j 11) (nodes e.inner))
        (of_kind-ok (λ j. eqb j 11) (nodes e.inner) (ok-nodes P e.inner a.2)))

    inline-suc : (e : Node) → OkNode P e → Ser.inline S' (suc n) (up_node k e) ≡ Ser.inline S (suc n) e
    unfolding Ser.inline
    inline-suc e a =
        ap₂ (λ p q. choice (eqb e.kind 19) (literal (34 ∷ []) ⊕ p ⊕ literal (34 ∷ [])) (choice (eqb e.kind 20) p q)) (name-same e a)
        (ap₂
        (λ p q. choice (eqb e.kind 13) (literal (123 ∷ []) ⊕ p ⊕ literal (125 ∷ []))
        (Ser.if (eqb e.kind 21) (literal (36 ∷ [])) ⊕ Ser.if (eqb e.kind 24) (literal (45 ∷ [])) ⊕ q))
        (first_inner (λ z. Ser.expression S' n z) (λ z. Ser.expression S n z) s.expression e.inner a.2)
        (ap₂ (λ p q. p ⊕ q)
        (ap (Ser.reference S') (kind-inner (λ j. eqb j 9) e.inner)
        ∙ reference-same (Ser.of_kind S (λ j. eqb j 9) (nodes e.inner))
        (of_kind-ok (λ j. eqb j 9) (nodes e.inner) (ok-nodes P e.inner a.2)))
        (ap (Ser.each (λ z. Ser.arguments S' n (nodes z.inner))) (kind-inner (λ j. eqb j 25) e.inner)
        ∙ each_same (λ z. Ser.arguments S' n (nodes z.inner)) (λ z. Ser.arguments S n (nodes z.inner))
        (λ z b. ap (Ser.arguments S' n) (nodes-up k z.inner)
        ∙ s.arguments (nodes z.inner) (ok-nodes P z.inner b.2))
        (Ser.of_kind S (λ j. eqb j 25) (nodes e.inner)) (of_kind-ok (λ j. eqb j 25) (nodes e.inner) (ok-nodes P e.inner a.2)))))

    arguments-suc : (es : List Node) → OkNodes P es → Ser.arguments S' (suc n) (map (up_node k) es) ≡ Ser.arguments S (suc n) es
    unfolding Ser.arguments
    arguments-suc es a = ap (λ p. literal (40 ∷ []) ⊕ p ⊕ literal (41 ∷ [])) (s.separated false es a)

    separated-suc : (v : Bool) (es : List Node) → OkNodes P es
        → Ser.separated S' (suc n) v (map (up_node k) es) ≡ Ser.separated S (suc n) v es
    unfolding Ser.separated
    separated-suc v [] a = refl
    separated-suc v (x ∷ xs) a = ap₂ (λ p q. Ser.if v (literal (44 ∷ 32 ∷ [])) ⊕ p ⊕ q) (s.argument x a.0) (s.separated true xs a.1)

    argument-suc : (e : Node) → OkNode P e → Ser.argument S' (suc n) (up_node k e) ≡ Ser.argument S (suc n) e
    unfolding Ser.argument
    argument-suc e a =
        ap₂ (choice (eqb e.kind 26))
        (ap (Ser.named_argument S' n) (nodes-up k e.inner)
        ∙ s.named_argument (nodes e.inner) (ok-nodes P e.inner a.2))
        (s.inline e a)

    named-suc : (es : List Node) → OkNodes P es → Ser.named_argument S' (suc n) (map (up_node k) es) ≡ Ser.named_argument S (suc n) es
    unfolding Ser.named_argument
    named-suc [] a = refl
    named-suc (i ∷ xs) a =
        ap₂ (λ p q. p ⊕ literal (58 ∷ 32 ∷ []) ⊕ q) (name-same i a.0)
        (first-same (λ z. Ser.inline S' n z) (λ z. Ser.inline S n z) s.inline xs a.1)

  same : (n : ℕ) → Same n
  same zero = same-zero
  same (suc n) = let s = same n in
      record {
        pattern = pattern-suc n s;
        element = element-suc n s;
        in_braces = in_braces-suc n s;
        expression = expression-suc n s;
        select = select-suc n s;
        variant = variant-suc n s;
        inline = inline-suc n s;
        arguments = arguments-suc n s;
        separated = separated-suc n s;
        argument = argument-suc n s;
        named_argument = named-suc n s;
      }

  -- entries
  pattern-first : (i : ℕ) (ms : List Mark) → OkMarks P ms
      → Ser.first S' (λ p. Ser.pattern S' i p.inner) (Ser.of_kind S' (λ j. eqb j 11) (nodes (move_up k ms)))
      ≡ Ser.first S (λ p. Ser.pattern S i p.inner) (Ser.of_kind S (λ j. eqb j 11) (nodes ms))
  pattern-first i ms a = ap (Ser.first S' (λ p. Ser.pattern S' i p.inner)) (kind-inner (λ j. eqb j 11) ms)
      ∙ first-same (λ p. Ser.pattern S' i p.inner) (λ p. Ser.pattern S i p.inner)
      (λ p b. (same i).pattern p.inner b.2) (Ser.of_kind S (λ j. eqb j 11) (nodes ms))
      (of_kind-ok (λ j. eqb j 11) (nodes ms) (ok-nodes P ms a))

  attribute-same : (e : Node) → OkNode P e → Ser.attribute S' (up_node k e) ≡ Ser.attribute S e
  unfolding Ser.attribute
  attribute-same e a = ap₂ (λ p q. newline ⊕ literal (46 ∷ []) ⊕ p ⊕ literal (32 ∷ 61 ∷ []) ⊕ q)
      (first_inner (Ser.name S') (Ser.name S) name-same e.inner a.2)
      (ap
      (λ i. Ser.first S' (λ p. Ser.pattern S' i p.inner)
      (Ser.of_kind S' (λ j. eqb j 11) (nodes (move_up k e.inner))))
      (length-same e.inner)
      ∙ pattern-first (length e.inner) e.inner a.2)

  attributes-same : (ns : List Node) → OkNodes P ns → Ser.attributes S' (map (up_node k) ns) ≡ Ser.attributes S ns
  unfolding Ser.attributes Ser.is_empty
  attributes-same [] a = refl
  attributes-same (n ∷ ns) a = ap indented (each_same (Ser.attribute S') (Ser.attribute S) attribute-same (n ∷ ns) a)

  message-same : (ms : List Mark) → OkMarks P ms → Ser.message S' (move_up k ms) ≡ Ser.message S ms
  unfolding Ser.message
  message-same ms a = ap₂ (λ p q. p ⊕ literal (32 ∷ 61 ∷ []) ⊕ q)
      (first_inner (Ser.name S') (Ser.name S) name-same ms a)
      (ap₂ (λ p q. p ⊕ q ⊕ newline)
      (ap (λ i. Ser.each (λ p. Ser.pattern S' i p.inner) (Ser.of_kind S' (λ j. eqb j 11) (nodes (move_up k ms)))) (length-same ms)
      ∙ ap (Ser.each (λ p. Ser.pattern S' (length ms) p.inner)) (kind-inner (λ j. eqb j 11) ms)
      ∙ each_same (λ p. Ser.pattern S' (length ms) p.inner) (λ p. Ser.pattern S (length ms) p.inner)
      (λ p b. (same (length ms)).pattern p.inner b.2) (Ser.of_kind S (λ j. eqb j 11) (nodes ms))
      (of_kind-ok (λ j. eqb j 11) (nodes ms) (ok-nodes P ms a)))
      (ap (Ser.attributes S') (kind-inner (λ j. eqb j 10) ms)
      ∙ attributes-same (Ser.of_kind S (λ j. eqb j 10) (nodes ms))
      (of_kind-ok (λ j. eqb j 10) (nodes ms) (ok-nodes P ms a))))

  line_same : (prefix : List ℕ) (e : Node) → OkNode P e → Ser.comment_line S' prefix (up_node k e) ≡ Ser.comment_line S prefix e
  unfolding Ser.comment_line Ser.blank_line
  line_same prefix e a =
      ap (λ t. literal prefix ⊕ Ser.if (not (Ser.blank_line S t)) (literal (32 ∷ []) ⊕ literal t) ⊕ newline)
      (text_same e a)

  comment-same : (prefix : List ℕ) (ms : List Mark) → OkMarks P ms → Ser.comment S' prefix (move_up k ms) ≡ Ser.comment S prefix ms
  unfolding Ser.comment
  comment-same prefix ms a = each-inner (Ser.comment_line S' prefix) (Ser.comment_line S prefix) (line_same prefix) ms a

  free-same : (w : Bool) (prefix : List ℕ) (ms : List Mark) → OkMarks P ms
      → Ser.free_comment S' w prefix (move_up k ms) ≡ Ser.free_comment S w prefix ms
  unfolding Ser.free_comment
  free-same w prefix ms a = ap (λ p. Ser.if w newline ⊕ p ⊕ newline) (comment-same prefix ms a)

  entry-same : (junk w : Bool) (e : Node) → OkNode P e → Ser.entry S' junk w (up_node k e) ≡ Ser.entry S junk w e
  unfolding Ser.entry
  entry-same junk w e a =
      ap₂ (choice (eqb e.kind 7)) (ap (λ t. Ser.if junk (literal t)) (text_same e a))
      (ap₂ (choice (eqb e.kind 6)) (comment-same (35 ∷ []) e.inner a.2)
      (ap₂ (choice (eqb e.kind 3)) (free-same w (35 ∷ []) e.inner a.2)
      (ap₂ (choice (eqb e.kind 4)) (free-same w (35 ∷ 35 ∷ []) e.inner a.2)
      (ap₂ (choice (eqb e.kind 5)) (free-same w (35 ∷ 35 ∷ 35 ∷ []) e.inner a.2)
      (ap (λ p. Ser.if (eqb e.kind 2) (literal (45 ∷ [])) ⊕ p) (message-same e.inner a.2))))))

  pub resource-same : (junk w : Bool) (ns : List Node) → OkNodes P ns
      → Ser.resource S' junk w (map (up_node k) ns) ≡ Ser.resource S junk w ns
  unfolding Ser.resource Ser.wrote_by
  resource-same junk w [] a = refl
  resource-same junk w (n ∷ ns) a =
      ap₂ (λ p q. p ⊕ q) (entry-same junk w n a.0) (resource-same junk (Ser.wrote_by S w n.kind) ns a.1)
