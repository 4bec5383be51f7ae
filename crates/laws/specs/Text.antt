-- The writer's pieces without their fuel. Any fuel that is enough for the marks inside writes the same, and each piece
-- is the row of its parts.
pub mod Fuel
pub mod Length
pub mod Utf8
use Prim.Native.Nat.{ℕ, suc, ◌+◌, ◌≤◌, ◌<◌}
use Rattle.std.proofs.Common.{arith, ap}
use Rattle.std.specs.Prelude.{◌≡◌, Bool, ◌&&◌, not, List, [], ◌∷◌}
use Rattle.std.proofs.Math.Path.{refl}
use Rattle.std.proofs.Math.Bool.{true, false}
use Rattle.std.proofs.Math.ListN.{length}
use Rattle.std.proofs.Math.Dec.{eqb}
use Rattle.syntax.specs.Kind as Kind
use Rattle.syntax.specs.Bytes.{ascii}
use Rattle.syntax.specs.Marks.{Mark}
use Rattle.syntax.specs.Serializer.{Node, nodes, Piece, ◌⊕◌, empty, literal, newline, indented, star, each, if, first}
use Rattle.syntax.specs.Serializer.{of_kind, name, leading_dot, is_multiline, reference}
use Rattle.syntax.specs.Serializer as Serializer
use Rattle.laws.specs.Text.Fuel.{total, total-nodes, total-of_kind, both, either, each_same, first-same, same}

module _ (source : List ℕ) where
  pub pattern_of : List Mark → Piece
  pattern_of ms = Serializer.pattern source (suc (length ms)) ms

  pub element_of : Node → Piece
  element_of e = Serializer.element source (suc (suc (length e.inner))) e

  pub in_braces_of : Node → Piece
  in_braces_of x = Serializer.in_braces source (suc (suc (suc (length x.inner)))) x

  pub expression_of : Node → Piece
  expression_of x = Serializer.expression source (suc (suc (length x.inner))) x

  pub select_of : List Node → Piece
  select_of xs = Serializer.select source (suc (total xs)) xs

  pub variant_of : Node → Piece
  variant_of v = Serializer.variant source (suc (suc (length v.inner))) v

  pub inline_of : Node → Piece
  inline_of x = Serializer.inline source (suc (length x.inner)) x

  pub arguments_of : List Node → Piece
  arguments_of xs = Serializer.arguments source (suc (suc (total xs))) xs

  pub separated_of : Bool → List Node → Piece
  separated_of written xs = Serializer.separated source (suc (total xs)) written xs

  pub argument_of : Node → Piece
  argument_of a = Serializer.argument source (suc (suc (length a.inner))) a

  pub named_argument_of : List Node → Piece
  named_argument_of xs = Serializer.named_argument source (suc (total xs)) xs

  -- more fuel writes the same
  pub pattern-fuel : (n : ℕ) (ms : List Mark) → length ms < n → Serializer.pattern source n ms ≡ pattern_of ms
  unfolding pattern_of
  pattern-fuel n ms l = (same source n _).pattern ms l (omega arith)

  element-fuel : (n : ℕ) (e : Node) → length e.inner + 2 ≤ n → Serializer.element source n e ≡ element_of e
  unfolding element_of
  element-fuel n e l = (same source n _).element e l (omega arith)

  in_braces-fuel : (n : ℕ) (x : Node) → length x.inner + 3 ≤ n → Serializer.in_braces source n x ≡ in_braces_of x
  unfolding in_braces_of
  in_braces-fuel n x l = (same source n _).in_braces x l (omega arith)

  expression-fuel : (n : ℕ) (x : Node) → length x.inner + 2 ≤ n → Serializer.expression source n x ≡ expression_of x
  unfolding expression_of
  expression-fuel n x l = (same source n _).expression x l (omega arith)

  select-fuel : (n : ℕ) (xs : List Node) → total xs < n → Serializer.select source n xs ≡ select_of xs
  unfolding select_of
  select-fuel n xs l = (same source n _).select xs l (omega arith)

  variant-fuel : (n : ℕ) (v : Node) → length v.inner + 2 ≤ n → Serializer.variant source n v ≡ variant_of v
  unfolding variant_of
  variant-fuel n v l = (same source n _).variant v l (omega arith)

  inline-fuel : (n : ℕ) (x : Node) → length x.inner < n → Serializer.inline source n x ≡ inline_of x
  unfolding inline_of
  inline-fuel n x l = (same source n _).inline x l (omega arith)

  arguments-fuel : (n : ℕ) (xs : List Node) → total xs + 2 ≤ n → Serializer.arguments source n xs ≡ arguments_of xs
  unfolding arguments_of
  arguments-fuel n xs l = (same source n _).arguments xs l (omega arith)

  separated-fuel : (n : ℕ) (written : Bool) (xs : List Node) → total xs < n
      → Serializer.separated source n written xs ≡ separated_of written xs
  unfolding separated_of
  separated-fuel n written xs l = (same source n _).separated written xs l (omega arith)

  argument-fuel : (n : ℕ) (a : Node) → length a.inner + 2 ≤ n → Serializer.argument source n a ≡ argument_of a
  unfolding argument_of
  argument-fuel n a l = (same source n _).argument a l (omega arith)

  named_argument-fuel : (n : ℕ) (xs : List Node) → total xs < n → Serializer.named_argument source n xs ≡ named_argument_of xs
  unfolding named_argument_of
  named_argument-fuel n xs l = (same source n _).named_argument xs l (omega arith)

  -- the patterns inside
  patterns-same : (n : ℕ) (ms : List Mark) → length ms ≤ n
      → first source (λ p. Serializer.pattern source n p.inner) (of_kind source (λ k. eqb k Kind.pattern) (nodes ms))
      ≡ first source (λ p. pattern_of p.inner) (of_kind source (λ k. eqb k Kind.pattern) (nodes ms))
  patterns-same n ms h =
      first-same source (λ p. Serializer.pattern source n p.inner) (λ p. pattern_of p.inner) (length ms) _
      (total-of_kind source (λ k. eqb k Kind.pattern) ms) (λ p l. pattern-fuel n p.inner (omega arith))

  -- each as the row of its parts
  pub pattern-is : (ms : List Mark)
      → pattern_of ms
      ≡ (let es = nodes ms in
      elim
      (not (leading_dot source es) && is_multiline source es) [
        | true ↦ newline ⊕ indented (each element_of es)
        | false ↦ literal (ascii " ") ⊕ each element_of es
      ])
  unfolding pattern_of Serializer.pattern
  pattern-is ms =
      let r =
      each_same (Serializer.element source (length ms)) element_of (length ms) (nodes ms) (total-nodes ms)
      (λ e l. element-fuel (length ms) e l) in
      either (not (leading_dot source (nodes ms)) && is_multiline source (nodes ms)) (both refl (ap indented r)) (both refl r)

  pub element-is : (e : Node)
      → element_of e ≡ elim
      (eqb e.kind Kind.text) [ true ↦ name source e | false ↦ first source in_braces_of (nodes e.inner) ]
  unfolding element_of Serializer.element
  element-is e =
      let ms = e.inner in
      either (eqb e.kind Kind.text) refl
      (first-same source (Serializer.in_braces source (suc (length ms))) in_braces_of (length ms) (nodes ms)
      (total-nodes ms) (λ x l. in_braces-fuel (suc (length ms)) x (omega arith)))

  pub in_braces-is : (x : Node)
      → in_braces_of x ≡ elim (eqb x.kind Kind.placeable) [
        | true ↦ literal (ascii "{{ ") ⊕ first source expression_of (nodes x.inner) ⊕ literal (ascii " }}")
        | false ↦ elim (eqb x.kind Kind.select) [
          | true ↦ literal (ascii "{ ") ⊕ expression_of x ⊕ literal (ascii "}")
          | false ↦ literal (ascii "{ ") ⊕ expression_of x ⊕ literal (ascii " }")
        ]
      ]
  unfolding in_braces_of Serializer.in_braces
  in_braces-is x =
      let ms = x.inner in
      let n = suc (suc (length ms)) in
      let r = expression-fuel n x (omega arith) in
      either (eqb x.kind Kind.placeable)
      (both refl
      (both
      (first-same source (Serializer.expression source n) expression_of (length ms) (nodes ms) (total-nodes ms)
      (λ z l. expression-fuel n z (omega arith))) refl))
      (either (eqb x.kind Kind.select) (both refl (both r refl)) (both refl (both r refl)))

  pub expression-is : (x : Node)
      → expression_of x ≡ elim (eqb x.kind Kind.select) [ true ↦ select_of (nodes x.inner) | false ↦ inline_of x ]
  unfolding expression_of Serializer.expression
  expression-is x =
      let n = suc (length x.inner) in
      let l = total-nodes x.inner in
      either (eqb x.kind Kind.select) (select-fuel n (nodes x.inner) (omega arith)) (inline-fuel n x (omega arith))

  pub select-is : (x : Node) (vs : List Node)
      → select_of (x ∷ vs)
      ≡ (inline_of x ⊕ literal (ascii " ->") ⊕ newline ⊕ indented (each (λ v. variant_of v ⊕ newline) vs))
  unfolding select_of Serializer.select
  select-is x vs =
      let n = total (x ∷ vs) in
      let r =
      each_same (λ v. Serializer.variant source n v ⊕ newline) (λ v. variant_of v ⊕ newline) (total vs) vs
      (omega arith) (λ v l. both (variant-fuel n v (omega arith)) refl) in
      both (inline-fuel n x (omega arith)) (both refl (both refl (ap indented r)))

  pub variant_is : (v : Node)
      → variant_of v
      ≡ (if (eqb v.kind Kind.default_variant) star ⊕ literal (ascii "[")
      ⊕ first source (name source) (nodes v.inner) ⊕ literal (ascii "]")
      ⊕ first source (λ p. pattern_of p.inner) (of_kind source (λ k. eqb k Kind.pattern) (nodes v.inner)))
  unfolding variant_of Serializer.variant
  variant_is v =
      let n = suc (length v.inner) in
      both refl (both refl (both refl (both refl (patterns-same n v.inner (omega arith)))))

  pub inline-is : (x : Node)
      → inline_of x ≡ elim (eqb x.kind Kind.string) [
        | true ↦ literal (ascii "\"") ⊕ name source x ⊕ literal (ascii "\"")
        | false ↦ elim (eqb x.kind Kind.number) [
          | true ↦ name source x
          | false ↦ elim (eqb x.kind Kind.placeable) [
            | true ↦ literal (ascii "{") ⊕ first source expression_of (nodes x.inner) ⊕ literal (ascii "}")
            | false ↦ (if (eqb x.kind Kind.variable) (literal (ascii "$")) ⊕ if (eqb x.kind Kind.term_reference) (literal (ascii "-"))
                ⊕ reference source (of_kind source (λ j. eqb j Kind.identifier) (nodes x.inner))
                ⊕ each (λ a. arguments_of (nodes a.inner))
                (of_kind source (λ j. eqb j Kind.arguments) (nodes x.inner)))
          ]
        ]
      ]
  unfolding inline_of Serializer.inline
  inline-is x =
      let ms = x.inner in
      let n = length ms in
      let r =
      first-same source (Serializer.expression source n) expression_of n (nodes ms) (total-nodes ms)
      (λ z l. expression-fuel n z l) in
      let q =
      each_same (λ a. Serializer.arguments source n (nodes a.inner)) (λ a. arguments_of (nodes a.inner)) n _
      (total-of_kind source (λ j. eqb j Kind.arguments) ms)
      (λ a l. let t = total-nodes a.inner in arguments-fuel n (nodes a.inner) (omega arith)) in
      either (eqb x.kind Kind.string) refl
      (either (eqb x.kind Kind.number) refl
      (either (eqb x.kind Kind.placeable) (both refl (both r refl)) (both refl (both refl (both refl q)))))

  pub arguments-is : (xs : List Node) → arguments_of xs ≡ (literal (ascii "(") ⊕ separated_of false xs ⊕ literal (ascii ")"))
  unfolding arguments_of Serializer.arguments
  arguments-is xs = both refl (both (separated-fuel (suc (total xs)) false xs (omega arith)) refl)

  pub separated-none : (written : Bool) → separated_of written [] ≡ empty
  unfolding separated_of Serializer.separated
  separated-none written = refl

  pub separated-is : (written : Bool) (a : Node) (rest : List Node)
      → separated_of written (a ∷ rest) ≡ (if written (literal (ascii ", ")) ⊕ argument_of a ⊕ separated_of true rest)
  unfolding separated_of Serializer.separated
  separated-is written a rest = let n = total (a ∷ rest) in
      both refl (both (argument-fuel n a (omega arith)) (separated-fuel n true rest (omega arith)))

  pub argument_is : (a : Node)
      → argument_of a ≡ elim
      (eqb a.kind Kind.named_argument) [ true ↦ named_argument_of (nodes a.inner) | false ↦ inline_of a ]
  unfolding argument_of Serializer.argument
  argument_is a =
      let n = suc (length a.inner) in
      let l = total-nodes a.inner in
      either (eqb a.kind Kind.named_argument) (named_argument-fuel n (nodes a.inner) (omega arith)) (inline-fuel n a (omega arith))

  pub named_argument-is : (i : Node) (xs : List Node)
      → named_argument_of (i ∷ xs) ≡ (name source i ⊕ literal (ascii ": ") ⊕ first source inline_of xs)
  unfolding named_argument_of Serializer.named_argument
  named_argument-is i xs = let n = total (i ∷ xs) in
      both refl
      (both refl
      (first-same source (Serializer.inline source n) inline_of (total xs) xs (omega arith)
      (λ x l. inline-fuel n x (omega arith))))

  -- what has patterns
  pub attribute-is : (a : Node)
      → Serializer.attribute source a
      ≡ (newline ⊕ literal (ascii ".") ⊕ first source (name source) (nodes a.inner) ⊕ literal (ascii " =")
      ⊕ first source (λ p. pattern_of p.inner) (of_kind source (λ k. eqb k Kind.pattern) (nodes a.inner)))
  unfolding Serializer.attribute
  attribute-is a = both refl (both refl (both refl (both refl (patterns-same (length a.inner) a.inner (omega arith)))))

  pub message-is : (ms : List Mark)
      → Serializer.message source ms
      ≡ (first source (name source) (nodes ms) ⊕ literal (ascii " =")
      ⊕ each (λ p. pattern_of p.inner) (of_kind source (λ k. eqb k Kind.pattern) (nodes ms))
      ⊕ Serializer.attributes source (of_kind source (λ k. eqb k Kind.attribute) (nodes ms)) ⊕ newline)
  unfolding Serializer.message
  message-is ms =
      let r =
      each_same (λ p. Serializer.pattern source (length ms) p.inner) (λ p. pattern_of p.inner) (length ms) _
      (total-of_kind source (λ k. eqb k Kind.pattern) ms)
      (λ p l. pattern-fuel (length ms) p.inner (omega arith)) in
      both refl (both refl (both r refl))
