-- The law on fuel: two that are each enough for the marks inside write the same.
use Rattle.std.specs.Prelude.{ℕ, zero, suc, ◌+◌, ◌-◌, ◌≤◌, ◌<◌, min, ◌≡◌, Bool, ◌&&◌, not, length, ltb}
use native.Mathlib.Omega.{arith}
use Rattle.std.proofs.Math.Path.{refl}
use Rattle.std.proofs.Common.{ap, ap₂, length-append, eqb-true}
use Rattle.std.proofs.Math.Bool.{true, false}
use mathlib.Core.List.{List, [], ◌∷◌}
use Rattle.std.proofs.Math.Dec.{eqb}
use Rattle.std.proofs.lemmas.Bool.{eqb-false}
use Rattle.syntax.specs.Kind as Kind
use Rattle.syntax.specs.Marks.{Mark, kind_of}
use Rattle.syntax.specs.Serializer.{Node, outside, opened, into, nodes_from, nodes, Piece, ◌⊕◌, newline, indented, each}
use Rattle.syntax.specs.Serializer.{first, of_kind, leading_dot, is_multiline, pattern, element, in_braces, expression}
use Rattle.syntax.specs.Serializer.{select, variant, inline, arguments, separated, argument, named_argument}
use Rattle.laws.specs.Balanced.Nodes.{pick_from}

-- how many marks nodes have, with those that open and close them
abbrev pub total : List Node → ℕ
total [] = 0
total (e ∷ es) = length e.inner + 2 + total es

-- h counts the marks of the node that is open
pick_total : (u v w : Bool) (o : Node) (d h : ℕ) (m : Mark) (ms : List Mark) → eqb d 0 ≡ v → eqb d 1 ≡ w → (0 < d → length o.inner < h)
    → ((z : Node) (i : ℕ) → (0 < i → length z.inner < suc h) → total (nodes_from z i ms) ≤ length ms + suc h)
    → total (nodes_from outside 0 ms) ≤ length ms
    → total (pick_from u v w o d m ms) ≤ suc (length ms) + h
pick_total true true w o d h m ms p q f g l = omega (arith, g (opened m) 1 (λ z. omega arith))
pick_total true false w o d h m ms p q f g l = let a = eqb-false d 0 p in let b = f (omega arith) in
    omega (arith, g (into o (m ∷ [])) (suc d) (λ z. omega (arith, length-append o.inner (m ∷ []))))
pick_total false v true o d h m ms p q f g l = omega (arith, f (omega (arith, eqb-true d 1 q)))
pick_total false v false o d h m ms p q f g l =
    omega (
      arith,
      g (into o (m ∷ [])) (d - 1) (λ z. let b = f (omega arith) in omega (arith, length-append o.inner (m ∷ []))),
    )

from-total : (o : Node) (d h : ℕ) (ms : List Mark) → (0 < d → length o.inner < h) → total (nodes_from o d ms) ≤ length ms + h
unfolding nodes_from
from-total o d h [] f = omega arith
from-total o d h (m ∷ ms) f =
    pick_total (ltb (kind_of m) 100) (eqb d 0) (eqb d 1) o d h m ms refl refl f (λ z i g. from-total z i (suc h) ms g)
    (let l = from-total outside 0 0 ms (λ z. absurd (omega arith)) in omega arith)

pub total-nodes : (ms : List Mark) → total (nodes ms) ≤ length ms
unfolding nodes
total-nodes ms = let l = from-total outside 0 0 ms (λ z. absurd (omega arith)) in omega arith

-- pieces of parts that are the same
pub both : {p p' q q' : Piece} → p ≡ p' → q ≡ q' → (p ⊕ q) ≡ (p' ⊕ q')
both a b = ap₂ ◌⊕◌ a b

pub either : (v : Bool) {p p' q q' : Piece} → p ≡ p' → q ≡ q'
    → ◌≡◌ {A = Piece} (elim v [ true ↦ p | false ↦ q ]) (elim v [ true ↦ p' | false ↦ q' ])
either true a b = a
either false a b = b

-- the same for each node of at most k marks
abbrev pub Alike : ℕ → (Node → Piece) → (Node → Piece) → Type 0
Alike k f g = (e : Node) → length e.inner + 2 ≤ k → f e ≡ g e

pub each_same : (f g : Node → Piece) (k : ℕ) (ns : List Node) → total ns ≤ k → Alike k f g → each f ns ≡ each g ns
unfolding each
each_same f g k [] l s = refl
each_same f g k (e ∷ es) l s = both (s e (omega arith)) (each_same f g k es (omega arith) s)

module _ (source : List ℕ) where
  total-kind : (p : ℕ → Bool) (ns : List Node) → total (of_kind source p ns) ≤ total ns
  unfolding of_kind
  total-kind p [] = omega arith
  total-kind p (e ∷ es) = go (p e.kind) (total-kind p es)
    where
      go : (v : Bool) → total (of_kind source p es) ≤ total es
          → total (elim v [ true ↦ e ∷ of_kind source p es | false ↦ of_kind source p es ]) ≤ total (e ∷ es)
      go true l = omega arith
      go false l = omega arith

  pub total-of_kind : (p : ℕ → Bool) (ms : List Mark) → total (of_kind source p (nodes ms)) ≤ length ms
  total-of_kind p ms = omega (arith, total-kind p (nodes ms), total-nodes ms)

  pub first-same : (f g : Node → Piece) (k : ℕ) (ns : List Node) → total ns ≤ k → Alike k f g → first source f ns ≡ first source g ns
  unfolding first
  first-same f g k [] l s = refl
  first-same f g k (e ∷ es) l s = s e (omega arith)

  -- what two fuels write, each enough
  pub record Same (n m : ℕ) : Type 0 where
    pub pattern : (ms : List Mark) → length ms < n → length ms < m → pattern source n ms ≡ pattern source m ms
    pub element : (e : Node) → length e.inner + 2 ≤ n → length e.inner + 2 ≤ m → element source n e ≡ element source m e
    pub in_braces : (x : Node) → length x.inner + 3 ≤ n → length x.inner + 3 ≤ m → in_braces source n x ≡ in_braces source m x
    pub expression : (x : Node) → length x.inner + 2 ≤ n → length x.inner + 2 ≤ m → expression source n x ≡ expression source m x
    pub select : (xs : List Node) → total xs < n → total xs < m → select source n xs ≡ select source m xs
    pub variant : (v : Node) → length v.inner + 2 ≤ n → length v.inner + 2 ≤ m → variant source n v ≡ variant source m v
    pub inline : (x : Node) → length x.inner < n → length x.inner < m → inline source n x ≡ inline source m x
    pub arguments : (xs : List Node) → total xs + 2 ≤ n → total xs + 2 ≤ m → arguments source n xs ≡ arguments source m xs
    pub separated : (written : Bool) (xs : List Node) → total xs < n → total xs < m
        → separated source n written xs ≡ separated source m written xs
    pub argument : (a : Node) → length a.inner + 2 ≤ n → length a.inner + 2 ≤ m → argument source n a ≡ argument source m a
    pub named_argument : (xs : List Node) → total xs < n → total xs < m → named_argument source n xs ≡ named_argument source m xs

  -- with one more of each
  module _ (n m : ℕ) (h : Same n m) where
    pattern-on : (ms : List Mark) → length ms ≤ n → length ms ≤ m → pattern source (suc n) ms ≡ pattern source (suc m) ms
    unfolding pattern
    pattern-on ms a b =
        let r =
        each_same (element source n) (element source m) (length ms) (nodes ms) (total-nodes ms)
        (λ e l. h.element e (omega arith) (omega arith)) in
        either (not (leading_dot source (nodes ms)) && is_multiline source (nodes ms)) (both refl (ap indented r)) (both refl r)

    element-on : (e : Node) → length e.inner < n → length e.inner < m → element source (suc n) e ≡ element source (suc m) e
    unfolding element
    element-on e a b =
        either (eqb e.kind Kind.text) refl
        (first-same (in_braces source n) (in_braces source m) (length e.inner) (nodes e.inner)
        (total-nodes e.inner) (λ x l. h.in_braces x (omega arith) (omega arith)))

    in_braces-on : (x : Node) → length x.inner + 2 ≤ n → length x.inner + 2 ≤ m → in_braces source (suc n) x ≡ in_braces source (suc m) x
    unfolding in_braces
    in_braces-on x a b =
        let r = h.expression x a b in
        either (eqb x.kind Kind.placeable)
        (both refl
        (both
        (first-same (expression source n) (expression source m) (length x.inner) (nodes x.inner)
        (total-nodes x.inner) (λ z l. h.expression z (omega arith) (omega arith))) refl))
        (either (eqb x.kind Kind.select) (both refl (both r refl)) (both refl (both r refl)))

    expression-on : (x : Node) → length x.inner < n → length x.inner < m → expression source (suc n) x ≡ expression source (suc m) x
    unfolding expression
    expression-on x a b = let l = total-nodes x.inner in
        either (eqb x.kind Kind.select) (h.select (nodes x.inner) (omega arith) (omega arith)) (h.inline x a b)

    select-on : (xs : List Node) → total xs ≤ n → total xs ≤ m → select source (suc n) xs ≡ select source (suc m) xs
    unfolding select
    select-on [] a b = refl
    select-on (x ∷ vs) a b =
        let r =
        each_same (λ v. variant source n v ⊕ newline) (λ v. variant source m v ⊕ newline) (total vs) vs
        (omega arith) (λ v l. both (h.variant v (omega arith) (omega arith)) refl) in
        both (h.inline x (omega arith) (omega arith)) (both refl (both refl (ap indented r)))

    variant-on : (v : Node) → length v.inner < n → length v.inner < m → variant source (suc n) v ≡ variant source (suc m) v
    unfolding variant
    variant-on v a b =
        let r =
        first-same (λ p. pattern source n p.inner) (λ p. pattern source m p.inner) (length v.inner) _
        (total-of_kind (λ k. eqb k Kind.pattern) v.inner)
        (λ p l. h.pattern p.inner (omega arith) (omega arith)) in
        both refl (both refl (both refl (both refl r)))

    inline-on : (x : Node) → length x.inner ≤ n → length x.inner ≤ m → inline source (suc n) x ≡ inline source (suc m) x
    unfolding inline
    inline-on x a b =
        let r =
        first-same (expression source n) (expression source m) (length x.inner) (nodes x.inner)
        (total-nodes x.inner) (λ z l. h.expression z (omega arith) (omega arith)) in
        let q =
        each_same (λ a. arguments source n (nodes a.inner)) (λ a. arguments source m (nodes a.inner))
        (length x.inner) _ (total-of_kind (λ j. eqb j Kind.arguments) x.inner)
        (λ z l. let t = total-nodes z.inner in h.arguments (nodes z.inner) (omega arith) (omega arith)) in
        either (eqb x.kind Kind.string) refl
        (either (eqb x.kind Kind.number) refl
        (either (eqb x.kind Kind.placeable) (both refl (both r refl)) (both refl (both refl (both refl q)))))

    arguments-on : (xs : List Node) → total xs < n → total xs < m → arguments source (suc n) xs ≡ arguments source (suc m) xs
    unfolding arguments
    arguments-on xs a b = both refl (both (h.separated false xs a b) refl)

    separated-on : (written : Bool) (xs : List Node) → total xs ≤ n → total xs ≤ m
        → separated source (suc n) written xs ≡ separated source (suc m) written xs
    unfolding separated
    separated-on written [] a b = refl
    separated-on written (x ∷ xs) a b =
        both refl (both (h.argument x (omega arith) (omega arith)) (h.separated true xs (omega arith) (omega arith)))

    argument-on : (a : Node) → length a.inner < n → length a.inner < m → argument source (suc n) a ≡ argument source (suc m) a
    unfolding argument
    argument-on x a b = let l = total-nodes x.inner in
        either (eqb x.kind Kind.named_argument) (h.named_argument (nodes x.inner) (omega arith) (omega arith))
        (h.inline x a b)

    named_argument-on : (xs : List Node) → total xs ≤ n → total xs ≤ m → named_argument source (suc n) xs ≡ named_argument source (suc m) xs
    unfolding named_argument
    named_argument-on [] a b = refl
    named_argument-on (i ∷ xs) a b =
        both refl
        (both refl
        (first-same (inline source n) (inline source m) (total xs) xs (omega arith)
        (λ x l. h.inline x (omega arith) (omega arith))))

    same-on : Same (suc n) (suc m)
    same-on = record {
      pattern = λ ms a b. pattern-on ms (omega arith) (omega arith);
      element = λ e a b. element-on e (omega arith) (omega arith);
      in_braces = λ x a b. in_braces-on x (omega arith) (omega arith);
      expression = λ x a b. expression-on x (omega arith) (omega arith);
      select = λ xs a b. select-on xs (omega arith) (omega arith);
      variant = λ v a b. variant-on v (omega arith) (omega arith);
      inline = λ x a b. inline-on x (omega arith) (omega arith);
      arguments = λ xs a b. arguments-on xs (omega arith) (omega arith);
      separated = λ w xs a b. separated-on w xs (omega arith) (omega arith);
      argument = λ x a b. argument-on x (omega arith) (omega arith);
      named_argument = λ xs a b. named_argument-on xs (omega arith) (omega arith);
    }

  -- where one is none it is not enough
  same_none : (n m : ℕ) → min n m ≡ 0 → Same n m
  same_none n m z = record {
    pattern = λ ms a b. absurd (omega arith);
    element = λ e a b. absurd (omega arith);
    in_braces = λ x a b. absurd (omega arith);
    expression = λ x a b. absurd (omega arith);
    select = λ xs a b. absurd (omega arith);
    variant = λ v a b. absurd (omega arith);
    inline = λ x a b. absurd (omega arith);
    arguments = λ xs a b. absurd (omega arith);
    separated = λ w xs a b. absurd (omega arith);
    argument = λ x a b. absurd (omega arith);
    named_argument = λ xs a b. absurd (omega arith);
  }

  pub same : (n m : ℕ) → Same n m
  same zero m = same_none zero m (omega arith)
  same (suc n) zero = same_none (suc n) zero (omega arith)
  same (suc n) (suc m) = same-on n m (same n m)
