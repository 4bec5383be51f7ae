-- References: their names, and what follows these.
use Prim.Native.Nat.{ℕ, ◌+◌, ◌≤◌}
use native.Mathlib.Omega.{arith}
use mathlib.Core.Path.{◌≡◌, refl, ap, ◌∙◌}
use mathlib.Core.Bool.{Bool, true, false, ◌&&◌, ◌||◌, not, and-eq-true_iff}
use mathlib.Core.List.{List, [], ◌∷◌}
use mathlib.Core.Option.{some}
use lib.Dec.{eqb, leb}
use lib.ListN.{length}
use borrow.Author.Tests.{eqb-true, leb-true}
use Rattle.syntax.specs.Kind as Kind
use Rattle.syntax.specs.Marks.{Mark}
use Rattle.syntax.specs.Shape.{start, among, models, step}
use Rattle.syntax.specs.Serializer.{nodes_from, nodes}
use Rattle.laws.specs.Bytes.{by_case, clash}
use Rattle.laws.specs.Shape.Run.{otherwise, every_move, child-rule, rule, end-rule}
use Rattle.tree.specs.Walk.{kind_at, node_at, after, inner_at, At, Inside, references, Call}
use Rattle.tree.specs.Walk as Spec
use Rattle.tree.proofs.Walk.{Next, ends, goes, next, at-kind}
use Rattle.tree.proofs.Children.{Follows, none}

-- a reference's moves: its name first, then an attribute's name at most, then arguments at most
abbrev stuck : (k q : ℕ) → Bool
stuck k q = every_move (λ k' q' j r. not (eqb k k' && eqb q q') || (among j [] && eqb r 0)) models

abbrev moved : (k q j r : ℕ) → Bool
moved k q j r =
    not (among k references)
    || ((eqb q 0 && (eqb j Kind.identifier && eqb r 1))
    || ((eqb q 1 && (eqb j Kind.identifier && eqb r 2)) || (leb 1 q && (eqb j Kind.arguments && stuck k r))))

data Moved (k q j r : ℕ) : Type 0 where
  named : q ≡ 0 → j ≡ Kind.identifier → r ≡ 1 → Moved k q j r
  further : q ≡ 1 → j ≡ Kind.identifier → r ≡ 2 → Moved k q j r
  called : 1 ≤ q → j ≡ Kind.arguments → stuck k r ≡ true → Moved k q j r

three-true : (a b c : Bool) → (a && (b && c)) ≡ true → (a ≡ true) × ((b ≡ true) × (c ≡ true))
three-true a b c h = let x = (and-eq-true_iff a (b && c)).0 h in (x.0, (and-eq-true_iff b c).0 x.1)

moves_of : (k q j r : ℕ) → among k references ≡ true → step k q j ≡ some r → Moved k q j r
unfolding models among
moves_of k q j r h s =
    let t = otherwise (not (among k references)) _ (rule moved refl k q j r s) (ap not h) in
    by_case (eqb q 0 && (eqb j Kind.identifier && eqb r 1))
    (λ e. let x = three-true _ _ _ e in named (eqb-true q 0 x.0) (eqb-true j Kind.identifier x.1.0) (eqb-true r 1 x.1.1))
    (λ e. let t₁ = otherwise _ _ t e in
    by_case (eqb q 1 && (eqb j Kind.identifier && eqb r 2))
    (λ z. let x = three-true _ _ _ z in further (eqb-true q 1 x.0) (eqb-true j Kind.identifier x.1.0) (eqb-true r 2 x.1.1))
    (λ z. let x = three-true _ _ _ (otherwise _ _ t₁ z) in called (leb-true 1 q x.0) (eqb-true j Kind.arguments x.1.0) x.1.1))

untrue : (b : Bool) → not b ≡ true → b ≡ false
untrue true e = clash e refl
untrue false e = refl

pub reference-plain : (k : ℕ) → among k references ≡ true → Kind.is_text k ≡ false
unfolding Kind.is_text among
reference-plain k h = untrue (Kind.is_text k) (child-rule (λ j. not (Kind.is_text j)) references k refl h)

module _ {boundary : ℕ → Bool} {ms : List Mark} {i k : ℕ} (h : among k references ≡ true) where
  -- the name of a reference
  pub first-name : Inside boundary ms i k start → Follows boundary ms i k (Kind.identifier ∷ []) 1
  unfolding among models
  first-name n = go (next n)
    where
      from : (j r : ℕ) → Moved k start j r → At boundary ms i j → Inside boundary ms (after ms i) k r
          → nodes (inner_at ms i) ≡ node_at ms i ∷ nodes (inner_at ms (after ms i))
          → i + length (inner_at ms i) ≡ after ms i + length (inner_at ms (after ms i))
          → Follows boundary ms i k (Kind.identifier ∷ []) 1
      from j r (named q e f) a o ns l = record { child = record { kind = j; one = rw e; at = a }; on = rw f at o; split = ns; till = l }
      from j r (further q e f) a o ns l = absurd (omega arith)
      from j r (called q e f) a o ns l = absurd (omega arith)

      go : Next boundary ms i k start → Follows boundary ms i k (Kind.identifier ∷ []) 1
      go (ends c z f) =
          clash (rw h)
          (untrue (among k references && eqb start start)
          (end-rule (λ k q. not (among k references && eqb q start)) refl k start f))
      go (goes j r s a o ns l) = from j r (moves_of k start j r h s) a o ns l

  -- an attribute's name after it
  pub second-name : Inside boundary ms i k 1 → kind_at ms i ≡ Kind.identifier → Follows boundary ms i k (Kind.identifier ∷ []) 2
  unfolding among
  second-name n x = go (next n)
    where
      from : (j r : ℕ) → Moved k 1 j r → At boundary ms i j → Inside boundary ms (after ms i) k r
          → nodes (inner_at ms i) ≡ node_at ms i ∷ nodes (inner_at ms (after ms i))
          → i + length (inner_at ms i) ≡ after ms i + length (inner_at ms (after ms i))
          → Follows boundary ms i k (Kind.identifier ∷ []) 2
      from j r (named q e f) a o ns l = absurd (omega arith)
      from j r (further q e f) a o ns l = record { child = record { kind = j; one = rw e; at = a }; on = rw f at o; split = ns; till = l }
      from j r (called q e f) a o ns l = absurd (omega (arith, at-kind a))

      go : Next boundary ms i k 1 → Follows boundary ms i k (Kind.identifier ∷ []) 2
      go (ends c z f) = absurd (omega arith)
      go (goes j r s a o ns l) = from j r (moves_of k 1 j r h s) a o ns l

  pub no_name : Inside boundary ms i k 2 → kind_at ms i ≡ Kind.identifier → ⊥
  no_name n x = go (next n)
    where
      from : (j r : ℕ) → Moved k 2 j r → At boundary ms i j → ⊥
      from j r (named q e f) a = omega arith
      from j r (further q e f) a = omega arith
      from j r (called q e f) a = omega (arith, at-kind a)

      go : Next boundary ms i k 2 → ⊥
      go (ends c z f) = omega arith
      go (goes j r s a o ns l) = from j r (moves_of k 2 j r h s) a

  -- where no name is next
  pub call-here : {q : ℕ} → 1 ≤ q → Inside boundary ms i k q → (kind_at ms i ≡ Kind.identifier → ⊥) → Call boundary ms i
  unfolding nodes nodes_from
  call-here {q} l n x = go (next n)
    where
      from : (j r : ℕ) → Moved k q j r → At boundary ms i j → Inside boundary ms (after ms i) k r
          → nodes (inner_at ms i) ≡ node_at ms i ∷ nodes (inner_at ms (after ms i))
          → i + length (inner_at ms i) ≡ after ms i + length (inner_at ms (after ms i))
          → Call boundary ms i
      from j r (named z e f) a o ns t = absurd (omega arith)
      from j r (further z e f) a o ns t = absurd (x (at-kind a ∙ e))
      from j r (called z e f) a o ns t = let y = none 0 f o in
          Spec.some (rw e at a) (ns ∙ ap (λ r. node_at ms i ∷ nodes r) y) (omega (arith, ap length y))

      go : Next boundary ms i k q → Call boundary ms i
      go (ends c z f) = Spec.none (omega arith) z
      go (goes j r s a o ns t) = from j r (moves_of k q j r h s) a o ns t
