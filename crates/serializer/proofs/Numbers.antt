-- Kinds and the numbers of their opening marks, and what a test of a mark's kind says.
use Prim.Native.Nat.{ℕ, ◌≤◌, ◌<◌}
use lib.Dec.{eqb, ltb}
use mathlib.Core.Path.{◌≡◌, refl, sym, ◌∙◌}
use mathlib.Core.Bool.{Bool, true, false}
use mathlib.Core.List.{List, [], ◌∷◌, map}
use borrow.Author.Tests.{ltb-true, ltb-false, eqb-true, eq-eqb}
use Rattle.std.proofs.Common.{rules}
use Rattle.syntax.specs.declared.kind.Kind.{Kind}
use Rattle.syntax.specs.declared.kind.Kind.TheVariants as Kinds
use Rattle.syntax.specs.Kind.{number_of}
use Rattle.syntax.specs.Marks.{Mark}
use Rattle.syntax.specs.Shape.{among, inline}
use Rattle.laws.specs.Bytes.{by_case, clash}
use Rattle.tree.specs.Walk.{kind_at, OneAt, entries, expressions, references}
use Rattle.tree.proofs.Walk.{at-kind}
use Rattle.serializer.specs.Walk.{IsKind}

-- a node of the kind is there, and none is
pub is : {r : Bool} {n k : ℕ} → r ≡ eqb n k → r ≡ true → n ≡ k
is {n = n} {k} h e = eqb-true n k (sym h ∙ e)

pub other : {r : Bool} {n k : ℕ} → r ≡ eqb n k → r ≡ false → n ≡ k → ⊥
other {n = n} {k} h e q = clash (h ∙ eq-eqb n k q) e

-- a node starts there, and one ends
pub starts : {r : Bool} {n k : ℕ} → r ≡ ltb n k → r ≡ true → n < k
starts {n = n} {k} h e = ltb-true n k (sym h ∙ e)

pub ends : {r : Bool} {n k : ℕ} → r ≡ ltb n k → r ≡ false → k ≤ n
ends {n = n} {k} h e = ltb-false n k (sym h ∙ e)

-- each number is of one kind
kind-is : (k j : Kind) → number_of k ≡ number_of j → k ≡ j
kind-is k j e = search rules

pub unlike : {k : Kind} {n : ℕ} → number_of k ≡ n → (j : Kind) → (k ≡ j → ⊥) → n ≡ number_of j → ⊥
unlike {k = k} h j x e = x (kind-is k j (h ∙ e))

-- one of the numbers of some kinds
one-of : {n : ℕ} (ks : List Kind) → among n (map number_of ks) ≡ true → IsKind n
unfolding among
one-of [] e = clash e refl
one-of {n} (k ∷ ks) e =
    by_case (eqb n (number_of k)) (λ t. record { kind = k; number = sym (eqb-true n (number_of k) t) }) (λ f. one-of ks (rw f at e))

abbrev inlines : List Kind
inlines =
    Kinds.StringLiteral ∷ Kinds.NumberLiteral ∷ Kinds.VariableReference ∷ Kinds.FunctionReference ∷ Kinds.MessageReference
    ∷ Kinds.TermReference ∷ Kinds.Placeable ∷ []

module _ {boundary : ℕ → Bool} {ms : List Mark} {i : ℕ} where
  known : (ks : List Kind) → OneAt boundary (map number_of ks) ms i → IsKind (kind_at ms i)
  known ks a = rw (at-kind a.at) (one-of ks a.one)

  pub entry-kind : OneAt boundary entries ms i → IsKind (kind_at ms i)
  entry-kind =
      known
      (Kinds.Message ∷ Kinds.Term ∷ Kinds.Comment ∷ Kinds.GroupComment ∷ Kinds.ResourceComment ∷ Kinds.AttachedComment
      ∷ Kinds.Junk ∷ [])

  pub inline-kind : OneAt boundary inline ms i → IsKind (kind_at ms i)
  inline-kind = known inlines

  pub expression-kind : OneAt boundary expressions ms i → IsKind (kind_at ms i)
  expression-kind = known (Kinds.Select ∷ inlines)

  pub reference-kind : OneAt boundary references ms i → IsKind (kind_at ms i)
  reference-kind = known (Kinds.VariableReference ∷ Kinds.FunctionReference ∷ Kinds.MessageReference ∷ Kinds.TermReference ∷ [])
