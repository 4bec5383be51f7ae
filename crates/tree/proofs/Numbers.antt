-- The numbers that stand for kinds.
use Prim.Native.Nat.{ℕ, ◌≤◌}
use native.Mathlib.Omega.{arith}
use lib.Dec.{eqb}
use mathlib.Core.Path.{◌≡◌, refl, sym}
use mathlib.Core.Bool.{false}
use mathlib.Core.List.{List, [], ◌∷◌, map}
use mathlib.Core.Option.{Option, some, none}
use borrow.Author.Tests.{ne_eqb}
use Rattle.std.proofs.Common.{rules}
use Rattle.syntax.specs.declared.kind.Kind.{Kind}
use Rattle.syntax.specs.declared.kind.Kind.TheVariants as Kinds
use Rattle.syntax.specs.Kind.{number_of}
use Rattle.syntax.specs.Kind as Kind
use Rattle.std.specs.Prelude.{None, Some}
use Rattle.std.specs.declared.option.Option as Rust
use Rattle.syntax.specs.Shape.{models, among, step}
use Rattle.laws.specs.Bytes.{clash}
use Rattle.laws.specs.Shape.Run.{rule}
use Rattle.tree.specs.Models.{parent}

pub number_small : (k : Kind) → number_of k ≤ Kind.named_argument
number_small k = search rules

pub parent_small : (k : Rust.Option Kind) → parent k ≤ Kind.named_argument
parent_small None = omega arith
parent_small (Some k) = number_small k

-- A number of no kind is no T kind, and no child has it.
module _ (j : ℕ) (other : (k : Kind) → number_of k ≡ j → ⊥) where
  unlike : (k : Kind) → eqb j (number_of k) ≡ false
  unlike k = ne_eqb j (number_of k) (λ e. other k (sym e))

  pub not-text : Kind.is_text j ≡ false
  unfolding Kind.is_text
  not-text =
      rw (
        unlike Kinds.Junk,
        unlike Kinds.CommentLine,
        unlike Kinds.Identifier,
        unlike Kinds.Text,
        unlike Kinds.NumberKey,
        unlike Kinds.IdentifierKey,
        unlike Kinds.StringLiteral,
        unlike Kinds.NumberLiteral,
      )

  not_among : (ks : List Kind) → among j (map number_of ks) ≡ false
  unfolding among
  not_among [] = refl
  not_among (k ∷ ks) = rw (unlike k) (not_among ks)

  pub no-child : (k q : ℕ) → step k q j ≡ none
  unfolding models among
  no-child k q = go (step k q j) refl
    where
      kinds : List Kind
      kinds =
          Kinds.Message ∷ Kinds.Term ∷ Kinds.Comment ∷ Kinds.GroupComment ∷ Kinds.ResourceComment
          ∷ Kinds.AttachedComment ∷ Kinds.Junk ∷ Kinds.CommentLine ∷ Kinds.Identifier ∷ Kinds.Attribute
          ∷ Kinds.Pattern ∷ Kinds.Text ∷ Kinds.Placeable ∷ Kinds.Select ∷ Kinds.Variant ∷ Kinds.DefaultVariant
          ∷ Kinds.NumberKey ∷ Kinds.IdentifierKey ∷ Kinds.StringLiteral ∷ Kinds.NumberLiteral
          ∷ Kinds.VariableReference ∷ Kinds.FunctionReference ∷ Kinds.MessageReference ∷ Kinds.TermReference
          ∷ Kinds.Arguments ∷ Kinds.NamedArgument ∷ []

      go : (o : Option ℕ) → step k q j ≡ o → step k q j ≡ none
      go none e = e
      go (some r) e = clash (rule (λ k q j r. among j (map number_of kinds)) refl k q j r e) (not_among kinds)

-- what closes a node
pub closes : {kind : Rust.Option Kind} {closed : Kind} {n : ℕ} → kind ≡ Some closed → n ≡ Kind.closing (number_of closed)
    → n ≡ Kind.closing (parent kind)
closes e h = rw e h
