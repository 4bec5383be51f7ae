-- `Nodes::has_leading_text_dot` meets its contract.
use Rattle.std.specs.Prelude.{◌≡◌, ℕ, false, eqb, List, [], ◌∷◌, Option, None, Some, slice_get}
use Rattle.std.specs.Option.{option_copied}
use denote.Ref.{Bor}
use native.Mathlib.Omega.{arith}
use borrow.Author.Rules.{rules}
use mathlib.Core.Path.{sym, ◌∙◌}
use Rattle.syntax.specs.Byte as Byte
use Rattle.syntax.specs.Bytes.{starts_with}
use Rattle.tree.proofs.Sizes.{sizes}
use Rattle.tree.proofs.Walk.{at_count, inside-count}
use Rattle.serializer.proofs.Patterns.{pattern-first, no-leading, leading}
use Rattle.serializer.proofs.Numbers.{is, other}
use Rattle.serializer.proofs.walk.Nodes.has_leading_text_dot.Goals as goal

first-is : (b : ℕ) (t : List ℕ) (o : Option (Bor ℕ)) → option_copied o ≡ slice_get t 0
    → elim o [ None ↦ false | Some x ↦ eqb x.now b ] ≡ starts_with b t
unfolding starts_with
first-is b [] None e = search rules
first-is b [] (Some x) e = search rules
first-is b (y ∷ t) None e = search rules
first-is b (y ∷ t) (Some x) e = search rules

pub overflow_add-first : goal.overflow_add-first
overflow_add-first c =
    omega (
      arith,
      (sizes c.args.self.tree.now c.args.self.fit),
      at_count c.args.self.tree.now (sizes c.args.self.tree.now c.args.self.fit) c.requires,
    )

pub is_at-requires : goal.is_at-requires
is_at-requires c =
    (inside-count c.args.self.tree.now (sizes c.args.self.tree.now c.args.self.fit) (pattern-first c.requires))

pub returns-then-not-is_at : goal.returns-then-not-is_at
returns-then-not-is_at c =
    sym (no-leading c.requires c.args.self.source.now (other c.is_at.ensures c.if-not-is_at.true))

pub text_at-requires : goal.text_at-requires
text_at-requires c =
    ((leading c.requires c.args.self.source.now (is c.is_at.ensures c.if-not-is_at.false)).text)

pub returns : goal.returns
returns c =
    let e : c.eq.result ≡ elim c.first.result [ None ↦ false | Some x ↦ eqb x.now Byte.dot ] = search rules in
    let l = leading c.requires c.args.self.source.now (is c.is_at.ensures c.if-not-is_at.false) in
    e ∙ first-is Byte.dot _ c.first.result c.first.ensures.value ∙ rw c.text_at.ensures (sym l.same)
