-- The entries of a mark list, one after another.
use Prim.Native.Nat.{ℕ, ◌≤◌}
use native.Mathlib.Omega.{arith}
use mathlib.Core.Path.{◌≡◌, refl, sym, ap, ap₂, ◌∙◌}
use mathlib.Core.Bool.{Bool, true, ◌||◌, not}
use mathlib.Core.List.{List, ◌∷◌, ◌++◌}
use mathlib.Core.Option.{some, none}
use lib.Dec.{eqb}
use lib.ListN.{drop}
use borrow.Author.Tests.{lt-ltb}
use Rattle.syntax.specs.Kind as Kind
use Rattle.syntax.specs.Limits.{max_open}
use Rattle.syntax.specs.Marks.{Mark}
use Rattle.syntax.specs.Shape.{top, start, among, models, step, final, Run, stay, text, nest, Content, verdict}
use Rattle.syntax.specs.Serializer.{nodes}
use Rattle.laws.specs.Balanced.{run-levels}
use Rattle.laws.specs.Balanced.Nodes.{nodes-node, nodes-text}
use Rattle.laws.specs.Shape.Run.{otherwise, rule, known-child}
use Rattle.laws.specs.Shape.Verdict.{accepts}
use Rattle.tree.specs.Walk.{first_node, node_at, after, Child, At, OneAt, entries}
use Rattle.tree.specs.Walk as Spec
use Rattle.tree.proofs.Walk.{at_rest}

-- At the mark i of the top: the marks from there on complete the list.
pub record Top (boundary : ℕ → Bool) (ms : List Mark) (i : ℕ) : Type 0 where
  pub left : ℕ
  pub state : ℕ
  pub content : Content boundary left top state (drop i ms)

pub top-first : (boundary : ℕ → Bool) (ms : List Mark) → verdict boundary max_open ms ≡ none → Top boundary ms 0
top-first boundary ms e = record { left = max_open; state = start; content = (accepts boundary max_open ms).0 e }

-- an entry is next
pub record TopNext (boundary : ℕ → Bool) (ms : List Mark) (i : ℕ) : Type 0 where
  pub child : OneAt boundary entries ms i
  pub split : nodes (drop i ms) ≡ node_at ms i ∷ nodes (drop (after ms i) ms)
  pub on : Top boundary ms (after ms i)

is-entry : (q j r : ℕ) → step top q j ≡ some r → among j entries ≡ true
unfolding models among
is-entry q j r s =
    otherwise (not (eqb top top)) (among j entries)
    (rule (λ k q j r. not (eqb k top) || among j entries) refl top q j r s) refl

child-split : {boundary : ℕ → Bool} {j : ℕ} {cs : List Mark} → Child boundary j cs → j ≤ Kind.named_argument
    → (rest : List Mark) → nodes (cs ++ rest) ≡ first_node (nodes (cs ++ rest)) ∷ nodes rest
child-split {j = j} (Spec.text a e x ba be l) h rest = rw (nodes-text j a e rest (lt-ltb j 100 (omega arith)))
child-split {j = j} (Spec.nest {inner = inner} left x content) h rest =
    rw (nodes-node j inner rest (lt-ltb j 100 (omega arith)) (run-levels content.run))

module _ {boundary : ℕ → Bool} {ms : List Mark} {i : ℕ} where
  entry-from : {left j r : ℕ} {cs rest : List Mark} (q : ℕ) → drop i ms ≡ cs ++ rest → Child boundary j cs
      → step top q j ≡ some r → Content boundary left top r rest → TopNext boundary ms i
  unfolding node_at
  entry-from {left} {j} {r} {cs} {rest} q e c s o =
      let known = (known-child top q j r s).1 in
      let a : At boundary ms i j = record { marks = cs; rest = rest; there = e; known = known; child = c } in
      record {
        child = record { kind = j; one = is-entry q j r s; at = a };
        split = ap nodes e ∙ child-split c known rest ∙ ap₂ (λ x y. first_node (nodes x) ∷ nodes y) (sym e) (sym (at_rest a));
        on = record { left = left; state = r; content = rw (at_rest a) o };
      }

  pub top-next : Top boundary ms i → (m : Mark) (more : List Mark) → drop i ms ≡ m ∷ more → TopNext boundary ms i
  top-next h m more e = go refl h.content.run h.content.ended
    where
      go : {left t : ℕ} {cs : List Mark} → drop i ms ≡ cs → Run boundary left top h.state t cs → final top t ≡ true
          → TopNext boundary ms i
      go z stay f = cc
      go z (text {t = t} j a b x s p y l rest) f =
          entry-from h.state z (Spec.text a b x p y l) s (record { to = t; run = rest; ended = f })
      go z (nest {inside = left} {s = u} {t = t} x s o inner g rest) f =
          entry-from h.state z (Spec.nest left x (record { to = u; run = inner; ended = g })) s
          (record { to = t; run = rest; ended = f })
