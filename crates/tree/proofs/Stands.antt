-- The loop over the marks: what holds from turn to turn.
use Prim.Native.Nat.{ℕ, ◌+◌, ◌≤◌}
use native.Mathlib.Numerals.{add-one}
use native.Mathlib.Omega.{arith}
use mathlib.Core.Path.{◌≡◌, refl, sym, ◌∙◌}
use mathlib.Core.Bool.{true, false}
use mathlib.Core.List.{List, []}
use lib.ListN.{drop, replicate}
use Rattle.utf8.specs.Utf8.{is_boundary}
use Rattle.syntax.specs.Layout.{count, mark_of, marks_in}
use Rattle.syntax.specs.Limits.{max_open}
use Rattle.syntax.specs.Shape.{between, step_mark, may_end, judge, verdict}
use Rattle.laws.specs.Shape.Check.{Holds, holds-between}
use Rattle.laws.specs.Shape.Bound.{Small, small-initial}
use Rattle.tree.specs.declared.models.Node.{Node}
use Rattle.tree.specs.declared.check.State.{State}
use Rattle.tree.specs.declared.check.State.TheVariants.{Between, Within}
use Rattle.std.specs.Prelude.{Some, None, Ok, Err}
use Rattle.std.specs.Option.{ok_or}
use Rattle.std.specs.declared.option.Option as Rust
use Rattle.tree.specs.Shape.{shape_of, unused, frames_in, state_of, outcome, Fits, Reached, Known}
use Rattle.tree.proofs.Sizes.{Sizes, no-mark}
use Rattle.tree.proofs.Turns.{Turn}
use Rattle.tree.proofs.Stack.{reached-step}

-- after i marks: the check goes on from the code's state to the verdict
pub record Stands (source tree : List ℕ) (fs : List Node) (s : State) (i : ℕ) : Type 0 where
  pub inside : i ≤ count tree
  pub reached : Reached (is_boundary source) fs s
  pub same : verdict (is_boundary source) max_open (marks_in tree) ≡ judge (is_boundary source) i (state_of fs s) (drop i (marks_in tree))

module _ (source tree : List ℕ) (fit : Sizes tree) (fs : List Node) (s : State) (i : ℕ) (st : Stands source tree fs s i) where
  -- a turn at the index j, whose step leads on or not
  module _ {j k p : ℕ} (t : Turn tree i j k p) (fs' : List Node) where
    pub stands-on : (o : Rust.Option State) (s' : State)
        → outcome fs' o ≡ step_mark (is_boundary source) (state_of fs s) (mark_of k p)
        → Ok s' ≡ ok_or o j → Stands source tree fs' s' (i + 1)
    unfolding judge outcome
    stands-on None s' e r = cc
    stands-on (Some s'') s' e r =
        let z : s'' ≡ s' = cc in
        rw (← z)
        (record {
          inside = omega (arith, t.inside);
          reached = reached-step (is_boundary source) fs fs' s s'' (mark_of k p) (sym e) st.reached;
          same = st.same ∙ rw (t.marks, judge, ← e, add-one);
        })

    pub stands-refused : (o : Rust.Option State) (v : ℕ)
        → outcome fs' o ≡ step_mark (is_boundary source) (state_of fs s) (mark_of k p)
        → Err v ≡ ok_or o j → Err v ≡ shape_of (verdict (is_boundary source) max_open (marks_in tree))
    unfolding judge shape_of outcome
    stands-refused None v e r = let z : v ≡ j = cc in rw (z, st.same, t.marks, judge, ← e, t.index)
    stands-refused (Some s'') v e r = cc

  -- the list ends
  pub stands-whole : count tree ≡ i → true ≡ may_end (state_of fs s)
      → Ok tt ≡ shape_of (verdict (is_boundary source) max_open (marks_in tree))
  unfolding judge shape_of
  stands-whole h e = rw (st.same, no-mark tree fit i (omega arith), judge, ← e)

  pub stands-early : count tree ≡ i → false ≡ may_end (state_of fs s)
      → Err (count tree) ≡ shape_of (verdict (is_boundary source) max_open (marks_in tree))
  unfolding judge shape_of
  stands-early h e = rw (st.same, no-mark tree fit i (omega arith), judge, ← e, h)

pub stands-known : {source tree : List ℕ} {fs : List Node} {s : State} {i : ℕ} → Stands source tree fs s i → Known s
stands-known {s = Between o} st = st.reached.inner
stands-known {s = Within j a o} st = tt

-- at the start nothing is open
pub stands-first : (source tree : List ℕ)
    → Stands source tree (replicate 259 unused) (Between (record { node = unused; left = 64; depth = 0 })) 0
unfolding verdict state_of frames_in
stands-first source tree = record { inside = omega arith; reached = first small-initial; same = refl }
  where
    first : Holds (is_boundary source) (Small max_open) (between 64 0 0 [])
        → Fits (replicate 259 unused) (record { node = unused; left = 64; depth = 0 })
    first (holds-between p a) = record { inner = record { small = p; list = λ e. refl }; around = tt }
