-- Loops over the children of a node that is open.
use Prim.Native.Nat.{ℕ, ◌+◌, ◌≤◌, ◌<◌}
use native.Mathlib.Omega.{arith}
use mathlib.Core.Path.{◌≡◌, refl, sym, ap, ◌∙◌}
use mathlib.Core.Bool.{true}
use mathlib.Core.List.{List, [], ◌∷◌}
use lib.ListN.{length}
use Rattle.utf8.specs.Utf8.{is_boundary}
use Rattle.syntax.specs.Kind as Kind
use Rattle.syntax.specs.Layout.{count, marks_in}
use Rattle.syntax.specs.Tests.{sizes_fit}
use Rattle.syntax.specs.Serializer.{Node, nodes_from, nodes, Piece, ◌⊕◌, empty}
use Rattle.serializer.specs.Writer.{Wrote}
use Rattle.tree.specs.Walk.{kind_at, node_at, after, inner_at, Open}
use Rattle.serializer.specs.Serialize.{State, Ready, Done, ReadyIn}
use Rattle.tree.proofs.Sizes.{sizes}
use Rattle.serializer.proofs.Pieces.{Going, going, going-as, going_on, gone, room-first, one, two, row_same}
use Rattle.tree.proofs.Walk.{inside-count}
use Rattle.tree.proofs.Children.{Has, goes_on, goes-out}

-- With the children that are left written, which is P of them, the whole is.
pub record Rows (source tree : List ℕ) (k q : ℕ) (whole : Piece) (P : List Node → Piece) (o₀ o : List ℕ) (s₀ s : State) : Type 0 where
  pub fit : sizes_fit tree ≡ true
  pub at : Open (is_boundary source) (marks_in tree) s.mark k q
  pub level : s.writer.indent ≡ s₀.writer.indent
  pub shallow : s.writer.indent ≤ s.mark
  pub way : Going o₀ o s₀.writer s.writer whole (P (nodes (inner_at (marks_in tree) s.mark)) ∷ [])
  pub till : s.mark + length (inner_at (marks_in tree) s.mark) ≡ s₀.mark + length (inner_at (marks_in tree) s₀.mark)
  pub later : s₀.mark ≤ s.mark

-- a child is next, whose piece is f of it
pub record Turn (source tree : List ℕ) (k q : ℕ) (js : List ℕ) (whole : Piece) (f : Node → Piece)
    (P : List Node → Piece) (o₀ o : List ℕ) (s₀ s : State) : Type 0 where
  pub ready : Ready source tree s js f
  pub on : (o' : List ℕ) (s' : State) → Done tree o o' s s' f → Rows source tree k q whole P o₀ o' s₀ s'

module _ {source tree : List ℕ} {k q : ℕ} {P : List Node → Piece} where
  pub rows-first : (o : List ℕ) (s : State) → sizes_fit tree ≡ true → ReadyIn source tree s k q P
      → Rows source tree k q (P (nodes (inner_at (marks_in tree) s.mark))) P o o s s
  rows-first o s fit r =
      record {
        fit = fit;
        at = r.at;
        level = refl;
        shallow = r.shallow;
        way = going o s.writer (one (P (nodes (inner_at (marks_in tree) s.mark)))) r.room;
        till = refl;
        later = omega arith;
      }

  module _ {whole : Piece} {o₀ o : List ℕ} {s₀ s : State} (r : Rows source tree k q whole P o₀ o s₀ s) where
    -- a mark is there
    pub rows-count : s.mark < count tree
    rows-count = inside-count tree (sizes tree r.fit) r.at.here

    pub rows-turn : (js : List ℕ) → Has k q js → (f : Node → Piece) (Q : List Node → Piece)
        → ((n : Node) (ns : List Node) → P (n ∷ ns) ≡ (f n ⊕ Q ns)) → kind_at (marks_in tree) s.mark < Kind.closing 0
        → Turn source tree k q js whole f Q o₀ o s₀ s
    unfolding after
    rows-turn js h f Q e l =
        let ms = marks_in tree in
        let g = goes_on js h r.at l in
        let n = node_at ms s.mark in
        let ns = nodes (inner_at ms (after ms s.mark)) in
        let w = going-as (row_same (ap P g.follows.split ∙ e n ns) (two (f n) (Q ns))) r.way in
        record {
          ready = record { node = g.follows.child; shallow = r.shallow; room = room-first w };
          on = λ o' s' d.
              record {
                fit = r.fit;
                at = record { state = g.state; least = g.least; here = rw d.next g.follows.on };
                level = d.wrote.level ∙ r.level;
                shallow = omega (arith, d.wrote.level, d.next, r.shallow);
                way = rw d.next (going_on w d.wrote);
                till = rw d.next (sym g.follows.till ∙ r.till);
                later = omega (arith, d.next, r.later);
              };
        }

    pub rows-done : P [] ≡ empty → Kind.closing 0 ≤ kind_at (marks_in tree) s.mark
        → Wrote o₀ o s₀.writer s.writer whole × (s.mark ≡ s₀.mark + length (inner_at (marks_in tree) s₀.mark))
    unfolding nodes nodes_from
    rows-done e l =
        let z = goes-out r.at.here l in
        (gone (going-as {qs = []} (record { same = ap (λ ns. P (nodes ns)) z ∙ e }) r.way), omega (arith, r.till, ap length z))
