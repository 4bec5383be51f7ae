-- The marks of a reading are well formed: they follow the content models, with no more openings at a time than are
-- allowed, and the places of
-- texts are edges in order, which in UTF-8 are character boundaries. So the writer refuses no reading's tree with 6.
pub mod Edge
pub mod Reader
pub mod Helper
pub mod Comment
pub mod Pattern
pub mod String
pub mod Inline
pub mod Argument
pub mod Expression
pub mod Entry
pub mod Entries
use Prim.Native.Nat.{ℕ, suc, ◌≤◌}
use Rattle.std.proofs.Common.{zero-add, arith, subst, length-drop}
use Rattle.std.specs.Prelude.{◌≡◌, false, List, [], drop, length}
use Rattle.std.proofs.Math.Path.{refl}
use Rattle.std.proofs.Math.Option.{none}
use Rattle.utf8.specs.Utf8 as Utf8
use Rattle.utf8.specs.Utf8.{is_boundary}
use Rattle.syntax.specs.Marks.{Mark, move_up}
use Rattle.syntax.specs.Expression.{level}
use Rattle.syntax.specs.Core.{Error, Reading, read, refused, following, entries, parse}
use Rattle.syntax.specs.Shape.{final_by, models, among, final, Run, WellFormed, verdict}
use Rattle.laws.specs.Bytes.{clash}
use Rattle.laws.specs.Moving.{move_up-zero}
use Rattle.laws.specs.Balanced.{Levels, run-levels}
use Rattle.laws.specs.Balanced.Nodes.{OkMarks, run_ok}
use Rattle.laws.specs.Layout.{AllProper, known-proper}
use Rattle.laws.specs.Bounds.Expression.{level-bounds}
use Rattle.laws.specs.File.{entries-read, leading}
use Rattle.laws.specs.Shape.Run.{run_moved, formed-moved, run-known}
use Rattle.laws.specs.Shape.Verdict.{accepts}
use Edge.{edge, edge-le, edge-add, edge-boundary}
use Helper.{block-edge}
use Expression.{level-formed}
use Entries.{passed-run}

module _ (n : ℕ) (s : List ℕ) (ms : List Mark) (es : List Error) where
  pub formed : parse n s ≡ read ms es → WellFormed (edge s) n ms
  unfolding parse following final final_by models among
  formed e = go (entries (suc (length s)) (level n) (drop k s)) refl e
    where
      k : ℕ
      k = leading s

      go : (r : Reading) → entries (suc (length s)) (level n) (drop k s) ≡ r → following [] [] k r ≡ read ms es → WellFormed (edge s) n ms
      go (read ns fs) h e =
          let p = entries-read (level-bounds n) (suc (length s)) (drop k s) (omega (arith, length-drop k s)) h in
          let w = passed-run (level-formed n) (level-bounds n) false (λ z. clash z refl) refl p in
          let m : move_up k ns ≡ ms = cc in
          record {
            to = 0;
            run =
                subst (Run (edge s) n 0 0 0) m
                (run_moved (edge (drop k s)) (edge s) k (λ a g. edge-add s k a (block-edge s) g) w);
            ended = refl;
          }
      go (refused j) h e = let z : ◌≡◌ {A = ℕ} 0 1 = cc in absurd (omega arith)

  pub formed-utf8 : Utf8.WellFormed s → parse n s ≡ read ms es → WellFormed (is_boundary s) n ms
  formed-utf8 w e =
      subst (WellFormed (is_boundary s) n) (move_up-zero ms)
      (formed-moved (edge s) (is_boundary s) 0 (λ a g. rw zero-add (edge-boundary s w a g)) (formed e))

  -- T kinds, and no others, have places, within the file
  pub proper : parse n s ≡ read ms es → AllProper ms
  proper e = known-proper ms (run-known (formed e).run)

  pub places : parse n s ≡ read ms es → OkMarks (λ p. p ≤ length s) ms
  places e = run_ok (λ p. p ≤ length s) (edge-le s) (formed e).run

  -- every node that opens closes
  pub balanced : parse n s ≡ read ms es → Levels 0 ms
  balanced e = run-levels (formed e).run

  -- the writer's check finds nothing wrong
  pub verdict-none : Utf8.WellFormed s → parse n s ≡ read ms es → verdict (is_boundary s) n ms ≡ none
  verdict-none w e = (accepts (is_boundary s) n ms).1 (formed-utf8 w e)
