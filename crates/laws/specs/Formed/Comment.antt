-- comment.rs: the marks of a comment's lines.
use Rattle.std.specs.Prelude.{ℕ, ◌+◌, ◌-◌, ◌≤◌, ◌≡◌, true, false, ◌&&◌, ◌||◌, drop, ltb}
use Rattle.std.proofs.Common.{arith, ltb-true}
use Rattle.std.proofs.Math.Path.{refl}
use Rattle.std.proofs.Math.Bool.{not}
use mathlib.Core.List.{List, [], ◌∷◌}
use Rattle.std.proofs.Math.Option.{some}
use Rattle.std.proofs.Math.Dec.{eqb}
use Rattle.syntax.specs.Kind as Kind
use Rattle.syntax.specs.Bytes.{starts_with, eol}
use Rattle.syntax.specs.Reader.{fail, after}
use Rattle.syntax.specs.Comment.{line_length, level_of, line_end_used, line_read, line_turn, comment_turn, get_comment}
use Rattle.syntax.specs.Shape.{step}
use Rattle.laws.specs.Bytes.{by_case, pick}
use Rattle.laws.specs.Shape.Run.{run-text}
use Rattle.laws.specs.Bounds.Comment.{line_length-le}
use Rattle.laws.specs.Formed.Edge.{clear, edge, edge-add, edge-past, edge-clear, edge-first, edge-run, ascii-of, edge-eol}
use Rattle.laws.specs.Formed.Reader.{at, by, stopped, Makes, skips, TurnMade, goes, ends, repeat-makes}

-- a line's text ends at a line end or at the end
eol-clear : (s : List ℕ) → ltb 0 (eol s) ≡ true → clear s ≡ true
unfolding eol clear starts_with
eol-clear [] q = refl
eol-clear (b ∷ bs) q =
    by_case (eqb b 10) (ascii-of 10 refl b)
    (λ z. by_case (eqb b 13) (ascii-of 13 refl b) (λ y. absurd (omega (arith, ltb-true 0 0 (rw (z, eol, y) at q)))))

line_length-clear : (s : List ℕ) → clear (drop (line_length s) s) ≡ true
unfolding line_length
line_length-clear [] = unfold clear in refl
line_length-clear (b ∷ bs) =
    by_case (ltb 0 (eol (b ∷ bs))) (λ q. rw (q, line_length) (eol-clear (b ∷ bs) q))
    (λ q. rw (q, line_length) (line_length-clear bs))

line_end_used-edge : (r : List ℕ) → edge r (line_end_used r) ≡ true
unfolding line_end_used
line_end_used-edge r = edge-eol r (line_end_used r) (go (drop (eol r) r))
  where
    go : (z : List ℕ) → (elim z [ [] ↦ eol r | b ∷ bs ↦ elim (eqb b 35) [ true ↦ eol r | false ↦ eol r - 1 ] ]) ≤ eol r
    go [] = omega arith
    go (b ∷ bs) = pick (λ e. e ≤ eol r) (eqb b 35) (eol r) (eol r - 1) (λ q. omega arith) (λ q. omega arith)

module _ {n k : ℕ} (t : step k 0 Kind.comment_line ≡ some 0) where
  module _ (s : List ℕ) (l : ℕ) (e : edge s l ≡ true) where
    line_made : (level : ℕ) (r : List ℕ) → drop l s ≡ r → TurnMade n k (at 0) (λ _. at 0) (λ _. at 0) s (line_turn level l r)
    unfolding line_turn line_read after fail edge Kind.is_text
    line_made level [] d = ends (skips e)
    line_made level (b ∷ bs) d =
        pick (TurnMade n k (at 0) (λ _. at 0) (λ _. at 0) s) (ltb 0 (eol (b ∷ bs))) _ _
        (λ q. let u = line_end_used (b ∷ bs) in
        goes (edge-past s l e d u (l + 0 + u) (omega arith) (line_end_used-edge (b ∷ bs)))
        (by (run-text (edge s) 8 l (l + 0) refl t e (edge-past s l e d 0 (l + 0) refl refl) (omega arith))))
        (λ q. pick (TurnMade n k (at 0) (λ _. at 0) (λ _. at 0) s) (eqb b 32) _ _
        (λ q. let m = line_length bs in let u = line_end_used (drop m bs) in
        let first = edge-first b bs (ascii-of 32 refl b q) in
        let text = edge-clear bs m (line_length-le bs) (line_length-clear bs) in
        goes
        (edge-past s l e d (1 + (m + u)) (l + 1 + m + u) (omega arith)
        (edge-add (b ∷ bs) 1 (m + u) first (edge-add bs m u text (line_end_used-edge (drop m bs)))))
        (by
        (run-text (edge s) 8 (l + 1) (l + 1 + m) refl t (edge-past s l e d 1 (l + 1) refl first)
        (edge-past s l e d (1 + m) (l + 1 + m) (omega arith) (edge-add (b ∷ bs) 1 m first text)) (omega arith))))
        (λ q. pick (TurnMade n k (at 0) (λ _. at 0) (λ _. at 0) s) (eqb level 0) _ _ (λ q. ends stopped) (λ q. ends (skips refl))))

  pub comment-makes : Makes n k (at 0) (λ _. at 0) get_comment
  unfolding get_comment
  comment-makes = record { on = (repeat-makes {f = λ _. at 0} turn 0).on }
    where
      turn : (level : ℕ) (s : List ℕ) → TurnMade n k (at 0) (λ _. at 0) (λ _. at 0) s (comment_turn level s)
      turn level s = unfold comment_turn level_of edge in
          (pick (TurnMade n k (at 0) (λ _. at 0) (λ _. at 0) s)
          (eqb (level_of s) 0 || (not (eqb level 0) && not (eqb (level_of s) level))) _ _ (λ q. ends (skips refl))
          (λ q. line_made s (level_of s) (edge-run (λ b. eqb b 35) (ascii-of 35 refl) s (level_of s) (omega arith)) level
          (drop (level_of s) s) refl))
