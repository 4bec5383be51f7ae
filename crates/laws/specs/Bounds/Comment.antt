-- comment.rs within bounds.
use Prim.Native.Nat.{ℕ, suc, ◌+◌, ◌-◌, ◌≤◌, ◌<◌, suc-le-suc}
use Rattle.std.proofs.Common.{arith}
use Rattle.std.specs.Prelude.{◌≡◌, Bool, ◌||◌, true, false, ◌&&◌, drop, length, eqb, ltb}
use Rattle.std.proofs.Math.Path.{refl}
use Rattle.std.proofs.Math.Bool.{not}
use mathlib.Core.List.{List, [], ◌∷◌}
use Rattle.std.proofs.Math.ListN.{length-drop}
use borrow.Author.Tests.{eqb-true, eqb-false}
use Rattle.syntax.specs.Bytes.{starts_with, run, eol}
use Rattle.syntax.specs.Reader.{ok, after, fail, done}
use Rattle.syntax.specs.Comment.{line_length, level_of, line_end_used, line_read, line_turn, comment_turn, get_comment}
use Rattle.laws.specs.Bytes.{by_case, clash, pick, run-le, eol-le}
use Rattle.laws.specs.Bounds.{uses-nil, uses-text, Bounded, used, stopped, TurnBounded, goes, ends, turn-less}
use Rattle.laws.specs.Bounds.{TurnBounds, first-bounded}

pub line_length-le : (s : List ℕ) → line_length s ≤ length s
unfolding line_length
line_length-le [] = omega arith
line_length-le (b ∷ bs) =
    by_case (ltb 0 (eol (b ∷ bs))) (λ q. rw (q, line_length) (omega arith))
    (λ q. rw (q, line_length) (suc-le-suc (line_length-le bs)))

line_end_used-le : (r : List ℕ) → line_end_used r ≤ length r
unfolding line_end_used
line_end_used-le r = go (drop (eol r) r)
  where
    go : (z : List ℕ) → (elim z [ [] ↦ eol r | b ∷ bs ↦ elim (eqb b 35) [ true ↦ eol r | false ↦ eol r - 1 ] ]) ≤ length r
    go [] = eol-le r
    go (b ∷ bs) = pick (λ e. e ≤ length r) (eqb b 35) (eol r) (eol r - 1) (λ q. eol-le r) (λ q. omega (arith, eol-le r))

level_of-le : (s : List ℕ) → level_of s ≤ length s
unfolding level_of
level_of-le s = omega (arith, run-le (λ b. eqb b 35) s)

pub level_of-some : (s : List ℕ) → starts_with 35 s ≡ true → 0 < level_of s
unfolding level_of run starts_with
level_of-some [] h = clash h refl
level_of-some (b ∷ bs) h = let e : run (λ c. eqb c 35) (b ∷ bs) ≡ suc (run (λ c. eqb c 35) bs) = rw (h, run) refl in omega arith

-- no comment line of the level is here, or of any where there is none yet
abbrev pub is_over : ℕ → List ℕ → Bool
is_over level s = eqb (level_of s) 0 || (not (eqb level 0) && not (eqb (level_of s) level))

module _ {n : ℕ} where
  -- a line of a comment: six marks to spare, also where it is the last and the comment's first
  line-bounded : (level l d : ℕ) (s r : List ℕ) → 0 < l → l + length r ≡ length s → d ≤ 6
      → (eqb level 0 ≡ false → d ≡ 0) → TurnBounded n 6 d s (line_turn level l r)
  unfolding line_turn line_read after fail
  line-bounded level l d s [] p w h z = ends (used (uses-nil l (omega arith) (omega arith)))
  line-bounded level l d s (b ∷ bs) p w h z =
      pick (TurnBounded n 6 d s) (ltb 0 (eol (b ∷ bs))) _ _
      (λ q. goes
      (uses-text (l + 0 + line_end_used (b ∷ bs)) 8 l (l + 0) (omega (arith, line_end_used-le (b ∷ bs))) (omega arith)))
      (λ q. pick (TurnBounded n 6 d s) (eqb b 32) _ _
      (λ q. let m = line_length bs in let u = line_end_used (drop m bs) in
      goes
      (uses-text (l + 1 + m + u) 8 (l + 1) (l + 1 + m)
      (omega (arith, line_length-le bs, line_end_used-le (drop m bs), length-drop m bs)) (omega arith)))
      (λ q. pick (TurnBounded n 6 d s) (eqb level 0) _ _
      (λ y. ends (stopped (l + 0) (omega arith)))
      (λ y. ends (used (uses-nil 0 (omega arith) (omega (arith, z y)))))))

  turn-bounded : (level d : ℕ) (s : List ℕ) → d ≤ 6 → (eqb level 0 ≡ false → d ≡ 0) → (level_of s ≡ 0 → d ≡ 0)
      → TurnBounded n 6 d s (comment_turn level s)
  unfolding comment_turn
  turn-bounded level d s h z y = by_case (eqb l 0) (λ q. rw (q, comment_turn) (over (y (eqb-true l 0 q))))
      (λ q. rw (q, comment_turn) (pick (TurnBounded n 6 d s) (not (eqb level 0) && not (eqb l level)) _ _ (λ v. over (other v))
      (λ v. line-bounded level l d s (drop l s) (omega (arith, eqb-false l 0 q)) (omega (arith, length-drop l s, level_of-le s)) h z)))
    where
      l : ℕ
      l = level_of s

      over : d ≡ 0 → TurnBounded {S = ℕ} n 6 d s (done (ok level [] 0))
      over e = ends (used (uses-nil 0 (omega arith) (omega arith)))

      other : (not (eqb level 0) && not (eqb l level)) ≡ true → d ≡ 0
      other v = by_case (eqb level 0) (λ w. clash v (rw w refl)) (λ w. z w)

  pub comment_turn-bounds : TurnBounds n comment_turn
  comment_turn-bounds =
      record {
        on =
            λ level s. turn-less (omega arith) (omega arith) (turn-bounded level 0 s (omega arith) (λ _. refl) (λ _. refl));
      }

  pub comment-bounded : (s : List ℕ) → starts_with 35 s ≡ true → Bounded n (λ _. 6) s (get_comment s)
  unfolding get_comment
  comment-bounded s h =
      first-bounded comment_turn-bounds 0 s
      (turn-bounded 0 6 s (omega arith) (λ z. clash refl z) (λ z. omega (arith, level_of-some s h)))
