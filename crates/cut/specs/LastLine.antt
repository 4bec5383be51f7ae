-- The last line of a source, and a comment line there.
use Rattle.std.specs.Prelude.{ℕ, zero, suc, ◌+◌, ◌≤◌, ◌<◌, ◌≡◌, refl, true, List, [], ◌∷◌, ◌++◌, drop, length, take, eqb}
use Rattle.std.proofs.Common.{not-suc-le-zero, arith, sym, ◌∙◌, subst, length-drop, take-append-drop, drop-drop, eqb-true, eq-eqb, ne_eqb}
use Rattle.syntax.specs.Bytes.{starts_with, line_run, Whole}
use Rattle.syntax.specs.Core.{line_starts_at}
use Rattle.laws.specs.Bytes.{Stop, by_case, clash}
use Rattle.laws.specs.Lines.{line_run-here, line_run-on, starts-add}
use Rattle.laws.specs.Stable.Comment.{OneLine}
use Rattle.cut.specs.Claim.{one_line, last_line}

newline-before : (i : ℕ) (s : List ℕ) → line_starts_at (suc i) s ≡ true → line_run s ≤ i
unfolding line_starts_at
newline-before i [] h = clash h refl
newline-before zero (b ∷ bs) h = omega (arith, line_run-here b bs h)
newline-before (suc i) (b ∷ bs) h =
    by_case (eqb b 10) (λ q. omega (arith, line_run-here b bs q))
    (λ q. omega (arith, line_run-on b bs q, newline-before i bs h))

pub last_line-at : (i : ℕ) (s : List ℕ) → line_starts_at i s ≡ true → OneLine (drop i s) → last_line s ≡ drop i s
unfolding last_line one_line line_starts_at
last_line-at zero [] h o = refl
last_line-at zero (b ∷ bs) h o = rw (eq-eqb (line_run (b ∷ bs) + 1) (length (b ∷ bs)) o, last_line) refl
last_line-at (suc i) [] h o = clash h refl
last_line-at (suc i) (b ∷ bs) h o =
    rw (ne_eqb (line_run (b ∷ bs) + 1) (length (b ∷ bs)) (λ e. omega (arith, newline-before i (b ∷ bs) h, length-drop i bs)), last_line)
    (last_line-at i bs (tail i bs h) o)
  where
    tail : (i : ℕ) (bs : List ℕ) → line_starts_at (suc i) (b ∷ bs) ≡ true → line_starts_at i bs ≡ true
    tail zero bs h = refl
    tail (suc i) bs h = h

pub line-exists : (b : ℕ) (bs : List ℕ) → Whole (b ∷ bs) → (i : ℕ) × (line_starts_at i (b ∷ bs) ≡ true) × OneLine (drop i (b ∷ bs))
unfolding line_starts_at
line-exists b [] w = (0, refl, omega (arith, line_run-here b [] (eq-eqb b 10 w)))
line-exists b (c ∷ cs) w = by (line-exists c cs w)
  where
    by : (i : ℕ) × (line_starts_at i (c ∷ cs) ≡ true) × OneLine (drop i (c ∷ cs)) → (i : ℕ)
        × (line_starts_at i (b ∷ c ∷ cs) ≡ true) × OneLine (drop i (b ∷ c ∷ cs))
    by t = go t.0 t.1 t.2
      where
        go : (i : ℕ) → line_starts_at i (c ∷ cs) ≡ true → OneLine (drop i (c ∷ cs)) → (i : ℕ)
            × (line_starts_at i (b ∷ c ∷ cs) ≡ true) × OneLine (drop i (b ∷ c ∷ cs))
        go zero h o = by_case (eqb b 10) (λ q. (1, q, o)) (λ q. (0, refl, omega (arith, line_run-on b (c ∷ cs) q)))
        go (suc i) h o = (suc (suc i), h, o)

pub last_line-drop : (k : ℕ) (s : List ℕ) → line_starts_at k s ≡ true → Whole (drop k s) → 0 < length (drop k s)
    → last_line s ≡ last_line (drop k s)
last_line-drop k s h w l = go (drop k s) refl w l
  where
    go : (r : List ℕ) → drop k s ≡ r → Whole r → 0 < length r → last_line s ≡ last_line (drop k s)
    go [] e v n = absurd (not-suc-le-zero n)
    go (b ∷ bs) e v n =
        let (i, ls, o) = line-exists b bs v in
        let ls' : line_starts_at i (drop k s) ≡ true = rw e ls in
        let o' : OneLine (drop i (drop k s)) = rw e o in
        last_line-at (k + i) s (starts-add k i s h ls') (rw (← drop-drop i k s) o') ∙ sym (drop-drop i k s)
        ∙ sym (last_line-at i (drop k s) ls' o')

whole_take : (i : ℕ) (s : List ℕ) → line_starts_at i s ≡ true → Whole (take i s)
unfolding line_starts_at
whole_take zero s h = tt
whole_take (suc i) [] h = tt
whole_take (suc zero) (b ∷ bs) h = eqb-true b 10 h
whole_take (suc (suc i)) (b ∷ []) h = clash h refl
whole_take (suc (suc i)) (b ∷ c ∷ cs) h = whole_take (suc i) (c ∷ cs) h

-- a comment line at the end, and what stands before it
pub record Tail (s : List ℕ) : Type 0 where
  pub front : List ℕ
  pub back : List ℕ
  pub split : s ≡ front ++ back
  pub whole : Whole front
  pub stop : Stop back
  pub some : 0 < length back

pub tail_of : (s : List ℕ) → Whole s → starts_with 35 (last_line s) ≡ true → Tail s
unfolding last_line starts_with
tail_of [] w h = clash h refl
tail_of (b ∷ bs) w h =
    let (i, ls, o) = line-exists b bs w in
    let e = last_line-at i (b ∷ bs) ls o in
    record {
      front = take i (b ∷ bs);
      back = drop i (b ∷ bs);
      split = sym (take-append-drop i (b ∷ bs));
      whole = whole_take i (b ∷ bs) ls;
      stop = stops (drop i (b ∷ bs)) (subst (λ z. starts_with 35 z ≡ true) e h);
      some = omega arith;
    }
  where
    stops : (r : List ℕ) → starts_with 35 r ≡ true → Stop r
    stops [] g = tt
    stops (c ∷ cs) g = eqb-true c 35 g
