-- Lines of a source: where they end, and where they start.
pub mod Join
pub mod Lands
pub mod Starts
use Rattle.std.specs.Prelude.{ℕ, zero, suc, ◌+◌, ◌<◌, ◌≡◌, refl, true, false, ◌&&◌, not, List, [], ◌∷◌, ◌++◌, drop, length, eqb}
use Rattle.std.proofs.Common.{not-suc-le-zero, add-zero, zero-add, suc-add, add-suc, arith, ap, subst, eqb-true}
use Rattle.syntax.specs.Bytes.{starts_with, run, eol, line_run}
use Rattle.syntax.specs.Core.{line_starts_at}
use Rattle.laws.specs.Bytes.{Whole, by_case, clash, run-whole}

pub line_run-whole : (b : ℕ) (bs y : List ℕ) → Whole (b ∷ bs) → (line_run ((b ∷ bs) ++ y) ≡ line_run (b ∷ bs))
    × (line_run (b ∷ bs) < suc (length bs))
unfolding line_run
line_run-whole b bs y w = run-whole (λ b. not (eqb b 10)) refl b bs y w

pub line_run-here : (b : ℕ) (bs : List ℕ) → eqb b 10 ≡ true → line_run (b ∷ bs) ≡ 0
unfolding line_run run
line_run-here b bs q = rw (q, run)

pub line_run-on : (b : ℕ) (bs : List ℕ) → eqb b 10 ≡ false → line_run (b ∷ bs) ≡ suc (line_run bs)
unfolding line_run run
line_run-on b bs q = rw (q, run)

-- what stands at the first newline
pub line_run-at : (s : List ℕ) → line_run s < length s → drop (line_run s) s ≡ 10 ∷ drop (suc (line_run s)) s
line_run-at [] h = absurd (not-suc-le-zero h)
line_run-at (b ∷ bs) h =
    by_case (eqb b 10) (λ q. rw (line_run-here b bs q) (ap (λ z. z ∷ bs) (eqb-true b 10 q)))
    (λ q. rw (line_run-on b bs q) (line_run-at bs (omega (arith, line_run-on b bs q))))

pub starts-at : (s : List ℕ) → line_run s < length s → line_starts_at (suc (line_run s)) s ≡ true
unfolding line_starts_at
starts-at [] h = absurd (not-suc-le-zero h)
starts-at (b ∷ bs) h =
    by_case (eqb b 10) (λ q. rw (line_run-here b bs q) q)
    (λ q. rw (line_run-on b bs q) (starts-at bs (omega (arith, line_run-on b bs q))))

starts-on : (k j : ℕ) (s : List ℕ) → line_starts_at (suc j) (drop k s) ≡ true → line_starts_at (k + suc j) s ≡ true
unfolding line_starts_at
starts-on zero j s q = rw (zero-add (suc j)) q
starts-on (suc k) j [] q = clash q refl
starts-on (suc k) j (b ∷ bs) q =
    rw (suc-add k (suc j), add-suc k j) (subst (λ z. line_starts_at z bs ≡ true) (add-suc k j) (starts-on k j bs q))

pub starts-later : (k j : ℕ) (s : List ℕ) → 0 < j → line_starts_at j (drop k s) ≡ true → line_starts_at (k + j) s ≡ true
starts-later k zero s h q = absurd (not-suc-le-zero h)
starts-later k (suc j) s h q = starts-on k j s q

pub starts-add : (k j : ℕ) (s : List ℕ) → line_starts_at k s ≡ true → line_starts_at j (drop k s) ≡ true → line_starts_at (k + j) s ≡ true
starts-add k zero s p q = rw (add-zero k) p
starts-add k (suc j) s p q = starts-on k j s q

-- the line end that a line comes to
pub eol-line : (s : List ℕ) → 0 < eol s → line_run s + 1 ≡ eol s
unfolding eol starts_with
eol-line [] h = absurd (not-suc-le-zero h)
eol-line (b ∷ bs) h = by_case (eqb b 10)
    (λ q. rw (q, eol) (omega (arith, line_run-here b bs q)))
    (λ q. cr bs (rw (q, eol) at h) q)
  where
    cr : (cs : List ℕ) → 0 < (elim (eqb b 13 && starts_with 10 cs) [ true ↦ 2 | false ↦ 0 ]) → eqb b 10 ≡ false
        → line_run (b ∷ cs) + 1 ≡ eol (b ∷ cs)
    cr [] g q = by_case (eqb b 13) (λ r. absurd (not-suc-le-zero (rw r at g))) (λ r. absurd (not-suc-le-zero (rw r at g)))
    cr (c ∷ cs) g q = by_case (eqb b 13)
        (λ r. by_case (eqb c 10)
        (λ t. rw (q, eol) (rw r (rw t (omega (arith, line_run-on b (c ∷ cs) q, line_run-here c cs t)))))
        (λ t. absurd (not-suc-le-zero (rw t at (rw r at g)))))
        (λ r. absurd (not-suc-le-zero (rw r at g)))

-- a line end ends where a line starts
pub eol-starts : (r : List ℕ) → 0 < eol r → line_starts_at (eol r) r ≡ true
unfolding eol starts_with line_starts_at
eol-starts [] h = absurd (not-suc-le-zero h)
eol-starts (b ∷ bs) h = by_case (eqb b 10) (λ q. rw (q, eol) q) (λ q. cr bs q (rw (q, eol) at h))
  where
    cr : (cs : List ℕ) → eqb b 10 ≡ false → 0 < (elim (eqb b 13 && starts_with 10 cs) [ true ↦ 2 | false ↦ 0 ])
        → line_starts_at (eol (b ∷ cs)) (b ∷ cs) ≡ true
    cr [] q g = by_case (eqb b 13) (λ r. absurd (not-suc-le-zero (rw r at g))) (λ r. absurd (not-suc-le-zero (rw r at g)))
    cr (c ∷ cs) q g = by_case (eqb b 13)
        (λ r. by_case (eqb c 10) (λ t. rw (q, eol) (rw r (rw t t))) (λ t. absurd (not-suc-le-zero (rw t at (rw r at g)))))
        (λ r. absurd (not-suc-le-zero (rw r at g)))
