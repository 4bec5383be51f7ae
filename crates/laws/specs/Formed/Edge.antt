-- Edges: the places of a rest where an ASCII byte or nothing stands, or that an ASCII byte stands right before. The
-- rest's own start counts as
-- one: a reader starts at an edge of its source. In UTF-8 they are character boundaries.
use Rattle.std.specs.Prelude.{ℕ, zero, suc, ◌+◌, ◌≤◌, ◌<◌, ◌≡◌, Bool, true, false, ◌||◌, List, [], ◌∷◌, drop, length, get_or, eqb, ltb}
use Rattle.std.proofs.Common.{suc-le-suc, le_of_suc-le-suc, zero-add, add-one, arith, sym, subst}
use Rattle.std.proofs.Math.Path.{refl}
use borrow.Author.Tests.{eqb-true, eq-eqb, ltb-true, le-ltb}
use Rattle.utf8.specs.Utf8 as Utf8
use Rattle.utf8.specs.Utf8.{is_boundary}
use Rattle.utf8.specs.Law.{ascii-boundary}
use Rattle.syntax.specs.Bytes.{starts_with, run, eol, spaces}
use Rattle.laws.specs.Bytes.{by_case, clash}

abbrev pub ascii : ℕ → Bool
ascii b = ltb b 128

-- an ASCII byte or nothing stands at the start
unfoldable pub clear : List ℕ → Bool
clear [] = true
clear (b ∷ bs) = ascii b

unfoldable pub edge : List ℕ → ℕ → Bool
edge s zero = true
edge [] (suc k) = false
edge (b ∷ bs) (suc k) = elim k [ zero ↦ ascii b || clear bs | suc m ↦ edge bs k ]

edge-next : (b : ℕ) (bs : List ℕ) (k : ℕ) → edge bs k ≡ true → (k ≡ 0 → (ascii b || clear bs) ≡ true) → edge (b ∷ bs) (suc k) ≡ true
unfolding edge
edge-next b bs zero e h = h refl
edge-next b bs (suc k) e h = e

pub edge-le : (s : List ℕ) (k : ℕ) → edge s k ≡ true → k ≤ length s
unfolding edge
edge-le s zero e = omega arith
edge-le [] (suc k) e = clash e refl
edge-le (b ∷ bs) (suc zero) e = omega arith
edge-le (b ∷ bs) (suc (suc m)) e = suc-le-suc (edge-le bs (suc m) e)

-- an edge of the rest from an edge on
pub edge-add : (s : List ℕ) (k j : ℕ) → edge s k ≡ true → edge (drop k s) j ≡ true → edge s (k + j) ≡ true
unfolding edge
edge-add s zero j e f = rw zero-add f
edge-add [] (suc k) j e f = clash e refl
edge-add (b ∷ bs) (suc zero) zero e f = e
edge-add (b ∷ bs) (suc zero) (suc j) e f = let z : 1 + suc j ≡ suc (suc j) = omega arith in rw z f
edge-add (b ∷ bs) (suc (suc m)) j e f = let z : suc (suc m) + j ≡ suc (suc m + j) = omega arith in
    rw z (edge-next b bs (suc m + j) (edge-add bs (suc m) j e f) (λ q. absurd (omega arith)))

pub edge-past : (s : List ℕ) (k : ℕ) → edge s k ≡ true → {r : List ℕ} → drop k s ≡ r → (j i : ℕ) → k + j ≡ i
    → edge r j ≡ true → edge s i ≡ true
edge-past s k e {r} d j i z f = subst (λ i. edge s i ≡ true) z (edge-add s k j e (subst (λ r. edge r j ≡ true) (sym d) f))

-- where the rest is clear
pub edge-clear : (s : List ℕ) (k : ℕ) → k ≤ length s → clear (drop k s) ≡ true → edge s k ≡ true
unfolding edge
edge-clear s zero l c = refl
edge-clear [] (suc k) l c = absurd (omega arith)
edge-clear (b ∷ bs) (suc zero) l c = rw c (or_right (ascii b))
  where
    or_right : (v : Bool) → (v || true) ≡ true
    or_right true = refl
    or_right false = refl
edge-clear (b ∷ bs) (suc (suc m)) l c = edge-clear bs (suc m) (le_of_suc-le-suc l) c

pub edge-first : (b : ℕ) (bs : List ℕ) → ascii b ≡ true → edge (b ∷ bs) 1 ≡ true
unfolding edge
edge-first b bs a = rw a refl

-- among bytes that pass a test that only ASCII bytes pass
pub edge-run : (p : ℕ → Bool) → ((b : ℕ) → p b ≡ true → ascii b ≡ true) → (s : List ℕ) (k : ℕ) → k ≤ run p s → edge s k ≡ true
unfolding edge run
edge-run p h s zero l = refl
edge-run p h [] (suc k) l = absurd (omega arith)
edge-run p h (b ∷ bs) (suc k) l =
    by_case (p b)
    (λ q. edge-next b bs k (edge-run p h bs k (le_of_suc-le-suc (rw (q, run) at l))) (λ z. rw (h b q) refl))
    (λ q. absurd (omega (arith, rw (q, run) at l)))

-- one byte, tested for
pub ascii-of : (c : ℕ) → ascii c ≡ true → (b : ℕ) → eqb b c ≡ true → ascii b ≡ true
ascii-of c a b q = rw (eqb-true b c q) a

pub edge-byte : (c : ℕ) → ascii c ≡ true → (s : List ℕ) → starts_with c s ≡ true → edge s 1 ≡ true
unfolding starts_with
edge-byte c a [] q = clash q refl
edge-byte c a (b ∷ bs) q = edge-first b bs (ascii-of c a b q)

pub edge-spaces : (s : List ℕ) (k : ℕ) → k ≤ spaces s → edge s k ≡ true
unfolding spaces
edge-spaces s k l = edge-run (λ b. eqb b 32) (ascii-of 32 refl) s k l

-- a line end, and what stands in it
pub edge-eol : (s : List ℕ) (k : ℕ) → k ≤ eol s → edge s k ≡ true
unfolding eol starts_with edge
edge-eol s zero l = refl
edge-eol [] (suc k) l = absurd (omega arith)
edge-eol (b ∷ bs) (suc k) l = by_case (eqb b 10) (λ q. one (ascii-of 10 refl b q) (omega (arith, rw (q, eol) at l)))
    (λ q. by_case (eqb b 13) (λ r. two bs k (ascii-of 13 refl b r) (rw (q, eol, r) at l)) (λ r. absurd (omega (arith, rw (q, eol, r) at l))))
  where
    one : ascii b ≡ true → k ≡ 0 → edge (b ∷ bs) (suc k) ≡ true
    one a z = rw z (rw a refl)

    two : (bs : List ℕ) (k : ℕ) → ascii b ≡ true → suc k ≤ (elim (starts_with 10 bs) [ true ↦ 2 | false ↦ 0 ]) → edge (b ∷ bs) (suc k) ≡ true
    two bs zero a l = rw a refl
    two [] (suc m) a l = absurd (omega arith)
    two (c ∷ cs) (suc zero) a l = by_case (eqb c 10) (λ q. rw (ascii-of 10 refl c q) refl) (λ q. absurd (omega (arith, rw q at l)))
    two (c ∷ cs) (suc (suc m)) a l = absurd (by_case (eqb c 10) (λ q. omega (arith, rw q at l)) (λ q. omega (arith, rw q at l)))

-- what an edge is
pub data Edge (s : List ℕ) : ℕ → Type 0 where
  here : Edge s 0
  end : Edge s (length s)
  before : (k : ℕ) → k < length s → get_or s k 0 < 128 → Edge s k
  behind : (k : ℕ) → k < length s → get_or s k 0 < 128 → Edge s (suc k)

edge_on : (b : ℕ) (bs : List ℕ) {k : ℕ} → Edge bs k → 0 < k → Edge (b ∷ bs) (suc k)
edge_on b bs here l = absurd (omega arith)
edge_on b bs end l = end
edge_on b bs (before k h g) l = before (suc k) (suc-le-suc h) g
edge_on b bs (behind k h g) l = behind (suc k) (suc-le-suc h) g

edge-is : (s : List ℕ) (k : ℕ) → edge s k ≡ true → Edge s k
unfolding edge clear
edge-is s zero e = here
edge-is [] (suc k) e = clash e refl
edge-is (b ∷ bs) (suc zero) e = by_case (ascii b) (λ q. behind 0 (omega arith) (ltb-true b 128 q)) (λ q. past bs (rw q at e))
  where
    past : (bs : List ℕ) → clear bs ≡ true → Edge (b ∷ bs) 1
    past [] c = end
    past (d ∷ ds) c = before 1 (omega arith) (ltb-true d 128 c)
edge-is (b ∷ bs) (suc (suc m)) e = edge_on b bs (edge-is bs (suc m) e) (omega arith)

-- in UTF-8 an edge is a character boundary
pub edge-boundary : (s : List ℕ) → Utf8.WellFormed s → (k : ℕ) → edge s k ≡ true → is_boundary s k ≡ true
edge-boundary s w k e = go (edge-is s k e)
  where
    go : {k : ℕ} → Edge s k → is_boundary s k ≡ true
    go here = unfold is_boundary in refl
    go end = unfold is_boundary in
        (by_case (eqb (length s) 0) (λ q. rw (q, is_boundary))
        (λ q. rw (q, is_boundary, le-ltb (length s) (length s) (omega arith)) (eq-eqb (length s) (length s) refl)))
    go (before k h g) = (ascii-boundary s k w h g).0
    go (behind k h g) = rw (← (add-one k)) (ascii-boundary s k w h g).1
