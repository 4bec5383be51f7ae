-- Runs of bytes that pass a test, as the code counts them.
use Rattle.std.specs.Prelude.{◌≡◌, ℕ, zero, suc, ◌-◌, ◌<◌, ◌≤◌, min, Bool, true, false, List, [], ◌∷◌, length, get_or, take, drop}
use Rattle.std.specs.Bool.{MatchBool}
use Rattle.std.specs.List.{AllWithin, HoldsAt}
use mathlib.Core.Path.{refl, sym, ap}
use native.Mathlib.Omega.{arith}
use lib.ListN.{length-drop}
use lib.Seq.{take_all}
use Rattle.syntax.specs.Bytes.{run, all}
use Rattle.laws.specs.Bytes.{by_case}
use Rattle.entry.specs.declared.source.Source.{Source}
use Rattle.entry.specs.Place.{Passed, Counted}
use Rattle.entry.specs.Reads.{rest, Skips}

-- where a run ends
pub run_until : (p : ℕ → Bool) (x : List ℕ) (k : ℕ) → k ≤ length x → ((j : ℕ) → j < k → p (get_or x j 0) ≡ true)
    → (k < length x → p (get_or x k 0) ≡ false) → run p x ≡ k
unfolding run
run_until p [] zero l h e = refl
run_until p [] (suc k) l h e = absurd (omega (arith, l))
run_until p (b ∷ x) zero l h e = rw (e (omega arith), run)
run_until p (b ∷ x) (suc k) l h e =
    let d = run_until p x k (omega (arith, l)) (λ j m. h (suc j) (omega (arith, m))) (λ m. e (omega (arith, m))) in
    rw (h 0 (omega arith), run) (ap suc d)

pub run-counted : (p : ℕ → Bool) {x : List ℕ} {n : ℕ} → Counted (λ b r. r ≡ p b) x n → run p x ≡ n
run-counted p {x} {n} c = run_until p x n c.within (λ k h. sym (c.passing k h)) (λ h. sym (c.stops h))

-- a test that answers by p
pub counted-by : (p : ℕ → Bool) {q : ℕ → Bool → Type 0} {x : List ℕ} {n : ℕ} → ((b : ℕ) (r : Bool) → q b r → r ≡ p b) → Counted q x n
    → Counted (λ b r. r ≡ p b) x n
counted-by p f c =
    record { within = c.within; passing = λ k h. f _ _ (c.passing k h); stops = λ h. f _ _ (c.stops h) }

-- a slice from the m-th on is all that is left
pub all-left : (x : List ℕ) (m : ℕ) → take (length x - m) (drop m x) ≡ drop m x
all-left x m = take_all (length x - m) (drop m x) (omega (arith, length-drop m x))

-- those at the start of what is left, counted in its slice
pub counted-rest : {answers : ℕ → Bool → Type 0} (s : List ℕ) (at : ℕ) {n : ℕ} → Counted answers (take (length s - at) (drop at s)) n
    → Counted answers (drop at s) n
counted-rest s at h = rw (all-left s at) at h

-- what skip_while passed, by a test that answers by p
pub skips-run : (p : ℕ → Bool) {answers : ℕ → Bool → Type 0} {s s' : Source} {n : ℕ} → ((b : ℕ) (r : Bool) → answers b r → r ≡ p b)
    → Skips answers s s' n → Passed s.bytes.now s.ptr (run p (rest s)) s'.ptr × (run p (rest s) ≡ n)
skips-run p {s = s} f h =
    let d : length (rest s) ≡ length s.bytes.now - s.ptr = length-drop s.ptr s.bytes.now in
    let l = s.inside in
    let e = run-counted p (counted-by p f h.counted) in
    (record { end = omega (arith, h.end, e); within = omega (arith, h.end, h.counted.within) }, e)

pub run_take : (p : ℕ → Bool) (n : ℕ) (x : List ℕ) → run p (take n x) ≡ min n (run p x)
unfolding run
run_take p zero x = omega arith
run_take p (suc n) [] = omega arith
run_take p (suc n) (b ∷ x) = let d = run_take p n x in by_case (p b) (λ q. rw (q, run) (omega arith)) (λ q. rw (q, run) (omega arith))

-- ---- all bytes pass a test

all-true : (p : ℕ → Bool) (x : List ℕ) → AllWithin (λ b. p b ≡ true) x 0 (length x) → all p x ≡ true
unfolding all
all-true p [] h = refl
all-true p (b ∷ x) h = rw (h 0 b (omega arith) (omega arith)) (all-true p x (λ k d l m. h (suc k) d (omega arith) (omega (arith, m))))

all-false : (p : ℕ → Bool) (x : List ℕ) (k : ℕ) → k < length x → HoldsAt (λ b. p b ≡ false) x k → all p x ≡ false
unfolding all
all-false p [] k l h = absurd (omega arith)
all-false p (b ∷ x) zero l h = rw (h b) refl
all-false p (b ∷ x) (suc k) l h = by_case (p b) (λ q. rw q (all-false p x k (omega (arith, l)) h)) (λ q. rw q refl)

pub all-passing : (p : ℕ → Bool) (x : List ℕ) (r : Bool)
    → MatchBool r (AllWithin (λ b. p b ≡ true) x 0 (length x)) ((k : ℕ) × (k < length x) × HoldsAt (λ b. p b ≡ false) x k)
    → r ≡ all p x
all-passing p x true h = sym (all-true p x h)
all-passing p x false h = sym (all-false p x h.0 h.1 h.2)
