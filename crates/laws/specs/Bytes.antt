-- Tests on bytes, and choices by them; how many bytes a run or a line end takes; sources that end in a newline, and what follows a cut.
use Rattle.std.specs.Prelude.{ℕ, zero, suc, ◌≤◌, ◌<◌, ◌≡◌, refl, Bool, true, false, ◌&&◌, List, [], ◌∷◌, ◌++◌, drop, length, eqb}
use Rattle.std.proofs.Common.{suc-le-suc, ap, arith, eqb-true}
use Rattle.std.proofs.lemmas.List.{drop-append-le}
pub use Rattle.syntax.specs.Bytes.{Whole, is_fresh, Fresh}
use Rattle.syntax.specs.Bytes.{starts_with, is_letter, spaces, eol, run}

pub whole-tail : (b : ℕ) (bs : List ℕ) → Whole (b ∷ bs) → Whole bs
whole-tail b [] w = tt
whole-tail b (c ∷ cs) w = w

pub whole_drop : (k : ℕ) (x : List ℕ) → Whole x → Whole (drop k x)
whole_drop zero x w = w
whole_drop (suc k) [] w = tt
whole_drop (suc k) (b ∷ bs) w = whole_drop k bs (whole-tail b bs w)

-- a comment line, or nothing
abbrev pub Stop : List ℕ → Type 0
Stop [] = Unit {0}
Stop (b ∷ bs) = b ≡ 35

pub by_case {ℓ} : {G : Type ℓ} → (v : Bool) → (v ≡ true → G) → (v ≡ false → G) → G
by_case true f g = f refl
by_case false f g = g refl

-- a choice by a test
pub pick : {B : Type 0} (P : B → Type 0) (v : Bool) (o u : B) → (v ≡ true → P o) → (v ≡ false → P u) → P (elim v [ true ↦ o | false ↦ u ])
pick P true o u f g = f refl
pick P false o u f g = g refl

-- the same choice on both sides
pub pick₂ : {B : Type 0} (R : B → B → Type 0) (v : Bool) (o u o' u' : B) → (v ≡ true → R o o') → (v ≡ false → R u u')
    → R (elim v [ true ↦ o | false ↦ u ]) (elim v [ true ↦ o' | false ↦ u' ])
pick₂ R true o u o' u' f g = f refl
pick₂ R false o u o' u' f g = g refl

-- the rest of a line that does not end here
pub nonempty : (b : ℕ) (bs : List ℕ) → Whole (b ∷ bs) → (b ≡ 10 → ⊥) → 0 < length bs
nonempty b [] w h = absurd (h w)
nonempty b (c ∷ cs) w h = omega arith

pub clash {ℓ} : {G : Type ℓ} {v : Bool} → v ≡ true → v ≡ false → G
clash p q = let z : ◌≡◌ {A = ℕ} 0 1 = cc in absurd (omega arith)

-- what is counted at the start of a rest is within it
pub run-le : (t : ℕ → Bool) (s : List ℕ) → run t s ≤ length s
unfolding run
run-le t [] = omega arith
run-le t (b ∷ bs) = by_case (t b) (λ q. rw (q, run) (suc-le-suc (run-le t bs))) (λ q. rw (q, run) (omega arith))

pub spaces-le : (s : List ℕ) → spaces s ≤ length s
unfolding spaces
spaces-le s = run-le (λ b. eqb b 32) s

pub eol-le : (s : List ℕ) → eol s ≤ length s
unfolding eol starts_with
eol-le [] = omega arith
eol-le (b ∷ []) =
    by_case (eqb b 10) (λ q. rw (q, eol) (omega arith))
    (λ q. by_case (eqb b 13) (λ r. rw (q, eol) (rw r (omega arith))) (λ r. rw (q, eol) (rw r (omega arith))))
eol-le (b ∷ c ∷ cs) =
    by_case (eqb b 10) (λ q. rw (q, eol) (omega arith))
    (λ q. rw (q, eol)
    (pick (λ e. e ≤ suc (suc (length cs))) (eqb b 13 && eqb c 10) 2 0 (λ r. omega arith) (λ r. omega arith)))

pub starts_with-some : (b : ℕ) (s : List ℕ) → starts_with b s ≡ true → 0 < length s
unfolding starts_with
starts_with-some b [] h = clash h refl
starts_with-some b (c ∷ cs) h = omega arith

-- a test that a newline fails does not see past the end of a line
pub run-whole : (t : ℕ → Bool) → t 10 ≡ false → (b : ℕ) (bs y : List ℕ) → Whole (b ∷ bs)
    → (run t ((b ∷ bs) ++ y) ≡ run t (b ∷ bs)) × (run t (b ∷ bs) < suc (length bs))
unfolding run
run-whole t e b [] y w = let q : t b ≡ false = rw w e in rw (q, run) (refl, omega arith)
run-whole t e b (c ∷ cs) y w =
    by_case (t b) (λ q. rw (q, run) (ap suc (run-whole t e c cs y w).0, suc-le-suc (run-whole t e c cs y w).1))
    (λ q. rw (q, run) (refl, omega arith))

pub drop_app : (k : ℕ) (x y : List ℕ) → k ≤ length x → drop k (x ++ y) ≡ drop k x ++ y
drop_app = drop-append-le

pub eol-whole : (b : ℕ) (bs y : List ℕ) → Whole (b ∷ bs) → (eol ((b ∷ bs) ++ y) ≡ eol (b ∷ bs)) × (eol (b ∷ bs) ≤ suc (length bs))
unfolding eol starts_with
eol-whole b [] y w = rw w (refl, omega arith)
eol-whole b (c ∷ cs) y w =
    by_case (eqb b 10) (λ q. rw (q, eol) (refl, omega arith))
    (λ q. rw (q, eol) (by_case (eqb b 13 && eqb c 10) (λ r. rw r (refl, omega arith)) (λ r. rw r (refl, omega arith))))

-- what stands after a cut starts with no blank
pub fresh-run : (t : ℕ → Bool) → ((b : ℕ) → t b ≡ true → is_fresh b ≡ false) → (y : List ℕ) → Fresh y → run t y ≡ 0
unfolding run
fresh-run t h [] f = refl
fresh-run t h (b ∷ bs) f = by_case (t b) (λ q. clash f (h b q)) (λ q. rw (q, run))

pub stop-fresh : (y : List ℕ) → Stop y → Fresh y
unfolding is_letter
stop-fresh [] s = tt
stop-fresh (b ∷ bs) s = rw s refl

pub not-fresh : (b c : ℕ) → is_fresh c ≡ false → eqb b c ≡ true → is_fresh b ≡ false
not-fresh b c e q = rw (eqb-true b c q) e

pub fresh-spaces : (y : List ℕ) → Fresh y → spaces y ≡ 0
unfolding spaces is_letter
fresh-spaces y f = fresh-run (λ b. eqb b 32) (λ b q. not-fresh b 32 refl q) y f

pub fresh-eol : (y : List ℕ) → Fresh y → eol y ≡ 0
unfolding eol is_letter
fresh-eol [] f = refl
fresh-eol (b ∷ bs) f =
    by_case (eqb b 10) (λ q. clash f (not-fresh b 10 refl q))
    (λ q. by_case (eqb b 13) (λ r. clash f (not-fresh b 13 refl r)) (λ r. rw (q, eol, r) refl))

pub spaces-whole : (b : ℕ) (bs y : List ℕ) → Whole (b ∷ bs) → (spaces ((b ∷ bs) ++ y) ≡ spaces (b ∷ bs))
    × (spaces (b ∷ bs) < suc (length bs))
unfolding spaces
spaces-whole b bs y w = run-whole (λ b. eqb b 32) refl b bs y w

pub stop-run : (t : ℕ → Bool) → t 35 ≡ false → (y : List ℕ) → Stop y → run t y ≡ 0
unfolding run
stop-run t e [] s = refl
stop-run t e (b ∷ bs) s = let q : t b ≡ false = rw s e in rw (q, run)
