-- Spaces and line ends, by the bytes that stand at a place.
use Rattle.std.specs.Prelude.{◌≡◌, ℕ, suc, ◌+◌, ◌-◌, ◌<◌, ◌≤◌, true, false, ltb, eqb, List, [], ◌∷◌, length, get_or, drop}
use borrow.Author.Tests.{lt-ltb, le-ltb, ltb-true, ltb-false}
use mathlib.Core.Path.{refl, ap}
use native.Mathlib.Numerals.{add-one}
use native.Mathlib.Omega.{arith}
use lib.ListN.{drop_of_length-le, length-drop}
use lib.Seq.{drop-cons}
use Rattle.syntax.specs.Byte as Byte
use Rattle.syntax.specs.Bytes.{run, spaces, eol, starts_with}
use Rattle.syntax.specs.Helper.{blank_turn, block_turn, skip_blank, skip_blank_block}
use Rattle.std.proofs.lemmas.Bool.{false≢true}
use Rattle.laws.specs.Bytes.{by_case, eol-le}
use Rattle.laws.specs.Loop.Turns.{blank_turn-moves}
use Rattle.entry.specs.Place.{Passed, Went}
use Rattle.entry.proofs.Lines.{past-eol}
use Rattle.entry.proofs.Turns.{Turning, turning-more, turning-block, went-block, went-turns, blank-space, blank-eol, blank-done}

-- all bytes from i up to next are spaces
pub record Spaced (s : List ℕ) (i next : ℕ) : Type 0 where
  pub inside : next ≤ length s
  pub onward : i ≤ next
  pub all : spaces (drop i s) ≡ next - i + spaces (drop next s)

pub spaced-none : (s : List ℕ) (i : ℕ) → i ≤ length s → Spaced s i i
spaced-none s i l = record { inside = l; onward = omega arith; all = omega arith }

no-spaces : (x : List ℕ) → starts_with Byte.space x ≡ false → spaces x ≡ 0
unfolding spaces run starts_with
no-spaces [] h = refl
no-spaces (b ∷ x) h = rw (h, run) refl

pub spaced-more : {s : List ℕ} {i next : ℕ} → Spaced s i next → starts_with Byte.space (drop next s) ≡ true → Spaced s i (next + 1)
unfolding spaces run starts_with
spaced-more {s} {i} {next} p h = by_case (ltb next (length s)) (λ t. here (ltb-true next (length s) t)) (λ t. absurd (past (ltb-false next (length s) t)))
  where
    past : length s ≤ next → ⊥
    past l = false≢true (rw (drop_of_length-le s l, starts_with) at h)

    here : next < length s → Spaced s i (next + 1)
    here l =
        let d : drop next s ≡ get_or s next 0 ∷ drop (suc next) s = drop-cons s next 0 l in
        let e : eqb (get_or s next 0) Byte.space ≡ true = rw (d, starts_with) at h in
        let q : spaces (drop next s) ≡ suc (spaces (drop (next + 1) s)) = rw (d, spaces, run, e, add-one) refl in
        record { inside = omega arith; onward = omega (arith, p.onward); all = omega (arith, p.all, p.onward, q) }

-- a line end, by the tests of its bytes

pub feed : (x : List ℕ) → starts_with Byte.line_feed x ≡ true → eol x ≡ 1
unfolding starts_with eol
feed [] h = absurd (false≢true h)
feed (b ∷ x) h = rw (h, eol) refl

pub crlf : (x : List ℕ) → starts_with Byte.line_feed x ≡ false → starts_with Byte.carriage_return x ≡ true
    → starts_with Byte.line_feed (drop 1 x) ≡ true → eol x ≡ 2
unfolding starts_with eol
crlf [] g h k = absurd (false≢true h)
crlf (b ∷ x) g h k = rw (g, eol, h, k) refl

pub lone : (x : List ℕ) → starts_with Byte.line_feed x ≡ false → starts_with Byte.line_feed (drop 1 x) ≡ false → eol x ≡ 0
unfolding starts_with eol
lone [] g k = refl
lone (b ∷ x) g k = by_case (eqb b Byte.carriage_return) (λ q. rw (g, eol, q, k) refl) (λ q. rw (g, eol, q) refl)

pub no-end : (x : List ℕ) → starts_with Byte.line_feed x ≡ false → starts_with Byte.carriage_return x ≡ false → eol x ≡ 0
unfolding starts_with eol
no-end [] g h = refl
no-end (b ∷ x) g h = rw (g, eol, h) refl

module _ {s : List ℕ} {at i n next : ℕ} (t : Turning block_turn s at 0 i n) (p : Spaced s i next) (h : starts_with Byte.space (drop next s) ≡ false) where
  spaced : Passed s i (spaces (drop i s)) next
  spaced = record { end = omega (arith, p.all, p.onward, no-spaces (drop next s) h); within = p.inside }

  pub block-on : {k : ℕ} → eol (drop next s) ≡ k → 0 < k → Turning block_turn s at 0 (next + k) (n + 1)
  block-on {k} e l =
      let w = eol-le (drop next s) in
      turning-block t spaced (record { end = omega (arith, e); within = omega (arith, e, w, length-drop next s, p.inside) }) (λ z. omega (arith, z, l))

  pub block-went : eol (drop next s) ≡ 0 → Went s at (skip_blank_block (drop at s)) n i
  block-went e = went-block t spaced (record { end = omega (arith, e); within = p.inside }) refl

-- ---- skip_blank, a byte or a line end at a turn

module _ {s : List ℕ} {at i : ℕ} (t : Turning blank_turn s at tt i tt) where
  pub blanks-space : i < length s → starts_with Byte.space (drop i s) ≡ true → Turning blank_turn s at tt (i + 1) tt
  blanks-space l h = turning-more blank_turn-moves t (blank-space (drop i s) h) refl (omega arith)

  module _ {k : ℕ} (h : starts_with Byte.space (drop i s) ≡ false) (e : k ≡ eol (drop i s)) where
    pub blanks-eol : 0 < k → Turning blank_turn s at tt (i + k) tt
    blanks-eol l =
        turning-more blank_turn-moves t (blank-eol (drop i s) h (lt-ltb 0 (eol (drop i s)) (omega (arith, e)))) (ap (λ n. i + n) e)
        (omega (arith, past-eol s i t.inside e))

    pub blanks-went : k ≡ 0 → Went s at (skip_blank (drop at s)) tt i
    unfolding skip_blank
    blanks-went z = went-turns t (blank-done (drop i s) h (le-ltb 0 (eol (drop i s)) (omega (arith, e, z))))
