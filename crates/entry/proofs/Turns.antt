-- Loops of turns without marks: what the code's loop keeps, and how it goes on and ends.
use Rattle.std.specs.Prelude.{◌≡◌, ℕ, suc, ◌+◌, ◌-◌, ◌<◌, ◌≤◌, true, false, ltb, List, [], length, drop}
use native.Mathlib.Numerals.{add-one}
use native.Mathlib.Omega.{arith}
use mathlib.Core.Path.{sym, ap, ◌∙◌}
use lib.Seq.{drop-drop}
use borrow.Author.Tests.{lt-ltb}
use Rattle.syntax.specs.Byte as Byte
use Rattle.syntax.specs.Bytes.{starts_with, eol, spaces}
use Rattle.syntax.specs.Marks.{move_up}
use Rattle.syntax.specs.Reader.{Out, ok, after, Turn, again, done, repeat}
use Rattle.syntax.specs.Helper.{blank_turn, block_turn, skip_blank_block}
use Rattle.laws.specs.Moving.{after-after, after_none}
use Rattle.laws.specs.Loop.{Moves, repeat-again, repeat-done}
use Rattle.laws.specs.Loop.Turns.{block_turn-moves}
use Rattle.entry.specs.Place.{Place, Passed, Went, Found}
use Rattle.entry.proofs.Places.{went-ok, found_after}

-- the turns from `at` in the state u have come to i in the state v
pub record Turning {S A : Type 0} (turn : S → List ℕ → Turn S A) (s : List ℕ) (at : ℕ) (u : S) (i : ℕ) (v : S) : Type 0 where
  pub inside : i ≤ length s
  pub onward : at ≤ i
  pub sofar : repeat turn u (drop at s) ≡ after [] (i - at) (repeat turn v (drop i s))

module _ {S A : Type 0} (turn : S → List ℕ → Turn S A) (s : List ℕ) (at : ℕ) (u : S) where
  pub turning-none : at ≤ length s → Turning turn s at u at u
  turning-none l = let e : at - at ≡ 0 = omega arith in
      record { inside = l; onward = omega arith; sofar = rw e (sym (after_none (repeat turn u (drop at s)))) }

module _ {S A : Type 0} {turn : S → List ℕ → Turn S A} {s : List ℕ} {at : ℕ} {u : S} {i : ℕ} {v : S} where
  pub turning-more : {w : S} {j k : ℕ} → Moves turn → Turning turn s at u i v → turn v (drop i s) ≡ again w [] k
      → j ≡ i + k → j ≤ length s → Turning turn s at u j w
  unfolding move_up
  turning-more {w} {j} {k} m t h e l =
      record {
        inside = l;
        onward = omega (arith, t.onward);
        sofar = t.sofar ∙ ap (after [] (i - at)) (repeat-again m v (drop i s) h) ∙ after-after [] (i - at) [] k _
            ∙ ends;
      }
    where
      sum : i - at + k ≡ j - at
      sum = omega (arith, t.onward)

      ends : after [] (i - at + k) (repeat turn w (drop k (drop i s))) ≡ after [] (j - at) (repeat turn w (drop j s))
      ends = rw (sum, drop-drop, e)

  pub turning-end : {o : Out A} → Turning turn s at u i v → turn v (drop i s) ≡ done o → repeat turn u (drop at s) ≡ after [] (i - at) o
  turning-end t h = t.sofar ∙ ap (after [] (i - at)) (repeat-done turn v (drop i s) h)

-- ---- blanks

pub blank-space : (x : List ℕ) → starts_with Byte.space x ≡ true → blank_turn tt x ≡ again tt [] 1
unfolding blank_turn
blank-space x q = rw (q, blank_turn)

pub blank-eol : (x : List ℕ) → starts_with Byte.space x ≡ false → ltb 0 (eol x) ≡ true → blank_turn tt x ≡ again tt [] (eol x)
unfolding blank_turn
blank-eol x q h = rw (q, blank_turn, h)

pub blank-done : (x : List ℕ) → starts_with Byte.space x ≡ false → ltb 0 (eol x) ≡ false → blank_turn tt x ≡ done (ok tt [] 0)
unfolding blank_turn
blank-done x q h = rw (q, blank_turn, h)

-- ---- blocks of blank lines

pub block-again : (n : ℕ) (x : List ℕ) → 0 < eol (drop (spaces x) x) → block_turn n x ≡ again (suc n) [] (spaces x + eol (drop (spaces x) x))
unfolding block_turn
block-again n x l = rw (lt-ltb 0 (eol (drop (spaces x) x)) l, block_turn)

pub block-done : (n : ℕ) (x : List ℕ) → eol (drop (spaces x) x) ≡ 0 → block_turn n x ≡ done (ok n [] 0)
unfolding block_turn
block-done n x h = rw (h, block_turn)

-- the loop ended
pub went-turns : {S A : Type 0} {turn : S → List ℕ → Turn S A} {s : List ℕ} {at : ℕ} {u : S} {i : ℕ} {v : S} {a : A}
    → Turning turn s at u i v → turn v (drop i s) ≡ done (ok a [] 0)
    → Went s at (repeat turn u (drop at s)) a i
unfolding after move_up
went-turns t h = went-ok (turning-end t h) (omega (arith, t.onward)) t.inside

pub found-turns : {S A : Type 0} {turn : S → List ℕ
    → Turn S A} {s : List ℕ} {at : ℕ} {u : S} {i : ℕ} {v : S} {r : Place} {o : Out A}
    → Turning turn s at u i v → turn v (drop i s) ≡ done o → Found s i o r
    → Found s at (repeat turn u (drop at s)) r
found-turns {at = at} {i = i} {o = o} t h f = rw (turning-end t h) (found_after (i - at) o (omega (arith, t.onward)) f)

-- spaces up to m, and a line end up to j
module _ {s : List ℕ} {at i n m j : ℕ} (t : Turning block_turn s at 0 i n) (p : Passed s i (spaces (drop i s)) m)
    (q : Passed s m (eol (drop m s)) j) where
  same-eol : eol (drop (spaces (drop i s)) (drop i s)) ≡ eol (drop m s)
  same-eol = let e = p.end in rw (e, drop-drop)

  pub turning-block : (j ≡ m → ⊥) → Turning block_turn s at 0 j (n + 1)
  turning-block h =
      rw add-one
      (turning-more block_turn-moves t (block-again n (drop i s) (omega (arith, h, same-eol, q.end)))
      (omega (arith, same-eol, p.end, q.end)) q.within)

  pub went-block : j ≡ m → Went s at (skip_blank_block (drop at s)) n i
  unfolding skip_blank_block
  went-block h = went-turns t (block-done n (drop i s) (omega (arith, same-eol, q.end)))
