-- A comment that goes on past a cut.
use Prim.Native.Nat.{ℕ, zero, suc, ◌+◌, ◌<◌}
use Rattle.std.proofs.Common.{not-suc-le-zero, ◌∙◌, subst}
use native.Mathlib.Omega.{arith}
use Rattle.std.proofs.Math.Path.{◌≡◌, refl, sym, ap}
use Rattle.std.specs.Prelude.{◌⊎◌, ◌&&◌, ◌||◌, drop, eqb, ltb}
use Rattle.std.proofs.Math.Logic.{inl, inr}
use Rattle.std.proofs.Math.Bool.{true, false, not}
use mathlib.Core.List.{List, [], ◌∷◌}
use Rattle.std.proofs.Math.ListN.{length}
use borrow.Author.Tests.{eqb-true, eqb-false, eq-eqb, ne_eqb}
use Rattle.syntax.specs.Bytes.{starts_with, eol}
use Rattle.syntax.specs.declared.errors.ErrorKind.TheVariants as Errors
use Rattle.syntax.specs.Marks.{Mark}
use Rattle.syntax.specs.declared.errors.ParserError.{ParserError}
use Rattle.syntax.specs.Reader.{Out, ok, bad, deep, fail, after, Turn, again, done, loop, repeat}
use Rattle.syntax.specs.Comment.{level_of, line_read, line_turn, comment_turn, get_comment}
use Rattle.laws.specs.Bytes.{by_case, clash}
use Rattle.laws.specs.Answers.{Holds, TurnHolds, loop-holds}
use Rattle.laws.specs.Loop.{loop-fuel}
use Rattle.laws.specs.Loop.Turns.{comment_turn-moves}
use Rattle.laws.specs.Bounds.Comment.{level_of-some, is_over}

-- where a comment has started there is no error
abbrev NotBad : Out ℕ → Type 0
NotBad (ok a ms k) = Unit {0}
NotBad (bad f k) = ⊥
NotBad (deep k) = Unit {0}

abbrev TurnNotBad : Turn ℕ ℕ → Type 0
TurnNotBad (again st ms k) = 0 < st
TurnNotBad (done o) = NotBad o

line_turn-not-bad : (st l : ℕ) (r : List ℕ) → 0 < st → 0 < l → TurnNotBad (line_turn st l r)
unfolding line_turn line_read
line_turn-not-bad st l [] p q = tt
line_turn-not-bad st l (b ∷ bs) p q = by_case (ltb 0 (eol (b ∷ bs))) (λ e. rw (e, TurnNotBad, line_turn) q)
    (λ e. rw (e, TurnNotBad, line_turn)
    (by_case (eqb b 32) (λ f. rw f q)
    (λ f. rw f (by_case (eqb st 0) (λ g. absurd (omega (arith, eqb-true st 0 g))) (λ g. rw g tt)))))

turn-not-bad : (st : ℕ) (s : List ℕ) → 0 < st → TurnNotBad (comment_turn st s)
unfolding comment_turn
turn-not-bad st s p = by_case (is_over st s) (λ e. rw (e, TurnNotBad, comment_turn) tt)
    (λ e. rw (e, TurnNotBad, comment_turn) (line_turn-not-bad st (level_of s) (drop (level_of s) s) p (level-pos e)))
  where
    level-pos : is_over st s ≡ false → 0 < level_of s
    level-pos e = by_case (eqb (level_of s) 0) (λ q. clash (rw q refl) e) (λ q. pos (level_of s) (eqb-false (level_of s) 0 q))
      where
        pos : (n : ℕ) → (n ≡ 0 → ⊥) → 0 < n
        pos zero h = absurd (h refl)
        pos (suc n) h = omega arith

loop-not-bad : (n st : ℕ) (s : List ℕ) → 0 < st → NotBad (loop n comment_turn st s)
unfolding loop after
loop-not-bad zero st s p = tt
loop-not-bad (suc n) st s p = go (comment_turn st s) (turn-not-bad st s p) (λ st' r q. loop-not-bad n st' r q)
  where
    inner : (ms : List Mark) (k : ℕ) (o : Out ℕ) → NotBad o → NotBad (after ms k o)
    inner ms k (ok a ns j) h = tt
    inner ms k (bad f j) h = h
    inner ms k (deep j) h = tt

    go : (w : Turn ℕ ℕ) → TurnNotBad w → ((st' : ℕ) (r : List ℕ) → 0 < st' → NotBad (loop n comment_turn st' r))
        → NotBad (elim w [ again st' ms k ↦ after ms k (loop n comment_turn st' (drop k s)) | done o ↦ o ])
    go (again st' ms k) h f = inner ms k (loop n comment_turn st' (drop k s)) (f st' (drop k s) h)
    go (done o) h f = h

-- the level is the first line's
abbrev pub Levelled : ℕ → List ℕ → ℕ → List Mark → ℕ → Type 0
Levelled st s a ms k = (0 < st → a ≡ st) × (st ≡ 0 → 0 < level_of s → a ≡ level_of s)

pub levelled : (n st : ℕ) (s : List ℕ) → Holds (Levelled st s) (loop n comment_turn st s)
unfolding line_turn line_read comment_turn after fail
levelled n st s = loop-holds comment_turn Levelled turns n st s
  where
    same : (st l : ℕ) → 0 < st → (eqb l 0 || (not (eqb st 0) && not (eqb l st))) ≡ false → l ≡ st
    same st l p e = by_case (eqb l st) (λ q. eqb-true l st q)
        (λ q. by_case (eqb st 0) (λ r. absurd (omega (arith, eqb-true st 0 r)))
        (λ r. by_case (eqb l 0) (λ t. clash (rw t refl) e) (λ t. clash (rw t (rw r (rw q refl))) e)))

    ready : (st : ℕ) (s : List ℕ) → is_over st s ≡ false → (a : ℕ) → a ≡ level_of s → (0 < st → a ≡ st)
        × (st ≡ 0 → 0 < level_of s → a ≡ level_of s)
    ready st s e a f = (λ p. f ∙ same st (level_of s) p e, λ z q. f)

    level-pos : (st : ℕ) (s : List ℕ) → is_over st s ≡ false → 0 < level_of s
    level-pos st s e = by_case (eqb (level_of s) 0) (λ q. clash (rw q refl) e) (λ q. pos (level_of s) (eqb-false (level_of s) 0 q))
      where
        pos : (n : ℕ) → (n ≡ 0 → ⊥) → 0 < n
        pos zero h = absurd (h refl)
        pos (suc n) h = omega arith

    lines : (st : ℕ) (s r : List ℕ) → is_over st s ≡ false → TurnHolds comment_turn Levelled st s (line_turn st (level_of s) r)
    lines st s [] e = ready st s e (level_of s) refl
    lines st s (b ∷ bs) e =
        by_case (ltb 0 (eol (b ∷ bs)))
        (λ q. rw (q, TurnHolds, line_turn) (λ a ns j g. ready st s e a (g.0 (level-pos st s e))))
        (λ q. rw (q, TurnHolds, line_turn) (by_case (eqb b 32) (λ r. rw r (λ a ns j g. ready st s e a (g.0 (level-pos st s e))))
        (λ r. rw r (by_case (eqb st 0) (λ t. rw t tt) (λ t. rw t (λ p. refl, λ z p. absurd (eqb-false st 0 t z)))))))

    turns : (st : ℕ) (s : List ℕ) → TurnHolds comment_turn Levelled st s (comment_turn st s)
    turns st s = by_case (is_over st s)
        (λ q. rw (q, TurnHolds, comment_turn) (λ p. refl, λ z p. absurd (over st s q z p)))
        (λ q. rw (q, TurnHolds, comment_turn) (lines st s (drop (level_of s) s) q))
      where
        over : (st : ℕ) (s : List ℕ) → is_over st s ≡ true → st ≡ 0 → 0 < level_of s → ⊥
        over st s q z p =
            by_case (eqb (level_of s) 0) (λ r. omega (arith, eqb-true (level_of s) 0 r))
            (λ r. clash q (rw r (rw (eq-eqb st 0 z) refl)))

-- the rest y of a comment of the level l: y's own comment, if it is of that level, and nothing otherwise
abbrev pub Own : ℕ → List ℕ → Type 0
Own l y = (ms : List Mark) × (k : ℕ) × (get_comment y ≡ ok l ms k) × ((m : ℕ) → length y < m → loop m comment_turn l y ≡ ok l ms k)

abbrev pub Other : ℕ → List ℕ → Type 0
Other l y = ((ms : List Mark) (k : ℕ) → get_comment y ≡ ok l ms k → ⊥) × ((m : ℕ) → length y < m → loop m comment_turn l y ≡ ok l [] 0)

-- a line of the level l reads as a first line, or is none where a first line would be wrong
abbrev SameLine : ℕ → List ℕ → Type 0
SameLine l r =
    (line_turn l l r ≡ line_turn 0 l r) ⊎
    ((line_turn l l r ≡ done (ok l [] 0)) × ((f : ParserError) × (k : ℕ) × (line_turn 0 l r ≡ done (bad f k))))

line_turn-same : (l : ℕ) (r : List ℕ) → 0 < l → SameLine l r
unfolding line_turn after fail
line_turn-same l [] p = inl refl
line_turn-same l (b ∷ bs) p = by_case (ltb 0 (eol (b ∷ bs))) (λ q. inl (rw (q, line_turn) refl))
    (λ q. by_case (eqb b 32) (λ r. inl (rw (q, line_turn) (rw r refl)))
    (λ r. inr (
      rw (q, line_turn) (rw r (rw (ne_eqb l 0 (λ e. omega arith)) refl)),
      (record { start = l + 0; end = l + 1; kind = Errors.ExpectedToken 32 }, l + 0, rw (q, line_turn) (rw r refl)),
    )))

module _ (l c : ℕ) (cs : List ℕ) (pos : 0 < l) (hash : eqb c 35 ≡ true) (not_deep : (k : ℕ) → get_comment (c ∷ cs) ≡ deep k → ⊥) where
  at_once : comment_turn l (c ∷ cs) ≡ done (ok l [] 0) → (m : ℕ) → length (c ∷ cs) < m → loop m comment_turn l (c ∷ cs) ≡ ok l [] 0
  unfolding loop
  at_once t zero h = absurd (not-suc-le-zero h)
  at_once t (suc m) h = rw (t, loop) refl

  other-level : eqb (level_of (c ∷ cs)) l ≡ false → Other l (c ∷ cs)
  unfolding comment_turn get_comment repeat
  other-level q = (
    λ ms k e. eqb-false (level_of (c ∷ cs)) l q
        (sym
        ((subst (Holds (Levelled 0 (c ∷ cs))) e (levelled (suc (length (c ∷ cs))) 0 (c ∷ cs))).1 refl
        (level_of-some (c ∷ cs) (unfold starts_with in hash)))),
    at_once
        (rw (
          ne_eqb (level_of (c ∷ cs)) 0 (λ e. omega (arith, level_of-some (c ∷ cs) (unfold starts_with in hash))),
          comment_turn,
        )
        (rw (ne_eqb l 0 (λ e. omega arith)) (rw q refl))),
  )

  module _ (same : level_of (c ∷ cs) ≡ l) where
    turn-of : (st : ℕ) → (eqb st 0 ≡ true) ⊎ (st ≡ l) → comment_turn st (c ∷ cs) ≡ line_turn st l (drop l (c ∷ cs))
    unfolding comment_turn
    turn-of st (inl z) = ap (λ n. of st n (drop n (c ∷ cs))) same ∙ rw (ne_eqb l 0 (λ e. omega arith)) (rw z refl)
      where
        of : ℕ → ℕ → List ℕ → Turn ℕ ℕ
        of st n r = elim (eqb n 0 || (not (eqb st 0) && not (eqb n st))) [ true ↦ done (ok st [] 0) | false ↦ line_turn st n r ]
    turn-of st (inr z) = ap (λ n. of st n (drop n (c ∷ cs))) same
        ∙ rw (ne_eqb l 0 (λ e. omega arith)) (rw (eq-eqb l st (sym z)) (rw (ne_eqb st 0 (λ e. omega arith)) refl))
      where
        of : ℕ → ℕ → List ℕ → Turn ℕ ℕ
        of st n r = elim (eqb n 0 || (not (eqb st 0) && not (eqb n st))) [ true ↦ done (ok st [] 0) | false ↦ line_turn st n r ]

    own : line_turn l l (drop l (c ∷ cs)) ≡ line_turn 0 l (drop l (c ∷ cs)) → Own l (c ∷ cs)
    unfolding get_comment repeat loop
    own t = go (get_comment (c ∷ cs)) refl
      where
        loops : (m : ℕ) → loop (suc m) comment_turn l (c ∷ cs) ≡ loop (suc m) comment_turn 0 (c ∷ cs)
        loops m = ap (λ w. step w) (turn-of l (inr refl) ∙ t ∙ sym (turn-of 0 (inl refl)))
          where
            step : Turn ℕ ℕ → Out ℕ
            step w = elim w [ again st' ms k ↦ after ms k (loop m comment_turn st' (drop k (c ∷ cs))) | done o ↦ o ]

        go : (o : Out ℕ) → get_comment (c ∷ cs) ≡ o → Own l (c ∷ cs)
        go (ok a ms k) e =
            let z : a ≡ l =
            (subst (Holds (Levelled 0 (c ∷ cs))) e (levelled (suc (length (c ∷ cs))) 0 (c ∷ cs))).1 refl
            (level_of-some (c ∷ cs) (unfold starts_with in hash))
            ∙ same in
            (ms, k, e ∙ ap (λ n. ok n ms k) z, λ m h. more m h ∙ e ∙ ap (λ n. ok n ms k) z)
          where
            more : (m : ℕ) → length (c ∷ cs) < m → loop m comment_turn l (c ∷ cs) ≡ get_comment (c ∷ cs)
            more m h = loop-fuel comment_turn-moves m (suc (length (c ∷ cs))) l (c ∷ cs) h (omega arith) ∙ loops (length (c ∷ cs))
        go (bad f k) e = absurd (subst NotBad (loops (length (c ∷ cs)) ∙ e) (loop-not-bad (suc (length (c ∷ cs))) l (c ∷ cs) pos))
        go (deep k) e = absurd (not_deep k e)

  pub own-or-other : Own l (c ∷ cs) ⊎ Other l (c ∷ cs)
  unfolding get_comment repeat loop
  own-or-other = by_case (eqb (level_of (c ∷ cs)) l)
      (λ q. by (eqb-true (level_of (c ∷ cs)) l q) (line_turn-same l (drop l (c ∷ cs)) pos)) (λ q. inr (other-level q))
    where
      by : level_of (c ∷ cs) ≡ l → SameLine l (drop l (c ∷ cs))
          → Own l (c ∷ cs) ⊎ Other l (c ∷ cs)
      by same (inl t) = inl (own same t)
      by same (inr t) = inr (
        λ ms k e. let b : get_comment (c ∷ cs) ≡ bad t.1.0 t.1.1 = rw (turn-of same 0 (inl refl) ∙ t.1.2, loop) refl in
            let z : ◌≡◌ {A = ℕ} 0 1 = cc in omega arith,
        at_once (turn-of same l (inr refl) ∙ t.0),
      )
