-- After the first entry of a rest, and the blank lines behind it, a line starts.
use Rattle.std.specs.Prelude.{ℕ, zero, suc, ◌+◌, ◌-◌, ◌<◌, ◌≡◌, refl, ◌⊎◌, Bool, true, false, ◌&&◌, ◌||◌, List, [], ◌∷◌, drop, length, eqb, ltb}
use Rattle.std.proofs.Common.{not-suc-le-zero, le_of_suc-le-suc, add-zero, arith, sym, ap, ◌∙◌, subst, inl, length-drop, drop-drop, eqb-true, ltb-true}
use Rattle.std.proofs.Math.Logic.{inr}
use Rattle.syntax.specs.Bytes.{starts_with, is_letter, eol}
use Rattle.syntax.specs.Marks.{Mark}
use Rattle.syntax.specs.Reader.{Out, ok, bad, deep, after, fail, Turn, loop, repeat}
use Rattle.syntax.specs.Helper.{skip_blank_block, block_turn}
use Rattle.syntax.specs.Comment.{line_length, level_of, line_end_used, line_read, line_turn, comment_turn, get_comment}
use Rattle.syntax.specs.Pattern.{Inside, used_by}
use Rattle.syntax.specs.Core.{Entry, as_comment, get_entry, to_next_entry, line_starts_at, junk_end, Error}
use Rattle.laws.specs.Bytes.{by_case, clash, pick}
use Rattle.laws.specs.Answers.{Holds, TurnHolds, loop-holds}
use Rattle.laws.specs.Lines.{starts-later, starts-add, eol-starts}
use Rattle.laws.specs.Bounds.Comment.{is_over}
use Rattle.laws.specs.Bounds.Pattern.{InsideBounds}
use Rattle.laws.specs.Lines.Lands.{Lands, Stays, stays-stay, block-starts, entry-lands}
use Rattle.laws.specs.Entries.{block-ten}
use Rattle.laws.specs.File.{First, entry, junk}

-- ---- junk

next-starts : (fresh : Bool) (s : List ℕ) → let k = to_next_entry fresh s in k < length s
    → (0 < k → line_starts_at k s ≡ true) × (k ≡ 0 → fresh ≡ true)
unfolding to_next_entry line_starts_at
next-starts fresh [] l = absurd (not-suc-le-zero l)
next-starts fresh (b ∷ bs) l = by_case (fresh && (is_letter b || (eqb b 45 || eqb b 35)))
    (λ q. rw (q, to_next_entry) (λ h. absurd (not-suc-le-zero h), λ e. by_case fresh (λ z. z) (λ z. clash q (rw z refl))))
    (λ q. rw (q, to_next_entry)
    (let g = next-starts (eqb b 10) bs (le_of_suc-le-suc (rw (q, to_next_entry) at l)) in
    (λ h. by (to_next_entry (eqb b 10) bs) g, λ e. absurd (omega arith))))
  where
    by : (t : ℕ) → (0 < t → line_starts_at t bs ≡ true) × (t ≡ 0 → eqb b 10 ≡ true) → line_starts_at (suc t) (b ∷ bs) ≡ true
    by zero g = g.1 refl
    by (suc t) g = g.0 (omega arith)

junk-stays : (k : ℕ) (s : List ℕ) → Stays s (junk_end k s)
unfolding junk_end
junk-stays k s l =
    by (to_next_entry (line_starts_at k s) (drop k s))
    (next-starts (line_starts_at k s) (drop k s) (omega (arith, length-drop k s)))
  where
    by : (t : ℕ) → (0 < t → line_starts_at t (drop k s) ≡ true) × (t ≡ 0 → line_starts_at k s ≡ true) → line_starts_at (k + t) s ≡ true
    by zero g = rw (add-zero k) (g.1 refl)
    by (suc t) g = starts-later k (suc t) s (omega arith) (g.0 (omega arith))

-- ---- comments

-- a comment ends at a line feed, or where a line starts, or at the end
abbrev LineEnd : List ℕ → ℕ → Type 0
LineEnd s k = (starts_with 10 (drop k s) ≡ true) ⊎ (line_starts_at k s ≡ true)

abbrev Leaves : List ℕ → ℕ → Type 0
Leaves s k = k < length s → LineEnd s k

leaves_after : (k j : ℕ) (s : List ℕ) → Leaves s k → Leaves (drop k s) j → Leaves s (k + j)
leaves_after k zero s h g l = rw (add-zero k) (h (omega arith))
leaves_after k (suc j) s h g l = by (g (omega (arith, length-drop k s)))
  where
    by : LineEnd (drop k s) (suc j) → LineEnd s (k + suc j)
    by (inl a) = inl (subst (λ z. starts_with 10 z ≡ true) (drop-drop (suc j) k s) a)
    by (inr a) = inr (starts-later k (suc j) s (omega arith) a)

-- the line feed of a line end
feed-at : (r : List ℕ) → 0 < eol r → starts_with 10 (drop (eol r - 1) r) ≡ true
unfolding eol starts_with
feed-at [] h = absurd (not-suc-le-zero h)
feed-at (b ∷ bs) h = by_case (eqb b 10) (λ q. rw (q, eol) q) (λ q. cr bs q (rw (q, eol) at h))
  where
    cr : (cs : List ℕ) → eqb b 10 ≡ false → 0 < (elim (eqb b 13 && starts_with 10 cs) [ true ↦ 2 | false ↦ 0 ])
        → starts_with 10 (drop (eol (b ∷ cs) - 1) (b ∷ cs)) ≡ true
    cr [] q g = by_case (eqb b 13) (λ r. absurd (not-suc-le-zero (rw r at g))) (λ r. absurd (not-suc-le-zero (rw r at g)))
    cr (c ∷ cs) q g = by_case (eqb b 13)
        (λ r. by_case (eqb c 10) (λ t. rw (q, eol) (rw r (rw t t))) (λ t. absurd (not-suc-le-zero (rw t at (rw r at g)))))
        (λ r. absurd (not-suc-le-zero (rw r at g)))

-- a line ends at a line end, or at the end
line-ends : (s : List ℕ) → (0 < length (drop (line_length s) s)) → 0 < eol (drop (line_length s) s)
unfolding line_length
line-ends [] h = absurd (not-suc-le-zero h)
line-ends (b ∷ bs) h =
    by_case (ltb 0 (eol (b ∷ bs))) (λ q. rw (q, line_length) (ltb-true 0 (eol (b ∷ bs)) q))
    (λ q. rw (q, line_length) (line-ends bs (rw (q, line_length) at h)))

-- what a comment line leaves of its line end
abbrev Ended : List ℕ → ℕ → Type 0
Ended r u = u < length r → (starts_with 10 (drop u r) ≡ true) ⊎ ((0 < u) × (line_starts_at u r ≡ true))

line-ended : (r : List ℕ) → (0 < length r → 0 < eol r) → Ended r (line_end_used r)
unfolding line_end_used
line-ended r h = go (drop (eol r) r) refl
  where
    used : List ℕ → ℕ
    used z = elim z [ [] ↦ eol r | b ∷ bs ↦ elim (eqb b 35) [ true ↦ eol r | false ↦ eol r - 1 ] ]

    go : (z : List ℕ) → drop (eol r) r ≡ z → Ended r (used z)
    go [] e = λ l. absurd (omega (arith, ap length e, length-drop (eol r) r))
    go (b ∷ bs) e =
        pick (Ended r) (eqb b 35) (eol r) (eol r - 1) (λ q l. inr (h (omega arith), eol-starts r (h (omega arith))))
        (λ q l. inl (feed-at r (h (omega arith))))

ended-leaves : (k u : ℕ) (s r : List ℕ) → drop k s ≡ r → Ended r u → Leaves s (k + u)
ended-leaves k u s r e h l = by (h (omega (arith, ap length e, length-drop k s)))
  where
    by : (starts_with 10 (drop u r) ≡ true) ⊎ ((0 < u) × (line_starts_at u r ≡ true)) → LineEnd s (k + u)
    by (inl a) = inl (subst (λ z. starts_with 10 z ≡ true) (ap (drop u) (sym e) ∙ drop-drop u k s) a)
    by (inr (p, a)) = inr (starts-later k u s p (rw e a))

abbrev Turned : ℕ → List ℕ → Turn ℕ ℕ → Type 0
Turned st s w = TurnHolds comment_turn (λ st s a ms k. Leaves s k) st s w

line-leaves : (st : ℕ) (s : List ℕ) (l : ℕ) (r : List ℕ) → drop l s ≡ r → Turned st s (line_turn st l r)
unfolding line_turn line_read fail after line_starts_at
line-leaves st s l [] e = λ h. absurd (omega (arith, ap length e, length-drop l s))
line-leaves st s l (b ∷ bs) e =
    pick (Turned st s) (ltb 0 (eol (b ∷ bs))) _ _
    (λ q a ns j g. leaves_after (l + 0 + line_end_used (b ∷ bs)) j s
    (ended-leaves (l + 0) (line_end_used (b ∷ bs)) s (b ∷ bs) (ap (λ z. drop z s) (add-zero l) ∙ e)
    (line-ended (b ∷ bs) (λ _. ltb-true 0 (eol (b ∷ bs)) q))) g)
    (λ q. pick (Turned st s) (eqb b 32) _ _
    (λ q a ns j g. let m = line_length bs in let r = drop m bs in
    leaves_after (l + 1 + m + line_end_used r) j s
    (ended-leaves (l + 1 + m) (line_end_used r) s r
    (sym (drop-drop m (l + 1) s) ∙ ap (drop m) (sym (drop-drop 1 l s) ∙ ap (drop 1) e))
    (line-ended r (line-ends bs))) g)
    (λ q. pick (Turned st s) (eqb st 0) _ _ (λ q. tt) (λ q h. inr refl)))

comment-leaves : (s : List ℕ) → Holds (λ l ms k. Leaves s k) (get_comment s)
unfolding get_comment repeat
comment-leaves s = loop-holds comment_turn (λ st s a ms k. Leaves s k) turns (suc (length s)) 0 s
  where
    turns : (st : ℕ) (s : List ℕ) → Turned st s (comment_turn st s)
    turns st s = unfold comment_turn line_starts_at in
        (pick (Turned st s) (is_over st s) _ _ (λ q h. inr refl) (λ q. line-leaves st s (level_of s) (drop (level_of s) s) refl))

-- ---- entries

-- the blank lines after a line feed
block-some : (r : List ℕ) → starts_with 10 r ≡ true → 0 < used_by (skip_blank_block r)
unfolding starts_with
block-some [] h = clash h refl
block-some (b ∷ bs) h = rw (eqb-true b 10 h) (rw (block-ten bs) (past (loop (suc (length bs)) block_turn 1 bs)))
  where
    past : (o : Out ℕ) → 0 < used_by (after [] 1 o)
    past (ok a ms k) = unfold after used_by in (omega arith)
    past (bad f k) = unfold after used_by in (omega arith)
    past (deep k) = unfold after used_by in (omega arith)

module _ {n : ℕ} {sub : Inside} (law : InsideBounds n sub) where
  entry-leaves : (s : List ℕ) → Holds (λ e ms k. Leaves s k) (get_entry sub s)
  entry-leaves s =
      by_case (starts_with 35 s)
      (λ q. unfold get_entry in (rw (q, get_entry) (commented (get_comment s) (comment-leaves s))))
      (λ q. named (get_entry sub s) (entry-lands sub law s q))
    where
      commented : (o : Out ℕ) → Holds (λ l ms k. Leaves s k) o → Holds (λ e ms k. Leaves s k) (as_comment o)
      commented (ok l ms k) h = unfold as_comment in h
      commented (bad f k) h = unfold as_comment in tt
      commented (deep k) h = unfold as_comment in tt

      named : (o : Out Entry) → Holds (λ e ms k. Lands s k) o → Holds (λ e ms k. Leaves s k) o
      named (ok e ms k) h = λ l. inr (h l).1
      named (bad f k) h = tt
      named (deep k) h = tt

  pub first-stays : {b : ℕ} {bs : List ℕ} {ms : List Mark} {es : List Error} {k : ℕ} → First sub (b ∷ bs) ms es k → Stays (b ∷ bs) k
  first-stays {b} {bs} (entry {e} {ms} {k} h) = λ l. by (subst (Holds (λ e ms k. Leaves s k)) h (entry-leaves s) (omega arith))
    where
      s : List ℕ
      s = b ∷ bs

      u : ℕ
      u = used_by (skip_blank_block (drop k s))

      by : LineEnd s k → line_starts_at (k + u) s ≡ true
      by (inl a) = starts-later k u s (block-some (drop k s) a) (block-starts (drop k s))
      by (inr a) = starts-add k u s a (block-starts (drop k s))
  first-stays {b} {bs} (junk {k = k} h) = let j = junk_end k (b ∷ bs) in
      stays-stay j (used_by (skip_blank_block (drop j (b ∷ bs)))) (b ∷ bs) (junk-stays k (b ∷ bs))
      (λ _. block-starts (drop j (b ∷ bs)))
