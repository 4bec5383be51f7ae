-- Blanks, by counts: what the reading and the grammar skip, and that to skip twice is to skip once.
use Rattle.std.specs.Prelude.{ℕ, zero, suc, ◌+◌, ◌≤◌, ◌<◌, ◌≡◌, refl, Bool, true, false, ◌||◌, List, [], ◌∷◌, map, drop, length, eqb, ltb}
use Rattle.std.proofs.Common.{not-suc-le-zero, zero-add, add-zero, add_assoc, arith, sym, ap, ◌∙◌, subst, length-drop, drop-drop, eqb-true}
use Rattle.std.proofs.lemmas.Bool.{eqb-false}
use Rattle.syntax.specs.Bytes.{starts, starts_with, run, spaces, eol}
use Rattle.syntax.specs.Marks.{up, move_up}
use Rattle.syntax.specs.Reader as Reader
use Rattle.syntax.specs.Reader.{ok, loop, repeat}
use Rattle.syntax.specs.Helper.{blank_turn, skip_blank}
use Rattle.laws.specs.Bytes.{by_case, clash}
use Rattle.standard.specs.Peg as Peg
use Rattle.standard.specs.Steps.{move_up-none, some-run, first, second, turns-on, turns-end, turns-still, opt-fits}
use Rattle.standard.specs.Steps.{opt-fails, void-fits, void-fails, some_fits, some-fails, byte_fits, byte-fails}
use Rattle.standard.specs.Steps.{then-fits, then-fails, after-fails, bind-fits, bind-fails, turns_more}
use Rattle.standard.specs.Peg.{fits, fails, Parser, ◌//◌, opt, many, some, turns, one, byte, sized, void, eof}
use Rattle.standard.specs.Peg.{◌>>=◌, ◌>>◌, Answer, with_first}
use Rattle.standard.specs.Abstract.{Line}
use Rattle.standard.specs.Lexical.{line-end, blank-inline, blank-inline?, blank, blank?, blank-line, blank-block}

-- a byte that is a blank, by what follows it: a space, a newline, or a CR before a newline
unfoldable pub is_blank_at : ℕ → List ℕ → Bool
is_blank_at b bs = eqb b 32 || ltb 0 (eol (b ∷ bs))

-- how many blanks stand here
unfoldable pub blanks : List ℕ → ℕ
blanks [] = 0
blanks (b ∷ bs) = elim (is_blank_at b bs) [ true ↦ suc (blanks bs) | false ↦ 0 ]

-- what stands behind the blanks
abbrev pub behind : List ℕ → List ℕ
behind s = drop (blanks s) s

-- where blanks k bytes on end
unfoldable pub over : List ℕ → ℕ → ℕ
over s k = k + blanks (drop k s)

-- what blank stands here
pub data Blank : List ℕ → Type 0 where
  space : (s : List ℕ) → Blank (32 ∷ s)
  lf : (s : List ℕ) → Blank (10 ∷ s)
  crlf : (s : List ℕ) → Blank (13 ∷ 10 ∷ s)
  none : {s : List ℕ} → starts_with 32 s ≡ false → eol s ≡ 0 → Blank s

cr-blank : (s : List ℕ) → starts_with 10 s ≡ true → Blank (13 ∷ s)
unfolding starts_with
cr-blank [] e = clash e refl
cr-blank (b ∷ bs) e = subst (λ x. Blank (13 ∷ x ∷ bs)) (sym (eqb-true b 10 e)) (crlf bs)

pub blank_of : (s : List ℕ) → Blank s
unfolding starts_with eol
blank_of [] = none refl refl
blank_of (b ∷ bs) = by_case (eqb b 32) (λ q. subst (λ x. Blank (x ∷ bs)) (sym (eqb-true b 32 q)) (space bs))
    (λ q. by_case (eqb b 10) (λ r. subst (λ x. Blank (x ∷ bs)) (sym (eqb-true b 10 r)) (lf bs))
    (λ r. by_case (eqb b 13)
    (λ t. by_case (starts_with 10 bs) (λ u. subst (λ x. Blank (x ∷ bs)) (sym (eqb-true b 13 t)) (cr-blank bs u))
    (λ u. none q (rw (r, eol, t, u) refl)))
    (λ t. none q (rw (r, eol, t) refl))))

none-blanks : (s : List ℕ) → starts_with 32 s ≡ false → eol s ≡ 0 → blanks s ≡ 0
unfolding blanks is_blank_at starts_with
none-blanks [] e f = refl
none-blanks (b ∷ bs) e f = rw (e, blanks, is_blank_at, f) refl

pub no-blank-at : (c : ℕ) (s : List ℕ) → starts_with c s ≡ true → eqb c 32 ≡ false → eqb c 10 ≡ false → eqb c 13 ≡ false → blanks s ≡ 0
unfolding starts_with blanks is_blank_at eol
no-blank-at c [] e p q r = refl
no-blank-at c (x ∷ xs) e p q r = subst (λ y. blanks (y ∷ xs) ≡ 0) (sym (eqb-true x c e)) (rw (p, blanks, is_blank_at, q, eol, r) refl)

-- no blank is left behind blanks
pub no-blanks : (s : List ℕ) → blanks (behind s) ≡ 0
unfolding blanks
no-blanks [] = refl
no-blanks (b ∷ bs) = by_case (is_blank_at b bs) (λ q. rw (q, blanks) (no-blanks bs)) (λ q. rw (q, blanks) (rw (q, blanks) refl))

-- some of the blanks, then the others
pub blanks-on : (k : ℕ) (s : List ℕ) → k ≤ blanks s → k + blanks (drop k s) ≡ blanks s
unfolding blanks
blanks-on zero s h = omega arith
blanks-on (suc k) [] h = absurd (not-suc-le-zero h)
blanks-on (suc k) (b ∷ bs) h = by_case (is_blank_at b bs)
    (λ q. rw (q, blanks) (omega (arith, blanks-on k bs (omega (arith, rw (q, blanks) at h)))))
    (λ q. absurd (not-suc-le-zero (rw (q, blanks) at h)))

-- spaces and line ends are blanks
pub spaces-blanks : (s : List ℕ) → spaces s ≤ blanks s
unfolding spaces run blanks is_blank_at
spaces-blanks [] = omega arith
spaces-blanks (b ∷ bs) =
    by_case (eqb b 32) (λ q. rw (q, run, blanks, is_blank_at) (omega (arith, spaces-blanks bs)))
    (λ q. rw (q, run) (omega arith))

pub eol-blanks : (s : List ℕ) → eol s ≤ blanks s
unfolding eol blanks is_blank_at starts_with
eol-blanks s = go (blank_of s)
  where
    go : {s : List ℕ} → Blank s → eol s ≤ blanks s
    go (space s) = omega arith
    go (lf s) = omega arith
    go (crlf s) = omega arith
    go (none e f) = omega arith

-- the reading's blanks
blank-loop : (n : ℕ) (s : List ℕ) → length s < n → loop n blank_turn tt s ≡ ok tt [] (blanks s)
unfolding loop blank_turn starts_with eol blanks is_blank_at Reader.after move_up
blank-loop zero s h = absurd (not-suc-le-zero h)
blank-loop (suc n) s h = go (blank_of s) h (λ r l. blank-loop n r l)
  where
    go : {s : List ℕ} → Blank s → length s < suc n
        → ((r : List ℕ) → length r < n → loop n blank_turn tt r ≡ ok tt [] (blanks r))
        → loop (suc n) blank_turn tt s ≡ ok tt [] (blanks s)
    go (space s) l f = rw (f s (omega arith)) (ap (ok tt []) (omega arith))
    go (lf s) l f = rw (f s (omega arith)) (ap (ok tt []) (omega arith))
    go (crlf s) l f = rw (f s (omega arith)) (ap (ok tt []) (omega arith))
    go {s} (none e d) l f = rw (e, loop, blank_turn) (rw d (ap (ok tt []) (sym (none-blanks s e d))))

pub skip_blank-is : (s : List ℕ) → skip_blank s ≡ ok tt [] (blanks s)
unfolding skip_blank repeat
skip_blank-is s = blank-loop (suc (length s)) s (omega arith)

-- the grammar's
space-run : (s : List ℕ) → starts_with 32 s ≡ true → blank-inline s ≡ fits (spaces s) [] (spaces s)
unfolding blank-inline sized spaces starts_with starts byte
space-run [] e = clash e refl
space-run (b ∷ bs) e = rw (some-run (λ x. eqb x 32) (b ∷ bs) e, sized) refl

no-space : (s : List ℕ) → starts_with 32 s ≡ false → blank-inline s ≡ fails
unfolding blank-inline sized starts_with one starts byte some ◌>>=◌ Peg.next
no-space [] e = refl
no-space (b ∷ bs) e = rw (e, blank-inline, sized, some, one) refl

no-spaces : (s : List ℕ) → starts_with 32 s ≡ false → spaces s ≡ 0
unfolding starts_with spaces run
no-spaces [] e = refl
no-spaces (b ∷ bs) e = rw (e, run) refl

pub opt-inline : (s : List ℕ) → opt 0 blank-inline s ≡ fits (spaces s) [] (spaces s)
unfolding opt ◌//◌ Peg.pure
opt-inline s =
    by_case (starts_with 32 s) (λ e. rw (space-run s e, opt, ◌//◌) refl)
    (λ e. rw (no-space s e, opt, ◌//◌) (ap (λ k. fits k [] k) (sym (no-spaces s e))))

pub blank-inline?-is : (s : List ℕ) → blank-inline? s ≡ fits tt [] (spaces s)
unfolding blank-inline? void ◌>>◌ Peg.next Peg.after Peg.pure move_up
blank-inline?-is s = rw (opt-inline s, blank-inline?, void, ◌>>◌) (ap (fits tt []) (omega arith))

-- whether a line ends here
unfoldable pub line_ends : List ℕ → Bool
line_ends [] = true
line_ends (b ∷ bs) = ltb 0 (eol (b ∷ bs))

pub line-end-is : (s : List ℕ) → line_ends s ≡ true → line-end s ≡ fits (eol s) [] (eol s)
unfolding line_ends line-end sized ◌//◌ ◌>>◌ byte one starts eof eol starts_with Peg.next Peg.after move_up
line-end-is [] e = refl
line-end-is (b ∷ bs) e = go (blank_of (b ∷ bs)) e
  where
    none-ends : (s : List ℕ) → eol s ≡ 0 → line_ends s ≡ true → line-end s ≡ fits (eol s) [] (eol s)
    none-ends [] f h = refl
    none-ends (b ∷ bs) f h = clash h (rw f refl)

    go : {s : List ℕ} → Blank s → line_ends s ≡ true → line-end s ≡ fits (eol s) [] (eol s)
    go (space s) h = clash h refl
    go (lf s) h = refl
    go (crlf s) h = refl
    go {s} (none d f) h = none-ends s f h

pub no-line-end : (s : List ℕ) → line_ends s ≡ false → line-end s ≡ fails
unfolding line_ends line-end sized eof eol starts_with
no-line-end [] e = clash refl e
no-line-end (b ∷ bs) e =
    let q : eqb b 10 ≡ false = by_case (eqb b 10) (λ q. clash (rw (q, eol) refl) e) (λ q. q) in
    let r : (byte 13 >> byte 10) (b ∷ bs) ≡ fails = by_case (eqb b 13)
    (λ r. by_case (starts_with 10 bs) (λ t. clash (rw (q, eol, r, t) refl) e)
    (λ t. then-fits (byte 13) (byte 10) (b ∷ bs) (byte_fits 13 (b ∷ bs) r) ∙ after-fails [] 1 (byte-fails 10 bs t)))
    (λ r. then-fails (byte 13) (byte 10) (b ∷ bs) (byte-fails 13 (b ∷ bs) r)) in
    let t : ((byte 13 >> byte 10) // byte 10 // eof) (b ∷ bs) ≡ fails =
    second (byte 13 >> byte 10) (byte 10 // eof) (b ∷ bs) r
    ∙ second (byte 10) eof (b ∷ bs) (byte-fails 10 (b ∷ bs) q) in
    rw (t, line-end, sized) refl

-- turns of blank
abbrev Turned : ℕ → List ℕ → Type 0
Turned n s = (us : List ℕ) × (turns n (blank-inline // line-end) s ≡ fits us [] (blanks s))

blank-turns : (n : ℕ) (s : List ℕ) → length s ≤ n → Turned n s
unfolding turns blanks is_blank_at eol starts_with spaces run move_up line_ends
blank-turns zero [] h = ([], refl)
blank-turns zero (b ∷ bs) h = absurd (not-suc-le-zero h)
blank-turns (suc n) s h = go (blank_of s) h (λ r l. blank-turns n r l)
  where
    end : (s : List ℕ) → starts_with 32 s ≡ false → eol s ≡ 0 → turns (suc n) (blank-inline // line-end) s ≡ fits [] [] 0
    end [] e f = turns-still (suc n) (blank-inline // line-end) [] (second blank-inline line-end [] (no-space [] e) ∙ line-end-is [] refl)
    end (b ∷ bs) e f =
        turns-end (suc n) (blank-inline // line-end) (b ∷ bs)
        (second blank-inline line-end (b ∷ bs) (no-space (b ∷ bs) e) ∙ no-line-end (b ∷ bs) (rw f refl))

    go : {s : List ℕ} → Blank s → length s ≤ suc n → ((r : List ℕ) → length r ≤ n → Turned n r) → Turned (suc n) s
    go (space s) l f =
        let (us, e) = f (drop (spaces s) s) (omega (arith, length-drop (spaces s) s)) in (
          suc (spaces s)
              ∷ us,
          turns-on n (blank-inline // line-end) (32 ∷ s)
              (first blank-inline line-end (32 ∷ s) (space-run (32 ∷ s) refl)) (omega arith) e
              ∙ ap (fits (suc (spaces s) ∷ us) []) (omega (arith, blanks-on (spaces s) s (spaces-blanks s))),
        )
    go (lf s) l f =
        let (us, e) = f s (omega arith) in (
          1
              ∷ us,
          turns-on n (blank-inline // line-end) (10 ∷ s)
              (second blank-inline line-end (10 ∷ s) (no-space (10 ∷ s) refl) ∙ line-end-is (10 ∷ s) refl) (omega arith) e
              ∙ ap (fits (1 ∷ us) []) (omega arith),
        )
    go (crlf s) l f =
        let (us, e) = f s (omega arith) in (
          2
              ∷ us,
          turns-on n (blank-inline // line-end) (13 ∷ 10 ∷ s)
              (second blank-inline line-end (13 ∷ 10 ∷ s) (no-space (13 ∷ 10 ∷ s) refl) ∙ line-end-is (13 ∷ 10 ∷ s) refl)
              (omega arith) e
              ∙ ap (fits (2 ∷ us) []) (omega arith),
        )
    go {s} (none d e) l f = ([], end s d e ∙ ap (fits [] []) (sym (none-blanks s d e)))

pub blank?-is : (s : List ℕ) → blank? s ≡ fits tt [] (blanks s)
unfolding blank? blank many blanks is_blank_at eol starts_with spaces run move_up turns line_ends
blank?-is s = go (blank_of s)
  where
    yes-blank : (s : List ℕ) {a : ℕ} {k : ℕ} → (blank-inline // line-end) s ≡ fits a [] k
        → k + blanks (drop k s) ≡ blanks s → blank? s ≡ fits tt [] (blanks s)
    yes-blank s {a} {k} e h =
        let (us, f) = blank-turns (length (drop k s)) (drop k s) (omega arith) in
        opt-fits tt blank s (void-fits (some (blank-inline // line-end)) s (some_fits (blank-inline // line-end) s e f)) ∙ ap (fits tt []) h

    end : (s : List ℕ) → starts_with 32 s ≡ false → eol s ≡ 0 → blank? s ≡ fits tt [] (blanks s)
    end [] e f = yes-blank [] (second blank-inline line-end [] (no-space [] e) ∙ line-end-is [] refl) refl
    end (b ∷ bs) e f =
        opt-fails tt blank (b ∷ bs)
        (void-fails (some (blank-inline // line-end)) (b ∷ bs)
        (some-fails (blank-inline // line-end) (b ∷ bs)
        (second blank-inline line-end (b ∷ bs) (no-space (b ∷ bs) e) ∙ no-line-end (b ∷ bs) (rw f refl))))
        ∙ ap (fits tt []) (sym (none-blanks (b ∷ bs) e f))

    go : {s : List ℕ} → Blank s → blank? s ≡ fits tt [] (blanks s)
    go (space s) =
        yes-blank (32 ∷ s) (first blank-inline line-end (32 ∷ s) (space-run (32 ∷ s) refl))
        (omega (arith, blanks-on (spaces s) s (spaces-blanks s)))
    go (lf s) =
        yes-blank (10 ∷ s) (second blank-inline line-end (10 ∷ s) (no-space (10 ∷ s) refl) ∙ line-end-is (10 ∷ s) refl)
        (omega arith)
    go (crlf s) =
        yes-blank (13 ∷ 10 ∷ s)
        (second blank-inline line-end (13 ∷ 10 ∷ s) (no-space (13 ∷ 10 ∷ s) refl) ∙ line-end-is (13 ∷ 10 ∷ s) refl)
        (omega arith)
    go {s} (none e f) = end s e f

-- to skip twice is to skip once
pub over-over : (s : List ℕ) (k : ℕ) → over s (over s k) ≡ over s k
unfolding over
over-over s k = rw (← drop-drop (blanks (drop k s)) k s) (omega (arith, no-blanks (drop k s)))

pub drop-over : (s : List ℕ) (k : ℕ) → behind (drop k s) ≡ drop (over s k) s
unfolding over
drop-over s k = drop-drop (blanks (drop k s)) k s

pub reader-skips : {A : Type 0} (q : Reader.Reader A) (s : List ℕ) → (Reader.◌>>◌ skip_blank q) s ≡ Reader.after [] (blanks s) (q (behind s))
unfolding Reader.◌>>◌ Reader.next
reader-skips q s = rw (skip_blank-is s, Reader.◌>>◌) refl

pub parser-skips : {A : Type 0} (q : Parser A) (s : List ℕ) → (blank? >> q) s ≡ Peg.after [] (blanks s) (q (behind s))
parser-skips q s = then-fits blank? q s (blank?-is s)

pub over_none : (s : List ℕ) → over s 0 ≡ blanks s
unfolding over
over_none s = zero-add (blanks s)

pub over-blanks : (s : List ℕ) → over s (blanks s) ≡ blanks s
unfolding over
over-blanks s = omega (arith, no-blanks s)

-- Blank lines
-- ---------------------------------------------------------------------------------------------------------------------------------

-- a line that is blank
pub line-is : (s : List ℕ) → line_ends (drop (spaces s) s) ≡ true
    → blank-line s ≡ fits (record { spaces = spaces s; ending = eol (drop (spaces s) s) }) []
    (spaces s + eol (drop (spaces s) s))
unfolding blank-line Peg.after Peg.pure move_up
line-is s e = bind-fits (opt 0 blank-inline) _ s (opt-inline s)
    ∙ ap (Peg.after [] (spaces s)) (bind-fits line-end _ (drop (spaces s) s) (line-end-is (drop (spaces s) s) e))
    ∙ ap (λ k. fits (record { spaces = spaces s; ending = eol (drop (spaces s) s) }) [] (spaces s + k)) (add-zero (eol (drop (spaces s) s)))

pub no_line : (s : List ℕ) → line_ends (drop (spaces s) s) ≡ false → blank-line s ≡ fails
unfolding blank-line
no_line s e = bind-fits (opt 0 blank-inline) _ s (opt-inline s)
    ∙ after-fails [] (spaces s) (bind-fails line-end _ (drop (spaces s) s) (no-line-end (drop (spaces s) s) e))

-- k bytes that are blanks
abbrev pub Blanked : List ℕ → ℕ → Type 0
Blanked s k = k + blanks (drop k s) ≡ blanks s

blanked-on : (s : List ℕ) (k j : ℕ) → Blanked s k → Blanked (drop k s) j → Blanked s (k + j)
blanked-on s k j h l = ap (λ r. k + j + blanks r) (sym (drop-drop j k s)) ∙ add_assoc k j (blanks (drop j (drop k s)))
    ∙ ap (λ n. k + n) l ∙ h

line-blanked : (s : List ℕ) → Blanked s (spaces s + eol (drop (spaces s) s))
line-blanked s =
    blanked-on s (spaces s) (eol (drop (spaces s) s)) (blanks-on (spaces s) s (spaces-blanks s))
    (blanks-on (eol (drop (spaces s) s)) (drop (spaces s) s) (eol-blanks (drop (spaces s) s)))

-- blank lines are blanks
abbrev pub Lines : List ℕ → Answer (List Line) → Type 0
Lines s (fits ls ms k) = (ms ≡ []) × Blanked s k
Lines s fails = ⊥

lines-on : (s : List ℕ) (l : Line) (k : ℕ) (a : Answer (List Line)) → Blanked s k → Lines (drop k s) a
    → Lines s (with_first l (Peg.after [] k a))
unfolding with_first Peg.after move_up
lines-on s l k (fits ls ms j) h (m, b) = (ap (map (up k)) m, blanked-on s k j h b)
lines-on s l k fails h b = b

lines-turns : (n : ℕ) (s : List ℕ) → Lines s (turns n blank-line s)
unfolding turns
lines-turns zero s = (refl, zero-add (blanks s))
lines-turns (suc n) s = by_case (line_ends (drop (spaces s) s))
    (λ e. by_case (eqb (spaces s + eol (drop (spaces s) s)) 0)
    (λ z. rw
    (turns-still (suc n) blank-line s
    (line-is s e
    ∙ ap (fits (record { spaces = spaces s; ending = eol (drop (spaces s) s) }) [])
    (eqb-true (spaces s + eol (drop (spaces s) s)) 0 z)))
    (refl, zero-add (blanks s)))
    (λ z. rw (turns_more n blank-line s (line-is s e) (omega (arith, eqb-false (spaces s + eol (drop (spaces s) s)) 0 z)))
    (lines-on s (record { spaces = spaces s; ending = eol (drop (spaces s) s) }) (spaces s + eol (drop (spaces s) s))
    (turns n blank-line (drop (spaces s + eol (drop (spaces s) s)) s)) (line-blanked s)
    (lines-turns n (drop (spaces s + eol (drop (spaces s) s)) s)))))
    (λ e. rw (turns-end (suc n) blank-line s (no_line s e)) (refl, zero-add (blanks s)))

pub ends-spaces : (s : List ℕ) → line_ends s ≡ true → spaces s ≡ 0
unfolding line_ends eol spaces run starts_with
ends-spaces s e = go (blank_of s) e
  where
    go : {s : List ℕ} → Blank s → line_ends s ≡ true → spaces s ≡ 0
    go (space s) h = clash h refl
    go (lf s) h = refl
    go (crlf s) h = refl
    go {s} (none d f) h = no-spaces s d

pub block-lines : (s : List ℕ) → line_ends (drop (spaces s) s) ≡ true → Lines s (blank-block s)
unfolding blank-block many
block-lines s e =
    go (many blank-line (drop (spaces s + eol (drop (spaces s) s)) s)) refl
    (lines-turns (length (drop (spaces s + eol (drop (spaces s) s)) s)) (drop (spaces s + eol (drop (spaces s) s)) s))
  where
    go : (a : Answer (List Line)) → many blank-line (drop (spaces s + eol (drop (spaces s) s)) s) ≡ a
        → Lines (drop (spaces s + eol (drop (spaces s) s)) s) a → Lines s (blank-block s)
    go (fits ls ms j) h (m, b) =
        rw (some_fits blank-line s (line-is s e) h) (
          ap (move_up (spaces s + eol (drop (spaces s) s))) m
              ∙ move_up-none (spaces s + eol (drop (spaces s) s)),
          blanked-on s (spaces s + eol (drop (spaces s) s)) j (line-blanked s) b,
        )
    go fails h b = absurd b
