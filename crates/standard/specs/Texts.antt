-- Line ends and texts within a line: the productions by counts, and the reading's slices by what follows a text.
use Rattle.std.specs.Prelude.{ℕ, zero, suc, ◌+◌, ◌-◌, ◌≤◌, ◌<◌, ◌≡◌, Bool, true, false, ◌&&◌, not, List, [], ◌∷◌, drop, length, take, eqb}
use Rattle.std.proofs.Common.{not-suc-le-zero, add-one, arith, sym, ap, ap₂, ◌∙◌, subst, length-drop, length-take, drop-drop, take-take, eqb-true}
use Rattle.std.proofs.Math.Path.{refl}
use Rattle.std.proofs.Math.Seq.{drop-nil}
use Rattle.std.proofs.lemmas.Bool.{eqb-false}
use Rattle.syntax.specs.Bytes.{starts, starts_with, run, eol}
use Rattle.syntax.specs.Marks.{move_up}
use Rattle.syntax.specs.Reader.{Out, ok, bad, deep}
use Rattle.syntax.specs.declared.errors.ErrorKind.TheVariants as Errors
use Rattle.syntax.specs.Errors.{fault_at}
use Rattle.syntax.specs.Pattern.{Slice, line_feed, crlf, placeable_start, is_text_byte, is_blank, ends_in_cr, line_slice}
use Rattle.syntax.specs.Pattern.{slice_by, get_text_slice, eof as file_end}
use Rattle.laws.specs.Bytes.{by_case, clash}
use Rattle.standard.specs.Peg as Peg
use Rattle.standard.specs.Peg.{fits, fails, ◌>>=◌, ◌>>◌, ◌//◌, many, some, bar, ◌but◌, one, byte, eof, sized, with_first, pure, turns}
use Rattle.standard.specs.Lexical.{line-end, any-char, special-text-char, text-char, inline-text}
use Rattle.standard.specs.Steps.{units, some_fits}
use Rattle.standard.specs.Blank.{line_ends, no-line-end}
use Rattle.standard.specs.Turns.{many-again, many-none, sized-fits}

-- what a text meets: the end, a line end, a brace, or a byte of its own
pub data Sign : List ℕ → Type 0 where
  end : Sign []
  lf : (s : List ℕ) → Sign (10 ∷ s)
  cr-lf : (s : List ℕ) → Sign (13 ∷ 10 ∷ s)
  opens : (s : List ℕ) → Sign (123 ∷ s)
  closes : (s : List ℕ) → Sign (125 ∷ s)
  plain : (b : ℕ) (s : List ℕ) → eqb b 10 ≡ false → eqb b 123 ≡ false → eqb b 125 ≡ false
      → (eqb b 13 && starts_with 10 s) ≡ false → Sign (b ∷ s)

pub sign_of : (s : List ℕ) → Sign s
unfolding starts_with
sign_of [] = end
sign_of (b ∷ bs) = by_case (eqb b 10) (λ q. subst (λ x. Sign (x ∷ bs)) (sym (eqb-true b 10 q)) (lf bs))
    (λ q. by_case (eqb b 123) (λ r. subst (λ x. Sign (x ∷ bs)) (sym (eqb-true b 123 r)) (opens bs))
    (λ r. by_case (eqb b 125) (λ u. subst (λ x. Sign (x ∷ bs)) (sym (eqb-true b 125 u)) (closes bs))
    (λ u. by_case (eqb b 13 && starts_with 10 bs) (λ v. cr bs v) (λ v. plain b bs q r u v))))
  where
    cr : (bs : List ℕ) → (eqb b 13 && starts_with 10 bs) ≡ true → Sign (b ∷ bs)
    cr [] v = by_case (eqb b 13) (λ w. clash {v = false} (rw w at v) refl) (λ w. clash {v = false} (rw w at v) refl)
    cr (c ∷ cs) v = by_case (eqb b 13)
        (λ w. by_case (eqb c 10)
        (λ x. subst (λ y. Sign (y ∷ c ∷ cs)) (sym (eqb-true b 13 w)) (subst (λ y. Sign (13 ∷ y ∷ cs)) (sym (eqb-true c 10 x)) (cr-lf cs)))
        (λ x. clash {v = false} (rw x at (rw w at v)) refl))
        (λ w. clash {v = false} (rw w at v) refl)

pub plain-eol : (b : ℕ) (s : List ℕ) → eqb b 10 ≡ false → (eqb b 13 && starts_with 10 s) ≡ false → eol (b ∷ s) ≡ 0
unfolding eol
plain-eol b s q r = rw (q, eol, r) refl

-- no line end
pub line-end-none : (b : ℕ) (s : List ℕ) → eqb b 10 ≡ false → (eqb b 13 && starts_with 10 s) ≡ false → line-end (b ∷ s) ≡ fails
unfolding line_ends
line-end-none b s q r = no-line-end (b ∷ s) (rw (plain-eol b s q r) refl)

-- Texts
-- ---------------------------------------------------------------------------------------------------------------------------------------

-- whether b is a text-char before bs
unfoldable pub is_text_at : ℕ → List ℕ → Bool
is_text_at b bs = is_text_byte b && not (eqb b 13 && starts_with 10 bs)

-- how many text-chars stand here
unfoldable pub text_run : List ℕ → ℕ
text_run [] = 0
text_run (b ∷ bs) = elim (is_text_at b bs) [ true ↦ suc (text_run bs) | false ↦ 0 ]

text-byte : (b : ℕ) → eqb b 10 ≡ false → eqb b 123 ≡ false → eqb b 125 ≡ false → is_text_byte b ≡ true
unfolding is_text_byte
text-byte b q r u = rw (q, is_text_byte, r, u) refl

text_at : (b : ℕ) (s : List ℕ) → eqb b 10 ≡ false → eqb b 123 ≡ false → eqb b 125 ≡ false
    → (eqb b 13 && starts_with 10 s) ≡ false → is_text_at b s ≡ true
unfolding is_text_at
text_at b s q r u v = rw (is_text_at, text-byte b q r u, v) refl

pub run-plain : (b : ℕ) (s : List ℕ) → eqb b 10 ≡ false → eqb b 123 ≡ false → eqb b 125 ≡ false
    → (eqb b 13 && starts_with 10 s) ≡ false → text_run (b ∷ s) ≡ suc (text_run s)
unfolding text_run
run-plain b s q r u v = rw (text_run, text_at b s q r u v) refl

pub text-char-plain : (b : ℕ) (s : List ℕ) → eqb b 10 ≡ false → eqb b 123 ≡ false → eqb b 125 ≡ false
    → (eqb b 13 && starts_with 10 s) ≡ false → text-char (b ∷ s) ≡ fits tt [] 1
unfolding text-char any-char special-text-char ◌but◌ bar ◌>>◌ Peg.next Peg.after ◌//◌ byte one starts move_up
text-char-plain b s q r u v = rw (text-char, ◌but◌, bar, ◌>>◌, line-end-none b s q v, special-text-char, ◌//◌, byte, one, starts, r, u) refl

many-text : (s : List ℕ) → many text-char s ≡ fits (units (text_run s)) [] (text_run s)
unfolding text_run is_text_at is_text_byte units starts_with text-char any-char special-text-char ◌but◌ bar ◌>>◌ Peg.next
    Peg.after ◌//◌ byte one starts line-end sized eof with_first move_up
many-text [] = unfold text_run units many turns in refl
many-text (b ∷ bs) = go (sign_of (b ∷ bs)) (many-text bs)
  where
    go : {s : List ℕ} → Sign s → many text-char (drop 1 s) ≡ fits (units (text_run (drop 1 s))) [] (text_run (drop 1 s))
        → many text-char s ≡ fits (units (text_run s)) [] (text_run s)
    go end ih = ih
    go (lf s) ih = many-none text-char tt (10 ∷ s) refl
    go (cr-lf s) ih = many-none text-char tt (13 ∷ 10 ∷ s) refl
    go (opens s) ih = many-none text-char tt (123 ∷ s) refl
    go (closes s) ih = many-none text-char tt (125 ∷ s) refl
    go (plain b s q r u v) ih = many-again text-char tt (b ∷ s) tt [] 1 (text-char-plain b s q r u v) (omega arith)
        ∙ ap (λ o. with_first tt (Peg.after [] 1 o)) ih
        ∙ rw (run-plain b s q r u v) (ap (fits (tt ∷ units (text_run s)) []) (omega arith))

-- inline-text, by how many text-chars there are
pub inline-text-some : (s : List ℕ) (m : ℕ) → text_run s ≡ suc m → inline-text s ≡ fits (suc m) [] (suc m)
unfolding text_run is_text_at is_text_byte starts_with inline-text sized some ◌>>=◌ Peg.next Peg.after pure move_up
inline-text-some s m e = go (sign_of s) e
  where
    go : {s : List ℕ} → Sign s → text_run s ≡ suc m → inline-text s ≡ fits (suc m) [] (suc m)
    go end e = absurd (omega arith)
    go (lf s) e = absurd (omega arith)
    go (cr-lf s) e = absurd (omega arith)
    go (opens s) e = absurd (omega arith)
    go (closes s) e = absurd (omega arith)
    go (plain b s q r u v) e =
        let z : text_run s ≡ m = omega (arith, run-plain b s q r u v) in
        sized-fits (some text-char) (b ∷ s)
        (some_fits text-char (b ∷ s) (text-char-plain b s q r u v) (many-text s)
        ∙ ap (fits (tt ∷ units (text_run s)) []) (omega arith))

pub inline-text-none : (s : List ℕ) → text_run s ≡ 0 → inline-text s ≡ fails
unfolding text_run is_text_at is_text_byte starts_with inline-text sized some ◌>>=◌ Peg.next text-char any-char
    special-text-char ◌but◌ bar ◌>>◌ Peg.after ◌//◌ byte one starts line-end eof move_up
inline-text-none s e = go (sign_of s) e
  where
    go : {s : List ℕ} → Sign s → text_run s ≡ 0 → inline-text s ≡ fails
    go end e = refl
    go (lf s) e = refl
    go (cr-lf s) e = refl
    go (opens s) e = refl
    go (closes s) e = refl
    go (plain b s q r u v) e = let z = run-plain b s q r u v in absurd (omega arith)

-- behind the text-chars there is none
pub run-over : (s : List ℕ) → text_run (drop (text_run s) s) ≡ 0
unfolding text_run
run-over [] = refl
run-over (b ∷ bs) = by_case (is_text_at b bs) (λ q. rw (q, text_run) (run-over bs)) (λ q. rw (q, text_run) (rw (q, text_run) refl))

-- how the bytes that end no text and the text-chars compare
data Split (s : List ℕ) : Type 0 where
  straight : run is_text_byte s ≡ text_run s → (starts_with 10 (drop (text_run s) s) ≡ true → ends_in_cr (take (text_run s) s) ≡ false) → Split s
  bent : run is_text_byte s ≡ suc (text_run s) → (r : List ℕ) → drop (text_run s) s ≡ 13 ∷ 10 ∷ r
      → ends_in_cr (take (suc (text_run s)) s) ≡ true → Split s

more-cr : (b : ℕ) (t : List ℕ) → 0 < length t → ends_in_cr (b ∷ t) ≡ ends_in_cr t
unfolding ends_in_cr
more-cr b [] h = absurd (not-suc-le-zero h)
more-cr b (c ∷ cs) h = refl

join-cr : (b n : ℕ) (s : List ℕ) → (eqb b 13 && starts_with 10 s) ≡ false → starts_with 10 (drop n s) ≡ true
    → ends_in_cr (take n s) ≡ false → ends_in_cr (b ∷ take n s) ≡ false
unfolding ends_in_cr
join-cr b zero s v z f = by_case (eqb b 13) (λ q. clash z (rw q at v)) (λ q. q)
join-cr b (suc n) [] v z f = by_case (eqb b 13) (λ q. clash z (rw q at v)) (λ q. q)
join-cr b (suc n) (c ∷ cs) v z f = f

taken : (n : ℕ) (s : List ℕ) (b : ℕ) (t : List ℕ) → drop n s ≡ b ∷ t → 0 < length (take (suc n) s)
taken n [] b t e = absurd (omega (arith, simp drop-nil at (ap length e)))
taken n (c ∷ cs) b t e = omega arith

split-of : (s : List ℕ) → Split s
unfolding run ends_in_cr text_run is_text_at is_text_byte starts_with
split-of [] = unfold text_run run starts_with in straight refl (λ z. clash {v = false} z refl)
split-of (b ∷ bs) = go (sign_of (b ∷ bs)) (split-of bs)
  where
    on : (b : ℕ) (s : List ℕ) → eqb b 10 ≡ false → eqb b 123 ≡ false → eqb b 125 ≡ false
        → (eqb b 13 && starts_with 10 s) ≡ false → Split s → Split (b ∷ s)
    on b s q r u v (straight e f) =
        straight (rw (run-plain b s q r u v, run, text-byte b q r u) (ap suc e))
        (rw (run-plain b s q r u v) (λ z. join-cr b (text_run s) s v z (f z)))
    on b s q r u v (bent e t g h) =
        bent (rw (run-plain b s q r u v, run, text-byte b q r u) (ap suc e)) t (rw (run-plain b s q r u v) g)
        (rw (run-plain b s q r u v) (more-cr b (take (suc (text_run s)) s) (taken (text_run s) s 13 (10 ∷ t) g) ∙ h))

    go : {s : List ℕ} → Sign s → Split (drop 1 s) → Split s
    go end ih = ih
    go (lf s) ih = straight refl (λ z. refl)
    go (cr-lf s) ih = bent refl s refl refl
    go (opens s) ih = straight refl (λ z. refl)
    go (closes s) ih = straight refl (λ z. refl)
    go (plain b s q r u v) ih = on b s q r u v ih

-- the slice of a text of m bytes, by what it meets
unfoldable pub slice_at : ℕ → Bool → {r : List ℕ} → Sign r → Out Slice
slice_at m blank end = ok (record { size = m; blank = blank; ending = file_end }) [] m
slice_at m blank (lf s) = ok (record { size = m + 1; blank = blank; ending = line_feed }) [] (m + 1)
slice_at m blank (cr-lf s) = ok (record { size = m; blank = blank; ending = crlf }) [] (m + 1)
slice_at m blank (opens s) = ok (record { size = m; blank = blank; ending = placeable_start }) [] m
slice_at m blank (closes s) = bad (fault_at Errors.UnbalancedClosingBrace m) m
slice_at m blank (plain b s q r u v) = deep 0

run-within : (s : List ℕ) → text_run s ≤ length s
unfolding text_run
run-within [] = omega arith
run-within (b ∷ bs) = by_case (is_text_at b bs) (λ q. rw (q, text_run) (omega (arith, run-within bs))) (λ q. rw (q, text_run) (omega arith))

length-text : (s : List ℕ) → length (take (text_run s) s) ≡ text_run s
length-text s = omega (arith, length-take (text_run s) s, run-within s)

slice-by : (s t r : List ℕ) (n : ℕ) → run is_text_byte s ≡ n → take n s ≡ t → drop n s ≡ r → get_text_slice s ≡ slice_by t r
unfolding get_text_slice
slice-by s t r n e f g = ap (λ k. slice_by (take k s) (drop k s)) e ∙ ap (λ z. slice_by z (drop n s)) f ∙ ap (slice_by t) g

other : {A : Type 0} {s : List ℕ} (b c : ℕ) (r t : List ℕ) → eqb b c ≡ false → s ≡ b ∷ r → s ≡ c ∷ t → A
other b c r t q e f = let z : b ≡ c = cc in absurd (eqb-false b c q z)

none_is : {A : Type 0} {s : List ℕ} (b : ℕ) (r : List ℕ) → s ≡ [] → s ≡ b ∷ r → A
none_is b r e f = let z : ◌≡◌ {A = ℕ} 0 1 = cc in absurd (omega arith)

plain_over : {A : Type 0} (s : List ℕ) (b : ℕ) (r : List ℕ) → eqb b 10 ≡ false → eqb b 123 ≡ false → eqb b 125 ≡ false
    → (eqb b 13 && starts_with 10 r) ≡ false → drop (text_run s) s ≡ b ∷ r → A
plain_over s b r q h u v g = absurd (omega (arith, run-plain b r q h u v, sym (ap text_run g) ∙ run-over s))

run_end : (t : ℕ → Bool) (s : List ℕ) (d : ℕ) (ds : List ℕ) → drop (run t s) s ≡ d ∷ ds → t d ≡ false
unfolding run
run_end t [] d ds e = none_is d ds refl e
run_end t (b ∷ bs) d ds e =
    by_case (t b) (λ q. run_end t bs d ds (rw (q, run) at e))
    (λ q. let h : b ∷ bs ≡ d ∷ ds = rw (q, run) at e in let z : b ≡ d = cc in ap t (sym z) ∙ q)

fewer : (n : ℕ) → suc n - 1 ≡ n
fewer n = omega arith

-- a CR before a newline is left
cr-left : (s : List ℕ) (n : ℕ) (r : List ℕ) → drop n s ≡ 13 ∷ 10 ∷ r → (length (take (suc n) s) ≡ suc n)
    × (take (length (take (suc n) s) - 1) (take (suc n) s) ≡ take n s) × (drop (suc n) s ≡ 10 ∷ r)
cr-left s n r e =
    let l : length (take (suc n) s) ≡ suc n = omega (arith, length-take (suc n) s, ap length e, length-drop n s) in (
      l,
      rw l (ap (λ k. take k (take (suc n) s)) (fewer n) ∙ take-take n (suc n) s (omega arith)),
      rw (← add-one n) (sym (drop-drop 1 n s) ∙ ap (drop 1) e),
    )

-- the reading's slice is the text-chars that stand here, and what they meet
pub slice_is : (s : List ℕ) {r : List ℕ} (x : Sign r) → drop (text_run s) s ≡ r
    → get_text_slice s ≡ slice_at (text_run s) (is_blank (take (text_run s) s)) x
unfolding slice_at slice_by line_slice starts_with is_text_byte
slice_is s x e = go (split-of s) x e
  where
    go : Split s → {r : List ℕ} (x : Sign r) → drop (text_run s) s ≡ r
        → get_text_slice s ≡ slice_at (text_run s) (is_blank (take (text_run s) s)) x
    go (straight e f) end g = slice-by s (take (text_run s) s) [] (text_run s) e refl g ∙ rw (length-text s) refl
    go (straight e f) (lf r) g = slice-by s (take (text_run s) s) (10 ∷ r) (text_run s) e refl g
        ∙ rw (f (rw (g, starts_with) refl), line_slice, length-text s) refl
    go (straight e f) (cr-lf r) g = clash {v = true} refl (run_end is_text_byte s 13 (10 ∷ r) (rw e g))
    go (straight e f) (opens r) g = slice-by s (take (text_run s) s) (123 ∷ r) (text_run s) e refl g ∙ rw (length-text s) refl
    go (straight e f) (closes r) g = slice-by s (take (text_run s) s) (125 ∷ r) (text_run s) e refl g ∙ rw (length-text s) refl
    go (straight e f) (plain b r q h u v) g = plain_over s b r q h u v g
    go (bent e t d h) end g = none_is 13 (10 ∷ t) g d
    go (bent e t d h) (lf r) g = other 10 13 r (10 ∷ t) refl g d
    go (bent e t d h) (cr-lf r) g =
        slice-by s (take (suc (text_run s)) s) (10 ∷ r) (suc (text_run s)) e refl (cr-left s (text_run s) r g).2
        ∙ rw (h, line_slice, (cr-left s (text_run s) r g).1, (cr-left s (text_run s) r g).0)
        (ap₂ (λ a b. ok (record { size = a; blank = is_blank (take (text_run s) s); ending = crlf }) [] b)
        (fewer (text_run s)) (sym (add-one (text_run s))))
    go (bent e t d h) (opens r) g = other 123 13 r (10 ∷ t) refl g d
    go (bent e t d h) (closes r) g = other 125 13 r (10 ∷ t) refl g d
    go (bent e t d h) (plain b r q h' u v) g = plain_over s b r q h' u v g
