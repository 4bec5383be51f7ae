-- One sequence that `width` reads: it lies within the source, more bytes or fewer after it do not change it, its first
-- byte says its width and
-- is no continuation byte, and the others are.
use Rattle.std.specs.Prelude.{ℕ, zero, suc, ◌≤◌, ◌<◌, ◌≡◌, refl, Bool, true, false, ◌&&◌, List, [], ◌∷◌, ◌++◌, leb, length, get_or, take}
use Rattle.std.proofs.Common.{le_of_suc-le-suc, not-suc-le-zero, arith, sym, ap, ◌∙◌, le-leb, leb-true}
use Rattle.std.proofs.lemmas.Bool.{lt-leb}
use Rattle.utf8.specs.Utf8.{Range, Row, ◌‥◌, within, table, fits, whole, width_by, width, width_of_first, is_continuation}

-- the two cases of a test, each with what the test says
pub cases : {A : Type 0} (t : Bool) → (t ≡ true → A) → (t ≡ false → A) → A
cases true p q = p refl
cases false p q = q refl

pub clash : {A : Type 0} → true ≡ false → A
clash e = let z : ◌≡◌ {A = ℕ} 0 1 = cc in absurd (omega arith)

pub within-true : (r : Range) (b : ℕ) → r.low ≤ b → b ≤ r.high → within r b ≡ true
unfolding within
within-true r b p q = rw (le-leb _ _ p, within) (le-leb _ _ q)

pub within-below : (r : Range) (b : ℕ) → b < r.low → within r b ≡ false
unfolding within
within-below r b p = rw (lt-leb _ _ p, within)

pub within-above : (r : Range) (b : ℕ) → r.high < b → within r b ≡ false
unfolding within
within-above r b p = cases (leb r.low b) (λ t. rw (t, within) (lt-leb _ _ p)) (λ t. rw (t, within))

pub within-bounds : (r : Range) (b : ℕ) → within r b ≡ true → (r.low ≤ b) × (b ≤ r.high)
unfolding within
within-bounds r b e =
    cases (leb r.low b) (λ t. (leb-true _ _ t, leb-true _ _ (rw (t, within) at e))) (λ t. clash (sym (rw (t, within) at e)))

-- ranges that are met

module _ (r : Range) (rs : List Range) (b : ℕ) (s : List ℕ) where
  pub fits-cons : within r b ≡ true → fits rs s ≡ true → fits (r ∷ rs) (b ∷ s) ≡ true
  unfolding fits
  fits-cons p q = rw (p, fits) q

  pub fits-parts : fits (r ∷ rs) (b ∷ s) ≡ true → (within r b ≡ true) × (fits rs s ≡ true)
  unfolding fits
  fits-parts e = cases (within r b) (λ t. (t, rw (t, fits) at e)) (λ t. clash (sym (rw (t, fits) at e)))

fits-length : (rs : List Range) (s : List ℕ) → fits rs s ≡ true → length rs ≤ length s
unfolding fits
fits-length [] s e = omega arith
fits-length (r ∷ rs) [] e = clash (sym e)
fits-length (r ∷ rs) (b ∷ s) e =
    let h = fits-length rs s (fits-parts r rs b s e).1 in
    omega arith

fits-append : (t : List ℕ) (rs : List Range) (s : List ℕ) → fits rs s ≡ true → fits rs (s ++ t) ≡ true
unfolding fits
fits-append t [] s e = refl
fits-append t (r ∷ rs) [] e = clash (sym e)
fits-append t (r ∷ rs) (b ∷ s) e =
    let p = fits-parts r rs b s e in
    fits-cons r rs b (s ++ t) p.0 (fits-append t rs s p.1)

fits-take : (k : ℕ) (rs : List Range) (s : List ℕ) → length rs ≤ k → fits rs s ≡ true → fits rs (take k s) ≡ true
unfolding fits
fits-take k [] s h e = refl
fits-take k (r ∷ rs) [] h e = clash (sym e)
fits-take zero (r ∷ rs) (b ∷ s) h e = absurd (not-suc-le-zero h)
fits-take (suc k) (r ∷ rs) (b ∷ s) h e =
    let p = fits-parts r rs b s e in
    fits-cons r rs b (take k s) p.0 (fits-take k rs s (le_of_suc-le-suc h) p.1)

-- what the laws ask of a row of the table, computed for each: its first byte asks for the row's width and is no
-- continuation byte, the others are

placed : Range → List Range → Bool
placed r [] = leb r.high 127
placed r (_ ∷ []) = leb 192 r.low && leb r.high 223
placed r (_ ∷ _ ∷ []) = leb 224 r.low && leb r.high 239
placed r (_ ∷ _ ∷ _ ∷ []) = leb 240 r.low
placed r (_ ∷ _ ∷ _ ∷ _ ∷ rs) = false

follows : List Range → Bool
follows [] = true
follows (r ∷ rs) = leb 0x80 r.low && leb r.high 0xBF && follows rs

all_sound : List Row → Bool
all_sound [] = true
all_sound (row ∷ rows) = placed row.first row.rest && follows row.rest && all_sound rows

table-sound : all_sound table ≡ true
unfolding all_sound placed follows table
table-sound = refl

both : (a b : Bool) → (a && b) ≡ true → (a ≡ true) × (b ≡ true)
both true b e = (refl, e)
both false b e = clash (sym e)

both-le : (a b c d : ℕ) → (leb a b && leb c d) ≡ true → (a ≤ b) × (c ≤ d)
both-le a b c d e = let p = both (leb a b) (leb c d) e in (leb-true a b p.0, leb-true c d p.1)

-- a sequence that was read, with its row
record Read (b : ℕ) (s : List ℕ) (w : ℕ) : Type 0 where
  row : Row
  place : placed row.first row.rest ≡ true
  following : follows row.rest ≡ true
  in_row : within row.first b ≡ true
  fit : fits row.rest s ≡ true
  wide : length row.rest ≡ w

pub whole_parts : (rs : List Range) (s : List ℕ) (w : ℕ) → whole rs s ≡ suc w → (fits rs s ≡ true) × (length rs ≡ w)
unfolding whole
whole_parts rs s w e =
    cases (fits rs s)
    (λ t. let h : suc (length rs) ≡ suc w = rw (t, whole) at e in (t, omega arith))
    (λ t. let h : 0 ≡ suc w = rw (t, whole) at e in absurd (omega arith))

pub whole_of : (rs : List Range) (s : List ℕ) → fits rs s ≡ true → whole rs s ≡ suc (length rs)
unfolding whole
whole_of rs s e = rw (e, whole)

read_by : (rows : List Row) → all_sound rows ≡ true → (b : ℕ) (s : List ℕ) (w : ℕ) → width_by rows b s ≡ suc w → Read b s w
unfolding width_by all_sound
read_by [] h b s w e = absurd (omega arith)
read_by (row ∷ rows) h b s w e =
    let g = both (placed row.first row.rest && follows row.rest) (all_sound rows) h in
    let g' = both (placed row.first row.rest) (follows row.rest) g.0 in
    cases (within row.first b)
    (λ t.
    let p = whole_parts row.rest s w (rw (t, width_by) at e) in
    record { row = row; place = g'.0; following = g'.1; in_row = t; fit = p.0; wide = p.1 })
    (λ t. read_by rows g.1 b s w (rw (t, width_by) at e))

read : (b : ℕ) (s : List ℕ) (w : ℕ) → width (b ∷ s) ≡ suc w → Read b s w
unfolding width
read b s w e = read_by table table-sound b s w e

-- other bytes after the first are read alike if they meet the same ranges
same_width : (s s' : List ℕ) (w : ℕ) → ((rs : List Range) → length rs ≡ w → fits rs s ≡ true → fits rs s' ≡ true)
    → (rows : List Row) (b : ℕ) → width_by rows b s ≡ suc w → width_by rows b s' ≡ suc w
unfolding width_by
same_width s s' w f [] b e = e
same_width s s' w f (row ∷ rows) b e =
    cases (within row.first b)
    (λ t.
    let p = whole_parts row.rest s w (rw (t, width_by) at e) in
    rw (t, width_by) (whole_of row.rest s' (f row.rest p.1 p.0) ∙ ap suc p.1))
    (λ t. rw (t, width_by) (same_width s s' w f rows b (rw (t, width_by) at e)))

follow-at : (rs : List Range) (s : List ℕ) → follows rs ≡ true → fits rs s ≡ true → (i : ℕ) → i < length rs
    → is_continuation (get_or s i 0) ≡ true
unfolding fits follows is_continuation
follow-at [] s g e i h = absurd (not-suc-le-zero h)
follow-at (r ∷ rs) [] g e i h = clash (sym e)
follow-at (r ∷ rs) (b ∷ s) g e zero h =
    let q = both-le 0x80 r.low r.high 0xBF (both (leb 0x80 r.low && leb r.high 0xBF) (follows rs) g).0 in
    let m = within-bounds r b (fits-parts r rs b s e).0 in
    within-true (0x80 ‥ 0xBF) b (omega arith) (omega arith)
follow-at (r ∷ rs) (b ∷ s) g e (suc i) h =
    follow-at rs s (both (leb 0x80 r.low && leb r.high 0xBF) (follows rs) g).1 (fits-parts r rs b s e).1 i (le_of_suc-le-suc h)

pub first_below : (b : ℕ) → b ≤ 127 → (width_of_first b ≡ 1) × (is_continuation b ≡ false)
unfolding width_of_first is_continuation
first_below b h = (rw (le-leb b 127 h, width_of_first), within-below (0x80 ‥ 0xBF) b (omega arith))

placed_first : (r : Range) (rs : List Range) (b : ℕ) → placed r rs ≡ true → within r b ≡ true
    → (width_of_first b ≡ suc (length rs)) × (is_continuation b ≡ false)
unfolding placed width_of_first is_continuation
placed_first r [] b g e =
    let m = within-bounds r b e in
    first_below b (omega (arith, leb-true r.high 127 g))
placed_first r (_ ∷ []) b g e =
    let m = within-bounds r b e in
    let q = both-le 192 r.low r.high 223 g in
    (rw (lt-leb b 127 (omega arith), width_of_first, le-leb b 223 (omega arith)), within-above (0x80 ‥ 0xBF) b (omega arith))
placed_first r (_ ∷ _ ∷ []) b g e =
    let m = within-bounds r b e in
    let q = both-le 224 r.low r.high 239 g in (
      rw (lt-leb b 127 (omega arith), width_of_first, lt-leb b 223 (omega arith), le-leb b 239 (omega arith)),
      within-above (0x80 ‥ 0xBF) b (omega arith),
    )
placed_first r (_ ∷ _ ∷ _ ∷ []) b g e =
    let m = within-bounds r b e in
    let q = leb-true 240 r.low g in (
      rw (lt-leb b 127 (omega arith), width_of_first, lt-leb b 223 (omega arith), lt-leb b 239 (omega arith)),
      within-above (0x80 ‥ 0xBF) b (omega arith),
    )
placed_first r (_ ∷ _ ∷ _ ∷ _ ∷ rs) b g e = clash (sym g)

-- a sequence lies within the source, and what follows it does not change it

pub read-within : (b : ℕ) (s : List ℕ) (w : ℕ) → width (b ∷ s) ≡ suc w → w ≤ length s
read-within b s w e =
    let r = read b s w e in
    omega (arith, fits-length r.row.rest s r.fit, r.wide)

pub read-append : (b : ℕ) (s t : List ℕ) (w : ℕ) → width (b ∷ s) ≡ suc w → width (b ∷ s ++ t) ≡ suc w
unfolding width
read-append b s t w e = same_width s (s ++ t) w (λ rs _ p. fits-append t rs s p) table b e

pub read_take : (b : ℕ) (s : List ℕ) (w k : ℕ) → w ≤ k → width (b ∷ s) ≡ suc w → width (b ∷ take k s) ≡ suc w
unfolding width
read_take b s w k h e = same_width s (take k s) w (λ rs n p. fits-take k rs s (omega arith) p) table b e

pub read_first : (b : ℕ) (s : List ℕ) (w : ℕ) → width (b ∷ s) ≡ suc w → (width_of_first b ≡ suc w) × (is_continuation b ≡ false)
read_first b s w e =
    let r = read b s w e in
    let p = placed_first r.row.first r.row.rest b r.place r.in_row in
    (p.0 ∙ ap suc r.wide, p.1)

pub read-rest : (b : ℕ) (s : List ℕ) (w : ℕ) → width (b ∷ s) ≡ suc w → (i : ℕ) → i < w → is_continuation (get_or s i 0) ≡ true
read-rest b s w e i h =
    let r = read b s w e in
    follow-at r.row.rest s r.following r.fit i (omega (arith, r.wide))
