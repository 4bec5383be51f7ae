-- The table's well-formed bytes are std's text: what a row of the table lets through is a character, and a row lets each character
-- through.
use Rattle.std.specs.Prelude.{ℕ, zero, suc, ◌+◌, ◌*◌, ◌/◌, ◌≤◌, ◌<◌, ◌⊎◌, ◌≡◌, refl, Bool, true, ◌&&◌, List, [], ◌∷◌}
use Rattle.std.specs.Prelude.{◌++◌, ltb, length, get_or, take, drop}
use Rattle.std.proofs.Common.{arith, inl, inr, sym, ap, ◌∙◌, subst, take-append-drop, le_of_suc-le-suc, not-suc-le-zero, ltb-true}
use Rattle.std.proofs.Math.Option.{Option, none, some, map}
use Rattle.std.proofs.Math.Utf8.{scalar, scalars, encode, encodes, next, scalar_cases}
use Rattle.std.proofs.lemmas.Bool.{cases_lt, and_parts}
use Rattle.std.proofs.lemmas.Str.{IsUtf8-append, IsUtf8-nil, length-encode, len_utf8_bounds, utf8_valid_len-IsValidUpTo}
use Rattle.std.proofs.str.Faults.{valid_to, not_text}
use Rattle.std.proofs.str.Laws.{Scalar, one, two, three, four}
use Rattle.std.proofs.str.Valid.{of_one, of_two, of_three, of_four}
use Rattle.std.specs.Str.{IsUtf8, IsValidUpTo, StartsWithNoChar}
use Rattle.utf8.specs.Utf8.{Range, Row, ◌‥◌, ◌then◌, within, table, fits, width_by, width, scan, first_ill_formed, WellFormed}
use Rattle.utf8.specs.Sequence.{cases, clash, within-true, within-above, within-bounds, fits-cons, fits-parts}
use Rattle.utf8.specs.Sequence.{whole_parts, whole_of, read-within, read-append, read_take}
use Rattle.utf8.specs.Law.{scan-read, scan-none, scan-skip, scan-more, scan-start, append-formed}
use Rattle.utf8.specs.Text.{IsTextByTable}

-- a byte past a sequence's second
abbrev follow : Range
follow = 0x80 ‥ 0xBF

-- from sequences to characters

-- the bytes that a row of the table lets through are text
abbrev Sound : Row → Type 0
Sound row = (b : ℕ) (s : List ℕ) → within row.first b ≡ true → fits row.rest s ≡ true → IsUtf8 (b ∷ take (length row.rest) s)

-- a byte that fits the first of the ranges, and what follows it
record Fitting (q : Range) (qs : List Range) (s : List ℕ) : Type 0 where
  byte : ℕ
  rest : List ℕ
  is : s ≡ byte ∷ rest
  low : q.low ≤ byte
  high : byte ≤ q.high
  fit : fits qs rest ≡ true

fitting : (q : Range) (qs : List Range) (s : List ℕ) → fits (q ∷ qs) s ≡ true → Fitting q qs s
unfolding fits
fitting q qs [] f = clash (sym f)
fitting q qs (y ∷ t) f =
    let p = fits-parts q qs y t f in
    let m = within-bounds q y p.0 in
    record { byte = y; rest = t; is = refl; low = m.0; high = m.1; fit = p.1 }

sound_one : (r : Range) → r.high ≤ 0x7F → Sound (r then [])
sound_one r h b s p f = let m = within-bounds r b p in of_one (b ∷ s) 0 (omega arith) (omega arith)

sound_two : (r : Range) → (0xC2 ≤ r.low) × (r.high ≤ 0xDF) → Sound (r then follow ∷ [])
sound_two r h b s p f =
    let m = within-bounds r b p in
    let y = fitting follow [] s f in
    rw y.is (of_two (b ∷ y.byte ∷ y.rest) 0 (omega arith) (omega arith) (omega (arith, y.low, y.high)))

-- where the first two bytes of three say more than two could, and no surrogate
sound_three : (r q : Range) → (0xE0 ≤ r.low) × (r.high ≤ 0xEF) × (0x80 ≤ q.low) × (q.high ≤ 0xBF)
    → 0xE0 * 64 + 0xA0 ≤ r.low * 64 + q.low
    → (r.high * 64 + q.high < 0xED * 64 + 0xA0) ⊎ (0xEE * 64 + 0x80 ≤ r.low * 64 + q.low)
    → Sound (r then q ∷ follow ∷ [])
sound_three r q h l u b s p f =
    let m = within-bounds r b p in
    let y = fitting q (follow ∷ []) s f in
    let z = fitting follow [] y.rest y.fit in
    rw (y.is, z.is)
    (of_three (b ∷ y.byte ∷ z.byte ∷ z.rest) 0 (omega arith) (omega arith) (omega (arith, y.low, y.high)) (omega (arith, z.low, z.high))
    (omega (arith, y.low, y.high, z.low, z.high))
    (elim u [
      | inl t ↦ inl (omega (arith, y.low, y.high, z.low, z.high))
      | inr t ↦ inr (omega (arith, y.low, y.high, z.low, z.high))
    ]))

-- where the first two bytes of four say more than three could, and no more than there are characters
sound_four : (r q : Range) → (0xF0 ≤ r.low) × (0x80 ≤ q.low) × (q.high ≤ 0xBF)
    → (0xF0 * 64 + 0x90 ≤ r.low * 64 + q.low) × (r.high * 64 + q.high < 0xF4 * 64 + 0x90)
    → Sound (r then q ∷ follow ∷ follow ∷ [])
sound_four r q h l b s p f =
    let m = within-bounds r b p in
    let y = fitting q (follow ∷ follow ∷ []) s f in
    let z = fitting follow (follow ∷ []) y.rest y.fit in
    let w = fitting follow [] z.rest z.fit in
    rw (y.is, z.is, w.is)
    (of_four (b ∷ y.byte ∷ z.byte ∷ w.byte ∷ w.rest) 0 (omega arith) (omega arith) (omega (arith, y.low, y.high))
    (omega (arith, z.low, z.high)) (omega (arith, w.low, w.high)) (omega (arith, y.low, y.high)))

data AllSound : List Row → Type 0 where
  end : AllSound []
  more : {row : Row} {rows : List Row} → Sound row → AllSound rows → AllSound (row ∷ rows)

table-sound : AllSound table
unfolding table
table-sound =
    more (sound_one _ (omega arith))
    (more (sound_two _ (omega arith))
    (more (sound_three _ _ (omega arith) (omega arith) (inl (omega arith)))
    (more (sound_three _ _ (omega arith) (omega arith) (inl (omega arith)))
    (more (sound_three _ _ (omega arith) (omega arith) (inl (omega arith)))
    (more (sound_three _ _ (omega arith) (omega arith) (inr (omega arith)))
    (more (sound_four _ _ (omega arith) (omega arith))
    (more (sound_four _ _ (omega arith) (omega arith))
    (more (sound_four _ _ (omega arith) (omega arith)) end))))))))

read_text : (rows : List Row) → AllSound rows → (b : ℕ) (s : List ℕ) (w : ℕ) → width_by rows b s ≡ suc w → IsUtf8 (b ∷ take w s)
unfolding width_by
read_text [] end b s w e = absurd (omega arith)
read_text (row ∷ rows) (more h hs) b s w e =
    cases (within row.first b)
    (λ t.
    let p = whole_parts row.rest s w (rw (t, width_by) at e) in
    subst (λ n. IsUtf8 (b ∷ take n s)) p.1 (h b s t p.0))
    (λ t. read_text rows hs b s w (rw (t, width_by) at e))

-- what a scan without a fault leaves behind is text
scanned-text : (s : List ℕ) (k : ℕ) → k ≤ length s → scan k s ≡ none → IsUtf8 (drop k s)
unfolding width
scanned-text [] zero h e = IsUtf8-nil
scanned-text [] (suc k) h e = absurd (not-suc-le-zero h)
scanned-text (b ∷ s) (suc k) h e = scanned-text s k (le_of_suc-le-suc h) (scan-skip b s k e)
scanned-text (b ∷ s) zero h e =
    let p = scan-none b s e in
    let w = p.0 in
    subst (λ l. IsUtf8 (b ∷ l)) (take-append-drop w s)
    (IsUtf8-append (b ∷ take w s) (drop w s) (read_text table table-sound b s w p.1) (scanned-text s w (read-within b s w p.1) p.2))

formed-text : (s : List ℕ) → WellFormed s → IsUtf8 s
unfolding first_ill_formed
formed-text s e = scanned-text s 0 (omega arith) e

-- from characters to sequences

ends_below : ℕ → List Row → Bool
ends_below low [] = true
ends_below low (row ∷ rows) = ltb row.first.high low && ends_below low rows

-- rows that end below a byte don't decide
passed : (rows before : List Row) (low b : ℕ) (s : List ℕ) → ends_below low before ≡ true → low ≤ b
    → width_by (before ++ rows) b s ≡ width_by rows b s
unfolding width_by ends_below
passed rows [] low b s e h = refl
passed rows (row ∷ before) low b s e h =
    let p = and_parts (ltb row.first.high low) (ends_below low before) e in
    let l = ltb-true row.first.high low p.0 in
    rw (within-above row.first b (omega arith), width_by) (passed rows before low b s p.1 h)

-- row n, and the first past the end
abbrev row_at : ℕ → Row
row_at n = get_or table n (0x00 ‥ 0x7F then [])

scan-all : (s : List ℕ) → scan (length s) s ≡ none
unfolding scan
scan-all [] = refl
scan-all (b ∷ s) = scan-more b s (length s) (scan-all s)

-- a sequence of row n
module _ (n b : ℕ) (s : List ℕ) where
  formed_at : drop n table ≡ row_at n ∷ drop (suc n) table → ends_below (row_at n).first.low (take n table) ≡ true
      → (row_at n).first.low ≤ b → b ≤ (row_at n).first.high → fits (row_at n).rest s ≡ true → length (row_at n).rest ≡ length s
      → WellFormed (b ∷ s)
  unfolding first_ill_formed width width_by
  formed_at d e l h f m =
      let row = row_at n in
      let split : take n table ++ row ∷ drop (suc n) table ≡ table = rw (← d) (take-append-drop n table) in
      let read : width (b ∷ s) ≡ suc (length s) =
      ap (λ rows. width_by rows b s) (sym split)
      ∙ passed (row ∷ drop (suc n) table) (take n table) row.first.low b s e l
      ∙ rw (within-true row.first b l h, width_by) (whole_of row.rest s f ∙ ap suc m) in
      scan-start b s (length s) read (scan-all s)

met : (q : Range) (qs : List Range) (y : ℕ) (t : List ℕ) → q.low ≤ y → y ≤ q.high → fits qs t ≡ true → fits (q ∷ qs) (y ∷ t) ≡ true
met q qs y t l h = fits-cons q qs y t (within-true q y l h)

-- the bytes of a character
module _ (c : ℕ) where
  last : fits (follow ∷ []) (next c ∷ []) ≡ true
  unfolding fits
  last = met follow [] (next c) [] (omega arith) (omega arith) refl

  last_two : fits (follow ∷ follow ∷ []) (next (c / 64) ∷ next c ∷ []) ≡ true
  last_two = met follow (follow ∷ []) (next (c / 64)) (next c ∷ []) (omega arith) (omega arith) last

  three-formed : 0x800 ≤ c → c < 0x10000 → Scalar c → WellFormed ((0xE0 + c / 4096) ∷ next (c / 64) ∷ next c ∷ [])
  unfolding table ends_below
  three-formed l h s =
      elim (cases_lt c 0x1000) [
        | inl a ↦ formed_at 2 _ _ refl refl (omega arith) (omega arith) (met _ _ _ _ (omega arith) (omega arith) last) refl
        | inr a ↦ elim (cases_lt c 0xD000) [
          | inl b ↦ formed_at 3 _ _ refl refl (omega arith) (omega arith) last_two refl
          | inr b ↦ elim s [
            | inl d ↦ formed_at 4 _ _ refl refl (omega arith) (omega arith) (met _ _ _ _ (omega arith) (omega arith) last) refl
            | inr d ↦ formed_at 5 _ _ refl refl (omega arith) (omega arith) last_two refl
          ]
        ]
      ]

  four-formed : 0x10000 ≤ c → c < 0x110000 → WellFormed ((0xF0 + c / 262144) ∷ next (c / 4096) ∷ next (c / 64) ∷ next c ∷ [])
  unfolding table ends_below
  four-formed l h =
      elim (cases_lt c 0x40000) [
        | inl a ↦ formed_at 6 _ _ refl refl (omega arith) (omega arith) (met _ _ _ _ (omega arith) (omega arith) last_two) refl
        | inr a ↦ elim (cases_lt c 0x100000) [
          | inl b ↦ formed_at 7 _ _ refl refl (omega arith) (omega arith) (met _ _ _ _ (omega arith) (omega arith) last_two) refl
          | inr b ↦ formed_at 8 _ _ refl refl (omega arith) (omega arith) (met _ _ _ _ (omega arith) (omega arith) last_two) refl
        ]
      ]

  char-formed : Scalar c → WellFormed (encode c)
  unfolding table ends_below fits
  char-formed s =
      elim (cases_lt c 0x80) [
        | inl a ↦ rw (one c a) (formed_at 0 c [] refl refl (omega arith) (omega arith) refl refl)
        | inr a ↦ elim (cases_lt c 0x800) [
          | inl b ↦ rw (two c a b) (formed_at 1 _ _ refl refl (omega arith) (omega arith) last refl)
          | inr b ↦ elim (cases_lt c 0x10000) [
            | inl d ↦ rw (three c b d) (three-formed b d s)
            | inr d ↦ rw (four c d) (four-formed d (omega (arith, s)))
          ]
        ]
      ]

chars-formed : (cs : List ℕ) → scalars cs ≡ true → WellFormed (encodes cs)
unfolding first_ill_formed scan
chars-formed [] e = refl
chars-formed (c ∷ cs) e =
    let p = and_parts (scalar c) (scalars cs) e in
    append-formed (encode c) (encodes cs) (char-formed c (scalar_cases c p.0)) (chars-formed cs p.1)

text-formed : (s : List ℕ) → IsUtf8 s → WellFormed s
text-formed s u = subst WellFormed u.1.1 (chars-formed u.0 u.1.0)

-- the first fault

map-suc : (o : Option ℕ) (n : ℕ) → map suc o ≡ some n → (m : ℕ) × (o ≡ some m) × (n ≡ suc m)
map-suc none n e = let z : ◌≡◌ {A = ℕ} 0 1 = cc in absurd (omega arith)
map-suc (some m) n e = (m, refl, cc)

-- a scan stops past what it skips and before the end, where no sequence starts, and finds no fault before
abbrev Stops : ℕ → List ℕ → ℕ → Type 0
Stops k s n = (k ≤ n) × (n < length s) × (scan k (take n s) ≡ none) × (width (drop n s) ≡ 0)

stops_first : (b : ℕ) (s : List ℕ) (n : ℕ) → scan 0 (b ∷ s) ≡ some n → ((w m : ℕ) → scan w s ≡ some m → Stops w s m) → Stops 0 (b ∷ s) n
unfolding scan
stops_first b s n e rest = go (width (b ∷ s)) refl
  where
    go : (w : ℕ) → width (b ∷ s) ≡ w → Stops 0 (b ∷ s) n
    go zero p =
        let f : ◌≡◌ {A = Option ℕ} (some 0) (some n) = rw (p, scan) at e in
        let z : 0 ≡ n = cc in
        subst (Stops 0 (b ∷ s)) z (omega arith, omega arith, refl, p)
    go (suc w) p =
        let q = map-suc (scan w s) n (sym (scan-read b s w p) ∙ e) in
        let m = q.0 in
        let r = rest w m q.1 in
        subst (Stops 0 (b ∷ s)) (sym q.2) (
          omega arith,
          omega arith,
          scan-start b (take m s) w (read_take b s w m r.0 p) r.2,
          r.3,
        )

pub stops : (s : List ℕ) (k n : ℕ) → scan k s ≡ some n → Stops k s n
unfolding scan
stops [] k n e = let z : ◌≡◌ {A = ℕ} 0 1 = cc in absurd (omega arith)
stops (b ∷ s) zero n e = stops_first b s n e (stops s)
stops (b ∷ s) (suc k) n e =
    let q = map-suc (scan k s) n e in
    let r = stops s k q.0 q.1 in
    subst (Stops (suc k) (b ∷ s)) (sym q.2) (omega arith, omega arith, scan-more b (take q.0 s) k r.2, r.3)

no_char : (s : List ℕ) → width s ≡ 0 → StartsWithNoChar s
unfolding first_ill_formed
no_char s e c rest k is = go (encode c) refl
  where
    go : (l : List ℕ) → encode c ≡ l → ⊥
    go [] f = omega (arith, ap length f, length-encode c, (len_utf8_bounds c).0)
    go (b ∷ l) f =
        let p = scan-none b l (subst WellFormed f (char-formed c (scalar_cases c k))) in
        let w : width s ≡ suc p.0 = ap width (is ∙ ap (λ t. t ++ rest) f) ∙ read-append b l rest p.0 p.1 in
        omega arith

fault-text : (s : List ℕ) (n : ℕ) → first_ill_formed s ≡ some n → IsValidUpTo s n
unfolding first_ill_formed
fault-text s n e =
    let p = stops s 0 n e in
    valid_to s n p.1 (formed-text (take n s) p.2) (no_char (drop n s) p.3)

text-fault : (s : List ℕ) (n : ℕ) → IsValidUpTo s n → first_ill_formed s ≡ some n
text-fault s n v = go (first_ill_formed s) refl
  where
    go : (o : Option ℕ) → first_ill_formed s ≡ o → first_ill_formed s ≡ some n
    go none e = absurd (not_text s n v (formed-text s e))
    go (some m) e =
        e ∙ ap {B = Option ℕ} some (sym (utf8_valid_len-IsValidUpTo s m (fault-text s m e)) ∙ utf8_valid_len-IsValidUpTo s n v)

pub is-text-by-table : (s : List ℕ) → IsTextByTable s
is-text-by-table s = record { text = (formed-text s, text-formed s); fault = λ n. (fault-text s n, text-fault s n) }
