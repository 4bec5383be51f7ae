-- A file's entries, one by one. `First`: the entry or junk at the start of a rest, with the blank lines after it.
-- `Passed`: some first entries of a
-- rest. What a reading has, it has part way: its marks, its errors and where it stands are bounded by the bytes passed.
use Prim.Native.Nat.{ℕ, zero, suc, ◌+◌, ◌*◌, ◌≤◌, ◌<◌}
use Rattle.std.proofs.Common.{not-suc-le-zero, le_of_suc-le-suc, ◌∙◌, subst, length-append, drop-drop}
use native.Mathlib.Omega.{arith}
use Rattle.std.proofs.Math.Path.{◌≡◌, refl, sym, ap}
use Rattle.std.specs.Prelude.{Bool, ◌&&◌, ◌||◌, drop, eqb, ltb}
use Rattle.std.proofs.Math.Bool.{true, not}
use mathlib.Core.List.{List, [], ◌∷◌, ◌++◌, map}
use Rattle.std.proofs.Math.ListN.{length, length-drop}
use Rattle.std.proofs.lemmas.List.{length-map}
use Rattle.syntax.specs.Bytes.{starts_with}
use Rattle.syntax.specs.Marks.{Mark, move_up, node, text_node}
use Rattle.syntax.specs.declared.errors.ParserError.{ParserError}
use Rattle.syntax.specs.Reader.{Out, ok, bad, deep, repeat}
use Rattle.syntax.specs.Helper.{skip_blank_block}
use Rattle.syntax.specs.Comment.{level_of, get_comment}
use Rattle.syntax.specs.Pattern.{Inside, used_by}
use Rattle.syntax.specs.Expression.{level}
use Rattle.syntax.specs.Core.{Fields, fields, term_fields, Entry, comment, message, term, as_message, as_term, as_comment}
use Rattle.syntax.specs.Core.{get_entry, junk_end, Error, up_error, Reading, read, refused, following, is_named, count}
use Rattle.syntax.specs.Core.{kind_of_entry, entries, parse}
use Rattle.laws.specs.Bytes.{pick}
use Rattle.laws.specs.Answers.{Holds, holds-map}
use Rattle.laws.specs.Lines.Join.{Levelled, levelled}
use Rattle.laws.specs.Bounds.{Uses, uses-nil, uses-text, uses-less, uses-after, uses-node, ok-uses, bad-within, deep-within}
use Rattle.laws.specs.Bounds.Comment.{level_of-some}
use Rattle.laws.specs.Bounds.Pattern.{InsideBounds, block-le}
use Rattle.laws.specs.Bounds.Expression.{level-bounds}
use Rattle.laws.specs.Bounds.Entry.{entry-bounds, junk_end-within}
use Rattle.laws.specs.Progress.{junk-moves}

-- ---- what an entry is

-- the level of a comment is one to three
abbrev pub Small : Entry → Type 0
Small (comment l) = (0 < l) × (l ≤ 3)
Small message = Unit {0}
Small term = Unit {0}

module _ (sub : Inside) where
  entry-small : (s : List ℕ) → Holds (λ e ms k. Small e) (get_entry sub s)
  unfolding get_entry
  entry-small s = pick (Holds (λ e ms k. Small e)) (starts_with 35 s) _ _ (λ q. of_comment (get_comment s) (comments q))
      (λ q. pick (Holds (λ e ms k. Small e)) (starts_with 45 s) _ _ (λ q. of_term (term_fields sub s)) (λ q. of_message (fields sub s)))
    where
      comments : starts_with 35 s ≡ true → Holds (λ l ms k. (0 < l) × (l ≤ 3)) (get_comment s)
      comments q = unfold get_comment repeat level_of in
          (holds-map (Levelled 0 s) (λ l ms k. (0 < l) × (l ≤ 3))
          (λ l ms k h. let e = h.1 refl (level_of-some s q) in (omega (arith, level_of-some s q), omega arith))
          (get_comment s) (levelled (suc (length s)) 0 s))

      of_comment : (o : Out ℕ) → Holds (λ l ms k. (0 < l) × (l ≤ 3)) o → Holds (λ e ms k. Small e) (as_comment o)
      of_comment (ok l ms k) h = unfold as_comment in h
      of_comment (bad f k) h = unfold as_comment in tt
      of_comment (deep k) h = unfold as_comment in tt

      of_term : (o : Out Fields) → Holds (λ e ms k. Small e) (as_term o)
      of_term (ok f ms k) = unfold as_term in (pick (Holds (λ e ms k. Small e)) f.value _ _ (λ q. tt) (λ q. tt))
      of_term (bad f k) = unfold as_term in tt
      of_term (deep k) = unfold as_term in tt

      of_message : (o : Out Fields) → Holds (λ e ms k. Small e) (as_message o)
      of_message (ok f ms k) = unfold as_message in
          (pick (Holds (λ e ms k. Small e)) (f.value || not (eqb f.attributes 0)) _ _ (λ q. tt) (λ q. tt))
      of_message (bad f k) = unfold as_message in tt
      of_message (deep k) = unfold as_message in tt

  pub small_of : (s : List ℕ) {e : Entry} {ms : List Mark} {k : ℕ} → get_entry sub s ≡ ok e ms k → Small e
  small_of s h = subst (Holds (λ e ms k. Small e)) h (entry-small s)

pub kind-le : (e : Entry) (v : Bool) → Small e → kind_of_entry e v ≤ 6
unfolding kind_of_entry
kind-le message v s = omega arith
kind-le term v s = omega arith
kind-le (comment l) v s = pick (λ i. i ≤ 6) (eqb l 1 && v) 6 (2 + l) (λ q. omega arith) (λ q. omega (arith, s.1))

-- with more bytes
longer : {c : ℕ} {s : List ℕ} {ms : List Mark} {k : ℕ} → Uses c s ms k → (j : ℕ) → k + j ≤ length s → Uses c s ms (k + j)
longer {ms = ms} {k} u j h = record { within = h; room = omega (arith, u.room) }

-- ---- one entry

-- a regular comment is attached to what is named right after it
abbrev pub near : Inside → List ℕ → ℕ → Bool
near sub s k = let gap = skip_blank_block (drop k s) in ltb (count gap) 2 && is_named (get_entry sub (drop (k + used_by gap) s))

-- what stands first in a rest: its marks, its errors, and how far the next entry is
pub data First (sub : Inside) (s : List ℕ) : List Mark → List Error → ℕ → Type 0 where
  entry : {e : Entry} {ms : List Mark} {k : ℕ} → get_entry sub s ≡ ok e ms k
      → First sub s (node (kind_of_entry e (near sub s k)) ms) [] (k + used_by (skip_blank_block (drop k s)))
  junk : {f : ParserError} {k : ℕ} → get_entry sub s ≡ bad f k
      → First sub s (text_node 7 0 (junk_end k s)) (record { fault = f; junk_from = 0; junk_till = junk_end k s } ∷ [])
      (junk_end k s + used_by (skip_blank_block (drop (junk_end k s) s)))

-- some first entries of a rest
pub data Passed (sub : Inside) : List ℕ → List Mark → List Error → ℕ → Type 0 where
  none : {s : List ℕ} → Passed sub s [] [] 0
  more : {b : ℕ} {bs : List ℕ} {ms ns : List Mark} {es fs : List Error} {k j : ℕ} → First sub (b ∷ bs) ms es k
      → Passed sub (drop k (b ∷ bs)) ns fs j
      → Passed sub (b ∷ bs) (ms ++ move_up k ns) (es ++ map (up_error k) fs) (k + j)

module _ {n : ℕ} {sub : Inside} (law : InsideBounds n sub) where
  pub first-uses : {b : ℕ} {bs : List ℕ} {ms : List Mark} {es : List Error} {k : ℕ} → First sub (b ∷ bs) ms es k
      → Uses 4 (b ∷ bs) ms k × (length es ≤ 1)
  first-uses {b} {bs} (entry {e} {ms} {k} h) =
      let u = ok-uses (entry-bounds law) (b ∷ bs) h in
      let v = uses-node {c = 6} (kind_of_entry e (near sub (b ∷ bs) k)) (omega arith) u in (
        longer v (used_by (skip_blank_block (drop k (b ∷ bs))))
            (omega (arith, u.within, block-le (drop k (b ∷ bs)), length-drop k (b ∷ bs))),
        omega arith,
      )
  first-uses {b} {bs} (junk {k = k} h) =
      let j = junk_end k (b ∷ bs) in
      let (l, w) = junk_end-within k (b ∷ bs) (bad-within (entry-bounds law) (b ∷ bs) h) in
      let v = uses-text {c = 4} j 7 0 j w (omega (arith, junk-moves sub b bs h)) in (
        longer v (used_by (skip_blank_block (drop j (b ∷ bs))))
            (omega (arith, w, block-le (drop j (b ∷ bs)), length-drop j (b ∷ bs))),
        omega arith,
      )

  pub passed-uses : {s : List ℕ} {ms : List Mark} {es : List Error} {k : ℕ} → Passed sub s ms es k → Uses 0 s ms k × (length es ≤ k)
  passed-uses none = (uses-nil 0 (omega arith) (omega arith), omega arith)
  passed-uses (more {es = es} {fs} {k} f p) =
      let (u, l) = first-uses f in
      let (v, m) = passed-uses p in
      (uses-less (omega arith) (uses-after u v), omega (arith, u.room, length-append es (map (up_error k) fs), length-map fs (up_error k)))

-- ---- the whole

-- a reading that is not refused is kept
pub data ReadKept (r : Reading) : Reading → Type 0 where
  same_reading : ReadKept r r
  lost_reading : {r' : Reading} (k : ℕ) → r ≡ refused k → ReadKept r r'

pub following-kept : {r r' : Reading} (ms : List Mark) (es : List Error) (k : ℕ) → ReadKept r r'
    → ReadKept (following ms es k r) (following ms es k r')
unfolding following
following-kept ms es k same_reading = same_reading
following-kept ms es k (lost_reading j e) = lost_reading (k + j) (ap (following ms es k) e)

pub read_kept : {r r' : Reading} {ms : List Mark} {es : List Error} → ReadKept r r' → r ≡ read ms es → r' ≡ read ms es
read_kept same_reading e = e
read_kept (lost_reading k d) e = let z : ◌≡◌ {A = ℕ} 0 1 = cc in absurd (omega arith)

module _ (sub : Inside) where
  pub entries-first : (m : ℕ) {b : ℕ} {bs : List ℕ} {ms : List Mark} {es : List Error} {k : ℕ} → First sub (b ∷ bs) ms es k
      → entries (suc m) sub (b ∷ bs) ≡ following ms es k (entries m sub (drop k (b ∷ bs)))
  unfolding entries
  entries-first m (entry h) = rw (h, entries)
  entries-first m (junk h) = rw (h, entries)

  -- an entry or junk stands first, or reading is too deep
  pub data Begins (b : ℕ) (bs : List ℕ) : Type 0 where
    first : {ms : List Mark} {es : List Error} {k : ℕ} → First sub (b ∷ bs) ms es k → Begins b bs
    far : {k : ℕ} → get_entry sub (b ∷ bs) ≡ deep k → Begins b bs

  pub begins : (b : ℕ) (bs : List ℕ) → Begins b bs
  begins b bs = go (get_entry sub (b ∷ bs)) refl
    where
      go : (o : Out Entry) → get_entry sub (b ∷ bs) ≡ o → Begins b bs
      go (ok e ms k) h = first (entry h)
      go (bad f k) h = first (junk h)
      go (deep k) h = far h

  pub entries_far : (m b : ℕ) (bs : List ℕ) {k : ℕ} → get_entry sub (b ∷ bs) ≡ deep k → entries (suc m) sub (b ∷ bs) ≡ refused k
  unfolding entries
  entries_far m b bs h = rw (h, entries)

  -- a reading that is not refused is the same with more entries allowed
  pub entries-more : (m m' : ℕ) (s : List ℕ) (ms : List Mark) (es : List Error) → m ≤ m' → entries m sub s ≡ read ms es
      → entries m' sub s ≡ read ms es
  entries-more m m' s ms es l e = read_kept (go m m' s l) e
    where
      go : (m m' : ℕ) (s : List ℕ) → m ≤ m' → ReadKept (entries m sub s) (entries m' sub s)
      go zero m' s l = unfold entries in (lost_reading 0 refl)
      go (suc m) zero s l = absurd (not-suc-le-zero l)
      go (suc m) (suc m') [] l = unfold entries in same_reading
      go (suc m) (suc m') (b ∷ bs) l = by (begins b bs) (λ r. go m m' r (le_of_suc-le-suc l))
        where
          by : Begins b bs → ((r : List ℕ) → ReadKept (entries m sub r) (entries m' sub r))
              → ReadKept (entries (suc m) sub (b ∷ bs)) (entries (suc m') sub (b ∷ bs))
          by (first {ms} {es} {k} f) ih = rw (entries-first m f, entries-first m' f) (following-kept ms es k (ih (drop k (b ∷ bs))))
          by (far {k} h) ih = rw (entries_far m b bs h, entries_far m' b bs h) same_reading

  -- a reading: all entries are passed, or the one after those passed is too deep
  pub data Result (s : List ℕ) : Reading → Type 0 where
    all : {ms : List Mark} {es : List Error} → Passed sub s ms es (length s) → Result s (read ms es)
    stops : {ms : List Mark} {es : List Error} {k j i : ℕ} → Passed sub s ms es k → get_entry sub (drop k s) ≡ deep j
        → i ≡ k + j → Result s (refused i)

module _ {n : ℕ} {sub : Inside} (law : InsideBounds n sub) where
  shorter : {b : ℕ} {bs : List ℕ} {ms : List Mark} {es : List Error} {k : ℕ} (m : ℕ) → First sub (b ∷ bs) ms es k
      → length (b ∷ bs) < suc m → length (drop k (b ∷ bs)) < m
  shorter {b} {bs} {k = k} m f l = let u = (first-uses law f).0 in omega (arith, u.room, length-drop k (b ∷ bs))

  -- with more entries allowed than there are bytes, how many does not matter
  pub entries-fuel : (m m' : ℕ) (s : List ℕ) → length s < m → length s < m' → entries m sub s ≡ entries m' sub s
  unfolding entries
  entries-fuel zero m' s l l' = absurd (not-suc-le-zero l)
  entries-fuel (suc m) zero s l l' = absurd (not-suc-le-zero l')
  entries-fuel (suc m) (suc m') [] l l' = refl
  entries-fuel (suc m) (suc m') (b ∷ bs) l l' = go (begins sub b bs) (λ r h h'. entries-fuel m m' r h h')
    where
      go : Begins sub b bs → ((r : List ℕ) → length r < m → length r < m' → entries m sub r ≡ entries m' sub r)
          → entries (suc m) sub (b ∷ bs) ≡ entries (suc m') sub (b ∷ bs)
      go (first {ms} {es} {k} f) ih = entries-first sub m f
          ∙ ap (following ms es k) (ih (drop k (b ∷ bs)) (shorter m f l) (shorter m' f l'))
          ∙ sym (entries-first sub m' f)
      go (far h) ih = entries_far sub m b bs h ∙ sym (entries_far sub m' b bs h)

  pub entries-result : (m : ℕ) (s : List ℕ) → length s < m → Result sub s (entries m sub s)
  unfolding entries following
  entries-result zero s l = absurd (not-suc-le-zero l)
  entries-result (suc m) [] l = all none
  entries-result (suc m) (b ∷ bs) l = go (begins sub b bs) (λ r h. entries-result m r h)
    where
      step : {ms : List Mark} {es : List Error} {k : ℕ} → First sub (b ∷ bs) ms es k → (r : Reading) → Result sub (drop k (b ∷ bs)) r
          → Result sub (b ∷ bs) (following ms es k r)
      step {ms} {es} {k} f (read ns fs) (all p) =
          let u = (first-uses law f).0 in
          let e : k + length (drop k (b ∷ bs)) ≡ length (b ∷ bs) = omega (arith, u.within, length-drop k (b ∷ bs)) in
          (all (subst (Passed sub (b ∷ bs) (ms ++ move_up k ns) (es ++ map (up_error k) fs)) e (more f p)))
      step {k = k} f (refused i) (stops {k = j} p h e) =
          (stops {i = k + i} (more f p) (ap (get_entry sub) (sym (drop-drop j k (b ∷ bs))) ∙ h) (omega arith))

      go : Begins sub b bs → ((r : List ℕ) → length r < m → Result sub r (entries m sub r))
          → Result sub (b ∷ bs) (entries (suc m) sub (b ∷ bs))
      go (first {k = k} f) ih =
          subst (Result sub (b ∷ bs)) (sym (entries-first sub m f))
          (step f (entries m sub (drop k (b ∷ bs))) (ih (drop k (b ∷ bs)) (shorter m f l)))
      go (far {k} h) ih = subst (Result sub (b ∷ bs)) (sym (entries_far sub m b bs h)) (stops {i = k} none h (omega arith))

  pub entries-read : (m : ℕ) (s : List ℕ) → length s < m → {ms : List Mark} {es : List Error}
      → entries m sub s ≡ read ms es → Passed sub s ms es (length s)
  entries-read m s l e = go (subst (Result sub s) e (entries-result m s l))
    where
      go : {ms : List Mark} {es : List Error} → Result sub s (read ms es) → Passed sub s ms es (length s)
      go (all p) = p

  pub entries-refused : (m : ℕ) (s : List ℕ) → length s < m → {k : ℕ} → entries m sub s ≡ refused k → (n ≤ k) × (k < length s)
  entries-refused m s l e = go (subst (Result sub s) e (entries-result m s l))
    where
      go : {k : ℕ} → Result sub s (refused k) → (n ≤ k) × (k < length s)
      go (stops {k = j} p h q) =
          let u = (passed-uses law p).0 in
          let (l, g) = deep-within (entry-bounds law) (drop j s) h in
          (omega arith, omega (arith, u.within, length-drop j s))

-- ---- a file

-- the blank lines before the first entry
abbrev pub leading : List ℕ → ℕ
leading s = used_by (skip_blank_block s)

module _ (n : ℕ) (s : List ℕ) where
  fewer : length (drop (leading s) s) < suc (length s)
  fewer = omega (arith, length-drop (leading s) s)

  -- eight marks and one error a byte
  pub parse-read : {ms : List Mark} {es : List Error} → parse n s ≡ read ms es → Uses 0 s ms (length s) × (length es ≤ length s)
  unfolding parse following
  parse-read {ms} {es} e = go (entries (suc (length s)) (level n) (drop k s)) refl e
    where
      k : ℕ
      k = leading s

      go : (r : Reading) → entries (suc (length s)) (level n) (drop k s) ≡ r → following [] [] k r ≡ read ms es
          → Uses 0 s ms (length s) × (length es ≤ length s)
      go (read ns fs) h e =
          let (u, l) = passed-uses (level-bounds n) (entries-read (level-bounds n) (suc (length s)) (drop k s) fewer h) in
          let z : k + length (drop k s) ≡ length s = omega (arith, length-drop k s, block-le s) in
          let m : move_up k ns ≡ ms = cc in
          let x : map (up_error k) fs ≡ es = cc in (
            subst (Uses 0 s ms) z
                (subst (λ z. Uses 0 s z (k + length (drop k s))) m
                (uses-after {c = 0} (uses-nil k (block-le s) (omega arith)) u)),
            omega (arith, ap length x, length-map fs (up_error k), length-drop k s),
          )
      go (refused j) h e = let z : ◌≡◌ {A = ℕ} 0 1 = cc in absurd (omega arith)

  pub parse-room : {ms : List Mark} {es : List Error} → parse n s ≡ read ms es → (length ms ≤ 8 * length s) × (length es ≤ length s)
  parse-room e = let (u, l) = parse-read e in (omega (arith, u.room), l)

  -- what is refused lies in the file, past n openings
  pub parse-refused : {k : ℕ} → parse n s ≡ refused k → (n ≤ k) × (k < length s)
  unfolding parse following
  parse-refused {k} e = go (entries (suc (length s)) (level n) (drop (leading s) s)) refl e
    where
      go : (r : Reading) → entries (suc (length s)) (level n) (drop (leading s) s) ≡ r
          → following [] [] (leading s) r ≡ refused k → (n ≤ k) × (k < length s)
      go (read ns fs) h e = let z : ◌≡◌ {A = ℕ} 0 1 = cc in absurd (omega arith)
      go (refused i) h e =
          let (l, g) = entries-refused (level-bounds n) (suc (length s)) (drop (leading s) s) fewer h in
          let z : leading s + i ≡ k = cc in
          (omega arith, omega (arith, length-drop (leading s) s))

  -- with as many openings allowed as there are bytes, nothing is refused
  pub parse-reads : length s ≤ n → (ms : List Mark) × (es : List Error) × (parse n s ≡ read ms es)
  parse-reads l = go (parse n s) refl
    where
      go : (r : Reading) → parse n s ≡ r → (ms : List Mark) × (es : List Error) × (parse n s ≡ read ms es)
      go (read ms es) e = (ms, es, e)
      go (refused k) e = let (h, g) = parse-refused e in absurd (omega arith)
