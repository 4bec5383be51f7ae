-- The entries of a source and its tree: entry by entry, what stands in the tree is what is read at the entry's start,
-- and the entry stops where
-- that reading does; junk is a text from its start to its stop. Where reading is refused, the entries are those before the one that
-- nests too deep. `parse-shown` says it of a reading, `agrees` of the reading call.
use Prim.Native.Nat.{ℕ, zero, suc, ◌+◌, ◌≤◌, ◌<◌}
use Rattle.std.proofs.Common.{not-suc-le-zero, add-zero, zero-add, arith, sym, ap, ◌∙◌, length-drop}
use Rattle.std.specs.Prelude.{◌≡◌, false, drop, length, ltb, Err}
use Rattle.std.proofs.Math.Path.{refl, subst}
use mathlib.Core.List.{List, [], ◌∷◌, ◌++◌, map}
use Rattle.std.proofs.Math.Option.{Option, some, none}
use Rattle.utf8.specs.Utf8.{first_ill_formed}
use Rattle.syntax.specs.declared.answer.Refusal.TheVariants.{TreeTooShort, ErrorsTooShort}
use Rattle.syntax.specs.Answer.{Answer, number_of, value_of, effect_of, written, zeroed, untouched}
use Rattle.syntax.specs.Limits.{max_length, max_open}
use Rattle.syntax.specs.Kind as Kind
use Rattle.syntax.specs.Marks.{Mark, plain, placed, move_up, node, text_node}
use Rattle.syntax.specs.declared.errors.ParserError.{ParserError}
use Rattle.syntax.specs.Reader.{ok, bad, deep}
use Rattle.syntax.specs.Pattern.{Inside}
use Rattle.syntax.specs.Expression.{level}
use Rattle.syntax.specs.Core.{Entry, get_entry, junk_end, kind_of_entry, Error, up_error, Reading, read, refused, following, entries, parse}
use Rattle.syntax.specs.Layout.{tree_layout, error_layout}
use Rattle.syntax.specs.Reading.{answer_of, read_answer, marks_of}
use Rattle.syntax.specs.declared.next.Extent.{Extent}
use Rattle.syntax.specs.Next.{stop_of, parse_extents, entries_of}
use Rattle.laws.specs.Bytes.{by_case, pick}
use Rattle.laws.specs.Moving.{move_up-append, following-twice}
use Rattle.laws.specs.Bounds.Pattern.{block-le}
use Rattle.laws.specs.Bounds.Expression.{level-bounds}
use Rattle.laws.specs.File as File
use Rattle.laws.specs.File.{near, First, entries-first, Begins, first, far, begins, entries_far}
use Rattle.reader.specs.Extents.{blanks, stop_at, ups-zero, rest_extents, start_after, stop-within, next_start}
use Rattle.reader.specs.Extents.{next-rest, rest-nil, rest-none, rest_some}

-- the entries after a place `at`, with their marks; `End` holds of where the one after them would start
pub data Lies (sub : Inside) (s : List ℕ) (End : ℕ → Type 0) : ℕ → List Extent → List Mark → Type 0 where
  ends : {at : ℕ} → End (start_after s at) → Lies sub s End at [] []
  -- an entry, whose marks stand in a node of its kind
  entry : {at a k : ℕ} {e : Entry} {ms ns : List Mark} {xs : List Extent} → a ≡ start_after s at → a < length s
      → get_entry sub (drop a s) ≡ ok e ms k
      → Lies sub s End (a + k) xs ns
      → Lies sub s End at (record { start = a; stop = a + k } ∷ xs)
      (node (kind_of_entry e (near sub (drop a s) k)) (move_up a ms) ++ ns)
  -- junk, a text that ends where the next entry may start
  junk : {at a e k : ℕ} {f : ParserError} {ns : List Mark} {xs : List Extent} → a ≡ start_after s at → a < length s
      → get_entry sub (drop a s) ≡ bad f k
      → e ≡ a + junk_end k (drop a s) → Lies sub s End e xs ns
      → Lies sub s End at (record { start = a; stop = e } ∷ xs) (text_node Kind.junk a e ++ ns)

-- all is read; or the next entry's reading meets the opening at i, which is one too many
abbrev pub AtEnd : List ℕ → ℕ → Type 0
AtEnd s a = a ≡ length s

abbrev pub TooDeep : Inside → List ℕ → ℕ → ℕ → Type 0
TooDeep sub s i a = (j : ℕ) × (get_entry sub (drop a s) ≡ deep j) × (i ≡ a + j)

-- the entries xs after a place are those of a reading
abbrev pub Shown : ℕ → List ℕ → ℕ → List Extent → Reading → Type 0
Shown n s at xs (read ms es) = Lies (level n) s (AtEnd s) at xs ms
Shown n s at xs (refused i) = (ms : List Mark) × Lies (level n) s (TooDeep (level n) s i) at xs ms

node-up : (k kind : ℕ) (ms : List Mark) → move_up k (node kind ms) ≡ node kind (move_up k ms)
unfolding move_up node
node-up k kind ms = ap (λ r. plain kind ∷ r) (move_up-append k ms (plain (Kind.closing kind) ∷ []))

pub text-up : (k kind e : ℕ) → move_up k (text_node kind 0 e) ≡ text_node kind k (k + e)
unfolding move_up text_node
text-up k kind e = ap (λ i. placed kind i ∷ placed (Kind.closing kind) (k + e) ∷ []) (add-zero k)

module _ (n : ℕ) (s : List ℕ) where
  -- what is read after an entry, and then with it
  more : {at e : ℕ} {x : Extent} (ms : List Mark) (es : List Error) (p : ℕ) (r : Reading) → rest_extents n s at ≡ x ∷ rest_extents n s e
      → ((End : ℕ → Type 0) (xs : List Extent) (ns : List Mark) → Lies (level n) s End e xs ns
      → Lies (level n) s End at (x ∷ xs) (ms ++ ns))
      → Shown n s e (rest_extents n s e) (following [] [] p r) → Shown n s at (rest_extents n s at) (following ms es p r)
  unfolding following
  more {at} {e} ms es p (read ns fs) q add h = rw q (add (AtEnd s) (rest_extents n s e) (move_up p ns) h)
  more {at} {e} ms es p (refused i) q add h = rw q (ms ++ h.0, add (TooDeep (level n) s (p + i)) (rest_extents n s e) h.0 h.1)

  -- from a place, with more entries allowed than there are bytes
  shown : (m at : ℕ) → at ≤ length s → length (drop at s) < m
      → Shown n s at (rest_extents n s at)
      (following [] [] (start_after s at) (entries m (level n) (drop (start_after s at) s)))
  unfolding entries following move_up stop_of
  shown zero at l g = absurd (not-suc-le-zero g)
  shown (suc m) at l g = go (drop a s) refl (λ p h i. shown m p h i)
    where
      a : ℕ
      a = start_after s at

      go : (r : List ℕ) → drop a s ≡ r
          → ((p : ℕ) → p ≤ length s → length (drop p s) < m
          → Shown n s p (rest_extents n s p)
          (following [] [] (start_after s p) (entries m (level n) (drop (start_after s p) s))))
          → Shown n s at (rest_extents n s at) (following [] [] a (entries (suc m) (level n) (drop a s)))
      go [] h ih =
          rw (h, rest-nil n s at h)
          (ends {at = at} (omega (arith, ap length h, length-drop a s, block-le (drop at s), length-drop at s)))
      go (b ∷ bs) h ih = by (begins (level n) b bs)
        where
          here : a < length s
          here = omega (arith, ap length h, length-drop a s)

          -- an entry or junk that stops k bytes on
          step : (k : ℕ) {ms : List Mark} {es : List Error}
              → First (level n) (b ∷ bs) ms es (k + blanks (drop k (b ∷ bs))) → stop_at (level n) (b ∷ bs) ≡ some k
              → ((End : ℕ → Type 0) (xs : List Extent) (ns : List Mark) → Lies (level n) s End (a + k) xs ns
              → Lies (level n) s End at (record { start = a; stop = a + k } ∷ xs) (move_up a ms ++ ns))
              → Shown n s at (rest_extents n s at) (following [] [] a (entries (suc m) (level n) (drop a s)))
          step k {ms} {es} f q add =
              subst (Shown n s at (rest_extents n s at)) (sym reads)
              (more (move_up a ms) (map (up_error a) es) (a + j) (entries m (level n) (drop j (b ∷ bs)))
              (rest_some n s at b bs h q) add after)
            where
              j : ℕ
              j = k + blanks (drop k (b ∷ bs))

              w : (0 < k) × (k ≤ length (b ∷ bs))
              w = stop-within (level-bounds n) b bs q

              after : Shown n s (a + k) (rest_extents n s (a + k)) (following [] [] (a + j) (entries m (level n) (drop j (b ∷ bs))))
              after =
                  rw (next_start s a b bs h k, next-rest s a b bs h k)
                  (ih (a + k) (omega (arith, w, ap length h, length-drop a s))
                  (omega (arith, w, ap length h, length-drop a s, length-drop at s, length-drop (a + k) s)))

              reads : following [] [] a (entries (suc m) (level n) (drop a s)) ≡ following (move_up a ms)
                  (map (up_error a) es) (a + j) (entries m (level n) (drop j (b ∷ bs)))
              reads = ap (λ r. following [] [] a (entries (suc m) (level n) r)) h
                  ∙ ap (following [] [] a) (entries-first (level n) m f)
                  ∙ following-twice [] [] a ms es j (entries m (level n) (drop j (b ∷ bs)))

          by : Begins (level n) b bs → Shown n s at (rest_extents n s at) (following [] [] a (entries (suc m) (level n) (drop a s)))
          by (first (File.entry {e} {ms} {k} q)) = step k (File.entry q) (ap (stop_of (b ∷ bs)) q)
              (λ End xs ns x. rw (node-up a (kind_of_entry e (near (level n) (b ∷ bs) k)) ms)
              (subst
              (λ r. Lies (level n) s End at (record { start = a; stop = a + k } ∷ xs)
              (node (kind_of_entry e (near (level n) r k)) (move_up a ms) ++ ns)) h
              (entry refl here (ap (get_entry (level n)) h ∙ q) x)))
          by (first (File.junk {f} {k} q)) = step (junk_end k (b ∷ bs)) (File.junk q) (ap (stop_of (b ∷ bs)) q)
              (λ End xs ns x. rw (text-up a Kind.junk (junk_end k (b ∷ bs)))
              (junk refl here (ap (get_entry (level n)) h ∙ q) (ap (λ r. a + junk_end k r) (sym h)) x))
          by (far {k} q) =
              rw (h, entries_far (level n) m b bs q, rest-none n s at b bs h (ap (stop_of (b ∷ bs)) q))
              ([], ends {at = at} (k, ap (get_entry (level n)) h ∙ q, refl))

  -- the entries of a source are those of its reading
  pub parse-shown : Shown n s 0 (parse_extents n s) (parse n s)
  unfolding parse
  parse-shown =
      subst (λ xs. Shown n s 0 xs (parse n s)) (ups-zero (parse_extents n s))
      (subst (λ i. Shown n s 0 (rest_extents n s 0) (following [] [] i (entries (suc (length s)) (level n) (drop i s))))
      (zero-add (blanks s)) (shown (suc (length s)) 0 (omega arith) (omega arith)))

-- ---- the reading call

-- by the effect of the answer: the entries stand in the tree that is written, or in what was read before refusal 5; a
-- source that is refused
-- by 1 or 2 has none
unfoldable pub Agrees : List ℕ → Answer → Type 0
Agrees s a =
    elim (effect_of a) [
      | written ↦ Lies (level max_open) s (AtEnd s) 0 (entries_of s) (marks_of (parse max_open s))
      | zeroed ↦ (ms : List Mark) × Lies (level max_open) s (TooDeep (level max_open) s (value_of a)) 0 (entries_of s) ms
      | untouched ↦ number_of a ≤ 2 → entries_of s ≡ []
    ]

-- what the reading call answers of a source, whatever slices it is lent, and the source's entries
pub agrees : (s : List ℕ) (t e : ℕ) → Agrees s (read_answer s t e)
unfolding read_answer entries_of answer_of marks_of Agrees effect_of
agrees s t e = by_case (ltb max_length (length s)) (λ q. rw (q, read_answer) (λ _. rw (q, entries_of))) (λ q. formed q (first_ill_formed s) refl)
  where
    by : ltb max_length (length s) ≡ false → first_ill_formed s ≡ none → (r : Reading) → parse max_open s ≡ r
        → Shown max_open s 0 (parse_extents max_open s) r → Agrees s (answer_of r)
    by q h (read ms es) p g = rw (q, entries_of) (rw (h, p) g)
    by q h (refused i) p g = rw (q, entries_of) (rw h g)

    formed : ltb max_length (length s) ≡ false → (o : Option ℕ) → first_ill_formed s ≡ o → Agrees s (read_answer s t e)
    formed q (some k) h = rw (q, read_answer) (rw h (λ _. rw (q, entries_of) (rw h)))
    formed q none h =
        rw (q, read_answer)
        (rw h (pick (Agrees s) (ltb t (tree_layout (length s))) (Err (TreeTooShort _)) _ (λ _ n. absurd (omega arith))
        (λ _. pick (Agrees s) (ltb e (error_layout (length s))) (Err (ErrorsTooShort _)) _ (λ _ n. absurd (omega arith))
        (λ _. by q h (parse max_open s) refl (parse-shown max_open s)))))
