-- pattern.rs within bounds.
use Rattle.std.specs.Prelude.{ℕ, zero, suc, ◌+◌, ◌*◌, ◌≤◌, ◌<◌, ◌≡◌, Bool, ◌&&◌, ◌||◌, not, length, ltb}
use native.Mathlib.Omega.{arith}
use Rattle.std.proofs.Math.Path.{refl}
use Rattle.std.proofs.Common.{sym, subst, length-take}
use Rattle.std.proofs.Math.Bool.{true, false}
use mathlib.Core.List.{List, [], ◌∷◌, ◌++◌}
use Rattle.std.proofs.Math.Option.{Option, some, none}
use Rattle.std.proofs.Math.ListN.{drop, take, length-append, length-drop}
use Rattle.std.proofs.Math.Dec.{eqb}
use borrow.Author.Tests.{eqb-true, eqb-false, ltb-true}
use Rattle.syntax.specs.Bytes.{run, eol, spaces}
use Rattle.syntax.specs.Marks.{Mark, plain, move_up, text_node, node}
use Rattle.syntax.specs.Reader.{Out, ok, bad, deep, after, Turn, again, done, repeat}
use Rattle.syntax.specs.Helper.{skip_blank_block}
use Rattle.syntax.specs.Pattern.{Inside, Role, initial_line_start, line_start, continuation, Slice, is_text_byte, ends_in_cr}
use Rattle.syntax.specs.Pattern.{line_slice, slice_by, get_text_slice, Element, placeable, text, State, is_line_start}
use Rattle.syntax.specs.Pattern.{role_after, with_placeable, common_after, is_element, with_text, goes_on, line_turn, text_turn}
use Rattle.syntax.specs.Pattern.{pattern_turn, trimmed, dedented, text_marks, element_marks, finish, state_at, used_by}
use Rattle.syntax.specs.Pattern.{first_state, get_pattern}
use Rattle.laws.specs.Bytes.{by_case, clash, pick, run-le, spaces-le, eol-le}
use Rattle.laws.specs.Moving.{move_up-length}
use Rattle.laws.specs.Answers.{Holds, TurnHolds, loop-holds}
use Rattle.laws.specs.Bounds.{uses-nil, Bounded, used, stopped, too_deep, after-bounded, Bounds, TurnBounded, goes}
use Rattle.laws.specs.Bounds.{ends, TurnBounds, repeat-bounds}
use Rattle.laws.specs.Bounds.Helper.{block-bounds}

-- the readers inside: they are called at an opening byte
pub record InsideBounds (n : ℕ) (sub : Inside) : Type 0 where
  pub braced : (b : ℕ) (bs : List ℕ) → Bounded n (λ _. 20) (b ∷ bs) (sub.braced (b ∷ bs))
  pub parenthesised : (b : ℕ) (bs : List ℕ) → Bounded n (λ _. 14) (b ∷ bs) (sub.parenthesised (b ∷ bs))

-- ---- texts

sizes : (s : List ℕ) → length (take (run is_text_byte s) s) + length (drop (run is_text_byte s) s) ≡ length s
sizes s = let i = run is_text_byte s in omega (arith, length-take i s, length-drop i s, run-le is_text_byte s)

module _ {n : ℕ} where
  line_slice-bounded : (c : ℕ) (t s : List ℕ) → c ≤ 8 * length t → length t < length s → Bounded n (λ _. c) s (line_slice t)
  unfolding line_slice
  line_slice-bounded c t s h l =
      pick (Bounded n (λ _. c) s) (ends_in_cr t) _ _ (λ q. used (uses-nil (length t) (omega arith) (omega arith)))
      (λ q. used (uses-nil (length t + 1) (omega arith) (omega arith)))

  slice_by-bounded : (c : ℕ) (t r s : List ℕ) → c ≤ 8 * length t → length t + length r ≡ length s → Bounded n (λ _. c) s (slice_by t r)
  unfolding slice_by
  slice_by-bounded c t [] s h l = used (uses-nil (length t) (omega arith) (omega arith))
  slice_by-bounded c t (b ∷ bs) s h l = pick (Bounded n (λ _. c) s) (eqb b 125) _ _ (λ q. stopped (length t) (omega arith))
      (λ q. pick (Bounded n (λ _. c) s) (eqb b 123) _ _ (λ q. used (uses-nil (length t) (omega arith) (omega arith)))
      (λ q. line_slice-bounded c t s h (omega arith)))

  pub slice-bounds : Bounds n (λ _. 0) get_text_slice
  unfolding get_text_slice
  slice-bounds = record { on = λ s. let i = run is_text_byte s in slice_by-bounded 0 (take i s) (drop i s) s (omega arith) (sizes s) }

  -- a text that starts with no '{' uses a byte
  pub slice-some : (b : ℕ) (bs : List ℕ) → eqb b 123 ≡ false → Bounded n (λ _. 8) (b ∷ bs) (get_text_slice (b ∷ bs))
  unfolding get_text_slice run
  slice-some b bs q = by_case (is_text_byte b)
      (λ p. rw (p, run)
      (let i = run is_text_byte bs in
      slice_by-bounded 8 (b ∷ take i bs) (drop i bs) (b ∷ bs) (omega arith) (omega (arith, sizes bs))))
      (λ p. rw (p, run) none)
    where
      none : Bounded n (λ _. 8) (b ∷ bs) (slice_by [] (b ∷ bs))
      none = unfold slice_by line_slice ends_in_cr in
          (pick (Bounded n (λ _. 8) (b ∷ bs)) (eqb b 125) _ _ (λ r. stopped 0 (omega arith))
          (λ r. rw q (used (uses-nil 1 (omega arith) (omega arith)))))

  -- ---- turns

  with_text-bounded : {c : ℕ} {s : List ℕ} {o : Out Slice} (st : State) (indent : ℕ) → indent ≤ length s → 1 ≤ c + indent
      → Bounded n (λ _. c) (drop indent s) o
      → TurnBounded n 1 0 s (with_text st indent o)
  unfolding with_text after
  with_text-bounded {s = s} st indent h l (used {k = k} u) =
      goes (uses-nil (indent + k) (omega (arith, u.within, length-drop indent s)) (omega (arith, u.room)))
  with_text-bounded {s = s} st indent h l (stopped k g) = ends (stopped (indent + k) (omega (arith, length-drop indent s)))
  with_text-bounded {s = s} st indent h l (too_deep k g i) = ends (too_deep (indent + k) (omega arith) (omega (arith, length-drop indent s)))

  line-bounded : (st : State) (indent : ℕ) (s r : List ℕ) → indent ≤ length s → drop indent s ≡ r
      → TurnBounded n 1 0 s (line_turn st indent r)
  unfolding line_turn
  line-bounded st indent s [] h e = ends (used (uses-nil indent h (omega arith)))
  line-bounded st indent s (b ∷ bs) h e =
      pick (TurnBounded n 1 0 s) (goes_on indent b) _ _ more (λ q. ends (used (uses-nil 0 (omega arith) (omega arith))))
    where
      not-brace : (eqb b 13 || eqb b 10) ≡ true → eqb b 123 ≡ false
      not-brace q = by_case (eqb b 123) (λ z. clash q (rw (eqb-true b 123 z) refl)) (λ z. z)

      more : goes_on indent b ≡ true → TurnBounded n 1 0 s (with_text st indent (get_text_slice (b ∷ bs)))
      more q = by_case (eqb indent 0)
          (λ z. with_text-bounded {c = 8} st indent h (omega arith)
          (subst (λ r. Bounded n (λ _. 8) r (get_text_slice (b ∷ bs))) (sym e)
          (slice-some b bs (not-brace (unfold goes_on in (rw (z, goes_on) at q))))))
          (λ z. with_text-bounded {c = 0} st indent h (omega (arith, eqb-false indent 0 z))
          (subst (λ r. Bounded n (λ _. 0) r (get_text_slice (b ∷ bs))) (sym e) (slice-bounds.on (b ∷ bs))))

  pub text-bounded : (st : State) (b : ℕ) (bs : List ℕ) → eqb b 123 ≡ false → TurnBounded n 1 0 (b ∷ bs) (text_turn st (b ∷ bs))
  unfolding text_turn
  text-bounded st b bs q = pick (TurnBounded n 1 0 (b ∷ bs)) (is_line_start st.role) _ _
      (λ l. line-bounded st (spaces (b ∷ bs)) (b ∷ bs) (drop (spaces (b ∷ bs)) (b ∷ bs)) (spaces-le (b ∷ bs)) refl)
      (λ l. with_text-bounded st 0 (omega arith) (omega arith) (slice-some b bs q))

module _ {n : ℕ} {sub : Inside} (law : InsideBounds n sub) where
  with_placeable-bounded : {s : List ℕ} {o : Out (Unit {0})} (st : State) → Bounded n (λ _. 20) s o
      → TurnBounded n 1 0 s (with_placeable st o)
  unfolding with_placeable
  with_placeable-bounded st (used {k = k} u) = goes (uses-nil k u.within (omega (arith, u.room)))
  with_placeable-bounded st (stopped k h) = ends (stopped k h)
  with_placeable-bounded st (too_deep k h g) = ends (too_deep k h g)

  pub pattern_turn-bounds : TurnBounds n (pattern_turn sub)
  pattern_turn-bounds = record { on = go }
    where
      go : (st : State) (s : List ℕ) → TurnBounded n 1 0 s (pattern_turn sub st s)
      go st [] = unfold pattern_turn in (ends (used (uses-nil 0 (omega arith) (omega arith))))
      go st (b ∷ bs) = unfold pattern_turn in
          (pick (TurnBounded n 1 0 (b ∷ bs)) (eqb b 123) _ _ (λ q. with_placeable-bounded st (law.braced b bs))
          (λ q. text-bounded st b bs q))

-- ---- elements

-- how many marks they have
abbrev pub marks_of : List Element → ℕ
marks_of [] = 0
marks_of (placeable ms ∷ es) = 2 + length ms + marks_of es
marks_of (text a e i l ∷ es) = 2 + marks_of es

-- texts end at k at most
abbrev pub Els : ℕ → List Element → Type 0
Els k [] = Unit {0}
Els k (placeable ms ∷ es) = Els k es
Els k (text a e i l ∷ es) = (e ≤ k) × Els k es

pub els-more : (k j : ℕ) → k ≤ j → (es : List Element) → Els k es → Els j es
els-more k j h [] p = tt
els-more k j h (placeable ms ∷ es) p = els-more k j h es p
els-more k j h (text a e i l ∷ es) p = (omega (arith, p.0), els-more k j h es p.1)

els-snoc : (k : ℕ) (es : List Element) (e : Element) → Els k es → Els k (e ∷ []) → Els k (es ++ (e ∷ []))
els-snoc k [] e p q = q
els-snoc k (placeable ms ∷ es) e p q = els-snoc k es e p q
els-snoc k (text a f i l ∷ es) e p q = (p.0, els-snoc k es e p.1 q)

marks-snoc : (es : List Element) (e : Element) → marks_of (es ++ (e ∷ [])) ≡ marks_of es + marks_of (e ∷ [])
marks-snoc [] e = omega arith
marks-snoc (placeable ms ∷ es) e = omega (arith, marks-snoc es e)
marks-snoc (text a f i l ∷ es) e = omega (arith, marks-snoc es e)

-- a pattern's state: each element has six marks to spare
pub record Grown (st : State) : Type 0 where
  pub els : Els st.used st.elements
  pub room : marks_of st.elements + 6 * length st.elements ≤ 8 * st.used
  pub kept : st.kept ≤ length st.elements

pub trimmed-le : (t : List ℕ) → trimmed t ≤ length t
unfolding trimmed
trimmed-le [] = omega arith
trimmed-le (x ∷ xs) =
    pick (λ e. e ≤ suc (length xs)) ((eqb x 32 || (eqb x 13 || eqb x 10)) && eqb (trimmed xs) 0) 0 (suc (trimmed xs))
    (λ q. omega arith) (λ q. omega (arith, trimmed-le xs))

pub dedented-le : (c : Option ℕ) (a i : ℕ) (l : Bool) → dedented c a i l ≤ a + i
unfolding dedented
dedented-le c a i false = omega arith
dedented-le none a i true = omega arith
dedented-le (some c) a i true = omega arith

text_marks-length : (s : List ℕ) (v : Bool) (a e : ℕ) → length (text_marks s v a e) ≡ 2
unfolding text_marks text_node
text_marks-length s true a e = refl
text_marks-length s false a e = refl

element_marks-length : (s : List ℕ) (c : Option ℕ) (m : ℕ) (es : List Element) → length (element_marks s c m es) ≤ marks_of es
unfolding element_marks node
element_marks-length s c zero es = omega arith
element_marks-length s c (suc m) [] = omega arith
element_marks-length s c (suc m) (placeable ms ∷ es) =
    omega (
      arith,
      element_marks-length s c m es,
      length-append ms (plain 113 ∷ []),
      length-append (ms ++ (plain 113 ∷ [])) (element_marks s c m es),
    )
element_marks-length s c (suc m) (text a e i l ∷ es) =
    let t = text_marks s (eqb m 0) (dedented c a i l) e in
    omega (arith, element_marks-length s c m es, length-append t (element_marks s c m es), text_marks-length s (eqb m 0) (dedented c a i l) e)

-- a text is in what was used
abbrev Sized : Out Slice → Type 0
Sized o = Holds (λ t ms k. t.size ≤ k) o

line_slice-sized : (t : List ℕ) → Sized (line_slice t)
unfolding line_slice
line_slice-sized t = by_case (ends_in_cr t) (λ q. rw (q, line_slice) (omega arith)) (λ q. rw (q, line_slice) (omega arith))

slice_by-sized : (t r : List ℕ) → Sized (slice_by t r)
unfolding slice_by
slice_by-sized t [] = omega arith
slice_by-sized t (d ∷ ds) =
    by_case (eqb d 125) (λ q. rw (q, slice_by) tt)
    (λ q. rw (q, slice_by) (by_case (eqb d 123) (λ r. rw r (omega arith)) (λ r. rw r (line_slice-sized t))))

slice-sized : (s : List ℕ) → Sized (get_text_slice s)
unfolding get_text_slice
slice-sized s = slice_by-sized (take (run is_text_byte s) s) (drop (run is_text_byte s) s)

-- the elements grow with what is used
abbrev Grows : State → List ℕ → State → List Mark → ℕ → Type 0
Grows st s st' ms k = Grown st → Grown st' × (st'.used ≤ st.used + k)

abbrev pub TurnGrows : State → Turn State State → Type 0
TurnGrows st (again st' ms k) = Grown st → Grown st' × (st'.used ≡ st.used + k)
TurnGrows st (done o) = Holds (λ st' ms k. Grown st → Grown st' × (st'.used ≤ st.used + k)) o

module _ (st : State) (indent k : ℕ) (t : Slice) (h : t.size ≤ k) where
  elements-with : Bool → List Element
  elements-with v =
      elim v [
        | true ↦ st.elements
            ++ (text st.used (st.used + indent + t.size) indent (is_line_start st.role) ∷ [])
        | false ↦ st.elements
      ]

  kept-with : Bool → ℕ
  kept-with v = elim v [ true ↦ suc (length st.elements) | false ↦ st.kept ]

  text-els : (v : Bool) → Grown st → Els (st.used + (indent + k)) (elements-with v)
  unfolding elements-with
  text-els true g =
      els-snoc (st.used + (indent + k)) st.elements
      (text st.used (st.used + indent + t.size) indent (is_line_start st.role))
      (els-more st.used (st.used + (indent + k)) (omega arith) st.elements g.els) (omega arith, tt)
  text-els false g = els-more st.used (st.used + (indent + k)) (omega arith) st.elements g.els

  text-room : (v : Bool) → (v ≡ true → 0 < t.size) → Grown st
      → marks_of (elements-with v) + 6 * length (elements-with v) ≤ 8 * (st.used + (indent + k))
  unfolding elements-with
  text-room true p g =
      let e = text st.used (st.used + indent + t.size) indent (is_line_start st.role) in
      omega (arith, p refl, g.room, marks-snoc st.elements e, length-append st.elements (e ∷ []))
  text-room false p g = omega (arith, g.room)

  text-kept : (v w : Bool) → (w ≡ true → v ≡ true) → Grown st → kept-with w ≤ length (elements-with v)
  unfolding elements-with kept-with
  text-kept true true p g =
      omega (
        arith,
        length-append st.elements (text st.used (st.used + indent + t.size) indent (is_line_start st.role) ∷ []),
      )
  text-kept true false p g =
      omega (
        arith,
        g.kept,
        length-append st.elements (text st.used (st.used + indent + t.size) indent (is_line_start st.role) ∷ []),
      )
  text-kept false true p g = clash (p refl) refl
  text-kept false false p g = g.kept

with_text-grows : (st : State) (indent : ℕ) (o : Out Slice) → Sized o → TurnGrows st (with_text st indent o)
unfolding with_text after elements-with kept-with
with_text-grows st indent (ok t ms k) h = λ g. (new g, refl)
  where
    sized : is_element st t ≡ true → 0 < t.size
    sized q = unfold is_element in (by_case (ltb 0 t.size) (λ z. ltb-true 0 t.size z) (λ z. clash q (rw z refl)))

    both : (is_element st t && not t.blank) ≡ true → is_element st t ≡ true
    both q = by_case (is_element st t) (λ z. z) (λ z. clash q (rw z refl))

    -- the state past the text
    past : State
    past =
        record {
          role = role_after t.ending;
          elements = elements-with st indent k t h (is_element st t);
          kept = kept-with st indent k t h (is_element st t && not t.blank);
          common = common_after st indent t;
          used = st.used + (indent + k);
        }

    new : Grown st → Grown past
    new g = record {
      els = text-els st indent k t h (is_element st t) g;
      room = text-room st indent k t h (is_element st t) sized g;
      kept = text-kept st indent k t h (is_element st t) (is_element st t && not t.blank) both g;
    }
with_text-grows st indent (bad f k) h = tt
with_text-grows st indent (deep k) h = tt

with_placeable-grows : {n : ℕ} {s : List ℕ} (st : State) (o : Out (Unit {0})) → Bounded n (λ _. 20) s o → TurnGrows st (with_placeable st o)
unfolding with_placeable
with_placeable-grows st (ok u ms k) (used v) = λ g. (new g, refl)
  where
    e : Element
    e = placeable (move_up st.used ms)

    past : State
    past =
        record {
          role = continuation;
          elements = st.elements ++ (e ∷ []);
          kept = suc (length st.elements);
          common = elim (is_line_start st.role) [ true ↦ some 0 | false ↦ st.common ];
          used = st.used + k;
        }

    new : Grown st → Grown past
    new g = record {
      els = els-snoc (st.used + k) st.elements e (els-more st.used (st.used + k) (omega arith) st.elements g.els) tt;
      room =
          omega (
            arith,
            g.room,
            v.room,
            marks-snoc st.elements e,
            length-append st.elements (e ∷ []),
            move_up-length st.used ms,
          );
      kept = omega (arith, length-append st.elements (e ∷ []));
    }
with_placeable-grows st (bad f k) (stopped j h) = tt
with_placeable-grows st (deep k) (too_deep j h g) = tt

line-grows : (st : State) (k : ℕ) (r : List ℕ) → TurnGrows st (line_turn st k r)
unfolding line_turn
line-grows st k [] = λ g. (g, omega arith)
line-grows st k (b ∷ bs) =
    pick (TurnGrows st) (goes_on k b) _ _ (λ q. with_text-grows st k (get_text_slice (b ∷ bs)) (slice-sized (b ∷ bs)))
    (λ q g. (g, omega arith))

pub used_le : {A : Type 0} {n : ℕ} {c : A → ℕ} {s : List ℕ} {o : Out A} → Bounded n c s o → used_by o ≤ length s
unfolding used_by
used_le (used u) = u.within
used_le (stopped k h) = h
used_le (too_deep k h g) = omega arith

pub block-le : (s : List ℕ) → used_by (skip_blank_block s) ≤ length s
block-le s = used_le ((block-bounds {n = 0}).on s)

-- ---- the whole pattern: a value has four marks to spare

abbrev pub spare : Bool → ℕ
spare v = elim v [ true ↦ 4 | false ↦ 0 ]

finish-bounded : {n : ℕ} (s : List ℕ) (o : Out State) → Bounded n (λ _. 0) s o
    → Holds (λ st ms k. Grown st × (st.used ≤ k)) o → Bounded n spare s (finish s o)
unfolding finish node
finish-bounded {n} s (ok st ms k) (used u) (g, l) =
    pick (Bounded n spare s) (eqb st.kept 0) _ _ (λ q. used (uses-nil k u.within (omega arith)))
    (λ q. used (record {
      within = u.within;
      room =
          omega (
            arith,
            g.room,
            g.kept,
            eqb-false st.kept 0 q,
            element_marks-length s st.common st.kept st.elements,
            length-append (element_marks s st.common st.kept st.elements) (plain 111 ∷ []),
          );
    }))
finish-bounded s (bad f k) (stopped j h) g = stopped j h
finish-bounded s (deep k) (too_deep j h i) g = too_deep j h i

pub first-grown : (s : List ℕ) → Grown (first_state s) × ((first_state s).used ≤ length s)
unfolding first_state state_at
first-grown s =
    pick (λ st. Grown st × (st.used ≤ length s)) (ltb 0 e) _ _
    (λ q. (
      none (k + e + u) line_start,
      omega (arith, spaces-le s, eol-le (drop k s), length-drop k s, block-le (drop (k + e) s), length-drop (k + e) s),
    ))
    (λ q. (none k initial_line_start, spaces-le s))
  where
    k : ℕ
    k = spaces s

    e : ℕ
    e = eol (drop k s)

    u : ℕ
    u = used_by (skip_blank_block (drop (k + e) s))

    none : (i : ℕ) (r : Role) → Grown (state_at i r)
    none i r = record { els = tt; room = omega arith; kept = omega arith }

module _ {n : ℕ} {sub : Inside} (law : InsideBounds n sub) where
  pub turn-grows : (st : State) (s : List ℕ) → TurnGrows st (pattern_turn sub st s)
  unfolding pattern_turn text_turn
  turn-grows st [] = λ g. (g, omega arith)
  turn-grows st (b ∷ bs) = pick (TurnGrows st) (eqb b 123) _ _ (λ q. with_placeable-grows st (sub.braced (b ∷ bs)) (law.braced b bs))
      (λ q. pick (TurnGrows st) (is_line_start st.role) _ _ (λ l. line-grows st (spaces (b ∷ bs)) (drop (spaces (b ∷ bs)) (b ∷ bs)))
      (λ l. with_text-grows st 0 (get_text_slice (b ∷ bs)) (slice-sized (b ∷ bs))))

  -- at the end of a pattern's loop, as its source counts
  pub pattern-grown : (s : List ℕ)
      → let st = first_state s in
      Holds (λ st' ms k. Grown st' × (st'.used ≤ k))
      (after [] st.used (repeat (pattern_turn sub) st (drop st.used s)))
  unfolding repeat after
  pattern-grown s = let st = first_state s in let r = drop st.used s in
      go st r (repeat (pattern_turn sub) st r) (first-grown s).0
      (loop-holds (pattern_turn sub) Grows (λ st s. onward st s (pattern_turn sub st s) (turn-grows st s))
      (suc (length r)) st r)
    where
      onward : (st : State) (s : List ℕ) (w : Turn State State) → TurnGrows st w → TurnHolds (pattern_turn sub) Grows st s w
      onward st s (again st' ms k) h = λ a ns j f g. let (g', e) = h g in let (x, l) = f g' in (x, omega arith)
      onward st s (done o) h = h

      go : (st : State) (r : List ℕ) (o : Out State) → Grown st → Holds (Grows st r) o
          → Holds (λ st' ms k. Grown st' × (st'.used ≤ k)) (after [] st.used o)
      go st r (ok st' ms k) g h = h g
      go st r (bad f k) g h = tt
      go st r (deep k) g h = tt

  pub pattern-bounds : Bounds n spare (get_pattern sub)
  unfolding get_pattern
  pattern-bounds = record {
    on = λ s. let st = first_state s in
        finish-bounded s _
        (after-bounded {c = 0} (uses-nil st.used (first-grown s).1 (omega arith))
        ((repeat-bounds (pattern_turn-bounds law) st).on (drop st.used s)))
        (pattern-grown s);
  }
