-- Entries end where a line starts, or at the end of the file.
use Rattle.std.specs.Prelude.{ℕ, suc, ◌+◌, ◌≤◌, ◌<◌, ◌≡◌, ◌⊎◌, Bool, ◌||◌, take, eqb, ltb}
use Rattle.std.proofs.Common.{not-suc-le-zero, add-zero, add_assoc, ◌∙◌, length-take, drop-drop}
use native.Mathlib.Omega.{arith}
use Rattle.std.proofs.Math.Path.{refl, sym, ap, subst}
use Rattle.std.proofs.Math.Logic.{inl, inr}
use Rattle.std.proofs.Math.Bool.{true, false, not}
use mathlib.Core.List.{List, [], ◌∷◌}
use Rattle.std.proofs.Math.ListN.{drop, length, length-drop}
use borrow.Author.Tests.{eqb-true, eq-eqb, ltb-true, ltb-false}
use Rattle.syntax.specs.Bytes.{starts_with, spaces, eol, run}
use Rattle.syntax.specs.Marks.{Mark}
use Rattle.syntax.specs.Reader.{Out, ok, bad, deep, Reader, ◌>>=◌, ◌>>◌, pure, fail, wrap, in_node, next, after, Turn, repeat}
use Rattle.syntax.specs.Helper.{skip_blank_block, block_turn}
use Rattle.syntax.specs.Pattern.{Inside, initial_line_start, Slice, is_text_byte, ends_in_cr, line_slice, slice_by}
use Rattle.syntax.specs.Pattern.{get_text_slice, State, is_line_start, role_after, with_placeable, with_text, goes_on, line_turn}
use Rattle.syntax.specs.Pattern.{text_turn, pattern_turn, finish, state_at, used_by, first_state, get_pattern}
use Rattle.syntax.specs.Expression.{needs_value}
use Rattle.syntax.specs.Core.{get_attribute, attribute_by, attribute_turn, get_attributes, Fields, fields, term_fields}
use Rattle.syntax.specs.Core.{as_message, as_term, get_entry, line_starts_at}
use Rattle.laws.specs.Bytes.{Whole, by_case, clash, pick, run-le}
use Rattle.laws.specs.Answers.{Takes, Holds, TurnHolds, loop-holds, Sure}
use Rattle.laws.specs.Stable.Helper.{block-sure}
use Rattle.laws.specs.Lines.{starts-later, starts-add, eol-starts}
use Rattle.laws.specs.Bounds.{Bounded, used, TurnBounded, goes}
use Rattle.laws.specs.Bounds.Pattern.{InsideBounds, text-bounded}

-- unless all of s is used, a line starts k bytes on: past the start
abbrev pub Lands : List ℕ → ℕ → Type 0
Lands s k = k < length s → (0 < k) × (line_starts_at k s ≡ true)

-- or where s starts
abbrev pub Stays : List ℕ → ℕ → Type 0
Stays s k = k < length s → line_starts_at k s ≡ true

lands-after : (k j : ℕ) (s : List ℕ) → Lands (drop k s) j → Lands s (k + j)
lands-after k j s h l = let (p, q) = h (omega (arith, length-drop k s)) in (omega arith, starts-later k j s p q)

lands-stay : (k j : ℕ) (s : List ℕ) → Lands s k → Stays (drop k s) j → Lands s (k + j)
lands-stay k j s h g l = let (p, q) = h (omega arith) in (omega arith, starts-add k j s q (g (omega (arith, length-drop k s))))

pub stays-stay : (k j : ℕ) (s : List ℕ) → Stays s k → Stays (drop k s) j → Stays s (k + j)
stays-stay k j s h g l = starts-add k j s (h (omega arith)) (g (omega (arith, length-drop k s)))

pub record LandsOn {A : Type 0} (p : Reader A) : Type 0 where
  pub on : (s : List ℕ) → Holds (λ a ms k. Lands s k) (p s)

pub record StaysOn {A : Type 0} (p : Reader A) : Type 0 where
  pub on : (s : List ℕ) → Holds (λ a ms k. Stays s k) (p s)

-- from an answer on
module _ {A B : Type 0} where
  bind-lands : (p : Reader A) {q : A → Reader B} → ((a : A) → LandsOn (q a)) → LandsOn (p >>= q)
  unfolding ◌>>=◌ next after
  bind-lands p {q} f = record { on = λ s. go s (p s) }
    where
      inner : (s : List ℕ) (ms : List Mark) (k : ℕ) (o : Out B) → Holds (λ b ns j. Lands (drop k s) j) o
          → Holds (λ b ns j. Lands s j) (after ms k o)
      inner s ms k (ok b ns j) h = lands-after k j s h
      inner s ms k (bad e j) h = tt
      inner s ms k (deep j) h = tt

      go : (s : List ℕ) (o : Out A) → Holds (λ b ns j. Lands s j) (next s q o)
      go s (ok a ms k) = inner s ms k (q a (drop k s)) ((f a).on (drop k s))
      go s (bad e k) = tt
      go s (deep k) = tt

  then-lands : (p : Reader A) {q : Reader B} → LandsOn q → LandsOn (p >> q)
  unfolding ◌>>◌ ◌>>=◌
  then-lands p {q} f = bind-lands p {q = λ _. q} (λ _. f)

  lands-bind : {p : Reader A} {q : A → Reader B} → LandsOn p → ((a : A) → StaysOn (q a)) → LandsOn (p >>= q)
  unfolding ◌>>=◌ next after
  lands-bind {p} {q} h f = record { on = λ s. go s (p s) (h.on s) }
    where
      inner : (s : List ℕ) (ms : List Mark) (k : ℕ) (o : Out B) → Lands s k → Holds (λ b ns j. Stays (drop k s) j) o
          → Holds (λ b ns j. Lands s j) (after ms k o)
      inner s ms k (ok b ns j) l h = lands-stay k j s l h
      inner s ms k (bad e j) l h = tt
      inner s ms k (deep j) l h = tt

      go : (s : List ℕ) (o : Out A) → Holds (λ a ms k. Lands s k) o → Holds (λ b ns j. Lands s j) (next s q o)
      go s (ok a ms k) l = inner s ms k (q a (drop k s)) l ((f a).on (drop k s))
      go s (bad e k) l = tt
      go s (deep k) l = tt

  stays-bind : {p : Reader A} {q : A → Reader B} → StaysOn p → ((a : A) → StaysOn (q a)) → StaysOn (p >>= q)
  unfolding ◌>>=◌ next after
  stays-bind {p} {q} h f = record { on = λ s. go s (p s) (h.on s) }
    where
      inner : (s : List ℕ) (ms : List Mark) (k : ℕ) (o : Out B) → Stays s k → Holds (λ b ns j. Stays (drop k s) j) o
          → Holds (λ b ns j. Stays s j) (after ms k o)
      inner s ms k (ok b ns j) l h = stays-stay k j s l h
      inner s ms k (bad e j) l h = tt
      inner s ms k (deep j) l h = tt

      go : (s : List ℕ) (o : Out A) → Holds (λ a ms k. Stays s k) o → Holds (λ b ns j. Stays s j) (next s q o)
      go s (ok a ms k) l = inner s ms k (q a (drop k s)) l ((f a).on (drop k s))
      go s (bad e k) l = tt
      go s (deep k) l = tt

  stays_then : {p : Reader A} {q : Reader B} → StaysOn p → StaysOn q → StaysOn (p >> q)
  unfolding ◌>>◌ ◌>>=◌
  stays_then {q = q} h f = stays-bind {q = λ _. q} h (λ _. f)

pure-stays : {A : Type 0} (a : A) → StaysOn (pure a)
unfolding pure line_starts_at
pure-stays a = record { on = λ s l. refl }

-- a source that ends in a newline ends where a line would start
whole-end : (b : ℕ) (bs : List ℕ) → Whole (b ∷ bs) → line_starts_at (suc (length bs)) (b ∷ bs) ≡ true
unfolding line_starts_at
whole-end b [] w = eq-eqb b 10 w
whole-end b (c ∷ cs) w = whole-end c cs w

pub whole-lands : (b : ℕ) (bs : List ℕ) (k : ℕ) → Whole (b ∷ bs) → k ≤ suc (length bs) → Lands (b ∷ bs) k → line_starts_at k (b ∷ bs) ≡ true
whole-lands b bs k w l h =
    by_case (ltb k (suc (length bs))) (λ q. (h (ltb-true k (suc (length bs)) q)).1)
    (λ q. let e : k ≡ suc (length bs) = omega (arith, ltb-false k (suc (length bs)) q) in rw e (whole-end b bs w))

-- ---- blank lines

block-turn-lands : (n : ℕ) (s : List ℕ) → TurnHolds block_turn (λ st r a ms k. line_starts_at k r ≡ true) n s (block_turn n s)
unfolding block_turn line_starts_at
block-turn-lands n s = by_case (ltb 0 (eol (drop (spaces s) s)))
    (λ q. rw (q, TurnHolds, block_turn)
    (λ a ns j g. starts-add (spaces s + eol (drop (spaces s) s)) j s
    (starts-later (spaces s) (eol (drop (spaces s) s)) s (ltb-true 0 (eol (drop (spaces s) s)) q)
    (eol-starts (drop (spaces s) s) (ltb-true 0 (eol (drop (spaces s) s)) q))) g))
    (λ q. rw (q, TurnHolds, block_turn) refl)

pub block-lands : (s : List ℕ) → Holds (λ a ms k. line_starts_at k s ≡ true) (skip_blank_block s)
unfolding skip_blank_block repeat
block-lands s = loop-holds block_turn (λ st r a ms k. line_starts_at k r ≡ true) block-turn-lands (suc (length s)) 0 s

pub block-starts : (s : List ℕ) → line_starts_at (used_by (skip_blank_block s)) s ≡ true
unfolding used_by
block-starts s = go (skip_blank_block s) (block-sure s) (block-lands s)
  where
    go : (o : Out ℕ) → Sure o → Holds (λ a ms k. line_starts_at k s ≡ true) o → line_starts_at (used_by o) s ≡ true
    go (ok a ms k) u h = h
    go (bad f k) u h = absurd u
    go (deep k) u h = absurd u

block-stays : StaysOn skip_blank_block
block-stays = record { on = λ s. go s (skip_blank_block s) (block-lands s) }
  where
    go : (s : List ℕ) (o : Out ℕ) → Holds (λ a ms k. line_starts_at k s ≡ true) o → Holds (λ a ms k. Stays s k) o
    go s (ok a ms k) h = λ l. h
    go s (bad f k) h = tt
    go s (deep k) h = tt

-- ---- texts

run_end : (t : ℕ → Bool) (s : List ℕ) (d : ℕ) (ds : List ℕ) → drop (run t s) s ≡ d ∷ ds → t d ≡ false
unfolding run
run_end t [] d ds e = let z : ◌≡◌ {A = ℕ} 0 1 = cc in absurd (omega arith)
run_end t (b ∷ bs) d ds e =
    by_case (t b) (λ q. run_end t bs d ds (rw (q, run) at e))
    (λ q. let h : b ∷ bs ≡ d ∷ ds = rw (q, run) at e in let z : b ≡ d = cc in ap t (sym z) ∙ q)

-- a text that ends a line has its newline, or leaves it
abbrev EndsLine : List ℕ → ℕ → Slice → List Mark → ℕ → Type 0
EndsLine s i t ms k = is_line_start (role_after t.ending) ≡ true → (starts_with 10 (drop (i + k) s) ≡ true) ⊎ (line_starts_at (i + k) s ≡ true)

newline-of : (d : ℕ) → is_text_byte d ≡ false → eqb d 125 ≡ false → eqb d 123 ≡ false → eqb d 10 ≡ true
unfolding is_text_byte
newline-of d e p q = by_case (eqb d 10) (λ r. r) (λ r. clash {v = is_text_byte d} (rw (r, is_text_byte) (rw q (rw p refl))) e)

line_slice-ends : (s : List ℕ) (i : ℕ) (t : List ℕ) (d : ℕ) (ds : List ℕ) → drop (i + length t) s ≡ d ∷ ds
    → eqb d 10 ≡ true → Holds (EndsLine s i) (line_slice t)
unfolding line_slice starts_with line_starts_at
line_slice-ends s i t d ds e q = by_case (ends_in_cr t)
    (λ r. rw (r, line_slice) (λ h. inl (rw e q)))
    (λ r. rw (r, line_slice)
    (λ h. inr
    (subst (λ z. line_starts_at z s ≡ true) (add_assoc i (length t) 1)
    (starts-later (i + length t) 1 s (omega arith) (rw e q)))))

slice_by-ends : (s : List ℕ) (i : ℕ) (t r : List ℕ) → drop (i + length t) s ≡ r → ((d : ℕ) (ds : List ℕ) → r ≡ d ∷ ds → is_text_byte d ≡ false)
    → Holds (EndsLine s i) (slice_by t r)
unfolding slice_by is_line_start role_after
slice_by-ends s i t [] e f = λ h. clash h refl
slice_by-ends s i t (d ∷ ds) e f = by_case (eqb d 125) (λ q. rw (q, slice_by) tt)
    (λ q. rw (q, slice_by)
    (by_case (eqb d 123) (λ r. rw r (λ h. clash h refl))
    (λ r. rw r (line_slice-ends s i t d ds e (newline-of d (f d ds refl) q r)))))

-- the text at the start of a rest of s, i bytes on
text-ends : (s : List ℕ) (i : ℕ) (r : List ℕ) → drop i s ≡ r → Holds (EndsLine s i) (get_text_slice r)
unfolding get_text_slice
text-ends s i r at =
    let n = run is_text_byte r in
    let len : length (take n r) ≡ n = omega (arith, length-take n r, run-le is_text_byte r) in
    slice_by-ends s i (take n r) (drop n r) (rw len (sym (drop-drop n i s) ∙ ap (drop n) at)) (λ d ds e. run_end is_text_byte r d ds e)

-- ---- patterns

-- a pattern's turns, from the state st on
abbrev LandedBy : Bool → List ℕ → ℕ → Type 0
LandedBy starts s k = ((0 < k) × (line_starts_at k s ≡ true)) ⊎ ((k ≡ 0) × (starts ≡ true) × (starts_with 10 s ≡ false))

abbrev Landed : State → List ℕ → State → List Mark → ℕ → Type 0
Landed st s st' ms k = k < length s → LandedBy (is_line_start st.role) s k

module _ (sub : Inside) where
  abbrev Turned : State → List ℕ → Turn State State → Type 0
  Turned st s w = TurnHolds (pattern_turn sub) Landed st s w

  with_text-lands : (st : State) (s : List ℕ) (i : ℕ) (o : Out Slice) → TurnBounded 0 1 0 s (with_text st i o)
      → Holds (EndsLine s i) o → Turned st s (with_text st i o)
  unfolding with_text after
  with_text-lands st s i (ok t ms k) (goes u) e = λ st' ns j h l. inl (by j (h (omega (arith, length-drop (i + k) s))))
    where
      by : (j : ℕ) → LandedBy (is_line_start (role_after t.ending)) (drop (i + k) s) j → (0 < i + k + j)
          × (line_starts_at (i + k + j) s ≡ true)
      by j (inl (p, q)) = (omega arith, starts-later (i + k) j s p q)
      by j (inr (z, a, b)) = (omega (arith, u.room), rw z (rw (add-zero (i + k)) (from (e a))))
        where
          from : (starts_with 10 (drop (i + k) s) ≡ true) ⊎ (line_starts_at (i + k) s ≡ true) → line_starts_at (i + k) s ≡ true
          from (inl c) = clash c b
          from (inr c) = c
  with_text-lands st s i (bad f k) b e = tt
  with_text-lands st s i (deep k) b e = tt

  with_placeable-lands : (st : State) (s : List ℕ) (o : Out (Unit {0})) → Takes o → Turned st s (with_placeable st o)
  unfolding with_placeable is_line_start
  with_placeable-lands st s (ok u ms k) p = λ st' ns j h l. inl (by j (h (omega (arith, length-drop k s))))
    where
      by : (j : ℕ) → LandedBy false (drop k s) j → (0 < k + j) × (line_starts_at (k + j) s ≡ true)
      by j (inl (p, q)) = (omega arith, starts-later k j s p q)
      by j (inr (z, a, b)) = clash refl (sym a)
  with_placeable-lands st s (bad f k) p = tt
  with_placeable-lands st s (deep k) p = tt

  line-lands : (st : State) (b : ℕ) (bs : List ℕ) (i : ℕ) (r : List ℕ) → is_line_start st.role ≡ true
      → spaces (b ∷ bs) ≡ i → drop i (b ∷ bs) ≡ r
      → TurnBounded 0 1 0 (b ∷ bs) (line_turn st i r) → Turned st (b ∷ bs) (line_turn st i r)
  unfolding line_turn goes_on spaces run starts_with
  line-lands st b bs i [] l e d t = λ h. absurd (omega (arith, ap length d, length-drop i (b ∷ bs)))
  line-lands st b bs i (c ∷ cs) l e d t =
      by_case (goes_on i c)
      (λ g. rw (g, line_turn)
      (with_text-lands st (b ∷ bs) i (get_text_slice (c ∷ cs)) (rw (g, line_turn) at t)
      (text-ends (b ∷ bs) i (c ∷ cs) d)))
      (λ g. rw (g, line_turn) (λ h. inr (refl, l, not-newline g)))
    where
      not-newline : goes_on i c ≡ false → starts_with 10 (b ∷ bs) ≡ false
      not-newline g = by_case (eqb b 10)
          (λ z. let s0 : spaces (b ∷ bs) ≡ 0 = rw (eqb-true b 10 z) refl in
          let i0 : i ≡ 0 = sym e ∙ s0 in
          let h : b ∷ bs ≡ c ∷ cs = subst (λ n. drop n (b ∷ bs) ≡ c ∷ cs) i0 d in
          let bc : b ≡ c = cc in
          clash {v = goes_on i c} (rw i0 (rw (← bc) (rw (eqb-true b 10 z) refl))) g)
          (λ z. z)

  module _ {n : ℕ} (law : InsideBounds n sub) where
    -- what stands in braces uses a byte
    takes : (b : ℕ) (bs : List ℕ) → Takes (sub.braced (b ∷ bs))
    takes b bs = go (sub.braced (b ∷ bs)) (law.braced b bs)
      where
        go : (o : Out (Unit {0})) → Bounded n (λ _. 20) (b ∷ bs) o → Takes o
        go (ok a ms k) (used u) = omega (arith, u.room)
        go (bad f k) h = tt
        go (deep k) h = tt

    turn-lands : (st : State) (s : List ℕ) → Turned st s (pattern_turn sub st s)
    unfolding pattern_turn text_turn
    turn-lands st [] = λ h. absurd (not-suc-le-zero h)
    turn-lands st (b ∷ bs) =
        by_case (eqb b 123)
        (λ q. rw (q, pattern_turn) (with_placeable-lands st (b ∷ bs) (sub.braced (b ∷ bs)) (takes b bs)))
        (λ q. let t = text-bounded {n = 0} st b bs q in
        rw (q, pattern_turn) (by_case (is_line_start st.role)
        (λ l. rw (l, text_turn) (line-lands st b bs (spaces (b ∷ bs)) (drop (spaces (b ∷ bs)) (b ∷ bs)) l refl refl (rw (l, text_turn) at t)))
        (λ l. rw (l, text_turn)
        (with_text-lands st (b ∷ bs) 0 (get_text_slice (b ∷ bs)) (rw (l, text_turn) at t)
        (text-ends (b ∷ bs) 0 (b ∷ bs) refl)))))

    -- where the first text or placeable stands
    first-lands : (s : List ℕ)
        → ((first_state s).role ≡ initial_line_start) ⊎
        ((0 < (first_state s).used) × (line_starts_at (first_state s).used s ≡ true))
    unfolding first_state state_at
    first-lands s = by_case (ltb 0 (eol (drop (spaces s) s)))
        (λ q. inr (rw (q, first_state) (
          omega (arith, ltb-true 0 (eol (drop (spaces s) s)) q),
          (let k = spaces s in let e = eol (drop (spaces s) s) in
              starts-add (k + e) (used_by (skip_blank_block (drop (k + e) s))) s
              (starts-later k e s (ltb-true 0 e q) (eol-starts (drop k s) (ltb-true 0 e q)))
              (block-starts (drop (k + e) s))),
        )))
        (λ q. inl (rw (q, first_state) refl))

    pattern-lands : LandsOn (get_pattern sub)
    unfolding get_pattern repeat
    pattern-lands = record {
      on = λ s. let st = first_state s in let r = drop st.used s in
          finished s (after [] st.used (repeat (pattern_turn sub) st r))
          (started s (repeat (pattern_turn sub) st r)
          (loop-holds (pattern_turn sub) Landed turn-lands (suc (length r)) st r));
    }
      where
        finished : (s : List ℕ) (o : Out State) → Holds (λ a ms k. Lands s k) o → Holds (λ a ms k. Lands s k) (finish s o)
        finished s (ok st ms k) h = unfold finish in (pick (Holds (λ a ms k. Lands s k)) (eqb st.kept 0) _ _ (λ q. h) (λ q. h))
        finished s (bad f k) h = unfold finish in tt
        finished s (deep k) h = unfold finish in tt

        started : (s : List ℕ) (o : Out State) → Holds (Landed (first_state s) (drop (first_state s).used s)) o
            → Holds (λ a ms k. Lands s k) (after [] (first_state s).used o)
        started s (ok st ms k) h = unfold after in (λ l. by k (h (omega (arith, length-drop (first_state s).used s))) (first-lands s))
          where
            by : (k : ℕ) → LandedBy (is_line_start (first_state s).role) (drop (first_state s).used s) k
                → ((first_state s).role ≡ initial_line_start) ⊎ ((0 < (first_state s).used) × (line_starts_at (first_state s).used s ≡ true))
                → (0 < (first_state s).used + k) × (line_starts_at ((first_state s).used + k) s ≡ true)
            by k (inl (p, q)) f = (omega arith, starts-later (first_state s).used k s p q)
            by k (inr (z, a, b)) (inl e) = clash a (ap is_line_start e ∙ (unfold is_line_start in refl))
            by k (inr (z, a, b)) (inr (p, q)) = (omega arith, rw z (rw (add-zero (first_state s).used) q))
        started s (bad f k) h = unfold after in tt
        started s (deep k) h = unfold after in tt

    -- ---- entries

    value_stays : (v : Bool) → StaysOn (needs_value v)
    unfolding needs_value fail
    value_stays true = pure-stays tt
    value_stays false = record { on = λ s. tt }

    attribute-lands : LandsOn (get_attribute sub)
    unfolding get_attribute in_node
    attribute-lands =
        record {
          on =
              λ s. wrapped s _ ((then-lands _ (then-lands _ (then-lands _ (lands-bind pattern-lands value_stays)))).on s);
        }
      where
        wrapped : (s : List ℕ) (o : Out (Unit {0})) → Holds (λ a ms k. Lands s k) o → Holds (λ a ms k. Lands s k) (wrap 10 o)
        wrapped s (ok a ms k) h = unfold wrap in h
        wrapped s (bad f k) h = unfold wrap in tt
        wrapped s (deep k) h = unfold wrap in tt

    attributes-stay : StaysOn (get_attributes sub)
    unfolding get_attributes repeat
    attributes-stay = record { on = λ s. loop-holds (attribute_turn sub) (λ n r a ms k. Stays r k) turns (suc (length s)) 0 s }
      where
        by : (n : ℕ) (s : List ℕ) (k : ℕ) (o : Out (Unit {0})) → Holds (λ a ms j. Lands (drop k s) j) o
            → TurnHolds (attribute_turn sub) (λ n r a ms k. Stays r k) n s (attribute_by n k o)
        by n s k (ok u ms j) h = unfold attribute_by in (λ a ns i g. stays-stay (k + j) i s (λ l. (lands-after k j s h l).1) g)
        by n s k (bad f j) h = unfold attribute_by line_starts_at in (λ l. refl)
        by n s k (deep j) h = unfold attribute_by in tt

        turns : (n : ℕ) (s : List ℕ) → TurnHolds (attribute_turn sub) (λ n r a ms k. Stays r k) n s (attribute_turn sub n s)
        turns n s = unfold attribute_turn line_starts_at in
            (pick (TurnHolds (attribute_turn sub) (λ n r a ms k. Stays r k) n s) (starts_with 46 (drop (spaces s) s)) _ _
            (λ q. by n s (spaces s + 1) (get_attribute sub (drop (spaces s + 1) s))
            (attribute-lands.on (drop (spaces s + 1) s)))
            (λ q l. refl))

    fields-land : LandsOn (fields sub)
    unfolding fields
    fields-land =
        bind-lands _
        (λ n. then-lands _
        (then-lands _
        (lands-bind pattern-lands (λ v. stays_then block-stays (stays-bind attributes-stay (λ c. pure-stays _))))))

    pub entry-lands : (s : List ℕ) → starts_with 35 s ≡ false → Holds (λ e ms k. Lands s k) (get_entry sub s)
    unfolding get_entry term_fields
    entry-lands s q =
        rw (q, get_entry)
        (pick (Holds (λ e ms k. Lands s k)) (starts_with 45 s) _ _
        (λ r. of_term (term_fields sub s) ((then-lands _ fields-land).on s))
        (λ r. of_message (fields sub s) (fields-land.on s)))
      where
        of_message : (o : Out Fields) → Holds (λ a ms k. Lands s k) o → Holds (λ e ms k. Lands s k) (as_message o)
        of_message (ok f ms k) h = unfold as_message in
            (pick (Holds (λ e ms k. Lands s k)) (f.value || not (eqb f.attributes 0)) _ _ (λ q. h) (λ q. tt))
        of_message (bad f k) h = unfold as_message in tt
        of_message (deep k) h = unfold as_message in tt

        of_term : (o : Out Fields) → Holds (λ a ms k. Lands s k) o → Holds (λ e ms k. Lands s k) (as_term o)
        of_term (ok f ms k) h = unfold as_term in (pick (Holds (λ e ms k. Lands s k)) f.value _ _ (λ q. h) (λ q. tt))
        of_term (bad f k) h = unfold as_term in tt
        of_term (deep k) h = unfold as_term in tt
