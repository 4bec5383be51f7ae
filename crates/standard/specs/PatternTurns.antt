-- The turns of the reading's pattern loop, by what stands where each starts.
use Prim.Native.Nat.{ℕ, zero, suc, ◌+◌, ◌<◌}
use Rattle.std.proofs.Common.{not-suc-le-zero, arith, ap, ◌∙◌, lt-ltb}
use Rattle.std.specs.Prelude.{◌≡◌, Bool, ◌&&◌, ◌||◌, length, take, ltb}
use Rattle.std.proofs.Math.Path.{refl}
use Rattle.std.proofs.Math.Bool.{true, false, not}
use mathlib.Core.List.{List, [], ◌∷◌, ◌++◌}
use Rattle.std.proofs.Math.ListN.{drop, length-drop}
use Rattle.std.proofs.Math.Dec.{eqb}
use Rattle.std.proofs.lemmas.Bool.{eqb-false}
use Rattle.syntax.specs.Bytes.{starts_with, spaces}
use Rattle.syntax.specs.Marks.{Mark}
use Rattle.syntax.specs.Reader.{Out, ok, bad, deep, again, done}
use Rattle.syntax.specs.Pattern.{Inside, Slice, is_blank, get_text_slice, text, State, is_line_start, role_after, is_line_feed}
use Rattle.syntax.specs.Pattern.{least_indent, with_placeable, common_after, is_element, with_text, goes_on, line_turn}
use Rattle.syntax.specs.Pattern.{text_turn, pattern_turn}
use Rattle.laws.specs.Bytes.{by_case, clash}
use Rattle.laws.specs.Stable.{Holds, Takes}
use Rattle.standard.specs.Texts.{Sign, end, lf, cr-lf, opens, closes, plain, sign_of, text_run, slice_at, slice_is}
use Rattle.standard.specs.Turns.{Shrinks}

-- the state behind a text with its indent i, k bytes used
unfoldable pub text_state : State → ℕ → Slice → ℕ → State
text_state st i t k = record {
  role = role_after t.ending;
  elements =
      elim
      (is_element st t) [
        | true ↦ st.elements
            ++ (text st.used (st.used + i + t.size) i (is_line_start st.role) ∷ [])
        | false ↦ st.elements
      ];
  kept = elim (is_element st t && not t.blank) [ true ↦ suc (length st.elements) | false ↦ st.kept ];
  common = common_after st i t;
  used = st.used + (i + k);
}

pub text-again : (st : State) (i : ℕ) (t : Slice) (ms : List Mark) (k : ℕ)
    → with_text st i (ok t ms k) ≡ again (text_state st i t k) [] (i + k)
unfolding with_text text_state
text-again st i t ms k = refl

-- What it has
-- -------------------------------------------------------------------------------------------------------------------------------

-- a text in a line, or one that is not blank
abbrev pub Visible : State → Slice → Type 0
Visible st t = (not (is_line_start st.role) || not t.blank) ≡ true

module _ (st : State) (i k : ℕ) (t : Slice) (some_size : 0 < t.size) where
  pub is-element : Visible st t → is_element st t ≡ true
  unfolding is_element
  is-element v = rw (lt-ltb 0 t.size some_size) (more (not (is_line_start st.role)) (not t.blank) (is_line_feed t.ending) v)
    where
      more : (a b c : Bool) → (a || b) ≡ true → (a || (b || c)) ≡ true
      more true b c h = refl
      more false true c h = refl
      more false false c h = clash {v = false} h refl

  pub text-elements : is_element st t ≡ true
      → (text_state st i t k).elements ≡ st.elements
      ++ (text st.used (st.used + i + t.size) i (is_line_start st.role) ∷ [])
  unfolding text_state
  text-elements e = rw (e, text_state) refl

  pub text-kept : is_element st t ≡ true → t.blank ≡ false → (text_state st i t k).kept ≡ suc (length st.elements)
  unfolding text_state
  text-kept e b = rw (e, text_state, b) refl

  pub text-common : is_line_start st.role ≡ true → t.blank ≡ false → (text_state st i t k).common ≡ least_indent st.common i
  unfolding text_state common_after
  text-common r b = let c : (ltb 0 t.size && (is_line_start st.role && not t.blank)) ≡ true =
      rw (lt-ltb 0 t.size some_size, r, b) refl in
      rw (text_state, common_after, c) refl

pub blank-kept : (st : State) (i k : ℕ) (t : Slice) → t.blank ≡ true → (text_state st i t k).kept ≡ st.kept
unfolding text_state
blank-kept st i k t b = by_case (is_element st t) (λ e. rw (text_state, e, b) refl) (λ e. rw (text_state, e) refl)

pub inline-common : (st : State) (i k : ℕ) (t : Slice) → is_line_start st.role ≡ false → (text_state st i t k).common ≡ st.common
unfolding text_state common_after
inline-common st i k t r = let c : (ltb 0 t.size && (is_line_start st.role && not t.blank)) ≡ false =
    by_case (ltb 0 t.size) (λ e. rw (e, r) refl) (λ e. rw e refl) in
    rw (text_state, common_after, c) refl

pub blank-common : (st : State) (i k : ℕ) (t : Slice) → t.blank ≡ true → (text_state st i t k).common ≡ st.common
unfolding text_state common_after
blank-common st i k t b =
    let c : (ltb 0 t.size && (is_line_start st.role && not t.blank)) ≡ false =
    by_case (ltb 0 t.size) (λ e. by_case (is_line_start st.role) (λ r. rw (e, r, b) refl) (λ r. rw (e, r) refl))
    (λ e. rw e refl) in
    rw (text_state, common_after, c) refl

longer : (s : List ℕ) (c : ℕ) (cs : List ℕ) → drop (spaces s) s ≡ c ∷ cs → 0 < length s
longer s c cs d = omega (arith, ap length d, length-drop (spaces s) s)

-- Which turn it is
-- ---------------------------------------------------------------------------------------------------------------------------

module _ (sub : Inside) (st : State) where
  pub turn-brace : (s : List ℕ) → pattern_turn sub st (123 ∷ s) ≡ with_placeable st (sub.braced (123 ∷ s))
  unfolding pattern_turn
  turn-brace s = refl

  pub turn-nil : pattern_turn sub st [] ≡ done (ok st [] 0)
  unfolding pattern_turn
  turn-nil = refl

  -- in a line
  pub turn-text : (b : ℕ) (bs : List ℕ) → eqb b 123 ≡ false → is_line_start st.role ≡ false
      → pattern_turn sub st (b ∷ bs) ≡ with_text st 0 (get_text_slice (b ∷ bs))
  unfolding pattern_turn text_turn
  turn-text b bs q r = rw (q, pattern_turn, text_turn, r) refl

  -- at a line's start
  turn-line : (s : List ℕ) → starts_with 123 s ≡ false → 0 < length s → is_line_start st.role ≡ true
      → pattern_turn sub st s ≡ line_turn st (spaces s) (drop (spaces s) s)
  unfolding pattern_turn text_turn starts_with
  turn-line [] q l r = absurd (not-suc-le-zero l)
  turn-line (b ∷ bs) q l r = rw (q, pattern_turn, text_turn, r) refl

  pub turn_end : (s : List ℕ) → drop (spaces s) s ≡ [] → starts_with 123 s ≡ false → 0 < length s
      → is_line_start st.role ≡ true → pattern_turn sub st s ≡ done (ok st [] (spaces s))
  unfolding line_turn
  turn_end s d q l r = turn-line s q l r ∙ rw d refl

  pub turn-off : (s : List ℕ) (c : ℕ) (cs : List ℕ) → drop (spaces s) s ≡ c ∷ cs → goes_on (spaces s) c ≡ false
      → starts_with 123 s ≡ false → is_line_start st.role ≡ true → pattern_turn sub st s ≡ done (ok st [] 0)
  unfolding line_turn
  turn-off s c cs d g q r = turn-line s q (longer s c cs d) r ∙ rw (d, line_turn, g) refl

  pub turn_on : (s : List ℕ) (c : ℕ) (cs : List ℕ) → drop (spaces s) s ≡ c ∷ cs → goes_on (spaces s) c ≡ true
      → starts_with 123 s ≡ false → is_line_start st.role ≡ true
      → pattern_turn sub st s ≡ with_text st (spaces s) (get_text_slice (c ∷ cs))
  unfolding line_turn
  turn_on s c cs d g q r = turn-line s q (longer s c cs d) r ∙ rw (d, line_turn, g) refl

-- Each turn uses a byte
-- -----------------------------------------------------------------------------------------------------------------------

slice-moves : (b : ℕ) (bs : List ℕ) → eqb b 123 ≡ false → Holds (λ t ms k. 0 < k) (get_text_slice (b ∷ bs))
unfolding slice_at
slice-moves b bs q =
    rw (slice_is (b ∷ bs) (sign_of (drop (text_run (b ∷ bs)) (b ∷ bs))) refl)
    (go (text_run (b ∷ bs)) (sign_of (drop (text_run (b ∷ bs)) (b ∷ bs))) refl)
  where
    go : (m : ℕ) {r : List ℕ} (x : Sign r) → drop m (b ∷ bs) ≡ r
        → Holds (λ t ms k. 0 < k) (slice_at m (is_blank (take (text_run (b ∷ bs)) (b ∷ bs))) x)
    go m end e = omega (arith, ap length e, length-drop m (b ∷ bs))
    go m (lf s) e = omega arith
    go m (cr-lf s) e = omega arith
    go zero (opens s) e = let z : b ≡ 123 = cc in absurd (eqb-false b 123 q z)
    go (suc m) (opens s) e = omega arith
    go m (closes s) e = tt
    go m (plain c s h r u v) e = tt

text-shrinks : (st : State) (i : ℕ) (s : List ℕ) (o : Out Slice) → 0 < length s → Holds (λ t ms k. 0 < i + k) o
    → Shrinks s (with_text st i o)
unfolding with_text
text-shrinks st i s (ok t ms k) l h = omega (arith, length-drop (i + k) s)
text-shrinks st i s (bad f k) l h = tt
text-shrinks st i s (deep k) l h = tt

more-moves : (i : ℕ) (o : Out Slice) → Holds (λ t ms k. 0 < k) o → Holds (λ t ms k. 0 < i + k) o
more-moves i (ok t ms k) h = omega arith
more-moves i (bad f k) h = tt
more-moves i (deep k) h = tt

past-moves : (i : ℕ) (o : Out Slice) → Holds (λ t ms k. 0 < suc i + k) o
past-moves i (ok t ms k) = omega arith
past-moves i (bad f k) = tt
past-moves i (deep k) = tt

module _ (sub : Inside) (takes : (s : List ℕ) → Takes (sub.braced s)) where
  brace-shrinks : (st : State) (b : ℕ) (bs : List ℕ) (o : Out (Unit {0})) → Takes o → Shrinks (b ∷ bs) (with_placeable st o)
  unfolding with_placeable
  brace-shrinks st b bs (ok u ms k) h = omega (arith, length-drop k (b ∷ bs))
  brace-shrinks st b bs (bad f k) h = tt
  brace-shrinks st b bs (deep k) h = tt

  pub turn-shrinks : (st : State) (s : List ℕ) → Shrinks s (pattern_turn sub st s)
  unfolding pattern_turn text_turn line_turn
  turn-shrinks st [] = tt
  turn-shrinks st (b ∷ bs) = by_case (eqb b 123) (λ q. rw (q, pattern_turn) (brace-shrinks st b bs (sub.braced (b ∷ bs)) (takes (b ∷ bs))))
      (λ q. by_case (is_line_start st.role)
      (λ r. rw (q, pattern_turn, text_turn, r) (line q (spaces (b ∷ bs)) (drop (spaces (b ∷ bs)) (b ∷ bs)) refl))
      (λ r. rw (q, pattern_turn, text_turn, r)
      (text-shrinks st 0 (b ∷ bs) (get_text_slice (b ∷ bs)) (omega arith)
      (more-moves 0 (get_text_slice (b ∷ bs)) (slice-moves b bs q)))))
    where
      line : eqb b 123 ≡ false → (n : ℕ) (r : List ℕ) → drop n (b ∷ bs) ≡ r → Shrinks (b ∷ bs) (line_turn st n r)
      line q n [] e = tt
      line q n (c ∷ cs) e = by_case (goes_on n c) (λ g. rw (g, line_turn) (moves n e)) (λ g. rw (g, line_turn) tt)
        where
          moves : (n : ℕ) → drop n (b ∷ bs) ≡ c ∷ cs → Shrinks (b ∷ bs) (with_text st n (get_text_slice (c ∷ cs)))
          moves zero e = let z : b ≡ c = cc in
              text-shrinks st 0 (b ∷ bs) (get_text_slice (c ∷ cs)) (omega arith)
              (more-moves 0 (get_text_slice (c ∷ cs)) (slice-moves c cs (rw z at q)))
          moves (suc n) e = text-shrinks st (suc n) (b ∷ bs) (get_text_slice (c ∷ cs)) (omega arith) (past-moves n (get_text_slice (c ∷ cs)))
