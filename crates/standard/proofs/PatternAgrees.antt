-- Patterns: the reading's loop and the grammar's elements give the same marks and end at the same place.
use Prim.Native.Nat.{ℕ, zero, suc, ◌+◌, ◌≤◌, ◌<◌}
use Rattle.std.proofs.Common.{not-suc-le-zero, add_assoc, zero-add, add-zero, ◌∙◌, drop-drop, eqb-true}
use native.Mathlib.Omega.{arith}
use Rattle.std.proofs.Math.Path.{◌≡◌, refl, sym, ap, subst}
use Rattle.std.specs.Prelude.{◌⊎◌, Bool, ◌||◌, take}
use Rattle.std.proofs.Math.Logic.{inl, inr}
use Rattle.std.proofs.Math.Bool.{true, false, not}
use mathlib.Core.List.{List, [], ◌∷◌, ◌++◌}
use Rattle.std.proofs.Math.Option.{Option, some}
use Rattle.std.proofs.Math.ListN.{drop, length, length-drop}
use Rattle.std.proofs.Math.Dec.{eqb, eqb-suc-zero}
use Rattle.syntax.specs.Bytes.{starts_with, spaces, eol, run, all}
use Rattle.syntax.specs.Marks.{Mark, move_up, node}
use Rattle.syntax.specs.Reader as Reader
use Rattle.syntax.specs.Reader.{Out, ok, bad, deep, wrap, again, repeat}
use Rattle.syntax.specs.Pattern as Pattern
use Rattle.syntax.specs.Pattern.{State, Slice, continuation, line_feed, crlf, placeable_start, eof, is_line_start, is_blank}
use Rattle.syntax.specs.Pattern.{is_text_byte, is_element, role_after, with_placeable, with_text, goes_on, is_continuation}
use Rattle.syntax.specs.Pattern.{pattern_turn, get_text_slice}
use Rattle.laws.specs.Bytes.{by_case, clash}
use Rattle.laws.specs.Moving.{after-after}
use Rattle.laws.specs.Stable.{Takes}
use Rattle.standard.specs.Dialect as Dialect
use Rattle.standard.specs.Dialect.{rust}
use Rattle.standard.specs.Peg.{Answer, fits, fails}
use Rattle.standard.specs.Abstract.{Line, Raw, text, lines, indent, brace-indent, placeable, common, width}
use Rattle.standard.specs.Abstract.{Element, joined, is_space, onto}
use Rattle.standard.specs.Lexical.{blank-block}
use Rattle.standard.specs.Grammar as Grammar
use Rattle.standard.specs.Blank.{line_ends}
use Rattle.standard.specs.Same.{Same, nothing, Agree}
use Rattle.standard.specs.Turns.{repeat-again, repeat-done}
use Rattle.standard.specs.Texts.{Sign, end, lf, cr-lf, opens, closes, plain, sign_of, is_text_at, text_run}
use Rattle.standard.specs.Texts.{run-plain, run-over, slice_at, slice_is}
use Rattle.standard.specs.Blocks.{block_of, block-stops, block-ended, block-width, Ended, lf-block}
use Rattle.standard.specs.Dedent.{run_of, feeds, Live, Idle, idle-same, Passed, passed-one, passed_none, passed_then}
use Rattle.standard.specs.Elements.{onward, closed, brace_line, tail, on_line, line_tail, behind, closing-fails}
use Rattle.standard.specs.Elements.{element-text, element-placeable, element-none, tail-again, tail_none}
use Rattle.standard.specs.Elements.{tail-nil, tail-close, tail-lf, tail-crlf, block-fails, line-end-tail}
use Rattle.standard.specs.Elements.{line-on-tail, line-off-tail, goes_on-suc, run_on}
use Rattle.standard.specs.PatternTurns.{text_state, text-again, is-element, text-elements, text-kept, text-common}
use Rattle.standard.specs.PatternTurns.{blank-kept, inline-common, blank-common, turn-brace, turn-nil, turn-text}
use Rattle.standard.specs.PatternTurns.{turn_end, turn-off, turn_on, turn-shrinks}
use Rattle.standard.specs.Growth.{both, both-none, both-least, both_zero, made, made-brace, onto-lf, onto-later}
use Rattle.standard.specs.Growth.{feeds-lf, feeds-crlf, from_at, text_raws, Indented, Content, Line-content, Common}
use Rattle.standard.specs.Growth.{live-as, place-grows, Text-step, text-step, text-last, text-brace, text-lines}
use Rattle.standard.specs.Growth.{lines-grow}
use Rattle.standard.specs.BlankLines.{Blanked, block-passes, no-brace-first, feed_slice, cr_slice, slice-lf, slice-crlf}

-- an answer of the loop against raw elements
abbrev pub Rel : (State → List Raw → Type 0) → Out State → Answer (List Raw) → Type 0
Rel G (ok st ms k) (fits rs ns j) = (ms ≡ []) × (k ≡ j) × G st rs
Rel G (ok st ms k) fails = ⊥
Rel G (bad f k) (fits rs ns j) = ⊥
Rel G (bad f k) fails = Unit {0}
Rel G (deep k) a = Unit {0}

pub rel-step : (G H : State → List Raw → Type 0) (F : List Raw → List Raw) (j k : ℕ) → j ≡ k
    → ((st : State) (rs : List Raw) → G st rs → H st (F rs)) → (o : Out State) (a : Answer (List Raw)) → Rel G o a
    → Rel H (Reader.after [] j o) (onward F k a)
unfolding Reader.after onward move_up
rel-step G H F j k q g (ok st ms i) (fits rs ns l) h = (rw h.0 refl, omega (arith, h.1), g st rs h.2)
rel-step G H F j k q g (ok st ms i) fails h = absurd h
rel-step G H F j k q g (bad f i) (fits rs ns l) h = absurd h
rel-step G H F j k q g (bad f i) fails h = tt
rel-step G H F j k q g (deep i) a h = tt

-- with no bytes between
rel-here : (G H : State → List Raw → Type 0) (F : List Raw → List Raw)
    → ((st : State) (rs : List Raw) → G st rs → H st (F rs)) → (o : Out State) (a : Answer (List Raw)) → Rel G o a
    → Rel H o (onward F 0 a)
unfolding onward
rel-here G H F g (ok st ms i) (fits rs ns l) h = (h.0, omega (arith, h.1), g st rs h.2)
rel-here G H F g (ok st ms i) fails h = absurd h
rel-here G H F g (bad f i) (fits rs ns l) h = absurd h
rel-here G H F g (bad f i) fails h = tt
rel-here G H F g (deep i) a h = tt

pub rel_map : (G H : State → List Raw → Type 0) → ((st : State) (rs : List Raw) → G st rs → H st rs)
    → (o : Out State) (a : Answer (List Raw)) → Rel G o a → Rel H o a
rel_map G H g (ok st ms i) (fits rs ns l) h = (h.0, h.1, g st rs h.2)
rel_map G H g (ok st ms i) fails h = absurd h
rel_map G H g (bad f i) (fits rs ns l) h = absurd h
rel_map G H g (bad f i) fails h = tt
rel_map G H g (deep i) a h = tt

pub onward-onward : (F G : List Raw → List Raw) (j k : ℕ) (a : Answer (List Raw))
    → onward F j (onward G k a) ≡ onward (λ rs. F (G rs)) (j + k) a
unfolding onward
onward-onward F G j k (fits rs ms i) = ap (fits (F (G rs)) []) (sym (add_assoc j k i))
onward-onward F G j k fails = refl

next-drop : (n : ℕ) (s : List ℕ) (b : ℕ) (t : List ℕ) → drop n s ≡ b ∷ t → drop (n + 1) s ≡ t
next-drop n s b t d = sym (drop-drop 1 n s) ∙ ap (drop 1) d

-- nothing before a brace
abbrev open_slice : Slice
open_slice = record { size = 0; blank = true; ending = placeable_start }

slice-open : (t : List ℕ) → get_text_slice (123 ∷ t) ≡ ok open_slice [] 0
unfolding text_run is_text_at is_text_byte slice_at is_blank all
slice-open t = slice_is (123 ∷ t) (opens t) refl

spaced-first : (s : List ℕ) (j : ℕ) → spaces s ≡ suc j → starts_with 123 s ≡ false
unfolding spaces run starts_with
spaced-first [] j q = refl
spaced-first (b ∷ bs) j q = by_case (eqb b 32) (λ r. rw (eqb-true b 32 r) refl) (λ r. absurd (omega (arith, rw (r, run) at q)))

-- the byte behind the spaces is no space
pub behind-spaces : (s : List ℕ) (c : ℕ) (cs : List ℕ) → drop (spaces s) s ≡ c ∷ cs → eqb c 32 ≡ false
unfolding spaces run
behind-spaces [] c cs d = let y : ◌≡◌ {A = ℕ} 0 1 = cc in absurd (omega arith)
behind-spaces (b ∷ bs) c cs d =
    by_case (eqb b 32) (λ q. behind-spaces bs c cs (rw (q, run) at d))
    (λ q. let z : b ∷ bs ≡ c ∷ cs = rw (q, run) at d in let y : b ≡ c = cc in ap (λ x. eqb x 32) (sym y) ∙ q)

-- the state behind a placeable
unfoldable place_state : State → List Mark → ℕ → State
place_state st ms k =
    record {
      role = continuation;
      elements = st.elements ++ (Pattern.placeable (move_up st.used ms) ∷ []);
      kept = suc (length st.elements);
      common = elim (is_line_start st.role) [ true ↦ some 0 | false ↦ st.common ];
      used = st.used + k;
    }

module _ (sub₁ : Pattern.Inside) (sub₂ : Grammar.Inside) (takes : (s : List ℕ) → Takes (sub₁.braced s))
    (agree : Agree sub₁ sub₂) (src : List ℕ) (k₀ : ℕ) where
  loop : State → List ℕ → Out State
  loop st s = repeat (pattern_turn sub₁) st s

  -- where a state stands
  pub record At (st : State) (p : ℕ) (s : List ℕ) : Type 0 where
    pub used : st.used ≡ k₀ + p
    pub here : drop (k₀ + p) src ≡ s

  abbrev pub Text-claim : State → ℕ → List ℕ → Type 0
  Text-claim st p s = Rel (λ st' rs. Common src k₀ st st' rs × Content src k₀ p st st' rs) (repeat (pattern_turn sub₁) st s) (tail sub₂ s)

  abbrev pub Line-claim : State → ℕ → List ℕ → Type 0
  Line-claim st p s =
      Rel (λ st' rs. Common src k₀ st st' rs × Line-content src k₀ p st st' rs) (repeat (pattern_turn sub₁) st s)
      (line_tail sub₂ s)

  -- what holds of all that is shorter
  pub record Shorter (n : ℕ) : Type 0 where
    pub texts : (st : State) (p : ℕ) (s : List ℕ) → length s < n → At st p s → is_line_start st.role ≡ false → Text-claim st p s
    pub lines : (st : State) (p : ℕ) (s : List ℕ) → length s < n → At st p s → is_line_start st.role ≡ true
        → eol (drop (spaces s) s) ≡ 0 → Line-claim st p s

  here-drop : (st : State) (p k : ℕ) (s : List ℕ) → At st p s → drop (k₀ + (p + k)) src ≡ drop k s
  here-drop st p k s at = sym (ap (drop k) (sym at.here) ∙ drop-drop k (k₀ + p) src ∙ ap (λ j. drop j src) (add_assoc k₀ p k))

  at_drop : (st st₁ : State) (p k : ℕ) (s : List ℕ) → At st p s → st₁.used ≡ st.used + k → At st₁ (p + k) (drop k s)
  at_drop st st₁ p k s at q = record { used = omega (arith, at.used); here = here-drop st p k s at }

  -- what a text of m bytes behind i spaces adds, with what follows it
  Text-grown : State → ℕ → ℕ → ℕ → Bool → State → List Raw → Type 0
  Text-grown st p i m l st' rs = Common src k₀ st st' rs × ((more : List Raw) × (rs ≡ text_raws l i m more))
      × ((Live src k₀ st st' (made p rs)) ⊎
      ((rs ≡ text_raws l i m []) × (all is_space (take m (drop (k₀ + (p + i)) src)) ≡ true) × Idle src k₀ st st'))

  -- a placeable
  Placed : ℕ → State → State → List Raw → Type 0
  Placed p st st' rs = (ms : List Mark) × (k : ℕ) × (more : List Raw) × (rs ≡ placeable ms k ∷ more) × Live src k₀ st st' (made p rs)

  module _ (n : ℕ) (ih : Shorter n) where
    no_block : (t : List ℕ) → blank-block (123 ∷ t) ≡ fails
    unfolding line_ends eol spaces run
    no_block t = block-fails (123 ∷ t) refl

    place-claim : (st : State) (p : ℕ) (t : List ℕ) → At st p (123 ∷ t) → length t < n
        → Rel (λ st' rs. (st'.common ≡ both (place_state st [] 0).common (common rust rs)) × Placed p st st' rs)
        (loop st (123 ∷ t)) (tail sub₂ (123 ∷ t))
    unfolding loop place_state with_placeable wrap Placed common text_run is_text_at is_text_byte closed line_ends eol is_line_start
    place-claim st p t at l = go (sub₁.braced (123 ∷ t)) refl (takes (123 ∷ t)) (agree.placeables (123 ∷ t))
      where
        G : State → List Raw → Type 0
        G st' rs = (st'.common ≡ both (place_state st [] 0).common (common rust rs)) × Placed p st st' rs

        go : (o : Out (Unit {0})) → sub₁.braced (123 ∷ t) ≡ o → Takes o
            → Same nothing (wrap 13 (sub₁.braced (123 ∷ t))) (sub₂.inline-placeable (123 ∷ t))
            → Rel G (loop st (123 ∷ t)) (tail sub₂ (123 ∷ t))
        go (ok u ms k) e z h =
            let s : List ℕ = 123 ∷ t in
            let st₁ = place_state st ms k in
            let q : pattern_turn sub₁ st (123 ∷ t) ≡ again (place_state st ms k) [] k = turn-brace sub₁ st t ∙ ap (with_placeable st) e in
            let f : sub₂.inline-placeable (123 ∷ t) ≡ fits tt (node 13 ms) k = rw e at h in
            let a : At (place_state st ms k) (p + k) (drop k (123 ∷ t)) = at_drop st st₁ p k (123 ∷ t) at refl in
            rw (
              repeat-again (pattern_turn sub₁) (turn-shrinks sub₁ takes) st s st₁ [] k q,
              tail-again sub₂ agree.no-brace s (placeable (node 13 ms) k ∷ []) k
                  (element-placeable sub₂ agree.no-brace s refl (no_block t) f) z,
            )
            (rel-step (λ st' rs. Common src k₀ st₁ st' rs × Content src k₀ (p + k) st₁ st' rs) G
            (λ more. placeable (node 13 ms) k ∷ more) k k refl
            (λ st' rs x. (x.0, (node 13 ms, k, rs, refl, place-grows src k₀ st st₁ st' p k ms rs at.used refl refl x.1)))
            (repeat (pattern_turn sub₁) st₁ (drop k s)) (tail sub₂ (drop k s))
            (ih.texts st₁ (p + k) (drop k s) (omega (arith, length-drop k s)) a refl))
        go (bad f k) e z h =
            let b : sub₂.inline-placeable (123 ∷ t) ≡ fails = rw e at h in
            rw (
              repeat-done (pattern_turn sub₁) st (123 ∷ t) (bad f k) (turn-brace sub₁ st t ∙ ap (with_placeable st) e),
              tail_none sub₂ agree.no-brace (123 ∷ t)
                  (element-none sub₂ agree.no-brace (123 ∷ t) refl (no_block t) b),
              closing-fails (123 ∷ t) refl,
            ) tt
        go (deep k) e z h = rw (repeat-done (pattern_turn sub₁) st (123 ∷ t) (deep k) (turn-brace sub₁ st t ∙ ap (with_placeable st) e)) tt

    -- a text of m bytes behind i spaces, and what follows it; l says whether it starts its line
    module _ (st : State) (p i m : ℕ) (l : Bool) (s : List ℕ) (at : At st p s) (role-is : is_line_start st.role ≡ l)
        (z : Indented l i) (h : 0 < m) (short : length s ≤ n)
        (run_is : text_run (drop i s) ≡ m) (turn_is : pattern_turn sub₁ st s ≡ with_text st i (get_text_slice (drop i s)))
        (visible : l ≡ true → is_blank (take m (drop i s)) ≡ false) where
      slice_of : ℕ → Pattern.Ending → Slice
      slice_of size ending = record { size = size; blank = is_blank (take m (drop i s)); ending = ending }

      behind-indent : drop (k₀ + (p + i)) src ≡ drop i s
      behind-indent = here-drop st p i s at

      behind-text : drop (k₀ + (p + i + m)) src ≡ drop m (drop i s)
      behind-text = sym (ap (drop m) (sym behind-indent) ∙ drop-drop m (k₀ + (p + i)) src ∙ ap (λ j. drop j src) (add_assoc k₀ (p + i) m))

      is-visible : (size : ℕ) (e : Pattern.Ending) → (not (is_line_start st.role) || not (slice_of size e).blank) ≡ true
      unfolding slice_of
      is-visible size e = go l role-is visible
        where
          go : (l : Bool) → is_line_start st.role ≡ l → (l ≡ true → is_blank (take m (drop i s)) ≡ false)
              → (not (is_line_start st.role) || not (is_blank (take m (drop i s)))) ≡ true
          go true r v = rw (r, v refl) refl
          go false r v = rw r refl

      -- where the element ends: with its newline or without
      Tills : ℕ → ℕ → Type 0
      Tills size till =
          ((size ≡ m) × (till ≡ p + i + m)) ⊎
          ((size ≡ m + 1) × (till ≡ p + i + m + 1) × ((r : List ℕ) × (drop (k₀ + (p + i + m)) src ≡ 10 ∷ r)))

      step_of : (size k till : ℕ) (e : Pattern.Ending) → Tills size till
          → Text-step src k₀ st (text_state st i (slice_of size e) k) l p i m till
      unfolding Tills slice_of is_blank is_space
      step_of size k till e d = text-step src k₀ st (text_state st i (slice_of size e) k) l p i m (st.used + i + size) till at.used z h
          (text-elements st i k (slice_of size e) (positive d)
          (is-element st i k (slice_of size e) (positive d) (is-visible size e))
          ∙ rw role-is refl)
          (reach d)
          (is_blank (take m (drop i s))) (rw behind-indent refl) (λ q. blank-kept st i k (slice_of size e) q)
          (λ q. text-kept st i k (slice_of size e) (positive d)
          (is-element st i k (slice_of size e) (positive d) (is-visible size e)) q)
          (ends d)
        where
          positive : Tills size till → 0 < size
          positive (inl x) = omega (arith, x.0)
          positive (inr x) = omega (arith, x.0)

          reach : Tills size till → st.used + i + size ≡ k₀ + till
          reach (inl x) = omega (arith, x.0, x.1, at.used)
          reach (inr x) = omega (arith, x.0, x.1, at.used)

          ends : Tills size till → (till ≡ p + i + m) ⊎ ((till ≡ p + i + m + 1) × ((r : List ℕ) × (drop (k₀ + (p + i + m)) src ≡ 10 ∷ r)))
          ends (inl x) = inl x.1
          ends (inr x) = inr (x.1, x.2)

      common-up : (size k till : ℕ) (e : Pattern.Ending) → Tills size till → (st' : State) (rs : List Raw)
          → Common src k₀ (text_state st i (slice_of size e) k) st' rs → Common src k₀ st st' (text_raws l i m rs)
      unfolding Tills slice_of
      common-up size k till e d st' rs c = go l role-is visible
        where
          positive : Tills size till → 0 < size
          positive (inl x) = omega (arith, x.0)
          positive (inr x) = omega (arith, x.0)

          go : (l : Bool) → is_line_start st.role ≡ l → (l ≡ true → is_blank (take m (drop i s)) ≡ false)
              → Common src k₀ st st' (text_raws l i m rs)
          go true r v = unfold text_raws common in
              (c ∙ ap (λ x. both x (common rust rs)) (text-common st i k (slice_of size e) (positive d) r (v refl))
              ∙ both-least st.common i (common rust rs))
          go false r v = unfold text_raws common in (c ∙ ap (λ x. both x (common rust rs)) (inline-common st i k (slice_of size e) r))

      -- what follows the text, seen from the state behind it
      Followed : State → State → List Raw → Type 0
      Followed st₁ st' rs = Common src k₀ st₁ st' rs × (((rs ≡ []) × Idle src k₀ st₁ st') ⊎ Live src k₀ st st' (made p (text_raws l i m rs)))

      followed : (size k till : ℕ) (e : Pattern.Ending) → Tills size till → (st' : State) (rs : List Raw)
          → Followed (text_state st i (slice_of size e) k) st' rs → (Text-grown st p i m l) st' (text_raws l i m rs)
      unfolding Followed Text-grown
      followed size k till e d st' rs (c, f) = (common-up size k till e d st' rs c, (rs, refl), go f)
        where
          Wanted : Type 0
          Wanted =
              (Live src k₀ st st' (made p (text_raws l i m rs))) ⊎
              ((text_raws l i m rs ≡ text_raws l i m []) × (all is_space (take m (drop (k₀ + (p + i)) src)) ≡ true)
              × Idle src k₀ st st')

          last : rs ≡ []
              → (Live src k₀ st st' (made p (text_raws l i m []))) ⊎
              ((all is_space (take m (drop (k₀ + (p + i)) src)) ≡ true) × Idle src k₀ st st')
              → Wanted
          last q (inl x) = inl (rw q x)
          last q (inr x) = inr (ap (text_raws l i m) q, x.0, x.1)

          go : ((rs ≡ []) × Idle src k₀ (text_state st i (slice_of size e) k) st') ⊎ Live src k₀ st st' (made p (text_raws l i m rs)) → Wanted
          go (inl x) = last x.0 (text-last src k₀ (step_of size k till e d) z h x.1)
          go (inr x) = inl x

      -- the slice, and the loop from it on
      slice-here : {r : List ℕ} (x : Sign r) → drop m (drop i s) ≡ r → get_text_slice (drop i s) ≡ slice_at m (is_blank (take m (drop i s))) x
      slice-here {r} x d =
          subst
          (λ k. drop k (drop i s) ≡ r → get_text_slice (drop i s) ≡ slice_at k (is_blank (take k (drop i s))) x) run_is
          (slice_is (drop i s) x) d

      text-reads : {r : List ℕ} (x : Sign r) → drop m (drop i s) ≡ r → (size k : ℕ) (e : Pattern.Ending)
          → slice_at m (is_blank (take m (drop i s))) x ≡ ok (slice_of size e) [] k
          → loop st s ≡ Reader.after [] (i + k) (loop (text_state st i (slice_of size e) k) (drop (i + k) s))
      unfolding loop
      text-reads x d size k e q =
          repeat-again (pattern_turn sub₁) (turn-shrinks sub₁ takes) st s (text_state st i (slice_of size e) k) [] (i + k)
          (turn_is ∙ rw (slice-here x d, q) (text-again st i (slice_of size e) [] k))

      text-ends : drop m (drop i s) ≡ [] → Rel (Text-grown st p i m l) (loop st s) (onward (text_raws l i m) (i + m) (tail sub₂ []))
      unfolding loop slice_at slice_of Tills closed Followed common
      text-ends d =
          let st₁ = text_state st i (slice_of m eof) m in
          let r : drop (i + m) s ≡ [] = sym (drop-drop m i s) ∙ d in
          rw (
            text-reads end d m m eof refl,
            r,
            repeat-done (pattern_turn sub₁) st₁ [] (ok st₁ [] 0) (turn-nil sub₁ st₁),
            tail-nil sub₂ agree.no-brace,
          )
          (rel-step (Followed st₁) (Text-grown st p i m l) (text_raws l i m) (i + m) (i + m) refl
          (followed m m (p + i + m) eof (inl (refl, refl))) (ok st₁ [] 0) (fits [] [] 0)
          (refl, refl, (sym (both-none st₁.common), inl (refl, idle-same src k₀ st₁))))

      text-closes : (t : List ℕ) → drop m (drop i s) ≡ 125 ∷ t
          → Rel (Text-grown st p i m l) (loop st s) (onward (text_raws l i m) (i + m) (tail sub₂ (125 ∷ t)))
      unfolding loop slice_at with_text Reader.after onward
      text-closes t d =
          rw (
            repeat-done (pattern_turn sub₁) st s _ (turn_is ∙ ap (with_text st i) (slice-here (closes t) d)),
            tail-close sub₂ agree.no-brace t,
          ) tt

      -- the state behind the text
      at-text : (size k : ℕ) (e : Pattern.Ending) → At (text_state st i (slice_of size e) k) (p + (i + k)) (drop (i + k) s)
      unfolding text_state
      at-text size k e = at_drop st (text_state st i (slice_of size e) k) p (i + k) s at refl

      text-opens : (t : List ℕ) → drop m (drop i s) ≡ 123 ∷ t
          → Rel (Text-grown st p i m l) (loop st s) (onward (text_raws l i m) (i + m) (tail sub₂ (123 ∷ t)))
      unfolding slice_at slice_of Tills Placed place_state text_state role_after is_line_start Followed
      text-opens t d =
          let st₁ = text_state st i (slice_of m placeable_start) m in
          let r : drop (i + m) s ≡ 123 ∷ t = sym (drop-drop m i s) ∙ d in
          let a : At st₁ (p + i + m) (123 ∷ t) =
          subst (λ q. At st₁ q (123 ∷ t)) (sym (add_assoc p i m))
          (subst (At st₁ (p + (i + m))) r (at-text m m placeable_start)) in
          rw (text-reads (opens t) d m m placeable_start refl, r)
          (rel-step (λ st' rs. (st'.common ≡ both st₁.common (common rust rs)) × Placed (p + i + m) st₁ st' rs)
          (Text-grown st p i m l) (text_raws l i m) (i + m) (i + m) refl
          (λ st' rs x. followed m m (p + i + m) placeable_start (inl (refl, refl)) st' rs (x.0, inr (put st' rs x.1)))
          (loop st₁ (123 ∷ t)) (tail sub₂ (123 ∷ t)) (place-claim st₁ (p + i + m) t a (omega (arith, ap length r, length-drop (i + m) s))))
        where
          put : (st' : State) (rs : List Raw) → Placed (p + i + m) (text_state st i (slice_of m placeable_start) m) st' rs
              → Live src k₀ st st' (made p (text_raws l i m rs))
          put st' rs (ms, k, more, q, x) =
              rw q
              (text-brace src k₀ (step_of m m (p + i + m) placeable_start (inl (refl, refl))) z h ms k more refl
              (rw q at x))

      -- line ends L behind the text, of which the reading takes up to k bytes with it, and v more of s₁ as blank lines
      text-line-ends : (size k till v w : ℕ) (e : Pattern.Ending) (s₁ r : List ℕ) (L : List Line)
          (g : Option ℕ → List Element → List Element) (d : Tills size till)
          → Ended L
          → loop st s ≡ Reader.after [] (i + k) (loop (text_state st i (slice_of size e) k) s₁) → drop (i + k) s ≡ s₁ → length s₁ < n
          → (b : Blanked sub₁ takes src k₀ (text_state st i (slice_of size e) k) (p + (i + k)) s₁ v g)
          → eol (drop (spaces (drop v s₁)) (drop v s₁)) ≡ 0
          → ((c : Option ℕ) (es : List Element)
          → onto rust false (from_at l p i c) (p + i + m) (feeds c (p + i + m) L es) ≡ joined
          (run_of (from_at l p i c) till) []
          ∷ g c es)
          → tail sub₂ r ≡ onward (behind L) w (line_tail sub₂ (drop v s₁)) → k + v ≡ m + w → width L ≡ w
          → Rel (Text-grown st p i m l) (loop st s) (onward (text_raws l i m) (i + m) (tail sub₂ r))
      unfolding Followed behind common loop move_up
      text-line-ends size k till v w e s₁ r L g d en reads eq pos b stops glue tl num wid =
          rw (
            reads,
            b.reads,
            after-after [] (i + k) [] v (repeat (pattern_turn sub₁) b.state (drop v s₁)),
            tl,
            onward-onward (text_raws l i m) (behind L) (i + m) w (line_tail sub₂ (drop v s₁)),
          )
          (rel-step
          (λ st' rs. Common src k₀ b.state st' rs × Line-content src k₀ (p + (i + k) + v) b.state st' rs)
          (Text-grown st p i m l) (λ rs. text_raws l i m (behind L rs)) (i + k + v) (i + m + w) (omega arith)
          (λ st' rs x. go st' rs x.0 x.1)
          (repeat (pattern_turn sub₁) b.state (drop v s₁)) (line_tail sub₂ (drop v s₁))
          (ih.lines b.state (p + (i + k) + v) (drop v s₁) (omega (arith, length-drop v s₁))
          (record {
            used = b.used;
            here =
                here-drop (text_state st i (slice_of size e) k) (p + (i + k)) v s₁
                (subst (At (text_state st i (slice_of size e) k) (p + (i + k))) eq (at-text size k e));
          })
          b.role stops))
        where
          numbers : p + (i + k) + v ≡ p + i + m + width L
          numbers = omega arith

          go : (st' : State) (rs : List Raw) → Common src k₀ b.state st' rs
              → Line-content src k₀ (p + (i + k) + v) b.state st' rs
              → (Text-grown st p i m l) st' (text_raws l i m (behind L rs))
          go st' rs c (Line-content.nothing q x) =
              rw q (followed size k till e d st' [] ((rw (q, b.common) at c), inl (refl, b.passed.idle x)))
          go st' rs c (Line-content.something r more q x) =
              rw q
              (followed size k till e d st' (lines L ∷ r ∷ more) (
                (rw (q, b.common) at c),
                inr
                    (text-lines src k₀ (step_of size k till e d) z h L g (r ∷ more) en glue b.passed
                    (rw (q, numbers) at x)),
              ))

      text-lf : (t : List ℕ) → drop m (drop i s) ≡ 10 ∷ t
          → Rel (Text-grown st p i m l) (loop st s) (onward (text_raws l i m) (i + m) (tail sub₂ (10 ∷ t)))
      unfolding slice_at slice_of Tills text_state role_after is_line_start width
      text-lf t d =
          let (ls, u, b) = block_of t in
          let eq : drop (i + (m + 1)) s ≡ t = sym (drop-drop (m + 1) i s) ∙ next-drop m (drop i s) 10 t d in
          let st₁ = text_state st i (slice_of (m + 1) line_feed) (m + 1) in
          let w : p + i + m + 1 ≡ p + (i + (m + 1)) = omega arith in
          text-line-ends (m + 1) (m + 1) (p + i + m + 1) u (1 + u) line_feed t (10 ∷ t)
          (record { spaces = 0; ending = 1 } ∷ ls) (λ c es. feeds c (p + (i + (m + 1))) ls es)
          (inr (refl, refl, (t, behind-text ∙ d))) (omega arith, block-ended b)
          (text-reads (lf t) d (m + 1) (m + 1) line_feed refl ∙ rw eq refl) eq
          (omega (arith, ap length d, length-drop m (drop i s), length-drop i s))
          (block-passes sub₁ takes src k₀ st₁ (p + (i + (m + 1))) refl (at-text (m + 1) (m + 1) line_feed).used b) (block-stops b)
          (λ c es. onto-lf c (from_at l p i c) (p + i + m) ls es
          ∙ ap (λ k. joined (run_of (from_at l p i c) (p + i + m + 1)) [] ∷ feeds c k ls es) w)
          (tail-lf sub₂ agree.no-brace t b) (omega arith) (ap (λ k. 1 + k) (block-width b))

      text-crlf : (t : List ℕ) → drop m (drop i s) ≡ 13 ∷ 10 ∷ t
          → Rel (Text-grown st p i m l) (loop st s) (onward (text_raws l i m) (i + m) (tail sub₂ (13 ∷ 10 ∷ t)))
      unfolding slice_at slice_of Tills text_state role_after is_line_start width
      text-crlf t d =
          let (ls, u, b) = block_of t in
          let eq : drop (i + (m + 1)) s ≡ 10 ∷ t = sym (drop-drop (m + 1) i s) ∙ next-drop m (drop i s) 13 (10 ∷ t) d in
          let st₁ = text_state st i (slice_of m crlf) (m + 1) in
          let w : p + i + m + 1 ≡ p + (i + (m + 1)) = omega arith in
          text-line-ends m (m + 1) (p + i + m) (1 + u) (2 + u) crlf (10 ∷ t) (13 ∷ 10 ∷ t)
          (record { spaces = 0; ending = 2 } ∷ ls)
          (λ c es. feeds c (p + (i + (m + 1))) (record { spaces = 0; ending = 1 } ∷ ls) es) (inl (refl, refl))
          (omega arith, block-ended b)
          (text-reads (cr-lf t) d m (m + 1) crlf refl ∙ rw eq refl) eq
          (omega (arith, ap length d, length-drop m (drop i s), length-drop i s))
          (block-passes sub₁ takes src k₀ st₁ (p + (i + (m + 1))) refl (at-text m (m + 1) crlf).used (lf-block t b))
          (block-stops (lf-block t b))
          (λ c es. ap (onto rust false (from_at l p i c) (p + i + m))
          (feeds-crlf c (p + i + m) ls es ∙ ap (λ k. feeds c k (record { spaces = 0; ending = 1 } ∷ ls) es) w)
          ∙ onto-later c (from_at l p i c) (p + i + m) (p + (i + (m + 1))) ls es (omega arith))
          (tail-crlf sub₂ agree.no-brace t b ∙ rw (drop-drop u 1 (10 ∷ t)) refl) (omega arith) (ap (λ k. 2 + k) (block-width b))

      text-follow : {r : List ℕ} → Sign r → drop m (drop i s) ≡ r
          → Rel (Text-grown st p i m l) (loop st s) (onward (text_raws l i m) (i + m) (tail sub₂ r))
      text-follow end d = text-ends d
      text-follow (lf t) d = text-lf t d
      text-follow (cr-lf t) d = text-crlf t d
      text-follow (opens t) d = text-opens t d
      text-follow (closes t) d = text-closes t d
      text-follow (plain b t x y w v) d = let o : text_run (b ∷ t) ≡ 0 = rw (run_is, d) at (run-over (drop i s)) in
          absurd (omega (arith, run-plain b t x y w v))

    -- line ends with no text before them: the reading takes a byte, then v more of s₁ as blank lines
    ends-claim : (st st₁ : State) (p v w : ℕ) (s s₁ : List ℕ) (L : List Line)
        (f g : Option ℕ → List Element → List Element)
        → Ended L → loop st s ≡ Reader.after [] 1 (loop st₁ s₁) → length s₁ < n → At st₁ (p + 1) s₁
        → st₁.common ≡ st.common → Passed src k₀ st st₁ f → (b : Blanked sub₁ takes src k₀ st₁ (p + 1) s₁ v g)
        → eol (drop (spaces (drop v s₁)) (drop v s₁)) ≡ 0
        → ((c : Option ℕ) (es : List Element) → feeds c p L es ≡ f c (g c es))
        → tail sub₂ s ≡ onward (behind L) w (line_tail sub₂ (drop v s₁)) → 1 + v ≡ w → width L ≡ w
        → Text-claim st p s
    unfolding behind common loop move_up
    ends-claim st st₁ p v w s s₁ L f g en reads short at same ps b stops glue tl num wid =
        rw (reads, b.reads, after-after [] 1 [] v (repeat (pattern_turn sub₁) b.state (drop v s₁)), tl)
        (rel-step (λ st' rs. Common src k₀ b.state st' rs × Line-content src k₀ (p + 1 + v) b.state st' rs)
        (λ st' rs. Common src k₀ st st' rs × Content src k₀ p st st' rs) (behind L) (1 + v) w num
        (λ st' rs x. go st' rs x.0 x.1)
        (repeat (pattern_turn sub₁) b.state (drop v s₁)) (line_tail sub₂ (drop v s₁))
        (ih.lines b.state (p + 1 + v) (drop v s₁) (omega (arith, length-drop v s₁))
        (record { used = b.used; here = here-drop st₁ (p + 1) v s₁ at }) b.role stops))
      where
        numbers : p + 1 + v ≡ p + width L
        numbers = omega arith

        go : (st' : State) (rs : List Raw) → Common src k₀ b.state st' rs
            → Line-content src k₀ (p + 1 + v) b.state st' rs → Common src k₀ st st' (behind L rs)
            × Content src k₀ p st st' (behind L rs)
        go st' rs c (Line-content.nothing q x) = rw q ((rw (q, b.common, same) at c), Content.nothing refl (ps.idle (b.passed.idle x)))
        go st' rs c (Line-content.something r more q x) =
            rw q (
              (rw (q, b.common, same) at c),
              Content.something
                  (lines-grow src k₀ st b.state st' p L (λ c es. f c (g c es)) (r ∷ more) en glue
                  (passed_then src k₀ st st₁ b.state f g ps b.passed) (rw (q, numbers) at x)),
            )

    feed-passes : (st : State) (p : ℕ) → st.used ≡ k₀ + p → is_line_start st.role ≡ false
        → Passed src k₀ st (text_state st 0 feed_slice 1) (λ c es. joined (run_of p (p + 1)) [] ∷ es)
    unfolding is_element Pattern.dedented
    feed-passes st p q r =
        let e : is_element st feed_slice ≡ true = rw r refl in
        passed-one src k₀ st (text_state st 0 feed_slice 1) (Pattern.text st.used (st.used + 0 + 1) 0 false)
        (λ c. joined (run_of p (p + 1)) []) (text-elements st 0 1 feed_slice (omega arith) e ∙ rw r refl)
        (blank-kept st 0 1 feed_slice refl) (λ c. (refl, q, omega arith))

    inline-lf : (st : State) (p : ℕ) (t : List ℕ) → At st p (10 ∷ t) → length t < n → is_line_start st.role ≡ false
        → Text-claim st p (10 ∷ t)
    unfolding loop text_state role_after is_line_start width
    inline-lf st p t at short r =
        let (ls, u, b) = block_of t in
        let st₁ = text_state st 0 feed_slice 1 in
        let a : At st₁ (p + 1) t = at_drop st st₁ p 1 (10 ∷ t) at (ap (λ k. st.used + k) refl) in
        ends-claim st st₁ p u (1 + u) (10 ∷ t) t (record { spaces = 0; ending = 1 } ∷ ls)
        (λ c es. joined (run_of p (p + 1)) [] ∷ es) (λ c es. feeds c (p + 1) ls es) (omega arith, block-ended b)
        (repeat-again (pattern_turn sub₁) (turn-shrinks sub₁ takes) st (10 ∷ t) st₁ [] 1
        (turn-text sub₁ st 10 t refl r ∙ rw (slice-lf t) (text-again st 0 feed_slice [] 1))) short a
        (inline-common st 0 1 feed_slice r) (feed-passes st p at.used r)
        (block-passes sub₁ takes src k₀ st₁ (p + 1) refl a.used b) (block-stops b) (λ c es. feeds-lf c p ls es)
        (tail-lf sub₂ agree.no-brace t b) refl (ap (λ k. 1 + k) (block-width b))

    inline-crlf : (st : State) (p : ℕ) (t : List ℕ) → At st p (13 ∷ 10 ∷ t) → length (10 ∷ t) < n
        → is_line_start st.role ≡ false → Text-claim st p (13 ∷ 10 ∷ t)
    unfolding loop text_state role_after is_line_start width is_element
    inline-crlf st p t at short r =
        let (ls, u, b) = block_of t in
        let st₁ = text_state st 0 cr_slice 1 in
        let a : At st₁ (p + 1) (10 ∷ t) = at_drop st st₁ p 1 (13 ∷ 10 ∷ t) at (ap (λ k. st.used + k) refl) in
        ends-claim st st₁ p (1 + u) (2 + u) (13 ∷ 10 ∷ t) (10 ∷ t) (record { spaces = 0; ending = 2 } ∷ ls) (λ c es. es)
        (λ c es. feeds c (p + 1) (record { spaces = 0; ending = 1 } ∷ ls) es) (omega arith, block-ended b)
        (repeat-again (pattern_turn sub₁) (turn-shrinks sub₁ takes) st (13 ∷ 10 ∷ t) st₁ [] 1
        (turn-text sub₁ st 13 (10 ∷ t) refl r ∙ rw (slice-crlf t) (text-again st 0 cr_slice [] 1))) short a
        (inline-common st 0 1 cr_slice r) (passed_none src k₀ st st₁ refl (blank-kept st 0 1 cr_slice refl))
        (block-passes sub₁ takes src k₀ st₁ (p + 1) refl a.used (lf-block t b)) (block-stops (lf-block t b))
        (λ c es. feeds-crlf c p ls es)
        (tail-crlf sub₂ agree.no-brace t b ∙ rw (drop-drop u 1 (10 ∷ t)) refl) (omega arith) (ap (λ k. 2 + k) (block-width b))

    place-common : (st : State) → is_line_start st.role ≡ false → (place_state st [] 0).common ≡ st.common
    unfolding place_state
    place-common st r = rw (r, place_state) refl

    place-start : (st : State) → is_line_start st.role ≡ true → (place_state st [] 0).common ≡ some 0
    unfolding place_state
    place-start st r = rw (r, place_state) refl

    -- texts: claim by claim
    text-claim : (st : State) (p : ℕ) (s : List ℕ) → length s < suc n → At st p s → is_line_start st.role ≡ false → Text-claim st p s
    unfolding common loop Placed slice_at text_run is_text_at is_text_byte with_text Reader.after text_raws Text-grown
    text-claim st p s short at r = go (sign_of s) short at
      where
        go : {s : List ℕ} → Sign s → length s < suc n → At st p s
            → Rel (λ st' rs. Common src k₀ st st' rs × Content src k₀ p st st' rs) (repeat (pattern_turn sub₁) st s)
            (tail sub₂ s)
        go end short at =
            rw (repeat-done (pattern_turn sub₁) st [] (ok st [] 0) (turn-nil sub₁ st), tail-nil sub₂ agree.no-brace)
            (refl, refl, (sym (both-none st.common), Content.nothing refl (idle-same src k₀ st)))
        go (lf t) short at = inline-lf st p t at (omega arith) r
        go (cr-lf t) short at = inline-crlf st p t at (omega arith) r
        go (opens t) short at =
            rel_map (λ st' rs. (st'.common ≡ both (place_state st [] 0).common (common rust rs)) × Placed p st st' rs)
            (λ st' rs. Common src k₀ st st' rs × Content src k₀ p st st' rs)
            (λ st' rs x. (rw (place-common st r) at x.0, Content.something x.1.4)) (loop st (123 ∷ t))
            (tail sub₂ (123 ∷ t)) (place-claim st p t at (omega arith))
        go (closes t) short at =
            rw (
              repeat-done (pattern_turn sub₁) st (125 ∷ t) _
                  (turn-text sub₁ st 125 t refl r ∙ ap (with_text st 0) (slice_is (125 ∷ t) (closes t) refl)),
              tail-close sub₂ agree.no-brace t,
            ) tt
        go (plain b t x y w v) short at =
            let m = suc (text_run t) in
            let e : text_run (b ∷ t) ≡ suc (text_run t) = run-plain b t x y w v in
            rw
            (tail-again sub₂ agree.no-brace (b ∷ t) (text m ∷ []) m
            (element-text sub₂ agree.no-brace (b ∷ t) (text_run t) e) (omega arith))
            (rel_map (Text-grown st p 0 m false) (λ st' rs. Common src k₀ st st' rs × Content src k₀ p st st' rs)
            (λ st' rs x. (x.0, content m (omega arith) st' rs x.2)) (loop st (b ∷ t))
            (onward (λ more. text m ∷ more) m (tail sub₂ (drop m (b ∷ t))))
            (subst
            (λ k. Rel (Text-grown st p 0 m false) (loop st (b ∷ t))
            (onward (λ more. text m ∷ more) k (tail sub₂ (drop m (b ∷ t)))))
            (zero-add m)
            (text-follow st p 0 m false (b ∷ t) at r refl (omega arith) (omega arith) e (turn-text sub₁ st b t y r)
            (λ q. clash {v = false} q refl) (sign_of (drop m (b ∷ t))) refl)))
          where
            content : (m : ℕ) → 0 < m → (st' : State) (rs : List Raw)
                → (Live src k₀ st st' (made p rs)) ⊎
                ((rs ≡ text_raws false 0 m []) × (all is_space (take m (drop (k₀ + (p + 0)) src)) ≡ true)
                × Idle src k₀ st st')
                → Content src k₀ p st st' rs
            content m h st' rs (inl x) = Content.something x
            content m h st' rs (inr x) = Content.blank m x.0 h (rw (add-zero p) at x.1) x.2

    -- lines: a brace behind spaces
    brace-fits : (s t : List ℕ) {u : Unit {0}} {ms : List Mark} {k : ℕ} → drop (spaces s) s ≡ 123 ∷ t
        → sub₂.inline-placeable (123 ∷ t) ≡ fits u ms k → 0 < k
        → line_tail sub₂ s ≡ onward (λ rs. brace-indent (spaces s) ∷ rs) (spaces s) (tail sub₂ (123 ∷ t))
    unfolding on_line brace_line text_run is_text_at is_text_byte
    brace-fits s t {u} {ms} {k} d e z =
        let n = spaces s in
        line-on-tail sub₂ s 123 t (brace-indent n ∷ placeable ms k ∷ []) [] (n + k) d (rw (on_line, e) refl)
        ∙ rw (
          tail-again sub₂ agree.no-brace (123 ∷ t) (placeable ms k ∷ []) k
              (element-placeable sub₂ agree.no-brace (123 ∷ t) refl (no_block t) e) z,
          onward-onward (λ rs. brace-indent n ∷ rs) (λ rs. placeable ms k ∷ rs) n k (tail sub₂ (drop k (123 ∷ t))),
        )
        (ap (λ r. onward (λ rs. brace-indent n ∷ placeable ms k ∷ rs) (n + k) (tail sub₂ r)) (sym (drop-drop k n s) ∙ ap (drop k) d))

    brace-fails : (s t : List ℕ) → drop (spaces s) s ≡ 123 ∷ t → sub₂.inline-placeable (123 ∷ t) ≡ fails
        → line_tail sub₂ s ≡ onward (λ rs. brace-indent (spaces s) ∷ rs) (spaces s) (tail sub₂ (123 ∷ t))
    unfolding on_line brace_line text_run is_text_at is_text_byte onward closed line_ends eol
    brace-fails s t d e = line-off-tail sub₂ s 123 t d (rw (on_line, e) refl)
        ∙ rw (
          tail_none sub₂ agree.no-brace (123 ∷ t) (element-none sub₂ agree.no-brace (123 ∷ t) refl (no_block t) e),
          closing-fails (123 ∷ t) refl,
        ) refl

    -- an answer of a line with a brace, unless it is too deep
    brace-line : (s t : List ℕ) (H : State → List Raw → Type 0) (o : Out State) → drop (spaces s) s ≡ 123 ∷ t
        → ((k : ℕ) → sub₁.braced (123 ∷ t) ≡ deep k → (j : ℕ) × (o ≡ deep j))
        → Rel H o (onward (λ rs. brace-indent (spaces s) ∷ rs) (spaces s) (tail sub₂ (123 ∷ t))) → Rel H o (line_tail sub₂ s)
    unfolding wrap
    brace-line s t H o d deeper x = go (sub₁.braced (123 ∷ t)) refl (takes (123 ∷ t)) (agree.placeables (123 ∷ t))
      where
        go : (b : Out (Unit {0})) → sub₁.braced (123 ∷ t) ≡ b → Takes b
            → Same nothing (wrap 13 (sub₁.braced (123 ∷ t))) (sub₂.inline-placeable (123 ∷ t))
            → Rel H o (line_tail sub₂ s)
        go (ok u ms k) e z h = rw (brace-fits s t d (rw e at h) z) x
        go (bad f k) e z h = rw (brace-fails s t d (rw e at h)) x
        go (deep k) e z h = let (j, q) = deeper k e in rw q tt

    line-brace-0 : (st : State) (p : ℕ) (t : List ℕ) → At st p (123 ∷ t) → length t < n → is_line_start st.role ≡ true
        → Line-claim st p (123 ∷ t)
    unfolding spaces run loop with_placeable Placed common place_state rust Dialect.all
    line-brace-0 st p t at short r =
        brace-line (123 ∷ t) t (λ st' rs. Common src k₀ st st' rs × Line-content src k₀ p st st' rs)
        (repeat (pattern_turn sub₁) st (123 ∷ t)) refl
        (λ k e. (k, repeat-done (pattern_turn sub₁) st (123 ∷ t) (deep k) (turn-brace sub₁ st t ∙ ap (with_placeable st) e)))
        (rel-here (λ st' rs. (st'.common ≡ both (place_state st [] 0).common (common rust rs)) × Placed p st st' rs)
        (λ st' rs. Common src k₀ st st' rs × Line-content src k₀ p st st' rs) (λ rs. brace-indent 0 ∷ rs)
        (λ st' rs x. (
          x.0 ∙ ap (λ d. both d (common rust rs)) (place-start st r)
              ∙ both_zero st.common (common rust rs),
          Line-content.something (brace-indent 0) rs refl
              (live-as src k₀ st st' (made p rs) (made p (brace-indent 0 ∷ rs))
              (λ c. sym (made-brace p 0 rs c ∙ ap (λ q. made q rs c) (add-zero p))) x.1.4),
        ))
        (loop st (123 ∷ t)) (tail sub₂ (123 ∷ t)) (place-claim st p t at short))

    brace-indents : (n : ℕ) (rs : List Raw) → common rust (brace-indent (suc n) ∷ rs) ≡ common rust rs
    unfolding common rust Dialect.all
    brace-indents n rs = rw (common, eqb-suc-zero) refl

    line-brace : (st : State) (p j : ℕ) (s t : List ℕ) → At st p s → length s < suc n → is_line_start st.role ≡ true
        → spaces s ≡ suc j → drop (spaces s) s ≡ 123 ∷ t → Line-claim st p s
    unfolding loop with_placeable Placed Reader.after text_state role_after is_line_start is_element place_state
    line-brace st p j s t at short r q d =
        let k = spaces s in
        let st₁ = text_state st k open_slice 0 in
        let e : drop (k + 0) s ≡ 123 ∷ t = ap (λ i. drop i s) (add-zero k) ∙ d in
        let reads : repeat (pattern_turn sub₁) st s ≡ Reader.after [] (k + 0) (repeat (pattern_turn sub₁) st₁ (123 ∷ t)) =
        repeat-again (pattern_turn sub₁) (turn-shrinks sub₁ takes) st s st₁ [] (k + 0)
        (turn_on sub₁ st s 123 t d (rw q (goes_on-suc j 123 ∙ (unfold is_continuation in refl)))
        (spaced-first s j q) r
        ∙ rw (slice-open t) (text-again st k open_slice [] 0))
        ∙ rw e refl in
        let a : At st₁ (p + k) (123 ∷ t) =
        subst (λ i. At st₁ (p + i) (123 ∷ t)) (add-zero k)
        (subst (At st₁ (p + (k + 0))) e (at_drop st st₁ p (k + 0) s at refl)) in
        let same : st₁.common ≡ st.common = blank-common st k 0 open_slice refl in
        let ps = passed_none src k₀ st st₁ refl (blank-kept st k 0 open_slice refl) in
        brace-line s t (λ st' rs. Common src k₀ st st' rs × Line-content src k₀ p st st' rs) (repeat (pattern_turn sub₁) st s) d
        (λ i z. (
          k + 0 + i,
          reads
              ∙ ap (Reader.after [] (k + 0))
              (repeat-done (pattern_turn sub₁) st₁ (123 ∷ t) (deep i) (turn-brace sub₁ st₁ t ∙ ap (with_placeable st₁) z)),
        ))
        (rw reads
        (rel-step
        (λ st' rs. (st'.common ≡ both (place_state st₁ [] 0).common (common rust rs)) × Placed (p + k) st₁ st' rs)
        (λ st' rs. Common src k₀ st st' rs × Line-content src k₀ p st st' rs) (λ rs. brace-indent k ∷ rs) (k + 0) k
        (add-zero k)
        (λ st' rs x. (
          x.0 ∙ ap (λ z. both z (common rust rs)) same
              ∙ ap (both st.common) (sym (ap (λ z. common rust (brace-indent z ∷ rs)) q ∙ brace-indents j rs)),
          Line-content.something (brace-indent k) rs refl
              (live-as src k₀ st st' (made (p + k) rs) (made p (brace-indent k ∷ rs)) (λ c. sym (made-brace p k rs c))
              (ps.live x.1.4)),
        ))
        (loop st₁ (123 ∷ t)) (tail sub₂ (123 ∷ t)) (place-claim st₁ (p + k) t a (omega (arith, ap length d, length-drop k s)))))

    -- a line that does not go on, or the end
    line-stops : (st : State) (p : ℕ) (s : List ℕ) (k : ℕ) → repeat (pattern_turn sub₁) st s ≡ ok st [] k
        → line_tail sub₂ s ≡ fits [] [] k → Line-claim st p s
    unfolding common
    line-stops st p s k e f = rw (e, f) (refl, refl, (sym (both-none st.common), Line-content.nothing refl (idle-same src k₀ st)))

    end-first : (s : List ℕ) → drop (spaces s) s ≡ [] → starts_with 123 s ≡ false
    unfolding spaces run starts_with
    end-first [] d = refl
    end-first (b ∷ bs) d =
        by_case (eqb b 123)
        (λ r. let z : b ∷ bs ≡ [] = rw (run, other b r) at d in let y : ◌≡◌ {A = ℕ} 0 1 = cc in absurd (omega arith))
        (λ r. r)
      where
        other : (b : ℕ) → eqb b 123 ≡ true → eqb b 32 ≡ false
        other b r = rw (eqb-true b 123 r) refl

    line-end-claim : (st : State) (p : ℕ) (s : List ℕ) → is_line_start st.role ≡ true → drop (spaces s) s ≡ [] → Line-claim st p s
    unfolding spaces run
    line-end-claim st p [] r d =
        line-stops st p [] 0 (repeat-done (pattern_turn sub₁) st [] (ok st [] 0) (turn-nil sub₁ st))
        (line-end-tail sub₂ [] refl)
    line-end-claim st p (b ∷ bs) r d =
        line-stops st p (b ∷ bs) (spaces (b ∷ bs))
        (repeat-done (pattern_turn sub₁) st (b ∷ bs) (ok st [] (spaces (b ∷ bs)))
        (turn_end sub₁ st (b ∷ bs) d (end-first (b ∷ bs) d) (omega arith) r))
        (line-end-tail sub₂ (b ∷ bs) d)

    line_on : (st : State) (p : ℕ) (s : List ℕ) (c : ℕ) (cs : List ℕ) → At st p s → length s < suc n
        → is_line_start st.role ≡ true → drop (spaces s) s ≡ c ∷ cs → eol (c ∷ cs) ≡ 0 → eqb c 123 ≡ false
        → goes_on (spaces s) c ≡ true → Line-claim st p s
    unfolding loop on_line text_raws Text-grown is_space is_blank
    line_on st p s c cs at short r d e q g =
        let k = spaces s in
        let m = suc (text_run cs) in
        let run_is : text_run (c ∷ cs) ≡ suc (text_run cs) = run_on k c cs e q g in
        let vis : is_blank (take m (drop k s)) ≡ false = rw d (unfold is_blank all in (rw (behind-spaces s c cs d) refl)) in
        rw (line-on-tail sub₂ s c cs (indent k ∷ text m ∷ []) [] (k + m) d (rw (on_line, q, g, run_is) refl))
        (rel_map (Text-grown st p k m true) (λ st' rs. Common src k₀ st st' rs × Line-content src k₀ p st st' rs)
        (λ st' rs x. (x.0, content m st' rs (rw (here-drop st p k s at) vis) x.1 x.2)) (loop st s)
        (onward (λ more. indent k ∷ text m ∷ more) (k + m) (tail sub₂ (drop (k + m) s)))
        (subst
        (λ z. Rel (Text-grown st p k m true) (loop st s)
        (onward (λ more. indent k ∷ text m ∷ more) (k + m) (tail sub₂ z)))
        (drop-drop m k s)
        (text-follow st p k m true s at r tt (omega arith) (omega arith) (ap text_run d ∙ run_is)
        (turn_on sub₁ st s c cs d g (no-brace-first s c cs d q) r ∙ rw d refl) (λ z. vis)
        (sign_of (drop m (drop k s))) refl)))
      where
        content : (m : ℕ) (st' : State) (rs : List Raw) → all is_space (take m (drop (k₀ + (p + spaces s)) src)) ≡ false
            → ((more : List Raw) × (rs ≡ text_raws true (spaces s) m more))
            → (Live src k₀ st st' (made p rs)) ⊎
            ((rs ≡ text_raws true (spaces s) m []) × (all is_space (take m (drop (k₀ + (p + spaces s)) src)) ≡ true)
            × Idle src k₀ st st')
            → Line-content src k₀ p st st' rs
        content m st' rs v (more, w) (inl x) = Line-content.something (indent (spaces s)) (text m ∷ more) w x
        content m st' rs v w (inr x) = clash x.1 v

    line-claim : (st : State) (p : ℕ) (s : List ℕ) → length s < suc n → At st p s → is_line_start st.role ≡ true
        → eol (drop (spaces s) s) ≡ 0 → Line-claim st p s
    unfolding on_line
    line-claim st p s short at r e = go (drop (spaces s) s) refl e
      where
        go : (q : List ℕ) → drop (spaces s) s ≡ q → eol q ≡ 0 → Line-claim st p s
        go [] d z = line-end-claim st p s r d
        go (c ∷ cs) d z = by_case (eqb c 123)
            (λ w. brace (spaces s) refl (d ∙ ap (λ x. x ∷ cs) (eqb-true c 123 w)))
            (λ w. by_case (goes_on (spaces s) c) (λ g. line_on st p s c cs at short r d z w g)
            (λ g. line-stops st p s 0
            (repeat-done (pattern_turn sub₁) st s (ok st [] 0)
            (turn-off sub₁ st s c cs d g (no-brace-first s c cs d w) r))
            (line-off-tail sub₂ s c cs d (rw (on_line, w, g) refl) ∙ rw w refl)))
          where
            brace : (j : ℕ) → spaces s ≡ j → drop (spaces s) s ≡ 123 ∷ cs → Line-claim st p s
            brace zero q f = let v : s ≡ 123 ∷ cs = rw q at f in
                subst (Line-claim st p) (sym v)
                (line-brace-0 st p cs (subst (At st p) v at) (omega (arith, ap length v)) r)
            brace (suc j) q f = line-brace st p j s cs at short r q f

  -- all sources
  pub claims : (n : ℕ) → Shorter n
  claims zero = record { texts = λ st p s l. absurd (not-suc-le-zero l); lines = λ st p s l. absurd (not-suc-le-zero l) }
  claims (suc n) = record { texts = text-claim n (claims n); lines = line-claim n (claims n) }
