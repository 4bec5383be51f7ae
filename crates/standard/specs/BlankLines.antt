-- Blank lines in a pattern: the reading takes each as a text, and keeps none by itself.
use Prim.Native.Nat.{ℕ, zero, suc, ◌+◌, ◌-◌}
use Rattle.std.proofs.Common.{add_assoc, zero-add, add-zero, arith, ◌∙◌, subst, drop-drop, eqb-true}
use Rattle.std.specs.Prelude.{◌≡◌, false, drop, eqb}
use Rattle.std.proofs.Math.Path.{refl, sym, ap, ap₂, fun_ext}
use Rattle.std.proofs.Math.Bool.{true}
use mathlib.Core.List.{List, [], ◌∷◌}
use Rattle.std.proofs.Math.Option.{Option}
use Rattle.syntax.specs.Bytes.{starts_with, spaces, eol, run, all}
use Rattle.syntax.specs.Marks.{move_up}
use Rattle.syntax.specs.Reader as Reader
use Rattle.syntax.specs.Reader.{Out, ok, bad, deep, repeat}
use Rattle.syntax.specs.Pattern as Pattern
use Rattle.syntax.specs.Pattern.{Inside, line_feed, crlf, Slice, State, is_blank, is_text_byte, is_line_start, role_after}
use Rattle.syntax.specs.Pattern.{is_line_feed, is_element, is_continuation, goes_on, pattern_turn, get_text_slice}
use Rattle.laws.specs.Bytes.{by_case, clash}
use Rattle.laws.specs.Moving.{after-after, move_up-zero, up_errors-zero}
use Rattle.syntax.specs.declared.errors.ParserError.{ParserError}
use Rattle.syntax.specs.Errors.{up_fault}
use Rattle.syntax.specs.Core.{Error, up_error}
use Rattle.laws.specs.Stable.{Takes}
use Rattle.standard.specs.Abstract.{Line, Element, joined, cut}
use Rattle.standard.specs.Turns.{repeat-again}
use Rattle.standard.specs.Texts.{Sign, end, lf, cr-lf, opens, closes, plain, sign_of, text_run, is_text_at, slice_at, slice_is, plain-eol}
use Rattle.standard.specs.Blocks.{Block, stop, step}
use Rattle.standard.specs.Dedent.{run_of, feeds, feed_from, Passed, passed_none, passed-one, passed_then, cut-within}
use Rattle.standard.specs.Elements.{goes_on-suc}
use Rattle.standard.specs.Growth.{dedent-from, from_at}
use Rattle.standard.specs.PatternTurns.{text_state, text-again, text-elements, blank-kept, blank-common, turn_on, turn-shrinks}

-- the slices of line ends alone
abbrev pub feed_slice : Slice
feed_slice = record { size = 1; blank = true; ending = line_feed }

abbrev pub cr_slice : Slice
cr_slice = record { size = 0; blank = true; ending = crlf }

pub slice-lf : (t : List ℕ) → get_text_slice (10 ∷ t) ≡ ok feed_slice [] 1
unfolding text_run is_text_at is_text_byte slice_at is_blank all
slice-lf t = slice_is (10 ∷ t) (lf t) refl

pub slice-crlf : (t : List ℕ) → get_text_slice (13 ∷ 10 ∷ t) ≡ ok cr_slice [] 1
unfolding text_run is_text_at is_text_byte slice_at is_blank all starts_with
slice-crlf t = slice_is (13 ∷ 10 ∷ t) (cr-lf t) refl

goes-lf : (n : ℕ) → goes_on n 10 ≡ true
unfolding goes_on is_continuation
goes-lf zero = refl
goes-lf (suc n) = goes_on-suc n 10

goes-cr : (n : ℕ) → goes_on n 13 ≡ true
unfolding goes_on is_continuation
goes-cr zero = refl
goes-cr (suc n) = goes_on-suc n 13

-- a line whose first byte behind its spaces is no brace does not start with one
pub no-brace-first : (s : List ℕ) (c : ℕ) (cs : List ℕ) → drop (spaces s) s ≡ c ∷ cs → eqb c 123 ≡ false → starts_with 123 s ≡ false
unfolding starts_with spaces run
no-brace-first [] c cs d q = refl
no-brace-first (b ∷ bs) c cs d q = by_case (eqb b 123)
    (λ r. let z : b ∷ bs ≡ c ∷ cs = rw (run, spaced b r) at d in let y : b ≡ c = cc in clash (ap (λ x. eqb x 123) (sym y) ∙ r) q)
    (λ r. r)
  where
    spaced : (b : ℕ) → eqb b 123 ≡ true → eqb b 32 ≡ false
    spaced b r = rw (eqb-true b 123 r) refl

-- what the line end behind the spaces is
data Ends (s : List ℕ) (e : ℕ) : Type 0 where
  by-lf : (t : List ℕ) → drop (spaces s) s ≡ 10 ∷ t → e ≡ 0 → Ends s e
  by-crlf : (t : List ℕ) → drop (spaces s) s ≡ 13 ∷ 10 ∷ t → e ≡ 1 → Ends s e

ends_of : (s : List ℕ) (e : ℕ) → eol (drop (spaces s) s) ≡ suc e → Ends s e
unfolding eol starts_with
ends_of s e q = go (sign_of (drop (spaces s) s)) refl q
  where
    go : {r : List ℕ} → Sign r → drop (spaces s) s ≡ r → eol r ≡ suc e → Ends s e
    go end d z = absurd (omega arith)
    go (lf t) d z = by-lf t d (omega arith)
    go (cr-lf t) d z = by-crlf t d (omega arith)
    go (opens t) d z = absurd (omega arith)
    go (closes t) d z = absurd (omega arith)
    go (plain b t x y w v) d z = absurd (omega (arith, plain-eol b t x v))

fault-zero : (f : ParserError) → up_fault 0 f ≡ f
unfolding up_error
fault-zero f = ap (λ es. fault_of es) (up_errors-zero (record { fault = f; junk_from = 0; junk_till = 0 } ∷ []))
  where
    fault_of : List Error → ParserError
    fault_of [] = f
    fault_of (e ∷ es) = e.fault

pub after-zero : {A : Type 0} (o : Out A) → Reader.after [] 0 o ≡ o
unfolding Reader.after
after-zero (ok a ms k) = ap₂ (λ ns j. ok a ns j) (move_up-zero ms) (zero-add k)
after-zero (bad f k) = ap₂ (λ g j. bad g j) (fault-zero f) (zero-add k)
after-zero (deep k) = ap deep (zero-add k)

module _ (sub : Inside) (takes : (s : List ℕ) → Takes (sub.braced s)) (src : List ℕ) (k₀ : ℕ) where
  -- from a state at a line's start over u bytes to another, passing elements by
  pub record Blanked (st : State) (p : ℕ) (s : List ℕ) (u : ℕ) (f : Option ℕ → List Element → List Element) : Type 0 where
    pub state : State
    pub reads : repeat (pattern_turn sub) st s ≡ Reader.after [] u (repeat (pattern_turn sub) state (drop u s))
    pub role : is_line_start state.role ≡ true
    pub used : state.used ≡ k₀ + (p + u)
    pub common : state.common ≡ st.common
    pub passed : Passed src k₀ st state f

  one-feed : (st : State) (p : ℕ) (s t : List ℕ) → is_line_start st.role ≡ true → st.used ≡ k₀ + p
      → drop (spaces s) s ≡ 10 ∷ t
      → Blanked st p s (spaces s + 1) (λ c es. joined (run_of (p + cut c (spaces s)) (p + spaces s + 1)) [] ∷ es)
  one-feed st p s t r q d =
      let n = spaces s in
      let st₁ = text_state st n feed_slice 1 in
      let e : is_element st feed_slice ≡ true = unfold is_element is_line_feed in (rw r refl) in
      record {
        state = st₁;
        reads =
            repeat-again (pattern_turn sub) (turn-shrinks sub takes) st s st₁ [] (n + 1)
            (turn_on sub st s 10 t d (goes-lf n) (no-brace-first s 10 t d refl) r
            ∙ rw (slice-lf t) (text-again st n feed_slice [] 1));
        role = unfold text_state role_after is_line_start in refl;
        used = unfold text_state in (omega arith);
        common = blank-common st n 1 feed_slice refl;
        passed =
            passed-one src k₀ st st₁ (Pattern.text st.used (st.used + n + 1) n true)
            (λ c. joined (run_of (p + cut c n) (p + n + 1)) [])
            (text-elements st n 1 feed_slice (omega arith) e ∙ rw r refl) (blank-kept st n 1 feed_slice refl)
            (λ c. (refl, rw q (unfold from_at in (dedent-from true k₀ p n c)), omega arith));
      }

  one-cr : (st : State) (p : ℕ) (s t : List ℕ) → is_line_start st.role ≡ true → st.used ≡ k₀ + p
      → drop (spaces s) s ≡ 13 ∷ 10 ∷ t → Blanked st p s (spaces s + 1) (λ c es. es)
  one-cr st p s t r q d =
      let n = spaces s in
      let st₁ = text_state st n cr_slice 1 in
      record {
        state = st₁;
        reads =
            repeat-again (pattern_turn sub) (turn-shrinks sub takes) st s st₁ [] (n + 1)
            (turn_on sub st s 13 (10 ∷ t) d (goes-cr n) (no-brace-first s 13 (10 ∷ t) d refl) r
            ∙ rw (slice-crlf t) (text-again st n cr_slice [] 1));
        role = unfold text_state role_after is_line_start in refl;
        used = unfold text_state in (omega arith);
        common = blank-common st n 1 cr_slice refl;
        passed = passed_none src k₀ st st₁ (unfold text_state is_element in refl) (blank-kept st n 1 cr_slice refl);
      }

  pub blanked-then : (st : State) (p : ℕ) (s : List ℕ) (u v : ℕ) (f g : Option ℕ → List Element → List Element)
      (b : Blanked st p s u f)
      → Blanked b.state (p + u) (drop u s) v g → Blanked st p s (u + v) (λ c es. f c (g c es))
  unfolding move_up
  blanked-then st p s u v f g b d = record {
    state = d.state;
    reads = b.reads ∙ ap (Reader.after [] u) d.reads
        ∙ after-after [] u [] v (repeat (pattern_turn sub) d.state (drop v (drop u s))) ∙ rw (drop-drop v u s) refl;
    role = d.role;
    used = d.used ∙ ap (λ k. k₀ + k) (add_assoc p u v);
    common = d.common ∙ b.common;
    passed = passed_then src k₀ st b.state d.state f g b.passed d.passed;
  }

  pub blanked-as : (st : State) (p : ℕ) (s : List ℕ) (u v : ℕ) (f g : Option ℕ → List Element → List Element) → u ≡ v
      → ((c : Option ℕ) (es : List Element) → f c es ≡ g c es) → Blanked st p s u f → Blanked st p s v g
  blanked-as st p s u v f g q e b =
      subst (λ k. Blanked st p s k g) q (subst (λ h. Blanked st p s u h) (fun_ext (λ c. fun_ext (λ es. e c es))) b)

  -- a block of blank lines
  pub block-passes : (st : State) (p : ℕ) {s : List ℕ} {ls : List Line} {u : ℕ} → is_line_start st.role ≡ true
      → st.used ≡ k₀ + p → Block s ls u → Blanked st p s u (λ c es. feeds c p ls es)
  unfolding feeds feed_from
  block-passes st p {s} r q (stop z) = record {
    state = st;
    reads = sym (after-zero (repeat (pattern_turn sub) st s));
    role = r;
    used = q ∙ ap (λ k. k₀ + k) (sym (add-zero p));
    common = refl;
    passed = passed_none src k₀ st st refl refl;
  }
  block-passes st p {s} r q (step {ls = ls} {u = u} e z b) = go (ends_of s e z) b (λ st' p' r' q'. block-passes st' p' r' q' b)
    where
      Goal : ℕ → Type 0
      Goal e = Blanked st p s (spaces s + suc e + u) (λ c es. feeds c p (record { spaces = spaces s; ending = suc e } ∷ ls) es)

      Others : ℕ → Type 0
      Others e = (st' : State) (p' : ℕ) → is_line_start st'.role ≡ true → st'.used ≡ k₀ + p'
          → Blanked st' p' (drop (spaces s + suc e) s) u (λ c es. feeds c p' ls es)

      by-feed : (t : List ℕ) → drop (spaces s) s ≡ 10 ∷ t → Others 0 → Goal 0
      by-feed t d f =
          let a = one-feed st p s t r q d in
          blanked-as st p s (spaces s + 1 + u) (spaces s + 1 + u)
          (λ c es. joined (run_of (p + cut c (spaces s)) (p + spaces s + 1)) []
          ∷ feeds c (p + (spaces s + 1)) ls es)
          (λ c es. feeds c p (record { spaces = spaces s; ending = 1 } ∷ ls) es) refl
          (λ c es. ap (λ k. joined (run_of (p + cut c (spaces s)) (p + spaces s + 1)) [] ∷ feeds c k ls es)
          (sym (add_assoc p (spaces s) 1)))
          (blanked-then st p s (spaces s + 1) u
          (λ c es. joined (run_of (p + cut c (spaces s)) (p + spaces s + 1)) [] ∷ es)
          (λ c es. feeds c (p + (spaces s + 1)) ls es) a (f a.state (p + (spaces s + 1)) a.role a.used))

      by-cr : (t : List ℕ) → drop (spaces s) s ≡ 13 ∷ 10 ∷ t → Others 1 → Goal 1
      by-cr t d f =
          let a = one-cr st p s t r q d in
          let w : 10 ∷ t ≡ drop (spaces s + 1) s = sym (ap (drop 1) d) ∙ drop-drop 1 (spaces s) s in
          let fed : Blanked a.state (p + (spaces s + 1)) (10 ∷ t) 1
          (λ c es. joined (run_of (p + (spaces s + 1) + cut c 0) (p + (spaces s + 1) + 0 + 1)) [] ∷ es) =
          unfold spaces run in
          (one-feed a.state (p + (spaces s + 1)) (10 ∷ t) t a.role a.used refl) in
          let l =
          blanked-as st p s (spaces s + 1 + 1) (spaces s + 2) _
          (λ c es. joined (run_of (p + spaces s + 2 - 1) (p + spaces s + 2)) [] ∷ es) (add_assoc (spaces s) 1 1)
          (λ c es. ap₂ (λ x y. joined (run_of x y) [] ∷ es) (starts c) (tills (spaces s)))
          (blanked-then st p s (spaces s + 1) 1 (λ c es. es)
          (λ c es. joined (run_of (p + (spaces s + 1) + cut c 0) (p + (spaces s + 1) + 0 + 1)) [] ∷ es) a
          (subst
          (λ x. Blanked a.state (p + (spaces s + 1)) x 1
          (λ c es. joined (run_of (p + (spaces s + 1) + cut c 0) (p + (spaces s + 1) + 0 + 1)) [] ∷ es)) w fed)) in
          blanked-as st p s (spaces s + 2 + u) (spaces s + 2 + u)
          (λ c es. joined (run_of (p + spaces s + 2 - 1) (p + spaces s + 2)) []
          ∷ feeds c (p + (spaces s + 2)) ls es)
          (λ c es. feeds c p (record { spaces = spaces s; ending = 2 } ∷ ls) es) refl
          (λ c es. ap (λ k. joined (run_of (p + spaces s + 2 - 1) (p + spaces s + 2)) [] ∷ feeds c k ls es)
          (sym (add_assoc p (spaces s) 2)))
          (blanked-then st p s (spaces s + 2) u
          (λ c es. joined (run_of (p + spaces s + 2 - 1) (p + spaces s + 2)) [] ∷ es)
          (λ c es. feeds c (p + (spaces s + 2)) ls es) l (f l.state (p + (spaces s + 2)) l.role l.used))
        where
          starts : (c : Option ℕ) → p + (spaces s + 1) + cut c 0 ≡ p + spaces s + 2 - 1
          starts c = omega (arith, cut-within c 0)

          tills : (n : ℕ) → p + (n + 1) + 0 + 1 ≡ p + n + 2
          tills n = omega arith

      go : Ends s e → Block (drop (spaces s + suc e) s) ls u → Others e → Goal e
      go (by-lf t d w) b f = subst Goal (sym w) (by-feed t d (subst Others w f))
      go (by-crlf t d w) b f = subst Goal (sym w) (by-cr t d (subst Others w f))
