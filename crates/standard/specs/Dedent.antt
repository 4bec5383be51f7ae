-- Dedent, joining and trimming: the reading's elements against those that the rules A4 to A7 make of raw elements.
use Prim.Native.Nat.{ℕ, zero, suc, ◌+◌, ◌-◌, ◌≤◌, ◌<◌}
use Rattle.std.proofs.Common.{add_assoc, add-zero, arith, sym, ◌∙◌, length-append, eqb-true, eq-eqb, ne_eqb}
use Rattle.std.specs.Prelude.{◌≡◌, Bool, true, false, ◌&&◌, ◌||◌, drop, length, take, eqb}
use Rattle.std.proofs.Math.Path.{refl, ap}
use mathlib.Core.List.{List, [], ◌∷◌, ◌++◌, append-nil, append_assoc}
use Rattle.std.proofs.Math.Option.{Option, some, none}
use Rattle.std.proofs.Math.Dec.{eqb-suc-zero}
use Rattle.std.proofs.lemmas.Bool.{eqb-false}
use Rattle.syntax.specs.Bytes.{all}
use Rattle.syntax.specs.Marks.{Mark, move_up, node, text_node}
use Rattle.syntax.specs.Pattern as Pattern
use Rattle.syntax.specs.Pattern.{State, placeable, text, text_marks}
use Rattle.laws.specs.Bytes.{by_case, clash}
use Rattle.laws.specs.Moving.{move_up-append}
use Rattle.standard.specs.Dialect as Dialect
use Rattle.standard.specs.Dialect.{rust}
use Rattle.standard.specs.Abstract as Abstract
use Rattle.standard.specs.Blocks.{Ended}
use Rattle.standard.specs.Abstract.{Line, Span, Piece, span, feed, cut, dedented, Element, joined, nested, A5, A6}
use Rattle.standard.specs.Abstract.{A7, onto, touches, is_space, is_trimmed, bytes_of, trim_span, trim_spans}
use Rattle.standard.specs.Abstract.{only_spaces, trim_text, trim_last, further_marks}

-- Trimming
-- ------------------------------------------------------------------------------------------------------------------------------------

abbrev onward : Bool → ℕ → ℕ
onward v n = elim (v && eqb n 0) [ true ↦ 0 | false ↦ suc n ]

abbrev goes : ℕ → Bool
goes b = eqb b 32 || (eqb b 13 || eqb b 10)

onward-one : (v : Bool) (n : ℕ) → onward v n ≡ (elim (v && eqb n 0) [ true ↦ 0 | false ↦ 1 + n ])
onward-one v n = by_case (v && eqb n 0) (λ q. rw (q, onward) refl) (λ q. rw (q, onward) (omega arith))

trimmed-same : (w : List ℕ) → Pattern.trimmed w ≡ Abstract.trimmed (is_trimmed rust) w
unfolding Pattern.trimmed Abstract.trimmed is_trimmed rust Dialect.all
trimmed-same [] = refl
trimmed-same (b ∷ bs) = ap (onward (goes b)) (trimmed-same bs) ∙ onward-one (goes b) (Abstract.trimmed (is_trimmed rust) bs)

pub trimmed-feed : (w : List ℕ) → Pattern.trimmed (w ++ (10 ∷ [])) ≡ Pattern.trimmed w
unfolding Pattern.trimmed
trimmed-feed [] = refl
trimmed-feed (b ∷ bs) = ap (onward (goes b)) (trimmed-feed bs)

blank-trimmed : (w : List ℕ) → all is_space w ≡ true → Abstract.trimmed (is_trimmed rust) w ≡ 0
unfolding Abstract.trimmed is_trimmed is_space all
blank-trimmed [] q = refl
blank-trimmed (b ∷ bs) q =
    let r : eqb b 32 ≡ true = by_case (eqb b 32) (λ r. r) (λ r. clash {v = false} (rw r at q) refl) in
    let h : all is_space bs ≡ true = rw r at q in
    rw (Abstract.trimmed, is_trimmed, r, blank-trimmed bs h) refl

-- Joining
-- -------------------------------------------------------------------------------------------------------------------------------------

abbrev pub run_of : ℕ → ℕ → Span
run_of a e = record { from = a; till = e }

onto-feed : (a e : ℕ) (es : List Element) → onto rust true a e es ≡ joined (run_of a e) [] ∷ es
unfolding onto rust Dialect.all
onto-feed a e [] = refl
onto-feed a e (nested ms ∷ es) = refl
onto-feed a e (joined t ts ∷ es) = refl

pub onto-touch : (a b : ℕ) (t : Span) (ts : List Span) (es : List Element) → eqb b t.from ≡ true
    → onto rust false a b (joined t ts ∷ es) ≡ joined (run_of a t.till) ts ∷ es
unfolding onto rust Dialect.all touches
onto-touch a b t ts es q = rw (onto, q) (rw q refl)

onto-join : (a b e : ℕ) (ts : List Span) (es : List Element)
    → onto rust false a b (joined (run_of b e) ts ∷ es) ≡ joined (run_of a e) ts ∷ es
onto-join a b e ts es = onto-touch a b (run_of b e) ts es (eq-eqb b b refl)

pub onto-apart : (a b : ℕ) (t : Span) (ts : List Span) (es : List Element) → eqb b t.from ≡ false
    → onto rust false a b (joined t ts ∷ es) ≡ joined (run_of a b) [] ∷ joined t ts ∷ es
unfolding onto rust Dialect.all touches
onto-apart a b t ts es q = rw (onto, q) refl

onto-onto : (a b e : ℕ) (es : List Element) → onto rust false a b (onto rust false b e es) ≡ onto rust false a e es
unfolding rust Dialect.all
onto-onto a b e [] = unfold onto in onto-join a b e [] []
onto-onto a b e (nested ms ∷ es) = unfold onto in onto-join a b e [] (nested ms ∷ es)
onto-onto a b e (joined t ts ∷ es) = by_case (eqb e t.from)
    (λ q. rw (onto-touch b e t ts es q, onto-touch a e t ts es q) (onto-join a b t.till ts es))
    (λ q. rw (onto-apart b e t ts es q, onto-apart a e t ts es q) (onto-join a b e [] (joined t ts ∷ es)))

-- an empty span is dropped
A6-empty : (a e : ℕ) (ps : List Piece) → a ≡ e → A6 rust (span a e ∷ ps) ≡ A6 rust ps
unfolding A6
A6-empty a e ps q = rw (A6, eq-eqb a e q) refl

pub A6-span : (a e : ℕ) (ps : List Piece) → a < e → A6 rust (span a e ∷ ps) ≡ onto rust false a e (A6 rust ps)
unfolding A6
A6-span a e ps q = rw (A6, ne_eqb a e (λ z. omega arith)) refl

below : (a b : ℕ) → a ≤ b → eqb a b ≡ false → a < b
below a b h r = omega (arith, eqb-false a b r)

-- an indent and the text behind it are one text
pub A6-two : (a b e : ℕ) (ps : List Piece) → a ≤ b → b < e → A6 rust (span a b ∷ span b e ∷ ps) ≡ onto rust false a e (A6 rust ps)
A6-two a b e ps h q = by_case (eqb a b)
    (λ r. A6-empty a b (span b e ∷ ps) (eqb-true a b r) ∙ A6-span b e ps q
    ∙ ap (λ z. onto rust false z e (A6 rust ps)) (sym (eqb-true a b r)))
    (λ r. A6-span a b (span b e ∷ ps) (below a b h r) ∙ ap (onto rust false a b) (A6-span b e ps q) ∙ onto-onto a b e (A6 rust ps))

-- Lines
-- ---------------------------------------------------------------------------------------------------------------------------------------

-- where the text of a blank line at p starts
unfoldable pub feed_from : Option ℕ → ℕ → Line → ℕ
feed_from c p l = elim (eqb l.ending 1) [ true ↦ p + cut c l.spaces | false ↦ p + l.spaces + l.ending - 1 ]

-- the texts of blank lines before elements
unfoldable pub feeds : Option ℕ → ℕ → List Line → List Element → List Element
feeds c p [] es = es
feeds c p (l ∷ ls) es = joined (run_of (feed_from c p l) (p + l.spaces + l.ending)) [] ∷ feeds c (p + l.spaces + l.ending) ls es

pub cut-within : (c : Option ℕ) (n : ℕ) → cut c n ≤ n
unfolding cut
cut-within none n = omega arith
cut-within (some c) n = omega arith

A6-feed : (a e : ℕ) (ps : List Piece) → a + 1 ≡ e → A6 rust (feed a ∷ ps) ≡ joined (run_of a e) [] ∷ A6 rust ps
unfolding A6
A6-feed a e ps q = onto-feed a (a + 1) (A6 rust ps) ∙ ap (λ z. joined (run_of a z) [] ∷ A6 rust ps) q

-- a text and the newline behind it
pub A6-line : (a b f e : ℕ) (ps : List Piece) → a ≤ b → b ≡ f → f + 1 ≡ e
    → A6 rust (span a b ∷ feed f ∷ ps) ≡ joined (run_of a e) [] ∷ A6 rust ps
A6-line a b f e ps h q r = by_case (eqb a b)
    (λ z. A6-empty a b (feed f ∷ ps) (eqb-true a b z) ∙ A6-feed f e ps r
    ∙ ap (λ x. joined (run_of x e) [] ∷ A6 rust ps) (sym (eqb-true a b z ∙ q)))
    (λ z. A6-span a b (feed f ∷ ps) (below a b h z) ∙ ap (onto rust false a b) (A6-feed f e ps r)
    ∙ onto-touch a b (run_of f e) [] (A6 rust ps) (eq-eqb b f q))

pub A6-lines : (c : Option ℕ) (p : ℕ) (ls : List Line) (ps : List Piece) → Ended ls
    → A6 rust (A5 rust c p ls ps) ≡ feeds c p ls (A6 rust ps)
unfolding feeds feed_from A5 dedented rust Dialect.all
A6-lines c p [] ps h = refl
A6-lines c p (l ∷ ls) ps h = by_case (eqb l.ending 1)
    (λ q. rw (A5, q, feed_from)
    (A6-line (p + cut c l.spaces) (p + l.spaces) (p + l.spaces + l.ending - 1) (p + l.spaces + l.ending)
    (A5 rust c (p + l.spaces + l.ending) ls ps) (omega (arith, cut-within c l.spaces))
    (omega (arith, eqb-true l.ending 1 q)) (omega (arith, h.0))
    ∙ ap (λ es. joined (run_of (p + cut c l.spaces) (p + l.spaces + l.ending)) [] ∷ es)
    (A6-lines c (p + l.spaces + l.ending) ls ps h.1)))
    (λ q. rw (A5, q, feed_from)
    (A6-feed (p + l.spaces + l.ending - 1) (p + l.spaces + l.ending)
    (A5 rust c (p + l.spaces + l.ending) ls ps) (omega (arith, h.0))
    ∙ ap (λ es. joined (run_of (p + l.spaces + l.ending - 1) (p + l.spaces + l.ending)) [] ∷ es)
    (A6-lines c (p + l.spaces + l.ending) ls ps h.1)))

-- The elements of a pattern
-- -------------------------------------------------------------------------------------------------------------------

-- what the reading and the grammar count from: src is the reading's source, and the grammar's starts k₀ bytes on
module _ (src : List ℕ) (k₀ : ℕ) where
  abbrev pub behind : List ℕ
  behind = drop k₀ src

  -- the first n + 1 elements of the reading make the same marks as the grammar's elements, trimmed
  abbrev pub Shown : Option ℕ → ℕ → List Pattern.Element → List Element → Type 0
  Shown c n xs [] = ⊥
  Shown c n xs (e ∷ es) = Pattern.element_marks src c (suc n) xs ≡ move_up k₀ (Abstract.element_marks (A7 rust behind (e ∷ es)))

  -- an element that is not the last
  abbrev pub Match : Option ℕ → Pattern.Element → Element → Type 0
  Match c (placeable ms) (nested ns) = node 13 ms ≡ move_up k₀ ns
  Match c (placeable ms) (joined t ts) = ⊥
  Match c (text a e i l) (nested ns) = ⊥
  Match c (text a e i l) (joined t ts) = (ts ≡ []) × (Pattern.dedented c a i l ≡ k₀ + t.from) × (e ≡ k₀ + t.till)

  shown-more : (c : Option ℕ) (x : Pattern.Element) (e : Element) (n : ℕ) (xs : List Pattern.Element)
      (es : List Element)
      → Match c x e → Shown c n xs es → Shown c (suc n) (x ∷ xs) (e ∷ es)
  unfolding Pattern.element_marks Abstract.element_marks A7 text_marks further_marks move_up text_node
  shown-more c x e n xs [] m h = absurd h
  shown-more c (placeable ms) (nested ns) n xs (f ∷ fs) m h =
      rw (m, h) (sym (move_up-append k₀ ns (Abstract.element_marks (A7 rust behind (f ∷ fs)))))
  shown-more c (placeable ms) (joined t ts) n xs (f ∷ fs) m h = absurd m
  shown-more c (text a e i l) (nested ns) n xs (f ∷ fs) m h = absurd m
  shown-more c (text a e i l) (joined t ts) n xs (f ∷ fs) m h = rw (eqb-suc-zero, h, m.0, m.1, m.2) refl

  -- the text that is last: the grammar's bytes of it are w, the reading's have a newline behind them or not
  span_none : (t : Span) (w : List ℕ) → bytes_of behind t ≡ w → Abstract.trimmed (is_trimmed rust) w ≡ 0
      → trim_spans (is_trimmed rust) behind (t ∷ []) ≡ []
  unfolding trim_spans trim_span
  span_none t w e q = rw (e, trim_spans, trim_span, q) refl

  span-some : (t : Span) (w : List ℕ) (n : ℕ) → bytes_of behind t ≡ w → Abstract.trimmed (is_trimmed rust) w ≡ suc n
      → trim_spans (is_trimmed rust) behind (t ∷ []) ≡ record { from = t.from; till = t.from + suc n } ∷ []
  unfolding trim_spans trim_span
  span-some t w n e q = rw (e, trim_spans, trim_span, q) (rw eqb-suc-zero (rw (e, q) refl))

  trim-last : (t : Span) (w : List ℕ) → bytes_of behind t ≡ w → all is_space w ≡ false
      → Abstract.element_marks (trim_text rust behind t []) ≡ text_node 12 t.from
      (t.from + Abstract.trimmed (is_trimmed rust) w)
  unfolding trim_text only_spaces Abstract.element_marks further_marks rust Dialect.all text_node
  trim-last t w e q = go (Abstract.trimmed (is_trimmed rust) w) refl
    where
      go : (n : ℕ) → Abstract.trimmed (is_trimmed rust) w ≡ n
          → Abstract.element_marks (trim_text rust behind t []) ≡ text_node 12 t.from
          (t.from + Abstract.trimmed (is_trimmed rust) w)
      go zero h = rw (Abstract.element_marks, trim_text, span_none t w e h, e, q, h, add-zero) refl
      go (suc n) h = rw (Abstract.element_marks, trim_text, span-some t w n e h, h) refl

  -- nothing is left of a blank text
  pub trim-blank : (t : Span) (w : List ℕ) → bytes_of behind t ≡ w → all is_space w ≡ true → trim_text rust behind t [] ≡ []
  unfolding trim_text only_spaces rust Dialect.all
  trim-blank t w e q = rw (trim_text, span_none t w e (blank-trimmed w q), e, q) refl

  -- the last text
  pub shown-text : (c : Option ℕ) (a e i : ℕ) (l : Bool) (xs : List Pattern.Element) (t : Span) (w v : List ℕ)
      → Pattern.dedented c a i l ≡ k₀ + t.from → bytes_of behind t ≡ w → all is_space w ≡ false
      → take (e - (k₀ + t.from)) (drop (k₀ + t.from) src) ≡ v → Pattern.trimmed v ≡ Pattern.trimmed w
      → Shown c 0 (text a e i l ∷ xs) (joined t [] ∷ [])
  unfolding Pattern.element_marks A7 trim_last text_marks move_up text_node
  shown-text c a e i l xs t w v d b q r s =
      rw (d, r, s, trimmed-same w, trim-last t w b q)
      (ap (λ z. text_node 12 (k₀ + t.from) z) (add_assoc k₀ t.from (Abstract.trimmed (is_trimmed rust) w)))

  -- the last placeable, with nothing but a blank text behind it
  pub shown-placeable : (c : Option ℕ) (ms ns : List Mark) (xs : List Pattern.Element) (es : List Element)
      → node 13 ms ≡ move_up k₀ ns → A7 rust behind es ≡ [] → Shown c 0 (placeable ms ∷ xs) (nested ns ∷ es)
  unfolding Pattern.element_marks Abstract.element_marks A7 trim_last
  shown-placeable c ms ns xs [] m h = rw m (append-nil (move_up k₀ ns) ∙ ap (move_up k₀) (sym (append-nil ns)))
  shown-placeable c ms ns xs (f ∷ fs) m h = rw (m, h) (append-nil (move_up k₀ ns) ∙ ap (move_up k₀) (sym (append-nil ns)))

  -- What a state grows to: `Live` by elements that are kept, the last of them trimmed, `Idle` by none
  pub record Live (st st' : State) (es : Option ℕ → List Element) : Type 0 where
    pub count : ℕ
    pub added : List Pattern.Element
    pub elements : st'.elements ≡ st.elements ++ added
    pub kept : st'.kept ≡ length st.elements + suc count
    pub shown : (c : Option ℕ) → Shown c count added (es c)

  pub record Idle (st st' : State) : Type 0 where
    pub added : List Pattern.Element
    pub elements : st'.elements ≡ st.elements ++ added
    pub kept : st'.kept ≡ st.kept

  pub idle-same : (st : State) → Idle st st
  idle-same st = record { added = []; elements = sym (append-nil st.elements); kept = refl }

  -- a step that keeps nothing: what comes before the elements that follow
  pub record Passed (st st₁ : State) (f : Option ℕ → List Element → List Element) : Type 0 where
    pub live : {st' : State} {es : Option ℕ → List Element} → Live st₁ st' es → Live st st' (λ c. f c (es c))
    pub idle : {st' : State} → Idle st₁ st' → Idle st st'

  -- a step whose element is kept, even where nothing follows
  pub record Keeps (st st₁ : State) (f : Option ℕ → List Element → List Element) (last : Option ℕ → List Element) : Type 0 where
    pub live : {st' : State} {es : Option ℕ → List Element} → Live st₁ st' es → Live st st' (λ c. f c (es c))
    pub idle : {st' : State} → Idle st₁ st' → Live st st' last

  pub passed_none : (st st₁ : State) → st₁.elements ≡ st.elements → st₁.kept ≡ st.kept → Passed st st₁ (λ c es. es)
  passed_none st st₁ e k = record {
    live =
        λ h. record {
          count = h.count;
          added = h.added;
          elements = h.elements ∙ ap (λ z. z ++ h.added) e;
          kept = h.kept ∙ ap (λ z. length z + suc h.count) e;
          shown = h.shown;
        };
    idle = λ h. record { added = h.added; elements = h.elements ∙ ap (λ z. z ++ h.added) e; kept = h.kept ∙ k };
  }

  pub passed_then : (st st₁ st₂ : State) (f g : Option ℕ → List Element → List Element) → Passed st st₁ f
      → Passed st₁ st₂ g → Passed st st₂ (λ c es. f c (g c es))
  passed_then st st₁ st₂ f g p q = record { live = λ h. p.live (q.live h); idle = λ h. p.idle (q.idle h) }

  pub live-one : (st st₁ st' : State) (x : Pattern.Element) (e : Option ℕ → Element) (es : Option ℕ → List Element)
      → st₁.elements ≡ st.elements ++ (x ∷ []) → ((c : Option ℕ) → Match c x (e c)) → Live st₁ st' es
      → Live st st' (λ c. e c ∷ es c)
  live-one st st₁ st' x e es q m h = record {
    count = suc h.count;
    added = x ∷ h.added;
    elements = h.elements ∙ ap (λ z. z ++ h.added) q ∙ append_assoc st.elements (x ∷ []) h.added;
    kept = h.kept ∙ ap (λ z. length z + suc h.count) q ∙ omega (arith, length-append st.elements (x ∷ []));
    shown = λ c. shown-more c x (e c) h.count h.added (es c) (m c) (h.shown c);
  }

  -- an element that is passed by
  pub passed-one : (st st₁ : State) (x : Pattern.Element) (e : Option ℕ → Element)
      → st₁.elements ≡ st.elements ++ (x ∷ []) → st₁.kept ≡ st.kept → ((c : Option ℕ) → Match c x (e c))
      → Passed st st₁ (λ c es. e c ∷ es)
  passed-one st st₁ x e q k m = record {
    live = λ {st'} {es} h. live-one st st₁ st' x e es q m h;
    idle =
        λ h. record {
          added = x ∷ h.added;
          elements = h.elements ∙ ap (λ z. z ++ h.added) q ∙ append_assoc st.elements (x ∷ []) h.added;
          kept = h.kept ∙ k;
        };
  }

  -- an element that is kept
  pub keeps-one : (st st₁ : State) (x : Pattern.Element) (e : Option ℕ → Element) (last : Option ℕ → List Element)
      → st₁.elements ≡ st.elements ++ (x ∷ []) → st₁.kept ≡ suc (length st.elements)
      → ((c : Option ℕ) → Match c x (e c))
      → ((c : Option ℕ) (xs : List Pattern.Element) → Shown c 0 (x ∷ xs) (last c)) → Keeps st st₁ (λ c es. e c ∷ es) last
  keeps-one st st₁ x e last q k m s = record {
    live = λ {st'} {es} h. live-one st st₁ st' x e es q m h;
    idle =
        λ h. record {
          count = 0;
          added = x ∷ h.added;
          elements = h.elements ∙ ap (λ z. z ++ h.added) q ∙ append_assoc st.elements (x ∷ []) h.added;
          kept = h.kept ∙ k ∙ omega arith;
          shown = λ c. s c h.added;
        };
  }
