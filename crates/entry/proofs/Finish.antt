-- The end of a pattern: its marks are cut back to those that are kept, settled and trimmed, and are then the definition's.
use Rattle.std.specs.Prelude.{◌≡◌, ℕ, zero, suc, ◌+◌, ◌-◌, ◌<◌, ◌≤◌, true, false, Option, Some, None, unwrap_or, List, [], ◌∷◌, ◌++◌, map, length, take, drop}
use mathlib.Core.Path.{refl, sym, ap, ap₂, ◌∙◌}
use native.Mathlib.Nat.{add-zero}
use native.Mathlib.Omega.{arith}
use lib.Dec.{eqb-suc-zero}
use lib.ListN.{length-append, length-drop, length-map, take-append-drop}
use lib.Seq.{length-take-le}
use Rattle.syntax.specs.Marks.{Mark, plain as bare, node}
use Rattle.syntax.specs.Pattern.{Element, placeable, text, State, element_marks, finish}
use Rattle.syntax.specs.Reader.{ok}
use Rattle.entry.specs.declared.source.Source.{Source}
use Rattle.entry.specs.declared.marks.Marks.{Marks}
use Rattle.entry.specs.declared.parser.Parser.{Parser}
use Rattle.entry.specs.declared.pattern.Reading.{Reading}
use Rattle.entry.specs.Tree.{Word, word, words_at, marks_in, Step}
use Rattle.entry.specs.Marks.{Wrote}
use Rattle.entry.specs.Did.{plain, yes, Did}
use Rattle.entry.specs.Settle.{settle_word, trim_words, Within, NoLines, Settled, Trimmable, Trimmed}
use Rattle.entry.specs.Elements.{provisional_of, provisional}
use Rattle.entry.specs.Texts.{Standing, last_of, Holds, Ends, Ended}
use Rattle.entry.proofs.Steps.{step-prefix, step_cut, step_then, step-over, step-last}
use Rattle.entry.proofs.Dids.{words-length, words-none, node-words}
use Rattle.entry.proofs.Settle.{no_lines-less}
use Rattle.entry.proofs.Elements.{provisional-append, trim-append, trim-length, within-append, Common, common-or, kept-marks, kept-within}

-- ---- the last two marks of a step are trimmed
module _ (s : List ℕ) {cap n : ℕ} (m : ℕ) {t t₁ : List ℕ} (u : Word) (ws : List Word) (two : 2 ≤ length ws)
    (w : Step cap n t t₁ (u ∷ ws)) (em : m + 2 ≡ n + 1 + length ws) where
  split : take (length ws - 2) ws ++ drop (length ws - 2) ws ≡ ws
  split = take-append-drop (length ws - 2) ws

  front : length (take (length ws - 2) ws) ≡ (length ws - 2)
  front = length-take-le (length ws - 2) ws (omega arith)

  behind : length (drop (length ws - 2) ws) ≡ 2
  behind = let z = length-drop (length ws - 2) ws in omega arith

  parted : Step cap n t t₁ ((u ∷ take (length ws - 2) ws) ++ drop (length ws - 2) ws)
  parted = rw split w

  start : m ≡ n + length (u ∷ take (length ws - 2) ws)
  start = let f = front in omega arith

  last-two : drop m (marks_in cap (m + 2) t₁) ≡ drop (length ws - 2) ws
  last-two = step-last (u ∷ take (length ws - 2) ws) (drop (length ws - 2) ws) parted start (let b = behind in omega arith)

  pub step-trim : {t₂ : List ℕ} → Step cap m t₁ t₂ (trim_words s (drop m (marks_in cap (m + 2) t₁))) → Step cap n t t₂ (u ∷ trim_words s ws)
  step-trim {t₂} h =
      let e : trim_words s ws ≡ take (length ws - 2) ws ++ trim_words s (drop (length ws - 2) ws) =
      ap (trim_words s) (sym split)
      ∙ trim-append s (take (length ws - 2) ws) (drop (length ws - 2) ws) (let b = behind in omega arith) in
      rw e (step-over (u ∷ take (length ws - 2) ws) (drop (length ws - 2) ws) parted start (rw last-two at h))

  pub last_within : Within s ws → Within s (drop m (marks_in cap (m + 2) t₁))
  last_within h =
      rw last-two
      ((within-append s (take (length ws - 2) ws) (drop (length ws - 2) ws) (let b = behind in omega arith)).1
      (rw split h))

-- ---- the marks that are kept
some_words : (at : ℕ) (e : Element) (es : List Element) → 2 ≤ length (provisional at (e ∷ es))
unfolding provisional provisional_of
some_words at (placeable ms) es = rw (length-append, words-length) (unfold node in (rw length-append (omega arith)))
some_words at (text a e i l) es = omega arith

kept-two : (at k : ℕ) (es : List Element) → 0 < k → k ≤ length es → 2 ≤ length (provisional at (take k es))
kept-two at zero es f h = absurd (omega arith)
kept-two at (suc k) [] f h = absurd (omega arith)
kept-two at (suc k) (e ∷ es) f h = some_words at e (take k es)

last-none : (k m : ℕ) {o : Option ℕ} → o ≡ last_of k m → o ≡ None → k ≡ 0
last-none zero m e h = refl
last-none (suc k) m e h = let z : ◌≡◌ {A = ℕ} 0 1 = cc in absurd (omega arith)

last-some : (k m : ℕ) {o : Option ℕ} {l : ℕ} → o ≡ last_of k m → o ≡ Some l → (0 < k) × (l ≡ m)
last-some zero m e h = let z : ◌≡◌ {A = ℕ} 0 1 = cc in absurd (omega arith)
last-some (suc k) m e h = (omega arith, cc)

-- what settling and trimming do
abbrev SettledTo : List ℕ → ℕ → ℕ → List ℕ → List ℕ → ℕ → ℕ → Type 0
SettledTo s cap n t t₁ l c = Step cap (n + 1) t t₁ (map (settle_word s c) (drop (n + 1) (marks_in cap l t)))

abbrev TrimmedTo : List ℕ → ℕ → List ℕ → List ℕ → ℕ → Type 0
TrimmedTo s cap t₁ t₂ l = Step cap (l - 2) t₁ t₂ (trim_words s (drop (l - 2) (marks_in cap (l - 2 + 2) t₁)))

-- no element is kept
none-did : {s : List ℕ} {cap at n : ℕ} {t₀ t : List ℕ} {st : Standing} {d : State} {end : ℕ} → Holds s cap at n t₀ t st d
    → st.last_non_blank ≡ None → at ≤ end → Did plain cap at n t₀ t (yes false end n) (finish (drop at s) (ok d [] (end - at)))
unfolding finish
none-did {s} {cap} {at} {n} {d = d} h e l =
    let k : d.kept ≡ 0 = last-none d.kept _ h.kept e in
    rw (finish, k) (record { answers = ap₂ (yes false) (omega arith) (sym (add-zero n)); wrote = rw words-none (step_cut h.wrote) })

module _ {s : List ℕ} {cap at n : ℕ} {t₀ t : List ℕ} {st : Standing} {d : State} (h : Holds s cap at n t₀ t st d) {l : ℕ}
    (el : st.last_non_blank ≡ Some l) where
  kept-split : provisional at d.elements ≡ provisional at (take d.kept d.elements) ++ provisional at (drop d.kept d.elements)
  kept-split = ap (provisional at) (sym (take-append-drop d.kept d.elements))
      ∙ provisional-append at (take d.kept d.elements) (drop d.kept d.elements)

  kept : (0 < d.kept) × (l ≡ n + 1 + length (provisional at (take d.kept d.elements)))
  kept = last-some d.kept _ h.kept el

  pub last-order : (n + 3 ≤ l) × (l ≤ st.n)
  last-order =
      let e = ap length kept-split
      ∙ length-append (provisional at (take d.kept d.elements)) (provisional at (drop d.kept d.elements)) in
      let w = kept-two at d.kept d.elements kept.0 h.few in
      (omega (arith, kept), omega (arith, kept, h.count))

  kept_step : Step cap n t₀ t (word 11 0 ∷ provisional at (take d.kept d.elements))
  kept_step =
      step-prefix (word 11 0 ∷ provisional at (take d.kept d.elements))
      (provisional at (drop d.kept d.elements)) (rw kept-split at h.wrote)

  pub none-after : NoLines (drop (st.lines - (n + 1)) (drop (n + 1) (marks_in cap l t)))
  none-after =
      let e = step-last (word 11 0 ∷ []) (provisional at (take d.kept d.elements)) kept_step refl kept.1 in
      rw e
      (no_lines-less (st.lines - (n + 1)) (provisional at (take d.kept d.elements)) (provisional at (drop d.kept d.elements))
      (rw kept-split at h.lines))

  module _ (c : ℕ) (ec : c ≡ unwrap_or st.common_indent (length s)) where
    common : Common s d.common c
    common = rw ec (common-or s d.common st.common_indent h.common)

    -- settled, and with no text trimmed yet
    abbrev now-settled : List Word
    now-settled = map (settle_word s c) (provisional at (take d.kept d.elements))

    settled-length : length now-settled ≡ length (provisional at (take d.kept d.elements))
    settled-length = simp length-map

    module _ {t₁ : List ℕ} (g : SettledTo s cap n t t₁ l c) where
      settled-step : Step cap n t₀ t₁ (word 11 0 ∷ now-settled)
      settled-step =
          let e = step-last (word 11 0 ∷ []) (provisional at (take d.kept d.elements)) kept_step refl kept.1 in
          step-over (word 11 0 ∷ []) (provisional at (take d.kept d.elements)) kept_step refl (rw e at g)

      two : 2 ≤ length now-settled
      two = rw settled-length (kept-two at d.kept d.elements kept.0 h.few)

      end_of : l - 2 + 2 ≡ n + 1 + length now-settled
      end_of = let w = two in omega (arith, kept, settled-length)

      pub trim-within : at ≤ length s → Within s (drop (l - 2) (marks_in cap (l - 2 + 2) t₁))
      trim-within i =
          last_within s (l - 2) (word 11 0) now-settled two settled-step end_of
          (kept-within s d.common c at d.kept d.elements common h.sound i)

      -- the whole pattern
      pub pattern-did : {t₂ t₃ : List ℕ} {m end : ℕ} → at ≤ end → TrimmedTo s cap t₁ t₂ l → m ≡ l + 1
          → Step cap l t₂ t₃ (word 111 0 ∷ [])
          → Did plain cap at n t₀ t₃ (yes true end m) (finish (drop at s) (ok d [] (end - at)))
      pattern-did {t₂} {t₃} {m} {end} le w em p = go d.kept refl
        where
          go : (k : ℕ) → d.kept ≡ k → Did plain cap at n t₀ t₃ (yes true end m) (finish (drop at s) (ok d [] (end - at)))
          go zero ek = absurd (omega (arith, kept))
          go (suc k) ek =
              rw finished
              (record { answers = ap₂ (yes true) (omega arith) counted; wrote = rw (node-words at 11 marks) (step_then trimmed-step after p) })
            where
              marks : List Mark
              marks = element_marks (drop at s) d.common (suc k) d.elements

              finished : finish (drop at s) (ok d [] (end - at)) ≡ ok true (node 11 marks) (end - at)
              finished = unfold finish in (rw (finish, ek, eqb-suc-zero k) (rw ek))

              trimmed-is : trim_words s now-settled ≡ words_at at marks
              trimmed-is =
                  kept-marks s d.common c at d.kept d.elements common h.sound h.few
                  ∙ ap (λ (j : ℕ). words_at at (element_marks (drop at s) d.common j d.elements)) ek

              trimmed-step : Step cap n t₀ t₂ (word 11 0 ∷ words_at at marks)
              trimmed-step = rw (sym trimmed-is) (step-trim s (l - 2) (word 11 0) now-settled two settled-step end_of w)

              marks-length : length marks ≡ length (provisional at (take d.kept d.elements))
              marks-length =
                  sym (words-length at marks) ∙ ap length (sym trimmed-is) ∙ trim-length s now-settled ∙ settled-length

              after : l ≡ n + length (word 11 0 ∷ words_at at marks)
              after = let q = marks-length in let z = words-length at marks in omega (arith, kept)

              counted : m ≡ n + length (node 11 marks)
              counted = unfold node in
                  (let q = marks-length in let z = length-append marks (bare 111 ∷ []) in omega (arith, kept, em))

-- ---- what the end of a pattern asks and does
module _ {n : ℕ} {p : Parser} {st : Reading} (ends : Ends n p st) where
  pub end_none : {p' : Parser} → p'.source ≡ p.source → p'.tree.now.words ≡ p.tree.now.words → p'.tree.now.capacity ≡ p.tree.now.capacity
      → p'.tree.now.count ≡ n → st.last_non_blank ≡ None → Ended n p p' st false
  end_none a b c e h =
      record {
        frame = record {
          bytes = ap (λ (s : Source). s.bytes) a;
          tree = record { words = rw b; capacity = c };
        };
        place = ap (λ (s : Source). s.ptr) a;
        did = λ at from t₀ d l hd. rw (a, b, e) (none-did hd h l);
      }

  pub ends-order : {l : ℕ} → st.last_non_blank ≡ Some l → (n + 3 ≤ l) × (l ≤ p.tree.now.count) × (l + 1 ≤ p.tree.now.capacity)
  ends-order el = let o = last-order ends.holds el in (o.0, o.1, omega (arith, ends.room, o))

  module _ {l : ℕ} (el : st.last_non_blank ≡ Some l) {m₀ : Marks} (words : m₀.words ≡ p.tree.now.words) (capacity : m₀.capacity ≡ p.tree.now.capacity)
      (count : m₀.count ≡ l) where
    module _ {c : ℕ} (ec : c ≡ unwrap_or st.common_indent (length p.source.bytes.now)) (p₁ : Parser) (source : p₁.source ≡ p.source)
        (g : Settled p.source.bytes.now (n + 1) c m₀ p₁.tree.now) where
      settled : SettledTo p.source.bytes.now p.tree.now.capacity n p.tree.now.words.now p₁.tree.now.words.now l c
      settled = rw (words, capacity, count) at g.settled

      bytes₁ : p₁.source.bytes ≡ p.source.bytes
      bytes₁ = ap (λ (s : Source). s.bytes) source

      capacity₁ : p₁.tree.now.capacity ≡ p.tree.now.capacity
      capacity₁ = g.same.capacity ∙ capacity

      count₁ : p₁.tree.now.count ≡ l
      count₁ = g.count ∙ count

      pub ends-trimmable : Trimmable p₁
      ends-trimmable =
          record {
            some = omega (arith, ends-order el, count₁);
            room = omega (arith, ends-order el, count₁, capacity₁);
            within = rw (bytes₁, capacity₁, count₁) (trim-within ends.holds el c ec settled ends.inside);
          }

      module _ {p₂ : Parser} (w : Trimmed p₁ p₂) where
        trimmed : TrimmedTo p.source.bytes.now p.tree.now.capacity p₁.tree.now.words.now p₂.tree.now.words.now l
        trimmed = rw (bytes₁, capacity₁, count₁) at w.trimmed

        capacity₂ : p₂.tree.now.capacity ≡ p.tree.now.capacity
        capacity₂ = w.kept.frame.tree.capacity ∙ capacity₁

        count₂ : p₂.tree.now.count ≡ l
        count₂ = w.kept.count ∙ count₁

        pub ends-room : p₂.tree.now.count + 1 ≤ p₂.tree.now.capacity
        ends-room = omega (arith, ends-order el, count₂, capacity₂)

        pub end-some : {p' : Parser} → p'.source ≡ p₂.source → Wrote p₂.tree.now p'.tree.now (word 111 0 ∷ []) → Ended n p p' st true
        end-some {p'} a z =
            let u : Step p.tree.now.capacity l p₂.tree.now.words.now p'.tree.now.words.now (word 111 0 ∷ []) = rw (capacity₂, count₂) at z.step in
            let v : p'.source.ptr ≡ p.source.ptr =
            ap (λ (s : Source). s.ptr) a ∙ w.kept.place ∙ ap (λ (s : Source). s.ptr) source in
            let m : p'.tree.now.count ≡ l + 1 = omega (arith, z.count, count₂) in
            record {
              frame = record {
                bytes = ap (λ (s : Source). s.bytes) a ∙ w.kept.frame.bytes ∙ bytes₁;
                tree = record {
                  words = z.same.words ∙ w.kept.frame.tree.words ∙ g.same.words ∙ rw words;
                  capacity = z.same.capacity ∙ capacity₂;
                };
              };
              place = v;
              did = λ at from t₀ d i hd. rw v (pattern-did hd el c ec settled i trimmed m u);
            }
