-- The definition's state and the code's: what a text and a placeable make of them.
use Rattle.std.specs.Prelude.{◌≡◌, ℕ, suc, ◌+◌, ◌-◌, ◌≤◌, Option, Some, Bool, true, false, not, ◌&&◌, ◌||◌, ltb, List, [], ◌∷◌, ◌++◌, length, take, drop}
use mathlib.Core.Path.{refl, sym, ap, ap₂, ◌∙◌}
use mathlib.Core.List.{append-nil}
use mathlib.Core.Option as maybe
use native.Mathlib.Nat.{zero-min}
use native.Mathlib.Omega.{arith}
use lib.ListN.{length-append, length-drop, drop_of_length-le}
use lib.Seq.{drop-drop, take-append-le, take_all}
use Rattle.syntax.specs.Bytes.{spaces}
use Rattle.syntax.specs.Marks.{Mark, plain, placed, move_up}
use Rattle.syntax.specs.Pattern.{continuation, Slice, Element, placeable, text, State, is_line_start, is_line_feed}
use Rattle.syntax.specs.Pattern.{role_after, least_indent, common_after, is_element}
use Rattle.entry.specs.declared.text.TextElementTermination.{TextElementTermination}
use Rattle.entry.specs.declared.text.TextElementTermination.TheVariants.{LineFeed, Crlf, PlaceableStart, Eof}
use Rattle.entry.specs.declared.text.TextElementPosition.{TextElementPosition}
use Rattle.entry.specs.declared.text.TextElementPosition.TheVariants.{InitialLineStart, LineStart, Continuation}
use Rattle.entry.specs.declared.text.TextSlice.{TextSlice}
use Rattle.entry.specs.Tree.{Word, word, words_at, Step}
use Rattle.entry.specs.Elements.{opening, provisional_of, provisional, Low, SoundOne, Sound}
use Rattle.entry.specs.Settle.{NoLines}
use Rattle.entry.specs.Slice.{ending_of, slice_of, crlf_width, width_of, is_feed, position_after}
use Rattle.entry.specs.Texts.{role_of, starts_line, least_of, is_part, part_words, count_after, last_after, least_after, lines_of, lines_after}
use Rattle.entry.specs.Texts.{Standing, option_of, text_words, after_text, Holds}
use Rattle.entry.proofs.Steps.{step_then}
use Rattle.entry.proofs.Dids.{words_up, words-length, node-words}
use Rattle.entry.proofs.Settle.{no_lines-both, no_lines-add}
use Rattle.entry.proofs.Elements.{provisional-append}

-- ---- the enums of the code and those of the definition
line_same : (p : TextElementPosition) → is_line_start (role_of p) ≡ starts_line p
unfolding is_line_start
line_same InitialLineStart = refl
line_same LineStart = refl
line_same Continuation = refl

feed-same : (e : TextElementTermination) → is_line_feed (ending_of e) ≡ is_feed e
unfolding is_line_feed
feed-same LineFeed = refl
feed-same Crlf = refl
feed-same PlaceableStart = refl
feed-same Eof = refl

role_same : (e : TextElementTermination) → role_after (ending_of e) ≡ role_of (position_after e)
unfolding role_after
role_same LineFeed = refl
role_same Crlf = refl
role_same PlaceableStart = refl
role_same Eof = refl

pub line-is : (d : State) (p : TextElementPosition) → d.role ≡ role_of p → is_line_start d.role ≡ starts_line p
line-is d p e = ap is_line_start e ∙ line_same p

part_same : (d : State) (p : TextElementPosition) (x : TextSlice) → d.role ≡ role_of p → is_element d (slice_of x) ≡ is_part (starts_line p) x
unfolding is_element is_part
part_same d p x e = ap₂ (λ (l f : Bool). ltb 0 x.size && (not l || (not x.blank || f))) (line-is d p e) (feed-same x.ending)

-- ---- the common indent
least : (c : maybe.Option ℕ) (o : Option ℕ) (i : ℕ) → o ≡ option_of c → least_of true i o ≡ option_of (least_indent c i)
unfolding least_indent
least maybe.none o i e = rw e
least (maybe.some c) o i e = rw e

common-by : (c : maybe.Option ℕ) (o : Option ℕ) (i : ℕ) (z l b f : Bool) → o ≡ option_of c
    → least_after (z && (not l || (not b || f))) b l i o ≡ option_of (elim (z && (l && not b)) [ true ↦ least_indent c i | false ↦ c ])
common-by c o i false l true f e = e
common-by c o i false l false f e = e
common-by c o i true true true true e = e
common-by c o i true true true false e = e
common-by c o i true false true f e = e
common-by c o i true true false f e = least c o i e
common-by c o i true false false f e = e

common-same : (d : State) (p : TextElementPosition) (o : Option ℕ) (i : ℕ) (x : TextSlice) → d.role ≡ role_of p → o ≡ option_of d.common
    → least_after (is_part (starts_line p) x) x.blank (starts_line p) i o ≡ option_of (common_after d i (slice_of x))
unfolding common_after is_part
common-same d p o i x e g = rw (option_of, line-is d p e) (common-by d.common o i (ltb 0 x.size) (starts_line p) x.blank (is_feed x.ending) g)

-- ---- one more element
module _ (at : ℕ) (es : List Element) (e : Element) where
  add_words : provisional at (es ++ (e ∷ [])) ≡ provisional at es ++ provisional_of at e
  unfolding provisional
  add_words = provisional-append at es (e ∷ []) ∙ ap (λ (l : List Word). provisional at es ++ l) (append-nil (provisional_of at e))

  add-count : (n : ℕ) {m : ℕ} → m ≡ n + 1 + length (provisional at es)
      → m + length (provisional_of at e) ≡ n + 1 + length (provisional at (es ++ (e ∷ [])))
  add-count n h = rw (add_words, length-append) (omega arith)

  add-wrote : {cap n m : ℕ} {t t₁ t₂ : List ℕ} {w : Word} → Step cap n t t₁ (w ∷ provisional at es) → m ≡ n + 1 + length (provisional at es)
      → Step cap m t₁ t₂ (provisional_of at e)
      → Step cap n t t₂ (w ∷ provisional at (es ++ (e ∷ [])))
  add-wrote h c g = rw add_words (step_then h (omega arith) g)

  add-old : (k : ℕ) → k ≤ length es → take k (es ++ (e ∷ [])) ≡ take k es
  add-old k h = take-append-le k es (e ∷ []) h

  add-new : take (suc (length es)) (es ++ (e ∷ [])) ≡ es ++ (e ∷ [])
  add-new = take_all (suc (length es)) (es ++ (e ∷ [])) (rw length-append (omega arith))

  add-few : suc (length es) ≤ length (es ++ (e ∷ []))
  add-few = rw length-append (omega arith)

sound-add : (x : List ℕ) (es : List Element) (e : Element) → Sound x es → SoundOne x e → Sound x (es ++ (e ∷ []))
sound-add x [] e p q = (q, tt)
sound-add x (f ∷ es) e p q = (p.0, sound-add x es e p.1 q)

-- ---- a text
-- the definition's state after a text
abbrev pub text_state : State → ℕ → Slice → ℕ → State
text_state d i t k =
    record {
      role = role_after t.ending;
      elements =
          elim
          (is_element d t) [
            | true ↦ d.elements
                ++ (text d.used (d.used + i + t.size) i (is_line_start d.role) ∷ [])
            | false ↦ d.elements
          ];
      kept = elim (is_element d t && not t.blank) [ true ↦ suc (length d.elements) | false ↦ d.kept ];
      common = common_after d i t;
      used = d.used + (i + k);
    }

-- the element that a text is
abbrev part_of : State → ℕ → TextSlice → Element
part_of d i x = text d.used (d.used + i + x.size) i (is_line_start d.role)

-- the two states after it, by whether it is an element and whether it is blank
abbrev standing_by : Standing → ℕ → TextSlice → Bool → Bool → Standing
standing_by st a x v b =
    record {
      at = a + x.size + crlf_width x.ending;
      n = count_after v st.n;
      role = position_after x.ending;
      last_non_blank = last_after v b st.n st.last_non_blank;
      common_indent = least_after v b (starts_line st.role) (a - st.at) st.common_indent;
      lines = lines_after v (starts_line st.role) st.n st.lines;
    }

abbrev state_by : State → ℕ → TextSlice → Bool → Bool → State
state_by d i x v b =
    record {
      role = role_after (ending_of x.ending);
      elements = elim v [ true ↦ d.elements ++ (part_of d i x ∷ []) | false ↦ d.elements ];
      kept = elim (v && not b) [ true ↦ suc (length d.elements) | false ↦ d.kept ];
      common = common_after d i (slice_of x);
      used = d.used + (i + width_of x);
    }

module _ {s : List ℕ} {cap at n : ℕ} {t t₁ : List ℕ} {st : Standing} {d : State} (a : ℕ) (x : TextSlice)
    (h : Holds s cap at n t t₁ st d) (order : st.at ≤ a) (inside : a + x.size ≤ length s)
    (spaced : starts_line st.role ≡ true → a - st.at ≡ spaces (drop st.at s)) where
  abbrev part : Element
  part = part_of d (a - st.at) x

  part_sound : SoundOne (drop at s) part
  part_sound =
      let z = length-drop at s in
      let p = h.place in (
        omega arith,
        omega arith,
        λ l. spaced (sym (line-is d st.role h.role) ∙ l)
            ∙ ap (λ (k : ℕ). spaces (drop k s)) p ∙ ap spaces (sym (drop-drop d.used at s)),
      )

  part-words : provisional_of at part ≡ part_words true (starts_line st.role) st.at (a + x.size)
  unfolding provisional_of
  part-words =
      let p = h.place in
      let q : at + (d.used + (a - st.at) + x.size) ≡ a + x.size = omega arith in
      rw (line-is d st.role h.role, q, ← p)

  part-lines : NoLines (drop (lines_of (starts_line st.role) (st.n + 2) st.lines - (n + 1)) (provisional at (d.elements ++ (part ∷ []))))
  unfolding opening
  part-lines = rw (add_words at d.elements part) (go (starts_line st.role) part-words)
    where
      go : (l : Bool) → provisional_of at part ≡ part_words true l st.at (a + x.size)
          → NoLines (drop (lines_of l (st.n + 2) st.lines - (n + 1)) (provisional at d.elements ++ provisional_of at part))
      go true e =
          rw (drop_of_length-le (provisional at d.elements ++ provisional_of at part) {i = st.n + 2 - (n + 1)}
          (rw (length-append, e) (omega (arith, h.count)))) tt
      go false e =
          no_lines-add (st.lines - (n + 1)) (provisional at d.elements) (provisional_of at part) h.lines
          (rw e (λ q. omega arith, (λ q. omega arith, tt)))

  text-by : {t₂ : List ℕ} (v b : Bool) → Step cap st.n t₁ t₂ (part_words v (starts_line st.role) st.at (a + x.size))
      → least_after v b (starts_line st.role) (a - st.at) st.common_indent ≡ option_of (common_after d (a - st.at) (slice_of x))
      → Holds s cap at n t t₂ (standing_by st a x v b) (state_by d (a - st.at) x v b)
  text-by {t₂} false b w c =
      let p = h.place in
      record {
        role = role_same x.ending;
        place = omega arith;
        count = h.count;
        wrote = rw append-nil at (step_then h.wrote (omega (arith, h.count)) w);
        kept = h.kept;
        few = h.few;
        common = c;
        lines = h.lines;
        sound = h.sound;
      }
  text-by {t₂} true true w c =
      let p = h.place in
      let g : Step cap st.n t₁ t₂ (provisional_of at part) = rw part-words w in
      let l : length (provisional_of at part) ≡ 2 = rw part-words in
      record {
        role = role_same x.ending;
        place = omega arith;
        count = rw l at (add-count at d.elements part n h.count);
        wrote = add-wrote at d.elements part h.wrote h.count g;
        kept = rw (add-old at d.elements part d.kept h.few) h.kept;
        few = omega (arith, h.few, add-few at d.elements part);
        common = c;
        lines = part-lines;
        sound = sound-add (drop at s) d.elements part h.sound part_sound;
      }
  text-by {t₂} true false w c =
      let p = h.place in
      let g : Step cap st.n t₁ t₂ (provisional_of at part) = rw part-words w in
      let l : length (provisional_of at part) ≡ 2 = rw part-words in
      let q : st.n + 2 ≡ n + 1 + length (provisional at (d.elements ++ (part ∷ []))) =
      rw l at (add-count at d.elements part n h.count) in
      record {
        role = role_same x.ending;
        place = omega arith;
        count = q;
        wrote = add-wrote at d.elements part h.wrote h.count g;
        kept = rw (add-new at d.elements part) (ap Some q);
        few = add-few at d.elements part;
        common = c;
        lines = part-lines;
        sound = sound-add (drop at s) d.elements part h.sound part_sound;
      }

  pub holds_text : {t₂ : List ℕ} → Step cap st.n t₁ t₂ (text_words st a x)
      → Holds s cap at n t t₂ (after_text st a x) (text_state d (a - st.at) (slice_of x) (width_of x))
  holds_text w =
      let c = common-same d st.role st.common_indent (a - st.at) x h.role h.common in
      rw (part_same d st.role x h.role) (text-by (is_part (starts_line st.role) x) x.blank w c)

-- ---- a placeable
low_up : (k : ℕ) (ms : List Mark) → Low ms → Low (move_up k ms)
unfolding move_up
low_up k [] l = tt
low_up k (plain i ∷ ms) l = (l.0, low_up k ms l.1)
low_up k (placed i p ∷ ms) l = (l.0, low_up k ms l.1)

low-lines : (at : ℕ) (ms : List Mark) → Low ms → NoLines (words_at at ms)
unfolding words_at move_up
low-lines at [] l = tt
low-lines at (plain k ∷ ms) l = (λ e. omega (arith, l.0), low-lines at ms l.1)
low-lines at (placed k p ∷ ms) l = (λ e. omega (arith, l.0), low-lines at ms l.1)

-- the definition's state after a placeable of k bytes with the marks ms
abbrev pub placed_state : State → List Mark → ℕ → State
placed_state d ms k =
    record {
      role = continuation;
      elements = d.elements ++ (placeable (move_up d.used ms) ∷ []);
      kept = suc (length d.elements);
      common = elim (is_line_start d.role) [ true ↦ maybe.some 0 | false ↦ d.common ];
      used = d.used + k;
    }

common-placed : (c : maybe.Option ℕ) (o : Option ℕ) (l : Bool) → o ≡ option_of c
    → least_of l 0 o ≡ option_of (elim l [ true ↦ maybe.some 0 | false ↦ c ])
common-placed maybe.none o true h = rw h
common-placed (maybe.some c) o true h = rw h (ap Some (zero-min c))
common-placed c o false h = h

-- the code's state after a placeable, which ends at e after m marks
abbrev pub placed_standing : Standing → ℕ → ℕ → Standing
placed_standing st e m =
    record {
      at = e;
      n = m;
      role = Continuation;
      last_non_blank = Some m;
      common_indent = least_of (starts_line st.role) 0 st.common_indent;
      lines = st.lines;
    }

module _ {s : List ℕ} {cap at n : ℕ} {t t₁ t₂ : List ℕ} {st : Standing} {d : State} (h : Holds s cap at n t t₁ st d)
    (ms : List Mark) (low : Low ms)
    (w : Step cap st.n t₁ t₂ ((word 13 0 ∷ words_at st.at ms) ++ (word 113 0 ∷ []))) where
  placed-words : provisional_of at (placeable (move_up d.used ms)) ≡ (word 13 0 ∷ words_at st.at ms) ++ (word 113 0 ∷ [])
  unfolding provisional_of
  placed-words =
      node-words at 13 (move_up d.used ms)
      ∙ ap (λ (l : List Word). (word 13 0 ∷ l) ++ (word 113 0 ∷ []))
      (words_up at d.used ms ∙ ap (λ (k : ℕ). words_at k ms) (sym h.place))

  placed-lines : NoLines (drop (st.lines - (n + 1)) (provisional at (d.elements ++ (placeable (move_up d.used ms) ∷ []))))
  placed-lines =
      rw (add_words at d.elements (placeable (move_up d.used ms)))
      (no_lines-add (st.lines - (n + 1)) (provisional at d.elements) (provisional_of at (placeable (move_up d.used ms))) h.lines
      (rw placed-words
      (λ q. omega arith, no_lines-both (words_at st.at ms) (word 113 0 ∷ []) (low-lines st.at ms low) (λ q. omega arith, tt))))

  pub holds-placeable : (k : ℕ) {e m : ℕ} → e ≡ st.at + k → m ≡ st.n + 2 + length ms
      → Holds s cap at n t t₂ (placed_standing st e m) (placed_state d ms k)
  holds-placeable k {e} {m} ee em =
      let p = h.place in
      let es = d.elements in
      let o = placeable (move_up d.used ms) in
      let z = length-append (word 13 0 ∷ words_at st.at ms) (word 113 0 ∷ []) in
      let y = words-length st.at ms in
      let l : length (provisional_of at o) ≡ 2 + length ms = rw placed-words (omega arith) in
      let q : m ≡ n + 1 + length (provisional at (es ++ (o ∷ []))) = let c = add-count at es o n h.count in omega arith in
      record {
        role = refl;
        place = omega arith;
        count = q;
        wrote = add-wrote at es o h.wrote h.count (rw placed-words w);
        kept = rw (add-new at es o) (ap Some q);
        few = add-few at es o;
        common =
            rw (option_of, line-is d st.role h.role) (common-placed d.common st.common_indent (starts_line st.role) h.common);
        lines = placed-lines;
        sound = sound-add (drop at s) es o h.sound (low_up d.used ms low);
      }
