-- What the state of the reading's pattern loop grows by, against the raw elements of the grammar: a placeable, a text
-- with what follows it, blank lines.
use Rattle.std.specs.Prelude.{ℕ, suc, ◌+◌, ◌-◌, ◌≤◌, ◌<◌, min, ◌≡◌, ◌⊎◌, Bool, true, drop, length, take}
use native.Mathlib.Omega.{arith}
use Rattle.std.proofs.Math.Path.{refl, sym, ap, ap₂}
use Rattle.std.proofs.Common.{◌∙◌, eq-eqb, ne_eqb}
use Rattle.std.proofs.Math.Logic.{inl, inr}
use Rattle.std.proofs.Math.Bool.{false}
use mathlib.Core.List.{List, [], ◌∷◌, ◌++◌}
use Rattle.std.proofs.Math.Option.{Option, some, none}
use Rattle.std.proofs.Math.Seq.{drop-drop, take-add}
use Rattle.syntax.specs.Bytes.{all}
use Rattle.syntax.specs.Marks.{Mark, move_up, node}
use Rattle.syntax.specs.Pattern as Pattern
use Rattle.syntax.specs.Pattern.{State, least_indent}
use Rattle.laws.specs.Bytes.{by_case}
use Rattle.laws.specs.Moving.{move_up-twice}
use Rattle.standard.specs.Dialect as Dialect
use Rattle.standard.specs.Dialect.{rust}
use Rattle.standard.specs.Abstract.{Line, Raw, text, lines, indent, brace-indent, placeable, least, common, cut}
use Rattle.standard.specs.Abstract.{dedented, pieces, width, Element, joined, nested, A6, A7, onto, is_space}
use Rattle.standard.specs.Abstract.{bytes_of, trim_last}
use Rattle.standard.specs.Same.{node-up}
use Rattle.standard.specs.Blocks.{Ended}
use Rattle.standard.specs.Dedent.{run_of, onto-touch, onto-apart, A6-span, A6-two, A6-lines, feeds, feed_from}
use Rattle.standard.specs.Dedent.{Shown, Match, shown-text, shown-placeable, trim-blank, Live, Idle, Passed}
use Rattle.standard.specs.Dedent.{Keeps, passed-one, keeps-one, trimmed-feed, cut-within}

-- The common indent
-- ---------------------------------------------------------------------------------------------------------------------------

abbrev pub both : Option ℕ → Option ℕ → Option ℕ
both none d = d
both (some c) none = some c
both (some c) (some d) = some (min c d)

pub both-none : (c : Option ℕ) → both c none ≡ c
both-none none = refl
both-none (some c) = refl

-- an indent that counts
pub both-least : (c : Option ℕ) (i : ℕ) (d : Option ℕ) → both (least_indent c i) d ≡ both c (least i d)
unfolding least_indent least
both-least none i none = refl
both-least none i (some d) = refl
both-least (some c) i none = ap some (omega arith)
both-least (some c) i (some d) = ap some (omega arith)

-- the indent 0
pub both_zero : (c d : Option ℕ) → both (some 0) d ≡ both c (least 0 d)
unfolding least
both_zero none none = refl
both_zero none (some d) = refl
both_zero (some c) none = ap some (omega arith)
both_zero (some c) (some d) = ap some (omega arith)

-- Elements
-- ------------------------------------------------------------------------------------------------------------------------------------

-- the elements that raw elements at p make
unfoldable pub made : ℕ → List Raw → Option ℕ → List Element
made p rs c = A6 rust (pieces rust c p rs)

pub made-text : (p m : ℕ) (rs : List Raw) (c : Option ℕ) → 0 < m → made p (text m ∷ rs) c ≡ onto rust false p (p + m) (made (p + m) rs c)
unfolding made pieces
made-text p m rs c h = A6-span p (p + m) (pieces rust c (p + m) rs) (omega arith)

pub made-indented : (p n m : ℕ) (rs : List Raw) (c : Option ℕ) → 0 < m
    → made p (indent n ∷ text m ∷ rs) c ≡ onto rust false (p + cut c n) (p + n + m) (made (p + n + m) rs c)
unfolding made pieces dedented
made-indented p n m rs c h =
    A6-two (p + cut c n) (p + n) (p + n + m) (pieces rust c (p + n + m) rs) (omega (arith, cut-within c n))
    (omega arith)

pub made-lines : (p : ℕ) (ls : List Line) (rs : List Raw) (c : Option ℕ) → Ended ls
    → made p (lines ls ∷ rs) c ≡ feeds c p ls (made (p + width ls) rs c)
unfolding made pieces
made-lines p ls rs c h = A6-lines c p ls (pieces rust c (p + width ls) rs) h

pub made-placeable : (p : ℕ) (ms : List Mark) (k : ℕ) (rs : List Raw) (c : Option ℕ)
    → made p (placeable ms k ∷ rs) c ≡ nested (move_up p ms) ∷ made (p + k) rs c
unfolding made pieces A6
made-placeable p ms k rs c = refl

pub made-brace : (p n : ℕ) (rs : List Raw) (c : Option ℕ) → made p (brace-indent n ∷ rs) c ≡ made (p + n) rs c
unfolding made pieces rust Dialect.all
made-brace p n rs c = refl

-- a text before a newline, and before CR LF
pub onto-lf : (c : Option ℕ) (a e : ℕ) (ls : List Line) (es : List Element)
    → onto rust false a e (feeds c e (record { spaces = 0; ending = 1 } ∷ ls) es) ≡ joined (run_of a (e + 1)) []
    ∷ feeds c (e + 1) ls es
unfolding feeds feed_from
onto-lf c a e ls es =
    onto-touch a e (run_of (e + cut c 0) (e + 0 + 1)) [] (feeds c (e + 0 + 1) ls es)
    (eq-eqb e (e + cut c 0) (omega (arith, cut-within c 0)))
    ∙ ap (λ z. joined (run_of a z) [] ∷ feeds c z ls es) (more e)
  where
    more : (e : ℕ) → e + 0 + 1 ≡ e + 1
    more e = omega arith

pub feeds-crlf : (c : Option ℕ) (e : ℕ) (ls : List Line) (es : List Element)
    → feeds c e (record { spaces = 0; ending = 2 } ∷ ls) es ≡ feeds c (e + 1)
    (record { spaces = 0; ending = 1 } ∷ ls) es
unfolding feeds feed_from
feeds-crlf c e ls es = ap₂ (λ x y. joined (run_of x y) [] ∷ feeds c y ls es) start rest
  where
    start : e + 0 + 2 - 1 ≡ e + 1 + cut c 0
    start = omega (arith, cut-within c 0)

    rest : e + 0 + 2 ≡ e + 1 + 0 + 1
    rest = omega arith

pub feeds-lf : (c : Option ℕ) (p : ℕ) (ls : List Line) (es : List Element)
    → feeds c p (record { spaces = 0; ending = 1 } ∷ ls) es ≡ joined (run_of p (p + 1)) [] ∷ feeds c (p + 1) ls es
unfolding feeds feed_from
feeds-lf c p ls es = ap₂ (λ x y. joined (run_of x y) [] ∷ feeds c y ls es) start rest
  where
    start : p + cut c 0 ≡ p
    start = omega (arith, cut-within c 0)

    rest : p + 0 + 1 ≡ p + 1
    rest = omega arith

pub onto-later : (c : Option ℕ) (a e E : ℕ) (ls : List Line) (es : List Element) → e < E
    → onto rust false a e (feeds c E (record { spaces = 0; ending = 1 } ∷ ls) es) ≡ joined (run_of a e) []
    ∷ feeds c E (record { spaces = 0; ending = 1 } ∷ ls) es
unfolding feeds feed_from
onto-later c a e E ls es h =
    onto-apart a e (run_of (E + cut c 0) (E + 0 + 1)) [] (feeds c (E + 0 + 1) ls es)
    (ne_eqb e (E + cut c 0) (λ z. omega arith))

-- Texts
-- ---------------------------------------------------------------------------------------------------------------------------------------

-- where the text of a line starts, by whether it stands at the line's start; and its raw elements
unfoldable pub from_at : Bool → ℕ → ℕ → Option ℕ → ℕ
from_at true p i c = p + cut c i
from_at false p i c = p

unfoldable pub text_raws : Bool → ℕ → ℕ → List Raw → List Raw
text_raws true i m rs = indent i ∷ text m ∷ rs
text_raws false i m rs = text m ∷ rs

-- a text within a line has no indent
abbrev pub Indented : Bool → ℕ → Type 0
Indented true i = Unit {0}
Indented false i = i ≡ 0

from-within : (l : Bool) (p i : ℕ) (c : Option ℕ) → from_at l p i c ≤ p + i
unfolding from_at
from-within true p i c = omega (arith, cut-within c i)
from-within false p i c = omega arith

pub made-raws : (l : Bool) (p i m : ℕ) (rs : List Raw) (c : Option ℕ) → Indented l i → 0 < m
    → made p (text_raws l i m rs) c ≡ onto rust false (from_at l p i c) (p + i + m) (made (p + i + m) rs c)
unfolding from_at text_raws
made-raws true p i m rs c z h = made-indented p i m rs c h
made-raws false p i m rs c z h = made-text p m rs c h ∙ ap (λ e. onto rust false p e (made e rs c)) (same z)
  where
    same : i ≡ 0 → p + m ≡ p + i + m
    same z = omega arith

pub dedent-from : (l : Bool) (k₀ p i : ℕ) (c : Option ℕ) → Pattern.dedented c (k₀ + p) i l ≡ k₀ + from_at l p i c
unfolding from_at Pattern.dedented cut
dedent-from false k₀ p i c = refl
dedent-from true k₀ p i none = omega arith
dedent-from true k₀ p i (some c) = omega arith

all_append : (x y : List ℕ) → all is_space y ≡ false → all is_space (x ++ y) ≡ false
unfolding all
all_append [] y h = h
all_append (b ∷ x) y h = by_case (is_space b) (λ q. rw (q, all_append x y h) refl) (λ q. rw q refl)

module _ (src : List ℕ) (k₀ : ℕ) where
  -- the bytes of a text that is not blank, with some of its indent
  wider : (a b m : ℕ) → a ≤ b → all is_space (take m (drop (k₀ + b) src)) ≡ false
      → all is_space (bytes_of (drop k₀ src) (run_of a (b + m))) ≡ false
  unfolding bytes_of
  wider a b m h q =
      let n : b + m - a ≡ (b - a) + m = omega arith in
      let z : k₀ + a + (b - a) ≡ k₀ + b = omega arith in
      rw (drop-drop a k₀ src, n, take-add (b - a) m (drop (k₀ + a) src), drop-drop (b - a) (k₀ + a) src, z)
      (all_append (take (b - a) (drop (k₀ + a) src)) (take m (drop (k₀ + b) src)) q)

  -- the reading's bytes of it, without and with the newline behind
  same_bytes : (a e E : ℕ) → E ≡ k₀ + e → take (E - (k₀ + a)) (drop (k₀ + a) src) ≡ bytes_of (drop k₀ src) (run_of a e)
  unfolding bytes_of
  same_bytes a e E q = let n : E - (k₀ + a) ≡ e - a = omega arith in rw (n, drop-drop a k₀ src) refl

  feed-bytes : (a e E : ℕ) (r : List ℕ) → a ≤ e → E ≡ k₀ + (e + 1) → drop (k₀ + e) src ≡ 10 ∷ r
      → take (E - (k₀ + a)) (drop (k₀ + a) src) ≡ bytes_of (drop k₀ src) (run_of a e) ++ (10 ∷ [])
  unfolding bytes_of
  feed-bytes a e E r h q d =
      let n : E - (k₀ + a) ≡ (e - a) + 1 = omega arith in
      let z : k₀ + a + (e - a) ≡ k₀ + e = omega arith in
      rw (n, take-add (e - a) 1 (drop (k₀ + a) src), drop-drop (e - a) (k₀ + a) src, z, d, drop-drop a k₀ src) refl

  -- a text at p behind i spaces, m bytes long, as the reading's element: it ends at E, the newline behind it included or not
  module _ (st st₁ : State) (l : Bool) (p i m E : ℕ) (start : st.used ≡ k₀ + p) (z : Indented l i) (more : 0 < m)
      (grows : st₁.elements ≡ st.elements ++ (Pattern.text st.used E i l ∷ [])) where
    matches : (e : ℕ) → E ≡ k₀ + e → (c : Option ℕ) → Match src k₀ c (Pattern.text st.used E i l) (joined (run_of (from_at l p i c) e) [])
    matches e q c = (refl, rw start (dedent-from l k₀ p i c), q)

    pub text-passes : (e : ℕ) → E ≡ k₀ + e → st₁.kept ≡ st.kept
        → Passed src k₀ st st₁ (λ c es. joined (run_of (from_at l p i c) e) [] ∷ es)
    text-passes e q k =
        passed-one src k₀ st st₁ (Pattern.text st.used E i l) (λ c. joined (run_of (from_at l p i c) e) []) grows k
        (matches e q)

    pub text-keeps : (e : ℕ) → E ≡ k₀ + e → st₁.kept ≡ suc (length st.elements) → all is_space (take m (drop (k₀ + (p + i)) src)) ≡ false
        → (e ≡ p + i + m) ⊎ ((e ≡ p + i + m + 1) × ((r : List ℕ) × (drop (k₀ + (p + i + m)) src ≡ 10 ∷ r)))
        → Keeps src k₀ st st₁ (λ c es. joined (run_of (from_at l p i c) e) [] ∷ es)
        (λ c. joined (run_of (from_at l p i c) (p + i + m)) [] ∷ [])
    text-keeps e q k b f =
        keeps-one src k₀ st st₁ (Pattern.text st.used E i l) (λ c. joined (run_of (from_at l p i c) e) [])
        (λ c. joined (run_of (from_at l p i c) (p + i + m)) [] ∷ []) grows k (matches e q) (λ c xs. last f c xs)
      where
        w : Option ℕ → List ℕ
        w c = bytes_of (drop k₀ src) (run_of (from_at l p i c) (p + i + m))

        last : (e ≡ p + i + m) ⊎ ((e ≡ p + i + m + 1) × ((r : List ℕ) × (drop (k₀ + (p + i + m)) src ≡ 10 ∷ r)))
            → (c : Option ℕ) (xs : List Pattern.Element)
            → Shown src k₀ c 0 (Pattern.text st.used E i l ∷ xs)
            (joined (run_of (from_at l p i c) (p + i + m)) [] ∷ [])
        last (inl f) c xs =
            shown-text src k₀ c st.used E i l xs (run_of (from_at l p i c) (p + i + m)) (w c) (w c)
            (rw start (dedent-from l k₀ p i c)) refl (wider (from_at l p i c) (p + i) m (from-within l p i c) b)
            (same_bytes (from_at l p i c) (p + i + m) E (q ∙ ap (λ n. k₀ + n) f)) refl
        last (inr f) c xs =
            shown-text src k₀ c st.used E i l xs (run_of (from_at l p i c) (p + i + m)) (w c) (w c ++ (10 ∷ []))
            (rw start (dedent-from l k₀ p i c)) refl (wider (from_at l p i c) (p + i) m (from-within l p i c) b)
            (feed-bytes (from_at l p i c) (p + i + m) E f.1.0 (omega (arith, from-within l p i c))
            (q ∙ ap (λ n. k₀ + n) f.0) f.1.1)
            (trimmed-feed (w c))

  -- Placeables
  -- --------------------------------------------------------------------------------------------------------------------------------

  place-marks : (used p : ℕ) (ms : List Mark) → used ≡ k₀ + p → node 13 (move_up used ms) ≡ move_up k₀ (move_up p (node 13 ms))
  place-marks used p ms q = rw q (sym (move_up-twice k₀ p (node 13 ms) ∙ node-up (k₀ + p) 13 ms))

  pub place-keeps : (st st₁ : State) (p : ℕ) (ms : List Mark) (fs : Option ℕ → List Element) → st.used ≡ k₀ + p
      → st₁.elements ≡ st.elements ++ (Pattern.placeable (move_up st.used ms) ∷ [])
      → st₁.kept ≡ suc (length st.elements)
      → ((c : Option ℕ) → A7 rust (drop k₀ src) (fs c) ≡ [])
      → Keeps src k₀ st st₁ (λ c es. nested (move_up p (node 13 ms)) ∷ es)
      (λ c. nested (move_up p (node 13 ms)) ∷ fs c)
  place-keeps st st₁ p ms fs q e k h =
      keeps-one src k₀ st st₁ (Pattern.placeable (move_up st.used ms)) (λ c. nested (move_up p (node 13 ms)))
      (λ c. nested (move_up p (node 13 ms)) ∷ fs c) e k
      (λ c. place-marks st.used p ms q)
      (λ c xs. shown-placeable src k₀ c (move_up st.used ms) (move_up p (node 13 ms)) xs (fs c)
      (place-marks st.used p ms q) (h c))

  -- Growth
  -- ------------------------------------------------------------------------------------------------------------------------------------

  -- what the raw elements at p add to a state: nothing, or a blank text that is trimmed away, or elements that are kept
  pub data Content (p : ℕ) (st st' : State) (rs : List Raw) : Type 0 where
    nothing : rs ≡ [] → Idle src k₀ st st' → Content p st st' rs
    blank : (m : ℕ) → rs ≡ text m ∷ [] → 0 < m → all is_space (take m (drop (k₀ + p) src)) ≡ true → Idle src k₀ st st' → Content p st st' rs
    something : Live src k₀ st st' (made p rs) → Content p st st' rs

  -- the same at the start of a line, where no text is blank
  pub data Line-content (p : ℕ) (st st' : State) (rs : List Raw) : Type 0 where
    nothing : rs ≡ [] → Idle src k₀ st st' → Line-content p st st' rs
    something : (r : Raw) (more : List Raw) → rs ≡ r ∷ more → Live src k₀ st st' (made p rs) → Line-content p st st' rs

  abbrev pub Common : State → State → List Raw → Type 0
  Common st st' rs = st'.common ≡ both st.common (common rust rs)

  pub live-as : (st st' : State) (es fs : Option ℕ → List Element) → ((c : Option ℕ) → es c ≡ fs c)
      → Live src k₀ st st' es → Live src k₀ st st' fs
  live-as st st' es fs e h =
      record {
        count = h.count;
        added = h.added;
        elements = h.elements;
        kept = h.kept;
        shown = λ c. rw (e c) at (h.shown c);
      }

  -- nothing is left of a blank text
  blank-goes : (p m : ℕ) (c : Option ℕ) → 0 < m → all is_space (take m (drop (k₀ + p) src)) ≡ true
      → A7 rust (drop k₀ src) (made p (text m ∷ []) c) ≡ []
  unfolding A7 trim_last onto made pieces A6 bytes_of
  blank-goes p m c h q =
      rw (made-text p m [] c h)
      (trim-blank src k₀ (run_of p (p + m)) (take m (drop (k₀ + p) src))
      (let n : p + m - p ≡ m = omega arith in rw (n, drop-drop p k₀ src) refl) q)

  -- a placeable is kept
  pub place-grows : (st st₁ st' : State) (p k : ℕ) (ms : List Mark) (rs : List Raw) → st.used ≡ k₀ + p
      → st₁.elements ≡ st.elements ++ (Pattern.placeable (move_up st.used ms) ∷ [])
      → st₁.kept ≡ suc (length st.elements)
      → Content (p + k) st₁ st' rs → Live src k₀ st st' (made p (placeable (node 13 ms) k ∷ rs))
  unfolding made pieces A6
  place-grows st st₁ st' p k ms rs q e d (nothing z h) =
      live-as st st' _ (made p (placeable (node 13 ms) k ∷ rs)) (λ c. rw z (sym (made-placeable p (node 13 ms) k [] c)))
      ((place-keeps st st₁ p ms (λ c. []) q e d (λ c. unfold A7 in refl)).idle h)
  place-grows st st₁ st' p k ms rs q e d (blank m z g w h) =
      live-as st st' _ (made p (placeable (node 13 ms) k ∷ rs))
      (λ c. rw z (sym (made-placeable p (node 13 ms) k (text m ∷ []) c)))
      ((place-keeps st st₁ p ms (made (p + k) (text m ∷ [])) q e d (λ c. blank-goes (p + k) m c g w)).idle h)
  place-grows st st₁ st' p k ms rs q e d (something h) =
      live-as st st' _ (made p (placeable (node 13 ms) k ∷ rs)) (λ c. sym (made-placeable p (node 13 ms) k rs c))
      ((place-keeps st st₁ p ms (λ c. []) q e d (λ c. unfold A7 in refl)).live h)

  -- A text is kept, or blank: what it adds where something follows, and where nothing does. The reading's element ends at `till`
  pub record Text-step (st st₁ : State) (l : Bool) (p i m till : ℕ) : Type 0 where
    pub live : {st' : State} {es : Option ℕ → List Element} → Live src k₀ st₁ st' es
        → Live src k₀ st st' (λ c. joined (run_of (from_at l p i c) till) [] ∷ es c)
    pub idle : {st' : State} → Idle src k₀ st₁ st'
        → (Live src k₀ st st' (λ c. joined (run_of (from_at l p i c) (p + i + m)) [] ∷ [])) ⊎
        ((all is_space (take m (drop (k₀ + (p + i)) src)) ≡ true) × Idle src k₀ st st')

  pub text-step : (st st₁ : State) (l : Bool) (p i m E till : ℕ) → st.used ≡ k₀ + p → Indented l i → 0 < m
      → st₁.elements ≡ st.elements ++ (Pattern.text st.used E i l ∷ []) → E ≡ k₀ + till
      → (v : Bool) → all is_space (take m (drop (k₀ + (p + i)) src)) ≡ v → (v ≡ true → st₁.kept ≡ st.kept)
      → (v ≡ false → st₁.kept ≡ suc (length st.elements))
      → (till ≡ p + i + m) ⊎ ((till ≡ p + i + m + 1) × ((r : List ℕ) × (drop (k₀ + (p + i + m)) src ≡ 10 ∷ r)))
      → Text-step st st₁ l p i m till
  text-step st st₁ l p i m E till u z h g q true b f n d = let w =
      text-passes st st₁ l p i m E u z h g till q (f refl) in
      record { live = λ x. w.live x; idle = λ x. inr (b, w.idle x) }
  text-step st st₁ l p i m E till u z h g q false b f n d = let w =
      text-keeps st st₁ l p i m E u z h g till q (n refl) b d in
      record { live = λ x. w.live x; idle = λ x. inl (w.idle x) }

  module _ {st st₁ : State} {l : Bool} {p i m till : ℕ} (step : Text-step st st₁ l p i m till) (z : Indented l i) (h : 0 < m) where
    -- at the end of the pattern
    pub text-last : {st' : State} → Idle src k₀ st₁ st'
        → (Live src k₀ st st' (made p (text_raws l i m []))) ⊎
        ((all is_space (take m (drop (k₀ + (p + i)) src)) ≡ true) × Idle src k₀ st st')
    unfolding made pieces A6 onto
    text-last {st'} x = go (step.idle x)
      where
        go : (Live src k₀ st st' (λ c. joined (run_of (from_at l p i c) (p + i + m)) [] ∷ [])) ⊎
            ((all is_space (take m (drop (k₀ + (p + i)) src)) ≡ true) × Idle src k₀ st st')
            → (Live src k₀ st st' (made p (text_raws l i m []))) ⊎
            ((all is_space (take m (drop (k₀ + (p + i)) src)) ≡ true) × Idle src k₀ st st')
        go (inl y) = inl (live-as st st' _ (made p (text_raws l i m [])) (λ c. sym (made-raws l p i m [] c z h)) y)
        go (inr y) = inr y

    -- before a placeable
    pub text-brace : {st' : State} (ms : List Mark) (k : ℕ) (rs : List Raw) → till ≡ p + i + m
        → Live src k₀ st₁ st' (made (p + i + m) (placeable ms k ∷ rs))
        → Live src k₀ st st' (made p (text_raws l i m (placeable ms k ∷ rs)))
    unfolding onto
    text-brace {st'} ms k rs q x =
        live-as st st' _ (made p (text_raws l i m (placeable ms k ∷ rs)))
        (λ c. ap₂ (λ e es. joined (run_of (from_at l p i c) e) [] ∷ es) q (made-placeable (p + i + m) ms k rs c)
        ∙ sym
        (made-raws l p i m (placeable ms k ∷ rs) c z h
        ∙ ap (onto rust false (from_at l p i c) (p + i + m)) (made-placeable (p + i + m) ms k rs c)))
        (step.live x)

    -- before line ends L, of which the reading passes g behind the element
    pub text-lines : {st₂ st' : State} (L : List Line) (g : Option ℕ → List Element → List Element) (rs : List Raw)
        → Ended L
        → ((c : Option ℕ) (es : List Element)
        → onto rust false (from_at l p i c) (p + i + m) (feeds c (p + i + m) L es) ≡ joined
        (run_of (from_at l p i c) till) []
        ∷ g c es)
        → Passed src k₀ st₁ st₂ g → Live src k₀ st₂ st' (made (p + i + m + width L) rs)
        → Live src k₀ st st' (made p (text_raws l i m (lines L ∷ rs)))
    text-lines {st₂} {st'} L g rs d e q x =
        live-as st st' _ (made p (text_raws l i m (lines L ∷ rs)))
        (λ c. sym
        (made-raws l p i m (lines L ∷ rs) c z h
        ∙ ap (onto rust false (from_at l p i c) (p + i + m)) (made-lines (p + i + m) L rs c d)
        ∙ e c (made (p + i + m + width L) rs c)))
        (step.live (q.live x))

  -- line ends with no text before them
  pub lines-grow : (st st₂ st' : State) (p : ℕ) (L : List Line) (g : Option ℕ → List Element → List Element)
      (rs : List Raw)
      → Ended L → ((c : Option ℕ) (es : List Element) → feeds c p L es ≡ g c es)
      → Passed src k₀ st st₂ g → Live src k₀ st₂ st' (made (p + width L) rs) → Live src k₀ st st' (made p (lines L ∷ rs))
  lines-grow st st₂ st' p L g rs d e q x =
      live-as st st' _ (made p (lines L ∷ rs)) (λ c. sym (made-lines p L rs c d ∙ e c (made (p + width L) rs c)))
      (q.live x)
