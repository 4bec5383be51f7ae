-- The marks of a pattern's elements, once settled and trimmed, are those that the definition gives.
use Rattle.std.specs.Prelude.{unwrap_or, ◌≡◌, ℕ, zero, suc, ◌+◌, ◌-◌, ◌≤◌, min, true, false, List, [], ◌∷◌, ◌++◌, map, length, take, drop}
use mathlib.Core.Path.{refl, sym, ap, ap₂, ◌∙◌}
use mathlib.Core.List.{append_assoc, append-nil}
use mathlib.Core.Option.{Option, some, none}
use Rattle.std.specs.Prelude.{Option as Maybe}
use native.Mathlib.Nat.{add_assoc, min-eq_left}
use native.Mathlib.Omega.{arith}
use borrow.Author.Tests.{ne_eqb}
use lib.Dec.{eqb-suc-zero}
use lib.ListN.{length-append, length-drop}
use lib.Seq.{drop-drop}
use Rattle.syntax.specs.Kind as Kind
use Rattle.syntax.specs.Bytes.{spaces}
use Rattle.syntax.specs.Marks.{Mark, plain, placed, move_up, node, text_node}
use Rattle.syntax.specs.Pattern.{Element, placeable, text, dedented, trimmed, text_marks, element_marks}
use Rattle.laws.specs.Bytes.{spaces-le}
use Rattle.laws.specs.Moving.{map-append}
use Rattle.laws.specs.Bounds.Pattern.{dedented-le}
use Rattle.entry.specs.Tree.{Word, word, words_at}
use Rattle.entry.specs.Settle.{settle_word, trimmed_end, trim_words, Within}
use Rattle.entry.specs.Elements.{opening, provisional_of, provisional, Low, SoundOne, Sound}
use Rattle.entry.specs.Texts.{option_of}
use Rattle.entry.proofs.Dids.{words_append, words-length, node-words}
use Rattle.entry.proofs.Settle.{line_word, other_word}

pub provisional-append : (at : ℕ) (es fs : List Element) → provisional at (es ++ fs) ≡ provisional at es ++ provisional at fs
unfolding provisional
provisional-append at [] fs = refl
provisional-append at (e ∷ es) fs =
    rw (provisional-append at es fs) (sym (append_assoc (provisional_of at e) (provisional at es) (provisional at fs)))

-- the common indent as a number: at least any indent if there is none
abbrev pub Common : List ℕ → Option ℕ → ℕ → Type 0
Common s none n = length s ≤ n
Common s (some c) n = n ≡ c

pub common-or : (s : List ℕ) (c : Option ℕ) (o : Maybe ℕ) → o ≡ option_of c → Common s c (unwrap_or o (length s))
common-or s none o e = rw e (omega arith)
common-or s (some c) o e = rw e refl

-- ---- elements that are settled and not trimmed
abbrev settled_of : Option ℕ → Element → List Mark
settled_of c (placeable ms) = node Kind.placeable ms
settled_of c (text a e i l) = text_node Kind.text (dedented c a i l) e

abbrev settled : Option ℕ → List Element → List Mark
settled c [] = []
settled c (e ∷ es) = settled_of c e ++ settled c es

low-append : (ms ns : List Mark) → Low ms → Low ns → Low (ms ++ ns)
low-append [] ns p q = q
low-append (m ∷ ms) ns p q = (p.0, low-append ms ns p.1 q)

settle-low : (s : List ℕ) (common at : ℕ) (ms : List Mark) → Low ms → map (settle_word s common) (words_at at ms) ≡ words_at at ms
unfolding words_at move_up
settle-low s common at [] l = refl
settle-low s common at (plain k ∷ ms) l =
    ap₂ (λ (w : Word) (ws : List Word). w ∷ ws) (other_word s common k 0 (λ e. omega (arith, l.0)))
    (settle-low s common at ms l.1)
settle-low s common at (placed k p ∷ ms) l =
    ap₂ (λ (w : Word) (ws : List Word). w ∷ ws) (other_word s common k (at + p) (λ e. omega (arith, l.0)))
    (settle-low s common at ms l.1)

dedent : (s : List ℕ) (c : Option ℕ) (common at a i : ℕ) → Common s c common → i ≡ spaces (drop a (drop at s))
    → at + a + min (spaces (drop (at + a) s)) common ≡ at + dedented c a i true
unfolding dedented
dedent s none common at a i h e =
    let q : spaces (drop (at + a) s) ≡ i = ap spaces (sym (drop-drop a at s)) ∙ sym e in
    let l = spaces-le (drop (at + a) s) in
    let z = length-drop (at + a) s in
    let m : min i common ≡ i = min-eq_left (omega arith) in
    rw (q, m) (add_assoc at a i)
dedent s (some k) common at a i h e =
    let q : spaces (drop (at + a) s) ≡ i = ap spaces (sym (drop-drop a at s)) ∙ sym e in
    rw (q, h) (add_assoc at a (min i k))

settle-element : (s : List ℕ) (c : Option ℕ) (common at : ℕ) (e : Element) → Common s c common → SoundOne (drop at s) e
    → map (settle_word s common) (provisional_of at e) ≡ words_at at (settled_of c e)
unfolding provisional_of opening words_at move_up node text_node
settle-element s c common at (placeable ms) h l =
    settle-low s common at (node Kind.placeable ms) (omega arith, low-append ms (plain 113 ∷ []) l (omega arith, tt))
settle-element s c common at (text a e i true) h l =
    ap₂ (λ (w v : Word). w ∷ v ∷ [])
    (line_word s common 200 (at + a) refl ∙ ap (word 12) (dedent s c common at a i h (l.2 refl)))
    (other_word s common 112 (at + e) (λ q. omega arith))
settle-element s c common at (text a e i false) h l = unfold dedented in
    ap₂ (λ (w v : Word). w ∷ v ∷ []) (other_word s common 12 (at + a) (λ q. omega arith))
    (other_word s common 112 (at + e) (λ q. omega arith))

settle-elements : (s : List ℕ) (c : Option ℕ) (common at : ℕ) (es : List Element) → Common s c common → Sound (drop at s) es
    → map (settle_word s common) (provisional at es) ≡ words_at at (settled c es)
unfolding provisional
settle-elements s c common at [] h l = unfold words_at move_up in refl
settle-elements s c common at (e ∷ es) h l =
    map-append (settle_word s common) (provisional_of at e) (provisional at es)
    ∙ ap₂ (λ (w v : List Word). w ++ v) (settle-element s c common at e h l.0) (settle-elements s c common at es h l.1)
    ∙ sym (words_append at (settled_of c e) (settled c es))

-- ---- the last text is trimmed
trim-cons : (s : List ℕ) (w : Word) (ws : List Word) → 2 ≤ length ws → trim_words s (w ∷ ws) ≡ w ∷ trim_words s ws
unfolding trim_words
trim-cons s w [] h = absurd (omega arith)
trim-cons s w (v ∷ []) h = absurd (omega arith)
trim-cons s (word k a) (word j e ∷ u ∷ ws) h = refl

within-cons : (s : List ℕ) (w : Word) (ws : List Word) → 2 ≤ length ws → (Within s ws → Within s (w ∷ ws))
    × (Within s (w ∷ ws) → Within s ws)
unfolding Within
within-cons s w [] h = absurd (omega arith)
within-cons s w (v ∷ []) h = absurd (omega arith)
within-cons s (word k a) (word j e ∷ u ∷ ws) h = (λ q. q, λ q. q)

longer : (xs ws : List Word) → 2 ≤ length ws → 2 ≤ length (xs ++ ws)
longer xs ws h = rw length-append (omega arith)

pub trim-length : (s : List ℕ) (ws : List Word) → length (trim_words s ws) ≡ length ws
unfolding trim_words
trim-length s [] = refl
trim-length s (w ∷ []) = refl
trim-length s (word k a ∷ word j e ∷ []) = refl
trim-length s (word k a ∷ word j e ∷ u ∷ ws) = ap suc (trim-length s (word j e ∷ u ∷ ws))

pub trim-append : (s : List ℕ) (xs ws : List Word) → 2 ≤ length ws → trim_words s (xs ++ ws) ≡ xs ++ trim_words s ws
trim-append s [] ws h = refl
trim-append s (x ∷ xs) ws h = trim-cons s x (xs ++ ws) (longer xs ws h) ∙ ap (λ (l : List Word). x ∷ l) (trim-append s xs ws h)

pub within-append : (s : List ℕ) (xs ws : List Word) → 2 ≤ length ws → (Within s ws → Within s (xs ++ ws))
    × (Within s (xs ++ ws) → Within s ws)
within-append s [] ws h = (λ q. q, λ q. q)
within-append s (x ∷ xs) ws h =
    let one = within-cons s x (xs ++ ws) (longer xs ws h) in
    let more = within-append s xs ws h in
    (λ q. one.0 (more.0 q), λ q. more.1 (one.1 q))

-- a last mark that closes no text
trim-other : (s : List ℕ) (xs : List Word) (j p : ℕ) → (j ≡ 112 → ⊥) → trim_words s (xs ++ (word j p ∷ [])) ≡ xs ++ (word j p ∷ [])
unfolding trim_words
trim-other s [] j p f = refl
trim-other s (word k a ∷ []) j p f = rw (trim_words, ne_eqb j 112 f)
trim-other s (x ∷ y ∷ xs) j p f = trim-cons s x (y ∷ (xs ++ (word j p ∷ []))) (rw length-append (omega arith))
    ∙ ap (λ (l : List Word). x ∷ l) (trim-other s (y ∷ xs) j p f)

within-other : (s : List ℕ) (xs : List Word) (j p : ℕ) → (j ≡ 112 → ⊥) → Within s (xs ++ (word j p ∷ []))
unfolding Within
within-other s [] j p f = tt
within-other s (word k a ∷ []) j p f = λ e. absurd (f e)
within-other s (x ∷ y ∷ xs) j p f =
    (within-cons s x (y ∷ (xs ++ (word j p ∷ []))) (rw length-append (omega arith))).0 (within-other s (y ∷ xs) j p f)

two-words : (c : Option ℕ) (at : ℕ) (e : Element) (es : List Element) → 2 ≤ length (words_at at (settled c (e ∷ es)))
two-words c at e es = rw (words-length, length-append) (go e)
  where
    go : (e : Element) → 2 ≤ length (settled_of c e) + length (settled c es)
    go (placeable ms) = unfold node in (rw length-append (omega arith))
    go (text a e i l) = unfold text_node in omega arith

end-at : (s : List ℕ) (at a e : ℕ) → trimmed_end s (at + a) (at + e) ≡ at + (a + trimmed (take (e - a) (drop a (drop at s))))
unfolding trimmed_end
end-at s at a e = let q : at + e - (at + a) ≡ e - a = omega arith in rw (q, drop-drop a at s) (add_assoc at a _)

trim-last : (s : List ℕ) (c : Option ℕ) (at : ℕ) (e : Element) (es : List Element)
    → trim_words s (words_at at (settled c (e ∷ []))) ≡ words_at at (element_marks (drop at s) c 1 (e ∷ es))
unfolding element_marks text_marks
trim-last s c at (placeable ms) es =
    rw (append-nil, node-words at 13 ms) (trim-other s (word 13 0 ∷ words_at at ms) 113 0 (λ e. omega arith))
trim-last s c at (text a e i l) es = unfold trim_words text_node words_at move_up in
    (ap (λ (p : ℕ). word 12 (at + dedented c a i l) ∷ word 112 p ∷ []) (end-at s at (dedented c a i l) e))

-- an element that is not the last
inner-marks : (x : List ℕ) (c : Option ℕ) (n : ℕ) (e : Element) (es : List Element)
    → element_marks x c (suc (suc n)) (e ∷ es) ≡ settled_of c e ++ element_marks x c (suc n) es
unfolding element_marks
inner-marks x c n (placeable ms) es = refl
inner-marks x c n (text a e i l) es = unfold text_marks in (rw (eqb-suc-zero n))

trim-elements : (s : List ℕ) (c : Option ℕ) (at n : ℕ) (es : List Element) → suc n ≤ length es
    → trim_words s (words_at at (settled c (take (suc n) es))) ≡ words_at at (element_marks (drop at s) c (suc n) es)
trim-elements s c at n [] h = absurd (omega arith)
trim-elements s c at zero (e ∷ es) h = trim-last s c at e es
trim-elements s c at (suc n) (e ∷ []) h = absurd (omega arith)
trim-elements s c at (suc n) (e ∷ f ∷ es) h =
    ap (trim_words s) (words_append at (settled_of c e) (settled c (take (suc n) (f ∷ es))))
    ∙ trim-append s (words_at at (settled_of c e)) (words_at at (settled c (take (suc n) (f ∷ es)))) (two-words c at f (take n es))
    ∙ ap (λ (l : List Word). words_at at (settled_of c e) ++ l) (trim-elements s c at n (f ∷ es) (omega arith))
    ∙ sym (words_append at (settled_of c e) (element_marks (drop at s) c (suc n) (f ∷ es)))
    ∙ ap (words_at at) (sym (inner-marks (drop at s) c n e (f ∷ es)))

within-elements : (s : List ℕ) (c : Option ℕ) (at : ℕ) (es : List Element) → at ≤ length s → Sound (drop at s) es
    → Within s (words_at at (settled c es))
within-elements s c at [] h l = unfold Within words_at move_up in tt
within-elements s c at (placeable ms ∷ []) h l =
    rw (append-nil, node-words at 13 ms) (within-other s (word 13 0 ∷ words_at at ms) 113 0 (λ e. omega arith))
within-elements s c at (text a e i v ∷ []) h l = unfold Within text_node words_at move_up in
    (λ q. let d = dedented-le c a i v in let z = length-drop at s in (omega (arith, l.0.0), omega (arith, l.0.1)))
within-elements s c at (e ∷ f ∷ es) h l =
    rw (words_append at (settled_of c e) (settled c (f ∷ es)))
    ((within-append s (words_at at (settled_of c e)) (words_at at (settled c (f ∷ es))) (two-words c at f es)).0
    (within-elements s c at (f ∷ es) h l.1))

-- ---- the first k elements of a pattern, settled and trimmed, are the definition's marks; and the last of them lies in the source
sound-take : (x : List ℕ) (k : ℕ) (es : List Element) → Sound x es → Sound x (take k es)
sound-take x zero es h = tt
sound-take x (suc k) [] h = tt
sound-take x (suc k) (e ∷ es) h = (h.0, sound-take x k es h.1)

module _ (s : List ℕ) (c : Option ℕ) (common at k : ℕ) (es : List Element) (h : Common s c common) (l : Sound (drop at s) es) where
  settled-words : map (settle_word s common) (provisional at (take k es)) ≡ words_at at (settled c (take k es))
  settled-words = settle-elements s c common at (take k es) h (sound-take (drop at s) k es l)

  pub kept-marks : k ≤ length es
      → trim_words s (map (settle_word s common) (provisional at (take k es)))
      ≡ words_at at (element_marks (drop at s) c k es)
  kept-marks i = ap (trim_words s) settled-words ∙ go k i
    where
      go : (k : ℕ) → k ≤ length es → trim_words s (words_at at (settled c (take k es))) ≡ words_at at (element_marks (drop at s) c k es)
      go zero i = unfold trim_words element_marks words_at move_up in refl
      go (suc k) i = trim-elements s c at k es i

  pub kept-within : at ≤ length s → Within s (map (settle_word s common) (provisional at (take k es)))
  kept-within i = rw settled-words (within-elements s c at (take k es) i (sound-take (drop at s) k es l))
