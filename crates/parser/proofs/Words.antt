-- The arrays of a tree, from its marks.
use Prim.Native.Nat.{ℕ, zero, suc, ◌+◌, ◌*◌, ◌≤◌}
use native.Mathlib.Nat.{add_comm, zero-add}
use native.Mathlib.Omega.{arith}
use mathlib.Core.Path.{◌≡◌, refl, sym, ap, ap₂, ◌∙◌}
use mathlib.Core.List.{List, [], ◌∷◌, ◌++◌, map}
use lib.ListN.{length, get_or, take, drop, length-drop, length-map}
use lib.Seq.{take-suc, get_or-drop}
use Rattle.syntax.specs.Marks.{Mark, kind_of, place_of, move_up}
use Rattle.laws.specs.Moving.{map-append, move_up-zero}
use Rattle.entry.specs.Tree.{Word, word, word_of, words_at, marks_in, Step}

kind_in : Word → ℕ
kind_in (word k p) = k

place_in : Word → ℕ
place_in (word k p) = p

-- an array of the words that f takes from marks, which starts at b
column : (f : Word → ℕ) (b cap : ℕ) → ((n : ℕ) (t : List ℕ) → f (word (get_or t (n + 2) 0) (get_or t (cap + n + 2) 0)) ≡ get_or t (b + n) 0)
    → (n : ℕ) (t : List ℕ) → b + n ≤ length t → map f (marks_in cap n t) ≡ take n (drop b t)
unfolding marks_in
column f b cap e zero t h = refl
column f b cap e (suc n) t h =
    map-append f (marks_in cap n t) _
    ∙ ap₂ (λ (l : List ℕ) (x : ℕ). l ++ (x ∷ [])) (column f b cap e n t (omega arith)) (e n t ∙ sym (get_or-drop b t n 0))
    ∙ sym (take-suc (drop b t) n 0 (rw length-drop (omega arith)))

words-here : (ms : List Mark) → words_at 0 ms ≡ map word_of ms
unfolding words_at
words-here ms = ap (map word_of) (move_up-zero ms)

map-map : (f : Word → ℕ) (g : Mark → ℕ) → ((m : Mark) → f (word_of m) ≡ g m) → (ms : List Mark) → map f (map word_of ms) ≡ map g ms
map-map f g e [] = refl
map-map f g e (m ∷ ms) = ap₂ (λ (x : ℕ) (l : List ℕ). x ∷ l) (e m) (map-map f g e ms)

module _ (cap : ℕ) (t t' : List ℕ) (ms : List Mark) (s : Step cap 0 t t' (words_at 0 ms)) (h : length ms ≤ cap)
    (l : 2 + 2 * cap ≤ length t) where
  marks-are : marks_in cap (length ms) t' ≡ map word_of ms
  unfolding marks_in words_at move_up
  marks-are =
      let n : 0 + length (words_at 0 ms) ≡ length ms = zero-add _ ∙ ap length (words-here ms) ∙ length-map ms word_of in
      ap (λ k. marks_in cap k t') (sym n) ∙ s.marks ∙ words-here ms

  pub kinds-are : take (length ms) (drop 2 t') ≡ map kind_of ms
  unfolding kind_in
  kinds-are =
      sym (column kind_in 2 cap (λ n u. ap (λ k. get_or u k 0) (add_comm n 2)) (length ms) t' (omega (arith, s.long)))
      ∙ ap (map kind_in) marks-are ∙ map-map kind_in kind_of (λ m. refl) ms

  pub places-are : take (length ms) (drop (2 + cap) t') ≡ map place_of ms
  unfolding place_in
  places-are =
      sym
      (column place_in (2 + cap) cap
      (λ n u. let e : cap + n + 2 ≡ 2 + cap + n = omega arith in ap (λ k. get_or u k 0) e) (length ms) t'
      (omega (arith, s.long)))
      ∙ ap (map place_in) marks-are ∙ map-map place_in place_of (λ m. refl) ms
