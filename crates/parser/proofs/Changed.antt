-- A mark whose kind changes: the others stay.
use Prim.Native.Nat.{ℕ, zero, suc, ◌+◌, ◌*◌, ◌≤◌, ◌<◌}
use mathlib.Core.Path.{◌≡◌, refl, sym, ap, ◌∙◌}
use mathlib.Core.List.{List, ◌∷◌, ◌++◌, append_assoc}
use native.Mathlib.Omega.{arith}
use lib.ListN.{length, get_or, take, drop, set, length-set, length-append}
use lib.Seq.{get_or-set_same, get_or-set_other, take-set-le, drop-set-lt, take_at, drop_at}
use Rattle.entry.specs.Tree.{Word, word, marks_in, marks_from, Step}
use Rattle.entry.proofs.Steps.{marks-length, marks-same}
use Rattle.entry.proofs.MarksFrom.{marks-split}

from-same : (cap i c : ℕ) (t t' : List ℕ) → ((j : ℕ) → i ≤ j → get_or t' (j + 2) 0 ≡ get_or t (j + 2) 0)
    → ((j : ℕ) → i ≤ j → get_or t' (cap + j + 2) 0 ≡ get_or t (cap + j + 2) 0)
    → marks_from cap i c t' ≡ marks_from cap i c t
unfolding marks_from
from-same cap i zero t t' f g = refl
from-same cap i (suc c) t t' f g =
    rw (
      from-same cap (i + 1) c t t' (λ j h. f j (omega arith)) (λ j h. g j (omega arith)),
      f i (omega arith),
      g i (omega arith),
    )

pub step-kind : {cap n : ℕ} {t₀ t : List ℕ} (i k k' p : ℕ) (ws vs : List Word) → Step cap n t₀ t (ws ++ (word k p ∷ vs))
    → i ≡ n + length ws → i < cap → i + 2 < length t
    → Step cap n t₀ (set t (i + 2) k') (ws ++ (word k' p ∷ vs))
unfolding marks_from
step-kind {cap} {n} {t₀} {t} i k k' p ws vs s e l g =
    record {
      long = length-set t (i + 2) k' ∙ s.long;
      marks = ap (λ (j : ℕ). marks_in cap j u) (count k') ∙ after ∙ append_assoc (marks_in cap n t₀) ws _;
      head = take-set-le 2 t (i + 2) k' (omega arith) ∙ s.head;
      rest = drop-set-lt (2 + 2 * cap) t (i + 2) k' (omega arith) ∙ s.rest;
    }
  where
    u : List ℕ
    u = set t (i + 2) k'

    count : (q : ℕ) → n + length (ws ++ (word q p ∷ vs)) ≡ i + suc (length vs)
    count q = omega (arith, e, length-append ws (word q p ∷ vs))

    first : List Word
    first = marks_in cap n t₀ ++ ws

    before : marks_in cap i t ++ marks_from cap i (suc (length vs)) t ≡ first ++ (word k p ∷ vs)
    before = sym (marks-split cap i (suc (length vs)) t) ∙ ap (λ (j : ℕ). marks_in cap j t) (sym (count k)) ∙ s.marks
        ∙ sym (append_assoc (marks_in cap n t₀) ws _)

    size : length first ≡ i
    size = length-append (marks_in cap n t₀) ws ∙ rw (marks-length cap n t₀) (sym e)

    left : marks_in cap i t ≡ first
    left = sym (take_at (marks_in cap i t) _ i (marks-length cap i t)) ∙ ap (take i) before ∙ take_at first _ i size

    right : word (get_or t (i + 2) 0) (get_or t (cap + i + 2) 0) ∷ marks_from cap (i + 1) (length vs) t ≡ word k p ∷ vs
    right = sym (drop_at (marks_in cap i t) _ i (marks-length cap i t)) ∙ ap (drop i) before ∙ drop_at first _ i size

    after : marks_in cap (i + suc (length vs)) u ≡ first ++ (word k' p ∷ vs)
    after =
        let kind = get_or-set_same t (i + 2) k' 0 g in
        let place = get_or-set_other t (i + 2) (cap + i + 2) k' 0 (λ e. omega arith) in
        let here : get_or t (cap + i + 2) 0 ≡ p = cc right in
        let rest : marks_from cap (i + 1) (length vs) t ≡ vs = cc right in
        let same =
        marks-same cap i t u (λ j h. get_or-set_other t (i + 2) (j + 2) k' 0 (λ e. omega arith))
        (λ j h. get_or-set_other t (i + 2) (cap + j + 2) k' 0 (λ e. omega arith)) in
        let later =
        from-same cap (i + 1) (length vs) t u (λ j h. get_or-set_other t (i + 2) (j + 2) k' 0 (λ e. omega arith))
        (λ j h. get_or-set_other t (i + 2) (cap + j + 2) k' 0 (λ e. omega arith)) in
        marks-split cap i (suc (length vs)) u ∙ cc (kind, place, here, rest, same, later, left)
