-- Marks in a tree's words: a mark that is put, and steps one after the other.
use Rattle.std.specs.Prelude.{◌≡◌, ℕ, zero, suc, ◌+◌, ◌*◌, ◌<◌, ◌≤◌, List, [], ◌∷◌, ◌++◌, length, get_or, take, drop, set}
use mathlib.Core.Path.{refl, sym, ap, ap₂, ◌∙◌}
use mathlib.Core.List.{append_assoc, append-nil}
use native.Mathlib.Nat.{add-zero, add-suc, add_assoc}
use native.Mathlib.Numerals.{add-one}
use native.Mathlib.Omega.{arith}
use lib.ListN.{length-set, length-append}
use lib.Seq.{get_or-set_same, get_or-set_other, take-set-le, drop-set-lt, take-append-le, take_all, take_at, drop_at}
use Rattle.entry.specs.Tree.{Word, word, marks_in, Step}

pub marks-same : (cap n : ℕ) (t t' : List ℕ) → ((i : ℕ) → i < n → get_or t' (i + 2) 0 ≡ get_or t (i + 2) 0)
    → ((i : ℕ) → i < n → get_or t' (cap + i + 2) 0 ≡ get_or t (cap + i + 2) 0)
    → marks_in cap n t' ≡ marks_in cap n t
unfolding marks_in
marks-same cap zero t t' f g = refl
marks-same cap (suc n) t t' f g =
    rw (marks-same cap n t t' (λ i h. f i (omega arith)) (λ i h. g i (omega arith)), f n (omega arith), g n (omega arith))

pub marks-length : (cap n : ℕ) (t : List ℕ) → length (marks_in cap n t) ≡ n
unfolding marks_in
marks-length cap zero t = refl
marks-length cap (suc n) t = length-append (marks_in cap n t) _ ∙ rw (marks-length cap n t, add-one)

pub marks-next : (cap n : ℕ) (t : List ℕ)
    → marks_in cap (n + 1) t ≡ marks_in cap n t ++ (word (get_or t (n + 2) 0) (get_or t (cap + n + 2) 0) ∷ [])
unfolding marks_in
marks-next cap n t = rw add-one

marks-take : (cap n k : ℕ) (t : List ℕ) → take n (marks_in cap (n + k) t) ≡ marks_in cap n t
unfolding marks_in
marks-take cap n zero t = rw add-zero (take_all n _ (rw (marks-length cap n t) (omega arith)))
marks-take cap n (suc k) t =
    rw add-suc (take-append-le n (marks_in cap (n + k) t) _ (rw (marks-length cap (n + k) t) (omega arith)) ∙ marks-take cap n k t)

pub step-none : (cap n : ℕ) (t : List ℕ) → Step cap n t t []
step-none cap n t = record { long = refl; marks = rw (add-zero, append-nil); head = refl; rest = refl }

-- the mark that stands there
pub step_same : (cap n : ℕ) (t : List ℕ) → Step cap n t t (word (get_or t (n + 2) 0) (get_or t (cap + n + 2) 0) ∷ [])
step_same cap n t = record { long = refl; marks = marks-next cap n t; head = refl; rest = refl }

-- marks that are written may be left uncounted
pub step-prefix : {cap n : ℕ} {t t' : List ℕ} (ws vs : List Word) → Step cap n t t' (ws ++ vs) → Step cap n t t' ws
step-prefix {cap} {n} {t} {t'} ws vs s =
    let e : n + length (ws ++ vs) ≡ n + length ws + length vs = rw length-append (omega arith) in
    let m : length (marks_in cap n t ++ ws) ≡ n + length ws = rw (length-append, marks-length) in
    record {
      long = s.long;
      marks =
          sym (marks-take cap (n + length ws) (length vs) t')
          ∙ ap (λ (k : ℕ). take (n + length ws) (marks_in cap k t')) (sym e) ∙ ap (take (n + length ws)) s.marks
          ∙ ap (take (n + length ws)) (sym (append_assoc (marks_in cap n t) ws vs)) ∙ take_at (marks_in cap n t ++ ws) vs (n + length ws) m;
      head = s.head;
      rest = s.rest;
    }

pub step_cut : {cap n : ℕ} {t t' : List ℕ} {ws : List Word} → Step cap n t t' ws → Step cap n t t' []
step_cut {ws = ws} s = step-prefix [] ws s

pub step_then : {cap n m : ℕ} {t t₁ t₂ : List ℕ} {ws vs : List Word} → Step cap n t t₁ ws → m ≡ n + length ws
    → Step cap m t₁ t₂ vs → Step cap n t t₂ (ws ++ vs)
step_then {cap} {n} {m} {t} {t₁} {t₂} {ws} {vs} s e r =
    let q : marks_in cap (n + length ws + length vs) t₂ ≡ marks_in cap (n + length ws) t₁ ++ vs = rw e at r.marks in
    record {
      long = r.long ∙ s.long;
      marks = rw (length-append ws vs, ← add_assoc) (q ∙ rw s.marks (append_assoc (marks_in cap n t) ws vs));
      head = r.head ∙ s.head;
      rest = r.rest ∙ s.rest;
    }

-- other marks in the place of the last ones
pub step-over : {cap n m : ℕ} {t t₁ t₂ : List ℕ} (us ws : List Word) {vs : List Word} → Step cap n t t₁ (us ++ ws)
    → m ≡ n + length us → Step cap m t₁ t₂ vs → Step cap n t t₂ (us ++ vs)
step-over us ws s e r = step_then (step-prefix us ws s) e r

-- the last marks of a step
pub step-last : {cap n m k : ℕ} {t t₁ : List ℕ} (us ws : List Word) → Step cap n t t₁ (us ++ ws) → m ≡ n + length us
    → k ≡ m + length ws → drop m (marks_in cap k t₁) ≡ ws
step-last {cap} {n} {m} {k} {t} {t₁} us ws s e f =
    let q : k ≡ n + length (us ++ ws) = rw length-append (omega arith) in
    ap (λ (j : ℕ). drop m (marks_in cap j t₁)) q ∙ ap (drop m) (s.marks ∙ sym (append_assoc (marks_in cap n t) us ws))
    ∙ drop_at (marks_in cap n t ++ us) ws m (rw (length-append, marks-length) (sym e))

-- a mark
pub step-put : (cap n : ℕ) (t : List ℕ) (k p : ℕ) → n + 1 ≤ cap → 2 + 2 * cap ≤ length t
    → Step cap n t (set (set t (n + 2) k) (cap + n + 2) p) (word k p ∷ [])
unfolding marks_in
step-put cap n t k p h l =
    let u : List ℕ = set t (n + 2) k in
    record {
      long = simp length-set;
      marks =
          rw add-one
          (ap₂ (λ (a : List Word) (b : Word). a ++ (b ∷ []))
          (marks-same cap n t (set u (cap + n + 2) p)
          (λ i g. get_or-set_other u (cap + n + 2) (i + 2) p 0 (λ e. omega arith) ∙ get_or-set_other t (n + 2) (i + 2) k 0 (λ e. omega arith))
          (λ i g. get_or-set_other u (cap + n + 2) (cap + i + 2) p 0 (λ e. omega arith)
          ∙ get_or-set_other t (n + 2) (cap + i + 2) k 0 (λ e. omega arith)))
          (ap₂ word (get_or-set_other u (cap + n + 2) (n + 2) p 0 (λ e. omega arith) ∙ get_or-set_same t (n + 2) k 0 (omega arith))
          (get_or-set_same u (cap + n + 2) p 0 (simp length-set (omega arith)))));
      head = take-set-le 2 u (cap + n + 2) p (omega arith) ∙ take-set-le 2 t (n + 2) k (omega arith);
      rest = drop-set-lt (2 + 2 * cap) u (cap + n + 2) p (omega arith) ∙ drop-set-lt (2 + 2 * cap) t (n + 2) k (omega arith);
    }

-- a mark, as the code writes it
pub step-set : (cap n : ℕ) (t : List ℕ) (k p : ℕ) → n + 1 ≤ cap → 2 + 2 * cap ≤ length t
    → Step cap n t (set (set t (2 + n) k) (2 + cap + n) p) (word k p ∷ [])
step-set cap n t k p h l =
    let a : 2 + n ≡ n + 2 = omega arith in
    let b : 2 + cap + n ≡ cap + n + 2 = omega arith in
    rw (a, b) (step-put cap n t k p h l)
