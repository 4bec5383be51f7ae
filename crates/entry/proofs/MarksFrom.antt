-- Marks from one on, and a mark that was put before them.
use Rattle.std.specs.Prelude.{◌≡◌, ℕ, zero, suc, ◌+◌, ◌-◌, ◌<◌, List, [], ◌∷◌, ◌++◌, length, get_or, drop}
use mathlib.Core.Path.{sym, ap, ap₂, ◌∙◌}
use mathlib.Core.List.{append_assoc, append-nil}
use native.Mathlib.Nat.{add-zero}
use native.Mathlib.Numerals.{add-one}
use native.Mathlib.Omega.{arith}
use lib.Seq.{drop_at}
use Rattle.entry.specs.Tree.{Word, word, marks_in, marks_from, Step, Inserted}
use Rattle.entry.proofs.Steps.{marks-length, step_cut}

pub next-from : (cap i n : ℕ) (t : List ℕ) → i < n
    → marks_from cap i (n - i) t ≡ word (get_or t (i + 2) 0) (get_or t (cap + i + 2) 0)
    ∷ marks_from cap (i + 1) (n - (i + 1)) t
unfolding marks_from
next-from cap i n t h = let e : n - i ≡ suc (n - (i + 1)) = omega arith in rw e

in-more : (cap i : ℕ) (t : List ℕ) → marks_in cap (i + 1) t ≡ marks_in cap i t ++ (word (get_or t (i + 2) 0) (get_or t (cap + i + 2) 0) ∷ [])
unfolding marks_in
in-more cap i t = rw add-one

-- up to the i-th and from there on
pub marks-split : (cap i c : ℕ) (t : List ℕ) → marks_in cap (i + c) t ≡ marks_in cap i t ++ marks_from cap i c t
unfolding marks_from
marks-split cap i zero t = rw (add-zero, append-nil)
marks-split cap i (suc c) t =
    ap (λ (k : ℕ). marks_in cap k t) (further i c) ∙ marks-split cap (i + 1) c t
    ∙ ap (λ (l : List Word). l ++ marks_from cap (i + 1) c t) (in-more cap i t)
    ∙ append_assoc (marks_in cap i t) _ _
  where
    further : (i c : ℕ) → i + suc c ≡ i + 1 + c
    further i c = omega arith

-- as a step: before the marks that were appended
pub inserted-step : {cap from n : ℕ} {t₀ t t' : List ℕ} {w : Word} {ws : List Word} → Step cap from t₀ t ws
    → n ≡ from + length ws → Inserted cap from n t t' w → Step cap from t₀ t' (w ∷ ws)
inserted-step {cap} {from} {n} {t₀} {t} {t'} {w} {ws} s e g =
    let h : marks_in cap from t ≡ marks_in cap from t₀ = head in
    let c : n - from ≡ length ws = omega arith in
    let d : n + 1 ≡ from + suc (length ws) = omega arith in
    let m : marks_in cap (from + suc (length ws)) t' ≡ marks_in cap from t
    ++ (w ∷ marks_from cap from (length ws) t) = rw (c, d) at g.marks in
    record {
      long = g.long ∙ s.long;
      marks = m ∙ ap₂ (λ (a b : List Word). a ++ (w ∷ b)) h tail;
      head = g.head ∙ s.head;
      rest = g.rest ∙ s.rest;
    }
  where
    head : marks_in cap from t ≡ marks_in cap from t₀
    head = let q = (step_cut s).marks in (rw (add-zero, append-nil) at q)

    tail : marks_from cap from (length ws) t ≡ ws
    tail =
        sym (drop_at (marks_in cap from t) _ from (marks-length cap from t))
        ∙ ap (drop from) (sym (marks-split cap from (length ws) t) ∙ s.marks)
        ∙ drop_at (marks_in cap from t₀) ws from (marks-length cap from t₀)
