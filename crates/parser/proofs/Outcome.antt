-- What the reading call leaves in its slices: the words of the tree and of the errors, or zeros.
use Prim.Native.Nat.{ℕ, ◌+◌, ◌-◌, ◌*◌, ◌≤◌, ◌<◌}
use native.Mathlib.Omega.{arith}
use mathlib.Core.Path.{◌≡◌, refl, sym, ap, ap₂, ◌∙◌}
use mathlib.Core.List.{List, ◌∷◌, ◌++◌}
use mathlib.Core.Bool.{false}
use mathlib.Core.Option.{Option, some, none}
use lib.Dec.{ltb}
use borrow.Author.Tests.{lt-ltb, le-ltb}
use lib.ListN.{length, take, drop, replicate}
use Rattle.syntax.specs.Limits.{max_open}
use Rattle.syntax.specs.Marks.{Mark}
use Rattle.syntax.specs.Core.{Error, Reading, read, refused, parse}
use Rattle.syntax.specs.Layout.{tree_layout, error_layout, array, tree_words, error_words}
use Rattle.std.proofs.Common.{Result, Ok, Err}
use Rattle.syntax.specs.Answer.{Answer, effect_of, slice_by, slice_after}
use Rattle.syntax.specs.Reading.{answer_of, read_answer, tree_after, errors_after, marks_of, errors_of}
use Rattle.syntax.specs.Tests.{source_refusal, tested_of}
use Rattle.syntax.specs.declared.answer.Refusal.{Refusal}
use Rattle.syntax.specs.declared.answer.Refusal.TheVariants.{TooLong, NotUtf8, TreeTooShort, ErrorsTooShort, TooDeep}
use Rattle.utf8.specs.Utf8.{first_ill_formed}
use Rattle.laws.specs.Bytes.{by_case}
use Rattle.laws.specs.File.{parse-read}
use Rattle.laws.specs.Tests.{refusal-of}
use Rattle.entry.specs.Tree.{words_at, Step}
use Rattle.parser.specs.ErrorList.{ErrorStep}
use Rattle.parser.specs.Laid.{finished}
use Rattle.laws.specs.Answered.{answered}
use Rattle.parser.specs.Call.{Sized, parsed_of, DidParse, DidReadInto, DidRead}
use Rattle.parser.specs.declared.resource.Counts.{Counts}
use Rattle.parser.proofs.Words.{kinds-are, places-are}

tree-finished : (cap : ℕ) (t t₁ : List ℕ) (ms : List Mark) → Step cap 0 t t₁ (words_at 0 ms) → length ms ≤ cap → 2 + 2 * cap ≤ length t
    → finished cap (length ms) cap (length ms) t₁ ≡ tree_words cap ms ++ drop (2 + 2 * cap) t
unfolding finished tree_words
tree-finished cap t t₁ ms s h l =
    let e : 2 + cap + cap ≡ 2 + 2 * cap = omega arith in
    ap (λ (r : List ℕ). length ms ∷ cap ∷ r)
    (ap₂ (λ (a b : List ℕ). a ++ b)
    (ap₂ (λ (a b : List ℕ). array cap a ++ array cap b) (kinds-are cap t t₁ ms s h l) (places-are cap t t₁ ms s h l))
    (ap (λ k. drop k t₁) e ∙ s.rest))

errors-finished : (cap : ℕ) (t t₁ : List ℕ) (es : List Error) → ErrorStep cap 0 t t₁ es
    → finished cap (length es) (6 * cap) (6 * length es) t₁ ≡ error_words cap es ++ drop (2 + 7 * cap) t
unfolding finished error_words
errors-finished cap t t₁ es s =
    let e : 2 + cap + 6 * cap ≡ 2 + 7 * cap = omega arith in
    let n : 0 + length es ≡ length es = omega arith in
    ap (λ (r : List ℕ). length es ∷ cap ∷ r)
    (ap₂ (λ (a b : List ℕ). a ++ b)
    (ap₂ (λ (a b : List ℕ). array cap a ++ array (6 * cap) b) (ap (λ k. take k (drop 2 t₁)) (sym n) ∙ s.kinds)
    (ap (λ k. take (6 * k) (drop (2 + cap) t₁)) (sym n) ∙ s.groups))
    (ap (λ k. drop k t₁) e ∙ s.rest))

zeroed-all : (n : ℕ) (t t₁ : List ℕ) → drop n t₁ ≡ drop n t → take 0 t₁ ++ (replicate (n - 0) 0 ++ drop n t₁) ≡ replicate n 0 ++ drop n t
zeroed-all n t t₁ e = let z : n - 0 ≡ n = omega arith in ap₂ (λ (k : ℕ) (r : List ℕ). replicate k 0 ++ r) z e

module _ (s t t₁ e e₁ : List ℕ) (r : Result Counts ℕ) (z : Sized s t e) (d : DidParse s t t₁ e e₁ r (parse max_open s)) where
  pub record Counted (c : Counts) : Type 0 where
    pub ms : List Mark
    pub es : List Error
    pub reads : parse max_open s ≡ read ms es
    pub marks : c.marks ≡ length ms
    pub errors : c.errors ≡ length es
    pub room : length ms ≤ 8 * length s
    pub few : length es ≤ length s

  pub counted : (c : Counts) → r ≡ Ok c → Counted c
  counted c h = go (parse max_open s) refl
    where
      go : (o : Reading) → parse max_open s ≡ o → Counted c
      go (read ms es) q =
          let u = parse-read max_open s q in
          let a : r ≡ Ok (record { marks = length ms; errors = length es }) = d.answers ∙ ap parsed_of q in
          let same : c ≡ (record { marks = length ms; errors = length es }) = cc in
          record { ms = ms; es = es; reads = q; marks = ap (λ (x : Counts). x.marks) same; errors = ap (λ (x : Counts). x.errors) same; room = omega (arith, u.0.room); few = u.1 }
      go (refused j) q = let a : r ≡ Err j = d.answers ∙ ap parsed_of q in let y : ◌≡◌ {A = ℕ} 0 1 = cc in absurd (omega arith)

  pub accepted : (k : Counts) (t₂ e₂ : List ℕ) → r ≡ Ok k → t₂ ≡ finished (8 * length s) k.marks (8 * length s) k.marks t₁
      → e₂ ≡ finished (length s) k.errors (6 * length s) (6 * k.errors) e₁
      → DidReadInto s t t₂ e e₂ (Ok 0)
  unfolding answer_of slice_after effect_of slice_by marks_of errors_of
  accepted k t₂ e₂ h x y =
      let c = counted k h in
      let step : Step (8 * length s) 0 t t₁ (words_at 0 c.ms) = rw c.reads at d.tree in
      let rows : ErrorStep (length s) 0 e e₁ c.es = rw c.reads at d.errors in
      record {
        answers = rw c.reads;
        tree =
            rw c.reads
            (x ∙ ap (λ j. finished (8 * length s) j (8 * length s) j t₁) c.marks
            ∙ tree-finished (8 * length s) t t₁ c.ms step c.room z.tree);
        errors =
            rw c.reads
            (y ∙ ap (λ j. finished (length s) j (6 * length s) (6 * j) e₁) c.errors
            ∙ errors-finished (length s) e e₁ c.es rows);
      }

  pub too-deep : (j : ℕ) (t₂ e₂ : List ℕ) → r ≡ Err j
      → t₂ ≡ take 0 t₁ ++ (replicate (tree_layout (length s) - 0) 0 ++ drop (tree_layout (length s)) t₁)
      → e₂ ≡ take 0 e₁ ++ (replicate (error_layout (length s) - 0) 0 ++ drop (error_layout (length s)) e₁) → DidReadInto s t t₂ e e₂ (Err (TooDeep j))
  unfolding answer_of slice_after effect_of slice_by
  too-deep j t₂ e₂ h x y = go (parse max_open s) refl
    where
      go : (o : Reading) → parse max_open s ≡ o → DidReadInto s t t₂ e e₂ (Err (TooDeep j))
      go (read ms es) q = let a : r ≡ Ok (record { marks = length ms; errors = length es }) = d.answers ∙ ap parsed_of q in
          let w : ◌≡◌ {A = ℕ} 0 1 = cc in absurd (omega arith)
      go (refused k) q =
          let a : r ≡ Err k = d.answers ∙ ap parsed_of q in
          let same : j ≡ k = cc in
          record {
            answers = rw q (ap (λ i. Err (TooDeep i)) same);
            tree = rw q (x ∙ zeroed-all (tree_layout (length s)) t t₁ d.tree.rest);
            errors = rw q (y ∙ zeroed-all (error_layout (length s)) e e₁ d.errors.rest);
          }

-- the tests before the reading, in their order
module _ (s t e : List ℕ) where
  pub source-refused : (r : Refusal) → Err r ≡ tested_of (source_refusal s) → DidRead s t t e e (Err r)
  unfolding read_answer tree_after errors_after slice_after effect_of slice_by source_refusal
  source-refused r h =
      by_case (ltb 1000000 (length s))
      (λ q.
      let g = rw (q, source_refusal) at found in
      let same : r ≡ TooLong (length s) = cc in
      record { answers = answered (rw (q, read_answer) (ap (λ x. Err x) same)); tree = rw (q, read_answer); errors = rw (q, read_answer) })
      (λ q. go q (first_ill_formed s) refl (rw (q, source_refusal) at found))
    where
      found : source_refusal s ≡ some r
      found = refusal-of _ _ h

      go : ltb 1000000 (length s) ≡ false → (o : Option ℕ) → first_ill_formed s ≡ o
          → elim o as (λ _. Option Refusal) [ some k ↦ some (NotUtf8 k) | none ↦ none ] ≡ some r → DidRead s t t e e (Err r)
      go q none f g = let z : ◌≡◌ {A = ℕ} 0 1 = cc in absurd (omega arith)
      go q (some k) f g = let same : r ≡ NotUtf8 k = cc in
          record {
            answers = answered (rw (q, read_answer, f) (ap (λ x. Err x) same));
            tree = rw (q, read_answer, f);
            errors = rw (q, read_answer, f);
          }

  module _ (h : length s ≤ 1000000) where
    short : ltb 1000000 (length s) ≡ false
    short = le-ltb 1000000 (length s) h

    module _ (f : first_ill_formed s ≡ none) where
      pub tree-short : {n : ℕ} → n ≡ tree_layout (length s) → length t < n → DidRead s t t e e (Err (TreeTooShort n))
      unfolding read_answer tree_after errors_after slice_after effect_of slice_by
      tree-short n l =
          let q = lt-ltb (length t) (tree_layout (length s)) (omega (arith, n, l)) in
          record {
            answers = answered (rw (short, read_answer, f, q) (ap (λ i. Err (TreeTooShort i)) n));
            tree = rw (short, read_answer, f, q);
            errors = rw (short, read_answer, f, q);
          }

      module _ {n k : ℕ} (a : n ≡ tree_layout (length s)) (l : n ≤ length t) (b : k ≡ error_layout (length s)) where
        roomy : ltb (length t) (tree_layout (length s)) ≡ false
        roomy = le-ltb (length t) (tree_layout (length s)) (omega (arith, a, l))

        pub errors-short : length e < k → DidRead s t t e e (Err (ErrorsTooShort k))
        unfolding read_answer tree_after errors_after slice_after effect_of slice_by
        errors-short g =
            let q = lt-ltb (length e) (error_layout (length s)) (omega (arith, b, g)) in
            record {
              answers = answered (rw (short, read_answer, f, roomy, q) (ap (λ i. Err (ErrorsTooShort i)) b));
              tree = rw (short, read_answer, f, roomy, q);
              errors = rw (short, read_answer, f, roomy, q);
            }

        pub none-short : (t' e' : List ℕ) (r : Answer) → k ≤ length e → DidReadInto s t t' e e' r → DidRead s t t' e e' r
        unfolding read_answer tree_after errors_after
        none-short t' e' r g d =
            let q = le-ltb (length e) (error_layout (length s)) (omega (arith, b, g)) in
            record {
              answers = answered (rw (short, read_answer, f, roomy, q) d.answers);
              tree = rw (short, read_answer, f, roomy, q) d.tree;
              errors = rw (short, read_answer, f, roomy, q) d.errors;
            }
