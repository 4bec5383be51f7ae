-- The entry after a place: where what was read there stopped, what the tests before the reading find, and the first place.
use Prim.Native.Nat.{ℕ, zero, suc, ◌+◌, ◌*◌, ◌≤◌, ◌<◌}
use native.Mathlib.Nat.{add-zero, add_assoc}
use native.Mathlib.Omega.{arith}
use mathlib.Core.Path.{◌≡◌, refl, sym, ap, ap₂, ◌∙◌, subst}
use mathlib.Core.Bool.{Bool, true, false}
use mathlib.Core.List.{List, [], ◌∷◌}
use mathlib.Core.Option.{Option, some, none}
use lib.ListN.{length, drop, length-drop}
use lib.Seq.{drop-drop}
use lib.Dec.{ltb}
use borrow.Author.Tests.{lt-ltb, le-ltb}
use Rattle.utf8.specs.Utf8.{first_ill_formed}
use Rattle.syntax.specs.declared.errors.ParserError.{ParserError}
use Rattle.std.proofs.Common.{Ok, Err, Some, None}
use Rattle.std.proofs.Common.{Option as Maybe}
use Rattle.syntax.specs.declared.answer.Refusal.{Refusal}
use Rattle.syntax.specs.declared.answer.Refusal.TheVariants.{NotUtf8, TreeTooShort}
use Rattle.syntax.specs.declared.next.Extent.{Extent}
use Rattle.syntax.specs.Limits.{max_open}
use Rattle.syntax.specs.Bytes.{is_fresh}
use Rattle.syntax.specs.Reader.{Out, ok, bad, deep}
use Rattle.syntax.specs.Helper.{skip_blank_block}
use Rattle.syntax.specs.Pattern.{used_by}
use Rattle.syntax.specs.Expression.{level}
use Rattle.syntax.specs.Core.{Entry, comment, message, term, get_entry, to_next_entry, line_starts_at, junk_end}
use Rattle.syntax.specs.Layout.{tree_layout}
use Rattle.syntax.specs.Next.{stop_of, first_place, Ahead, entry_at, nothing, short, ahead_from, ahead, stopped, answer_by}
use Rattle.syntax.specs.Next.{Next, next_answer, Scratched, TreeBy, NextTree}
use Rattle.syntax.specs.Tests.{source_refusal, tested_of}
use Rattle.laws.specs.Bytes.{by_case}
use Rattle.laws.specs.Bounds.{bad-within}
use Rattle.laws.specs.Bounds.Expression.{level-bounds}
use Rattle.laws.specs.Bounds.Entry.{entry-bounds}
use Rattle.laws.specs.Progress.{junk-moves}
use Rattle.laws.specs.Tests.{refusal-of, none_of, source-passes}
use Rattle.entry.specs.Did.{told, result_by, plain, answer, Did}
use Rattle.entry.specs.Entry.{entry_of}
use Rattle.entry.specs.Border.{Skipped}
use Rattle.parser.specs.Next.{StopIn, Stoppable, extent_of, stopped_at}
use Rattle.entry.specs.declared.border.BlankBlock.{BlankBlock}
use Rattle.entry.specs.declared.border.EntryRead.{EntryRead}
use Rattle.parser.proofs.Seeks.{starts-past}

-- ---- junk

-- where no entry can start, it does not matter whether a line does
seek-any : (b : ℕ) (bs : List ℕ) → is_fresh b ≡ false → (v w : Bool) → to_next_entry v (b ∷ bs) ≡ to_next_entry w (b ∷ bs)
unfolding to_next_entry
seek-any b bs h true true = refl
seek-any b bs h true false = rw (h, to_next_entry)
seek-any b bs h false true = rw (h, to_next_entry)
seek-any b bs h false false = refl

not-fresh : (b : ℕ) (bs : List ℕ) → 0 < junk_end 0 (b ∷ bs) → is_fresh b ≡ false
unfolding junk_end to_next_entry line_starts_at
not-fresh b bs h = by_case (is_fresh b) (λ q. let g = rw (q, to_next_entry) at h in absurd (omega arith)) (λ q. q)

module _ (s : List ℕ) (a : ℕ) (l : a < length s) where
  -- the search from where reading stopped is the definition's, wherever on its line a is
  seeks : {f : ParserError} (k : ℕ) → get_entry (level max_open) (drop a s) ≡ bad f k
      → to_next_entry (line_starts_at (a + k) s) (drop (a + k) s) ≡ to_next_entry (line_starts_at k (drop a s)) (drop k (drop a s))
  unfolding line_starts_at
  seeks {f} zero h = ap (λ i. to_next_entry (line_starts_at i s) (drop i s)) (add-zero a) ∙ go (drop a s) refl
    where
      go : (r : List ℕ) → drop a s ≡ r → to_next_entry (line_starts_at a s) (drop a s) ≡ to_next_entry true (drop a s)
      go [] q = absurd (omega (arith, ap length q, length-drop a s))
      go (b ∷ bs) q =
          ap (to_next_entry (line_starts_at a s)) q
          ∙ seek-any b bs
          (not-fresh b bs (junk-moves (level max_open) b bs (sym (ap (get_entry (level max_open)) q) ∙ h)))
          (line_starts_at a s) true
          ∙ sym (ap (to_next_entry true) q)
  seeks {f} (suc k) h =
      ap₂ to_next_entry
      (starts-past s a k
      (omega (arith, bad-within (entry-bounds (level-bounds max_open)) (drop a s) h, length-drop a s)))
      (sym (drop-drop (suc k) a s))

  stops_as : (o : Out Entry) → get_entry (level max_open) (drop a s) ≡ o
      → extent_of s a (answer plain a 0 o) ≡ stopped a (stop_of (drop a s) o)
  unfolding stop_of stopped junk_end
  stops_as (ok message ms k) h = refl
  stops_as (ok term ms k) h = refl
  stops_as (ok (comment j) ms k) h = refl
  stops_as (bad f k) h = ap (λ k. Some (record { start = a; stop = k })) (ap (λ i. a + k + i) (seeks k h) ∙ add_assoc a k _)
  stops_as (deep k) h = refl

  pub stoppable : length s ≤ 1000000 → (r : EntryRead)
      → told (result_by entry_of r.entry) r.at r.marks ≡ answer plain a 0 (get_entry (level max_open) (drop a s)) → Stoppable s r
  stoppable m r e = rw e (go (get_entry (level max_open) (drop a s)) refl)
    where
      go : (o : Out Entry) → get_entry (level max_open) (drop a s) ≡ o → StopIn s (answer plain a 0 o)
      go (ok message ms k) h = tt
      go (ok term ms k) h = tt
      go (ok (comment j) ms k) h = tt
      go (bad f k) h =
          record {
            inside =
                omega (arith, bad-within (entry-bounds (level-bounds max_open)) (drop a s) h, length-drop a s);
            short = m;
          }
      go (deep k) h = tt

  -- an entry was read into the tree
  pub entry_read : {t t₁ : List ℕ} (r : EntryRead) {x : Maybe Extent}
      → Did plain (8 * length s) a 0 t t₁ (told (result_by entry_of r.entry) r.at r.marks) (get_entry (level max_open) (drop a s)) → x ≡ stopped_at s a r
      → (x ≡ stopped a (stop_of (drop a s) (get_entry (level max_open) (drop a s)))) × Scratched (tree_layout (length s)) t t₁
  entry_read r d e = (
    e ∙ ap (extent_of s a) d.answers
        ∙ stops_as (get_entry (level max_open) (drop a s)) refl,
    record { long = d.wrote.long; sizes = d.wrote.head; rest = d.wrote.rest },
  )

-- ---- the tests

-- what a call answers, and what it leaves of the tree
abbrev pub Answers : List ℕ → ℕ → List ℕ → List ℕ → Next → Type 0
Answers s at t t' r = (r ≡ next_answer s at (length t)) × NextTree s at t t'

module _ (s : List ℕ) (at : ℕ) (t : List ℕ) where
  -- by what a call finds
  finds : (x : Ahead) (t' : List ℕ) {r : Next} → ahead s at (length t) ≡ x → r ≡ answer_by s x → TreeBy s x t t' → Answers s at t t' r
  unfolding next_answer
  finds x t' h e l = (e ∙ sym (ap (answer_by s) h), subst (λ y. TreeBy s y t t') (sym h) l)

  nothing-there : ahead s at (length t) ≡ nothing → Answers s at t t (Ok None)
  unfolding answer_by
  nothing-there h = finds nothing t h refl refl

  pub asked-long : 1000000 < length s → Answers s at t t (Ok None)
  unfolding ahead
  asked-long h = let q = lt-ltb 1000000 (length s) h in nothing-there (rw (q, ahead))

  module _ (h : length s ≤ 1000000) where
    ahead-is : ahead s at (length t) ≡ ahead_from s (at + used_by (skip_blank_block (drop at s))) (length t)
    unfolding ahead
    ahead-is = let q = le-ltb 1000000 (length s) h in rw (q, ahead)

    end-there : {a : ℕ} → length s ≤ a → ahead_from s a (length t) ≡ nothing
    unfolding ahead_from
    end-there {a} g = let q = le-ltb a (length s) g in rw (q, ahead_from)

    module _ {b : BlankBlock} (w : Skipped s at b) where
      from-there : ahead s at (length t) ≡ ahead_from s b.end (length t)
      from-there = ahead-is ∙ ap (λ i. ahead_from s i (length t)) (sym w.end)

      pub asked-end : length s ≤ b.end → Answers s at t t (Ok None)
      asked-end g = nothing-there (from-there ∙ end-there g)

      module _ (g : b.end < length s) where
        here : ltb b.end (length s) ≡ true
        here = lt-ltb b.end (length s) g

        pub asked-short : {n : ℕ} → n ≡ tree_layout (length s) → length t < n → Answers s at t t (Err (TreeTooShort n))
        unfolding ahead_from answer_by
        asked-short e m =
            let q = lt-ltb (length t) (tree_layout (length s)) (omega (arith, e, m)) in
            finds short t (from-there ∙ rw (here, ahead_from, q)) (ap (λ i. Err (TreeTooShort i)) e) refl

        pub asked_entry : {n : ℕ} → n ≡ tree_layout (length s) → n ≤ length t → {t' : List ℕ} {x : Maybe Extent}
            → (x ≡ stopped b.end (stop_of (drop b.end s) (get_entry (level max_open) (drop b.end s))))
            × Scratched (tree_layout (length s)) t t' → Answers s at t t' (Ok x)
        unfolding ahead_from answer_by
        asked_entry n m {t'} (e, y) = let q = le-ltb (length t) (tree_layout (length s)) (omega (arith, n, m)) in
            finds (entry_at b.end) t' (from-there ∙ rw (here, ahead_from, q)) (ap (λ o. Ok o) e) y

-- ---- the first place

-- it goes by the tests of a source
module _ (s : List ℕ) where
  pub first-passed : Ok tt ≡ tested_of (source_refusal s) → 0 ≡ first_place s
  unfolding first_place
  first-passed e =
      let p = source-passes s (none_of _ e) in
      let q = le-ltb 1000000 (length s) p.0 in
      rw (q, first_place, p.1)

  pub first-refused : (r : Refusal) → Err r ≡ tested_of (source_refusal s) → length s ≡ first_place s
  unfolding first_place source_refusal
  first-refused r e = by_case (ltb 1000000 (length s)) (λ q. rw (q, first_place))
      (λ q. go q (first_ill_formed s) refl (rw (q, source_refusal) at found))
    where
      found : source_refusal s ≡ some r
      found = refusal-of _ _ e

      go : ltb 1000000 (length s) ≡ false → (o : Option ℕ) → first_ill_formed s ≡ o
          → elim o as (λ _. Option Refusal) [ some k ↦ some (NotUtf8 k) | none ↦ none ] ≡ some r → length s ≡ first_place s
      go q none f g = let z : ◌≡◌ {A = ℕ} 0 1 = cc in absurd (omega arith)
      go q (some k) f g = rw (q, first_place, f)
