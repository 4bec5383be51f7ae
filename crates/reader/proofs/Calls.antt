-- Calls one after the other: from the first place on a reader answers the entries of its source in order, and then that
-- none is left (`reader-tells`), for ever
-- (`end-tells`). A call that is lent too short a tree says so, and leaves the reader where it was (`short-stays`).
use Prim.Native.Nat.{ℕ, suc, ◌+◌, ◌≤◌, ◌<◌}
use native.Mathlib.Omega.{arith}
use Rattle.std.proofs.Math.Path.{◌≡◌, refl, ap}
use Rattle.std.proofs.Common.{sym, ◌∙◌}
use Rattle.std.specs.Prelude.{true, false, List, [], ◌∷◌, drop, ltb, Ok, Err, Some, None}
use Rattle.std.proofs.Math.Option.{Option, some, none}
use Rattle.std.proofs.Math.ListN.{length, length-drop}
use borrow.Author.Tests.{lt-ltb, le-ltb, ltb-true}
use Rattle.utf8.specs.Utf8.{first_ill_formed}
use Rattle.syntax.specs.declared.answer.Refusal.TheVariants.{TreeTooShort}
use Rattle.syntax.specs.Limits.{max_length, max_open}
use Rattle.syntax.specs.Expression.{level}
use Rattle.syntax.specs.Layout.{tree_layout}
use Rattle.syntax.specs.declared.next.Extent.{Extent}
use Rattle.syntax.specs.Next.{parse_extents, entries_of, first_place, Ahead, entry_at, nothing, short, ahead_from}
use Rattle.syntax.specs.Next.{ahead, stopped, answer_by, next_answer, place_after}
use Rattle.laws.specs.Bytes.{by_case, pick}
use Rattle.laws.specs.Bounds.Expression.{level-bounds}
use Rattle.reader.specs.Calls.{answers, told, Long}
use Rattle.reader.specs.Extents.{stop_at, ups-zero, rest_extents, start_after, stop-within, rest-nil, rest-none, rest_some}

-- ---- one call

-- the entries after a place
unfoldable pub entries_after : List ℕ → ℕ → List Extent
entries_after s at = elim (ltb max_length (length s)) [ true ↦ [] | false ↦ rest_extents max_open s at ]

-- refusal 1 holds, or it does not
data Tested (s : List ℕ) : Type 0 where
  refused : ((at m : ℕ) → ahead s at m ≡ nothing) → ((at : ℕ) → entries_after s at ≡ []) → Tested s
  passed : ((at m : ℕ) → ahead s at m ≡ ahead_from s (start_after s at) m)
      → ((at : ℕ) → entries_after s at ≡ rest_extents max_open s at) → Tested s

tested : (s : List ℕ) → Tested s
unfolding ahead entries_after
tested s =
    by_case (ltb max_length (length s)) (λ q. refused (λ at m. rw (q, ahead)) (λ at. rw (q, entries_after)))
    (λ q. passed (λ at m. rw (q, ahead)) (λ at. rw (q, entries_after)))

-- nothing stands after the end
module _ (s : List ℕ) where
  end_empty : drop (start_after s (length s)) s ≡ []
  end_empty = let a = start_after s (length s) in empty (drop a s) (omega (arith, length-drop a s))
    where
      empty : (r : List ℕ) → length r ≡ 0 → r ≡ []
      empty [] h = refl
      empty (b ∷ bs) h = absurd (omega arith)

  end_after : entries_after s (length s) ≡ []
  end_after = go (tested s)
    where
      go : Tested s → entries_after s (length s) ≡ []
      go (refused p q) = q (length s)
      go (passed p q) = q (length s) ∙ rest-nil max_open s (length s) end_empty

-- those after the first place are all
module _ (s : List ℕ) where
  -- by refusal 2
  by-formed : ltb max_length (length s) ≡ false → (o : Option ℕ) → first_ill_formed s ≡ o → entries_after s (first_place s) ≡ entries_of s
  unfolding first_place entries_of
  by-formed q (some k) h = ap (entries_after s) first ∙ end_after s ∙ none_of
    where
      first : first_place s ≡ length s
      first = rw (q, first_place, h)

      none_of : [] ≡ entries_of s
      none_of = rw (q, entries_of, h)
  by-formed q none h = ap (entries_after s) first ∙ after ∙ ups-zero (parse_extents max_open s) ∙ all_of
    where
      first : first_place s ≡ 0
      first = rw (q, first_place, h)

      after : entries_after s 0 ≡ rest_extents max_open s 0
      after = unfold entries_after in rw (q, entries_after)

      all_of : parse_extents max_open s ≡ entries_of s
      all_of = rw (q, entries_of, h)

  pub after_first : entries_after s (first_place s) ≡ entries_of s
  unfolding entries_after entries_of
  after_first = by_case (ltb max_length (length s)) (λ q. rw (q, entries_after) (rw (q, entries_of))) (λ q. by-formed q (first_ill_formed s) refl)

  pub first-within : first_place s ≤ length s
  unfolding first_place
  first-within = pick (λ i. i ≤ length s) (ltb max_length (length s)) _ _ (λ _. omega arith) (λ _. go (first_ill_formed s))
    where
      go : (o : Option ℕ) → elim o [ some k ↦ length s | none ↦ 0 ] ≤ length s
      go (some k) = omega arith
      go none = omega arith

-- what a call answers is the first of the entries after the place, or that there is none
pub data Answered (s : List ℕ) (at m : ℕ) : Type 0 where
  ends : next_answer s at m ≡ Ok None → entries_after s at ≡ [] → Answered s at m
  finds : {a e : ℕ} → next_answer s at m ≡ Ok (Some (record { start = a; stop = e }))
      → entries_after s at ≡ record { start = a; stop = e } ∷ entries_after s e → at ≤ a → a < e → e ≤ length s
      → Answered s at m

module _ (s : List ℕ) where
  answer-nothing : (at m : ℕ) → ahead s at m ≡ nothing → next_answer s at m ≡ Ok None
  unfolding next_answer answer_by
  answer-nothing at m h = ap (answer_by s) h

  none_ahead : (a m : ℕ) → drop a s ≡ [] → ahead_from s a m ≡ nothing
  unfolding ahead_from
  none_ahead a m h = let q = le-ltb a (length s) (omega (arith, ap length h, length-drop a s)) in rw (q, ahead_from)

  some-ahead : (a m b : ℕ) (bs : List ℕ) → drop a s ≡ b ∷ bs → tree_layout (length s) ≤ m → ahead_from s a m ≡ entry_at a
  unfolding ahead_from
  some-ahead a m b bs h l =
      let p = lt-ltb a (length s) (omega (arith, ap length h, length-drop a s)) in
      let q = le-ltb m (tree_layout (length s)) l in
      rw (p, ahead_from) (rw q)

  pub answered : (at m : ℕ) → tree_layout (length s) ≤ m → Answered s at m
  unfolding next_answer answer_by stopped
  answered at m l = test (tested s)
    where
      a : ℕ
      a = start_after s at

      test : Tested s → Answered s at m
      test (refused p q) = ends (answer-nothing at m (p at m)) (q at)
      test (passed p q) = go (drop a s) refl
        where
          go : (r : List ℕ) → drop a s ≡ r → Answered s at m
          go [] h = ends (answer-nothing at m (p at m ∙ none_ahead a m h)) (q at ∙ rest-nil max_open s at h)
          go (b ∷ bs) h = by (stop_at (level max_open) (b ∷ bs)) refl
            where
              is : (o : Option ℕ) → stop_at (level max_open) (b ∷ bs) ≡ o → next_answer s at m ≡ Ok (stopped a o)
              is o e = ap (answer_by s) (p at m ∙ some-ahead a m b bs h l) ∙ ap (λ z. Ok (stopped a z)) (ap (stop_at (level max_open)) h ∙ e)

              by : (o : Option ℕ) → stop_at (level max_open) (b ∷ bs) ≡ o → Answered s at m
              by (some k) e =
                  let w = stop-within (level-bounds max_open) b bs e in
                  finds (is (some k) e)
                  (q at ∙ rest_some max_open s at b bs h e
                  ∙ ap (λ xs. record { start = a; stop = a + k } ∷ xs) (sym (q (a + k))))
                  (omega arith) (omega (arith, w)) (omega (arith, w, ap length h, length-drop a s))
              by none e = ends (is none e) (q at ∙ rest-none max_open s at b bs h e)

  -- at the end
  end_none : (m : ℕ) → next_answer s (length s) m ≡ Ok None
  end_none m = go (tested s)
    where
      go : Tested s → next_answer s (length s) m ≡ Ok None
      go (refused p q) = answer-nothing (length s) m (p (length s) m)
      go (passed p q) = answer-nothing (length s) m (p (length s) m ∙ none_ahead (start_after s (length s)) m (end_empty s))

-- ---- calls one after the other

-- once none is left, none is: a reader is then at the end, and looks at no tree
pub end-tells : (s ms : List ℕ) → answers s (length s) ms ≡ told [] (length ms)
unfolding answers told
end-tells s [] = refl
end-tells s (m ∷ ms) = ap (λ r. r ∷ answers s (place_after s (length s) r) ms) (end_none s m) ∙ ap (λ r. Ok None ∷ r) (end-tells s ms)

from_place : (s ms : List ℕ) (at : ℕ) → Long (tree_layout (length s)) ms → answers s at ms ≡ told (entries_after s at) (length ms)
unfolding answers told
from_place s [] at l = refl
from_place s (m ∷ ms) at l = go (answered s at m l.0) (λ p. from_place s ms p l.1)
  where
    go : Answered s at m → ((p : ℕ) → answers s p ms ≡ told (entries_after s p) (length ms))
        → answers s at (m ∷ ms) ≡ told (entries_after s at) (suc (length ms))
    go (ends h q) ih = ap (λ r. r ∷ answers s (place_after s at r) ms) h ∙ ap (λ r. Ok None ∷ r) (end-tells s ms)
        ∙ sym (ap (λ xs. told xs (suc (length ms))) q)
    go (finds {a} {e} h q g i j) ih = ap (λ r. r ∷ answers s (place_after s at r) ms) h ∙ ap (λ r. Ok (Some (record { start = a; stop = e })) ∷ r) (ih e)
        ∙ sym (ap (λ xs. told xs (suc (length ms))) q)

-- the answers from the first place on
pub reader-tells : (s ms : List ℕ) → Long (tree_layout (length s)) ms → answers s (first_place s) ms ≡ told (entries_of s) (length ms)
reader-tells s ms l = from_place s ms (first_place s) l ∙ ap (λ xs. told xs (length ms)) (after_first s)

-- ---- a tree that is too short

module _ (s : List ℕ) (at m : ℕ) where
  ahead-short : ahead s at m ≡ short → m < tree_layout (length s)
  unfolding ahead_from
  ahead-short h = go (tested s)
    where
      no : (x : Ahead) → x ≡ nothing → x ≡ short → ⊥
      no x p q = let z : ◌≡◌ {A = ℕ} 0 1 = cc in omega arith

      found : (a : ℕ) → entry_at a ≡ short → ⊥
      found a q = let z : ◌≡◌ {A = ℕ} 0 1 = cc in omega arith

      go : Tested s → m < tree_layout (length s)
      go (refused p q) = absurd (no (ahead s at m) (p at m) h)
      go (passed p q) =
          pick (λ x. x ≡ short → m < tree_layout (length s)) (ltb (start_after s at) (length s)) _ _
          (λ v. pick (λ x. x ≡ short → m < tree_layout (length s)) (ltb m (tree_layout (length s))) short
          (entry_at (start_after s at)) (λ w e. ltb-true m (tree_layout (length s)) w)
          (λ w e. absurd (found (start_after s at) e)))
          (λ v e. absurd (no nothing refl e)) (sym (p at m) ∙ h)

  pub short-stays : {n : ℕ} → next_answer s at m ≡ Err (TreeTooShort n) → (m < tree_layout (length s))
      × (n ≡ tree_layout (length s)) × (place_after s at (next_answer s at m) ≡ at)
  unfolding next_answer answer_by stopped
  short-stays {n} h = let (l, e) = go (ahead s at m) refl h in (l, e, ap (place_after s at) h)
    where
      entry : (a : ℕ) (o : Option ℕ) → Ok (stopped a o) ≡ Err (TreeTooShort n) → (m < tree_layout (length s)) × (n ≡ tree_layout (length s))
      entry a (some k) q = let z : ◌≡◌ {A = ℕ} 0 1 = cc in absurd (omega arith)
      entry a none q = let z : ◌≡◌ {A = ℕ} 0 1 = cc in absurd (omega arith)

      go : (x : Ahead) → ahead s at m ≡ x → answer_by s x ≡ Err (TreeTooShort n) → (m < tree_layout (length s)) × (n ≡ tree_layout (length s))
      go (entry_at a) p q = entry a (stop_at (level max_open) (drop a s)) q
      go nothing p q = let z : ◌≡◌ {A = ℕ} 0 1 = cc in absurd (omega arith)
      go short p q = (ahead-short p, cc)
