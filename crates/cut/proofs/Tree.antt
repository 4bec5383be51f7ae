-- A file cut in two: its tree and its errors.
pub mod Join
pub mod First
use Prim.Native.Nat.{ℕ, suc, ◌+◌, ◌≤◌, ◌<◌}
use native.Mathlib.Omega.{arith}
use Rattle.std.specs.Prelude.{◌≡◌, ◌⊎◌, drop, ltb}
use Rattle.std.proofs.Math.Path.{sym, ap, ap₂, subst}
use Rattle.std.proofs.Common.{◌∙◌, inl, inr, drop_of_length-le}
use Rattle.std.proofs.Math.Bool.{true}
use mathlib.Core.List.{List, [], ◌++◌, map, append-nil}
use Rattle.std.proofs.Math.ListN.{length, length-drop, length-append}
use borrow.Author.Tests.{ltb-true, ltb-false}
use Rattle.syntax.specs.Bytes.{starts_with, Whole, Fresh}
use Rattle.syntax.specs.Marks.{Mark, kind_of, move_up}
use Rattle.syntax.specs.Helper.{skip_blank_block}
use Rattle.syntax.specs.Pattern.{used_by}
use Rattle.syntax.specs.Expression.{level}
use Rattle.syntax.specs.Core.{get_entry, line_starts_at, Error, up_error, read, following, entries, parse}
use Rattle.laws.specs.Bytes.{whole_drop, by_case, drop_app}
use Rattle.laws.specs.Answers.{Holds, sure-ok}
use Rattle.laws.specs.Stable.{fresh}
use Rattle.laws.specs.Stable.Helper.{block-sure}
use Rattle.laws.specs.Stable.Pattern.{block_within, block_same}
use Rattle.laws.specs.Stable.Expression.{level-law}
use Rattle.laws.specs.Moving.{move_up-append, move_up-twice, move_up-zero, up_errors-twice, up_errors-zero}
use Rattle.laws.specs.Lines.Lands.{block-lands}
use Rattle.laws.specs.File.{entries-more}
use Rattle.laws.specs.Entries.{following-read, read-read, map-nil, weight, weight-append, weight-up, block-fresh}
use Rattle.cut.specs.LastLine.{last_line-drop, Tail, tail_of}
use Rattle.cut.proofs.Tree.Join.{Joins, Joint, join, no-exc}
use Rattle.cut.proofs.Tree.First.{joins-entry, entry-joins}
use Rattle.cut.specs.Claim.{last_line, hashes, Exception}

-- the readings of A, of B and of both in a row, A without an error
pub record Readings (n : ℕ) (A B : List ℕ) (ma mb mab : List Mark) (eb eab : List Error) : Type 0 where
  pub whole : Whole A
  pub fresh : Fresh B
  pub first : parse n A ≡ read ma []
  pub second : parse n B ≡ read mb eb
  pub uncut : parse n (A ++ B) ≡ read mab eab

-- the uncut file's tree is that of the parts joined, but for the exception; its errors are the second part's, moved up
pub record CutTree (n : ℕ) (A B : List ℕ) (ma mb mab : List Mark) (eb eab : List Error) : Type 0 where
  pub errors : eab ≡ map (up_error (length A)) eb
  pub differs : Exception A B (map kind_of mb) → mab ≡ ma ++ move_up (length A) mb → ⊥
  pub equal : (Exception A B (map kind_of mb) → ⊥) → mab ≡ ma ++ move_up (length A) mb

module _ (n : ℕ) (A B : List ℕ) (ma mb mab : List Mark) (eb eab : List Error) (r : Readings n A B ma mb mab eb eab) where
  unfoldable pub start : ℕ
  start = used_by (skip_blank_block A)

  start-le : start ≤ length A
  unfolding start
  start-le = subst (λ z. used_by (skip_blank_block z) ≤ length A) (append-nil A) (block_within A [] r.whole tt)

  unfoldable pub from_start : List ℕ
  from_start = drop start A

  pub from-length : start + length from_start ≡ length A
  unfolding from_start
  from-length = omega (arith, length-drop start A, start-le)

  -- A from its first entry on
  pub first_part : (ma' : List Mark) × (entries (suc (length A)) (level n) from_start ≡ read ma' []) × (move_up start ma' ≡ ma)
  unfolding parse start from_start
  first_part =
      let (ma', ea', e, m, x) = following-read [] start (entries (suc (length A)) (level n) (drop start A)) ma [] r.first in
      (ma', e ∙ ap (read ma') (map-nil start ea' x), m)

  pub second-part : entries (suc (length B)) (level n) B ≡ read mb eb
  unfolding parse used_by
  second-part =
      let z : used_by (skip_blank_block B) ≡ 0 = ap used_by (block-fresh B r.fresh) in
      let (mb', eb', e, m, x) =
      following-read [] 0 (entries (suc (length B)) (level n) B) mb eb
      (ap (λ k. following [] [] k (entries (suc (length B)) (level n) (drop k B))) (sym z) ∙ r.second) in
      e ∙ ap₂ read (sym (move_up-zero mb') ∙ m) (sym (up_errors-zero eb') ∙ x)

  uncut-part : (mab' : List Mark) × (eab' : List Error)
      × (entries (suc (length A) + suc (length B)) (level n) (from_start ++ B) ≡ read mab' eab')
      × (move_up start mab' ≡ mab) × (map (up_error start) eab' ≡ eab)
  unfolding parse start from_start
  uncut-part =
      let z : used_by (skip_blank_block (A ++ B)) ≡ start = ap used_by (block_same fresh tt A B r.whole (start-le, r.fresh)) in
      let (mab', eab', e, m, x) = following-read [] start (entries (suc (length (A ++ B))) (level n) (drop start A ++ B)) mab eab
      (ap (λ s. following [] [] start (entries (suc (length (A ++ B))) (level n) s)) (sym (drop_app start A B start-le))
      ∙ ap (λ k. following [] [] k (entries (suc (length (A ++ B))) (level n) (drop k (A ++ B)))) (sym z)
      ∙ r.uncut) in (
        mab',
        eab',
        entries-more (level n) (suc (length (A ++ B))) (suc (length A) + suc (length B)) (drop start A ++ B) mab' eab'
            (omega (arith, length-append A B)) e,
        m,
        x,
      )

  joint : Joint (level n) (level-law n) B r.fresh (suc (length B)) mb eb second-part from_start first_part.0
      (entries (suc (length A) + suc (length B)) (level n) (from_start ++ B))
  unfolding from_start
  joint =
      join (level n) (level-law n) B r.fresh (suc (length B)) mb eb second-part (suc (length A)) (drop start A)
      first_part.0 (whole_drop start A r.whole) first_part.1

  same_line : 0 < length from_start → last_line A ≡ last_line from_start
  unfolding start from_start used_by
  same_line h = last_line-drop start A lands (whole_drop start A r.whole) h
    where
      lands : line_starts_at start A ≡ true
      lands = let (c, gs, u, g) = sure-ok (skip_blank_block A) (block-sure A) in
          subst (λ k. line_starts_at k A ≡ true) (sym (ap used_by g)) (subst (Holds (λ a ms k. line_starts_at k A ≡ true)) g (block-lands A))

  to : Exception A B (map kind_of mb) → (starts_with 35 (last_line from_start) ≡ true)
      × Joins (hashes (last_line from_start)) (get_entry (level n) B)
  unfolding start
  to x = by_case (ltb 0 (length from_start))
      (λ q. let e = same_line (ltb-true 0 (length from_start) q) in (
        subst (λ z. starts_with 35 z ≡ true) e x.line,
        subst (λ z. Joins (hashes z) (get_entry (level n) B)) e
            (joins-entry n B mb eb second-part (hashes (last_line A)) x.joins),
      ))
      (λ q. absurd (apart (tail_of A r.whole x.line) (ltb-false 0 (length from_start) q)))
    where
      apart : Tail A → length from_start ≤ 0 → ⊥
      apart t h =
          omega (
            arith,
            from-length,
            subst (λ z. used_by (skip_blank_block z) ≤ length t.front) (sym t.split)
                (block_within t.front t.back t.whole t.stop),
            ap length t.split,
            length-append t.front t.back,
            t.some,
          )

  from : (starts_with 35 (last_line from_start) ≡ true) × Joins (hashes (last_line from_start)) (get_entry (level n) B)
      → Exception A B (map kind_of mb)
  unfolding from_start
  from x = by_case (ltb 0 (length from_start))
      (λ q. let e = sym (same_line (ltb-true 0 (length from_start) q)) in
      record {
        line = subst (λ z. starts_with 35 z ≡ true) e x.0;
        joins =
            entry-joins n B mb eb second-part (hashes (last_line A))
            (subst (λ z. Joins (hashes z) (get_entry (level n) B)) e x.1);
      })
      (λ q. absurd
      (no-exc (level n) (level-law n) B r.fresh (suc (length B)) mb eb second-part
      (subst (λ z. (starts_with 35 (last_line z) ≡ true) × Joins (hashes (last_line z)) (get_entry (level n) B))
      (drop_of_length-le A {i = start} (omega (arith, length-drop start A, ltb-false 0 (length from_start) q))) x)))

  both : (uncut-part.0 ≡ joint.mab) × (uncut-part.1 ≡ map (up_error (length from_start)) eb)
  both =
      read-read (entries (suc (length A) + suc (length B)) (level n) (from_start ++ B)) uncut-part.0 joint.mab
      uncut-part.1 (map (up_error (length from_start)) eb) uncut-part.2 joint.reads

  marks : move_up start joint.mab ≡ mab
  marks = ap (move_up start) (sym both.0) ∙ uncut-part.3

  joined : joint.mab ≡ first_part.0 ++ move_up (length from_start) mb → mab ≡ ma ++ move_up (length A) mb
  joined e = sym marks ∙ ap (move_up start) e ∙ move_up-append start first_part.0 (move_up (length from_start) mb)
      ∙ ap₂ (λ a z. a ++ z) first_part.2
      (move_up-twice start (length from_start) mb ∙ ap (λ k. move_up k mb) from-length)

  apart : (weight joint.mab ≡ weight first_part.0 + weight mb → ⊥) → mab ≡ ma ++ move_up (length A) mb → ⊥
  apart d e =
      d
      (omega (
        arith,
        ap weight marks,
        weight-up start joint.mab,
        ap weight e,
        weight-append ma (move_up (length A) mb),
        weight-up (length A) mb,
        ap weight first_part.2,
        weight-up start first_part.0,
      ))

  pub cut-tree : CutTree n A B ma mb mab eb eab
  cut-tree = record {
    errors = sym uncut-part.4 ∙ ap (map (up_error start)) both.1 ∙ up_errors-twice start (length from_start) eb
        ∙ ap (λ k. map (up_error k) eb) from-length;
    differs = λ x. differ joint.tree x;
    equal = λ x. same joint.tree x;
  }
    where
      differ : (((starts_with 35 (last_line from_start) ≡ true)
          × Joins (hashes (last_line from_start)) (get_entry (level n) B) → ⊥)
          × (joint.mab ≡ first_part.0 ++ move_up (length from_start) mb)) ⊎
          (((starts_with 35 (last_line from_start) ≡ true) × Joins (hashes (last_line from_start)) (get_entry (level n) B))
          × (weight joint.mab ≡ weight first_part.0 + weight mb → ⊥))
          → Exception A B (map kind_of mb) → mab ≡ ma ++ move_up (length A) mb → ⊥
      differ (inl (not-exc, e)) x = absurd (not-exc (to x))
      differ (inr (exc, d)) x = apart d

      same : (((starts_with 35 (last_line from_start) ≡ true)
          × Joins (hashes (last_line from_start)) (get_entry (level n) B) → ⊥)
          × (joint.mab ≡ first_part.0 ++ move_up (length from_start) mb)) ⊎
          (((starts_with 35 (last_line from_start) ≡ true) × Joins (hashes (last_line from_start)) (get_entry (level n) B))
          × (weight joint.mab ≡ weight first_part.0 + weight mb → ⊥))
          → (Exception A B (map kind_of mb) → ⊥) → mab ≡ ma ++ move_up (length A) mb
      same (inl (not-exc, e)) x = joined e
      same (inr (exc, d)) x = absurd (x (from exc))
