-- A file cut in two: its normal text.
pub mod Source
pub mod Piece
pub mod Listing
use Rattle.std.specs.Prelude.{ℕ, suc, ◌+◌, ◌-◌, ◌≤◌, ◌<◌, Bool, true, false, drop, take, ltb}
use Rattle.std.proofs.Common.{not-suc-le-zero, arith, ap₂, ◌∙◌, subst, ltb-true, ltb-false}
use Rattle.std.proofs.Math.Path.{◌≡◌, refl, sym, ap}
use mathlib.Core.List.{List, [], ◌∷◌, ◌++◌, map}
use Rattle.std.proofs.Math.ListN.{length}
use Rattle.std.proofs.Math.Seq.{drop-append-add}
use Rattle.syntax.specs.Marks.{Mark, plain, placed, kind_of, move_up}
use Rattle.syntax.specs.Expression.{level}
use Rattle.syntax.specs.Core.{Error, entries}
use Rattle.syntax.specs.Serializer.{Node, nodes, nodes_from, last_of, resource, serialize, empty}
use Rattle.laws.specs.Bytes.{whole_drop, by_case}
use Rattle.laws.specs.Stable.Pattern.{span_same}
use Rattle.laws.specs.Moving.{move_up-zero}
use Rattle.laws.specs.Formed.{places, balanced}
use Rattle.laws.specs.Formed.Expression.{level-formed}
use Rattle.laws.specs.Balanced.Nodes.{up_node, nodes-up, nodes-append, OkMarks, ok-nodes}
use Rattle.cut.proofs.Text.Source.{resource-same}
use Rattle.cut.proofs.Text.Piece.{Ends, resource-ends, wrote_all, wrote-ends, resource-append, Opening, opens_nodes, opened-text}
use Rattle.cut.proofs.Text.Listing.{opens_free, none_read, entries-ends, ends-up, entries-opening}
use Rattle.cut.proofs.Tree.{Readings, start, from_start, first_part, second-part}
use Rattle.cut.specs.Claim.{between}

any-ok : (ms : List Mark) → OkMarks (λ p. Unit {0}) ms
any-ok [] = tt
any-ok (plain i ∷ ms) = (tt, any-ok ms)
any-ok (placed i p ∷ ms) = (tt, any-ok ms)

module _ (A B : List ℕ) where
  -- the first part's text, in the uncut file
  first-same : (junk w : Bool) (ms : List Mark) → OkMarks (λ p. p ≤ length A) ms
      → resource (A ++ B) junk w (nodes ms) ≡ resource A junk w (nodes ms)
  first-same junk w ms u =
      ap (λ z. resource (A ++ B) junk w (nodes z)) (sym (move_up-zero ms)) ∙ ap (resource (A ++ B) junk w) (nodes-up 0 ms)
      ∙ resource-same A (A ++ B) 0 (λ p. p ≤ length A) span junk w (nodes ms) (ok-nodes (λ p. p ≤ length A) ms u)
    where
      span : (p q : ℕ) → p ≤ length A → q ≤ length A → take (0 + q - (0 + p)) (drop (0 + p) (A ++ B)) ≡ take (q - p) (drop p A)
      span p q h g = let e : 0 + q - (0 + p) ≡ q - p = omega arith in let f : 0 + p ≡ p = omega arith in
          ap₂ (λ i j. take i (drop j (A ++ B))) e f ∙ span_same A B p q g

  -- the second part's text, in the uncut file
  second-same : (junk w : Bool) (ms : List Mark) → resource (A ++ B) junk w (nodes (move_up (length A) ms)) ≡ resource B junk w (nodes ms)
  second-same junk w ms = ap (resource (A ++ B) junk w) (nodes-up (length A) ms)
      ∙ resource-same B (A ++ B) (length A) (λ p. Unit {0}) span junk w (nodes ms)
      (ok-nodes (λ p. Unit {0}) ms (any-ok ms))
    where
      span : (p q : ℕ) → Unit {0} → Unit {0} → take (length A + q - (length A + p)) (drop (length A + p) (A ++ B)) ≡ take (q - p) (drop p B)
      span p q h g = let e : length A + q - (length A + p) ≡ q - p = omega arith in ap₂ (λ i r. take i r) e (drop-append-add A B p)

module _ (n : ℕ) (A B : List ℕ) (ma mb mab : List Mark) (eb eab : List Error) (r : Readings n A B ma mb mab eb eab) where
  ma' : List Mark
  ma' = (first_part n A B ma mb mab eb eab r).0

  -- the first part has an entry, or nothing
  data First : Type 0 where
    nothing : ma ≡ [] → First
    something : (x : Node) (xs : List Node) → nodes ma ≡ x ∷ xs → Ends A (x ∷ xs) → First

  first-is : First
  unfolding from_start ma' move_up
  first-is = by_case (ltb 0 (length (from_start n A B ma mb mab eb eab r)))
      (λ q. go
      (entries-ends (level n) (level-formed n) A (suc (length A)) (from_start n A B ma mb mab eb eab r) ma'
      (whole_drop (start n A B ma mb mab eb eab r) A r.whole) (first_part n A B ma mb mab eb eab r).1)
      (ltb-true 0 (length (from_start n A B ma mb mab eb eab r)) q))
      (λ q. nothing
      (sym (first_part n A B ma mb mab eb eab r).2
      ∙ ap (move_up (start n A B ma mb mab eb eab r)) (none_read (level n) (level-formed n) (suc (length A)) ma' []
      (ap (entries (suc (length A)) (level n))
      (sym
      (empty_of (from_start n A B ma mb mab eb eab r)
      (ltb-false 0 (length (from_start n A B ma mb mab eb eab r)) q)))
      ∙ (first_part n A B ma mb mab eb eab r).1))))
    where
      empty_of : (z : List ℕ) → length z ≤ 0 → z ≡ []
      empty_of [] h = refl
      empty_of (c ∷ cs) h = absurd (not-suc-le-zero h)

      go : Ends A (nodes ma')
          × (0 < length (from_start n A B ma mb mab eb eab r) → (x : Node) × (xs : List Node) × (nodes ma' ≡ x ∷ xs))
          → 0 < length (from_start n A B ma mb mab eb eab r) → First
      go (e, s) h =
          let (x, xs, q) = s h in
          let k = start n A B ma mb mab eb eab r in
          something (up_node k x) (map (up_node k) xs)
          (ap nodes (sym (first_part n A B ma mb mab eb eab r).2) ∙ nodes-up k ma' ∙ ap (map (up_node k)) q)
          (ends-up (level n) (level-formed n) A k (x ∷ xs) (subst (Ends A) q e))

  some-between : (x : Node) (xs : List Node) → nodes ma ≡ x ∷ xs → (ms : List Mark) → ma ≡ ms
      → between (map kind_of ma) (map kind_of mb) ≡ (elim (opens_free mb) [ true ↦ 10 ∷ [] | false ↦ [] ])
  unfolding between nodes nodes_from
  some-between x xs e [] q = let f : ◌≡◌ {A = List Node} [] (x ∷ xs) = sym (ap nodes q) ∙ e in
      let z : ◌≡◌ {A = ℕ} 0 1 = cc in absurd (omega arith)
  some-between x xs e (m ∷ ms) q = ap (λ z. between (map kind_of z) (map kind_of mb)) q

  pub cut-text : mab ≡ ma ++ move_up (length A) mb → (junk : Bool)
      → serialize (A ++ B) junk mab ≡ serialize A junk ma
      ++ (between (map kind_of ma) (map kind_of mb) ++ serialize B junk mb)
  unfolding serialize between nodes nodes_from resource empty last_of
  cut-text same junk = by first-is
    where
      opening : Opening B (nodes mb) × (opens_nodes B (nodes mb) ≡ opens_free mb)
      opening = entries-opening (level n) (level-formed n) B (suc (length B)) B mb eb (second-part n A B ma mb mab eb eab r)

      whole : serialize (A ++ B) junk mab ≡ resource (A ++ B) junk false (nodes ma ++ nodes (move_up (length A) mb)) 0 0
      whole = ap (serialize (A ++ B) junk) same
          ∙ ap (λ z. resource (A ++ B) junk false z 0 0)
          (nodes-append ma (move_up (length A) mb) (balanced n A ma [] r.first))

      text : List ℕ
      text = resource (A ++ B) junk false (nodes ma) 0 0

      by : First → serialize (A ++ B) junk mab ≡ serialize A junk ma ++ (between (map kind_of ma) (map kind_of mb) ++ serialize B junk mb)
      by (nothing e) =
          whole ∙ ap (λ z. resource (A ++ B) junk false (nodes z ++ nodes (move_up (length A) mb)) 0 0) e
          ∙ ap (λ p. p 0 0) (second-same A B junk false mb)
          ∙ sym (ap (λ z. serialize A junk z ++ (between (map kind_of z) (map kind_of mb) ++ serialize B junk mb)) e)
      by (something x xs e ends) =
          whole ∙ resource-append (A ++ B) junk false (nodes ma) (nodes (move_up (length A) mb)) 0 0
          ∙ ap₂ (λ a b. a ++ b) (ap (λ p. p 0 0) (first-same A B junk false ma (places n A ma [] r.first)))
          (ap₂ (λ w l. resource (A ++ B) junk w (nodes (move_up (length A) mb)) 0 l)
          (ap (wrote_all (A ++ B) false) e ∙ wrote-ends (A ++ B) false x xs (ends-any x xs ends)) last
          ∙ ap (λ p. p 0 10) (second-same A B junk true mb) ∙ opened-text B junk (nodes mb) opening.0
          ∙ ap (λ z. z ++ serialize B junk mb)
          (ap (λ v. elim v as (λ z. List ℕ) [ true ↦ 10 ∷ [] | false ↦ [] ]) opening.1
          ∙ sym (some-between x xs e ma refl)))
        where
          ends-any : (x : Node) (xs : List Node) → Ends A (x ∷ xs) → Ends (A ++ B) (x ∷ xs)
          ends-any x [] h = h
          ends-any x (z ∷ zs) h = (h.0, ends-any z zs h.1)

          last : last_of 0 (resource (A ++ B) junk false (nodes ma) 0 0) ≡ 10
          last = ap (λ z. last_of 0 (resource (A ++ B) junk false z 0 0)) e ∙ resource-ends (A ++ B) junk false x xs (ends-any x xs ends) 0 0
