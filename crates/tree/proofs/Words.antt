-- What stands at a mark in words: the laws of kind_in, place_in, text_in and after_in, for any words and for a tree whose sizes fit.
use Prim.Native.Nat.{ℕ, zero, suc, ◌+◌, ◌-◌, ◌≤◌, ◌<◌, min}
use native.Mathlib.Numerals.{add-one}
use native.Mathlib.Omega.{arith}
use mathlib.Core.Path.{◌≡◌, refl, sym, ap, ap₂, subst, ◌∙◌}
use mathlib.Core.Bool.{Bool, true, false, ◌||◌, not}
use mathlib.Core.List.{List, [], ◌∷◌, ◌++◌, map, append_assoc}
use lib.Dec.{eqb, leb, ltb}
use lib.ListN.{length, take, drop, get_or, length-append, length-drop, drop_of_length-le, get_or-eq_default}
use Rattle.std.proofs.lemmas.List.{take_rest}
use lib.Seq.{take_all, take-nil, drop-cons, get_or-drop}
use borrow.Author.Tests.{eqb-true, leb-true, leb-false, ltb-true, lt-ltb, le-ltb, ne_eqb}
use Rattle.utf8.specs.Utf8.{is_boundary}
use Rattle.syntax.specs.Kind as Kind
use Rattle.syntax.specs.Marks.{Mark, plain, placed, kind_of, place_of, node, text_node}
use Rattle.syntax.specs.Layout.{count, capacity, kinds, places, has_place, mark_of, marks_by, marks_in}
use Rattle.syntax.specs.Tests.{sizes_fit}
use Rattle.syntax.specs.Serializer.{nodes, between, text_of}
use Rattle.laws.specs.Bytes.{by_case, clash}
use Rattle.laws.specs.Balanced.{Levels, Opened, run-levels}
use Rattle.laws.specs.Balanced.Nodes.{nodes-text}
use Rattle.tree.specs.Words.{kind_in, place_in, text_in, till_closed, after_in}
use Rattle.tree.specs.Walk.{first_kind, kind_at, first_place, place_at, first_node, node_at, after, Child, At, TextAt}
use Rattle.tree.specs.Walk as Spec
use Rattle.tree.proofs.Sizes.{Sizes, sizes, next-mark, mark-inside, mark-next, kinds-length, places-length}
use Rattle.tree.proofs.Walk.{at_after}

-- The text between two places, which are held to the source.
pub between-held : (s : List ℕ) (a e start end : ℕ) → end ≡ min e (length s) → start ≡ min a end
    → take (end - start) (drop start s) ≡ take (e - a) (drop a s)
between-held s a e start end h l =
    by_case (leb end a)
    (λ q. let n : end - start ≡ 0 = omega (arith, leb-true end a q) in rw n (sym (nothing (leb-true end a q))))
    (λ q. let n : start ≡ a = omega (arith, leb-false end a q) in rw n (some (leb-false end a q)))
  where
    nothing : end ≤ a → take (e - a) (drop a s) ≡ []
    nothing z =
        by_case (leb e a)
        (λ q. let n : e - a ≡ 0 = omega (arith, leb-true e a q) in rw n)
        (λ q. rw (drop_of_length-le s {i = a} (omega (arith, leb-false e a q))) (take-nil (e - a)))

    some : a < end → take (end - a) (drop a s) ≡ take (e - a) (drop a s)
    some z =
        by_case (leb e (length s))
        (λ q. let n : end ≡ e = omega (arith, leb-true e (length s) q) in rw n)
        (λ q. let l = leb-false e (length s) q in all (omega arith) ∙ sym (all (omega arith)))
      where
        all : {n : ℕ} → length s ≤ n → take (n - a) (drop a s) ≡ drop a s
        all {n} m = take_all (n - a) (drop a s) (simp length-drop (omega arith))

-- a list from a place on, as a slice has it
abbrev pub part : ℕ → List ℕ → List ℕ
part n xs = take (length xs - n) (drop n xs)

-- past the words there is 0, and no text
pub no_word : (ws : List ℕ) (i : ℕ) → length ws ≤ i → 0 ≡ get_or ws i 0
no_word ws i h = sym (get_or-eq_default ws 0 h)

pub no_text : (source ws : List ℕ) (i : ℕ) → length ws ≤ i → [] ≡ text_in source ws i
unfolding text_in place_in
no_text source ws i h =
    let n : place_in ws (i + 1) - place_in ws i ≡ 0 = omega (arith, no_word ws (2 + capacity ws + (i + 1)) (omega arith)) in rw n

none_left : (ks : List ℕ) → till_closed 0 ks ≡ 0
unfolding till_closed
none_left [] = refl
none_left (x ∷ ks) = refl

-- The kinds of a list, one by one: how many are left of the node that starts at the mark i.
module _ (ws : List ℕ) where
  -- with depth nodes open at the mark next
  pub record Passing (i depth next : ℕ) : Type 0 where
    pub same : after_in ws i ≡ next + till_closed depth (drop next (kinds ws))
    pub deep : 1 ≤ depth
    pub small : depth ≤ next

  pub none_passed : (i : ℕ) → length (kinds ws) ≤ i → i ≡ after_in ws i
  unfolding after_in
  none_passed i h = rw (drop_of_length-le (kinds ws) {i = i} h, after_in)

  pub passing-first : (i : ℕ) → i < length (kinds ws) → Passing i 1 (i + 1)
  unfolding after_in
  passing-first i h = record { same = rw (drop-cons (kinds ws) i 0 h, add-one, after_in); deep = omega arith; small = omega arith }

  -- a kind in a loop over the kinds from a on
  pub kind-in-part : (ks : List ℕ) (a i : ℕ) → ks ≡ kinds ws → i < length (part a ks)
      → (a + i < length (kinds ws)) × (get_or (part a ks) i 0 ≡ get_or (kinds ws) (a + i) 0)
  kind-in-part ks a i e h =
      let l : i < length ks - a = simp length-drop at (rw (take_rest ks a) at h) in
      rw (take_rest ks a, get_or-drop, ← e) (omega arith, refl)

  pub part-length : (ks : List ℕ) (a : ℕ) → ks ≡ kinds ws → length (part a ks) ≡ length (kinds ws) - a
  part-length ks a e = rw (take_rest ks a, e) (length-drop a (kinds ws))

  module _ (i : ℕ) {depth next : ℕ} (p : Passing i depth next) where
    abbrev word : ℕ
    word = get_or (kinds ws) next 0

    abbrev rest : List ℕ
    rest = drop (suc next) (kinds ws)

    more : next < length (kinds ws)
        → after_in ws i
        ≡ next + 1 + elim (ltb word (Kind.closing 0)) [ true ↦ till_closed (suc depth) rest | false ↦ till_closed (depth - 1) rest ]
    unfolding till_closed
    more h = p.same ∙ rw (drop-cons (kinds ws) next 0 h, till_closed, ne_eqb depth 0 (λ e. omega (arith, p.deep))) (omega arith)

    pub passing-open : next < length (kinds ws) → word < Kind.closing 0 → Passing i (depth + 1) (next + 1)
    passing-open h k =
        record { same = more h ∙ rw (lt-ltb word 100 k, add-one depth, add-one next); deep = omega arith; small = omega (arith, p.small) }

    -- a mark that closes a node
    module _ (h : next < length (kinds ws)) (k : Kind.closing 0 ≤ word) where
      pub passing-close : (depth - 1 ≡ 0 → ⊥) → Passing i (depth - 1) (next + 1)
      passing-close d =
          record { same = more h ∙ rw (le-ltb word 100 k, add-one next); deep = omega (arith, p.deep, d); small = omega (arith, p.small) }

      pub passing-last : depth - 1 ≡ 0 → next + 1 ≡ after_in ws i
      unfolding till_closed
      passing-last d = sym (more h ∙ rw (le-ltb word 100 k, d) (omega (arith, none_left rest)))

    pub passing-end : length (kinds ws) ≤ next → next ≡ after_in ws i
    unfolding till_closed
    passing-end h = sym (p.same ∙ rw (drop_of_length-le (kinds ws) {i = next} h, till_closed) (omega arith))

-- The marks of a tree whose sizes fit.
mark-kind : (k p : ℕ) → kind_of (mark_of k p) ≡ k
unfolding mark_of
mark-kind k p = by_case (has_place k || not (eqb p 0)) (λ e. rw (e, mark_of)) (λ e. rw (e, mark_of))

mark-place : (k p : ℕ) → place_of (mark_of k p) ≡ p
unfolding mark_of
mark-place k p =
    by_case (has_place k || not (eqb p 0)) (λ e. rw (e, mark_of))
    (λ e. rw (e, mark_of) (sym (eqb-true p 0 (none (has_place k) (eqb p 0) e))))
  where
    none : (a b : Bool) → (a || not b) ≡ false → b ≡ true
    none true b e = clash refl e
    none false true e = refl
    none false false e = clash refl e

module _ (ws : List ℕ) (fit : Sizes ws) where
  pub kind-word : (i : ℕ) → i < count ws → kind_in ws i ≡ kind_at (marks_in ws) i
  unfolding kind_in
  kind-word i h = sym (ap first_kind (next-mark ws fit i h) ∙ mark-kind (get_or ws (2 + i) 0) (get_or ws (2 + capacity ws + i) 0))

  pub place-word : (i : ℕ) → i < count ws → place_in ws i ≡ place_at (marks_in ws) i
  unfolding place_in
  place-word i h = sym (ap first_place (next-mark ws fit i h) ∙ mark-place (get_or ws (2 + i) 0) (get_or ws (2 + capacity ws + i) 0))

  -- the kinds are those of the marks
  kinds-marks : kinds ws ≡ map kind_of (marks_in ws)
  unfolding marks_in marks_by
  kinds-marks = sym (go (kinds ws) (places ws) (kinds-length ws fit ∙ sym (places-length ws fit)))
    where
      go : (ks ps : List ℕ) → length ks ≡ length ps → map kind_of (marks_by ks ps) ≡ ks
      go [] ps e = refl
      go (k ∷ ks) [] e = absurd (omega arith)
      go (k ∷ ks) (p ∷ ps) e = ap₂ (λ (x : ℕ) (xs : List ℕ). x ∷ xs) (mark-kind k p) (go ks ps (omega arith))

map-drop : (i : ℕ) (ms : List Mark) → drop i (map kind_of ms) ≡ map kind_of (drop i ms)
map-drop zero ms = refl
map-drop (suc i) [] = refl
map-drop (suc i) (m ∷ ms) = map-drop i ms

-- marks that close all they open, and the one that closes the node around them
till-levels : (d : ℕ) (ms : List Mark) (last : Mark) (rest : List Mark) → Levels d ms → Kind.closing 0 ≤ kind_of last
    → till_closed (suc d) (map kind_of (ms ++ (last ∷ rest))) ≡ length ms + 1
unfolding till_closed
till-levels d [] last rest l c =
    let one : suc d ≡ 1 = omega arith in
    subst (λ n. till_closed n (kind_of last ∷ map kind_of rest) ≡ 1) (sym one)
    (rw (till_closed, le-ltb (kind_of last) 100 c) (omega (arith, none_left (map kind_of rest))))
till-levels d (m ∷ ms) last rest l c = go (ltb (kind_of m) 100) refl l (λ i h. till-levels i ms last rest h c)
  where
    ks : List ℕ
    ks = map kind_of (ms ++ (last ∷ rest))

    go : (v : Bool) → ltb (kind_of m) 100 ≡ v → Opened v d ms → ((i : ℕ) → Levels i ms → till_closed (suc i) ks ≡ length ms + 1)
        → till_closed (suc d) (kind_of m ∷ ks) ≡ suc (length ms) + 1
    go true e o f = rw (till_closed, ne_eqb (suc d) 0 (λ z. omega arith), e) (omega (arith, f (suc d) o))
    go false e o f =
        let n : suc (d - 1) ≡ suc d - 1 = omega (arith, o.0) in
        rw (till_closed, ne_eqb (suc d) 0 (λ z. omega arith), e)
        (omega (arith, subst (λ i. till_closed i ks ≡ length ms + 1) n (f (d - 1) o.1)))

-- the mark after a node
pub after-word : (ws : List ℕ) (fit : Sizes ws) {boundary : ℕ → Bool} {i j : ℕ} → At boundary (marks_in ws) i j
    → after_in ws i ≡ after (marks_in ws) i
unfolding after_in text_node node
after-word ws fit {boundary} {i} {j} a = go a.child a.there ∙ sym (at_after a)
  where
    kinds-from : (ms : List Mark) → drop i (marks_in ws) ≡ ms → drop i (kinds ws) ≡ map kind_of ms
    kinds-from ms e = ap (drop i) (kinds-marks ws fit) ∙ map-drop i (marks_in ws) ∙ ap (map kind_of) e

    from : (m : Mark) (inner : List Mark) (last : Mark) → drop i (marks_in ws) ≡ m ∷ (inner ++ (last ∷ a.rest)) → Levels 0 inner
        → Kind.closing 0 ≤ kind_of last → after_in ws i ≡ i + (length inner + 2)
    from m inner last e l c = rw (kinds-from _ e, after_in) (omega (arith, till-levels 0 inner last a.rest l c))

    go : {marks : List Mark} → Child boundary j marks → drop i (marks_in ws) ≡ marks ++ a.rest → after_in ws i ≡ i + length marks
    go (Spec.text x e t p q l) there = from (placed j x) [] (placed (Kind.closing j) e) there refl (omega arith)
    go (Spec.nest {inner = inner} left x content) there =
        let last = plain (Kind.closing j) in
        from (plain j) inner last (there ∙ ap (λ ms. plain j ∷ ms) (append_assoc inner (last ∷ []) a.rest))
        (run-levels content.run) (omega arith)
        ∙ rw (length-append inner (last ∷ [])) (omega arith)

-- The words of a T node.
pub record Text (source ws : List ℕ) (i : ℕ) : Type 0 where
  pub fit : Sizes ws
  pub inside : i + 1 < count ws
  pub ordered : place_in ws i ≤ place_in ws (i + 1)
  pub within : place_in ws (i + 1) ≤ length source
  pub same : text_in source ws i ≡ text_of source (node_at (marks_in ws) i)

-- a boundary is within the source
boundary-within : (s : List ℕ) (i : ℕ) → is_boundary s i ≡ true → i ≤ length s
unfolding is_boundary
boundary-within s i e =
    by_case (eqb i 0) (λ q. omega (arith, eqb-true i 0 q))
    (λ q. by_case (ltb i (length s)) (λ r. omega (arith, ltb-true i (length s) r))
    (λ r. omega (arith, eqb-true i (length s) (rw (q, r, is_boundary) at e))))

pub text-words : (source ws : List ℕ) {i : ℕ} → sizes_fit ws ≡ true → TextAt (is_boundary source) (marks_in ws) i → Text source ws i
unfolding text_in text_node text_of between node_at
text-words source ws {i} z t = go t.at.child t.at.there
  where
    fit : Sizes ws
    fit = sizes ws z

    k : ℕ
    k = t.kind

    rest : List Mark
    rest = t.at.rest

    go : {marks : List Mark} → Child (is_boundary source) k marks → drop i (marks_in ws) ≡ marks ++ rest → Text source ws i
    go (Spec.nest left x content) there = clash t.is_text x
    go (Spec.text a e x ba be l) there =
        let h = mark-inside ws fit i (placed k a) (placed (Kind.closing k) e ∷ rest) there in
        let n = mark-next ws fit i (placed k a) (placed (Kind.closing k) e ∷ rest) there in
        let y = mark-inside ws fit (i + 1) (placed (Kind.closing k) e) rest n in
        let wa : place_in ws i ≡ a = place-word ws fit i h ∙ ap first_place there in
        let we : place_in ws (i + 1) ≡ e = place-word ws fit (i + 1) y ∙ ap first_place n in
        let first = nodes-text k a e rest (lt-ltb k 100 (omega (arith, t.at.known))) in
        record {
          fit = fit;
          inside = y;
          ordered = omega arith;
          within = omega (arith, boundary-within source e be);
          same =
              rw (wa, we)
              (sym (ap (λ r. text_of source (first_node (nodes r))) there ∙ ap (λ r. text_of source (first_node r)) first));
        }
