-- A loop over a tree's kinds and places side by side, with the index: the mark of each turn, and the end.
use Prim.Native.Nat.{ℕ, suc, ◌+◌, ◌<◌}
use native.Mathlib.Omega.{arith}
use mathlib.Core.Path.{◌≡◌, ap, ◌∙◌}
use mathlib.Core.List.{List, ◌∷◌}
use denote.Ref.{Bor}
use lib.ListN.{length, get_or, drop}
use Rattle.std.specs.Prelude.{Some, None}
use Rattle.std.specs.declared.option.Option.{Option}
use Rattle.std.specs.declared.iter.Enumerate.{Enumerate}
use Rattle.std.specs.declared.iter.Zip.{Zip}
use Rattle.std.proofs.Common.{Iter}
use Rattle.std.specs.List.{zip, enumerate_from}
use Rattle.std.specs.Iterator.{Yields}
use Rattle.std.specs.Iterator.Adapters.{zip_first, zip_second, enumerate_source, enumerate_count, enumerate_steps}
use Rattle.std.specs.Slice.Iter.{iter_rest}
use Rattle.std.proofs.iter.Yields.{fronts}
use Rattle.std.proofs.lemmas.Iterator.{YieldsList, YieldsList-from_slice, YieldsList-from_zip, zips}
use Rattle.std.proofs.lemmas.Iterator.Consumers.{YieldsList-from_enumerate, YieldsList-turn, YieldsList-end}
use Rattle.std.proofs.lemmas.List.{get_or_default}
use Rattle.std.proofs.lemmas.List.FromFn.{length-enumerate_from, get_or-enumerate_from}
use Rattle.std.proofs.lemmas.Slice.Zip.{length-zip, get_or-zip}
use Rattle.syntax.specs.Layout.{count, kinds, places, mark_of, marks_in}
use Rattle.tree.proofs.Sizes.{Sizes, kinds-length, places-length, marks-at}

-- n turns having been made, the item of a turn, and its mark
pub record Turn (ws : List ℕ) (n i k p : ℕ) : Type 0 where
  pub inside : n < count ws
  pub index : i ≡ n
  pub marks : drop n (marks_in ws) ≡ mark_of k p ∷ drop (suc n) (marks_in ws)

abbrev Sides : Type 0
Sides = Enumerate (Zip (Iter ℕ) (Iter ℕ))

-- where the loop begins
pub record Begun (ws : List ℕ) (s : Sides) : Type 0 where
  pub first : iter_rest (zip_first (enumerate_source s)) ≡ kinds ws
  pub second : iter_rest (zip_second (enumerate_source s)) ≡ places ws
  pub zeroth : enumerate_count s ≡ 0

abbrev Item : Type 0
Item = ℕ × (Bor ℕ × Bor ℕ)

abbrev steps : Sides → Option Item → Sides → Type 0
steps = enumerate_steps (zips fronts fronts)

module _ (ws : List ℕ) (fit : Sizes ws) where
  abbrev sides : List (ℕ × ℕ)
  sides = zip (kinds ws) (places ws)

  sides-length : length sides ≡ count ws
  sides-length = length-zip (kinds ws) (places ws) ∙ omega (arith, kinds-length ws fit, places-length ws fit)

  turn : (n i k p : ℕ) → (n < length (enumerate_from 0 sides)) × ((i, (k, p)) ≡ get_or (enumerate_from 0 sides) n (i, (k, p)))
      → Turn ws n i k p
  unfolding marks_in
  turn n i k p h =
      let l : n < count ws = omega (arith, h.0, length-enumerate_from 0 sides, sides-length) in
      let lk : n < length (kinds ws) = omega (arith, kinds-length ws fit) in
      let lp : n < length (places ws) = omega (arith, places-length ws fit) in
      let e : (i, (k, p)) ≡ (0 + n, get_or sides n (k, p)) = h.1 ∙ get_or-enumerate_from 0 sides n (i, (k, p)) (omega (arith, sides-length)) in
      let f : get_or sides n (k, p) ≡ (get_or (kinds ws) n k, get_or (places ws) n p) = get_or-zip (kinds ws) (places ws) n (k, p) lk lp in
      let ek : k ≡ get_or (kinds ws) n 0 = ap (λ (x : ℕ × (ℕ × ℕ)). x.1.0) e ∙ ap (λ (x : ℕ × ℕ). x.0) f ∙ get_or_default (kinds ws) n k 0 lk in
      let ep : p ≡ get_or (places ws) n 0 = ap (λ (x : ℕ × (ℕ × ℕ)). x.1.1) e ∙ ap (λ (x : ℕ × ℕ). x.1) f ∙ get_or_default (places ws) n p 0 lp in
      record {
        inside = l;
        index = ap (λ (x : ℕ × (ℕ × ℕ)). x.0) e ∙ omega arith;
        marks = rw (ek, ep) (marks-at n (kinds ws) (places ws) lk lp);
      }

  module _ (s : Sides) (b : Begun ws s) (xs : List Item) (t u : Sides) (y : Yields steps s xs t) where
    road : YieldsList steps (λ p. (p.0, (p.1.0.now, p.1.1.now))) s (enumerate_from 0 sides)
    road =
        YieldsList-from_enumerate
        (YieldsList-from_zip (YieldsList-from_slice (kinds ws) b.first)
        (YieldsList-from_slice (places ws) b.second))
        b.zeroth

    pub turn-made : (r : Option Item) (x : Item) → r ≡ Some x → steps t r u → Turn ws (length xs) x.0 x.1.0.now x.1.1.now
    turn-made r x e z = turn _ _ _ _ (YieldsList-turn road xs t y r u x e z)

    pub turns-over : (r : Option Item) → r ≡ None → steps t r u → count ws ≡ length xs
    turns-over r e z = omega (arith, (YieldsList-end road xs t y r u e z).1, length-enumerate_from 0 sides, sides-length)
