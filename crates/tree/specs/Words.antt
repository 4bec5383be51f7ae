-- What stands at a mark in the words of a tree, whatever the words are: a word that is not there is taken as 0.
use Rattle.std.specs.Prelude.{ℕ, suc, ◌+◌, ◌-◌, true, false, List, [], ◌∷◌, eqb, ltb, get_or, take, drop}
use Rattle.syntax.specs.Kind as Kind
use Rattle.syntax.specs.Layout.{sizes, capacity, kinds}

-- the kind and the place of a mark
unfoldable pub kind_in : List ℕ → ℕ → ℕ
kind_in ws i = get_or ws (sizes + i) 0

unfoldable pub place_in : List ℕ → ℕ → ℕ
place_in ws i = get_or ws (sizes + capacity ws + i) 0

-- the source from a mark's place up to the next one's: the text of a T node
unfoldable pub text_in : (source : List ℕ) → List ℕ → ℕ → List ℕ
text_in source ws i = take (place_in ws (i + 1) - place_in ws i) (drop (place_in ws i) source)

-- how many marks there are till none of d open nodes is left open, by the kinds that follow; all where some stay open
unfoldable pub till_closed : (d : ℕ) → List ℕ → ℕ
till_closed d [] = 0
till_closed d (k ∷ ks) =
    elim (eqb d 0) [
      | true ↦ 0
      | false ↦ suc (elim (ltb k (Kind.closing 0)) [ true ↦ till_closed (suc d) ks | false ↦ till_closed (d - 1) ks ])
    ]

-- the mark after the node that starts at a mark; the mark itself where there is none
unfoldable pub after_in : List ℕ → ℕ → ℕ
after_in ws i = elim (drop i (kinds ws)) [ [] ↦ i | k ∷ ks ↦ i + 1 + till_closed 1 ks ]
