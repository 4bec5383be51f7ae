-- Zeros in a slice; and a slice whose arrays were finished.
use Prim.Native.Nat.{ℕ, ◌+◌, ◌-◌, ◌≤◌}
use native.Mathlib.Omega.{arith}
use mathlib.Core.Path.{◌≡◌, refl, sym, ap, ap₂, ◌∙◌}
use mathlib.Core.List.{List, [], ◌∷◌, ◌++◌, append_assoc}
use lib.ListN.{length, take, drop, set, replicate, length-append, length-take, length-drop, length-replicate}
use lib.Seq.{drop-drop, take-append-add, drop-append-add}
use Rattle.syntax.specs.Layout.{array}
use Rattle.parser.specs.Laid.{Laid, finished}

-- t with zeros from `from` to i
unfoldable pub zeroed : (from i : ℕ) → List ℕ → List ℕ
zeroed from i t = take from t ++ (replicate (i - from) 0 ++ drop i t)

-- as the contract of `layout::zero` says it
pub zero-length : (from i : ℕ) (t t' : List ℕ) → from ≤ i → i ≤ length t
    → t' ≡ take from t ++ (replicate (i - from) 0 ++ drop i t) → length t' ≡ length t
zero-length from i t t' h l e = ap length e ∙ simp (length-append, length-take, length-replicate, length-drop) (omega arith)

-- past a part that is left alone
zeroed-past : (p t : List ℕ) (m i j : ℕ) → length p ≡ m → i ≤ j → zeroed (m + i) (m + j) (p ++ t) ≡ p ++ zeroed i j t
unfolding zeroed
zeroed-past p t m i j l h =
    let e : m + j - (m + i) ≡ j - i = omega arith in
    ap₂ (λ (a b : List ℕ). a ++ b) (ap (λ k. take (k + i) (p ++ t)) (sym l) ∙ take-append-add p t i)
    (ap₂ (λ (n : ℕ) (b : List ℕ). replicate n 0 ++ b) e (ap (λ k. drop (k + j) (p ++ t)) (sym l) ∙ drop-append-add p t j))
    ∙ append_assoc p (take i t) (replicate (j - i) 0 ++ drop j t)

-- an array of which n words are kept
zeroed-array : (n cap : ℕ) (t : List ℕ) → n ≤ cap → cap ≤ length t → zeroed n cap t ≡ array cap (take n t) ++ drop cap t
unfolding zeroed array
zeroed-array n cap t h l =
    let e : length (take n t) ≡ n = length-take n t ∙ omega arith in
    sym (append_assoc (take n t) (replicate (cap - n) 0) (drop cap t)) ∙ ap (λ k. (take n t ++ replicate (cap - k) 0) ++ drop cap t) (sym e)

array_long : (cap : ℕ) (ws : List ℕ) → length ws ≤ cap → length (array cap ws) ≡ cap
unfolding array
array_long cap ws h = simp (length-append, length-replicate) (omega arith)

-- the two sizes, then zeros behind what both arrays hold
pub finish-is : (t : List ℕ) (cap n size used : ℕ) → Laid t cap n size used
    → zeroed (2 + cap + used) (2 + cap + size) (zeroed (2 + n) (2 + cap) (set (set t 0 n) 1 cap)) ≡ finished cap n size used t
unfolding finished
finish-is [] cap n size used l = let h = l.layout in absurd (omega arith)
finish-is (a ∷ []) cap n size used l = let h = l.layout in absurd (omega arith)
finish-is (a ∷ b ∷ r) cap n size used l =
    let kept : List ℕ = array cap (take n r) in
    let room : cap + size ≤ length r = omega (arith, l.layout) in
    let k : length kept ≡ cap = array_long cap (take n r) (simp length-take (omega (arith, l.held))) in
    let past : drop (2 + cap) (a ∷ b ∷ r) ≡ drop cap r = drop-append-add (a ∷ b ∷ []) r cap in
    let end : drop (2 + cap + size) (a ∷ b ∷ r) ≡ drop size (drop cap r) = sym (drop-drop size (2 + cap) (a ∷ b ∷ r))
    ∙ ap (drop size) past in
    ap (zeroed (2 + cap + used) (2 + cap + size))
    (zeroed-past (n ∷ cap ∷ []) r 2 n cap refl l.held ∙ ap (λ (z : List ℕ). n ∷ cap ∷ z) (zeroed-array n cap r l.held (omega arith)))
    ∙ zeroed-past (n ∷ cap ∷ kept) (drop cap r) (2 + cap) used size (omega arith) l.filled
    ∙ ap (λ (z : List ℕ). n ∷ cap ∷ z)
    (ap (λ z. kept ++ z)
    (zeroed-array used size (drop cap r) l.filled (simp length-drop (omega arith))
    ∙ ap₂ (λ (x y : List ℕ). array size (take used x) ++ y) (sym past) (sym end))
    ∙ sym (append_assoc kept (array size (take used (drop (2 + cap) (a ∷ b ∷ r)))) (drop (2 + cap + size) (a ∷ b ∷ r))))
