-- Stored words of four bytes, and the tree that is laid of them.
use Prim.Native.Nat.{ℕ, zero, suc, ◌-◌, ◌*◌, ◌≤◌, ◌<◌}
use native.Mathlib.Omega.{arith}
use mathlib.Core.Path.{◌≡◌, refl, sym, ap, ap₂, ◌∙◌}
use mathlib.Core.List.{List, [], ◌∷◌, ◌++◌, map}
use lib.ListN.{length, get_or, take, replicate}
use lib.Seq.{ext_get_or}
use Rattle.std.specs.Int.{from_le_bytes, w32}
use Rattle.std.specs.Simd.{first_chunks}
use Rattle.std.proofs.lemmas.List.{get_or-map, length-map}
use Rattle.syntax.specs.Layout.{array}
use Rattle.vectors.specs.Stored.{between}
use Rattle.vectors.specs.Written.{longs, word_bytes, tree_in}
use Rattle.vectors.specs.declared.written.Written.{Written}

pub length-longs : (n : ℕ) (bytes : List ℕ) → length bytes ≡ 4 * n → length (longs bytes) ≡ n
unfolding longs
length-longs zero [] e = refl
length-longs (suc n) [] e = absurd (omega arith)
length-longs zero (a ∷ bytes) e = absurd (omega arith)
length-longs (suc n) (a ∷ []) e = absurd (omega arith)
length-longs (suc n) (a ∷ b ∷ []) e = absurd (omega arith)
length-longs (suc n) (a ∷ b ∷ c ∷ []) e = absurd (omega arith)
length-longs (suc n) (a ∷ b ∷ c ∷ d ∷ bytes) e = ap suc (length-longs n bytes (omega arith))

pub longs-chunks : (n : ℕ) (bytes : List ℕ) → length bytes ≡ 4 * n → map (from_le_bytes w32) (first_chunks 4 n bytes) ≡ longs bytes
unfolding longs
longs-chunks zero [] e = refl
longs-chunks (suc n) [] e = absurd (omega arith)
longs-chunks zero (a ∷ bytes) e = absurd (omega arith)
longs-chunks (suc n) (a ∷ []) e = absurd (omega arith)
longs-chunks (suc n) (a ∷ b ∷ []) e = absurd (omega arith)
longs-chunks (suc n) (a ∷ b ∷ c ∷ []) e = absurd (omega arith)
longs-chunks (suc n) (a ∷ b ∷ c ∷ d ∷ bytes) e = ap₂ (λ y ys. y ∷ ys) (omega arith) (longs-chunks n bytes (omega arith))

pub all-copied : (words bytes : List ℕ) (chunks : List (List ℕ)) (i : ℕ) → length bytes ≡ 4 * length words
    → chunks ≡ first_chunks 4 (length words) bytes → length chunks ≤ i → length chunks ≡ length words
    → ((k : ℕ) → k < i → get_or words k 0 ≡ from_le_bytes w32 (get_or chunks k [])) → words ≡ longs bytes
all-copied words bytes chunks i e q h l f =
    ext_get_or 0 words (map (from_le_bytes w32) chunks) (sym l ∙ sym (length-map chunks (from_le_bytes w32)))
    (λ k m. f k (omega arith) ∙ sym (get_or-map (from_le_bytes w32) chunks k [] 0 (omega arith)))
    ∙ (ap (map (from_le_bytes w32)) q ∙ longs-chunks (length words) bytes e)

pub array-laid : (n : ℕ) (stored x y : List ℕ) → x ≡ longs stored → y ≡ replicate (n - length x) 0 → x ++ y ≡ array n (longs stored)
unfolding array
array-laid n stored x y p q = ap₂ ◌++◌ p (q ∙ ap (λ z. replicate (n - length z) 0) p)

pub tree-laid : (c : Written) (l x y : List ℕ) (a b end : ℕ) → a ≡ c.middle → b ≡ c.tree - c.middle → end ≡ word_bytes c
    → x ≡ array a (longs (take (4 * c.firsts) l)) → y ≡ array b (longs (between (4 * c.firsts) end l)) → x ++ y ≡ tree_in c l
unfolding tree_in
tree-laid c l x y a b end m n e p q =
    let k : 4 * c.firsts ≡ 4 * c.firsts - 0 = omega arith in
    ap₂ ◌++◌ (p ∙ ap₂ (λ i j. array i (longs (take j l))) m k)
    (q ∙ ap₂ (λ i j. array i (longs (between (4 * c.firsts) j l))) n e)
