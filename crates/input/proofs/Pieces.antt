-- A buffer that is read piece by piece: what stands in it after a piece, and what the reader has given.
use Prim.Native.Nat.{ℕ, ◌+◌, ◌-◌, ◌≤◌}
use native.Mathlib.Omega.{arith}
use mathlib.Core.Path.{◌≡◌, sym, ap, subst, ◌∙◌}
use mathlib.Core.List.{List, ◌++◌, append_assoc}
use Rattle.std.specs.Prelude.{Option, Some, None}
use lib.ListN.{length, take, length-append}
use lib.Seq.{take_at, length-take-le, take-append-add}
use Rattle.std.proofs.lemmas.List.{take-append-le}
use borrow.Rule.Slice.PartMut.{put_mid, post_of}
use Rattle.std.specs.Io.KnownBytes.{Consumes, Keeps}

consumes-both : (a b c : Option (List ℕ)) (xs ys : List ℕ) → Consumes a b xs → Consumes b c ys → Consumes a c (xs ++ ys)
consumes-both None b c xs ys p q = tt
consumes-both (Some x) None c xs ys p q = absurd p
consumes-both (Some x) (Some y) None xs ys p q = absurd q
consumes-both (Some x) (Some y) (Some z) xs ys p q = p ∙ ap (λ l. xs ++ l) q ∙ sym (append_assoc xs ys z)

consumes-kept : (a b c : Option (List ℕ)) (xs : List ℕ) → Consumes a b xs → Keeps b c → Consumes a c xs
consumes-kept None b c xs p q = tt
consumes-kept (Some x) None c xs p q = absurd p
consumes-kept (Some x) (Some y) None xs p q = absurd q
consumes-kept (Some x) (Some y) (Some z) xs p q = p ∙ ap (λ l. xs ++ l) (sym q)

-- a buffer, of which what stands from a place on is replaced by a piece of that length
module _ (buffer piece : List ℕ) (at : ℕ) (h : at ≤ length buffer) (l : length piece ≡ length buffer - at) where
  abbrev after : List ℕ
  after = put_mid at (length buffer - at) buffer piece

  long : length buffer ≤ length after
  long = simp length-append (omega (arith, length-take-le at buffer h))

  more : (n : ℕ) → n ≤ length piece → take (at + n) after ≡ take at buffer ++ take n piece
  more n k =
      let first = take at buffer in
      let rest = post_of at (length buffer - at) buffer in
      ap (λ i. take (i + n) after) (sym (length-take-le at buffer h))
      ∙ (take-append-add first (piece ++ rest) n ∙ ap (λ z. first ++ z) (take-append-le n piece rest k))

  module _ (a b c : Option (List ℕ)) (so_far : Consumes a b (take at buffer)) (m : ℕ) where
    -- n more bytes were read
    pub read_more : (n : ℕ) → m ≡ at + n → n ≤ length piece → Consumes b c (take n piece) → (m ≤ length after) × Consumes a c (take m after)
    read_more n e k p =
        (omega (arith, long), subst (λ z. Consumes a c z) (sym (ap (λ i. take i after) e ∙ more n k)) (consumes-both a b c _ _ so_far p))

    -- none were
    pub read_none : m ≡ at → Keeps b c → (m ≤ length after) × Consumes a c (take m after)
    read_none e p = (
      omega (arith, long),
      subst (λ z. Consumes a c z) (sym (ap (λ i. take i after) e ∙ take_at (take at buffer) _ at (length-take-le at buffer h)))
          (consumes-kept a b c _ so_far p),
    )
