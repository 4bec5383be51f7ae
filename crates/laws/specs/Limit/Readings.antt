-- A reading that is not refused is the same with more openings allowed.
use Prim.Native.Nat.{ℕ, zero, suc, ◌+◌, ◌≤◌}
use Rattle.std.proofs.Common.{arith, sym, ◌∙◌, subst, inl, inr}
use Rattle.std.proofs.Math.Path.{◌≡◌}
use Rattle.std.specs.Prelude.{refl, ◌⊎◌, ◌&&◌, drop, length, ltb}
use mathlib.Core.List.{List, [], ◌∷◌}
use Rattle.syntax.specs.Marks.{Mark, node}
use Rattle.syntax.specs.Reader.{Out, deep}
use Rattle.syntax.specs.Helper.{skip_blank_block}
use Rattle.syntax.specs.Pattern.{Inside, used_by}
use Rattle.syntax.specs.Core.{Entry, get_entry, Error, read, refused, following, is_named, count, kind_of_entry, entries, parse}
use Rattle.laws.specs.Entries.{nil-entry}
use Rattle.laws.specs.File.{near, First, entry, junk, entries-first, Begins, first, far, begins, entries_far}
use Rattle.laws.specs.File.{ReadKept, same_reading, lost_reading, following-kept, read_kept, leading}
use Rattle.laws.specs.Limit.{Kept, same, lost, ok-kept, bad-kept}
use Rattle.laws.specs.Limit.Readers.{InsideKeeps, entry-keeps, level-keeps}

module _ {sub sub' : Inside} (law : InsideKeeps sub sub') where
  -- the first entry is the same, unless what a comment looks ahead to is too deep
  first-kept : {b : ℕ} {bs : List ℕ} {ms : List Mark} {es : List Error} {k : ℕ} → First sub (b ∷ bs) ms es k
      → First sub' (b ∷ bs) ms es k ⊎ ((j : ℕ) × (get_entry sub (drop k (b ∷ bs)) ≡ deep j))
  first-kept {b} {bs} (entry {e} {ms} {k} h) = go (get_entry sub r) (get_entry sub' r) refl refl ((entry-keeps law).on r)
    where
      u : ℕ
      u = used_by (skip_blank_block (drop k (b ∷ bs)))

      r : List ℕ
      r = drop (k + u) (b ∷ bs)

      go : (o o' : Out Entry) → get_entry sub r ≡ o → get_entry sub' r ≡ o' → Kept o o'
          → First sub' (b ∷ bs) (node (kind_of_entry e (near sub (b ∷ bs) k)) ms) [] (k + u) ⊎ ((j : ℕ) × (get_entry sub r ≡ deep j))
      go o o' p q same =
          inl
          (subst
          (λ v. First sub' (b ∷ bs)
          (node (kind_of_entry e (ltb (count (skip_blank_block (drop k (b ∷ bs)))) 2 && is_named v)) ms) [] (k + u))
          (q ∙ sym p) (entry (ok-kept (entry-keeps law) (b ∷ bs) h)))
      go o o' p q (lost j d) = inr (j, p ∙ d)
  first-kept {b} {bs} (junk h) = inl (junk (bad-kept (entry-keeps law) (b ∷ bs) h))

  -- where the entry is too deep, so is the reading
  deep-read : (m : ℕ) (r : List ℕ) {j : ℕ} → get_entry sub r ≡ deep j → (k : ℕ) × (entries m sub r ≡ refused k)
  unfolding entries
  deep-read zero r h = (0, refl)
  deep-read (suc m) [] h = let (f, k, e) = nil-entry sub in let z : ◌≡◌ {A = ℕ} 0 1 = cc in absurd (omega arith)
  deep-read (suc m) (b ∷ bs) {j} h = (j, entries_far sub m b bs h)

  pub entries-kept : (m : ℕ) (s : List ℕ) → ReadKept (entries m sub s) (entries m sub' s)
  unfolding entries following
  entries-kept zero s = same_reading
  entries-kept (suc m) [] = same_reading
  entries-kept (suc m) (b ∷ bs) = go (begins sub b bs) (λ r. entries-kept m r)
    where
      go : Begins sub b bs → ((r : List ℕ) → ReadKept (entries m sub r) (entries m sub' r))
          → ReadKept (entries (suc m) sub (b ∷ bs)) (entries (suc m) sub' (b ∷ bs))
      go (first {ms} {es} {k} f) ih = by (first-kept f)
        where
          by : First sub' (b ∷ bs) ms es k ⊎ ((j : ℕ) × (get_entry sub (drop k (b ∷ bs)) ≡ deep j))
              → ReadKept (entries (suc m) sub (b ∷ bs)) (entries (suc m) sub' (b ∷ bs))
          by (inl f') = rw (entries-first sub m f, entries-first sub' m f') (following-kept ms es k (ih (drop k (b ∷ bs))))
          by (inr (j, h)) = let (i, e) = deep-read m (drop k (b ∷ bs)) h in rw (entries-first sub m f, e) (lost_reading (k + i) refl)
      go (far {k} h) ih = lost_reading k (entries_far sub m b bs h)

pub parse-kept : (n m : ℕ) (s : List ℕ) {ms : List Mark} {es : List Error} → n ≤ m → parse n s ≡ read ms es → parse m s ≡ read ms es
unfolding parse
parse-kept n m s l e =
    read_kept
    (following-kept [] [] (leading s) (entries-kept (level-keeps n m l) (suc (length s)) (drop (leading s) s))) e
