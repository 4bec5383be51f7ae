-- The entries of a rest: each takes a byte, how many are allowed does not matter, and the first one is followed by those of what is left.
use Prim.Native.Nat.{ℕ, zero, suc, ◌+◌, ◌≤◌, ◌<◌}
use Rattle.std.proofs.Common.{not-suc-le-zero, add_assoc, zero-add, arith, sym, ◌∙◌, length-drop, drop-drop}
use Rattle.std.proofs.Math.Nat.{add-zero}
use Rattle.std.proofs.Math.Path.{◌≡◌, refl, ap, ap₂}
use Rattle.std.specs.Prelude.{List, [], ◌∷◌, map, drop}
use Rattle.std.proofs.Math.Option.{Option, some, none}
use Rattle.std.proofs.Math.ListN.{length}
use Rattle.syntax.specs.Reader.{Out, ok, bad, deep}
use Rattle.syntax.specs.Helper.{skip_blank_block}
use Rattle.syntax.specs.Pattern.{Inside, used_by}
use Rattle.syntax.specs.Expression.{level}
use Rattle.syntax.specs.Core.{Entry, get_entry, junk_end}
use Rattle.syntax.specs.declared.next.Extent.{Extent}
use Rattle.syntax.specs.Next.{up_extent, stop_of, extents, parse_extents}
use Rattle.laws.specs.Bounds.{ok-uses, bad-within}
use Rattle.laws.specs.Bounds.Pattern.{InsideBounds}
use Rattle.laws.specs.Bounds.Expression.{level-bounds}
use Rattle.laws.specs.Bounds.Entry.{entry-bounds, junk_end-within}
use Rattle.laws.specs.Progress.{junk-moves}

-- ---- moving up

up_up : (k j : ℕ) (x : Extent) → up_extent k (up_extent j x) ≡ up_extent (k + j) x
unfolding up_extent
up_up k j x i = record { start = sym (add_assoc k j x.start) i; stop = sym (add_assoc k j x.stop) i }

pub ups-twice : (k j : ℕ) (xs : List Extent) → map (up_extent k) (map (up_extent j) xs) ≡ map (up_extent (k + j)) xs
ups-twice k j [] = refl
ups-twice k j (x ∷ xs) = ap₂ (λ a r. a ∷ r) (up_up k j x) (ups-twice k j xs)

up-zero : (x : Extent) → up_extent 0 x ≡ x
unfolding up_extent
up-zero x i = record { start = zero-add x.start i; stop = zero-add x.stop i }

pub ups-zero : (xs : List Extent) → map (up_extent 0) xs ≡ xs
ups-zero [] = refl
ups-zero (x ∷ xs) = ap₂ (λ a r. a ∷ r) (up-zero x) (ups-zero xs)

-- ---- one entry

-- the blank lines at the start of a rest
abbrev pub blanks : List ℕ → ℕ
blanks s = used_by (skip_blank_block s)

-- what starts a rest: it stops after k bytes, or nests too deep
abbrev pub stop_at : Inside → List ℕ → Option ℕ
stop_at sub s = stop_of s (get_entry sub s)

module _ (sub : Inside) where
  pub extents-some : (m b : ℕ) (bs : List ℕ) {k : ℕ} → stop_at sub (b ∷ bs) ≡ some k
      → extents (suc m) sub (b ∷ bs) ≡ record { start = 0; stop = k }
      ∷ map (up_extent (k + blanks (drop k (b ∷ bs)))) (extents m sub (drop (k + blanks (drop k (b ∷ bs))) (b ∷ bs)))
  unfolding extents
  extents-some m b bs h = rw (h, extents)

  pub extents-none : (m b : ℕ) (bs : List ℕ) → stop_at sub (b ∷ bs) ≡ none → extents (suc m) sub (b ∷ bs) ≡ []
  unfolding extents
  extents-none m b bs h = rw (h, extents)

  pub extents-nil : (m : ℕ) → extents m sub [] ≡ []
  unfolding extents
  extents-nil zero = refl
  extents-nil (suc m) = refl

module _ {n : ℕ} {sub : Inside} (law : InsideBounds n sub) where
  pub stop-within : (b : ℕ) (bs : List ℕ) {k : ℕ} → stop_at sub (b ∷ bs) ≡ some k → (0 < k) × (k ≤ length (b ∷ bs))
  unfolding stop_of
  stop-within b bs {k} h = go (get_entry sub (b ∷ bs)) refl h
    where
      go : (o : Out Entry) → get_entry sub (b ∷ bs) ≡ o → stop_of (b ∷ bs) o ≡ some k → (0 < k) × (k ≤ length (b ∷ bs))
      go (ok e ms j) g q = let z : j ≡ k = cc in let u = ok-uses (entry-bounds law) (b ∷ bs) g in
          (omega (arith, u.room), omega (arith, u.within))
      go (bad f j) g q =
          let z : junk_end j (b ∷ bs) ≡ k = cc in
          (omega (arith, junk-moves sub b bs g), omega (arith, junk_end-within j (b ∷ bs) (bad-within (entry-bounds law) (b ∷ bs) g)))
      go (deep j) g q = let z : ◌≡◌ {A = ℕ} 0 1 = cc in absurd (omega arith)

  -- with more entries allowed than there are bytes, how many does not matter
  pub extents-fuel : (m m' : ℕ) (s : List ℕ) → length s < m → length s < m' → extents m sub s ≡ extents m' sub s
  extents-fuel zero m' s l l' = absurd (not-suc-le-zero l)
  extents-fuel (suc m) zero s l l' = absurd (not-suc-le-zero l')
  extents-fuel (suc m) (suc m') [] l l' = extents-nil sub (suc m) ∙ sym (extents-nil sub (suc m'))
  extents-fuel (suc m) (suc m') (b ∷ bs) l l' = go (stop_at sub (b ∷ bs)) refl (λ r h h'. extents-fuel m m' r h h')
    where
      go : (o : Option ℕ) → stop_at sub (b ∷ bs) ≡ o → ((r : List ℕ) → length r < m → length r < m' → extents m sub r ≡ extents m' sub r)
          → extents (suc m) sub (b ∷ bs) ≡ extents (suc m') sub (b ∷ bs)
      go (some k) h ih =
          let j = k + blanks (drop k (b ∷ bs)) in
          let w = stop-within b bs h in
          extents-some sub m b bs h
          ∙ ap (λ r. record { start = 0; stop = k } ∷ map (up_extent j) r)
          (ih (drop j (b ∷ bs)) (omega (arith, w, length-drop j (b ∷ bs)))
          (omega (arith, w, length-drop j (b ∷ bs))))
          ∙ sym (extents-some sub m' b bs h)
      go none h ih = extents-none sub m b bs h ∙ sym (extents-none sub m' b bs h)

-- ---- the entries after a place

-- those of the rest, moved up
abbrev pub rest_extents : ℕ → List ℕ → ℕ → List Extent
rest_extents n s at = map (up_extent at) (parse_extents n (drop at s))

-- where the one after a place starts, if there is one
abbrev pub start_after : List ℕ → ℕ → ℕ
start_after s at = at + blanks (drop at s)

-- after one that starts at a and stops k bytes on
module _ (s : List ℕ) (a b : ℕ) (bs : List ℕ) (h : drop a s ≡ b ∷ bs) (k : ℕ) where
  onward : drop k (b ∷ bs) ≡ drop (a + k) s
  onward = ap (drop k) (sym h) ∙ drop-drop k a s

  pub next_start : a + (k + blanks (drop k (b ∷ bs))) ≡ start_after s (a + k)
  next_start = ap (λ r. a + (k + blanks r)) onward ∙ sym (add_assoc a k (blanks (drop (a + k) s)))

  pub next-rest : drop (k + blanks (drop k (b ∷ bs))) (b ∷ bs) ≡ drop (start_after s (a + k)) s
  next-rest = let j = k + blanks (drop k (b ∷ bs)) in ap (drop j) (sym h) ∙ drop-drop j a s ∙ ap (λ i. drop i s) next_start

module _ (n : ℕ) (s : List ℕ) where
  abbrev starting_with : ℕ → List ℕ → List Extent
  starting_with at r = map (up_extent (start_after s at)) (extents (suc (length (drop at s))) (level n) r)

  rest_from : (at : ℕ) → rest_extents n s at ≡ starting_with at (drop (start_after s at) s)
  unfolding parse_extents
  rest_from at =
      let j = blanks (drop at s) in
      ups-twice at j (extents (suc (length (drop at s))) (level n) (drop j (drop at s))) ∙ ap (starting_with at) (drop-drop j at s)

  -- there is none
  pub rest-nil : (at : ℕ) → drop (start_after s at) s ≡ [] → rest_extents n s at ≡ []
  rest-nil at h = rest_from at ∙ ap (starting_with at) h
      ∙ ap (map (up_extent (start_after s at))) (extents-nil (level n) (suc (length (drop at s))))

  module _ (at b : ℕ) (bs : List ℕ) (h : drop (start_after s at) s ≡ b ∷ bs) where
    -- it nests too deep
    pub rest-none : stop_at (level n) (b ∷ bs) ≡ none → rest_extents n s at ≡ []
    rest-none q = rest_from at ∙ ap (starting_with at) h
        ∙ ap (map (up_extent (start_after s at))) (extents-none (level n) (length (drop at s)) b bs q)

    -- it stops after k bytes; those after it are those after where it stopped
    pub rest_some : {k : ℕ} → stop_at (level n) (b ∷ bs) ≡ some k
        → rest_extents n s at ≡ record { start = start_after s at; stop = start_after s at + k } ∷ rest_extents n s (start_after s at + k)
    unfolding up_extent
    rest_some {k} q =
        rest_from at ∙ ap (starting_with at) h ∙ ap (map (up_extent a)) (extents-some (level n) (length (drop at s)) b bs q)
        ∙ ap₂ (λ x r. x ∷ r) (λ i. record { start = add-zero a i; stop = a + k }) others
      where
        a : ℕ
        a = start_after s at

        j : ℕ
        j = k + blanks (drop k (b ∷ bs))

        others : map (up_extent a) (map (up_extent j) (extents (length (drop at s)) (level n) (drop j (b ∷ bs)))) ≡ rest_extents n s (a + k)
        others =
            ups-twice a j (extents (length (drop at s)) (level n) (drop j (b ∷ bs)))
            ∙ ap₂ (λ i r. map (up_extent i) (extents (length (drop at s)) (level n) r)) (next_start s a b bs h k) (next-rest s a b bs h k)
            ∙ ap (map (up_extent (start_after s (a + k))))
            (extents-fuel (level-bounds n) (length (drop at s)) (suc (length (drop (a + k) s)))
            (drop (start_after s (a + k)) s) fewer less)
            ∙ sym (rest_from (a + k))
          where
            w : (0 < k) × (k ≤ length (b ∷ bs))
            w = stop-within (level-bounds n) b bs q

            fewer : length (drop (start_after s (a + k)) s) < length (drop at s)
            fewer = omega (arith, w, ap length h, length-drop a s, length-drop at s, length-drop (start_after s (a + k)) s)

            less : length (drop (start_after s (a + k)) s) < suc (length (drop (a + k) s))
            less = omega (arith, length-drop (start_after s (a + k)) s, length-drop (a + k) s)
