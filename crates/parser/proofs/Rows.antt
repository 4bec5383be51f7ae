-- Errors in a list's words: steps one after the other.
use Prim.Native.Nat.{ℕ, ◌+◌, ◌*◌}
use native.Mathlib.Omega.{arith}
use mathlib.Core.Path.{◌≡◌, refl, sym, ap, ◌∙◌}
use mathlib.Core.List.{List, [], ◌∷◌, ◌++◌, append_assoc, map}
use lib.ListN.{length, take, drop, length-append}
use Rattle.syntax.specs.Core.{Error}
use Rattle.syntax.specs.Layout.{group_size, group, groups, error_number}
use Rattle.laws.specs.Moving.{map-append}
use Rattle.parser.specs.ErrorList.{ErrorStep}

groups-append : (es fs : List Error) → groups (es ++ fs) ≡ groups es ++ groups fs
unfolding groups
groups-append [] fs = refl
groups-append (e ∷ es) fs = ap (λ (r : List ℕ). group e ++ r) (groups-append es fs) ∙ sym (append_assoc (group e) (groups es) (groups fs))

pub rows_then : {cap n m : ℕ} {t t₁ t₂ : List ℕ} {es fs : List Error} → ErrorStep cap n t t₁ es → m ≡ n + length es
    → ErrorStep cap m t₁ t₂ fs → ErrorStep cap n t t₂ (es ++ fs)
rows_then {cap} {n} {m} {t} {t₁} {t₂} {es} {fs} s e r =
    let k : n + length (es ++ fs) ≡ m + length fs = omega (arith, e, length-append es fs) in
    let p : take m (drop 2 t₁) ≡ take n (drop 2 t) ++ map error_number es = rw e s.kinds in
    let q : take (group_size * m) (drop (2 + cap) t₁) ≡ take (group_size * n) (drop (2 + cap) t) ++ groups es = rw e s.groups in
    record {
      long = r.long ∙ s.long;
      kinds =
          rw (k, map-append)
          (r.kinds ∙ ap (λ (l : List ℕ). l ++ map error_number fs) p
          ∙ append_assoc (take n (drop 2 t)) (map error_number es) (map error_number fs));
      groups =
          rw (k, groups-append)
          (r.groups ∙ ap (λ (l : List ℕ). l ++ groups fs) q
          ∙ append_assoc (take (group_size * n) (drop (2 + cap) t)) (groups es) (groups fs));
      rest = r.rest ∙ s.rest;
    }

pub rows_none : (cap : ℕ) (t : List ℕ) → ErrorStep cap 0 t t []
unfolding groups
rows_none cap t = record { long = refl; kinds = refl; groups = refl; rest = refl }

-- from the first error on: what stood there before does not matter
module _ {cap : ℕ} {t t₁ : List ℕ} {es : List Error} (s : ErrorStep cap 0 t t₁ es) where
  pub rows_cut : ErrorStep cap 0 t t₁ []
  unfolding groups
  rows_cut = record { long = s.long; kinds = refl; groups = refl; rest = s.rest }

  pub rows_self : ErrorStep cap 0 t₁ t₁ es
  rows_self = record { long = refl; kinds = s.kinds; groups = s.groups; rest = refl }
