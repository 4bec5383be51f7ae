-- Entries listed part way: those so far stand in the list, and the others come after the place.
use Prim.Native.Nat.{ℕ, ◌+◌, ◌≤◌, ◌<◌}
use native.Mathlib.Omega.{arith}
use mathlib.Core.Path.{subst, ◌≡◌, refl, sym, ap, ap₂, ◌∙◌}
use mathlib.Core.List.{List, [], ◌∷◌, ◌++◌, append_assoc, append-nil}
use lib.ListN.{length, take, drop, set, take-append-drop}
use lib.Seq.{drop-drop, length-take-le}
use Rattle.std.specs.Prelude.{Ok, Some}
use Rattle.std.proofs.lemmas.List.{length-set, take_more_set, drop-set-lt}
use Rattle.syntax.specs.declared.next.Extent.{Extent}
use Rattle.syntax.specs.Next.{Next, entries_of, first_place, next_answer}
use Rattle.reader.proofs.Calls.{entries_after, after_first, first-within, Answered, ends, finds, answered}
use Rattle.entries.specs.Listed.{Lent, Listed}

pub record Going (s : List ℕ) (xs xs' : List Extent) (at n : ℕ) : Type 0 where
  pub inside : at ≤ length s
  pub few : n ≤ at
  pub long : length xs' ≡ length xs
  pub all : take n xs' ++ entries_after s at ≡ entries_of s
  pub rest : drop n xs' ≡ drop n xs

pub going_start : (s : List ℕ) (xs : List Extent) {at : ℕ} → at ≡ first_place s → Going s xs xs at 0
going_start s xs {at} h =
    record {
      inside = omega (arith, first-within s);
      few = omega arith;
      long = refl;
      all = ap (entries_after s) h ∙ after_first s;
      rest = refl;
    }

-- the entry after a place: how far it lies, and that it is the first of those after the place
pub record Found (s : List ℕ) (at : ℕ) (x : Extent) : Type 0 where
  pub before : at ≤ x.start
  pub some : x.start < x.stop
  pub within : x.stop ≤ length s
  pub first : entries_after s at ≡ x ∷ entries_after s x.stop

-- the call from a place, which answered r
module _ {s t : List ℕ} {xs xs' : List Extent} {at n m : ℕ} {r : Next} (l : Lent s t xs) (g : Going s xs xs' at n)
    (k : m ≡ length t) (h : r ≡ next_answer s at m) where
  told : Answered s at m
  told = answered s at m (omega (arith, l.source, l.tree))

  module _ {x : Extent} (q : r ≡ Ok (Some x)) where
    pub found : Found s at x
    found = go told
      where
        go : Answered s at m → Found s at x
        go (ends p e) = let w = h ∙ p in let z : ◌≡◌ {A = ℕ} 0 1 = cc in absurd (omega arith)
        go (finds {a = a} {e = e} p f i j w) =
            let y = h ∙ p in
            let same : (record { start = a; stop = e }) ≡ x = cc in
            subst (Found s at) same (record { before = i; some = j; within = w; first = f })

    -- the list has room for it
    pub room : n < length xs'
    room = omega (arith, found.before, found.some, found.within, g.few, g.long, l.source, l.list)

    -- it is listed
    pub going_next : Going s xs (set xs' n x) x.stop (n + 1)
    going_next =
        record {
          inside = found.within;
          few = omega (arith, g.few, found.before, found.some);
          long = length-set xs' n x ∙ g.long;
          all = ap (λ ys. ys ++ entries_after s x.stop) (take_more_set xs' n x room)
              ∙ append_assoc (take n xs') (x ∷ []) (entries_after s x.stop) ∙ ap (λ ys. take n xs' ++ ys) (sym found.first) ∙ g.all;
          rest = drop-set-lt (n + 1) xs' n x (omega arith) ∙ sym (drop-drop 1 n xs') ∙ ap (drop 1) g.rest ∙ drop-drop 1 n xs;
        }

  -- no entry: all are listed
  pub going_end : ((x : Extent) → r ≡ Ok (Some x) → ⊥) → Listed s xs xs' n
  going_end done = go told
    where
      go : Answered s at m → Listed s xs xs' n
      go (ends p e) =
          let all : take n xs' ≡ entries_of s = sym (append-nil (take n xs')) ∙ ap (λ ys. take n xs' ++ ys) (sym e) ∙ g.all in
          let within : n ≤ length xs' = omega (arith, g.few, g.inside, g.long, l.source, l.list) in
          record {
            count = sym (length-take-le n xs' within) ∙ ap length all;
            entries = sym (take-append-drop n xs') ∙ ap₂ (λ u v. u ++ v) all g.rest;
            within = within;
          }
      go (finds {a = a} {e = e} p f i j w) = absurd (done (record { start = a; stop = e }) (h ∙ p))
