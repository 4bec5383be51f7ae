-- Texts put one after another.
use Prim.Native.Nat.{ℕ, ◌+◌, ◌^◌, ◌<◌}
use native.Mathlib.Omega.{arith}
use mathlib.Core.Path.{◌≡◌, refl, sym, ap, ◌∙◌}
use mathlib.Core.Bool.{true, false}
use mathlib.Core.List.{List, [], ◌++◌}
use lib.Dec.{ltb}
use lib.ListN.{length, length-append}
use lib.Seq.{sets, length-sets}
use borrow.Author.Tests.{ltb-true, ltb-false}
use Rattle.laws.specs.Bytes.{by_case}
use Rattle.laws.specs.Sets.{sets-append}
use Rattle.output.specs.declared.text.Output.{Output}
use Rattle.output.specs.Put.{Put, DidPut}
use Rattle.output.proofs.Stores.{sets-past}

module _ {o o' : List ℕ} {a a' : ℕ} {t : List ℕ} (h : Put o o' a a' t) where
  -- the output stays as long as it is
  pub put-length : length o' ≡ length o
  put-length = ap length h.stored ∙ length-sets o a t

  -- a count that fits is exact
  pub put-exact : a + length t < 2 ^ 64 → a' ≡ a + length t
  put-exact l = omega (arith, h.next)

pub put-none : {o : List ℕ} {a : ℕ} → a < 2 ^ 64 → Put o o a a []
put-none l = record { stored = refl; next = omega arith }

-- a text, and then another: where the count stays, there is no room
pub put_then : {o o₁ o₂ : List ℕ} {a a₁ a₂ : ℕ} {t u : List ℕ} → length o < 2 ^ 64 → Put o o₁ a a₁ t → Put o₁ o₂ a₁ a₂ u
    → Put o o₂ a a₂ (t ++ u)
put_then {o} {o₁} {a = a} {a₁} {t = t} {u} l h k =
    record {
      stored = k.stored ∙ by_case (ltb end (2 ^ 64)) within past ∙ sets-append o a t u;
      next = omega (arith, length-append t u, h.next, k.next);
    }
  where
    end : ℕ
    end = a + length t

    within : ltb end (2 ^ 64) ≡ true → sets o₁ a₁ u ≡ sets (sets o a t) end u
    within q = cc (h.stored, put-exact h (ltb-true end (2 ^ 64) q))

    past : ltb end (2 ^ 64) ≡ false → sets o₁ a₁ u ≡ sets (sets o a t) end u
    past q =
        let far = ltb-false end (2 ^ 64) q in
        let room : length (sets o a t) ≡ length o = length-sets o a t in
        sets-past o₁ a₁ u (omega (arith, h.next, put-length h)) ∙ h.stored ∙ sym (sets-past (sets o a t) end u (omega arith))

-- the same over one output
module _ {o o' : Output} {t : List ℕ} (h : DidPut o o' t) where
  pub did-length : length o'.bytes.now ≡ length o.bytes.now
  did-length = put-length h.put

  pub did_as : {u : List ℕ} → t ≡ u → DidPut o o' u
  did_as e = rw e at h

  pub did_then : {o'' : Output} {u : List ℕ} → length o.bytes.now < 2 ^ 64 → DidPut o' o'' u → DidPut o o'' (t ++ u)
  did_then l k = record { same_reference = k.same_reference ∙ h.same_reference; put = put_then l h.put k.put }
