-- What the check of the shape found.
use Prim.Native.Nat.{ℕ}
use native.Mathlib.Omega.{arith}
use mathlib.Core.Path.{◌≡◌, refl, ap}
use mathlib.Core.Option.{Option, some, none}
use Rattle.std.specs.Prelude.{Ok, Err}
use Rattle.tree.specs.Shape.{shape_of}

pub well-shaped : (o : Option ℕ) → Ok tt ≡ shape_of o → o ≡ none
unfolding shape_of
well-shaped none e = refl
well-shaped (some k) e = let z : ◌≡◌ {A = ℕ} 0 1 = cc in absurd (omega arith)

pub ill-shaped : (o : Option ℕ) (k : ℕ) → Err k ≡ shape_of o → o ≡ some k
unfolding shape_of
ill-shaped none k e = let z : ◌≡◌ {A = ℕ} 0 1 = cc in absurd (omega arith)
ill-shaped (some j) k e = let same : j ≡ k = cc in ap some same
