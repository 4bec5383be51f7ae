-- `last_of` meets its contract.
use Rattle.std.specs.Prelude.{◌≡◌, ℕ, suc, ◌-◌, List, [], ◌∷◌, length, get_or}
use Rattle.std.proofs.lemmas.Option.{unwrap_or-slice_get}
use mathlib.Core.Path.{refl, ◌∙◌}
use native.Mathlib.Omega.{arith}
use Rattle.syntax.specs.Serializer.{last_of}
use Rattle.serializer.proofs.writer.last_of.Goals as goal

last_got : (b : ℕ) (t : List ℕ) → get_or t (length t - 1) b ≡ last_of b t
unfolding last_of
last_got b [] = refl
last_got b (x ∷ []) = refl
last_got b (x ∷ y ∷ t) =
    let e : length (x ∷ y ∷ t) - 1 ≡ suc (length (y ∷ t) - 1) = omega arith in rw e (last_got b (y ∷ t))

pub returns : goal.returns
returns c =
    let t = c.args.item.now in
    c.unwrap_or.ensures
    ∙ rw (c.copied.ensures, c.last.ensures.value, unwrap_or-slice_get t (length t - 1) c.args.last)
    (last_got c.args.last t)
