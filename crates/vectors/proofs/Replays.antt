-- What the reading call leaves in slices that were filled.
use Prim.Native.Nat.{ℕ}
use mathlib.Core.Path.{◌≡◌, ap, ◌∙◌}
use mathlib.Core.List.{List}
use lib.ListN.{length, replicate, length-replicate}
use Rattle.syntax.specs.Answer.{Answer}
use Rattle.syntax.specs.Reading.{read_answer, tree_after, errors_after}
use Rattle.parser.specs.Call.{DidRead}
use Rattle.vectors.specs.Agreement.{filling, filled, ReadFilled}

length-filled : (n : ℕ) → length (filled n) ≡ n
unfolding filled
length-filled n = length-replicate n filling

pub did_read : (s t t' e e' : List ℕ) (n m : ℕ) (r : Answer) → t ≡ replicate n filling → e ≡ replicate m filling
    → DidRead s t t' e e' r → ReadFilled s n m t' e' r
unfolding filled
did_read s t t' e e' n m r p q d =
    let k : length t ≡ n = ap length p ∙ length-filled n in
    let l : length e ≡ m = ap length q ∙ length-filled m in
    record {
      answers = d.answers.same ∙ (ap (λ x. read_answer s x (length e)) k ∙ ap (λ x. read_answer s n x) l);
      leaves = d.tree ∙ (ap (λ x. tree_after s x e) p ∙ ap (λ x. tree_after s (filled n) x) q);
      lists = d.errors ∙ (ap (λ x. errors_after s x e) p ∙ ap (λ x. errors_after s (filled n) x) q);
    }
