-- A filled output after a text was written to its start, and what the writing call leaves in one.
use Prim.Native.Nat.{ℕ}
use mathlib.Core.Path.{◌≡◌, refl, ap, ◌∙◌}
use mathlib.Core.List.{List, ◌++◌}
use lib.ListN.{length, drop, replicate, length-replicate}
use Rattle.syntax.specs.Answer.{Answer}
use Rattle.syntax.specs.Writing.{write_answer, output_after}
use Rattle.serializer.specs.Call.{DidWrite}
use Rattle.vectors.specs.Stored.{between}
use Rattle.vectors.specs.Written.{filling_byte, filled_bytes, tree_in, WroteFilled}
use Rattle.vectors.specs.declared.written.Written.{Written}
use Rattle.vectors.proofs.Rows.{second-part}
use Rattle.vectors.proofs.Laid.{rest-yes, rest-no}

-- an output that starts with the text x, and is filled behind it
module _ (s x : List ℕ) where
  abbrev behind : List ℕ
  behind = drop (length x) (filled_bytes (length s))

  abbrev last : List ℕ
  last = between (length x) (length s) s

  pub text-rest : s ≡ x ++ behind → last ≡ filled_bytes (length last)
  unfolding filled_bytes
  text-rest e = rest-no s (length x) filling_byte (second-part s x behind (length x) refl e)

  pub text-is : s ≡ x ++ drop (length x) s → last ≡ filled_bytes (length last) → s ≡ x ++ behind
  unfolding filled_bytes
  text-is p q = p ∙ ap (λ z. x ++ z) (rest-yes s (length x) filling_byte q)

pub did_write : (c : Written) (s l t o o' : List ℕ) (n : ℕ) (r : Answer) → t ≡ tree_in c l → o ≡ replicate n filling_byte
    → DidWrite s t o o' c.junk r → WroteFilled c s l n o' r
unfolding filled_bytes
did_write c s l t o o' n r p q d =
    let k : length o ≡ n = ap length q ∙ length-replicate n filling_byte in
    record {
      answers = d.answers.same
          ∙ (ap (λ x. write_answer s x (length o) c.junk) p ∙ ap (λ m. write_answer s (tree_in c l) m c.junk) k);
      leaves = d.output ∙ (ap (λ x. output_after s x o c.junk) p ∙ ap (λ x. output_after s (tree_in c l) x c.junk) q);
    }
