-- What the two calls give in a row, and that a text that was written fits its output.
use Prim.Native.Nat.{ℕ, ◌≤◌}
use native.Mathlib.Omega.{arith}
use mathlib.Core.Path.{◌≡◌, sym, ap, ◌∙◌}
use mathlib.Core.Bool.{true}
use mathlib.Core.List.{List}
use lib.Dec.{eqb}
use lib.ListN.{length, length-append, drop}
use borrow.Author.Tests.{eqb-true, eqb-false, eq-eqb, ne_eqb}
use Rattle.std.proofs.Common.{Ok, Err}
use Rattle.syntax.specs.declared.answer.Refusal.{Refusal}
use Rattle.syntax.specs.Answer.{Answer, number_of}
use Rattle.syntax.specs.Layout.{marks_in}
use Rattle.syntax.specs.Serializer.{serialize}
use Rattle.syntax.specs.Reading.{read_answer, tree_after}
use Rattle.syntax.specs.Writing.{write_answer, output_after}
use Rattle.laws.specs.Bytes.{by_case}
use Rattle.laws.specs.Effect.{accepted}
use Rattle.laws.specs.Call.{written-size, written-output}
use Rattle.parser.specs.Call.{DidRead}
use Rattle.serializer.specs.Call.{DidWrite}
use Rattle.normalize.specs.Normal.{where_accepted, Normalized}

-- the output has the text
written-fits : (s t o o' : List ℕ) {v : ℕ} → write_answer s t (length o) true ≡ Ok v → o' ≡ output_after s t o true → v ≤ length o'
written-fits s t o o' h w =
    let text = serialize s true (marks_in t) in
    omega (arith, written-size s t o true h, ap length (w ∙ written-output s t o true h), length-append text (drop (length text) o))

-- the two cases of an answer
accepts : {A : Type 0} (a : Answer) (x y : A) → number_of a ≡ 0 → where_accepted a x y ≡ x
unfolding where_accepted
accepts a x y e = rw (eq-eqb (number_of a) 0 e, where_accepted)

refuses : {A : Type 0} (a : Answer) (x y : A) → (number_of a ≡ 0 → ⊥) → where_accepted a x y ≡ y
unfolding where_accepted
refuses a x y e = rw (ne_eqb (number_of a) 0 e, where_accepted)

pub normal-fits : {s t e o o' : List ℕ} {r : Answer} {v : ℕ} → Normalized s t e o o' r → r ≡ Ok v → v ≤ length o'
normal-fits {s} {t} {e} {o} {o'} {v = v} n h = by_case (eqb (number_of a) 0) (λ q. fits (eqb-true _ _ q)) (λ q. refused (eqb-false _ _ q))
  where
    a : Answer
    a = read_answer s (length t) (length e)

    fits : number_of a ≡ 0 → v ≤ length o'
    fits q =
        written-fits s (tree_after s t e) o o' (sym (accepts a _ _ q) ∙ (sym n.answers ∙ h)) (n.output ∙ accepts a _ _ q)

    refused : (number_of a ≡ 0 → ⊥) → v ≤ length o'
    refused q = absurd (q (ap number_of (sym (refuses a _ a q) ∙ (sym n.answers ∙ h))))

-- a source that is read is written
pub normal-written : {s t t' e e' o o' : List ℕ} {a r : Answer} {v : ℕ} → DidRead s t t' e e' a → a ≡ Ok v
    → DidWrite s t' o o' true r → Normalized s t e o o' r
normal-written {s} {o = o} d h w =
    let q = ap number_of (sym d.answers.same ∙ h) in
    record {
      answers = w.answers.same ∙ (ap (λ z. write_answer s z (length o) true) d.tree ∙ sym (accepts _ _ _ q));
      output = w.output ∙ (ap (λ z. output_after s z o true) d.tree ∙ sym (accepts _ _ _ q));
    }

-- a source that is refused is not
pub normal-refused : {s t t' e e' o : List ℕ} {r : Refusal} → DidRead s t t' e e' (Err r) → Normalized s t e o o (Err r)
normal-refused {s} {t} {e = e} {r = r} d = record { answers = d.answers.same ∙ sym (refuses _ _ _ other); output = sym (refuses _ _ _ other) }
  where
    other : number_of (read_answer s (length t) (length e)) ≡ 0 → ⊥
    other q = no (accepted (Err r) (d.answers.number ∙ q))
      where
        no : {v : ℕ} → Err r ≡ Ok v → ⊥
        no h = let z : ◌≡◌ {A = ℕ} 0 1 = cc in omega arith
