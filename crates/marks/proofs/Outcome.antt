-- What the program prints, by the answer of the reading call and the words that it leaves.
use Prim.Native.Nat.{ℕ, ◌*◌, ◌^◌, ◌≤◌, ◌<◌}
use native.Mathlib.Omega.{arith}
use mathlib.Core.Path.{◌≡◌, refl, sym, ap, ap₂, ◌∙◌}
use mathlib.Core.Bool.{false}
use mathlib.Core.List.{List, [], ◌∷◌, ◌++◌, append-nil}
use mathlib.Core.Option.{Option, some, none}
use lib.ListN.{length, drop}
use lib.Dec.{ltb}
use borrow.Author.Tests.{le-ltb}
use Rattle.utf8.specs.Utf8.{first_ill_formed}
use Rattle.std.proofs.Common.{Ok, Err}
use Rattle.syntax.specs.declared.answer.Refusal.{Refusal}
use Rattle.syntax.specs.declared.answer.Refusal.TheVariants.{NotUtf8, TooDeep}
use Rattle.syntax.specs.Answer.{Answer, number_of, value_of, refusal_number, refusal_value}
use Rattle.syntax.specs.Limits.{max_length, max_open}
use Rattle.syntax.specs.Core.{Reading, read, refused, parse}
use Rattle.syntax.specs.Layout.{tree_layout, error_layout, count, capacity}
use Rattle.syntax.specs.Reading.{answer_of, read_answer}
use Rattle.syntax.specs.Listing.{line, lines, lines_of, listing}
use Rattle.laws.specs.Sets.{sets_first}
use Rattle.laws.specs.File.{parse-room}
use Rattle.laws.specs.Call.{Read, read_of}
use Rattle.parser.specs.Call.{DidRead}
use Rattle.output.specs.declared.text.Output.{Output}
use Rattle.output.specs.Put.{DidPut}
use Rattle.output.proofs.Puts.{put-length, put-exact}
use Rattle.marks.specs.Rows.{read_rows, Held}
use Rattle.marks.specs.Report.{printed, Lent, Reported}
use Rattle.marks.proofs.Lines.{reading-few}
use Rattle.marks.proofs.Words.{tree-count, tree-capacity, errors-count, errors-capacity, read-rows}

pub record Ready (s t e out : List ℕ) : Type 0 where
  pub marks : Held 1 t
  pub errors : Held 6 e
  pub text : lines (read_rows t e) ≡ printed s
  pub room : length (printed s) ≤ length out

-- a text that is printed, and for which there is room
pub reported : {s out out' : List ℕ} {o o' : Output} → length (printed s) ≤ length out → length out < 2 ^ 64
    → DidPut o o' (printed s) → o.bytes.now ≡ out → o.at ≡ 0 → out' ≡ o'.bytes.now → Reported s out out' o'.at
reported {s} {out} {o' = o'} fits l d b z e =
    let r = o'.at in
    let h = rw (b, z) at d.put in
    let n : r ≡ length (printed s) = omega (arith, put-exact h (omega arith)) in
    record {
      text = e ∙ h.stored ∙ sets_first out (printed s) fits ∙ ap (λ k. printed s ++ drop k out) (sym n);
      size = n;
      within = omega (arith, put-length h, ap length e);
    }

module _ {s t e out : List ℕ} (l : Lent s t e out) where
  abbrev answer : Answer
  answer = read_answer s (length t) (length e)

  short : ltb max_length (length s) ≡ false
  short = le-ltb max_length (length s) (omega (arith, l.source))

  -- no slice is too short
  formed : first_ill_formed s ≡ none → answer ≡ answer_of (parse max_open s)
  unfolding read_answer
  formed q =
      rw (
        short,
        read_answer,
        q,
        le-ltb (length t) (tree_layout (length s)) (omega (arith, l.source, l.tree)),
        le-ltb (length e) (error_layout (length s)) (omega (arith, l.source, l.errors)),
      )

  ill-formed : (k : ℕ) → first_ill_formed s ≡ some k → answer ≡ Err (NotUtf8 k)
  unfolding read_answer
  ill-formed k q = rw (short, read_answer, q)

  -- a refusal is a line of its number and value
  pub refusal : {t' e' : List ℕ} {r : Refusal} → DidRead s t t' e e' (Err r) → line (refusal_number r ∷ refusal_value r ∷ []) ≡ printed s
  refusal {r = r} h = by (first_ill_formed s) refl
    where
      other : {v : ℕ} → Err r ≡ Ok v → ⊥
      other e = let z : ◌≡◌ {A = ℕ} 0 1 = cc in omega arith

      deep : (o : Reading) → parse max_open s ≡ o → first_ill_formed s ≡ none → line (refusal_number r ∷ refusal_value r ∷ []) ≡ printed s
      deep (read ms es) p f = unfold answer_of in (absurd (other (h.answers.same ∙ formed f ∙ ap answer_of p)))
      deep (refused k) p f =
          unfold printed listing lines_of lines answer_of in
          (ap (λ b. line (number_of b ∷ value_of b ∷ [])) (h.answers.same ∙ formed f ∙ ap answer_of p) ∙ sym (append-nil (line (5 ∷ k ∷ [])))
          ∙ sym (rw (f, printed) (ap (λ o. lines (lines_of o)) p)))

      by : (o : Option ℕ) → first_ill_formed s ≡ o → line (refusal_number r ∷ refusal_value r ∷ []) ≡ printed s
      by none f = deep (parse max_open s) refl f
      by (some k) f = unfold printed in (ap (λ b. line (number_of b ∷ value_of b ∷ [])) (h.answers.same ∙ ill-formed k f) ∙ sym (rw (f, printed)))

  -- acceptance has the value 0
  zero-value : (v : ℕ) → answer ≡ Ok v → answer ≡ Ok 0
  zero-value v h = by (first_ill_formed s) refl
    where
      read-value : (o : Reading) → parse max_open s ≡ o → first_ill_formed s ≡ none → answer ≡ Ok 0
      read-value (read ms es) p f = unfold answer_of in (formed f ∙ ap answer_of p)
      read-value (refused k) p f = unfold answer_of in
          (let g : Err (TooDeep k) ≡ Ok v = sym (formed f ∙ ap answer_of p) ∙ h in let z : ◌≡◌ {A = ℕ} 0 1 = cc in
          absurd (omega arith))

      by : (o : Option ℕ) → first_ill_formed s ≡ o → answer ≡ Ok 0
      by none f = read-value (parse max_open s) refl f
      by (some k) f = let g : Err (NotUtf8 k) ≡ Ok v = sym (ill-formed k f) ∙ h in let z : ◌≡◌ {A = ℕ} 0 1 = cc in absurd (omega arith)

  -- what an accepted reading leaves
  pub acceptance : {t' e' : List ℕ} {a : Answer} {v : ℕ} → DidRead s t t' e e' a → a ≡ Ok v → length t' ≡ length t
      → length e' ≡ length e → Ready s t' e' out
  acceptance {t'} {e'} {v = v} h z a b =
      let d = read_of s t e (zero-value v (sym h.answers.same ∙ z)) in
      let p = h.tree ∙ d.tree in
      let q = h.errors ∙ d.list in
      let (m, k) = parse-room max_open s d.reads in
      let x = drop (tree_layout (length s)) t in
      let y = drop (error_layout (length s)) e in
      let c = ap count p ∙ tree-count (8 * length s) d.marks x m in
      let g = ap capacity p ∙ tree-capacity (8 * length s) d.marks x m in
      let f = ap count q ∙ errors-count (length s) d.errors y k in
      let i = ap capacity q ∙ errors-capacity (length s) d.errors y k in
      let r = ap lines (ap₂ read_rows p q ∙ read-rows (8 * length s) (length s) d.marks d.errors x y m k) ∙ sym (accepted-text d) in
      record {
        marks = record { counted = omega arith; words = omega (arith, l.source, l.tree) };
        errors = record { counted = omega arith; words = omega (arith, l.source, l.errors) };
        text = r;
        room = omega (arith, l.source, l.output, reading-few t' e', ap length r);
      }
    where
      accepted-text : (d : Read s t e) → printed s ≡ lines (lines_of (read d.marks d.errors))
      accepted-text d = unfold printed listing in (rw (d.well_formed, printed) (ap (λ o. lines (lines_of o)) d.reads))
