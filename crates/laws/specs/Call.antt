-- Calls that are accepted. Of a reading: what was read, that it stands in the slices, and that the writing call takes
-- it. Of a writing: its text.
use Rattle.std.specs.Prelude.{ℕ, Bool, false, List, ◌++◌, length, take, drop, ltb, Ok, Err}
use Rattle.std.proofs.Common.{arith, sym, ◌∙◌, ltb-false}
use Rattle.std.proofs.Math.Path.{◌≡◌, refl, ap}
use Rattle.std.proofs.Math.Option.{Option, some, none}
use Rattle.std.proofs.Math.Seq.{take-append_seam}
use Rattle.utf8.specs.Utf8.{first_ill_formed, is_boundary}
use Rattle.syntax.specs.Answer.{effect_of, written, untouched, slice_by, slice_after}
use Rattle.syntax.specs.Limits.{max_length, max_open}
use Rattle.syntax.specs.Marks.{Mark}
use Rattle.syntax.specs.Core.{Error, Reading, read, refused, parse}
use Rattle.syntax.specs.Layout.{tree_capacity, tree_layout, error_layout, tree_words, error_words, marks_in}
use Rattle.syntax.specs.Serializer.{serialize}
use Rattle.syntax.specs.Shape.{verdict}
use Rattle.syntax.specs.Tests.{sizes_fit}
use Rattle.syntax.specs.Writing.{text_answer, write_answer, output_after}
use Rattle.syntax.specs.Reading.{answer_of, read_answer, marks_of, errors_of, tree_after, errors_after}
use Rattle.laws.specs.Bytes.{by_case}
use Rattle.laws.specs.File.{parse-read}
use Rattle.laws.specs.Layout.{tree-marks, tree-fits}
use Rattle.laws.specs.Formed.{proper, verdict-none}
use Rattle.laws.specs.Shape.Verdict.{accepts}
use Rattle.laws.specs.Tests.{Passes, none-refuses, by_test}
use Rattle.laws.specs.Text.Utf8.{text-utf8}

-- an accepted writing: no test refuses, the answer is the text's length, the output starts with the text, and the text is UTF-8
module _ (s t o : List ℕ) (junk : Bool) {v : ℕ} (h : write_answer s t (length o) junk ≡ Ok v) where
  abbrev text : List ℕ
  text = serialize s junk (marks_in t)

  passed : Passes s t
  unfolding write_answer effect_of
  passed =
      by_test s t
      (λ r e u. let same : Err r ≡ Ok v = rw (e, write_answer) at h in let z : written ≡ untouched = ap effect_of (sym same) ∙ u in clash z)
      (λ p. p)
    where
      clash : {G : Type 0} → written ≡ untouched → G
      clash z = let y : ◌≡◌ {A = ℕ} 0 1 = cc in absurd (omega arith)

  answered : text_answer (length o) (length text) ≡ Ok v
  unfolding write_answer
  answered = rw (none-refuses s t passed, write_answer) at h

  pub written-size : v ≡ length text
  unfolding text_answer
  written-size =
      by_case (ltb (length o) (length text))
      (λ l. let g = rw (l, text_answer) at answered in let z : ◌≡◌ {A = ℕ} 0 1 = cc in absurd (omega arith))
      (λ l. let g = rw (l, text_answer) at answered in cc)

  pub written-output : output_after s t o junk ≡ text ++ drop (length text) o
  unfolding output_after slice_after effect_of slice_by
  written-output = ap (λ z. slice_after z (length text) text o) h

  pub written-utf8 : first_ill_formed text ≡ none
  written-utf8 =
      text-utf8 s junk max_open (marks_in t) passed.formed ((accepts (is_boundary s) max_open (marks_in t)).0 passed.shape)

  -- so the bytes that were written are
  pub output-utf8 : first_ill_formed (take v (output_after s t o junk)) ≡ none
  output-utf8 = rw (written-size, written-output, take-append_seam text (drop (length text) o)) written-utf8

pub record Read (s t e : List ℕ) : Type 0 where
  pub marks : List Mark
  pub errors : List Error
  pub reads : parse max_open s ≡ read marks errors
  pub well_formed : first_ill_formed s ≡ none
  pub tree : tree_after s t e ≡ tree_words (tree_capacity (length s)) marks ++ drop (tree_layout (length s)) t
  pub list : errors_after s t e ≡ error_words (length s) errors ++ drop (error_layout (length s)) e

module _ (s t e : List ℕ) (h : read_answer s (length t) (length e) ≡ Ok 0) where
  -- no test refuses
  short : ltb max_length (length s) ≡ false
  unfolding read_answer
  short =
      by_case (ltb max_length (length s))
      (λ q. let g = rw (q, read_answer) at h in let z : ◌≡◌ {A = ℕ} 0 1 = cc in absurd (omega arith)) (λ q. q)

  formed : first_ill_formed s ≡ none
  unfolding read_answer
  formed = go (first_ill_formed s) refl
    where
      go : (o : Option ℕ) → first_ill_formed s ≡ o → first_ill_formed s ≡ none
      go none q = q
      go (some k) q = let g = rw (short, read_answer, q) at h in let z : ◌≡◌ {A = ℕ} 0 1 = cc in absurd (omega arith)

  trees : ltb (length t) (tree_layout (length s)) ≡ false
  unfolding read_answer
  trees =
      by_case (ltb (length t) (tree_layout (length s)))
      (λ q. let g = rw (short, read_answer, formed, q) at h in let z : ◌≡◌ {A = ℕ} 0 1 = cc in absurd (omega arith))
      (λ q. q)

  lists : ltb (length e) (error_layout (length s)) ≡ false
  unfolding read_answer
  lists =
      by_case (ltb (length e) (error_layout (length s)))
      (λ q. let g = rw (short, read_answer, formed, trees, q) at h in let z : ◌≡◌ {A = ℕ} 0 1 = cc in
      absurd (omega arith))
      (λ q. q)

  shallow : answer_of (parse max_open s) ≡ Ok 0
  unfolding read_answer
  shallow = rw (short, read_answer, formed, trees, lists) at h

  -- what was read
  pub read_of : Read s t e
  unfolding answer_of tree_after errors_after slice_after effect_of slice_by marks_of errors_of
  read_of = go (parse max_open s) refl shallow
    where
      go : (r : Reading) → parse max_open s ≡ r → answer_of r ≡ Ok 0 → Read s t e
      go (read ms es) q a = record {
        marks = ms;
        errors = es;
        reads = q;
        well_formed = formed;
        tree = rw (h, q);
        list = rw (h, q);
      }
      go (refused k) q a = let z : ◌≡◌ {A = ℕ} 0 1 = cc in absurd (omega arith)

  -- the marks that were left
  pub marks-left : marks_in (tree_after s t e) ≡ read_of.marks
  marks-left =
      let d = read_of in
      let r = (parse-read max_open s d.reads).0.room in
      ap marks_in d.tree
      ∙ tree-marks (tree_capacity (length s)) d.marks _ (omega arith)
      (proper max_open s d.marks d.errors d.reads)

  -- the writing call takes the tree that was left, whatever its output; it may refuse only for want of room
  pub tree-passes : Passes s (tree_after s t e)
  tree-passes =
      let d = read_of in
      let c = tree_capacity (length s) in
      let r = (parse-read max_open s d.reads).0.room in
      let l = ltb-false max_length (length s) short in
      record {
        short = l;
        formed = formed;
        sizes = ap sizes_fit d.tree ∙ tree-fits c d.marks _ (omega arith) (omega (arith, l));
        shape = ap (verdict (is_boundary s) max_open) marks-left ∙ verdict-none max_open s d.marks d.errors formed d.reads;
      }

  pub writes : (o : ℕ) (junk : Bool) → write_answer s (tree_after s t e) o junk ≡ text_answer o (length (serialize s junk read_of.marks))
  unfolding write_answer
  writes o junk =
      rw (none-refuses s (tree_after s t e) tree-passes, write_answer)
      (ap (λ ms. text_answer o (length (serialize s junk ms))) marks-left)
