-- The claim on a file cut in two holds over the calls: by their contracts the words and texts are those of the definitions.
use Rattle.std.specs.Prelude.{ℕ, ◌≡◌, Bool, List, ◌++◌, take, Ok}
use Rattle.std.proofs.Common.{sym, ◌∙◌, le-ltb}
use Rattle.std.proofs.Math.Path.{ap}
use Rattle.std.proofs.Math.ListN.{length, drop}
use Rattle.std.proofs.Math.Seq.{take-append_seam}
use Rattle.utf8.specs.Utf8 as Utf8
use Rattle.syntax.specs.Limits.{max_open}
use Rattle.syntax.specs.Layout.{marks_in}
use Rattle.syntax.specs.Reading.{read_answer, tree_after}
use Rattle.syntax.specs.Writing.{text_answer, write_answer, output_after}
use Rattle.syntax.specs.Serializer.{serialize}
use Rattle.laws.specs.Call.{writes, written-size, written-output, output-utf8, marks-left}
use Rattle.cut.specs.Claim.{Demand3}
use Rattle.cut.specs.Definition.{Slices, tree_in, errors_in}
use Rattle.cut.specs.Faithful.{Faithful}
use Rattle.cut.proofs.Theorem.{reading-shows, holds}
use Rattle.parser.specs.Call.{DidRead}
use Rattle.serializer.specs.Call.{DidWrite}
use Rattle.calls.specs.Calls.{Reading, Writing, calls, Writable}

-- ---- a text
module _ (s t e : List ℕ) (h : read_answer s (length t) (length e) ≡ Ok 0) (junk : Bool) where
  text : List ℕ
  text = serialize s junk (marks_in (tree_after s t e))

  answer-is : (o : ℕ) → write_answer s (tree_after s t e) o junk ≡ text_answer o (length text)
  unfolding text
  answer-is o = writes s t e h o junk ∙ ap (λ ms. text_answer o (length (serialize s junk ms))) (sym (marks-left s t e h))

  -- the output starts with the text
  left : (o o' : List ℕ) (size : ℕ) → Ok size ≡ write_answer s (tree_after s t e) (length o) junk
      → o' ≡ output_after s (tree_after s t e) o junk → take size o' ≡ text
  unfolding text
  left o o' size a w =
      let n : size ≡ length text = written-size s (tree_after s t e) o junk (sym a) in
      let p : o' ≡ text ++ drop (length text) o = w ∙ written-output s (tree_after s t e) o junk (sym a) in
      rw (n, p) (take-append_seam text (drop (length text) o))

-- ---- a reading, and what is written of it

module _ (s : List ℕ) (r : Reading DidRead s) (h : calls.Accepted s r) where
  written-text : (junk : Bool) (x : List ℕ) → Writing s r.tree junk x
      → x ≡ serialize s junk (marks_in (tree_after s r.lent_tree r.lent_errors))
  unfolding text
  written-text junk x w =
      let t = r.did.tree in
      w.wrote
      ∙ left s r.lent_tree r.lent_errors h junk w.lent w.output w.size
      (w.did.answers.same ∙ ap (λ z. write_answer s z (length w.lent) junk) t)
      (w.did.output ∙ ap (λ z. output_after s z w.lent junk) t)

calls-show : Faithful max_open calls
calls-show s r h =
    let lent : Slices = record { tree = r.lent_tree; errors = r.lent_errors } in
    let d = reading-shows s lent h in
    record {
      marks = d.marks;
      list = d.list;
      reads = d.reads;
      kinds = d.kinds;
      tree = ap tree_in r.did.tree ∙ d.tree;
      errors = ap errors_in r.did.errors ∙ d.errors;
      text = λ junk x w. d.text junk x (written-text s r h junk x w);
    }

-- ---- the theorem
pub demand-3-calls : Demand3 calls
demand-3-calls = holds max_open calls calls-show

-- a tree that was read can be written
pub writable : Writable
unfolding text_answer
writable s r h junk = record {
  size = length (text s r.lent_tree r.lent_errors h junk);
  did = λ o o' answer d l. d.answers.same ∙ ap (λ z. write_answer s z (length o) junk) r.did.tree
      ∙ answer-is s r.lent_tree r.lent_errors h junk (length o) ∙ (rw (le-ltb (length o) _ l, text_answer));
}

-- what an accepted call of `write` wrote is UTF-8
pub output-is-utf8 : (s tree o o' : List ℕ) (junk : Bool) (size : ℕ) → DidWrite s tree o o' junk (Ok size)
    → Utf8.WellFormed (take size o')
output-is-utf8 s tree o o' junk size d = rw d.output (output-utf8 s tree o junk (sym d.answers.same))
