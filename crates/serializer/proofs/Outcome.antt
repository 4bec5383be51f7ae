-- What the writing call leaves in its output: the text and what was there after it, or all that was there.
use Prim.Native.Nat.{ℕ, ◌≤◌, ◌<◌}
use native.Mathlib.Omega.{arith}
use mathlib.Core.Path.{◌≡◌, ap, ◌∙◌}
use mathlib.Core.Bool.{Bool, false}
use mathlib.Core.List.{List, [], ◌++◌}
use lib.ListN.{length, length-drop}
use lib.Seq.{sets}
use borrow.Author.Tests.{lt-ltb, le-ltb}
use Rattle.std.proofs.Common.{Ok, Err}
use Rattle.syntax.specs.declared.answer.Refusal.{Refusal}
use Rattle.syntax.specs.declared.answer.Refusal.TheVariants.{OutputTooShort}
use Rattle.syntax.specs.Answer.{Answer, effect_of, slice_by, slice_after}
use Rattle.syntax.specs.Layout.{count, marks_in}
use Rattle.syntax.specs.Serializer.{Piece, nodes, resource, serialize}
use Rattle.syntax.specs.Tests.{refusal, tested_of}
use Rattle.syntax.specs.Writing.{text_answer, write_answer, output_after}
use Rattle.laws.specs.Tests.{Passes, passes, refusal-of, none_of, refusal-keeps}
use Rattle.laws.specs.Sets.{sets-nothing, sets_first}
use Rattle.laws.specs.Text.Length.{text-short}
use Rattle.tree.proofs.Sizes.{sizes, no-mark}
use Rattle.serializer.specs.Writer.{begun, Room}
use Rattle.laws.specs.Answered.{answered}
use Rattle.serializer.specs.Call.{DidWriteInto, DidWrite}

pub stored_as : {a b c : List ℕ} → b ≡ c → a ≡ b → a ≡ c
stored_as e f = f ∙ e

-- the writing of a tree that is well formed
module _ (s t : List ℕ) (junk : Bool) where
  abbrev piece : Piece
  piece = resource s junk false (nodes (marks_in t))

  abbrev text : List ℕ
  text = serialize s junk (marks_in t)

  pub roomy : Passes s t → Room begun piece
  unfolding serialize
  roomy z =
      let fit = sizes t z.sizes in
      let few = ap length (no-mark t fit (count t) (omega arith)) in
      omega (arith, text-short s junk (marks_in t) z.short (omega (arith, length-drop (count t) (marks_in t))))

  -- the first pass, into an empty part of the output: n is what it left there, and k what it counted
  module _ (o n : List ℕ) (k : ℕ) (stored : n ≡ sets [] 0 text) (counted : k ≡ length text) where
    none-stored : n ++ o ≡ o
    none-stored = ap (λ m. m ++ o) (stored ∙ sets-nothing 0 text)

    pub no_room : length (n ++ o) < k → DidWriteInto text o (n ++ o) (Err (OutputTooShort k))
    unfolding text_answer slice_after effect_of slice_by
    no_room h =
        let q = lt-ltb (length o) (length text) (omega (arith, ap length none-stored, counted)) in
        record { answers = rw (q, text_answer) (ap (λ j. Err (OutputTooShort j)) counted); output = rw (q, text_answer) none-stored }

    -- and the second, over all of it
    pub with-room : (o' : List ℕ) → k ≤ length (n ++ o) → o' ≡ sets (n ++ o) 0 text → DidWriteInto text o o' (Ok k)
    unfolding text_answer slice_after effect_of slice_by
    with-room o' h f =
        let l : length text ≤ length o = omega (arith, ap length none-stored, counted) in
        let q = le-ltb (length o) (length text) l in
        record {
          answers = rw (q, text_answer) (ap (λ j. Ok j) counted);
          output = rw (q, text_answer) (f ∙ ap (λ m. sets m 0 text) none-stored ∙ sets_first o text l);
        }

-- the tests before the writing: the call answers the refusal that they give, and changes nothing; or it writes
module _ (s t o : List ℕ) (junk : Bool) where
  pub refused : (r : Refusal) → Err r ≡ tested_of (refusal s t) → DidWrite s t o o junk (Err r)
  unfolding write_answer output_after slice_after slice_by
  refused r e =
      let q = refusal-of (refusal s t) r e in
      let u = refusal-keeps s t r q in
      record { answers = answered (rw (q, write_answer)); output = rw (q, write_answer) (rw u) }

  pub passed : Ok tt ≡ tested_of (refusal s t) → (o' : List ℕ) (r : Answer)
      → DidWriteInto (serialize s junk (marks_in t)) o o' r → DidWrite s t o o' junk r
  unfolding write_answer output_after
  passed e o' r d = let q = none_of (refusal s t) e in
      record { answers = answered (rw (q, write_answer) d.answers); output = rw (q, write_answer) d.output }

pub passing : (s t : List ℕ) → Ok tt ≡ tested_of (refusal s t) → Passes s t
passing s t e = passes s t (none_of (refusal s t) e)
