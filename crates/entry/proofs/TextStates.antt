-- The state after a text of a pattern that is an element, and its marks.
use Rattle.std.specs.Prelude.{◌≡◌, ℕ, ◌+◌, ◌-◌, Option, Some, Bool, true, false, [], ◌∷◌}
use mathlib.Core.Path.{◌∙◌}
use native.Mathlib.Omega.{arith}
use denote.Enum.Bare.{sameb}
use Rattle.laws.specs.Bytes.{clash}
use Rattle.entry.specs.contracts.text.TextElementPosition as positions
use Rattle.entry.specs.declared.text.TextElementPosition.{TextElementPosition}
use Rattle.entry.specs.declared.text.TextElementPosition.TheVariants.{InitialLineStart, LineStart, Continuation}
use Rattle.entry.specs.declared.text.TextSlice.{TextSlice}
use Rattle.entry.specs.declared.marks.Marks.{Marks}
use Rattle.entry.specs.declared.parser.Parser.{Parser}
use Rattle.entry.specs.declared.pattern.Reading.{Reading}
use Rattle.entry.specs.Tree.{word, Step}
use Rattle.entry.specs.Marks.{Wrote}
use Rattle.entry.specs.Reads.{Frame}
use Rattle.entry.specs.Elements.{opening}
use Rattle.entry.specs.Slice.{crlf_width, position_after}
use Rattle.entry.specs.Texts.{starts_line, is_part, least_of, lines_of, standing, text_words, Texted}
use Rattle.entry.proofs.Steps.{step_then}

-- a test of the enum
pub line_tested : (p : TextElementPosition) {r : Bool} → r ≡ sameb positions.the_type p LineStart → r ≡ starts_line p
line_tested InitialLineStart e = e
line_tested LineStart e = e
line_tested Continuation e = e

pub opens_line : (b : Bool) {r : Bool} {k : ℕ} → r ≡ b → r ≡ true → k ≡ 200 → k ≡ opening b
unfolding opening
opens_line true e h q = q
opens_line false e h q = clash h e

pub opens_text : (b : Bool) {r : Bool} {k : ℕ} → r ≡ b → r ≡ false → k ≡ 12 → k ≡ opening b
unfolding opening
opens_text true e h q = clash e h
opens_text false e h q = q

module _ (p p' : Parser) {m : Marks} (st : Reading) (start : ℕ) (x : TextSlice) {k : ℕ} {q : TextElementPosition}
    (bytes : p'.source.bytes ≡ p.source.bytes) (place : p'.source.ptr ≡ p.source.ptr + x.size + crlf_width x.ending)
    (part : is_part (starts_line st.role) x ≡ true) (ek : k ≡ opening (starts_line st.role)) (eq : q ≡ position_after x.ending)
    {j : ℕ} (ej : j ≡ lines_of (starts_line st.role) p'.tree.now.count st.lines)
    (v : Wrote p.tree.now m (word k start ∷ [])) (w : Wrote m p'.tree.now (word 112 (p.source.ptr + x.size) ∷ [])) where
  frame : Frame p.source p'.source p.tree.now p'.tree.now
  frame =
      record {
        bytes = bytes;
        tree = record { words = w.same.words ∙ v.same.words; capacity = w.same.capacity ∙ v.same.capacity };
      }

  count : p'.tree.now.count ≡ p.tree.now.count + 2
  count = omega (arith, v.count, w.count)

  two : Step p.tree.now.capacity p.tree.now.count p.tree.now.words.now p'.tree.now.words.now (text_words (standing start p.tree.now.count st) p.source.ptr x)
  two = rw (part, ← ek) (step_then v.step v.count (rw v.same.capacity at w.step))

  pub text-blank : x.blank ≡ true
      → Texted st start x p p' (record { role = q; last_non_blank = st.last_non_blank; common_indent = st.common_indent; lines = j })
  text-blank b = record { frame = frame; state = rw (part, b, place, ej, count, eq); wrote = two }

  pub text-full : {c : Option ℕ} → x.blank ≡ false → c ≡ least_of (starts_line st.role) (p.source.ptr - start) st.common_indent
      → Texted st start x p p' (record { role = q; last_non_blank = Some p'.tree.now.count; common_indent = c; lines = j })
  text-full b e = record { frame = frame; state = rw (part, b, place, ej, count, eq, e); wrote = two }
