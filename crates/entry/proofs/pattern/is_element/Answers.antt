-- `pattern::is_element` meets its contract.
use Rattle.std.specs.Prelude.{◌≡◌, Bool, true, false, not}
use mathlib.Core.Path.{refl, sym, ap, ◌∙◌}
use native.Mathlib.Omega.{arith}
use borrow.Author.Tests.{lt-ltb, not-true, not-false}
use denote.Enum.Bare.{sameb}
use Rattle.entry.specs.contracts.text.TextElementTermination as endings
use Rattle.entry.specs.declared.text.TextElementTermination.{TextElementTermination}
use Rattle.entry.specs.declared.text.TextElementTermination.TheVariants.{LineFeed, Crlf, PlaceableStart, Eof}
use Rattle.entry.specs.Slice.{is_feed}
use Rattle.entry.specs.Texts.{starts_line, is_part}
use Rattle.entry.proofs.TextStates.{line_tested}
use Rattle.entry.proofs.pattern.is_element.Goals as goal

feed-is : (x : TextElementTermination) {r : Bool} → r ≡ sameb endings.the_type x LineFeed → r ≡ is_feed x
feed-is LineFeed e = e
feed-is Crlf e = e
feed-is PlaceableStart e = e
feed-is Eof e = e

pub returns-then-ne : goal.returns-then-ne
unfolding is_part
returns-then-ne c =
    let l : starts_line c.args.role ≡ false = not-true _ (sym (c.ne.ensures ∙ ap not (line_tested c.args.role refl)) ∙ c.if-ne.true) in
    c.if-ne.true ∙ sym (simp (lt-ltb 0 c.args.slice.size (omega arith), l))

pub returns-then-not-slice : goal.returns-then-not-slice
unfolding is_part
returns-then-not-slice c =
    let l : starts_line c.args.role ≡ true = not-false _ (sym (c.ne.ensures ∙ ap not (line_tested c.args.role refl)) ∙ c.if-ne.false) in
    simp (lt-ltb 0 c.args.slice.size (omega arith), l, c.if-not-slice.true)

pub returns-else-not-slice : goal.returns-else-not-slice
unfolding is_part
returns-else-not-slice c =
    let l : starts_line c.args.role ≡ true = not-false _ (sym (c.ne.ensures ∙ ap not (line_tested c.args.role refl)) ∙ c.if-ne.false) in
    feed-is c.args.slice.ending c.eq.ensures ∙ sym (simp (lt-ltb 0 c.args.slice.size (omega arith), l, c.if-not-slice.false))

pub returns-else-slice-ne0 : goal.returns-else-slice-ne0
unfolding is_part
returns-else-slice-ne0 c = rw c.if-slice-ne0.false
