-- What the reader of a text in a pattern answers.
use Rattle.std.specs.Prelude.{◌≡◌, ℕ, ◌+◌, ◌≤◌, Result, Ok, Err, Bool, true, false, List, [], length}
use Rattle.syntax.specs.Errors.{fault_at}
use Rattle.syntax.specs.declared.errors.ErrorKind.TheVariants as kinds
use Rattle.syntax.specs.Reader.{Out, ok, bad}
use Rattle.syntax.specs.Pattern.{Ending, line_feed, crlf, placeable_start, eof, Slice, get_text_slice}
use Rattle.entry.specs.declared.text.TextElementTermination.{TextElementTermination}
use Rattle.entry.specs.declared.text.TextElementTermination.TheVariants.{LineFeed, Crlf, PlaceableStart, Eof}
use Rattle.entry.specs.declared.text.TextElementPosition.{TextElementPosition}
use Rattle.entry.specs.declared.text.TextElementPosition.TheVariants.{LineStart, Continuation}
use Rattle.entry.specs.declared.text.TextSlice.{TextSlice}

abbrev pub ending_of : TextElementTermination → Ending
ending_of LineFeed = line_feed
ending_of Crlf = crlf
ending_of PlaceableStart = placeable_start
ending_of Eof = eof

abbrev pub slice_of : TextSlice → Slice
slice_of x = record { size = x.size; blank = x.blank; ending = ending_of x.ending }

abbrev pub slice_as : ℕ → Bool → TextElementTermination → TextSlice
slice_as n t e = record { size = n; blank = t; ending = e }

-- the bytes that a text takes: at CRLF the carriage return is passed too
abbrev pub crlf_width : TextElementTermination → ℕ
crlf_width LineFeed = 0
crlf_width Crlf = 1
crlf_width PlaceableStart = 0
crlf_width Eof = 0

abbrev pub width_of : TextSlice → ℕ
width_of x = x.size + crlf_width x.ending

abbrev pub is_feed : TextElementTermination → Bool
is_feed LineFeed = true
is_feed Crlf = false
is_feed PlaceableStart = false
is_feed Eof = false

abbrev pub position_after : TextElementTermination → TextElementPosition
position_after LineFeed = LineStart
position_after Crlf = LineStart
position_after PlaceableStart = Continuation
position_after Eof = Continuation

-- the definition's answer
abbrev pub answer_of : Result TextSlice ℕ → Out Slice
answer_of (Ok x) = ok (slice_of x) [] (width_of x)
answer_of (Err k) = bad (fault_at kinds.UnbalancedClosingBrace k) k

abbrev pub reached_in : Result TextSlice ℕ → ℕ
reached_in (Ok x) = width_of x
reached_in (Err k) = k

-- the definition's answer is the code's, and lies in the rest
pub record Sliced (rest : List ℕ) (r : Result TextSlice ℕ) : Type 0 where
  pub answers : get_text_slice rest ≡ answer_of r
  pub within : reached_in r ≤ length rest
