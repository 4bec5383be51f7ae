-- What the code of a text in a pattern answers.
use Rattle.std.specs.Prelude.{◌≡◌, ℕ, zero, suc, ◌+◌, ◌-◌, ◌<◌, ◌≤◌, min, Bool, true, false, not, ◌&&◌, ◌||◌, Option, Some, None, Result, Ok, Err, List, [], ◌∷◌, length, take, drop, nat_lt}
use Rattle.std.proofs.Math.Option as maybe
use Rattle.syntax.specs.Byte as Byte
use Rattle.syntax.specs.Kind as Kind
use Rattle.syntax.specs.Bytes.{starts_with, spaces}
use Rattle.syntax.specs.Errors.{up_fault}
use Rattle.syntax.specs.declared.errors.ParserError.{ParserError}
use Rattle.syntax.specs.Reader.{Turn, again, done, ok, bad}
use Rattle.syntax.specs.Pattern.{Role, initial_line_start, line_start, continuation, State, state_at, first_state, finish}
use Rattle.entry.specs.declared.errors.Stop.{Stop}
use Rattle.entry.specs.declared.errors.Stop.TheVariants.{Error, TooDeep}
use Rattle.entry.specs.declared.source.Source.{Source}
use Rattle.entry.specs.declared.parser.Parser.{Parser}
use Rattle.entry.specs.declared.text.TextElementPosition.{TextElementPosition}
use Rattle.entry.specs.declared.text.TextElementPosition.TheVariants.{InitialLineStart, LineStart, Continuation}
use Rattle.entry.specs.declared.text.TextSlice.{TextSlice}
use Rattle.entry.specs.declared.pattern.Reading.{Reading}
use Rattle.entry.specs.Tree.{Word, word, Step}
use Rattle.entry.specs.Did.{Did, plain, told}
use Rattle.entry.specs.Reads.{rest, Frame}
use Rattle.entry.specs.Settle.{NoLines}
use Rattle.entry.specs.Slice.{crlf_width, is_feed, position_after}
use Rattle.entry.specs.Elements.{opening, provisional, Sound}

abbrev pub role_of : TextElementPosition → Role
role_of InitialLineStart = initial_line_start
role_of LineStart = line_start
role_of Continuation = continuation

abbrev pub starts_line : TextElementPosition → Bool
starts_line InitialLineStart = false
starts_line LineStart = true
starts_line Continuation = false

-- the common indent after a line's first element with this indent, if it is one
abbrev pub least_of : Bool → ℕ → Option ℕ → Option ℕ
least_of true indent None = Some indent
least_of true indent (Some c) = Some (min indent c)
least_of false indent common = common

-- the count of marks through the last text that starts a line, after a text that ends after n marks
abbrev pub lines_of : Bool → ℕ → ℕ → ℕ
lines_of true n lines = n
lines_of false n lines = lines

-- whether a text is an element of its pattern, by whether it starts a line
unfoldable pub is_part : Bool → TextSlice → Bool
is_part line x = nat_lt 0 x.size && (not line || (not x.blank || is_feed x.ending))

-- ---- the code's state

-- where the code stands in a pattern: the place, the count of marks, and what it knows
pub record Standing : Type 0 where
  pub at : ℕ
  pub n : ℕ
  pub role : TextElementPosition
  pub last_non_blank : Option ℕ
  pub common_indent : Option ℕ
  pub lines : ℕ

abbrev pub standing : ℕ → ℕ → Reading → Standing
standing at n st =
    record { at = at; n = n; role = st.role; last_non_blank = st.last_non_blank; common_indent = st.common_indent; lines = st.lines }

abbrev pub stands : Parser → Reading → Standing
stands p st = standing p.source.ptr p.tree.now.count st

-- its marks, from a to e
abbrev pub part_words : Bool → Bool → ℕ → ℕ → List Word
part_words true line a e = word (opening line) a ∷ word (Kind.closing Kind.text) e ∷ []
part_words false line a e = []

-- the count of marks, the count of those through the last element that is not blank, and the common indent, by whether it is an element
-- and whether it is blank
abbrev pub count_after : Bool → ℕ → ℕ
count_after true n = n + 2
count_after false n = n

abbrev pub last_after : Bool → Bool → ℕ → Option ℕ → Option ℕ
last_after true true n last = last
last_after true false n last = Some (n + 2)
last_after false blank n last = last

abbrev pub least_after : Bool → Bool → Bool → ℕ → Option ℕ → Option ℕ
least_after true true line indent common = common
least_after true false line indent common = least_of line indent common
least_after false blank line indent common = common

abbrev pub lines_after : Bool → Bool → ℕ → ℕ → ℕ
lines_after true line n lines = lines_of line (n + 2) lines
lines_after false line n lines = lines

-- the marks of a text at a place a, past an indent, and the state after it
abbrev pub text_words : Standing → ℕ → TextSlice → List Word
text_words st a x = part_words (is_part (starts_line st.role) x) (starts_line st.role) st.at (a + x.size)

abbrev pub after_text : Standing → ℕ → TextSlice → Standing
after_text st a x =
    record {
      at = a + x.size + crlf_width x.ending;
      n = count_after (is_part (starts_line st.role) x) st.n;
      role = position_after x.ending;
      last_non_blank = last_after (is_part (starts_line st.role) x) x.blank st.n st.last_non_blank;
      common_indent = least_after (is_part (starts_line st.role) x) x.blank (starts_line st.role) (a - st.at) st.common_indent;
      lines = lines_after (is_part (starts_line st.role) x) (starts_line st.role) st.n st.lines;
    }

-- a text was marked, if it is an element
pub record Texted (st : Reading) (start : ℕ) (x : TextSlice) (p p' : Parser) (st' : Reading) : Type 0 where
  pub frame : Frame p.source p'.source p.tree.now p'.tree.now
  pub state : stands p' st' ≡ after_text (standing start p.tree.now.count st) p.source.ptr x
  pub wrote : Step p.tree.now.capacity p.tree.now.count p.tree.now.words.now p'.tree.now.words.now
      (text_words (standing start p.tree.now.count st) p.source.ptr x)

-- the state after a placeable, which ends after n marks: a placeable that starts a line has no indent
abbrev pub after_placeable : Reading → ℕ → Reading
after_placeable st n =
    record {
      role = Continuation;
      last_non_blank = Some n;
      common_indent = least_of (starts_line st.role) 0 st.common_indent;
      lines = st.lines;
    }

-- the state where a pattern starts
pub record Started (s s' : Source) (st : Reading) : Type 0 where
  pub bytes : s'.bytes ≡ s.bytes
  pub onward : s.ptr ≤ s'.ptr
  pub state : first_state (rest s) ≡ state_at (s'.ptr - s.ptr) (role_of st.role)
  pub last : st.last_non_blank ≡ None
  pub common : st.common_indent ≡ None

-- ---- the definition's state

-- the definition's option as the code's
abbrev pub option_of : maybe.Option ℕ → Option ℕ
option_of maybe.none = None
option_of (maybe.some c) = Some c

-- m marks through the last of k elements that are kept
abbrev pub last_of : ℕ → ℕ → Option ℕ
last_of zero m = None
last_of (suc k) m = Some m

-- The code's state st with the tree t' holds the definition's state d, of a pattern that starts at a place of the source s, after n marks
-- of the tree t: the pattern's opening mark and those of its elements are written.
pub record Holds (s : List ℕ) (cap at n : ℕ) (t t' : List ℕ) (st : Standing) (d : State) : Type 0 where
  pub role : d.role ≡ role_of st.role
  pub place : st.at ≡ at + d.used
  pub count : st.n ≡ n + 1 + length (provisional at d.elements)
  pub wrote : Step cap n t t' (word Kind.pattern 0 ∷ provisional at d.elements)
  pub kept : st.last_non_blank ≡ last_of d.kept (n + 1 + length (provisional at (take d.kept d.elements)))
  pub few : d.kept ≤ length d.elements
  pub common : st.common_indent ≡ option_of d.common
  pub lines : NoLines (drop (st.lines - (n + 1)) (provisional at d.elements))
  pub sound : Sound (drop at s) d.elements

-- there is one
pub record Taken {A : Type 0} (P : A → Type 0) : Type 0 where
  pub it : A
  pub is : P it

-- ---- a turn at a text

-- what became of it: the state after it; where the pattern ends instead; or an error and where reading stopped
pub data TextTurn : Type 0 where
  Next : Standing → TextTurn
  End : ℕ → TextTurn
  Bad : ParserError → ℕ → TextTurn

-- where a turn ends
abbrev pub Onward : List ℕ → Standing → TextTurn → Type 0
Onward s st (Next st') = (st.at < st'.at) × (st'.at ≤ length s) × (st'.n ≤ st.n + 2)
Onward s st (End e) = (st.at ≤ e) × (e ≤ length s)
Onward s st (Bad f e) = (st.at ≤ e) × (e ≤ length s)

-- the turn o of the definition's state d, which the code's st holds, is the code's
abbrev pub Turned : List ℕ → ℕ → ℕ → ℕ → List ℕ → List ℕ → Standing → State → Turn State State → TextTurn → Type 0
Turned s cap at n t t' st d o (Next st') = Taken (λ d'. (o ≡ again d' [] (st'.at - st.at)) × Holds s cap at n t t' st' d')
Turned s cap at n t t' st d o (End e) = (o ≡ done (ok d [] (e - st.at))) × Holds s cap at n t t' st d
Turned s cap at n t t' st d o (Bad f e) = Taken (λ f'. (o ≡ done (bad f' (e - st.at))) × (f ≡ up_fault st.at f')) × Step cap n t t' []

-- what a turn did, for every pattern and state of the definition that the code's state holds
pub record TextDid (s : List ℕ) (cap : ℕ) (t t' : List ℕ) (st : Standing) (f : State → Turn State State) (r : TextTurn) : Type 0 where
  pub long : length t' ≡ length t
  pub onward : Onward s st r
  pub held : (at n : ℕ) (t₀ : List ℕ) (d : State) → Holds s cap at n t₀ t st d → Turned s cap at n t₀ t' st d (f d) r

-- the code's result as a turn, which is never that an opening nests too deep
abbrev pub turn_told : Result (Option Reading) Stop → Parser → TextTurn
turn_told (Ok (Some st)) p = Next (stands p st)
turn_told (Ok None) p = End p.source.ptr
turn_told (Err (Error f)) p = Bad f p.source.ptr
turn_told (Err TooDeep) p = End p.source.ptr

abbrev pub in_pattern : Result Reading Stop → Result (Option Reading) Stop
in_pattern (Ok st) = Ok (Some st)
in_pattern (Err e) = Err e

-- where the pattern ends the count of marks is what it was
abbrev pub Stays : Result (Option Reading) Stop → ℕ → ℕ → Type 0
Stays (Ok (Some st)) n n' = Unit {0}
Stays (Ok None) n n' = n' ≡ n
Stays (Err (Error f)) n n' = Unit {0}
Stays (Err TooDeep) n n' = ⊥

-- what a turn from the state st, at a text after n marks, did
pub record Turns (st : Standing) (p p' : Parser) (f : State → Turn State State) (r : Result (Option Reading) Stop) : Type 0 where
  pub frame : Frame p.source p'.source p.tree.now p'.tree.now
  pub stays : Stays r p.tree.now.count p'.tree.now.count
  pub did : TextDid p.source.bytes.now p.tree.now.capacity p.tree.now.words.now p'.tree.now.words.now st f (turn_told r p')

-- a text may be read, past an indent from `start` on: the spaces there, if a line starts there. It takes a byte with its indent
pub record Ready (p : Parser) (st : Reading) (start : ℕ) : Type 0 where
  pub order : start ≤ p.source.ptr
  pub inside : p.source.ptr < length p.source.bytes.now
  pub room : p.tree.now.count + 2 ≤ p.tree.now.capacity
  pub spaced : starts_line st.role ≡ true → p.source.ptr - start ≡ spaces (drop start p.source.bytes.now)
  pub moves : starts_with Byte.open_brace (rest p.source) ≡ true → start < p.source.ptr

-- ---- the end

-- a pattern at some place can end: the state holds one of the definition's, and there is room for the closing mark
pub record Ends (n : ℕ) (p : Parser) (st : Reading) : Type 0 where
  pub at : ℕ
  pub from : ℕ
  pub before : List ℕ
  pub state : State
  pub holds : Holds p.source.bytes.now p.tree.now.capacity at n before p.tree.now.words.now (standing from p.tree.now.count st) state
  pub inside : at ≤ length p.source.bytes.now
  pub room : p.tree.now.count + 1 ≤ p.tree.now.capacity

-- what the end did, for every pattern and state of the definition that the code's state holds
pub record Ended (n : ℕ) (p p' : Parser) (st : Reading) (r : Bool) : Type 0 where
  pub frame : Frame p.source p'.source p.tree.now p'.tree.now
  pub place : p'.source.ptr ≡ p.source.ptr
  pub did : (at from : ℕ) (t₀ : List ℕ) (d : State) → at ≤ p.source.ptr
      → Holds p.source.bytes.now p.tree.now.capacity at n t₀ p.tree.now.words.now (standing from p.tree.now.count st) d
      → Did plain p.tree.now.capacity at n t₀ p'.tree.now.words.now (told (Ok r) p'.source.ptr p'.tree.now.count)
      (finish (drop at p.source.bytes.now) (ok d [] (p.source.ptr - at)))
