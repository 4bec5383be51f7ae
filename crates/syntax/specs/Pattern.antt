-- pattern.rs
use Rattle.std.specs.Prelude.{ℕ, zero, suc, ◌+◌, ◌-◌, min, Bool, true, false, ◌&&◌, ◌||◌, not, List, [], ◌∷◌, ◌++◌, drop, length, take, eqb, ltb}
use Rattle.std.proofs.Math.Option.{Option, some, none}
use Rattle.syntax.specs.Byte as Byte
use Rattle.syntax.specs.Kind as Kind
use Rattle.syntax.specs.Errors as Errors
use Rattle.syntax.specs.Bytes.{run, all, eol, spaces}
use Rattle.syntax.specs.Marks.{Mark, move_up, text_node, node}
use Rattle.syntax.specs.Reader.{Out, ok, bad, deep, Reader, Turn, again, done, repeat, after}
use Rattle.syntax.specs.Helper.{skip_blank_block}

-- the readers of what stands in one more brace or parenthesis, from the opening byte through the closing one
pub record Inside : Type 0 where
  pub braced : Reader (Unit {0})
  pub parenthesised : Reader (Unit {0})

-- TextElementTermination and TextElementPosition
pub data Ending : Type 0 where
  line_feed crlf placeable_start eof : Ending

pub data Role : Type 0 where
  initial_line_start line_start continuation : Role

-- a text that was found: its length, whether it is blank, and what ended it
pub record Slice : Type 0 where
  pub size : ℕ
  pub blank : Bool
  pub ending : Ending

unfoldable pub is_text_byte : ℕ → Bool
is_text_byte b = not (eqb b Byte.line_feed || (eqb b Byte.open_brace || eqb b Byte.close_brace))

unfoldable pub is_blank : List ℕ → Bool
is_blank t = all (λ b. eqb b Byte.space) t

unfoldable pub ends_in_cr : List ℕ → Bool
ends_in_cr [] = false
ends_in_cr (x ∷ xs) = elim xs [ [] ↦ eqb x Byte.carriage_return | y ∷ ys ↦ ends_in_cr xs ]

-- the text t before a line feed: at CRLF the line feed is left, and is a text of its own
unfoldable pub line_slice : List ℕ → Out Slice
line_slice t =
    elim (ends_in_cr t) [
      | true ↦ ok (record { size = length t - 1; blank = is_blank (take (length t - 1) t); ending = crlf }) [] (length t)
      | false ↦ ok (record { size = length t + 1; blank = is_blank t; ending = line_feed }) [] (length t + 1)
    ]

-- the text t, by what follows it
unfoldable pub slice_by : List ℕ → List ℕ → Out Slice
slice_by t [] = ok (record { size = length t; blank = is_blank t; ending = eof }) [] (length t)
slice_by t (b ∷ bs) =
    elim (eqb b Byte.close_brace) [
      | true ↦ bad (Errors.fault_at Errors.UnbalancedClosingBrace (length t)) (length t)
      | false ↦ elim (eqb b Byte.open_brace) [
        | true ↦ ok (record { size = length t; blank = is_blank t; ending = placeable_start }) [] (length t)
        | false ↦ line_slice t
      ]
    ]

-- get_text_slice
unfoldable pub get_text_slice : Reader Slice
get_text_slice s = slice_by (take (run is_text_byte s) s) (drop (run is_text_byte s) s)

-- PatternElementPlaceholders. Places count from the pattern's start. Of a text: its start, its end, its indent, and
-- whether it starts a line
pub data Element : Type 0 where
  placeable : List Mark → Element
  text : ℕ → ℕ → ℕ → Bool → Element

-- the loop's state: what the next text is, the elements so far, how many of them are kept (through the last that is not blank), the common
-- indent, and the bytes used since the pattern's start
pub record State : Type 0 where
  pub role : Role
  pub elements : List Element
  pub kept : ℕ
  pub common : Option ℕ
  pub used : ℕ

unfoldable pub is_line_start : Role → Bool
is_line_start initial_line_start = false
is_line_start line_start = true
is_line_start continuation = false

unfoldable pub role_after : Ending → Role
role_after line_feed = line_start
role_after crlf = line_start
role_after placeable_start = continuation
role_after eof = continuation

unfoldable pub is_line_feed : Ending → Bool
is_line_feed line_feed = true
is_line_feed crlf = false
is_line_feed placeable_start = false
is_line_feed eof = false

unfoldable pub least_indent : Option ℕ → ℕ → Option ℕ
least_indent none i = some i
least_indent (some c) i = some (min i c)

-- is_byte_pattern_continuation
unfoldable pub is_continuation : ℕ → Bool
is_continuation b = not (eqb b Byte.dot || (eqb b Byte.close_brace || (eqb b Byte.open_bracket || eqb b Byte.star)))

unfoldable pub with_placeable : State → Out (Unit {0}) → Turn State State
with_placeable st (ok u ms k) =
    again
    (record {
      role = continuation;
      elements = st.elements ++ (placeable (move_up st.used ms) ∷ []);
      kept = suc (length st.elements);
      common = elim (is_line_start st.role) [ true ↦ some 0 | false ↦ st.common ];
      used = st.used + k;
    }) [] k
with_placeable st (bad f k) = done (bad f k)
with_placeable st (deep k) = done (deep k)

-- a text that is not empty at the start of a line counts for the common indent if it is not blank
unfoldable pub common_after : State → ℕ → Slice → Option ℕ
common_after st indent t =
    elim
    (ltb 0 t.size && (is_line_start st.role && not t.blank)) [
      | true ↦ least_indent st.common indent
      | false ↦ st.common
    ]

unfoldable pub is_element : State → Slice → Bool
is_element st t = ltb 0 t.size && (not (is_line_start st.role) || (not t.blank || is_line_feed t.ending))

unfoldable pub with_text : State → ℕ → Out Slice → Turn State State
with_text st indent (ok t ms k) =
    again
    (record {
      role = role_after t.ending;
      elements =
          elim
          (is_element st t) [
            | true ↦ st.elements
                ++ (text st.used (st.used + indent + t.size) indent (is_line_start st.role) ∷ [])
            | false ↦ st.elements
          ];
      kept = elim (is_element st t && not t.blank) [ true ↦ suc (length st.elements) | false ↦ st.kept ];
      common = common_after st indent t;
      used = st.used + (indent + k);
    })
    [] (indent + k)
with_text st indent (bad f k) = done (after [] indent (bad f k))
with_text st indent (deep k) = done (after [] indent (deep k))

-- whether a line that starts with `indent` spaces and then b goes on with the pattern
unfoldable pub goes_on : ℕ → ℕ → Bool
goes_on indent b = elim (eqb indent 0) [ true ↦ eqb b Byte.carriage_return || eqb b Byte.line_feed | false ↦ is_continuation b ]

-- a line after its indent
unfoldable pub line_turn : State → ℕ → List ℕ → Turn State State
line_turn st indent [] = done (ok st [] indent)
line_turn st indent (b ∷ bs) = elim (goes_on indent b) [ true ↦ with_text st indent (get_text_slice (b ∷ bs)) | false ↦ done (ok st [] 0) ]

unfoldable pub text_turn : State → List ℕ → Turn State State
text_turn st s = elim (is_line_start st.role) [ true ↦ line_turn st (spaces s) (drop (spaces s) s) | false ↦ with_text st 0 (get_text_slice s) ]

unfoldable pub pattern_turn : Inside → State → List ℕ → Turn State State
pattern_turn sub st [] = done (ok st [] 0)
pattern_turn sub st (b ∷ bs) = elim (eqb b Byte.open_brace) [ true ↦ with_placeable st (sub.braced (b ∷ bs)) | false ↦ text_turn st (b ∷ bs) ]

-- the length without what is trimmed at the end
unfoldable pub trimmed : List ℕ → ℕ
trimmed [] = 0
trimmed (x ∷ xs) =
    elim
    ((eqb x Byte.space || (eqb x Byte.carriage_return || eqb x Byte.line_feed)) && eqb (trimmed xs) 0) [
      | true ↦ 0
      | false ↦ suc (trimmed xs)
    ]

unfoldable pub dedented : Option ℕ → ℕ → ℕ → Bool → ℕ
dedented c a indent false = a
dedented none a indent true = a + indent
dedented (some c) a indent true = a + min indent c

unfoldable pub text_marks : List ℕ → Bool → ℕ → ℕ → List Mark
text_marks s true a e = text_node Kind.text a (a + trimmed (take (e - a) (drop a s)))
text_marks s false a e = text_node Kind.text a e

-- the marks of the first n elements, the last of them trimmed; s is the pattern's source
unfoldable pub element_marks : List ℕ → Option ℕ → ℕ → List Element → List Mark
element_marks s c zero es = []
element_marks s c (suc n) [] = []
element_marks s c (suc n) (placeable ms ∷ es) = node Kind.placeable ms ++ element_marks s c n es
element_marks s c (suc n) (text a e i l ∷ es) = text_marks s (eqb n 0) (dedented c a i l) e ++ element_marks s c n es

unfoldable pub finish : List ℕ → Out State → Out Bool
finish s (ok st ms k) =
    elim
    (eqb st.kept 0) [
      | true ↦ ok false [] k
      | false ↦ ok true (node Kind.pattern (element_marks s st.common st.kept st.elements)) k
    ]
finish s (bad f k) = bad f k
finish s (deep k) = deep k

unfoldable pub state_at : ℕ → Role → State
state_at n r = record { role = r; elements = []; kept = 0; common = none; used = n }

unfoldable pub used_by : {A : Type 0} → Out A → ℕ
used_by (ok a ms k) = k
used_by (bad f k) = k
used_by (deep k) = k

-- where the pattern's first text or placeable starts: on the line, or on a line of its own after blank lines
unfoldable pub first_state : List ℕ → State
first_state s =
    let k = spaces s in
    let e = eol (drop k s) in
    elim (ltb 0 e) [ true ↦ state_at (k + e + used_by (skip_blank_block (drop (k + e) s))) line_start | false ↦ state_at k initial_line_start ]

-- get_pattern: answers whether there is one
unfoldable pub get_pattern : Inside → Reader Bool
get_pattern sub s =
    let st = first_state s in
    finish s (after [] st.used (repeat (pattern_turn sub) st (drop st.used s)))
