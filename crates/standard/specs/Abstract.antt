-- The abstract rules A1 to A11: the tree of what the productions matched.
use Rattle.std.specs.Prelude.{ℕ, ◌+◌, ◌-◌, min, Bool, true, false, ◌&&◌, ◌||◌, not, List, [], ◌∷◌, ◌++◌, drop, take, eqb}
use Rattle.std.proofs.Math.Option.{Option, some, none}
use Rattle.syntax.specs.Byte as Byte
use Rattle.syntax.specs.Kind as Kind
use Rattle.syntax.specs.Bytes.{starts, all, is_upper, is_callee_part}
use Rattle.syntax.specs.Marks.{Mark, move_up, node, text_node}
use Rattle.standard.specs.Dialect.{Dialect}
use Rattle.standard.specs.Peg.{Parser, fits, ◌//◌, eof, given}

-- CommentLine
-- ---------------------------------------------------------------------------------------------------------------------------------

unfoldable pub empty-line : Parser (Unit {0})
empty-line s = fits tt (text_node Kind.comment_line 0 0) 0

-- A1. The content is "" where nothing follows the sigil. (Where a space alone does, it is the "" after it.) Departure hash-at-end
unfoldable pub A1 : Dialect → Parser (Unit {0})
A1 d = given d.hash-at-end eof // empty-line

-- Resource
-- ------------------------------------------------------------------------------------------------------------------------------------

-- what the source is made of; a comment with its level
pub data Item : Type 0 where
  comment : ℕ → Item
  message term junk blank : Item

-- a part of the source: what it is, the marks inside counted from its start, and its bytes
pub record Part : Type 0 where
  pub item : Item
  pub inside : List Mark
  pub size : ℕ

unfoldable pub level_of : Item → ℕ
level_of (comment l) = l
level_of message = 0
level_of term = 0
level_of junk = 0
level_of blank = 0

unfoldable pub beside : Part → List Part → List Part
beside p [] = p ∷ []
beside p (q ∷ qs) =
    elim (not (eqb (level_of p.item) 0) && eqb (level_of p.item) (level_of q.item)) [
      | true ↦ record { item = p.item; inside = p.inside ++ move_up p.size q.inside; size = p.size + q.size }
          ∷ qs
      | false ↦ p ∷ q ∷ qs
    ]

-- A2. Neighbouring comment lines of one level are one comment
unfoldable pub A2 : List Part → List Part
A2 [] = []
A2 (p ∷ ps) = beside p (A2 ps)

unfoldable pub is_named : Item → Bool
is_named (comment l) = false
is_named message = true
is_named term = true
is_named junk = false
is_named blank = false

unfoldable pub named_first : List Part → Bool
named_first [] = false
named_first (p ∷ ps) = is_named p.item

-- the marks of a part; near says that a message or term follows
unfoldable pub part_marks : Item → Bool → List Mark → List Mark
part_marks (comment l) near ms = node (elim (eqb l 1 && near) [ true ↦ Kind.attached_comment | false ↦ 2 + l ]) ms
part_marks message near ms = node Kind.message ms
part_marks term near ms = node Kind.term ms
part_marks junk near ms = ms
part_marks blank near ms = []

-- A3. A "#" comment right before a message or term is attached to it; then blanks are dropped
unfoldable pub A3 : List Part → List Mark
A3 [] = []
A3 (p ∷ ps) = part_marks p.item (named_first ps) p.inside ++ move_up p.size (A3 ps)

-- Pattern
-- -------------------------------------------------------------------------------------------------------------------------------------

-- a line of a blank-block: its spaces, and the bytes of its line end
pub record Line : Type 0 where
  pub spaces : ℕ
  pub ending : ℕ

-- What the elements of a pattern matched, by the bytes used. Raw elements stand without a gap from the pattern's start,
-- so that their sizes say where
-- they are. A placeable has its marks, counted from its own start
pub data Raw : Type 0 where
  text : ℕ → Raw
  lines : List Line → Raw
  indent : ℕ → Raw
  brace-indent : ℕ → Raw
  placeable : List Mark → ℕ → Raw

unfoldable pub least : ℕ → Option ℕ → Option ℕ
least n none = some n
least n (some m) = some (min n m)

-- A4. The common indent, none where no indent counts. Departure brace-indent
unfoldable pub common : Dialect → List Raw → Option ℕ
common d [] = none
common d (text n ∷ rs) = common d rs
common d (lines ls ∷ rs) = common d rs
common d (indent n ∷ rs) = least n (common d rs)
common d (brace-indent n ∷ rs) = elim (not d.brace-indent || eqb n 0) [ true ↦ least n (common d rs) | false ↦ common d rs ]
common d (placeable ms n ∷ rs) = common d rs

-- how many of n spaces are cut
unfoldable pub cut : Option ℕ → ℕ → ℕ
cut none n = n
cut (some c) n = min c n

-- what is left: texts from a to e, line feeds, and placeables, in places of the pattern
pub data Piece : Type 0 where
  span : ℕ → ℕ → Piece
  feed : ℕ → Piece
  inner : List Mark → Piece

-- n spaces at p, without the common indent
unfoldable pub dedented : Option ℕ → ℕ → ℕ → Piece
dedented c p n = span (p + cut c n) (p + n)

-- A5. A blank-block is as many newlines as it has line ends; its spaces are dropped, and CR LF is one newline.
-- Departure blank-line-spaces. (The first of
-- the lines has no spaces: they belong to the text before it)
unfoldable pub A5 : Dialect → Option ℕ → ℕ → List Line → List Piece → List Piece
A5 d c p [] rest = rest
A5 d c p (l ∷ ls) rest =
    let end = p + l.spaces + l.ending in
    let more = feed (end - 1) ∷ A5 d c end ls rest in
    elim (d.blank-line-spaces && eqb l.ending 1) [ true ↦ dedented c p l.spaces ∷ more | false ↦ more ]

unfoldable pub width : List Line → ℕ
width [] = 0
width (l ∷ ls) = l.spaces + l.ending + width ls

-- A4, A5. The pieces of raw elements from p on
unfoldable pub pieces : Dialect → Option ℕ → ℕ → List Raw → List Piece
pieces d c p [] = []
pieces d c p (text n ∷ rs) = span p (p + n) ∷ pieces d c (p + n) rs
pieces d c p (lines ls ∷ rs) = A5 d c p ls (pieces d c (p + width ls) rs)
pieces d c p (indent n ∷ rs) = dedented c p n ∷ pieces d c (p + n) rs
pieces d c p (brace-indent n ∷ rs) =
    elim d.brace-indent [ true ↦ pieces d c (p + n) rs | false ↦ dedented c p n ∷ pieces d c (p + n) rs ]
pieces d c p (placeable ms n ∷ rs) = inner (move_up p ms) ∷ pieces d c (p + n) rs

unfoldable pub pieces_from : Dialect → ℕ → List Raw → List Piece
pieces_from d p rs = pieces d (common d rs) p rs

-- A7, at the start. The newlines with which a pattern starts are dropped
unfoldable pub all_pieces : Dialect → List Raw → List Piece
all_pieces d [] = []
all_pieces d (lines ls ∷ rs) = pieces_from d (width ls) rs
all_pieces d (text n ∷ rs) = pieces_from d 0 (text n ∷ rs)
all_pieces d (indent n ∷ rs) = pieces_from d 0 (indent n ∷ rs)
all_pieces d (brace-indent n ∷ rs) = pieces_from d 0 (brace-indent n ∷ rs)
all_pieces d (placeable ms n ∷ rs) = pieces_from d 0 (placeable ms n ∷ rs)

-- The bytes from a to e
pub record Span : Type 0 where
  pub from : ℕ
  pub till : ℕ

-- An element of the tree. A text of the standard need not be one run of the source (the indent between two lines is not
-- in it): it is the bytes of its
-- first span, then those of its further spans. No two of its spans touch. With texts-apart on there are no further ones
pub data Element : Type 0 where
  joined : Span → List Span → Element
  nested : List Mark → Element

unfoldable pub touches : ℕ → Span → Bool
touches e t = eqb e t.from

-- the text from a to e before elements; feeds says that it is a line feed
unfoldable pub onto : Dialect → Bool → ℕ → ℕ → List Element → List Element
onto d feeds a e [] = joined (record { from = a; till = e }) [] ∷ []
onto d feeds a e (nested ms ∷ es) = joined (record { from = a; till = e }) [] ∷ nested ms ∷ es
onto d feeds a e (joined t ts ∷ es) =
    elim (d.texts-apart && (feeds || not (touches e t))) [
      | true ↦ joined (record { from = a; till = e }) [] ∷ joined t ts ∷ es
      | false ↦ elim (touches e t) [
        | true ↦ joined (record { from = a; till = t.till }) ts ∷ es
        | false ↦ joined (record { from = a; till = e }) (t ∷ ts) ∷ es
      ]
    ]

-- A6. Neighbouring texts are one text, and empty ones are dropped. Departure texts-apart
unfoldable pub A6 : Dialect → List Piece → List Element
A6 d [] = []
A6 d (span a e ∷ ps) = elim (eqb a e) [ true ↦ A6 d ps | false ↦ onto d false a e (A6 d ps) ]
A6 d (feed a ∷ ps) = onto d true a (a + 1) (A6 d ps)
A6 d (inner ms ∷ ps) = nested ms ∷ A6 d ps

unfoldable pub is_space : ℕ → Bool
is_space b = eqb b Byte.space

-- what goes at the end of a text
unfoldable pub is_trimmed : Dialect → ℕ → Bool
is_trimmed d b = eqb b Byte.space || (d.trim-cr && (eqb b Byte.carriage_return || eqb b Byte.line_feed))

-- the length without the bytes at the end that pass the test
unfoldable pub trimmed : (ℕ → Bool) → List ℕ → ℕ
trimmed test [] = 0
trimmed test (b ∷ bs) = elim (test b && eqb (trimmed test bs) 0) [ true ↦ 0 | false ↦ 1 + trimmed test bs ]

unfoldable pub bytes_of : List ℕ → Span → List ℕ
bytes_of s t = take (t.till - t.from) (drop t.from s)

unfoldable pub trim_span : (ℕ → Bool) → List ℕ → Span → List Span
trim_span test s t =
    let n = trimmed test (bytes_of s t) in
    elim (eqb n 0) [ true ↦ [] | false ↦ record { from = t.from; till = t.from + n } ∷ [] ]

unfoldable pub trim_spans : (ℕ → Bool) → List ℕ → List Span → List Span
trim_spans test s [] = []
trim_spans test s (t ∷ ts) = elim (trim_spans test s ts) [ [] ↦ trim_span test s t | u ∷ us ↦ t ∷ u ∷ us ]

-- whether a text is nothing but spaces
unfoldable pub only_spaces : List ℕ → List Span → Bool
only_spaces s [] = true
only_spaces s (t ∷ ts) = all is_space (bytes_of s t) && only_spaces s ts

unfoldable pub trim_text : Dialect → List ℕ → Span → List Span → List Element
trim_text d s t ts =
    elim (trim_spans (is_trimmed d) s (t ∷ ts)) [
      | u ∷ us ↦ joined u us ∷ []
      | [] ↦ elim
          (d.trim-cr && not (only_spaces s (t ∷ ts))) [
            | true ↦ joined (record { from = t.from; till = t.from }) []
                ∷ []
            | false ↦ []
          ]
    ]

unfoldable pub trim_last : Dialect → List ℕ → Element → List Element
trim_last d s (joined t ts) = trim_text d s t ts
trim_last d s (nested ms) = nested ms ∷ []

-- A7, at the end. Spaces at the end of the last text go, and so does the text if nothing is left. s is the pattern's
-- source. Departure trim-cr
unfoldable pub A7 : Dialect → List ℕ → List Element → List Element
A7 d s [] = []
A7 d s (e ∷ es) = elim es [ [] ↦ trim_last d s e | f ∷ fs ↦ e ∷ A7 d s es ]

-- the kind of a text's further spans. Only dialects without texts-apart have it
abbrev pub further-text : ℕ
further-text = 27

unfoldable pub further_marks : List Span → List Mark
further_marks [] = []
further_marks (t ∷ ts) = text_node further-text t.from t.till ++ further_marks ts

unfoldable pub element_marks : List Element → List Mark
element_marks [] = []
element_marks (joined t ts ∷ es) = text_node Kind.text t.from t.till ++ (further_marks ts ++ element_marks es)
element_marks (nested ms ∷ es) = ms ++ element_marks es

-- A4 to A7: the node of a pattern with the source s
unfoldable pub pattern_node : Dialect → List ℕ → List Raw → List Mark
pattern_node d s rs = node Kind.pattern (element_marks (A7 d s (A6 d (all_pieces d rs))))

-- Expressions
-- ---------------------------------------------------------------------------------------------------------------------------------

-- what an inline expression is; of a term reference, whether it has an attribute
pub data Form : Type 0 where
  string number variable function message_reference nested_placeable : Form
  term_reference : Bool → Form

-- A8. The name of a function is [A-Z][A-Z0-9_-]*
unfoldable pub A8 : List ℕ → Bool
A8 name = starts is_upper name && all is_callee_part name

-- an argument of a call; of a named one its name
pub data Arg : Type 0 where
  positional : Arg
  named : List ℕ → Arg

unfoldable pub same : List ℕ → List ℕ → Bool
same [] [] = true
same [] (y ∷ ys) = false
same (x ∷ xs) [] = false
same (x ∷ xs) (y ∷ ys) = eqb x y && same xs ys

-- whether arguments are all named, and none by this name
unfoldable pub fresh_in : List ℕ → List Arg → Bool
fresh_in name [] = true
fresh_in name (positional ∷ args) = false
fresh_in name (named n ∷ args) = not (same name n) && fresh_in name args

-- A9. No positional argument follows a named one, and no name comes twice
unfoldable pub A9 : List Arg → Bool
A9 [] = true
A9 (positional ∷ args) = A9 args
A9 (named n ∷ args) = fresh_in n args && A9 args

-- A10. What may be a selector
unfoldable pub A10 : Form → Bool
A10 string = true
A10 number = true
A10 variable = true
A10 function = true
A10 (term_reference attribute) = attribute
A10 message_reference = false
A10 nested_placeable = false

-- what stands in a placeable: an inline expression, or a select expression
pub data Content : Type 0 where
  inline : Form → Content
  select : Content

-- A11. What may stand in a placeable
unfoldable pub A11 : Content → Bool
A11 (inline string) = true
A11 (inline number) = true
A11 (inline variable) = true
A11 (inline function) = true
A11 (inline (term_reference attribute)) = not attribute
A11 (inline message_reference) = true
A11 (inline nested_placeable) = true
A11 select = true
