-- What the functions that write nodes are given, and what they leave; the pieces that they write.
use Rattle.std.specs.Prelude.{ℕ, ◌+◌, ◌-◌, ◌≤◌, ◌≡◌, Bool, true, false, List, eqb, length}
use Rattle.utf8.specs.Utf8.{is_boundary}
use Rattle.syntax.specs.Kind as Kind
use Rattle.syntax.specs.Bytes.{ascii}
use Rattle.syntax.specs.Marks.{Mark}
use Rattle.syntax.specs.Layout.{marks_in}
use Rattle.syntax.specs.Serializer.{Node, nodes, Piece, ◌⊕◌, literal, newline, star, each, if, of_kind, name, reference}
use Rattle.laws.specs.Text.{pattern_of, select_of, variant_of, arguments_of}
use Rattle.serializer.specs.declared.serializer.Serializer.{Serializer}
use Rattle.serializer.specs.declared.writer.TextWriter.{TextWriter}
use Rattle.serializer.specs.Writer.{Place, place_of, Room, Wrote}
use Rattle.tree.specs.Walk.{kind_at, node_at, after, inner_at, OneAt, Open, Call}

-- Where a serializer stands: in the text, and in the marks.
pub record State : Type 0 where
  pub writer : Place
  pub mark : ℕ

abbrev pub state_of : Serializer → State
state_of s = record { writer = place_of s.writer; mark = s.mark }

-- A node of one of the kinds ks is next, and there is room for its piece, f of it. The indent is at most the mark, since each
-- level of it has a node around.
pub record Ready (source tree : List ℕ) (s : State) (ks : List ℕ) (f : Node → Piece) : Type 0 where
  pub node : OneAt (is_boundary source) ks (marks_in tree) s.mark
  pub shallow : s.writer.indent ≤ s.mark
  pub room : Room s.writer (f (node_at (marks_in tree) s.mark))

-- the piece p was written, and the mark m is next
pub record Went (out out' : List ℕ) (s s' : State) (p : Piece) (m : ℕ) : Type 0 where
  pub wrote : Wrote out out' s.writer s'.writer p
  pub next : s'.mark ≡ m

-- the node was written
abbrev pub Done : (tree out out' : List ℕ) (s s' : State) (f : Node → Piece) → Type 0
Done tree out out' s s' f = Went out out' s s' (f (node_at (marks_in tree) s.mark)) (after (marks_in tree) s.mark)

-- the bytes of a serializer's output
abbrev pub output_of : Serializer → List ℕ
output_of s = s.output.now

-- The serializer s stands before such a node, with such room.
abbrev pub IsReady : (s : Serializer) (ks : List ℕ) (f : Node → Piece) → Type 0
IsReady s ks f = Ready s.nodes.source.now s.nodes.tree.now (state_of s) ks f

-- It went on: the piece p was written, into the same slice, and the mark m is next. Its source and its tree are the same.
pub record DidGo (s s' : Serializer) (p : Piece) (m : ℕ) : Type 0 where
  pub same_reference : s'.output.ghost_name ≡ s.output.ghost_name
  pub went : Went (output_of s) (output_of s') (state_of s) (state_of s') p m
  pub is : s' ≡ (record s { output = s'.output; writer = s'.writer; mark = m })

-- the node was written
abbrev pub DidNode : (s s' : Serializer) (f : Node → Piece) → Type 0
DidNode s s' f = DidGo s s' (f (node_at (marks_in s.nodes.tree.now) s.mark)) (after (marks_in s.nodes.tree.now) s.mark)

-- 1 where b, else 0
abbrev pub one_if : Bool → ℕ
one_if b = elim b [ true ↦ 1 | false ↦ 0 ]

-- a level more of indent where b, and a level less
abbrev pub raise : Bool → Place → Place
raise b w = record { at = w.at; last = w.last; indent = w.indent + one_if b }

abbrev pub lower : Bool → Place → Place
lower b w = record { at = w.at; last = w.last; indent = w.indent - one_if b }

-- serialize_pattern: what stands before the elements, by whether they start on a new line
unfoldable pub pattern_start : Bool → Piece
pattern_start b = elim b [ true ↦ newline | false ↦ literal (ascii " ") ]

-- it was written, and the indent is raised where they start on a new line
pub record Begun (out out' : List ℕ) (w w' : TextWriter) (b : Bool) : Type 0 where
  pub line : Place
  pub wrote : Wrote out out' (place_of w) line (pattern_start b)
  pub raised : place_of w' ≡ raise b line

-- a node of the kind k is open, in a state from q on, and there is room for the children that are left
pub record ReadyIn (source tree : List ℕ) (s : State) (k q : ℕ) (f : List Node → Piece) : Type 0 where
  pub at : Open (is_boundary source) (marks_in tree) s.mark k q
  pub shallow : s.writer.indent ≤ s.mark
  pub room : Room s.writer (f (nodes (inner_at (marks_in tree) s.mark)))

-- they were written, and the node is closed
abbrev pub DoneIn : (tree out out' : List ℕ) (s s' : State) (f : List Node → Piece) → Type 0
DoneIn tree out out' s s' f =
    Went out out' s s' (f (nodes (inner_at (marks_in tree) s.mark))) (s.mark + length (inner_at (marks_in tree) s.mark) + 1)

abbrev pub DidNodeIn : (s s' : Serializer) (f : List Node → Piece) → Type 0
DidNodeIn s s' f =
    DidGo s s' (f (nodes (inner_at (marks_in s.nodes.tree.now) s.mark)))
    (s.mark + length (inner_at (marks_in s.nodes.tree.now) s.mark) + 1)

-- the braces of a pattern's placeable, by the kind of the expression in it, and how many marks they stand for
unfoldable pub opening_braces : ℕ → List ℕ
opening_braces k = elim (eqb k Kind.placeable) [ true ↦ ascii "{{ " | false ↦ ascii "{ " ]

unfoldable pub closing_braces : ℕ → List ℕ
closing_braces k =
    elim
    (eqb k Kind.placeable) [
      | true ↦ ascii " }}"
      | false ↦ elim (eqb k Kind.select) [ true ↦ ascii "}" | false ↦ ascii " }" ]
    ]

unfoldable pub braces_of : ℕ → ℕ
braces_of k = elim (eqb k Kind.placeable) [ true ↦ 2 | false ↦ 1 ]

-- the sigil of a reference of the kind k
unfoldable pub sigil : ℕ → Piece
sigil k = if (eqb k Kind.variable) (literal (ascii "$")) ⊕ if (eqb k Kind.term_reference) (literal (ascii "-"))

module _ (source : List ℕ) where
  abbrev pub pattern_in : Node → Piece
  pattern_in n = pattern_of source n.inner

  abbrev pub select_in : Node → Piece
  select_in n = select_of source (nodes n.inner)

  abbrev pub arguments_in : Node → Piece
  arguments_in n = arguments_of source (nodes n.inner)

  -- a select's variants, each on a line
  unfoldable pub variant_lines : List Node → Piece
  variant_lines vs = each (λ v. variant_of source v ⊕ newline) vs

  -- a string literal
  unfoldable pub quoted : Node → Piece
  quoted n = literal (ascii "\"") ⊕ name source n ⊕ literal (ascii "\"")

  -- a reference up to its arguments
  unfoldable pub reference_of : Node → Piece
  reference_of n = sigil n.kind ⊕ reference source (of_kind source (λ k. eqb k Kind.identifier) (nodes n.inner))

  -- the key of the variant at a mark, with what stands around it
  unfoldable pub key_at : List Mark → ℕ → Piece
  key_at ms i = if (eqb (kind_at ms i) Kind.default_variant) star ⊕ literal (ascii "[") ⊕ name source (node_at ms (i + 1)) ⊕ literal (ascii "]")

  -- an argument's name
  unfoldable pub argument_name : Node → Piece
  argument_name n = name source n ⊕ literal (ascii ": ")

-- at the mark m, after the names of the reference at the mark i
pub record Named (source tree : List ℕ) (i m : ℕ) : Type 0 where
  pub kind : ℕ
  pub at : Open (is_boundary source) (marks_in tree) m kind 1
  pub call : Call (is_boundary source) (marks_in tree) m
  pub left : of_kind source (λ k. eqb k Kind.arguments) (nodes (node_at (marks_in tree) i).inner) ≡ nodes (inner_at (marks_in tree) m)
  pub till : m + length (inner_at (marks_in tree) m) + 1 ≡ after (marks_in tree) i
  pub later : i + 1 ≤ m
