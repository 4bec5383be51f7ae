-- What the functions that write messages and terms are given, and what they leave; the pieces that they write.
use Rattle.std.specs.Prelude.{ℕ, ◌+◌, ◌≤◌, ◌≡◌, true, List, eqb, length}
use Rattle.utf8.specs.Utf8.{is_boundary}
use Rattle.syntax.specs.Kind as Kind
use Rattle.syntax.specs.Bytes.{ascii}
use Rattle.syntax.specs.Layout.{marks_in}
use Rattle.syntax.specs.Shape.{named, among}
use Rattle.syntax.specs.Serializer.{Node, nodes, Piece, ◌⊕◌, literal, each, of_kind, name, message}
use Rattle.serializer.specs.declared.serializer.Serializer.{Serializer}
use Rattle.serializer.specs.Writer.{Room}
use Rattle.tree.specs.Walk.{inner_at, Inside}
use Rattle.serializer.specs.Serialize.{State, state_of, pattern_in}

module _ (source : List ℕ) where
  -- the name of a message, of a term or of an attribute, up to its value
  unfoldable pub naming : Node → Piece
  naming n = name source n ⊕ literal (ascii " =")

  -- the value of a message or of a term, of which a message may have none
  unfoldable pub values : List Node → Piece
  values ns = each (pattern_in source) (of_kind source (λ k. eqb k Kind.pattern) ns)

  abbrev pub message_in : Node → Piece
  message_in n = message source n.inner

  unfoldable pub term_in : Node → Piece
  term_in n = literal (ascii "-") ⊕ message source n.inner

-- A message or a term is open, in the state q: 1 after its name, 2 after its value. There is room for f of the children that are left,
-- and the indent can be raised.
pub record ReadyFor (source tree : List ℕ) (s : State) (q : ℕ) (f : List Node → Piece) : Type 0 where
  pub kind : ℕ
  pub one : among kind named ≡ true
  pub here : Inside (is_boundary source) (marks_in tree) s.mark kind q
  pub shallow : s.writer.indent + 1 ≤ s.mark
  pub room : Room s.writer (f (nodes (inner_at (marks_in tree) s.mark)))

abbrev pub IsReadyFor : (s : Serializer) (q : ℕ) (f : List Node → Piece) → Type 0
IsReadyFor s q f = ReadyFor s.nodes.source.now s.nodes.tree.now (state_of s) q f

-- after the value of the message or term that is open at the mark i, at the mark m: only attributes are left
pub record Valued (source tree : List ℕ) (i m : ℕ) : Type 0 where
  pub kind : ℕ
  pub one : among kind named ≡ true
  pub here : Inside (is_boundary source) (marks_in tree) m kind 2
  pub left : of_kind source (λ k. eqb k Kind.attribute) (nodes (inner_at (marks_in tree) i)) ≡ nodes (inner_at (marks_in tree) m)
  pub till : m + length (inner_at (marks_in tree) m) ≡ i + length (inner_at (marks_in tree) i)
  pub later : i ≤ m
