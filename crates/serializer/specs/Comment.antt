-- The comments that the serializer writes.
use Rattle.std.specs.Prelude.{ℕ, ◌≡◌, Bool, true, not, List, [], ◌∷◌}
use Rattle.syntax.specs.Kind as Kind
use Rattle.syntax.specs.Bytes.{ascii}
use Rattle.syntax.specs.Marks.{Mark}
use Rattle.syntax.specs.Shape.{among}
use Rattle.syntax.specs.Serializer.{Piece, ◌⊕◌, literal, newline, if, blank_line}
use Rattle.tree.specs.Walk.{At}

-- a comment's line with the text t
unfoldable pub line_of : (prefix t : List ℕ) → Piece
line_of prefix t = literal prefix ⊕ if (not (blank_line [] t)) (literal (ascii " ") ⊕ literal t) ⊕ newline

-- the kinds of comments, all with lines alone
unfoldable pub is_comment : ℕ → Bool
is_comment k = among k (Kind.comment ∷ Kind.group_comment ∷ Kind.resource_comment ∷ Kind.attached_comment ∷ [])

pub record CommentAt (boundary : ℕ → Bool) (ms : List Mark) (i : ℕ) : Type 0 where
  pub kind : ℕ
  pub comment : is_comment kind ≡ true
  pub at : At boundary ms i kind
