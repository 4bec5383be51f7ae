-- A line of a comment.
use Rattle.std.specs.Prelude.{◌≡◌, ℕ, [], ◌∷◌, drop}
use Rattle.syntax.specs.Kind as Kind
use Rattle.syntax.specs.Comment.{line_length, line_end_used}
use Rattle.entry.specs.declared.parser.Parser.{Parser}
use Rattle.entry.specs.Tree.{word}
use Rattle.entry.specs.Place.{Passed}
use Rattle.entry.specs.Marks.{Wrote}
use Rattle.entry.specs.Reads.{rest}

-- the line's text was read, whose marks were written, and then what the line uses of its line end
pub record LineRead (p p' : Parser) : Type 0 where
  pub bytes : p'.source.bytes ≡ p.source.bytes
  pub end : ℕ
  pub text : Passed p.source.bytes.now p.source.ptr (line_length (rest p.source)) end
  pub used : Passed p.source.bytes.now end (line_end_used (drop end p.source.bytes.now)) p'.source.ptr
  pub wrote : Wrote p.tree.now p'.tree.now (word Kind.comment_line p.source.ptr ∷ word (Kind.closing Kind.comment_line) end ∷ [])
