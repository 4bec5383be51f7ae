-- comment.rs
use Rattle.std.specs.Prelude.{ℕ, suc, ◌+◌, ◌-◌, min, true, false, ◌&&◌, ◌||◌, not, List, [], ◌∷◌, drop, eqb, ltb}
use Rattle.syntax.specs.Byte as Byte
use Rattle.syntax.specs.Kind as Kind
use Rattle.syntax.specs.Bytes.{run, eol}
use Rattle.syntax.specs.Marks.{text_node}
use Rattle.syntax.specs.Errors.{ExpectedToken}
use Rattle.syntax.specs.Reader.{ok, Reader, fail, Turn, again, done, repeat, after}

-- the bytes of a line before its line end
unfoldable pub line_length : List ℕ → ℕ
line_length [] = 0
line_length (b ∷ bs) = elim (ltb 0 (eol (b ∷ bs))) [ true ↦ 0 | false ↦ suc (line_length bs) ]

-- get_comment_level
unfoldable pub level_of : List ℕ → ℕ
level_of s = min 3 (run (λ b. eqb b Byte.hash) s)

-- how much of its line end a comment line uses: where something else than a comment follows, the line feed is left
unfoldable pub line_end_used : List ℕ → ℕ
line_end_used r = elim (drop (eol r) r) [ [] ↦ eol r | b ∷ bs ↦ elim (eqb b Byte.hash) [ true ↦ eol r | false ↦ eol r - 1 ] ]

-- a line of the level l whose text is n bytes long and starts at `from`; r starts with its line end
unfoldable pub line_read : ℕ → ℕ → ℕ → List ℕ → Turn ℕ ℕ
line_read l from n r = again l (text_node Kind.comment_line from (from + n)) (from + n + line_end_used r)

-- a line after its l '#'
unfoldable pub line_turn : ℕ → ℕ → List ℕ → Turn ℕ ℕ
line_turn level l [] = done (ok l [] l)
line_turn level l (b ∷ bs) =
    elim (ltb 0 (eol (b ∷ bs))) [
      | true ↦ line_read l l 0 (b ∷ bs)
      | false ↦ elim (eqb b Byte.space) [
        | true ↦ line_read l (l + 1) (line_length bs) (drop (line_length bs) bs)
        | false ↦ elim (eqb level 0) [ true ↦ done (after [] l (fail (ExpectedToken Byte.space) (b ∷ bs))) | false ↦ done (ok level [] 0) ]
      ]
    ]

-- the state is the comment's level, 0 before its first line
unfoldable pub comment_turn : ℕ → List ℕ → Turn ℕ ℕ
comment_turn level s =
    elim (eqb (level_of s) 0 || (not (eqb level 0) && not (eqb (level_of s) level)))
    [ true ↦ done (ok level [] 0) | false ↦ line_turn level (level_of s) (drop (level_of s) s) ]

-- get_comment: answers the level, with the marks of its lines
unfoldable pub get_comment : Reader ℕ
get_comment s = repeat comment_turn 0 s
