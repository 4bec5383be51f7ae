-- The marks of a pattern when it ends: a text that starts a line loses the common indent, and the last text is trimmed.
use Rattle.std.specs.Prelude.{◌≡◌, ℕ, ◌+◌, ◌-◌, ◌≤◌, min, Bool, true, false, ◌||◌, List, [], ◌∷◌, map, length, take, drop, ◌==◌}
use Rattle.syntax.specs.Byte as Byte
use Rattle.syntax.specs.Kind as Kind
use Rattle.syntax.specs.Bytes.{spaces}
use Rattle.syntax.specs.Pattern.{trimmed}
use Rattle.entry.specs.declared.marks.Marks.{Marks}
use Rattle.entry.specs.declared.parser.Parser.{Parser}
use Rattle.entry.specs.Tree.{Word, word, marks_in, Step}
use Rattle.entry.specs.Marks.{Same}
use Rattle.entry.specs.Reads.{Frame}

-- the kind, until its pattern ends, of the mark that opens a text at the start of a line; in the end no mark has it
abbrev pub line_start : ℕ
line_start = 200

unfoldable pub settle_word : List ℕ → ℕ → Word → Word
settle_word s common (word k p) = elim (k == line_start) [ true ↦ word Kind.text (p + min (spaces (drop p s)) common) | false ↦ word k p ]

-- a byte that is trimmed
abbrev pub is_trimmed : ℕ → Bool
is_trimmed b = b == Byte.space || (b == Byte.carriage_return || b == Byte.line_feed)

-- the end of a text without the blanks and line ends that it ends with
unfoldable pub trimmed_end : List ℕ → ℕ → ℕ → ℕ
trimmed_end s a e = a + trimmed (take (e - a) (drop a s))

-- where the last mark closes a text, the text is trimmed
unfoldable pub trim_words : List ℕ → List Word → List Word
trim_words s [] = []
trim_words s (w ∷ []) = w ∷ []
trim_words s (word k a ∷ word j e ∷ []) = word k a
    ∷ elim (j == Kind.closing Kind.text) [ true ↦ word j (trimmed_end s a e) | false ↦ word j e ] ∷ []
trim_words s (w ∷ v ∷ u ∷ ws) = w ∷ trim_words s (v ∷ u ∷ ws)

-- where the last mark closes a text, the text lies in the source
unfoldable pub Within : List ℕ → List Word → Type 0
Within s [] = Unit {0}
Within s (w ∷ []) = Unit {0}
Within s (word k a ∷ word j e ∷ []) = j ≡ Kind.closing Kind.text → (a ≤ e) × (e ≤ length s)
Within s (w ∷ v ∷ u ∷ ws) = Within s (v ∷ u ∷ ws)

-- no mark opens a text that starts a line
abbrev pub NoLines : List Word → Type 0
NoLines [] = Unit {0}
NoLines (word k p ∷ ws) = (k ≡ line_start → ⊥) × NoLines ws

-- the marks from the i-th on were settled
pub record Settled (s : List ℕ) (i common : ℕ) (m m' : Marks) : Type 0 where
  pub same : Same m m'
  pub count : m'.count ≡ m.count
  pub settled : Step m.capacity i m.words.now m'.words.now (map (settle_word s common) (drop i (marks_in m.capacity m.count m.words.now)))

-- the last two marks
abbrev pub last_two : Parser → List Word
last_two p = drop (p.tree.now.count - 2) (marks_in p.tree.now.capacity (p.tree.now.count - 2 + 2) p.tree.now.words.now)

-- they are marks of a text in the source, or of none
pub record Trimmable (p : Parser) : Type 0 where
  pub some : 2 ≤ p.tree.now.count
  pub room : p.tree.now.count ≤ p.tree.now.capacity
  pub within : Within p.source.bytes.now (last_two p)

-- nothing but marks that stand already was changed
pub record Remarks (p p' : Parser) : Type 0 where
  pub frame : Frame p.source p'.source p.tree.now p'.tree.now
  pub place : p'.source.ptr ≡ p.source.ptr
  pub count : p'.tree.now.count ≡ p.tree.now.count

-- they were trimmed
pub record Trimmed (p p' : Parser) : Type 0 where
  pub kept : Remarks p p'
  pub trimmed : Step p.tree.now.capacity (p.tree.now.count - 2) p.tree.now.words.now p'.tree.now.words.now
      (trim_words p.source.bytes.now (last_two p))
