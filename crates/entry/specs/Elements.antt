-- The elements of a pattern while it is read: the marks that stand for them, and what holds of them.
use Rattle.std.specs.Prelude.{◌≡◌, ℕ, ◌+◌, ◌<◌, ◌≤◌, Bool, true, false, List, [], ◌∷◌, ◌++◌, length, drop}
use Rattle.syntax.specs.Kind as Kind
use Rattle.syntax.specs.Bytes.{spaces}
use Rattle.syntax.specs.Marks.{Mark, kind_of, node}
use Rattle.syntax.specs.Pattern.{Element, placeable, text}
use Rattle.entry.specs.Tree.{Word, word, words_at}
use Rattle.entry.specs.Settle.{line_start}

-- the kind of the mark that opens a text, by whether the text starts a line
unfoldable pub opening : Bool → ℕ
opening true = line_start
opening false = Kind.text

-- the marks of an element of a pattern that starts at a place
unfoldable pub provisional_of : ℕ → Element → List Word
provisional_of at (placeable ms) = words_at at (node Kind.placeable ms)
provisional_of at (text a e i l) = word (opening l) (at + a) ∷ word (Kind.closing Kind.text) (at + e) ∷ []

unfoldable pub provisional : ℕ → List Element → List Word
provisional at [] = []
provisional at (e ∷ es) = provisional_of at e ++ provisional at es

-- no mark has the kind that is settled
abbrev pub Low : List Mark → Type 0
Low [] = Unit {0}
Low (m ∷ ms) = (kind_of m < line_start) × Low ms

-- a text lies in the rest x that the pattern starts, and its indent is the spaces that it starts with if it starts a line
abbrev pub SoundOne : List ℕ → Element → Type 0
SoundOne x (placeable ms) = Low ms
SoundOne x (text a e i l) = (a + i ≤ e) × (e ≤ length x) × (l ≡ true → i ≡ spaces (drop a x))

abbrev pub Sound : List ℕ → List Element → Type 0
Sound x [] = Unit {0}
Sound x (e ∷ es) = SoundOne x e × Sound x es
