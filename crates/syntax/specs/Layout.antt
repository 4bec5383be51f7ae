-- How a tree and a list of errors stand in words (docs/CALLS.md). Both start with two sizes, the count and the capacity; then come
-- two parallel arrays.
use Rattle.std.specs.Prelude.{ℕ, ◌+◌, ◌-◌, ◌*◌, Bool, true, false, ◌||◌, not, List, [], ◌∷◌, ◌++◌, map, length, get_or, take, drop, replicate, eqb}
use Rattle.syntax.specs.Kind as Kind
use Rattle.syntax.specs.Errors.{words_of}
use Rattle.syntax.specs.Marks.{Mark, plain, placed, kind_of, place_of}
use Rattle.syntax.specs.Core.{Error}

-- how many words the sizes are
abbrev pub sizes : ℕ
sizes = 2

-- a tree has room for eight marks a byte, a mark being a kind and a place
abbrev pub tree_capacity : ℕ → ℕ
tree_capacity n = 8 * n

abbrev pub tree_layout : ℕ → ℕ
tree_layout n = sizes + 2 * tree_capacity n

-- a list of errors has room for one a byte, an error being a kind and a group of six words
abbrev pub group_size : ℕ
group_size = 6

abbrev pub error_layout : ℕ → ℕ
error_layout n = sizes + (1 + group_size) * n

-- an array of n words that starts with ws; the rest is 0
unfoldable pub array : ℕ → List ℕ → List ℕ
array n ws = ws ++ replicate (n - length ws) 0

-- the words of a tree, and of a list of errors, of the capacity c
unfoldable pub tree_words : ℕ → List Mark → List ℕ
tree_words c ms = length ms ∷ c ∷ (array c (map kind_of ms) ++ array c (map place_of ms))

-- position, junk and arguments
unfoldable pub group : Error → List ℕ
group e =
    e.fault.start ∷ e.fault.end ∷ e.junk_from ∷ e.junk_till ∷ (words_of e.fault.kind).first ∷ (words_of e.fault.kind).second ∷ []

unfoldable pub groups : List Error → List ℕ
groups [] = []
groups (e ∷ es) = group e ++ groups es

unfoldable pub error_number : Error → ℕ
error_number e = (words_of e.fault.kind).number

unfoldable pub error_words : ℕ → List Error → List ℕ
error_words c es = length es ∷ c ∷ (array c (map error_number es) ++ array (group_size * c) (groups es))

-- Reading the words back.

unfoldable pub count : List ℕ → ℕ
count ws = get_or ws 0 0

unfoldable pub capacity : List ℕ → ℕ
capacity ws = get_or ws 1 0

-- the kinds of a tree or of a list of errors
unfoldable pub kinds : List ℕ → List ℕ
kinds ws = take (count ws) (drop sizes ws)

-- the places of a tree
unfoldable pub places : List ℕ → List ℕ
places ws = take (count ws) (drop (sizes + capacity ws) ws)

-- the groups of a list of errors, in a row
unfoldable pub groups_in : List ℕ → List ℕ
groups_in ws = take (group_size * count ws) (drop (sizes + capacity ws) ws)

-- whether marks of a kind have a place: those that open or close a T node
unfoldable pub has_place : ℕ → Bool
has_place k = Kind.is_text k || Kind.is_text (k - Kind.closing 0)

-- the mark of a kind and a place. A place where none belongs stays, so that it can be refused
unfoldable pub mark_of : ℕ → ℕ → Mark
mark_of k p = elim (has_place k || not (eqb p 0)) [ true ↦ placed k p | false ↦ plain k ]

unfoldable pub marks_by : List ℕ → List ℕ → List Mark
marks_by [] ps = []
marks_by (k ∷ ks) [] = []
marks_by (k ∷ ks) (p ∷ ps) = mark_of k p ∷ marks_by ks ps

unfoldable pub marks_in : List ℕ → List Mark
marks_in ws = marks_by (kinds ws) (places ws)
