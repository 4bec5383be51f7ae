-- Places in a mark list: the node that starts at a mark, the mark after it, and what is left of the node that is open there.
use Rattle.std.specs.Prelude.{ℕ, suc, ◌+◌, ◌-◌, ◌≤◌, ◌≡◌, Bool, true, false, List, [], ◌∷◌, ◌++◌, eqb, ltb, length, drop}
use Rattle.syntax.specs.Kind as Kind
use Rattle.syntax.specs.Marks.{Mark, plain, kind_of, place_of, node, text_node}
use Rattle.syntax.specs.Shape.{start, among, inline, Content}
use Rattle.syntax.specs.Serializer.{Node, outside, nodes}

abbrev pub first_kind : List Mark → ℕ
first_kind [] = 0
first_kind (m ∷ ms) = kind_of m

-- the kind of a mark
abbrev pub kind_at : List Mark → ℕ → ℕ
kind_at ms i = first_kind (drop i ms)

abbrev pub first_place : List Mark → ℕ
first_place [] = 0
first_place (m ∷ ms) = place_of m

-- the place of a mark
abbrev pub place_at : List Mark → ℕ → ℕ
place_at ms i = first_place (drop i ms)

abbrev pub first_node : List Node → Node
first_node [] = outside
first_node (n ∷ ns) = n

-- the node that starts at a mark, and the mark after it
unfoldable pub node_at : List Mark → ℕ → Node
node_at ms i = first_node (nodes (drop i ms))

unfoldable pub after : List Mark → ℕ → ℕ
after ms i = i + (2 + length (node_at ms i).inner)

-- the marks up to the one that closes the node that is open, d more having been opened
unfoldable pub inside : ℕ → List Mark → List Mark
inside d [] = []
inside d (m ∷ ms) =
    elim
    (ltb (kind_of m) (Kind.closing 0)) [
      | true ↦ m ∷ inside (suc d) ms
      | false ↦ elim (eqb d 0) [ true ↦ [] | false ↦ m ∷ inside (d - 1) ms ]
    ]

-- what is left of the node that is open at a mark
unfoldable pub inner_at : List Mark → ℕ → List Mark
inner_at ms i = inside 0 (drop i ms)

-- the marks of a child of the kind j
pub data Child (boundary : ℕ → Bool) (j : ℕ) : List Mark → Type 0 where
  text : (a e : ℕ) → Kind.is_text j ≡ true → boundary a ≡ true → boundary e ≡ true → a ≤ e → Child boundary j (text_node j a e)
  nest : {inner : List Mark} (left : ℕ) → Kind.is_text j ≡ false → Content boundary left j start inner → Child boundary j (node j inner)

-- a node of the kind j starts at the mark i
pub record At (boundary : ℕ → Bool) (ms : List Mark) (i j : ℕ) : Type 0 where
  pub marks : List Mark
  pub rest : List Mark
  pub there : drop i ms ≡ marks ++ rest
  pub known : j ≤ Kind.named_argument
  pub child : Child boundary j marks

-- some node starts at the mark i
pub record NodeAt (ms : List Mark) (i : ℕ) : Type 0 where
  pub boundary : ℕ → Bool
  pub kind : ℕ
  pub at : At boundary ms i kind

-- a T node starts at the mark i
pub record TextAt (boundary : ℕ → Bool) (ms : List Mark) (i : ℕ) : Type 0 where
  pub kind : ℕ
  pub is_text : Kind.is_text kind ≡ true
  pub at : At boundary ms i kind

-- a node of one of the kinds ks starts at the mark i
pub record OneAt (boundary : ℕ → Bool) (ks : List ℕ) (ms : List Mark) (i : ℕ) : Type 0 where
  pub kind : ℕ
  pub one : among kind ks ≡ true
  pub at : At boundary ms i kind

-- at the mark i a node of the kind k is open, and in the state q
pub record Inside (boundary : ℕ → Bool) (ms : List Mark) (i k q : ℕ) : Type 0 where
  pub marks : List Mark
  pub rest : List Mark
  pub there : drop i ms ≡ marks ++ (plain (Kind.closing k) ∷ rest)
  pub left : ℕ
  pub content : Content boundary left k q marks

-- in some state from q on
pub record Open (boundary : ℕ → Bool) (ms : List Mark) (i k q : ℕ) : Type 0 where
  pub state : ℕ
  pub least : q ≤ state
  pub here : Inside boundary ms i k state

-- the kinds of entries, of a pattern's elements, of expressions, of variants, of arguments, of references
abbrev pub entries : List ℕ
entries =
    Kind.message ∷ Kind.term ∷ Kind.comment ∷ Kind.group_comment ∷ Kind.resource_comment ∷ Kind.attached_comment ∷ Kind.junk ∷ []

abbrev pub elements : List ℕ
elements = Kind.text ∷ Kind.placeable ∷ []

abbrev pub expressions : List ℕ
expressions = Kind.select ∷ inline

abbrev pub variants : List ℕ
variants = Kind.variant ∷ Kind.default_variant ∷ []

abbrev pub arguments : List ℕ
arguments = Kind.named_argument ∷ inline

abbrev pub references : List ℕ
references = Kind.variable ∷ Kind.function ∷ Kind.message_reference ∷ Kind.term_reference ∷ []

-- of the node that is open at the mark m nothing is left, or arguments alone
pub data Call (boundary : ℕ → Bool) (ms : List Mark) (m : ℕ) : Type 0 where
  none : Kind.closing 0 ≤ kind_at ms m → inner_at ms m ≡ [] → Call boundary ms m
  some : At boundary ms m Kind.arguments → nodes (inner_at ms m) ≡ node_at ms m ∷ []
      → m + length (inner_at ms m) ≡ after ms m → Call boundary ms m
