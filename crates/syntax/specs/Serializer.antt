-- serializer.rs: the normal text of a mark list
use Rattle.std.specs.Prelude.{ℕ, zero, suc, ◌-◌, ◌*◌, Bool, ◌&&◌, ◌||◌, not, drop, length, take, replicate, ltb}
use Rattle.std.proofs.Math.Bool.{true, false}
use mathlib.Core.List.{List, [], ◌∷◌, ◌++◌}
use Rattle.std.proofs.Math.Dec.{eqb}
use Rattle.syntax.specs.Byte as Byte
use Rattle.syntax.specs.Kind as Kind
use Rattle.syntax.specs.Bytes.{ascii, starts_with, all}
use Rattle.syntax.specs.Marks.{Mark, plain, placed, kind_of}

-- a node: its kind, the marks that open and close it, and the marks inside it
pub record Node : Type 0 where
  pub kind : ℕ
  pub opening : Mark
  pub closing : Mark
  pub inner : List Mark

-- no node, and one that is open
abbrev pub outside : Node
outside = record { kind = 0; opening = plain 0; closing = plain 0; inner = [] }

abbrev pub opened : Mark → Node
opened m = record { kind = kind_of m; opening = m; closing = plain 0; inner = [] }

-- marks added to a node's inside
abbrev pub into : Node → List Mark → Node
into o ms = record { kind = o.kind; opening = o.opening; closing = o.closing; inner = o.inner ++ ms }

abbrev pub closed : Node → Mark → Node
closed o m = record { kind = o.kind; opening = o.opening; closing = m; inner = o.inner }

-- splits marks into nodes: the node that is open, with the marks of its inside so far, and how many nodes are open
unfoldable pub nodes_from : Node → ℕ → List Mark → List Node
nodes_from o d [] = []
nodes_from o d (m ∷ ms) =
    elim (ltb (kind_of m) (Kind.closing 0)) [
      | true ↦ elim (eqb d 0) [ true ↦ nodes_from (opened m) 1 ms | false ↦ nodes_from (into o (m ∷ [])) (suc d) ms ]
      | false ↦ elim (eqb d 1) [ true ↦ closed o m ∷ nodes_from outside 0 ms | false ↦ nodes_from (into o (m ∷ [])) (d - 1) ms ]
    ]

unfoldable pub nodes : List Mark → List Node
unfolding nodes_from
nodes ms = nodes_from outside 0 ms

-- a piece of text, by the indent level and by the byte before it (0 at the start)
abbrev pub Piece : Type 0
Piece = ℕ → ℕ → List ℕ

unfoldable pub last_of : ℕ → List ℕ → ℕ
last_of b [] = b
last_of b (x ∷ xs) = last_of x xs

infixr 20 ◌⊕◌
unfoldable pub ◌⊕◌ : Piece → Piece → Piece
unfolding last_of
(p ⊕ q) level last = let t = p level last in t ++ q level (last_of last t)

unfoldable pub empty : Piece
empty level last = []

-- spaces for each level of indent
abbrev pub indent_width : ℕ
indent_width = 4

-- TextWriter::write_literal: at the start of a line the indent comes first
unfoldable pub literal : List ℕ → Piece
literal t level last = elim (eqb last Byte.line_feed) [ true ↦ replicate (indent_width * level) Byte.space ++ t | false ↦ t ]

-- TextWriter::newline: a '\r' before it is doubled, or it would be taken for a part of the line end
unfoldable pub newline : Piece
newline level last = elim (eqb last Byte.carriage_return) [ true ↦ Byte.carriage_return ∷ Byte.line_feed ∷ [] | false ↦ Byte.line_feed ∷ [] ]

-- between TextWriter::indent and dedent
unfoldable pub indented : Piece → Piece
indented p level last = p (suc level) last

-- write_char_into_indent, which follows a line end at a level of at least 1, so that what it replaces is a space of the indent
unfoldable pub star : Piece
star level last = replicate (indent_width * level - 1) Byte.space ++ (ascii "*")

unfoldable pub each : {A : Type 0} → (A → Piece) → List A → Piece
each f [] = empty
each f (x ∷ xs) = f x ⊕ each f xs

unfoldable pub if : Bool → Piece → Piece
if true p = p
if false p = empty

module _ (source : List ℕ) where
  -- the text between two places; a node without places has none
  unfoldable pub between : Mark → Mark → List ℕ
  between (plain k) m = []
  between (placed k a) (plain j) = []
  between (placed k a) (placed j e) = take (e - a) (drop a source)

  unfoldable pub text_of : Node → List ℕ
  unfolding between
  text_of n = between n.opening n.closing

  unfoldable pub first : (Node → Piece) → List Node → Piece
  first f [] = empty
  first f (n ∷ ns) = f n

  unfoldable pub has_kind : ℕ → Node → Bool
  has_kind k n = eqb n.kind k

  unfoldable pub is_empty : List Node → Bool
  is_empty [] = true
  is_empty (n ∷ ns) = false

  -- the nodes of a kind
  unfoldable pub of_kind : (ℕ → Bool) → List Node → List Node
  of_kind p [] = []
  of_kind p (n ∷ ns) = elim (p n.kind) [ true ↦ n ∷ of_kind p ns | false ↦ of_kind p ns ]

  unfoldable pub name : Node → Piece
  unfolding text_of
  name n = literal (text_of n)

  -- matches_fluent_ws, of every byte
  unfoldable pub blank_line : List ℕ → Bool
  blank_line t = all (λ b. eqb b Byte.space || (eqb b Byte.carriage_return || eqb b Byte.line_feed)) t

  -- a line of serialize_comment
  unfoldable pub comment_line : List ℕ → Node → Piece
  unfolding if text_of blank_line
  comment_line prefix n = literal prefix ⊕ if (not (blank_line (text_of n))) (literal (ascii " ") ⊕ literal (text_of n)) ⊕ newline

  -- serialize_comment
  unfoldable pub comment : List ℕ → List Mark → Piece
  unfolding comment_line
  comment prefix ms = each (comment_line prefix) (nodes ms)

  -- is_select_expr, of the one node inside a placeable
  unfoldable pub is_select : ℕ → List Node → Bool
  is_select zero es = false
  is_select (suc n) es =
      elim es [
        | [] ↦ false
        | e
            ∷ more ↦ elim
            (eqb e.kind Kind.select) [
              | true ↦ true
              | false ↦ elim (eqb e.kind Kind.placeable) [ true ↦ is_select n (nodes e.inner) | false ↦ false ]
            ]
      ]

  unfoldable pub has_newline : List ℕ → Bool
  has_newline [] = false
  has_newline (b ∷ bs) = eqb b Byte.line_feed || has_newline bs

  unfoldable pub multiline_element : Node → Bool
  unfolding has_newline text_of is_select
  multiline_element e =
      elim
      (eqb e.kind Kind.text) [
        | true ↦ has_newline (text_of e)
        | false ↦ is_select (suc (length e.inner)) (nodes e.inner)
      ]

  -- Pattern::is_multiline
  unfoldable pub is_multiline : List Node → Bool
  unfolding multiline_element
  is_multiline [] = false
  is_multiline (e ∷ es) = multiline_element e || is_multiline es

  -- Pattern::has_leading_text_dot
  unfoldable pub leading_dot : List Node → Bool
  unfolding text_of
  leading_dot [] = false
  leading_dot (e ∷ es) = eqb e.kind Kind.text && starts_with Byte.dot (text_of e)

  -- an identifier, and its attribute if there is one
  unfoldable pub reference : List Node → Piece
  unfolding name
  reference [] = empty
  reference (i ∷ rest) = name i ⊕ each (λ a. literal (ascii ".") ⊕ name a) rest

  -- what can stand in braces, by how many nodes may still be gone into
  unfoldable mutual
    -- serialize_pattern
    pub pattern : ℕ → List Mark → Piece
    pattern zero ms = empty
    pattern (suc n) ms =
        let es = nodes ms in
        let body = each (λ z. element n z) es in
        elim (not (leading_dot es) && is_multiline es) [ true ↦ newline ⊕ indented body | false ↦ literal (ascii " ") ⊕ body ]

    -- serialize_element
    pub element : ℕ → Node → Piece
    element zero e = empty
    element (suc n) e = elim (eqb e.kind Kind.text) [ true ↦ name e | false ↦ first (λ z. in_braces n z) (nodes e.inner) ]

    -- the expression of a pattern's placeable, with its braces
    pub in_braces : ℕ → Node → Piece
    in_braces zero x = empty
    in_braces (suc n) x =
        elim (eqb x.kind Kind.placeable) [
          | true ↦ literal (ascii "{{ ") ⊕ first (λ z. expression n z) (nodes x.inner) ⊕ literal (ascii " }}")
          | false ↦ elim (eqb x.kind Kind.select) [
            | true ↦ literal (ascii "{ ") ⊕ expression n x ⊕ literal (ascii "}")
            | false ↦ literal (ascii "{ ") ⊕ expression n x ⊕ literal (ascii " }")
          ]
        ]

    -- serialize_expression
    pub expression : ℕ → Node → Piece
    expression zero x = empty
    expression (suc n) x = elim (eqb x.kind Kind.select) [ true ↦ select n (nodes x.inner) | false ↦ inline n x ]

    -- serialize_select_expression
    pub select : ℕ → List Node → Piece
    select zero xs = empty
    select (suc n) xs =
        elim xs [
          | [] ↦ empty
          | x ∷ vs ↦ inline n x ⊕ literal (ascii " ->") ⊕ newline ⊕ indented (each (λ v. variant n v ⊕ newline) vs)
        ]

    -- serialize_variant
    pub variant : ℕ → Node → Piece
    variant zero v = empty
    variant (suc n) v =
        if (eqb v.kind Kind.default_variant) star ⊕ literal (ascii "[") ⊕ first name (nodes v.inner) ⊕ literal (ascii "]")
        ⊕ first (λ p. pattern n p.inner) (of_kind (λ k. eqb k Kind.pattern) (nodes v.inner))

    -- serialize_inline_expression
    pub inline : ℕ → Node → Piece
    inline zero x = empty
    inline (suc n) x =
        let k = x.kind in
        let ids = of_kind (λ j. eqb j Kind.identifier) (nodes x.inner) in
        let args = of_kind (λ j. eqb j Kind.arguments) (nodes x.inner) in
        elim (eqb k Kind.string) [
          | true ↦ literal (ascii "\"") ⊕ name x ⊕ literal (ascii "\"")
          | false ↦ elim (eqb k Kind.number) [
            | true ↦ name x
            | false ↦ elim (eqb k Kind.placeable) [
              | true ↦ literal (ascii "{") ⊕ first (λ z. expression n z) (nodes x.inner) ⊕ literal (ascii "}")
              | false ↦ (if (eqb k Kind.variable) (literal (ascii "$"))
                  ⊕ if (eqb k Kind.term_reference) (literal (ascii "-")) ⊕ reference ids
                  ⊕ each (λ a. arguments n (nodes a.inner)) args)
            ]
          ]
        ]

    -- serialize_call_arguments
    pub arguments : ℕ → List Node → Piece
    arguments zero rest = empty
    arguments (suc n) rest = literal (ascii "(") ⊕ separated n false rest ⊕ literal (ascii ")")

    -- the arguments, with a comma before each but the first
    pub separated : ℕ → Bool → List Node → Piece
    separated zero written rest = empty
    separated (suc n) written xs =
        elim xs [ [] ↦ empty | a ∷ rest ↦ if written (literal (ascii ", ")) ⊕ argument n a ⊕ separated n true rest ]

    pub argument : ℕ → Node → Piece
    argument zero a = empty
    argument (suc n) a = elim (eqb a.kind Kind.named_argument) [ true ↦ named_argument n (nodes a.inner) | false ↦ inline n a ]

    pub named_argument : ℕ → List Node → Piece
    named_argument zero ns = empty
    named_argument (suc n) ns = elim ns [ [] ↦ empty | i ∷ xs ↦ name i ⊕ literal (ascii ": ") ⊕ first (λ z. inline n z) xs ]

  -- serialize_attribute, on a line of its own
  unfoldable pub attribute : Node → Piece
  unfolding first reference of_kind pattern
  attribute a =
      let ns = nodes a.inner in
      newline ⊕ literal (ascii ".") ⊕ first name ns ⊕ literal (ascii " =")
      ⊕ first (λ p. pattern (length a.inner) p.inner) (of_kind (λ k. eqb k Kind.pattern) ns)

  -- serialize_attributes
  unfoldable pub attributes : List Node → Piece
  unfolding is_empty attribute
  attributes ns = elim (is_empty ns) [ true ↦ empty | false ↦ indented (each attribute ns) ]

  -- serialize_message and serialize_term, without the comment
  unfoldable pub message : List Mark → Piece
  unfolding first of_kind pattern attributes
  message ms =
      let ns = nodes ms in
      first name ns ⊕ literal (ascii " =") ⊕ each (λ p. pattern (length ms) p.inner) (of_kind (λ k. eqb k Kind.pattern) ns)
      ⊕ attributes (of_kind (λ k. eqb k Kind.attribute) ns) ⊕ newline

  -- serialize_free_comment
  unfoldable pub free_comment : Bool → List ℕ → List Mark → Piece
  unfolding if comment
  free_comment wrote prefix ms = if wrote newline ⊕ comment prefix ms ⊕ newline

  -- an entry; `wrote` says that the one before it was no junk
  unfoldable pub entry : Bool → Bool → Node → Piece
  unfolding if text_of comment free_comment message
  entry junk wrote e =
      elim (eqb e.kind Kind.junk) [
        | true ↦ if junk (literal (text_of e))
        | false ↦ elim (eqb e.kind Kind.attached_comment) [
          | true ↦ comment (ascii "#") e.inner
          | false ↦ elim (eqb e.kind Kind.comment) [
            | true ↦ free_comment wrote (ascii "#") e.inner
            | false ↦ elim (eqb e.kind Kind.group_comment) [
              | true ↦ free_comment wrote (ascii "##") e.inner
              | false ↦ elim (eqb e.kind Kind.resource_comment) [
                | true ↦ free_comment wrote (ascii "###") e.inner
                | false ↦ if (eqb e.kind Kind.term) (literal (ascii "-")) ⊕ message e.inner
              ]
            ]
          ]
        ]
      ]

  -- wrote_non_junk_entry after an entry; an attached comment is a part of its message or term, and leaves it
  unfoldable pub wrote_by : Bool → ℕ → Bool
  wrote_by wrote k = elim (eqb k Kind.junk) [ true ↦ false | false ↦ elim (eqb k Kind.attached_comment) [ true ↦ wrote | false ↦ true ] ]

  -- serialize_resource
  unfoldable pub resource : Bool → Bool → List Node → Piece
  unfolding entry wrote_by
  resource junk wrote [] = empty
  resource junk wrote (e ∷ es) = entry junk wrote e ⊕ resource junk (wrote_by wrote e.kind) es

-- serialize_with_options
unfoldable pub serialize : List ℕ → Bool → List Mark → List ℕ
unfolding resource
serialize source junk ms = resource source junk false (nodes ms) 0 0
