-- A normal text is UTF-8 where its source is and the places of its marks are character boundaries: what is written is
-- ASCII, or stands between two places.
use Prim.Native.Nat.{ℕ, zero, suc, ◌-◌, ◌*◌}
use Rattle.std.proofs.Common.{arith, leb-true}
use Rattle.std.specs.Prelude.{◌≡◌, Bool, ◌&&◌, not, length, replicate, leb}
use Rattle.std.proofs.Math.Path.{refl}
use Rattle.std.proofs.Math.Bool.{true, false}
use mathlib.Core.List.{List, [], ◌∷◌, ◌++◌}
use Rattle.std.proofs.Math.Dec.{eqb}
use Rattle.utf8.specs.Utf8 as Utf8
use Rattle.utf8.specs.Utf8.{first_ill_formed, scan, is_boundary}
use Rattle.utf8.specs.Law.{append-formed, span-formed, ascii_cons}
use Rattle.syntax.specs.Byte as Byte
use Rattle.syntax.specs.Kind as Kind
use Rattle.syntax.specs.Bytes.{ascii}
use Rattle.syntax.specs.Marks.{Mark, plain, placed}
use Rattle.syntax.specs.Serializer.{Node, nodes, Piece, last_of, ◌⊕◌, empty, literal, newline, indented, star, each, if}
use Rattle.syntax.specs.Serializer.{between, text_of, first, of_kind, name, blank_line, comment_line, comment, leading_dot}
use Rattle.syntax.specs.Serializer.{is_multiline, reference, pattern, element, in_braces, expression, select, variant}
use Rattle.syntax.specs.Serializer.{inline, arguments, separated, argument, named_argument, attribute, attributes}
use Rattle.syntax.specs.Serializer.{is_empty, message, free_comment, entry, wrote_by, resource, serialize}
use Rattle.syntax.specs.Shape.{WellFormed}
use Rattle.laws.specs.Bytes.{clash}
use Rattle.laws.specs.Balanced.Nodes.{OkMark, OkMarks, OkNode, OkNodes, ok-nodes, run_ok}

-- ---- pieces that write UTF-8

-- p writes UTF-8, wherever it stands
record Fine (p : Piece) : Type 0 where
  formed : (level last : ℕ) → Utf8.WellFormed (p level last)

nil-formed : Utf8.WellFormed []
unfolding first_ill_formed scan
nil-formed = refl

abbrev is_ascii : List ℕ → Bool
is_ascii [] = true
is_ascii (b ∷ bs) = leb b 127 && is_ascii bs

ascii-formed : (t : List ℕ) → is_ascii t ≡ true → Utf8.WellFormed t
ascii-formed [] h = nil-formed
ascii-formed (b ∷ bs) h = go (leb b 127) refl h (λ g. ascii-formed bs g)
  where
    go : (v : Bool) → leb b 127 ≡ v → (v && is_ascii bs) ≡ true → (is_ascii bs ≡ true → Utf8.WellFormed bs) → Utf8.WellFormed (b ∷ bs)
    go true q g f = ascii_cons b bs (leb-true b 127 q) (f g)
    go false q g f = clash g refl

spaces-formed : (n : ℕ) (t : List ℕ) → Utf8.WellFormed t → Utf8.WellFormed (replicate n Byte.space ++ t)
spaces-formed zero t h = h
spaces-formed (suc n) t h = ascii_cons Byte.space (replicate n Byte.space ++ t) (omega arith) (spaces-formed n t h)

none : Fine empty
unfolding empty
none = record { formed = λ v b. nil-formed }

then : {p q : Piece} → Fine p → Fine q → Fine (p ⊕ q)
unfolding ◌⊕◌
then {p} {q} f g =
    record {
      formed =
          λ v b. append-formed (p v b) (q v (last_of b (p v b))) (f.formed v b) (g.formed v (last_of b (p v b)));
    }

either : (v : Bool) {p q : Piece} → Fine p → Fine q → Fine (elim v [ true ↦ p | false ↦ q ])
either true f g = f
either false f g = g

if-fine : (v : Bool) {p : Piece} → Fine p → Fine (if v p)
unfolding if
if-fine true f = f
if-fine false f = none

bytes-fine : (t : List ℕ) → Utf8.WellFormed t → Fine (literal t)
unfolding literal
bytes-fine t h = record { formed = λ v b. go (eqb b 10) v }
  where
    go : (u : Bool) (v : ℕ) → Utf8.WellFormed (elim u [ true ↦ replicate (4 * v) Byte.space ++ t | false ↦ t ])
    go true v = spaces-formed (4 * v) t h
    go false v = h

literal-fine : (t : List ℕ) → is_ascii t ≡ true → Fine (literal t)
literal-fine t h = bytes-fine t (ascii-formed t h)

newline-fine : Fine newline
unfolding newline
newline-fine = record { formed = λ v b. go (eqb b 13) }
  where
    go : (u : Bool) → Utf8.WellFormed (elim u [ true ↦ Byte.carriage_return ∷ Byte.line_feed ∷ [] | false ↦ Byte.line_feed ∷ [] ])
    go true = ascii-formed (Byte.carriage_return ∷ Byte.line_feed ∷ []) refl
    go false = ascii-formed (Byte.line_feed ∷ []) refl

star-fine : Fine star
unfolding star
star-fine = record { formed = λ v b. spaces-formed (4 * v - 1) (ascii "*") (ascii-formed (ascii "*") refl) }

indented-fine : {p : Piece} → Fine p → Fine (indented p)
unfolding indented
indented-fine f = record { formed = λ v b. f.formed (suc v) b }

-- ---- what the writer writes of nodes whose places are boundaries

module _ (source : List ℕ) (utf8 : Utf8.WellFormed source) where
  abbrev At : ℕ → Type 0
  At a = is_boundary source a ≡ true

  each-fine : {f : Node → Piece} (ns : List Node) → OkNodes At ns → ((n : Node) → OkNode At n → Fine (f n)) → Fine (each f ns)
  unfolding each
  each-fine [] o s = none
  each-fine (n ∷ ns) o s = then (s n o.0) (each-fine ns o.1 s)

  first_fine : {f : Node → Piece} (ns : List Node) → OkNodes At ns → ((n : Node) → OkNode At n → Fine (f n)) → Fine (first source f ns)
  unfolding first
  first_fine [] o s = none
  first_fine (n ∷ ns) o s = s n o.0

  of_kind-ok : (t : ℕ → Bool) (ns : List Node) → OkNodes At ns → OkNodes At (of_kind source t ns)
  unfolding of_kind
  of_kind-ok t [] o = tt
  of_kind-ok t (n ∷ ns) o = go (t n.kind) (of_kind-ok t ns o.1)
    where
      go : (v : Bool) → OkNodes At (of_kind source t ns) → OkNodes At (elim v [ true ↦ n ∷ of_kind source t ns | false ↦ of_kind source t ns ])
      go true b = (o.0, b)
      go false b = b

  inner-ok : (ms : List Mark) → OkMarks At ms → OkNodes At (nodes ms)
  inner-ok ms o = ok-nodes At ms o

  kind_ok : (t : ℕ → Bool) (ms : List Mark) → OkMarks At ms → OkNodes At (of_kind source t (nodes ms))
  kind_ok t ms o = of_kind-ok t (nodes ms) (inner-ok ms o)

  text-formed : (n : Node) → OkNode At n → Utf8.WellFormed (text_of source n)
  unfolding text_of between
  text-formed n o = go n.opening n.closing o.0 o.1
    where
      go : (m c : Mark) → OkMark At m → OkMark At c → Utf8.WellFormed (between source m c)
      go (plain k) c a b = nil-formed
      go (placed k p) (plain j) a b = nil-formed
      go (placed k p) (placed j q) a b = span-formed source p q utf8 a b

  text-fine : (n : Node) → OkNode At n → Fine (literal (text_of source n))
  text-fine n o = bytes-fine (text_of source n) (text-formed n o)

  name-fine : (n : Node) → OkNode At n → Fine (name source n)
  unfolding name
  name-fine n o = text-fine n o

  reference-fine : (ns : List Node) → OkNodes At ns → Fine (reference source ns)
  unfolding reference
  reference-fine [] o = none
  reference-fine (i ∷ rest) o =
      then (name-fine i o.0) (each-fine rest o.1 (λ a b. then (literal-fine (ascii ".") refl) (name-fine a b)))

  -- what the pieces write with the fuel n
  record Fines (n : ℕ) : Type 0 where
    pattern : (ms : List Mark) → OkMarks At ms → Fine (pattern source n ms)
    element : (e : Node) → OkNode At e → Fine (element source n e)
    in_braces : (x : Node) → OkNode At x → Fine (in_braces source n x)
    expression : (x : Node) → OkNode At x → Fine (expression source n x)
    select : (xs : List Node) → OkNodes At xs → Fine (select source n xs)
    variant : (v : Node) → OkNode At v → Fine (variant source n v)
    inline : (x : Node) → OkNode At x → Fine (inline source n x)
    arguments : (xs : List Node) → OkNodes At xs → Fine (arguments source n xs)
    separated : (written : Bool) (xs : List Node) → OkNodes At xs → Fine (separated source n written xs)
    argument : (a : Node) → OkNode At a → Fine (argument source n a)
    named_argument : (xs : List Node) → OkNodes At xs → Fine (named_argument source n xs)

  module _ (n : ℕ) (s : Fines n) where
    first-pattern : (ms : List Mark) → OkMarks At ms
        → Fine (first source (λ p. pattern source n p.inner) (of_kind source (λ k. eqb k Kind.pattern) (nodes ms)))
    first-pattern ms o =
        first_fine (of_kind source (λ k. eqb k Kind.pattern) (nodes ms)) (kind_ok (λ k. eqb k Kind.pattern) ms o)
        (λ p b. s.pattern p.inner b.2)

    first-expression : (ms : List Mark) → OkMarks At ms → Fine (first source (λ z. expression source n z) (nodes ms))
    first-expression ms o = first_fine (nodes ms) (inner-ok ms o) (λ z b. s.expression z b)

    -- with one more fuel
    pattern-on : (ms : List Mark) → OkMarks At ms → Fine (pattern source (suc n) ms)
    unfolding pattern
    pattern-on ms o =
        let body : Fine (each (λ z. element source n z) (nodes ms)) = each-fine (nodes ms) (inner-ok ms o) (λ e b. s.element e b) in
        either (not (leading_dot source (nodes ms)) && is_multiline source (nodes ms))
        (then newline-fine (indented-fine body)) (then (literal-fine (ascii " ") refl) body)

    element-on : (e : Node) → OkNode At e → Fine (element source (suc n) e)
    unfolding element
    element-on e o =
        either (eqb e.kind Kind.text) (name-fine e o)
        (first_fine (nodes e.inner) (inner-ok e.inner o.2) (λ x b. s.in_braces x b))

    in_braces-on : (x : Node) → OkNode At x → Fine (in_braces source (suc n) x)
    unfolding in_braces
    in_braces-on x o =
        either (eqb x.kind Kind.placeable)
        (then (literal-fine (ascii "{{ ") refl)
        (then (first-expression x.inner o.2) (literal-fine (ascii " }}") refl)))
        (either (eqb x.kind Kind.select)
        (then (literal-fine (ascii "{ ") refl) (then (s.expression x o) (literal-fine (ascii "}") refl)))
        (then (literal-fine (ascii "{ ") refl) (then (s.expression x o) (literal-fine (ascii " }") refl))))

    expression-on : (x : Node) → OkNode At x → Fine (expression source (suc n) x)
    unfolding expression
    expression-on x o = either (eqb x.kind Kind.select) (s.select (nodes x.inner) (inner-ok x.inner o.2)) (s.inline x o)

    select-on : (xs : List Node) → OkNodes At xs → Fine (select source (suc n) xs)
    unfolding select
    select-on [] o = none
    select-on (x ∷ vs) o =
        then (s.inline x o.0)
        (then (literal-fine (ascii " ->") refl)
        (then newline-fine (indented-fine (each-fine vs o.1 (λ v b. then (s.variant v b) newline-fine)))))

    variant-on : (v : Node) → OkNode At v → Fine (variant source (suc n) v)
    unfolding variant
    variant-on v o =
        then (if-fine (eqb v.kind Kind.default_variant) star-fine)
        (then (literal-fine (ascii "[") refl)
        (then (first_fine (nodes v.inner) (inner-ok v.inner o.2) name-fine)
        (then (literal-fine (ascii "]") refl) (first-pattern v.inner o.2))))

    inline-on : (x : Node) → OkNode At x → Fine (inline source (suc n) x)
    unfolding inline
    inline-on x o =
        let ms = x.inner in
        either (eqb x.kind Kind.string) (then (literal-fine (ascii "\"") refl) (then (name-fine x o) (literal-fine (ascii "\"") refl)))
        (either (eqb x.kind Kind.number) (name-fine x o)
        (either (eqb x.kind Kind.placeable)
        (then (literal-fine (ascii "{") refl) (then (first-expression ms o.2) (literal-fine (ascii "}") refl)))
        (then (if-fine (eqb x.kind Kind.variable) (literal-fine (ascii "$") refl))
        (then (if-fine (eqb x.kind Kind.term_reference) (literal-fine (ascii "-") refl))
        (then (reference-fine (of_kind source (λ j. eqb j Kind.identifier) (nodes ms)) (kind_ok (λ j. eqb j Kind.identifier) ms o.2))
        (each-fine (of_kind source (λ j. eqb j Kind.arguments) (nodes ms))
        (kind_ok (λ j. eqb j Kind.arguments) ms o.2)
        (λ a b. s.arguments (nodes a.inner) (inner-ok a.inner b.2))))))))

    arguments-on : (xs : List Node) → OkNodes At xs → Fine (arguments source (suc n) xs)
    unfolding arguments
    arguments-on xs o = then (literal-fine (ascii "(") refl) (then (s.separated false xs o) (literal-fine (ascii ")") refl))

    separated-on : (written : Bool) (xs : List Node) → OkNodes At xs → Fine (separated source (suc n) written xs)
    unfolding separated
    separated-on written [] o = none
    separated-on written (a ∷ rest) o =
        then (if-fine written (literal-fine (ascii ", ") refl))
        (then (s.argument a o.0) (s.separated true rest o.1))

    argument-on : (a : Node) → OkNode At a → Fine (argument source (suc n) a)
    unfolding argument
    argument-on a o =
        either (eqb a.kind Kind.named_argument) (s.named_argument (nodes a.inner) (inner-ok a.inner o.2))
        (s.inline a o)

    named_argument-on : (xs : List Node) → OkNodes At xs → Fine (named_argument source (suc n) xs)
    unfolding named_argument
    named_argument-on [] o = none
    named_argument-on (i ∷ xs) o =
        then (name-fine i o.0) (then (literal-fine (ascii ": ") refl) (first_fine xs o.1 (λ z b. s.inline z b)))

    fines-on : Fines (suc n)
    fines-on = record {
      pattern = pattern-on;
      element = element-on;
      in_braces = in_braces-on;
      expression = expression-on;
      select = select-on;
      variant = variant-on;
      inline = inline-on;
      arguments = arguments-on;
      separated = separated-on;
      argument = argument-on;
      named_argument = named_argument-on;
    }

  fines : (n : ℕ) → Fines n
  unfolding pattern
  fines zero = record {
    pattern = λ ms o. none;
    element = λ e o. none;
    in_braces = λ x o. none;
    expression = λ x o. none;
    select = λ xs o. none;
    variant = λ v o. none;
    inline = λ x o. none;
    arguments = λ xs o. none;
    separated = λ w xs o. none;
    argument = λ a o. none;
    named_argument = λ xs o. none;
  }
  fines (suc n) = fines-on n (fines n)

  attribute-fine : (a : Node) → OkNode At a → Fine (attribute source a)
  unfolding attribute
  attribute-fine a o =
      let ms = a.inner in
      then newline-fine
      (then (literal-fine (ascii ".") refl)
      (then (first_fine (nodes ms) (inner-ok ms o.2) name-fine)
      (then (literal-fine (ascii " =") refl) (first-pattern (length ms) (fines (length ms)) ms o.2))))

  attributes-fine : (ns : List Node) → OkNodes At ns → Fine (attributes source ns)
  unfolding attributes
  attributes-fine ns o = either (is_empty source ns) none (indented-fine (each-fine ns o attribute-fine))

  message-fine : (ms : List Mark) → OkMarks At ms → Fine (message source ms)
  unfolding message
  message-fine ms o =
      then (first_fine (nodes ms) (inner-ok ms o) name-fine)
      (then (literal-fine (ascii " =") refl)
      (then
      (each-fine (of_kind source (λ k. eqb k Kind.pattern) (nodes ms)) (kind_ok (λ k. eqb k Kind.pattern) ms o)
      (λ p b. (fines (length ms)).pattern p.inner b.2))
      (then
      (attributes-fine (of_kind source (λ k. eqb k Kind.attribute) (nodes ms))
      (kind_ok (λ k. eqb k Kind.attribute) ms o)) newline-fine)))

  comment-fine : (prefix : List ℕ) (ms : List Mark) → is_ascii prefix ≡ true → OkMarks At ms → Fine (comment source prefix ms)
  unfolding comment comment_line
  comment-fine prefix ms q o =
      each-fine (nodes ms) (inner-ok ms o)
      (λ n b. then (literal-fine prefix q)
      (then
      (if-fine (not (blank_line source (text_of source n)))
      (then (literal-fine (ascii " ") refl) (text-fine n b))) newline-fine))

  free-fine : (wrote : Bool) (prefix : List ℕ) (ms : List Mark) → is_ascii prefix ≡ true → OkMarks At ms
      → Fine (free_comment source wrote prefix ms)
  unfolding free_comment
  free-fine wrote prefix ms q o = then (if-fine wrote newline-fine) (then (comment-fine prefix ms q o) newline-fine)

  entry-fine : (junk wrote : Bool) (e : Node) → OkNode At e → Fine (entry source junk wrote e)
  unfolding entry
  entry-fine junk wrote e o =
      let ms = e.inner in
      either (eqb e.kind Kind.junk) (if-fine junk (text-fine e o))
      (either (eqb e.kind Kind.attached_comment) (comment-fine (ascii "#") ms refl o.2)
      (either (eqb e.kind Kind.comment) (free-fine wrote (ascii "#") ms refl o.2)
      (either (eqb e.kind Kind.group_comment) (free-fine wrote (ascii "##") ms refl o.2)
      (either (eqb e.kind Kind.resource_comment) (free-fine wrote (ascii "###") ms refl o.2)
      (then (if-fine (eqb e.kind Kind.term) (literal-fine (ascii "-") refl)) (message-fine ms o.2))))))

  resource-fine : (junk wrote : Bool) (ns : List Node) → OkNodes At ns → Fine (resource source junk wrote ns)
  unfolding resource
  resource-fine junk wrote [] o = none
  resource-fine junk wrote (e ∷ es) o =
      then (entry-fine junk wrote e o.0) (resource-fine junk (wrote_by source wrote e.kind) es o.1)

  -- whatever the shape of the marks
  pub marks-utf8 : (junk : Bool) (ms : List Mark) → OkMarks At ms → Utf8.WellFormed (serialize source junk ms)
  unfolding serialize
  marks-utf8 junk ms o = (resource-fine junk false (nodes ms) (inner-ok ms o)).formed 0 0

-- the normal text of a well-formed list, with any limit on what is open
pub text-utf8 : (source : List ℕ) (junk : Bool) (limit : ℕ) (ms : List Mark) → Utf8.WellFormed source
    → WellFormed (is_boundary source) limit ms
    → Utf8.WellFormed (serialize source junk ms)
text-utf8 source junk limit ms utf8 f = marks-utf8 source utf8 junk ms (run_ok (λ a. is_boundary source a ≡ true) (λ a h. h) f.run)
