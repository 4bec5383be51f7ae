-- A tree's text has under 2^63 bytes: at most three literals for each mark, with their indents.
use Prim.Native.Nat.{ℕ, zero, suc, ◌+◌, ◌-◌, ◌*◌, ◌^◌, ◌≤◌, ◌<◌}
use native.Mathlib.Omega.{arith}
use Rattle.std.specs.Prelude.{◌≡◌, Bool, ◌&&◌, not, drop, leb}
use Rattle.std.proofs.Math.Path.{refl, ap}
use Rattle.std.proofs.Common.{◌∙◌, leb-true, eqb-true}
use Rattle.std.proofs.Math.Bool.{true, false}
use mathlib.Core.List.{List, [], ◌∷◌, ◌++◌}
use Rattle.std.proofs.Math.ListN.{length, replicate, length-append, length-take, length-drop, length-replicate}
use Rattle.std.proofs.Math.Dec.{eqb}
use Rattle.syntax.specs.Byte as Byte
use Rattle.syntax.specs.Kind as Kind
use Rattle.syntax.specs.Limits.{max_length}
use Rattle.syntax.specs.Layout.{tree_capacity}
use Rattle.syntax.specs.Bytes.{ascii}
use Rattle.syntax.specs.Marks.{Mark, plain, placed}
use Rattle.syntax.specs.Serializer.{Node, nodes, Piece, last_of, ◌⊕◌, empty, literal, newline, indented, star, each, if}
use Rattle.syntax.specs.Serializer.{between, text_of, first, of_kind, name, blank_line, comment_line, comment, leading_dot}
use Rattle.syntax.specs.Serializer.{is_multiline, reference, pattern, element, in_braces, expression, select, variant}
use Rattle.syntax.specs.Serializer.{inline, arguments, separated, argument, named_argument, attribute, attributes}
use Rattle.syntax.specs.Serializer.{is_empty, message, free_comment, entry, wrote_by, resource, serialize}
use Rattle.laws.specs.Bytes.{clash}
use Rattle.laws.specs.Text.Fuel.{total, total-nodes, total-of_kind}

-- the most marks, and the most bytes of one literal: its own, and an indent with no more levels than there are marks
abbrev most_marks : ℕ
most_marks = tree_capacity max_length

abbrev most : ℕ
most = max_length + 4 * most_marks + 3

-- p writes at most what c literals do, at a level to which as many as the marks may still be added
record Short (marks c : ℕ) (p : Piece) : Type 0 where
  within : (level last : ℕ) → level + marks ≤ most_marks → length (p level last) ≤ c * most

module _ {marks : ℕ} where
  none : {c : ℕ} → Short marks c empty
  unfolding empty
  none = record { within = λ v b h. omega arith }

  then : {a b : ℕ} {p q : Piece} → Short marks a p → Short marks b q → Short marks (a + b) (p ⊕ q)
  unfolding ◌⊕◌
  then {p = p} {q = q} f g = record {
    within = λ v b h. omega (arith, length-append (p v b) (q v (last_of b (p v b))), f.within v b h, g.within v (last_of b (p v b)) h);
  }

  -- a larger count, more marks, both
  sum : {a c : ℕ} {p : Piece} → Short marks a p → a ≤ c → Short marks c p
  sum f h = record { within = λ v b g. omega (arith, f.within v b g) }

  under : {less c : ℕ} {p : Piece} → Short less c p → less ≤ marks → Short marks c p
  under f l = record { within = λ v b g. f.within v b (omega arith) }

  fits : {less a c : ℕ} {p : Piece} → Short less a p → less ≤ marks → a ≤ c → Short marks c p
  fits f l h = sum (under f l) h

  either : {c : ℕ} (v : Bool) {p q : Piece} → Short marks c p → Short marks c q → Short marks c (elim v [ true ↦ p | false ↦ q ])
  either true f g = f
  either false f g = g

  if-short : {c : ℕ} (v : Bool) {p : Piece} → Short marks c p → Short marks c (if v p)
  unfolding if
  if-short true f = f
  if-short false f = none

  bytes-short : (t : List ℕ) → length t ≤ max_length + 3 → Short marks 1 (literal t)
  unfolding literal
  bytes-short t h = record { within = λ v b g. go (eqb b 10) v g }
    where
      go : (u : Bool) (v : ℕ) → v + marks ≤ most_marks
          → length {A = ℕ} (elim u [ true ↦ replicate (4 * v) Byte.space ++ t | false ↦ t ]) ≤ 1 * most
      go true v g = omega (arith, length-append (replicate (4 * v) Byte.space) t, length-replicate (4 * v) Byte.space)
      go false v g = omega arith

  literal-short : (t : List ℕ) → leb (length t) 3 ≡ true → Short marks 1 (literal t)
  literal-short t h = bytes-short t (omega (arith, leb-true (length t) 3 h))

  newline-short : Short marks 1 newline
  unfolding newline
  newline-short = record { within = λ v b g. go (eqb b 13) }
    where
      go : (u : Bool) → length {A = ℕ} (elim u [ true ↦ Byte.carriage_return ∷ Byte.line_feed ∷ [] | false ↦ Byte.line_feed ∷ [] ]) ≤ 1 * most
      go true = omega arith
      go false = omega arith

  star-short : Short marks 1 star
  unfolding star
  star-short =
      record {
        within =
            λ v b g. omega (
              arith,
              length-append (replicate (4 * v - 1) Byte.space) (Byte.star ∷ []),
              length-replicate (4 * v - 1) Byte.space,
            );
      }

  indented-short : {c : ℕ} {p : Piece} → Short marks c p → Short (suc marks) c (indented p)
  unfolding indented
  indented-short f = record { within = λ v b g. f.within (suc v) b (omega arith) }

-- each node has at most three literals for each of its marks
each-short : {marks : ℕ} {f : Node → Piece} (k : ℕ) (ns : List Node) → total ns ≤ k
    → ((e : Node) → length e.inner + 2 ≤ k → Short marks (3 * (length e.inner + 2)) (f e))
    → Short marks (3 * total ns) (each f ns)
unfolding each
each-short k [] l s = none
each-short k (e ∷ es) l s = sum (then (s e (omega arith)) (each-short k es (omega arith) s)) (omega arith)

module _ (source : List ℕ) where
  first_short : {marks c : ℕ} {f : Node → Piece} (k : ℕ) (ns : List Node) → total ns ≤ k
      → ((e : Node) → length e.inner + 2 ≤ k → Short marks c (f e)) → Short marks c (first source f ns)
  unfolding first
  first_short k [] l s = none
  first_short k (e ∷ es) l s = s e (omega arith)

  -- nodes of two kinds
  two-kinds : (i j : ℕ) → eqb i j ≡ false → (ns : List Node)
      → total (of_kind source (λ k. eqb k i) ns) + total (of_kind source (λ k. eqb k j) ns) ≤ total ns
  unfolding of_kind
  two-kinds i j h [] = omega arith
  two-kinds i j h (e ∷ es) =
      go (eqb e.kind i) (eqb e.kind j) (λ q. ap (λ k. eqb k j) (eqb-true e.kind i q) ∙ h) (two-kinds i j h es)
    where
      go : (u v : Bool) → (u ≡ true → v ≡ false)
          → total (of_kind source (λ k. eqb k i) es) + total (of_kind source (λ k. eqb k j) es) ≤ total es
          → total
          (elim u [ true ↦ e ∷ of_kind source (λ k. eqb k i) es | false ↦ of_kind source (λ k. eqb k i) es ]) + total
          (elim v [ true ↦ e ∷ of_kind source (λ k. eqb k j) es | false ↦ of_kind source (λ k. eqb k j) es ])
          ≤ total (e ∷ es)
      go true true f l = clash refl (f refl)
      go true false f l = omega arith
      go false true f l = omega arith
      go false false f l = omega arith

  module _ (h : length source ≤ max_length) where
    text_of-short : {marks : ℕ} (n : Node) → Short marks 1 (literal (text_of source n))
    unfolding text_of between
    text_of-short n = bytes-short (text_of source n) (go n.opening n.closing)
      where
        go : (a e : Mark) → length (between source a e) ≤ max_length + 3
        go (plain k) m = omega arith
        go (placed k a) (plain j) = omega arith
        go (placed k a) (placed j e) = omega (arith, length-take (e - a) (drop a source), length-drop a source)

    name-short : {marks : ℕ} (n : Node) → Short marks 1 (name source n)
    unfolding name
    name-short n = text_of-short n

    first-name : {marks : ℕ} (ns : List Node) → Short marks 1 (first source (name source) ns)
    first-name ns = first_short (total ns) ns (omega arith) (λ n l. name-short n)

    reference-short : {marks : ℕ} (ids : List Node) → Short marks (3 * total ids) (reference source ids)
    unfolding reference
    reference-short [] = none
    reference-short (i ∷ rest) =
        sum
        (then (name-short i)
        (each-short (total rest) rest (omega arith)
        (λ a l. sum (then (literal-short (ascii ".") refl) (name-short a)) (omega arith))))
        (omega arith)

    -- what the pieces write with the fuel n
    record Shorts (n : ℕ) : Type 0 where
      pattern : (ms : List Mark) → Short (suc (length ms)) (3 * length ms + 1) (pattern source n ms)
      element : (e : Node) → Short (length e.inner) (3 * length e.inner + 1) (element source n e)
      in_braces : (x : Node) → Short (suc (length x.inner)) (3 * length x.inner + 5) (in_braces source n x)
      expression : (x : Node) → Short (suc (length x.inner)) (3 * length x.inner + 3) (expression source n x)
      select : (xs : List Node) → Short (suc (total xs)) (3 * total xs) (select source n xs)
      variant : (v : Node) → Short (length v.inner) (3 * length v.inner + 4) (variant source n v)
      inline : (x : Node) → Short (length x.inner) (3 * length x.inner + 3) (inline source n x)
      arguments : (xs : List Node) → Short (total xs) (3 * total xs + 2) (arguments source n xs)
      separated : (written : Bool) (xs : List Node) → Short (total xs) (3 * total xs) (separated source n written xs)
      argument : (a : Node) → Short (length a.inner) (3 * length a.inner + 3) (argument source n a)
      named_argument : (xs : List Node) → Short (total xs) (3 * total xs) (named_argument source n xs)

    module _ (n : ℕ) (s : Shorts n) where
      first-pattern : (ms : List Mark)
          → Short (length ms) (3 * length ms)
          (first source (λ p. pattern source n p.inner) (of_kind source (λ k. eqb k Kind.pattern) (nodes ms)))
      first-pattern ms =
          first_short (length ms) (of_kind source (λ k. eqb k Kind.pattern) (nodes ms))
          (total-of_kind source (λ k. eqb k Kind.pattern) ms)
          (λ p l. fits (s.pattern p.inner) (omega arith) (omega arith))

      first-expression : (ms : List Mark) → Short (length ms) (3 * length ms) (first source (λ z. expression source n z) (nodes ms))
      first-expression ms = first_short (length ms) (nodes ms) (total-nodes ms) (λ z l. fits (s.expression z) (omega arith) (omega arith))

      -- with one more fuel
      pattern-on : (ms : List Mark) → Short (suc (length ms)) (3 * length ms + 1) (pattern source (suc n) ms)
      unfolding pattern
      pattern-on ms =
          let body : Short (length ms) (3 * total (nodes ms)) (each (λ z. element source n z) (nodes ms)) =
          each-short (length ms) (nodes ms) (total-nodes ms)
          (λ e l. fits (s.element e) (omega arith) (omega arith)) in
          let l = total-nodes ms in
          either (not (leading_dot source (nodes ms)) && is_multiline source (nodes ms))
          (fits (then newline-short (indented-short body)) (omega arith) (omega arith))
          (fits (then (literal-short (ascii " ") refl) body) (omega arith) (omega arith))

      element-on : (e : Node) → Short (length e.inner) (3 * length e.inner + 1) (element source (suc n) e)
      unfolding element
      element-on e =
          either (eqb e.kind Kind.text) (sum (name-short e) (omega arith))
          (first_short (length e.inner) (nodes e.inner) (total-nodes e.inner)
          (λ x l. fits (s.in_braces x) (omega arith) (omega arith)))

      in_braces-on : (x : Node) → Short (suc (length x.inner)) (3 * length x.inner + 5) (in_braces source (suc n) x)
      unfolding in_braces
      in_braces-on x =
          either (eqb x.kind Kind.placeable)
          (sum
          (then (literal-short (ascii "{{ ") refl)
          (then (under (first-expression x.inner) (omega arith)) (literal-short (ascii " }}") refl)))
          (omega arith))
          (either (eqb x.kind Kind.select)
          (sum (then (literal-short (ascii "{ ") refl) (then (s.expression x) (literal-short (ascii "}") refl)))
          (omega arith))
          (sum (then (literal-short (ascii "{ ") refl) (then (s.expression x) (literal-short (ascii " }") refl)))
          (omega arith)))

      expression-on : (x : Node) → Short (suc (length x.inner)) (3 * length x.inner + 3) (expression source (suc n) x)
      unfolding expression
      expression-on x = let l = total-nodes x.inner in
          either (eqb x.kind Kind.select) (fits (s.select (nodes x.inner)) (omega arith) (omega arith))
          (fits (s.inline x) (omega arith) (omega arith))

      select-on : (xs : List Node) → Short (suc (total xs)) (3 * total xs) (select source (suc n) xs)
      unfolding select
      select-on [] = none
      select-on (x ∷ vs) =
          let body : Short (total (x ∷ vs)) (3 * total vs) (each (λ v. variant source n v ⊕ newline) vs) =
          each-short (total vs) vs (omega arith)
          (λ v l. sum (then (under (s.variant v) (omega arith)) newline-short) (omega arith)) in
          sum
          (then (under (s.inline x) (omega arith))
          (then (literal-short (ascii " ->") refl) (then newline-short (indented-short body))))
          (omega arith)

      variant-on : (v : Node) → Short (length v.inner) (3 * length v.inner + 4) (variant source (suc n) v)
      unfolding variant
      variant-on v =
          sum
          (then (if-short (eqb v.kind Kind.default_variant) star-short)
          (then (literal-short (ascii "[") refl)
          (then (first-name (nodes v.inner))
          (then (literal-short (ascii "]") refl) (first-pattern v.inner)))))
          (omega arith)

      inline-on : (x : Node) → Short (length x.inner) (3 * length x.inner + 3) (inline source (suc n) x)
      unfolding inline
      inline-on x =
          let ms = x.inner in
          let args : Short (length ms) (3 * total (of_kind source (λ j. eqb j Kind.arguments) (nodes ms)))
          (each (λ a. arguments source n (nodes a.inner))
          (of_kind source (λ j. eqb j Kind.arguments) (nodes ms))) =
          each-short (length ms) (of_kind source (λ j. eqb j Kind.arguments) (nodes ms))
          (total-of_kind source (λ j. eqb j Kind.arguments) ms)
          (λ a l. let t = total-nodes a.inner in
          fits (s.arguments (nodes a.inner)) (omega arith) (omega arith)) in
          either (eqb x.kind Kind.string)
          (sum (then (literal-short (ascii "\"") refl) (then (name-short x) (literal-short (ascii "\"") refl)))
          (omega arith))
          (either (eqb x.kind Kind.number) (sum (name-short x) (omega arith))
          (either (eqb x.kind Kind.placeable)
          (sum (then (literal-short (ascii "{") refl) (then (first-expression ms) (literal-short (ascii "}") refl)))
          (omega arith))
          (sum
          (then (if-short (eqb x.kind Kind.variable) (literal-short (ascii "$") refl))
          (then (if-short (eqb x.kind Kind.term_reference) (literal-short (ascii "-") refl))
          (then (reference-short (of_kind source (λ j. eqb j Kind.identifier) (nodes ms))) args)))
          (omega (arith, two-kinds Kind.identifier Kind.arguments refl (nodes ms), total-nodes ms)))))

      arguments-on : (xs : List Node) → Short (total xs) (3 * total xs + 2) (arguments source (suc n) xs)
      unfolding arguments
      arguments-on xs =
          sum (then (literal-short (ascii "(") refl) (then (s.separated false xs) (literal-short (ascii ")") refl)))
          (omega arith)

      separated-on : (written : Bool) (xs : List Node) → Short (total xs) (3 * total xs) (separated source (suc n) written xs)
      unfolding separated
      separated-on written [] = none
      separated-on written (a ∷ rest) =
          sum
          (then (if-short written (literal-short (ascii ", ") refl))
          (then (under (s.argument a) (omega arith)) (under (s.separated true rest) (omega arith))))
          (omega arith)

      argument-on : (a : Node) → Short (length a.inner) (3 * length a.inner + 3) (argument source (suc n) a)
      unfolding argument
      argument-on a = let l = total-nodes a.inner in
          either (eqb a.kind Kind.named_argument)
          (fits (s.named_argument (nodes a.inner)) (omega arith) (omega arith)) (s.inline a)

      named_argument-on : (xs : List Node) → Short (total xs) (3 * total xs) (named_argument source (suc n) xs)
      unfolding named_argument
      named_argument-on [] = none
      named_argument-on (i ∷ xs) =
          let value : Short (total (i ∷ xs)) (3 * total xs) (first source (λ z. inline source n z) xs) =
          first_short (total xs) xs (omega arith) (λ z l. fits (s.inline z) (omega arith) (omega arith)) in
          sum (then (name-short i) (then (literal-short (ascii ": ") refl) value)) (omega arith)

      shorts-on : Shorts (suc n)
      shorts-on = record {
        pattern = pattern-on;
        element = element-on;
        in_braces = in_braces-on;
        expression = expression-on;
        select = select-on;
        variant = variant-on;
        inline = inline-on;
        arguments = arguments-on;
        separated = separated-on;
        argument = argument-on;
        named_argument = named_argument-on;
      }

    shorts : (n : ℕ) → Shorts n
    unfolding pattern
    shorts zero = record {
      pattern = λ ms. none;
      element = λ e. none;
      in_braces = λ x. none;
      expression = λ x. none;
      select = λ xs. none;
      variant = λ v. none;
      inline = λ x. none;
      arguments = λ xs. none;
      separated = λ w xs. none;
      argument = λ a. none;
      named_argument = λ xs. none;
    }
    shorts (suc n) = shorts-on n (shorts n)

    attribute-short : (a : Node) → Short (length a.inner) (3 * length a.inner + 4) (attribute source a)
    unfolding attribute
    attribute-short a =
        let ms = a.inner in
        sum
        (then newline-short
        (then (literal-short (ascii ".") refl)
        (then (first-name (nodes ms))
        (then (literal-short (ascii " =") refl) (first-pattern (length ms) (shorts (length ms)) ms)))))
        (omega arith)

    attributes-short : (k : ℕ) (ns : List Node) → total ns ≤ k → Short (suc k) (3 * total ns) (attributes source ns)
    unfolding attributes
    attributes-short k ns l =
        either (is_empty source ns) none
        (indented-short (each-short k ns l (λ a g. fits (attribute-short a) (omega arith) (omega arith))))

    message-short : (ms : List Mark) → Short (suc (length ms)) (3 * length ms + 3) (message source ms)
    unfolding message
    message-short ms =
        let k = length ms in
        let ps = of_kind source (λ k. eqb k Kind.pattern) (nodes ms) in
        let rest = of_kind source (λ k. eqb k Kind.attribute) (nodes ms) in
        let value : Short (suc k) (3 * total ps) (each (λ p. pattern source (length ms) p.inner) ps) =
        each-short k ps (total-of_kind source (λ k. eqb k Kind.pattern) ms)
        (λ p l. fits ((shorts k).pattern p.inner) (omega arith) (omega arith)) in
        sum
        (then (first-name (nodes ms))
        (then (literal-short (ascii " =") refl)
        (then value
        (then (attributes-short k rest (total-of_kind source (λ k. eqb k Kind.attribute) ms)) newline-short))))
        (omega (arith, two-kinds Kind.pattern Kind.attribute refl (nodes ms), total-nodes ms))

    comment-short : {marks : ℕ} (prefix : List ℕ) (ms : List Mark) → leb (length prefix) 3 ≡ true
        → Short marks (3 * length ms) (comment source prefix ms)
    unfolding comment comment_line
    comment-short prefix ms q =
        let l = total-nodes ms in
        sum
        (each-short (length ms) (nodes ms) l
        (λ n g. sum
        (then (literal-short prefix q)
        (then
        (if-short (not (blank_line source (text_of source n)))
        (then (literal-short (ascii " ") refl) (text_of-short n))) newline-short))
        (omega arith)))
        (omega arith)

    free-short : {marks : ℕ} (wrote : Bool) (prefix : List ℕ) (ms : List Mark) → leb (length prefix) 3 ≡ true
        → Short marks (3 * length ms + 2) (free_comment source wrote prefix ms)
    unfolding free_comment
    free-short wrote prefix ms q = sum (then (if-short wrote newline-short) (then (comment-short prefix ms q) newline-short)) (omega arith)

    entry-short : (junk wrote : Bool) (e : Node) → Short (suc (length e.inner)) (3 * (length e.inner + 2)) (entry source junk wrote e)
    unfolding entry
    entry-short junk wrote e =
        let ms = e.inner in
        either (eqb e.kind Kind.junk) (sum (if-short junk (text_of-short e)) (omega arith))
        (either (eqb e.kind Kind.attached_comment) (sum (comment-short (ascii "#") ms refl) (omega arith))
        (either (eqb e.kind Kind.comment) (sum (free-short wrote (ascii "#") ms refl) (omega arith))
        (either (eqb e.kind Kind.group_comment) (sum (free-short wrote (ascii "##") ms refl) (omega arith))
        (either (eqb e.kind Kind.resource_comment) (sum (free-short wrote (ascii "###") ms refl) (omega arith))
        (sum (then (if-short (eqb e.kind Kind.term) (literal-short (ascii "-") refl)) (message-short ms)) (omega arith))))))

    resource-short : (junk wrote : Bool) (ns : List Node) → Short (total ns) (3 * total ns) (resource source junk wrote ns)
    unfolding resource
    resource-short junk wrote [] = none
    resource-short junk wrote (e ∷ es) =
        sum
        (then (under (entry-short junk wrote e) (omega arith))
        (under (resource-short junk (wrote_by source wrote e.kind) es) (omega arith)))
        (omega arith)

pub text-short : (source : List ℕ) (junk : Bool) (ms : List Mark) → length source ≤ max_length
    → length ms ≤ tree_capacity max_length → length (serialize source junk ms) < 2 ^ 63
unfolding serialize
text-short source junk ms h l =
    omega
    (arith, total-nodes ms, (resource-short source h junk false (nodes ms)).within 0 0 (omega (arith, total-nodes ms)))
