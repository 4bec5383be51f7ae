-- Messages, terms and attributes: their children, and the pieces of their parts.
use Prim.Native.Nat.{ℕ, ◌+◌, ◌≤◌}
use native.Mathlib.Omega.{arith}
use mathlib.Core.Path.{◌≡◌, refl, sym, ap, ◌∙◌}
use mathlib.Core.Bool.{Bool, true}
use mathlib.Core.List.{List, [], ◌∷◌, map}
use lib.Dec.{eqb}
use lib.ListN.{length}
use Rattle.utf8.specs.Utf8.{is_boundary}
use Rattle.syntax.specs.Kind as Kind
use Rattle.syntax.specs.Bytes.{ascii}
use Rattle.syntax.specs.Layout.{marks_in}
use Rattle.syntax.specs.Marks.{Mark}
use Rattle.syntax.specs.Shape.{named, among}
use Rattle.syntax.specs.Serializer.{Node, nodes_from, nodes, ◌⊕◌, empty, literal, newline, indented, each, first}
use Rattle.syntax.specs.Serializer.{is_empty, of_kind, name, attribute, attributes}
use Rattle.laws.specs.Text.{attribute-is, message-is}
use Rattle.serializer.specs.Writer.{Place, Wrote}
use Rattle.tree.specs.Walk.{kind_at, node_at, after, inner_at, OneAt, Inside}
use Rattle.serializer.specs.Serialize.{State, pattern_in, raise, lower, Ready, Done}
use Rattle.serializer.specs.Message.{naming, values, message_in, term_in, ReadyFor, Valued}
use Rattle.serializer.proofs.Pieces.{Row, two, then-assoc, then-empty, Going, going, room-first, going_on, gone}
use Rattle.serializer.proofs.Pieces.{room_within, wrote-within}
use Rattle.tree.proofs.Walk.{Next, ends, goes, next, at-kind, node-kind}
use Rattle.serializer.proofs.Comments.{each_row}
use Rattle.tree.proofs.Children.{only, keeps, omits}
use Rattle.tree.proofs.Contents.{Pair, attribute-pair}
use Rattle.tree.proofs.Messages.{text-other, second, third, attributes-only, no_value, Head}

pub naming-row : (source : List ℕ) (n : Node) → Row (naming source n) (name source n ∷ literal (ascii " =") ∷ [])
unfolding naming
naming-row source n = two (name source n) (literal (ascii " ="))

-- an attribute
pub attribute-row : {boundary : ℕ → Bool} {ms : List Mark} {i : ℕ} (source : List ℕ) → Pair boundary ms i (Kind.pattern ∷ [])
    → Row (attribute source (node_at ms i))
    (newline ∷ literal (ascii ".") ∷ naming source (node_at ms (i + 1)) ∷ pattern_in source (node_at ms (i + 3)) ∷ [])
unfolding Kind.is_text naming first of_kind
attribute-row {ms = ms} {i} source p =
    let x = node_at ms (i + 1) in
    let y = node_at ms (i + 3) in
    let n = name source x in
    let e = literal (ascii " =") in
    let v = pattern_in source y in
    let ps : of_kind source (λ k. eqb k Kind.pattern) (x ∷ y ∷ []) ≡ y ∷ [] =
    omits source Kind.pattern x (y ∷ []) (text-other Kind.pattern p.key refl)
    ∙ keeps source Kind.pattern y [] (node-kind p.value.at ∙ only p.value)
    in
    record {
      same =
          attribute-is source (node_at ms i)
          ∙ rw (p.both, ps)
          (ap (λ z. newline ⊕ literal (ascii ".") ⊕ z)
          (sym (then-assoc n e v) ∙ ap (λ z. (n ⊕ e) ⊕ z) (sym (then-empty v))));
    }

pub attribute-parts : {boundary : ℕ → Bool} {ms : List Mark} {i : ℕ} → OneAt boundary (Kind.attribute ∷ []) ms i
    → Pair boundary ms i (Kind.pattern ∷ [])
attribute-parts a = attribute-pair (rw (only a) at a.at)

module _ (source tree : List ℕ) {i : ℕ} (k : ℕ) (one : among k named ≡ true) (h : Inside (is_boundary source) (marks_in tree) i k 1) where
  abbrev ms : List Mark
  ms = marks_in tree

  pub unvalued : (kind_at ms i ≡ Kind.pattern → ⊥) → Valued source tree i i
  unvalued other = let n = no_value k one h other in
      record {
        kind = k;
        one = one;
        here = n;
        left = (attributes-only k one source n).1;
        till = refl;
        later = omega arith;
      }

  pub no-values : (kind_at ms i ≡ Kind.pattern → ⊥) → values source (nodes (inner_at ms i)) ≡ empty
  unfolding values each
  no-values other = rw ((attributes-only k one source (no_value k one h other)).0, values)

  pub record Value : Type 0 where
    pub there : OneAt (is_boundary source) (Kind.pattern ∷ []) ms i
    pub same : values source (nodes (inner_at ms i)) ≡ pattern_in source (node_at ms i)
    pub on : Valued source tree i (after ms i)

  pub value : kind_at ms i ≡ Kind.pattern → Value
  unfolding among values each after
  value e = go (next h)
    where
      go : Next (is_boundary source) ms i k 1 → Value
      go (ends c z f) = absurd (omega arith)
      go (goes j r s a o ns l) =
          let p : j ≡ Kind.pattern = sym (at-kind a) ∙ e in
          let n = node-kind a ∙ p in
          let o₂ : Inside (is_boundary source) ms (after ms i) k 2 = rw (second k one j r s).1 at o in
          let b = attributes-only k one source o₂ in
          record {
            there = record { kind = j; one = rw p; at = a };
            same =
                rw (ns, values, keeps source Kind.pattern (node_at ms i) (nodes (inner_at ms (after ms i))) n, b.0)
                (then-empty (pattern_in source (node_at ms i)));
            on = record {
              kind = k;
              one = one;
              here = o₂;
              left = rw ns (omits source Kind.attribute (node_at ms i) (nodes (inner_at ms (after ms i))) (λ z. omega (arith, n)) ∙ b.1);
              till = sym l;
              later = omega arith;
            };
          }

-- a message, or a term after its dash
pub message-row : {boundary : ℕ → Bool} {ms : List Mark} {i : ℕ} (source : List ℕ) → Head boundary ms i
    → Row (message_in source (node_at ms i))
    (naming source (node_at ms (i + 1)) ∷ values source (nodes (inner_at ms (i + 3)))
    ∷ attributes source (of_kind source (λ k. eqb k Kind.attribute) (nodes (inner_at ms (i + 3)))) ∷ newline ∷ [])
unfolding Kind.is_text naming values first
message-row {ms = ms} {i} source h =
    let ns = nodes (inner_at ms (i + 3)) in
    let x = node_at ms (i + 1) in
    let n = name source x in
    let e = literal (ascii " =") in
    let v = each (pattern_in source) (of_kind source (λ k. eqb k Kind.pattern) ns) in
    let rest = attributes source (of_kind source (λ k. eqb k Kind.attribute) ns) in
    record {
      same =
          message-is source (node_at ms i).inner
          ∙ rw (
            h.split,
            omits source Kind.pattern x ns (text-other Kind.pattern h.key refl),
            omits source Kind.attribute x ns (text-other Kind.attribute h.key refl),
          )
          (sym (then-assoc n e (v ⊕ rest ⊕ newline)) ∙ ap (λ z. (n ⊕ e) ⊕ v ⊕ rest ⊕ z) (sym (then-empty newline)));
    }

-- a term, as a dash and a message
pub term-row : (source : List ℕ) (n : Node) → Row (term_in source n) (literal (ascii "-") ∷ message_in source n ∷ [])
unfolding term_in
term-row source n = two (literal (ascii "-")) (message_in source n)

pub term-named : {boundary : ℕ → Bool} {ms : List Mark} {i : ℕ} → OneAt boundary (Kind.term ∷ []) ms i → OneAt boundary named ms i
unfolding among
term-named a = record { kind = a.kind; one = rw (only a); at = a.at }

-- The attributes of a message or term, one after another.
attributes-each : (source : List ℕ) (ns : List Node) → attributes source ns ≡ indented (each (attribute source) ns)
unfolding attributes is_empty indented each empty
attributes-each source [] = refl
attributes-each source (n ∷ ns) = refl

module _ (source tree : List ℕ) where
  -- in the loop, m₀ being the mark of the first
  pub record Attributes (o₀ o : List ℕ) (w₀ : Place) (m₀ : ℕ) (s : State) : Type 0 where
    pub kind : ℕ
    pub one : among kind named ≡ true
    pub here : Inside (is_boundary source) (marks_in tree) s.mark kind 2
    pub shallow : s.writer.indent ≤ s.mark
    pub way : Going o₀ o w₀ s.writer (each (attribute source) (nodes (inner_at (marks_in tree) m₀)))
        (map (attribute source) (nodes (inner_at (marks_in tree) s.mark)))
    pub till : s.mark + length (inner_at (marks_in tree) s.mark) ≡ m₀ + length (inner_at (marks_in tree) m₀)

  pub attributes-first : (o : List ℕ) (s : State) → ReadyFor source tree s 2 (attributes source)
      → Attributes o o (raise true s.writer) s.mark (record { writer = raise true s.writer; mark = s.mark })
  attributes-first o s h =
      let ns = nodes (inner_at (marks_in tree) s.mark) in
      record {
        kind = h.kind;
        one = h.one;
        here = h.here;
        shallow = h.shallow;
        way =
            going o (raise true s.writer) (record { same = each_row (attribute source) ns })
            (room_within true s.writer (each (attribute source) ns) (rw (attributes-each source ns) at h.room));
        till = refl;
      }

  module _ {o₀ o : List ℕ} {w₀ : Place} {m₀ : ℕ} {s : State} (h : Attributes o₀ o w₀ m₀ s) where
    -- one more
    pub record AttributeNext : Type 0 where
      pub ready : Ready source tree s (Kind.attribute ∷ []) (attribute source)
      pub on : (o' : List ℕ) (s' : State) → Done tree o o' s s' (attribute source) → Attributes o₀ o' w₀ m₀ s'

    pub attribute-next : kind_at (marks_in tree) s.mark ≡ Kind.attribute → AttributeNext
    unfolding among after
    attribute-next e = go (next h.here)
      where
        ms : List Mark
        ms = marks_in tree

        go : Next (is_boundary source) ms s.mark h.kind 2 → AttributeNext
        go (ends c z f) = absurd (omega arith)
        go (goes j r t a n ns l) =
            let g : Going o₀ o w₀ s.writer (each (attribute source) (nodes (inner_at ms m₀)))
            (attribute source (node_at ms s.mark)
            ∷ map (attribute source) (nodes (inner_at ms (after ms s.mark)))) =
            rw ns at h.way in
            let n₂ : Inside (is_boundary source) ms (after ms s.mark) h.kind 2 = rw (third h.kind h.one j r t).1 at n in
            record {
              ready =
                  record {
                    node = record { kind = j; one = rw (sym (at-kind a) ∙ e); at = a };
                    shallow = h.shallow;
                    room = room-first g;
                  };
              on = λ o' s' d.
                  record {
                    kind = h.kind;
                    one = h.one;
                    here = rw d.next n₂;
                    shallow = omega (arith, h.shallow, d.next, d.wrote.level);
                    way = rw d.next (going_on g d.wrote);
                    till = omega (arith, h.till, l, d.next, ap (λ m. length (inner_at ms m)) d.next);
                  };
            }

    -- no more
    pub record AttributesDone : Type 0 where
      pub wrote : Wrote o₀ o w₀ s.writer (each (attribute source) (nodes (inner_at (marks_in tree) m₀)))
      pub end : s.mark ≡ m₀ + length (inner_at (marks_in tree) m₀)

    pub attributes-done : (kind_at (marks_in tree) s.mark ≡ Kind.attribute → ⊥) → AttributesDone
    unfolding nodes nodes_from
    attributes-done e = go (next h.here)
      where
        go : Next (is_boundary source) (marks_in tree) s.mark h.kind 2 → AttributesDone
        go (ends c z f) = record { wrote = gone (rw z at h.way); end = omega (arith, h.till, ap length z) }
        go (goes j r t a n ns l) = absurd (e (at-kind a ∙ (third h.kind h.one j r t).0))

  pub attributes-wrote : {o₀ o : List ℕ} {w w' : Place} (m : ℕ)
      → Wrote o₀ o (raise true w) w' (each (attribute source) (nodes (inner_at (marks_in tree) m)))
      → Wrote o₀ o w (lower true w') (attributes source (nodes (inner_at (marks_in tree) m)))
  attributes-wrote {w = w} m h = let ns = nodes (inner_at (marks_in tree) m) in
      rw (attributes-each source ns) (wrote-within true w (each (attribute source) ns) h)
