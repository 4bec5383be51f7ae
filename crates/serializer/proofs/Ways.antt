-- A serializer on its way through a row of pieces.
use Rattle.std.proofs.Common.{ℕ, ◌+◌, ◌≤◌, ◌<◌, ◌≡◌, refl, sym, ap, ◌∙◌, subst, arith, true, List, [], ◌∷◌, ◌++◌}
use Rattle.utf8.specs.Utf8.{is_boundary}
use Rattle.syntax.specs.Layout.{count, marks_in}
use Rattle.syntax.specs.Serializer.{Node, nodes, Piece, empty, name}
use Rattle.syntax.specs.Shape.{named, among}
use Rattle.serializer.specs.declared.serializer.Serializer.{Serializer}
use Rattle.serializer.specs.declared.writer.TextWriter.{TextWriter}
use Rattle.serializer.specs.Writer.{place_of, Room, HasWritten}
use Rattle.serializer.specs.Serialize.{output_of, IsReady, DidGo, DidNode}
use Rattle.serializer.specs.Message.{IsReadyFor}
use Rattle.tree.specs.Walk.{kind_at, node_at, after, inner_at, OneAt, TextAt, Inside}
use Rattle.tree.proofs.Walk.{text-after}
use Rattle.serializer.proofs.Pieces.{Row, Going, going, going-as, room-first, going_on, gone, wrote_nothing}

-- A writer on its way: with the rest written, the whole is.
pub record Writing (o₀ o : List ℕ) (w₀ w : TextWriter) (whole : Piece) (rest : List Piece) : Type 0 where
  pub pieces : Going o₀ o (place_of w₀) (place_of w) whole rest

pub writing : {whole : Piece} {rest : List Piece} (o : List ℕ) (w : TextWriter) → Row whole rest → Room (place_of w) whole
    → Writing o o w w whole rest
writing o w e r = record { pieces = going o (place_of w) e r }

pub writes_on : {o₀ o o' : List ℕ} {w₀ w w' : TextWriter} {whole p : Piece} {rest : List Piece} → Writing o₀ o w₀ w whole (p ∷ rest)
    → HasWritten o o' w w' p → Writing o₀ o' w₀ w' whole rest
writes_on g h = record { pieces = going_on g.pieces h.wrote }

pub written : {o₀ o : List ℕ} {w₀ w : TextWriter} {whole : Piece} → Writing o₀ o w₀ w whole [] → HasWritten o₀ o w₀ w whole
written g = record { wrote = gone g.pieces }

-- A serializer that stays where it is, and one whose writer went on.
pub stays : {s : Serializer} {m : ℕ} → s.mark ≡ m → DidGo s s empty m
stays {s} e =
    record {
      same_reference = refl;
      went = record { wrote = wrote_nothing; next = e };
      is = ap (λ k. record s { mark = k }) e;
    }

pub wrote-on : {s : Serializer} {o' : List ℕ} {w' : TextWriter} {p : Piece} {m : ℕ} → HasWritten (output_of s) o' s.writer w' p
    → DidGo s (record s { output = record s.output { now = o' }; writer = w'; mark = m }) p m
wrote-on h = record { same_reference = refl; went = record { wrote = h.wrote; next = refl }; is = refl }

-- From s₀ to s and the mark m, with the rest left to write.
pub record Way (s₀ s : Serializer) (whole : Piece) (rest : List Piece) (m : ℕ) : Type 0 where
  pub same_reference : s.output.ghost_name ≡ s₀.output.ghost_name
  pub level : s.writer.indent_level ≡ s₀.writer.indent_level
  pub pieces : Going (output_of s₀) (output_of s) (place_of s₀.writer) (place_of s.writer) whole rest
  pub is : s ≡ (record s₀ { output = s.output; writer = s.writer; mark = m })

pub way : {whole : Piece} {rest : List Piece} (s : Serializer) → Row whole rest → Room (place_of s.writer) whole → Way s s whole rest s.mark
way s e r = record { same_reference = refl; level = refl; pieces = going (output_of s) (place_of s.writer) e r; is = refl }

module _ {s₀ s : Serializer} {whole : Piece} {m : ℕ} where
  -- past some marks
  pub moves : {rest : List Piece} (k : ℕ) → Way s₀ s whole rest m → Way s₀ (record s { mark = s.mark + k }) whole rest (m + k)
  moves k w =
      let f : Serializer → Serializer = λ z. record z { output = s.output; writer = s.writer; mark = z.mark + k } in
      record {
        same_reference = w.same_reference;
        level = w.level;
        pieces = w.pieces;
        is = ap f w.is;
      }

  -- the next piece, as a row
  pub split : {p : Piece} {qs rest : List Piece} → Row p qs → Way s₀ s whole (p ∷ rest) m → Way s₀ s whole (qs ++ rest) m
  split e w = record { same_reference = w.same_reference; level = w.level; pieces = going-as e w.pieces; is = w.is }

  -- the mark is there
  pub kind-ready : {rest : List Piece} → Way s₀ s whole rest m → m < count s₀.nodes.tree.now → s.mark < count s.nodes.tree.now
  kind-ready w l = omega (arith, ap (λ z. z.mark) w.is, ap (λ z. count z.nodes.tree.now) w.is, l)

  pub kind-is : {rest : List Piece} → Way s₀ s whole rest m → kind_at (marks_in s.nodes.tree.now) s.mark ≡ kind_at (marks_in s₀.nodes.tree.now) m
  kind-is w = ap (λ z. kind_at (marks_in z.nodes.tree.now) z.mark) w.is

  -- all is written
  pub done : Way s₀ s whole [] m → {n : ℕ} → m ≡ n → DidGo s₀ s whole n
  done w e =
      record {
        same_reference = w.same_reference;
        went = record { wrote = gone w.pieces; next = ap (λ z. z.mark) w.is ∙ e };
        is = w.is ∙ ap (λ n. record s₀ { output = s.output; writer = s.writer; mark = n }) e;
      }

  module _ {p : Piece} {rest : List Piece} (w : Way s₀ s whole (p ∷ rest) m) where
    pub room : Room (place_of s.writer) p
    room = room-first w.pieces

    -- the writer wrote the next piece
    pub writes : {o' : List ℕ} {w' : TextWriter} → HasWritten (output_of s) o' s.writer w' p
        → Way s₀ (record s { output = record s.output { now = o' }; writer = w' }) whole rest m
    writes {o'} {w'} h =
        let f : Serializer → Serializer = λ z. record z { output = record s.output { now = o' }; writer = w' } in
        record {
          same_reference = w.same_reference;
          level = h.wrote.level ∙ w.level;
          pieces = going_on w.pieces h.wrote;
          is = ap f w.is;
        }

    -- or the serializer did
    pub goes : {s' : Serializer} {q : Piece} {n n' : ℕ} → q ≡ p → n ≡ n' → DidGo s s' q n → Way s₀ s' whole rest n'
    goes {s'} {n = n} e f d =
        let g : Serializer → Serializer = λ z. record z { output = s'.output; writer = s'.writer; mark = n } in
        record {
          same_reference = d.same_reference ∙ w.same_reference;
          level = d.went.wrote.level ∙ w.level;
          pieces = going_on w.pieces (rw e at d.went.wrote);
          is = d.is ∙ ap g w.is ∙ ap (λ k. record s₀ { output = s'.output; writer = s'.writer; mark = k }) f;
        }

-- a node is next, whose piece is F of the source and of it
module _ {s₀ s : Serializer} {whole : Piece} {rest : List Piece} {m : ℕ} (F : List ℕ → Node → Piece)
    (w : Way s₀ s whole (F s₀.nodes.source.now (node_at (marks_in s₀.nodes.tree.now) m) ∷ rest) m) where
  abbrev of : Serializer → Piece
  of z = F z.nodes.source.now (node_at (marks_in z.nodes.tree.now) z.mark)

  node-room : Room (place_of s.writer) (of s)
  node-room =
      let P : Serializer → Type 0 = λ z. Room (place_of s.writer) (F z.nodes.source.now (node_at (marks_in z.nodes.tree.now) z.mark)) in
      subst P (sym w.is) (room w)

  pub ready : {ks : List ℕ} → OneAt (is_boundary s₀.nodes.source.now) ks (marks_in s₀.nodes.tree.now) m
      → s₀.writer.indent_level ≤ m → IsReady s ks (F s.nodes.source.now)
  ready {ks} node shallow =
      let P : Serializer → Type 0 = λ z. OneAt (is_boundary z.nodes.source.now) ks (marks_in z.nodes.tree.now) z.mark in
      record {
        node = subst P (sym w.is) node;
        shallow = omega (arith, w.level, ap (λ z. z.mark) w.is, shallow);
        room = node-room;
      }

  pub writes_node : {s' : Serializer} {n : ℕ} → after (marks_in s₀.nodes.tree.now) m ≡ n → DidNode s s' (F s.nodes.source.now) → Way s₀ s' whole rest n
  writes_node e d =
      goes w (ap (λ z. F z.nodes.source.now (node_at (marks_in z.nodes.tree.now) z.mark)) w.is)
      (ap (λ z. after (marks_in z.nodes.tree.now) z.mark) w.is ∙ e) d

-- a message or term is open, and a part of its children is next, whose piece is G of the source and of them
module _ {s₀ s : Serializer} {whole : Piece} {rest : List Piece} {m : ℕ} (G : List ℕ → List Node → Piece)
    (w : Way s₀ s whole (G s₀.nodes.source.now (nodes (inner_at (marks_in s₀.nodes.tree.now) m)) ∷ rest) m) where
  pub ready-for : {q : ℕ} → (k : ℕ) → among k named ≡ true
      → Inside (is_boundary s₀.nodes.source.now) (marks_in s₀.nodes.tree.now) m k q → s₀.writer.indent_level + 1 ≤ m
      → IsReadyFor s q (G s.nodes.source.now)
  ready-for {q} k one here shallow =
      let P : Serializer → Type 0 = λ z. Inside (is_boundary z.nodes.source.now) (marks_in z.nodes.tree.now) z.mark k q in
      let Q : Serializer → Type 0 =
      λ z. Room (place_of s.writer) (G z.nodes.source.now (nodes (inner_at (marks_in z.nodes.tree.now) z.mark))) in
      record {
        kind = k;
        one = one;
        here = subst P (sym w.is) here;
        shallow = omega (arith, w.level, ap (λ z. z.mark) w.is, shallow);
        room = subst Q (sym w.is) (room w);
      }

  pub writes_in : {s' : Serializer} {n n' : ℕ} → n ≡ n'
      → DidGo s s' (G s.nodes.source.now (nodes (inner_at (marks_in s.nodes.tree.now) s.mark))) n → Way s₀ s' whole rest n'
  writes_in e d = goes w (ap (λ z. G z.nodes.source.now (nodes (inner_at (marks_in z.nodes.tree.now) z.mark))) w.is) e d

-- a text is next
pub record TextReady (s : Serializer) : Type 0 where
  pub text_at : TextAt (is_boundary s.nodes.source.now) (marks_in s.nodes.tree.now) s.mark
  pub room : Room (place_of s.writer) (name s.nodes.source.now (node_at (marks_in s.nodes.tree.now) s.mark))

module _ {s₀ s : Serializer} {whole : Piece} {rest : List Piece} {m : ℕ}
    (w : Way s₀ s whole (name s₀.nodes.source.now (node_at (marks_in s₀.nodes.tree.now) m) ∷ rest) m)
    (t : TextAt (is_boundary s₀.nodes.source.now) (marks_in s₀.nodes.tree.now) m) where
  pub text : TextReady s
  text =
      let P : Serializer → Type 0 = λ z. TextAt (is_boundary z.nodes.source.now) (marks_in z.nodes.tree.now) z.mark in
      record { text_at = subst P (sym w.is) t; room = node-room name w }

  pub writes_text : {s' : Serializer} → DidNode s s' (name s.nodes.source.now) → Way s₀ s' whole rest (m + 2)
  writes_text d = writes_node name w (text-after t.at t.is_text) d
