-- Loops of a serializer over the children of a node that is open.
use Rattle.std.proofs.Common.{ℕ, ◌+◌, ◌<◌, ◌≤◌, ◌≡◌, refl, sym, ap, ◌∙◌, subst, arith, true, List, [], ◌∷◌, length}
use Rattle.utf8.specs.Utf8.{is_boundary}
use Rattle.syntax.specs.Kind as Kind
use Rattle.syntax.specs.Layout.{count, marks_in}
use Rattle.syntax.specs.Serializer.{Node, nodes, Piece, ◌⊕◌, empty, indented, text_of, comment}
use Rattle.serializer.specs.declared.serializer.Serializer.{Serializer}
use Rattle.serializer.specs.declared.writer.TextWriter.{TextWriter}
use Rattle.serializer.specs.Writer.{place_of, Room, Wrote, HasWritten}
use Rattle.serializer.specs.Serialize.{state_of, output_of, raise, lower, Ready, Went, Done, ReadyIn, IsReady, DidGo, DidNode}
use Rattle.serializer.specs.Comment.{CommentAt, line_of}
use Rattle.tree.specs.Walk.{kind_at, node_at, after, inner_at, Open, TextAt}
use Rattle.tree.proofs.Children.{Has}
use Rattle.serializer.proofs.Pieces.{room_within, wrote-within, going_on}
use Rattle.serializer.proofs.Rows.{Rows, rows-first, rows-count, rows-turn, rows-done}
use Rattle.serializer.proofs.Comments.{Lines, lines-turn, lines-done}
use Rattle.serializer.proofs.Ways.{Way, room}

-- On the way from s₀ to s only the writer, with its slice, and the mark have changed.
pub record Carried (s₀ s : Serializer) : Type 0 where
  pub same_reference : s.output.ghost_name ≡ s₀.output.ghost_name
  pub is : s ≡ (record s₀ { output = s.output; writer = s.writer; mark = s.mark })

module _ {s₀ s : Serializer} (a : Carried s₀ s) where
  pub carried-count : count s.nodes.tree.now ≡ count s₀.nodes.tree.now
  carried-count = ap (λ z. count z.nodes.tree.now) a.is

  pub carried-kind : kind_at (marks_in s.nodes.tree.now) s.mark ≡ kind_at (marks_in s₀.nodes.tree.now) s.mark
  carried-kind = ap (λ z. kind_at (marks_in z.nodes.tree.now) s.mark) a.is

  pub carried-mark : s.mark < count s₀.nodes.tree.now → s.mark < count s.nodes.tree.now
  carried-mark l = omega (arith, l, carried-count)

  pub carried-ready : (js : List ℕ) (F : List ℕ → Node → Piece)
      → Ready s₀.nodes.source.now s₀.nodes.tree.now (state_of s) js (F s₀.nodes.source.now) → IsReady s js (F s.nodes.source.now)
  carried-ready js F h =
      let P : Serializer → Type 0 = λ z. Ready z.nodes.source.now z.nodes.tree.now (state_of s) js (F z.nodes.source.now) in subst P (sym a.is) h

  module _ {s' : Serializer} where
    pub carried-did : (F : List ℕ → Node → Piece) → DidNode s s' (F s.nodes.source.now)
        → Done s₀.nodes.tree.now (output_of s) (output_of s') (state_of s) (state_of s') (F s₀.nodes.source.now)
    carried-did F d =
        let P : Serializer → Type 0 =
        λ z. Went (output_of s) (output_of s') (state_of s) (state_of s') (F z.nodes.source.now (node_at (marks_in z.nodes.tree.now) s.mark))
        (after (marks_in z.nodes.tree.now) s.mark) in
        subst P a.is d.went

    pub carried-on : {p : Piece} {n : ℕ} → DidGo s s' p n → Carried s₀ s'
    carried-on {n = n} d =
        let f : Serializer → Serializer = λ z. record z { output = s'.output; writer = s'.writer; mark = n } in
        record {
          same_reference = d.same_reference ∙ a.same_reference;
          is = d.is ∙ ap f a.is ∙ ap (λ j. record s₀ { output = s'.output; writer = s'.writer; mark = j }) (sym d.went.next);
        }

-- the same marks, with another piece of the same bytes
pub did_as : {s s' : Serializer} {p q : Piece} {m : ℕ} → DidGo s s' p m
    → Went (output_of s) (output_of s') (state_of s) (state_of s') q m → DidGo s s' q m
did_as d w = record { same_reference = d.same_reference; went = w; is = d.is }

-- From s₀ to s, with the children that are left written, which is P of them, the whole is.
pub record Loop (k q : ℕ) (whole : Piece) (P : List Node → Piece) (s₀ s : Serializer) : Type 0 where
  pub carried : Carried s₀ s
  pub rows : Rows s₀.nodes.source.now s₀.nodes.tree.now k q whole P (output_of s₀) (output_of s) (state_of s₀) (state_of s)

-- a child is next, whose piece is F of the source and of it
pub record LoopTurn (k q : ℕ) (js : List ℕ) (whole : Piece) (F : List ℕ → Node → Piece) (Q : List Node → Piece)
    (s₀ s : Serializer) : Type 0 where
  pub ready : IsReady s js (F s.nodes.source.now)
  pub on : (s' : Serializer) → DidNode s s' (F s.nodes.source.now) → Loop k q whole Q s₀ s'

pub loop-first : {k q : ℕ} {P : List Node → Piece} {s : Serializer} → ReadyIn s.nodes.source.now s.nodes.tree.now (state_of s) k q P
    → Loop k q (P (nodes (inner_at (marks_in s.nodes.tree.now) s.mark))) P s s
loop-first {s = s} r =
    record { carried = record { same_reference = refl; is = refl }; rows = rows-first (output_of s) (state_of s) s.nodes.fit r }

module _ {k q : ℕ} {whole : Piece} {P : List Node → Piece} {s₀ s : Serializer} (r : Loop k q whole P s₀ s) where
  pub loop-count : count s.nodes.tree.now ≡ count s₀.nodes.tree.now
  loop-count = carried-count r.carried

  pub loop-ready : s.mark < count s.nodes.tree.now
  loop-ready = carried-mark r.carried (rows-count r.rows)

  pub loop-turn : (js : List ℕ) → Has k q js → (F : List ℕ → Node → Piece) (Q : List Node → Piece)
      → ((n : Node) (ns : List Node) → P (n ∷ ns) ≡ (F s₀.nodes.source.now n ⊕ Q ns))
      → kind_at (marks_in s.nodes.tree.now) s.mark < Kind.closing 0 → LoopTurn k q js whole F Q s₀ s
  loop-turn js h F Q e l =
      let t = rows-turn r.rows js h (F s₀.nodes.source.now) Q e (omega (arith, l, carried-kind r.carried)) in
      record {
        ready = carried-ready r.carried js F t.ready;
        on =
            λ s' d. record {
              carried = carried-on r.carried d;
              rows = t.on (output_of s') (state_of s') (carried-did r.carried F d);
            };
      }

  -- no child is left
  pub loop-done : P [] ≡ empty → Kind.closing 0 ≤ kind_at (marks_in s.nodes.tree.now) s.mark
      → Wrote (output_of s₀) (output_of s) (place_of s₀.writer) (place_of s.writer) whole
      × (s.mark ≡ s₀.mark + length (inner_at (marks_in s₀.nodes.tree.now) s₀.mark))
  loop-done e l = rows-done r.rows e (omega (arith, l, carried-kind r.carried))

-- a loop on the way
pub loop-way : {k q : ℕ} {whole p : Piece} {rest : List Piece} {P : List Node → Piece} {s₀ s₁ s : Serializer} {m : ℕ}
    → Way s₀ s₁ whole (p ∷ rest) m → Loop k q p P s₁ s → P [] ≡ empty → Kind.closing 0 ≤ kind_at (marks_in s.nodes.tree.now) s.mark
    → Way s₀ s whole rest (m + length (inner_at (marks_in s₀.nodes.tree.now) m))
loop-way {s₀ = s₀} {s = s} w r e l =
    let d = loop-done r e l in
    let f : Serializer → Serializer = λ z. record z { output = s.output; writer = s.writer; mark = s.mark } in
    let g : Serializer → ℕ = λ z. z.mark + length (inner_at (marks_in z.nodes.tree.now) z.mark) in
    record {
      same_reference = r.carried.same_reference ∙ w.same_reference;
      level = r.rows.level ∙ w.level;
      pieces = going_on w.pieces d.0;
      is = r.carried.is ∙ ap f w.is ∙ ap (λ j. record s₀ { output = s.output; writer = s.writer; mark = j }) (d.1 ∙ ap g w.is);
    }

-- the serializer s₀ went on to s, whose writer is w' then
pub done-with : {s₀ s : Serializer} {w' : TextWriter} {p : Piece} {m n : ℕ} → Carried s₀ s
    → Wrote (output_of s₀) (output_of s) (place_of s₀.writer) (place_of w') p → m ≡ n
    → DidGo s₀ (record s { writer = w'; mark = m }) p n
done-with {s₀} {s} {w'} {m = m} a w f =
    let g : Serializer → Serializer = λ z. record z { output = s.output; writer = w'; mark = m } in
    record {
      same_reference = a.same_reference;
      went = record { wrote = w; next = f };
      is = ap g a.is ∙ ap (λ k. record s₀ { output = s.output; writer = w'; mark = k }) f;
    }

-- A node is open, and its children are written between indent and dedent, which is G of them.
module _ {s₀ s : Serializer} {whole : Piece} {rest : List Piece} {m : ℕ} (G : List ℕ → List Node → Piece)
    (w : Way s₀ s whole (indented (G s₀.nodes.source.now (nodes (inner_at (marks_in s₀.nodes.tree.now) m))) ∷ rest) m) where
  pub indented-ready : {k q : ℕ} → Open (is_boundary s₀.nodes.source.now) (marks_in s₀.nodes.tree.now) m k q
      → s₀.writer.indent_level + 1 ≤ m
      → ReadyIn s.nodes.source.now s.nodes.tree.now (record { writer = raise true (place_of s.writer); mark = s.mark }) k q (G s.nodes.source.now)
  indented-ready {k} {q} at l =
      let P₁ : Serializer → Type 0 = λ z. Open (is_boundary z.nodes.source.now) (marks_in z.nodes.tree.now) z.mark k q in
      let P₂ : Serializer → Type 0 =
      λ z. Room (raise true (place_of s.writer)) (G z.nodes.source.now (nodes (inner_at (marks_in z.nodes.tree.now) z.mark))) in
      record {
        at = subst P₁ (sym w.is) at;
        shallow = omega (arith, w.level, ap (λ z. z.mark) w.is, l);
        room =
            subst P₂ (sym w.is)
            (room_within true (place_of s.writer) (G s₀.nodes.source.now (nodes (inner_at (marks_in s₀.nodes.tree.now) m))) (room w));
      }

  pub indented-wrote : (o : List ℕ) (w' : TextWriter)
      → Wrote (output_of s) o (raise true (place_of s.writer)) (place_of w') (G s.nodes.source.now (nodes (inner_at (marks_in s.nodes.tree.now) s.mark)))
      → Wrote (output_of s) o (place_of s.writer) (lower true (place_of w'))
      (indented (G s₀.nodes.source.now (nodes (inner_at (marks_in s₀.nodes.tree.now) m))))
  indented-wrote o w' h =
      let P : Serializer → Type 0 =
      λ z. Wrote (output_of s) o (raise true (place_of s.writer)) (place_of w') (G z.nodes.source.now (nodes (inner_at (marks_in z.nodes.tree.now) z.mark))) in
      wrote-within true (place_of s.writer) (G s₀.nodes.source.now (nodes (inner_at (marks_in s₀.nodes.tree.now) m))) (subst P w.is h)

-- The lines of a comment.
pub record CommentLoop (prefix : List ℕ) (s₀ s : Serializer) : Type 0 where
  pub carried : Carried s₀ s
  pub lines : Lines s₀.nodes.source.now s₀.nodes.tree.now prefix (output_of s₀) (output_of s) (place_of s₀.writer) (place_of s.writer) s₀.mark s.mark

-- a line is next
abbrev line_at : List ℕ → Serializer → Piece
line_at prefix s = line_of prefix (text_of s.nodes.source.now (node_at (marks_in s.nodes.tree.now) s.mark))

pub record CommentTurn (prefix : List ℕ) (s₀ s : Serializer) : Type 0 where
  pub text : TextAt (is_boundary s.nodes.source.now) (marks_in s.nodes.tree.now) s.mark
  pub room : Room (place_of s.writer) (line_at prefix s)
  pub on : (o' : List ℕ) (w' : TextWriter) → HasWritten (output_of s) o' s.writer w' (line_at prefix s)
      → CommentLoop prefix s₀ (record s { output = record s.output { now = o' }; writer = w'; mark = s.mark + 2 })

module _ {prefix : List ℕ} {s₀ s : Serializer} (r : CommentLoop prefix s₀ s) where
  line_carried : (z : Serializer) → z ≡ (record s₀ { output = z.output; writer = z.writer; mark = z.mark })
      → line_at prefix z ≡ line_of prefix (text_of s₀.nodes.source.now (node_at (marks_in s₀.nodes.tree.now) z.mark))
  line_carried z e = ap (λ y. line_of prefix (text_of y.nodes.source.now (node_at (marks_in y.nodes.tree.now) z.mark))) e

  pub comment-turn : kind_at (marks_in s.nodes.tree.now) s.mark ≡ Kind.comment_line → CommentTurn prefix s₀ s
  comment-turn e =
      let t = lines-turn s₀.nodes.source.now s₀.nodes.tree.now prefix r.lines (sym (carried-kind r.carried) ∙ e) in
      let P : Serializer → Type 0 = λ z. TextAt (is_boundary z.nodes.source.now) (marks_in z.nodes.tree.now) s.mark in
      let same = line_carried s r.carried.is in
      record {
        text = subst P (sym r.carried.is) t.text;
        room = rw same t.room;
        on =
            λ o' w' h.
            let f : Serializer → Serializer =
            λ z. record z { output = record s.output { now = o' }; writer = w'; mark = s.mark + 2 } in
            record {
              carried = record { same_reference = r.carried.same_reference; is = ap f r.carried.is };
              lines = t.on o' (place_of w') (rw same at h.wrote);
            };
      }

pub comment-done : {prefix : List ℕ} {s s₁ : Serializer} → CommentAt (is_boundary s.nodes.source.now) (marks_in s.nodes.tree.now) s.mark
    → CommentLoop prefix (record s { mark = s.mark + 1 }) s₁ → (kind_at (marks_in s₁.nodes.tree.now) s₁.mark ≡ Kind.comment_line → ⊥)
    → DidNode s (record s₁ { mark = s₁.mark + 1 }) (λ n. comment s.nodes.source.now prefix n.inner)
comment-done {prefix} {s} {s₁} a r e =
    let d = lines-done s.nodes.source.now s.nodes.tree.now prefix s.mark a r.lines (λ z. e (carried-kind r.carried ∙ z)) in
    done-with {s₀ = s} {s = s₁} {w' = s₁.writer} (record { same_reference = r.carried.same_reference; is = r.carried.is }) d.0 d.1
