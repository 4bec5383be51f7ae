-- The lines of a comment, one after another.
use Prim.Native.Nat.{ℕ, ◌+◌}
use native.Mathlib.Omega.{arith}
use mathlib.Core.Path.{◌≡◌, refl, ap, ◌∙◌}
use mathlib.Core.Bool.{true, false, ◌&&◌, ◌||◌, not, and-eq-true_iff}
use mathlib.Core.List.{List, [], ◌∷◌, map}
use mathlib.Core.Option.{some}
use lib.ListN.{length}
use lib.Dec.{eqb}
use Rattle.utf8.specs.Utf8.{is_boundary}
use Rattle.syntax.specs.Kind as Kind
use Rattle.syntax.specs.Layout.{marks_in}
use Rattle.syntax.specs.Shape.{start, among, models, step}
use Rattle.syntax.specs.Serializer.{nodes_from, nodes, Piece, ◌⊕◌, each, text_of, blank_line, comment_line, comment}
use borrow.Author.Tests.{eqb-true}
use Rattle.laws.specs.Bytes.{by_case, clash}
use Rattle.laws.specs.Shape.Run.{otherwise, rule}
use Rattle.serializer.specs.Writer.{Place, Room, Wrote}
use Rattle.tree.specs.Walk.{kind_at, node_at, after, inner_at, At, TextAt, Inside}
use Rattle.serializer.specs.Comment.{CommentAt, is_comment, line_of}
use Rattle.serializer.proofs.Pieces.{row, Going, going, room-first, going_on, gone}
use Rattle.tree.proofs.Walk.{Next, ends, goes, next, at-kind, text-after, enter}

-- comments: their children are lines
pub comment-plain : (k : ℕ) → is_comment k ≡ true → Kind.is_text k ≡ false
unfolding is_comment among Kind.is_text
comment-plain k c =
    by_case (eqb k Kind.comment) (one Kind.comment refl)
    (λ e. let c₁ = otherwise _ _ c e in
    by_case (eqb k Kind.group_comment) (one Kind.group_comment refl)
    (λ e. let c₂ = otherwise _ _ c₁ e in
    by_case (eqb k Kind.resource_comment) (one Kind.resource_comment refl)
    (λ e. let c₃ = otherwise _ _ c₂ e in
    by_case (eqb k Kind.attached_comment) (one Kind.attached_comment refl) (λ e. clash (otherwise _ _ c₃ e) refl))))
  where
    one : (n : ℕ) → Kind.is_text n ≡ false → eqb k n ≡ true → Kind.is_text k ≡ false
    one n h e = rw (eqb-true k n e) h

pub comment-child : (k q j r : ℕ) → is_comment k ≡ true → step k q j ≡ some r → (j ≡ Kind.comment_line) × (r ≡ start)
unfolding is_comment among models
comment-child k q j r c s =
    let t =
    otherwise (not (is_comment k)) (eqb j Kind.comment_line && eqb r start)
    (rule (λ k q j r. not (is_comment k) || (eqb j Kind.comment_line && eqb r start)) refl k q j r s) (ap not c) in
    let b = (and-eq-true_iff (eqb j Kind.comment_line) (eqb r start)).0 t in
    (eqb-true j Kind.comment_line b.0, eqb-true r start b.1)

-- each of a list, as a row
pub each_row : {A : Type 0} (f : A → Piece) (xs : List A) → each f xs ≡ row (map f xs)
unfolding each
each_row f [] = refl
each_row f (x ∷ xs) = ap (λ p. f x ⊕ p) (each_row f xs)

module _ (source tree prefix : List ℕ) where
  -- in the comment, at the mark m
  pub record Lines (o₀ o : List ℕ) (w₀ w : Place) (m₀ m : ℕ) : Type 0 where
    pub kind : ℕ
    pub lines : is_comment kind ≡ true
    pub here : Inside (is_boundary source) (marks_in tree) m kind start
    pub way : Going o₀ o w₀ w (comment source prefix (inner_at (marks_in tree) m₀))
        (map (comment_line source prefix) (nodes (inner_at (marks_in tree) m)))
    pub till : m + length (inner_at (marks_in tree) m) ≡ m₀ + length (inner_at (marks_in tree) m₀)

  pub lines-first : (o : List ℕ) (w : Place) (i : ℕ) → CommentAt (is_boundary source) (marks_in tree) i
      → Room w (comment source prefix (node_at (marks_in tree) i).inner) → Lines o o w w (i + 1) (i + 1)
  unfolding comment
  lines-first o w i a r =
      let e = enter a.at (comment-plain a.kind a.comment) in
      record {
        kind = a.kind;
        lines = a.comment;
        here = e.first;
        way = going o w (record { same = each_row (comment_line source prefix) (nodes (inner_at (marks_in tree) (i + 1))) }) (rw e.inner r);
        till = refl;
      }

  -- a line more
  pub record Turn (o₀ o : List ℕ) (w₀ w : Place) (m₀ m : ℕ) : Type 0 where
    pub text : TextAt (is_boundary source) (marks_in tree) m
    pub room : Room w (line_of prefix (text_of source (node_at (marks_in tree) m)))
    pub on : (o' : List ℕ) (w' : Place) → Wrote o o' w w' (line_of prefix (text_of source (node_at (marks_in tree) m)))
        → Lines o₀ o' w₀ w' m₀ (m + 2)

  module _ {o₀ o : List ℕ} {w₀ w : Place} {m₀ m : ℕ} (s : Lines o₀ o w₀ w m₀ m) where
    turn-from : (j r : ℕ) → j ≡ Kind.comment_line → r ≡ start → At (is_boundary source) (marks_in tree) m j
        → Inside (is_boundary source) (marks_in tree) (after (marks_in tree) m) s.kind r
        → nodes (inner_at (marks_in tree) m) ≡ node_at (marks_in tree) m
        ∷ nodes (inner_at (marks_in tree) (after (marks_in tree) m))
        → m + length (inner_at (marks_in tree) m)
        ≡ after (marks_in tree) m + length (inner_at (marks_in tree) (after (marks_in tree) m))
        → Turn o₀ o w₀ w m₀ m
    unfolding Kind.is_text comment_line line_of blank_line
    turn-from j r e f a n ns l =
        let t : Kind.is_text j ≡ true = rw e in
        let p : after (marks_in tree) m ≡ m + 2 = text-after a t in
        let g : Going o₀ o w₀ w (comment source prefix (inner_at (marks_in tree) m₀))
        (line_of prefix (text_of source (node_at (marks_in tree) m))
        ∷ map (comment_line source prefix) (nodes (inner_at (marks_in tree) (after (marks_in tree) m)))) =
        rw ns at s.way
        in
        record {
          text = record { kind = j; is_text = t; at = a };
          room = room-first g;
          on = λ o' w' h.
              record {
                kind = s.kind;
                lines = s.lines;
                here = rw (p, f) at n;
                way = rw p at (going_on g h);
                till = omega (arith, s.till, ap (λ z. length (inner_at (marks_in tree) z)) p);
              };
        }

    pub lines-turn : kind_at (marks_in tree) m ≡ Kind.comment_line → Turn o₀ o w₀ w m₀ m
    lines-turn k = go (next s.here)
      where
        go : Next (is_boundary source) (marks_in tree) m s.kind start → Turn o₀ o w₀ w m₀ m
        go (ends c z f) = absurd (omega arith)
        go (goes j r t a n ns l) = let b = comment-child s.kind start j r s.lines t in turn-from j r b.0 b.1 a n ns l

    -- the last mark
    lines_end : (kind_at (marks_in tree) m ≡ Kind.comment_line → ⊥)
        → Wrote o₀ o w₀ w (comment source prefix (inner_at (marks_in tree) m₀))
        × (m ≡ m₀ + length (inner_at (marks_in tree) m₀))
    unfolding nodes nodes_from
    lines_end k = go (next s.here)
      where
        go : Next (is_boundary source) (marks_in tree) m s.kind start
            → Wrote o₀ o w₀ w (comment source prefix (inner_at (marks_in tree) m₀))
            × (m ≡ m₀ + length (inner_at (marks_in tree) m₀))
        go (ends c z f) = (gone (rw z at s.way), omega (arith, s.till, ap length z))
        go (goes j r t a n ns l) = absurd (k (at-kind a ∙ (comment-child s.kind start j r s.lines t).0))

  pub lines-done : {o₀ o : List ℕ} {w₀ w : Place} {m : ℕ} (i : ℕ) → CommentAt (is_boundary source) (marks_in tree) i
      → Lines o₀ o w₀ w (i + 1) m → (kind_at (marks_in tree) m ≡ Kind.comment_line → ⊥)
      → Wrote o₀ o w₀ w (comment source prefix (node_at (marks_in tree) i).inner) × (m + 1 ≡ after (marks_in tree) i)
  lines-done i a s k =
      let e = enter a.at (comment-plain a.kind a.comment) in
      let d = lines_end s k in
      (rw e.inner at d.0, omega (arith, d.1, e.behind))
