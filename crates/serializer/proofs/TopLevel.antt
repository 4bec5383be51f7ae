-- The entries of a file, one after another, and the pieces of each.
use Prim.Native.Nat.{ℕ, ◌≤◌, ◌<◌}
use native.Mathlib.Omega.{arith}
use mathlib.Core.Path.{◌≡◌, refl, sym, ap, ◌∙◌}
use mathlib.Core.Bool.{Bool, true, false}
use mathlib.Core.List.{List, [], ◌∷◌}
use mathlib.Core.Option.{none}
use lib.Dec.{eqb}
use lib.ListN.{drop}
use borrow.Author.Tests.{eqb-true, ne_eqb}
use Rattle.utf8.specs.Utf8.{is_boundary}
use Rattle.syntax.specs.Kind as Kind
use Rattle.syntax.specs.Bytes.{ascii}
use Rattle.syntax.specs.Layout.{count, marks_in}
use Rattle.syntax.specs.Limits.{max_open}
use Rattle.syntax.specs.Shape.{named, among, verdict}
use Rattle.syntax.specs.Tests.{sizes_fit}
use Rattle.syntax.specs.Serializer.{Node, nodes_from, nodes, Piece, ◌⊕◌, if, name, comment, free_comment, entry, wrote_by, resource}
use Rattle.laws.specs.Bytes.{by_case, clash}
use Rattle.serializer.specs.Writer.{begun, Room, Wrote}
use Rattle.tree.specs.Walk.{kind_at, node_at, after, entries}
use Rattle.serializer.specs.Comment.{is_comment, CommentAt}
use Rattle.serializer.specs.Serialize.{State, Ready, Done}
use Rattle.serializer.specs.Message.{message_in, term_in}
use Rattle.serializer.specs.Resource.{junk_in}
use Rattle.tree.proofs.Sizes.{sizes, next-mark, no-mark}
use Rattle.serializer.proofs.Pieces.{one, two, empty-then, Going, going, going-as, room-first, going_on, gone, wrote_nothing}
use Rattle.tree.proofs.Walk.{at-kind, node-kind}
use Rattle.tree.proofs.Entries.{Top, top-first, top-next}

-- the piece of an entry, by its kind
module _ (source : List ℕ) (junk wrote : Bool) (n : Node) where
  of-kind : {k : ℕ} → n.kind ≡ k
      → entry source junk wrote n
      ≡ entry source junk wrote (record { kind = k; opening = n.opening; closing = n.closing; inner = n.inner })
  of-kind e = ap (λ k. entry source junk wrote (record { kind = k; opening = n.opening; closing = n.closing; inner = n.inner })) e

  entry-message : n.kind ≡ Kind.message → entry source junk wrote n ≡ message_in source n
  unfolding entry if
  entry-message e = of-kind e ∙ empty-then (message_in source n)

  entry-term : n.kind ≡ Kind.term → entry source junk wrote n ≡ term_in source n
  unfolding entry if term_in
  entry-term e = of-kind e

  entry-junk : n.kind ≡ Kind.junk → entry source junk wrote n ≡ junk_in source junk n
  unfolding entry junk_in name
  entry-junk e = of-kind e

  entry-attached : n.kind ≡ Kind.attached_comment → entry source junk wrote n ≡ comment source (ascii "#") n.inner
  unfolding entry
  entry-attached e = of-kind e

  entry-comment : n.kind ≡ Kind.comment → entry source junk wrote n ≡ free_comment source wrote (ascii "#") n.inner
  unfolding entry
  entry-comment e = of-kind e

  entry-group : n.kind ≡ Kind.group_comment → entry source junk wrote n ≡ free_comment source wrote (ascii "##") n.inner
  unfolding entry
  entry-group e = of-kind e

  entry-resource : n.kind ≡ Kind.resource_comment → entry source junk wrote n ≡ free_comment source wrote (ascii "###") n.inner
  unfolding entry
  entry-resource e = of-kind e

-- An entry is next, and is written by the function of its kind.
module _ (source tree : List ℕ) (s : State) (junk wrote : Bool) (h : Ready source tree s entries (entry source junk wrote)) where
  abbrev this : Node
  this = node_at (marks_in tree) s.mark

  abbrev kind : ℕ
  kind = kind_at (marks_in tree) s.mark

  this-kind : (k : ℕ) → kind ≡ k → this.kind ≡ k
  this-kind k e = node-kind h.node.at ∙ sym (at-kind h.node.at) ∙ e

  pub record As (js : List ℕ) (f : Node → Piece) : Type 0 where
    pub ready : Ready source tree s js f
    pub done : {o o' : List ℕ} {s' : State} → Done tree o o' s s' f → Done tree o o' s s' (entry source junk wrote)

  as-kind : (k : ℕ) (js : List ℕ) (f : Node → Piece) → kind ≡ k → among k js ≡ true → entry source junk wrote this ≡ f this → As js f
  as-kind k js f e a p =
      record {
        ready =
            record {
              node = record { kind = h.node.kind; one = rw (sym (at-kind h.node.at) ∙ e) a; at = h.node.at };
              shallow = h.shallow;
              room = rw p at h.room;
            };
        done = λ d. record { wrote = rw p d.wrote; next = d.next };
      }

  pub as-message : kind ≡ Kind.message → As named (message_in source)
  unfolding among
  as-message e = as-kind Kind.message named (message_in source) e refl (entry-message source junk wrote this (this-kind Kind.message e))

  pub as-term : kind ≡ Kind.term → As (Kind.term ∷ []) (term_in source)
  unfolding among
  as-term e = as-kind Kind.term (Kind.term ∷ []) (term_in source) e refl (entry-term source junk wrote this (this-kind Kind.term e))

  pub as-junk : (kind ≡ Kind.message → ⊥) → (kind ≡ Kind.term → ⊥) → (kind ≡ Kind.comment → ⊥)
      → (kind ≡ Kind.group_comment → ⊥) → (kind ≡ Kind.resource_comment → ⊥) → (kind ≡ Kind.attached_comment → ⊥)
      → As (Kind.junk ∷ []) (junk_in source junk)
  unfolding among
  as-junk x₁ x₂ x₃ x₄ x₅ x₆ =
      let a : among kind entries ≡ true = rw (at-kind h.node.at) h.node.one in
      let e : kind ≡ Kind.junk =
      by_case (eqb kind Kind.junk) (λ z. eqb-true kind Kind.junk z)
      (λ z. clash a
      (rw (
        ne_eqb kind Kind.message x₁,
        ne_eqb kind Kind.term x₂,
        ne_eqb kind Kind.comment x₃,
        ne_eqb kind Kind.group_comment x₄,
        ne_eqb kind Kind.resource_comment x₅,
        ne_eqb kind Kind.attached_comment x₆,
        z,
      )))
      in
      as-kind Kind.junk (Kind.junk ∷ []) (junk_in source junk) e refl (entry-junk source junk wrote this (this-kind Kind.junk e))

  -- a comment, with the piece p
  pub record AsComment (p : Piece) : Type 0 where
    pub at : CommentAt (is_boundary source) (marks_in tree) s.mark
    pub room : Room s.writer p
    pub done : {o o' : List ℕ} {s' : State} → Wrote o o' s.writer s'.writer p
        → s'.mark ≡ after (marks_in tree) s.mark → Done tree o o' s s' (entry source junk wrote)

  as-lines : (k : ℕ) (p : Piece) → kind ≡ k → is_comment k ≡ true → entry source junk wrote this ≡ p → AsComment p
  as-lines k p e c z =
      record {
        at = record { kind = h.node.kind; comment = rw (sym (at-kind h.node.at) ∙ e) c; at = h.node.at };
        room = rw z at h.room;
        done = λ w m. record { wrote = rw z w; next = m };
      }

  pub as-comment : kind ≡ Kind.comment → AsComment (free_comment source wrote (ascii "#") this.inner)
  unfolding is_comment among
  as-comment e = as-lines Kind.comment _ e refl (entry-comment source junk wrote this (this-kind Kind.comment e))

  pub as-group : kind ≡ Kind.group_comment → AsComment (free_comment source wrote (ascii "##") this.inner)
  unfolding is_comment among
  as-group e = as-lines Kind.group_comment _ e refl (entry-group source junk wrote this (this-kind Kind.group_comment e))

  pub as-resource : kind ≡ Kind.resource_comment → AsComment (free_comment source wrote (ascii "###") this.inner)
  unfolding is_comment among
  as-resource e = as-lines Kind.resource_comment _ e refl (entry-resource source junk wrote this (this-kind Kind.resource_comment e))

  pub as-attached : kind ≡ Kind.attached_comment → AsComment (comment source (ascii "#") this.inner)
  unfolding is_comment among
  as-attached e = as-lines Kind.attached_comment _ e refl (entry-attached source junk wrote this (this-kind Kind.attached_comment e))

-- The entries that are left.
module _ (source tree : List ℕ) (junk : Bool) where
  pub record Entries (o₀ o : List ℕ) (s : State) (wrote : Bool) : Type 0 where
    pub here : Top (is_boundary source) (marks_in tree) s.mark
    pub flat : s.writer.indent ≡ 0
    pub way : Going o₀ o begun s.writer (resource source junk false (nodes (marks_in tree)))
        (resource source junk wrote (nodes (drop s.mark (marks_in tree))) ∷ [])

  pub entries-first : (o : List ℕ) → verdict (is_boundary source) max_open (marks_in tree) ≡ none
      → Room begun (resource source junk false (nodes (marks_in tree)))
      → Entries o o (record { writer = begun; mark = 0 }) false
  entries-first o v r =
      record {
        here = top-first (is_boundary source) (marks_in tree) v;
        flat = refl;
        way = going o begun (one (resource source junk false (nodes (marks_in tree)))) r;
      }

  module _ {o₀ o : List ℕ} {s : State} {wrote : Bool} (fit : sizes_fit tree ≡ true) (h : Entries o₀ o s wrote) where
    -- one more
    pub record EntryNext : Type 0 where
      pub ready : Ready source tree s entries (entry source junk wrote)
      pub on : {o' : List ℕ} {s' : State} (wrote' : Bool) → Done tree o o' s s' (entry source junk wrote)
          → wrote' ≡ wrote_by [] wrote (kind_at (marks_in tree) s.mark) → Entries o₀ o' s' wrote'

    pub entry_next : s.mark < count tree → EntryNext
    unfolding resource wrote_by
    entry_next l =
        let ms = marks_in tree in
        let t = top-next h.here _ _ (next-mark tree (sizes tree fit) s.mark l) in
        let n = node_at ms s.mark in
        let k : kind_at ms s.mark ≡ n.kind = at-kind t.child.at ∙ sym (node-kind t.child.at) in
        let p = entry source junk wrote n in
        let q = resource source junk (wrote_by source wrote n.kind) (nodes (drop (after ms s.mark) ms)) in
        let w : Going o₀ o begun s.writer (resource source junk false (nodes ms)) ((p ⊕ q) ∷ []) = rw t.split at h.way in
        let g : Going o₀ o begun s.writer (resource source junk false (nodes ms)) (p ∷ q ∷ []) = going-as (two p q) w in
        record {
          ready = record { node = t.child; shallow = omega (arith, h.flat); room = room-first g };
          on =
              λ wrote' d e. record {
                here = rw d.next t.on;
                flat = d.wrote.level ∙ h.flat;
                way = rw (d.next, e, k) (going_on g d.wrote);
              };
        }

    -- no more
    pub entries-done : count tree ≤ s.mark → Wrote o₀ o begun s.writer (resource source junk false (nodes (marks_in tree)))
    unfolding resource nodes nodes_from
    entries-done l = gone (going_on (rw (no-mark tree (sizes tree fit) s.mark l) at h.way) wrote_nothing)
