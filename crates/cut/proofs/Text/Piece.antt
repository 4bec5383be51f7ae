-- The normal texts of entries in a row.
use Rattle.std.specs.Prelude.{ℕ, ◌≡◌, Bool, eqb}
use Rattle.std.proofs.Math.Path.{refl, sym, ap, ap₂}
use Rattle.std.proofs.Common.{◌∙◌, eqb-true}
use Rattle.std.proofs.Math.Bool.{true, false}
use mathlib.Core.List.{List, [], ◌∷◌, ◌++◌, append-nil, append_assoc}
use Rattle.syntax.specs.Marks.{Mark}
use Rattle.syntax.specs.Serializer as Ser
use Rattle.syntax.specs.Serializer.{Node, nodes, Piece, last_of, ◌⊕◌, literal, newline, empty}
use Rattle.laws.specs.Bytes.{by_case, clash}
use Rattle.cut.specs.Claim.{is_free}

last_of-append : (b : ℕ) (s t : List ℕ) → last_of b (s ++ t) ≡ last_of (last_of b s) t
unfolding last_of
last_of-append b [] t = refl
last_of-append b (x ∷ xs) t = last_of-append x xs t

-- pieces that end in a newline
abbrev EndsTen : Piece → Type 0
EndsTen p = (level last : ℕ) → last_of last (p level last) ≡ 10

ends-plus : (p q : Piece) → EndsTen q → EndsTen (p ⊕ q)
unfolding ◌⊕◌
ends-plus p q h level last = last_of-append last (p level last) (q level (last_of last (p level last))) ∙ h level (last_of last (p level last))

ends-newline : EndsTen newline
unfolding newline last_of
ends-newline level last = by_case (eqb last 13) (λ q. rw (q, newline) refl) (λ q. rw (q, newline) refl)

-- pieces that a newline before them does not change, at the outermost level
abbrev Calm : Piece → Type 0
Calm p = p 0 10 ≡ p 0 0

calm-empty : Calm empty
unfolding empty
calm-empty = refl

calm-literal : (t : List ℕ) → Calm (literal t)
unfolding literal
calm-literal t = refl

calm-newline : Calm newline
unfolding newline
calm-newline = refl

calm-plus : (p q : Piece) → Calm p → Calm q → Calm (p ⊕ q)
unfolding ◌⊕◌ last_of
calm-plus p q h g = go (p 0 0) refl
  where
    go : (t : List ℕ) → p 0 0 ≡ t → (p ⊕ q) 0 10 ≡ (p ⊕ q) 0 0
    go [] e = ap₂ (λ a b. a ++ q 0 (last_of 10 b)) (h ∙ e) (h ∙ e) ∙ g ∙ sym (ap₂ (λ a b. a ++ q 0 (last_of 0 b)) e e)
    go (x ∷ xs) e = ap₂ (λ a b. a ++ q 0 (last_of 10 b)) (h ∙ e) (h ∙ e) ∙ sym (ap₂ (λ a b. a ++ q 0 (last_of 0 b)) e e)

calm-solid : (x : ℕ) (xs : List ℕ) (q : Piece) → Calm (literal (x ∷ xs) ⊕ q)
unfolding ◌⊕◌ last_of literal
calm-solid x xs q = refl

calm-if : (v : Bool) (p : Piece) → Calm p → Calm (Ser.if v p)
unfolding Ser.if
calm-if true p h = h
calm-if false p h = calm-empty

calm-each : {A : Type 0} (f : A → Piece) → ((a : A) → Calm (f a)) → (xs : List A) → Calm (Ser.each f xs)
unfolding Ser.each
calm-each f h [] = calm-empty
calm-each f h (x ∷ xs) = calm-plus (f x) (Ser.each f xs) (h x) (calm-each f h xs)

module _ (S : List ℕ) where
  calm-name : (ns : List Node) → Calm (Ser.first S (Ser.name S) ns)
  unfolding Ser.first Ser.name
  calm-name [] = calm-empty
  calm-name (n ∷ ns) = calm-literal (Ser.text_of S n)

  calm-message : (ms : List Mark) → Calm (Ser.message S ms)
  unfolding Ser.message
  calm-message ms = calm-plus (Ser.first S (Ser.name S) (nodes ms)) _ (calm-name (nodes ms)) (calm-solid 32 (61 ∷ []) _)

  ends-message : (ms : List Mark) → EndsTen (Ser.message S ms)
  unfolding Ser.message
  ends-message ms = ends-plus _ _ (ends-plus _ _ (ends-plus _ _ (ends-plus _ newline ends-newline)))

  calm-comment : (x : ℕ) (xs : List ℕ) (ms : List Mark) → Calm (Ser.comment S (x ∷ xs) ms)
  unfolding Ser.comment Ser.comment_line
  calm-comment x xs ms = calm-each (Ser.comment_line S (x ∷ xs)) (λ n. calm-solid x xs _) (nodes ms)

  -- a comment with the line after it
  body : List ℕ → List Mark → Piece
  body prefix ms = Ser.comment S prefix ms ⊕ newline

  calm-body : (x : ℕ) (xs : List ℕ) (ms : List Mark) → Calm (body (x ∷ xs) ms)
  unfolding body
  calm-body x xs ms = calm-plus (Ser.comment S (x ∷ xs) ms) newline (calm-comment x xs ms) calm-newline

  calm_free : (w : Bool) (x : ℕ) (xs : List ℕ) (ms : List Mark) → Calm (Ser.free_comment S w (x ∷ xs) ms)
  unfolding Ser.free_comment body
  calm_free w x xs ms = calm-plus (Ser.if w newline) (body (x ∷ xs) ms) (calm-if w newline calm-newline) (calm-body x xs ms)

  ends-free : (w : Bool) (prefix : List ℕ) (ms : List Mark) → EndsTen (Ser.free_comment S w prefix ms)
  unfolding Ser.free_comment
  ends-free w prefix ms = ends-plus _ _ (ends-plus _ newline ends-newline)

  pick-calm : (v : Bool) (p q : Piece) → Calm p → Calm q → Calm (elim v [ true ↦ p | false ↦ q ])
  pick-calm true p q a b = a
  pick-calm false p q a b = b

  calm-entry : (junk w : Bool) (e : Node) → Calm (Ser.entry S junk w e)
  unfolding Ser.entry
  calm-entry junk w e =
      pick-calm (eqb e.kind 7) _ _ (calm-if junk (literal (Ser.text_of S e)) (calm-literal (Ser.text_of S e)))
      (pick-calm (eqb e.kind 6) _ _ (calm-comment 35 [] e.inner)
      (pick-calm (eqb e.kind 3) _ _ (calm_free w 35 [] e.inner)
      (pick-calm (eqb e.kind 4) _ _ (calm_free w 35 (35 ∷ []) e.inner)
      (pick-calm (eqb e.kind 5) _ _ (calm_free w 35 (35 ∷ 35 ∷ []) e.inner)
      (calm-plus (Ser.if (eqb e.kind 2) (literal (45 ∷ []))) (Ser.message S e.inner)
      (calm-if (eqb e.kind 2) (literal (45 ∷ [])) (calm-literal (45 ∷ []))) (calm-message e.inner))))))

  calm-resource : (junk w : Bool) (ns : List Node) → Calm (Ser.resource S junk w ns)
  unfolding Ser.resource
  calm-resource junk w [] = calm-empty
  calm-resource junk w (n ∷ ns) =
      calm-plus (Ser.entry S junk w n) (Ser.resource S junk (Ser.wrote_by S w n.kind) ns) (calm-entry junk w n)
      (calm-resource junk (Ser.wrote_by S w n.kind) ns)

  pick_ends : (v : Bool) (p q : Piece) → (v ≡ true → EndsTen p) → (v ≡ false → EndsTen q) → EndsTen (elim v [ true ↦ p | false ↦ q ])
  pick_ends true p q a b = a refl
  pick_ends false p q a b = b refl

  -- entries that end in a newline: all but junk and attached comments
  ends-entry : (junk w : Bool) (e : Node) → eqb e.kind 7 ≡ false → eqb e.kind 6 ≡ false → EndsTen (Ser.entry S junk w e)
  unfolding Ser.entry
  ends-entry junk w e p q =
      pick_ends (eqb e.kind 7) _ _ (λ r. clash r p)
      (λ r. pick_ends (eqb e.kind 6) _ _ (λ r. clash r q)
      (λ r. pick_ends (eqb e.kind 3) _ _ (λ r. ends-free w (35 ∷ []) e.inner)
      (λ r. pick_ends (eqb e.kind 4) _ _ (λ r. ends-free w (35 ∷ 35 ∷ []) e.inner)
      (λ r. pick_ends (eqb e.kind 5) _ _ (λ r. ends-free w (35 ∷ 35 ∷ 35 ∷ []) e.inner)
      (λ r. ends-plus _ (Ser.message S e.inner) (ends-message e.inner))))))

  -- nodes of a source that is read without junk: no junk, and no attached comment at the end
  abbrev pub Ends : List Node → Type 0
  Ends [] = Unit {0}
  Ends (n ∷ []) = (eqb n.kind 7 ≡ false) × (eqb n.kind 6 ≡ false)
  Ends (n ∷ m ∷ ns) = (eqb n.kind 7 ≡ false) × Ends (m ∷ ns)

  pub resource-ends : (junk w : Bool) (n : Node) (ns : List Node) → Ends (n ∷ ns) → EndsTen (Ser.resource S junk w (n ∷ ns))
  unfolding Ser.resource ◌⊕◌ empty
  resource-ends junk w n [] h = λ level last. ap (last_of last) (append-nil (Ser.entry S junk w n level last))
      ∙ ends-entry junk w n h.0 h.1 level last
  resource-ends junk w n (m ∷ ns) h =
      ends-plus (Ser.entry S junk w n) (Ser.resource S junk (Ser.wrote_by S w n.kind) (m ∷ ns))
      (resource-ends junk (Ser.wrote_by S w n.kind) m ns h.1)

  abbrev pub wrote_all : Bool → List Node → Bool
  wrote_all w [] = w
  wrote_all w (n ∷ ns) = wrote_all (Ser.wrote_by S w n.kind) ns

  pub wrote-ends : (w : Bool) (n : Node) (ns : List Node) → Ends (n ∷ ns) → wrote_all w (n ∷ ns) ≡ true
  unfolding Ser.wrote_by
  wrote-ends w n [] h = rw (h.0, Ser.wrote_by) (rw h.1 refl)
  wrote-ends w n (m ∷ ns) h = wrote-ends (Ser.wrote_by S w n.kind) m ns h.1

  pub resource-append : (junk w : Bool) (xs ys : List Node) (level last : ℕ)
      → Ser.resource S junk w (xs ++ ys) level last ≡ Ser.resource S junk w xs level last
      ++ Ser.resource S junk (wrote_all w xs) ys level (last_of last (Ser.resource S junk w xs level last))
  unfolding Ser.resource ◌⊕◌ empty last_of
  resource-append junk w [] ys level last = refl
  resource-append junk w (x ∷ xs) ys level last =
      let t = Ser.entry S junk w x level last in
      let r = Ser.resource S junk (Ser.wrote_by S w x.kind) xs level (last_of last t) in
      ap (λ z. t ++ z) (resource-append junk (Ser.wrote_by S w x.kind) xs ys level (last_of last t))
      ∙ sym (append_assoc t r (Ser.resource S junk (wrote_all (Ser.wrote_by S w x.kind) xs) ys level (last_of (last_of last t) r)))
      ∙ ap (λ z. (t ++ r) ++ Ser.resource S junk (wrote_all (Ser.wrote_by S w x.kind) xs) ys level z) (sym (last_of-append last t r))

  -- whether the first node is a free comment
  abbrev pub opens_nodes : List Node → Bool
  opens_nodes [] = false
  opens_nodes (n ∷ ns) = is_free n.kind

  -- an attached comment stands before a message or a term
  abbrev pub Opening : List Node → Type 0
  Opening [] = Unit {0}
  Opening (n ∷ []) = eqb n.kind 6 ≡ false
  Opening (n ∷ m ∷ ns) = eqb n.kind 6 ≡ true → (is_free m.kind ≡ false) × (eqb m.kind 6 ≡ false)

  entry-indep : (junk v w : Bool) (e : Node) → is_free e.kind ≡ false → Ser.entry S junk v e ≡ Ser.entry S junk w e
  unfolding Ser.entry
  entry-indep junk v w e h = by_case (eqb e.kind 3) (λ q. clash (rw q refl) h)
      (λ q. by_case (eqb e.kind 4) (λ r. clash (rw q (rw r refl)) h)
      (λ r. by_case (eqb e.kind 5) (λ t. clash (rw q (rw r (rw t refl))) h)
      (λ t. by_case (eqb e.kind 7) (λ x. rw (x, Ser.entry) refl)
      (λ x. by_case (eqb e.kind 6) (λ y. rw (x, Ser.entry) (rw y refl)) (λ y. rw (x, Ser.entry) (rw y (rw q (rw r (rw t refl)))))))))

  wrote-indep : (v w : Bool) (k : ℕ) → eqb k 6 ≡ false → Ser.wrote_by S v k ≡ Ser.wrote_by S w k
  unfolding Ser.wrote_by
  wrote-indep v w k h = by_case (eqb k 7) (λ q. rw (q, Ser.wrote_by) refl) (λ q. rw (q, Ser.wrote_by) (rw h refl))

  same-resource : (junk v w : Bool) (n : Node) (ns : List Node) → is_free n.kind ≡ false → eqb n.kind 6 ≡ false
      → Ser.resource S junk v (n ∷ ns) ≡ Ser.resource S junk w (n ∷ ns)
  unfolding Ser.resource
  same-resource junk v w n ns p q = ap₂ (λ a b. a ⊕ Ser.resource S junk b ns) (entry-indep junk v w n p) (wrote-indep v w n.kind q)

  differs : (k a b : ℕ) → eqb k a ≡ true → eqb a b ≡ false → eqb k b ≡ false
  differs k a b h e = rw (eqb-true k a h) e

  wrote-six : (w : Bool) (k : ℕ) → eqb k 6 ≡ true → Ser.wrote_by S w k ≡ w
  unfolding Ser.wrote_by
  wrote-six w k h = rw (differs k 6 7 h refl, Ser.wrote_by) (rw h refl)

  plain-resource : (junk v w : Bool) (n : Node) (ns : List Node) → Opening (n ∷ ns) → is_free n.kind ≡ false
      → Ser.resource S junk v (n ∷ ns) ≡ Ser.resource S junk w (n ∷ ns)
  unfolding Ser.resource
  plain-resource junk v w n [] o p = same-resource junk v w n [] p o
  plain-resource junk v w n (m ∷ ns) o p = by_case (eqb n.kind 6)
      (λ q. ap₂ (λ a b. a ⊕ Ser.resource S junk b (m ∷ ns)) (entry-indep junk v w n p) (wrote-six v n.kind q)
      ∙ ap (λ b. Ser.entry S junk w n ⊕ b) (same-resource junk v w m ns (o q).0 (o q).1)
      ∙ ap (λ b. Ser.entry S junk w n ⊕ Ser.resource S junk b (m ∷ ns)) (sym (wrote-six w n.kind q)))
      (λ q. same-resource junk v w n (m ∷ ns) p q)

  -- a free comment has a newline before it where something was written
  free-entry : (junk : Bool) (e : Node) → is_free e.kind ≡ true → (x : ℕ) × (xs : List ℕ)
      × ((w : Bool) → Ser.entry S junk w e ≡ Ser.if w newline ⊕ body (x ∷ xs) e.inner)
  unfolding Ser.entry Ser.free_comment body
  free-entry junk e h =
      by_case (eqb e.kind 3)
      (λ q. (35, [], λ w. rw (differs e.kind 3 7 q refl, Ser.entry) (rw (differs e.kind 3 6 q refl) (rw q refl))))
      (λ q. by_case (eqb e.kind 4)
      (λ r. (
        35,
        35
            ∷ [],
        λ w. rw (differs e.kind 4 7 r refl, Ser.entry) (rw (differs e.kind 4 6 r refl) (rw q (rw r refl))),
      ))
      (λ r. by_case (eqb e.kind 5)
      (λ t. (
        35,
        35 ∷ 35
            ∷ [],
        λ w. rw (differs e.kind 5 7 t refl, Ser.entry)
            (rw (differs e.kind 5 6 t refl) (rw q (rw r (rw t refl)))),
      ))
      (λ t. clash h (rw q (rw r (rw t refl))))))

  free-six : (k : ℕ) → is_free k ≡ true → eqb k 6 ≡ false
  free-six k h = by_case (eqb k 6) (λ q. clash h (rw (eqb-true k 6 q) refl)) (λ q. q)

  ends-body : (prefix : List ℕ) (ms : List Mark) → EndsTen (body prefix ms)
  unfolding body
  ends-body prefix ms = ends-plus (Ser.comment S prefix ms) newline ends-newline

  free-text : (junk : Bool) (n : Node) (ns : List Node) → is_free n.kind ≡ true
      → Ser.resource S junk true (n ∷ ns) 0 10 ≡ 10 ∷ Ser.resource S junk false (n ∷ ns) 0 0
  unfolding Ser.resource
  free-text junk n ns h =
      let (x, xs, e) = free-entry junk n h in
      ap₂ (λ a b. (a ⊕ Ser.resource S junk b ns) 0 10) (e true) (wrote-indep true false n.kind (free-six n.kind h))
      ∙ texts (body (x ∷ xs) n.inner) (Ser.resource S junk (Ser.wrote_by S false n.kind) ns)
      (calm-body x xs n.inner) (ends-body (x ∷ xs) n.inner)
      ∙ ap (λ a. 10 ∷ (a ⊕ Ser.resource S junk (Ser.wrote_by S false n.kind) ns) 0 0) (sym (e false))
    where
      texts : (C Q : Piece) → Calm C → EndsTen C → ((Ser.if true newline ⊕ C) ⊕ Q) 0 10 ≡ 10 ∷ ((Ser.if false newline ⊕ C) ⊕ Q) 0 0
      texts C Q calm ends = unfold ◌⊕◌ Ser.if newline empty last_of in (ap₂ (λ a l. 10 ∷ (a ++ Q 0 l)) calm (ends 0 10 ∙ sym (ends 0 0)))

  -- the text after something was written: a newline more where it opens with a free comment
  pub opened-text : (junk : Bool) (ns : List Node) → Opening ns
      → Ser.resource S junk true ns 0 10 ≡ (elim (opens_nodes ns) [ true ↦ 10 ∷ [] | false ↦ [] ])
      ++ Ser.resource S junk false ns 0 0
  unfolding Ser.resource empty
  opened-text junk [] o = refl
  opened-text junk (n ∷ ns) o = by_case (is_free n.kind)
      (λ q. free-text junk n ns q
      ∙ ap
      (λ v. (elim v as (λ z. List ℕ) [ true ↦ 10 ∷ [] | false ↦ [] ]) ++ Ser.resource S junk false (n ∷ ns) 0 0)
      (sym q))
      (λ q. calm-resource junk true (n ∷ ns) ∙ ap (λ p. p 0 0) (plain-resource junk true false n ns o q)
      ∙ ap
      (λ v. (elim v as (λ z. List ℕ) [ true ↦ 10 ∷ [] | false ↦ [] ]) ++ Ser.resource S junk false (n ∷ ns) 0 0)
      (sym q))
