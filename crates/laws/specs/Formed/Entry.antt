-- core.rs: the marks of attributes and entries, and where junk ends.
use Rattle.std.specs.Prelude.{ℕ, zero, suc, ◌+◌, ◌≤◌, ◌≡◌, Bool, ◌&&◌, ◌||◌, drop, length, eqb}
use Rattle.std.proofs.Common.{zero-add, arith, subst, drop-drop}
use Rattle.std.proofs.Math.Path.{refl}
use Rattle.std.proofs.Math.Bool.{true, false, not, and-eq-true_iff}
use mathlib.Core.List.{List, [], ◌∷◌}
use Rattle.std.proofs.Math.Option.{some}
use Rattle.syntax.specs.Kind as Kind
use Rattle.syntax.specs.Bytes.{starts_with, spaces, is_letter, is_fresh}
use Rattle.syntax.specs.Marks.{Mark}
use Rattle.syntax.specs.Reader.{Out, ok, bad, deep}
use Rattle.syntax.specs.Comment.{get_comment}
use Rattle.syntax.specs.Pattern.{Inside}
use Rattle.syntax.specs.Core.{get_attribute, attribute_by, attribute_turn, get_attributes, Fields, fields, term_fields}
use Rattle.syntax.specs.Core.{Entry, comment, message, term, as_message, as_term, as_comment, get_entry, to_next_entry}
use Rattle.syntax.specs.Core.{line_starts_at, junk_end}
use Rattle.syntax.specs.Shape.{step_in, step_by, final_by, models, among, step, final, opens, Run, stay, Content}
use Rattle.laws.specs.Bytes.{by_case, pick}
use Rattle.laws.specs.Answers.{Holds}
use Rattle.laws.specs.Balanced.{Levels, run-levels}
use Rattle.laws.specs.Bounds.Entry.{junk_end-within}
use Rattle.laws.specs.Formed.Edge.{ascii, clear, edge, edge-add, edge-clear, ascii-of, edge-byte, edge-spaces}
use Rattle.laws.specs.Formed.Reader.{Stand, at, ended, anywhere, by, closes, leads-nil, leads-after}
use Rattle.laws.specs.Formed.Reader.{leads-content, Made, made, stopped, too_deep, Makes, node-makes, pure-makes}
use Rattle.laws.specs.Formed.Reader.{forget, bind, then, TurnMade, goes, ends, repeat-makes}
use Rattle.laws.specs.Formed.Helper.{or-ascii, letter-ascii, spaces-makes, block-makes, expect_byte-makes, identifier-makes}
use Rattle.laws.specs.Formed.Comment.{comment-makes}
use Rattle.laws.specs.Formed.Pattern.{InsideFormed, pattern-makes}
use Rattle.laws.specs.Formed.Expression.{value-makes}

-- the state of a message or a term that is in q before its attributes, past i of them
abbrev state_at : ℕ → ℕ → ℕ
state_at q zero = q
state_at q (suc i) = 2

module _ {n : ℕ} {sub : Inside} (law : InsideFormed n sub) where
  attribute-makes : {k q r : ℕ} → step k q Kind.attribute ≡ some r → Makes n k (at q) (λ _. at r) (get_attribute sub)
  unfolding get_attribute Kind.is_text opens step step_by step_in final final_by models among
  attribute-makes z =
      node-makes 10 refl z (zero-add n)
      (then (identifier-makes 9 refl refl)
      (then spaces-makes (then (expect_byte-makes 61 refl) (value-makes law {q = 1} {r = 2} refl refl))))

  module _ (k q : ℕ) (z : step k q Kind.attribute ≡ some 2) (y : step k 2 Kind.attribute ≡ some 2)
      (f : final k q ≡ true) (g : final k 2 ≡ true) where
    attribute-step : (i : ℕ) → step k (state_at q i) Kind.attribute ≡ some 2
    attribute-step zero = z
    attribute-step (suc i) = y

    attribute-end : (i : ℕ) → final k (state_at q i) ≡ true
    attribute-end zero = f
    attribute-end (suc i) = g

    attribute_by-made : {s : List ℕ} {o : Out (Unit {0})} (i j : ℕ) → edge s j ≡ true → Made n k (at (state_at q i)) (λ _. at 2) (drop j s) o
        → TurnMade n k (at (state_at q i)) (λ i. at (state_at q i)) (λ _. ended) s (attribute_by i j o)
    unfolding attribute_by edge
    attribute_by-made {s} i j e (made {j = l} d m) = goes (edge-add s j l e d) (leads-after s j e (leads-nil (at (state_at q i))) m)
    attribute_by-made i j e stopped = ends (made refl (closes stay (attribute-end i)))
    attribute_by-made i j e too_deep = ends too_deep

    attributes-makes : Makes n k (at q) (λ _. ended) (get_attributes sub)
    unfolding get_attributes
    attributes-makes = repeat-makes {f = λ i. at (state_at q i)} turn 0
      where
        turn : (i : ℕ) (s : List ℕ) → TurnMade n k (at (state_at q i)) (λ i. at (state_at q i)) (λ _. ended) s (attribute_turn sub i s)
        turn i s = unfold attribute_turn edge in
            (pick (TurnMade n k (at (state_at q i)) (λ i. at (state_at q i)) (λ _. ended) s) (starts_with 46 (drop (spaces s) s)) _ _
            (λ h. attribute_by-made i (spaces s + 1)
            (edge-add s (spaces s) 1 (edge-spaces s (spaces s) (omega arith))
            (edge-byte 46 refl (drop (spaces s) s) h))
            ((attribute-makes (attribute-step i)).on (drop (spaces s + 1) s)))
            (λ h. ends (made refl (closes stay (attribute-end i)))))

  -- f says what the marks do, by whether there is a value
  fields-makes : {k : ℕ} (f : Bool → Stand) → step k 0 Kind.identifier ≡ some 1 → step k 1 Kind.pattern ≡ some 2
      → ((v : Bool) → Makes n k (at (elim v [ true ↦ 2 | false ↦ 1 ])) (λ _. f v) (get_attributes sub))
      → Makes n k (at 0) (λ x. f x.value) (fields sub)
  unfolding fields Kind.is_text
  fields-makes f z y m =
      bind (identifier-makes 9 refl z)
      (λ i. then spaces-makes
      (then (expect_byte-makes 61 refl)
      (bind (pattern-makes law y) (λ v. then block-makes (bind (m v) (λ c. pure-makes _ (λ b. leads-nil (f v))))))))

  message-makes : Makes n 1 (at 0) (λ _. ended) (fields sub)
  unfolding step step_by step_in final final_by models among
  message-makes = fields-makes (λ _. ended) refl refl attributes
    where
      attributes : (v : Bool) → Makes n 1 (at (elim v [ true ↦ 2 | false ↦ 1 ])) (λ _. ended) (get_attributes sub)
      attributes true = attributes-makes _ 2 refl refl refl refl
      attributes false = attributes-makes _ 1 refl refl refl refl

  term-makes : Makes n 2 (at 0) (λ x. elim x.value [ true ↦ ended | false ↦ anywhere ]) (term_fields sub)
  unfolding term_fields step step_by step_in final final_by models among
  term-makes = then (expect_byte-makes 45 refl) (fields-makes (λ v. elim v [ true ↦ ended | false ↦ anywhere ]) refl refl attributes)
    where
      attributes : (v : Bool)
          → Makes n 2 (at (elim v [ true ↦ 2 | false ↦ 1 ])) (λ _. elim v [ true ↦ ended | false ↦ anywhere ])
          (get_attributes sub)
      attributes true = attributes-makes _ 2 refl refl refl refl
      attributes false = forget (attributes-makes 1 1 refl refl refl refl)

-- the marks inside an entry; a comment's fit each kind of comment
abbrev pub Inner : (n : ℕ) → List ℕ → Entry → List Mark → Type 0
Inner n s message ms = Content (edge s) n Kind.message 0 ms
Inner n s term ms = Content (edge s) n Kind.term 0 ms
Inner n s (comment l) ms = (k : ℕ) → step k 0 Kind.comment_line ≡ some 0 → Run (edge s) n k 0 0 ms

module _ {n : ℕ} {sub : Inside} (law : InsideFormed n sub) where
  abbrev Formed : List ℕ → Out Entry → Type 0
  Formed s o = Holds (λ e ms j. (edge s j ≡ true) × Inner n s e ms) o

  as_message-formed : (s : List ℕ) (o : Out Fields) → Made n 1 (at 0) (λ _. ended) s o → Formed s (as_message o)
  unfolding as_message
  as_message-formed s (ok x ms j) (made e l) =
      pick (Formed s) (x.value || not (eqb x.attributes 0)) _ _ (λ q. (e, leads-content l)) (λ q. tt)
  as_message-formed s (bad f j) m = tt
  as_message-formed s (deep j) m = tt

  as_term-formed : (s : List ℕ) (o : Out Fields)
      → Made n 2 (at 0) (λ x. elim x.value [ true ↦ ended | false ↦ anywhere ]) s o → Formed s (as_term o)
  unfolding as_term
  as_term-formed s (ok x ms j) (made e l) = by_case x.value (λ q. rw (q, as_term) (e, leads-content (rw q at l))) (λ q. rw (q, as_term) tt)
  as_term-formed s (bad f j) m = tt
  as_term-formed s (deep j) m = tt

  as_comment-formed : (s : List ℕ) (o : Out ℕ)
      → ((k : ℕ) → step k 0 Kind.comment_line ≡ some 0 → Made n k (at 0) (λ _. at 0) s o) → Formed s (as_comment o)
  unfolding as_comment step step_by step_in models among
  as_comment-formed s (ok l ms j) m = (place (m 3 refl), λ k z. run (m k z))
    where
      place : {k : ℕ} → Made n k (at 0) (λ _. at 0) s (ok l ms j) → edge s j ≡ true
      place (made e l) = e

      run : {k : ℕ} → Made n k (at 0) (λ _. at 0) s (ok l ms j) → Run (edge s) n k 0 0 ms
      run (made e (by w)) = w
  as_comment-formed s (bad f j) m = tt
  as_comment-formed s (deep j) m = tt

  pub entry-formed : (s : List ℕ) → Formed s (get_entry sub s)
  unfolding get_entry
  entry-formed s = pick (Formed s) (starts_with 35 s) _ _ (λ q. as_comment-formed s (get_comment s) (λ k z. (comment-makes z).on s))
      (λ q. pick (Formed s) (starts_with 45 s) _ _ (λ q. as_term-formed s (term_fields sub s) ((term-makes law).on s))
      (λ q. as_message-formed s (fields sub s) ((message-makes law).on s)))

  -- every node that an entry's marks open closes
  pub entry-levels : (s : List ℕ) {e : Entry} {ms : List Mark} {k : ℕ} → get_entry sub s ≡ ok e ms k → Levels 0 ms
  unfolding step step_by step_in models among
  entry-levels s {e} {ms} h = go e (subst (Formed s) h (entry-formed s)).1
    where
      go : (e : Entry) → Inner n s e ms → Levels 0 ms
      go message c = run-levels c.run
      go term c = run-levels c.run
      go (comment l) c = run-levels (c 3 refl)

-- ---- junk

fresh-ascii : (b : ℕ) → is_fresh b ≡ true → ascii b ≡ true
fresh-ascii b q =
    or-ascii (is_letter b) (eqb b 45 || eqb b 35) (ascii b) (letter-ascii b)
    (or-ascii (eqb b 45) (eqb b 35) (ascii b) (ascii-of 45 refl b) (ascii-of 35 refl b)) q

next-clear : (fresh : Bool) (s : List ℕ) → clear (drop (to_next_entry fresh s) s) ≡ true
unfolding to_next_entry clear
next-clear fresh [] = refl
next-clear fresh (b ∷ bs) =
    by_case (fresh && is_fresh b) (λ q. rw (q, to_next_entry) (fresh-ascii b ((and-eq-true_iff fresh (is_fresh b)).0 q).1))
    (λ q. rw (q, to_next_entry) (next-clear (eqb b 10) bs))

-- junk ends at an entry or at the end, wherever reading stopped
pub junk-edge : (k : ℕ) (s : List ℕ) → k ≤ length s → edge s (junk_end k s) ≡ true
unfolding junk_end
junk-edge k s l =
    edge-clear s (junk_end k s) (junk_end-within k s l).1
    (subst (λ r. clear r ≡ true) (drop-drop (to_next_entry (line_starts_at k s) (drop k s)) k s)
    (next-clear (line_starts_at k s) (drop k s)))
