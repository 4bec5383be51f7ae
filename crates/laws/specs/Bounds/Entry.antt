-- core.rs within bounds: attributes, entries, and the ends of junk.
use Rattle.std.specs.Prelude.{ℕ, suc, ◌+◌, ◌≤◌, Bool, ◌&&◌, ◌||◌, List, [], ◌∷◌, drop, length, eqb}
use Rattle.std.proofs.Common.{suc-le-suc, arith}
use Rattle.std.proofs.Math.Bool.{not}
use Rattle.std.proofs.Math.ListN.{length-drop}
use Rattle.syntax.specs.Bytes.{starts_with, is_letter, spaces}
use Rattle.syntax.specs.Reader.{Out}
use Rattle.syntax.specs.Pattern.{Inside}
use Rattle.syntax.specs.Core.{get_attribute, attribute_by, attribute_turn, get_attributes, Fields, fields, term_fields}
use Rattle.syntax.specs.Core.{as_message, as_term, as_comment, get_entry, to_next_entry, line_starts_at, junk_end}
use Rattle.laws.specs.Bytes.{pick, starts_with-some}
use Rattle.laws.specs.Bounds.{uses-nil, uses-less, uses-after, Bounded, used, stopped, too_deep, bounded-less}
use Rattle.laws.specs.Bounds.{Bounds, bind, then, less, pure-bounds, node-bounds, TurnBounded, goes, ends}
use Rattle.laws.specs.Bounds.{TurnBounds, repeat-bounds}
use Rattle.laws.specs.Bounds.Helper.{inline-bounds, block-bounds, expect_byte-bounds}
use Rattle.laws.specs.Bounds.Comment.{comment-bounded}
use Rattle.laws.specs.Bounds.Pattern.{InsideBounds, pattern-bounds}
use Rattle.laws.specs.Bounds.Expression.{name-bounds, value-bounds}

module _ {n : ℕ} where
  attribute_by-bounded : {s : List ℕ} {o : Out (Unit {0})} (i k : ℕ) → k ≤ length s → Bounded n (λ _. 16) (drop k s) o
      → TurnBounded n 1 0 s (attribute_by i k o)
  unfolding attribute_by
  attribute_by-bounded i k h (used u) = goes (uses-less {c = 16} (omega arith) (uses-after {c = 0} (uses-nil k h (omega arith)) u))
  attribute_by-bounded i k h (stopped j g) = ends (used (uses-nil 0 (omega arith) (omega arith)))
  attribute_by-bounded {s} i k h (too_deep j g l) = ends (too_deep (k + j) (omega arith) (omega (arith, length-drop k s)))

  as_message-bounded : {c : ℕ} {s : List ℕ} {o : Out Fields} → Bounded n (λ _. c) s o → Bounded n (λ _. c) s (as_message o)
  unfolding as_message
  as_message-bounded {c} {s} (used {a = f} {k = k} u) =
      pick (Bounded n (λ _. c) s) (f.value || not (eqb f.attributes 0)) _ _ (λ q. used u)
      (λ q. stopped k u.within)
  as_message-bounded (stopped k h) = stopped k h
  as_message-bounded (too_deep k h g) = too_deep k h g

  as_term-bounded : {c : ℕ} {s : List ℕ} {o : Out Fields} → Bounded n (λ _. c) s o → Bounded n (λ _. c) s (as_term o)
  unfolding as_term
  as_term-bounded {c} {s} (used {a = f} {k = k} u) = pick (Bounded n (λ _. c) s) f.value _ _ (λ q. used u) (λ q. stopped k u.within)
  as_term-bounded (stopped k h) = stopped k h
  as_term-bounded (too_deep k h g) = too_deep k h g

  as_comment-bounded : {c : ℕ} {s : List ℕ} {o : Out ℕ} → Bounded n (λ _. c) s o → Bounded n (λ _. c) s (as_comment o)
  unfolding as_comment
  as_comment-bounded (used u) = used u
  as_comment-bounded (stopped k h) = stopped k h
  as_comment-bounded (too_deep k h g) = too_deep k h g

module _ {n : ℕ} {sub : Inside} (law : InsideBounds n sub) where
  pub attribute-bounds : Bounds n (λ _. 16) (get_attribute sub)
  unfolding get_attribute
  attribute-bounds = node-bounds 10 (omega arith) (then name-bounds (then inline-bounds (then (expect_byte-bounds 61) (value-bounds law))))

  pub attribute_turn-bounds : TurnBounds n (attribute_turn sub)
  unfolding attribute_turn
  attribute_turn-bounds = record {
    on = λ i s. pick (TurnBounded n 1 0 s) (starts_with 46 (drop (spaces s) s)) _ _
        (λ q. attribute_by-bounded i (spaces s + 1)
        (omega (arith, starts_with-some 46 (drop (spaces s) s) q, length-drop (spaces s) s))
        (attribute-bounds.on (drop (spaces s + 1) s)))
        (λ q. ends (used (uses-nil 0 (omega arith) (omega arith))));
  }

  pub attributes-bounds : Bounds n (λ _. 0) (get_attributes sub)
  unfolding get_attributes
  attributes-bounds = repeat-bounds attribute_turn-bounds 0

  pub fields-bounds : Bounds n (λ _. 14) (fields sub)
  unfolding fields
  fields-bounds =
      bind name-bounds
      (λ i. then inline-bounds
      (then (expect_byte-bounds 61)
      (bind (less {d = λ _. 0} (λ v. omega arith) (pattern-bounds law))
      (λ v. then block-bounds (bind attributes-bounds (λ c. pure-bounds _))))))

  pub term_fields-bounds : Bounds n (λ _. 22) (term_fields sub)
  unfolding term_fields
  term_fields-bounds = then (expect_byte-bounds 45) fields-bounds

  pub entry-bounds : Bounds n (λ _. 6) (get_entry sub)
  unfolding get_entry
  entry-bounds = record {
    on = λ s. pick (Bounded n (λ _. 6) s) (starts_with 35 s) _ _ (λ q. as_comment-bounded (comment-bounded s q))
        (λ q. pick (Bounded n (λ _. 6) s) (starts_with 45 s) _ _
        (λ q. bounded-less (λ _. omega arith) (as_term-bounded (term_fields-bounds.on s)))
        (λ q. bounded-less (λ _. omega arith) (as_message-bounded (fields-bounds.on s))));
  }

pub to_next_entry-le : (fresh : Bool) (s : List ℕ) → to_next_entry fresh s ≤ length s
unfolding to_next_entry
to_next_entry-le fresh [] = omega arith
to_next_entry-le fresh (b ∷ bs) =
    pick (λ k. k ≤ suc (length bs)) (fresh && (is_letter b || (eqb b 45 || eqb b 35))) 0
    (suc (to_next_entry (eqb b 10) bs)) (λ q. omega arith) (λ q. suc-le-suc (to_next_entry-le (eqb b 10) bs))

-- junk ends after where reading stopped, and within the source
pub junk_end-within : (k : ℕ) (s : List ℕ) → k ≤ length s → (k ≤ junk_end k s) × (junk_end k s ≤ length s)
unfolding junk_end
junk_end-within k s h = (omega arith, omega (arith, to_next_entry-le (line_starts_at k s) (drop k s), length-drop k s))
