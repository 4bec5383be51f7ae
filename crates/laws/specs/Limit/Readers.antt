-- Every reader keeps its answers, with more openings allowed inside.
use Rattle.std.specs.Prelude.{ℕ, zero, suc, ◌+◌, ◌≤◌, refl, Bool, ◌&&◌, drop, take}
use Rattle.std.proofs.Common.{not-suc-le-zero, le_of_suc-le-suc, ap}
use Rattle.std.proofs.Math.Bool.{true, false}
use mathlib.Core.List.{List, [], ◌∷◌}
use Rattle.std.proofs.Math.Dec.{eqb}
use Rattle.syntax.specs.Bytes.{starts_with, starts, second, is_letter, is_digit, spaces}
use Rattle.syntax.specs.Marks.{text_node}
use Rattle.syntax.specs.Reader.{Out, ok, bad, deep, after, ◌>>◌, wrap, Turn}
use Rattle.syntax.specs.Pattern.{Inside, State, with_placeable, pattern_turn, finish, first_state, get_pattern}
use Rattle.syntax.specs.Expression.{Inline, string, number, variable, function, inner, message, term, as_inline}
use Rattle.syntax.specs.Expression.{call_arguments, get_call_arguments, term_reference, reference, nested_placeable}
use Rattle.syntax.specs.Expression.{non_literal, get_inline_expression, is_among, named_value, named_argument, after_reference}
use Rattle.syntax.specs.Expression.{past_blank, argument_by, argument_turn, parenthesised, variant, variant_kind}
use Rattle.syntax.specs.Expression.{variant_with, after_star, turn_after, variant_turn, get_variants, select_from}
use Rattle.syntax.specs.Expression.{after_inline, in_select, inline_or_select, get_expression, braced, too_deep, level}
use Rattle.syntax.specs.Core.{get_attribute, attribute_by, attribute_turn, get_attributes, fields, term_fields, as_message, as_term, get_entry}
use Rattle.laws.specs.Bytes.{pick₂}
use Rattle.laws.specs.Attribute.{braced_once, braced-once}
use Rattle.laws.specs.Limit.{Kept, same, lost, Keeps, keeps, kept-after, kept_by, kept_next, bind, then}
use Rattle.laws.specs.Limit.{node-keeps, TurnKept, same_turn, lost_turn, turn_of-kept, repeat-keeps}

pub record InsideKeeps (sub sub' : Inside) : Type 0 where
  pub braced : Keeps sub.braced sub'.braced
  pub parenthesised : Keeps sub.parenthesised sub'.parenthesised

module _ {sub sub' : Inside} (law : InsideKeeps sub sub') where
  -- ---- patterns

  placeable-kept : {o o' : Out (Unit {0})} (st : State) → Kept o o' → TurnKept (with_placeable st o) (with_placeable st o')
  unfolding with_placeable
  placeable-kept st same = same_turn
  placeable-kept st (lost k e) = lost_turn k (ap (with_placeable st) e)

  pattern_turn-kept : (st : State) (s : List ℕ) → TurnKept (pattern_turn sub st s) (pattern_turn sub' st s)
  unfolding pattern_turn
  pattern_turn-kept st [] = same_turn
  pattern_turn-kept st (b ∷ bs) = pick₂ TurnKept (eqb b 123) _ _ _ _ (λ q. placeable-kept st (law.braced.on (b ∷ bs))) (λ q. same_turn)

  pub pattern-keeps : Keeps (get_pattern sub) (get_pattern sub')
  unfolding get_pattern finish
  pattern-keeps =
      record {
        on =
            λ s. kept_by (finish s) (λ k. refl)
            (kept-after [] (first_state s).used
            ((repeat-keeps pattern_turn-kept (first_state s)).on (drop (first_state s).used s)));
      }

  -- ---- inline expressions

  call-keeps : Keeps (get_call_arguments sub) (get_call_arguments sub')
  unfolding get_call_arguments call_arguments
  call-keeps =
      then keeps
      (record {
        on =
            λ s. pick₂ Kept (starts_with 40 s) _ _ _ _ (λ q. (then law.parenthesised keeps).on s) (λ q. same);
      })

  term-keeps : Keeps (term_reference sub) (term_reference sub')
  unfolding term_reference
  term-keeps = then keeps (then keeps (bind keeps (λ a. then call-keeps keeps)))

  reference-keeps : Keeps (reference sub) (reference sub')
  unfolding reference
  reference-keeps = record { on = λ s. (bind keeps (λ n. bind call-keeps (λ v. keeps))).on s }

  nested-keeps : Keeps (nested_placeable sub) (nested_placeable sub')
  unfolding nested_placeable
  nested-keeps = then law.braced keeps

  as_inline-kept : {o o' : Out Inline} → Kept o o' → Kept (as_inline o) (as_inline o')
  unfolding as_inline
  as_inline-kept h = kept_by as_inline (λ k. refl) h

  pub inline-keeps : (v : Bool) → Keeps (get_inline_expression sub v) (get_inline_expression sub' v)
  inline-keeps v = record { on = go }
    where
      go : (s : List ℕ) → Kept (get_inline_expression sub v s) (get_inline_expression sub' v s)
      go [] = unfold get_inline_expression in same
      go (b ∷ bs) = unfold get_inline_expression non_literal in
          (pick₂ Kept (eqb b 34) _ _ _ _ (λ q. same) (λ q. pick₂ Kept (is_digit b) _ _ _ _ (λ q. same)
          (λ q. pick₂ Kept (is_letter b) _ _ _ _ (λ q. as_inline-kept (reference-keeps.on (b ∷ bs))) (λ q. pick₂ Kept v _ _ _ _ (λ q. same)
          (λ q. pick₂ Kept (eqb b 45) _ _ _ _
          (λ q. pick₂ Kept (starts is_letter bs) _ _ _ _ (λ q. as_inline-kept (term-keeps.on (b ∷ bs))) (λ q. same))
          (λ q. pick₂ Kept (eqb b 36) _ _ _ _ (λ q. same)
          (λ q. pick₂ Kept (eqb b 123) _ _ _ _ (λ q. as_inline-kept (nested-keeps.on (b ∷ bs))) (λ q. same))))))))

  -- ---- arguments

  value_keeps : Keeps (named_value sub) (named_value sub')
  unfolding named_value
  value_keeps = then keeps (then keeps (inline-keeps true))

  named-kept : (names : List (List ℕ)) (n k : ℕ) (s : List ℕ) → Kept (named_argument sub names n k s) (named_argument sub' names n k s)
  unfolding named_argument ◌>>◌ wrap
  named-kept names n k s = pick₂ Kept (is_among (take n s) names) _ _ _ _ (λ q. same)
      (λ q. kept_next s (kept_by (wrap 26) (λ j. refl) (kept-after (text_node 9 0 n) k (value_keeps.on (drop k s)))) (λ _. keeps))

  argument_by-kept : (names : List (List ℕ)) (s : List ℕ) (o : Out Inline) → Kept (argument_by sub names s o) (argument_by sub' names s o)
  unfolding argument_by after_reference
  argument_by-kept names s (ok (message n false) ms k) =
      pick₂ Kept (starts_with 58 (drop (past_blank k s) s)) _ _ _ _ (λ q. named-kept names n (past_blank k s) s)
      (λ q. same)
  argument_by-kept names s (ok (message n true) ms k) = same
  argument_by-kept names s (ok string ms k) = same
  argument_by-kept names s (ok number ms k) = same
  argument_by-kept names s (ok variable ms k) = same
  argument_by-kept names s (ok function ms k) = same
  argument_by-kept names s (ok inner ms k) = same
  argument_by-kept names s (ok (term a) ms k) = same
  argument_by-kept names s (bad e k) = same
  argument_by-kept names s (deep k) = same

  argument-kept : (names : List (List ℕ)) (s : List ℕ) (o o' : Out Inline) → Kept o o'
      → Kept (argument_by sub names s o) (argument_by sub' names s o')
  unfolding argument_by
  argument-kept names s o o' same = argument_by-kept names s o
  argument-kept names s o o' (lost k e) = lost k (ap (argument_by sub names s) e)

  argument_turn-kept : (names : List (List ℕ)) (s : List ℕ) → TurnKept (argument_turn sub names s) (argument_turn sub' names s)
  unfolding argument_turn
  argument_turn-kept names [] = same_turn
  argument_turn-kept names (b ∷ bs) =
      pick₂ TurnKept (eqb b 41) _ _ _ _ (λ q. same_turn)
      (λ q. turn_of-kept (argument-kept names (b ∷ bs) _ _ ((inline-keeps false).on (b ∷ bs))))

  parenthesised-keeps : Keeps (parenthesised sub) (parenthesised sub')
  unfolding parenthesised
  parenthesised-keeps = node-keeps 25 (then keeps (then keeps (then (repeat-keeps argument_turn-kept []) keeps)))

  -- ---- variants and placeables

  variant-keeps : Keeps (variant sub) (variant sub')
  unfolding variant
  variant-keeps = then keeps (then keeps (bind pattern-keeps (λ v. keeps)))

  star-kept : (v d : Bool) (s : List ℕ) → TurnKept (after_star sub v d s) (after_star sub' v d s)
  unfolding after_star variant_with
  star-kept v d s = pick₂ TurnKept (v && d) _ _ _ _ (λ q. same_turn)
      (λ q. pick₂ TurnKept (starts_with 91 s) _ _ _ _
      (λ q. turn_of-kept ((then (node-keeps (variant_kind v) variant-keeps) keeps).on s)) (λ q. same_turn))

  turn_after-kept : {t t' : Turn Bool (Unit {0})} (k : ℕ) → TurnKept t t' → TurnKept (turn_after k t) (turn_after k t')
  unfolding turn_after after
  turn_after-kept k same_turn = same_turn
  turn_after-kept k (lost_turn j e) = lost_turn (k + j) (ap (turn_after k) e)

  variant_turn-kept : (v : Bool) (s : List ℕ) → TurnKept (variant_turn sub v s) (variant_turn sub' v s)
  unfolding variant_turn
  variant_turn-kept v s =
      pick₂ TurnKept (starts_with 42 s) _ _ _ _ (λ q. turn_after-kept 1 (star-kept true v (drop 1 s)))
      (λ q. star-kept false v s)

  select-keeps : (sh : Inline) → Keeps (select_from sub sh) (select_from sub' sh)
  unfolding select_from get_variants
  select-keeps sh =
      then keeps
      (then keeps
      (then keeps
      (then keeps (bind keeps (λ v. then keeps (then keeps (then (repeat-keeps variant_turn-kept false) keeps)))))))

  expression-keeps : Keeps (get_expression sub) (get_expression sub')
  unfolding get_expression inline_or_select after_inline in_select
  expression-keeps = record {
    on = λ s. kept_by in_select (λ k. refl)
        ((bind (inline-keeps false)
        (λ sh. then keeps
        (record {
          on =
              λ r. pick₂ Kept (starts_with 45 r && second (λ b. eqb b 62) r) _ _ _ _ (λ q. (select-keeps sh).on r)
              (λ q. same);
        }))).on s);
  }

  braced-keeps : Keeps (braced sub) (braced sub')
  unfolding braced_once
  braced-keeps = rw (braced-once sub, braced-once sub') (then keeps (then keeps (then expression-keeps keeps)))

  -- ---- entries

  attribute-keeps : Keeps (get_attribute sub) (get_attribute sub')
  unfolding get_attribute
  attribute-keeps = node-keeps 10 (then keeps (then keeps (then keeps (bind pattern-keeps (λ v. keeps)))))

  attribute_by-kept : {o o' : Out (Unit {0})} (n k : ℕ) → Kept o o' → TurnKept (attribute_by n k o) (attribute_by n k o')
  unfolding attribute_by
  attribute_by-kept n k same = same_turn
  attribute_by-kept n k (lost j e) = lost_turn (k + j) (ap (attribute_by n k) e)

  attribute_turn-kept : (n : ℕ) (s : List ℕ) → TurnKept (attribute_turn sub n s) (attribute_turn sub' n s)
  unfolding attribute_turn
  attribute_turn-kept n s =
      pick₂ TurnKept (starts_with 46 (drop (spaces s) s)) _ _ _ _
      (λ q. attribute_by-kept n (spaces s + 1) (attribute-keeps.on (drop (spaces s + 1) s))) (λ q. same_turn)

  fields-keeps : Keeps (fields sub) (fields sub')
  unfolding fields get_attributes
  fields-keeps =
      bind keeps
      (λ n. then keeps
      (then keeps (bind pattern-keeps (λ v. then keeps (bind (repeat-keeps attribute_turn-kept 0) (λ c. keeps))))))

  pub entry-keeps : Keeps (get_entry sub) (get_entry sub')
  unfolding get_entry term_fields as_term as_message
  entry-keeps = record {
    on = λ s. pick₂ Kept (starts_with 35 s) _ _ _ _ (λ q. same)
        (λ q. pick₂ Kept (starts_with 45 s) _ _ _ _ (λ q. kept_by as_term (λ k. refl) ((then keeps fields-keeps).on s))
        (λ q. kept_by as_message (λ k. refl) (fields-keeps.on s)));
  }

pub level-keeps : (n m : ℕ) → n ≤ m → InsideKeeps (level n) (level m)
unfolding level too_deep
level-keeps zero m l = record { braced = record { on = λ s. lost 0 refl }; parenthesised = record { on = λ s. lost 0 refl } }
level-keeps (suc n) zero l = absurd (not-suc-le-zero l)
level-keeps (suc n) (suc m) l = let h = level-keeps n m (le_of_suc-le-suc l) in
    record { braced = braced-keeps h; parenthesised = parenthesised-keeps h }
