-- expression.rs, with get_variants and get_placeable, within bounds.
use Prim.Native.Nat.{ℕ, zero, suc, ◌+◌, ◌-◌, ◌≤◌}
use Rattle.std.proofs.Common.{arith, length-drop}
use Rattle.std.specs.Prelude.{Bool, ◌&&◌, ◌||◌, drop, length, take}
use Rattle.std.proofs.Math.Bool.{true, false}
use mathlib.Core.List.{List, [], ◌∷◌}
use Rattle.std.proofs.Math.Dec.{eqb}
use Rattle.syntax.specs.Bytes.{starts_with, starts, second, all, is_letter, is_digit, is_callee_part}
use Rattle.syntax.specs.Marks.{Mark}
use Rattle.syntax.specs.Reader.{Out, ok, bad, deep, after, ◌>>=◌, ◌>>◌, pure, Turn, turn_of}
use Rattle.syntax.specs.Helper.{skip_blank, skip_unicode_escape_sequence, get_identifier}
use Rattle.syntax.specs.Pattern.{Inside, get_pattern}
use Rattle.syntax.specs.Expression.{Inline, string, number, variable, function, inner, message, term, inline_kind}
use Rattle.syntax.specs.Expression.{Expression, inline, select, is_term_attribute, no_term_attribute}
use Rattle.syntax.specs.Expression.{as_inline, escape_turn, string_turn, string_literal, as_string, number_literal}
use Rattle.syntax.specs.Expression.{call_arguments, get_call_arguments, get_attribute_accessor, term_reference}
use Rattle.syntax.specs.Expression.{variable_reference, message_reference, function_reference, reference_by, reference}
use Rattle.syntax.specs.Expression.{nested_placeable, no_inline, non_literal, get_inline_expression, is_among, is_none}
use Rattle.syntax.specs.Expression.{separator, positional, named_value, named_argument, after_reference, past_blank}
use Rattle.syntax.specs.Expression.{argument_by, argument_turn, parenthesised, key_text, get_variant_key, needs_value}
use Rattle.syntax.specs.Expression.{variant, variant_kind, end_variants, variant_with, after_star, turn_after, variant_turn}
use Rattle.syntax.specs.Expression.{get_variants, selector, alone, needs_line_end, select_from, after_inline, in_select}
use Rattle.syntax.specs.Expression.{inline_or_select, get_expression, braced, too_deep, level}
use Rattle.laws.specs.Bytes.{pick, starts_with-some}
use Rattle.laws.specs.Attribute.{braced_once, braced-once}
use Rattle.laws.specs.Bounds as Bounds
use Rattle.laws.specs.Bounds.{Uses, uses-nil, uses-text, uses-less, uses-after, uses-node, Bounded, used, stopped}
use Rattle.laws.specs.Bounds.{bounded-less, after-bounded, wrap-bounded, next-bounded, Bounds, bind-by, bind}
use Rattle.laws.specs.Bounds.{then, then-inside, less, pure-bounds, fail-bounds, node-bounds, TurnBounded, goes}
use Rattle.laws.specs.Bounds.{ends, turn_of-bounded, turn-less, TurnBounds, repeat-bounds}
use Rattle.laws.specs.Bounds.Helper.{inline-bounds, eol-bounds, blank-bounds, take_byte_if-bounds}
use Rattle.laws.specs.Bounds.Helper.{expect_byte-bounds, number_literal-bounds, identifier-bounds, escape-bounds}
use Rattle.laws.specs.Bounds.Pattern.{InsideBounds, spare, pattern-bounds}

-- the room to spare of a select, past its selector
abbrev of_select : Expression → ℕ
of_select (inline i) = 0
of_select select = 16

select-le : (e : Expression) → of_select e ≤ 16
select-le (inline i) = omega arith
select-le select = omega arith

-- ---- readers of no nesting

module _ {n : ℕ} where
  pub name-bounds : Bounds n (λ _. 6) (get_identifier 9)
  name-bounds = identifier-bounds 9

  escape-bounded : (b : ℕ) (bs : List ℕ) → TurnBounded n 1 0 (b ∷ bs) (escape_turn (b ∷ bs) bs)
  unfolding escape_turn
  escape-bounded b [] = ends ((fail-bounds _).on (b ∷ []))
  escape-bounded b (c ∷ cs) = pick T (eqb c 92 || (eqb c 123 || eqb c 34)) _ _ (λ q. goes (uses-nil 2 (omega arith) (omega arith)))
      (λ q. pick T (eqb c 117) _ _ (λ q. unicode 4)
      (λ q. pick T (eqb c 85) _ _ (λ q. unicode 6) (λ q. ends ((fail-bounds _).on (b ∷ c ∷ cs)))))
    where
      T : Turn (Unit {0}) (Unit {0}) → Type 0
      T = TurnBounded n 1 0 (b ∷ c ∷ cs)

      unicode : (len : ℕ) → T (turn_of (after [] 2 (skip_unicode_escape_sequence len cs)))
      unicode len =
          turn-less (omega arith) (omega arith)
          (turn_of-bounded {d = 0}
          (after-bounded {c = 16} (uses-nil 2 (omega arith) (omega arith)) ((escape-bounds len).on cs)))

  pub string_turn-bounds : TurnBounds n string_turn
  string_turn-bounds = record { on = go }
    where
      go : (u : Unit {0}) (s : List ℕ) → TurnBounded n 1 0 s (string_turn u s)
      go u [] = unfold string_turn in (ends (used (uses-nil 0 (omega arith) (omega arith))))
      go u (b ∷ bs) = unfold string_turn in
          (pick (TurnBounded n 1 0 (b ∷ bs)) (eqb b 92) _ _ (λ q. escape-bounded b bs)
          (λ q. pick (TurnBounded n 1 0 (b ∷ bs)) (eqb b 34) _ _ (λ q. ends (used (uses-nil 0 (omega arith) (omega arith))))
          (λ q. pick (TurnBounded n 1 0 (b ∷ bs)) (eqb b 10) _ _ (λ q. ends ((fail-bounds _).on (b ∷ bs)))
          (λ q. goes (uses-nil 1 (omega arith) (omega arith))))))

  pub string-bounds : Bounds n (λ _. 16) string_literal
  unfolding string_literal
  string-bounds = then (expect_byte-bounds 34) (then (repeat-bounds string_turn-bounds tt) (expect_byte-bounds 34))

  as_string-bounded : {s : List ℕ} {o : Out (Unit {0})} → Bounded n (λ _. 16) s o → Bounded n (λ _. 14) s (as_string o)
  unfolding as_string
  as_string-bounded (used {k = k} u) = used (uses-text k 19 1 (k - 1) u.within (omega (arith, u.room)))
  as_string-bounded (stopped k h) = stopped k h
  as_string-bounded (Bounds.too_deep k h g) = Bounds.too_deep k h g

  pub number-bounds : Bounds n (λ _. 6) number_literal
  unfolding number_literal
  number-bounds = then (number_literal-bounds 20) (pure-bounds _)

  pub accessor-bounds : Bounds n (λ _. 0) get_attribute_accessor
  unfolding get_attribute_accessor
  accessor-bounds = record {
    on =
        λ s. pick (Bounded n (λ _. 0) s) (starts_with 46 s) _ _
        (λ q. (less (λ _. omega arith) (then (then (expect_byte-bounds 46) name-bounds) (pure-bounds true))).on s)
        (λ q. used (uses-nil 0 (omega arith) (omega arith)));
  }

  pub variable-bounds : Bounds n (λ _. 14) variable_reference
  unfolding variable_reference
  variable-bounds = then (expect_byte-bounds 36) (then name-bounds (pure-bounds _))

  no_inline-bounds : {c : ℕ} (v : Bool) → Bounds n (λ _. c) (no_inline v)
  unfolding no_inline
  no_inline-bounds true = fail-bounds _
  no_inline-bounds false = fail-bounds _

  reference_by-bounds : (z : List ℕ) (i : ℕ) (v : Bool) → Bounds n (λ _. 0) (reference_by z i v)
  unfolding reference_by function_reference message_reference
  reference_by-bounds z i true =
      record {
        on =
            λ s. pick (Bounded n (λ _. 0) s) (all is_callee_part (take i z)) _ _ (λ q. (pure-bounds function).on s)
            (λ q. (fail-bounds _).on s);
      }
  reference_by-bounds z i false = bind accessor-bounds (λ a. pure-bounds _)

  pub separator-bounds : (names : List (List ℕ)) → Bounds n (λ _. 0) (separator names)
  unfolding separator
  separator-bounds names = then blank-bounds (then (take_byte_if-bounds 44) (then blank-bounds (pure-bounds names)))

  pub key-bounds : Bounds n (λ _. 14) get_variant_key
  unfolding get_variant_key
  key-bounds = then blank-bounds (then {c = 6} key (then blank-bounds (expect_byte-bounds 93)))
    where
      key : Bounds n (λ _. 6) key_text
      key = unfold key_text in
          (record {
            on =
                λ s. pick (Bounded n (λ _. 6) s) (starts (λ b. is_digit b || eqb b 45) s) _ _
                (λ q. (number_literal-bounds 17).on s) (λ q. (identifier-bounds 18).on s);
          })

  -- a value that has to be there gives its room
  needs_value-bounds : (v : Bool) → Bounds n (λ _. 4 - spare v) (needs_value v)
  unfolding needs_value
  needs_value-bounds true = pure-bounds tt
  needs_value-bounds false = fail-bounds _

  end_variants-bounds : (v : Bool) → Bounds n (λ _. 0) (end_variants v)
  unfolding end_variants
  end_variants-bounds true = pure-bounds tt
  end_variants-bounds false = fail-bounds _

  line_end-bounds : (v : Bool) → Bounds n (λ _. 0) (needs_line_end v)
  unfolding needs_line_end
  line_end-bounds true = pure-bounds tt
  line_end-bounds false = fail-bounds _

  selector-bounds : (sh : Inline) → Bounds n (λ _. 0) (selector sh)
  unfolding selector
  selector-bounds string = pure-bounds tt
  selector-bounds number = pure-bounds tt
  selector-bounds variable = pure-bounds tt
  selector-bounds function = pure-bounds tt
  selector-bounds (term true) = pure-bounds tt
  selector-bounds (term false) = fail-bounds _
  selector-bounds (message i true) = fail-bounds _
  selector-bounds (message i false) = fail-bounds _
  selector-bounds inner = fail-bounds _

  -- ---- what an inline expression is put in

  as_inline-bounded : {c : ℕ} {s : List ℕ} {o : Out Inline} → 2 ≤ c → Bounded n (λ _. c) s o → Bounded n (λ _. c - 2) s (as_inline o)
  unfolding as_inline
  as_inline-bounded l (used {a} u) = used (uses-node (inline_kind a) l u)
  as_inline-bounded l (stopped k h) = stopped k h
  as_inline-bounded l (Bounds.too_deep k h g) = Bounds.too_deep k h g

  attribute-bounds : (v : Bool) → Bounds n (λ _. 0) (no_term_attribute v)
  unfolding no_term_attribute
  attribute-bounds true = fail-bounds _
  attribute-bounds false = pure-bounds tt

  alone-bounds : (i : Inline) → Bounds n of_select (alone i)
  unfolding alone pure
  alone-bounds i =
      less (λ e. omega arith)
      (then {d = of_select} (attribute-bounds (is_term_attribute (inline i)))
      (record { on = λ s. used {a = inline i} (uses-nil 0 (omega arith) (omega arith)) }))

  in_select-bounded : {s : List ℕ} (o : Out Expression) → Bounded n (λ v. 4 + of_select v) s o → Bounded n (λ _. 4) s (in_select o)
  unfolding in_select
  in_select-bounded (ok select ms k) (used u) = used (uses-less {c = 18} (omega arith) (uses-node {c = 20} 14 (omega arith) u))
  in_select-bounded (ok (inline i) ms k) (used u) = used u
  in_select-bounded (bad f k) (stopped j h) = stopped j h
  in_select-bounded (deep k) (Bounds.too_deep j h g) = Bounds.too_deep j h g

  turn_after-bounded : {c d : ℕ} {S A : Type 0} {s : List ℕ} {t : Turn S A} → 1 ≤ length s
      → TurnBounded n c d (drop 1 s) t → TurnBounded n c d s (turn_after 1 t)
  unfolding turn_after
  turn_after-bounded l (goes u) = goes (uses-less (omega arith) (uses-after (uses-nil {c = 0} 1 l (omega arith)) u))
  turn_after-bounded l (ends b) = ends (bounded-less (λ _. omega arith) (after-bounded (uses-nil {c = 0} 1 l (omega arith)) b))

-- bytes used, and blanks after them
pub past_blank-least : (k : ℕ) (s : List ℕ) → k ≤ past_blank k s
unfolding past_blank
past_blank-least k s = go (skip_blank (drop k s))
  where
    go : (o : Out (Unit {0})) → k ≤ (elim o [ ok u ms j ↦ k + j | bad f j ↦ k | deep j ↦ k ])
    go (ok a ms j) = omega arith
    go (bad f j) = omega arith
    go (deep j) = omega arith

pub past_blank-within : (k : ℕ) (s : List ℕ) → k ≤ length s → past_blank k s ≤ length s
unfolding past_blank
past_blank-within k s h = go (skip_blank (drop k s)) ((blank-bounds {n = 0}).on (drop k s))
  where
    go : (o : Out (Unit {0})) → Bounded 0 (λ _. 0) (drop k s) o → (elim o [ ok u ms j ↦ k + j | bad f j ↦ k | deep j ↦ k ]) ≤ length s
    go (ok u ms j) (used v) = omega (arith, v.within, length-drop k s)
    go (bad f j) b = h
    go (deep j) b = h

-- ---- readers of nesting

module _ {n : ℕ} {sub : Inside} (law : InsideBounds n sub) where
  pub call_arguments-bounds : Bounds n (λ _. 0) (call_arguments sub)
  call_arguments-bounds = record { on = go }
    where
      go : (s : List ℕ) → Bounded n (λ _. 0) s (call_arguments sub s)
      go [] = unfold call_arguments starts_with in (used (uses-nil 0 (omega arith) (omega arith)))
      go (b ∷ bs) = unfold call_arguments ◌>>◌ in
          (pick (Bounded n (λ _. 0) (b ∷ bs)) (starts_with 40 (b ∷ bs)) _ _
          (λ q. next-bounded (λ a v. omega arith) (law.parenthesised b bs) (λ _. pure-bounds true))
          (λ q. used (uses-nil 0 (omega arith) (omega arith))))

  pub call-bounds : Bounds n (λ _. 0) (get_call_arguments sub)
  unfolding get_call_arguments
  call-bounds = then blank-bounds call_arguments-bounds

  pub term-bounds : Bounds n (λ _. 14) (term_reference sub)
  unfolding term_reference
  term-bounds = then (expect_byte-bounds 45) (then name-bounds (bind accessor-bounds (λ a. then call-bounds (pure-bounds _))))

  pub reference-bounds : Bounds n (λ _. 6) (reference sub)
  unfolding reference
  reference-bounds = record { on = λ s. (bind name-bounds (λ i. bind call-bounds (λ v. reference_by-bounds s i v))).on s }

  nested-bounded : (b : ℕ) (bs : List ℕ) → Bounded n (λ _. 20) (b ∷ bs) (nested_placeable sub (b ∷ bs))
  unfolding nested_placeable ◌>>◌
  nested-bounded b bs = next-bounded (λ a v. omega arith) (law.braced b bs) (λ _. pure-bounds inner)

  pub inline-expression-bounds : (v : Bool) → Bounds n (λ _. 4) (get_inline_expression sub v)
  inline-expression-bounds v = record { on = go }
    where
      go : (s : List ℕ) → Bounded n (λ _. 4) s (get_inline_expression sub v s)
      go [] = unfold get_inline_expression in ((no_inline-bounds v).on [])
      go (b ∷ bs) = unfold get_inline_expression non_literal in
          (pick P (eqb b 34) _ _ (λ q. bounded-less (λ _. omega arith) (as_string-bounded (string-bounds.on s)))
          (λ q. pick P (is_digit b) _ _ (λ q. bounded-less (λ _. omega arith) (number-bounds.on s))
          (λ q. pick P (is_letter b) _ _ (λ q. as_inline-bounded (omega arith) (reference-bounds.on s))
          (λ q. pick P v _ _ (λ q. (no_inline-bounds true).on s)
          (λ q. pick P (eqb b 45) _ _
          (λ q. pick P (starts is_letter bs) _ _
          (λ q. bounded-less (λ _. omega arith) (as_inline-bounded (omega arith) (term-bounds.on s)))
          (λ q. bounded-less (λ _. omega arith) (number-bounds.on s)))
          (λ q. pick P (eqb b 36) _ _ (λ q. bounded-less (λ _. omega arith) (as_inline-bounded (omega arith) (variable-bounds.on s)))
          (λ q. pick P (eqb b 123) _ _
          (λ q. bounded-less (λ _. omega arith) (as_inline-bounded (omega arith) (nested-bounded b bs)))
          (λ q. (no_inline-bounds false).on s))))))))
        where
          s : List ℕ
          s = b ∷ bs

          P : Out Inline → Type 0
          P = Bounded n (λ _. 4) (b ∷ bs)

  -- ---- arguments

  positional-bounded : {c : ℕ} {s : List ℕ} {ms : List Mark} {k : ℕ} (names : List (List ℕ)) → Uses c s ms k
      → Bounded n (λ _. c) s (positional names ms k s)
  unfolding positional
  positional-bounded {c} {s} {k = k} names u = pick (Bounded n (λ _. c) s) (is_none names) _ _
      (λ q. bounded-less (λ _. omega arith) (after-bounded u ((separator-bounds names).on (drop k s))))
      (λ q. bounded-less {c = λ _. 0 + c} (λ _. omega arith)
      (after-bounded {d = λ _. c} (uses-nil k u.within (omega arith)) ((fail-bounds _).on (drop k s))))

  pub named_value-bounds : Bounds n (λ _. 12) (named_value sub)
  unfolding named_value
  named_value-bounds = then (expect_byte-bounds 58) (then blank-bounds (inline-expression-bounds true))

  named-bounded : (names : List (List ℕ)) (i k : ℕ) (s : List ℕ) → k ≤ length s → 1 ≤ k
      → Bounded n (λ _. 16) s (named_argument sub names i k s)
  unfolding named_argument ◌>>◌
  named-bounded names i k s l p = pick (Bounded n (λ _. 16) s) (is_among (take i s) names) _ _ (λ q. stopped k l)
      (λ q. next-bounded (λ a v. omega arith)
      (wrap-bounded 26 (omega arith) (after-bounded {c = 6} (uses-text k 9 0 i l (omega arith)) (named_value-bounds.on (drop k s))))
      (λ _. separator-bounds (take i s ∷ names)))

  argument_by-bounded : {s : List ℕ} (names : List (List ℕ)) (o : Out Inline) → Bounded n (λ _. 4) s o
      → Bounded n (λ _. 4) s (argument_by sub names s o)
  unfolding argument_by after_reference
  argument_by-bounded {s} names (ok (message i false) ms k) (used u) =
      let l = past_blank-least k s in
      let h = past_blank-within k s u.within in
      let p = past_blank k s in
      pick (Bounded n (λ _. 4) s) (starts_with 58 (drop p s)) _ _
      (λ q. bounded-less (λ _. omega arith) (named-bounded names i p s h (omega (arith, u.room))))
      (λ q. positional-bounded names (record { within = h; room = omega (arith, u.room) }))
  argument_by-bounded names (ok (message i true) ms k) (used u) = positional-bounded names u
  argument_by-bounded names (ok string ms k) (used u) = positional-bounded names u
  argument_by-bounded names (ok number ms k) (used u) = positional-bounded names u
  argument_by-bounded names (ok variable ms k) (used u) = positional-bounded names u
  argument_by-bounded names (ok function ms k) (used u) = positional-bounded names u
  argument_by-bounded names (ok inner ms k) (used u) = positional-bounded names u
  argument_by-bounded names (ok (term a) ms k) (used u) = positional-bounded names u
  argument_by-bounded names (bad e k) (stopped j h) = stopped j h
  argument_by-bounded names (deep k) (Bounds.too_deep j h g) = Bounds.too_deep j h g

  pub argument_turn-bounds : TurnBounds n (argument_turn sub)
  argument_turn-bounds = record { on = go }
    where
      go : (names : List (List ℕ)) (s : List ℕ) → TurnBounded n 1 0 s (argument_turn sub names s)
      go names [] = unfold argument_turn in (ends (used (uses-nil 0 (omega arith) (omega arith))))
      go names (b ∷ bs) = unfold argument_turn in
          (pick (TurnBounded n 1 0 (b ∷ bs)) (eqb b 41) _ _ (λ q. ends (used (uses-nil 0 (omega arith) (omega arith))))
          (λ q. turn-less (omega arith) (omega arith)
          (turn_of-bounded {d = 0}
          (argument_by-bounded names (get_inline_expression sub false (b ∷ bs))
          ((inline-expression-bounds false).on (b ∷ bs))))))

  pub parenthesised-bounds : Bounds (suc n) (λ _. 14) (parenthesised sub)
  unfolding parenthesised
  parenthesised-bounds =
      node-bounds 25 (omega arith)
      (then-inside (omega arith) (expect_byte-bounds 40)
      (then blank-bounds (then (repeat-bounds argument_turn-bounds []) (expect_byte-bounds 41))))

  -- ---- variants

  pub value-bounds : Bounds n (λ _. 4) (get_pattern sub >>= needs_value)
  value-bounds = bind-by (λ v u. omega arith) (pattern-bounds law) needs_value-bounds

  pub variant-bounds : Bounds n (λ _. 26) (variant sub)
  unfolding variant
  variant-bounds = then (expect_byte-bounds 91) (then key-bounds value-bounds)

  variant_with-bounds : (default has_default : Bool) → Bounds n (λ _. 24) (variant_with sub default has_default)
  unfolding variant_with
  variant_with-bounds default has_default =
      then (node-bounds (variant_kind default) (omega arith) variant-bounds) (then blank-bounds (pure-bounds _))

  after_star-bounded : (default has_default : Bool) (s : List ℕ) → TurnBounded n 24 0 s (after_star sub default has_default s)
  unfolding after_star
  after_star-bounded default has_default s = pick (TurnBounded n 24 0 s) (default && has_default) _ _ (λ q. ends ((fail-bounds _).on s))
      (λ q. pick (TurnBounded n 24 0 s) (starts_with 91 s) _ _
      (λ q. turn_of-bounded ((variant_with-bounds default has_default).on s))
      (λ q. ends ((end_variants-bounds (default || has_default)).on s)))

  pub variant_turn-bounds : TurnBounds n (variant_turn sub)
  unfolding variant_turn
  variant_turn-bounds = record {
    on =
        λ v s. pick (TurnBounded n 1 0 s) (starts_with 42 s) _ _
        (λ q. turn-less (omega arith) (omega arith)
        (turn_after-bounded (starts_with-some 42 s q) (after_star-bounded true v (drop 1 s))))
        (λ q. turn-less (omega arith) (omega arith) (after_star-bounded false v s));
  }

  pub variants-bounds : Bounds n (λ _. 0) (get_variants sub)
  unfolding get_variants
  variants-bounds = repeat-bounds variant_turn-bounds false

  -- ---- placeables

  pub select-bounds : (sh : Inline) → Bounds n (λ _. 16) (select_from sub sh)
  unfolding select_from
  select-bounds sh =
      then (selector-bounds sh)
      (then (expect_byte-bounds 45)
      (then (expect_byte-bounds 62)
      (then inline-bounds
      (bind eol-bounds (λ v. then (line_end-bounds v) (then blank-bounds (then variants-bounds (pure-bounds select))))))))

  after_inline-bounds : (sh : Inline) → Bounds n of_select (after_inline sub sh)
  unfolding after_inline
  after_inline-bounds sh =
      record {
        on =
            λ s. pick (Bounded n of_select s) (starts_with 45 s && second (λ b. eqb b 62) s) _ _
            (λ q. (less select-le (select-bounds sh)).on s) (λ q. (alone-bounds sh).on s);
      }

  pub expression-bounds : Bounds n (λ _. 4) (get_expression sub)
  unfolding get_expression inline_or_select
  expression-bounds = record {
    on =
        λ s. in_select-bounded (inline_or_select sub s)
        ((less (λ v. omega arith)
        (bind (inline-expression-bounds false) (λ sh. then blank-bounds (after_inline-bounds sh)))).on s);
  }

  pub braced-bounds : Bounds (suc n) (λ _. 20) (braced sub)
  unfolding braced_once
  braced-bounds =
      rw (braced-once sub)
      (then-inside (omega arith) (expect_byte-bounds 123)
      (then blank-bounds (then expression-bounds (then inline-bounds (expect_byte-bounds 125)))))

pub level-bounds : (n : ℕ) → InsideBounds n (level n)
unfolding level too_deep
level-bounds zero =
    record {
      braced = λ b bs. Bounds.too_deep 0 (omega arith) (omega arith);
      parenthesised = λ b bs. Bounds.too_deep 0 (omega arith) (omega arith);
    }
level-bounds (suc n) =
    record {
      braced = λ b bs. (braced-bounds (level-bounds n)).on (b ∷ bs);
      parenthesised = λ b bs. (parenthesised-bounds (level-bounds n)).on (b ∷ bs);
    }
