-- Expressions, variants and placeables at a cut, at every level.
use Rattle.std.specs.Prelude.{ℕ, zero, suc, ◌<◌, ◌≡◌, refl, Bool, ◌&&◌, ◌||◌, length}
use Rattle.std.proofs.Common.{not-suc-le-zero}
use native.Mathlib.Omega.{arith}
use Rattle.std.proofs.Math.Path.{ap}
use Rattle.std.proofs.Math.Bool.{true, false}
use mathlib.Core.List.{List, [], ◌∷◌, ◌++◌}
use Rattle.std.proofs.Math.Dec.{eqb}
use borrow.Author.Tests.{eqb-true}
use Rattle.syntax.specs.Bytes.{starts_with, starts, second, is_digit}
use Rattle.syntax.specs.declared.errors.CharRange.TheVariants as CharRange
use Rattle.syntax.specs.declared.errors.ErrorKind.TheVariants as Errors
use Rattle.syntax.specs.Marks.{Mark, node}
use Rattle.syntax.specs.Reader.{ok, bad, deep, fail, after, Turn, again, done}
use Rattle.syntax.specs.Helper.{skip_blank, expect_byte, get_identifier, get_number_literal}
use Rattle.syntax.specs.Pattern.{Inside}
use Rattle.syntax.specs.Expression.{Inline, string, number, variable, function, inner, message, term, argument_turn}
use Rattle.syntax.specs.Expression.{Expression, inline, select, is_term_attribute, no_term_attribute}
use Rattle.syntax.specs.Expression.{parenthesised, key_text, get_variant_key, needs_value, variant, variant_kind}
use Rattle.syntax.specs.Expression.{end_variants, variant_with, after_star, turn_after, variant_turn, get_variants, selector}
use Rattle.syntax.specs.Expression.{alone, needs_line_end, select_from, after_inline, in_select, inline_or_select}
use Rattle.syntax.specs.Expression.{get_expression, braced, too_deep, level}
use Rattle.laws.specs.Bytes.{Whole, whole-tail, nonempty, Stop, by_case, pick, pick₂}
use Rattle.laws.specs.Attribute.{braced_once, braced-once}
use Rattle.laws.specs.Bounds.Expression.{level-bounds}
use Rattle.laws.specs.Stable.{Mode, loose, Upto, Reads, Closes, Strict, from-any, bind, then, then-closes}
use Rattle.laws.specs.Stable.{then-strict, strict-then, inner-bind, pure-reads, fail-reads, node-reads}
use Rattle.laws.specs.Stable.{node-closes, Relabels, relabel, relabels, TurnWithin, TurnCarries, Free}
use Rattle.laws.specs.Stable.{turn_of-carries, turn_of-within, done-carries, repeat-reads}
use Rattle.laws.specs.Stable.Helper.{expect_byte-reads, expect_byte-closes, expect_byte-strict, inline-reads}
use Rattle.laws.specs.Stable.Helper.{eol-reads, blank-reads, identifier-reads, number_literal-reads, choose-reads}
use Rattle.laws.specs.Stable.Pattern.{InsideLaw, get_pattern-inner}
use Rattle.laws.specs.Stable.Inline as Inline
use Rattle.laws.specs.Stable.Argument.{argument-turns}

byte : (b : ℕ) → (b ≡ 35 → ⊥) → Reads loose (expect_byte b)
byte b h = from-any loose (expect_byte-reads b h)

blank : Reads loose skip_blank
blank = blank-reads loose tt

key_reads : Reads loose key_text
unfolding key_text starts
key_reads =
    choose-reads (starts (λ b. is_digit b || eqb b 45)) (get_number_literal 17) (get_identifier 18) (λ b bs y w. refl)
    (number_literal-reads 17) (from-any loose (identifier-reads 18))

variant_key-reads : Reads loose get_variant_key
unfolding get_variant_key
variant_key-reads = then blank (then key_reads (then blank (byte 93 (λ e. omega arith))))

variant_key-strict : Strict get_variant_key
unfolding get_variant_key
variant_key-strict =
    then-strict blank
    (then-strict key_reads (then-strict blank (expect_byte-strict 93 (λ e. omega arith) (λ e. omega arith))))

pub needs_value-reads : (m : Mode) (v : Bool) → Reads m (needs_value v)
unfolding needs_value
needs_value-reads m true = pure-reads m tt
needs_value-reads m false = fail-reads m Errors.MissingValue

end_variants-reads : (v : Bool) → Reads loose (end_variants v)
unfolding end_variants
end_variants-reads true = pure-reads loose tt
end_variants-reads false = fail-reads loose Errors.MissingDefaultVariant

selector-reads : (sh : Inline) → Reads loose (selector sh)
unfolding selector
selector-reads string = pure-reads loose tt
selector-reads number = pure-reads loose tt
selector-reads variable = pure-reads loose tt
selector-reads function = pure-reads loose tt
selector-reads (term true) = pure-reads loose tt
selector-reads (term false) = fail-reads loose Errors.TermReferenceAsSelector
selector-reads (message n true) = fail-reads loose Errors.MessageAttributeAsSelector
selector-reads (message n false) = fail-reads loose Errors.MessageReferenceAsSelector
selector-reads inner = fail-reads loose Errors.ExpectedSimpleExpressionAsSelector

attribute-reads : (v : Bool) → Reads loose (no_term_attribute v)
unfolding no_term_attribute
attribute-reads true = fail-reads loose Errors.TermAttributeAsPlaceable
attribute-reads false = pure-reads loose tt

alone-reads : (i : Inline) → Reads loose (alone i)
unfolding alone
alone-reads i = then (attribute-reads (is_term_attribute (inline i))) (pure-reads loose (inline i))

line_end-reads : (v : Bool) → Reads loose (needs_line_end v)
unfolding needs_line_end
line_end-reads true = pure-reads loose tt
line_end-reads false = fail-reads loose (Errors.ExpectedCharRange CharRange.LineEnd)

arrow-same : (b : ℕ) (bs y : List ℕ) → Whole (b ∷ bs)
    → (starts_with 45 ((b ∷ bs) ++ y) && second (λ c. eqb c 62) ((b ∷ bs) ++ y))
    ≡ (starts_with 45 (b ∷ bs) && second (λ c. eqb c 62) (b ∷ bs))
unfolding starts_with second starts
arrow-same b bs y w =
    by_case (eqb b 45) (λ q. ap (λ t. eqb b 45 && t) (go bs (nonempty b bs w (λ e. omega (arith, eqb-true b 45 q)))))
    (λ q. rw q refl)
  where
    go : (cs : List ℕ) → 0 < length cs → starts (λ c. eqb c 62) (cs ++ y) ≡ starts (λ c. eqb c 62) cs
    go [] h = absurd (not-suc-le-zero h)
    go (c ∷ cs) h = refl

in_select-relabels : Relabels in_select
unfolding in_select
in_select-relabels = relabels in_select (λ e ms k. e) marks good (λ f k. refl) (λ k. refl)
  where
    marks : Expression → List Mark → ℕ → List Mark
    marks (inline i) ms k = ms
    marks select ms k = node 14 ms

    good : (e : Expression) (ms : List Mark) (k : ℕ) → in_select (ok e ms k) ≡ ok e (marks e ms k) k
    good (inline i) ms k = refl
    good select ms k = refl

module _ (sub : Inside) (law : InsideLaw sub) where
  variant-reads : Reads loose (variant sub)
  unfolding variant
  variant-reads =
      then (byte 91 (λ e. omega arith))
      (strict-then variant_key-reads variant_key-strict
      (inner-bind (get_pattern-inner loose tt sub law) (needs_value-reads loose)))

  variant_with-reads : (v d : Bool) → Reads loose (variant_with sub v d)
  unfolding variant_with
  variant_with-reads v d = then (node-reads (variant_kind v) variant-reads) (then blank (pure-reads loose (v || d)))

  star-within : (v d : Bool) (x y : List ℕ) → Whole x → Stop y → TurnWithin Free (length x) (after_star sub v d (x ++ y))
  unfolding after_star fail
  star-within v d x y w s = pick (TurnWithin Free (length x)) (v && d) _ _ (λ q. tt)
      (λ q. pick (TurnWithin Free (length x)) (starts_with 91 (x ++ y)) _ _
      (λ r. turn_of-within (Unit {0}) (length x) (variant_with sub v d (x ++ y))
      ((variant_with-reads v d).stops x y w s))
      (λ r. (end_variants-reads (v || d)).stops x y w s))

  star-keeps : (v d : Bool) (b : ℕ) (bs y : List ℕ) → Whole (b ∷ bs)
      → TurnCarries Free (Upto loose y (suc (length bs))) (after_star sub v d (b ∷ bs)) (after_star sub v d ((b ∷ bs) ++ y))
  unfolding after_star fail starts_with
  star-keeps v d b bs y w = pick₂ (TurnCarries Free (Upto loose y (suc (length bs)))) (v && d) _ _ _ _ (λ q. tt)
      (λ q. pick₂ (TurnCarries Free (Upto loose y (suc (length bs)))) (eqb b 91) _ _ _ _
      (λ r. turn_of-carries (Unit {0}) (Upto loose y (suc (length bs))) (variant_with sub v d (b ∷ bs))
      (variant_with sub v d ((b ∷ bs) ++ y)) ((variant_with-reads v d).keeps (b ∷ bs) y w))
      (λ r. done-carries Free (Upto loose y (suc (length bs))) (end_variants (v || d) (b ∷ bs))
      (end_variants (v || d) ((b ∷ bs) ++ y)) ((end_variants-reads (v || d)).keeps (b ∷ bs) y w)))

  turn_after-within : (n : ℕ) (t : Turn Bool (Unit {0})) → TurnWithin Free n t → TurnWithin Free (suc n) (turn_after 1 t)
  unfolding turn_after after
  turn_after-within n (again st ms k) h = (omega (arith, h.0), tt)
  turn_after-within n (done (ok a ms k)) h = omega arith
  turn_after-within n (done (bad f k)) h = tt
  turn_after-within n (done (deep k)) h = tt

  turn_after-keeps : (y : List ℕ) (n : ℕ) (t t' : Turn Bool (Unit {0})) → TurnCarries Free (Upto loose y n) t t'
      → TurnCarries Free (Upto loose y (suc n)) (turn_after 1 t) (turn_after 1 t')
  unfolding turn_after after
  turn_after-keeps y n (again st ms k) t' c = λ u. (ap (turn_after 1) (c (omega arith)).0, tt)
  turn_after-keeps y n (done (ok a ms k)) t' c = λ u. ap (turn_after 1) (c (omega arith))
  turn_after-keeps y n (done (bad f k)) t' c = tt
  turn_after-keeps y n (done (deep k)) t' c = tt

  loose-turn : {S A : Type 0} (y : List ℕ) (t t' : Turn S A) → TurnCarries Free (Upto loose y 0) t t'
  loose-turn y (again st ms k) t' = λ u. absurd (not-suc-le-zero u)
  loose-turn y (done (ok a ms k)) t' = λ u. absurd (not-suc-le-zero u)
  loose-turn y (done (bad f k)) t' = tt
  loose-turn y (done (deep k)) t' = tt

  star-kept : (v d : Bool) (x y : List ℕ) → Whole x
      → TurnCarries Free (Upto loose y (length x)) (after_star sub v d x) (after_star sub v d (x ++ y))
  star-kept v d [] y w = loose-turn y (after_star sub v d []) (after_star sub v d y)
  star-kept v d (b ∷ bs) y w = star-keeps v d b bs y w

  variant-stops : (d : Bool) (x y : List ℕ) → Whole x → Unit {0} → Stop y → TurnWithin Free (length x) (variant_turn sub d (x ++ y))
  unfolding variant_turn starts_with
  variant-stops d [] [] w i s = star-within false d [] [] w s
  variant-stops d [] (c ∷ cs) w i s =
      pick (TurnWithin Free 0) (eqb c 42) _ _ (λ q. absurd (omega (arith, eqb-true c 42 q)))
      (λ q. star-within false d [] (c ∷ cs) w s)
  variant-stops d (b ∷ bs) y w i s =
      pick (TurnWithin Free (suc (length bs))) (eqb b 42) _ _
      (λ q. turn_after-within (length bs) (after_star sub true d (bs ++ y))
      (star-within true d bs y (whole-tail b bs w) s))
      (λ q. star-within false d (b ∷ bs) y w s)

  variant-keeps : (d : Bool) (x y : List ℕ) → Whole x → Unit {0}
      → TurnCarries Free (Upto loose y (length x)) (variant_turn sub d x) (variant_turn sub d (x ++ y))
  unfolding variant_turn starts_with
  variant-keeps d [] y w i = loose-turn y (variant_turn sub d []) (variant_turn sub d y)
  variant-keeps d (b ∷ bs) y w i = pick₂ (TurnCarries Free (Upto loose y (suc (length bs)))) (eqb b 42) _ _ _ _
      (λ q. turn_after-keeps y (length bs) (after_star sub true d bs) (after_star sub true d (bs ++ y))
      (star-kept true d bs y (whole-tail b bs w)))
      (λ q. star-keeps false d b bs y w)

  variants-reads : Reads loose (get_variants sub)
  unfolding get_variants
  variants-reads = repeat-reads (variant_turn sub) (record { stops = variant-stops; keeps = variant-keeps }) false

  select-reads : (sh : Inline) → Reads loose (select_from sub sh)
  unfolding select_from
  select-reads sh =
      then (selector-reads sh)
      (then (byte 45 (λ e. omega arith)) (then (byte 62 (λ e. omega arith)) (then (inline-reads loose tt)
      (bind eol-reads (λ v. then (line_end-reads v) (then blank (then variants-reads (pure-reads loose select))))))))

  after_inline-reads : (sh : Inline) → Reads loose (after_inline sub sh)
  unfolding after_inline
  after_inline-reads sh =
      choose-reads (λ s. starts_with 45 s && second (λ b. eqb b 62) s) (select_from sub sh) (alone sh) arrow-same
      (select-reads sh) (alone-reads sh)

  expression-reads : Reads loose (get_expression sub)
  unfolding get_expression inline_or_select
  expression-reads =
      relabel {f = in_select} in_select-relabels
      (bind (Inline.inline-reads sub law false) (λ sh. then blank (after_inline-reads sh)))

  braced-closes : Closes (braced sub)
  unfolding braced_once
  braced-closes =
      rw (braced-once sub)
      (then-closes (byte 123 (λ e. omega arith))
      (then-closes blank
      (then-closes expression-reads (then-closes (inline-reads loose tt) (expect_byte-closes 125 (λ e. omega arith))))))

  braced-strict : Strict (braced sub)
  unfolding braced_once
  braced-strict =
      rw (braced-once sub)
      (then-strict (byte 123 (λ e. omega arith))
      (then-strict blank
      (then-strict expression-reads
      (then-strict (inline-reads loose tt) (expect_byte-strict 125 (λ e. omega arith) (λ e. omega arith))))))

  parenthesised-closes : Closes (parenthesised sub)
  unfolding parenthesised
  parenthesised-closes =
      node-closes 25
      (then-closes (byte 40 (λ e. omega arith))
      (then-closes blank
      (then-closes (repeat-reads (argument_turn sub) (argument-turns sub law) [])
      (expect_byte-closes 41 (λ e. omega arith)))))

deep-closes : Closes too_deep
unfolding too_deep
deep-closes = record { reads = record { stops = λ x y w s. tt; keeps = λ x y w. tt }; takes = λ s. tt }

deep-strict : Strict too_deep
unfolding too_deep
deep-strict = record { short = λ x y w s. tt }

pub level-law : (n : ℕ) → InsideLaw (level n)
unfolding level
level-law zero =
    record {
      braced = deep-closes;
      braced_strict = deep-strict;
      parenthesised = deep-closes;
      depth = zero;
      bounds = level-bounds zero;
    }
level-law (suc n) =
    record {
      braced = braced-closes (level n) (level-law n);
      braced_strict = braced-strict (level n) (level-law n);
      parenthesised = parenthesised-closes (level n) (level-law n);
      depth = suc n;
      bounds = level-bounds (suc n);
    }
