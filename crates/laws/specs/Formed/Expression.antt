-- Variants, expressions and placeables: the marks of what stands in braces; and the readers of every level.
use Rattle.std.specs.Prelude.{ℕ, zero, suc, ◌+◌, ◌≡◌, Bool, ◌&&◌, ◌||◌, List, [], ◌∷◌, ◌++◌, drop}
use Rattle.std.proofs.Common.{zero-add, arith, subst}
use Rattle.std.proofs.Math.Path.{refl}
use Rattle.std.proofs.Math.Bool.{true, false}
use Rattle.std.proofs.Math.Option.{some}
use Rattle.std.proofs.Math.Dec.{eqb}
use Rattle.syntax.specs.Kind as Kind
use Rattle.syntax.specs.Bytes.{starts_with, starts, second, is_digit}
use Rattle.syntax.specs.Marks.{Mark, plain, node}
use Rattle.syntax.specs.Reader.{Out, ok, bad, deep, ◌>>=◌, pure, wrap, in_node, Turn}
use Rattle.syntax.specs.Pattern.{Inside, get_pattern}
use Rattle.syntax.specs.Expression.{Inline, string, number, variable, function, inner, message, term, inline_kind}
use Rattle.syntax.specs.Expression.{Expression, inline, select, is_term_attribute, no_term_attribute}
use Rattle.syntax.specs.Expression.{key_text, get_variant_key, needs_value, variant, variant_kind, end_variants, variant_with}
use Rattle.syntax.specs.Expression.{after_star, turn_after, variant_turn, get_variants, selector, alone, needs_line_end}
use Rattle.syntax.specs.Expression.{select_from, after_inline, in_select, inline_or_select, get_expression, braced, level}
use Rattle.syntax.specs.Expression.{too_deep as deepest}
use Rattle.syntax.specs.Shape.{step_in, step_by, final_by, models, among, step, final, opens, stay}
use Rattle.laws.specs.Bytes.{pick}
use Rattle.laws.specs.Attribute.{braced_once, braced-once}
use Rattle.laws.specs.Shape.Run.{AllKnown, run-known}
use Rattle.laws.specs.Formed.Edge.{edge, edge-add, edge-byte}
use Rattle.laws.specs.Formed.Reader.{Stand, at, ended, anywhere, by, closes, leads-nil, leads-after, leads-end}
use Rattle.laws.specs.Formed.Reader.{leads-node, Made, made, stopped, too_deep, after-made, Makes, node-makes}
use Rattle.laws.specs.Formed.Reader.{pure-makes, fail-makes, forget, bind, then, TurnMade, goes, ends}
use Rattle.laws.specs.Formed.Reader.{turn_of-made, repeat-makes}
use Rattle.laws.specs.Formed.Helper.{spaces-makes, eol-makes, blank-makes, expect_byte-makes, number_literal-makes, identifier-makes}
use Rattle.laws.specs.Formed.Pattern.{InsideFormed, pattern-makes}
use Rattle.laws.specs.Formed.Inline.{inline-steps, inline-makes}
use Rattle.laws.specs.Formed.Argument.{parenthesised-makes}

module _ {n k : ℕ} where
  needs_value-makes : (q r : ℕ) → final k r ≡ true → (v : Bool)
      → Makes n k (at (elim v [ true ↦ r | false ↦ q ])) (λ _. ended) (needs_value v)
  unfolding needs_value
  needs_value-makes q r f true = pure-makes tt (λ b. closes stay f)
  needs_value-makes q r f false = fail-makes _

  key-makes : step k 0 Kind.number_key ≡ some 1 → step k 0 Kind.identifier_key ≡ some 1 → Makes n k (at 0) (λ _. at 1) get_variant_key
  unfolding get_variant_key key_text Kind.is_text
  key-makes z y = then blank-makes (then key (then blank-makes (expect_byte-makes 93 refl)))
    where
      key : Makes n k (at 0) (λ _. at 1) key_text
      key =
          record {
            on =
                λ s. pick (Made n k (at 0) (λ _. at 1) s) (starts (λ b. is_digit b || eqb b 45) s) _ _
                (λ q. (number_literal-makes 17 refl z).on s) (λ q. (identifier-makes 18 refl y).on s);
          }

  end_variants-makes : {g : Stand} (v : Bool) → Makes n k g (λ _. g) (end_variants v)
  unfolding end_variants
  end_variants-makes {g} true = pure-makes tt (λ b. leads-nil g)
  end_variants-makes false = fail-makes _

  line_end-makes : {g : Stand} (v : Bool) → Makes n k g (λ _. g) (needs_line_end v)
  unfolding needs_line_end
  line_end-makes {g} true = pure-makes tt (λ b. leads-nil g)
  line_end-makes false = fail-makes _

  selector-makes : {g : Stand} (a : Inline) → Makes n k g (λ _. g) (selector a)
  unfolding selector
  selector-makes {g} string = pure-makes tt (λ b. leads-nil g)
  selector-makes {g} number = pure-makes tt (λ b. leads-nil g)
  selector-makes {g} variable = pure-makes tt (λ b. leads-nil g)
  selector-makes {g} function = pure-makes tt (λ b. leads-nil g)
  selector-makes {g} (term true) = pure-makes tt (λ b. leads-nil g)
  selector-makes (term false) = fail-makes _
  selector-makes (message i true) = fail-makes _
  selector-makes (message i false) = fail-makes _
  selector-makes inner = fail-makes _

  attribute-makes : {g : Stand} (v : Bool) → Makes n k g (λ _. g) (no_term_attribute v)
  unfolding no_term_attribute
  attribute-makes true = fail-makes _
  attribute-makes {g} false = pure-makes tt (λ b. leads-nil g)

  alone-makes : {g : Stand} {f : Expression → Stand} (i : Inline) → Makes n k g f (pure (inline i)) → Makes n k g f (alone i)
  unfolding alone
  alone-makes i m = then (attribute-makes (is_term_attribute (inline i))) m

  turn_after-made : {S A : Type 0} {g : Stand} {f : S → Stand} {e : A → Stand} {s : List ℕ} {t : Turn S A}
      → edge s 1 ≡ true → TurnMade n k g f e (drop 1 s) t → TurnMade n k g f e s (turn_after 1 t)
  unfolding turn_after
  turn_after-made {g = g} {s = s} d (goes {j = j} h l) = goes (edge-add s 1 j d h) (leads-after s 1 d (leads-nil g) l)
  turn_after-made {g = g} d (ends m) = ends (after-made 1 d (leads-nil g) m)

module _ {n : ℕ} {sub : Inside} (law : InsideFormed n sub) where
  pub value-makes : {k q r : ℕ} → step k q Kind.pattern ≡ some r → final k r ≡ true
      → Makes n k (at q) (λ _. ended) (get_pattern sub >>= needs_value)
  value-makes {q = q} {r} z f = bind (pattern-makes law z) (needs_value-makes q r f)

  variant-makes : {k : ℕ} → step k 0 Kind.number_key ≡ some 1 → step k 0 Kind.identifier_key ≡ some 1
      → step k 1 Kind.pattern ≡ some 2 → final k 2 ≡ true → Makes n k (at 0) (λ _. ended) (variant sub)
  unfolding variant
  variant-makes z y x f = then (expect_byte-makes 91 refl) (then (key-makes z y) (value-makes x f))

  in_variant : (v : Bool) → Makes n 14 (at 1) (λ _. at 1) (in_node (variant_kind v) (variant sub))
  unfolding variant_kind Kind.is_text opens step step_by step_in final final_by models among
  in_variant true = node-makes 16 refl refl (zero-add n) (variant-makes refl refl refl refl)
  in_variant false = node-makes 15 refl refl (zero-add n) (variant-makes refl refl refl refl)

  -- a turn of the variants
  abbrev Varies : List ℕ → Turn Bool (Unit {0}) → Type 0
  Varies s t = TurnMade n 14 (at 1) (λ _. at 1) (λ _. at 1) s t

  star-made : (d h : Bool) (s : List ℕ) → Varies s (after_star sub d h s)
  unfolding after_star variant_with
  star-made d h s = pick (Varies s) (d && h) _ _ (λ q. ends ((fail-makes _).on s))
      (λ q. pick (Varies s) (starts_with 91 s) _ _
      (λ q. turn_of-made ((then (in_variant d) (then blank-makes (pure-makes (d || h) (λ b. by stay)))).on s))
      (λ q. ends ((end_variants-makes (d || h)).on s)))

  variants-makes : Makes n 14 (at 1) (λ _. at 1) (get_variants sub)
  unfolding get_variants variant_turn
  variants-makes =
      repeat-makes {f = λ _. at 1}
      (λ h s. pick (Varies s) (starts_with 42 s) _ _
      (λ q. turn_after-made (edge-byte 42 refl s q) (star-made true h (drop 1 s))) (λ q. star-made false h s)) false

  -- a select's variants, where f says what its marks do
  select-makes : {k : ℕ} {g : Stand} (f : Expression → Stand) → Makes n k g (λ _. f select) (get_variants sub) → (a : Inline)
      → Makes n k g f (select_from sub a)
  unfolding select_from
  select-makes f m a =
      then (selector-makes a) (then (expect_byte-makes 45 refl) (then (expect_byte-makes 62 refl) (then spaces-makes (bind eol-makes
      (λ v. then (line_end-makes v) (then blank-makes (then m (pure-makes select (λ b. leads-nil (f select))))))))))

  inline_or_select-makes : {k : ℕ} (f : Expression → Stand) → ((a : Inline) → step k 0 (inline_kind a) ≡ some 1)
      → Makes n k (at 1) (λ _. f select) (get_variants sub)
      → ((a : Inline) → Makes n k (at 1) f (pure (inline a))) → Makes n k (at 0) f (inline_or_select sub)
  unfolding inline_or_select after_inline
  inline_or_select-makes {k} f z m p = bind (inline-makes law z false) (λ a. then blank-makes (record {
    on =
        λ s. pick (Made n k (at 1) f s) (starts_with 45 s && second (λ b. eqb b 62) s) _ _
        (λ q. (select-makes f m a).on s) (λ q. (alone-makes a (p a)).on s);
  }))

  in_select-made : {s : List ℕ} (o : Out Expression) → Made n 14 (at 0) (λ _. at 1) s o
      → Made n 13 (at 0) (λ e. elim e [ inline a ↦ ended | select ↦ anywhere ]) s o
      → Made n 13 (at 0) (λ _. ended) s (in_select o)
  unfolding in_select Kind.is_text opens step step_by step_in final final_by models among
  in_select-made (ok select ms j) (made e l) m =
      made e (leads-end {t = 1} refl (leads-node 14 refl refl (zero-add n) (leads-end {t = 1} refl l)))
  in_select-made (ok (inline a) ms j) m (made e l) = made e l
  in_select-made (bad f j) m m' = stopped
  in_select-made (deep j) m m' = too_deep

  expression-makes : Makes n 13 (at 0) (λ _. ended) (get_expression sub)
  unfolding get_expression final final_by models among
  expression-makes = record {
    on =
        λ s. in_select-made (inline_or_select sub s)
        ((inline_or_select-makes (λ _. at 1) (λ a. (inline-steps a).1) variants-makes
        (λ a. pure-makes (inline a) (λ b. by stay))).on s)
        ((inline_or_select-makes (λ e. elim e [ inline a ↦ ended | select ↦ anywhere ]) (λ a. (inline-steps a).0)
        (forget variants-makes) (λ a. pure-makes (inline a) (λ b. closes stay refl))).on s);
  }

  braced-makes : Makes n 13 (at 0) (λ _. ended) (braced sub)
  unfolding braced_once
  braced-makes =
      rw (braced-once sub)
      (then (expect_byte-makes 123 refl) (then blank-makes (then expression-makes (then spaces-makes (expect_byte-makes 125 refl)))))

pub level-formed : (n : ℕ) → InsideFormed n (level n)
unfolding level deepest in_node wrap Kind.is_text opens among
level-formed zero = record { braced = λ k q r z. record { on = λ s. too_deep }; parenthesised = λ k q r z. record { on = λ s. too_deep } }
level-formed (suc n) = record {
  braced = λ k q r z. let o : opens 13 + n ≡ suc n = omega arith in node-makes 13 refl z o (braced-makes (level-formed n));
  parenthesised = parenthesised-makes (level-formed n);
}

-- what stands in a placeable's braces has marks of known kinds
pub braced-known : {n : ℕ} {sub : Inside} → InsideFormed n sub → (s : List ℕ) {u : Unit {0}} {ms : List Mark} {k : ℕ}
    → sub.braced s ≡ ok u ms k → AllKnown ms
unfolding in_node wrap node step step_by step_in models among
braced-known {n} {sub} law s {u} {ms} {k} e =
    front ms (plain 113 ∷ [])
    (run (subst (λ o. Made n 11 (at 0) (λ _. at 0) s (wrap 13 o)) e ((law.braced 11 0 0 refl).on s))).1
  where
    run : Made n 11 (at 0) (λ _. at 0) s (ok u (node 13 ms) k) → AllKnown (node 13 ms)
    run (made d (by w)) = run-known w

    front : (ms ns : List Mark) → AllKnown (ms ++ ns) → AllKnown ms
    front [] ns k = tt
    front (m ∷ ms) ns k = (k.0, front ms ns k.1)
