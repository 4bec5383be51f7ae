-- A placeable's second test for a term's attribute never fires: the expression's reader has refused it.
use Rattle.std.specs.Prelude.{ℕ, ◌≡◌, Bool, true, false, ◌&&◌, eqb}
use Rattle.std.proofs.Common.{add-zero}
use Rattle.std.proofs.Math.Path.{refl, ap}
use mathlib.Core.List.{List, append-nil}
use Rattle.syntax.specs.Byte as Byte
use Rattle.syntax.specs.Bytes.{starts_with, second}
use Rattle.syntax.specs.Reader.{Out, ok, bad, deep, Reader, after, next, ◌>>=◌, ◌>>◌, pure, fail}
use Rattle.syntax.specs.Helper.{skip_blank, skip_blank_inline, expect_byte}
use Rattle.syntax.specs.Pattern.{Inside}
use Rattle.syntax.specs.Expression.{Inline, Expression, inline, select, is_term_attribute, no_term_attribute, alone}
use Rattle.syntax.specs.Expression.{select_from, after_inline, in_select, inline_or_select, get_expression, braced}
use Rattle.laws.specs.Bytes.{pick}
use Rattle.laws.specs.Moving.{move_up-nil}
use Rattle.laws.specs.Answers.{Holds, plain-next}

-- ---- what the expression's reader answers

abbrev Refused : Out Expression → Type 0
Refused o = Holds (λ e ms k. is_term_attribute e ≡ false) o

record Refuses (p : Reader Expression) : Type 0 where
  on : (s : List ℕ) → Refused (p s)

bind : {A : Type 0} (p : Reader A) {q : A → Reader Expression} → ((a : A) → Refuses (q a)) → Refuses (p >>= q)
unfolding ◌>>=◌
bind p {q} h = record { on = λ s. plain-next (λ e. is_term_attribute e ≡ false) s q (p s) (λ a. (h a).on) }

then : {A : Type 0} (p : Reader A) {q : Reader Expression} → Refuses q → Refuses (p >> q)
unfolding ◌>>◌
then p {q} h = record { on = λ s. plain-next (λ e. is_term_attribute e ≡ false) s (λ _. q) (p s) (λ a. h.on) }

alone-refuses : (i : Inline) → Refuses (alone i)
unfolding alone ◌>>◌ no_term_attribute fail pure next after
alone-refuses i = record { on = λ s. go (is_term_attribute (inline i)) refl s }
  where
    go : (v : Bool) → is_term_attribute (inline i) ≡ v → (s : List ℕ) → Refused (next s (λ _. pure (inline i)) (no_term_attribute v s))
    go true e s = tt
    go false e s = e

pure-refuses : Refuses (pure select)
unfolding pure is_term_attribute
pure-refuses = record { on = λ s. refl }

select-refuses : (sub : Inside) (i : Inline) → Refuses (select_from sub i)
unfolding select_from
select-refuses sub i = then _ (then _ (then _ (then _ (bind _ (λ v. then _ (then _ (then _ pure-refuses)))))))

in_select-refused : (o : Out Expression) → Refused o → Refused (in_select o)
unfolding in_select
in_select-refused (ok select ms k) h = h
in_select-refused (ok (inline i) ms k) h = h
in_select-refused (bad f k) h = tt
in_select-refused (deep k) h = tt

-- no term's attribute that stands alone
pub expression-refuses : (sub : Inside) (s : List ℕ) → Holds (λ e ms k. is_term_attribute e ≡ false) (get_expression sub s)
unfolding get_expression inline_or_select after_inline
expression-refuses sub s = in_select-refused (inline_or_select sub s) ((bind _ (λ i. then _ (record {
  on =
      λ r. pick Refused (starts_with Byte.minus r && second (λ b. eqb b Byte.greater) r) _ _
      (λ q. (select-refuses sub i).on r) (λ q. (alone-refuses i).on r);
}))).on s)

-- ---- placeables without the test

-- get_placeable with one test
unfoldable pub braced_once : Inside → Reader (Unit {0})
braced_once sub = do
  expect_byte Byte.open_brace
  skip_blank
  get_expression sub
  skip_blank_inline
  expect_byte Byte.close_brace

module _ (sub : Inside) where
  tested : Expression → Reader (Unit {0})
  tested e = skip_blank_inline >> (expect_byte Byte.close_brace >> no_term_attribute (is_term_attribute e))

  untested : Reader (Unit {0})
  untested = skip_blank_inline >> expect_byte Byte.close_brace

  end-once : (s : List ℕ) (o : Out (Unit {0})) → next s (λ _. no_term_attribute false) o ≡ o
  unfolding next after no_term_attribute pure
  end-once s (ok u ms k) = rw (move_up-nil, append-nil, add-zero)
  end-once s (bad f k) = refl
  end-once s (deep k) = refl

  tested-once : (s : List ℕ) (o : Out Expression) → Refused o → next s tested o ≡ next s (λ _. untested) o
  unfolding next tested untested ◌>>◌ skip_blank_inline
  tested-once s (ok e ms k) h = ap (after ms k) (rw (h, end-once))
  tested-once s (bad f k) h = refl
  tested-once s (deep k) h = refl

  inside-once : (get_expression sub >>= tested) ≡ (get_expression sub >> untested)
  unfolding ◌>>=◌ ◌>>◌
  inside-once i s = tested-once s (get_expression sub s) (expression-refuses sub s) i

  pub braced-once : braced sub ≡ braced_once sub
  unfolding braced braced_once tested untested
  braced-once = ap (λ (q : Reader (Unit {0})). expect_byte Byte.open_brace >> (skip_blank >> q)) inside-once
