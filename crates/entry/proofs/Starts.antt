-- What an inline expression starts with.
use Rattle.std.specs.Prelude.{◌≡◌, ℕ, Bool, true, false, Result, Ok, Err, eqb, List, [], ◌∷◌}
use mathlib.Core.Path.{refl, sym, ap, subst, ◌∙◌}
use native.Mathlib.Omega.{arith}
use Rattle.syntax.specs.Byte as Byte
use Rattle.syntax.specs.Bytes.{starts_with, starts, is_letter, is_digit}
use Rattle.syntax.specs.declared.errors.ErrorKind.{ErrorKind}
use Rattle.syntax.specs.Errors.{up_kind, fault_at}
use Rattle.syntax.specs.Reader.{Out, deep, fail}
use Rattle.syntax.specs.Pattern.{Inside}
use Rattle.syntax.specs.Expression.{Inline, as_string, string_literal, number_literal, as_inline, reference, term_reference}
use Rattle.syntax.specs.Expression.{variable_reference, nested_placeable, no_inline, non_literal, get_inline_expression}
use Rattle.laws.specs.Bytes.{by_case}
use Rattle.entry.specs.declared.errors.Stop.{Stop}
use Rattle.entry.specs.declared.errors.Stop.TheVariants.{Error}
use Rattle.entry.specs.Shape.{start_of, start_at, non_literal_start}
use Rattle.entry.specs.declared.expression.Start.{Start}
use Rattle.entry.specs.declared.expression.Start.TheVariants.{String, Number, Reference, Term, Variable, Placeable}

abbrev pub inline_by : Inside → List ℕ → Result Start ErrorKind → Out Inline
inline_by sub s (Ok String) = as_string (string_literal s)
inline_by sub s (Ok Number) = number_literal s
inline_by sub s (Ok Reference) = as_inline (reference sub s)
inline_by sub s (Ok Term) = as_inline (term_reference sub s)
inline_by sub s (Ok Variable) = as_inline (variable_reference s)
inline_by sub s (Ok Placeable) = as_inline (nested_placeable sub s)
inline_by sub s (Err kind) = fail kind s

-- what stands where it starts
abbrev pub Opens : Result Start ErrorKind → List ℕ → Type 0
Opens (Ok String) s = Unit {0}
Opens (Ok Number) s = Unit {0}
Opens (Ok Reference) s = starts is_letter s ≡ true
Opens (Ok Term) s = starts_with Byte.minus s ≡ true
Opens (Ok Variable) s = starts_with Byte.dollar s ≡ true
Opens (Ok Placeable) s = starts_with Byte.open_brace s ≡ true
Opens (Err kind) s = (at : ℕ) → up_kind at kind ≡ kind

non-literal-by : (sub : Inside) (b : ℕ) (bs : List ℕ)
    → (non_literal sub (b ∷ bs) b bs ≡ inline_by sub (b ∷ bs) (non_literal_start b (starts is_letter bs)))
    × Opens (non_literal_start b (starts is_letter bs)) (b ∷ bs)
unfolding non_literal non_literal_start no_inline
non-literal-by sub b bs = by_case (eqb b Byte.minus)
    (λ p. by_case (starts is_letter bs) (λ q. rw (p, non_literal, non_literal_start, q) (refl, unfold starts_with in p))
    (λ q. rw (p, non_literal, non_literal_start, q) (refl, tt)))
    (λ p. by_case (eqb b Byte.dollar) (λ q. rw (p, non_literal, non_literal_start, q) (refl, unfold starts_with in q))
    (λ q. by_case (eqb b Byte.open_brace) (λ r. rw (p, non_literal, non_literal_start, q, r) (refl, unfold starts_with in r))
    (λ r. rw (p, non_literal, non_literal_start, q, r) (refl, λ at. refl))))

start-by : (sub : Inside) (l : Bool) (s : List ℕ) → (get_inline_expression sub l s ≡ inline_by sub s (start_of l s)) × Opens (start_of l s) s
unfolding get_inline_expression start_of no_inline
start-by sub true [] = (refl, λ at. refl)
start-by sub false [] = (refl, λ at. refl)
start-by sub l (b ∷ bs) = by_case (eqb b Byte.quote) (λ p. rw (p, get_inline_expression, start_of) (refl, tt))
    (λ p. by_case (is_digit b) (λ q. rw (p, get_inline_expression, start_of, q) (refl, tt))
    (λ q. by_case (is_letter b) (λ r. rw (p, get_inline_expression, start_of, q, r) (refl, unfold starts in r))
    (λ r. go l p q r)))
  where
    go : (l : Bool) → eqb b Byte.quote ≡ false → is_digit b ≡ false → is_letter b ≡ false
        → (get_inline_expression sub l (b ∷ bs) ≡ inline_by sub (b ∷ bs) (start_of l (b ∷ bs)))
        × Opens (start_of l (b ∷ bs)) (b ∷ bs)
    go true p q r = rw (p, get_inline_expression, start_of, q, r) (refl, λ at. refl)
    go false p q r = rw (p, get_inline_expression, start_of, q, r) (non-literal-by sub b bs)

-- the code's start is the definition's
start-same : {x : Start} (at : ℕ) (r : Result Start ErrorKind) → start_at at r ≡ Ok x → r ≡ Ok x
start-same at (Ok y) h = let e : y ≡ _ = cc in ap Ok e
start-same at (Err kind) h = let z : ◌≡◌ {A = ℕ} 0 1 = cc in absurd (omega arith)

pub starts-as : {x : Start} {r : Result Start Stop} (at : ℕ) (sub : Inside) (l : Bool) (s : List ℕ) → r ≡ start_at at (start_of l s) → r ≡ Ok x
    → get_inline_expression sub l s ≡ inline_by sub s (Ok x)
starts-as at sub l s e h = (start-by sub l s).0 ∙ ap (inline_by sub s) (start-same at (start_of l s) (sym e ∙ h))

pub opens_as : {r : Result Start Stop} (at : ℕ) (x : Start) (l : Bool) (s : List ℕ) → r ≡ start_at at (start_of l s) → r ≡ Ok x → Opens (Ok x) s
opens_as at x l s e h = subst (λ (y : Result Start ErrorKind). Opens y s) (start-same at (start_of l s) (sym e ∙ h)) (start-by sub l s).1
  where
    sub : Inside
    sub = record { braced = λ s. deep 0; parenthesised = λ s. deep 0 }

-- an error of the code is the definition's
pub record Unstarted (sub : Inside) (l : Bool) (at : ℕ) (s : List ℕ) (e : Stop) : Type 0 where
  pub kind : ErrorKind
  pub error : e ≡ Error (fault_at kind at)
  pub is : get_inline_expression sub l s ≡ fail kind s
  pub up : up_kind at kind ≡ kind

pub unstarted : {at : ℕ} {r : Result Start Stop} {e : Stop} (sub : Inside) (l : Bool) (s : List ℕ) → r ≡ start_at at (start_of l s)
    → r ≡ Err e → Unstarted sub l at s e
unstarted {at} {r} {e} sub l s p h = go (start_of l s) (start-by sub l s) (sym p ∙ h)
  where
    go : (q : Result Start ErrorKind) → (get_inline_expression sub l s ≡ inline_by sub s q) × Opens q s → start_at at q ≡ Err e
        → Unstarted sub l at s e
    go (Ok x) b g = let z : ◌≡◌ {A = ℕ} 0 1 = cc in absurd (omega arith)
    go (Err kind) b g = record { kind = kind; error = cc; is = b.0; up = b.1 at }
