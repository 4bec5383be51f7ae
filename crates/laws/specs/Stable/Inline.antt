-- Inline expressions at a cut.
use Rattle.std.specs.Prelude.{ℕ, suc, ◌≤◌, ◌<◌, ◌≡◌, Bool, drop, length, take, eqb}
use Rattle.std.proofs.Common.{not-suc-le-zero, arith, sym, subst}
use Rattle.std.proofs.Math.Path.{refl, ap, fun_ext}
use Rattle.std.proofs.Math.Bool.{true, false}
use mathlib.Core.List.{List, [], ◌∷◌, ◌++◌, append-nil}
use Rattle.std.proofs.lemmas.List.{take-append-le}
use borrow.Author.Tests.{eqb-true}
use Rattle.syntax.specs.Bytes.{starts_with, starts, all, is_letter, is_digit, is_callee_part, run, is_name_part}
use Rattle.syntax.specs.declared.errors.ErrorKind.TheVariants as Errors
use Rattle.syntax.specs.Marks.{node}
use Rattle.syntax.specs.Reader.{Out, ok, bad, deep, Reader, fail, ◌>>=◌, ◌>>◌, pure, next, after}
use Rattle.syntax.specs.Helper.{expect_byte, get_identifier}
use Rattle.syntax.specs.Pattern.{Inside}
use Rattle.syntax.specs.Expression.{Inline, number, variable, function, inner, message, term, inline_kind, as_inline}
use Rattle.syntax.specs.Expression.{string_literal, as_string, number_literal, call_arguments, get_call_arguments}
use Rattle.syntax.specs.Expression.{get_attribute_accessor, term_reference, variable_reference, message_reference}
use Rattle.syntax.specs.Expression.{function_reference, reference_by, reference, nested_placeable, no_inline, non_literal}
use Rattle.syntax.specs.Expression.{get_inline_expression}
use Rattle.laws.specs.Bytes.{Whole, nonempty, pick, pick₂}
use Rattle.laws.specs.Answers.{Holds}
use Rattle.laws.specs.Stable.{loose, Upto, Within, Carries, Reads, from-any, bind, then, pure-reads, fail-reads}
use Rattle.laws.specs.Stable.{Relabels, relabel, relabels}
use Rattle.laws.specs.Values.{identifier-named}
use Rattle.laws.specs.Stable.Helper.{expect_byte-reads, identifier-reads, identifier-same, number_literal-reads}
use Rattle.laws.specs.Stable.Helper.{blank-reads, choose-reads, loose-nil}
use Rattle.laws.specs.Stable.Pattern.{InsideLaw}
use Rattle.laws.specs.Stable.String.{string-reads}

as_inline-relabels : Relabels as_inline
unfolding as_inline
as_inline-relabels = relabels as_inline (λ a ms k. a) (λ a ms k. node (inline_kind a) ms) (λ a ms k. refl) (λ e k. refl) (λ k. refl)

shape-reads : {p : Reader Inline} → Reads loose p → Reads loose (λ s. as_inline (p s))
shape-reads r = relabel {f = as_inline} as_inline-relabels r

byte : (b : ℕ) → (b ≡ 35 → ⊥) → Reads loose (expect_byte b)
byte b h = from-any loose (expect_byte-reads b h)

identifier : (kind : ℕ) → Reads loose (get_identifier kind)
identifier kind = from-any loose (identifier-reads kind)

number-reads : Reads loose number_literal
unfolding number_literal
number-reads = then (number_literal-reads 20) (pure-reads loose number)

accessor-reads : Reads loose get_attribute_accessor
unfolding get_attribute_accessor starts_with pure
accessor-reads = choose-reads (starts_with 46) (expect_byte 46 >> get_identifier 9 >> pure true) (pure false) (λ b bs y w. refl)
    (then (then (byte 46 (λ e. omega arith)) (identifier 9)) (pure-reads loose true)) (pure-reads loose false)

no_inline-reads : (v : Bool) → Reads loose (no_inline v)
unfolding no_inline
no_inline-reads true = fail-reads loose Errors.ExpectedLiteral
no_inline-reads false = fail-reads loose Errors.ExpectedInlineExpression

function_reference-reads : (name : List ℕ) → Reads loose (function_reference name)
unfolding function_reference pure fail
function_reference-reads name =
    choose-reads (λ s. all is_callee_part name) (pure function) (fail Errors.ForbiddenCallee) (λ b bs y w. refl)
    (pure-reads loose function) (fail-reads loose Errors.ForbiddenCallee)

reference_by-reads : (s : List ℕ) (n : ℕ) (v : Bool) → Reads loose (reference_by s n v)
unfolding reference_by message_reference
reference_by-reads s n true = function_reference-reads (take n s)
reference_by-reads s n false = bind accessor-reads (λ a. pure-reads loose (message n a))

variable-reads : Reads loose variable_reference
unfolding variable_reference
variable-reads = then (byte 36 (λ e. omega arith)) (then (identifier 9) (pure-reads loose variable))

module _ (sub : Inside) (law : InsideLaw sub) where
  pub call_arguments-reads : Reads loose (get_call_arguments sub)
  unfolding get_call_arguments call_arguments starts_with pure
  call_arguments-reads = then (blank-reads loose tt)
      (choose-reads (starts_with 40) (sub.parenthesised >> pure true) (pure false) (λ b bs y w. refl)
      (then (from-any loose law.parenthesised.reads) (pure-reads loose true)) (pure-reads loose false))

  term-reads : Reads loose (term_reference sub)
  unfolding term_reference
  term-reads =
      then (byte 45 (λ e. omega arith))
      (then (identifier 9) (bind accessor-reads (λ a. then call_arguments-reads (pure-reads loose (term a)))))

  nested-reads : Reads loose (nested_placeable sub)
  unfolding nested_placeable
  nested-reads = then (from-any loose law.braced.reads) (pure-reads loose inner)

  -- a reference whose name is taken from z
  abbrev named : List ℕ → Reader Inline
  named z = get_identifier 9 >>= (λ n. get_call_arguments sub >>= (λ call. reference_by z n call))

  named-reads : (z : List ℕ) → Reads loose (named z)
  named-reads z = bind (identifier 9) (λ n. bind call_arguments-reads (λ call. reference_by-reads z n call))

  reference_by-same : (x y : List ℕ) (n : ℕ) → n ≤ length x → (v : Bool) → reference_by x n v ≡ reference_by (x ++ y) n v
  unfolding reference_by
  reference_by-same x y n h true = ap function_reference (sym (take-append-le n x y h))
  reference_by-same x y n h false = refl

  named-at : (x y s : List ℕ) (o : Out ℕ) → Within (length x) o → Holds (λ n ms k. (n ≡ k) × (n ≡ run is_name_part s)) o
      → next s (λ n. get_call_arguments sub >>= (λ call. reference_by x n call)) o ≡ next s
      (λ n. get_call_arguments sub >>= (λ call. reference_by (x ++ y) n call)) o
  unfolding next
  named-at x y s (ok n ms k) h e =
      ap (λ f. after ms k ((get_call_arguments sub >>= f) (drop k s))) (fun_ext (reference_by-same x y n (omega arith)))
  named-at x y s (bad f k) h e = refl
  named-at x y s (deep k) h e = refl

  named-same : (b : ℕ) (bs y : List ℕ) → Whole (b ∷ bs) → named (b ∷ bs) ((b ∷ bs) ++ y) ≡ named ((b ∷ bs) ++ y) ((b ∷ bs) ++ y)
  unfolding ◌>>=◌
  named-same b bs y w = named-at (b ∷ bs) y ((b ∷ bs) ++ y) (get_identifier 9 ((b ∷ bs) ++ y))
      (subst (Within (suc (length bs))) (sym (identifier-same 9 b bs y w))
      (subst (λ z. Within (suc (length bs)) (get_identifier 9 z)) (append-nil (b ∷ bs))
      ((identifier-reads 9).stops (b ∷ bs) [] w tt)))
      (identifier-named 9 ((b ∷ bs) ++ y))

  reference-keeps : (x y : List ℕ) → Whole x → Carries (Upto loose y (length x)) (named x x) (named (x ++ y) (x ++ y))
  reference-keeps [] y w = loose-nil y (named [] []) (named y y)
  reference-keeps (b ∷ bs) y w =
      subst (Carries (Upto loose y (suc (length bs))) (named (b ∷ bs) (b ∷ bs))) (named-same b bs y w)
      ((named-reads (b ∷ bs)).keeps (b ∷ bs) y w)

  reference-reads : Reads loose (reference sub)
  unfolding reference
  reference-reads = record { stops = λ x y w s. (named-reads (x ++ y)).stops x y w s; keeps = reference-keeps }

  -- what an inline expression can be, at one place
  record Choices (P : (Reader Inline) → Type 0) : Type 0 where
    strings : P (λ s. as_string (string_literal s))
    numbers : P number_literal
    references : P (λ s. as_inline (reference sub s))
    terms : P (λ s. as_inline (term_reference sub s))
    variables : P (λ s. as_inline (variable_reference s))
    placeables : P (λ s. as_inline (nested_placeable sub s))
    nothings : (v : Bool) → P (no_inline v)

  inline-choices : (P : Reader Inline → Type 0) → ((p : Reader Inline) → Reads loose p → P p) → Choices P
  inline-choices P f = record {
    strings = f _ string-reads;
    numbers = f _ number-reads;
    references = f _ (shape-reads reference-reads);
    terms = f _ (shape-reads term-reads);
    variables = f _ (shape-reads variable-reads);
    placeables = f _ (shape-reads nested-reads);
    nothings = λ v. f _ (no_inline-reads v);
  }

  inline-within : (n : ℕ) (s : List ℕ) (v : Bool) → Choices (λ p. Within n (p s)) → Within n (get_inline_expression sub v s)
  unfolding get_inline_expression non_literal
  inline-within n [] v c = c.nothings v
  inline-within n (b ∷ bs) v c =
      pick (Within n) (eqb b 34) _ _ (λ q. c.strings) (λ q. pick (Within n) (is_digit b) _ _ (λ q. c.numbers)
      (λ q. pick (Within n) (is_letter b) _ _ (λ q. c.references) (λ q. pick (Within n) v _ _ (λ q. c.nothings true)
      (λ q. pick (Within n) (eqb b 45) _ _ (λ q. pick (Within n) (starts is_letter bs) _ _ (λ q. c.terms) (λ q. c.numbers))
      (λ q. pick (Within n) (eqb b 36) _ _ (λ q. c.variables)
      (λ q. pick (Within n) (eqb b 123) _ _ (λ q. c.placeables) (λ q. c.nothings false)))))))

  letter-next : (bs y : List ℕ) → 0 < length bs → starts is_letter (bs ++ y) ≡ starts is_letter bs
  unfolding starts
  letter-next [] y h = absurd (not-suc-le-zero h)
  letter-next (c ∷ cs) y h = refl

  minus-keeps : (N : ℕ → Type 0) (b : ℕ) (bs y : List ℕ) → starts is_letter (bs ++ y) ≡ starts is_letter bs
      → Choices (λ p. Carries N (p (b ∷ bs)) (p ((b ∷ bs) ++ y)))
      → Carries {A = Inline} N (elim (starts is_letter bs) [ true ↦ as_inline (term_reference sub (b ∷ bs)) | false ↦ number_literal (b ∷ bs) ])
      (elim (starts is_letter (bs ++ y)) [ true ↦ as_inline (term_reference sub ((b ∷ bs) ++ y)) | false ↦ number_literal ((b ∷ bs) ++ y) ])
  minus-keeps N b bs y e c = rw e (pick₂ (Carries N) (starts is_letter bs) _ _ _ _ (λ q. c.terms) (λ q. c.numbers))

  inline-kept : (N : ℕ → Type 0) (b : ℕ) (bs y : List ℕ) (v : Bool) → Whole (b ∷ bs)
      → Choices (λ p. Carries N (p (b ∷ bs)) (p ((b ∷ bs) ++ y)))
      → Carries N (get_inline_expression sub v (b ∷ bs)) (get_inline_expression sub v ((b ∷ bs) ++ y))
  unfolding get_inline_expression non_literal
  inline-kept N b bs y v w c =
      pick₂ (Carries N) (eqb b 34) _ _ _ _ (λ q. c.strings) (λ q. pick₂ (Carries N) (is_digit b) _ _ _ _ (λ q. c.numbers)
      (λ q. pick₂ (Carries N) (is_letter b) _ _ _ _ (λ q. c.references) (λ q. pick₂ (Carries N) v _ _ _ _ (λ q. c.nothings true)
      (λ q. pick₂ (Carries N) (eqb b 45) _ _ _ _
      (λ q. minus-keeps N b bs y (letter-next bs y (nonempty b bs w (λ e. omega (arith, eqb-true b 45 q)))) c)
      (λ q. pick₂ (Carries N) (eqb b 36) _ _ _ _ (λ q. c.variables)
      (λ q. pick₂ (Carries N) (eqb b 123) _ _ _ _ (λ q. c.placeables) (λ q. c.nothings false)))))))

  inline-keeps : (v : Bool) (x y : List ℕ) → Whole x
      → Carries (Upto loose y (length x)) (get_inline_expression sub v x) (get_inline_expression sub v (x ++ y))
  inline-keeps v [] y w = loose-nil y (get_inline_expression sub v []) (get_inline_expression sub v y)
  inline-keeps v (b ∷ bs) y w =
      inline-kept (Upto loose y (suc (length bs))) b bs y v w
      (inline-choices (λ p. Carries (Upto loose y (suc (length bs))) (p (b ∷ bs)) (p ((b ∷ bs) ++ y)))
      (λ p r. r.keeps (b ∷ bs) y w))

  pub inline-reads : (v : Bool) → Reads loose (get_inline_expression sub v)
  inline-reads v =
      record {
        stops =
            λ x y w s. inline-within (length x) (x ++ y) v
            (inline-choices (λ p. Within (length x) (p (x ++ y))) (λ p r. r.stops x y w s));
        keeps = inline-keeps v;
      }
