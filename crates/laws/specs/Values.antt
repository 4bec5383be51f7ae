-- The values of inline expressions: which each reader can answer, and what a message reference's name is.
use Prim.Native.Nat.{ℕ, ◌≤◌}
use native.Mathlib.Omega.{arith}
use Rattle.std.specs.Prelude.{◌≡◌, refl, Bool, drop, take, eqb}
use Rattle.std.proofs.Math.Bool.{true, false}
use mathlib.Core.List.{List, [], ◌∷◌}
use Rattle.syntax.specs.Bytes.{starts, run, all, is_letter, is_digit, is_name_part, is_callee_part}
use Rattle.syntax.specs.Marks.{Mark}
use Rattle.syntax.specs.Reader.{Out, ok, bad, deep, fail, ◌>>=◌, ◌>>◌, pure, next, after}
use Rattle.syntax.specs.Helper.{expect_byte, get_identifier, get_number_literal}
use Rattle.syntax.specs.Pattern.{Inside}
use Rattle.syntax.specs.Expression.{Inline, string, number, variable, function, inner, message, term, as_inline}
use Rattle.syntax.specs.Expression.{string_literal, as_string, number_literal, get_call_arguments, get_attribute_accessor}
use Rattle.syntax.specs.Expression.{term_reference, variable_reference, message_reference, function_reference, reference_by}
use Rattle.syntax.specs.Expression.{reference, nested_placeable, no_inline, non_literal, get_inline_expression}
use Rattle.laws.specs.Bytes.{by_case, pick}
use Rattle.laws.specs.Answers.{Holds, holds-map, plain-next}

pub identifier-named : (kind : ℕ) (s : List ℕ) → Holds (λ n ms k. (n ≡ k) × (n ≡ run is_name_part s)) (get_identifier kind s)
unfolding get_identifier fail
identifier-named kind s = pick (Holds (λ n ms k. (n ≡ k) × (n ≡ run is_name_part s))) (starts is_letter s) _ _ (λ q. (refl, refl)) (λ q. tt)

-- a message reference's name is m bytes long, of the n that were used
abbrev pub NameUpto : ℕ → ℕ → Inline → Type 0
NameUpto m n string = Unit {0}
NameUpto m n number = Unit {0}
NameUpto m n variable = Unit {0}
NameUpto m n function = Unit {0}
NameUpto m n inner = Unit {0}
NameUpto m n (message i a) = (i ≤ n) × (i ≡ m)
NameUpto m n (term a) = Unit {0}

abbrev Nameless : Inline → Type 0
Nameless sh = (m n : ℕ) → NameUpto m n sh

abbrev pub Fits : ℕ → Out Inline → Type 0
Fits m o = Holds (λ sh ms k. NameUpto m k sh) o

nameless-fits : (m : ℕ) (o : Out Inline) → Holds (λ sh ms k. Nameless sh) o → Fits m o
nameless-fits m o h = holds-map (λ sh ms k. Nameless sh) (λ sh ms k. NameUpto m k sh) (λ sh ms k f. f m k) o h

as_inline-fits : (m : ℕ) (o : Out Inline) → Fits m o → Fits m (as_inline o)
unfolding as_inline
as_inline-fits m (ok a ms k) h = h
as_inline-fits m (bad f k) h = tt
as_inline-fits m (deep k) h = tt

as_string-fits : (m : ℕ) (o : Out (Unit {0})) → Fits m (as_string o)
unfolding as_string
as_string-fits m (ok a ms k) = tt
as_string-fits m (bad f k) = tt
as_string-fits m (deep k) = tt

-- what holds of the values that references can have
module _ (P : Inline → Type 0) where
  pure-value : (sh : Inline) → P sh → (s : List ℕ) → Holds (λ a ms k. P a) (pure sh s)
  unfolding pure
  pure-value sh h s = h

  pub number-value : P number → (s : List ℕ) → Holds (λ a ms k. P a) (number_literal s)
  unfolding number_literal ◌>>◌
  number-value h s = plain-next P s (λ _. pure number) (get_number_literal 20 s) (λ a r. pure-value number h r)

  pub variable-value : P variable → (s : List ℕ) → Holds (λ a ms k. P a) (variable_reference s)
  unfolding variable_reference ◌>>◌
  variable-value h s =
      plain-next P s (λ _. get_identifier 9 >> pure variable) (expect_byte 36 s)
      (λ a r. plain-next P r (λ _. pure variable) (get_identifier 9 r) (λ a r. pure-value variable h r))

  pub term-value : (sub : Inside) → ((t : Bool) → P (term t)) → (s : List ℕ) → Holds (λ a ms k. P a) (term_reference sub s)
  unfolding term_reference ◌>>◌ ◌>>=◌
  term-value sub h s =
      plain-next P s (λ _. get_identifier 9 >> (get_attribute_accessor >>= λ t. get_call_arguments sub >> pure (term t)))
      (expect_byte 45 s)
      (λ a r. plain-next P r (λ _. get_attribute_accessor >>= λ t. get_call_arguments sub >> pure (term t)) (get_identifier 9 r)
      (λ a r. plain-next P r (λ t. get_call_arguments sub >> pure (term t)) (get_attribute_accessor r)
      (λ t r. plain-next P r (λ _. pure (term t)) (get_call_arguments sub r) (λ a r. pure-value (term t) (h t) r))))

  pub nested-value : (sub : Inside) → P inner → (s : List ℕ) → Holds (λ a ms k. P a) (nested_placeable sub s)
  unfolding nested_placeable ◌>>◌
  nested-value sub h s = plain-next P s (λ _. pure inner) (sub.braced s) (λ a r. pure-value inner h r)

  reference_by-value : P function → (n : ℕ) → ((a : Bool) → P (message n a)) → (z : List ℕ) (v : Bool) (s : List ℕ)
      → Holds (λ a ms k. P a) (reference_by z n v s)
  unfolding reference_by function_reference message_reference pure fail ◌>>=◌
  reference_by-value f n h z true s =
      by_case (all is_callee_part (take n z)) (λ q. rw (q, function_reference) f) (λ q. rw (q, function_reference) tt)
  reference_by-value f n h z false s = plain-next P s (λ a. pure (message n a)) (get_attribute_accessor s) (λ a r. h a)

  pub reference-value : (sub : Inside) → P function → ((n : ℕ) (a : Bool) → P (message n a)) → (s : List ℕ)
      → Holds (λ a ms k. P a) (reference sub s)
  unfolding reference ◌>>=◌
  reference-value sub f h s = plain-next P s (λ n. get_call_arguments sub >>= (λ call. reference_by s n call)) (get_identifier 9 s)
      (λ n r. plain-next P r (λ call. reference_by s n call) (get_call_arguments sub r) (λ v z. reference_by-value f n (h n) s v z))

no_inline-nameless : (v : Bool) (s : List ℕ) → Holds (λ a ms k. Nameless a) (no_inline v s)
unfolding no_inline fail
no_inline-nameless true s = tt
no_inline-nameless false s = tt

module _ (sub : Inside) where
  after-fits : (m : ℕ) (ms : List Mark) (k : ℕ) (o : Out Inline) → m ≤ k → Holds (λ a ns j. NameUpto m m a) o → Fits m (after ms k o)
  unfolding after
  after-fits m ms k (ok (message i a) ns j) e h = (omega arith, h.1)
  after-fits m ms k (ok string ns j) e h = tt
  after-fits m ms k (ok number ns j) e h = tt
  after-fits m ms k (ok variable ns j) e h = tt
  after-fits m ms k (ok function ns j) e h = tt
  after-fits m ms k (ok inner ns j) e h = tt
  after-fits m ms k (ok (term a) ns j) e h = tt
  after-fits m ms k (bad f j) e h = tt
  after-fits m ms k (deep j) e h = tt

  named-fits : (m : ℕ) (z s : List ℕ) (o : Out ℕ) → Holds (λ n ms k. (n ≡ k) × (n ≡ m)) o
      → Fits m (next s (λ n. get_call_arguments sub >>= (λ call. reference_by z n call)) o)
  unfolding next ◌>>=◌
  named-fits m z s (ok n ms k) h = after-fits m ms k ((get_call_arguments sub >>= (λ call. reference_by z n call)) (drop k s)) (omega arith)
      (plain-next (NameUpto m m) (drop k s) (λ call. reference_by z n call) (get_call_arguments sub (drop k s))
      (λ v r. reference_by-value (NameUpto m m) tt n (λ a. (omega arith, h.1)) z v r))
  named-fits m z s (bad f k) h = tt
  named-fits m z s (deep k) h = tt

  reference-fits : (s : List ℕ) → Fits (run is_name_part s) (reference sub s)
  unfolding reference ◌>>=◌
  reference-fits s = named-fits (run is_name_part s) s s (get_identifier 9 s) (identifier-named 9 s)

  pub inline-fits : (v : Bool) (s : List ℕ) → Fits (run is_name_part s) (get_inline_expression sub v s)
  unfolding get_inline_expression non_literal
  inline-fits v [] = nameless-fits _ (no_inline v []) (no_inline-nameless v [])
  inline-fits v (b ∷ bs) =
      pick (Fits m) (eqb b 34) _ _ (λ q. as_string-fits m (string_literal s))
      (λ q. pick (Fits m) (is_digit b) _ _
      (λ q. nameless-fits m (number_literal s) (number-value Nameless (λ m n. tt) s))
      (λ q. pick (Fits m) (is_letter b) _ _ (λ q. as_inline-fits m (reference sub s) (reference-fits s))
      (λ q. pick (Fits m) v _ _ (λ q. nameless-fits m (no_inline true s) (no_inline-nameless true s))
      (λ q. pick (Fits m) (eqb b 45) _ _
      (λ q. pick (Fits m) (starts is_letter bs) _ _
      (λ q. as_inline-fits m (term_reference sub s)
      (nameless-fits m (term_reference sub s) (term-value Nameless sub (λ t m n. tt) s)))
      (λ q. nameless-fits m (number_literal s) (number-value Nameless (λ m n. tt) s)))
      (λ q. pick (Fits m) (eqb b 36) _ _
      (λ q. as_inline-fits m (variable_reference s)
      (nameless-fits m (variable_reference s) (variable-value Nameless (λ m n. tt) s)))
      (λ q. pick (Fits m) (eqb b 123) _ _
      (λ q. as_inline-fits m (nested_placeable sub s)
      (nameless-fits m (nested_placeable sub s) (nested-value Nameless sub (λ m n. tt) s)))
      (λ q. nameless-fits m (no_inline false s) (no_inline-nameless false s))))))))
    where
      s : List ℕ
      s = b ∷ bs

      m : ℕ
      m = run is_name_part s
