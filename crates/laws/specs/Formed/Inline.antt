-- Inline expressions: each is a child of its kind.
use Prim.Native.Nat.{ℕ, ◌+◌}
use Rattle.std.proofs.Common.{zero-add, sym, ◌∙◌, subst, eqb-true}
use Rattle.std.proofs.Math.Nat.{add-zero}
use Rattle.std.specs.Prelude.{◌≡◌, Bool, ◌||◌, take, eqb}
use Rattle.std.proofs.Math.Path.{refl, ap}
use Rattle.std.proofs.Math.Bool.{true, false}
use mathlib.Core.List.{List, [], ◌∷◌, ◌++◌, append-nil}
use Rattle.std.proofs.Math.Option.{some}
use Rattle.syntax.specs.Kind as Kind
use Rattle.syntax.specs.Bytes.{starts_with, starts, all, is_letter, is_digit, is_callee_part}
use Rattle.syntax.specs.Marks.{move_up, node}
use Rattle.syntax.specs.Reader.{Out, ok, bad, deep, after, next, ◌>>◌, pure, wrap, in_node}
use Rattle.syntax.specs.Pattern.{Inside}
use Rattle.syntax.specs.Expression.{Inline, string, number, variable, function, inner, message, term, inline_kind}
use Rattle.syntax.specs.Expression.{as_inline, number_literal, call_arguments, get_call_arguments, get_attribute_accessor}
use Rattle.syntax.specs.Expression.{term_reference, variable_reference, message_reference, function_reference, reference_by}
use Rattle.syntax.specs.Expression.{reference, nested_placeable, no_inline, non_literal, get_inline_expression}
use Rattle.syntax.specs.Shape.{step_in, step_by, final_by, models, among, step, final, opens, stay}
use Rattle.laws.specs.Bytes.{by_case, pick}
use Rattle.laws.specs.Answers.{Holds}
use Rattle.laws.specs.Values.{variable-value, term-value, reference-value}
use Rattle.laws.specs.Shape.Run.{otherwise}
use Rattle.laws.specs.Formed.Edge.{edge}
use Rattle.laws.specs.Formed.Reader.{Stand, at, ended, anywhere, Leads, by, closes, unsaid, leads-nil, leads-node}
use Rattle.laws.specs.Formed.Reader.{Made, made, stopped, too_deep, Makes, pure-makes, fail-makes, forget, bind}
use Rattle.laws.specs.Formed.Reader.{then, then_by}
use Rattle.laws.specs.Formed.Helper.{blank-makes, expect_byte-makes, number_literal-makes, identifier-makes}
use Rattle.laws.specs.Formed.Pattern.{InsideFormed}
use Rattle.laws.specs.Formed.String.{string-made}

-- where an inline expression may stand: in a placeable, a select, arguments, a named argument
pub inline-steps : (a : Inline) → (step 13 0 (inline_kind a) ≡ some 1) × (step 14 0 (inline_kind a) ≡ some 1)
    × (step 25 0 (inline_kind a) ≡ some 0) × (step 26 1 (inline_kind a) ≡ some 2)
unfolding inline_kind step step_by step_in models among
inline-steps string = (refl, refl, refl, refl)
inline-steps number = (refl, refl, refl, refl)
inline-steps variable = (refl, refl, refl, refl)
inline-steps function = (refl, refl, refl, refl)
inline-steps inner = (refl, refl, refl, refl)
inline-steps (message i a) = (refl, refl, refl, refl)
inline-steps (term a) = (refl, refl, refl, refl)

-- what is said of the content of an inline node of the kind k, if the value is of that kind
unfoldable pub in_kind : ℕ → Inline → Stand
in_kind k a = elim (eqb (inline_kind a) k) [ true ↦ ended | false ↦ anywhere ]

-- a value of the kind k or k'
abbrev Of : ℕ → ℕ → Inline → Type 0
Of k k' a = (eqb (inline_kind a) k || eqb (inline_kind a) k') ≡ true

module _ {n : ℕ} where
  number-makes : {k q r : ℕ} → step k q Kind.number ≡ some r → Makes n k (at q) (λ _. at r) number_literal
  unfolding number_literal Kind.is_text
  number-makes z = then (number_literal-makes 20 refl z) (pure-makes number (λ b. by stay))

  pub accessor-makes : {k q r : ℕ} → step k q Kind.identifier ≡ some r
      → Makes n k (at q) (λ v. at (elim v [ true ↦ r | false ↦ q ])) get_attribute_accessor
  unfolding get_attribute_accessor Kind.is_text edge
  accessor-makes {k} {q} {r} z = record {
    on = λ s. pick (Made n k (at q) (λ v. at (elim v [ true ↦ r | false ↦ q ])) s) (starts_with 46 s) _ _
        (λ h. (then (then (expect_byte-makes 46 refl) (identifier-makes 9 refl z)) (pure-makes true (λ b. by stay))).on s)
        (λ h. made {a = false} refl (by stay));
  }

  variable-makes : Makes n 21 (at 0) (in_kind 21) variable_reference
  unfolding variable_reference in_kind inline_kind Kind.is_text step step_by step_in final final_by models among
  variable-makes = then (expect_byte-makes 36 refl) (then (identifier-makes 9 refl refl) (pure-makes variable (λ b. closes stay refl)))

  no_inline-makes : {k : ℕ} {g : Stand} {f : Inline → Stand} (v : Bool) → Makes n k g f (no_inline v)
  unfolding no_inline
  no_inline-makes true = fail-makes _
  no_inline-makes false = fail-makes _

  -- a node of the value's kind, which is k or k', around content that is said for both
  as_inline-made : {i q r : ℕ} {s : List ℕ} (k k' : ℕ) → ((j : ℕ) → (eqb j k || eqb j k') ≡ true → (Kind.is_text j ≡ false) × (opens j ≡ 0))
      → ((a : Inline) → step i q (inline_kind a) ≡ some r) → (o : Out Inline) → Made n k (at 0) (in_kind k) s o
      → Made n k' (at 0) (in_kind k') s o
      → Holds (λ a ms j. Of k k' a) o → Made n i (at q) (λ _. at r) s (as_inline o)
  unfolding as_inline in_kind
  as_inline-made {i} {q} {r} {s} k k' c z (ok a ms j) (made e l) (made f m) h =
      made e
      (by_case (eqb (inline_kind a) k) (λ v. child k v (subst (λ g. Leads (edge s) n k (at 0) g ms) (said v) l))
      (λ v. let w = otherwise _ _ h v in child k' w (subst (λ g. Leads (edge s) n k' (at 0) g ms) (said w) m)))
    where
      said : {v : Bool} → v ≡ true → (elim v as (λ _. Stand) [ true ↦ ended | false ↦ anywhere ]) ≡ ended
      said {v} w = ap (λ (v : Bool). elim v as (λ _. Stand) [ true ↦ ended | false ↦ anywhere ]) w

      child : (k : ℕ) → eqb (inline_kind a) k ≡ true → Leads (edge s) n k (at 0) ended ms
          → Leads (edge s) n i (at q) (at r) (node (inline_kind a) ms)
      child k v l =
          leads-node (inline_kind a) (c (inline_kind a) h).0 (z a) (ap (λ j. j + n) (c (inline_kind a) h).1 ∙ zero-add n)
          (subst (λ j. Leads (edge s) n j (at 0) ended ms) (sym (eqb-true _ k v)) l)
  as_inline-made k k' c z (bad f j) m m' h = stopped
  as_inline-made k k' c z (deep j) m m' h = too_deep

  as_inline-one : {i q r : ℕ} {s : List ℕ} (k : ℕ) → Kind.is_text k ≡ false → opens k ≡ 0 → ((a : Inline) → step i q (inline_kind a) ≡ some r)
      → (o : Out Inline) → Made n k (at 0) (in_kind k) s o → Holds (λ a ms j. Of k k a) o → Made n i (at q) (λ _. at r) s (as_inline o)
  as_inline-one k t e z o m h =
      as_inline-made k k (λ j x. rw (eqb-true j k (by_case (eqb j k) (λ y. y) (λ y. otherwise _ _ x y))) (t, e)) z o m m h

  nested-made : {k : ℕ} {g h : Stand} {s : List ℕ} (o : Out (Unit {0})) → Made n k g (λ _. h) s (wrap 13 o)
      → Made n k g (λ _. h) s (as_inline (next s (λ _. pure inner) o))
  unfolding wrap as_inline next pure after inline_kind move_up
  nested-made (ok u ms j) (made e l) = made {ms = node 13 (ms ++ [])} {j = j + 0} (rw add-zero e) (rw append-nil l)
  nested-made (bad f j) stopped = stopped
  nested-made (deep j) too_deep = too_deep

module _ {n : ℕ} {sub : Inside} (law : InsideFormed n sub) where
  call-makes : {k : ℕ} (f : Bool → Stand) → Makes n k (f false) (λ _. f true) sub.parenthesised
      → Makes n k (f false) f (get_call_arguments sub)
  unfolding get_call_arguments call_arguments edge
  call-makes {k} f m = then blank-makes (record {
    on =
        λ s. pick (Made n k (f false) f s) (starts_with 40 s) _ _
        (λ q. (then m (pure-makes true (λ b. leads-nil (f true)))).on s)
        (λ q. made {a = false} refl (leads-nil (f false)));
  })

  term-makes : Makes n 24 (at 0) (in_kind 24) (term_reference sub)
  unfolding term_reference in_kind inline_kind Kind.is_text step step_by step_in final final_by models among
  term-makes = then (expect_byte-makes 45 refl) (then (identifier-makes 9 refl refl) (bind (accessor-makes refl) called))
    where
      done : (a v : Bool) (q : ℕ) → final 24 q ≡ true → Makes n 24 (at (elim v [ true ↦ 3 | false ↦ q ])) (in_kind 24) (pure (term a))
      done a true q f = pure-makes (term a) (λ b. closes stay refl)
      done a false q f = pure-makes (term a) (λ b. closes stay f)

      called : (a : Bool) → Makes n 24 (at (elim a [ true ↦ 2 | false ↦ 1 ])) (in_kind 24) (get_call_arguments sub >> pure (term a))
      called true =
          then_by (call-makes (λ v. at (elim v [ true ↦ 3 | false ↦ 2 ])) (law.parenthesised 24 2 3 refl))
          (λ v. done true v 2 refl)
      called false =
          then_by (call-makes (λ v. at (elim v [ true ↦ 3 | false ↦ 1 ])) (law.parenthesised 24 1 3 refl))
          (λ v. done false v 1 refl)

  -- a reference is of a function if there are arguments, else of a message
  function-made : (s : List ℕ) → Made n 22 (at 0) (in_kind 22) s (reference sub s)
  unfolding reference reference_by function_reference message_reference in_kind inline_kind Kind.is_text step step_by step_in
      final final_by models among
  function-made s =
      (bind (identifier-makes 9 refl refl)
      (λ i. bind (call-makes (λ v. at (elim v [ true ↦ 2 | false ↦ 1 ])) (law.parenthesised 22 1 2 refl))
      (by_call i))).on s
    where
      by_call : (i : ℕ) (v : Bool) → Makes n 22 (at (elim v [ true ↦ 2 | false ↦ 1 ])) (in_kind 22) (reference_by s i v)
      by_call i true =
          record {
            on =
                λ r. pick (Made n 22 (at 2) (in_kind 22) r) (all is_callee_part (take i s)) _ _
                (λ q. (pure-makes function (λ b. closes stay refl)).on r) (λ q. (fail-makes _).on r);
          }
      by_call i false = bind (forget (accessor-makes {n = n} {k = 23} {q = 1} refl)) (λ a. pure-makes (message i a) (λ b. unsaid))

  message-made : (s : List ℕ) → Made n 23 (at 0) (in_kind 23) s (reference sub s)
  unfolding reference reference_by function_reference message_reference in_kind inline_kind Kind.is_text step step_by step_in
      final final_by models among
  message-made s =
      (bind (identifier-makes 9 refl refl)
      (λ i. bind (call-makes (λ v. elim v [ true ↦ anywhere | false ↦ at 1 ]) (forget (law.parenthesised 22 1 2 refl)))
      (by_call i))).on s
    where
      done : (i : ℕ) (a : Bool) → Makes n 23 (at (elim a [ true ↦ 2 | false ↦ 1 ])) (in_kind 23) (pure (message i a))
      done i true = pure-makes (message i true) (λ b. closes stay refl)
      done i false = pure-makes (message i false) (λ b. closes stay refl)

      by_call : (i : ℕ) (v : Bool) → Makes n 23 (elim v [ true ↦ anywhere | false ↦ at 1 ]) (in_kind 23) (reference_by s i v)
      by_call i true =
          record {
            on =
                λ r. pick (Made n 23 anywhere (in_kind 23) r) (all is_callee_part (take i s)) _ _
                (λ q. (pure-makes function (λ b. unsaid)).on r) (λ q. (fail-makes _).on r);
          }
      by_call i false = bind (accessor-makes refl) (done i)

  pub inline-makes : {k q r : ℕ} → ((a : Inline) → step k q (inline_kind a) ≡ some r) → (v : Bool)
      → Makes n k (at q) (λ _. at r) (get_inline_expression sub v)
  inline-makes {k} {q} {r} z v = record { on = go }
    where
      either : (j : ℕ) → (eqb j 22 || eqb j 23) ≡ true → (Kind.is_text j ≡ false) × (opens j ≡ 0)
      either j h = unfold Kind.is_text opens among in
          (by_case (eqb j 22) (λ x. rw (eqb-true j 22 x) (refl, refl))
          (λ x. rw (eqb-true j 23 (otherwise _ _ h x)) (refl, refl)))

      go : (s : List ℕ) → Made n k (at q) (λ _. at r) s (get_inline_expression sub v s)
      go [] = unfold get_inline_expression in ((no_inline-makes v).on [])
      go (b ∷ bs) = unfold get_inline_expression non_literal nested_placeable ◌>>◌ inline_kind in_node Kind.is_text opens among in
          (pick P (eqb b 34) _ _ (λ h. string-made s (z string)) (λ h. pick P (is_digit b) _ _ (λ h. (number-makes (z number)).on s)
          (λ h. pick P (is_letter b) _ _
          (λ h. as_inline-made 22 23 either z (reference sub s) (function-made s) (message-made s)
          (reference-value (Of 22 23) sub refl (λ i a. refl) s))
          (λ h. pick P v _ _ (λ h. (no_inline-makes true).on s)
          (λ h. pick P (eqb b 45) _ _
          (λ h. pick P (starts is_letter bs) _ _
          (λ h. as_inline-one 24 refl refl z (term_reference sub s) (term-makes.on s)
          (term-value (Of 24 24) sub (λ t. refl) s))
          (λ h. (number-makes (z number)).on s))
          (λ h. pick P (eqb b 36) _ _
          (λ h. as_inline-one 21 refl refl z (variable_reference s) (variable-makes.on s)
          (variable-value (Of 21 21) refl s))
          (λ h. pick P (eqb b 123) _ _ (λ h. nested-made (sub.braced s) ((law.braced k q r (z inner)).on s))
          (λ h. (no_inline-makes false).on s))))))))
        where
          s : List ℕ
          s = b ∷ bs

          P : Out Inline → Type 0
          P = Made n k (at q) (λ _. at r) (b ∷ bs)
