-- Call arguments: the marks of what stands in parentheses.
use Prim.Native.Nat.{ℕ, suc, ◌+◌}
use Rattle.std.proofs.Common.{zero-add, sym, subst}
use native.Mathlib.Omega.{arith}
use Rattle.std.specs.Prelude.{◌≡◌, Bool, true, drop, take, eqb}
use Rattle.std.proofs.Math.Path.{refl}
use Rattle.std.proofs.Math.Bool.{false}
use mathlib.Core.List.{List, [], ◌∷◌}
use Rattle.std.proofs.Math.Option.{some}
use Rattle.syntax.specs.Kind as Kind
use Rattle.syntax.specs.Bytes.{starts_with, run, is_name_part}
use Rattle.syntax.specs.Marks.{Mark, text_node}
use Rattle.syntax.specs.Reader.{Out, ok, bad, deep, after, ◌>>◌, fail, wrap}
use Rattle.syntax.specs.Helper.{skip_blank}
use Rattle.syntax.specs.Pattern.{Inside}
use Rattle.syntax.specs.Expression.{Inline, string, number, variable, function, inner, message, term}
use Rattle.syntax.specs.Expression.{get_inline_expression, is_among, is_none, separator, positional, named_value}
use Rattle.syntax.specs.Expression.{named_argument, after_reference, past_blank, argument_by, argument_turn, parenthesised}
use Rattle.syntax.specs.Shape.{step_in, step_by, final_by, models, among, step, final, opens, stay}
use Rattle.laws.specs.Bytes.{pick}
use Rattle.laws.specs.Values.{Fits, inline-fits}
use Rattle.laws.specs.Shape.Run.{run-text}
use Rattle.laws.specs.Formed.Edge.{edge, edge-add}
use Rattle.laws.specs.Formed.Reader.{Stand, at, ended, anywhere, Leads, by, closes, leads-nil, Made, made}
use Rattle.laws.specs.Formed.Reader.{stopped, too_deep, after-made, wrap-made, Makes, node-makes, pure-makes}
use Rattle.laws.specs.Formed.Reader.{end-makes, next-made, then, TurnMade, ends, turn_of-made, repeat-makes}
use Rattle.laws.specs.Formed.Helper.{edge-name, blank-makes, take_byte_if-makes, expect_byte-makes}
use Rattle.laws.specs.Formed.Pattern.{InsideFormed}
use Rattle.laws.specs.Formed.Inline.{inline-steps, inline-makes}

-- before and after the first named one
abbrev by_names : List (List ℕ) → Stand
by_names [] = at 0
by_names (x ∷ xs) = at 1

names-end : {boundary : ℕ → Bool} {n : ℕ} (names : List (List ℕ)) → Leads boundary n 25 (by_names names) ended []
unfolding final final_by models among
names-end [] = closes stay refl
names-end (x ∷ xs) = closes stay refl

past_blank-edge : (j : ℕ) (s : List ℕ) → edge s j ≡ true → edge s (past_blank j s) ≡ true
unfolding past_blank
past_blank-edge j s e = go (skip_blank (drop j s)) ((blank-makes {n = 0} {k = 0} {g = anywhere}).on (drop j s))
  where
    go : (o : Out (Unit {0})) → Made 0 0 anywhere (λ _. anywhere) (drop j s) o
        → edge s (elim o [ ok u ms i ↦ j + i | bad f i ↦ j | deep i ↦ j ]) ≡ true
    go (ok u ms i) (made f l) = edge-add s j i e f
    go (bad f i) m = e
    go (deep i) m = e

module _ {n : ℕ} {sub : Inside} (law : InsideFormed n sub) where
  separator-makes : (names : List (List ℕ)) → Makes n 25 (by_names names) by_names (separator names)
  unfolding separator
  separator-makes names =
      then blank-makes
      (then (take_byte_if-makes 44 refl) (then blank-makes (pure-makes names (λ b. leads-nil (by_names names)))))

  positional-made : {ms : List Mark} (names : List (List ℕ)) (j : ℕ) (s : List ℕ) → edge s j ≡ true
      → Leads (edge s) n 25 (at 0) (at 0) ms → Made n 25 (by_names names) by_names s (positional names ms j s)
  unfolding positional is_none after fail
  positional-made [] j s e l = after-made j e l ((separator-makes []).on (drop j s))
  positional-made (x ∷ xs) j s e l = stopped

  named_value-makes : Makes n 26 (at 1) (λ _. ended) (named_value sub)
  unfolding named_value final final_by models among
  named_value-makes =
      end-makes {t = 2} refl
      (then (expect_byte-makes 58 refl) (then blank-makes (inline-makes law (λ a. (inline-steps a).3) true)))

  named-made : (names : List (List ℕ)) (i j : ℕ) (s : List ℕ) → edge s i ≡ true → edge s j ≡ true
      → Made n 25 (by_names names) by_names s (named_argument sub names i j s)
  named-made names i j s e f = from names argued
    where
      argument : (q : ℕ) → step 25 q 26 ≡ some 1
          → Made n 25 (at q) (λ _. at 1) s (wrap 26 (after (text_node 9 0 i) j (named_value sub (drop j s))))
      argument q z = unfold Kind.is_text opens step step_by step_in models among edge in
          (wrap-made 26 refl z (zero-add n)
          (after-made j f (by (run-text (edge s) 9 0 i refl refl refl e (omega arith)))
          (named_value-makes.on (drop j s))))

      argued : (q : ℕ) → step 25 q 26 ≡ some 1 → Made n 25 (at q) by_names s (named_argument sub names i j s)
      argued q z = unfold named_argument ◌>>◌ in
          (pick (Made n 25 (at q) by_names s) (is_among (take i s) names) _ _ (λ h. stopped)
          (λ h. next-made (argument q z) (λ _. separator-makes (take i s ∷ names))))

      from : {o : Out (List (List ℕ))} (names : List (List ℕ))
          → ((q : ℕ) → step 25 q 26 ≡ some 1 → Made n 25 (at q) by_names s o) → Made n 25 (by_names names) by_names s o
      from [] m = unfold step step_by step_in models among in (m 0 refl)
      from (x ∷ xs) m = unfold step step_by step_in models among in (m 1 refl)

  argument_by-made : (names : List (List ℕ)) (s : List ℕ) (o : Out Inline) → Made n 25 (at 0) (λ _. at 0) s o
      → Fits (run is_name_part s) o → Made n 25 (by_names names) by_names s (argument_by sub names s o)
  unfolding argument_by after_reference
  argument_by-made names s (ok (message i false) ms j) (made e l) h =
      let p = past_blank j s in
      pick (Made n 25 (by_names names) by_names s) (starts_with 58 (drop p s)) _ _
      (λ q. named-made names i p s (subst (λ i. edge s i ≡ true) (sym h.1) (edge-name s)) (past_blank-edge j s e))
      (λ q. positional-made names p s (past_blank-edge j s e) l)
  argument_by-made names s (ok (message i true) ms j) (made e l) h = positional-made names j s e l
  argument_by-made names s (ok string ms j) (made e l) h = positional-made names j s e l
  argument_by-made names s (ok number ms j) (made e l) h = positional-made names j s e l
  argument_by-made names s (ok variable ms j) (made e l) h = positional-made names j s e l
  argument_by-made names s (ok function ms j) (made e l) h = positional-made names j s e l
  argument_by-made names s (ok inner ms j) (made e l) h = positional-made names j s e l
  argument_by-made names s (ok (term a) ms j) (made e l) h = positional-made names j s e l
  argument_by-made names s (bad f j) m h = stopped
  argument_by-made names s (deep j) m h = too_deep

  turn-made : (names : List (List ℕ)) (s : List ℕ) → TurnMade n 25 (by_names names) by_names (λ _. ended) s (argument_turn sub names s)
  unfolding argument_turn edge
  turn-made names [] = ends (made refl (names-end names))
  turn-made names (b ∷ bs) =
      pick (TurnMade n 25 (by_names names) by_names (λ _. ended) (b ∷ bs)) (eqb b 41) _ _
      (λ q. ends (made refl (names-end names)))
      (λ q. turn_of-made
      (argument_by-made names (b ∷ bs) (get_inline_expression sub false (b ∷ bs))
      ((inline-makes law (λ a. (inline-steps a).2) false).on (b ∷ bs)) (inline-fits sub false (b ∷ bs))))

  pub parenthesised-makes : (k q r : ℕ) → step k q Kind.arguments ≡ some r → Makes (suc n) k (at q) (λ _. at r) (parenthesised sub)
  unfolding parenthesised Kind.is_text opens among
  parenthesised-makes k q r z =
      let o : opens 25 + n ≡ suc n = omega arith in
      node-makes 25 refl z o
      (then (expect_byte-makes 40 refl)
      (then blank-makes (then (repeat-makes {f = by_names} turn-made []) (expect_byte-makes 41 refl))))
