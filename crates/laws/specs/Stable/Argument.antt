-- Call arguments at a cut.
use Rattle.std.specs.Prelude.{ℕ, suc, ◌+◌, ◌≤◌, ◌<◌, ◌≡◌, take, eqb, ltb}
use Rattle.std.proofs.Common.{not-suc-le-zero, sym, ◌∙◌}
use native.Mathlib.Omega.{arith}
use Rattle.std.proofs.Math.Path.{refl, ap, subst}
use Rattle.std.proofs.Math.Bool.{true, false}
use mathlib.Core.List.{List, [], ◌∷◌, ◌++◌}
use Rattle.std.proofs.Math.ListN.{drop, length, length-drop}
use Rattle.std.proofs.lemmas.List.{take-append-le}
use borrow.Author.Tests.{ltb-true, ltb-false}
use Rattle.syntax.specs.Bytes.{starts_with, run, is_name_part}
use Rattle.syntax.specs.declared.errors.ErrorKind.TheVariants as Errors
use Rattle.syntax.specs.Marks.{Mark, text_node}
use Rattle.syntax.specs.Reader.{Out, ok, bad, deep, Reader, fail, ◌>>◌, next, after, wrap}
use Rattle.syntax.specs.Helper.{skip_blank}
use Rattle.syntax.specs.Pattern.{Inside}
use Rattle.syntax.specs.Expression.{Inline, string, number, variable, function, inner, message, term}
use Rattle.syntax.specs.Expression.{get_inline_expression, is_among, is_none, separator, positional, named_value}
use Rattle.syntax.specs.Expression.{named_argument, after_reference, past_blank, argument_by, argument_turn}
use Rattle.laws.specs.Bytes.{Whole, whole_drop, Stop, by_case, drop_app, pick, pick₂}
use Rattle.laws.specs.Answers.{Holds, Sure, holds-map}
use Rattle.laws.specs.Bounds.Expression.{past_blank-least}
use Rattle.laws.specs.Stable.{loose, Upto, Within, Carries, Reads, from-any, then, pure-reads, TurnWithin}
use Rattle.laws.specs.Stable.{TurnCarries, Turns, Any, Free, turn_of-carries, turn_of-within, next-within}
use Rattle.laws.specs.Stable.{next-keeps, wrap-relabels, cont-within, cont-keeps, carries-trans, after-least}
use Rattle.laws.specs.Stable.{least-next, least-wrap, beyond}
use Rattle.laws.specs.Stable.Helper.{expect_byte-reads, take_byte_if-reads, blank-reads, blank-sure}
use Rattle.laws.specs.Stable.Pattern.{InsideLaw}
use Rattle.laws.specs.Values.{Fits, inline-fits}
use Rattle.laws.specs.Stable.Inline.{inline-reads}

separator-reads : (names : List (List ℕ)) → Reads loose (separator names)
unfolding separator
separator-reads names =
    then (blank-reads loose tt)
    (then (take_byte_if-reads 44 (λ e. omega arith)) (then (blank-reads loose tt) (pure-reads loose names)))

module _ (sub : Inside) (law : InsideLaw sub) where
  value-reads : Reads loose (named_value sub)
  unfolding named_value
  value-reads = then (from-any loose (expect_byte-reads 58 (λ e. omega arith))) (then (blank-reads loose tt) (inline-reads sub law true))

  module _ (x y : List ℕ) (w : Whole x) (names : List (List ℕ)) where
    positional-within : Stop y → (ms : List Mark) (k : ℕ) → k ≤ length x → Within (length x) (positional names ms k (x ++ y))
    unfolding positional fail after
    positional-within s ms k h =
        pick (Within (length x)) (is_none names) _ _
        (λ q. cont-within (separator names) (separator-reads names) x y w ms k s h) (λ q. tt)

    positional-keeps : (ms : List Mark) (k : ℕ)
        → Carries (Upto loose y (length x)) (positional names ms k x) (positional names ms k (x ++ y))
    unfolding positional fail after
    positional-keeps ms k =
        pick₂ (Carries (Upto loose y (length x))) (is_none names) _ _ _ _
        (λ q. cont-keeps (separator names) (separator-reads names) x y w ms k) (λ q. tt)

    positional-least : (ms : List Mark) (k : ℕ) (s : List ℕ) → Holds (λ b ns j. k ≤ j) (positional names ms k s)
    unfolding positional fail
    positional-least ms k s =
        by_case (is_none names) (λ q. rw (q, positional) (after-least ms k (separator names (drop k s))))
        (λ q. rw (q, positional)
        (after-least [] k (fail {A = List (List ℕ)} Errors.PositionalArgumentFollowsNamed (drop k s))))

    -- the reader of a named argument's value
    abbrev valued : ℕ → ℕ → Reader Inline
    valued n k r = wrap 26 (after (text_node 9 0 n) k (named_value sub (drop k r)))

    abbrev NamedWith : ℕ → ℕ → List ℕ → List ℕ → Out (List (List ℕ))
    NamedWith n k t s =
        elim
        (is_among t names) [
          | true ↦ bad (record { start = k; end = k + 1; kind = Errors.DuplicatedNamedArgument 0 n }) k
          | false ↦ next s (λ _. separator (t ∷ names)) (valued n k s)
        ]

    named-within : Stop y → (n k : ℕ) → k ≤ length x → Within (length x) (named_argument sub names n k (x ++ y))
    unfolding named_argument ◌>>◌
    named-within s n k h = pick (Within (length x)) (is_among (take n (x ++ y)) names) _ _ (λ q. tt)
        (λ q. next-within x y (λ _. separator (take n (x ++ y) ∷ names)) (valued n k (x ++ y))
        ((wrap-relabels 26).within (length x) (after (text_node 9 0 n) k (named_value sub (drop k (x ++ y))))
        (cont-within (named_value sub) value-reads x y w (text_node 9 0 n) k s h))
        (λ a j g. (separator-reads (take n (x ++ y) ∷ names)).stops (drop j x) y (whole_drop j x w) s))

    named_with-keeps : (n k : ℕ) (t : List ℕ) → Carries (Upto loose y (length x)) (NamedWith n k t x) (NamedWith n k t (x ++ y))
    named_with-keeps n k t = pick₂ (Carries (Upto loose y (length x))) (is_among t names) _ _ _ _ (λ q. tt)
        (λ q. next-keeps loose loose x y (λ _. separator (t ∷ names)) (valued n k x) (valued n k (x ++ y))
        ((wrap-relabels 26).carries (Upto loose y (length x)) (after (text_node 9 0 n) k (named_value sub (drop k x)))
        (after (text_node 9 0 n) k (named_value sub (drop k (x ++ y))))
        (cont-keeps (named_value sub) value-reads x y w (text_node 9 0 n) k))
        (λ a j. (separator-reads (t ∷ names)).keeps (drop j x) y (whole_drop j x w))
        (λ a b ns i j e u. omega arith))

    named-keeps : (n k : ℕ) → n ≤ length x
        → Carries (Upto loose y (length x)) (named_argument sub names n k x) (named_argument sub names n k (x ++ y))
    unfolding named_argument ◌>>◌
    named-keeps n k h =
        subst (λ t. Carries (Upto loose y (length x)) (NamedWith n k (take n x) x) (NamedWith n k t (x ++ y)))
        (sym (take-append-le n x y h)) (named_with-keeps n k (take n x))

    named-least : (n k : ℕ) (s : List ℕ) → Holds (λ b ns j. k ≤ j) (named_argument sub names n k s)
    unfolding named_argument ◌>>◌
    named-least n k s = by_case (is_among (take n s) names) (λ q. rw (q, named_argument) tt)
        (λ q. rw (q, named_argument)
        (least-next k s (λ _. separator (take n s ∷ names)) (valued n k s)
        (least-wrap k 26 (after (text_node 9 0 n) k (named_value sub (drop k s)))
        (after-least (text_node 9 0 n) k (named_value sub (drop k s))))))

    after_reference-least : (n : ℕ) (ms : List Mark) (k : ℕ) (s : List ℕ) → Holds (λ b ns j. k ≤ j) (after_reference sub names n ms k s)
    unfolding after_reference
    after_reference-least n ms k s =
        by_case (starts_with 58 (drop k s)) (λ q. rw (q, after_reference) (named-least n k s))
        (λ q. rw (q, after_reference) (positional-least ms k s))

    after_reference-within : Stop y → (n : ℕ) (ms : List Mark) (k : ℕ) → k ≤ length x
        → Within (length x) (after_reference sub names n ms k (x ++ y))
    unfolding after_reference
    after_reference-within s n ms k h =
        pick (Within (length x)) (starts_with 58 (drop k (x ++ y))) _ _ (λ q. named-within s n k h)
        (λ q. positional-within s ms k h)

    starts_with-same : (k : ℕ) → k < length x → starts_with 58 (drop k (x ++ y)) ≡ starts_with 58 (drop k x)
    unfolding starts_with
    starts_with-same k h = ap (starts_with 58) (drop_app k x y (omega arith)) ∙ go (drop k x) refl
      where
        go : (r : List ℕ) → drop k x ≡ r → starts_with 58 (r ++ y) ≡ starts_with 58 r
        go [] e = absurd (omega (arith, ap length e, length-drop k x))
        go (c ∷ cs) e = refl

    after_reference-keeps : (n : ℕ) (ms : List Mark) (k : ℕ) → n ≤ k
        → Carries (Upto loose y (length x)) (after_reference sub names n ms k x) (after_reference sub names n ms k (x ++ y))
    unfolding after_reference
    after_reference-keeps n ms k h =
        by_case (ltb k (length x))
        (λ q. subst
        (λ v. Carries {A = List (List ℕ)} (Upto loose y (length x))
        (elim (starts_with 58 (drop k x)) [ true ↦ named_argument sub names n k x | false ↦ positional names ms k x ])
        (elim v [ true ↦ named_argument sub names n k (x ++ y) | false ↦ positional names ms k (x ++ y) ]))
        (sym (starts_with-same k (ltb-true k (length x) q)))
        (pick₂ (Carries (Upto loose y (length x))) (starts_with 58 (drop k x)) _ _ _ _
        (λ r. named-keeps n k (omega (arith, ltb-true k (length x) q))) (λ r. positional-keeps ms k)))
        (λ q. beyond y (length x) k (after_reference sub names n ms k x) (after_reference sub names n ms k (x ++ y))
        (ltb-false k (length x) q) (after_reference-least n ms k x))

  past_of : ℕ → Out (Unit {0}) → ℕ
  past_of k o = elim o [ ok u ms j ↦ k + j | bad f j ↦ k | deep j ↦ k ]

  past_blank-within : (x y : List ℕ) → Whole x → Stop y → (k : ℕ) → k ≤ length x → past_blank k (x ++ y) ≤ length x
  unfolding past_blank past_of
  past_blank-within x y w s k h =
      rw (drop_app k x y h, past_blank)
      (go (skip_blank (drop k x ++ y)) ((blank-reads loose tt).stops (drop k x) y (whole_drop k x w) s))
    where
      go : (o : Out (Unit {0})) → Within (length (drop k x)) o → past_of k o ≤ length x
      go (ok a ms j) g = omega (arith, length-drop k x)
      go (bad f j) g = h
      go (deep j) g = h

  past_blank-same : (x y : List ℕ) → Whole x → (k : ℕ) → past_blank k x < length x → past_blank k (x ++ y) ≡ past_blank k x
  unfolding past_blank past_of
  past_blank-same x y w k h =
      ap (λ r. past_of k (skip_blank r)) (drop_app k x y (omega (arith, past_blank-least k x)))
      ∙ ap (past_of k) (go (skip_blank (drop k x)) (blank-sure (drop k x)) ((blank-reads loose tt).keeps (drop k x) y (whole_drop k x w)) h)
    where
      go : (o : Out (Unit {0})) → Sure o → Carries (Upto loose y (length (drop k x))) o (skip_blank (drop k x ++ y)) → past_of k o < length x
          → skip_blank (drop k x ++ y) ≡ o
      go (ok a ms j) s c g = c (rw length-drop (omega arith))
      go (bad f j) s c g = absurd s
      go (deep j) s c g = absurd s

  module _ (x y : List ℕ) (w : Whole x) (names : List (List ℕ)) where
    argument_by-within : Stop y → (o : Out Inline) → Within (length x) o → Within (length x) (argument_by sub names (x ++ y) o)
    unfolding argument_by
    argument_by-within s (ok (message n false) ms k) h =
        after_reference-within x y w names s n ms (past_blank k (x ++ y)) (past_blank-within x y w s k h)
    argument_by-within s (ok (message n true) ms k) h = positional-within x y w names s ms k h
    argument_by-within s (ok string ms k) h = positional-within x y w names s ms k h
    argument_by-within s (ok number ms k) h = positional-within x y w names s ms k h
    argument_by-within s (ok variable ms k) h = positional-within x y w names s ms k h
    argument_by-within s (ok function ms k) h = positional-within x y w names s ms k h
    argument_by-within s (ok inner ms k) h = positional-within x y w names s ms k h
    argument_by-within s (ok (term a) ms k) h = positional-within x y w names s ms k h
    argument_by-within s (bad f k) h = tt
    argument_by-within s (deep k) h = tt

    by-positional : (sh : Inline) (ms : List Mark) (k : ℕ) (o' : Out Inline) → (k < length x → o' ≡ ok sh ms k)
        → argument_by sub names (x ++ y) (ok sh ms k) ≡ positional names ms k (x ++ y)
        → Carries (Upto loose y (length x)) (positional names ms k x) (argument_by sub names (x ++ y) o')
    by-positional sh ms k o' c e =
        carries-trans (Upto loose y (length x)) (positional names ms k x) (positional names ms k (x ++ y))
        (argument_by sub names (x ++ y) o') (positional-keeps x y w names ms k)
        (holds-map (λ b ns j. k ≤ j)
        (λ b ns j. Upto loose y (length x) j → argument_by sub names (x ++ y) o' ≡ positional names ms k (x ++ y))
        (λ b ns j l u. ap (argument_by sub names (x ++ y)) (c (omega arith)) ∙ e) (positional names ms k x)
        (positional-least x y w names ms k x))

    argument_by-keeps : (o o' : Out Inline) → Fits (run is_name_part x) o → Carries (Upto loose y (length x)) o o'
        → Carries (Upto loose y (length x)) (argument_by sub names x o) (argument_by sub names (x ++ y) o')
    unfolding argument_by
    argument_by-keeps (ok (message n false) ms k) o' f c =
        let j = past_blank k x in
        carries-trans (Upto loose y (length x)) (after_reference sub names n ms j x)
        (after_reference sub names n ms j (x ++ y)) (argument_by sub names (x ++ y) o')
        (after_reference-keeps x y w names n ms j (omega (arith, past_blank-least k x)))
        (holds-map (λ b ns i. j ≤ i)
        (λ b ns i. Upto loose y (length x) i
        → argument_by sub names (x ++ y) o' ≡ after_reference sub names n ms j (x ++ y))
        (λ b ns i l u. ap (argument_by sub names (x ++ y)) (c (omega (arith, past_blank-least k x)))
        ∙ ap (λ h. after_reference sub names n ms h (x ++ y)) (past_blank-same x y w k (omega arith)))
        (after_reference sub names n ms j x) (after_reference-least x y w names n ms j x))
    argument_by-keeps (ok (message n true) ms k) o' f c = by-positional (message n true) ms k o' c refl
    argument_by-keeps (ok string ms k) o' f c = by-positional string ms k o' c refl
    argument_by-keeps (ok number ms k) o' f c = by-positional number ms k o' c refl
    argument_by-keeps (ok variable ms k) o' f c = by-positional variable ms k o' c refl
    argument_by-keeps (ok function ms k) o' f c = by-positional function ms k o' c refl
    argument_by-keeps (ok inner ms k) o' f c = by-positional inner ms k o' c refl
    argument_by-keeps (ok (term a) ms k) o' f c = by-positional (term a) ms k o' c refl
    argument_by-keeps (bad e k) o' f c = tt
    argument_by-keeps (deep k) o' f c = tt

  argument-stops : (names : List (List ℕ)) (x y : List ℕ) → Whole x → Unit {0} → Stop y
      → TurnWithin Free (length x) (argument_turn sub names (x ++ y))
  unfolding argument_turn
  argument-stops names [] [] w i s = omega arith
  argument-stops names [] (c ∷ cs) w i s = pick (TurnWithin Free 0) (eqb c 41) _ _ (λ q. omega arith)
      (λ q. turn_of-within (Unit {0}) 0 (argument_by sub names (c ∷ cs) (get_inline_expression sub false (c ∷ cs)))
      (argument_by-within [] (c ∷ cs) tt names s (get_inline_expression sub false (c ∷ cs))
      ((inline-reads sub law false).stops [] (c ∷ cs) tt s)))
  argument-stops names (b ∷ bs) y w i s = pick (TurnWithin Free (suc (length bs))) (eqb b 41) _ _ (λ q. omega arith)
      (λ q. turn_of-within (Unit {0}) (suc (length bs))
      (argument_by sub names ((b ∷ bs) ++ y) (get_inline_expression sub false ((b ∷ bs) ++ y)))
      (argument_by-within (b ∷ bs) y w names s (get_inline_expression sub false ((b ∷ bs) ++ y))
      ((inline-reads sub law false).stops (b ∷ bs) y w s)))

  argument-keeps : (names : List (List ℕ)) (x y : List ℕ) → Whole x → Unit {0}
      → TurnCarries Free (Upto loose y (length x)) (argument_turn sub names x) (argument_turn sub names (x ++ y))
  unfolding argument_turn
  argument-keeps names [] y w i = λ u. absurd (not-suc-le-zero u)
  argument-keeps names (b ∷ bs) y w i = pick₂ (TurnCarries Free (Upto loose y (suc (length bs)))) (eqb b 41) _ _ _ _ (λ q u. refl)
      (λ q. turn_of-carries (Unit {0}) (Upto loose y (suc (length bs)))
      (argument_by sub names (b ∷ bs) (get_inline_expression sub false (b ∷ bs)))
      (argument_by sub names ((b ∷ bs) ++ y) (get_inline_expression sub false ((b ∷ bs) ++ y)))
      (argument_by-keeps (b ∷ bs) y w names (get_inline_expression sub false (b ∷ bs))
      (get_inline_expression sub false ((b ∷ bs) ++ y)) (inline-fits sub false (b ∷ bs))
      ((inline-reads sub law false).keeps (b ∷ bs) y w)))

  pub argument-turns : Turns loose Any (argument_turn sub)
  argument-turns = record { stops = argument-stops; keeps = argument-keeps }
