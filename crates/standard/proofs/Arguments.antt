-- Arguments of calls: the reading's against the grammar's.
use Prim.Native.Nat.{ℕ, zero, suc, ◌+◌, ◌≤◌, ◌<◌}
use native.Mathlib.Omega.{arith}
use Rattle.std.proofs.Common.{add-zero, add_assoc, not-suc-le-zero, ap₂, ◌∙◌, drop-drop, eqb-true, eq-eqb, ne_eqb}
use Rattle.std.specs.Prelude.{◌≡◌, Bool, ◌&&◌, ◌||◌, not, length, take, eqb}
use Rattle.std.proofs.Math.Path.{refl, sym, ap, subst}
use Rattle.std.proofs.Math.Bool.{true, false}
use mathlib.Core.List.{List, [], ◌∷◌, ◌++◌, append-nil}
use Rattle.std.proofs.Math.ListN.{drop, length-drop}
use Rattle.std.proofs.lemmas.Bool.{eqb-false}
use Rattle.syntax.specs.Bytes.{starts, starts_with, eol, is_letter, is_digit}
use Rattle.syntax.specs.Marks.{Mark, move_up, text_node, node}
use Rattle.syntax.specs.Reader as Reader
use Rattle.syntax.specs.Reader.{Out, ok, bad, deep, Reader, Turn, again, done, turn_of, loop, repeat, wrap, in_node}
use Rattle.syntax.specs.Helper.{skip_blank, expect_byte, take_byte_if}
use Rattle.syntax.specs.Pattern as Pattern
use Rattle.syntax.specs.Expression as Reading
use Rattle.syntax.specs.Expression.{Inline, string, number, variable, function, inner, message, term}
use Rattle.syntax.specs.Expression.{get_inline_expression, same_bytes, is_among, is_none, named_value, named_argument}
use Rattle.syntax.specs.Expression.{after_reference, past_blank, argument_by, argument_turn, parenthesised}
use Rattle.laws.specs.Bytes.{by_case, clash}
use Rattle.laws.specs.Stable.{Holds}
use Rattle.standard.specs.Dialect.{rust, all}
use Rattle.standard.specs.Peg as Peg
use Rattle.standard.specs.Peg.{Answer, fits, fails, Parser, opt, byte, pick, only, list_of, list_turns, with_first, ◌>>◌, ◌>>=◌}
use Rattle.standard.specs.Abstract as Abstract
use Rattle.standard.specs.Abstract.{Arg, named, same, fresh_in, A9}
use Rattle.standard.specs.Lexical.{Identifier, blank?}
use Rattle.standard.specs.Grammar as Grammar
use Rattle.standard.specs.Grammar.{InlineExpression, literal, NamedArgument, Argument, argument-list, CallArguments}
use Rattle.standard.specs.Steps.{move_up-none, byte_fits, byte-fails, then-fits, then-fails, bind-fits, bind-fails}
use Rattle.standard.specs.Steps.{opt-fits, opt-fails, first, second, node-fits, node-fails, after-fails}
use Rattle.standard.specs.Steps.{after_none, after-skip, only-passes, only-forbids, only-fails, next-after, Uses}
use Rattle.standard.specs.Steps.{uses-first, uses-choice, uses-node}
use Rattle.standard.specs.Blank.{behind, blanks, is_blank_at, over, over-over, drop-over, no-blanks, blank?-is}
use Rattle.standard.specs.Blank.{skip_blank-is, reader-skips, parser-skips}
use Rattle.standard.specs.Same.{Same, nothing, Agree, same_after, same-wrap, wrap-after, then, same-blank}
use Rattle.standard.specs.Same.{same_byte, reads_then, reads-after, reads-skip, fits-pure, expects}
use Rattle.standard.specs.Near.{is_opening, Opens, Left, Near, over-after}
use Rattle.standard.proofs.Words.{name_of, parses-name, no_name, uses-name, form_of}
use Rattle.standard.proofs.Inline.{inline-near, literal-near, no-inline, uses-inline, colon-reference, Uncoloned, uncoloned}

-- A9
-- ------------------------------------------------------------------------------------------------------------------------------------------

-- A9 of arguments that follow named ones
unfoldable pub A9-after : List (List ℕ) → List Arg → Bool
A9-after names [] = true
A9-after names (Arg.positional ∷ args) = is_none names && A9-after names args
A9-after names (named n ∷ args) = not (is_among n names) && A9-after (n ∷ names) args

eqb-sym : (x y : ℕ) → eqb x y ≡ eqb y x
eqb-sym x y = by_case (eqb x y) (λ e. e ∙ sym (eq-eqb y x (sym (eqb-true x y e)))) (λ e. e ∙ sym (ne_eqb y x (λ h. eqb-false x y e (sym h))))

same-flip : (x y : List ℕ) → same x y ≡ same_bytes y x
unfolding same same_bytes
same-flip [] [] = refl
same-flip [] (y ∷ ys) = refl
same-flip (x ∷ xs) [] = refl
same-flip (x ∷ xs) (y ∷ ys) = ap₂ ◌&&◌ (eqb-sym x y) (same-flip xs ys)

-- no name is among the arguments
fresh_all : List (List ℕ) → List Arg → Bool
fresh_all [] args = true
fresh_all (n ∷ names) args = fresh_in n args && fresh_all names args

-- truth tables
apart-or : (s i f g : Bool) → ((not s && f) && (not i && g)) ≡ (not (s || i) && (f && g))
apart-or true i f g = refl
apart-or false i true g = refl
apart-or false true false g = refl
apart-or false false false g = refl

swapped : (a f g c : Bool) → (a && ((f && g) && c)) ≡ ((a && g) && (f && c))
swapped false f g c = refl
swapped true true g c = refl
swapped true false true c = refl
swapped true false false c = refl

fresh-named : (n : List ℕ) (names : List (List ℕ)) (args : List Arg)
    → fresh_all names (named n ∷ args) ≡ (not (is_among n names) && fresh_all names args)
unfolding fresh_all fresh_in is_among
fresh-named n [] args = refl
fresh-named n (m ∷ names) args = ap₂ (λ x y. (not x && fresh_in m args) && y) (same-flip m n) (fresh-named n names args)
    ∙ apart-or (same_bytes n m) (is_among n names) (fresh_in m args) (fresh_all names args)

fresh-none : (names : List (List ℕ)) → fresh_all names [] ≡ true
unfolding fresh_all fresh_in
fresh-none [] = refl
fresh-none (n ∷ names) = fresh-none names

A9-split : (names : List (List ℕ)) (args : List Arg) → A9-after names args ≡ (fresh_all names args && A9 args)
unfolding A9-after fresh_all A9 fresh_in is_none
A9-split names [] = rw (fresh-none names) refl
A9-split [] (Arg.positional ∷ args) = A9-split [] args
A9-split (n ∷ names) (Arg.positional ∷ args) = refl
A9-split names (named n ∷ args) = ap (λ v. not (is_among n names) && v) (A9-split (n ∷ names) args)
    ∙ swapped (not (is_among n names)) (fresh_in n args) (fresh_all names args) (A9 args)
    ∙ ap (λ v. v && (fresh_in n args && A9 args)) (sym (fresh-named n names args))

pub A9-is : (args : List Arg) → A9-after [] args ≡ A9 args
unfolding fresh_all
A9-is args = A9-split [] args

-- The separator
-- -------------------------------------------------------------------------------------------------------------------------------

-- the comma behind blanks, with the blanks behind it
unfoldable pub comma_used : List ℕ → ℕ
comma_used s = elim (starts_with 44 s) [ true ↦ 1 + blanks (drop 1 s) | false ↦ 0 ]

-- where the separator k bytes on ends
unfoldable pub separated : List ℕ → ℕ → ℕ
separated s k = over s k + comma_used (drop (over s k) s)

separator-read : (names : List (List ℕ)) (s : List ℕ) → Reading.separator names s ≡ ok names [] (blanks s + comma_used (behind s))
unfolding Reading.separator comma_used take_byte_if Reader.pure Reader.after move_up
separator-read names s = reader-skips _ s ∙ ap (Reader.after [] (blanks s)) (go (behind s) (no-blanks s))
  where
    end : Reader (List (List ℕ))
    end = Reader.◌>>◌ skip_blank (Reader.pure names)

    go : (t : List ℕ) → blanks t ≡ 0 → (Reader.◌>>◌ (take_byte_if 44) end) t ≡ ok names [] (comma_used t)
    go t z = by_case (starts_with 44 t)
        (λ e. let h : take_byte_if 44 t ≡ ok true [] 1 = rw (e, take_byte_if) refl in
        reads_then (take_byte_if 44) end t h ∙ ap (Reader.after [] 1) (reader-skips (Reader.pure names) (drop 1 t))
        ∙ rw (e, comma_used) (ap (ok names []) (omega arith)))
        (λ e. let h : take_byte_if 44 t ≡ ok false [] 0 = rw (e, take_byte_if) refl in
        reads_then (take_byte_if 44) end t h ∙ ap (Reader.after [] 0) (reader-skips (Reader.pure names) t)
        ∙ rw (e, comma_used, z) refl)

separator-parsed : (sub : Grammar.Inside) (s : List ℕ) → Grammar.separator rust sub s ≡ fits tt [] (blanks s + comma_used (behind s))
unfolding Grammar.separator comma_used pick rust all Peg.after move_up
separator-parsed sub s = parser-skips _ s ∙ ap (Peg.after [] (blanks s)) (go (behind s) (no-blanks s))
  where
    go : (t : List ℕ) → blanks t ≡ 0 → (opt tt (byte 44) >> blank?) t ≡ fits tt [] (comma_used t)
    go t z = by_case (starts_with 44 t)
        (λ e. then-fits (opt tt (byte 44)) blank? t (opt-fits tt (byte 44) t (byte_fits 44 t e))
        ∙ ap (Peg.after [] 1) (blank?-is (drop 1 t)) ∙ rw (e, comma_used) refl)
        (λ e. then-fits (opt tt (byte 44)) blank? t (opt-fails tt (byte 44) t (byte-fails 44 t e))
        ∙ ap (Peg.after [] 0) (blank?-is t) ∙ rw (e, comma_used, z) refl)

-- no blank is left behind it
comma-blanks : (t : List ℕ) → blanks t ≡ 0 → blanks (drop (comma_used t) t) ≡ 0
unfolding comma_used
comma-blanks t z =
    by_case (starts_with 44 t) (λ e. rw (e, comma_used) (rw (← drop-drop (blanks (drop 1 t)) 1 t) (no-blanks (drop 1 t))))
    (λ e. rw (e, comma_used) z)

over-blank : (s : List ℕ) (k : ℕ) → blanks (drop (over s k) s) ≡ 0
over-blank s k = rw (← drop-over s k) (no-blanks (drop k s))

separated-blanks : (s : List ℕ) (k : ℕ) → blanks (drop (separated s k) s) ≡ 0
unfolding separated
separated-blanks s k = rw (← drop-drop (comma_used (drop (over s k) s)) (over s k) s) (comma-blanks (drop (over s k) s) (over-blank s k))

-- the separator k bytes on
separator-from : (s : List ℕ) (k : ℕ) → k + (blanks (drop k s) + comma_used (behind (drop k s))) ≡ separated s k
unfolding separated over
separator-from s k = ap (λ r. k + (blanks (drop k s) + comma_used r)) (drop-over s k)
    ∙ sym (add_assoc k (blanks (drop k s)) (comma_used (drop (over s k) s)))

-- The list
-- ------------------------------------------------------------------------------------------------------------------------------------

module _ {sub₁ : Pattern.Inside} {sub₂ : Grammar.Inside} (agree : Agree sub₁ sub₂) where
  abbrev argument : Parser Arg
  argument = Argument rust sub₂

  abbrev listed : ℕ → Parser (List Arg)
  listed n = list_turns n argument (Grammar.separator rust sub₂)

  list_on : (n : ℕ) (s : List ℕ) {a : Arg} {ms : List Mark} {k : ℕ} → argument s ≡ fits a ms k
      → listed (suc n) s ≡ with_first a (Peg.after ms (separated s k) (listed n (drop (separated s k) s)))
  unfolding list_turns
  list_on n s {a} {ms} {k} e =
      let i = blanks (drop k s) + comma_used (behind (drop k s)) in
      rw (e, list_turns, separator-parsed sub₂ (drop k s)) (ap (with_first a) (after-skip ms k i (listed n (drop i (drop k s)))
      ∙ ap (λ r. Peg.after ms (k + i) (listed n r)) (drop-drop i k s)
      ∙ ap (λ j. Peg.after ms j (listed n (drop j s))) (separator-from s k)))

  list-end : (n : ℕ) (s : List ℕ) → argument s ≡ fails → listed n s ≡ fits [] [] 0
  unfolding list_turns
  list-end zero s e = refl
  list-end (suc n) s e = rw (e, list_turns) refl

  -- what follows the arguments, where named ones came before
  closed : List (List ℕ) → List Arg → Parser (Unit {0})
  closed names args = only (A9-after names args) >> (blank? >> byte 41)

  abbrev listed-closed : ℕ → List (List ℕ) → Parser (Unit {0})
  listed-closed n names s = Peg.next s (closed names) (listed n s)

  first-closed : (names : List (List ℕ)) (s : List ℕ) (a : Arg) (o : Answer (List Arg))
      → Peg.next s (closed names) (with_first a o) ≡ Peg.next s (λ args. closed names (a ∷ args)) o
  unfolding with_first Peg.next
  first-closed names s a (fits args ns j) = refl
  first-closed names s a fails = refl

  closed-by : (names names' : List (List ℕ)) (r : List ℕ) (a : Arg) (o : Answer (List Arg))
      → ((args : List Arg) → A9-after names (a ∷ args) ≡ A9-after names' args)
      → Peg.next r (λ args. closed names (a ∷ args)) o ≡ Peg.next r (closed names') o
  unfolding closed Peg.next
  closed-by names names' r a (fits args ns j) f = ap (λ v. Peg.after ns j ((only v >> (blank? >> byte 41)) (drop j r))) (f args)
  closed-by names names' r a fails f = refl

  closed_on : (n : ℕ) (names names' : List (List ℕ)) (s : List ℕ) {a : Arg} {ms : List Mark} {k : ℕ}
      → argument s ≡ fits a ms k → ((args : List Arg) → A9-after names (a ∷ args) ≡ A9-after names' args)
      → listed-closed (suc n) names s ≡ Peg.after ms (separated s k) (listed-closed n names' (drop (separated s k) s))
  closed_on n names names' s {a} {ms} {k} e f =
      let e' = separated s k in
      let o = listed n (drop e' s) in
      ap (Peg.next s (closed names)) (list_on n s e) ∙ first-closed names s a (Peg.after ms e' o)
      ∙ next-after s (λ args. closed names (a ∷ args)) ms e' o
      ∙ ap (Peg.after ms e') (closed-by names names' (drop e' s) a o f)

  -- a name comes twice, or a positional argument follows a named one
  forbidden : (n : ℕ) (names : List (List ℕ)) (s : List ℕ) {a : Arg} {ms : List Mark} {k : ℕ} → argument s ≡ fits a ms k
      → ((args : List Arg) → A9-after names (a ∷ args) ≡ false) → listed-closed (suc n) names s ≡ fails
  unfolding closed Peg.next
  forbidden n names s {a} {ms} {k} e f = ap (Peg.next s (closed names)) (list_on n s e)
      ∙ first-closed names s a (Peg.after ms (separated s k) (listed n (drop (separated s k) s)))
      ∙ go (Peg.after ms (separated s k) (listed n (drop (separated s k) s)))
    where
      go : (o : Answer (List Arg)) → Peg.next s (λ args. closed names (a ∷ args)) o ≡ fails
      go (fits args ns j) = after-fails ns j (only-forbids (A9-after names (a ∷ args)) (blank? >> byte 41) (drop j s) (f args))
      go fails = refl

  -- a rest at which neither an argument nor ")" stands
  record Stuck (t : List ℕ) : Type 0 where
    unblank : blanks t ≡ 0
    uncommaed : starts_with 44 t ≡ false
    unclosed : starts_with 41 t ≡ false
    unargued : argument t ≡ fails

  unclosed_at : (names : List (List ℕ)) (args : List Arg) (t : List ℕ) → blanks t ≡ 0 → starts_with 41 t ≡ false
      → closed names args t ≡ fails
  unfolding closed
  unclosed_at names args t z e =
      only-fails (A9-after names args) (blank? >> byte 41) t
      (parser-skips (byte 41) t ∙ after-fails [] (blanks t) (rw z (byte-fails 41 t e)))

  stuck-now : (n : ℕ) (names : List (List ℕ)) (t : List ℕ) → blanks t ≡ 0 → starts_with 41 t ≡ false → argument t ≡ fails
      → listed-closed n names t ≡ fails
  unfolding Peg.next
  stuck-now n names t z c e = ap (Peg.next t (closed names)) (list-end n t e) ∙ after-fails [] 0 (unclosed_at names [] t z c)

  separated-plain : (s : List ℕ) (k : ℕ) → starts_with 44 (drop (over s k) s) ≡ false → separated s k ≡ over s k
  unfolding separated comma_used
  separated-plain s k e = rw (e, separated, comma_used) (add-zero (over s k))

  stuck : (n : ℕ) (names : List (List ℕ)) (s : List ℕ) {a : Arg} {ms : List Mark} {k : ℕ} → argument s ≡ fits a ms k
      → Stuck (drop (over s k) s) → listed-closed (suc n) names s ≡ fails
  unfolding Peg.next
  stuck n names s {a} {ms} {k} e h =
      let p = separated s k in
      let t = drop p s in
      let g : Stuck t = subst (λ j. Stuck (drop j s)) (sym (separated-plain s k h.uncommaed)) h in
      ap (Peg.next s (closed names)) (list_on n s e) ∙ first-closed names s a (Peg.after ms p (listed n t))
      ∙ next-after s (λ args. closed names (a ∷ args)) ms p (listed n t)
      ∙ after-fails ms p
      (ap (Peg.next t (λ args. closed names (a ∷ args))) (list-end n t g.unargued)
      ∙ after-fails [] 0 (unclosed_at names (a ∷ []) t g.unblank g.unclosed))

  -- no argument starts so
  no-named : (s : List ℕ) → starts is_letter s ≡ false → NamedArgument rust sub₂ s ≡ fails
  unfolding NamedArgument
  no-named s e = node-fails 26 _ s (bind-fails (Identifier 9) _ s (no_name 9 s e))

  no-argument : (s : List ℕ) → NamedArgument rust sub₂ s ≡ fails → InlineExpression rust sub₂ s ≡ fails → argument s ≡ fails
  unfolding Argument
  no-argument s e h = second (NamedArgument rust sub₂) (InlineExpression rust sub₂ >> Peg.pure Arg.positional) s e
      ∙ then-fails (InlineExpression rust sub₂) (Peg.pure Arg.positional) s h

  stuck_at : (b : ℕ) (bs : List ℕ) → (is_opening b || eqb b 58) ≡ true → Stuck (b ∷ bs)
  unfolding is_opening blanks is_blank_at eol starts_with starts is_letter is_digit
  stuck_at b bs e = by_case (eqb b 40) (λ q. subst (λ x. Stuck (x ∷ bs)) (sym (eqb-true b 40 q))
      (record {
        unblank = refl;
        uncommaed = refl;
        unclosed = refl;
        unargued =
            no-argument (40 ∷ bs) (no-named (40 ∷ bs) refl) (no-inline agree (40 ∷ bs) refl refl refl refl refl refl);
      }))
      (λ q. by_case (eqb b 46) (λ r. subst (λ x. Stuck (x ∷ bs)) (sym (eqb-true b 46 r))
      (record {
        unblank = refl;
        uncommaed = refl;
        unclosed = refl;
        unargued =
            no-argument (46 ∷ bs) (no-named (46 ∷ bs) refl) (no-inline agree (46 ∷ bs) refl refl refl refl refl refl);
      }))
      (λ r. by_case (eqb b 58) (λ t. subst (λ x. Stuck (x ∷ bs)) (sym (eqb-true b 58 t))
      (record {
        unblank = refl;
        uncommaed = refl;
        unclosed = refl;
        unargued =
            no-argument (58 ∷ bs) (no-named (58 ∷ bs) refl) (no-inline agree (58 ∷ bs) refl refl refl refl refl refl);
      }))
      (λ t. clash e (rw q (rw r (rw t refl))))))

  opens-stuck : (t : List ℕ) → Opens t → Stuck t
  unfolding starts
  opens-stuck [] e = clash e refl
  opens-stuck (b ∷ bs) e = stuck_at b bs (rw e refl)

  colon-stuck : (t : List ℕ) → starts_with 58 t ≡ true → Stuck t
  unfolding starts_with is_opening
  colon-stuck [] e = clash e refl
  colon-stuck (b ∷ bs) e = stuck_at b bs (rw (eqb-true b 58 e) refl)

  -- One argument
  -- --------------------------------------------------------------------------------------------------------------------------------

  -- an argument with its separator
  abbrev Step : List (List ℕ) → List ℕ → Out (List (List ℕ)) → Type 0
  Step names s (ok names' ms p) = (a : Arg) × (k : ℕ) × (argument s ≡ fits a ms k) × (separated s k ≡ p)
      × ((args : List Arg) → A9-after names (a ∷ args) ≡ A9-after names' args)
  Step names s (bad e k) = (n : ℕ) → listed-closed (suc n) names s ≡ fails
  Step names s (deep k) = Unit {0}

  positional-fits : (s : List ℕ) {x : Abstract.Form} {ms : List Mark} {k : ℕ} → NamedArgument rust sub₂ s ≡ fails
      → InlineExpression rust sub₂ s ≡ fits x ms k → argument s ≡ fits Arg.positional ms k
  unfolding Argument Peg.pure
  positional-fits s {x} {ms} {k} e h = second (NamedArgument rust sub₂) (InlineExpression rust sub₂ >> Peg.pure Arg.positional) s e
      ∙ then-fits (InlineExpression rust sub₂) (Peg.pure Arg.positional) s h ∙ fits-pure Arg.positional ms k

  separated-same : (s : List ℕ) (k j : ℕ) → over s k ≡ over s j → separated s k ≡ separated s j
  unfolding separated
  separated-same s k j e = ap (λ p. p + comma_used (drop p s)) e

  step_ok : (names names' : List (List ℕ)) (s : List ℕ) (a : Arg) (ms : List Mark) (k j : ℕ) → argument s ≡ fits a ms j
      → over s j ≡ over s k → ((args : List Arg) → A9-after names (a ∷ args) ≡ A9-after names' args)
      → Step names s (Reader.after ms k (Reading.separator names' (drop k s)))
  unfolding Reader.after
  step_ok names names' s a ms k j e h f = rw (separator-read names' (drop k s)) (
    a,
    j,
    e ∙ ap (λ l. fits a l j) (sym (ap (λ r. ms ++ r) (move_up-none k) ∙ append-nil ms)),
    separated-same s j k h
        ∙ sym (separator-from s k),
    f,
  )

  -- a positional argument
  positional-step : (names : List (List ℕ)) (s : List ℕ) (ms : List Mark) (k j : ℕ)
      → argument s ≡ fits Arg.positional ms j → over s j ≡ over s k → Step names s (Reading.positional names ms k s)
  unfolding Reading.positional Reader.fail Reader.after A9-after
  positional-step names s ms k j e h = by_case (is_none names)
      (λ q. rw (q, Reading.positional) (step_ok names names s Arg.positional ms k j e h (λ args. rw q refl)))
      (λ q. rw (q, Reading.positional) (λ n. forbidden n names s e (λ args. rw q refl)))

  past_is : (k : ℕ) (s : List ℕ) → past_blank k s ≡ over s k
  unfolding past_blank over
  past_is k s = rw (skip_blank-is (drop k s), past_blank) refl

  bad-step : (names : List (List ℕ)) (s : List ℕ) → blanks s ≡ 0 → starts_with 41 s ≡ false
      → NamedArgument rust sub₂ s ≡ fails → (a : Answer Abstract.Form) → InlineExpression rust sub₂ s ≡ a → Left s a
      → (n : ℕ) → listed-closed (suc n) names s ≡ fails
  bad-step names s z c e (fits x ms j) h l n = stuck n names s (positional-fits s e h) (opens-stuck (drop (over s j) s) l)
  bad-step names s z c e fails h l n = stuck-now (suc n) names s z c (no-argument s e h)

  inline-step : (names : List (List ℕ)) (s : List ℕ) → blanks s ≡ 0 → starts_with 41 s ≡ false
      → NamedArgument rust sub₂ s ≡ fails → (o : Out Inline) → Near form_of s o (InlineExpression rust sub₂ s)
      → Holds (λ x ms k. Uncoloned agree s x k) o → Step names s (argument_by sub₁ names s o)
  unfolding argument_by after_reference
  inline-step names s z c e (ok (message n false) ms k) (j, h, l) u =
      subst (λ p. Step names s (after_reference sub₁ names n ms p s)) (sym (past_is k s))
      (rw (u, after_reference) (positional-step names s ms (over s k) j (positional-fits s e h) (l ∙ sym (over-over s k))))
  inline-step names s z c e (ok (message n true) ms k) (j, h, l) u = positional-step names s ms k j (positional-fits s e h) l
  inline-step names s z c e (ok string ms k) (j, h, l) u = positional-step names s ms k j (positional-fits s e h) l
  inline-step names s z c e (ok number ms k) (j, h, l) u = positional-step names s ms k j (positional-fits s e h) l
  inline-step names s z c e (ok variable ms k) (j, h, l) u = positional-step names s ms k j (positional-fits s e h) l
  inline-step names s z c e (ok function ms k) (j, h, l) u = positional-step names s ms k j (positional-fits s e h) l
  inline-step names s z c e (ok inner ms k) (j, h, l) u = positional-step names s ms k j (positional-fits s e h) l
  inline-step names s z c e (ok (term a) ms k) (j, h, l) u = positional-step names s ms k j (positional-fits s e h) l
  inline-step names s z c e (bad f k) h u = bad-step names s z c e (InlineExpression rust sub₂ s) refl h
  inline-step names s z c e (deep k) h u = tt

  -- a named argument, or a name without ":"
  module _ (s : List ℕ) (letter : starts is_letter s ≡ true) where
    abbrev name : List ℕ
    name = take (name_of s) s

    -- where ":" stands, and where the value starts
    abbrev colon-at : ℕ
    colon-at = over s (name_of s)

    abbrev value-at : ℕ
    value-at = colon-at + (1 + blanks (drop 1 (drop colon-at s)))

    value-drop : behind (drop 1 (drop colon-at s)) ≡ drop value-at s
    value-drop = drop-drop (blanks (drop 1 (drop colon-at s))) 1 (drop colon-at s)
        ∙ drop-drop (1 + blanks (drop 1 (drop colon-at s))) colon-at s

    literal-named : List ℕ → Parser Arg
    literal-named n = literal rust sub₂ >> Peg.pure (named n)

    named-rest : List ℕ → Parser Arg
    named-rest n = blank? >> (byte 58 >> (blank? >> literal-named n))

    no-colon : starts_with 58 (behind (drop (name_of s) s)) ≡ false → NamedArgument rust sub₂ s ≡ fails
    unfolding NamedArgument named-rest literal-named
    no-colon e = node-fails 26 (Identifier 9 >>= named-rest) s (bind-fits (Identifier 9) named-rest s (parses-name 9 s letter)
        ∙ after-fails _ (name_of s)
        (parser-skips _ (drop (name_of s) s)
        ∙ after-fails [] _ (then-fails (byte 58) _ (behind (drop (name_of s) s)) (byte-fails 58 _ e))))

    module _ (colon : starts_with 58 (behind (drop (name_of s) s)) ≡ true) where
      colon-rest : (t : List ℕ) → starts_with 58 t ≡ true
          → (byte 58 >> (blank? >> literal-named name)) t ≡ Peg.after [] (1 + blanks (drop 1 t))
          (literal-named name (behind (drop 1 t)))
      colon-rest t e = then-fits (byte 58) (blank? >> literal-named name) t (byte_fits 58 t e)
          ∙ ap (Peg.after [] 1) (parser-skips (literal-named name) (drop 1 t))
          ∙ after-skip [] 1 (blanks (drop 1 t)) (literal-named name (behind (drop 1 t)))

      named-body : (Identifier 9 >>= named-rest) s ≡ Peg.after (text_node 9 0 (name_of s)) value-at (literal-named name (drop value-at s))
      unfolding named-rest over
      named-body =
          let n = name_of s in
          let r = drop n s in
          bind-fits (Identifier 9) named-rest s (parses-name 9 s letter)
          ∙ ap (Peg.after (text_node 9 0 n) n)
          (parser-skips (byte 58 >> (blank? >> literal-named name)) r
          ∙ ap (Peg.after [] (blanks r)) (colon-rest (behind r) colon))
          ∙ after-skip (text_node 9 0 n) n (blanks r)
          (Peg.after [] (1 + blanks (drop 1 (behind r))) (literal-named name (behind (drop 1 (behind r)))))
          ∙ ap
          (λ t. Peg.after (text_node 9 0 n) colon-at
          (Peg.after [] (1 + blanks (drop 1 t)) (literal-named name (behind (drop 1 t)))))
          (drop-over s n)
          ∙ after-skip (text_node 9 0 n) colon-at (1 + blanks (drop 1 (drop colon-at s)))
          (literal-named name (behind (drop 1 (drop colon-at s))))
          ∙ ap (λ w. Peg.after (text_node 9 0 n) value-at (literal-named name w)) value-drop

      colon-here : starts_with 58 (drop colon-at s) ≡ true
      colon-here = subst (λ t. starts_with 58 t ≡ true) (drop-over s (name_of s)) colon

      named-read : Reader.after (text_node 9 0 (name_of s)) colon-at (named_value sub₁ (drop colon-at s)) ≡ Reader.after
          (text_node 9 0 (name_of s)) value-at (get_inline_expression sub₁ true (drop value-at s))
      unfolding named_value
      named-read =
          let t = drop colon-at s in
          ap (Reader.after (text_node 9 0 (name_of s)) colon-at)
          (reads_then (expect_byte 58) (Reader.◌>>◌ skip_blank (get_inline_expression sub₁ true)) t
          (expects 58 t colon-here)
          ∙ ap (Reader.after [] 1) (reader-skips (get_inline_expression sub₁ true) (drop 1 t))
          ∙ reads-skip [] 1 (blanks (drop 1 t)) (get_inline_expression sub₁ true (behind (drop 1 t))))
          ∙ reads-skip (text_node 9 0 (name_of s)) colon-at (1 + blanks (drop 1 t)) (get_inline_expression sub₁ true (behind (drop 1 t)))
          ∙ ap (λ w. Reader.after (text_node 9 0 (name_of s)) value-at (get_inline_expression sub₁ true w)) value-drop

      named-fits : {x : Abstract.Form} {ms : List Mark} {j : ℕ} → literal rust sub₂ (drop value-at s) ≡ fits x ms j
          → argument s ≡ fits (named name) (node 26 (text_node 9 0 (name_of s) ++ move_up value-at ms)) (value-at + j)
      unfolding Argument NamedArgument named-rest literal-named Peg.pure Peg.after
      named-fits {x} {ms} {j} e =
          first (NamedArgument rust sub₂) (InlineExpression rust sub₂ >> Peg.pure Arg.positional) s
          (node-fits 26 (Identifier 9 >>= named-rest) s (named-body
          ∙ ap (Peg.after (text_node 9 0 (name_of s)) value-at)
          (then-fits (literal rust sub₂) (Peg.pure (named name)) (drop value-at s) e
          ∙ fits-pure (named name) ms j)))

      named-fails : literal rust sub₂ (drop value-at s) ≡ fails → NamedArgument rust sub₂ s ≡ fails
      unfolding NamedArgument named-rest literal-named
      named-fails e =
          node-fails 26 (Identifier 9 >>= named-rest) s
          (named-body
          ∙ after-fails (text_node 9 0 (name_of s)) value-at
          (then-fails (literal rust sub₂) (Peg.pure (named name)) (drop value-at s) e))

      -- the name alone, before ":"
      name-end : over s (name_of s + (blanks (drop (name_of s) s) + 0)) ≡ colon-at
      unfolding over
      name-end = ap (over s) (omega arith) ∙ over-over s (name_of s)

      name-stuck : (names : List (List ℕ)) → NamedArgument rust sub₂ s ≡ fails → (n : ℕ) → listed-closed (suc n) names s ≡ fails
      name-stuck names e n =
          let (j, h, l) =
          subst (λ o. Near form_of s o (InlineExpression rust sub₂ s)) (colon-reference agree s letter colon)
          (inline-near agree s) in
          stuck n names s (positional-fits s e h)
          (subst (λ p. Stuck (drop p s)) (sym (l ∙ name-end)) (colon-stuck (drop colon-at s) colon-here))

      -- a name that comes twice
      twice : (names : List (List ℕ)) → is_among name names ≡ true → (a : Answer Abstract.Form)
          → literal rust sub₂ (drop value-at s) ≡ a → (n : ℕ) → listed-closed (suc n) names s ≡ fails
      unfolding A9-after
      twice names q (fits x ms j) e n = forbidden n names s (named-fits e) (λ args. rw q refl)
      twice names q fails e n = name-stuck names (named-fails e) n

      value-over : (k j : ℕ) → over (drop value-at s) j ≡ over (drop value-at s) k → over s (value-at + j) ≡ over s (value-at + k)
      value-over k j e = over-after s value-at j ∙ ap (λ n. value-at + n) e ∙ sym (over-after s value-at k)

      value-step : (names : List (List ℕ)) → is_among name names ≡ false → (o : Out Inline)
          → Near form_of (drop value-at s) o (literal rust sub₂ (drop value-at s))
          → Step names s
          (Reader.next s (λ _. Reading.separator (name ∷ names))
          (wrap 26 (Reader.after (text_node 9 0 (name_of s)) value-at o)))
      unfolding Reader.next Reader.after wrap A9-after
      value-step names q (ok x ms k) (j, e, h) =
          step_ok names (name ∷ names) s (named name) (node 26 (text_node 9 0 (name_of s) ++ move_up value-at ms))
          (value-at + k) (value-at + j) (named-fits e) (value-over k j h) (λ args. rw q refl)
      value-step names q (bad f k) h = go (literal rust sub₂ (drop value-at s)) refl h
        where
          go : (a : Answer Abstract.Form) → literal rust sub₂ (drop value-at s) ≡ a → Left (drop value-at s) a → (n : ℕ)
              → listed-closed (suc n) names s ≡ fails
          go (fits x ms j) e l n =
              stuck n names s (named-fits e)
              (opens-stuck (drop (over s (value-at + j)) s)
              (subst Opens
              (drop-drop (over (drop value-at s) j) value-at s ∙ ap (λ p. drop p s) (sym (over-after s value-at j))) l))
          go fails e l n = name-stuck names (named-fails e) n
      value-step names q (deep k) h = tt

      named_step : (names : List (List ℕ)) → Step names s (named_argument sub₁ names (name_of s) colon-at s)
      unfolding named_argument Reader.◌>>◌
      named_step names = by_case (is_among name names)
          (λ q. rw (q, named_argument) (twice names q (literal rust sub₂ (drop value-at s)) refl))
          (λ q. rw (q, named_argument)
          (rw named-read
          (value-step names q (get_inline_expression sub₁ true (drop value-at s))
          (literal-near agree (drop value-at s)))))

      colon-step : (names : List (List ℕ)) → Step names s (argument_by sub₁ names s (get_inline_expression sub₁ false s))
      unfolding argument_by after_reference
      colon-step names = rw (colon-reference agree s letter colon) (subst
          (λ p. Step names s
          (after_reference sub₁ names (name_of s)
          (node 23 (text_node 9 0 (name_of s) ++ move_up (name_of s) (move_up (blanks (drop (name_of s) s)) []))) p s))
          (sym (past_is (name_of s + (blanks (drop (name_of s) s) + 0)) s ∙ name-end)) (rw (colon-here, after_reference) (named_step names)))

  argument-step : (names : List (List ℕ)) (s : List ℕ) → blanks s ≡ 0 → starts_with 41 s ≡ false
      → Step names s (argument_by sub₁ names s (get_inline_expression sub₁ false s))
  argument-step names s z c = by_case (starts is_letter s)
      (λ l. by_case (starts_with 58 (behind (drop (name_of s) s))) (λ e. colon-step s l e names)
      (λ e. inline-step names s z c (no-colon s l e) (get_inline_expression sub₁ false s) (inline-near agree s) (uncoloned agree s (λ h. e))))
      (λ l. inline-step names s z c (no-named s l) (get_inline_expression sub₁ false s) (inline-near agree s)
      (uncoloned agree s (λ h. clash h l)))

  -- each uses a byte
  uses-argument : (s : List ℕ) → Uses (argument s)
  unfolding Argument NamedArgument ◌>>◌ ◌>>=◌
  uses-argument s =
      uses-choice (NamedArgument rust sub₂) (InlineExpression rust sub₂ >> Peg.pure Arg.positional) s
      (uses-node 26 _ s (uses-first s _ (Identifier 9 s) (uses-name 9 s)))
      (uses-first s _ (InlineExpression rust sub₂ s) (uses-inline agree s))

  -- All arguments
  -- -------------------------------------------------------------------------------------------------------------------------------

  abbrev reads-closed : ℕ → List (List ℕ) → Reader (Unit {0})
  reads-closed m names s = Reader.next s (λ _. expect_byte 41) (loop m (argument_turn sub₁) names s)

  -- where no argument is left
  list_done : (names : List (List ℕ)) (n : ℕ) (s : List ℕ) → blanks s ≡ 0 → argument s ≡ fails
      → Same nothing (Reader.after [] 0 (expect_byte 41 s)) (listed-closed n names s)
  unfolding closed A9-after Peg.next
  list_done names n s z e =
      let t : closed names [] s ≡ byte 41 s = only-passes true (blank? >> byte 41) s refl ∙ parser-skips (byte 41) s
      ∙ ap (λ k. Peg.after [] k (byte 41 (drop k s))) z ∙ after_none (byte 41 s) in
      rw (list-end n s e, t) (same_after nothing [] 0 (expect_byte 41 s) (byte 41 s) ((same_byte 41).same s))

  none-at-end : argument [] ≡ fails
  unfolding starts_with starts
  none-at-end = no-argument [] (no-named [] refl) (no-inline agree [] refl refl refl refl refl refl)

  none-closing : (bs : List ℕ) → argument (41 ∷ bs) ≡ fails
  unfolding starts_with starts is_letter is_digit
  none-closing bs = no-argument (41 ∷ bs) (no-named (41 ∷ bs) refl) (no-inline agree (41 ∷ bs) refl refl refl refl refl refl)

  -- an argument, and the others
  separated-least : (s : List ℕ) (k : ℕ) → k ≤ separated s k
  unfolding separated over
  separated-least s k = omega arith

  abbrev turned : ℕ → List ℕ → Turn (List (List ℕ)) (Unit {0}) → Out (Unit {0})
  turned m s t = elim t [ again st ms k ↦ Reader.after ms k (loop m (argument_turn sub₁) st (drop k s)) | done o ↦ o ]

  list-more : (m n : ℕ) (names : List (List ℕ)) (s : List ℕ) (o : Out (List (List ℕ))) → Step names s o → length s ≤ suc n → 0 < length s
      → ((names' : List (List ℕ)) (r : List ℕ) → blanks r ≡ 0 → length r ≤ n
      → Same nothing (reads-closed m names' r) (listed-closed n names' r))
      → Same nothing (Reader.next s (λ _. expect_byte 41) (turned m s (turn_of o))) (listed-closed (suc n) names s)
  unfolding turn_of
  list-more m n names s (ok names' ms p) (a, k, e, q, f) l i ih =
      let u : 0 < k = subst Uses e (uses-argument s) in
      let z : blanks (drop p s) ≡ 0 = subst (λ j. blanks (drop j s) ≡ 0) q (separated-blanks s k) in
      rw (reads-after s (λ _. expect_byte 41) ms p (loop m (argument_turn sub₁) names' (drop p s)), closed_on n names names' s e f, q)
      (same_after nothing ms p (reads-closed m names' (drop p s)) (listed-closed n names' (drop p s))
      (ih names' (drop p s) z (omega (arith, length-drop p s, separated-least s k))))
  list-more m n names s (bad d k) h l i ih = unfold Reader.next in (h n)
  list-more m n names s (deep k) h l i ih = unfold Reader.next in tt

  arguments-loop : (m n : ℕ) (names : List (List ℕ)) (s : List ℕ) → blanks s ≡ 0 → length s ≤ n
      → Same nothing (reads-closed m names s) (listed-closed n names s)
  unfolding loop argument_turn Reader.next starts_with
  arguments-loop zero n names s z l = tt
  arguments-loop (suc m) n names [] z l = list_done names n [] z none-at-end
  arguments-loop (suc m) zero names (b ∷ bs) z l = absurd (not-suc-le-zero l)
  arguments-loop (suc m) (suc n) names (b ∷ bs) z l = by_case (eqb b 41)
      (λ e. rw (e, loop, argument_turn)
      (list_done names (suc n) (b ∷ bs) z
      (subst (λ x. argument (x ∷ bs) ≡ fails) (sym (eqb-true b 41 e)) (none-closing bs))))
      (λ e. rw (e, loop, argument_turn)
      (list-more m n names (b ∷ bs) (argument_by sub₁ names (b ∷ bs) (get_inline_expression sub₁ false (b ∷ bs)))
      (argument-step names (b ∷ bs) z e) l (omega arith) (λ names' r h k. arguments-loop m n names' r h k)))

  -- CallArguments
  -- -------------------------------------------------------------------------------------------------------------------------------

  -- the rule and what follows, after the list
  listed-is : (s : List ℕ) → listed-closed (length s) [] s ≡ (argument-list rust sub₂ >> (blank? >> byte 41)) s
  unfolding argument-list list_of closed ◌>>◌ ◌>>=◌ Peg.next
  listed-is s = go (listed (length s) s)
    where
      go : (a : Answer (List Arg)) → Peg.next s (closed []) a ≡ Peg.next s (λ _. blank? >> byte 41) (Peg.next s (λ args. only (A9 args)) a)
      go (fits args ms k) = ap (λ v. Peg.after ms k ((only v >> (blank? >> byte 41)) (drop k s))) (A9-is args)
          ∙ sym (next-after s (λ _. blank? >> byte 41) ms k (only (A9 args) (drop k s)))
      go fails = refl

  -- after "("
  reads-list : Reader (Unit {0})
  reads-list = Reader.◌>>◌ (repeat (argument_turn sub₁) []) (expect_byte 41)

  arguments-same : (s : List ℕ)
      → Same nothing ((Reader.◌>>◌ skip_blank reads-list) s)
      ((blank? >> (argument-list rust sub₂ >> (blank? >> byte 41))) s)
  unfolding repeat reads-list Reader.◌>>◌
  arguments-same s =
      rw (reader-skips reads-list s, parser-skips (argument-list rust sub₂ >> (blank? >> byte 41)) s)
      (same_after nothing [] (blanks s) (reads-list (behind s)) _
      (subst (Same nothing (reads-closed (suc (length (behind s))) [] (behind s))) (listed-is (behind s))
      (arguments-loop (suc (length (behind s))) (length (behind s)) [] (behind s) (no-blanks s) (omega arith))))

  pub arguments-agree : (s : List ℕ) → Same nothing ((Reader.◌>>◌ skip_blank (parenthesised sub₁)) s) (CallArguments rust sub₂ s)
  unfolding parenthesised CallArguments in_node reads-list
  arguments-agree s =
      let q = Reader.◌>>◌ (expect_byte 40) (Reader.◌>>◌ skip_blank reads-list) in
      rw (reader-skips (parenthesised sub₁) s ∙ wrap-after (blanks s) 25 (q (behind s)) ∙ ap (wrap 25) (sym (reader-skips q s)))
      (same-wrap nothing 25 ((Reader.◌>>◌ skip_blank q) s)
      (blank? >> (byte 40 >> (blank? >> (argument-list rust sub₂ >> (blank? >> byte 41))))) s
      ((then same-blank (then (same_byte 40) (record { same = arguments-same }))).same s))

  pub no_arguments : (s : List ℕ) → starts_with 40 (behind s) ≡ false → CallArguments rust sub₂ s ≡ fails
  unfolding CallArguments
  no_arguments s e =
      node-fails 25 _ s
      (parser-skips _ s ∙ after-fails [] (blanks s) (then-fails (byte 40) _ (behind s) (byte-fails 40 (behind s) e)))
