-- Inline expressions: the reading's against the grammar's.
use Rattle.std.specs.Prelude.{ℕ, ◌+◌, ◌≤◌, ◌≡◌, Bool, ◌&&◌, eqb, leb}
use Rattle.std.proofs.Common.{arith, add-zero, ap₂, ◌∙◌, eqb-true, leb-true}
use Rattle.std.proofs.Math.Path.{refl, sym, ap, subst, subst₂}
use Rattle.std.proofs.Math.Bool.{true, false}
use mathlib.Core.List.{List, [], ◌∷◌, ◌++◌, append-nil}
use Rattle.std.proofs.Math.ListN.{drop, take}
use Rattle.std.proofs.lemmas.Bool.{lt-leb}
use Rattle.syntax.specs.Bytes.{starts, starts_with, run, all as all_bytes, is_letter, is_digit, is_upper, is_callee_part}
use Rattle.syntax.specs.Marks.{Mark, move_up, text_node, node}
use Rattle.syntax.specs.Reader as Reader
use Rattle.syntax.specs.Reader.{Out, ok, bad, deep, Reader, wrap}
use Rattle.syntax.specs.Helper.{skip_blank, expect_byte, get_identifier, get_number_literal}
use Rattle.syntax.specs.Pattern as Pattern
use Rattle.syntax.specs.Expression as Reading
use Rattle.syntax.specs.Expression.{Inline, string, number, variable, function, inner, message, term, inline_kind}
use Rattle.syntax.specs.Expression.{as_inline, call_arguments, get_call_arguments, get_attribute_accessor, variable_reference}
use Rattle.syntax.specs.Expression.{function_reference, message_reference, reference_by, reference, no_inline, non_literal}
use Rattle.syntax.specs.Expression.{get_inline_expression}
use Rattle.laws.specs.Bytes.{by_case, clash}
use Rattle.laws.specs.Stable.{Holds, plain-next}
use Rattle.standard.specs.Dialect.{rust, all}
use Rattle.standard.specs.Peg as Peg
use Rattle.standard.specs.Peg.{Answer, fits, fails, Parser, opt, byte, void, given, pick, only, ◌//◌, ◌>>◌, ◌>>=◌}
use Rattle.standard.specs.Abstract as Abstract
use Rattle.standard.specs.Abstract.{A8}
use Rattle.standard.specs.Lexical.{Identifier, NumberLiteral, UnsignedLiteral, AttributeAccessor, VariableReference, blank?}
use Rattle.standard.specs.Grammar as Grammar
use Rattle.standard.specs.Grammar.{StringLiteral, MessageReference, FunctionReference, TermReference, InlineExpression, literal}
use Rattle.standard.specs.Steps.{move_up-none, byte_fits, byte-fails, then-fits, then-fails, bind-fits, bind-fails}
use Rattle.standard.specs.Steps.{void-fits, void-fails, opt-fits, opt-fails, first, second, node-fits, node-fails}
use Rattle.standard.specs.Steps.{after-fails, only-passes, only-forbids, starts_other, choice-assoc, Uses}
use Rattle.standard.specs.Steps.{uses-first, uses-choice, uses-node, uses-byte}
use Rattle.standard.specs.Blank.{behind, blanks, over, over-over, drop-over, no-blank-at, over_none, over-blanks}
use Rattle.standard.specs.Blank.{reader-skips, parser-skips}
use Rattle.standard.specs.Same.{Same, nothing, Agree, reads-bind, ok-pure, fits-pure, same_next, same-wrap, same_byte, expects}
use Rattle.standard.specs.Near.{is_opening, Opens, opens_by, Left, Near, nearly-near, same-near, near-pure}
use Rattle.standard.specs.Near.{near-after, near-then, near-wrap, near-pick, near_first, near-second, Wrong}
use Rattle.standard.specs.Near.{wrong-near}
use Rattle.standard.proofs.Words.{letter-names, name_of, reads-name, parses-name, no_name, same_name, no_number}
use Rattle.standard.proofs.Words.{no-negative, no-unsigned-literal, number-literal, unsigned-literal, form_of}
use Rattle.standard.proofs.Words.{string-literal, uses-name, uses-number}

-- AttributeAccessor
-- ---------------------------------------------------------------------------------------------------------------------------

abbrev Access : List ℕ → Out Bool → Answer (Unit {0}) → Type 0
Access s (ok true ms k) a = a ≡ fits tt ms k
Access s (ok false ms k) a = (ms ≡ []) × (k ≡ 0) × (a ≡ fails)
Access s (bad e k) a = (starts_with 46 s ≡ true) × (a ≡ fails)
Access s (deep k) a = Unit {0}

no-dot : (s : List ℕ) → starts_with 46 s ≡ false → AttributeAccessor s ≡ fails
unfolding AttributeAccessor
no-dot s e = then-fails (byte 46) (void (Identifier 9)) s (byte-fails 46 s e)

accessor : (s : List ℕ) → Access s (get_attribute_accessor s) (AttributeAccessor s)
unfolding get_attribute_accessor AttributeAccessor Reader.◌>>◌ Reader.next Reader.after Reader.pure Peg.after move_up
accessor s =
    by_case (starts_with 46 s)
    (λ e. rw (e, get_attribute_accessor) (go e (get_identifier 9 (drop 1 s)) refl (same_name 9 (drop 1 s))))
    (λ e. rw (e, get_attribute_accessor) (refl, refl, no-dot s e))
  where
    dotted : Reader ℕ
    dotted = Reader.◌>>◌ (expect_byte 46) (get_identifier 9)

    go : starts_with 46 s ≡ true → (o : Out ℕ) → get_identifier 9 (drop 1 s) ≡ o
        → Same (λ n. take n (drop 1 s)) o (Identifier 9 (drop 1 s))
        → Access s ((Reader.◌>>◌ dotted (Reader.pure true)) s) (AttributeAccessor s)
    go e (ok n ms k) o h =
        rw (expects 46 s e, Reader.◌>>◌)
        (rw o
        (then-fits (byte 46) (void (Identifier 9)) s (byte_fits 46 s e)
        ∙ ap (Peg.after [] 1) (void-fits (Identifier 9) (drop 1 s) h)
        ∙ ap₂ (fits tt) (sym (append-nil (move_up 1 ms))) (sym (add-zero (1 + k)))))
    go e (bad f k) o h =
        rw (expects 46 s e, Reader.◌>>◌)
        (rw o (
          e,
          then-fits (byte 46) (void (Identifier 9)) s (byte_fits 46 s e)
              ∙ after-fails [] 1 (void-fails (Identifier 9) (drop 1 s) h),
        ))
    go e (deep k) o h = rw (expects 46 s e, Reader.◌>>◌) (rw o tt)

-- of a message reference, with the blanks before it
abbrev spaced : Parser (Unit {0})
spaced = given true (blank? >> AttributeAccessor) // AttributeAccessor

spaced-fits : (r : List ℕ) {ms : List Mark} {k : ℕ} → AttributeAccessor (behind r) ≡ fits tt ms k
    → spaced r ≡ fits tt (move_up (blanks r) ms) (blanks r + k)
unfolding given Peg.after
spaced-fits r e =
    first (blank? >> AttributeAccessor) AttributeAccessor r
    (parser-skips AttributeAccessor r ∙ ap (Peg.after [] (blanks r)) e)

spaced-fails : (r : List ℕ) → AttributeAccessor (behind r) ≡ fails → spaced r ≡ fails
unfolding given
spaced-fails r e = second (blank? >> AttributeAccessor) AttributeAccessor r (parser-skips AttributeAccessor r ∙ after-fails [] (blanks r) e)
    ∙ by_case (starts_with 46 r)
    (λ q. subst (λ n. AttributeAccessor (drop n r) ≡ fails) (no-blank-at 46 r q refl refl refl) e) (λ q. no-dot r q)

-- References
-- ----------------------------------------------------------------------------------------------------------------------------------

-- a byte of a class is no byte outside of it
pub apart : (p : ℕ → Bool) (b c : ℕ) → p b ≡ true → p c ≡ false → eqb b c ≡ false
apart p b c e f = by_case (eqb b c) (λ q. clash e (ap p (eqb-true b c q) ∙ f)) (λ q. q)

both : (p q : Bool) → (p && q) ≡ true → (p ≡ true) × (q ≡ true)
both true q e = (refl, e)
both false q e = clash e refl

-- digits are no letters
pub letter-no-digit : (b : ℕ) → is_letter b ≡ true → is_digit b ≡ false
unfolding is_letter is_digit
letter-no-digit b e = by_case (is_digit b) (λ q. let h : b ≤ 57 = leb-true b 57 (both (leb 48 b) (leb b 57) q).1 in
    clash e (rw (lt-leb 65 b (omega arith), lt-leb 97 b (omega arith)) refl)) (λ q. q)

pub digit-no-letter : (b : ℕ) → is_digit b ≡ true → is_letter b ≡ false
digit-no-letter b e = by_case (is_letter b) (λ q. clash e (letter-no-digit b q)) (λ q. q)

letters-no-digits : (s : List ℕ) → starts is_letter s ≡ true → starts is_digit s ≡ false
unfolding starts
letters-no-digits [] e = refl
letters-no-digits (b ∷ bs) e = letter-no-digit b e

-- a name that may be called
A8-is : (s : List ℕ) → starts is_letter s ≡ true → A8 (take (name_of s) s) ≡ all_bytes is_callee_part (take (name_of s) s)
unfolding A8 starts run all_bytes is_callee_part is_letter
A8-is [] e = clash e refl
A8-is (b ∷ bs) e =
    rw (letter-names b e, run)
    (by_case (is_upper b) (λ q. rw q refl)
    (λ q. rw q (rw (letter-no-digit b e) (rw (apart is_letter b 45 e refl) (rw (apart is_letter b 95 e refl) refl)))))

module _ {sub₁ : Pattern.Inside} {sub₂ : Grammar.Inside} (agree : Agree sub₁ sub₂) where
  truly : Out (Unit {0}) → Out Bool
  truly (ok u ms k) = ok true ms k
  truly (bad f k) = bad f k
  truly (deep k) = deep k

  call-read : (r : List ℕ) → starts_with 40 (behind r) ≡ true
      → get_call_arguments sub₁ r ≡ truly ((Reader.◌>>◌ skip_blank sub₁.parenthesised) r)
  unfolding get_call_arguments call_arguments truly Reader.◌>>◌ Reader.next Reader.after Reader.pure move_up
  call-read r e = reader-skips (call_arguments sub₁) r ∙ rw (e, call_arguments) (go (sub₁.parenthesised (behind r)) refl)
    where
      go : (o : Out (Unit {0})) → sub₁.parenthesised (behind r) ≡ o
          → Reader.after [] (blanks r) (Reader.next (behind r) (λ _. Reader.pure true) o) ≡ truly
          ((Reader.◌>>◌ skip_blank sub₁.parenthesised) r)
      go (ok u ms k) h =
          rw (reader-skips sub₁.parenthesised r, h)
          (ap₂ (λ l n. ok true (move_up (blanks r) l) (blanks r + n)) (append-nil ms) (add-zero k))
      go (bad f k) h = rw (reader-skips sub₁.parenthesised r, h) refl
      go (deep k) h = rw (reader-skips sub₁.parenthesised r, h) refl

  no-call-read : (r : List ℕ) → starts_with 40 (behind r) ≡ false → get_call_arguments sub₁ r ≡ ok false [] (blanks r)
  unfolding get_call_arguments call_arguments Reader.after move_up
  no-call-read r e = reader-skips (call_arguments sub₁) r ∙ rw (e, call_arguments) (ap (ok false []) (add-zero (blanks r)))

  -- a name that is called, or not
  module _ (s : List ℕ) (letter : starts is_letter s ≡ true) where
    abbrev named : List Mark → List Mark
    named ms = text_node 9 0 (name_of s) ++ move_up (name_of s) ms

    abbrev past : List ℕ
    past = drop (name_of s) s

    -- the reading's
    read-on : {o : Out Bool} → get_call_arguments sub₁ past ≡ o
        → reference sub₁ s ≡ Reader.after (text_node 9 0 (name_of s)) (name_of s)
        (Reader.next past (λ call. reference_by s (name_of s) call) o)
    unfolding reference Reader.◌>>=◌
    read-on e =
        reads-bind (get_identifier 9) (λ n. Reader.◌>>=◌ (get_call_arguments sub₁) (λ call. reference_by s n call)) s
        (reads-name 9 s letter)
        ∙ ap (λ o. Reader.after (text_node 9 0 (name_of s)) (name_of s) (Reader.next past (λ call. reference_by s (name_of s) call) o)) e

    read-function : {ms : List Mark} {k : ℕ} → get_call_arguments sub₁ past ≡ ok true ms k
        → all_bytes is_callee_part (take (name_of s) s) ≡ true → reference sub₁ s ≡ ok function (named ms) (name_of s + k)
    unfolding reference_by function_reference Reader.pure Reader.next Reader.after
    read-function {ms} {k} e h =
        let t : function_reference (take (name_of s) s) (drop k past) ≡ ok function [] 0 = rw (h, function_reference) refl in
        read-on e ∙ ap (λ o. Reader.after (text_node 9 0 (name_of s)) (name_of s) (Reader.after ms k o)) t
        ∙ ap (Reader.after (text_node 9 0 (name_of s)) (name_of s)) (ok-pure function ms k)

    read-forbidden : {ms : List Mark} {k : ℕ} → get_call_arguments sub₁ past ≡ ok true ms k
        → all_bytes is_callee_part (take (name_of s) s) ≡ false → Wrong (as_inline (reference sub₁ s))
    unfolding reference_by function_reference Reader.fail Reader.next Reader.after as_inline
    read-forbidden {ms} {k} e h = rw (read-on e, as_inline) (rw (h, function_reference) tt)

    read-message : {v : Bool} {ms : List Mark} {k : ℕ} → get_call_arguments sub₁ past ≡ ok false [] (blanks past)
        → get_attribute_accessor (behind past) ≡ ok v ms k
        → reference sub₁ s ≡ ok (message (name_of s) v) (named (move_up (blanks past) ms)) (name_of s + (blanks past + k))
    unfolding reference_by message_reference Reader.pure Reader.next Reader.after
    read-message {v} {ms} {k} e h = read-on e
        ∙ ap (λ o. Reader.after (text_node 9 0 (name_of s)) (name_of s) (Reader.after [] (blanks past) o))
        (reads-bind get_attribute_accessor (λ a. Reader.pure (message (name_of s) a)) (behind past) h
        ∙ ok-pure (message (name_of s) v) ms k)

    -- the grammar's
    message-rest : Parser Abstract.Form
    message-rest = opt tt spaced >> Peg.pure Abstract.message_reference

    message-fits : {ms : List Mark} {k : ℕ} → spaced past ≡ fits tt ms k
        → MessageReference rust s ≡ fits Abstract.message_reference (node 23 (named ms)) (name_of s + k)
    unfolding MessageReference rust all message-rest Peg.pure Peg.after
    message-fits {ms} {k} e =
        node-fits 23 (Identifier 9 >> message-rest) s (then-fits (Identifier 9) message-rest s (parses-name 9 s letter)
        ∙ ap (Peg.after (text_node 9 0 (name_of s)) (name_of s))
        (then-fits (opt tt spaced) (Peg.pure Abstract.message_reference) past (opt-fits tt spaced past e)
        ∙ fits-pure Abstract.message_reference ms k))

    message-plain : spaced past ≡ fails → MessageReference rust s ≡ fits Abstract.message_reference (node 23 (named [])) (name_of s + 0)
    unfolding MessageReference rust all message-rest Peg.pure Peg.after
    message-plain e = node-fits 23 (Identifier 9 >> message-rest) s (then-fits (Identifier 9) message-rest s (parses-name 9 s letter)
        ∙ ap (Peg.after (text_node 9 0 (name_of s)) (name_of s))
        (then-fits (opt tt spaced) (Peg.pure Abstract.message_reference) past (opt-fails tt spaced past e)
        ∙ fits-pure Abstract.message_reference [] 0))

    function-rest : List ℕ → Parser Abstract.Form
    function-rest name = sub₂.CallArguments >> (only (A8 name) >> Peg.pure Abstract.function)

    function-on : {ms : List Mark} {k : ℕ} → sub₂.CallArguments past ≡ fits tt ms k
        → (Identifier 9 >>= function-rest) s ≡ Peg.after (text_node 9 0 (name_of s)) (name_of s)
        (Peg.after ms k ((only (A8 (take (name_of s) s)) >> Peg.pure Abstract.function) (drop k past)))
    unfolding function-rest
    function-on e = bind-fits (Identifier 9) function-rest s (parses-name 9 s letter)
        ∙ ap (Peg.after (text_node 9 0 (name_of s)) (name_of s))
        (then-fits sub₂.CallArguments (only (A8 (take (name_of s) s)) >> Peg.pure Abstract.function) past e)

    function-fits : {ms : List Mark} {k : ℕ} → sub₂.CallArguments past ≡ fits tt ms k → all_bytes is_callee_part (take (name_of s) s) ≡ true
        → FunctionReference rust sub₂ s ≡ fits Abstract.function (node 22 (named ms)) (name_of s + k)
    unfolding FunctionReference function-rest Peg.pure Peg.after
    function-fits {ms} {k} e h =
        node-fits 22 (Identifier 9 >>= function-rest) s
        (function-on e ∙ ap (Peg.after (text_node 9 0 (name_of s)) (name_of s))
        (ap (Peg.after ms k)
        (only-passes (A8 (take (name_of s) s)) (Peg.pure Abstract.function) (drop k past) (A8-is s letter ∙ h))
        ∙ fits-pure Abstract.function ms k))

    function-forbidden : {ms : List Mark} {k : ℕ} → sub₂.CallArguments past ≡ fits tt ms k
        → all_bytes is_callee_part (take (name_of s) s) ≡ false → FunctionReference rust sub₂ s ≡ fails
    unfolding FunctionReference function-rest
    function-forbidden {ms} {k} e h =
        node-fails 22 (Identifier 9 >>= function-rest) s
        (function-on e ∙ after-fails (text_node 9 0 (name_of s)) (name_of s)
        (after-fails ms k (only-forbids (A8 (take (name_of s) s)) (Peg.pure Abstract.function) (drop k past) (A8-is s letter ∙ h))))

    function-fails : sub₂.CallArguments past ≡ fails → FunctionReference rust sub₂ s ≡ fails
    unfolding FunctionReference function-rest Peg.after
    function-fails e = node-fails 22 (Identifier 9 >>= function-rest) s (bind-fits (Identifier 9) function-rest s (parses-name 9 s letter)
        ∙ after-fails (text_node 9 0 (name_of s)) (name_of s)
        (then-fails sub₂.CallArguments (only (A8 (take (name_of s) s)) >> Peg.pure Abstract.function) past e))

    past-blanks : (k : ℕ) → k ≡ 0 → over s (name_of s + 0) ≡ over s (name_of s + (blanks past + k))
    unfolding over
    past-blanks k z = ap (over s) (add-zero (name_of s)) ∙ sym (over-over s (name_of s)) ∙ ap (over s) (omega arith)

    -- a rest that starts with "(" or "."
    leaves : (b : ℕ) → is_opening b ≡ true → starts_with b (behind past) ≡ true → FunctionReference rust sub₂ s ≡ fails
        → spaced past ≡ fails → Left s ((FunctionReference rust sub₂ // MessageReference rust) s)
    leaves b e h f g =
        rw (second (FunctionReference rust sub₂) (MessageReference rust) s f ∙ message-plain g)
        (rw (add-zero (name_of s)) (subst Opens (drop-over s (name_of s)) (opens_by b (behind past) e h)))

    pub reference-near : Near form_of s (as_inline (reference sub₁ s)) ((FunctionReference rust sub₂ // MessageReference rust) s)
    unfolding as_inline form_of inline_kind truly Reader.next Reader.after is_opening reference_by message_reference Reader.◌>>=◌
    reference-near = by_case (starts_with 40 (behind past))
        (λ e. call e ((Reader.◌>>◌ skip_blank sub₁.parenthesised) past) (call-read past e) (agree.arguments past))
        (λ e. plain (get_attribute_accessor (behind past)) refl (accessor (behind past)) (no-call-read past e)
        (function-fails (agree.no-parenthesis past e)))
      where
        call : starts_with 40 (behind past) ≡ true → (o : Out (Unit {0})) → get_call_arguments sub₁ past ≡ truly o
            → Same nothing o (sub₂.CallArguments past)
            → Near form_of s (as_inline (reference sub₁ s)) ((FunctionReference rust sub₂ // MessageReference rust) s)
        call q (ok u ms k) r h =
            let g : spaced past ≡ fails = spaced-fails past (no-dot (behind past) (starts_other 40 46 (behind past) q refl)) in
            by_case (all_bytes is_callee_part (take (name_of s) s))
            (λ c. rw (read-function r c)
            (name_of s + k, first (FunctionReference rust sub₂) (MessageReference rust) s (function-fits h c), refl))
            (λ c. wrong-near form_of s (as_inline (reference sub₁ s)) _ (read-forbidden r c) (leaves 40 refl q (function-forbidden h c) g))
        call q (bad f k) r h =
            rw (read-on r)
            (leaves 40 refl q (function-fails h)
            (spaced-fails past (no-dot (behind past) (starts_other 40 46 (behind past) q refl))))
        call q (deep k) r h = rw (read-on r) tt

        plain : (o : Out Bool) → get_attribute_accessor (behind past) ≡ o
            → Access (behind past) o (AttributeAccessor (behind past))
            → get_call_arguments sub₁ past ≡ ok false [] (blanks past)
            → FunctionReference rust sub₂ s ≡ fails
            → Near form_of s (as_inline (reference sub₁ s)) ((FunctionReference rust sub₂ // MessageReference rust) s)
        plain (ok true ms k) o h r f =
            rw (read-message r o) (
              name_of s + (blanks past + k),
              second (FunctionReference rust sub₂) (MessageReference rust) s f
                  ∙ message-fits (spaced-fits past h),
              refl,
            )
        plain (ok false ms k) o (m, z, h) r f =
            rw (read-message r o) (
              name_of s + 0,
              second (FunctionReference rust sub₂) (MessageReference rust) s f
                  ∙ message-plain (spaced-fails past h)
                  ∙ ap (λ l. fits Abstract.message_reference (node 23 (named l)) (name_of s + 0))
                  (sym (ap (move_up (blanks past)) m ∙ move_up-none (blanks past))),
              past-blanks k z,
            )
        plain (bad e k) o (d, h) r f = rw (read-on r, o) (leaves 46 refl d f (spaced-fails past h))
        plain (deep k) o h r f = rw (read-on r, o) tt

  -- arguments that need not be there
  maybe-arguments : (r : List ℕ) → Near nothing r (get_call_arguments sub₁ r) (opt tt sub₂.CallArguments r)
  unfolding truly is_opening
  maybe-arguments r =
      by_case (starts_with 40 (behind r))
      (λ e. rw (call-read r e) (go e ((Reader.◌>>◌ skip_blank sub₁.parenthesised) r) (agree.arguments r)))
      (λ e. rw (no-call-read r e) (0, opt-fails tt sub₂.CallArguments r (agree.no-parenthesis r e), over_none r ∙ sym (over-blanks r)))
    where
      go : starts_with 40 (behind r) ≡ true → (o : Out (Unit {0})) → Same nothing o (sub₂.CallArguments r)
          → Near nothing r (truly o) (opt tt sub₂.CallArguments r)
      go e (ok u ms k) h = (k, opt-fits tt sub₂.CallArguments r h, refl)
      go e (bad f k) h = rw (opt-fails tt sub₂.CallArguments r h) (rw (over_none r) (opens_by 40 (behind r) refl e))
      go e (deep k) h = tt

  -- what follows a term's name
  attribute : Parser Bool
  attribute = opt false (AttributeAccessor >> Peg.pure true)

  term-end : Bool → Parser Abstract.Form
  term-end a = opt tt sub₂.CallArguments >> Peg.pure (Abstract.term_reference a)

  reads_end : Bool → Reader Inline
  reads_end a = Reader.◌>>◌ (get_call_arguments sub₁) (Reader.pure (term a))

  arguments-near : (a : Bool) (r : List ℕ) → Near form_of r (reads_end a r) (term-end a r)
  unfolding Reader.◌>>◌ ◌>>◌ form_of term-end reads_end
  arguments-near a r = near-pure nothing form_of (term a) r (get_call_arguments sub₁ r) (opt tt sub₂.CallArguments r) (maybe-arguments r)

  dot-left : (r : List ℕ) → starts_with 46 r ≡ true → AttributeAccessor r ≡ fails → Left r ((attribute >>= term-end) r)
  unfolding attribute term-end Peg.pure Peg.after move_up is_opening
  dot-left r d h =
      let b : behind r ≡ r = ap (λ n. drop n r) (no-blank-at 46 r d refl refl refl) in
      let c : sub₂.CallArguments r ≡ fails = agree.no-parenthesis r (rw b (starts_other 46 40 r d refl)) in
      let t : (attribute >>= term-end) r ≡ fits (Abstract.term_reference false) [] 0 =
      bind-fits attribute term-end r
      (opt-fails false (AttributeAccessor >> Peg.pure true) r (then-fails AttributeAccessor (Peg.pure true) r h))
      ∙ ap (Peg.after [] 0)
      (then-fits (opt tt sub₂.CallArguments) (Peg.pure (Abstract.term_reference false)) r
      (opt-fails tt sub₂.CallArguments r c)) in
      rw t (rw (over_none r) (rw b (opens_by 46 r refl d)))

  term-rest : (r : List ℕ) → Near form_of r ((Reader.◌>>=◌ get_attribute_accessor reads_end) r) ((attribute >>= term-end) r)
  unfolding Reader.◌>>=◌ Reader.next attribute Peg.pure
  term-rest r = go (get_attribute_accessor r) (accessor r)
    where
      go : (o : Out Bool) → Access r o (AttributeAccessor r) → Near form_of r (Reader.next r reads_end o) ((attribute >>= term-end) r)
      go (ok true ms k) h =
          rw
          (bind-fits attribute term-end r
          (opt-fits false (AttributeAccessor >> Peg.pure true) r
          (then-fits AttributeAccessor (Peg.pure true) r h ∙ fits-pure true ms k)))
          (near-after form_of r ms k (reads_end true (drop k r)) (term-end true (drop k r)) (arguments-near true (drop k r)))
      go (ok false ms k) (m, z, h) =
          subst₂ (λ ns j. Near form_of r (Reader.after ns j (reads_end false (drop j r))) ((attribute >>= term-end) r))
          (sym m) (sym z)
          (rw
          (bind-fits attribute term-end r
          (opt-fails false (AttributeAccessor >> Peg.pure true) r
          (then-fails AttributeAccessor (Peg.pure true) r h)))
          (near-after form_of r [] 0 (reads_end false r) (term-end false r) (arguments-near false r)))
      go (bad e k) (d, h) = dot-left r d h
      go (deep k) h = tt

  -- the kind of what is read
  kinded : (kind : ℕ) (o : Out Inline) → Holds (λ x ms k. inline_kind x ≡ kind) o → as_inline o ≡ wrap kind o
  unfolding as_inline wrap
  kinded kind (ok x ms k) h = ap (λ n. ok x (node n ms) k) h
  kinded kind (bad e k) h = refl
  kinded kind (deep k) h = refl

  abbrev OfKind : ℕ → Inline → Type 0
  OfKind kind x = inline_kind x ≡ kind

  term-kind : (s : List ℕ) → Holds (λ x ms k. OfKind 24 x) (Reading.term_reference sub₁ s)
  unfolding Reading.term_reference Reader.◌>>◌ Reader.◌>>=◌ Reader.pure inline_kind
  term-kind s =
      plain-next (OfKind 24) s _ (expect_byte 45 s)
      (λ a r. plain-next (OfKind 24) r _ (get_identifier 9 r)
      (λ a r. plain-next (OfKind 24) r _ (get_attribute_accessor r)
      (λ a r. plain-next (OfKind 24) r _ (get_call_arguments sub₁ r) (λ a r. refl))))

  term-near : (s : List ℕ) → Near form_of s (as_inline (Reading.term_reference sub₁ s)) (TermReference rust sub₂ s)
  unfolding Reading.term_reference TermReference attribute term-end reads_end Reader.◌>>◌ ◌>>◌
  term-near s = rw (kinded 24 (Reading.term_reference sub₁ s) (term-kind s))
      (near-wrap form_of 24 s (Reading.term_reference sub₁ s) (byte 45 >> (Identifier 9 >> (attribute >>= term-end)))
      (near-then nothing form_of s (λ _. Reader.◌>>◌ (get_identifier 9) (Reader.◌>>=◌ get_attribute_accessor reads_end))
      (λ _. Identifier 9 >> (attribute >>= term-end)) (expect_byte 45 s) (byte 45 s) ((same_byte 45).same s)
      (λ x r. near-then (λ n. take n r) form_of r (λ _. Reader.◌>>=◌ get_attribute_accessor reads_end)
      (λ _. attribute >>= term-end) (get_identifier 9 r) (Identifier 9 r) (same_name 9 r) (λ x r. term-rest r))))

  -- VariableReference
  variable-kind : (s : List ℕ) → Holds (λ x ms k. OfKind 21 x) (variable_reference s)
  unfolding variable_reference Reader.◌>>◌ Reader.pure inline_kind
  variable-kind s = plain-next (OfKind 21) s _ (expect_byte 36 s) (λ a r. plain-next (OfKind 21) r _ (get_identifier 9 r) (λ a r. refl))

  variable-same : (s : List ℕ) → Same form_of (as_inline (variable_reference s)) (VariableReference s)
  unfolding variable_reference VariableReference Reader.◌>>◌ ◌>>◌ Reader.pure Peg.pure form_of
  variable-same s =
      rw (kinded 21 (variable_reference s) (variable-kind s))
      (same-wrap form_of 21 (variable_reference s) (byte 36 >> (Identifier 9 >> Peg.pure Abstract.variable)) s
      (same_next nothing form_of s (λ _. Reader.◌>>◌ (get_identifier 9) (Reader.pure variable))
      (λ _. Identifier 9 >> Peg.pure Abstract.variable) (expect_byte 36 s) (byte 36 s) ((same_byte 36).same s)
      (λ x r. same_next (λ n. take n r) form_of r (λ _. Reader.pure variable) (λ _. Peg.pure Abstract.variable)
      (get_identifier 9 r) (Identifier 9 r) (same_name 9 r) (λ x r. refl))))

  -- a placeable
  placeable-same : (s : List ℕ)
      → Same form_of (as_inline (Reading.nested_placeable sub₁ s))
      ((sub₂.inline-placeable >> Peg.pure Abstract.nested_placeable) s)
  unfolding Reading.nested_placeable Reader.◌>>◌ ◌>>◌ Reader.next Reader.pure Peg.next Peg.pure wrap as_inline inline_kind form_of
  placeable-same s = go (sub₁.braced s) (agree.placeables s)
    where
      go : (o : Out (Unit {0})) → Same nothing (wrap 13 o) (sub₂.inline-placeable s)
          → Same form_of (as_inline (Reader.next s (λ _. Reader.pure inner) o))
          (Peg.next s (λ _. Peg.pure Abstract.nested_placeable) (sub₂.inline-placeable s))
      go (ok u ms k) h = rw (h, ok-pure inner ms k) (fits-pure Abstract.nested_placeable (node 13 ms) k)
      go (bad e k) h = rw h refl
      go (deep k) h = tt

  -- InlineExpression
  -- ----------------------------------------------------------------------------------------------------------------------------

  abbrev NearAt : List ℕ → Out Inline → Parser Abstract.Form → Type 0
  NearAt s o p = Near form_of s o (p s)

  -- what fails by its first byte
  no-string : (s : List ℕ) → starts_with 34 s ≡ false → StringLiteral rust s ≡ fails
  unfolding StringLiteral
  no-string s e = then-fails (byte 34) _ s (byte-fails 34 s e)

  no-reference : (s : List ℕ) → starts is_letter s ≡ false → (FunctionReference rust sub₂ // MessageReference rust) s ≡ fails
  unfolding FunctionReference MessageReference
  no-reference s e =
      second (FunctionReference rust sub₂) (MessageReference rust) s
      (node-fails 22 _ s (bind-fails (Identifier 9) _ s (no_name 9 s e)))
      ∙ node-fails 23 _ s (then-fails (Identifier 9) _ s (no_name 9 s e))

  no-term : (s : List ℕ) → starts_with 45 s ≡ false → TermReference rust sub₂ s ≡ fails
  unfolding TermReference
  no-term s e = node-fails 24 _ s (then-fails (byte 45) _ s (byte-fails 45 s e))

  no-variable : (s : List ℕ) → starts_with 36 s ≡ false → VariableReference s ≡ fails
  unfolding VariableReference
  no-variable s e = node-fails 21 _ s (then-fails (byte 36) _ s (byte-fails 36 s e))

  no-placeable : (s : List ℕ) → starts_with 123 s ≡ false → (sub₂.inline-placeable >> Peg.pure Abstract.nested_placeable) s ≡ fails
  no-placeable s e = then-fails sub₂.inline-placeable (Peg.pure Abstract.nested_placeable) s (agree.no-brace s e)

  no-term-name : (s : List ℕ) → starts_with 45 s ≡ true → starts is_letter (drop 1 s) ≡ false → TermReference rust sub₂ s ≡ fails
  unfolding TermReference
  no-term-name s e h =
      node-fails 24 _ s
      (then-fits (byte 45) _ s (byte_fits 45 s e)
      ∙ after-fails [] 1 (then-fails (Identifier 9) _ (drop 1 s) (no_name 9 (drop 1 s) h)))

  -- the alternatives from one on
  abbrev from-placeable : Parser Abstract.Form
  from-placeable = sub₂.inline-placeable >> Peg.pure Abstract.nested_placeable

  abbrev from-variable : Parser Abstract.Form
  from-variable = VariableReference // from-placeable

  abbrev from-term : Parser Abstract.Form
  from-term = TermReference rust sub₂ // from-variable

  abbrev from-reference : Parser Abstract.Form
  from-reference = FunctionReference rust sub₂ // (MessageReference rust // from-term)

  abbrev from-number : Parser Abstract.Form
  from-number = NumberLiteral 20 // from-reference

  no-variables : (s : List ℕ) → starts_with 36 s ≡ false → starts_with 123 s ≡ false → from-variable s ≡ fails
  no-variables s e h = second VariableReference from-placeable s (no-variable s e) ∙ no-placeable s h

  no-terms : (s : List ℕ) → TermReference rust sub₂ s ≡ fails → starts_with 36 s ≡ false → starts_with 123 s ≡ false → from-term s ≡ fails
  no-terms s f e h = second (TermReference rust sub₂) from-variable s f ∙ no-variables s e h

  past-references : (s : List ℕ) → starts is_letter s ≡ false → from-reference s ≡ from-term s
  past-references s e = choice-assoc (FunctionReference rust sub₂) (MessageReference rust) from-term s
      ∙ second (FunctionReference rust sub₂ // MessageReference rust) from-term s (no-reference s e)

  -- from one alternative to the next
  past-string : (s : List ℕ) (o : Out Inline) → starts_with 34 s ≡ false → NearAt s o from-number
      → NearAt s o (StringLiteral rust // from-number)
  past-string s o e h = near-second form_of s o (StringLiteral rust) from-number (no-string s e) h

  past-number : (s : List ℕ) (o : Out Inline) → NumberLiteral 20 s ≡ fails → NearAt s o from-reference → NearAt s o from-number
  past-number s o e h = near-second form_of s o (NumberLiteral 20) from-reference e h

  past-reference : (s : List ℕ) (o : Out Inline) → starts is_letter s ≡ false → NearAt s o from-term → NearAt s o from-reference
  past-reference s o e h = subst (Near form_of s o) (sym (past-references s e)) h

  past-term : (s : List ℕ) (o : Out Inline) → TermReference rust sub₂ s ≡ fails → NearAt s o from-variable → NearAt s o from-term
  past-term s o e h = near-second form_of s o (TermReference rust sub₂) from-variable e h

  -- the reading of each
  string-at : (s : List ℕ) (q : Parser Abstract.Form) → q s ≡ fails
      → NearAt s (Reading.as_string (Reading.string_literal s)) (StringLiteral rust // q)
  string-at s q e = near_first form_of s (Reading.as_string (Reading.string_literal s)) (StringLiteral rust) q
      (same-near form_of s (Reading.as_string (Reading.string_literal s)) (StringLiteral rust s) (string-literal s)) e

  number_at : (s : List ℕ) (q : Parser Abstract.Form) → q s ≡ fails → NearAt s (Reading.number_literal s) (NumberLiteral 20 // q)
  unfolding Reading.number_literal form_of
  number_at s q e =
      near_first form_of s (Reading.number_literal s) (NumberLiteral 20) q
      (nearly-near form_of s (Reading.number_literal s) (NumberLiteral 20 s) (number-literal 20 number form_of s refl)) e

  reference-at : (s : List ℕ) → starts is_letter s ≡ true → from-term s ≡ fails → NearAt s (as_inline (reference sub₁ s)) from-reference
  reference-at s l e =
      subst (Near form_of s (as_inline (reference sub₁ s)))
      (sym (choice-assoc (FunctionReference rust sub₂) (MessageReference rust) from-term s))
      (near_first form_of s (as_inline (reference sub₁ s)) (FunctionReference rust sub₂ // MessageReference rust) from-term
      (reference-near s l) e)

  term-at : (s : List ℕ) → from-variable s ≡ fails → NearAt s (as_inline (Reading.term_reference sub₁ s)) from-term
  term-at s e = near_first form_of s (as_inline (Reading.term_reference sub₁ s)) (TermReference rust sub₂) from-variable (term-near s) e

  variable-at : (s : List ℕ) → from-placeable s ≡ fails → NearAt s (as_inline (variable_reference s)) from-variable
  variable-at s e =
      near_first form_of s (as_inline (variable_reference s)) VariableReference from-placeable
      (same-near form_of s (as_inline (variable_reference s)) (VariableReference s) (variable-same s)) e

  placeable-at : (s : List ℕ) → starts_with 36 s ≡ false → NearAt s (as_inline (Reading.nested_placeable sub₁ s)) from-variable
  placeable-at s e = near-second form_of s (as_inline (Reading.nested_placeable sub₁ s)) VariableReference from-placeable (no-variable s e)
      (same-near form_of s (as_inline (Reading.nested_placeable sub₁ s)) (from-placeable s) (placeable-same s))

  pub no-inline : (s : List ℕ) → starts_with 34 s ≡ false → starts is_digit s ≡ false → starts is_letter s ≡ false
      → starts_with 45 s ≡ false → starts_with 36 s ≡ false → starts_with 123 s ≡ false
      → InlineExpression rust sub₂ s ≡ fails
  unfolding InlineExpression
  no-inline s a b c d e f = second (StringLiteral rust) from-number s (no-string s a)
      ∙ second (NumberLiteral 20) from-reference s (no_number 20 s d b) ∙ past-references s c
      ∙ no-terms s (no-term s d) e f

  none-at : (s : List ℕ) (o : Out Inline) → Wrong o → starts_with 34 s ≡ false → starts is_digit s ≡ false
      → starts is_letter s ≡ false → starts_with 45 s ≡ false → starts_with 36 s ≡ false → starts_with 123 s ≡ false
      → NearAt s o (InlineExpression rust sub₂)
  none-at s o w a b c d e f = wrong-near form_of s o (InlineExpression rust sub₂ s) w (rw (no-inline s a b c d e f) tt)

  past-term-at : (s : List ℕ) (o : Out Inline) → starts_with 34 s ≡ false → starts is_digit s ≡ false
      → starts is_letter s ≡ false → starts_with 45 s ≡ false → NearAt s o from-variable
      → NearAt s o (StringLiteral rust // from-number)
  past-term-at s o q d l m h =
      past-string s o q (past-number s o (no_number 20 s m d) (past-reference s o l (past-term s o (no-term s m) h)))

  pub inline-near : (s : List ℕ) → Near form_of s (get_inline_expression sub₁ false s) (InlineExpression rust sub₂ s)
  unfolding InlineExpression get_inline_expression non_literal no_inline Reader.fail starts starts_with is_letter is_digit
  inline-near [] = none-at [] (no_inline false []) tt refl refl refl refl refl refl
  inline-near (b ∷ bs) =
      let s = b ∷ bs in
      let inline = InlineExpression rust sub₂ s in
      near-pick form_of s (eqb b 34) _ _ inline (λ q. string-at s from-number (quote-fails (eqb-true b 34 q)))
      (λ q. near-pick form_of s (is_digit b) _ _ inline
      (λ d. past-string s (Reading.number_literal s) q
      (number_at s from-reference
      (past-references s (digit-no-letter b d)
      ∙ no-terms s (no-term s (apart is_digit b 45 d refl)) (apart is_digit b 36 d refl)
      (apart is_digit b 123 d refl))))
      (λ d. near-pick form_of s (is_letter b) _ _ inline
      (λ l. past-string s (as_inline (reference sub₁ s)) q
      (past-number s (as_inline (reference sub₁ s)) (no_number 20 s (apart is_letter b 45 l refl) d)
      (reference-at s l
      (no-terms s (no-term s (apart is_letter b 45 l refl)) (apart is_letter b 36 l refl)
      (apart is_letter b 123 l refl)))))
      (λ l. near-pick form_of s (eqb b 45) _ _ inline
      (λ m. near-pick form_of s (starts is_letter bs) _ _ inline
      (λ t. past-string s (as_inline (Reading.term_reference sub₁ s)) q
      (past-number s (as_inline (Reading.term_reference sub₁ s)) (no-negative 20 s m (letters-no-digits bs t))
      (past-reference s (as_inline (Reading.term_reference sub₁ s)) l
      (term-at s (no-variables s (starts_other 45 36 s m refl) (starts_other 45 123 s m refl))))))
      (λ t. past-string s (Reading.number_literal s) q
      (number_at s from-reference
      (past-references s l
      ∙ no-terms s (no-term-name s m t) (starts_other 45 36 s m refl) (starts_other 45 123 s m refl)))))
      (λ m. near-pick form_of s (eqb b 36) _ _ inline
      (λ v. past-term-at s (as_inline (variable_reference s)) q d l m (variable-at s (no-placeable s (starts_other 36 123 s v refl))))
      (λ v. near-pick form_of s (eqb b 123) _ _ inline
      (λ p. past-term-at s (as_inline (Reading.nested_placeable sub₁ s)) q d l m (placeable-at s v))
      (λ p. none-at s (no_inline false s) tt q d l m v p))))))
    where
      quote-fails : b ≡ 34 → from-number (b ∷ bs) ≡ fails
      quote-fails e = subst (λ x. from-number (x ∷ bs) ≡ fails) (sym e)
          (second (NumberLiteral 20) from-reference (34 ∷ bs) (no_number 20 (34 ∷ bs) refl refl)
          ∙ past-references (34 ∷ bs) refl ∙ no-terms (34 ∷ bs) (no-term (34 ∷ bs) refl) refl refl)

  -- the value of a named argument
  abbrev from-literal : Parser Abstract.Form
  from-literal = UnsignedLiteral // (FunctionReference rust sub₂ // MessageReference rust)

  no-literals : (s : List ℕ) → starts is_digit s ≡ false → starts is_letter s ≡ false → from-literal s ≡ fails
  no-literals s d l =
      second UnsignedLiteral (FunctionReference rust sub₂ // MessageReference rust) s (no-unsigned-literal s d)
      ∙ no-reference s l

  unsigned-at : (s : List ℕ) → starts_with 45 s ≡ false → starts is_letter s ≡ false → NearAt s (Reading.number_literal s) from-literal
  unfolding Reading.number_literal form_of
  unsigned-at s m l = near_first form_of s (Reading.number_literal s) UnsignedLiteral (FunctionReference rust sub₂ // MessageReference rust)
      (subst (Near form_of s (Reading.number_literal s)) (sym (unsigned-literal s m))
      (nearly-near form_of s (Reading.number_literal s) (NumberLiteral 20 s)
      (number-literal 20 number form_of s refl)))
      (no-reference s l)

  past-strings : (s : List ℕ) (o : Out Inline) → starts_with 34 s ≡ false → NearAt s o from-literal
      → NearAt s o (StringLiteral rust // from-literal)
  past-strings s o e h = near-second form_of s o (StringLiteral rust) from-literal (no-string s e) h

  no-literal-at : (s : List ℕ) (o : Out Inline) → Wrong o → starts_with 34 s ≡ false → starts is_digit s ≡ false
      → starts is_letter s ≡ false → NearAt s o (StringLiteral rust // from-literal)
  no-literal-at s o w q d l =
      wrong-near form_of s o ((StringLiteral rust // from-literal) s) w
      (rw (second (StringLiteral rust) from-literal s (no-string s q) ∙ no-literals s d l) tt)

  literal-is : (s : List ℕ) → literal rust sub₂ s ≡ (StringLiteral rust // from-literal) s
  unfolding literal pick given rust all
  literal-is s = refl

  pub literal-near : (s : List ℕ) → Near form_of s (get_inline_expression sub₁ true s) (literal rust sub₂ s)
  unfolding get_inline_expression no_inline Reader.fail starts starts_with is_letter is_digit
  literal-near [] = rw (literal-is []) (no-literal-at [] (no_inline true []) tt refl refl refl)
  literal-near (b ∷ bs) =
      let s = b ∷ bs in
      let value = (StringLiteral rust // from-literal) s in
      rw (literal-is s)
      (near-pick form_of s (eqb b 34) _ _ value
      (λ q. string-at s from-literal
      (subst (λ x. from-literal (x ∷ bs) ≡ fails) (sym (eqb-true b 34 q)) (no-literals (34 ∷ bs) refl refl)))
      (λ q. near-pick form_of s (is_digit b) _ _ value
      (λ d. past-strings s (Reading.number_literal s) q
      (unsigned-at s (apart is_digit b 45 d refl) (digit-no-letter b d)))
      (λ d. near-pick form_of s (is_letter b) _ _ value
      (λ l. past-strings s (as_inline (reference sub₁ s)) q
      (near-second form_of s (as_inline (reference sub₁ s)) UnsignedLiteral
      (FunctionReference rust sub₂ // MessageReference rust) (no-unsigned-literal s d) (reference-near s l)))
      (λ l. no-literal-at s (no_inline true s) tt q d l))))

  -- each uses a byte
  pub uses-inline : (s : List ℕ) → Uses (InlineExpression rust sub₂ s)
  unfolding InlineExpression StringLiteral FunctionReference MessageReference TermReference VariableReference ◌>>◌ ◌>>=◌
  uses-inline s = uses-choice (StringLiteral rust) from-number s (uses-first s _ (byte 34 s) (uses-byte 34 s))
      (uses-choice (NumberLiteral 20) from-reference s (uses-number 20 s)
      (uses-choice (FunctionReference rust sub₂) (MessageReference rust // from-term) s
      (uses-node 22 _ s (uses-first s _ (Identifier 9 s) (uses-name 9 s)))
      (uses-choice (MessageReference rust) from-term s (uses-node 23 _ s (uses-first s _ (Identifier 9 s) (uses-name 9 s)))
      (uses-choice (TermReference rust sub₂) from-variable s (uses-node 24 _ s (uses-first s _ (byte 45 s) (uses-byte 45 s)))
      (uses-choice VariableReference from-placeable s (uses-node 21 _ s (uses-first s _ (byte 36 s) (uses-byte 36 s)))
      (uses-first s _ (sub₂.inline-placeable s) (agree.uses-brace s)))))))

  -- What an argument asks of a reference
  -- --------------------------------------------------------------------------------------------------------

  reads-reference : (s : List ℕ) → starts is_letter s ≡ true → get_inline_expression sub₁ false s ≡ as_inline (reference sub₁ s)
  unfolding get_inline_expression starts is_letter
  reads-reference [] l = clash l refl
  reads-reference (b ∷ bs) l = rw (apart is_letter b 34 l refl, get_inline_expression) (rw (letter-no-digit b l) (rw l refl))

  no_access : (s : List ℕ) → starts_with 46 s ≡ false → get_attribute_accessor s ≡ ok false [] 0
  unfolding get_attribute_accessor
  no_access s e = rw (e, get_attribute_accessor) refl

  -- a name before ":"
  pub colon-reference : (s : List ℕ) → starts is_letter s ≡ true → starts_with 58 (behind (drop (name_of s) s)) ≡ true
      → get_inline_expression sub₁ false s ≡ ok (message (name_of s) false)
      (node 23 (text_node 9 0 (name_of s) ++ move_up (name_of s) (move_up (blanks (drop (name_of s) s)) [])))
      (name_of s + (blanks (drop (name_of s) s) + 0))
  unfolding as_inline inline_kind
  colon-reference s l e = reads-reference s l
      ∙ ap as_inline
      (read-message s l (no-call-read (drop (name_of s) s) (starts_other 58 40 _ e refl))
      (no_access (behind (drop (name_of s) s)) (starts_other 58 46 _ e refl)))

  -- other names have none
  abbrev pub Uncoloned : List ℕ → Inline → ℕ → Type 0
  Uncoloned s (message n false) k = starts_with 58 (drop (over s k) s) ≡ false
  Uncoloned s (message n true) k = Unit {0}
  Uncoloned s string k = Unit {0}
  Uncoloned s number k = Unit {0}
  Uncoloned s variable k = Unit {0}
  Uncoloned s function k = Unit {0}
  Uncoloned s inner k = Unit {0}
  Uncoloned s (term a) k = Unit {0}

  abbrev Free : List ℕ → Out Inline → Type 0
  Free s o = Holds (λ x ms k. Uncoloned s x k) o

  wrong-free : (s : List ℕ) (o : Out Inline) → Wrong o → Free s o
  wrong-free s (ok x ms k) h = absurd h
  wrong-free s (bad e k) h = tt
  wrong-free s (deep k) h = tt

  pick_free : (s : List ℕ) (v : Bool) (o o' : Out Inline) → (v ≡ true → Free s o) → (v ≡ false → Free s o')
      → Free s (elim v [ true ↦ o | false ↦ o' ])
  pick_free s true o o' f g = f refl
  pick_free s false o o' f g = g refl

  -- what is no message reference
  other-free : (s : List ℕ) (kind : ℕ) → (kind ≡ 23 → ⊥) → (o : Out Inline) → Holds (λ x ms k. OfKind kind x) o → Free s (as_inline o)
  unfolding as_inline inline_kind
  other-free s kind z (ok (message n false) ms k) h = absurd (z (sym h))
  other-free s kind z (ok (message n true) ms k) h = tt
  other-free s kind z (ok string ms k) h = tt
  other-free s kind z (ok number ms k) h = tt
  other-free s kind z (ok variable ms k) h = tt
  other-free s kind z (ok function ms k) h = tt
  other-free s kind z (ok inner ms k) h = tt
  other-free s kind z (ok (term a) ms k) h = tt
  other-free s kind z (bad e k) h = tt
  other-free s kind z (deep k) h = tt

  string-free : (s : List ℕ) (o : Out (Unit {0})) → Free s (Reading.as_string o)
  unfolding Reading.as_string
  string-free s (ok u ms k) = tt
  string-free s (bad e k) = tt
  string-free s (deep k) = tt

  number-free : (s : List ℕ) → Free s (Reading.number_literal s)
  unfolding Reading.number_literal Reader.◌>>◌ Reader.next Reader.pure Reader.after
  number-free s = go (get_number_literal 20 s)
    where
      go : (o : Out ℕ) → Free s (Reader.next s (λ _. Reader.pure number) o)
      go (ok n ms k) = tt
      go (bad e k) = tt
      go (deep k) = tt

  nested-kind : (s : List ℕ) → Holds (λ x ms k. OfKind 13 x) (Reading.nested_placeable sub₁ s)
  unfolding Reading.nested_placeable Reader.◌>>◌ Reader.pure inline_kind
  nested-kind s = plain-next (OfKind 13) s _ (sub₁.braced s) (λ a r. refl)

  reference-free : (s : List ℕ) → starts is_letter s ≡ true → starts_with 58 (behind (drop (name_of s) s)) ≡ false
      → Free s (as_inline (reference sub₁ s))
  unfolding as_inline truly Reader.next Reader.after reference_by message_reference Reader.◌>>=◌
  reference-free s l h = by_case (starts_with 40 (behind (drop (name_of s) s)))
      (λ e. call ((Reader.◌>>◌ skip_blank sub₁.parenthesised) (drop (name_of s) s)) (call-read (drop (name_of s) s) e))
      (λ e. plain (get_attribute_accessor (behind (drop (name_of s) s))) refl (accessor (behind (drop (name_of s) s)))
      (no-call-read (drop (name_of s) s) e))
    where
      call : (o : Out (Unit {0})) → get_call_arguments sub₁ (drop (name_of s) s) ≡ truly o → Free s (as_inline (reference sub₁ s))
      call (ok u ms k) r =
          by_case (all_bytes is_callee_part (take (name_of s) s)) (λ c. rw (read-function s l r c) tt)
          (λ c. wrong-free s (as_inline (reference sub₁ s)) (read-forbidden s l r c))
      call (bad f k) r = rw (read-on s l r) tt
      call (deep k) r = rw (read-on s l r) tt

      plain : (o : Out Bool) → get_attribute_accessor (behind (drop (name_of s) s)) ≡ o
          → Access (behind (drop (name_of s) s)) o (AttributeAccessor (behind (drop (name_of s) s)))
          → get_call_arguments sub₁ (drop (name_of s) s) ≡ ok false [] (blanks (drop (name_of s) s)) → Free s (as_inline (reference sub₁ s))
      plain (ok true ms k) o a r = rw (read-message s l r o) tt
      plain (ok false ms k) o (m, z, a) r =
          rw (read-message s l r o)
          (rw (sym (past-blanks s l k z) ∙ ap (over s) (add-zero (name_of s))) (rw (← drop-over s (name_of s)) h))
      plain (bad e k) o a r = rw (read-on s l r, o) tt
      plain (deep k) o a r = rw (read-on s l r, o) tt

  pub uncoloned : (s : List ℕ) → (starts is_letter s ≡ true → starts_with 58 (behind (drop (name_of s) s)) ≡ false)
      → Holds (λ x ms k. Uncoloned s x k) (get_inline_expression sub₁ false s)
  unfolding get_inline_expression non_literal no_inline Reader.fail starts
  uncoloned [] h = tt
  uncoloned (b ∷ bs) h =
      let s = b ∷ bs in
      pick_free s (eqb b 34) _ _ (λ q. string-free s (Reading.string_literal s))
      (λ q. pick_free s (is_digit b) _ _ (λ d. number-free s)
      (λ d. pick_free s (is_letter b) _ _ (λ l. reference-free s l (h l))
      (λ l. pick_free s (eqb b 45) _ _
      (λ m. pick_free s (starts is_letter bs) _ _
      (λ t. other-free s 24 (λ z. omega arith) (Reading.term_reference sub₁ s) (term-kind s)) (λ t. number-free s))
      (λ m. pick_free s (eqb b 36) _ _ (λ v. other-free s 21 (λ z. omega arith) (variable_reference s) (variable-kind s))
      (λ v. pick_free s (eqb b 123) _ _
      (λ p. other-free s 13 (λ z. omega arith) (Reading.nested_placeable sub₁ s) (nested-kind s)) (λ p. tt))))))
