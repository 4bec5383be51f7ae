-- Identifiers, numbers and strings: the reading's against the grammar's.
use Prim.Native.Nat.{ℕ, zero, suc, ◌+◌, ◌≤◌, ◌<◌, min}
use native.Mathlib.Omega.{arith}
use Rattle.std.proofs.Common.{not-suc-le-zero, sym, ◌∙◌, subst, drop-drop}
use Rattle.std.proofs.Math.Path.{◌≡◌, refl, ap}
use Rattle.std.specs.Prelude.{true, false, ◌||◌, drop, length, take, eqb}
use mathlib.Core.List.{List, [], ◌∷◌, map}
use Rattle.std.proofs.Math.ListN.{length-drop}
use borrow.Author.Tests.{eqb-true, eqb-false, ne_eqb}
use Rattle.syntax.specs.Bytes.{starts, starts_with, run, is_letter, is_digit, is_name_part, is_hex, eol}
use Rattle.syntax.specs.Marks.{Mark, up, move_up, text_node}
use Rattle.syntax.specs.Reader as Reader
use Rattle.syntax.specs.Reader.{Out, ok, bad, deep, Reader, Turn, again, done, turn_of, loop, repeat}
use Rattle.syntax.specs.Helper.{take_byte_if, expect_byte, skip_digits, fraction, number as read_number, get_number_literal}
use Rattle.syntax.specs.Helper.{get_identifier, skip_unicode_escape_sequence}
use Rattle.syntax.specs.Expression.{Inline, string, number, variable, function, inner, message, term, escape_turn}
use Rattle.syntax.specs.Expression.{string_turn, string_literal, as_string}
use Rattle.laws.specs.Bytes.{by_case, clash}
use Rattle.standard.specs.Dialect.{rust, all}
use Rattle.standard.specs.Peg as Peg
use Rattle.standard.specs.Peg.{Answer, fits, fails, Parser, opt, many, some, turns, times, with_first, given, eof}
use Rattle.standard.specs.Peg.{sized, bar, ◌but◌, one, byte, void, as-text, ◌//◌, ◌>>◌, ◌>>=◌}
use Rattle.standard.specs.Abstract as Abstract
use Rattle.standard.specs.Lexical.{digits, unsigned, Identifier, NumberLiteral, UnsignedLiteral, line-end}
use Rattle.standard.specs.Lexical.{any-char, special-quoted-char, unicode-escape}
use Rattle.standard.specs.Grammar.{special-escape, quoted-char, StringLiteral}
use Rattle.standard.specs.Steps.{many-run, some-run, one-fits, one-fails, byte_fits, byte-fails, then-fits}
use Rattle.standard.specs.Steps.{then-fails, void-fits, void-fails, some-fails, opt-fits, opt-fails, text-fits}
use Rattle.standard.specs.Steps.{text-fails, turns_more, turns-on, turns-end, times-fits, times-fails}
use Rattle.standard.specs.Steps.{after-fails, after_none, Uses, uses-first, uses-rest, uses-text, uses-one}
use Rattle.standard.specs.Blank.{blanks, is_blank_at, over, line_ends, no-line-end}
use Rattle.standard.specs.Same.{Same, nothing, Matches, expects, refuses}
use Rattle.standard.specs.Near.{is_opening, Opens, Nearly, nearly-next, nearly-text, nearly-void, nearly-pure}

-- Identifier
-- ----------------------------------------------------------------------------------------------------------------------------------

pub letter-names : (b : ℕ) → is_letter b ≡ true → is_name_part b ≡ true
unfolding is_name_part
letter-names b e = rw e refl

-- the length of a name
abbrev pub name_of : List ℕ → ℕ
name_of s = run is_name_part s

pub reads-name : (kind : ℕ) (s : List ℕ) → starts is_letter s ≡ true
    → get_identifier kind s ≡ ok (name_of s) (text_node kind 0 (name_of s)) (name_of s)
unfolding get_identifier
reads-name kind s e = rw (e, get_identifier) refl

pub parses-name : (kind : ℕ) (s : List ℕ) → starts is_letter s ≡ true
    → Identifier kind s ≡ fits (take (name_of s) s) (text_node kind 0 (name_of s)) (name_of s)
unfolding Identifier starts run Peg.after move_up
parses-name kind [] e = clash e refl
parses-name kind (b ∷ bs) e =
    let n : 1 + name_of bs ≡ name_of (b ∷ bs) = rw (letter-names b e, run) (omega arith) in
    text-fits kind (one is_letter >> many (one is_name_part)) (b ∷ bs)
    (then-fits (one is_letter) (many (one is_name_part)) (b ∷ bs) (one-fits is_letter (b ∷ bs) e)
    ∙ ap (Peg.after [] 1) (many-run is_name_part bs))
    ∙ ap (λ k. fits (take k (b ∷ bs)) (text_node kind 0 k) k) n

pub no_name : (kind : ℕ) (s : List ℕ) → starts is_letter s ≡ false → Identifier kind s ≡ fails
unfolding Identifier
no_name kind s e =
    text-fails kind (one is_letter >> many (one is_name_part)) s
    (then-fails (one is_letter) (many (one is_name_part)) s (one-fails is_letter s e))

pub same_name : (kind : ℕ) (s : List ℕ) → Same (λ n. take n s) (get_identifier kind s) (Identifier kind s)
unfolding get_identifier Reader.fail
same_name kind s =
    by_case (starts is_letter s) (λ e. rw (reads-name kind s e) (parses-name kind s e))
    (λ e. rw (e, get_identifier) (no_name kind s e))

pub uses-name : (kind : ℕ) (s : List ℕ) → Uses (Identifier kind s)
unfolding Identifier ◌>>◌
uses-name kind s =
    uses-text kind (one is_letter >> many (one is_name_part)) s
    (uses-first s (λ _. many (one is_name_part)) (one is_letter s) (uses-one is_letter s))

-- NumberLiteral
-- -------------------------------------------------------------------------------------------------------------------------------

pub same_digits : Matches nothing skip_digits digits
unfolding skip_digits digits run starts Reader.fail
same_digits = record { same = go }
  where
    go : (s : List ℕ) → Same nothing (skip_digits s) (digits s)
    go [] = void-fails (some (one is_digit)) [] (some-fails (one is_digit) [] (one-fails is_digit [] refl))
    go (b ∷ bs) = by_case (is_digit b)
        (λ e. let z : eqb (run is_digit (b ∷ bs)) 0 ≡ false = rw (e, run) (ne_eqb (suc (run is_digit bs)) 0 (λ y. omega arith)) in
        rw (z, skip_digits) (void-fits (some (one is_digit)) (b ∷ bs) (some-run is_digit (b ∷ bs) e)))
        (λ e. rw (e, skip_digits, run)
        (void-fails (some (one is_digit)) (b ∷ bs)
        (some-fails (one is_digit) (b ∷ bs) (one-fails is_digit (b ∷ bs) e))))

-- the rest of a number that starts with "."
dot-opens : (s : List ℕ) → starts_with 46 s ≡ true → Opens (drop (over s 0) s)
unfolding starts_with starts over blanks is_blank_at is_opening eol
dot-opens [] e = clash e refl
dot-opens (b ∷ bs) e = subst (λ x. Opens (drop (over (x ∷ bs) 0) (x ∷ bs))) (sym (eqb-true b 46 e)) refl

fraction-nearly : (s : List ℕ) → Nearly nothing s ((Reader.◌>>=◌ (take_byte_if 46) fraction) s) (opt tt (byte 46 >> digits) s)
unfolding Reader.◌>>=◌ Reader.next Reader.after Reader.pure take_byte_if fraction move_up Peg.after
fraction-nearly s = by_case (starts_with 46 s)
    (λ e. rw (e, take_byte_if) (go e (skip_digits (drop 1 s)) (same_digits.same (drop 1 s))))
    (λ e. rw (e, take_byte_if) (opt-fails tt (byte 46 >> digits) s (then-fails (byte 46) digits s (byte-fails 46 s e))))
  where
    go : starts_with 46 s ≡ true → (o : Out (Unit {0})) → Same nothing o (digits (drop 1 s))
        → Nearly nothing s (Reader.after [] 1 o) (opt tt (byte 46 >> digits) s)
    go e (ok u ms k) h = opt-fits tt (byte 46 >> digits) s (then-fits (byte 46) digits s (byte_fits 46 s e) ∙ ap (Peg.after [] 1) h)
    go e (bad f k) h =
        rw (opt-fails tt (byte 46 >> digits) s (then-fits (byte 46) digits s (byte_fits 46 s e) ∙ after-fails [] 1 h))
        (dot-opens s e)
    go e (deep k) h = tt

-- digits and a fraction
abbrev pub unsigned_number : Reader (Unit {0})
unsigned_number = Reader.◌>>◌ skip_digits (Reader.◌>>=◌ (take_byte_if 46) fraction)

unsigned-nearly : (s : List ℕ) → Nearly nothing s (unsigned_number s) (unsigned s)
unfolding Reader.◌>>◌ unsigned ◌>>◌
unsigned-nearly s =
    nearly-next nothing nothing s (λ _. Reader.◌>>=◌ (take_byte_if 46) fraction) (λ _. opt tt (byte 46 >> digits))
    (skip_digits s) (digits s) (same_digits.same s) (λ x r. fraction-nearly r)

minus-same : (s : List ℕ) → Same nothing (take_byte_if 45 s) (opt tt (byte 45) s)
unfolding take_byte_if
minus-same s =
    by_case (starts_with 45 s) (λ e. rw (e, take_byte_if) (opt-fits tt (byte 45) s (byte_fits 45 s e)))
    (λ e. rw (e, take_byte_if) (opt-fails tt (byte 45) s (byte-fails 45 s e)))

number-nearly : (s : List ℕ) → Nearly nothing s (read_number s) ((opt tt (byte 45) >> unsigned) s)
unfolding read_number Reader.◌>>◌ ◌>>◌
number-nearly s =
    nearly-next nothing nothing s (λ _. unsigned_number) (λ _. unsigned) (take_byte_if 45 s) (opt tt (byte 45) s)
    (minus-same s) (λ x r. unsigned-nearly r)

number-text : (kind : ℕ) (s : List ℕ) → Nearly (λ k. take k s) s (get_number_literal kind s) (as-text kind (opt tt (byte 45) >> unsigned) s)
unfolding get_number_literal
number-text kind s = nearly-text nothing kind s (read_number s) (opt tt (byte 45) >> unsigned) (number-nearly s)

-- without its value
pub number-void : (kind : ℕ) (s : List ℕ) → Nearly nothing s (get_number_literal kind s) (void (NumberLiteral kind) s)
unfolding NumberLiteral void ◌>>◌
number-void kind s = nearly-void (λ n. Abstract.number) tt s (get_number_literal kind s) (NumberLiteral kind s)
    (nearly-void (λ k. take k s) Abstract.number s (get_number_literal kind s)
    (as-text kind (opt tt (byte 45) >> unsigned) s) (number-text kind s))

-- with its value
pub number-literal : (kind : ℕ) {C : Type 0} (y : C) (f : C → Abstract.Form) (s : List ℕ) → f y ≡ Abstract.number
    → Nearly f s ((Reader.◌>>◌ (get_number_literal kind) (Reader.pure y)) s) (NumberLiteral kind s)
unfolding Reader.◌>>◌ NumberLiteral ◌>>◌
number-literal kind y f s e =
    subst
    (λ v. Nearly f s ((Reader.◌>>◌ (get_number_literal kind) (Reader.pure y)) s)
    ((as-text kind (opt tt (byte 45) >> unsigned) >> Peg.pure v) s)) e
    (nearly-pure (λ k. take k s) f y s (get_number_literal kind s) (as-text kind (opt tt (byte 45) >> unsigned) s) (number-text kind s))

-- where there is none
no_unsigned : (s : List ℕ) → starts is_digit s ≡ false → unsigned s ≡ fails
unfolding unsigned digits
no_unsigned s e =
    then-fails (void (some (one is_digit))) (opt tt (byte 46 >> digits)) s
    (void-fails (some (one is_digit)) s (some-fails (one is_digit) s (one-fails is_digit s e)))

pub no_number : (kind : ℕ) (s : List ℕ) → starts_with 45 s ≡ false → starts is_digit s ≡ false → NumberLiteral kind s ≡ fails
unfolding NumberLiteral
no_number kind s e h =
    then-fails (as-text kind (opt tt (byte 45) >> unsigned)) (Peg.pure Abstract.number) s
    (text-fails kind (opt tt (byte 45) >> unsigned) s
    (then-fits (opt tt (byte 45)) unsigned s (opt-fails tt (byte 45) s (byte-fails 45 s e)) ∙ after-fails [] 0 (no_unsigned s h)))

pub no-negative : (kind : ℕ) (s : List ℕ) → starts_with 45 s ≡ true → starts is_digit (drop 1 s) ≡ false → NumberLiteral kind s ≡ fails
unfolding NumberLiteral
no-negative kind s e h =
    then-fails (as-text kind (opt tt (byte 45) >> unsigned)) (Peg.pure Abstract.number) s
    (text-fails kind (opt tt (byte 45) >> unsigned) s
    (then-fits (opt tt (byte 45)) unsigned s (opt-fits tt (byte 45) s (byte_fits 45 s e)) ∙ after-fails [] 1 (no_unsigned (drop 1 s) h)))

pub no-unsigned-literal : (s : List ℕ) → starts is_digit s ≡ false → UnsignedLiteral s ≡ fails
unfolding UnsignedLiteral
no-unsigned-literal s e = then-fails (as-text 20 unsigned) (Peg.pure Abstract.number) s (text-fails 20 unsigned s (no_unsigned s e))

pub uses-number : (kind : ℕ) (s : List ℕ) → Uses (NumberLiteral kind s)
unfolding NumberLiteral unsigned digits void some ◌>>◌ ◌>>=◌
uses-number kind s =
    uses-first s _ (as-text kind (opt tt (byte 45) >> unsigned) s)
    (uses-text kind (opt tt (byte 45) >> unsigned) s (uses-rest s _ (opt tt (byte 45) s)
    (λ x r. uses-first r _ (digits r) (uses-first r _ (some (one is_digit) r) (uses-first r _ (one is_digit r) (uses-one is_digit r))))))

-- the number of a named argument
pub unsigned-literal : (s : List ℕ) → starts_with 45 s ≡ false → UnsignedLiteral s ≡ NumberLiteral 20 s
unfolding UnsignedLiteral NumberLiteral ◌>>◌ as-text
unsigned-literal s e =
    let q : (opt tt (byte 45) >> unsigned) s ≡ unsigned s =
    then-fits (opt tt (byte 45)) unsigned s (opt-fails tt (byte 45) s (byte-fails 45 s e))
    ∙ after_none (unsigned s) in
    rw (q, as-text) refl

-- StringLiteral
-- -------------------------------------------------------------------------------------------------------------------------------

-- what stands here in a string
data Char : List ℕ → Type 0 where
  end : Char []
  quote : (s : List ℕ) → Char (34 ∷ s)
  feed : (s : List ℕ) → Char (10 ∷ s)
  crlf : (s : List ℕ) → Char (13 ∷ 10 ∷ s)
  escape : (s : List ℕ) → Char (92 ∷ s)
  plain : (b : ℕ) (s : List ℕ) → eqb b 34 ≡ false → eqb b 92 ≡ false → eqb b 10 ≡ false → line_ends (b ∷ s) ≡ false → Char (b ∷ s)

-- what follows a backslash
data Escape : List ℕ → Type 0 where
  none : Escape []
  special : (b : ℕ) (s : List ℕ) → (eqb b 92 || (eqb b 123 || eqb b 34)) ≡ true → Escape (b ∷ s)
  lower : (s : List ℕ) → Escape (117 ∷ s)
  upper : (s : List ℕ) → Escape (85 ∷ s)
  other : (b : ℕ) (s : List ℕ) → (eqb b 92 || (eqb b 123 || eqb b 34)) ≡ false → eqb b 117 ≡ false → eqb b 85 ≡ false → Escape (b ∷ s)

cr-char : (s : List ℕ) → Char (13 ∷ s)
unfolding line_ends eol starts_with
cr-char [] = plain 13 [] refl refl refl refl
cr-char (c ∷ cs) =
    by_case (eqb c 10) (λ q. subst (λ x. Char (13 ∷ x ∷ cs)) (sym (eqb-true c 10 q)) (crlf cs))
    (λ q. plain 13 (c ∷ cs) refl refl refl (rw (q, eol) refl))

char_of : (s : List ℕ) → Char s
unfolding line_ends eol
char_of [] = end
char_of (b ∷ bs) = by_case (eqb b 34) (λ q. subst (λ x. Char (x ∷ bs)) (sym (eqb-true b 34 q)) (quote bs))
    (λ q. by_case (eqb b 10) (λ r. subst (λ x. Char (x ∷ bs)) (sym (eqb-true b 10 r)) (feed bs))
    (λ r. by_case (eqb b 92) (λ t. subst (λ x. Char (x ∷ bs)) (sym (eqb-true b 92 t)) (escape bs))
    (λ t. by_case (eqb b 13) (λ u. subst (λ x. Char (x ∷ bs)) (sym (eqb-true b 13 u)) (cr-char bs))
    (λ u. plain b bs q t r (rw (r, eol, u) refl)))))

escape-of : (s : List ℕ) → Escape s
escape-of [] = none
escape-of (b ∷ bs) = by_case (eqb b 92 || (eqb b 123 || eqb b 34)) (λ q. special b bs q)
    (λ q. by_case (eqb b 117) (λ r. subst (λ x. Escape (x ∷ bs)) (sym (eqb-true b 117 r)) (lower bs))
    (λ r. by_case (eqb b 85) (λ t. subst (λ x. Escape (x ∷ bs)) (sym (eqb-true b 85 t)) (upper bs)) (λ t. other b bs q r t)))

-- characters that stop at no quote
abbrev Unclosed : {A : Type 0} → List ℕ → Answer A → Type 0
Unclosed s (fits y ms j) = starts_with 34 (drop j s) ≡ false
Unclosed s fails = Unit {0}

abbrev Quoted : List ℕ → Out (Unit {0}) → Answer (List (Unit {0})) → Type 0
Quoted s (ok u ms k) a = (ms ≡ []) × ((us : List (Unit {0})) × (a ≡ fits us [] k))
Quoted s (bad e k) a = Unclosed s a
Quoted s (deep k) a = Unit {0}

unclosed-after : (s : List ℕ) (k : ℕ) (a : Answer (List (Unit {0}))) → Unclosed (drop k s) a → Unclosed s (with_first tt (Peg.after [] k a))
unfolding with_first Peg.after
unclosed-after s k (fits us ms j) h = rw (← drop-drop j k s) h
unclosed-after s k fails h = tt

-- a character more
quoted-on : (n : ℕ) (s : List ℕ) (k : ℕ) (o : Out (Unit {0})) → quoted-char rust s ≡ fits tt [] k → 0 < k
    → Quoted (drop k s) o (turns n (quoted-char rust) (drop k s))
    → Quoted s (Reader.after [] k o) (turns (suc n) (quoted-char rust) s)
unfolding Reader.after move_up
quoted-on n s k (ok u ms j) e z (m, (us, f)) = (ap (map (up k)) m, (tt ∷ us, turns-on n (quoted-char rust) s e z f))
quoted-on n s k (bad d j) e z h = rw (turns_more n (quoted-char rust) s e z) (unclosed-after s k (turns n (quoted-char rust) (drop k s)) h)
quoted-on n s k (deep j) e z h = tt

-- none more
quoted-bad : (n : ℕ) (s : List ℕ) → quoted-char rust s ≡ fails → starts_with 34 s ≡ false → Unclosed s (turns n (quoted-char rust) s)
quoted-bad n s e h = rw (turns-end n (quoted-char rust) s e) h

plain-char : (b : ℕ) (s : List ℕ) → eqb b 34 ≡ false → eqb b 92 ≡ false → line_ends (b ∷ s) ≡ false → quoted-char rust (b ∷ s) ≡ fits tt [] 1
unfolding quoted-char special-escape unicode-escape special-quoted-char any-char ◌but◌ bar sized eof given rust all ◌//◌
    ◌>>◌ byte one starts Peg.next Peg.after Peg.never move_up
plain-char b s q r l = rw (no-line-end (b ∷ s) l, quoted-char, ◌//◌, ◌>>◌, bar) (rw q (rw r refl))

special-char : (b : ℕ) (s : List ℕ) → (eqb b 92 || (eqb b 123 || eqb b 34)) ≡ true → quoted-char rust (92 ∷ b ∷ s) ≡ fits tt [] 2
unfolding quoted-char special-escape unicode-escape special-quoted-char any-char ◌but◌ bar line-end sized eof given rust
    all ◌//◌ ◌>>◌ byte one starts Peg.next Peg.after Peg.never move_up
special-char b s q = by_case (eqb b 92) (λ r. subst (λ x. quoted-char rust (92 ∷ x ∷ s) ≡ fits tt [] 2) (sym (eqb-true b 92 r)) refl)
    (λ r. by_case (eqb b 123) (λ t. subst (λ x. quoted-char rust (92 ∷ x ∷ s) ≡ fits tt [] 2) (sym (eqb-true b 123 t)) refl)
    (λ t. by_case (eqb b 34)
    (λ u. subst (λ x. quoted-char rust (92 ∷ x ∷ s) ≡ fits tt [] 2) (sym (eqb-true b 34 u)) refl)
    (λ u. clash q (rw r (rw t (rw u refl))))))

no-escape : (b : ℕ) (s : List ℕ) → (eqb b 92 || (eqb b 123 || eqb b 34)) ≡ false → eqb b 117 ≡ false → eqb b 85 ≡ false
    → quoted-char rust (92 ∷ b ∷ s) ≡ fails
unfolding quoted-char special-escape unicode-escape special-quoted-char any-char ◌but◌ bar line-end sized eof given rust
    all ◌//◌ ◌>>◌ byte one starts Peg.next Peg.after Peg.never move_up
no-escape b s q r t =
    let c : eqb b 92 ≡ false = by_case (eqb b 92) (λ y. clash (rw y refl) q) (λ y. y) in
    let d : eqb b 123 ≡ false = by_case (eqb b 123) (λ y. clash (rw c (rw y refl)) q) (λ y. y) in
    let e : eqb b 34 ≡ false = by_case (eqb b 34) (λ y. clash (rw c (rw d (rw y refl))) q) (λ y. y) in
    rw (e, quoted-char, ◌//◌) (rw c (rw d (rw (r, ◌//◌, ◌>>◌) (rw (t, ◌>>◌, one) refl))))

lower-char : (s : List ℕ) (a : Answer (Unit {0})) → times 4 (one is_hex) s ≡ a → quoted-char rust (92 ∷ 117 ∷ s) ≡ Peg.after [] 2 a
unfolding quoted-char special-escape unicode-escape special-quoted-char any-char ◌but◌ bar line-end sized eof given rust
    all ◌//◌ ◌>>◌ byte one starts Peg.next Peg.after Peg.never move_up
lower-char s (fits u ms k) e = rw (e, quoted-char, ◌//◌) refl
lower-char s fails e = rw (e, quoted-char, ◌//◌) refl

upper-char : (s : List ℕ) → quoted-char rust (92 ∷ 85 ∷ s) ≡ Peg.after [] 2 (times 6 (one is_hex) s)
unfolding quoted-char special-escape unicode-escape special-quoted-char any-char ◌but◌ bar line-end sized eof given rust
    all ◌//◌ ◌>>◌ byte one starts Peg.next Peg.after Peg.never move_up
upper-char s = refl

no_char : (s : List ℕ) → (quoted-char rust [] ≡ fails) × (quoted-char rust (34 ∷ s) ≡ fails)
    × (quoted-char rust (10 ∷ s) ≡ fails) × (quoted-char rust (13 ∷ 10 ∷ s) ≡ fails)
    × (quoted-char rust (92 ∷ []) ≡ fails)
unfolding quoted-char special-escape unicode-escape special-quoted-char any-char ◌but◌ bar line-end sized eof given rust
    all ◌//◌ ◌>>◌ byte one starts Peg.next Peg.after Peg.never move_up
no_char s = (refl, refl, refl, refl, refl)

module _ (m n : ℕ) where
  -- what a turn gives, with the turns after it
  abbrev onward : Turn (Unit {0}) (Unit {0}) → Reader (Unit {0})
  onward t s = elim t [ again st ms k ↦ Reader.after ms k (loop m string_turn st (drop k s)) | done o ↦ o ]

  module _ (more : (r : List ℕ) → length r ≤ n → Quoted r (loop m string_turn tt r) (turns n (quoted-char rust) r)) where
    unicode-turn : (len : ℕ) (s : List ℕ) → quoted-char rust s ≡ Peg.after [] 2 (times len (one is_hex) (drop 2 s))
        → length s ≤ suc n → 0 < length s → starts_with 34 s ≡ false
        → Quoted s (onward (turn_of (Reader.after [] 2 (skip_unicode_escape_sequence len (drop 2 s)))) s) (turns (suc n) (quoted-char rust) s)
    unfolding skip_unicode_escape_sequence turn_of Reader.after Peg.after move_up
    unicode-turn len s e l i z = by_case (eqb (min len (run is_hex (drop 2 s))) len)
        (λ q. let h : min len (run is_hex (drop 2 s)) ≡ len = eqb-true (min len (run is_hex (drop 2 s))) len q in
        rw (q, turn_of, skip_unicode_escape_sequence)
        (rw h
        (quoted-on n s (2 + len) (loop m string_turn tt (drop (2 + len) s))
        (e ∙ ap (Peg.after [] 2) (times-fits len is_hex (drop 2 s) (omega arith))) (omega arith)
        (more (drop (2 + len) s) (omega (arith, length-drop (2 + len) s))))))
        (λ q. rw (q, turn_of, skip_unicode_escape_sequence)
        (quoted-bad (suc n) s
        (e
        ∙ ap (Peg.after [] 2)
        (times-fails len is_hex (drop 2 s) (omega (arith, eqb-false (min len (run is_hex (drop 2 s))) len q)))) z))

    escape-turn : {s : List ℕ} → Escape s → length s ≤ n
        → Quoted (92 ∷ s) (onward (escape_turn (92 ∷ s) s) (92 ∷ s)) (turns (suc n) (quoted-char rust) (92 ∷ s))
    unfolding escape_turn starts_with Reader.fail
    escape-turn none l = quoted-bad (suc n) (92 ∷ []) (no_char []).4 refl
    escape-turn (special b r q) l =
        rw (q, escape_turn)
        (quoted-on n (92 ∷ b ∷ r) 2 (loop m string_turn tt r) (special-char b r q) (omega arith) (more r (omega arith)))
    escape-turn (lower r) l = unicode-turn 4 (92 ∷ 117 ∷ r) (lower-char r (times 4 (one is_hex) r) refl) (omega arith) (omega arith) refl
    escape-turn (upper r) l = unicode-turn 6 (92 ∷ 85 ∷ r) (upper-char r) (omega arith) (omega arith) refl
    escape-turn (other b r q c d) l = rw (q, escape_turn) (rw c (rw d (quoted-bad (suc n) (92 ∷ b ∷ r) (no-escape b r q c d) refl)))

    -- the reading takes a CR before LF, and then stops
    crlf-turn : (s : List ℕ) (o : Out (Unit {0})) → ((d : Unit {0}) → (ms : List Mark) (k : ℕ) → o ≡ ok d ms k → ⊥)
        → Quoted (13 ∷ 10 ∷ s) (Reader.after [] 1 o) (turns (suc n) (quoted-char rust) (13 ∷ 10 ∷ s))
    unfolding Reader.after starts_with
    crlf-turn s (ok u ms k) h = absurd (h u ms k refl)
    crlf-turn s (bad f k) h = quoted-bad (suc n) (13 ∷ 10 ∷ s) (no_char s).3 refl
    crlf-turn s (deep k) h = tt

    char-turn : {s : List ℕ} → Char s → length s ≤ suc n → Quoted s (onward (string_turn tt s) s) (turns (suc n) (quoted-char rust) s)
    unfolding loop string_turn starts_with Reader.fail
    char-turn end l = (refl, ([], turns-end (suc n) (quoted-char rust) [] (no_char []).0))
    char-turn (quote s) l = (refl, ([], turns-end (suc n) (quoted-char rust) (34 ∷ s) (no_char s).1))
    char-turn (feed s) l = quoted-bad (suc n) (10 ∷ s) (no_char s).2 refl
    char-turn (crlf s) l = crlf-turn s (loop m string_turn tt (10 ∷ s)) (stopped m)
      where
        stopped : (m : ℕ) (d : Unit {0}) (ms : List Mark) (k : ℕ) → loop m string_turn tt (10 ∷ s) ≡ ok d ms k → ⊥
        stopped zero d ms k e = let z : ◌≡◌ {A = ℕ} 0 1 = cc in omega arith
        stopped (suc m) d ms k e = let z : ◌≡◌ {A = ℕ} 0 1 = cc in omega arith
    char-turn (escape s) l = escape-turn (escape-of s) (omega arith)
    char-turn (plain b s q r t z) l =
        rw (r, string_turn)
        (rw q
        (rw t
        (quoted-on n (b ∷ s) 1 (loop m string_turn tt s) (plain-char b s q r z) (omega arith) (more s (omega arith)))))

string-loop : (m n : ℕ) (s : List ℕ) → length s ≤ n → Quoted s (loop m string_turn tt s) (turns n (quoted-char rust) s)
unfolding loop string_turn turns
string-loop zero n s l = tt
string-loop (suc m) zero [] l = (refl, ([], refl))
string-loop (suc m) zero (b ∷ bs) l = absurd (not-suc-le-zero l)
string-loop (suc m) (suc n) s l = char-turn m n (λ r i. string-loop m n r i) (char_of s) l

-- the kind of an inline expression
unfoldable pub form_of : Inline → Abstract.Form
form_of string = Abstract.string
form_of number = Abstract.number
form_of variable = Abstract.variable
form_of function = Abstract.function
form_of inner = Abstract.nested_placeable
form_of (message n a) = Abstract.message_reference
form_of (term a) = Abstract.term_reference a

pub string-literal : (s : List ℕ) → Same form_of (as_string (string_literal s)) (StringLiteral rust s)
unfolding as_string string_literal StringLiteral Reader.◌>>◌ Reader.next Reader.after Peg.after Peg.pure move_up text_node form_of
string-literal s = by_case (starts_with 34 s)
    (λ e. rw (expects 34 s e, string_literal, Reader.◌>>◌)
    (rw (then-fits (byte 34) rest s (byte_fits 34 s e))
    (go (drop 1 s) (repeat string_turn tt (drop 1 s)) (many (quoted-char rust) (drop 1 s)) refl (loops (drop 1 s)))))
    (λ e. rw (refuses 34 s e, string_literal, Reader.◌>>◌) (then-fails (byte 34) rest s (byte-fails 34 s e)))
  where
    end : Parser Abstract.Form
    end = byte 34 >> Peg.pure Abstract.string

    rest : Parser Abstract.Form
    rest = as-text 19 (many (quoted-char rust)) >> end

    loops : (r : List ℕ) → Quoted r (repeat string_turn tt r) (many (quoted-char rust) r)
    loops r = unfold repeat many in (string-loop (suc (length r)) (length r) r (omega arith))

    go : (r : List ℕ) (o : Out (Unit {0})) (a : Answer (List (Unit {0}))) → many (quoted-char rust) r ≡ a → Quoted r o a
        → Same form_of (as_string (Reader.after [] 1 (Reader.next r (λ _. expect_byte 34) o))) (Peg.after [] 1 (rest r))
    go r (ok u ms k) a e (m, (us, h)) =
        let t : rest r ≡ Peg.after (text_node 19 0 k) k (end (drop k r)) =
        then-fits (as-text 19 (many (quoted-char rust))) end r (text-fits 19 (many (quoted-char rust)) r (e ∙ h)) in
        by_case (starts_with 34 (drop k r))
        (λ q. rw (
          expects 34 (drop k r) q,
          t,
          then-fits (byte 34) (Peg.pure Abstract.string) (drop k r) (byte_fits 34 (drop k r) q),
        )
        (ap (λ n. fits Abstract.string (text_node 19 1 n) (1 + (k + 1))) (omega arith)))
        (λ q. rw (refuses 34 (drop k r) q, t, then-fails (byte 34) (Peg.pure Abstract.string) (drop k r) (byte-fails 34 (drop k r) q)) refl)
    go r (bad d k) (fits us ms j) e h =
        rw (
          then-fits (as-text 19 (many (quoted-char rust))) end r (text-fits 19 (many (quoted-char rust)) r e),
          then-fails (byte 34) (Peg.pure Abstract.string) (drop j r) (byte-fails 34 (drop j r) h),
        ) refl
    go r (bad d k) fails e h =
        rw (then-fails (as-text 19 (many (quoted-char rust))) end r (text-fails 19 (many (quoted-char rust)) r e)) refl
    go r (deep k) a e h = tt
