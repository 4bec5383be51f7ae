-- helper.rs at a cut.
use Rattle.std.specs.Prelude.{ℕ, suc, ◌+◌, min, ◌≡◌, refl, Bool, true, false, drop, length, eqb, ltb}
use Rattle.std.proofs.Common.{not-suc-le-zero, arith, sym, ap, ◌∙◌, subst, length-drop, eqb-true, ltb-true}
use mathlib.Core.List.{List, [], ◌∷◌, ◌++◌}
use Rattle.syntax.specs.Bytes.{starts_with, starts, is_letter, is_digit, is_name_part, is_hex, spaces, eol, run, first_width}
use Rattle.syntax.specs.Marks.{text_node}
use Rattle.syntax.specs.declared.errors.CharRange.TheVariants.{Letters, Digits}
use Rattle.syntax.specs.declared.errors.ErrorKind.TheVariants.{ExpectedToken, ExpectedCharRange, InvalidUnicodeEscapeSequence}
use Rattle.syntax.specs.Reader.{Out, ok, bad, deep, Reader, fail, Turn, again, done}
use Rattle.syntax.specs.Helper.{skip_blank_inline, skip_eol, blank_turn, skip_blank, block_turn, skip_blank_block, take_byte_if}
use Rattle.syntax.specs.Helper.{expect_byte, skip_digits, fraction, number, as_text, get_number_literal, get_identifier}
use Rattle.syntax.specs.Helper.{skip_unicode_escape_sequence}
use Rattle.laws.specs.Bytes.{Whole, whole_drop, Fresh, Stop, stop-fresh, by_case, clash, drop_app, run-whole}
use Rattle.laws.specs.Bytes.{eol-whole, spaces-whole, fresh-spaces, fresh-eol, not-fresh, stop-run, nonempty}
use Rattle.laws.specs.Bytes.{pick, pick₂}
use Rattle.laws.specs.Answers.{Takes, Sure, TurnSure, repeat-sure}
use Rattle.laws.specs.Stable.{Mode, loose, fresh, any, none, Upto, Within, Carries, Reads, Closes, same-carries}
use Rattle.laws.specs.Stable.{from-any, bind, then, pure-reads, Relabels, relabel, relabels, TurnWithin}
use Rattle.laws.specs.Stable.{TurnCarries, Turns, Free, Any, repeat-reads, Short, Strict}

-- modes in which what follows an x that is used up is fresh
abbrev pub Soft : Mode → Type 0
Soft loose = Unit {0}
Soft fresh = Unit {0}
Soft any = ⊥
Soft none = Unit {0}

pub soft-fresh : (m : Mode) → Soft m → (y : List ℕ) (k : ℕ) → Upto m y 0 k → Fresh y
soft-fresh loose s y k u = absurd (not-suc-le-zero u)
soft-fresh fresh s y k u = u.1
soft-fresh any s y k u = absurd s
soft-fresh none s y k u = absurd u

pub loose-nil : {A : Type 0} (y : List ℕ) (o o' : Out A) → Carries (Upto loose y 0) o o'
loose-nil y (ok a ms k) o' = λ u. absurd (not-suc-le-zero u)
loose-nil y (bad f k) o' = tt
loose-nil y (deep k) o' = tt

-- a reader that does not see past the end of a line
module _ {A : Type 0} (m : Mode) (p : Reader A)
    (same : (b : ℕ) (bs y : List ℕ) → Whole (b ∷ bs) → p ((b ∷ bs) ++ y) ≡ p (b ∷ bs))
    (fits : (b : ℕ) (bs : List ℕ) → Whole (b ∷ bs) → Within (suc (length bs)) (p (b ∷ bs)))
    (nil : (y : List ℕ) → Stop y → Within 0 (p y))
    (none : (y : List ℕ) → Carries (Upto m y 0) (p []) (p y)) where
  line-stops : (x y : List ℕ) → Whole x → Stop y → Within (length x) (p (x ++ y))
  line-stops [] y w s = nil y s
  line-stops (b ∷ bs) y w s = subst (Within (suc (length bs))) (sym (same b bs y w)) (fits b bs w)

  line-keeps : (x y : List ℕ) → Whole x → Carries (Upto m y (length x)) (p x) (p (x ++ y))
  line-keeps [] y w = none y
  line-keeps (b ∷ bs) y w = same-carries (Upto m y (suc (length bs))) (p (b ∷ bs)) (p ((b ∷ bs) ++ y)) (same b bs y w)

  pub line_reads : Reads m p
  line_reads = record { stops = line-stops; keeps = line-keeps }

-- a turn that does not see past the end of a line, and is done where what follows is fresh
module _ {S A : Type 0} (m : Mode) (soft : Soft m) (t : S → List ℕ → Turn S A) (answer : S → A)
    (same : (st : S) (b : ℕ) (bs y : List ℕ) → Whole (b ∷ bs) → t st ((b ∷ bs) ++ y) ≡ t st (b ∷ bs))
    (fits : (st : S) (b : ℕ) (bs : List ℕ) → Whole (b ∷ bs) → TurnWithin Free (suc (length bs)) (t st (b ∷ bs)))
    (calm : (st : S) (y : List ℕ) → Fresh y → t st y ≡ done (ok (answer st) [] 0)) where
  same_turn : (N : ℕ → Type 0) (w w' : Turn S A) → w' ≡ w → TurnCarries Free N w w'
  same_turn N (again st ms k) w' e = λ u. (e, tt)
  same_turn N (done (ok a ms k)) w' e = λ u. e
  same_turn N (done (bad f k)) w' e = tt
  same_turn N (done (deep k)) w' e = tt

  line-turn-stops : (st : S) (x y : List ℕ) → Whole x → Unit {0} → Stop y → TurnWithin Free (length x) (t st (x ++ y))
  line-turn-stops st [] y w i s = rw (calm st y (stop-fresh y s)) (omega arith)
  line-turn-stops st (b ∷ bs) y w i s = subst (TurnWithin Free (suc (length bs))) (sym (same st b bs y w)) (fits st b bs w)

  line-turn-keeps : (st : S) (x y : List ℕ) → Whole x → Unit {0} → TurnCarries Free (Upto m y (length x)) (t st x) (t st (x ++ y))
  line-turn-keeps st [] y w i = rw (calm st [] tt) (λ u. calm st y (soft-fresh m soft y 0 u))
  line-turn-keeps st (b ∷ bs) y w i = same_turn (Upto m y (suc (length bs))) (t st (b ∷ bs)) (t st ((b ∷ bs) ++ y)) (same st b bs y w)

  pub line-turns : Turns m Any t
  line-turns = record { stops = line-turn-stops; keeps = line-turn-keeps }

pub inline-reads : (m : Mode) → Soft m → Reads m skip_blank_inline
unfolding skip_blank_inline
inline-reads m soft =
    line_reads m skip_blank_inline (λ b bs y w. ap (λ n. ok n [] n) (spaces-whole b bs y w).0)
    (λ b bs w. omega (arith, (spaces-whole b bs [] w).1))
    (λ y s. rw (fresh-spaces y (stop-fresh y s)) (omega arith))
    (λ y u. ap (λ n. ok n [] n) (fresh-spaces y (soft-fresh m soft y (spaces []) u) ∙ sym (fresh-spaces [] tt)))

pub eol-reads : Reads loose skip_eol
unfolding skip_eol
eol-reads = line_reads loose skip_eol (λ b bs y w. ap (λ n. ok (ltb 0 n) [] n) (eol-whole b bs y w).0) (λ b bs w. (eol-whole b bs [] w).1)
    (λ y s. rw (fresh-eol y (stop-fresh y s)) (omega arith)) (λ y. loose-nil y (skip_eol []) (skip_eol y))

blank_turn-calm : (u : Unit {0}) (y : List ℕ) → Fresh y → blank_turn u y ≡ done (ok tt [] 0)
unfolding blank_turn starts_with is_letter
blank_turn-calm u [] f = rw (fresh-eol [] f, blank_turn)
blank_turn-calm u (b ∷ bs) f = by_case (eqb b 32) (λ q. clash f (not-fresh b 32 refl q)) (λ q. rw (q, blank_turn) (rw (fresh-eol (b ∷ bs) f)))

blank_turn-fits : (u : Unit {0}) (b : ℕ) (bs : List ℕ) → Whole (b ∷ bs) → TurnWithin Free (suc (length bs)) (blank_turn u (b ∷ bs))
unfolding blank_turn starts_with
blank_turn-fits u b bs w = by_case (eqb b 32) (λ q. rw (q, blank_turn) (omega arith, tt))
    (λ q. rw (q, blank_turn) (by_case (ltb 0 (eol (b ∷ bs))) (λ r. rw r ((eol-whole b bs [] w).1, tt)) (λ r. rw r (omega arith))))

abbrev blank_of : Bool → ℕ → Turn (Unit {0}) (Unit {0})
blank_of v e = elim v [ true ↦ again tt [] 1 | false ↦ elim (ltb 0 e) [ true ↦ again tt [] e | false ↦ done (ok tt [] 0) ] ]

blank_turn-same : (u : Unit {0}) (b : ℕ) (bs y : List ℕ) → Whole (b ∷ bs) → blank_turn u ((b ∷ bs) ++ y) ≡ blank_turn u (b ∷ bs)
unfolding blank_turn starts_with
blank_turn-same u b bs y w = ap (λ e. blank_of (eqb b 32) e) (eol-whole b bs y w).0

pub blank-reads : (m : Mode) → Soft m → Reads m skip_blank
unfolding skip_blank
blank-reads m soft = repeat-reads blank_turn (line-turns m soft blank_turn (λ u. tt) blank_turn-same blank_turn-fits blank_turn-calm) tt

-- the rest of a line after its spaces
abbrev PastSpaces : ℕ → List ℕ → Type 0
PastSpaces b bs = (c : ℕ) × (cs : List ℕ) × (drop (spaces (b ∷ bs)) (b ∷ bs) ≡ c ∷ cs) × Whole (c ∷ cs)
    × (suc (length cs) + spaces (b ∷ bs) ≡ suc (length bs))

pub past-spaces : (b : ℕ) (bs : List ℕ) → Whole (b ∷ bs) → PastSpaces b bs
past-spaces b bs w = go (drop (spaces (b ∷ bs)) (b ∷ bs)) refl
  where
    go : (r : List ℕ) → drop (spaces (b ∷ bs)) (b ∷ bs) ≡ r → PastSpaces b bs
    go [] e = absurd (omega (arith, ap length e, length-drop (spaces (b ∷ bs)) (b ∷ bs), (spaces-whole b bs [] w).1))
    go (c ∷ cs) e = (
      c,
      cs,
      e,
      subst Whole e (whole_drop (spaces (b ∷ bs)) (b ∷ bs) w),
      omega (arith, ap length e, length-drop (spaces (b ∷ bs)) (b ∷ bs), (spaces-whole b bs [] w).1),
    )

abbrev block_of : ℕ → ℕ → ℕ → Turn ℕ ℕ
block_of n k e = elim (ltb 0 e) [ true ↦ again (suc n) [] (k + e) | false ↦ done (ok n [] 0) ]

block_turn-at : (n k : ℕ) (r s : List ℕ) → spaces s ≡ k → drop k s ≡ r → block_turn n s ≡ block_of n k (eol r)
unfolding block_turn
block_turn-at n k r s e d = ap (λ j. block_of n j (eol (drop j s))) e ∙ ap (λ z. block_of n k (eol z)) d

block_turn-calm : (n : ℕ) (y : List ℕ) → Fresh y → block_turn n y ≡ done (ok n [] 0)
block_turn-calm n y f = block_turn-at n 0 y y (fresh-spaces y f) refl ∙ rw (fresh-eol y f)

block_turn-fits : (n : ℕ) (b : ℕ) (bs : List ℕ) → Whole (b ∷ bs) → TurnWithin Free (suc (length bs)) (block_turn n (b ∷ bs))
block_turn-fits n b bs w =
    let (c, cs, e, v, l) = past-spaces b bs w in
    rw (block_turn-at n (spaces (b ∷ bs)) (c ∷ cs) (b ∷ bs) refl e)
    (pick (TurnWithin Free (suc (length bs))) (ltb 0 (eol (c ∷ cs))) _ _
    (λ r. (omega (arith, (eol-whole c cs [] v).1), tt)) (λ r. omega arith))

block_turn-same : (n : ℕ) (b : ℕ) (bs y : List ℕ) → Whole (b ∷ bs) → block_turn n ((b ∷ bs) ++ y) ≡ block_turn n (b ∷ bs)
block_turn-same n b bs y w =
    let (c, cs, e, v, l) = past-spaces b bs w in
    block_turn-at n (spaces (b ∷ bs)) ((c ∷ cs) ++ y) ((b ∷ bs) ++ y) (spaces-whole b bs y w).0
    (drop_app (spaces (b ∷ bs)) (b ∷ bs) y (omega (arith, (spaces-whole b bs [] w).1)) ∙ ap (λ r. r ++ y) e)
    ∙ ap (block_of n (spaces (b ∷ bs))) (eol-whole c cs y v).0
    ∙ sym (block_turn-at n (spaces (b ∷ bs)) (c ∷ cs) (b ∷ bs) refl e)

pub block_reads : (m : Mode) → Soft m → Reads m skip_blank_block
unfolding skip_blank_block
block_reads m soft = repeat-reads block_turn (line-turns m soft block_turn (λ n. n) block_turn-same block_turn-fits block_turn-calm) 0

byte-stop : (b : ℕ) → (b ≡ 35 → ⊥) → (c : ℕ) → c ≡ 35 → eqb c b ≡ false
byte-stop b h c e = by_case (eqb c b) (λ q. absurd (h (sym (eqb-true c b q) ∙ e))) (λ q. q)

pub take_byte_if-reads : (b : ℕ) → (b ≡ 35 → ⊥) → Reads loose (take_byte_if b)
unfolding take_byte_if starts_with
take_byte_if-reads b h =
    line_reads loose (take_byte_if b) (λ c bs y w. refl)
    (λ c bs w. pick (Within (suc (length bs))) (eqb c b) (ok true [] 1) (ok false [] 0) (λ q. omega arith)
    (λ q. omega arith)) nil
    (λ y. loose-nil y (take_byte_if b []) (take_byte_if b y))
  where
    nil : (y : List ℕ) → Stop y → Within 0 (take_byte_if b y)
    nil [] s = omega arith
    nil (c ∷ cs) s = rw (byte-stop b h c s, take_byte_if) (omega arith)

pub expect_byte-reads : (b : ℕ) → (b ≡ 35 → ⊥) → Reads any (expect_byte b)
unfolding expect_byte starts_with fail
expect_byte-reads b h =
    line_reads any (expect_byte b) (λ c bs y w. refl)
    (λ c bs w. pick (Within (suc (length bs))) (eqb c b) (ok tt [] 1) (fail (ExpectedToken b) (c ∷ bs))
    (λ q. omega arith) (λ q. tt)) nil
    (λ y. tt)
  where
    nil : (y : List ℕ) → Stop y → Within 0 (expect_byte b y)
    nil [] s = tt
    nil (c ∷ cs) s = rw (byte-stop b h c s, expect_byte) tt

expect_byte-takes : (b : ℕ) (s : List ℕ) → Takes (expect_byte b s)
unfolding expect_byte starts_with fail
expect_byte-takes b [] = tt
expect_byte-takes b (c ∷ cs) = by_case (eqb c b) (λ q. rw (q, expect_byte) (omega arith)) (λ q. rw (q, expect_byte) tt)

pub expect_byte-closes : (b : ℕ) → (b ≡ 35 → ⊥) → Closes (expect_byte b)
expect_byte-closes b h = record { reads = expect_byte-reads b h; takes = expect_byte-takes b }

abbrev identifier_of : ℕ → Bool → ℕ → Out ℕ
identifier_of kind v n =
    elim v [
      | true ↦ ok n (text_node kind 0 n) n
      | false ↦ bad (record { start = 0; end = 1; kind = ExpectedCharRange Letters }) 0
    ]

pub identifier-same : (kind b : ℕ) (bs y : List ℕ) → Whole (b ∷ bs) → get_identifier kind ((b ∷ bs) ++ y) ≡ get_identifier kind (b ∷ bs)
unfolding get_identifier starts fail
identifier-same kind b bs y w =
    ap (identifier_of kind (is_letter b)) (run-whole is_name_part (unfold is_name_part is_letter is_digit in refl) b bs y w).0

pub identifier-reads : (kind : ℕ) → Reads any (get_identifier kind)
unfolding get_identifier starts fail is_letter
identifier-reads kind = line_reads any (get_identifier kind)
    (λ b bs y w. identifier-same kind b bs y w)
    (λ b bs w. fits b bs w) nil (λ y. tt)
  where
    fits : (b : ℕ) (bs : List ℕ) → Whole (b ∷ bs) → Within (suc (length bs)) (get_identifier kind (b ∷ bs))
    fits b bs w =
        pick (Within (suc (length bs))) (is_letter b) _ _
        (λ q. omega (arith, (run-whole is_name_part (unfold is_name_part is_letter is_digit in refl) b bs [] w).1)) (λ q. tt)

    nil : (y : List ℕ) → Stop y → Within 0 (get_identifier kind y)
    nil [] s = tt
    nil (b ∷ bs) s = rw (s, get_identifier) tt

abbrev digits_of : ℕ → Out (Unit {0})
digits_of n = elim (eqb n 0) [ true ↦ bad (record { start = 0; end = 1; kind = ExpectedCharRange Digits }) 0 | false ↦ ok tt [] n ]

pub digits-reads : Reads any skip_digits
unfolding skip_digits fail
digits-reads = line_reads any skip_digits
    (λ b bs y w. ap digits_of (run-whole is_digit (unfold is_digit in refl) b bs y w).0)
    (λ b bs w. pick (Within (suc (length bs))) (eqb (run is_digit (b ∷ bs)) 0) _ _ (λ q. tt)
    (λ q. omega (arith, (run-whole is_digit (unfold is_digit in refl) b bs [] w).1))) nil
    (λ y. unfold run in tt)
  where
    nil : (y : List ℕ) → Stop y → Within 0 (skip_digits y)
    nil y s = rw (stop-run is_digit (unfold is_digit in refl) y s, skip_digits) tt

fraction-reads : (v : Bool) → Reads loose (fraction v)
unfolding fraction
fraction-reads true = from-any loose digits-reads
fraction-reads false = pure-reads loose tt

number-reads : Reads loose number
unfolding number
number-reads =
    then (take_byte_if-reads 45 (λ e. omega arith))
    (then (from-any loose digits-reads) (bind (take_byte_if-reads 46 (λ e. omega arith)) fraction-reads))

as_text-relabels : (kind : ℕ) → Relabels (as_text kind)
unfolding as_text
as_text-relabels kind = relabels (as_text kind) (λ a ms k. k) (λ a ms k. text_node kind 0 k) (λ a ms k. refl) (λ e k. refl) (λ k. refl)

pub number_literal-reads : (kind : ℕ) → Reads loose (get_number_literal kind)
unfolding get_number_literal
number_literal-reads kind = relabel {f = as_text kind} (as_text-relabels kind) number-reads

abbrev escape_of : ℕ → ℕ → ℕ → Out (Unit {0})
escape_of len n w =
    elim
    (eqb (min len n) len) [
      | true ↦ ok tt [] (min len n)
      | false ↦ bad
          (record { start = min len n; end = min len n + 1; kind = InvalidUnicodeEscapeSequence 0 (min len n + w) })
          (min len n)
    ]

is_hex-end : is_hex 10 ≡ false
unfolding is_hex is_digit
is_hex-end = refl

-- hex digits are within their line
pub escape-within : (len b : ℕ) (bs y : List ℕ) → Whole (b ∷ bs) → Within (length bs) (skip_unicode_escape_sequence len ((b ∷ bs) ++ y))
unfolding skip_unicode_escape_sequence
escape-within len b bs y w =
    pick (Within (length bs)) (eqb (min len (run is_hex ((b ∷ bs) ++ y))) len) _ _
    (λ q. omega (arith, (run-whole is_hex is_hex-end b bs y w).0, (run-whole is_hex is_hex-end b bs y w).1)) (λ q. tt)

pub escape-carries : (N : ℕ → Type 0) (len b : ℕ) (bs y : List ℕ) → Whole (b ∷ bs)
    → Carries N (skip_unicode_escape_sequence len (b ∷ bs)) (skip_unicode_escape_sequence len ((b ∷ bs) ++ y))
unfolding skip_unicode_escape_sequence
escape-carries N len b bs y w =
    subst
    (λ n. Carries N (escape_of len (run is_hex (b ∷ bs)) (first_width (drop (min len (run is_hex (b ∷ bs))) (b ∷ bs))))
    (escape_of len n (first_width (drop (min len n) ((b ∷ bs) ++ y)))))
    (sym (run-whole is_hex is_hex-end b bs y w).0)
    (pick₂ (Carries N) (eqb (min len (run is_hex (b ∷ bs))) len) _ _ _ _ (λ q u. refl) (λ q. tt))

-- skip_blank_block has always an answer
block_turn-sure : (n : ℕ) (s : List ℕ) → TurnSure s (block_turn n s)
unfolding block_turn eol
block_turn-sure n s = go (drop (spaces s) s) refl
  where
    go : (r : List ℕ) → drop (spaces s) s ≡ r → TurnSure s (block_turn n s)
    go [] e = rw (block_turn-at n (spaces s) [] s refl e) tt
    go (c ∷ cs) e = rw (block_turn-at n (spaces s) (c ∷ cs) s refl e)
        (by_case (ltb 0 (eol (c ∷ cs)))
        (λ q. rw (q, TurnSure, block_of)
        (rw length-drop (omega (arith, ltb-true 0 (eol (c ∷ cs)) q, length-drop (spaces s) s, ap length e))))
        (λ q. rw (q, TurnSure, block_of) tt))

pub block-sure : (s : List ℕ) → Sure (skip_blank_block s)
unfolding skip_blank_block
block-sure s = repeat-sure block_turn block_turn-sure 0 s

expect_byte-short : (b : ℕ) → (b ≡ 35 → ⊥) → (b ≡ 10 → ⊥) → (x y : List ℕ) → Whole x → Stop y → Short (length x) (expect_byte b (x ++ y))
unfolding expect_byte starts_with fail
expect_byte-short b h g [] [] w s = tt
expect_byte-short b h g [] (c ∷ cs) w s = rw (byte-stop b h c s, expect_byte) tt
expect_byte-short b h g (c ∷ cs) y w s =
    by_case (eqb c b) (λ q. rw (q, expect_byte) (omega (arith, nonempty c cs w (λ e. g (sym (eqb-true c b q) ∙ e)))))
    (λ q. rw (q, expect_byte) tt)

pub expect_byte-strict : (b : ℕ) → (b ≡ 35 → ⊥) → (b ≡ 10 → ⊥) → Strict (expect_byte b)
expect_byte-strict b h g = record { short = expect_byte-short b h g }

-- a choice by a test on the first bytes
module _ {A : Type 0} (t : List ℕ → Bool) (p q : Reader A)
    (same : (b : ℕ) (bs y : List ℕ) → Whole (b ∷ bs) → t ((b ∷ bs) ++ y) ≡ t (b ∷ bs)) (rp : Reads loose p)
    (rq : Reads loose q) where
  choose-keeps : (x y : List ℕ) → Whole x
      → Carries {A = A} (Upto loose y (length x)) (elim (t x) [ true ↦ p x | false ↦ q x ])
      (elim (t (x ++ y)) [ true ↦ p (x ++ y) | false ↦ q (x ++ y) ])
  choose-keeps [] y w = loose-nil {A = A} y (elim (t []) [ true ↦ p [] | false ↦ q [] ]) (elim (t y) [ true ↦ p y | false ↦ q y ])
  choose-keeps (b ∷ bs) y w =
      subst
      (λ v. Carries {A = A} (Upto loose y (suc (length bs)))
      (elim (t (b ∷ bs)) [ true ↦ p (b ∷ bs) | false ↦ q (b ∷ bs) ])
      (elim v [ true ↦ p ((b ∷ bs) ++ y) | false ↦ q ((b ∷ bs) ++ y) ]))
      (sym (same b bs y w))
      (pick₂ (Carries (Upto loose y (suc (length bs)))) (t (b ∷ bs)) _ _ _ _ (λ e. rp.keeps (b ∷ bs) y w) (λ e. rq.keeps (b ∷ bs) y w))

  pub choose-reads : Reads {A = A} loose (λ s. elim (t s) [ true ↦ p s | false ↦ q s ])
  choose-reads = record {
    stops = λ x y w s. pick (Within (length x)) (t (x ++ y)) _ _ (λ e. rp.stops x y w s) (λ e. rq.stops x y w s);
    keeps = choose-keeps;
  }

blank_turn-sure : (u : Unit {0}) (s : List ℕ) → TurnSure s (blank_turn u s)
unfolding blank_turn starts_with eol
blank_turn-sure u [] = tt
blank_turn-sure u (b ∷ bs) = by_case (eqb b 32) (λ q. rw (q, TurnSure, blank_turn) (omega arith))
    (λ q. rw (q, TurnSure, blank_turn)
    (by_case (ltb 0 (eol (b ∷ bs))) (λ r. rw r (rw length-drop (omega (arith, ltb-true 0 (eol (b ∷ bs)) r))))
    (λ r. rw r tt)))

pub blank-sure : (s : List ℕ) → Sure (skip_blank s)
unfolding skip_blank
blank-sure s = repeat-sure blank_turn blank_turn-sure tt s
