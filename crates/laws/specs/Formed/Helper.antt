-- helper.rs, and the identifier: what their marks do.
use Rattle.std.specs.Prelude.{ℕ, ◌≤◌, ◌≡◌, Bool, ◌||◌, drop, eqb, ltb, leb}
use Rattle.std.proofs.Common.{arith, leb-true, lt-ltb}
use Rattle.std.proofs.Math.Path.{refl}
use Rattle.std.proofs.Math.Bool.{true, false, and-eq-true_iff}
use mathlib.Core.List.{List}
use Rattle.std.proofs.Math.Option.{some}
use Rattle.syntax.specs.declared.errors.CharRange.TheVariants.{Letters, Digits}
use Rattle.syntax.specs.declared.errors.ErrorKind.TheVariants.{ExpectedToken, ExpectedCharRange}
use Rattle.syntax.specs.Kind as Kind
use Rattle.syntax.specs.Bytes.{starts_with, starts, within, is_letter, is_digit, is_name_part, spaces, eol, run}
use Rattle.syntax.specs.Reader.{Out, ok, bad, deep}
use Rattle.syntax.specs.Helper.{skip_blank_inline, skip_eol, blank_turn, skip_blank, block_turn, skip_blank_block, take_byte_if}
use Rattle.syntax.specs.Helper.{expect_byte, skip_digits, fraction, number, as_text, get_number_literal, get_identifier}
use Rattle.syntax.specs.Pattern.{used_by}
use Rattle.syntax.specs.Shape.{step}
use Rattle.laws.specs.Bytes.{by_case, pick}
use Rattle.laws.specs.Answers.{Sure}
use Rattle.laws.specs.Stable.Helper.{block-sure}
use Rattle.laws.specs.Shape.Run.{otherwise, run-text}
use Rattle.laws.specs.Formed.Edge.{ascii, edge, edge-add, edge-run, ascii-of, edge-byte, edge-spaces, edge-eol}
use Rattle.laws.specs.Formed.Reader.{Stand, at, anywhere, by, leads-nil, Made, made, stopped, too_deep, Makes}
use Rattle.laws.specs.Formed.Reader.{skips, pure-makes, fail-makes, bind, then, TurnMade, goes, ends}
use Rattle.laws.specs.Formed.Reader.{repeat-makes}

-- tests that only ASCII bytes pass
within-ascii : (low high : ℕ) → high ≤ 127 → (b : ℕ) → within low high b ≡ true → ascii b ≡ true
within-ascii low high h b q = lt-ltb b 128 (omega (arith, leb-true b high ((and-eq-true_iff (leb low b) (leb b high)).0 q).1))

pub or-ascii : (v w b : Bool) → (v ≡ true → b ≡ true) → (w ≡ true → b ≡ true) → (v || w) ≡ true → b ≡ true
or-ascii v w b f g q = by_case v f (λ z. g (otherwise v w q z))

pub digit-ascii : (b : ℕ) → is_digit b ≡ true → ascii b ≡ true
unfolding is_digit
digit-ascii b q = within-ascii 48 57 (omega arith) b q

pub letter-ascii : (b : ℕ) → is_letter b ≡ true → ascii b ≡ true
unfolding is_letter
letter-ascii b q =
    or-ascii (within 65 90 b) (within 97 122 b) (ascii b) (within-ascii 65 90 (omega arith) b)
    (within-ascii 97 122 (omega arith) b) q

name-ascii : (b : ℕ) → is_name_part b ≡ true → ascii b ≡ true
unfolding is_name_part
name-ascii b q = or-ascii (is_letter b) (is_digit b || (eqb b 45 || eqb b 95)) (ascii b) (letter-ascii b)
    (or-ascii (is_digit b) (eqb b 45 || eqb b 95) (ascii b) (digit-ascii b)
    (or-ascii (eqb b 45) (eqb b 95) (ascii b) (ascii-of 45 refl b) (ascii-of 95 refl b))) q

pub edge-name : (s : List ℕ) → edge s (run is_name_part s) ≡ true
edge-name s = edge-run is_name_part name-ascii s (run is_name_part s) (omega arith)

-- ---- readers without marks

module _ {n k : ℕ} {g : Stand} where
  pub spaces-makes : Makes n k g (λ _. g) skip_blank_inline
  unfolding skip_blank_inline
  spaces-makes = record { on = λ s. skips (edge-spaces s (spaces s) (omega arith)) }

  pub eol-makes : Makes n k g (λ _. g) skip_eol
  unfolding skip_eol
  eol-makes = record { on = λ s. skips (edge-eol s (eol s) (omega arith)) }

  pub blank-makes : Makes n k g (λ _. g) skip_blank
  unfolding skip_blank
  blank-makes = record { on = (repeat-makes {f = λ _. g} turn tt).on }
    where
      turn : (u : Unit {0}) (s : List ℕ) → TurnMade n k g (λ _. g) (λ _. g) s (blank_turn u s)
      turn u s = unfold blank_turn edge in
          (pick (TurnMade n k g (λ _. g) (λ _. g) s) (starts_with 32 s) _ _ (λ q. goes (edge-byte 32 refl s q) (leads-nil g))
          (λ q. pick (TurnMade n k g (λ _. g) (λ _. g) s) (ltb 0 (eol s)) _ _
          (λ l. goes (edge-eol s (eol s) (omega arith)) (leads-nil g)) (λ l. ends (skips refl))))

  pub block-makes : Makes n k g (λ _. g) skip_blank_block
  unfolding skip_blank_block
  block-makes = record { on = (repeat-makes {f = λ _. g} turn 0).on }
    where
      turn : (i : ℕ) (s : List ℕ) → TurnMade n k g (λ _. g) (λ _. g) s (block_turn i s)
      turn i s = unfold block_turn edge in
          (pick (TurnMade n k g (λ _. g) (λ _. g) s) (ltb 0 (eol (drop (spaces s) s))) _ _
          (λ l. goes
          (edge-add s (spaces s) (eol (drop (spaces s) s)) (edge-spaces s (spaces s) (omega arith))
          (edge-eol (drop (spaces s) s) (eol (drop (spaces s) s)) (omega arith)))
          (leads-nil g))
          (λ l. ends (skips refl)))

  pub take_byte_if-makes : (b : ℕ) → ascii b ≡ true → Makes n k g (λ _. g) (take_byte_if b)
  unfolding take_byte_if edge
  take_byte_if-makes b a =
      record {
        on =
            λ s. pick (Made n k g (λ _. g) s) (starts_with b s) _ _ (λ q. skips (edge-byte b a s q)) (λ q. skips refl);
      }

  pub expect_byte-makes : (b : ℕ) → ascii b ≡ true → Makes n k g (λ _. g) (expect_byte b)
  unfolding expect_byte
  expect_byte-makes b a =
      record {
        on =
            λ s. pick (Made n k g (λ _. g) s) (starts_with b s) _ _ (λ q. skips (edge-byte b a s q))
            (λ q. (fail-makes (ExpectedToken b)).on s);
      }

  digits-makes : Makes n k g (λ _. g) skip_digits
  unfolding skip_digits
  digits-makes = record {
    on =
        λ s. pick (Made n k g (λ _. g) s) (eqb (run is_digit s) 0) _ _ (λ q. (fail-makes (ExpectedCharRange Digits)).on s)
        (λ q. skips (edge-run is_digit digit-ascii s (run is_digit s) (omega arith)));
  }

  fraction-makes : (v : Bool) → Makes n k g (λ _. g) (fraction v)
  unfolding fraction
  fraction-makes true = digits-makes
  fraction-makes false = pure-makes tt (λ b. leads-nil g)

  number-makes : Makes n k g (λ _. g) number
  unfolding number
  number-makes = then (take_byte_if-makes 45 refl) (then digits-makes (bind (take_byte_if-makes 46 refl) fraction-makes))

-- how far the blank lines reach
pub block-edge : (s : List ℕ) → edge s (used_by (skip_blank_block s)) ≡ true
block-edge s = go (skip_blank_block s) ((block-makes {n = 0} {k = 0} {g = anywhere}).on s) (block-sure s)
  where
    go : (o : Out ℕ) → Made 0 0 anywhere (λ _. anywhere) s o → Sure o → edge s (used_by o) ≡ true
    go (ok i ms j) (made e l) h = unfold used_by in e
    go (bad f j) m h = absurd h
    go (deep j) m h = absurd h

-- ---- T nodes

module _ {n k q r : ℕ} (kind : ℕ) (t : Kind.is_text kind ≡ true) (z : step k q kind ≡ some r) where
  as_text-made : {s : List ℕ} {o : Out (Unit {0})} → Made n k (at q) (λ _. at q) s o → Made n k (at q) (λ _. at r) s (as_text kind o)
  unfolding as_text edge
  as_text-made {s} (made {j = j} e l) = made e (by (run-text (edge s) kind 0 j t z refl e (omega arith)))
  as_text-made stopped = stopped
  as_text-made too_deep = too_deep

  pub number_literal-makes : Makes n k (at q) (λ _. at r) (get_number_literal kind)
  unfolding get_number_literal
  number_literal-makes = record { on = λ s. as_text-made (number-makes.on s) }

  pub identifier-makes : Makes n k (at q) (λ _. at r) (get_identifier kind)
  unfolding get_identifier edge
  identifier-makes = record {
    on = λ s. pick (Made n k (at q) (λ _. at r) s) (starts is_letter s) _ _
        (λ h. made (edge-name s) (by (run-text (edge s) kind 0 (run is_name_part s) t z refl (edge-name s) (omega arith))))
        (λ h. (fail-makes (ExpectedCharRange Letters)).on s);
  }
