-- helper.rs, and the identifier, within bounds.
use Prim.Native.Nat.{ℕ, suc, ◌+◌, ◌≤◌, ◌<◌, min}
use Rattle.std.proofs.Common.{arith}
use Rattle.std.specs.Prelude.{◌≡◌, refl, Bool, drop, eqb, ltb}
use Rattle.std.proofs.Math.Bool.{true, false}
use mathlib.Core.List.{List, [], ◌∷◌}
use Rattle.std.proofs.Math.ListN.{length, length-drop}
use borrow.Author.Tests.{eqb-false, ltb-true}
use Rattle.syntax.specs.declared.errors.CharRange.TheVariants.{Letters, Digits}
use Rattle.syntax.specs.declared.errors.ErrorKind.TheVariants.{ExpectedToken, ExpectedCharRange}
use Rattle.syntax.specs.Bytes.{starts_with, starts, is_letter, is_digit, is_name_part, is_hex, spaces, eol, run}
use Rattle.syntax.specs.Reader.{Out, ok, again, done}
use Rattle.syntax.specs.Helper.{skip_blank_inline, skip_eol, blank_turn, skip_blank, block_turn, skip_blank_block, take_byte_if}
use Rattle.syntax.specs.Helper.{expect_byte, skip_digits, fraction, number, as_text, get_number_literal, get_identifier}
use Rattle.syntax.specs.Helper.{skip_unicode_escape_sequence}
use Rattle.laws.specs.Bytes.{clash, pick, run-le, spaces-le, eol-le, starts_with-some}
use Rattle.laws.specs.Bounds.{uses-nil, uses-text, Bounded, used, stopped, too_deep, Bounds, bind, then, less}
use Rattle.laws.specs.Bounds.{pure-bounds, fail-bounds, TurnBounded, goes, ends, TurnBounds, repeat-bounds}

pub name-some : (s : List ℕ) → starts is_letter s ≡ true → 0 < run is_name_part s
unfolding starts run is_name_part
name-some [] h = clash h refl
name-some (b ∷ bs) h = let e : is_name_part b ≡ true = rw h refl in rw (e, run) (omega arith)

module _ {n : ℕ} where
  pub inline-bounds : Bounds n (λ _. 0) skip_blank_inline
  unfolding skip_blank_inline
  inline-bounds = record { on = λ s. used (uses-nil (spaces s) (spaces-le s) (omega arith)) }

  pub eol-bounds : Bounds n (λ _. 0) skip_eol
  unfolding skip_eol
  eol-bounds = record { on = λ s. used (uses-nil (eol s) (eol-le s) (omega arith)) }

  pub blank_turn-bounds : TurnBounds n blank_turn
  unfolding blank_turn
  blank_turn-bounds = record {
    on = λ u s. pick (TurnBounded n 1 0 s) (starts_with 32 s) _ _ (λ q. goes (uses-nil 1 (starts_with-some 32 s q) (omega arith)))
        (λ q. pick (TurnBounded n 1 0 s) (ltb 0 (eol s)) _ _
        (λ l. goes (uses-nil (eol s) (eol-le s) (omega (arith, ltb-true 0 (eol s) l))))
        (λ l. ends (used (uses-nil 0 (omega arith) (omega arith)))));
  }

  pub blank-bounds : Bounds n (λ _. 0) skip_blank
  unfolding skip_blank
  blank-bounds = record { on = (repeat-bounds blank_turn-bounds tt).on }

  pub block_turn-bounds : TurnBounds n block_turn
  unfolding block_turn
  block_turn-bounds = record { on = λ i s. go i s (eol (drop (spaces s) s)) (eol-le (drop (spaces s) s)) }
    where
      go : (i : ℕ) (s : List ℕ) (e : ℕ) → e ≤ length (drop (spaces s) s)
          → TurnBounded {S = ℕ} {A = ℕ} n 1 0 s (elim (ltb 0 e) [ true ↦ again (suc i) [] (spaces s + e) | false ↦ done (ok i [] 0) ])
      go i s e h =
          pick (TurnBounded n 1 0 s) (ltb 0 e) _ _
          (λ l. goes
          (uses-nil (spaces s + e) (omega (arith, length-drop (spaces s) s, spaces-le s))
          (omega (arith, ltb-true 0 e l))))
          (λ l. ends (used (uses-nil 0 (omega arith) (omega arith))))

  pub block-bounds : Bounds n (λ _. 0) skip_blank_block
  unfolding skip_blank_block
  block-bounds = record { on = (repeat-bounds block_turn-bounds 0).on }

  pub take_byte_if-bounds : (b : ℕ) → Bounds n (λ _. 0) (take_byte_if b)
  unfolding take_byte_if
  take_byte_if-bounds b =
      record {
        on =
            λ s. pick (Bounded n (λ _. 0) s) (starts_with b s) _ _
            (λ q. used (uses-nil 1 (starts_with-some b s q) (omega arith)))
            (λ q. used (uses-nil 0 (omega arith) (omega arith)));
      }

  pub expect_byte-bounds : (b : ℕ) → Bounds n (λ _. 8) (expect_byte b)
  unfolding expect_byte
  expect_byte-bounds b =
      record {
        on =
            λ s. pick (Bounded n (λ _. 8) s) (starts_with b s) _ _
            (λ q. used (uses-nil 1 (starts_with-some b s q) (omega arith))) (λ q. (fail-bounds (ExpectedToken b)).on s);
      }

  pub digits-bounds : Bounds n (λ _. 8) skip_digits
  unfolding skip_digits
  digits-bounds = record {
    on =
        λ s. pick (Bounded n (λ _. 8) s) (eqb (run is_digit s) 0) _ _ (λ q. (fail-bounds (ExpectedCharRange Digits)).on s)
        (λ q. used (uses-nil (run is_digit s) (run-le is_digit s) (omega (arith, eqb-false (run is_digit s) 0 q))));
  }

  fraction-bounds : (v : Bool) → Bounds n (λ _. 0) (fraction v)
  unfolding fraction
  fraction-bounds true = less (λ _. omega arith) digits-bounds
  fraction-bounds false = pure-bounds tt

  pub number-bounds : Bounds n (λ _. 8) number
  unfolding number
  number-bounds = then (take_byte_if-bounds 45) (then digits-bounds (bind (take_byte_if-bounds 46) fraction-bounds))

  as_text-bounded : {s : List ℕ} {o : Out (Unit {0})} (kind : ℕ) → Bounded n (λ _. 8) s o → Bounded n (λ _. 6) s (as_text kind o)
  unfolding as_text
  as_text-bounded kind (used {k = k} u) = used (uses-text k kind 0 k u.within (omega (arith, u.room)))
  as_text-bounded kind (stopped k h) = stopped k h
  as_text-bounded kind (too_deep k h g) = too_deep k h g

  pub number_literal-bounds : (kind : ℕ) → Bounds n (λ _. 6) (get_number_literal kind)
  unfolding get_number_literal
  number_literal-bounds kind = record { on = λ s. as_text-bounded kind (number-bounds.on s) }

  pub identifier-bounds : (kind : ℕ) → Bounds n (λ _. 6) (get_identifier kind)
  unfolding get_identifier
  identifier-bounds kind = record {
    on = λ s. pick (Bounded n (λ _. 6) s) (starts is_letter s) _ _
        (λ h. used (uses-text (run is_name_part s) kind 0 (run is_name_part s) (run-le is_name_part s) (omega (arith, name-some s h))))
        (λ h. (fail-bounds (ExpectedCharRange Letters)).on s);
  }

  pub escape-bounds : (len : ℕ) → Bounds n (λ _. 0) (skip_unicode_escape_sequence len)
  unfolding skip_unicode_escape_sequence
  escape-bounds len = record {
    on = λ s. let i = min len (run is_hex s) in
        pick (Bounded n (λ _. 0) s) (eqb i len) _ _
        (λ q. used (uses-nil i (omega (arith, run-le is_hex s)) (omega arith)))
        (λ q. stopped i (omega (arith, run-le is_hex s)));
  }
