-- What stands where a variant may start.
use Rattle.std.specs.Prelude.{◌≡◌, ℕ, ◌+◌, ◌-◌, Bool, true, false, ◌&&◌, ◌||◌, List, [], drop}
use mathlib.Core.Path.{refl, sym, ap, ap₂, ◌∙◌}
use native.Mathlib.Nat.{add-zero, zero-add}
use native.Mathlib.Omega.{arith}
use lib.Seq.{drop-drop}
use Rattle.syntax.specs.Byte as Byte
use Rattle.syntax.specs.Bytes.{starts_with}
use Rattle.syntax.specs.declared.errors.ErrorKind.{ErrorKind}
use Rattle.syntax.specs.declared.errors.ErrorKind.TheVariants.{MultipleDefaultVariants, MissingDefaultVariant}
use Rattle.syntax.specs.declared.errors.ParserError.{ParserError}
use Rattle.syntax.specs.Errors.{up_fault, fault_at, up_kind}
use Rattle.syntax.specs.Marks.{move_up}
use Rattle.syntax.specs.Reader.{Out, ok, after, pure, fail, Turn, again, done, turn_of}
use Rattle.syntax.specs.Helper.{take_byte_if}
use Rattle.syntax.specs.Pattern.{Inside}
use Rattle.syntax.specs.Expression.{variant_turn, after_star, turn_after, variant_with, end_variants}
use Rattle.laws.specs.Moving.{move_up-zero, after_none}
use Rattle.entry.specs.Place.{Went}
use Rattle.entry.specs.Next.{Stops}
use Rattle.entry.proofs.Places.{take-yes, take_no}
use Rattle.entry.proofs.Dids.{fault-here, fault-up}
use Rattle.entry.proofs.Entries.{taken}

turn-zero : {S A : Type 0} (t : Turn S A) → turn_after 0 t ≡ t
unfolding turn_after
turn-zero (again st ms k) = ap₂ (again st) (move_up-zero ms) (zero-add k)
turn-zero (done o) = ap done (after_none o)

star-yes : (sub : Inside) (has : Bool) (y : List ℕ) → starts_with Byte.star y ≡ true
    → variant_turn sub has y ≡ turn_after 1 (after_star sub true has (drop 1 y))
unfolding variant_turn
star-yes sub has y h = rw (h, variant_turn)

star-no : (sub : Inside) (has : Bool) (y : List ℕ) → starts_with Byte.star y ≡ false → variant_turn sub has y ≡ after_star sub false has y
unfolding variant_turn
star-no sub has y h = rw (h, variant_turn)

after-double : (sub : Inside) (d has : Bool) (y : List ℕ) → d ≡ true → has ≡ true
    → after_star sub d has y ≡ done (fail MultipleDefaultVariants y)
unfolding after_star
after-double sub d has y a b = rw (a, b, after_star)

after-some : (sub : Inside) (d has : Bool) (y : List ℕ) → (d && has) ≡ false → starts_with Byte.open_bracket y ≡ true
    → after_star sub d has y ≡ turn_of (variant_with sub d has y)
unfolding after_star
after-some sub d has y a b = rw (a, b, after_star)

after-end : (sub : Inside) (d has : Bool) (y : List ℕ) → (d && has) ≡ false → starts_with Byte.open_bracket y ≡ false
    → after_star sub d has y ≡ done (end_variants (d || has) y)
unfolding after_star
after-end sub d has y a b = rw (a, b, after_star)

used : {x y : Bool} {k j : ℕ} (o : Out Bool) → o ≡ ok x [] k → o ≡ ok y [] j → k ≡ j
used o p q = cc

module _ {s : List ℕ} {at e : ℕ} {d : Bool} (sub : Inside) (has : Bool) (w : Went s at (take_byte_if Byte.star (drop at s)) d e) where
  opened : variant_turn sub has (drop at s) ≡ turn_after (e - at) (after_star sub d has (drop e s))
  opened = go d refl
    where
      go : (v : Bool) → d ≡ v → variant_turn sub has (drop at s) ≡ turn_after (e - at) (after_star sub d has (drop e s))
      go true q =
          let h : starts_with Byte.star (drop at s) ≡ true = taken Byte.star (drop at s) w.answers ∙ q in
          let k : e - at ≡ 1 = used _ w.answers (take-yes Byte.star (drop at s) h) in
          let i : at + 1 ≡ e = omega (arith, w.onward, k) in
          let y : drop 1 (drop at s) ≡ drop e s = drop-drop 1 at s ∙ ap (λ (n : ℕ). drop n s) i in
          let z : variant_turn sub has (drop at s) ≡ turn_after 1 (after_star sub true has (drop 1 (drop at s))) =
          star-yes sub has (drop at s) h in
          z ∙ (rw (y, k, q))
      go false q =
          let h : starts_with Byte.star (drop at s) ≡ false = taken Byte.star (drop at s) w.answers ∙ q in
          let k : e - at ≡ 0 = used _ w.answers (take_no Byte.star (drop at s) h) in
          let i : e ≡ at = omega (arith, w.onward, k) in
          let z : variant_turn sub has (drop at s) ≡ after_star sub false has (drop at s) = star-no sub has (drop at s) h in
          let y : turn_after (e - at) (after_star sub d has (drop e s)) ≡ after_star sub false has (drop at s) =
          (rw (k, i, q) (turn-zero (after_star sub false has (drop at s)))) in
          z ∙ sym y

  stops : (kind : ErrorKind) {f : ParserError} → ((k : ℕ) → up_kind k kind ≡ kind)
      → after_star sub d has (drop e s) ≡ done (fail kind (drop e s)) → f ≡ fault_at kind e
      → Stops at f e (variant_turn sub has (drop at s))
  unfolding turn_after after fail
  stops kind {f} u h g =
      let j : at + (e - at) ≡ e = omega (arith, w.onward) in
      record {
        fault = up_fault (e - at) (fault_at kind 0);
        j = e - at + 0;
        is = opened ∙ (rw h);
        moved = g ∙ sym (fault-up at (e - at) (fault_at kind 0) ∙ (rw j (fault-here kind e (u e))));
        place = omega (arith, w.onward);
      }

  pub next-double : {f : ParserError} → d ≡ true → has ≡ true → f ≡ fault_at MultipleDefaultVariants e
      → Stops at f e (variant_turn sub has (drop at s))
  next-double a b g = stops MultipleDefaultVariants (λ k. refl) (after-double sub d has (drop e s) a b) g

  pub next-some : (d && has) ≡ false → starts_with Byte.open_bracket (drop e s) ≡ true
      → variant_turn sub has (drop at s) ≡ turn_after (e - at) (turn_of (variant_with sub d has (drop e s)))
  next-some a b = opened ∙ ap (turn_after (e - at)) (after-some sub d has (drop e s) a b)

  pub next-end : (d && has) ≡ false → starts_with Byte.open_bracket (drop e s) ≡ false → (d || has) ≡ true
      → variant_turn sub has (drop at s) ≡ done (ok tt [] (e - at))
  unfolding turn_after after pure move_up end_variants
  next-end a b c = opened ∙ ap (turn_after (e - at)) (after-end sub d has (drop e s) a b) ∙ (rw (c, add-zero))

  pub next-none : {f : ParserError} → (d && has) ≡ false → starts_with Byte.open_bracket (drop e s) ≡ false
      → (d || has) ≡ false → f ≡ fault_at MissingDefaultVariant e → Stops at f e (variant_turn sub has (drop at s))
  unfolding end_variants
  next-none a b c g = stops MissingDefaultVariant (λ k. refl) (after-end sub d has (drop e s) a b ∙ (rw c)) g

pub and_second : (d has : Bool) → d ≡ true → has ≡ false → (d && has) ≡ false
and_second d has a b = rw (a, b)

pub and_first : (d has : Bool) → d ≡ false → (d && has) ≡ false
and_first d has a = rw a

pub or-first : (d has : Bool) → d ≡ true → (d || has) ≡ true
or-first d has a = rw a

pub or-second : (d has : Bool) → d ≡ false → has ≡ true → (d || has) ≡ true
or-second d has a b = rw (a, b)

pub or-none : (d has : Bool) → d ≡ false → has ≡ false → (d || has) ≡ false
or-none d has a b = rw (a, b)
