-- Answers at places of the source.
use Rattle.std.specs.Prelude.{◌≡◌, ℕ, suc, ◌+◌, ◌≤◌, true, false, List, [], ◌∷◌, length, drop}
use mathlib.Core.Path.{refl, sym, ap, ap₂, ◌∙◌}
use native.Mathlib.Nat.{add-zero, add_assoc}
use native.Mathlib.Omega.{arith}
use lib.Seq.{drop-drop}
use borrow.Author.Tests.{eq-eqb, ne_eqb}
use Rattle.syntax.specs.declared.errors.ErrorKind.{ErrorKind}
use Rattle.syntax.specs.declared.errors.ParserError.{ParserError}
use Rattle.syntax.specs.declared.errors.CharRange.TheVariants.{Letters, Digits}
use Rattle.syntax.specs.declared.errors.ErrorKind.TheVariants.{ExpectedToken, ExpectedCharRange}
use Rattle.syntax.specs.Errors.{up_kind, up_fault, fault_at}
use Rattle.syntax.specs.Marks.{Mark, move_up, text_node}
use Rattle.syntax.specs.Bytes.{starts_with, starts, run, is_digit, is_letter, is_name_part}
use Rattle.syntax.specs.Reader.{Out, ok, bad, deep, Reader, after, next, fail}
use Rattle.syntax.specs.Helper.{take_byte_if, expect_byte, skip_digits, get_identifier}
use Rattle.laws.specs.Moving.{up_fault-twice}
use Rattle.std.proofs.lemmas.Bool.{false≢true}
use Rattle.entry.specs.Place.{Place, At, Bad, Passed, Went, Found, Bare, placed}

pub passed : {s : List ℕ} {at k r : ℕ} (j : ℕ) → k ≡ j → r ≡ at + j → r ≤ length s → Passed s at k r
passed j h e l = record { end = omega arith; within = l }

pub went-ok : {A : Type 0} {s : List ℕ} {at r k : ℕ} {o : Out A} {a : A} → o ≡ ok a [] k → r ≡ at + k → r ≤ length s → Went s at o a r
went-ok {k = k} {a = a} h e l = record { answers = h ∙ ap (ok a []) (omega arith); onward = omega arith; within = l }

pub found_ok : {A : Type 0} {s : List ℕ} {at r k : ℕ} {o : Out A} {a : A} → o ≡ ok a [] k → r ≡ at + k → r ≤ length s
    → Found s at o (At r)
found_ok h e l = record { answers = rw h (ap At e); bare = rw h refl; within = l }

pub found-fault : {A : Type 0} {s : List ℕ} {at j k : ℕ} {o : Out A} {e f : ParserError} → o ≡ bad f k → j ≡ at + k
    → j ≤ length s → e ≡ up_fault at f → Found s at o (Bad e j)
found-fault q p l h = record { answers = rw q (ap₂ Bad h p); bare = rw q tt; within = l }

-- an error at the place itself, of a kind without a span
pub found-fail : {A : Type 0} {s : List ℕ} {at : ℕ} {o : Out A} {e : ParserError} (x : List ℕ) (kind : ErrorKind)
    → o ≡ fail kind x → at ≤ length s → up_kind at kind ≡ kind
    → e ≡ fault_at kind at → Found s at o (Bad e at)
unfolding fail
found-fail {at = at} x kind q l u h =
    record { answers = rw (q, u, add-zero) (ap (λ (f : ParserError). Bad f at) h); bare = rw q tt; within = l }

-- what the definitions answer, by the first byte
pub take-yes : (b : ℕ) (x : List ℕ) → starts_with b x ≡ true → take_byte_if b x ≡ ok (starts_with b x) [] 1
unfolding take_byte_if
take-yes b x h = rw (h, take_byte_if)

pub take_no : (b : ℕ) (x : List ℕ) → starts_with b x ≡ false → take_byte_if b x ≡ ok (starts_with b x) [] 0
unfolding take_byte_if
take_no b x h = rw (h, take_byte_if)

pub expect-yes : (b : ℕ) (x : List ℕ) → starts_with b x ≡ true → expect_byte b x ≡ ok tt [] 1
unfolding expect_byte
expect-yes b x h = rw (h, expect_byte)

pub expect-no : (b : ℕ) (x : List ℕ) → starts_with b x ≡ false → expect_byte b x ≡ fail (ExpectedToken b) x
unfolding expect_byte
expect-no b x h = rw (h, expect_byte)

pub digits-some : (x : List ℕ) → (run is_digit x ≡ 0 → ⊥) → skip_digits x ≡ ok tt [] (run is_digit x)
unfolding skip_digits
digits-some x h = rw (ne_eqb (run is_digit x) 0 h, skip_digits)

pub digits-none : (x : List ℕ) → run is_digit x ≡ 0 → skip_digits x ≡ fail (ExpectedCharRange Digits) x
unfolding skip_digits
digits-none x h = rw (eq-eqb (run is_digit x) 0 h, skip_digits)

pub identifier-some : (kind : ℕ) (x : List ℕ) → starts is_letter x ≡ true
    → get_identifier kind x ≡ ok (run is_name_part x) (text_node kind 0 (run is_name_part x)) (run is_name_part x)
unfolding get_identifier
identifier-some kind x h = rw (h, get_identifier)

-- an identifier's first letter, and what follows it
pub identifier-first : (x : List ℕ) → starts is_letter x ≡ true → run is_name_part x ≡ suc (run is_name_part (drop 1 x))
unfolding starts run is_name_part
identifier-first [] h = absurd (false≢true h)
identifier-first (b ∷ x) h = rw (h, is_name_part, run)

pub identifier-none : (kind : ℕ) (x : List ℕ) → starts is_letter x ≡ false → get_identifier kind x ≡ fail (ExpectedCharRange Letters) x
unfolding get_identifier
identifier-none kind x h = rw (h, get_identifier)

-- ---- one reader after the other

placed-after : {A : Type 0} (at k : ℕ) (ms : List Mark) (o : Out A) → placed at (after ms k o) ≡ placed (at + k) o
unfolding after
placed-after at k ms (ok a ns j) = rw add_assoc
placed-after at k ms (bad f j) = ap₂ Bad (up_fault-twice at k f) (sym (add_assoc at k j))
placed-after at k ms (deep j) = rw add_assoc

bare-after : {A : Type 0} (k : ℕ) (o : Out A) → Bare o → Bare (after [] k o)
unfolding after move_up
bare-after k (ok a ns j) h = rw h
bare-after k (bad f j) h = tt
bare-after k (deep j) h = h

pub found_after : {A : Type 0} {s : List ℕ} {at i : ℕ} {r : Place} (k : ℕ) (o : Out A) → i ≡ at + k → Found s i o r
    → Found s at (after [] k o) r
found_after {at = at} {i} k o e f =
    record {
      answers = f.answers ∙ rw e (sym (placed-after at k [] o));
      bare = bare-after k o f.bare;
      within = f.within;
    }

pub found-next : {A B : Type 0} {s : List ℕ} {at i k : ℕ} {r : Place} {o : Out A} {a : A} (q : A → Reader B) → o ≡ ok a [] k → i ≡ at + k → Found s i (q a (drop i s)) r
    → Found s at (next (drop at s) q o) r
unfolding next
found-next {s = s} {at} {i} {k} {a = a} q h e f = rw (h, drop-drop) (found_after k (q a (drop (at + k) s)) refl (rw e at f))

pub went-next : {A B : Type 0} {s : List ℕ} {at i : ℕ} {r : Place} {o : Out A} {a : A} (q : A → Reader B)
    → Went s at o a i → Found s i (q a (drop i s)) r → Found s at (next (drop at s) q o) r
went-next q w f = found-next q w.answers (omega (arith, w.onward)) f

-- the first one failed
pub found-stop : {A B : Type 0} {s : List ℕ} {at j : ℕ} {r : Place} {e : ParserError} {o : Out A} (x : List ℕ)
    (q : A → Reader B)
    → Found s at o r → r ≡ Bad e j → Found s at (next x q o) r
unfolding next
found-stop {A} {s = s} {at} {r = r} {o = o} x q f h =
    record {
      answers = (go o f.answers f.bare).0;
      bare = (go o f.answers f.bare).1;
      within = f.within;
    }
  where
    go : (o : Out A) → r ≡ placed at o → Bare o → (r ≡ placed at (next x q o)) × Bare (next x q o)
    go (ok a ms k) p u = let z : ◌≡◌ {A = ℕ} 0 1 = cc in absurd (omega arith)
    go (bad b i) p u = (p, tt)
    go (deep i) p u = absurd u

-- the definition's answer, where the code's is a place
pub record Read {A : Type 0} (at i : ℕ) (o : Out A) : Type 0 where
  pub a : A
  pub k : ℕ
  pub is : o ≡ ok a [] k
  pub place : i ≡ at + k

pub found_at : {A : Type 0} {s : List ℕ} {at i : ℕ} {r : Place} {o : Out A} → Found s at o r → r ≡ At i → Read at i o
found_at {A} {at = at} {i} {r} {o} f h = go o f.answers f.bare
  where
    go : (o : Out A) → r ≡ placed at o → Bare o → Read at i o
    go (ok a ms k) p u = record { a = a; k = k; is = ap (λ l. ok a l k) u; place = cc }
    go (bad b j) p u = let z : ◌≡◌ {A = ℕ} 0 1 = cc in absurd (omega arith)
    go (deep j) p u = absurd u

-- the definition's error, where the code's answer is one
pub record Failed {A : Type 0} (at : ℕ) (e : ParserError) (j : ℕ) (o : Out A) : Type 0 where
  pub f : ParserError
  pub k : ℕ
  pub is : o ≡ bad f k
  pub error : e ≡ up_fault at f
  pub place : j ≡ at + k

pub found-bad : {A : Type 0} {s : List ℕ} {at j : ℕ} {r : Place} {e : ParserError} {o : Out A} → Found s at o r
    → r ≡ Bad e j → Failed at e j o
found-bad {A} {at = at} {j} {r} {e} {o} f h = go o f.answers f.bare
  where
    go : (o : Out A) → r ≡ placed at o → Bare o → Failed at e j o
    go (ok a ms k) p u = let z : ◌≡◌ {A = ℕ} 0 1 = cc in absurd (omega arith)
    go (bad b i) p u = record { f = b; k = i; is = refl; error = cc; place = cc }
    go (deep i) p u = absurd u
