-- Reading that fails where an entry may start stops past the first byte, so that junk uses a byte.
use Prim.Native.Nat.{ℕ, zero, suc, ◌<◌}
use Rattle.std.proofs.Common.{not-suc-le-zero, subst, ne_eqb}
use native.Mathlib.Omega.{arith}
use Rattle.std.specs.Prelude.{◌≡◌, refl, true, false, ◌||◌, not, List, [], ◌∷◌, drop, eqb, ltb}
use Rattle.syntax.specs.Bytes.{starts_with, starts, is_letter, eol}
use Rattle.syntax.specs.Marks.{Mark}
use Rattle.syntax.specs.declared.errors.ParserError.{ParserError}
use Rattle.syntax.specs.Reader.{Out, ok, bad, deep, Reader, fail, next, ◌>>=◌, ◌>>◌, after, Turn, again, done, repeat}
use Rattle.syntax.specs.Helper.{expect_byte, get_identifier}
use Rattle.syntax.specs.Comment.{level_of, line_read, line_turn, comment_turn, get_comment}
use Rattle.syntax.specs.Pattern.{Inside}
use Rattle.syntax.specs.Core.{Fields, fields, term_fields, as_message, as_term, as_comment, get_entry, to_next_entry, line_starts_at, junk_end}
use Rattle.laws.specs.Bytes.{is_fresh, by_case, clash, pick}
use Rattle.laws.specs.Loop.{turn-moves, repeat-again, repeat-done}
use Rattle.laws.specs.Loop.Turns.{comment_turn-moves}
use Rattle.laws.specs.Bounds.Helper.{name-some}
use Rattle.laws.specs.Bounds.Comment.{level_of-some}

-- an answer, or an error, past the first byte
abbrev Moved : {A : Type 0} → Out A → Type 0
Moved (ok a ms k) = 0 < k
Moved (bad f k) = 0 < k
Moved (deep k) = Unit {0}

moved-after : {A : Type 0} (ms : List Mark) (k : ℕ) (o : Out A) → 0 < k → Moved (after ms k o)
unfolding after
moved-after ms k (ok a ns j) h = omega arith
moved-after ms k (bad f j) h = omega arith
moved-after ms k (deep j) h = tt

moved-next : {A B : Type 0} (s : List ℕ) (q : A → Reader B) (o : Out A) → Moved o → Moved (next s q o)
unfolding next
moved-next s q (ok a ms k) h = moved-after ms k (q a (drop k s)) h
moved-next s q (bad f k) h = h
moved-next s q (deep k) h = tt

identifier-moved : (b : ℕ) (bs : List ℕ) → is_letter b ≡ true → Moved (get_identifier 9 (b ∷ bs))
unfolding get_identifier starts
identifier-moved b bs q = rw (q, get_identifier) (name-some (b ∷ bs) q)

message-moved : (o : Out Fields) → Moved o → Moved (as_message o)
unfolding as_message
message-moved (ok f ms k) h = by_case (f.value || not (eqb f.attributes 0)) (λ q. rw (q, as_message) h) (λ q. rw (q, as_message) h)
message-moved (bad f k) h = h
message-moved (deep k) h = tt

term_moved : (o : Out Fields) → Moved o → Moved (as_term o)
unfolding as_term
term_moved (ok f ms k) h = by_case f.value (λ q. rw (q, as_term) h) (λ q. rw (q, as_term) h)
term_moved (bad f k) h = h
term_moved (deep k) h = tt

comment-moved : (o : Out ℕ) → Moved o → Moved (as_comment o)
unfolding as_comment
comment-moved (ok l ms k) h = h
comment-moved (bad f k) h = h
comment-moved (deep k) h = tt

abbrev TurnMoved : Turn ℕ ℕ → Type 0
TurnMoved (again st ms k) = Unit {0}
TurnMoved (done o) = Moved o

line-moved : (l : ℕ) (r : List ℕ) → 0 < l → TurnMoved (line_turn 0 l r)
unfolding line_turn line_read after fail
line-moved l [] h = h
line-moved l (b ∷ bs) h =
    pick TurnMoved (ltb 0 (eol (b ∷ bs))) _ _ (λ q. tt)
    (λ q. pick TurnMoved (eqb b 32) _ _ (λ q. tt) (λ q. omega arith))

get_comment-moved : (s : List ℕ) → starts_with 35 s ≡ true → Moved (get_comment s)
unfolding get_comment comment_turn
get_comment-moved s h = go (comment_turn 0 s) refl (rw (starts, comment_turn) (line-moved (level_of s) (drop (level_of s) s) (level_of-some s h)))
  where
    starts : eqb (level_of s) 0 ≡ false
    starts = ne_eqb (level_of s) 0 (λ e. omega (arith, level_of-some s h))

    go : (t : Turn ℕ ℕ) → comment_turn 0 s ≡ t → TurnMoved t → Moved (repeat comment_turn 0 s)
    go (again st ms k) e m = let l = turn-moves comment_turn-moves 0 s e in
        rw (repeat-again comment_turn-moves 0 s e) (moved-after ms k (repeat comment_turn st (drop k s)) l.0)
    go (done o) e m = rw (repeat-done comment_turn 0 s e) m

module _ (sub : Inside) where
  fresh-moved : (b : ℕ) (bs : List ℕ) → is_fresh b ≡ true → Moved (get_entry sub (b ∷ bs))
  unfolding get_entry starts_with fields term_fields expect_byte ◌>>=◌ ◌>>◌
  fresh-moved b bs f = by_case (eqb b 35) (λ q. rw (q, get_entry) (comment-moved (get_comment (b ∷ bs)) (get_comment-moved (b ∷ bs) q)))
      (λ q. by_case (eqb b 45)
      (λ r. rw (q, get_entry)
      (rw r
      (term_moved (term_fields sub (b ∷ bs))
      (moved-next (b ∷ bs) (λ _. fields sub) (expect_byte 45 (b ∷ bs)) (rw (r, expect_byte) (omega arith))))))
      (λ r. by_case (is_letter b)
      (λ t. rw (q, get_entry)
      (rw r
      (message-moved (fields sub (b ∷ bs))
      (moved-next (b ∷ bs) _ (get_identifier 9 (b ∷ bs)) (identifier-moved b bs t)))))
      (λ t. clash f (rw t (rw r (rw q refl))))))

  -- junk uses a byte
  pub junk-moves : (b : ℕ) (bs : List ℕ) {f : ParserError} {k : ℕ} → get_entry sub (b ∷ bs) ≡ bad f k → 0 < junk_end k (b ∷ bs)
  unfolding junk_end to_next_entry line_starts_at
  junk-moves b bs {f} {k} h = go k h
    where
      go : (k : ℕ) → get_entry sub (b ∷ bs) ≡ bad f k → 0 < junk_end k (b ∷ bs)
      go zero h =
          by_case (is_fresh b) (λ q. absurd (not-suc-le-zero (subst Moved h (fresh-moved b bs q))))
          (λ q. rw (q, to_next_entry) (omega arith))
      go (suc k) h = omega arith
