-- String literals: the places of their texts.
use Rattle.std.specs.Prelude.{ℕ, suc, ◌+◌, ◌-◌, ◌≤◌, ◌≡◌, true, ◌||◌, List, [], ◌∷◌, drop, length, eqb}
use Rattle.std.proofs.Common.{arith, subst, drop-drop}
use Rattle.std.proofs.Math.Path.{refl}
use Rattle.std.proofs.Math.Option.{some}
use Rattle.syntax.specs.Kind as Kind
use Rattle.syntax.specs.Bytes.{starts_with}
use Rattle.syntax.specs.Marks.{Mark}
use Rattle.syntax.specs.Reader.{Out, ok, bad, deep, after, next, ◌>>◌, fail, Turn, again, turn_of, repeat}
use Rattle.syntax.specs.Helper.{expect_byte, skip_unicode_escape_sequence}
use Rattle.syntax.specs.Expression.{escape_turn, string_turn, string_literal, as_string}
use Rattle.syntax.specs.Shape.{step}
use Rattle.laws.specs.Bytes.{pick}
use Rattle.laws.specs.Answers.{Holds, holds_after, TurnHolds, loop-holds}
use Rattle.laws.specs.Shape.Run.{run-text}
use Rattle.laws.specs.Bounds.{repeat-bounds, ok-uses}
use Rattle.laws.specs.Bounds.Expression.{string_turn-bounds}
use Rattle.laws.specs.Formed.Edge.{clear, edge, edge-add, edge-clear, ascii-of, edge-byte}
use Rattle.laws.specs.Formed.Reader.{at, by, Made, made, stopped, too_deep}

-- a turn may end inside a character; the loop ends at a quote or at the end
abbrev Clears : Unit {0} → List ℕ → Unit {0} → List Mark → ℕ → Type 0
Clears u s v ms k = clear (drop k s) ≡ true

abbrev Turned : List ℕ → Turn (Unit {0}) (Unit {0}) → Type 0
Turned s w = TurnHolds string_turn Clears tt s w

goes_on : (s : List ℕ) (k : ℕ) → Turned s (again tt [] k)
goes_on s k = λ a ns j h. subst (λ r. clear r ≡ true) (drop-drop j k s) h

turn_of-on : (s : List ℕ) (o : Out (Unit {0})) → Turned s (turn_of o)
unfolding turn_of
turn_of-on s (ok u ms k) = λ a ns j h. subst (λ r. clear r ≡ true) (drop-drop j k s) h
turn_of-on s (bad f k) = tt
turn_of-on s (deep k) = tt

escape-clears : (s r : List ℕ) → Turned s (escape_turn s r)
unfolding escape_turn fail
escape-clears s [] = tt
escape-clears s (b ∷ bs) = pick (Turned s) (eqb b 92 || (eqb b 123 || eqb b 34)) _ _ (λ q. goes_on s 2)
    (λ q. pick (Turned s) (eqb b 117) _ _ (λ q. turn_of-on s (after [] 2 (skip_unicode_escape_sequence 4 bs)))
    (λ q. pick (Turned s) (eqb b 85) _ _ (λ q. turn_of-on s (after [] 2 (skip_unicode_escape_sequence 6 bs)))
    (λ q. tt)))

turn-clears : (u : Unit {0}) (s : List ℕ) → TurnHolds string_turn Clears u s (string_turn u s)
unfolding string_turn clear fail
turn-clears u [] = refl
turn-clears u (b ∷ bs) = pick (Turned (b ∷ bs)) (eqb b 92) _ _ (λ q. escape-clears (b ∷ bs) bs)
    (λ q. pick (Turned (b ∷ bs)) (eqb b 34) _ _ (λ q. ascii-of 34 refl b q)
    (λ q. pick (Turned (b ∷ bs)) (eqb b 10) _ _ (λ q. tt) (λ q. goes_on (b ∷ bs) 1)))

loop-edge : (s : List ℕ) → Holds (λ u ms k. edge s k ≡ true) (repeat string_turn tt s)
unfolding repeat
loop-edge s = go (repeat string_turn tt s) refl (loop-holds string_turn Clears turn-clears (suc (length s)) tt s)
  where
    go : (o : Out (Unit {0})) → repeat string_turn tt s ≡ o → Holds (Clears tt s) o → Holds (λ u ms k. edge s k ≡ true) o
    go (ok u ms k) e h = edge-clear s k (ok-uses (repeat-bounds (string_turn-bounds {n = 0}) tt) s e).within h
    go (bad f k) e h = tt
    go (deep k) e h = tt

-- what ends with a quote, and a literal
abbrev Closed : List ℕ → Unit {0} → List Mark → ℕ → Type 0
Closed s u ms k = (edge s (k - 1) ≡ true) × (edge s k ≡ true) × (1 ≤ k)

abbrev Quoted : List ℕ → Unit {0} → List Mark → ℕ → Type 0
Quoted s u ms k = (edge s 1 ≡ true) × (edge s (k - 1) ≡ true) × (edge s k ≡ true) × (1 ≤ k - 1)

closed : (s : List ℕ) (o : Out (Unit {0})) → Holds (λ u ms k. edge s k ≡ true) o → Holds (Closed s) (next s (λ _. expect_byte 34) o)
unfolding next after expect_byte fail
closed s (ok u ms k) e = pick (λ o. Holds (Closed s) (after ms k o)) (starts_with 34 (drop k s)) _ _
    (λ q. let z : k + 1 - 1 ≡ k = omega arith in (rw z e, edge-add s k 1 e (edge-byte 34 refl (drop k s) q), omega arith)) (λ q. tt)
closed s (bad f k) e = tt
closed s (deep k) e = tt

string-quoted : (s : List ℕ) → Holds (Quoted s) (string_literal s)
unfolding string_literal ◌>>◌ next expect_byte fail
string-quoted s = pick {B = Out (Unit {0})} (λ o. Holds (Quoted s) (next s (λ _. rest) o)) (starts_with 34 s) _ _
    (λ q. holds_after (Closed r) (Quoted s) [] 1 (λ a ns j h. quoted j h (edge-byte 34 refl s q)) (rest r)
    (closed r (repeat string_turn tt r) (loop-edge r)))
    (λ q. tt)
  where
    r : List ℕ
    r = drop 1 s

    rest : List ℕ → Out (Unit {0})
    rest = repeat string_turn tt >> expect_byte 34

    quoted : (j : ℕ) → Closed r tt [] j → edge s 1 ≡ true → Quoted s tt [] (1 + j)
    quoted j h e = let z : 1 + (j - 1) ≡ 1 + j - 1 = omega arith in
        (e, subst (λ i. edge s i ≡ true) z (edge-add s 1 (j - 1) e h.0), edge-add s 1 j e h.1, omega arith)

pub string-made : {n k q r : ℕ} (s : List ℕ) → step k q Kind.string ≡ some r → Made n k (at q) (λ _. at r) s (as_string (string_literal s))
string-made {n} {k} {q} {r} s z = go (string_literal s) (string-quoted s)
  where
    go : (o : Out (Unit {0})) → Holds (Quoted s) o → Made n k (at q) (λ _. at r) s (as_string o)
    go (ok u ms j) (f, g, e, l) = unfold as_string Kind.is_text in (made e (by (run-text (edge s) 19 1 (j - 1) refl z f g l)))
    go (bad e j) h = unfold as_string in stopped
    go (deep j) h = unfold as_string in too_deep
