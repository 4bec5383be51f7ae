-- String literals at a cut.
use Rattle.std.specs.Prelude.{ℕ, suc, ◌+◌, ◌-◌, ◌<◌, ◌≡◌, refl, true, ◌||◌, List, [], ◌∷◌, ◌++◌, drop, length, eqb}
use Rattle.std.proofs.Common.{not-suc-le-zero, arith, ap, subst, append-nil, length-drop, eqb-true}
use Rattle.std.proofs.lemmas.Bool.{eqb-false}
use Rattle.syntax.specs.Marks.{text_node}
use Rattle.syntax.specs.Reader.{Out, ok, bad, deep, fail, turn_of, after, repeat}
use Rattle.syntax.specs.Helper.{skip_unicode_escape_sequence}
use Rattle.syntax.specs.Expression.{string, escape_turn, string_turn, string_literal, as_string}
use Rattle.laws.specs.Bytes.{Whole, whole-tail, nonempty, Stop, clash, pick, pick₂}
use Rattle.laws.specs.Stable.{loose, Upto, Within, Carries, Reads, from-any, Relabels, relabel, relabels}
use Rattle.laws.specs.Stable.{TurnWithin, TurnCarries, Turns, repeat-stops, repeat-keeps, Inner, strict-then}
use Rattle.laws.specs.Stable.{inner-then}
use Rattle.laws.specs.Stable.Helper.{expect_byte-reads, expect_byte-strict, escape-within, escape-carries}

abbrev Left : Unit {0} → List ℕ → Type 0
Left u x = 0 < length x

abbrev LeftAfter : List ℕ → Unit {0} → ℕ → Type 0
LeftAfter x u k = Left u (drop k x)

turn_of-left : (x : List ℕ) (n : ℕ) (o : Out (Unit {0})) → Within n o → n + 3 ≡ length x
    → TurnWithin (LeftAfter x) (length x) (turn_of {A = Unit {0}} (after [] 2 o))
unfolding turn_of after
turn_of-left x n (ok a ms k) h e = (omega arith, rw length-drop (omega arith))
turn_of-left x n (bad f k) h e = tt
turn_of-left x n (deep k) h e = tt

turn_of-kept : (x : List ℕ) (n : ℕ) (N : ℕ → Type 0) (o o' : Out (Unit {0})) → Within n o → n + 3 ≡ length x → Carries (λ k. N (2 + k)) o o'
    → TurnCarries (LeftAfter x) N (turn_of {A = Unit {0}} (after [] 2 o)) (turn_of (after [] 2 o'))
unfolding turn_of after
turn_of-kept x n N (ok a ms k) o' h e c = λ u. (ap (λ z. turn_of (after [] 2 z)) (c u), rw length-drop (omega arith))
turn_of-kept x n N (bad f k) o' h e c = tt
turn_of-kept x n N (deep k) o' h e c = tt

escape-ends : (c : ℕ) → (eqb c 92 || (eqb c 123 || eqb c 34)) ≡ true → c ≡ 10 → ⊥
escape-ends c q e = clash {v = eqb c 92 || (eqb c 123 || eqb c 34)} q (rw e refl)

escape_left : (b c : ℕ) (cs y : List ℕ) → Whole (c ∷ cs)
    → TurnWithin (LeftAfter (b ∷ c ∷ cs)) (suc (suc (length cs))) (escape_turn ((b ∷ c ∷ cs) ++ y) ((c ∷ cs) ++ y))
unfolding escape_turn fail
escape_left b c cs y w =
    pick (TurnWithin _ _) (eqb c 92 || (eqb c 123 || eqb c 34)) _ _ (λ q. (omega arith, nonempty c cs w (escape-ends c q)))
    (λ q. pick (TurnWithin _ _) (eqb c 117) _ _
    (λ r. unicode 4 cs (whole-tail c cs w) (nonempty c cs w (λ e. omega (arith, eqb-true c 117 r))))
    (λ r. pick (TurnWithin _ _) (eqb c 85) _ _
    (λ t. unicode 6 cs (whole-tail c cs w) (nonempty c cs w (λ e. omega (arith, eqb-true c 85 t)))) (λ t. tt)))
  where
    unicode : (len : ℕ) (ds : List ℕ) → Whole ds → 0 < length ds
        → TurnWithin {A = Unit {0}} (LeftAfter (b ∷ c ∷ ds)) (suc (suc (length ds)))
        (turn_of (after [] 2 (skip_unicode_escape_sequence len (ds ++ y))))
    unicode len [] v h = absurd (not-suc-le-zero h)
    unicode len (d ∷ ds) v h =
        turn_of-left (b ∷ c ∷ d ∷ ds) (length ds) (skip_unicode_escape_sequence len ((d ∷ ds) ++ y))
        (escape-within len d ds y v) (omega arith)

escape-kept : (b c : ℕ) (cs y : List ℕ) → Whole (c ∷ cs) → (N : ℕ → Type 0)
    → TurnCarries (LeftAfter (b ∷ c ∷ cs)) N (escape_turn (b ∷ c ∷ cs) (c ∷ cs)) (escape_turn ((b ∷ c ∷ cs) ++ y) ((c ∷ cs) ++ y))
unfolding escape_turn fail
escape-kept b c cs y w N =
    pick₂ (TurnCarries _ _) (eqb c 92 || (eqb c 123 || eqb c 34)) _ _ _ _ (λ q u. (refl, nonempty c cs w (escape-ends c q)))
    (λ q. pick₂ (TurnCarries _ _) (eqb c 117) _ _ _ _
    (λ r. unicode 4 cs (whole-tail c cs w) (nonempty c cs w (λ e. omega (arith, eqb-true c 117 r))))
    (λ r. pick₂ (TurnCarries _ _) (eqb c 85) _ _ _ _
    (λ t. unicode 6 cs (whole-tail c cs w) (nonempty c cs w (λ e. omega (arith, eqb-true c 85 t)))) (λ t. tt)))
  where
    unicode : (len : ℕ) (ds : List ℕ) → Whole ds → 0 < length ds
        → TurnCarries {A = Unit {0}} (LeftAfter (b ∷ c ∷ ds)) N (turn_of (after [] 2 (skip_unicode_escape_sequence len ds)))
        (turn_of (after [] 2 (skip_unicode_escape_sequence len (ds ++ y))))
    unicode len [] v h = absurd (not-suc-le-zero h)
    unicode len (d ∷ ds) v h =
        turn_of-kept (b ∷ c ∷ d ∷ ds) (length ds) N (skip_unicode_escape_sequence len (d ∷ ds))
        (skip_unicode_escape_sequence len ((d ∷ ds) ++ y))
        (subst (λ z. Within (length ds) (skip_unicode_escape_sequence len z)) (append-nil (d ∷ ds))
        (escape-within len d ds [] v))
        (omega arith) (escape-carries (λ k. N (2 + k)) len d ds y v)

module _ (N : ℕ → Type 0) where
  back-left : (b : ℕ) (bs y : List ℕ) → Whole bs → 0 < length bs
      → TurnWithin (LeftAfter (b ∷ bs)) (suc (length bs)) (escape_turn ((b ∷ bs) ++ y) (bs ++ y))
  back-left b [] y w h = absurd (not-suc-le-zero h)
  back-left b (c ∷ cs) y w h = escape_left b c cs y w

  back-kept : (b : ℕ) (bs y : List ℕ) → Whole bs → 0 < length bs
      → TurnCarries (LeftAfter (b ∷ bs)) N (escape_turn (b ∷ bs) bs) (escape_turn ((b ∷ bs) ++ y) (bs ++ y))
  back-kept b [] y w h = absurd (not-suc-le-zero h)
  back-kept b (c ∷ cs) y w h = escape-kept b c cs y w N

string-stops : (u : Unit {0}) (x y : List ℕ) → Whole x → Left u x → Stop y → TurnWithin (LeftAfter x) (length x) (string_turn u (x ++ y))
unfolding string_turn fail
string-stops u [] y w h s = absurd (not-suc-le-zero h)
string-stops u (b ∷ bs) y w h s =
    pick (TurnWithin _ _) (eqb b 92) _ _
    (λ q. back-left (λ k. Unit {0}) b bs y (whole-tail b bs w)
    (nonempty b bs w (λ e. omega (arith, eqb-true b 92 q))))
    (λ q. pick (TurnWithin _ _) (eqb b 34) _ _ (λ r. omega arith)
    (λ r. pick (TurnWithin _ _) (eqb b 10) _ _ (λ t. tt) (λ t. (omega arith, nonempty b bs w (eqb-false b 10 t)))))

string-keeps : (u : Unit {0}) (x y : List ℕ) → Whole x → Left u x
    → TurnCarries (LeftAfter x) (Upto loose y (length x)) (string_turn u x) (string_turn u (x ++ y))
unfolding string_turn fail
string-keeps u [] y w h = absurd (not-suc-le-zero h)
string-keeps u (b ∷ bs) y w h =
    pick₂ (TurnCarries _ _) (eqb b 92) _ _ _ _
    (λ q. back-kept (Upto loose y (suc (length bs))) b bs y (whole-tail b bs w)
    (nonempty b bs w (λ e. omega (arith, eqb-true b 92 q))))
    (λ q. pick₂ (TurnCarries _ _) (eqb b 34) _ _ _ _ (λ r t. refl)
    (λ r. pick₂ (TurnCarries _ _) (eqb b 10) _ _ _ _ (λ t. tt) (λ t v. (refl, nonempty b bs w (eqb-false b 10 t)))))

string-turns : Turns loose Left string_turn
string-turns = record { stops = string-stops; keeps = string-keeps }

body-inner : Inner loose (repeat string_turn tt)
body-inner = record {
  stops = λ b bs y w s. repeat-stops string_turn string-turns tt (b ∷ bs) y w (omega arith) s;
  keeps = λ b bs y w. repeat-keeps string_turn string-turns tt (b ∷ bs) y w (omega arith);
}

literal-reads : Reads loose string_literal
unfolding string_literal
literal-reads =
    strict-then (from-any loose (expect_byte-reads 34 (λ e. omega arith)))
    (expect_byte-strict 34 (λ e. omega arith) (λ e. omega arith))
    (inner-then body-inner (from-any loose (expect_byte-reads 34 (λ e. omega arith))))

as_string-relabels : Relabels as_string
unfolding as_string
as_string-relabels = relabels as_string (λ a ms k. string) (λ a ms k. text_node 19 1 (k - 1)) (λ a ms k. refl) (λ e k. refl) (λ k. refl)

pub string-reads : Reads loose (λ s. as_string (string_literal s))
string-reads = relabel {f = as_string} as_string-relabels literal-reads
