-- Laws of the content models and of runs: a rule of every move or end from one computed test; runs in a row, with more
-- openings left, moved up; the kinds of their marks.
use Rattle.std.specs.Prelude.{ℕ, ◌+◌, ◌-◌, ◌≤◌, ◌≡◌, refl, Bool, true, false, ◌&&◌, ◌||◌, eqb, leb}
use Rattle.std.proofs.Common.{arith, eqb-true, leb-true}
use Rattle.std.proofs.Math.Bool.{and-eq-true_iff}
use mathlib.Core.List.{List, [], ◌∷◌, ◌++◌, append_assoc, append-nil, map-append}
use Rattle.std.proofs.Math.Option.{some, none}
use Rattle.syntax.specs.Kind as Kind
use Rattle.syntax.specs.Marks.{Mark, plain, placed, node, text_node, move_up}
use Rattle.laws.specs.Bytes.{by_case, clash}
use Rattle.syntax.specs.Shape.{start, Move, move, Model, model, models, among, step_in, step_by, final_by, step, final}
use Rattle.syntax.specs.Shape.{opens, Run, stay, text, nest, Content, WellFormed}

-- an answer that is none and some; the other part of an `or`
pub lost {ℓ} : {G : Type ℓ} {A : Type 0} {a : A} → none ≡ some a → G
lost e = let z : ◌≡◌ {A = ℕ} 0 1 = cc in absurd (omega arith)

pub otherwise : (a b : Bool) → (a || b) ≡ true → a ≡ false → b ≡ true
otherwise true b h e = clash refl e
otherwise false b h e = h

-- the test p at every child j of a list, at every move q j r of a model, and at every move k q j r of the models
abbrev pub every_child : (ℕ → Bool) → List ℕ → Bool
every_child p [] = true
every_child p (j ∷ js) = p j && every_child p js

abbrev pub every_in : (ℕ → ℕ → ℕ → Bool) → List Move → Bool
every_in p [] = true
every_in p (move q js r ∷ ms) = every_child (λ j. p q j r) js && every_in p ms

abbrev pub every_move : (ℕ → ℕ → ℕ → ℕ → Bool) → List Model → Bool
every_move p [] = true
every_move p (model k ms qs ∷ rest) = every_in (p k) ms && every_move p rest

-- the test p at every end k q of the models
abbrev pub every_end : (ℕ → ℕ → Bool) → List Model → Bool
every_end p [] = true
every_end p (model k ms qs ∷ rest) = every_child (p k) qs && every_end p rest

pub child-rule : (p : ℕ → Bool) (js : List ℕ) (j : ℕ) → every_child p js ≡ true → among j js ≡ true → p j ≡ true
unfolding among
child-rule p [] j h a = clash a refl
child-rule p (i ∷ js) j h a =
    let b = (and-eq-true_iff (p i) (every_child p js)).0 h in
    by_case (eqb j i) (λ e. rw (eqb-true j i e) b.0) (λ e. child-rule p js j b.1 (rw e at a))

in-rule : (p : ℕ → ℕ → ℕ → Bool) (ms : List Move) (q j r : ℕ) → every_in p ms ≡ true → step_in ms q j ≡ some r → p q j r ≡ true
unfolding step_in
in-rule p [] q j r h s = lost s
in-rule p (move i js t ∷ ms) q j r h s =
    let b = (and-eq-true_iff (every_child (λ j. p i j t) js) (every_in p ms)).0 h in
    by_case (eqb q i && among j js)
    (λ e.
    let c = (and-eq-true_iff (eqb q i) (among j js)).0 e in
    let s' : some t ≡ some r = rw (e, step_in) at s in
    let d : t ≡ r = cc in
    rw (eqb-true q i c.0, ← d) (child-rule (λ j. p i j t) js j b.0 c.1))
    (λ e. in-rule p ms q j r b.1 (rw (e, step_in) at s))

by-rule : (p : ℕ → ℕ → ℕ → ℕ → Bool) (ms : List Model) (k q j r : ℕ) → every_move p ms ≡ true → step_by ms k q j ≡ some r → p k q j r ≡ true
unfolding step_by
by-rule p [] k q j r h s = lost s
by-rule p (model i ms qs ∷ rest) k q j r h s =
    let b = (and-eq-true_iff (every_in (p i) ms) (every_move p rest)).0 h in
    by_case (eqb k i) (λ e. rw (eqb-true k i e) (in-rule (p i) ms q j r b.0 (rw (e, step_by) at s)))
    (λ e. by-rule p rest k q j r b.1 (rw (e, step_by) at s))

final-by-rule : (p : ℕ → ℕ → Bool) (ms : List Model) (k q : ℕ) → every_end p ms ≡ true → final_by ms k q ≡ true → p k q ≡ true
unfolding final_by
final-by-rule p [] k q h s = clash s refl
final-by-rule p (model i ms qs ∷ rest) k q h s =
    let b = (and-eq-true_iff (every_child (p i) qs) (every_end p rest)).0 h in
    by_case (eqb k i) (λ e. rw (eqb-true k i e) (child-rule (p i) qs q b.0 (rw (e, final_by) at s)))
    (λ e. final-by-rule p rest k q b.1 (rw (e, final_by) at s))

-- what a computed test shows of each move, of each end
pub rule : (p : ℕ → ℕ → ℕ → ℕ → Bool) → every_move p models ≡ true → (k q j r : ℕ) → step k q j ≡ some r → p k q j r ≡ true
unfolding step
rule p h k q j r s = by-rule p models k q j r h s

pub end-rule : (p : ℕ → ℕ → Bool) → every_end p models ≡ true → (k q : ℕ) → final k q ≡ true → p k q ≡ true
unfolding final
end-rule p h k q s = final-by-rule p models k q h s

module _ (boundary : ℕ → Bool) where
  pub run-append : {left k q r t : ℕ} {ms ns : List Mark} → Run boundary left k q r ms → Run boundary left k r t ns
      → Run boundary left k q t (ms ++ ns)
  unfolding text_node
  run-append stay w = w
  run-append (text j a e i s x y l rest) w = text j a e i s x y l (run-append rest w)
  run-append (nest i s o inner f rest) w = rw append_assoc (nest i s o inner f (run-append rest w))

  pub content-append : {left k q r : ℕ} {ms ns : List Mark} → Run boundary left k q r ms → Content boundary left k r ns
      → Content boundary left k q (ms ++ ns)
  content-append w c = record { to = c.to; run = run-append w c.run; ended = c.ended }

  -- a T child, another child
  pub run-text : {left k q r : ℕ} (j a e : ℕ) → Kind.is_text j ≡ true → step k q j ≡ some r → boundary a ≡ true
      → boundary e ≡ true → a ≤ e → Run boundary left k q r (text_node j a e)
  unfolding text_node
  run-text j a e i s x y l = text j a e i s x y l stay

  pub run-node : {left inside k q r j : ℕ} {inner : List Mark} → Kind.is_text j ≡ false → step k q j ≡ some r
      → opens j + inside ≡ left → Content boundary inside j start inner → Run boundary left k q r (node j inner)
  run-node i s o c = rw append-nil at (nest i s o c.run c.ended stay)

  pub run_wider : {left k q t : ℕ} {ms : List Mark} (more : ℕ) → left ≤ more → Run boundary left k q t ms → Run boundary more k q t ms
  run_wider more l stay = stay
  run_wider more l (text j a e i s x y h rest) = text j a e i s x y h (run_wider more l rest)
  run_wider more l (nest {j = j} i s o inner f rest) =
      let o' : opens j + (more - opens j) ≡ more = omega arith in
      nest i s o' (run_wider (more - opens j) (omega arith) inner) f (run_wider more l rest)

module _ (boundary boundary' : ℕ → Bool) (n : ℕ) (carries : (a : ℕ) → boundary a ≡ true → boundary' (n + a) ≡ true) where
  pub run_moved : {left k q t : ℕ} {ms : List Mark} → Run boundary left k q t ms → Run boundary' left k q t (move_up n ms)
  unfolding move_up node text_node
  run_moved stay = stay
  run_moved (text j a e i s x y l rest) = text j (n + a) (n + e) i s (carries a x) (carries e y) (omega arith) (run_moved rest)
  run_moved (nest i s o inner f rest) = simp map-append (nest i s o (run_moved inner) f (run_moved rest))

pub formed-moved : (boundary boundary' : ℕ → Bool) (n : ℕ) → ((a : ℕ) → boundary a ≡ true → boundary' (n + a) ≡ true)
    → {limit : ℕ} {ms : List Mark} → WellFormed boundary limit ms → WellFormed boundary' limit (move_up n ms)
formed-moved boundary boundary' n carries c = record { to = c.to; run = run_moved boundary boundary' n carries c.run; ended = c.ended }

-- a mark that opens or closes a node of one of the kinds, with a place if it is a T kind and only then
pub data Known : Mark → Type 0 where
  opened : (j : ℕ) → Kind.message ≤ j → j ≤ Kind.named_argument → Kind.is_text j ≡ false → Known (plain j)
  closed : (j : ℕ) → Kind.message ≤ j → j ≤ Kind.named_argument → Kind.is_text j ≡ false → Known (plain (Kind.closing j))
  text_opened : (j a : ℕ) → Kind.message ≤ j → j ≤ Kind.named_argument → Kind.is_text j ≡ true → Known (placed j a)
  text_closed : (j e : ℕ) → Kind.message ≤ j → j ≤ Kind.named_argument → Kind.is_text j ≡ true → Known (placed (Kind.closing j) e)

abbrev pub AllKnown : List Mark → Type 0
AllKnown [] = Unit {0}
AllKnown (m ∷ ms) = Known m × AllKnown ms

known-append : (ms ns : List Mark) → AllKnown ms → AllKnown ns → AllKnown (ms ++ ns)
known-append [] ns k l = l
known-append (m ∷ ms) ns k l = (k.0, known-append ms ns k.1 l)

pub known-child : (k q j r : ℕ) → step k q j ≡ some r → (Kind.message ≤ j) × (j ≤ Kind.named_argument)
unfolding models
known-child k q j r s =
    let b =
    (and-eq-true_iff (leb Kind.message j) (leb j Kind.named_argument)).0
    (rule (λ k q j r. leb Kind.message j && leb j Kind.named_argument) refl k q j r s) in
    (leb-true _ _ b.0, leb-true _ _ b.1)

pub run-known : {boundary : ℕ → Bool} {left k q t : ℕ} {ms : List Mark} → Run boundary left k q t ms → AllKnown ms
unfolding node text_node
run-known stay = tt
run-known (text {k = k} {q = q} {r = r} j a e i s x y l rest) =
    let b = known-child k q j r s in
    (text_opened j a b.0 b.1 i, (text_closed j e b.0 b.1 i, run-known rest))
run-known (nest {k = k} {q = q} {r = r} {j = j} {inner = ns} {ms = ms} i s o inner f rest) =
    let b = known-child k q j r s in (
      opened j b.0 b.1 i,
      known-append (ns ++ (plain (Kind.closing j) ∷ [])) ms
          (known-append ns (plain (Kind.closing j) ∷ []) (run-known inner) (closed j b.0 b.1 i, tt))
          (run-known rest),
    )
