-- What code needs to hold the check: how large a state of it gets, and how many frames.
use Rattle.std.specs.Prelude.{ℕ, suc, ◌+◌, ◌-◌, ◌*◌, ◌≤◌, ◌≡◌, refl, Bool, true, false, ◌||◌, [], ◌∷◌, eqb, leb}
use Rattle.std.proofs.Common.{arith, leb-true}
use Rattle.std.proofs.Math.Option.{some}
use Rattle.syntax.specs.Kind as Kind
use Rattle.syntax.specs.Marks.{Mark}
use Rattle.syntax.specs.Shape.{top, start, models, among, step, opens, State, between, needs, step_mark}
use Rattle.laws.specs.Shape.Run.{otherwise, rule, known-child}
use Rattle.laws.specs.Shape.Check.{needs-demand, Holds, holds-between, holds-step}

-- The frames around an open node are at most `most_frames` of the limit: an opening adds at most four (a placeable, a
-- select, a variant, a pattern), and `height` counts the others.
abbrev pub most_frames : ℕ → ℕ
most_frames limit = 4 * limit + 3

pub height : ℕ → ℕ
height k =
    elim
    (eqb k Kind.pattern) [
      | true ↦ 3
      | false ↦ elim
          (among k
          (Kind.attribute ∷ Kind.variant ∷ Kind.default_variant ∷ Kind.variable ∷ Kind.function ∷ Kind.message_reference
          ∷ Kind.term_reference ∷ [])) [
            | true ↦ 2
            | false ↦ elim (among k (top ∷ Kind.placeable ∷ Kind.arguments ∷ [])) [ true ↦ 0 | false ↦ 1 ]
          ]
    ]

height-down : (k q j r : ℕ) → step k q j ≡ some r → Kind.is_text j ≡ false → height k + 1 ≤ 4 * opens j + height j
unfolding height models among opens Kind.is_text
height-down k q j r s i =
    leb-true _ _
    (otherwise (Kind.is_text j) _
    (rule (λ k q j r. Kind.is_text j || leb (height k + 1) (4 * opens j + height j)) refl k q j r s) i)

height-child : (k q j r : ℕ) → step k q j ≡ some r → height j ≤ 3
unfolding height models among
height-child k q j r s = leb-true _ _ (rule (λ k q j r. leb (height j) 3) refl k q j r s)

-- a node that the check has open, with the number of frames around it
pub record Small (limit left k q depth : ℕ) : Type 0 where
  pub stack : depth + 4 * left ≤ 4 * limit + height k
  pub least : height k ≤ 3
  pub allowed : left ≤ limit
  pub kind : k ≤ Kind.named_argument
  pub state : q ≤ 3

pub small-along : (limit left k q j r depth : ℕ) → step k q j ≡ some r → Small limit left k q depth → Small limit left k r depth
unfolding models
small-along limit left k q j r depth s h =
    record {
      stack = h.stack;
      least = h.least;
      allowed = h.allowed;
      kind = h.kind;
      state = leb-true _ _ (rule (λ k q j r. leb r 3) refl k q j r s);
    }

pub small-down : (limit left k q j r depth : ℕ) → step k q j ≡ some r → Kind.is_text j ≡ false → needs j ≤ left
    → Small limit left k q depth → Small limit (left - opens j) j start (suc depth)
small-down limit left k q j r depth s i n h =
    let d = needs-demand j in
    let e = height-down k q j r s i in
    record {
      stack = omega arith;
      least = height-child k q j r s;
      allowed = omega arith;
      kind = (known-child k q j r s).1;
      state = omega arith;
    }

pub small-initial : {boundary : ℕ → Bool} {limit : ℕ} → Holds boundary (Small limit) (between limit top start [])
unfolding height among
small-initial {limit = limit} =
    holds-between {left = limit} {k = top} {q = start} {fs = []}
    (record {
      stack = omega arith;
      least = omega arith;
      allowed = omega arith;
      kind = omega arith;
      state = omega arith;
    }) tt

pub small-step : {boundary : ℕ → Bool} {limit : ℕ} {s s' : State} (m : Mark) → step_mark boundary s m ≡ some s'
    → Holds boundary (Small limit) s → Holds boundary (Small limit) s'
small-step {boundary} {limit} {s} {s'} m e h = holds-step boundary (Small limit) (small-along limit) (small-down limit) s s' m e h

pub small-depth : {limit left k q depth : ℕ} → Small limit left k q depth → depth ≤ most_frames limit
small-depth h = omega arith
