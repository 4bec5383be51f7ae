-- The stack of frames, and the bounds of what the check reaches.
use Prim.Native.Nat.{ℕ, zero, suc, ◌+◌, ◌-◌, ◌≤◌, ◌<◌}
use native.Mathlib.Numerals.{add-one}
use native.Mathlib.Omega.{arith}
use mathlib.Core.Path.{◌≡◌, refl, ap}
use mathlib.Core.Bool.{Bool, true, false}
use mathlib.Core.List.{List, [], ◌∷◌}
use mathlib.Core.Option.{some, none}
use lib.ListN.{length, get_or, set}
use lib.Seq.{get_or-set_same, get_or-set_other}
use Rattle.syntax.specs.Kind as Kind
use Rattle.syntax.specs.Marks.{Mark, plain}
use Rattle.syntax.specs.Limits.{max_open}
use Rattle.syntax.specs.Shape.{start, among, step, final, opens, frame, between, within, needs, enter, leave, step_mark}
use Rattle.syntax.specs.Shape as Definition
use Rattle.syntax.specs.Layout.{mark_of}
use Rattle.laws.specs.Bytes.{by_case}
use Rattle.laws.specs.Shape.Check.{needs-demand, Stepped, starts, stops, enters, leaves, stepped-to, stepped-from}
use Rattle.laws.specs.Shape.Check.{Holds, holds-between, holds-within, holds-step}
use Rattle.laws.specs.Shape.Bound.{most_frames, small-along, small-down, small-depth}
use Rattle.laws.specs.Shape.Run.{known-child}
use Rattle.tree.specs.declared.models.Node.{Node}
use Rattle.tree.specs.declared.check.Open.{Open}
use Rattle.tree.specs.declared.check.State.{State}
use Rattle.tree.specs.declared.check.State.TheVariants.{Between, Within}
use Rattle.tree.specs.Models.{parent}
use Rattle.tree.specs.Shape.{frame_of, unused, frames_in, state_of, Sits, Fits, Reached}
use Rattle.tree.proofs.Steps.{entered, closed}

module _ (fs : List Node) where
  frames-length : (d : ℕ) → length (frames_in fs d) ≡ d
  unfolding frames_in
  frames-length zero = refl
  frames-length (suc d) = ap suc (frames-length d)

  frames-above : (d i : ℕ) (f : Node) → d ≤ i → frames_in (set fs i f) d ≡ frames_in fs d
  unfolding frames_in
  frames-above zero i f h = refl
  frames-above (suc d) i f h = rw (frames-above d i f (omega arith), get_or-set_other fs i d f unused (λ e. omega arith))

  pub frames-push : (d : ℕ) (f : Node) → d < length fs → frames_in (set fs d f) (d + 1) ≡ frame_of f ∷ frames_in fs d
  unfolding frames_in
  frames-push d f h = rw (add-one, frames_in, get_or-set_same fs d f unused h, frames-above d d f (omega arith))

  pub frames-pop : (d : ℕ) → (d ≡ 0 → ⊥) → frames_in fs d ≡ frame_of (get_or fs (d - 1) unused) ∷ frames_in fs (d - 1)
  unfolding frames_in
  frames-pop zero h = absurd (h refl)
  frames-pop (suc d) h = let e : suc d - 1 ≡ d = omega arith in rw e

fits-sits : (fs : List Node) (o : Open) → Fits fs o → Sits o.left (parent o.node.kind) o.node.state (length (frames_in fs o.depth))
fits-sits fs o f = rw (frames-length fs o.depth) f.inner

-- the invariant is kept from child to child, and from a node to a node inside it
sits-along : (left k q j r depth : ℕ) → step k q j ≡ some r → Sits left k q depth → Sits left k r depth
sits-along left k q j r depth s h = record { small = small-along max_open left k q j r depth s h.small; list = h.list }

sits-down : (left k q j r depth : ℕ) → step k q j ≡ some r → Kind.is_text j ≡ false → needs j ≤ left → Sits left k q depth
    → Sits (left - opens j) j start (suc depth)
sits-down left k q j r depth s i n h =
    record {
      small = small-down max_open left k q j r depth s i n h.small;
      list = λ e. absurd (omega (arith, (known-child k q j r s).0));
    }

module _ (boundary : ℕ → Bool) where
  sits-step : (s s' : Definition.State) (m : Mark) → step_mark boundary s m ≡ some s' → Holds boundary Sits s → Holds boundary Sits s'
  sits-step s s' m e h = holds-step boundary Sits sits-along sits-down s s' m e h

  fits-holds : (fs : List Node) (o : Open) → Fits fs o → Holds boundary Sits (state_of fs (Between o))
  unfolding state_of
  fits-holds fs o f = holds-between (fits-sits fs o f) f.around

  reached-holds : (fs : List Node) (s : State) → Reached boundary fs s → Holds boundary Sits (state_of fs s)
  unfolding state_of
  reached-holds fs (Between o) f = fits-holds fs o f
  reached-holds fs (Within j a o) r = let f = r.1.1 in holds-within r.1.0 (fits-sits fs o f) f.around

  -- a T child that the check is within is of a T kind
  abbrev InText : Definition.State → Type 0
  InText (between left k q fs) = Unit {0}
  InText (within j a left k q fs) = Kind.is_text j ≡ true

  text-step : {s s' : Definition.State} {m : Mark} → Stepped boundary s m s' → InText s'
  text-step (starts j a i s x) = i
  text-step (stops j a e y l) = tt
  text-step (enters j i s n) = tt
  text-step (leaves f) = tt

  holds-reached : (fs : List Node) (s : State) → InText (state_of fs s)
      → Holds boundary Sits (state_of fs s) → Reached boundary fs s
  unfolding state_of
  holds-reached fs (Between o) t (holds-between p a) = record { inner = rw (frames-length fs o.depth) at p; around = a }
  holds-reached fs (Within j x o) t (holds-within b p a) =
      (t, (b, record { inner = rw (frames-length fs o.depth) at p; around = a }))

  -- what the check reaches it goes on from to what it reaches
  pub reached-step : (fs fs' : List Node) (s s' : State) (m : Mark)
      → step_mark boundary (state_of fs s) m ≡ some (state_of fs' s') → Reached boundary fs s
      → Reached boundary fs' s'
  reached-step fs fs' s s' m e r =
      holds-reached fs' s' (text-step (stepped-from boundary (state_of fs s) (state_of fs' s') m e))
      (sits-step (state_of fs s) (state_of fs' s') m e (reached-holds fs s r))

-- there is room for another frame where a child may open
pub enter-room : (fs : List Node) (o : Open) (j r : ℕ) → Fits fs o → Kind.is_text j ≡ false
    → step (parent o.node.kind) o.node.state j ≡ some r → needs j ≤ o.left → o.depth < most_frames max_open
unfolding state_of
enter-room fs o j r f i s n = go (sits-step always _ _ (plain j) (stepped-to always (enters j i s n)) (fits-holds always fs o f))
  where
    always : ℕ → Bool
    always p = true

    go : {left k q : ℕ} {x : Definition.Frame} → Holds always Sits (between left k q (x ∷ frames_in fs o.depth))
        → o.depth < most_frames max_open
    go (holds-between p a) = omega (arith, small-depth p.small, frames-length fs o.depth)

pub opens_small : (j : ℕ) → opens j ≤ 1
unfolding opens
opens_small j = by_case (among j (Kind.placeable ∷ Kind.arguments ∷ [])) (λ e. rw (e, opens) (omega arith)) (λ e. rw (e, opens) (omega arith))

pub opens-needs : (j : ℕ) → opens j ≤ needs j
opens-needs j = omega (arith, needs-demand j)

module _ (fs : List Node) (o : Open) where
  -- the stack where a child opens, and where the node closes
  pub enter-goes : (j r n : ℕ) → most_frames max_open ≤ length fs → Fits fs o → Kind.is_text j ≡ false
      → step (parent o.node.kind) o.node.state j ≡ some r → needs j ≤ o.left → n ≡ opens j
      → some (between (o.left - n) j start (frames_in (set fs o.depth (record { kind = o.node.kind; state = r })) (o.depth + 1)))
      ≡ enter o.left (parent o.node.kind) o.node.state (frames_in fs o.depth) j
  enter-goes j r n m f i s h e =
      let l = enter-room fs o j r f i s h in
      rw (
        e,
        frames-push fs o.depth (record { kind = o.node.kind; state = r }) (omega arith),
        entered o.left (parent o.node.kind) o.node.state (frames_in fs o.depth) j r i s h,
      )

  module _ (boundary : ℕ → Bool) (f : final (parent o.node.kind) o.node.state ≡ true) where
    pub leave-top : o.depth ≡ 0 → none ≡ step_mark boundary (state_of fs (Between o)) (mark_of (Kind.closing (parent o.node.kind)) 0)
    unfolding state_of frames_in leave
    leave-top e = rw (closed boundary o.left (parent o.node.kind) o.node.state (frames_in fs o.depth) f, e)

    pub leave-goes : (n : ℕ) → (o.depth ≡ 0 → ⊥) → n ≡ opens (parent o.node.kind)
        → some
        (between (o.left + n) (parent (get_or fs (o.depth - 1) unused).kind) (get_or fs (o.depth - 1) unused).state
        (frames_in fs (o.depth - 1)))
        ≡ step_mark boundary (state_of fs (Between o)) (mark_of (Kind.closing (parent o.node.kind)) 0)
    unfolding state_of leave
    leave-goes n h e =
        let z : o.left + n ≡ opens (parent o.node.kind) + o.left = omega arith in
        rw (closed boundary o.left (parent o.node.kind) o.node.state (frames_in fs o.depth) f, frames-pop fs o.depth h, z, leave)
