-- The theorem of the check: it finds the well-formed lists, and of the others the value of refusal 6.
use Rattle.std.specs.Prelude.{ℕ, zero, suc, ◌+◌, ◌-◌, ◌≤◌, ◌<◌, ◌≡◌, ◌↔◌, Bool, true, false, ◌&&◌, ◌||◌, eqb, ltb, length, take, drop}
use native.Mathlib.Omega.{arith}
use Rattle.std.proofs.Common.{add-one, ap, sym, ◌∙◌, take-append-drop, length-append, take-add, eqb-true, ltb-true, ltb-false}
use Rattle.std.proofs.Math.Path.{refl}
use Rattle.std.proofs.Math.Bool.{and-eq-true_iff}
use mathlib.Core.List.{List, [], ◌∷◌, ◌++◌, append_assoc}
use Rattle.std.proofs.Math.Option.{Option, some, none}
use Rattle.std.proofs.Math.Seq.{take-append_seam, take-append-add, take-length}
use Rattle.syntax.specs.Kind as Kind
use Rattle.syntax.specs.Marks.{Mark, node, text_node, move_up}
use Rattle.syntax.specs.Shape.{top, start, Move, move, Model, model, models, among, step_in, step_by, final_by, step}
use Rattle.syntax.specs.Shape.{final, opens, Content, WellFormed, Begins, Refused, at, early, Frame, frame, State}
use Rattle.syntax.specs.Shape.{between, needs, enter, leave, step_mark, may_end, judge, verdict}
use Rattle.laws.specs.Bytes.{by_case, clash}
use Rattle.laws.specs.Shape.Run.{lost, otherwise, every_move, rule, run_wider, run_moved}
use Rattle.laws.specs.Shape.Check.{demand, needs-demand, demand-falls, Steps, here, more, steps-append}
use Rattle.laws.specs.Shape.Check.{steps-stuck, stops, leaves, stepped-to, run-steps, last, After, after-child}
use Rattle.laws.specs.Shape.Check.{steps-complete, Around, Holds, holds-between, holds-within, holds-steps}

-- The least marks that complete a node of the kind k in the state q: the first child of the first move, and so on.
first_in : List Move → ℕ → List (ℕ × ℕ)
first_in [] q = []
first_in (move q' [] r ∷ ms) q = first_in ms q
first_in (move q' (j ∷ js) r ∷ ms) q = elim (eqb q q') [ true ↦ (j, r) ∷ [] | false ↦ first_in ms q ]

first_by : List Model → ℕ → ℕ → List (ℕ × ℕ)
first_by [] k q = []
first_by (model k' ms qs ∷ rest) k q = elim (eqb k k') [ true ↦ first_in ms q | false ↦ first_by rest k q ]

finish : (fuel k q : ℕ) → List Mark
finish zero k q = []
finish (suc n) k q =
    elim
    (final k q) [
      | true ↦ []
      | false ↦ elim
          (first_by models k q) [
            | [] ↦ []
            | c
                ∷ cs ↦ elim (Kind.is_text c.0) [ true ↦ text_node c.0 0 0 | false ↦ node c.0 (finish n c.0 start) ]
                ++ finish n k c.1
          ]
    ]

-- whether these marks do complete the node, with no more openings than it needs and no boundary but 0
origin : ℕ → Bool
origin p = eqb p 0

is_none : Option ℕ → Bool
is_none none = true
is_none (some v) = false

is-none : (o : Option ℕ) → is_none o ≡ true → o ≡ none
unfolding is_none
is-none none e = refl
is-none (some v) e = clash e refl

whole : (k q : ℕ) → Bool
whole k q = is_none (judge origin 0 (between (demand k q) k q []) (finish 4 k q))

-- so it is at the top, after each move, and at the start of each child without a text
abbrev whole_move : (k q j r : ℕ) → Bool
whole_move k q j r = whole k r && (Kind.is_text j || whole j start)

completes : (whole top start ≡ true) × (every_move whole_move models ≡ true)
unfolding whole is_none origin finish first_by first_in demand node text_node Kind.is_text models among step_in step_by final_by
    step final opens needs enter leave step_mark may_end judge
completes = (refl, refl)

whole-move : (k q j r : ℕ) → step k q j ≡ some r → (whole k r ≡ true) × ((Kind.is_text j || whole j start) ≡ true)
whole-move k q j r s = (and-eq-true_iff (whole k r) (Kind.is_text j || whole j start)).0 (rule whole_move completes.1 k q j r s)

-- A node that can still be completed.
abbrev Live : (left k q depth : ℕ) → Type 0
Live left k q depth = (demand k q ≤ left) × (whole k q ≡ true)

live-along : (left k q j r depth : ℕ) → step k q j ≡ some r → Live left k q depth → Live left k r depth
live-along left k q j r depth s l = let d = demand-falls k q j r s in (omega arith, (whole-move k q j r s).0)

live-down : (left k q j r depth : ℕ) → step k q j ≡ some r → Kind.is_text j ≡ false → needs j ≤ left
    → Live left k q depth → Live (left - opens j) j start (suc depth)
live-down left k q j r depth s i n l = let d = needs-demand j in (omega arith, otherwise _ _ (whole-move k q j r s).1 i)

-- How the check of ms comes to its answer, n marks having been read before.
pub data Course (boundary : ℕ → Bool) (s : State) : (n : ℕ) → List Mark → Option ℕ → Type 0 where
  ends : {n : ℕ} {s' : State} {ms : List Mark} → Steps boundary s ms s' → may_end s' ≡ true → Course boundary s n ms none
  short : {n v : ℕ} {s' : State} {ms : List Mark} → Steps boundary s ms s' → may_end s' ≡ false → v ≡ n + length ms
      → Course boundary s n ms (some v)
  stuck : {n v : ℕ} {s' : State} {xs : List Mark} (m : Mark) (ys : List Mark) → Steps boundary s xs s'
      → step_mark boundary s' m ≡ none → v ≡ n + length xs → Course boundary s n (xs ++ (m ∷ ys)) (some v)

module _ (boundary : ℕ → Bool) where
  course-more : {n : ℕ} {s s' : State} {m : Mark} {ms : List Mark} {o : Option ℕ} → step_mark boundary s m ≡ some s'
      → Course boundary s' (suc n) ms o → Course boundary s n (m ∷ ms) o
  course-more e (ends w f) = ends (more e w) f
  course-more {n} e (short {v = v} {ms = ms} w f p) = let p' : v ≡ n + suc (length ms) = omega arith in short (more e w) f p'
  course-more {n} {m = m} e (stuck {v = v} {xs = xs} x ys w f p) = let p' : v ≡ n + suc (length xs) = omega arith in
      stuck {xs = m ∷ xs} x ys (more e w) f p'

  pub course : (n : ℕ) (s : State) (ms : List Mark) → Course boundary s n ms (judge boundary n s ms)
  unfolding judge
  course n s [] = let p : n ≡ n + 0 = omega arith in
      by_case (may_end s) (λ f. rw (f, judge) (ends here f)) (λ f. rw (f, judge) (short here f p))
  course n s (m ∷ ms) = go (step_mark boundary s m) refl (λ s'. course (suc n) s' ms)
    where
      go : (o : Option State) → step_mark boundary s m ≡ o
          → ((s' : State) → Course boundary s' (suc n) ms (judge boundary (suc n) s' ms))
          → Course boundary s n (m ∷ ms) (judge boundary n s (m ∷ ms))
      go none e h = let p : n ≡ n + 0 = omega arith in rw (e, judge) (stuck {xs = []} m ms here e p)
      go (some s') e h = rw (e, judge) (course-more e (h s'))

  steps-ends : {s s' : State} {ms : List Mark} (n : ℕ) → Steps boundary s ms s' → may_end s' ≡ true → judge boundary n s ms ≡ none
  unfolding judge
  steps-ends n here f = rw (f, judge)
  steps-ends n (more e w) f = rw (e, judge) (steps-ends (suc n) w f)

  steps-content : {left k q : ℕ} {s : State} {ms : List Mark} → Steps boundary (between left k q []) ms s
      → may_end s ≡ true → Content boundary left k q ms
  steps-content w f = go (steps-complete boundary w f)
    where
      go : {left k q : ℕ} {ms : List Mark} → After boundary (between left k q []) ms → Content boundary left k q ms
      go (after-child (last c)) = c

  course-content : {left k q n : ℕ} {ms : List Mark} {o : Option ℕ} → Course boundary (between left k q []) n ms o
      → o ≡ none → Content boundary left k q ms
  course-content (ends w f) e = steps-content w f
  course-content (short w f p) e = lost (sym e)
  course-content (stuck m ys w f p) e = lost (sym e)

  -- the check accepts the well-formed lists and no others
  pub accepts : (limit : ℕ) (ms : List Mark) → (verdict boundary limit ms ≡ none) ↔ WellFormed boundary limit ms
  unfolding verdict may_end
  accepts limit ms = (
    λ e. course-content (course 0 (between limit top start []) ms) e,
    λ c. steps-ends 0 (run-steps boundary [] c.run) c.ended,
  )

-- what begins a well-formed list has beginnings that do
begins-front : {boundary : ℕ → Bool} {limit : ℕ} (xs ys : List Mark) → Begins boundary limit (xs ++ ys) → Begins boundary limit xs
begins-front xs ys b = record { rest = ys ++ b.rest; whole = rw append_assoc at b.whole }

begins-take : {boundary : ℕ → Bool} {limit : ℕ} (v w : ℕ) (ms : List Mark) → v ≤ w → Begins boundary limit (take w ms)
    → Begins boundary limit (take v ms)
begins-take v w ms l b =
    let e : v + (w - v) ≡ w = omega arith in
    begins-front (take v ms) (take (w - v) (drop v ms)) (rw (← e, take-add) at b)

-- the value of refusal 6 is one
refused-begins : {boundary : ℕ → Bool} {limit v : ℕ} {ms : List Mark} → Refused boundary limit ms v → (v ≤ length ms)
    × Begins boundary limit (take v ms)
refused-begins (at l b n) = (omega arith, b)
refused-begins {ms = ms} (early b n) = (omega arith, rw take-length b)

refused-least : {boundary : ℕ → Bool} {limit v : ℕ} {ms : List Mark} (w : ℕ) → Refused boundary limit ms v → v < w
    → w ≤ length ms → ¬ Begins boundary limit (take w ms)
refused-least {v = v} {ms = ms} w (at l b n) h i c = n (begins-take (suc v) w ms h c)
refused-least w (early b n) h i c = omega arith

pub refused-once : {boundary : ℕ → Bool} {limit v w : ℕ} {ms : List Mark} → Refused boundary limit ms v
    → Refused boundary limit ms w → v ≡ w
refused-once {v = v} {w = w} r s =
    let b = refused-begins r in
    let c = refused-begins s in
    by_case (ltb v w) (λ h. absurd (refused-least w r (ltb-true v w h) c.0 c.1))
    (λ h. by_case (ltb w v) (λ i. absurd (refused-least v s (ltb-true w v i) b.0 b.1))
    (λ i. let x = ltb-false v w h in let y = ltb-false w v i in omega arith))

refused-formed : {boundary : ℕ → Bool} {limit v : ℕ} {ms : List Mark} → Refused boundary limit ms v → ¬ WellFormed boundary limit ms
refused-formed {v = v} {ms = ms} (at l b n) c = n (record { rest = drop (suc v) ms; whole = rw take-append-drop c })
refused-formed (early b n) c = n c

-- from a state of nodes that can be completed the check goes on to where a list may end
pub record Goes (boundary : ℕ → Bool) (s : State) : Type 0 where
  pub marks : List Mark
  pub to : State
  pub steps : Steps boundary s marks to
  pub ended : may_end to ≡ true

module _ (boundary : ℕ → Bool) (zeroth : boundary 0 ≡ true) where
  live-content : (left k q : ℕ) → Live left k q 0 → Content boundary left k q (move_up 0 (finish 4 k q))
  unfolding whole origin
  live-content left k q l =
      let c = course-content origin (course origin 0 (between (demand k q) k q []) (finish 4 k q)) (is-none _ l.1) in
      record {
        to = c.to;
        run =
            run_wider boundary left l.0 (run_moved origin boundary 0 (λ a x. rw (eqb-true a 0 x) zeroth) c.run);
        ended = c.ended;
      }

  goes-around : (left k q : ℕ) (fs : List Frame) → Live left k q (length fs) → Around Live left k fs → Goes boundary (between left k q fs)
  unfolding may_end
  goes-around left k q [] l o = let c = live-content left k q l in
      record { marks = _; to = between left k c.to []; steps = run-steps boundary [] c.run; ended = c.ended }
  goes-around left k q (frame k' q' ∷ fs) l o =
      let c = live-content left k q l in
      let g = goes-around (opens k + left) k' q' fs o.0 o.1 in
      record {
        marks = _;
        to = g.to;
        steps =
            steps-append (run-steps boundary (frame k' q' ∷ fs) c.run)
            (more (stepped-to boundary (leaves c.ended)) g.steps);
        ended = g.ended;
      }

  goes : {s : State} → Holds boundary Live s → Goes boundary s
  goes (holds-between {left} {k} {q} {fs} l o) = goes-around left k q fs l o
  goes (holds-within {j} {a} {left} {k} {q} {fs} x l o) =
      let g = goes-around left k q fs l o in
      record { marks = _; to = g.to; steps = more (stepped-to boundary (stops j a a x (omega arith))) g.steps; ended = g.ended }

  module _ (limit : ℕ) where
    -- from every state that the check reaches a well-formed list goes on
    pub reached-begins : {s : State} {xs : List Mark} → Steps boundary (between limit top start []) xs s → Begins boundary limit xs
    unfolding demand
    reached-begins w =
        let d : demand top start ≤ limit = omega arith in
        let g = goes (holds-steps boundary Live live-along live-down w (holds-between (d, completes.0) tt)) in
        record { rest = g.marks; whole = steps-content boundary (steps-append w g.steps) g.ended }

    stuck-begins : {s : State} {xs : List Mark} (m : Mark) → Steps boundary (between limit top start []) xs s
        → step_mark boundary s m ≡ none → ¬ Begins boundary limit (xs ++ (m ∷ []))
    stuck-begins m w f b = steps-stuck m b.rest w f (rw append_assoc at (run-steps boundary [] b.whole.run))

    course-refused : {v : ℕ} {ms : List Mark} {o : Option ℕ} → Course boundary (between limit top start []) 0 ms o
        → o ≡ some v → ¬ WellFormed boundary limit ms → Refused boundary limit ms v
    course-refused (ends w f) e n = lost e
    course-refused {v} (short {v = u} {ms = ms} w f p) e n =
        let x : u ≡ v = cc in
        let y : v ≡ length ms = omega arith in
        rw y (early (reached-begins w) n)
    course-refused {v} (stuck {v = u} {xs = xs} m ys w f p) e n =
        let x : u ≡ v = cc in
        let y : v ≡ length xs = omega arith in
        let l : length xs < length (xs ++ (m ∷ ys)) = simp length-append (omega arith) in
        rw y (at l (rw take-append_seam (reached-begins w)) (rw (← add-one, take-append-add) (stuck-begins m w f)))

    -- the check refuses the others, with the value of refusal 6
    pub refuses : (ms : List Mark) (v : ℕ) → (verdict boundary limit ms ≡ some v) ↔ Refused boundary limit ms v
    unfolding verdict
    refuses ms v =
        (λ e. refused e, λ r. go (verdict boundary limit ms) refl r)
      where
        refused : {w : ℕ} → verdict boundary limit ms ≡ some w → Refused boundary limit ms w
        refused e =
            course-refused (course boundary 0 (between limit top start []) ms) e
            (λ c. lost (sym ((accepts boundary limit ms).1 c) ∙ e))

        go : (o : Option ℕ) → verdict boundary limit ms ≡ o → Refused boundary limit ms v → o ≡ some v
        go none e r = absurd (refused-formed r ((accepts boundary limit ms).0 e))
        go (some w) e r = ap some (refused-once (refused e) r)
