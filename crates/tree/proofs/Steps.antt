-- The definition's step at the words of a mark, a lemma for each answer of the code.
use Prim.Native.Nat.{ℕ, ◌-◌, ◌≤◌, ◌<◌}
use native.Mathlib.Omega.{arith}
use mathlib.Core.Path.{◌≡◌, refl}
use mathlib.Core.Bool.{Bool, true, false, ◌&&◌, ◌||◌, not}
use mathlib.Core.List.{List, [], ◌∷◌}
use mathlib.Core.Option.{Option, some, none}
use lib.Dec.{eqb, leb}
use borrow.Author.Tests.{eq-eqb, ne_eqb, le-leb, lt-leb, not-true}
use Rattle.syntax.specs.Kind as Kind
use Rattle.syntax.specs.Marks.{Mark, plain, placed}
use Rattle.syntax.specs.Layout.{has_place, mark_of}
use Rattle.syntax.specs.Shape.{start, models, step, final, opens, Frame, frame, State, between, within, needs, enter, leave, step_mark}
use Rattle.laws.specs.Bytes.{by_case}
use Rattle.laws.specs.Shape.Run.{end-rule}

no-and : (a : Bool) → (a && false) ≡ false
no-and true = refl
no-and false = refl

-- kinds past the last are no T kinds, and a node that may end is no T node
not-text : (j : ℕ) → Kind.named_argument < j → Kind.is_text j ≡ false
unfolding Kind.is_text
not-text j h =
    rw (
      other Kind.junk (omega arith),
      other Kind.comment_line (omega arith),
      other Kind.identifier (omega arith),
      other Kind.text (omega arith),
      other Kind.number_key (omega arith),
      other Kind.identifier_key (omega arith),
      other Kind.string (omega arith),
      other Kind.number (omega arith),
    )
  where
    other : (n : ℕ) → n ≤ Kind.named_argument → eqb j n ≡ false
    other n l = ne_eqb j n (λ e. omega arith)

ends-no-text : (k q : ℕ) → final k q ≡ true → Kind.is_text k ≡ false
unfolding models Kind.is_text
ends-no-text k q f = not-true (Kind.is_text k) (end-rule (λ k q. not (Kind.is_text k)) refl k q f)

-- the mark of a kind and a place
mark-placed : (j p : ℕ) → (p ≡ 0 → ⊥) → mark_of j p ≡ placed j p
unfolding mark_of
mark-placed j p h = rw (ne_eqb p 0 h, mark_of) (by_case (has_place j) (λ e. rw e) (λ e. rw e))

mark-text : (j p : ℕ) → Kind.is_text j ≡ true → mark_of j p ≡ placed j p
unfolding mark_of has_place
mark-text j p e = rw (e, mark_of)

closed-place : (j : ℕ) → has_place (Kind.closing j) ≡ Kind.is_text j
unfolding has_place
closed-place j =
    let e : Kind.closing j - Kind.closing 0 ≡ j = omega arith in
    rw (not-text (Kind.closing j) (omega arith), e)

mark-closed : (j p : ℕ) → Kind.is_text j ≡ true → mark_of (Kind.closing j) p ≡ placed (Kind.closing j) p
unfolding mark_of
mark-closed j p e = rw (closed-place j, e, mark_of)

mark-node : (j : ℕ) → j ≤ Kind.named_argument → Kind.is_text j ≡ false → mark_of j 0 ≡ plain j
unfolding mark_of has_place Kind.is_text
mark-node j h e =
    let z : j - Kind.closing 0 ≡ 0 = omega arith in
    rw (e, z, mark_of)

-- what holds of it with a place and without
mark-either : (P : Mark → Type 0) (j p : ℕ) → P (plain j) → P (placed j p) → P (mark_of j p)
unfolding mark_of
mark-either P j p a b = by_case (has_place j || not (eqb p 0)) (λ t. rw (t, mark_of) b) (λ t. rw (t, mark_of) a)

module _ (left k q : ℕ) (fs : List Frame) where
  enter-nothing : (j : ℕ) → step k q j ≡ none → enter left k q fs j ≡ none
  unfolding enter
  enter-nothing j e = by_case (not (Kind.is_text j) && leb (needs j) left) (λ t. rw (t, e, enter)) (λ t. rw (t, enter))

  pub not_entered : (j : ℕ) → left < needs j → enter left k q fs j ≡ none
  unfolding enter
  not_entered j h = rw (lt-leb (needs j) left h, enter, no-and (not (Kind.is_text j)))

  pub entered : (j r : ℕ) → Kind.is_text j ≡ false → step k q j ≡ some r → needs j ≤ left
      → enter left k q fs j ≡ some (between (left - opens j) j start (frame k r ∷ fs))
  unfolding enter
  entered j r e s h = rw (e, le-leb (needs j) left h, s, enter)

module _ (boundary : ℕ → Bool) (left k q : ℕ) (fs : List Frame) where
  abbrev child : Mark → Option State
  child m = step_mark boundary (between left k q fs) m

  -- a mark that no rule takes
  pub strange : (j p : ℕ) → step k q j ≡ none → (j ≡ Kind.closing k → ⊥) → child (mark_of j p) ≡ none
  unfolding step_mark
  strange j p e h =
      mark-either (λ m. child m ≡ none) j p (rw (ne_eqb j (Kind.closing k) h, step_mark) (enter-nothing left k q fs j e))
      (by_case (Kind.is_text j && boundary p) (λ t. rw (t, step_mark, e)) (λ t. rw (t, step_mark)))

  -- a place where none belongs
  pub misplaced : (j p : ℕ) → Kind.is_text j ≡ false → (p ≡ 0 → ⊥) → child (mark_of j p) ≡ none
  unfolding step_mark
  misplaced j p e h = rw (mark-placed j p h, step_mark, e)

  -- a child opens
  pub opened : (j : ℕ) → j ≤ Kind.named_argument → Kind.is_text j ≡ false → child (mark_of j 0) ≡ enter left k q fs j
  unfolding step_mark
  opened j h e = let z : eqb j (Kind.closing k) ≡ false = ne_eqb j (Kind.closing k) (λ e. omega arith) in rw (mark-node j h e, step_mark, z)

  -- a T child starts
  pub started : (j p r : ℕ) → Kind.is_text j ≡ true → step k q j ≡ some r → boundary p ≡ true
      → child (mark_of j p) ≡ some (within j p left k r fs)
  unfolding step_mark
  started j p r e s h = rw (mark-text j p e, step_mark, e, h, s)

  pub not-started : (j p : ℕ) → Kind.is_text j ≡ true → boundary p ≡ false → child (mark_of j p) ≡ none
  unfolding step_mark
  not-started j p e h = rw (mark-text j p e, step_mark, e, h)

  -- the node closes
  pub closed : final k q ≡ true → child (mark_of (Kind.closing k) 0) ≡ leave left k fs
  unfolding mark_of step_mark
  closed f = let z = eq-eqb (Kind.closing k) (Kind.closing k) refl in rw (mark_of, closed-place k, ends-no-text k q f, step_mark, z, f)

  pub not-closed : (p : ℕ) → final k q ≡ false → child (mark_of (Kind.closing k) p) ≡ none
  unfolding step_mark
  not-closed p f =
      let z = eq-eqb (Kind.closing k) (Kind.closing k) refl in
      mark-either (λ m. child m ≡ none) (Kind.closing k) p (rw (step_mark, z, f)) (rw (step_mark, not-text (Kind.closing k) (omega arith)))

-- no mark closes the list
pub unclosed : (boundary : ℕ → Bool) (left k q j p : ℕ) → step k q j ≡ none
    → step_mark boundary (between left k q []) (mark_of j p) ≡ none
unfolding step_mark leave
unclosed boundary left k q j p e =
    mark-either (λ m. step_mark boundary (between left k q []) m ≡ none) j p
    (by_case (eqb j (Kind.closing k))
    (λ c. by_case (final k q) (λ f. rw (c, step_mark, f)) (λ f. rw (c, step_mark, f)))
    (λ c. rw (c, step_mark) (enter-nothing left k q [] j e)))
    (by_case (Kind.is_text j && boundary p) (λ t. rw (t, step_mark, e)) (λ t. rw (t, step_mark)))

module _ (boundary : ℕ → Bool) (j a left k q : ℕ) (fs : List Frame) where
  -- a T child ends
  pub stopped : (e : ℕ) → Kind.is_text j ≡ true → boundary e ≡ true → a ≤ e
      → step_mark boundary (within j a left k q fs) (mark_of (Kind.closing j) e) ≡ some (between left k q fs)
  unfolding step_mark
  stopped e t h l = let z = eq-eqb (Kind.closing j) (Kind.closing j) refl in rw (mark-closed j e t, step_mark, z, h, le-leb a e l)

  not_stopped : (i e : ℕ) → (eqb i (Kind.closing j) && (boundary e && leb a e)) ≡ false → step_mark boundary (within j a left k q fs) (mark_of i e) ≡ none
  unfolding step_mark
  not_stopped i e h = mark-either (λ m. step_mark boundary (within j a left k q fs) m ≡ none) i e refl (rw (step_mark, h))

  pub stopped-by-other : (i e : ℕ) → (i ≡ Kind.closing j → ⊥) → step_mark boundary (within j a left k q fs) (mark_of i e) ≡ none
  stopped-by-other i e h = not_stopped i e (rw (ne_eqb i (Kind.closing j) h))

  pub stopped-before : (i e : ℕ) → e < a → step_mark boundary (within j a left k q fs) (mark_of i e) ≡ none
  stopped-before i e h = not_stopped i e (rw (lt-leb a e h, no-and (boundary e)) (no-and (eqb i (Kind.closing j))))

  pub stopped-inside : (i e : ℕ) → boundary e ≡ false → step_mark boundary (within j a left k q fs) (mark_of i e) ≡ none
  stopped-inside i e h = not_stopped i e (rw h (no-and (eqb i (Kind.closing j))))
