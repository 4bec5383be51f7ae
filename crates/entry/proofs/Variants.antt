-- The loop over variants.
use Rattle.std.specs.Prelude.{◌≡◌, ℕ, ◌+◌, ◌-◌, ◌*◌, ◌≤◌, Bool, true, false, ◌||◌, Result, Ok, Err, List, [], length, drop}
use mathlib.Core.Path.{refl, sym, ap, ap₂, subst, ◌∙◌}
use native.Mathlib.Nat.{add-zero, le_refl}
use native.Mathlib.Omega.{arith}
use Rattle.syntax.specs.declared.errors.ParserError.{ParserError}
use Rattle.syntax.specs.Errors.{up_fault}
use Rattle.syntax.specs.Marks.{Mark, move_up}
use Rattle.syntax.specs.Reader.{Out, ok, bad, deep, Reader, after, next, ◌>>◌, pure, in_node, again, done, turn_of, repeat}
use Rattle.syntax.specs.Helper.{skip_blank}
use Rattle.syntax.specs.Pattern.{Inside}
use Rattle.syntax.specs.Expression.{level, variant_with, variant_turn, turn_after, get_variants, variant, variant_kind}
use Rattle.laws.specs.Loop.{repeat-done}
use Rattle.laws.specs.Bounds.{moves, Bounds, then, node-bounds, pure-bounds}
use Rattle.laws.specs.Bounds.Helper.{blank-bounds}
use Rattle.laws.specs.Bounds.Expression.{variant_turn-bounds, level-bounds, variant-bounds}
use Rattle.laws.specs.Moving.{move_up-length}
use Rattle.entry.specs.declared.errors.Stop.{Stop}
use Rattle.entry.specs.declared.errors.Stop.TheVariants.{Error, TooDeep}
use Rattle.entry.specs.declared.source.Source.{Source}
use Rattle.entry.specs.declared.marks.Marks.{Marks}
use Rattle.entry.specs.Tree.{Step, words_at}
use Rattle.entry.specs.Did.{yes, silent, told, Did}
use Rattle.entry.specs.Reads.{rest, Frame, ReadsOf}
use Rattle.entry.specs.Next.{Stops, NextIs}
use Rattle.entry.proofs.Steps.{step-none}
use Rattle.entry.proofs.Dids.{valued, lost, far, did-again, did-lost, did-far, failed-wrote, words-none, words_up, fault-up}
use Rattle.entry.proofs.Chains.{frame-none, frame-then, reads-room}

-- a variant's value is whether there is a default now
value-then : {A B C : Type 0} (p : Reader A) (q : Reader B) (x : C) (y : List ℕ) (v : C) (ms : List Mark) (k : ℕ)
    → (p >> (q >> pure x)) y ≡ ok v ms k → v ≡ x
unfolding ◌>>◌ next after pure
value-then {A} {B} {C} p q x y v ms k e = go (p y) e
  where
    inner : (ns : List Mark) (j : ℕ) (z : List ℕ) (o : Out B) → after ns j (next z (λ _. pure x) o) ≡ ok v ms k → v ≡ x
    inner ns j z (ok b os i) h = cc
    inner ns j z (bad f i) h = let w : ◌≡◌ {A = ℕ} 0 1 = cc in absurd (omega arith)
    inner ns j z (deep i) h = let w : ◌≡◌ {A = ℕ} 0 1 = cc in absurd (omega arith)

    go : (o : Out A) → next y (λ _. q >> pure x) o ≡ ok v ms k → v ≡ x
    go (ok a ns j) h = inner ns j (drop j y) (q (drop j y)) h
    go (bad f j) h = let w : ◌≡◌ {A = ℕ} 0 1 = cc in absurd (omega arith)
    go (deep j) h = let w : ◌≡◌ {A = ℕ} 0 1 = cc in absurd (omega arith)

variant-value : (sub : Inside) (d has : Bool) (y : List ℕ) {v : Bool} {ms : List Mark} {k : ℕ}
    → variant_with sub d has y ≡ ok v ms k → v ≡ (d || has)
unfolding variant_with
variant-value sub d has y {v} {ms} {k} e = value-then (in_node (variant_kind d) (variant sub)) skip_blank (d || has) y v ms k e

pub with-bounds : (left : ℕ) (d has : Bool) → Bounds left (λ _. 24) (variant_with (level left) d has)
unfolding variant_with
with-bounds left d has =
    then (node-bounds (variant_kind d) (omega arith) (variant-bounds (level-bounds left)))
    (then blank-bounds (pure-bounds _))

-- ---- a turn
module _ (s s₁ : Source) (left : ℕ) (d has : Bool) (b : s₁.bytes ≡ s.bytes) (l : s.ptr ≤ s₁.ptr)
    (turn : variant_turn (level left) has (rest s) ≡ turn_after (s₁.ptr - s.ptr) (turn_of (variant_with (level left) d has (rest s₁)))) where
  again-is : {v : Bool} {ms : List Mark} {j : ℕ} → variant_with (level left) d has (rest s₁) ≡ ok v ms j
      → variant_turn (level left) has (rest s) ≡ again v (move_up (s₁.ptr - s.ptr) ms) (s₁.ptr - s.ptr + j)
  unfolding turn_of turn_after
  again-is e = turn ∙ (rw e)

  bad-is : {f : ParserError} {j : ℕ} → variant_with (level left) d has (rest s₁) ≡ bad f j
      → variant_turn (level left) has (rest s) ≡ done (bad (up_fault (s₁.ptr - s.ptr) f) (s₁.ptr - s.ptr + j))
  unfolding turn_of turn_after after
  bad-is e = turn ∙ (rw e)

  deep-is : {j : ℕ} → variant_with (level left) d has (rest s₁) ≡ deep j
      → variant_turn (level left) has (rest s) ≡ done (deep (s₁.ptr - s.ptr + j))
  unfolding turn_of turn_after after
  deep-is e = turn ∙ (rw e)

  pub variants-on : {s₂ s₃ : Source} {m m₁ m₂ : Marks} {u : Unit {0}} {r : Result (Unit {0}) Stop}
      → ReadsOf silent s₁ s₂ m m₁ (Ok u) (variant_with (level left) d has (rest s₁))
      → ReadsOf silent s₂ s₃ m₁ m₂ r (repeat (variant_turn (level left)) (d || has) (rest s₂))
      → ReadsOf silent s s₃ m m₂ r (repeat (variant_turn (level left)) has (rest s))
  variants-on {s₂} {s₃} {m} {m₁} {m₂} {r = r} e g =
      let f = (valued (variant_with (level left) d has (rest s₁)) e.did refl).found in
      let v = variant-value (level left) d has (rest s₁) f.is in
      let j : s₁.ptr ≡ s.ptr + (s₁.ptr - s.ptr) = omega arith in
      let i : s₂.ptr ≡ s.ptr + (s₁.ptr - s.ptr + f.k) = omega (arith, f.place) in
      let c : m₁.count ≡ m.count + length (move_up (s₁.ptr - s.ptr) f.ms) = omega (arith, f.count, move_up-length (s₁.ptr - s.ptr) f.ms) in
      let o : Step m.capacity m.count m.words.now m₁.words.now (words_at s.ptr (move_up (s₁.ptr - s.ptr) f.ms)) =
      subst (λ (l : _). Step m.capacity m.count m.words.now m₁.words.now l)
      (ap (λ (k : ℕ). words_at k f.ms) j ∙ sym (words_up s.ptr (s₁.ptr - s.ptr) f.ms)) f.wrote in
      let h : Did silent m.capacity s₂.ptr m₁.count m₁.words.now m₂.words.now (told r s₃.ptr m₂.count)
      (repeat (variant_turn (level left)) (d || has) (drop s₂.ptr s.bytes.now)) =
      rw (e.frame.tree.capacity, e.frame.bytes, b) at g.did in
      record {
        frame = frame-then (frame-then (record { bytes = b; tree = record { words = refl; capacity = refl } }) e.frame) g.frame;
        did =
            did-again (moves (variant_turn-bounds (level-bounds left))) s.bytes.now has (again-is f.is) i c o
            (subst
            (λ (x : Bool). Did silent m.capacity s₂.ptr m₁.count m₁.words.now m₂.words.now (told r s₃.ptr m₂.count)
            (repeat (variant_turn (level left)) x (drop s₂.ptr s.bytes.now))) (sym v) h);
      }

  pub variants-stop : {s₂ : Source} {m m₁ : Marks} {e : Stop} → ReadsOf silent s₁ s₂ m m₁ (Err e) (variant_with (level left) d has (rest s₁))
      → ReadsOf silent s s₂ m m₁ (Err e) (repeat (variant_turn (level left)) has (rest s))
  variants-stop {s₂} {m} {m₁} {e} g = go e g
    where
      frame : {e : Stop} → ReadsOf silent s₁ s₂ m m₁ (Err e) (variant_with (level left) d has (rest s₁)) → Frame s s₂ m m₁
      frame g = frame-then (record { bytes = b; tree = record { words = refl; capacity = refl } }) g.frame

      go : (e : Stop) → ReadsOf silent s₁ s₂ m m₁ (Err e) (variant_with (level left) d has (rest s₁))
          → ReadsOf silent s s₂ m m₁ (Err e) (repeat (variant_turn (level left)) has (rest s))
      go (Error x) g =
          let f = lost (variant_with (level left) d has (rest s₁)) g.did refl in
          let j : s₁.ptr ≡ s.ptr + (s₁.ptr - s.ptr) = omega arith in
          record {
            frame = frame g;
            did =
                did-lost silent
                (record {
                  fault = up_fault (s₁.ptr - s.ptr) f.fault;
                  k = s₁.ptr - s.ptr + f.k;
                  is = repeat-done (variant_turn (level left)) has (rest s) (bad-is f.is);
                  moved = f.moved ∙ ap (λ (i : ℕ). up_fault i f.fault) j ∙ sym (fault-up s.ptr (s₁.ptr - s.ptr) f.fault);
                  place = omega (arith, f.place);
                }) (failed-wrote g.did);
          }
      go TooDeep g =
          let f = far (variant_with (level left) d has (rest s₁)) g.did refl in
          record {
            frame = frame g;
            did =
                did-far silent
                (record {
                  k = s₁.ptr - s.ptr + f.k;
                  is = repeat-done (variant_turn (level left)) has (rest s) (deep-is f.is);
                  place = omega (arith, f.place);
                }) (failed-wrote g.did);
          }

pub variants-end : {s s₁ : Source} {m : Marks} (sub : Inside) (has : Bool) → s₁.bytes ≡ s.bytes → s.ptr ≤ s₁.ptr
    → variant_turn sub has (rest s) ≡ done (ok tt [] (s₁.ptr - s.ptr))
    → ReadsOf silent s s₁ m m (Ok tt) (repeat (variant_turn sub) has (rest s))
variants-end {s} {s₁} {m} sub has b l h =
    let i : s₁.ptr ≡ s.ptr + (s₁.ptr - s.ptr) = omega arith in
    record {
      frame = record { bytes = b; tree = record { words = refl; capacity = refl } };
      did =
          rw (repeat-done (variant_turn sub) has (rest s) h)
          (record { answers = ap₂ (yes tt) i (sym (add-zero m.count)); wrote = rw words-none (step-none m.capacity m.count m.words.now) });
    }

pub variants-bad : {s s₁ : Source} {m : Marks} {f : ParserError} (sub : Inside) (has : Bool) → s₁.bytes ≡ s.bytes
    → Stops s.ptr f s₁.ptr (variant_turn sub has (rest s))
    → ReadsOf silent s s₁ m m (Err (Error f)) (repeat (variant_turn sub) has (rest s))
variants-bad {s} {s₁} {m} sub has b h =
    record {
      frame = record { bytes = b; tree = record { words = refl; capacity = refl } };
      did =
          did-lost silent
          (record { fault = h.fault; k = h.j; is = repeat-done (variant_turn sub) has (rest s) h.is; moved = h.moved; place = h.place })
          (step-none m.capacity m.count m.words.now);
    }

-- what is read from here on completes the whole
pub record Going (sub : Inside) (s₀ s : Source) (m₀ m : Marks) (has : Bool) : Type 0 where
  pub from : s₀.ptr ≤ s.ptr
  pub frame : Frame s₀ s m₀ m
  pub spent : m.count ≤ 8 * s.ptr
  pub on : (s' : Source) (m' : Marks) (r : Result (Unit {0}) Stop) → ReadsOf silent s s' m m' r (repeat (variant_turn sub) has (rest s))
      → ReadsOf silent s₀ s' m₀ m' r (get_variants sub (rest s₀))

pub going-none : (sub : Inside) (s : Source) (m : Marks) → m.count ≤ 8 * s.ptr → Going sub s s m m false
unfolding get_variants
going-none sub s m p = record { from = le_refl s.ptr; frame = frame-none s m; spent = p; on = λ s' m' r d. d }

pub or-true : (d : Bool) → d || true ≡ true
or-true true = refl
or-true false = refl

pub or_false : (d : Bool) → d || false ≡ d
or_false true = refl
or_false false = refl

-- the code's next variant is an error
pub next-bad : {s s₁ : Source} {m : Marks} {e : Stop} (sub : Inside) (has : Bool) → NextIs s s₁ has (Err e)
    → ReadsOf silent s s₁ m m (Err e) (repeat (variant_turn sub) has (rest s))
next-bad {s} {s₁} {m} {e} sub has n = go e n
  where
    go : (e : Stop) → NextIs s s₁ has (Err e) → ReadsOf silent s s₁ m m (Err e) (repeat (variant_turn sub) has (rest s))
    go (Error f) n = variants-bad sub has n.bytes (n.is sub)
    go TooDeep n = absurd n.is

-- one variant further
pub going-on : {s₀ s s₁ s₂ : Source} {m₀ m m₁ : Marks} {u : Unit {0}} {now : Bool} (left : ℕ) (d has : Bool)
    → Going (level left) s₀ s m₀ m has → s₁.bytes ≡ s.bytes → s.ptr ≤ s₁.ptr
    → variant_turn (level left) has (rest s) ≡ turn_after (s₁.ptr - s.ptr) (turn_of (variant_with (level left) d has (rest s₁)))
    → ReadsOf silent s₁ s₂ m m₁ (Ok u) (variant_with (level left) d has (rest s₁)) → (d || has) ≡ now
    → Going (level left) s₀ s₂ m₀ m₁ now
going-on {s₀} {s} {s₁} {s₂} {m₀} {m} {m₁} left d has g b l turn e h =
    let r = reads-room _ ((with-bounds left d has).on _) e in
    record {
      from = omega (arith, g.from, l, r.onward);
      frame = frame-then (frame-then g.frame (record { bytes = b; tree = record { words = refl; capacity = refl } })) e.frame;
      spent = omega (arith, g.spent, l, r.room);
      on =
          λ s' m' x z. g.on s' m' x
          (variants-on s s₁ left d has b l turn e
          (subst (λ (v : Bool). ReadsOf silent s₂ s' m₁ m' x (repeat (variant_turn (level left)) v (rest s₂))) (sym h) z));
    }
