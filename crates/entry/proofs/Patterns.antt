-- The loop over a pattern: what the code's state holds, and what is read from there on, is what the pattern's reader gives.
use Rattle.std.specs.Prelude.{◌≡◌, ℕ, zero, suc, ◌+◌, ◌-◌, ◌*◌, ◌<◌, ◌≤◌, Bool, true, false, eqb, ltb, Option, Some, None, Result, Ok, Err, List, [], ◌∷◌, length, get_or, drop}
use mathlib.Core.Path.{refl, sym, ap, ap₂, ◌∙◌, subst}
use native.Mathlib.Omega.{arith}
use borrow.Author.Tests.{lt-ltb}
use lib.ListN.{length-drop, drop_of_length-le}
use lib.Seq.{drop-drop, drop-cons}
use denote.Bor.{Bor}
use Rattle.syntax.specs.declared.errors.ParserError.{ParserError}
use Rattle.syntax.specs.Bytes.{starts_with, spaces, eol}
use Rattle.syntax.specs.Errors.{up_fault}
use Rattle.syntax.specs.Helper.{skip_blank_block, skip_blank_inline, skip_eol}
use Rattle.syntax.specs.Marks.{Mark, move_up}
use Rattle.syntax.specs.Reader.{Out, ok, bad, deep, after, again, done, repeat}
use Rattle.syntax.specs.Pattern.{Inside, State, with_placeable, text_turn, pattern_turn, finish, state_at, used_by, first_state, get_pattern}
use Rattle.laws.specs.Bytes.{clash}
use Rattle.laws.specs.Moving.{after-after}
use Rattle.laws.specs.Loop.{repeat-again, repeat-done}
use Rattle.laws.specs.Shape.Run.{Known, opened, closed, text_opened, text_closed, AllKnown}
use Rattle.laws.specs.Formed.Pattern.{InsideFormed}
use Rattle.laws.specs.Formed.Expression.{braced-known}
use Rattle.laws.specs.Bounds.{Uses, Bounded, used, moves}
use Rattle.laws.specs.Bounds.Pattern.{InsideBounds, pattern_turn-bounds}
use Rattle.entry.specs.declared.errors.Stop.{Stop}
use Rattle.entry.specs.declared.errors.Stop.TheVariants.{Error, TooDeep}
use Rattle.entry.specs.declared.source.Source.{Source}
use Rattle.entry.specs.declared.marks.Marks.{Marks}
use Rattle.entry.specs.declared.parser.Parser.{Parser}
use Rattle.entry.specs.declared.pattern.Reading.{Reading}
use Rattle.entry.specs.declared.text.TextElementPosition.TheVariants.{InitialLineStart, LineStart}
use Rattle.entry.specs.Tree.{word, Step}
use Rattle.entry.specs.Marks.{Wrote}
use Rattle.entry.specs.Did.{Told, no, over, plain, silent, told, Did}
use Rattle.entry.specs.Reads.{rest, Goes, Room, Frame, Reads, ReadsOf}
use Rattle.entry.specs.Elements.{provisional, Low}
use Rattle.entry.specs.Texts.{role_of, standing, stands, after_placeable, Started, Holds, Turned, turn_told, Turns, Ends, Ended}
use Rattle.entry.proofs.Steps.{step_then}
use Rattle.entry.proofs.Dids.{fault-up, words-length, words-none, Found, found, failed-wrote, step-failed, lost, far}
use Rattle.entry.proofs.Chains.{frame-then}
use Rattle.entry.proofs.Settle.{no_lines-drop}
use Rattle.entry.proofs.Held.{placed_state, holds-placeable}

-- ---- what is left of a source
pub shorter : (s s' : Source) → s'.bytes ≡ s.bytes → s.ptr < s'.ptr → s'.ptr ≤ length s.bytes.now
    → length s'.bytes.now - s'.ptr < length s.bytes.now - s.ptr
shorter s s' b l h = let y = ap (λ (x : Bor (List ℕ)). length x.now) b in omega arith

-- ---- where a pattern starts
used-ok : {A : Type 0} (a : A) (k : ℕ) → used_by (ok a [] k) ≡ k
unfolding used_by
used-ok a k = refl

le_zero : (n : ℕ) → ltb 0 n ≡ false → n ≡ 0
le_zero zero h = refl
le_zero (suc n) h = clash (lt-ltb 0 (suc n) (omega arith)) h

module _ {s s₁ s₂ : Source} {i : ℕ} {v : Bool} (a : Goes s s₁ (skip_blank_inline (rest s)) i) (b : Goes s₁ s₂ (skip_eol (rest s₁)) v) where
  bytes₂ : s₂.bytes ≡ s.bytes
  bytes₂ = b.bytes ∙ a.bytes

  spaces-here : spaces (rest s) ≡ s₁.ptr - s.ptr
  unfolding skip_blank_inline
  spaces-here = let e = a.went.answers in cc

  eol-next : (eol (rest s₁) ≡ s₂.ptr - s₁.ptr) × (ltb 0 (eol (rest s₁)) ≡ v)
  unfolding skip_eol
  eol-next = let e = b.went.answers in (cc, cc)

  eol-here : eol (drop (spaces (rest s)) (rest s)) ≡ eol (rest s₁)
  eol-here =
      let o = a.went.onward in
      let z : s.ptr + spaces (rest s) ≡ s₁.ptr = let e = spaces-here in omega arith in
      ap eol
      (drop-drop (spaces (rest s)) s.ptr s.bytes.now ∙ ap (λ (k : ℕ). drop k s.bytes.now) z ∙ rw a.bytes)

  pub started-here : v ≡ false → Started s s₂ (record { role = InitialLineStart; last_non_blank = None; common_indent = None; lines = 0 })
  unfolding first_state
  started-here h =
      let o = a.went.onward in
      let q = b.went.onward in
      let z : ltb 0 (eol (rest s₁)) ≡ false = eol-next.1 ∙ h in
      let e : eol (rest s₁) ≡ 0 = le_zero (eol (rest s₁)) z in
      let k : s₂.ptr - s.ptr ≡ spaces (rest s) = let x = spaces-here in let y = eol-next.0 in omega arith in
      record {
        bytes = bytes₂;
        onward = omega arith;
        state = rw (first_state, eol-here, z) (ap (λ (n : ℕ). state_at n (role_of InitialLineStart)) (sym k));
        last = refl;
        common = refl;
      }

  pub started-below : {s₃ : Source} {c : ℕ} → v ≡ true → Goes s₂ s₃ (skip_blank_block (rest s₂)) c
      → Started s s₃ (record { role = LineStart; last_non_blank = None; common_indent = None; lines = 0 })
  unfolding first_state
  started-below {s₃} h w =
      let o = a.went.onward in
      let q = b.went.onward in
      let p = w.went.onward in
      let z : ltb 0 (eol (rest s₁)) ≡ true = eol-next.1 ∙ h in
      let x : List ℕ = rest s in
      let k : spaces x + eol (drop (spaces x) x) ≡ s₂.ptr - s.ptr =
      let m = spaces-here in let y = eol-next.0 in let e = eol-here in omega arith in
      let r : s.ptr + (s₂.ptr - s.ptr) ≡ s₂.ptr = omega arith in
      let d : drop (s₂.ptr - s.ptr) x ≡ rest s₂ = drop-drop (s₂.ptr - s.ptr) s.ptr s.bytes.now
      ∙ ap (λ (n : ℕ). drop n s.bytes.now) r ∙ rw bytes₂ in
      let u : used_by (skip_blank_block (drop (spaces x + eol (drop (spaces x) x)) x)) ≡ s₃.ptr - s₂.ptr =
      ap (λ (n : ℕ). used_by (skip_blank_block (drop n x))) k ∙ ap (λ (y : List ℕ). used_by (skip_blank_block y)) d
      ∙ ap used_by w.went.answers ∙ used-ok _ _ in
      record {
        bytes = w.bytes ∙ bytes₂;
        onward = omega arith;
        state = rw (first_state, eol-here, z) (ap (λ (n : ℕ). state_at n (role_of LineStart)) (omega (arith, eol-here)));
        last = refl;
        common = refl;
      }

-- ---- the marks inside a placeable are none that is settled
known-low : (ms : List Mark) → AllKnown ms → Low ms
known-low [] k = tt
known-low (m ∷ ms) k = ((low k.0).0, known-low ms k.1)
  where
    low : {m : Mark} → Known m → Low (m ∷ [])
    low (opened j l h i) = (omega arith, tt)
    low (closed j l h i) = (omega arith, tt)
    low (text_opened j a l h i) = (omega arith, tt)
    low (text_closed j e l h i) = (omega arith, tt)

-- ---- the loop's invariant: the code's state holds one of the definition's, and what the loop gives from there on is what the pattern's
-- reader gives
pub record Going (sub : Inside) (p₀ p : Parser) (st : Reading) : Type 0 where
  pub frame : Frame p₀.source p.source p₀.tree.now p.tree.now
  pub state : State
  pub holds : Holds p₀.source.bytes.now p₀.tree.now.capacity p₀.source.ptr p₀.tree.now.count p₀.tree.now.words.now p.tree.now.words.now (stands p st) state
  pub spent : p.tree.now.count + 1 ≤ 8 * p.source.ptr
  pub from : p₀.source.ptr ≤ p.source.ptr
  pub same : get_pattern sub (rest p₀.source)
      ≡ finish (rest p₀.source) (after [] state.used (repeat (pattern_turn sub) state (drop p.source.ptr p₀.source.bytes.now)))

pub going_start : {sub : Inside} {p₀ p : Parser} {st : Reading} {m : Marks} → Room p₀ 2 → Wrote p₀.tree.now m (word 11 0 ∷ []) → p.tree.now ≡ m
    → Started p₀.source p.source st → Going sub p₀ p st
unfolding get_pattern state_at provisional
going_start {sub} {p₀} {p} {st} {m} r w em b =
    let e = b.state in
    let o = b.onward in
    let s = p₀.source.bytes.now in
    let at = p₀.source.ptr in
    let z : at + (p.source.ptr - at) ≡ p.source.ptr = omega arith in
    let c : p.tree.now.count ≡ p₀.tree.now.count + 1 = ap (λ (x : Marks). x.count) em ∙ w.count in
    record {
      frame = record { bytes = b.bytes; tree = rw em w.same };
      state = state_at (p.source.ptr - at) (role_of st.role);
      holds = record {
        role = refl;
        place = sym z;
        count = omega arith;
        wrote = rw em w.step;
        kept = b.last;
        few = omega arith;
        common = b.common;
        lines = no_lines-drop (st.lines - (p₀.tree.now.count + 1)) [] tt;
        sound = tt;
      };
      spent = omega (arith, r.spent);
      from = o;
      same = ap (λ (d : State). finish (drop at s) (after [] d.used (repeat (pattern_turn sub) d (drop d.used (drop at s))))) e
          ∙ ap
          (λ (x : List ℕ). finish (drop at s)
          (after [] (p.source.ptr - at) (repeat (pattern_turn sub) (state_at (p.source.ptr - at) (role_of st.role)) x)))
          (drop-drop (p.source.ptr - at) at s ∙ ap (λ (k : ℕ). drop k s) z);
    }

after-twice : {A : Type 0} (j k : ℕ) (o : Out A) → after [] j (after [] k o) ≡ after [] (j + k) o
after-twice j k o = after-after [] j [] k o ∙ unfold move_up in refl

failed : (x : List ℕ) (j : ℕ) (f : ParserError) (k : ℕ) → finish x (after [] j (bad f k)) ≡ bad (up_fault j f) (j + k)
unfolding finish after
failed x j f k = refl

too-deep : (x : List ℕ) (j k : ℕ) → finish x (after [] j (deep k)) ≡ deep (j + k)
unfolding finish after
too-deep x j k = refl

with-placeable : (d : State) (u : Unit {0}) (ms : List Mark) (k : ℕ) → with_placeable d (ok u ms k) ≡ again (placed_state d ms k) [] k
unfolding with_placeable
with-placeable d u ms k = refl

placeable-bad : (d : State) (f : ParserError) (k : ℕ) → with_placeable d (bad f k) ≡ done (bad f k)
unfolding with_placeable
placeable-bad d f k = refl

placeable-deep : (d : State) (k : ℕ) → with_placeable d (deep k) ≡ done (deep k)
unfolding with_placeable
placeable-deep d k = refl

-- the definition's turns by the byte at a place
module _ (sub : Inside) (s : List ℕ) (a : ℕ) (d : State) where
  no-turn : length s ≤ a → pattern_turn sub d (drop a s) ≡ done (ok d [] 0)
  unfolding pattern_turn
  no-turn l = rw (drop_of_length-le s {i = a} l)

  text-turn : a < length s → starts_with 123 (drop a s) ≡ false → pattern_turn sub d (drop a s) ≡ text_turn d (drop a s)
  unfolding pattern_turn starts_with
  text-turn l b =
      let c = drop-cons s a 0 l in
      let q : eqb (get_or s a 0) 123 ≡ false = ap (starts_with 123) (sym c) ∙ b in
      rw (c, pattern_turn, q)

  brace-turn : a < length s → starts_with 123 (drop a s) ≡ true → pattern_turn sub d (drop a s) ≡ with_placeable d (sub.braced (drop a s))
  unfolding pattern_turn starts_with
  brace-turn l b =
      let c = drop-cons s a 0 l in
      let q : eqb (get_or s a 0) 123 ≡ true = ap (starts_with 123) (sym c) ∙ b in
      rw (c, pattern_turn, q)

-- where a placeable that starts at p ends, and the room for the mark that closes it
pub record Onward (p : Parser) (s : Source) (m : Marks) : Type 0 where
  pub onward : p.source.ptr < s.ptr
  pub within : s.ptr ≤ length p.source.bytes.now
  pub spent : m.count + 2 ≤ 8 * s.ptr
  pub room : m.count + 1 ≤ m.capacity

module _ {sub : Inside} {p₀ p : Parser} {st : Reading} (g : Going sub p₀ p st) where
  abbrev s : List ℕ
  s = p₀.source.bytes.now

  abbrev at : ℕ
  at = p₀.source.ptr

  abbrev n : ℕ
  n = p₀.tree.now.count

  abbrev cap : ℕ
  cap = p₀.tree.now.capacity

  same-bytes : p.source.bytes.now ≡ s
  same-bytes = ap (λ b. b.now) g.frame.bytes

  -- a turn that is the last
  turn-done : {o : Out State} → pattern_turn sub g.state (drop p.source.ptr s) ≡ done o
      → get_pattern sub (drop at s) ≡ finish (drop at s) (after [] g.state.used o)
  turn-done e = g.same
      ∙ ap (λ (x : Out State). finish (drop at s) (after [] g.state.used x))
      (repeat-done (pattern_turn sub) g.state (drop p.source.ptr s) e)

  -- a turn after which the loop goes on
  turn-again : {left : ℕ} {p' : Parser} {st' : Reading} {d' : State} → InsideBounds left sub
      → pattern_turn sub g.state (drop p.source.ptr s) ≡ again d' [] (p'.source.ptr - p.source.ptr)
      → Frame p.source p'.source p.tree.now p'.tree.now
      → Holds s cap at n p₀.tree.now.words.now p'.tree.now.words.now (stands p' st') d' → p'.tree.now.count + 1 ≤ 8 * p'.source.ptr
      → p.source.ptr ≤ p'.source.ptr → Going sub p₀ p' st'
  turn-again {p' = p'} {st'} {d'} law e f h r l =
      let d = g.state in
      let a = g.holds.place in
      let q = h.place in
      let o = g.from in
      let k : ℕ = p'.source.ptr - p.source.ptr in
      let u : d.used + k ≡ d'.used = omega arith in
      let z : p.source.ptr + k ≡ p'.source.ptr = omega arith in
      record {
        frame = frame-then g.frame f;
        state = d';
        holds = h;
        spent = r;
        from = omega arith;
        same = g.same
            ∙ ap (λ (x : Out State). finish (drop at s) (after [] d.used x))
            (repeat-again (moves (pattern_turn-bounds law)) d (drop p.source.ptr s) e)
            ∙ ap (finish (drop at s)) (after-twice d.used k (repeat (pattern_turn sub) d' (drop k (drop p.source.ptr s))))
            ∙ ap₂ (λ (i : ℕ) (x : List ℕ). finish (drop at s) (after [] i (repeat (pattern_turn sub) d' x))) u
            (drop-drop k p.source.ptr s ∙ ap (λ (i : ℕ). drop i s) z);
      }

  -- the pattern ends where p₁ stands
  end-did : {p₁ p₂ : Parser} {r : Bool} → pattern_turn sub g.state (drop p.source.ptr s) ≡ done (ok g.state [] (p₁.source.ptr - p.source.ptr))
      → p.source.ptr ≤ p₁.source.ptr → Frame p.source p₁.source p.tree.now p₁.tree.now → p₁.tree.now.count ≡ p.tree.now.count
      → Holds s cap at n p₀.tree.now.words.now p₁.tree.now.words.now (stands p st) g.state
      → Ended n p₁ p₂ st r → Reads plain p₀ p₂ (Ok r) (get_pattern sub (rest p₀.source))
  end-did {p₁} {p₂} {r} q l f c h w =
      let d = g.state in
      let a = g.holds.place in
      let o = g.from in
      let fr = frame-then g.frame f in
      let z : d.used + (p₁.source.ptr - p.source.ptr) ≡ p₁.source.ptr - at = omega arith in
      let hd : Holds p₁.source.bytes.now p₁.tree.now.capacity at n p₀.tree.now.words.now p₁.tree.now.words.now
      (standing p.source.ptr p₁.tree.now.count st) d = rw (fr.bytes, fr.tree.capacity, c) h in
      let did : Did plain cap at n p₀.tree.now.words.now p₂.tree.now.words.now (told (Ok r) p₂.source.ptr p₂.tree.now.count)
      (finish (drop at s) (ok d [] (p₁.source.ptr - at))) =
      rw (fr.bytes, fr.tree.capacity) at (w.did at p.source.ptr p₀.tree.now.words.now d (omega arith) hd) in
      record {
        frame = frame-then fr w.frame;
        did = rw (turn-done q ∙ ended d (p₁.source.ptr - p.source.ptr) ∙ ap (λ (k : ℕ). finish (drop at s) (ok d [] k)) z) did;
      }
    where
      ended : (d : State) (k : ℕ) → finish (drop at s) (after [] d.used (ok d [] k)) ≡ finish (drop at s) (ok d [] (d.used + k))
      ended d k = unfold after move_up in refl

  ends_with : {p₁ : Parser} → Frame p.source p₁.source p.tree.now p₁.tree.now → p₁.tree.now.count ≡ p.tree.now.count
      → Holds s cap at n p₀.tree.now.words.now p₁.tree.now.words.now (stands p st) g.state → Ends n p₁ st
  ends_with {p₁} f c h =
      let fr = frame-then g.frame f in
      record {
        at = at;
        from = p.source.ptr;
        before = p₀.tree.now.words.now;
        state = g.state;
        holds = rw (fr.bytes, fr.tree.capacity, c) h;
        inside = rw fr.bytes p₀.source.inside;
        room = omega (arith, g.spent, p.source.inside, p.holds, c, f.tree.capacity);
      }

  still : Frame p.source p.source p.tree.now p.tree.now
  still = record { bytes = refl; tree = record { words = refl; capacity = refl } }

  -- less is left than where the pattern started
  pub going-left : 4 * (length p.source.bytes.now - p.source.ptr) ≤ 4 * (length s - at)
  going-left = let y = ap (λ (x : Bor (List ℕ)). length x.now) g.frame.bytes in omega (arith, g.from)

  -- ---- at the end of the source
  pub exit-ends : Ends n p st
  exit-ends = ends_with still refl g.holds

  pub exit-did : {p₂ : Parser} {r : Bool} → length p.source.bytes.now ≤ p.source.ptr → Ended n p p₂ st r
      → Reads plain p₀ p₂ (Ok r) (get_pattern sub (rest p₀.source))
  exit-did l w =
      let z : p.source.ptr - p.source.ptr ≡ 0 = omega arith in
      end-did
      (no-turn sub s p.source.ptr g.state (rw same-bytes at l) ∙ ap (λ (k : ℕ). done (ok g.state [] k)) (sym z)) (omega arith)
      still refl g.holds w

  -- ---- there is room for two marks where a byte is left
  pub going-room : p.source.ptr < length p.source.bytes.now → p.tree.now.count + 2 ≤ p.tree.now.capacity
  going-room l = omega (arith, g.spent, p.holds)

  -- ---- at a text
  module _ (l : p.source.ptr < length p.source.bytes.now) (b : starts_with 123 (rest p.source) ≡ false) {p₁ : Parser}
      {w : Result (Option Reading) Stop} (h : Turns (stands p st) p p₁ (λ d. text_turn d (rest p.source)) w) where
    abbrev turned-as : Result (Option Reading) Stop → Type 0
    turned-as w = Turned s cap at n p₀.tree.now.words.now p₁.tree.now.words.now (stands p st) g.state (text_turn g.state (drop p.source.ptr s))
        (turn_told w p₁)

    held : Holds p.source.bytes.now p.tree.now.capacity at n p₀.tree.now.words.now p.tree.now.words.now (stands p st) g.state
    held = rw (g.frame.bytes, g.frame.tree.capacity) g.holds

    turned : turned-as w
    turned = rw (g.frame.bytes, g.frame.tree.capacity) at (h.did.held at n p₀.tree.now.words.now g.state held)

    turn-is : pattern_turn sub g.state (drop p.source.ptr s) ≡ text_turn g.state (drop p.source.ptr s)
    turn-is = text-turn sub s p.source.ptr g.state (rw same-bytes at l) (rw same-bytes at b)

    pub text-less : (st' : Reading) → w ≡ Ok (Some st') → (p.source.ptr < p₁.source.ptr) × (p₁.source.ptr ≤ length p.source.bytes.now)
    text-less st' e = let o = rw e at h.did.onward in (o.0, o.1)

    pub text-next : {left : ℕ} (st' : Reading) → InsideBounds left sub → w ≡ Ok (Some st') → Going sub p₀ p₁ st'
    text-next st' law e =
        let k = rw e at turned in
        let o = rw e at h.did.onward in
        turn-again law (turn-is ∙ k.is.0) h.frame k.is.1 (omega (arith, g.spent, o)) (omega (arith, o.0))

    pub text-ends : w ≡ Ok None → Ends n p₁ st
    text-ends e = ends_with h.frame (rw e at h.stays) (rw e at turned).1

    pub text-end-did : {p₂ : Parser} {r : Bool} → w ≡ Ok None → Ended n p₁ p₂ st r
        → Reads plain p₀ p₂ (Ok r) (get_pattern sub (rest p₀.source))
    text-end-did q v =
        let k = rw q at turned in
        let o = rw q at h.did.onward in
        end-did (turn-is ∙ k.0) o.0 h.frame (rw q at h.stays) k.1 v

    pub text-stops : {e : Stop} → w ≡ Err e → Reads plain p₀ p₁ (Err e) (get_pattern sub (rest p₀.source))
    text-stops {e} q = go e q
      where
        go : (e : Stop) → w ≡ Err e → Reads plain p₀ p₁ (Err e) (get_pattern sub (rest p₀.source))
        go TooDeep q = absurd (rw q at h.stays)
        go (Error f) q =
            let k = rw q at turned in
            let o = rw q at h.did.onward in
            let a = g.holds.place in
            let d = g.state in
            let f' = k.0.it in
            let i : ℕ = p₁.source.ptr - p.source.ptr in
            let y : p₁.source.ptr ≡ at + (d.used + i) = omega (arith, o.0) in
            let x : f ≡ up_fault at (up_fault d.used f') = k.0.is.1 ∙ ap (λ (i : ℕ). up_fault i f') a ∙ sym (fault-up at d.used f') in
            record {
              frame = frame-then g.frame h.frame;
              did = rw (turn-done (turn-is ∙ k.0.is.0) ∙ failed (drop at s) d.used f' i)
                  (record { answers = ap₂ no x y; wrote = rw words-none k.1 });
            }

  -- ---- at a placeable, after the mark that opens it
  module _ (l : p.source.ptr < length p.source.bytes.now) (b : starts_with 123 (rest p.source) ≡ true) {left : ℕ}
      (law : InsideBounds left sub) (formed : InsideFormed left sub) (m₁ : Marks) (s₂ : Source) (m₂ : Marks)
      {r : Result (Unit {0}) Stop} (w : Wrote p.tree.now m₁ (word 13 0 ∷ []))
      (h : ReadsOf silent p.source s₂ m₁ m₂ r (sub.braced (rest p.source))) where
    capacity₁ : m₁.capacity ≡ cap
    capacity₁ = w.same.capacity ∙ g.frame.tree.capacity

    within : p.source.ptr < length s
    within = rw same-bytes at l

    brace : starts_with 123 (drop p.source.ptr s) ≡ true
    brace = rw same-bytes at b

    frame₂ : Frame p.source s₂ p.tree.now m₂
    frame₂ = frame-then (record { bytes = refl; tree = w.same }) h.frame

    abbrev x : List ℕ
    x = drop p.source.ptr s

    opened-step : Step cap p.tree.now.count p.tree.now.words.now m₁.words.now (word 13 0 ∷ [])
    opened-step = rw g.frame.tree.capacity at w.step

    braced-bounds : Bounded left (λ _. 20) x (sub.braced x)
    braced-bounds = rw (drop-cons s p.source.ptr 0 within) (law.braced (get_or s p.source.ptr 0) (drop (suc p.source.ptr) s))

    uses-of : {y : List ℕ} {u : Unit {0}} {ms : List Mark} {k : ℕ} → Bounded left (λ _. 20) y (ok u ms k) → Uses 20 y ms k
    uses-of (used v) = v

    braced-did : Did silent cap p.source.ptr m₁.count m₁.words.now m₂.words.now (told r s₂.ptr m₂.count) (sub.braced x)
    braced-did = rw (capacity₁, g.frame.bytes) at h.did

    module _ (er : r ≡ Ok tt) where
      inner : Found cap p.source.ptr m₁.count s₂.ptr m₂.count m₁.words.now m₂.words.now (sub.braced x)
      inner = found (sub.braced x) braced-did (ap (λ q. told q s₂.ptr m₂.count) er)

      uses : Uses 20 x inner.ms inner.k
      uses = uses-of (subst (Bounded left (λ _. 20) x) inner.is braced-bounds)

      pub placeable-in : Onward p s₂ m₂
      placeable-in =
          let u = uses in
          let q = inner.place in
          let c = inner.count in
          let z = length-drop p.source.ptr s in
          let y = ap length same-bytes in
          let e : m₂.capacity ≡ p.tree.now.capacity = frame₂.tree.capacity in
          record {
            onward = omega (arith, u.room);
            within = omega (arith, u.within);
            spent = omega (arith, g.spent, u.room, w.count);
            room = omega (arith, g.spent, u.room, u.within, w.count, p.holds);
          }

      pub placeable-next : {p₃ : Parser} → p₃.source ≡ s₂ → Wrote m₂ p₃.tree.now (word 113 0 ∷ [])
          → Going sub p₀ p₃ (after_placeable st p₃.tree.now.count)
      placeable-next {p₃} e v =
          let o = placeable-in in
          let h = o.onward in
          let i = inner.place in
          let c = inner.count in
          let y = words-length p.source.ptr inner.ms in
          let ptr₃ : p₃.source.ptr ≡ s₂.ptr = ap (λ (x : Source). x.ptr) e in
          let capacity₂ : m₂.capacity ≡ cap = frame₂.tree.capacity ∙ g.frame.tree.capacity in
          let a : Step cap m₂.count m₂.words.now p₃.tree.now.words.now (word 113 0 ∷ []) = rw capacity₂ at v.step in
          let wrote = step_then (step_then opened-step w.count inner.wrote) (omega (arith, w.count)) a in
          let k : inner.k ≡ p₃.source.ptr - p.source.ptr = omega arith in
          turn-again law
          (brace-turn sub s p.source.ptr g.state within brace ∙ ap (with_placeable g.state) inner.is
          ∙ with-placeable g.state inner.value inner.ms inner.k
          ∙ ap (again (placed_state g.state inner.ms inner.k) []) k)
          (frame-then frame₂ (record { bytes = ap (λ (x : Source). x.bytes) e; tree = v.same }))
          (holds-placeable g.holds inner.ms
          (known-low inner.ms (braced-known formed x inner.is)) wrote inner.k (omega arith)
          (omega (arith, w.count, v.count)))
          (omega (arith, o.spent, v.count)) (omega (arith, o.onward))

    -- it failed
    pub placeable-stops : {e : Stop} → r ≡ Err e → ReadsOf plain p₀.source s₂ p₀.tree.now m₂ (Err e) (get_pattern sub (rest p₀.source))
    placeable-stops {e} q = record { frame = frame-then g.frame frame₂; did = go e (sub.braced x) refl (rw q at braced-did) }
      where
        wrote : {o : Out (Unit {0})} {z : Told (Unit {0})} → Did silent cap p.source.ptr m₁.count m₁.words.now m₂.words.now z o
            → Step cap n p₀.tree.now.words.now m₂.words.now []
        wrote d = step-failed g.holds.wrote (g.holds.count ∙ counted) (step-failed opened-step w.count (failed-wrote d))
          where
            counted : n + 1 + length (provisional at g.state.elements) ≡ n + length (word 11 0 ∷ provisional at g.state.elements)
            counted = omega arith

        is-done : {o : Out (Unit {0})} {v : Out State} → sub.braced x ≡ o → with_placeable g.state o ≡ done v
            → get_pattern sub (drop at s) ≡ finish (drop at s) (after [] g.state.used v)
        is-done e q = turn-done (brace-turn sub s p.source.ptr g.state within brace ∙ ap (with_placeable g.state) e ∙ q)

        go : (e : Stop) (o : Out (Unit {0})) → sub.braced x ≡ o
            → Did silent cap p.source.ptr m₁.count m₁.words.now m₂.words.now (told (Err e) s₂.ptr m₂.count) o
            → Did plain cap at n p₀.tree.now.words.now m₂.words.now (told (Err e) s₂.ptr m₂.count) (get_pattern sub (drop at s))
        go (Error f) o eo d =
            let v = lost o d refl in
            let a = g.holds.place in
            rw (is-done eo (ap (with_placeable g.state) v.is ∙ placeable-bad g.state v.fault v.k) ∙ failed (drop at s) g.state.used v.fault v.k)
            (record {
              answers = ap₂ no
                  (v.moved ∙ ap (λ (i : ℕ). up_fault i v.fault) a ∙ sym (fault-up at g.state.used v.fault)) (omega (arith, v.place));
              wrote = rw words-none (wrote d);
            })
        go TooDeep o eo d =
            let v = far o d refl in
            let a = g.holds.place in
            rw (is-done eo (ap (with_placeable g.state) v.is ∙ placeable-deep g.state v.k) ∙ too-deep (drop at s) g.state.used v.k)
            (record { answers = ap over (omega (arith, v.place)); wrote = rw words-none (wrote d) })
