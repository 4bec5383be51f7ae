-- The attributes of a message or a term: turns, of which each reads one or ends them.
use Rattle.std.specs.Prelude.{◌≡◌, ℕ, suc, ◌+◌, ◌-◌, ◌*◌, ◌<◌, ◌≤◌, Bool, true, false, Result, Ok, Err, [], length, drop}
use mathlib.Core.Path.{refl, sym, ap, ap₂, ◌∙◌}
use native.Mathlib.Nat.{add-zero}
use native.Mathlib.Numerals.{add-one}
use native.Mathlib.Omega.{arith}
use lib.Seq.{drop-drop}
use Rattle.syntax.specs.Byte as Byte
use Rattle.syntax.specs.Bytes.{starts_with, spaces}
use Rattle.syntax.specs.declared.errors.ParserError.{ParserError}
use Rattle.syntax.specs.Marks.{move_up}
use Rattle.syntax.specs.Reader.{Out, ok, done, repeat}
use Rattle.syntax.specs.Helper.{skip_blank_inline, take_byte_if}
use Rattle.syntax.specs.Pattern.{Inside}
use Rattle.syntax.specs.Expression.{level}
use Rattle.syntax.specs.Core.{get_attribute, attribute_by, attribute_turn, get_attributes}
use Rattle.laws.specs.Moving.{move_up-length}
use Rattle.laws.specs.Loop.{repeat-again, repeat-done}
use Rattle.laws.specs.Loop.Turns.{attribute_turn-moves}
use Rattle.laws.specs.Bounds.{ok-uses}
use Rattle.laws.specs.Bounds.Expression.{level-bounds}
use Rattle.laws.specs.Bounds.Entry.{attribute-bounds}
use Rattle.entry.specs.declared.errors.Stop.{Stop}
use Rattle.entry.specs.declared.errors.Stop.TheVariants.{Error, TooDeep}
use Rattle.entry.specs.declared.source.Source.{Source}
use Rattle.entry.specs.declared.marks.Marks.{Marks}
use Rattle.entry.specs.Tree.{Step}
use Rattle.entry.specs.Marks.{Same}
use Rattle.entry.specs.Did.{yes, told, plain, silent, Did}
use Rattle.entry.specs.Reads.{rest, Goes, Frame, ReadsOf}
use Rattle.entry.proofs.Steps.{step-none}
use Rattle.entry.proofs.Dids.{Found, found, far, lost, words_up, words-none, did_after, did-far, failed-wrote}
use Rattle.entry.proofs.Chains.{frame-none, frame-then}
use Rattle.entry.proofs.Entries.{taken, taken-one}

-- ---- what a turn does
module _ {s s₁ s₂ : Source} {k : ℕ} {b : Bool} (g : Goes s s₁ (skip_blank_inline (rest s)) k)
    (h : Goes s₁ s₂ (take_byte_if Byte.dot (rest s₁)) b) where
  width : spaces (rest s) ≡ s₁.ptr - s.ptr
  unfolding skip_blank_inline
  width = let q = g.went.answers in cc

  dotted : starts_with Byte.dot (drop (spaces (rest s)) (rest s)) ≡ b
  dotted =
      let p : s.ptr + spaces (rest s) ≡ s₁.ptr = omega (arith, width, g.went.onward) in
      rw (drop-drop, p, ← g.bytes) (taken Byte.dot (rest s₁) h.went.answers)

-- nothing without a '.'
pub turn-none : {s s₁ s₂ : Source} {k : ℕ} (sub : Inside) (n : ℕ) → Goes s s₁ (skip_blank_inline (rest s)) k
    → Goes s₁ s₂ (take_byte_if Byte.dot (rest s₁)) false → attribute_turn sub n (rest s) ≡ done (ok n [] 0)
unfolding attribute_turn
turn-none sub n g h = rw (dotted g h, attribute_turn)

pub turn-some : {s s₁ s₂ : Source} {k : ℕ} (sub : Inside) (n : ℕ) → Goes s s₁ (skip_blank_inline (rest s)) k
    → Goes s₁ s₂ (take_byte_if Byte.dot (rest s₁)) true
    → attribute_turn sub n (rest s) ≡ attribute_by n (s₂.ptr - s.ptr) (get_attribute sub (rest s₂))
unfolding attribute_turn
turn-some {s} {s₁} {s₂} sub n g h =
    let one = taken-one Byte.dot (rest s₁) h.went.answers in
    let w : spaces (rest s) + 1 ≡ s₂.ptr - s.ptr = omega (arith, width g h, g.went.onward, h.went.onward, one) in
    let p : s.ptr + (s₂.ptr - s.ptr) ≡ s₂.ptr = omega (arith, g.went.onward, h.went.onward) in
    rw (dotted g h, attribute_turn, w, drop-drop, p, h.bytes, g.bytes)

-- ---- attributes have come to s and m, n of them: what is read from here on completes the whole
pub record Attributing (left : ℕ) (s₀ s : Source) (m₀ m : Marks) (n : ℕ) : Type 0 where
  pub frame : Frame s₀ s m₀ m
  pub spent : m.count ≤ 8 * s.ptr
  pub few : n ≤ s.ptr
  pub on : (s₂ : Source) (m₂ : Marks) (r : Result ℕ Stop)
      → ReadsOf plain s s₂ m m₂ r (repeat (attribute_turn (level left)) n (rest s))
      → ReadsOf plain s₀ s₂ m₀ m₂ r (get_attributes (level left) (rest s₀))

pub attributing : (left : ℕ) (s : Source) (m : Marks) → m.count ≤ 8 * s.ptr → Attributing left s s m m 0
unfolding get_attributes
attributing left s m h =
    record { frame = frame-none s m; spent = h; few = omega arith; on = λ s₂ m₂ r d. d }

-- they end where a line starts, after the marks so far
ends : {left n : ℕ} {s₀ s s₃ : Source} {m₀ m m₃ : Marks} → Attributing left s₀ s m₀ m n
    → attribute_turn (level left) n (rest s) ≡ done (ok n [] 0) → s₃.bytes ≡ s.bytes → s₃.ptr ≡ s.ptr → Same m m₃
    → m₃.count ≡ m.count → Step m.capacity m.count m.words.now m₃.words.now []
    → ReadsOf plain s₀ s₃ m₀ m₃ (Ok n) (get_attributes (level left) (rest s₀))
ends {left} {n} {s = s} {s₃} {m = m} {m₃} a h b p f c w =
    a.on s₃ m₃ (Ok n)
    (rw (repeat-done (attribute_turn (level left)) n (rest s) h) (record {
      frame = record { bytes = b; tree = f };
      did = record { answers = ap₂ (yes n) (p ∙ sym (add-zero s.ptr)) (c ∙ sym (add-zero m.count)); wrote = rw words-none w };
    }))

pub attributes-end : {left n k : ℕ} {s₀ s s₁ s₂ s₃ : Source} {m₀ m : Marks} → Attributing left s₀ s m₀ m n
    → Goes s s₁ (skip_blank_inline (rest s)) k → Goes s₁ s₂ (take_byte_if Byte.dot (rest s₁)) false
    → s₃.bytes ≡ s₂.bytes → s₃.ptr ≡ s.ptr
    → ReadsOf plain s₀ s₃ m₀ m (Ok n) (get_attributes (level left) (rest s₀))
attributes-end {left} {n} {m = m} a g h b p =
    ends a (turn-none (level left) n g h) (b ∙ h.bytes ∙ g.bytes) p (record { words = refl; capacity = refl }) refl
    (step-none m.capacity m.count m.words.now)

module _ {left n k : ℕ} {s₀ s s₁ s₂ s₃ : Source} {m₀ m m₃ : Marks} (a : Attributing left s₀ s m₀ m n)
    (g : Goes s s₁ (skip_blank_inline (rest s)) k) (h : Goes s₁ s₂ (take_byte_if Byte.dot (rest s₁)) true) where
  module _ (r : Result (Unit {0}) Stop) (d : ReadsOf silent s₂ s₃ m m₃ r (get_attribute (level left) (rest s₂))) where
    turn : {o : Out (Unit {0})} → get_attribute (level left) (rest s₂) ≡ o
        → attribute_turn (level left) n (rest s) ≡ attribute_by n (s₂.ptr - s.ptr) o
    turn q = turn-some (level left) n g h ∙ ap (attribute_by n (s₂.ptr - s.ptr)) q

    bytes : s₃.bytes ≡ s.bytes
    bytes = d.frame.bytes ∙ h.bytes ∙ g.bytes

  pub attributes-deep : ReadsOf silent s₂ s₃ m m₃ (Err TooDeep) (get_attribute (level left) (rest s₂))
      → ReadsOf plain s₀ s₃ m₀ m₃ (Err TooDeep) (get_attributes (level left) (rest s₀))
  unfolding attribute_by
  attributes-deep d =
      let f = far (get_attribute (level left) (rest s₂)) d.did refl in
      a.on s₃ m₃ (Err TooDeep)
      (rw (repeat-done (attribute_turn (level left)) n (rest s) (turn _ d f.is)) (record {
        frame = record { bytes = bytes _ d; tree = d.frame.tree };
        did =
            did-far plain
            (record { k = s₂.ptr - s.ptr + f.k; is = refl; place = omega (arith, f.place, g.went.onward, h.went.onward) })
            (failed-wrote d.did);
      }))

  -- one that fails leaves its line unread, and no marks
  pub attributes-stop : {f : ParserError} {s₄ : Source} {m₄ : Marks}
      → ReadsOf silent s₂ s₃ m m₃ (Err (Error f)) (get_attribute (level left) (rest s₂)) → s₄.bytes ≡ s₃.bytes → s₄.ptr ≡ s.ptr
      → Same m₃ m₄ → m₄.count ≡ m.count → m₄.words.now ≡ m₃.words.now
      → ReadsOf plain s₀ s₄ m₀ m₄ (Ok n) (get_attributes (level left) (rest s₀))
  unfolding attribute_by
  attributes-stop d b p t c w =
      let l = lost (get_attribute (level left) (rest s₂)) d.did refl in
      ends a (turn _ d l.is) (b ∙ bytes _ d) p
      (record { words = t.words ∙ d.frame.tree.words; capacity = t.capacity ∙ d.frame.tree.capacity }) c
      (rw w (failed-wrote d.did))

  pub attributes-more : ReadsOf silent s₂ s₃ m m₃ (Ok tt) (get_attribute (level left) (rest s₂)) → (s.ptr < s₃.ptr) × Attributing left s₀ s₃ m₀ m₃ (n + 1)
  unfolding attribute_by
  attributes-more d =
      let f = found (get_attribute (level left) (rest s₂)) d.did refl in
      let bytes = bytes _ d in
      let u = ok-uses (attribute-bounds (level-bounds left)) (rest s₂) f.is in
      let p : s.ptr + (s₂.ptr - s.ptr) ≡ s₂.ptr = omega (arith, g.went.onward, h.went.onward) in
      let l : s.ptr < s₃.ptr = omega (arith, f.place, u.room, g.went.onward, h.went.onward) in (
        l,
        record {
          frame = frame-then a.frame (record { bytes = bytes; tree = d.frame.tree });
          spent = omega (arith, f.place, f.count, u.room, a.spent, g.went.onward, h.went.onward);
          few = omega (arith, a.few);
          on =
              λ s₄ m₄ x z. a.on s₄ m₄ x
              (let y : Did plain m.capacity (s.ptr + (s₂.ptr - s.ptr + f.k)) (m.count + length (move_up (s₂.ptr - s.ptr) f.ms)) m₃.words.now
              m₄.words.now (told x s₄.ptr m₄.count)
              (repeat (attribute_turn (level left)) (suc n) (drop (s₂.ptr - s.ptr + f.k) (rest s))) = rest-did f p x z in
              record {
                frame = frame-then (record { bytes = bytes; tree = d.frame.tree }) z.frame;
                did =
                    rw (repeat-again (attribute_turn-moves (level-bounds left)) n (rest s) (turn _ d f.is))
                    (did_after (move_up (s₂.ptr - s.ptr) f.ms) (s₂.ptr - s.ptr + f.k) _ (rw (words_up, p) f.wrote) y);
              });
        },
      )
    where
      rest-did : (f : Found m.capacity s₂.ptr m.count s₃.ptr m₃.count m.words.now m₃.words.now (get_attribute (level left) (rest s₂)))
          → s.ptr + (s₂.ptr - s.ptr) ≡ s₂.ptr → {s₄ : Source} {m₄ : Marks} (x : Result ℕ Stop)
          → ReadsOf plain s₃ s₄ m₃ m₄ x (repeat (attribute_turn (level left)) (n + 1) (rest s₃))
          → Did plain m.capacity (s.ptr + (s₂.ptr - s.ptr + f.k)) (m.count + length (move_up (s₂.ptr - s.ptr) f.ms)) m₃.words.now
          m₄.words.now (told x s₄.ptr m₄.count)
          (repeat (attribute_turn (level left)) (suc n) (drop (s₂.ptr - s.ptr + f.k) (rest s)))
      rest-did f p x z =
          let q : s.ptr + (s₂.ptr - s.ptr + f.k) ≡ s₃.ptr = omega (arith, p, f.place) in
          rw (move_up-length, drop-drop, q, ← f.count, ← d.frame.tree.capacity, ← bytes _ d, ← add-one) z.did
