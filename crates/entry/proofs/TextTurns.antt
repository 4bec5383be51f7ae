-- The turns of a pattern's loop at a text.
use Rattle.std.specs.Prelude.{◌≡◌, ℕ, suc, ◌+◌, ◌-◌, ◌<◌, ◌≤◌, Bool, true, false, eqb, ltb, Option, is_some, IfSome, Result, Ok, Err, Some, None, List, [], length, get_or, take, drop}
use mathlib.Core.Path.{refl, sym, ap, ap₂, ◌∙◌, subst}
use native.Mathlib.Nat.{add_assoc}
use native.Mathlib.Decide.{dec_le}
use native.Mathlib.Omega.{arith}
use lib.ListN.{length-drop, drop_of_length-le}
use lib.Seq.{drop-drop, drop-cons, take_all}
use denote.Bor.{Bor}
use Rattle.syntax.specs.declared.errors.ErrorKind.TheVariants as kinds
use Rattle.syntax.specs.declared.errors.ParserError.{ParserError}
use Rattle.syntax.specs.Bytes.{starts_with, spaces}
use Rattle.syntax.specs.Errors.{fault_at, up_fault}
use Rattle.syntax.specs.Marks.{Mark}
use Rattle.syntax.specs.Helper.{skip_blank_inline}
use Rattle.syntax.specs.Reader.{ok, bad, after, Turn, again, done}
use Rattle.syntax.specs.Pattern.{get_text_slice, Slice, State, is_line_start, goes_on, with_text, line_turn, text_turn}
use Rattle.laws.specs.Bytes.{by_case, clash}
use Rattle.laws.specs.Bounds.{Bounded, used}
use Rattle.laws.specs.Bounds.Pattern.{slice-some}
use Rattle.entry.specs.declared.errors.Stop.{Stop}
use Rattle.entry.specs.declared.errors.Stop.TheVariants.{Error}
use Rattle.entry.specs.declared.source.Source.{Source}
use Rattle.entry.specs.declared.marks.Marks.{Marks}
use Rattle.entry.specs.declared.parser.Parser.{Parser}
use Rattle.entry.specs.declared.text.TextSlice.{TextSlice}
use Rattle.entry.specs.declared.pattern.Reading.{Reading}
use Rattle.entry.specs.Reads.{rest, Goes, Frame, Room}
use Rattle.entry.specs.Slice.{slice_of, crlf_width, width_of, Sliced}
use Rattle.entry.specs.Texts.{Standing, standing, stands, starts_line, after_text, count_after, is_part, Texted, Ready}
use Rattle.entry.specs.Texts.{Next, TextTurn, Turned, TextDid, turn_told, Turns}
use Rattle.entry.proofs.Steps.{step_cut}
use Rattle.entry.proofs.Dids.{fault-up}
use Rattle.entry.proofs.Chains.{frame-then}
use Rattle.entry.proofs.Settle.{byte-got}
use Rattle.entry.proofs.Held.{line-is, text_state, holds_text}

-- ---- the part of the source that a text reader is handed
rest_of : (s : List ℕ) (a : ℕ) → take (length s - a) (drop a s) ≡ drop a s
rest_of s a = take_all (length s - a) (drop a s) (let z = length-drop a s in omega arith)

-- ---- a text that starts with no placeable takes a byte
starts-cons : (s : List ℕ) (a b : ℕ) → a < length s → starts_with b (drop a s) ≡ eqb (get_or s a 0) b
unfolding starts_with
starts-cons s a b h = rw (drop-cons s a 0 h)

text-moves : (s : List ℕ) (a : ℕ) {x : Slice} {k : ℕ} → a < length s → starts_with 123 (drop a s) ≡ false
    → get_text_slice (drop a s) ≡ ok x [] k → 0 < k
text-moves s a h f e =
    let c = drop-cons s a 0 h in
    go
    (subst (Bounded 0 (λ _. 8) _) (ap get_text_slice (sym c) ∙ e)
    (slice-some (get_or s a 0) (drop (suc a) s) (sym (starts-cons s a 123 h) ∙ f)))
  where
    go : {y : List ℕ} {x : Slice} {k : ℕ} → Bounded 0 (λ _. 8) y (ok x [] k) → 0 < k
    go (used u) = omega (arith, u.room)

-- ---- a text after an indent
count-le : (v : Bool) (n : ℕ) → count_after v n ≤ n + 2
count-le true n = omega arith
count-le false n = omega arith

fault-on : (a k : ℕ) → up_fault a (fault_at kinds.UnbalancedClosingBrace k) ≡ fault_at kinds.UnbalancedClosingBrace (a + k)
fault-on a k = simp add_assoc

with-next : (d : State) (i : ℕ) (x : Slice) (ms : List Mark) (k : ℕ) → with_text d i (ok x ms k) ≡ again (text_state d i x k) [] (i + k)
unfolding with_text
with-next d i x ms k = refl

with-bad : (d : State) (i : ℕ) (f : ParserError) (k : ℕ) → with_text d i (bad f k) ≡ done (bad (up_fault i f) (i + k))
unfolding with_text after
with-bad d i f k = refl

module _ {p : Parser} {st : Reading} {start : ℕ} (ready : Ready p st start) where
  abbrev bytes : List ℕ
  bytes = p.source.bytes.now

  abbrev handed : List ℕ
  handed = take (length bytes - p.source.ptr) (drop p.source.ptr bytes)

  pub text-within : (x : TextSlice) → Sliced handed (Ok x) → p.source.ptr + width_of x ≤ length bytes
  text-within x h =
      let q = h.within in
      let z = length-drop p.source.ptr bytes in
      let e = ap length (rest_of bytes p.source.ptr) in
      omega (arith, ready.inside)

  pub brace-within : (k : ℕ) → Sliced handed (Err k) → p.source.ptr + k ≤ length bytes
  brace-within k h =
      let q = h.within in
      let z = length-drop p.source.ptr bytes in
      let e = ap length (rest_of bytes p.source.ptr) in
      omega (arith, ready.inside)

  text-onward : (x : TextSlice) → get_text_slice (rest p.source) ≡ ok (slice_of x) [] (width_of x)
      → start < p.source.ptr + x.size + crlf_width x.ending
  text-onward x e =
      let o = ready.order in
      by_case (starts_with 123 (rest p.source))
      (λ q. let m = ready.moves q in omega arith)
      (λ q. let m = text-moves bytes p.source.ptr ready.inside q e in omega arith)

  pub text-next : {p' : Parser} {st' : Reading} (x : TextSlice) → Sliced handed (Ok x) → Texted st start x p p' st'
      → Turns (standing start p.tree.now.count st) p p' (λ d. with_text d (p.source.ptr - start) (get_text_slice (rest p.source))) (Ok (Some st'))
  text-next {p'} {st'} x h w =
      let b = text-within x h in
      let o = ready.order in
      let q : get_text_slice (rest p.source) ≡ ok (slice_of x) [] (width_of x) =
      ap get_text_slice (sym (rest_of bytes p.source.ptr)) ∙ h.answers in
      let m = text-onward x q in
      let c = count-le (is_part (starts_line st.role) x) p.tree.now.count in
      let i = p.source.ptr - start in
      let z : i + width_of x ≡ p.source.ptr + x.size + crlf_width x.ending - start = omega arith in
      let g : TextDid bytes p.tree.now.capacity p.tree.now.words.now p'.tree.now.words.now (standing start p.tree.now.count st)
      (λ d. with_text d i (get_text_slice (rest p.source))) (Next (after_text (standing start p.tree.now.count st) p.source.ptr x)) =
      record {
        long = w.wrote.long;
        onward = (m, omega arith, c);
        held = λ at n t₀ d hd. record {
          it = text_state d i (slice_of x) (width_of x);
          is = (
            ap (with_text d i) q ∙ with-next d i (slice_of x) [] (width_of x) ∙ ap (again (text_state d i (slice_of x) (width_of x)) []) z,
            holds_text p.source.ptr x hd o (omega arith) ready.spaced w.wrote,
          );
        };
      } in
      record { frame = w.frame; stays = tt; did = rw w.state g }

  pub text-bad : {p' : Parser} (k : ℕ) {f : ParserError} → Sliced handed (Err k) → Frame p.source p'.source p.tree.now p'.tree.now → p'.tree.now.words.now ≡ p.tree.now.words.now
      → p'.source.ptr ≡ p.source.ptr + k → f ≡ fault_at kinds.UnbalancedClosingBrace (p.source.ptr + k)
      → Turns (standing start p.tree.now.count st) p p' (λ d. with_text d (p.source.ptr - start) (get_text_slice (rest p.source)))
      (Err (Error f))
  text-bad {p'} k {f} h fr w v e =
      let b = brace-within k h in
      let o = ready.order in
      let i = p.source.ptr - start in
      let q : get_text_slice (rest p.source) ≡ bad (fault_at kinds.UnbalancedClosingBrace k) k =
      ap get_text_slice (sym (rest_of bytes p.source.ptr)) ∙ h.answers in
      let z : i + k ≡ p'.source.ptr - start = omega arith in
      let y : start + i ≡ p.source.ptr = omega arith in
      record {
        frame = fr;
        stays = tt;
        did = record {
          long = ap length w;
          onward = (omega arith, omega arith);
          held = λ at n t₀ d hd. (
            record {
              it = up_fault i (fault_at kinds.UnbalancedClosingBrace k);
              is = (
                ap (with_text d i) q ∙ with-bad d i (fault_at kinds.UnbalancedClosingBrace k) k
                    ∙ ap (λ (j : ℕ). done (bad (up_fault i (fault_at kinds.UnbalancedClosingBrace k)) j)) z,
                e
                    ∙ sym
                    (fault-up start i (fault_at kinds.UnbalancedClosingBrace k)
                    ∙ ap (λ (j : ℕ). up_fault j (fault_at kinds.UnbalancedClosingBrace k)) y ∙ fault-on p.source.ptr k),
              );
            },
            rw w (step_cut hd.wrote),
          );
        };
      }

-- ---- a turn at a text
did-as : {s t t' : List ℕ} {cap : ℕ} {st : Standing} {r : TextTurn} {f g : State → Turn State State} → TextDid s cap t t' st f r
    → ((d : State) → is_line_start d.role ≡ starts_line st.role → f d ≡ g d) → TextDid s cap t t' st g r
did-as {s} {t} {t'} {cap} {st} {r} {f} {g} h e =
    record {
      long = h.long;
      onward = h.onward;
      held =
          λ at n t₀ d hd. subst (λ (o : Turn State State). Turned s cap at n t₀ t' st d o r)
          (e d (line-is d st.role hd.role)) (h.held at n t₀ d hd);
    }

-- the parser p₁, after the indent if there is one, is at the text that the turn from p reads
pub record AtText (p p₁ : Parser) (st : Reading) : Type 0 where
  pub bytes : p₁.source.bytes ≡ p.source.bytes
  pub tree : p₁.tree.now ≡ p.tree.now
  pub ready : Ready p₁ st p.source.ptr
  pub turn : (d : State) → is_line_start d.role ≡ starts_line st.role
      → with_text d (p₁.source.ptr - p.source.ptr) (get_text_slice (drop p₁.source.ptr p.source.bytes.now)) ≡ text_turn d (rest p.source)

pub turn-text : {p p₁ p₂ : Parser} {st : Reading} {r : Result (Option Reading) Stop} → AtText p p₁ st
    → Turns (standing p.source.ptr p₁.tree.now.count st) p₁ p₂ (λ d. with_text d (p₁.source.ptr - p.source.ptr) (get_text_slice (rest p₁.source))) r
    → Turns (stands p st) p p₂ (λ d. text_turn d (rest p.source)) r
turn-text {p} {p₁} {p₂} {st} {r} a h =
    let g : TextDid p.source.bytes.now p.tree.now.capacity p.tree.now.words.now p₂.tree.now.words.now (stands p st)
    (λ d. with_text d (p₁.source.ptr - p.source.ptr) (get_text_slice (drop p₁.source.ptr p.source.bytes.now))) (turn_told r p₂) =
    rw (a.bytes, a.tree) at h.did in
    record {
      frame = frame-then (record { bytes = a.bytes; tree = rw a.tree (record { words = refl; capacity = refl }) }) h.frame;
      stays = rw a.tree at h.stays;
      did = did-as g a.turn;
    }

module _ (p : Parser) (st : Reading) (room : Room p 1) (inside : p.source.ptr < length p.source.bytes.now)
    (brace : starts_with 123 (rest p.source) ≡ false) where
  abbrev start : ℕ
  start = p.source.ptr

  abbrev source : List ℕ
  source = p.source.bytes.now

  pub text-here : starts_line st.role ≡ false → AtText p p st
  unfolding text_turn
  text-here e =
      let z : start - start ≡ 0 = omega arith in
      record {
        bytes = refl;
        tree = refl;
        ready = record {
          order = omega arith;
          inside = inside;
          room = omega (arith, room.spent, p.holds);
          spaced = λ q. clash q e;
          moves = λ q. clash q brace;
        };
        turn = λ d q. rw (text_turn, q ∙ e, z);
      }

  module _ (et : starts_line st.role ≡ true) {s₁ : Source} {i : ℕ} (g : Goes p.source s₁ (skip_blank_inline (rest p.source)) i) where
    indent : (i ≡ spaces (rest p.source)) × (s₁.ptr - start ≡ spaces (rest p.source))
    unfolding skip_blank_inline
    indent = let e = g.went.answers in (cc, cc)

    line-is-turn : (d : State) → is_line_start d.role ≡ starts_line st.role
        → text_turn d (rest p.source) ≡ line_turn d (s₁.ptr - start) (drop s₁.ptr source)
    unfolding text_turn
    line-is-turn d q =
        let o = g.went.onward in
        let e = indent.1 in
        let z : start + spaces (rest p.source) ≡ s₁.ptr = omega arith in
        rw (text_turn, q ∙ et, e)
        (ap (line_turn d (spaces (rest p.source))) (drop-drop (spaces (rest p.source)) start source ∙ ap (λ (k : ℕ). drop k source) z))

    pub line-end : {p' : Parser} → p'.source.bytes ≡ s₁.bytes → p'.source.ptr ≡ s₁.ptr → p'.tree.now ≡ p.tree.now → length s₁.bytes.now ≤ s₁.ptr
        → Turns (stands p st) p p' (λ d. text_turn d (rest p.source)) (Ok None)
    unfolding line_turn
    line-end {p'} a k b e =
        let z = drop_of_length-le source {i = s₁.ptr} (rw g.bytes at e) in
        let o = g.went.onward in
        let l = g.went.within in
        record {
          frame = record {
            bytes = a ∙ g.bytes;
            tree = rw b (record { words = refl; capacity = refl });
          };
          stays = ap (λ (m : Marks). m.count) b;
          did = rw (k, b) (record {
            long = refl;
            onward = (omega arith, omega arith);
            held = λ at n t₀ d hd. (line-is-turn d (line-is d st.role hd.role) ∙ ap (line_turn d (s₁.ptr - start)) z, hd);
          });
        }

    -- the code looked for a byte, and found one
    module _ {r : Option (Bor ℕ)} {x : Bor ℕ} (looked : is_some r ≡ ltb s₁.ptr (length s₁.bytes.now))
        (got : IfSome r (λ y. y.now ≡ get_or s₁.bytes.now s₁.ptr y.now)) (er : r ≡ Some x) {v : Bool} (ev : v ≡ goes_on i x.now) where
      byte : (s₁.ptr < length s₁.bytes.now) × (x.now ≡ get_or s₁.bytes.now s₁.ptr 0)
      byte = byte-got s₁.bytes.now s₁.ptr r x looked got er

      l : s₁.ptr < length source
      l = rw g.bytes at byte.0

      goes-is : v ≡ goes_on (s₁.ptr - start) (get_or source s₁.ptr 0)
      goes-is =
          ev
          ∙ ap₂ goes_on (indent.0 ∙ sym indent.1) (byte.1 ∙ ap (λ (b : Bor (List ℕ)). get_or b.now s₁.ptr 0) g.bytes)

      pub line-stop : {p' : Parser} → p'.source.bytes ≡ p.source.bytes → p'.source.ptr ≡ start → p'.tree.now ≡ p.tree.now → v ≡ false
          → Turns (stands p st) p p' (λ d. text_turn d (rest p.source)) (Ok None)
      unfolding line_turn
      line-stop {p'} a k b e =
          let z : start - start ≡ 0 = omega arith in
          record {
            frame = record { bytes = a; tree = rw b (record { words = refl; capacity = refl }) };
            stays = ap (λ (m : Marks). m.count) b;
            did = rw (k, b) (record {
              long = refl;
              onward = (omega arith, omega arith);
              held =
                  λ at n t₀ d hd. (
                    line-is-turn d (line-is d st.role hd.role) ∙ stops d ∙ ap (λ (j : ℕ). done (ok d [] j)) (sym z),
                    hd,
                  );
            });
          }
        where
          stops : (d : State) → line_turn d (s₁.ptr - start) (drop s₁.ptr source) ≡ done (ok d [] 0)
          stops d = rw (drop-cons source s₁.ptr 0 l, line_turn, sym goes-is ∙ e)

      pub line-on : {p₁ : Parser} → p₁.source.bytes ≡ s₁.bytes → p₁.source.ptr ≡ s₁.ptr → p₁.tree.now ≡ p.tree.now → v ≡ true
          → AtText p p₁ st
      unfolding line_turn
      line-on {p₁} a k b e =
          let o = g.went.onward in
          let c : p₁.source.bytes ≡ p.source.bytes = a ∙ g.bytes in
          record {
            bytes = c;
            tree = b;
            ready = record {
              order = omega arith;
              inside = rw (c, k) l;
              room = rw b (omega (arith, room.spent, p.holds));
              spaced = λ q. rw (c, k) indent.1;
              moves = λ q. rw k (moves (rw (c, k) at q));
            };
            turn = λ d q. rw k (sym (line-is-turn d q ∙ on d));
          }
        where
          on : (d : State) → line_turn d (s₁.ptr - start) (drop s₁.ptr source) ≡ with_text d (s₁.ptr - start) (get_text_slice (drop s₁.ptr source))
          on d = rw (drop-cons source s₁.ptr 0 l, line_turn, sym goes-is ∙ e)

          moves : starts_with 123 (drop s₁.ptr source) ≡ true → start < s₁.ptr
          moves q = go (dec_le s₁.ptr start)
            where
              go : Dec (s₁.ptr ≤ start) → start < s₁.ptr
              go (yes h) = let z : s₁.ptr ≡ start = omega (arith, g.went.onward) in clash q (rw z brace)
              go (no h) = omega arith
