-- The scan of a string literal: escapes, and turns over plain bytes.
use Rattle.std.specs.Prelude.{◌≡◌, ℕ, ◌+◌, ◌-◌, ◌<◌, ◌≤◌, min, true, leb, List, [], ◌∷◌, length, take, drop, Option, Some, None, Result, Ok, Err}
use Rattle.std.specs.Char.{is_ascii_hexdigit}
use denote.Ref.{Bor}
use mathlib.Core.Path.{refl, sym, ap, ◌∙◌}
use mathlib.Core.Logic.{◌⊎◌, inl, inr}
use native.Mathlib.Omega.{arith}
use lib.ListN.{length-drop, drop_of_length-le}
use lib.Seq.{drop-drop, take_all}
use borrow.Author.Tests.{eq-eqb, ne_eqb}
use Rattle.syntax.specs.Byte as Byte
use Rattle.syntax.specs.Bytes.{starts_with, run, is_hex, first_width}
use Rattle.syntax.specs.declared.errors.ErrorKind.TheVariants.{UnknownEscapeSequence, InvalidUnicodeEscapeSequence}
use Rattle.syntax.specs.declared.errors.ErrorKind.TheVariants.{UnterminatedStringLiteral}
use Rattle.syntax.specs.declared.errors.ParserError.{ParserError}
use Rattle.syntax.specs.Errors.{fault_at, up_fault}
use Rattle.syntax.specs.Marks.{move_up}
use Rattle.syntax.specs.Reader.{ok, bad, fail, after, Turn, again, done, turn_of, repeat}
use Rattle.syntax.specs.Helper.{skip_unicode_escape_sequence}
use Rattle.syntax.specs.Expression.{escape_turn, string_turn}
use Rattle.laws.specs.Ascii.{hex-std}
use Rattle.laws.specs.Bytes.{by_case, clash, run-le}
use Rattle.laws.specs.Loop.Turns.{string_turn-moves}
use Rattle.utf8.specs.Utf8.{width_of_first}
use Rattle.entry.specs.Place.{Place, At, Bad, Passed, Found, Counted}
use Rattle.entry.specs.declared.errors.Stop.{Stop}
use Rattle.entry.specs.declared.errors.Stop.TheVariants.{Error, TooDeep}
use Rattle.entry.specs.declared.source.Source.{Source}
use Rattle.entry.specs.Reads.{rest, Finds}
use Rattle.entry.specs.Scan.{Onward, Ended, Turned, Escapes}
use Rattle.entry.proofs.Tests.{Got, got_end, got-rest, Stands}
use Rattle.entry.proofs.Run.{run-counted, counted-by, run_take}
use Rattle.entry.proofs.Places.{found_ok, found-fault, found-fail, found_at, found-bad, found_after}
use Rattle.entry.proofs.Moves.{no-stop, finds-bad}
use Rattle.entry.proofs.Turns.{Turning, turning-more, found-turns}

-- ---- widths of characters

pub width-got : {s : List ℕ} {i : ℕ} {w : ℕ} (o : Option (Bor ℕ)) → Got s i o → w ≡ elim o [ None ↦ 0 | Some x ↦ width_of_first x.now ]
    → w ≡ first_width (drop i s)
unfolding first_width width_of_first
width-got None g e = e ∙ rw (got_end g) refl
width-got (Some x) g e = e ∙ rw (got-rest g) refl

pub width-le : (x : List ℕ) → first_width x ≤ 4
unfolding first_width
width-le [] = omega arith
width-le (b ∷ x) =
    by_case (leb b 127) (λ e. rw (e, first_width) (omega arith))
    (λ e. by_case (leb b 223) (λ f. rw (e, f, first_width) (omega arith))
    (λ f. by_case (leb b 239) (λ g. rw (e, f, g, first_width) (omega arith)) (λ g. rw (e, f, g, first_width) (omega arith))))

-- ---- unicode escapes

module _ (len : ℕ) (x : List ℕ) where
  full : min len (run is_hex x) ≡ len → skip_unicode_escape_sequence len x ≡ ok tt [] (min len (run is_hex x))
  unfolding skip_unicode_escape_sequence
  full h = rw (eq-eqb (min len (run is_hex x)) len h, skip_unicode_escape_sequence)

  short : (min len (run is_hex x) ≡ len → ⊥)
      → skip_unicode_escape_sequence len x ≡ bad
      (fault_at
      (InvalidUnicodeEscapeSequence 0 (min len (run is_hex x) + first_width (drop (min len (run is_hex x)) x)))
      (min len (run is_hex x)))
      (min len (run is_hex x))
  unfolding skip_unicode_escape_sequence
  short h = rw (ne_eqb (min len (run is_hex x)) len h, skip_unicode_escape_sequence)

  pub unicode-full : (n : ℕ) → n ≡ min len (run is_hex x) → n ≡ len → skip_unicode_escape_sequence len x ≡ ok tt [] n
  unicode-full n e h = full (sym e ∙ h) ∙ rw e

  pub unicode-short : (n : ℕ) → n ≡ min len (run is_hex x) → (n ≡ len → ⊥)
      → skip_unicode_escape_sequence len x ≡ bad (fault_at (InvalidUnicodeEscapeSequence 0 (n + first_width (drop n x))) n) n
  unicode-short n e h = short (λ z. h (e ∙ z)) ∙ rw e

-- hexadecimal digits at the start of a slice's end, `len` of them at the most
pub passed-hex : (len m : ℕ) {s : List ℕ} {at n : ℕ} → at ≤ length s → m ≡ min len (length s - at)
    → Counted (λ b r. r ≡ is_ascii_hexdigit b) (take m (take (length s - at) (drop at s))) n → Passed s at (min len (run is_hex (drop at s))) (at + n)
passed-hex len m {s} {at} {n} l k h =
    let d : length (drop at s) ≡ length s - at = length-drop at s in
    let q : length (drop at s) ≤ length s - at = omega arith in
    let f : run is_hex (take m (drop at s)) ≡ n = rw (take_all (length s - at) (drop at s) q) at (run-counted is_hex (counted-by is_hex (λ b r e. e ∙ hex-std b) h)) in
    let e = run_take is_hex m (drop at s) in
    let w = run-le is_hex (drop at s) in
    record { end = omega arith; within = omega arith }

module _ (s : List ℕ) (at len i : ℕ) (p : Passed s at (min len (run is_hex (drop at s))) i) where
  used : i - at ≡ min len (run is_hex (drop at s))
  used = omega (arith, p.end)

  -- the error's argument goes through the first wrong character
  pub found-short : (w : ℕ) (e : ParserError) → (i - at ≡ len → ⊥) → w ≡ first_width (drop i s)
      → e ≡ fault_at (InvalidUnicodeEscapeSequence at (i + w)) i
      → Found s at (skip_unicode_escape_sequence len (drop at s)) (Bad e i)
  found-short w e h q f = found-fault (unicode-short len (drop at s) (i - at) used h) sum p.within (f ∙ moved)
    where
      sum : i ≡ at + (i - at)
      sum = omega (arith, p.end)

      wide : w ≡ first_width (drop (i - at) (drop at s))
      wide = q ∙ ap first_width (ap (λ (k : ℕ). drop k s) sum ∙ sym (drop-drop (i - at) at s))

      moved : fault_at (InvalidUnicodeEscapeSequence at (i + w)) i
          ≡ up_fault at (fault_at (InvalidUnicodeEscapeSequence 0 (i - at + first_width (drop (i - at) (drop at s))))
          (i - at))
      moved =
          let one : i + 1 ≡ at + (i - at + 1) = omega (arith, p.end) in
          let from : at ≡ at + 0 = omega arith in
          let till : i + w ≡ at + (i - at + first_width (drop (i - at) (drop at s))) = omega (arith, p.end, wide) in
          λ j. record { start = sum j; end = one j; kind = InvalidUnicodeEscapeSequence (from j) (till j) }

-- ---- escapes

turned-unicode : (s : List ℕ) (at len : ℕ) (t : Turn (Unit {0}) (Unit {0})) (r : Place)
    → t ≡ turn_of (after [] 2 (skip_unicode_escape_sequence len (drop (at + 2) s)))
    → Found s (at + 2) (skip_unicode_escape_sequence len (drop (at + 2) s)) r → Turned s at t r
unfolding turn_of after move_up
turned-unicode s at len t (At i) h f =
    let w = found_at f refl in
    let e : 2 + w.k ≡ i - at = omega (arith, w.place) in
    record { turn = h ∙ rw (w.is, e) refl; onward = omega (arith, w.place); within = f.within }
turned-unicode s at len t (Bad e j) h f =
    let w = found-bad f refl in
    record {
      out = after [] 2 (skip_unicode_escape_sequence len (drop (at + 2) s));
      turn = h ∙ rw w.is refl;
      found = found_after 2 (skip_unicode_escape_sequence len (drop (at + 2) s)) refl f;
    }

escape-turn : (s : List ℕ) (i : ℕ) → starts_with Byte.backslash (drop i s) ≡ true
    → string_turn tt (drop i s) ≡ escape_turn (drop i s) (drop (i + 1) s)
escape-turn s i h = go (drop i s) h ∙ rw drop-drop refl
  where
    go : (x : List ℕ) → starts_with Byte.backslash x ≡ true → string_turn tt x ≡ escape_turn x (drop 1 x)
    go [] q = unfold starts_with in clash q refl
    go (b ∷ x) q = unfold starts_with string_turn in rw (q, string_turn)

-- a byte follows the backslash
module _ {s : List ℕ} (at : ℕ) {b : ℕ} (h : starts_with Byte.backslash (drop at s) ≡ true) (n : Stands s (at + 1) b) where
  escape-by : string_turn tt (drop at s) ≡ escape_turn (drop at s) (b ∷ drop (at + 2) s)
  escape-by = let e : at + 1 + 1 ≡ at + 2 = omega arith in escape-turn s at h ∙ ap (escape_turn (drop at s)) (n.rest ∙ rw e refl)

  pub escape-self : (b ≡ Byte.quote) ⊎ ((b ≡ Byte.backslash) ⊎ (b ≡ Byte.open_brace)) → Onward s at (string_turn tt (drop at s)) (at + 2)
  unfolding escape_turn
  escape-self e = let i = n.inside in
      record { turn = escape-by ∙ go e; onward = omega arith; within = omega arith }
    where
      two : at + 2 - at ≡ 2
      two = omega arith

      go : (b ≡ Byte.quote) ⊎ ((b ≡ Byte.backslash) ⊎ (b ≡ Byte.open_brace))
          → escape_turn (drop at s) (b ∷ drop (at + 2) s) ≡ again tt [] (at + 2 - at)
      go (inl e) = rw (e, two) refl
      go (inr (inl e)) = rw (e, two) refl
      go (inr (inr e)) = rw (e, two) refl

  pub escape-lower : {r : Place} → b ≡ Byte.lower_u → Found s (at + 2) (skip_unicode_escape_sequence 4 (drop (at + 2) s)) r
      → Turned s at (string_turn tt (drop at s)) r
  unfolding escape_turn
  escape-lower {r} e w = turned-unicode s at 4 _ r (escape-by ∙ rw e refl) w

  pub escape-upper : {r : Place} → b ≡ Byte.upper_u → Found s (at + 2) (skip_unicode_escape_sequence 6 (drop (at + 2) s)) r
      → Turned s at (string_turn tt (drop at s)) r
  unfolding escape_turn
  escape-upper {r} e w = turned-unicode s at 6 _ r (escape-by ∙ rw e refl) w

  pub escape-unknown : ((b ≡ Byte.quote) ⊎ ((b ≡ Byte.backslash) ⊎ (b ≡ Byte.open_brace)) → ⊥) → (b ≡ Byte.lower_u → ⊥) → (b ≡ Byte.upper_u → ⊥)
      → Ended s at (string_turn tt (drop at s)) (fault_at (UnknownEscapeSequence b) at) at
  unfolding escape_turn
  escape-unknown q u v = let i = n.inside in record {
    out = fail (UnknownEscapeSequence b) (drop at s);
    turn = escape-by
        ∙ rw (
          ne_eqb b Byte.backslash (λ e. q (inr (inl e))),
          ne_eqb b Byte.open_brace (λ e. q (inr (inr e))),
          ne_eqb b Byte.quote (λ e. q (inl e)),
          ne_eqb b Byte.lower_u u,
          ne_eqb b Byte.upper_u v,
          escape_turn,
        );
    found = found-fail (drop at s) (UnknownEscapeSequence b) refl (omega arith) refl refl;
  }

-- the source ends after the backslash
pub escape_end : {s : List ℕ} (at : ℕ) → starts_with Byte.backslash (drop at s) ≡ true → at ≤ length s → length s ≤ at + 1
    → Ended s at (string_turn tt (drop at s)) (fault_at (UnknownEscapeSequence Byte.space) at) at
unfolding escape_turn
escape_end {s} at h a l =
    record {
      out = fail (UnknownEscapeSequence Byte.space) (drop at s);
      turn = escape-turn s at h ∙ rw (drop_of_length-le s l) refl;
      found = found-fail (drop at s) (UnknownEscapeSequence Byte.space) refl a refl refl;
    }

pub escapes-not : {s : Source} {f : ParserError} {r : Result (Unit {0}) Stop} → Ended s.bytes.now s.ptr (string_turn tt (rest s)) f s.ptr
    → r ≡ Err (Error f) → Escapes s s r
escapes-not e h = rw h (record { bytes = refl; turned = e; shallow = λ q. let z : ◌≡◌ {A = ℕ} 0 1 = cc in omega arith })

-- ---- turns

module _ {s : List ℕ} {i b : ℕ} (n : Stands s i b) where
  pub starts-backslash : b ≡ Byte.backslash → starts_with Byte.backslash (drop i s) ≡ true
  unfolding starts_with
  starts-backslash h = rw n.rest (eq-eqb b Byte.backslash h)

  pub plain-turn : (b ≡ Byte.backslash → ⊥) → (b ≡ Byte.quote → ⊥) → (b ≡ Byte.line_feed → ⊥) → string_turn tt (drop i s) ≡ again tt [] 1
  unfolding string_turn
  plain-turn h q f = rw (n.rest, ne_eqb b Byte.backslash h, ne_eqb b Byte.quote q, ne_eqb b Byte.line_feed f, string_turn)

  pub quote-turn : b ≡ Byte.quote → string_turn tt (drop i s) ≡ done (ok tt [] 0)
  unfolding string_turn
  quote-turn h = rw (n.rest, h) refl

  pub feed-turn : b ≡ Byte.line_feed → string_turn tt (drop i s) ≡ done (fail UnterminatedStringLiteral (drop i s))
  unfolding string_turn fail
  feed-turn h = rw (n.rest, h) refl

pub end-turn : (s : List ℕ) (i : ℕ) → length s ≤ i → string_turn tt (drop i s) ≡ done (ok tt [] 0)
unfolding string_turn
end-turn s i l = rw (drop_of_length-le s l) refl

-- ---- the code's loop

module _ (s₀ s : Source) (b : s.bytes ≡ s₀.bytes) (t : Turning string_turn s₀.bytes.now s₀.ptr tt s.ptr tt) where
  pub scan-escape : {s' : Source} → Escapes s s' (Ok tt) → Turning string_turn s₀.bytes.now s₀.ptr tt s'.ptr tt
  scan-escape {s' = s'} x =
      let w : Onward s₀.bytes.now s.ptr (string_turn tt (drop s.ptr s₀.bytes.now)) s'.ptr = rw b at x.turned in
      turning-more string_turn-moves t w.turn (omega (arith, w.onward)) w.within

  pub scan-plain : {c : ℕ} → Stands s.bytes.now s.ptr c → string_turn tt (rest s) ≡ again tt [] 1
      → record { bytes : s.bytes ≡ s₀.bytes; turns : Turning string_turn s₀.bytes.now s₀.ptr tt (s.ptr + 1) tt }
  scan-plain n h =
      let e : string_turn tt (drop s.ptr s₀.bytes.now) ≡ again tt [] 1 = rw b at h in
      let l : s.ptr < length s₀.bytes.now = rw b at n.inside in
      record { bytes = b; turns = turning-more string_turn-moves t e refl (omega arith) }

  pub scan-fails : {s' : Source} {e : Stop} → Escapes s s' (Err e) → Finds s₀ s' (repeat string_turn tt (rest s₀)) (Err e)
  scan-fails {s' = s'} {e = Error f} x =
      let w : Ended s₀.bytes.now s.ptr (string_turn tt (drop s.ptr s₀.bytes.now)) f s'.ptr = rw b at x.turned in
      record { bytes = x.bytes ∙ b; found = found-turns t w.turn w.found; shallow = x.shallow }
  scan-fails {e = TooDeep} x = absurd (x.shallow refl)

  pub scan-end : string_turn tt (rest s) ≡ done (ok tt [] 0) → Finds s₀ s (repeat string_turn tt (rest s₀)) (Ok tt)
  scan-end h =
      let e : string_turn tt (drop s.ptr s₀.bytes.now) ≡ done (ok tt [] 0) = rw b at h in
      let f : Found s₀.bytes.now s.ptr (ok tt [] 0) (At s.ptr) = found_ok refl (omega arith) t.inside in
      record { bytes = b; found = found-turns t e f; shallow = no-stop }

  pub scan-feed : {c : ℕ} {r : Result (Unit {0}) Stop} → Stands s.bytes.now s.ptr c → c ≡ Byte.line_feed
      → r ≡ Err (Error (fault_at UnterminatedStringLiteral s.ptr)) → Finds s₀ s (repeat string_turn tt (rest s₀)) r
  scan-feed n h e =
      let x : List ℕ = drop s.ptr s₀.bytes.now in
      let g : string_turn tt x ≡ done (fail UnterminatedStringLiteral x) = rw b at (feed-turn n h) in
      finds-bad b (found-turns t g (found-fail x UnterminatedStringLiteral refl t.inside refl refl)) e
