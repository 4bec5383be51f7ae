-- Pieces written one after another.
use Prim.Native.Nat.{ℕ, zero, suc, ◌+◌, ◌-◌, ◌*◌, ◌^◌, ◌≤◌, ◌<◌}
use native.Mathlib.Nat.{add-zero}
use native.Mathlib.Numerals.{add-one}
use native.Mathlib.Omega.{arith}
use mathlib.Core.Path.{◌≡◌, refl, sym, ap, ap₂, ◌∙◌}
use mathlib.Core.Bool.{Bool, true, false, not}
use mathlib.Core.List.{List, [], ◌∷◌, ◌++◌, append_assoc, append-nil}
use lib.ListN.{length, length-append, set, replicate, length-replicate, replicate-append-replicate}
use lib.Seq.{sets, length-sets}
use lib.Dec.{eqb}
use borrow.Author.Tests.{eq-eqb, ne_eqb}
use Rattle.laws.specs.Sets.{sets-append, sets_last}
use Rattle.syntax.specs.Byte as Byte
use Rattle.syntax.specs.Bytes.{ascii}
use Rattle.syntax.specs.Marks.{Mark}
use Rattle.syntax.specs.Serializer.{Piece, last_of, ◌⊕◌, empty, indent_width, literal, newline, indented, star, if}
use Rattle.syntax.specs.Serializer.{blank_line, comment, free_comment}
use Rattle.output.specs.declared.text.Output.{Output}
use Rattle.output.specs.Put.{DidPut}
use Rattle.output.proofs.Puts.{put-exact}
use Rattle.serializer.specs.declared.writer.TextWriter.{TextWriter}
use Rattle.serializer.specs.Writer.{Place, place_of, text_at, bytes, Room, Wrote, HasWritten}
use Rattle.serializer.specs.Comment.{line_of}
use Rattle.serializer.specs.Serialize.{one_if, raise, lower}

last_of-append : (b : ℕ) (s t : List ℕ) → last_of b (s ++ t) ≡ last_of (last_of b s) t
unfolding last_of
last_of-append b [] t = refl
last_of-append b (x ∷ s) t = last_of-append x s t

-- nothing is written
pub wrote_nothing : {o : List ℕ} {w : Place} → Wrote o o w w empty
unfolding empty last_of
wrote_nothing {w = w} = record { stored = refl; end = sym (add-zero w.at); ending = refl; level = refl }

pub wrote_none : {o : List ℕ} {w : Place} → Wrote o o w w (bytes [])
unfolding last_of
wrote_none {w = w} = record { stored = refl; end = sym (add-zero w.at); ending = refl; level = refl }

pub has_empty : {o : List ℕ} {w : TextWriter} → HasWritten o o w w empty
has_empty = record { wrote = wrote_nothing }

-- another piece with the same bytes here
pub wrote_as : {o o' : List ℕ} {w w' : Place} {p : Piece} (q : Piece) → text_at w p ≡ text_at w q → Wrote o o' w w' p → Wrote o o' w w' q
wrote_as {o} {w = w} q e h =
    record {
      stored = h.stored ∙ ap (λ t. sets o w.at t) e;
      end = h.end ∙ ap (λ t. w.at + length t) e;
      ending = h.ending ∙ ap (λ t. last_of w.last t) e;
      level = h.level;
    }

-- nothing is written, where the piece has no byte
pub has_nothing : {o : List ℕ} {w : TextWriter} {p : Piece} → text_at (place_of w) p ≡ [] → HasWritten o o w w p
has_nothing {p = p} e = record { wrote = wrote_as p (sym e) wrote_none }

-- another piece with the same bytes here
pub has_as : {o o' : List ℕ} {w w' : TextWriter} {p : Piece} (q : Piece) → text_at (place_of w) p ≡ text_at (place_of w) q
    → HasWritten o o' w w' p → HasWritten o o' w w' q
has_as q e h = record { wrote = wrote_as q e h.wrote }

-- a piece, and then another
module _ {o o₁ : List ℕ} {w w₁ : Place} {p : Piece} (h : Wrote o o₁ w w₁ p) (q : Piece) where
  second : text_at w₁ q ≡ q w.indent (last_of w.last (text_at w p))
  second = ap₂ q h.level h.ending

  pub wrote_then : {o₂ : List ℕ} {w₂ : Place} → Wrote o₁ o₂ w₁ w₂ q → Wrote o o₂ w w₂ (p ⊕ q)
  unfolding ◌⊕◌
  wrote_then l =
      let t = text_at w p in
      let u = q w.indent (last_of w.last t) in
      record {
        stored = cc (second, sets-append o w.at t u);
        end = omega (arith, length-append t u, ap length second, h.end, l.end);
        ending = cc (second, last_of-append w.last t u);
        level = l.level ∙ h.level;
      }

  pub room_after : Room w (p ⊕ q) → Room w₁ q
  unfolding ◌⊕◌
  room_after r = omega (arith, length-append (text_at w p) (q w.indent (last_of w.last (text_at w p))), ap length second, h.end)

pub room-before : (w : Place) (p q : Piece) → Room w (p ⊕ q) → Room w p
unfolding ◌⊕◌
room-before w p q r = omega (arith, length-append (text_at w p) (q w.indent (last_of w.last (text_at w p))))

pub has_then : {o o₁ o₂ : List ℕ} {w w₁ w₂ : TextWriter} {p : Piece} → HasWritten o o₁ w w₁ p → (q : Piece)
    → HasWritten o₁ o₂ w₁ w₂ q → HasWritten o o₂ w w₂ (p ⊕ q)
has_then h q l = record { wrote = wrote_then h.wrote q l.wrote }

-- the spaces of an indent
spaces-last : (b n : ℕ) → 1 ≤ n → last_of b (replicate n Byte.space) ≡ Byte.space
unfolding last_of
spaces-last b zero h = absurd (omega arith)
spaces-last b (suc zero) h = refl
spaces-last b (suc (suc n)) h = spaces-last Byte.space (suc n) (omega arith)

pub has-spaces : {o o' : Output} {out : List ℕ} {b i : ℕ} → 1 ≤ i → o.at + indent_width * i < 2 ^ 63
    → DidPut o o' (replicate (indent_width * i) Byte.space) → out ≡ o'.bytes.now
    → HasWritten o.bytes.now out (record { at = o.at; last = b; indent_level = i })
    (record { at = o'.at; last = Byte.space; indent_level = i }) (bytes (replicate (indent_width * i) Byte.space))
has-spaces {b = b} {i} h l d e =
    let width = indent_width * i in
    record {
      wrote = record {
        stored = e ∙ d.put.stored;
        end = put-exact d.put (omega (arith, length-replicate width Byte.space));
        ending = sym (spaces-last b width (omega arith));
        level = refl;
      };
    }

-- the bytes of a line end, and of a literal, where the writer stands
module _ (w : Place) where
  pub newline-doubled : w.last ≡ Byte.carriage_return → text_at w newline ≡ Byte.carriage_return ∷ Byte.line_feed ∷ []
  unfolding newline
  newline-doubled e = rw (eq-eqb w.last Byte.carriage_return e, newline)

  pub newline-alone : (w.last ≡ Byte.carriage_return → ⊥) → text_at w newline ≡ Byte.line_feed ∷ []
  unfolding newline
  newline-alone e = rw (ne_eqb w.last Byte.carriage_return e, newline)

  pub literal-indented : (t : List ℕ) → w.last ≡ Byte.line_feed → text_at w (literal t) ≡ replicate (indent_width * w.indent) Byte.space ++ t
  unfolding literal
  literal-indented t e = rw (eq-eqb w.last Byte.line_feed e, literal)

  pub literal-plain : (t : List ℕ) → (w.last ≡ Byte.line_feed → ⊥) → text_at w (literal t) ≡ t
  unfolding literal
  literal-plain t e = rw (ne_eqb w.last Byte.line_feed e, literal)

  -- the indent where a line begins, and then the bytes
  literal-split : (t : List ℕ) → text_at w (literal [] ⊕ bytes t) ≡ text_at w (literal t)
  unfolding literal ◌⊕◌
  literal-split t = split (eqb w.last Byte.line_feed)
    where
      split : (b : Bool)
          → (elim b [ true ↦ replicate (indent_width * w.indent) Byte.space ++ [] | false ↦ [] ] ++ t)
          ≡ elim b [ true ↦ replicate (indent_width * w.indent) Byte.space ++ t | false ↦ t ]
      split true = ap (λ r. r ++ t) (append-nil (replicate (indent_width * w.indent) Byte.space))
      split false = refl

  pub room-line : (t : List ℕ) → Room w (literal t) → Room w (literal [])
  room-line t r = room-before w (literal []) (bytes t) (rw (literal-split t) r)

  pub room-literal : {o o₁ : List ℕ} {w₁ : Place} (t : List ℕ) → Wrote o o₁ w w₁ (literal []) → Room w (literal t) → Room w₁ (bytes t)
  room-literal t h r = room_after h (bytes t) (rw (literal-split t) r)

  pub wrote-literal : {o o₁ o₂ : List ℕ} {w₁ w₂ : Place} (t : List ℕ) → Wrote o o₁ w w₁ (literal [])
      → Wrote o₁ o₂ w₁ w₂ (bytes t) → Wrote o o₂ w w₂ (literal t)
  wrote-literal t h k = wrote_as (literal t) (literal-split t) (wrote_then h (bytes t) k)

  star-length : 1 ≤ w.indent → length (text_at w star) ≡ indent_width * w.indent
  unfolding star
  star-length h =
      rw (
        length-append (replicate (indent_width * w.indent - 1) Byte.space) (Byte.star ∷ []),
        length-replicate (indent_width * w.indent - 1) Byte.space,
      )
      (omega arith)

  pub room-star : 1 ≤ w.indent → Room w star → w.at + indent_width * w.indent < 2 ^ 63
  room-star h r = omega (arith, star-length h)

  -- the star in the place of the last space
  pub wrote-star : {o o₁ o₂ : List ℕ} {w₁ w₂ w₃ : Place} → 1 ≤ w.indent
      → Wrote o o₁ w w₁ (bytes (replicate (indent_width * w.indent) Byte.space))
      → w₂.at ≡ w₁.at - 1 → w₂.indent ≡ w₁.indent → Wrote o₁ o₂ w₂ w₃ (bytes (Byte.star ∷ [])) → Wrote o o₂ w w₃ star
  unfolding star last_of
  wrote-star {o} {w₂ = w₂} h a e i b =
      let m = indent_width * w.indent - 1 in
      let n : indent_width * w.indent ≡ m + 1 = omega arith in
      let spaces : replicate (indent_width * w.indent) Byte.space ≡ replicate m Byte.space
      ++ (Byte.space ∷ []) = ap (λ k. replicate k Byte.space) n ∙ sym (replicate-append-replicate m 1 Byte.space) in
      let long : length (replicate m Byte.space) ≡ m = length-replicate m Byte.space in
      let place : w₂.at
      ≡ w.at + length (replicate m Byte.space) =
      omega (arith, a.end, length-replicate (indent_width * w.indent) Byte.space) in
      record {
        stored = b.stored ∙ ap₂ (λ r k. set r k Byte.star) (a.stored ∙ ap (λ t. sets o w.at t) spaces) place
            ∙ sets_last o w.at (replicate m Byte.space) Byte.space Byte.star;
        end = omega (arith, b.end, star-length h);
        ending = b.ending ∙ sym (last_of-append w.last (replicate m Byte.space) (Byte.star ∷ []));
        level = b.level ∙ i ∙ a.level;
      }

pub has-literal : {o o₁ o₂ : List ℕ} {w w₁ w₂ : TextWriter} (t : List ℕ) → HasWritten o o₁ w w₁ (literal [])
    → HasWritten o₁ o₂ w₁ w₂ (bytes t) → HasWritten o o₂ w w₂ (literal t)
has-literal {w = w} t h k = record { wrote = wrote-literal (place_of w) t h.wrote k.wrote }

-- pieces in a row
pub then-assoc : (p q r : Piece) → ((p ⊕ q) ⊕ r) ≡ (p ⊕ (q ⊕ r))
unfolding ◌⊕◌
then-assoc p q r i level last = same level last i
  where
    same : (level last : ℕ) → ((p ⊕ q) ⊕ r) level last ≡ (p ⊕ (q ⊕ r)) level last
    same level last =
        let t = p level last in
        let u = q level (last_of last t) in
        append_assoc t u (r level (last_of last (t ++ u))) ∙ ap (λ b. t ++ (u ++ r level b)) (last_of-append last t u)

pub then-empty : (p : Piece) → (p ⊕ empty) ≡ p
unfolding ◌⊕◌ empty
then-empty p i level last = append-nil (p level last) i

pub empty-then : (p : Piece) → (empty ⊕ p) ≡ p
unfolding ◌⊕◌ empty last_of
empty-then p = refl

abbrev pub row : List Piece → Piece
row [] = empty
row (p ∷ ps) = p ⊕ row ps

pub record Row (whole : Piece) (rest : List Piece) : Type 0 where
  pub same : whole ≡ row rest

-- On the way: with the rest written, the whole is.
pub record Going (out₀ out : List ℕ) (w₀ w : Place) (whole : Piece) (rest : List Piece) : Type 0 where
  pub room : Room w (row rest)
  pub done : (out' : List ℕ) (w' : Place) → Wrote out out' w w' (row rest) → Wrote out₀ out' w₀ w' whole

pub going : {whole : Piece} {rest : List Piece} (o : List ℕ) (w : Place) → Row whole rest → Room w whole → Going o o w w whole rest
going o w e r = record { room = rw e.same at r; done = λ o' w' h. rw e.same h }

module _ {o₀ o : List ℕ} {w₀ w : Place} {whole p : Piece} {rest : List Piece} (g : Going o₀ o w₀ w whole (p ∷ rest)) where
  pub room-first : Room w p
  room-first = room-before w p (row rest) g.room

  pub going_on : {o₁ : List ℕ} {w₁ : Place} → Wrote o o₁ w w₁ p → Going o₀ o₁ w₀ w₁ whole rest
  going_on h = record { room = room_after h (row rest) g.room; done = λ o' w' l. g.done o' w' (wrote_then h (row rest) l) }

-- nothing is left
pub gone : {o₀ o : List ℕ} {w₀ w : Place} {whole : Piece} → Going o₀ o w₀ w whole [] → Wrote o₀ o w₀ w whole
gone {o = o} {w = w} g = g.done o w wrote_nothing

-- a piece that is a row itself
row-append : (ps qs : List Piece) → row (ps ++ qs) ≡ (row ps ⊕ row qs)
row-append [] qs = sym (empty-then (row qs))
row-append (p ∷ ps) qs = ap (λ r. p ⊕ r) (row-append ps qs) ∙ sym (then-assoc p (row ps) (row qs))

pub going-as : {o₀ o : List ℕ} {w₀ w : Place} {whole p : Piece} {qs rest : List Piece} → Row p qs
    → Going o₀ o w₀ w whole (p ∷ rest) → Going o₀ o w₀ w whole (qs ++ rest)
going-as {p = p} {qs} {rest} e g =
    let same : (p ⊕ row rest) ≡ row (qs ++ rest) = ap (λ r. r ⊕ row rest) e.same ∙ sym (row-append qs rest) in
    record { room = rw same at g.room; done = λ o' w' h. g.done o' w' (rw same h) }

pub one : (p : Piece) → Row p (p ∷ [])
one p = record { same = sym (then-empty p) }

pub two : (p q : Piece) → Row (p ⊕ q) (p ∷ q ∷ [])
two p q = record { same = ap (λ r. p ⊕ r) (sym (then-empty q)) }

pub three : (p q r : Piece) → Row (p ⊕ q ⊕ r) (p ∷ q ∷ r ∷ [])
three p q r = record { same = ap (λ z. p ⊕ z) (two q r).same }

pub four : (p q r s : Piece) → Row (p ⊕ q ⊕ r ⊕ s) (p ∷ q ∷ r ∷ s ∷ [])
four p q r s = record { same = ap (λ z. p ⊕ z) (three q r s).same }

pub row_same : {p q : Piece} {rest : List Piece} → p ≡ q → Row q rest → Row p rest
row_same e r = record { same = e ∙ r.same }

-- at most one
pub one-most : (b : Bool) → one_if b ≤ 1
one-most true = omega arith
one-most false = omega arith

-- between indent and dedent, where b
abbrev pub within : Bool → Piece → Piece
within b p = elim b [ true ↦ indented p | false ↦ p ]

within_text : (b : Bool) (w : Place) (p : Piece) → text_at w (within b p) ≡ text_at (raise b w) p
unfolding indented
within_text true w p = ap (λ n. p n w.last) (sym (add-one w.indent))
within_text false w p = ap (λ n. p n w.last) (sym (add-zero w.indent))

module _ (b : Bool) (w : Place) (p : Piece) where
  pub room_within : Room w (within b p) → Room (raise b w) p
  room_within r = rw (within_text b w p) at r

  pub wrote-within : {o o' : List ℕ} {w' : Place} → Wrote o o' (raise b w) w' p → Wrote o o' w (lower b w') (within b p)
  wrote-within {o} h =
      let e = sym (within_text b w p) in
      record {
        stored = h.stored ∙ ap (λ t. sets o w.at t) e;
        end = h.end ∙ ap (λ t. w.at + length t) e;
        ending = h.ending ∙ ap (λ t. last_of w.last t) e;
        level = omega (arith, h.level);
      }

-- a comment's line, blank or not
pub line-blank : (prefix t : List ℕ) → blank_line [] t ≡ true → Row (line_of prefix t) (literal prefix ∷ newline ∷ [])
unfolding line_of if
line-blank prefix t e = record { same = rw (e, line_of) (ap (λ p. literal prefix ⊕ p) (empty-then newline ∙ sym (then-empty newline))) }

pub line-full : (prefix t : List ℕ) → blank_line [] t ≡ false
    → Row (line_of prefix t) (literal prefix ∷ literal (ascii " ") ∷ literal t ∷ newline ∷ [])
unfolding line_of if
line-full prefix t e =
    record {
      same =
          rw (e, line_of)
          (ap (λ p. literal prefix ⊕ p)
          (then-assoc (literal (ascii " ")) (literal t) newline
          ∙ ap (λ p. literal (ascii " ") ⊕ literal t ⊕ p) (sym (then-empty newline))));
    }

pub line-room : (w : Place) (prefix t : List ℕ) → Room w (line_of prefix t) → Room w (literal prefix)
unfolding line_of
line-room w prefix t r = room-before w (literal prefix) (if (not (blank_line [] t)) (literal (ascii " ") ⊕ literal t) ⊕ newline) r

-- a free comment
pub free-row : (source : List ℕ) (wrote : Bool) (prefix : List ℕ) (ms : List Mark)
    → Row (free_comment source wrote prefix ms) (if wrote newline ∷ comment source prefix ms ∷ newline ∷ [])
unfolding free_comment
free-row source wrote prefix ms = record { same = ap (λ p. if wrote newline ⊕ comment source prefix ms ⊕ p) (sym (then-empty newline)) }
