-- The elements of a pattern, by what stands where each starts.
use Prim.Native.Nat.{ℕ, zero, suc, ◌+◌, ◌<◌}
use Rattle.std.proofs.Common.{add_assoc, add-zero, arith, sym, ◌∙◌, subst, drop-drop, eqb-true}
use Rattle.std.specs.Prelude.{◌≡◌, true, ◌&&◌, eqb}
use Rattle.std.proofs.Math.Path.{refl, ap}
use Rattle.std.proofs.Math.Bool.{false}
use mathlib.Core.List.{List, [], ◌∷◌, ◌++◌}
use Rattle.std.proofs.Math.ListN.{drop}
use Rattle.std.proofs.Math.Dec.{eqb-suc-zero}
use Rattle.syntax.specs.Bytes.{starts_with, starts, spaces, eol, run}
use Rattle.syntax.specs.Marks.{Mark, move_up}
use Rattle.syntax.specs.Pattern.{goes_on, is_continuation, is_text_byte}
use Rattle.laws.specs.Bytes.{by_case, clash}
use Rattle.standard.specs.Dialect as Dialect
use Rattle.standard.specs.Dialect.{rust}
use Rattle.standard.specs.Peg as Peg
use Rattle.standard.specs.Peg.{Answer, fits, fails, Parser, many, some, with_first, pure, opt, ◌>>=◌, ◌>>◌, ◌//◌}
use Rattle.standard.specs.Peg.{ahead, bar, void, given, sized, byte, one, eof, ◌but◌}
use Rattle.standard.specs.Steps.{bind-fits, bind-fails, then-fits, then-fails, first, second, some-fails}
use Rattle.standard.specs.Steps.{void-fits, byte_fits, byte-fails, opt-fits, opt-fails, ahead-fits, ahead-fails}
use Rattle.standard.specs.Abstract.{Line, Raw, text, lines, indent, brace-indent, placeable}
use Rattle.standard.specs.Lexical.{line-end, blank-inline, blank-inline?, blank-line, blank-block, any-char}
use Rattle.standard.specs.Lexical.{special-text-char, text-char, indented-char, inline-text, indented-text}
use Rattle.standard.specs.Lexical.{cr-text, block-brace}
use Rattle.standard.specs.Grammar.{Inside, raw_placeable, flat, block-text, raw-placeable, block-placeable, PatternElement}
use Rattle.standard.specs.Blank.{line_ends, line-end-is, no-line-end, opt-inline, blank-inline?-is}
use Rattle.standard.specs.Turns.{AtEnd, many-again, many-none, sized-fits, sized-fails, bar-fits, bar-fails}
use Rattle.standard.specs.Texts.{Sign, end, lf, cr-lf, opens, closes, plain, sign_of, is_text_at, text_run}
use Rattle.standard.specs.Texts.{run-plain, text-char-plain, inline-text-some, inline-text-none}
use Rattle.standard.specs.Blocks.{Block, lf-block, crlf-block, block-stops, lines-many, lines_end, block-many, line-fails}

-- an answer k bytes on, with other raw elements
unfoldable pub onward : (List Raw → List Raw) → ℕ → Answer (List Raw) → Answer (List Raw)
onward f k (fits rs ms j) = fits (f rs) [] (k + j)
onward f k fails = fails

-- what may follow a pattern: a line end, and no "{" on the next line that is not blank; with the blank lines
unfoldable pub closing : Parser (Unit {0})
closing = bar block-brace >> (ahead line-end >> void blank-block)

unfoldable pub closed : List Raw → ℕ → Answer (Unit {0}) → Answer (List Raw)
closed rs k (fits u ms j) = fits rs [] (k + j)
closed rs k fails = fails

unfoldable pub ended : List ℕ → Answer (List (List Raw)) → Answer (List Raw)
ended s (fits rss ms k) = closed (flat rss) k (closing (drop k s))
ended s fails = fails

-- "{" on a line, behind n spaces
unfoldable pub brace_line : ℕ → Answer (Unit {0}) → Answer (List Raw)
brace_line n (fits u ms k) = fits (brace-indent n ∷ placeable ms k ∷ []) [] (n + k)
brace_line n fails = fails

module _ (sub : Inside) where
  -- the elements from here on, and what follows the pattern
  unfoldable pub tail : List ℕ → Answer (List Raw)
  tail s = ended s (many (PatternElement rust sub) s)

  -- the element of a line that is not blank, behind n spaces
  unfoldable pub on_line : ℕ → List ℕ → Answer (List Raw)
  on_line n [] = fails
  on_line n (b ∷ bs) =
      elim (eqb b 123) [
        | true ↦ brace_line n (sub.inline-placeable (b ∷ bs))
        | false ↦ elim (goes_on n b) [ true ↦ fits (indent n ∷ text (text_run (b ∷ bs)) ∷ []) [] (n + text_run (b ∷ bs)) | false ↦ fails ]
      ]

  -- where no element is on the line
  unfoldable pub off_line : ℕ → List ℕ → Answer (List Raw)
  off_line n [] = fits [] [] n
  off_line n (b ∷ bs) = elim (eqb b 123) [ true ↦ fails | false ↦ fits [] [] 0 ]

  unfoldable pub line_by : List ℕ → Answer (List Raw) → Answer (List Raw)
  line_by s (fits rs ms k) = onward (λ more. rs ++ more) k (tail (drop k s))
  line_by s fails = off_line (spaces s) (drop (spaces s) s)

  -- the same from the start of a line that is not blank
  unfoldable pub line_tail : List ℕ → Answer (List Raw)
  line_tail s = line_by s (on_line (spaces s) (drop (spaces s) s))

  -- by what stands on the line
  pub line-end-tail : (s : List ℕ) → drop (spaces s) s ≡ [] → line_tail s ≡ fits [] [] (spaces s)
  unfolding line_tail line_by off_line on_line
  line-end-tail s d = rw (line_tail, d, line_by) (rw d refl)

  pub line-on-tail : (s : List ℕ) (c : ℕ) (cs : List ℕ) (rs : List Raw) (ms : List Mark) (k : ℕ)
      → drop (spaces s) s ≡ c ∷ cs → on_line (spaces s) (c ∷ cs) ≡ fits rs ms k
      → line_tail s ≡ onward (λ more. rs ++ more) k (tail (drop k s))
  unfolding line_tail line_by
  line-on-tail s c cs rs ms k d e = rw (line_tail, d, e) refl

  pub line-off-tail : (s : List ℕ) (c : ℕ) (cs : List ℕ) → drop (spaces s) s ≡ c ∷ cs
      → on_line (spaces s) (c ∷ cs) ≡ fails → line_tail s ≡ elim (eqb c 123) [ true ↦ fails | false ↦ fits [] [] 0 ]
  unfolding line_tail line_by off_line
  line-off-tail s c cs d e = rw (line_tail, d, e) (rw d refl)

-- blank lines before more
unfoldable pub behind : List Line → List Raw → List Raw
behind ls [] = []
behind ls (r ∷ rs) = lines ls ∷ r ∷ rs

-- spaces
inline-some : (s : List ℕ) (n : ℕ) → spaces s ≡ suc n → blank-inline s ≡ fits (suc n) [] (suc n)
inline-some s n e = go (blank-inline s) refl
  where
    go : (o : Answer ℕ) → blank-inline s ≡ o → blank-inline s ≡ fits (suc n) [] (suc n)
    go (fits a ms k) q = q ∙ sym (opt-fits 0 blank-inline s q) ∙ opt-inline s ∙ ap (λ z. fits z [] z) e
    go fails q = let z : ◌≡◌ {A = Answer ℕ} (fits 0 [] 0) (fits (spaces s) [] (spaces s)) =
        sym (opt-fails 0 blank-inline s q)
        ∙ opt-inline s in
        let y : 0 ≡ spaces s = cc in absurd (omega arith)

no-spaces : (s : List ℕ) → spaces s ≡ 0 → starts_with 32 s ≡ false
unfolding spaces run starts_with
no-spaces [] e = refl
no-spaces (b ∷ bs) e = by_case (eqb b 32) (λ q. absurd (omega (arith, rw (q, run) at e))) (λ q. q)

inline-none : (s : List ℕ) → spaces s ≡ 0 → blank-inline s ≡ fails
unfolding blank-inline
inline-none s e = sized-fails (some (byte 32)) s (some-fails (byte 32) s (byte-fails 32 s (no-spaces s e)))

-- indented-char: a text-char but "[", "*", "."
indented-fits : (b : ℕ) (bs : List ℕ) → is_continuation b ≡ true → text-char (b ∷ bs) ≡ fits tt [] 1 → indented-char (b ∷ bs) ≡ fits tt [] 1
unfolding indented-char ◌but◌ bar ◌>>◌ Peg.next Peg.after byte one starts move_up is_continuation
indented-fits b bs c e =
    let d : eqb b 46 ≡ false = by_case (eqb b 46) (λ q. clash {v = false} (rw (is_continuation, q) at c) refl) (λ q. q) in
    let k : eqb b 91 ≡ false =
    by_case (eqb b 91)
    (λ q. by_case (eqb b 125) (λ r. clash {v = false} (rw (is_continuation, d, r) at c) refl)
    (λ r. clash {v = false} (rw (is_continuation, d, r, q) at c) refl))
    (λ q. q) in
    let s : eqb b 42 ≡ false =
    by_case (eqb b 42)
    (λ q. by_case (eqb b 125) (λ r. clash {v = false} (rw (is_continuation, d, r) at c) refl)
    (λ r. clash {v = false} (rw (is_continuation, d, r, k, q) at c) refl))
    (λ q. q) in
    rw (indented-char, ◌but◌, bar, byte, one, starts, d, s, k, e) refl

indented-no-text : (b : ℕ) (bs : List ℕ) → text-char (b ∷ bs) ≡ fails → indented-char (b ∷ bs) ≡ fails
unfolding indented-char ◌but◌ bar ◌>>◌ Peg.next Peg.after byte one starts move_up
indented-no-text b bs e = by_case (eqb b 46) (λ q. rw (indented-char, ◌but◌, bar, byte, one, starts, q) refl)
    (λ q. by_case (eqb b 42) (λ r. rw (indented-char, ◌but◌, bar, byte, one, starts, q, r) refl)
    (λ r. by_case (eqb b 91) (λ u. rw (indented-char, ◌but◌, bar, byte, one, starts, q, r, u) refl)
    (λ u. rw (indented-char, ◌but◌, bar, byte, one, starts, q, r, u, e) refl)))

indented-fails : (b : ℕ) (bs : List ℕ) → is_continuation b ≡ false → eqb b 125 ≡ false → indented-char (b ∷ bs) ≡ fails
unfolding indented-char ◌but◌ bar ◌>>◌ Peg.next Peg.after byte one starts move_up is_continuation
indented-fails b bs c e = by_case (eqb b 46) (λ q. rw (indented-char, ◌but◌, bar, byte, one, starts, q) refl)
    (λ q. by_case (eqb b 42) (λ r. rw (indented-char, ◌but◌, bar, byte, one, starts, q, r) refl)
    (λ r. by_case (eqb b 91) (λ u. rw (indented-char, ◌but◌, bar, byte, one, starts, q, r, u) refl)
    (λ u. clash {v = true} refl (rw (is_continuation, q, e, u, r) at c))))

pub opt-text : (s : List ℕ) → opt 0 inline-text s ≡ fits (text_run s) [] (text_run s)
opt-text s = go (text_run s) refl
  where
    go : (m : ℕ) → text_run s ≡ m → opt 0 inline-text s ≡ fits (text_run s) [] (text_run s)
    go zero e = opt-fails 0 inline-text s (inline-text-none s e) ∙ ap (λ z. fits z [] z) (sym e)
    go (suc m) e = opt-fits 0 inline-text s (inline-text-some s m e) ∙ ap (λ z. fits z [] z) (sym e)

-- a first character, and text
text-behind : (p : Parser (Unit {0})) (b : ℕ) (bs : List ℕ) → p (b ∷ bs) ≡ fits tt [] 1
    → sized (p >> opt 0 inline-text) (b ∷ bs) ≡ fits (suc (text_run bs)) [] (suc (text_run bs))
unfolding Peg.after move_up
text-behind p b bs e =
    sized-fits (p >> opt 0 inline-text) (b ∷ bs)
    (then-fits p (opt 0 inline-text) (b ∷ bs) e ∙ ap (Peg.after [] 1) (opt-text bs)
    ∙ ap (fits (text_run bs) []) (omega arith))

cr-alone : (b : ℕ) (bs : List ℕ) → eqb b 13 ≡ true → starts_with 10 bs ≡ false → (byte 13 >> bar (byte 10)) (b ∷ bs) ≡ fits tt [] 1
unfolding Peg.after move_up starts_with
cr-alone b bs q r = then-fits (byte 13) (bar (byte 10)) (b ∷ bs) (byte_fits 13 (b ∷ bs) q)
    ∙ ap (Peg.after [] 1) (bar-fails (byte 10) bs (byte-fails 10 bs r))

-- a line that starts with spaces starts with no CR
spaced : (s : List ℕ) (n : ℕ) → spaces s ≡ suc n → starts_with 13 s ≡ false
unfolding spaces run starts_with
spaced [] n e = refl
spaced (b ∷ bs) n e = by_case (eqb b 32) (λ q. rw (eqb-true b 32 q) refl) (λ q. absurd (omega (arith, rw (q, run) at e)))

-- a line goes on behind its spaces with a byte that ends no line
cr-goes-on : (b : ℕ) (bs : List ℕ) → eol (b ∷ bs) ≡ 0 → eqb b 13 ≡ true → starts_with 10 bs ≡ false
unfolding eol
cr-goes-on b bs e q = let f : eol (13 ∷ bs) ≡ 0 = subst (λ x. eol (x ∷ bs) ≡ 0) (eqb-true b 13 q) e in
    by_case (starts_with 10 bs) (λ r. absurd (omega (arith, rw (eol, r) at f))) (λ r. r)

no-feed : (b : ℕ) (bs : List ℕ) → eol (b ∷ bs) ≡ 0 → eqb b 10 ≡ false
unfolding eol
no-feed b bs e = by_case (eqb b 10) (λ q. absurd (omega (arith, rw (q, eol) at e))) (λ q. q)

no-cr-feed : (b : ℕ) (bs : List ℕ) → eol (b ∷ bs) ≡ 0 → (eqb b 13 && starts_with 10 bs) ≡ false
no-cr-feed b bs e = by_case (eqb b 13) (λ q. rw (cr-goes-on b bs e q) (rw q refl)) (λ q. rw q refl)

cr-plain : (b : ℕ) → eqb b 13 ≡ true → (eqb b 123 ≡ false) × (eqb b 125 ≡ false)
cr-plain b q = rw (eqb-true b 13 q) (refl, refl)

continues : (b : ℕ) → is_continuation b ≡ true → eqb b 125 ≡ false
unfolding is_continuation
continues b c =
    by_case (eqb b 125)
    (λ q. by_case (eqb b 46) (λ r. clash {v = false} (rw (is_continuation, r) at c) refl)
    (λ r. clash {v = false} (rw (is_continuation, r, q) at c) refl))
    (λ q. q)

pub goes_on-suc : (n b : ℕ) → goes_on (suc n) b ≡ is_continuation b
unfolding goes_on
goes_on-suc n b = rw (goes_on, eqb-suc-zero) refl

-- what goes on with a line's text
pub run_on : (n c : ℕ) (cs : List ℕ) → eol (c ∷ cs) ≡ 0 → eqb c 123 ≡ false → goes_on n c ≡ true → text_run (c ∷ cs) ≡ suc (text_run cs)
unfolding goes_on
run_on zero c cs e q g = let r : eqb c 13 ≡ true =
    by_case (eqb c 13) (λ r. r) (λ r. clash {v = false} (rw (no-feed c cs e, r) at g) refl) in
    run-plain c cs (no-feed c cs e) q (cr-plain c r).1 (no-cr-feed c cs e)
run_on (suc n) c cs e q g = run-plain c cs (no-feed c cs e) q (continues c (sym (goes_on-suc n c) ∙ g)) (no-cr-feed c cs e)

no-text-char : (s : List ℕ) → text_run s ≡ 0 → text-char s ≡ fails
unfolding text-char any-char special-text-char ◌but◌ bar ◌>>◌ Peg.next Peg.after ◌//◌ byte one starts line-end sized eof move_up
no-text-char s e = go (sign_of s) e
  where
    go : {s : List ℕ} → Sign s → text_run s ≡ 0 → text-char s ≡ fails
    go end e = refl
    go (lf s) e = refl
    go (cr-lf s) e = refl
    go (opens s) e = refl
    go (closes s) e = refl
    go (plain b s q r u v) e = absurd (omega (arith, run-plain b s q r u v))

brace-text : (b : ℕ) (bs : List ℕ) → eqb b 123 ≡ true → text_run (b ∷ bs) ≡ 0
unfolding text_run is_text_at is_text_byte
brace-text b bs q = rw (eqb-true b 123 q) refl

close-text : (b : ℕ) (bs : List ℕ) → eqb b 125 ≡ true → text_run (b ∷ bs) ≡ 0
unfolding text_run is_text_at is_text_byte
close-text b bs q = rw (eqb-true b 125 q) refl

-- no blank-block stands where a line goes on
pub block-fails : (s : List ℕ) → line_ends (drop (spaces s) s) ≡ false → blank-block s ≡ fails
unfolding blank-block
block-fails s h = some-fails blank-line s (line-fails s h)

-- What may follow a pattern
-- --------------------------------------------------------------------------------------------------------------------

block-brace-is : (s : List ℕ) {ls : List Line} {u : ℕ} → blank-block s ≡ fits ls [] u
    → block-brace s ≡ Peg.after [] (u + spaces (drop u s)) (byte 123 (drop (spaces (drop u s)) (drop u s)))
unfolding block-brace Peg.after move_up
block-brace-is s {ls} {u} e =
    then-fits (blank-block >> blank-inline?) (byte 123) s
    (then-fits blank-block blank-inline? s e ∙ ap (Peg.after [] u) (blank-inline?-is (drop u s)))
    ∙ rw (drop-drop (spaces (drop u s)) u s) refl

-- the bar is passed, and so is the line end
pub closing-fits : (s : List ℕ) {ls : List Line} {u : ℕ} → line_ends s ≡ true → blank-block s ≡ fits ls [] u
    → starts_with 123 (drop (spaces (drop u s)) (drop u s)) ≡ false → closing s ≡ fits tt [] u
unfolding closing Peg.after move_up
closing-fits s {ls} {u} h e q =
    then-fits (bar block-brace) (ahead line-end >> void blank-block) s
    (bar-fails block-brace s
    (block-brace-is s e
    ∙ ap (Peg.after [] (u + spaces (drop u s))) (byte-fails 123 (drop (spaces (drop u s)) (drop u s)) q)))
    ∙ ap (Peg.after [] 0)
    (then-fits (ahead line-end) (void blank-block) s (ahead-fits line-end s (line-end-is s h))
    ∙ ap (Peg.after [] 0) (void-fits blank-block s e))
    ∙ ap (fits tt []) (omega arith)

pub closing-brace : (s : List ℕ) {ls : List Line} {u : ℕ} → blank-block s ≡ fits ls [] u
    → starts_with 123 (drop (spaces (drop u s)) (drop u s)) ≡ true → closing s ≡ fails
unfolding closing Peg.after
closing-brace s {ls} {u} e q =
    then-fails (bar block-brace) (ahead line-end >> void blank-block) s
    (bar-fits block-brace s
    (block-brace-is s e
    ∙ ap (Peg.after [] (u + spaces (drop u s))) (byte_fits 123 (drop (spaces (drop u s)) (drop u s)) q)))

-- no line end
pub closing-fails : (s : List ℕ) → line_ends s ≡ false → closing s ≡ fails
unfolding closing Peg.after
closing-fails s h = go (block-brace s) refl
  where
    go : (o : Answer (Unit {0})) → block-brace s ≡ o → (bar block-brace >> (ahead line-end >> void blank-block)) s ≡ fails
    go (fits u ms k) e = then-fails (bar block-brace) (ahead line-end >> void blank-block) s (bar-fits block-brace s e)
    go fails e = then-fits (bar block-brace) (ahead line-end >> void blank-block) s (bar-fails block-brace s e)
        ∙ ap (Peg.after [] 0)
        (then-fails (ahead line-end) (void blank-block) s (ahead-fails line-end s (no-line-end s h)))

-- at the end of input
pub block-at-end : blank-block [] ≡ fits (record { spaces = 0; ending = 0 } ∷ []) [] 0
unfolding blank-block some blank-line opt blank-inline sized byte one starts line-end ◌>>=◌ ◌>>◌ ◌//◌ Peg.next Peg.after
    pure eof many Peg.turns move_up
block-at-end = refl

pub closing-nil : closing [] ≡ fits tt [] 0
unfolding line_ends starts_with spaces run
closing-nil = closing-fits [] refl block-at-end refl

module _ (sub : Inside) (no-brace : (s : List ℕ) → starts_with 123 s ≡ false → sub.inline-placeable s ≡ fails) where
  raw-fails : (s : List ℕ) → sub.inline-placeable s ≡ fails → raw-placeable rust sub s ≡ fails
  unfolding raw-placeable raw_placeable
  raw-fails s e = rw e refl

  raw-fits : (s : List ℕ) {u : Unit {0}} {ms : List Mark} {k : ℕ} → sub.inline-placeable s ≡ fits u ms k
      → raw-placeable rust sub s ≡ fits (placeable ms k) [] k
  unfolding raw-placeable raw_placeable
  raw-fits s e = rw e refl

  one-raw : Parser (List Raw)
  one-raw = raw-placeable rust sub >>= λ r. pure (r ∷ [])

  -- a text
  pub element-text : (s : List ℕ) (m : ℕ) → text_run s ≡ suc m → PatternElement rust sub s ≡ fits (text (suc m) ∷ []) [] (suc m)
  unfolding PatternElement Peg.after pure move_up
  element-text s m e =
      first (inline-text >>= λ n. pure (text n ∷ [])) _ s
      (bind-fits inline-text (λ n. pure (text n ∷ [])) s (inline-text-some s m e)
      ∙ ap (fits (text (suc m) ∷ []) []) (add-zero (suc m)))

  -- no text
  element-else : (s : List ℕ) → text_run s ≡ 0 → PatternElement rust sub s ≡ (block-text rust // one-raw // block-placeable rust sub) s
  unfolding PatternElement one-raw
  element-else s e =
      second (inline-text >>= λ n. pure (text n ∷ [])) (block-text rust // one-raw // block-placeable rust sub) s
      (bind-fails inline-text (λ n. pure (text n ∷ [])) s (inline-text-none s e))

  -- no blank-block either
  text-not-block : (s : List ℕ) → blank-block s ≡ fails → block-text rust s ≡ fails
  unfolding block-text given rust Dialect.all indented-text cr-text
  text-not-block s e = second indented-text cr-text s (bind-fails blank-block _ s e) ∙ bind-fails blank-block _ s e

  brace-not-block : (s : List ℕ) → blank-block s ≡ fails → block-placeable rust sub s ≡ fails
  unfolding block-placeable
  brace-not-block s e = bind-fails blank-block _ s e

  pub element-placeable : (s : List ℕ) {u : Unit {0}} {ms : List Mark} {k : ℕ} → text_run s ≡ 0 → blank-block s ≡ fails
      → sub.inline-placeable s ≡ fits u ms k → PatternElement rust sub s ≡ fits (placeable ms k ∷ []) [] k
  unfolding one-raw Peg.after pure move_up
  element-placeable s {u} {ms} {k} e b q = element-else s e
      ∙ second (block-text rust) (one-raw // block-placeable rust sub) s (text-not-block s b)
      ∙ first one-raw (block-placeable rust sub) s
      (bind-fits (raw-placeable rust sub) (λ r. pure (r ∷ [])) s (raw-fits s q)
      ∙ ap (fits (placeable ms k ∷ []) []) (add-zero k))

  raw-none : (s : List ℕ) → sub.inline-placeable s ≡ fails → one-raw s ≡ fails
  unfolding one-raw
  raw-none s q = bind-fails (raw-placeable rust sub) (λ r. pure (r ∷ [])) s (raw-fails s q)

  pub element-none : (s : List ℕ) → text_run s ≡ 0 → blank-block s ≡ fails → sub.inline-placeable s ≡ fails
      → PatternElement rust sub s ≡ fails
  element-none s e b q = element-else s e ∙ second (block-text rust) (one-raw // block-placeable rust sub) s (text-not-block s b)
      ∙ second one-raw (block-placeable rust sub) s (raw-none s q) ∙ brace-not-block s b

  -- behind a blank-block
  module _ (s : List ℕ) (ls : List Line) (u : ℕ) (blanks : blank-block s ≡ fits ls [] u) where
    -- what the indented text is, from the spaces on
    indented : Parser (List Raw)
    indented = blank-inline >>= λ n. sized (indented-char >> opt 0 inline-text) >>= λ m. pure (lines ls ∷ indent n ∷ text m ∷ [])

    carried : Parser (List Raw)
    carried = sized (byte 13 >> bar (byte 10) >> opt 0 inline-text) >>= λ m. pure (lines ls ∷ indent 0 ∷ text m ∷ [])

    braced : Parser (List Raw)
    braced = opt 0 blank-inline >>= λ n. raw-placeable rust sub >>= λ r. pure (lines ls ∷ brace-indent n ∷ r ∷ [])

    indented-is : indented-text s ≡ Peg.after [] u (indented (drop u s))
    unfolding indented-text indented
    indented-is = bind-fits blank-block _ s blanks

    carried-is : cr-text s ≡ Peg.after [] u (carried (drop u s))
    unfolding cr-text carried
    carried-is = bind-fits blank-block _ s blanks

    braced-is : block-placeable rust sub s ≡ Peg.after [] u (braced (drop u s))
    unfolding block-placeable braced
    braced-is = bind-fits blank-block _ s blanks

    -- no text on the line, or one behind spaces, or one that starts with a CR
    indented-fits-is : (n b : ℕ) (bs : List ℕ) → spaces (drop u s) ≡ suc n → drop (suc n) (drop u s) ≡ b ∷ bs
        → indented-char (b ∷ bs) ≡ fits tt [] 1
        → indented (drop u s) ≡ fits (lines ls ∷ indent (suc n) ∷ text (suc (text_run bs)) ∷ []) [] (suc n + suc (text_run bs))
    unfolding indented Peg.after pure move_up
    indented-fits-is n b bs e d h = bind-fits blank-inline _ (drop u s) (inline-some (drop u s) n e)
        ∙ rw (
          d,
          bind-fits (sized (indented-char >> opt 0 inline-text)) (λ m. pure (lines ls ∷ indent (suc n) ∷ text m ∷ []))
              (b ∷ bs) (text-behind indented-char b bs h),
        )
        (ap (fits (lines ls ∷ indent (suc n) ∷ text (suc (text_run bs)) ∷ []) []) (omega arith))

    indented-no : spaces (drop u s) ≡ 0 → indented (drop u s) ≡ fails
    unfolding indented
    indented-no e = bind-fails blank-inline _ (drop u s) (inline-none (drop u s) e)

    indented-not : (n b : ℕ) (bs : List ℕ) → spaces (drop u s) ≡ suc n → drop (suc n) (drop u s) ≡ b ∷ bs
        → indented-char (b ∷ bs) ≡ fails → indented (drop u s) ≡ fails
    unfolding indented Peg.after
    indented-not n b bs e d h = bind-fits blank-inline _ (drop u s) (inline-some (drop u s) n e)
        ∙ rw (
          d,
          bind-fails (sized (indented-char >> opt 0 inline-text))
              (λ m. pure (lines ls ∷ indent (suc n) ∷ text m ∷ [])) (b ∷ bs)
              (sized-fails (indented-char >> opt 0 inline-text) (b ∷ bs)
              (then-fails indented-char (opt 0 inline-text) (b ∷ bs) h)),
        ) refl

    carried-fits-is : (b : ℕ) (bs : List ℕ) → drop u s ≡ b ∷ bs → eqb b 13 ≡ true → starts_with 10 bs ≡ false
        → carried (drop u s) ≡ fits (lines ls ∷ indent 0 ∷ text (suc (text_run bs)) ∷ []) [] (suc (text_run bs))
    unfolding carried Peg.after pure move_up
    carried-fits-is b bs d q r =
        rw (
          d,
          bind-fits (sized (byte 13 >> bar (byte 10) >> opt 0 inline-text))
              (λ m. pure (lines ls ∷ indent 0 ∷ text m ∷ [])) (b ∷ bs)
              (text-behind (byte 13 >> bar (byte 10)) b bs (cr-alone b bs q r)),
        )
        (ap (fits (lines ls ∷ indent 0 ∷ text (suc (text_run bs)) ∷ []) []) (add-zero (suc (text_run bs))))

    carried-not : starts_with 13 (drop u s) ≡ false → carried (drop u s) ≡ fails
    unfolding carried
    carried-not q =
        bind-fails (sized (byte 13 >> bar (byte 10) >> opt 0 inline-text)) _ (drop u s)
        (sized-fails (byte 13 >> bar (byte 10) >> opt 0 inline-text) (drop u s)
        (then-fails (byte 13 >> bar (byte 10)) (opt 0 inline-text) (drop u s)
        (then-fails (byte 13) (bar (byte 10)) (drop u s) (byte-fails 13 (drop u s) q))))

    -- what the element is
    module _ (no_text : text_run s ≡ 0) (no-open : starts_with 123 s ≡ false) where
      by-indent : {x : List Raw} {k : ℕ} → indented (drop u s) ≡ fits x [] k → PatternElement rust sub s ≡ fits x [] (u + k)
      unfolding block-text Peg.after move_up given
      by-indent {x} {k} e = element-else s no_text
          ∙ first (block-text rust) (one-raw // block-placeable rust sub) s
          (first indented-text (given rust.cr-continues cr-text) s (indented-is ∙ ap (Peg.after [] u) e))

      by-cr : {x : List Raw} {k : ℕ} → indented (drop u s) ≡ fails → carried (drop u s) ≡ fits x [] k
          → PatternElement rust sub s ≡ fits x [] (u + k)
      unfolding block-text Peg.after move_up given rust Dialect.all
      by-cr {x} {k} e f = element-else s no_text
          ∙ first (block-text rust) (one-raw // block-placeable rust sub) s
          (second indented-text cr-text s (indented-is ∙ ap (Peg.after [] u) e) ∙ carried-is ∙ ap (Peg.after [] u) f)

      by-brace : indented (drop u s) ≡ fails → carried (drop u s) ≡ fails → PatternElement rust sub s ≡ Peg.after [] u (braced (drop u s))
      unfolding block-text Peg.after given rust Dialect.all
      by-brace e f = element-else s no_text
          ∙ second (block-text rust) (one-raw // block-placeable rust sub) s
          (second indented-text cr-text s (indented-is ∙ ap (Peg.after [] u) e) ∙ carried-is ∙ ap (Peg.after [] u) f)
          ∙ second one-raw (block-placeable rust sub) s (raw-none s (no-brace s no-open)) ∙ braced-is

      braced-fits-is : {v : Unit {0}} {ms : List Mark} {k : ℕ} → sub.inline-placeable (drop (spaces (drop u s)) (drop u s)) ≡ fits v ms k
          → braced (drop u s) ≡ fits (lines ls ∷ brace-indent (spaces (drop u s)) ∷ placeable ms k ∷ []) [] (spaces (drop u s) + k)
      unfolding braced Peg.after pure move_up
      braced-fits-is {v} {ms} {k} e = bind-fits (opt 0 blank-inline) _ (drop u s) (opt-inline (drop u s))
          ∙ ap (Peg.after [] (spaces (drop u s)))
          (bind-fits (raw-placeable rust sub) (λ r. pure (lines ls ∷ brace-indent (spaces (drop u s)) ∷ r ∷ []))
          (drop (spaces (drop u s)) (drop u s)) (raw-fits (drop (spaces (drop u s)) (drop u s)) e))
          ∙ ap (fits (lines ls ∷ brace-indent (spaces (drop u s)) ∷ placeable ms k ∷ []) []) (ap (λ z. spaces (drop u s) + z) (add-zero k))

      braced-not : sub.inline-placeable (drop (spaces (drop u s)) (drop u s)) ≡ fails → braced (drop u s) ≡ fails
      unfolding braced Peg.after
      braced-not e = bind-fits (opt 0 blank-inline) _ (drop u s) (opt-inline (drop u s))
          ∙ ap (Peg.after [] (spaces (drop u s)))
          (bind-fails (raw-placeable rust sub) (λ r. pure (lines ls ∷ brace-indent (spaces (drop u s)) ∷ r ∷ []))
          (drop (spaces (drop u s)) (drop u s)) (raw-fails (drop (spaces (drop u s)) (drop u s)) e))

      -- the element is the one of the line behind the blank-block
      pub element-line : (b : ℕ) (bs : List ℕ) → drop (spaces (drop u s)) (drop u s) ≡ b ∷ bs → eol (b ∷ bs) ≡ 0
          → PatternElement rust sub s ≡ onward (λ rs. lines ls ∷ rs) u (on_line sub (spaces (drop u s)) (b ∷ bs))
      unfolding onward on_line goes_on starts_with brace_line Peg.after move_up
      element-line b bs d e = by_case (eqb b 123) (λ q. braces q (sub.inline-placeable (b ∷ bs)) refl)
          (λ q. by_case (goes_on (spaces (drop u s)) b) (λ g. on q (spaces (drop u s)) refl g)
          (λ g. off q (spaces (drop u s)) refl g ∙ rw (on_line, q, g) refl))
        where
          not-indented : indented-char (b ∷ bs) ≡ fails → indented (drop u s) ≡ fails
          not-indented h = go (spaces (drop u s)) refl
            where
              go : (n : ℕ) → spaces (drop u s) ≡ n → indented (drop u s) ≡ fails
              go zero z = indented-no z
              go (suc n) z = indented-not n b bs z (rw z at d) h

          not_carried : eqb b 13 ≡ false → carried (drop u s) ≡ fails
          not_carried h = go (spaces (drop u s)) refl
            where
              go : (n : ℕ) → spaces (drop u s) ≡ n → carried (drop u s) ≡ fails
              go zero z = let y : drop u s ≡ b ∷ bs = rw z at d in carried-not (rw (y, starts_with) h)
              go (suc n) z = carried-not (spaced (drop u s) n z)

          braces : eqb b 123 ≡ true → (o : Answer (Unit {0})) → sub.inline-placeable (b ∷ bs) ≡ o
              → PatternElement rust sub s ≡ onward (λ rs. lines ls ∷ rs) u (on_line sub (spaces (drop u s)) (b ∷ bs))
          braces q (fits v ms k) h =
              by-brace (not-indented (indented-no-text b bs (no-text-char (b ∷ bs) (brace-text b bs q))))
              (not_carried (rw (eqb-true b 123 q) refl))
              ∙ ap (Peg.after [] u) (braced-fits-is {v = v} {ms = ms} {k = k} (rw d h)) ∙ rw (on_line, q, h) refl
          braces q fails h =
              by-brace (not-indented (indented-no-text b bs (no-text-char (b ∷ bs) (brace-text b bs q))))
              (not_carried (rw (eqb-true b 123 q) refl))
              ∙ ap (Peg.after [] u) (braced-not (rw d h)) ∙ rw (on_line, q, h) refl

          on : eqb b 123 ≡ false → (n : ℕ) → spaces (drop u s) ≡ n → goes_on n b ≡ true
              → PatternElement rust sub s ≡ onward (λ rs. lines ls ∷ rs) u (on_line sub n (b ∷ bs))
          on q zero z g =
              let c : eqb b 13 ≡ true = by_case (eqb b 13) (λ c. c) (λ c. clash {v = false} (rw (no-feed b bs e, c) at g) refl) in
              by-cr (indented-no z) (carried-fits-is b bs (rw z at d) c (cr-goes-on b bs e c))
              ∙ rw (on_line, q, c, run-plain b bs (no-feed b bs e) q (cr-plain b c).1 (no-cr-feed b bs e))
              (ap (fits (lines ls ∷ indent 0 ∷ text (suc (text_run bs)) ∷ []) []) (omega arith))
          on q (suc n) z g =
              let c : is_continuation b ≡ true = sym (goes_on-suc n b) ∙ g in
              by-indent
              (indented-fits-is n b bs z (rw z at d)
              (indented-fits b bs c (text-char-plain b bs (no-feed b bs e) q (continues b c) (no-cr-feed b bs e))))
              ∙ rw (on_line, q, g, run-plain b bs (no-feed b bs e) q (continues b c) (no-cr-feed b bs e)) refl

          off : eqb b 123 ≡ false → (n : ℕ) → spaces (drop u s) ≡ n → goes_on n b ≡ false → PatternElement rust sub s ≡ fails
          off q zero z g =
              by-brace (indented-no z)
              (not_carried (by_case (eqb b 13) (λ c. clash {v = true} refl (rw c at g)) (λ c. c)))
              ∙ ap (Peg.after [] u) (braced-not (rw (d) (no-brace (b ∷ bs) q)))
          off q (suc n) z g =
              by-brace
              (not-indented
              (by_case (eqb b 125) (λ c. indented-no-text b bs (no-text-char (b ∷ bs) (close-text b bs c)))
              (λ c. indented-fails b bs (sym (goes_on-suc n b) ∙ g) c)))
              (carried-not (spaced (drop u s) n z))
              ∙ ap (Peg.after [] u) (braced-not (rw d (no-brace (b ∷ bs) q)))

      -- there is none at the end
      pub element-end : drop u s ≡ [] → PatternElement rust sub s ≡ fails
      unfolding starts_with spaces run Peg.after
      element-end d = by-brace (indented-no (rw d refl)) (carried-not (rw d refl))
          ∙ ap (Peg.after [] u) (braced-not (rw d (no-brace [] refl)))

  pub element-nil : PatternElement rust sub [] ≡ fails
  unfolding text_run starts_with
  element-nil = element-end [] (record { spaces = 0; ending = 0 } ∷ []) 0 block-at-end refl refl refl

  pub element-stays : AtEnd (PatternElement rust sub [])
  element-stays = rw element-nil tt

  -- one element, and the others
  pub tail-again : (s : List ℕ) (rs : List Raw) (k : ℕ) → PatternElement rust sub s ≡ fits rs [] k → 0 < k
      → tail sub s ≡ onward (λ more. rs ++ more) k (tail sub (drop k s))
  unfolding tail ended closed onward with_first Peg.after flat move_up
  tail-again s rs k e h =
      rw (many-again (PatternElement rust sub) element-stays s rs [] k e h)
      (go (many (PatternElement rust sub) (drop k s)))
    where
      close : (rss : List (List Raw)) (j : ℕ) (o : Answer (Unit {0}))
          → closed (rs ++ flat rss) (k + j) o ≡ onward (λ more. rs ++ more) k (closed (flat rss) j o)
      close rss j (fits u ms i) = ap (fits (rs ++ flat rss) []) (add_assoc k j i)
      close rss j fails = refl

      go : (o : Answer (List (List Raw))) → ended s (with_first rs (Peg.after [] k o)) ≡ onward (λ more. rs ++ more) k (ended (drop k s) o)
      go (fits rss ms j) = rw (drop-drop j k s) (close rss j (closing (drop (k + j) s)))
      go fails = refl

  pub tail_none : (s : List ℕ) → PatternElement rust sub s ≡ fails → tail sub s ≡ closed [] 0 (closing s)
  unfolding tail ended flat
  tail_none s e = rw (many-none (PatternElement rust sub) element-stays s e) refl

  -- an element of a line is not nothing
  abbrev pub Full : Answer (List Raw) → Type 0
  Full (fits [] ms k) = ⊥
  Full (fits (r ∷ rs) ms k) = Unit {0}
  Full fails = Unit {0}

  brace-full : (n : ℕ) (o : Answer (Unit {0})) → Full (brace_line n o)
  unfolding brace_line
  brace-full n (fits u ms k) = tt
  brace-full n fails = tt

  pub line-full : (n : ℕ) (s : List ℕ) → Full (on_line sub n s)
  unfolding on_line
  line-full n [] = tt
  line-full n (b ∷ bs) =
      by_case (eqb b 123) (λ q. rw (on_line, q) (brace-full n (sub.inline-placeable (b ∷ bs))))
      (λ q. by_case (goes_on n b) (λ g. rw (on_line, q, g) tt) (λ g. rw (on_line, q, g) tt))

  -- a line end, blank lines, and what stands on the next line
  pub tail-block : {s : List ℕ} {l : Line} {ls : List Line} {u : ℕ} → Block s (l ∷ ls) u → text_run s ≡ 0
      → starts_with 123 s ≡ false → line_ends s ≡ true → 0 < u
      → tail sub s ≡ onward (behind (l ∷ ls)) u (line_tail sub (drop u s))
  unfolding onward behind line_tail line_by off_line closed starts_with
  tail-block {s} {l} {ls} {u} b t q h z = go (drop (spaces (drop u s)) (drop u s)) refl
    where
      nothing : (k : ℕ) → drop k s ≡ [] → starts_with 123 (drop (spaces (drop k s)) (drop k s)) ≡ false
      nothing k r = unfold spaces run in (rw r refl)

      go : (r : List ℕ) → drop (spaces (drop u s)) (drop u s) ≡ r → tail sub s ≡ onward (behind (l ∷ ls)) u (line_tail sub (drop u s))
      go [] d =
          let n = spaces (drop u s) in
          let (ks, f) = lines_end b d in
          let bb : blank-block s ≡ fits ks [] (u + n) = block-many b ∙ f in
          let r : drop (u + n) s ≡ [] = sym (drop-drop n u s) ∙ d in
          tail_none s (element-end s ks (u + n) bb t q r) ∙ ap (closed [] 0) (closing-fits s h bb (nothing (u + n) r))
          ∙ rw (line-end-tail sub (drop u s) d) (ap (fits [] []) (omega arith))
      go (c ∷ cs) d = by (on_line sub (spaces (drop u s)) (c ∷ cs)) refl (line-full (spaces (drop u s)) (c ∷ cs))
        where
          bb : blank-block s ≡ fits (l ∷ ls) [] u
          bb = block-many b ∙ lines-many b c cs d

          el : PatternElement rust sub s ≡ onward (λ rs. lines (l ∷ ls) ∷ rs) u (on_line sub (spaces (drop u s)) (c ∷ cs))
          el = element-line s (l ∷ ls) u bb t q c cs d (rw d at (block-stops b))

          by : (o : Answer (List Raw)) → on_line sub (spaces (drop u s)) (c ∷ cs) ≡ o → Full o
              → tail sub s ≡ onward (behind (l ∷ ls)) u (line_tail sub (drop u s))
          by (fits [] ms k) e f = absurd f
          by (fits (r ∷ rs) ms k) e f =
              tail-again s (lines (l ∷ ls) ∷ r ∷ rs) (u + k) (el ∙ ap (onward (λ rs. lines (l ∷ ls) ∷ rs) u) e)
              (omega arith)
              ∙ rw (line-on-tail sub (drop u s) c cs (r ∷ rs) ms k d e, drop-drop k u s)
              (on (tail sub (drop (u + k) s)))
            where
              on : (o : Answer (List Raw))
                  → onward (λ more. (lines (l ∷ ls) ∷ r ∷ rs) ++ more) (u + k) o ≡ onward (behind (l ∷ ls)) u
                  (onward (λ more. (r ∷ rs) ++ more) k o)
              on (fits more ns j) = ap (fits (lines (l ∷ ls) ∷ r ∷ (rs ++ more)) []) (add_assoc u k j)
              on fails = refl
          by fails e f = tail_none s (el ∙ ap (onward (λ rs. lines (l ∷ ls) ∷ rs) u) e)
              ∙ rw (line-off-tail sub (drop u s) c cs d e) (by_case (eqb c 123)
              (λ w. rw (w, closing-brace s bb (rw (d, starts_with) w)) refl)
              (λ w. rw (w, closing-fits s h bb (rw (d, starts_with) w)) (ap (fits [] []) (omega arith))))

  -- by the first byte
  pub tail-nil : tail sub [] ≡ fits [] [] 0
  tail-nil = tail_none [] element-nil ∙ ap (closed [] 0) closing-nil ∙ (unfold closed in refl)

  pub tail-close : (t : List ℕ) → tail sub (125 ∷ t) ≡ fails
  unfolding text_run is_text_at is_text_byte line_ends eol spaces run starts_with closed
  tail-close t =
      tail_none (125 ∷ t) (element-none (125 ∷ t) refl (block-fails (125 ∷ t) refl) (no-brace (125 ∷ t) refl))
      ∙ ap (closed [] 0) (closing-fails (125 ∷ t) refl)

  -- line ends
  pub tail-lf : (t : List ℕ) {ls : List Line} {u : ℕ} → Block t ls u
      → tail sub (10 ∷ t) ≡ onward (behind (record { spaces = 0; ending = 1 } ∷ ls)) (1 + u) (line_tail sub (drop u t))
  unfolding text_run is_text_at is_text_byte starts_with line_ends eol
  tail-lf t {ls} {u} b = tail-block (lf-block t b) refl refl refl (omega arith) ∙ rw (sym (drop-drop u 1 (10 ∷ t))) refl

  pub tail-crlf : (t : List ℕ) {ls : List Line} {u : ℕ} → Block t ls u
      → tail sub (13 ∷ 10 ∷ t) ≡ onward (behind (record { spaces = 0; ending = 2 } ∷ ls)) (2 + u)
      (line_tail sub (drop u t))
  unfolding text_run is_text_at is_text_byte starts_with line_ends eol
  tail-crlf t {ls} {u} b = tail-block (crlf-block t b) refl refl refl (omega arith) ∙ rw (sym (drop-drop u 2 (13 ∷ 10 ∷ t))) refl
