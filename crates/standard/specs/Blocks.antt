-- Blank lines: what the reading skips as a blank block, and the grammar's blank-block.
use Rattle.std.specs.Prelude.{ℕ, zero, suc, ◌+◌, ◌≤◌, ◌<◌, ◌≡◌, true, false, List, [], ◌∷◌, drop, length, eqb}
use Rattle.std.proofs.Common.{not-suc-le-zero, add_assoc, zero-add, add-zero, arith, sym, ap, ◌∙◌, subst, length-drop, drop-drop, lt-ltb}
use Rattle.std.proofs.Math.Path.{refl}
use Rattle.syntax.specs.Bytes.{run, spaces, eol, starts_with}
use Rattle.syntax.specs.Marks.{move_up}
use Rattle.syntax.specs.Reader as Reader
use Rattle.syntax.specs.Reader.{ok, again, done, repeat}
use Rattle.syntax.specs.Helper.{block_turn, skip_blank_block}
use Rattle.laws.specs.Bytes.{by_case}
use Rattle.standard.specs.Peg as Peg
use Rattle.standard.specs.Peg.{fits, fails, many, with_first, pure, opt, turns, ◌>>=◌}
use Rattle.standard.specs.Steps.{bind-fits, bind-fails}
use Rattle.standard.specs.Abstract.{Line, width}
use Rattle.standard.specs.Lexical.{line-end, blank-inline, blank-line, blank-block}
use Rattle.standard.specs.Blank.{line_ends, line-end-is, no-line-end, opt-inline}
use Rattle.standard.specs.Turns.{Shrinks, AtEnd, repeat-again, repeat-done, many-again, many-none, many-still, some-many}

-- each line has a line end
abbrev pub Ended : List Line → Type 0
Ended [] = Unit {0}
Ended (l ∷ ls) = (0 < l.ending) × Ended ls

-- s starts with the blank lines ls, of u bytes together, each with its line end; no further one follows
pub data Block : List ℕ → List Line → ℕ → Type 0 where
  stop : {s : List ℕ} → eol (drop (spaces s) s) ≡ 0 → Block s [] 0
  step : {s : List ℕ} {ls : List Line} {u : ℕ} (e : ℕ) → eol (drop (spaces s) s) ≡ suc e
      → Block (drop (spaces s + suc e) s) ls u
      → Block s (record { spaces = spaces s; ending = suc e } ∷ ls) (spaces s + suc e + u)

eol-within : (s : List ℕ) → eol s ≤ length s
unfolding eol starts_with
eol-within [] = omega arith
eol-within (b ∷ bs) =
    by_case (eqb b 10) (λ q. rw (q, eol) (omega arith))
    (λ q. by_case (eqb b 13) (λ r. cr bs q r) (λ r. rw (q, eol, r) (omega arith)))
  where
    cr : (bs : List ℕ) → eqb b 10 ≡ false → eqb b 13 ≡ true → eol (b ∷ bs) ≤ suc (length bs)
    cr [] q r = rw (q, eol, r) (omega arith)
    cr (c ∷ cs) q r = by_case (eqb c 10) (λ z. rw (q, eol, r, z) (omega arith)) (λ z. rw (q, eol, r, z) (omega arith))

pub line-within : (s : List ℕ) (e : ℕ) → eol (drop (spaces s) s) ≡ suc e → length (drop (spaces s + suc e) s) < length s
line-within s e q = omega (arith, length-drop (spaces s + suc e) s, length-drop (spaces s) s, eol-within (drop (spaces s) s))

abbrev pub Blocked : List ℕ → Type 0
Blocked s = (ls : List Line) × (u : ℕ) × Block s ls u

block-by : (n : ℕ) (s : List ℕ) → length s < n → Blocked s
block-by zero s h = absurd (not-suc-le-zero h)
block-by (suc n) s h = go (eol (drop (spaces s) s)) refl (λ r l. block-by n r l)
  where
    go : (e : ℕ) → eol (drop (spaces s) s) ≡ e → ((r : List ℕ) → length r < n → Blocked r) → Blocked s
    go zero q f = ([], 0, stop q)
    go (suc e) q f = let (ls, u, b) = f (drop (spaces s + suc e) s) (omega (arith, line-within s e q)) in
        (record { spaces = spaces s; ending = suc e } ∷ ls, spaces s + suc e + u, step e q b)

pub block_of : (s : List ℕ) → Blocked s
block_of s = block-by (suc (length s)) s (omega arith)

-- no blank line follows a block
pub block-stops : {s : List ℕ} {ls : List Line} {u : ℕ} → Block s ls u → eol (drop (spaces (drop u s)) (drop u s)) ≡ 0
block-stops (stop q) = q
block-stops {s} (step {u = u} e q b) = subst (λ r. eol (drop (spaces r) r) ≡ 0) (drop-drop u (spaces s + suc e) s) (block-stops b)

pub block-ended : {s : List ℕ} {ls : List Line} {u : ℕ} → Block s ls u → Ended ls
block-ended (stop q) = tt
block-ended (step e q b) = (omega arith, block-ended b)

pub block-width : {s : List ℕ} {ls : List Line} {u : ℕ} → Block s ls u → width ls ≡ u
unfolding width
block-width (stop q) = refl
block-width {s} (step {u = u} e q b) = ap (λ k. spaces s + suc e + k) (block-width b)

-- the reading's block
block-again : (n : ℕ) (s : List ℕ) (e : ℕ) → eol (drop (spaces s) s) ≡ suc e → block_turn n s ≡ again (suc n) [] (spaces s + suc e)
unfolding block_turn
block-again n s e q = rw (q, block_turn) (rw (lt-ltb 0 (suc e) (omega arith)) (rw q refl))

block-done : (n : ℕ) (s : List ℕ) → eol (drop (spaces s) s) ≡ 0 → block_turn n s ≡ done (ok n [] 0)
unfolding block_turn
block-done n s q = rw (q, block_turn) refl

block-shrinks : (n : ℕ) (s : List ℕ) → Shrinks s (block_turn n s)
block-shrinks n s = go (eol (drop (spaces s) s)) refl
  where
    go : (e : ℕ) → eol (drop (spaces s) s) ≡ e → Shrinks s (block_turn n s)
    go zero q = rw (block-done n s q) tt
    go (suc e) q = rw (block-again n s e q) (line-within s e q)

block-turns : (n : ℕ) {s : List ℕ} {ls : List Line} {u : ℕ} → Block s ls u → repeat block_turn n s ≡ ok (n + length ls) [] u
unfolding Reader.after move_up
block-turns n {s} (stop q) = repeat-done block_turn n s (ok n [] 0) (block-done n s q) ∙ ap (λ k. ok k [] 0) (sym (add-zero n))
block-turns n {s} (step {ls = ls} {u = u} e q b) =
    repeat-again block_turn block-shrinks n s (suc n) [] (spaces s + suc e) (block-again n s e q)
    ∙ ap (Reader.after [] (spaces s + suc e)) (block-turns (suc n) b)
    ∙ ap (λ k. ok k [] (spaces s + suc e + u)) (shift (length ls))
  where
    shift : (m : ℕ) → suc n + m ≡ n + suc m
    shift m = omega arith

pub skip_block : {s : List ℕ} {ls : List Line} {u : ℕ} → Block s ls u → skip_blank_block s ≡ ok (length ls) [] u
unfolding skip_blank_block
skip_block {ls} {u} b = block-turns 0 b ∙ ap (λ k. ok k [] u) (zero-add (length ls))

-- the grammar's blank lines: further spaces before the end are one, too
pub line-fits : (s : List ℕ) → line_ends (drop (spaces s) s) ≡ true
    → blank-line s ≡ fits (record { spaces = spaces s; ending = eol (drop (spaces s) s) }) []
    (spaces s + eol (drop (spaces s) s))
unfolding blank-line Peg.after pure move_up
line-fits s h =
    bind-fits (opt 0 blank-inline) (λ n. line-end >>= λ e. pure (record { spaces = n; ending = e })) s (opt-inline s)
    ∙ ap (Peg.after [] (spaces s))
    (bind-fits line-end (λ e. pure (record { spaces = spaces s; ending = e })) (drop (spaces s) s)
    (line-end-is (drop (spaces s) s) h))
    ∙ ap (fits (record { spaces = spaces s; ending = eol (drop (spaces s) s) }) [])
    (ap (λ k. spaces s + k) (add-zero (eol (drop (spaces s) s))))

pub line-fails : (s : List ℕ) → line_ends (drop (spaces s) s) ≡ false → blank-line s ≡ fails
unfolding blank-line Peg.after
line-fails s h =
    bind-fits (opt 0 blank-inline) (λ n. line-end >>= λ e. pure (record { spaces = n; ending = e })) s (opt-inline s)
    ∙ ap (Peg.after [] (spaces s))
    (bind-fails line-end (λ e. pure (record { spaces = spaces s; ending = e })) (drop (spaces s) s)
    (no-line-end (drop (spaces s) s) h))

pub line-at-end : AtEnd (blank-line [])
unfolding spaces run eol line_ends
line-at-end = rw (line-fits [] refl) refl

ends-suc : (s : List ℕ) (e : ℕ) → eol s ≡ suc e → line_ends s ≡ true
unfolding line_ends
ends-suc [] e q = refl
ends-suc (b ∷ bs) e q = rw q (lt-ltb 0 (suc e) (omega arith))

ends-zero : (s : List ℕ) (b : ℕ) (bs : List ℕ) → s ≡ b ∷ bs → eol s ≡ 0 → line_ends s ≡ false
unfolding line_ends
ends-zero s b bs e q = rw e (rw (rw e at q) refl)

line-again : (s : List ℕ) (e : ℕ) → eol (drop (spaces s) s) ≡ suc e
    → blank-line s ≡ fits (record { spaces = spaces s; ending = suc e }) [] (spaces s + suc e)
line-again s e q = line-fits s (ends-suc (drop (spaces s) s) e q)
    ∙ ap (λ k. fits (record { spaces = spaces s; ending = k }) [] (spaces s + k)) q

-- where something follows
pub lines-many : {s : List ℕ} {ls : List Line} {u : ℕ} → Block s ls u → (b : ℕ) (bs : List ℕ)
    → drop (spaces (drop u s)) (drop u s) ≡ b ∷ bs → many blank-line s ≡ fits ls [] u
unfolding with_first Peg.after move_up
lines-many {s} (stop q) b bs h = many-none blank-line line-at-end s (line-fails s (ends-zero (drop (spaces s) s) b bs h q))
lines-many {s} (step {ls = ls} {u = u} e q k) b bs h =
    let l : Line = record { spaces = spaces s; ending = suc e } in
    many-again blank-line line-at-end s l [] (spaces s + suc e) (line-again s e q) (omega arith)
    ∙ ap (λ o. with_first l (Peg.after [] (spaces s + suc e) o))
    (lines-many k b bs (subst (λ r. drop (spaces r) r ≡ b ∷ bs) (sym (drop-drop u (spaces s + suc e) s)) h))

-- where the end follows
pub lines_end : {s : List ℕ} {ls : List Line} {u : ℕ} → Block s ls u → drop (spaces (drop u s)) (drop u s) ≡ []
    → (ks : List Line) × (many blank-line s ≡ fits ks [] (u + spaces (drop u s)))
unfolding with_first Peg.after move_up line_ends eol
lines_end {s} (stop q) h = go (spaces s) refl
  where
    here : blank-line s ≡ fits (record { spaces = spaces s; ending = 0 }) [] (spaces s + 0)
    here = line-fits s (rw h refl) ∙ ap (λ k. fits (record { spaces = spaces s; ending = k }) [] (spaces s + k)) q

    nothing_left : many blank-line [] ≡ fits [] [] 0
    nothing_left = unfold many turns in refl

    go : (n : ℕ) → spaces s ≡ n → (ks : List Line) × (many blank-line s ≡ fits ks [] (0 + spaces s))
    go zero e = (
      [],
      many-still blank-line line-at-end s (record { spaces = spaces s; ending = 0 }) []
          (here ∙ ap (fits (record { spaces = spaces s; ending = 0 }) []) (add-zero (spaces s) ∙ e))
          ∙ ap (fits [] []) (sym (zero-add (spaces s) ∙ e)),
    )
    go (suc n) e = (
      record { spaces = spaces s; ending = 0 }
          ∷ [],
      many-again blank-line line-at-end s (record { spaces = spaces s; ending = 0 }) [] (spaces s + 0) here
          (omega arith)
          ∙ rw (add-zero (spaces s), h, nothing_left)
          (ap (fits (record { spaces = spaces s; ending = 0 } ∷ []) []) (omega arith)),
    )
lines_end {s} (step {ls = ls} {u = u} e q k) h =
    let l : Line = record { spaces = spaces s; ending = suc e } in
    let (ks, f) = lines_end k (subst (λ r. drop (spaces r) r ≡ []) (sym (drop-drop u (spaces s + suc e) s)) h) in (
      l ∷ ks,
      many-again blank-line line-at-end s l [] (spaces s + suc e) (line-again s e q) (omega arith)
          ∙ ap (λ o. with_first l (Peg.after [] (spaces s + suc e) o)) f
          ∙ ap (fits (l ∷ ks) [])
          (sym (add_assoc (spaces s + suc e) u (spaces (drop u (drop (spaces s + suc e) s))))
          ∙ ap (λ r. spaces s + suc e + u + spaces r) (drop-drop u (spaces s + suc e) s)),
    )

-- a blank-block that starts with a line end
pub block-many : {s : List ℕ} {l : Line} {ls : List Line} {u : ℕ} → Block s (l ∷ ls) u → blank-block s ≡ many blank-line s
unfolding blank-block
block-many {s} (step e q k) =
    some-many blank-line line-at-end s (record { spaces = spaces s; ending = suc e }) [] (spaces s + suc e)
    (line-again s e q) (omega arith)

-- a block that starts at a line end
pub lf-block : (t : List ℕ) {ls : List Line} {u : ℕ} → Block t ls u → Block (10 ∷ t) (record { spaces = 0; ending = 1 } ∷ ls) (1 + u)
unfolding spaces run eol
lf-block t b = step 0 refl b

pub crlf-block : (t : List ℕ) {ls : List Line} {u : ℕ} → Block t ls u → Block (13 ∷ 10 ∷ t) (record { spaces = 0; ending = 2 } ∷ ls) (2 + u)
unfolding spaces run eol starts_with
crlf-block t b = step 1 refl b
