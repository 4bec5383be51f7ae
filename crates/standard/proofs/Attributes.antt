-- Attributes: the reading's against the grammar's. The reading goes on over the blank lines behind a value, and the
-- grammar stays at the line end.
use Prim.Native.Nat.{ℕ, zero, suc, ◌+◌, ◌<◌}
use Rattle.std.proofs.Common.{not-suc-le-zero, zero-add, add-zero, ap₂, ◌∙◌, subst, drop-drop}
use native.Mathlib.Omega.{arith}
use Rattle.std.specs.Prelude.{◌≡◌, Bool, true, false, length, eqb}
use Rattle.std.proofs.Math.Path.{refl, sym, ap}
use mathlib.Core.List.{List, [], ◌∷◌, ◌++◌, append-nil}
use Rattle.std.proofs.Math.ListN.{drop, take, length-drop}
use Rattle.std.proofs.Math.Seq.{drop-nil}
use Rattle.syntax.specs.Bytes.{starts_with, spaces, eol, run}
use Rattle.syntax.specs.Marks.{Mark, move_up}
use Rattle.syntax.specs.Reader as Reader
use Rattle.syntax.specs.Reader.{Out, ok, bad, deep, Reader, wrap, in_node, again, done, repeat}
use Rattle.syntax.specs.Helper.{skip_blank_inline, expect_byte, get_identifier}
use Rattle.syntax.specs.Pattern as Pattern
use Rattle.syntax.specs.Pattern.{get_pattern}
use Rattle.syntax.specs.Expression.{needs_value}
use Rattle.syntax.specs.Core.{get_attribute, get_attributes, attribute_by, attribute_turn}
use Rattle.laws.specs.Bytes.{by_case, clash}
use Rattle.laws.specs.Moving.{move_up-twice, move_up-append}
use Rattle.standard.specs.Dialect as Dialect
use Rattle.standard.specs.Dialect.{rust}
use Rattle.standard.specs.Peg as Peg
use Rattle.standard.specs.Peg.{Answer, fits, fails, Parser, many, byte, ahead, void, pick, in-node, with_first, ◌>>◌}
use Rattle.standard.specs.Steps.{then-fits, then-fails, void-fits, ahead-fits, ahead-fails, after_none}
use Rattle.standard.specs.Steps.{after-skip, node-fits, node-fails, byte_fits, byte-fails, Uses, uses-node}
use Rattle.standard.specs.Steps.{uses-rest, uses-first, uses-byte}
use Rattle.standard.specs.Abstract.{Line}
use Rattle.standard.specs.Lexical.{line-end, blank-inline?, blank?, blank-block, Identifier}
use Rattle.standard.specs.Grammar as Grammar
use Rattle.standard.specs.Grammar.{Attribute}
use Rattle.standard.specs.Blank.{is_blank_at, blanks, blanks-on, spaces-blanks, eol-blanks, line_ends, line-end-is}
use Rattle.standard.specs.Blank.{no-line-end, blank-inline?-is, parser-skips, block-lines, ends-spaces, Lines}
use Rattle.standard.specs.Same.{Same, nothing, Agree, whole-pattern, same_byte, same-blank-inline, node-up}
use Rattle.standard.proofs.Words.{same_name}
use Rattle.standard.specs.Turns.{Shrinks, AtEnd, repeat-again, repeat-done, many-again, many-none}
use Rattle.standard.specs.Texts.{Sign, end, lf, cr-lf, opens, closes, plain, sign_of, plain-eol}
use Rattle.standard.specs.Blocks.{Block, stop, step, block_of, block-stops, block-many, lines-many, lines_end, lf-block, crlf-block}
use Rattle.standard.specs.Elements.{closing, closing-fits, closing-brace, closing-fails, block-at-end}
use Rattle.standard.proofs.WholePattern.{Whole, whole-agrees}

-- The end of a value
-- --------------------------------------------------------------------------------------------------------------------------

-- a line end with the blank lines behind it, q bytes together
pub record Gap (s : List ℕ) : Type 0 where
  pub ends : line_ends s ≡ true
  pub lines : List Line
  pub size : ℕ
  pub block : blank-block s ≡ fits lines [] size
  pub stops : eol (drop (spaces (drop size s)) (drop size s)) ≡ 0
  pub blank : size + spaces (drop size s) ≡ blanks s

pub blanks-spaces : (r : List ℕ) → eol (drop (spaces r) r) ≡ 0 → blanks r ≡ spaces r
unfolding blanks is_blank_at spaces run
blanks-spaces [] e = refl
blanks-spaces (b ∷ bs) e =
    by_case (eqb b 32) (λ q. rw (q, blanks, is_blank_at, run) (ap suc (blanks-spaces bs (rw (q, run) at e))))
    (λ q. let z : eol (b ∷ bs) ≡ 0 = rw (q, run) at e in rw (q, blanks, is_blank_at, run, z) refl)

-- a block and the spaces behind it are all the blanks
pub block-blanks : {s : List ℕ} {ls : List Line} {u : ℕ} → Block s ls u → u + spaces (drop u s) ≡ blanks s
block-blanks {s} (stop q) = zero-add (spaces s) ∙ sym (blanks-spaces s q)
block-blanks {s} (step {u = u} e q b) =
    let K = spaces s + suc e in
    let a : spaces s + blanks (drop (spaces s) s) ≡ blanks s = blanks-on (spaces s) s (spaces-blanks s) in
    let c : spaces s + suc e + blanks (drop (spaces s + suc e) s) ≡ blanks s =
    blanks-on K s (omega (arith, eol-blanks (drop (spaces s) s))) in
    ap (λ r. spaces s + suc e + u + spaces r) (sym (drop-drop u K s)) ∙ omega (arith, block-blanks b)

-- where the lines end, the block ends
stops_block : {s : List ℕ} {l : Line} {ls : List Line} {u : ℕ} → Block s (l ∷ ls) u → (ks : List Line) × (q : ℕ)
    × (blank-block s ≡ fits ks [] q) × (eol (drop (spaces (drop q s)) (drop q s)) ≡ 0)
unfolding spaces run eol
stops_block {s} {l} {ls} {u} b = go (drop (spaces (drop u s)) (drop u s)) refl
  where
    go : (r : List ℕ) → drop (spaces (drop u s)) (drop u s) ≡ r → (ks : List Line) × (q : ℕ)
        × (blank-block s ≡ fits ks [] q) × (eol (drop (spaces (drop q s)) (drop q s)) ≡ 0)
    go [] d = let (ks, f) = lines_end b d in
        (ks, u + spaces (drop u s), block-many b ∙ f, rw (sym (drop-drop (spaces (drop u s)) u s) ∙ d) refl)
    go (c ∷ cs) d = (l ∷ ls, u, block-many b ∙ lines-many b c cs d, block-stops b)

pub gap_of : (s : List ℕ) → line_ends s ≡ true → Gap s
unfolding line_ends eol starts_with blanks spaces run
gap_of s e = go (sign_of s) e
  where
    from : (s : List ℕ) → line_ends s ≡ true → (ks : List Line) (q : ℕ) → blank-block s ≡ fits ks [] q
        → eol (drop (spaces (drop q s)) (drop q s)) ≡ 0 → Gap s
    from s e ks q b z =
        let l : Lines s (fits ks [] q) = rw b at (block-lines s (rw (ends-spaces s e) e)) in
        record { ends = e; lines = ks; size = q; block = b; stops = z; blank = ap (λ k. q + k) (sym (blanks-spaces (drop q s) z)) ∙ l.1 }

    go : {s : List ℕ} → Sign s → line_ends s ≡ true → Gap s
    go end e = from [] e (record { spaces = 0; ending = 0 } ∷ []) 0 block-at-end refl
    go (lf t) e = let (ls, u, b) = block_of t in let (ks, q, f, z) = stops_block (lf-block t b) in from (10 ∷ t) e ks q f z
    go (cr-lf t) e = let (ls, u, b) = block_of t in let (ks, q, f, z) = stops_block (crlf-block t b) in from (13 ∷ 10 ∷ t) e ks q f z
    go (opens t) e = clash {v = false} e refl
    go (closes t) e = clash {v = false} e refl
    go (plain b t x y w v) e = clash e (rw (plain-eol b t x v) refl)

-- what may follow a pattern is a line end with blank lines
pub closing-gap : (s : List ℕ) {u : Unit {0}} {ns : List Mark} {j : ℕ} → closing s ≡ fits u ns j → (g : Gap s) × (g.size ≡ j)
closing-gap s {u} {ns} {j} e = by_case (line_ends s)
    (λ l. let g = gap_of s l in (
      g,
      by_case (starts_with 123 (drop (spaces (drop g.size s)) (drop g.size s)))
          (λ q. let z : ◌≡◌ {A = ℕ} 0 1 = cc (closing-brace s g.block q) in absurd (omega arith))
          (λ q. cc (closing-fits s l g.block q)),
    ))
    (λ l. let z : ◌≡◌ {A = ℕ} 0 1 = cc (closing-fails s l) in absurd (omega arith))

-- Values
-- --------------------------------------------------------------------------------------------------------------------------------------

pattern-end : Parser (Unit {0})
pattern-end = ahead line-end >> void blank-block

ends-fits : (s : List ℕ) (g : Gap s) → pattern-end s ≡ fits tt [] g.size
unfolding pattern-end
ends-fits s g = then-fits (ahead line-end) (void blank-block) s (ahead-fits line-end s (line-end-is s g.ends))
    ∙ after_none (void blank-block s) ∙ void-fits blank-block s g.block

ends-fails : (s : List ℕ) → line_ends s ≡ false → pattern-end s ≡ fails
unfolding pattern-end
ends-fails s e = then-fails (ahead line-end) (void blank-block) s (ahead-fails line-end s (no-line-end s e))

module _ (sub : Grammar.Inside) where
  -- how a whole pattern comes about
  pub data Value (s : List ℕ) : Type 0 where
    fit : (ns : List Mark) (j : ℕ) → Grammar.Pattern rust sub (drop (spaces s) s) ≡ fits tt ns j
        → (g : Gap (drop j (drop (spaces s) s)))
        → whole-pattern sub s ≡ fits tt (move_up (spaces s) ns) (spaces s + (j + g.size)) → Value s
    broken : (ns : List Mark) (j : ℕ) → Grammar.Pattern rust sub (drop (spaces s) s) ≡ fits tt ns j
        → line_ends (drop j (drop (spaces s) s)) ≡ false → whole-pattern sub s ≡ fails → Value s
    missing : Grammar.Pattern rust sub (drop (spaces s) s) ≡ fails → whole-pattern sub s ≡ fails → Value s

  pub value_of : (s : List ℕ) → Value s
  unfolding whole-pattern pattern-end Peg.after move_up
  value_of s = go (Grammar.Pattern rust sub (drop (spaces s) s)) refl
    where
      from : {a : Answer (Unit {0})} → (Grammar.Pattern rust sub >> pattern-end) (drop (spaces s) s) ≡ a
          → whole-pattern sub s ≡ Peg.after [] (spaces s) a
      from e = then-fits blank-inline? (Grammar.Pattern rust sub >> pattern-end) s (blank-inline?-is s) ∙ ap (Peg.after [] (spaces s)) e

      go : (o : Answer (Unit {0})) → Grammar.Pattern rust sub (drop (spaces s) s) ≡ o → Value s
      go (fits u ns j) e = by_case (line_ends (drop j (drop (spaces s) s)))
          (λ l. let g = gap_of (drop j (drop (spaces s) s)) l in
          fit ns j e g
          (from
          (then-fits (Grammar.Pattern rust sub) pattern-end (drop (spaces s) s) e
          ∙ ap (Peg.after ns j) (ends-fits (drop j (drop (spaces s) s)) g)
          ∙ ap (λ ms. fits tt ms (j + g.size)) (append-nil ns))))
          (λ l. broken ns j e l
          (from
          (then-fits (Grammar.Pattern rust sub) pattern-end (drop (spaces s) s) e
          ∙ ap (Peg.after ns j) (ends-fails (drop j (drop (spaces s) s)) l))))
      go fails e = missing e (from (then-fails (Grammar.Pattern rust sub) pattern-end (drop (spaces s) s) e))

-- An answer of the reading, and one of the grammar that ends at the line end before blank lines
abbrev pub Lined : List ℕ → Out (Unit {0}) → Answer (Unit {0}) → Type 0
Lined s (ok u ms k) a = (j : ℕ) × (a ≡ fits tt ms j) × (g : Gap (drop j s)) × (k ≡ j + g.size)
Lined s (bad e k) a = a ≡ fails
Lined s (deep k) a = Unit {0}

lined-after : (s : List ℕ) (ms : List Mark) (k : ℕ) (o : Out (Unit {0})) (a : Answer (Unit {0})) → Lined (drop k s) o a
    → Lined s (Reader.after ms k o) (Peg.after ms k a)
unfolding Reader.after Peg.after
lined-after s ms k (ok u ns i) a (j, e, g, q) = (k + j, ap (Peg.after ms k) e, subst Gap (drop-drop j k s) g, omega arith)
lined-after s ms k (bad e i) a h = ap (Peg.after ms k) h
lined-after s ms k (deep i) a h = tt

lined-next : {A B : Type 0} (f : A → B) (s : List ℕ) (q : Reader (Unit {0})) (q' : Parser (Unit {0})) (o : Out A)
    (a : Answer B)
    → Same f o a → ((r : List ℕ) → Lined r (q r) (q' r)) → Lined s (Reader.next s (λ _. q) o) (Peg.next s (λ _. q') a)
unfolding Reader.next Peg.next
lined-next f s q q' (ok u ms k) a h l = rw h (lined-after s ms k (q (drop k s)) (q' (drop k s)) (l (drop k s)))
lined-next f s q q' (bad e k) a h l = rw h refl
lined-next f s q q' (deep k) a h l = tt

lined-node : (s : List ℕ) (o : Out (Unit {0})) (p : Parser (Unit {0})) → Lined s o (p s) → Lined s (wrap 10 o) (in-node 10 p s)
unfolding wrap
lined-node s (ok u ms k) p (j, e, g, q) = (j, node-fits 10 p s e, g, q)
lined-node s (bad e k) p h = node-fails 10 p s h
lined-node s (deep k) p h = tt

module _ (sub₁ : Pattern.Inside) (sub₂ : Grammar.Inside) (agree : Agree sub₁ sub₂) where
  value₁ : Reader (Unit {0})
  value₁ = Reader.◌>>=◌ (get_pattern sub₁) needs_value

  value₂ : Parser (Unit {0})
  value₂ = blank-inline? >> (Grammar.Pattern rust sub₂ >> ahead line-end)

  value-lined : (s : List ℕ) → Lined s (value₁ s) (value₂ s)
  unfolding value₁ value₂ Reader.◌>>=◌ Reader.next Reader.after Peg.after needs_value Reader.pure Reader.fail move_up
  value-lined s = go (get_pattern sub₁ s) (whole-agrees sub₁ sub₂ agree s) (value_of sub₂ s)
    where
      from : {a : Answer (Unit {0})} → (Grammar.Pattern rust sub₂ >> ahead line-end) (drop (spaces s) s) ≡ a
          → value₂ s ≡ Peg.after [] (spaces s) a
      from e = then-fits blank-inline? (Grammar.Pattern rust sub₂ >> ahead line-end) s (blank-inline?-is s) ∙ ap (Peg.after [] (spaces s)) e

      none : whole-pattern sub₂ s ≡ fails → Value sub₂ s → value₂ s ≡ fails
      none w (fit ns j e g h) = let z : ◌≡◌ {A = ℕ} 0 1 = cc in absurd (omega arith)
      none w (broken ns j e l h) =
          from
          (then-fits (Grammar.Pattern rust sub₂) (ahead line-end) (drop (spaces s) s) e
          ∙ ap (Peg.after ns j)
          (ahead-fails line-end (drop j (drop (spaces s) s)) (no-line-end (drop j (drop (spaces s) s)) l)))
      none w (missing e h) = from (then-fails (Grammar.Pattern rust sub₂) (ahead line-end) (drop (spaces s) s) e)

      found : (ms : List Mark) (k : ℕ) → whole-pattern sub₂ s ≡ fits tt ms k → Value sub₂ s → (j : ℕ)
          × (value₂ s ≡ fits tt ms j) × (g : Gap (drop j s)) × (k ≡ j + g.size)
      found ms k w (fit ns j e g h) =
          let v : value₂ s ≡ fits tt (move_up (spaces s) ns) (spaces s + j) =
          from
          (then-fits (Grammar.Pattern rust sub₂) (ahead line-end) (drop (spaces s) s) e
          ∙ ap (Peg.after ns j)
          (ahead-fits line-end (drop j (drop (spaces s) s)) (line-end-is (drop j (drop (spaces s) s)) g.ends))
          ∙ ap₂ (λ x y. fits tt x y) (append-nil ns) (add-zero j)) in
          let x : move_up (spaces s) ns ≡ ms = cc in
          let y : spaces s + (j + g.size) ≡ k = cc in
          (spaces s + j, v ∙ ap (λ z. fits tt z (spaces s + j)) x, subst Gap (drop-drop j (spaces s) s) g, omega arith)
      found ms k w (broken ns j e l h) = let z : ◌≡◌ {A = ℕ} 0 1 = cc in absurd (omega arith)
      found ms k w (missing e h) = let z : ◌≡◌ {A = ℕ} 0 1 = cc in absurd (omega arith)

      go : (o : Out Bool) → Whole sub₂ s o (whole-pattern sub₂ s) → Value sub₂ s → Lined s (Reader.next s needs_value o) (value₂ s)
      go (ok true ms k) w v = let (j, e, g, q) = found ms k w v in (j, e ∙ ap (λ x. fits tt x j) (sym (append-nil ms)), g, omega arith)
      go (ok false ms k) w v = none w.0 v
      go (bad e k) w v = none w.0 v
      go (deep k) w v = tt

  body₂ : Parser (Unit {0})
  body₂ = Identifier 9 >> (blank-inline? >> (byte 61 >> value₂))

  -- an attribute from its name on
  attribute-lined : (s : List ℕ) → Lined s (get_attribute sub₁ s) (in-node 10 body₂ s)
  unfolding get_attribute in_node body₂ Reader.◌>>◌ ◌>>◌ value₁ Reader.◌>>=◌
  attribute-lined s = lined-node s _ body₂ (lined-next (λ n. take n s) s _ _ (get_identifier 9 s) (Identifier 9 s) (same_name 9 s)
      (λ r. lined-next nothing r _ _ (skip_blank_inline r) (blank-inline? r) (same-blank-inline.same r)
      (λ q. lined-next nothing q _ _ (expect_byte 61 q) (byte 61 q) ((same_byte 61).same q) (λ z. value-lined z))))

  -- where it stands: behind the line end, blank lines and spaces
  inside : Parser (Unit {0})
  inside = line-end >> (blank? >> (byte 46 >> body₂))

  inside_is : (s : List ℕ) (g : Gap s)
      → inside s ≡ Peg.after [] (blanks s) ((byte 46 >> body₂) (drop (spaces (drop g.size s)) (drop g.size s)))
  unfolding inside
  inside_is s g =
      let e = eol s in
      let b : eol s + blanks (drop (eol s) s) ≡ blanks s = blanks-on (eol s) s (eol-blanks s) in
      then-fits line-end (blank? >> (byte 46 >> body₂)) s (line-end-is s g.ends)
      ∙ ap (Peg.after [] e) (parser-skips (byte 46 >> body₂) (drop e s)) ∙ after-skip [] e (blanks (drop e s)) _
      ∙ rw (drop-drop (blanks (drop (eol s) s)) (eol s) s, b)
      (ap (λ r. Peg.after [] (blanks s) ((byte 46 >> body₂) r))
      (ap (λ k. drop k s) (sym g.blank) ∙ sym (drop-drop (spaces (drop g.size s)) g.size s)))

  node-after : (p q : Parser (Unit {0})) (s t : List ℕ) (k : ℕ) → p s ≡ Peg.after [] k (q t)
      → in-node 10 p s ≡ Peg.after [] k (in-node 10 q t)
  unfolding Peg.after
  node-after p q s t k e = go (q t) refl
    where
      go : (o : Answer (Unit {0})) → q t ≡ o → in-node 10 p s ≡ Peg.after [] k (in-node 10 q t)
      go (fits u ms j) f = node-fits 10 p s (e ∙ ap (Peg.after [] k) f)
          ∙ rw (node-fits 10 q t f) (ap (λ ns. fits tt ns (k + j)) (sym (node-up k 10 ms)))
      go fails f = node-fails 10 p s (e ∙ ap (Peg.after [] k) f) ∙ rw (node-fails 10 q t f) refl

  attribute-at : (s : List ℕ) (g : Gap s) → starts_with 46 (drop (spaces (drop g.size s)) (drop g.size s)) ≡ true
      → Attribute rust sub₂ s ≡ Peg.after [] (g.size + (spaces (drop g.size s) + 1))
      (in-node 10 body₂ (drop (spaces (drop g.size s) + 1) (drop g.size s)))
  unfolding Attribute inside body₂ value₂ pick rust Dialect.all
  attribute-at s g d =
      let r = drop g.size s in
      let n : blanks s + 1 ≡ g.size + (spaces r + 1) = omega (arith, g.blank) in
      node-after inside body₂ s (drop (spaces r + 1) r) (g.size + (spaces r + 1))
      (inside_is s g
      ∙ ap (Peg.after [] (blanks s))
      (then-fits (byte 46) body₂ (drop (spaces r) r) (byte_fits 46 (drop (spaces r) r) d))
      ∙ after-skip [] (blanks s) 1 _ ∙ rw (drop-drop 1 (spaces r) r, n) refl)

  pub attribute-not : (s : List ℕ) (g : Gap s)
      → starts_with 46 (drop (spaces (drop g.size s)) (drop g.size s)) ≡ false → Attribute rust sub₂ s ≡ fails
  unfolding Attribute inside body₂ value₂ pick rust Dialect.all Peg.after
  attribute-not s g d =
      node-fails 10 inside s
      (inside_is s g ∙ ap (Peg.after [] (blanks s)) (then-fails (byte 46) body₂ _ (byte-fails 46 _ d)))

  pub attribute-off : (s : List ℕ) → line_ends s ≡ false → Attribute rust sub₂ s ≡ fails
  unfolding Attribute
  attribute-off s e = node-fails 10 _ s (then-fails line-end _ s (no-line-end s e))

  -- Attributes in a row
  -- -----------------------------------------------------------------------------------------------------------------------

  -- the attributes behind a line end with its blank lines: the reading starts behind these
  abbrev pub Attrs : ℕ → (s : List ℕ) → Gap s → Out ℕ → Answer (List (Unit {0})) → Type 0
  Attrs c s g (ok d ms k) a = (us : List (Unit {0})) × (j : ℕ) × (a ≡ fits us (move_up g.size ms) j)
      × (d ≡ c + length us) × (h : Gap (drop j s)) × (g.size + k ≡ j + h.size)
  Attrs c s g (bad e k) a = ⊥
  Attrs c s g (deep k) a = Unit {0}

  starts-some : (b : ℕ) (s : List ℕ) → starts_with b s ≡ true → 0 < length s
  unfolding starts_with
  starts-some b [] e = clash {v = false} e refl
  starts-some b (x ∷ xs) e = omega arith

  by-shrinks : (n k : ℕ) (s : List ℕ) (o : Out (Unit {0})) → 0 < length s → Shrinks s (attribute_by n (k + 1) o)
  unfolding attribute_by
  by-shrinks n k s (ok u ms j) h = omega (arith, length-drop (k + 1 + j) s)
  by-shrinks n k s (bad e j) h = tt
  by-shrinks n k s (deep j) h = tt

  attribute-shrinks : (n : ℕ) (s : List ℕ) → Shrinks s (attribute_turn sub₁ n s)
  unfolding attribute_turn
  attribute-shrinks n s = by_case (starts_with 46 (drop (spaces s) s))
      (λ q. rw (q, attribute_turn)
      (by-shrinks n (spaces s) s (get_attribute sub₁ (drop (spaces s + 1) s))
      (omega (arith, starts-some 46 (drop (spaces s) s) q, length-drop (spaces s) s))))
      (λ q. rw (q, attribute_turn) tt)

  pub no-attribute : AtEnd (Attribute rust sub₂ [])
  unfolding line_ends starts_with
  no-attribute = let g = gap_of [] refl in rw (attribute-not [] g (rw (drop-nil {A = ℕ} g.size, drop-nil {A = ℕ} (spaces [])) refl)) tt

  attrs-by : (n : ℕ) (s : List ℕ) (g : Gap s) (c : ℕ) → length (drop g.size s) < n
      → Attrs c s g (repeat (attribute_turn sub₁) c (drop g.size s)) (many (Attribute rust sub₂) s)
  unfolding attribute_turn attribute_by Peg.after Reader.after with_first move_up
  attrs-by zero s g c l = absurd (not-suc-le-zero l)
  attrs-by (suc n) s g c l =
      by_case (starts_with 46 (drop (spaces r) r))
      (λ q. dotted q (get_attribute sub₁ (drop (spaces r + 1) r)) refl (attribute-lined (drop (spaces r + 1) r))
      (λ t h d m. attrs-by n t h d m))
      (λ q. ends (rw (q, attribute_turn) refl) (attribute-not s g q))
    where
      r : List ℕ
      r = drop g.size s

      ends : attribute_turn sub₁ c r ≡ done (ok c [] 0) → Attribute rust sub₂ s ≡ fails
          → Attrs c s g (repeat (attribute_turn sub₁) c r) (many (Attribute rust sub₂) s)
      ends e f =
          rw (repeat-done (attribute_turn sub₁) c r (ok c [] 0) e, many-none (Attribute rust sub₂) no-attribute s f)
          ([], 0, refl, sym (add-zero c), g, omega arith)

      rest : (j v i : ℕ) → i ≡ j + v → drop v (drop (g.size + (spaces r + 1) + j) s) ≡ drop (spaces r + 1 + i) r
      rest j v i w = drop-drop v (g.size + (spaces r + 1) + j) s ∙ ap (λ k. drop k s) (num (spaces r + 1) w)
          ∙ sym (drop-drop (spaces r + 1 + i) g.size s)
        where
          num : (a : ℕ) → i ≡ j + v → g.size + a + j + v ≡ g.size + (a + i)
          num a w = omega arith

      -- one attribute before others
      joins : (ms : List Mark) (i j : ℕ) (G : Gap (drop (g.size + (spaces r + 1) + j) s)) → i ≡ j + G.size
          → (o : Out ℕ) (a : Answer (List (Unit {0}))) → Attrs (suc c) (drop (g.size + (spaces r + 1) + j) s) G o a
          → Attrs c s g (Reader.after (move_up (spaces r + 1) ms) (spaces r + 1 + i) o)
          (with_first tt (Peg.after (move_up (g.size + (spaces r + 1)) ms) (g.size + (spaces r + 1) + j) a))
      joins ms i j G w (ok d ns k) a (us, j', e, dc, h, n) = (
        tt
            ∷ us,
        g.size + (spaces r + 1) + j + j',
        ap (λ o. with_first tt (Peg.after (move_up (g.size + (spaces r + 1)) ms) (g.size + (spaces r + 1) + j) o)) e
            ∙ ap (λ os. fits (tt ∷ us) os (g.size + (spaces r + 1) + j + j')) (marks (spaces r + 1)),
        omega arith,
        subst Gap (drop-drop j' (g.size + (spaces r + 1) + j) s) h,
        omega arith,
      )
        where
          num : (a : ℕ) → g.size + a + j + G.size ≡ g.size + (a + i)
          num a = omega arith

          marks : (a : ℕ)
              → move_up (g.size + a) ms
              ++ move_up (g.size + a + j) (move_up G.size ns) ≡ move_up g.size (move_up a ms ++ move_up (a + i) ns)
          marks a =
              ap₂ (λ x y. x ++ y) (sym (move_up-twice g.size a ms))
              (move_up-twice (g.size + a + j) G.size ns ∙ ap (λ k. move_up k ns) (num a)
              ∙ sym (move_up-twice g.size (a + i) ns))
              ∙ sym (move_up-append g.size (move_up a ms) (move_up (a + i) ns))
      joins ms i j G w (bad x k) a h = absurd h
      joins ms i j G w (deep k) a h = tt

      dotted : starts_with 46 (drop (spaces r) r) ≡ true → (o : Out (Unit {0}))
          → get_attribute sub₁ (drop (spaces r + 1) r) ≡ o
          → Lined (drop (spaces r + 1) r) (get_attribute sub₁ (drop (spaces r + 1) r))
          (in-node 10 body₂ (drop (spaces r + 1) r))
          → ((t : List ℕ) (h : Gap t) (d : ℕ) → length (drop h.size t) < n
          → Attrs d t h (repeat (attribute_turn sub₁) d (drop h.size t)) (many (Attribute rust sub₂) t))
          → Attrs c s g (repeat (attribute_turn sub₁) c r) (many (Attribute rust sub₂) s)
      dotted q (ok u ms i) e h f =
          let a = spaces r + 1 in
          let (j, b, g', w) = rw e at h in
          let K = g.size + a + j in
          let A : Attribute rust sub₂ s ≡ fits tt (move_up (g.size + (spaces r + 1)) ms)
          (g.size + (spaces r + 1) + j) =
          attribute-at s g q
          ∙ ap (Peg.after [] (g.size + (spaces r + 1))) b in
          let D : drop j (drop (spaces r + 1) r) ≡ drop (g.size + (spaces r + 1) + j) s =
          ap (drop j) (drop-drop a g.size s)
          ∙ drop-drop j (g.size + a) s in
          let G : Gap (drop (g.size + (spaces r + 1) + j) s) = subst Gap D g' in
          let E : drop g'.size (drop (g.size + (spaces r + 1) + j) s) ≡ drop (spaces r + 1 + i) r = rest j g'.size i w in
          let T : attribute_turn sub₁ c r ≡ again (suc c) (move_up (spaces r + 1) ms) (spaces r + 1 + i) =
          rw (q, attribute_turn) (rw e refl) in
          rw (
            repeat-again (attribute_turn sub₁) attribute-shrinks c r (suc c) (move_up a ms) (a + i) T,
            many-again (Attribute rust sub₂) no-attribute s tt (move_up (g.size + a) ms) K A (omega arith),
          )
          (joins ms i j G w (repeat (attribute_turn sub₁) (suc c) (drop (a + i) r))
          (many (Attribute rust sub₂) (drop K s))
          (rw E at (f (drop K s) G (suc c)
          (rw E
          (omega (arith, length-drop (a + i) r, starts-some 46 (drop (spaces r) r) q, length-drop (spaces r) r))))))
      dotted q (bad x i) e h f =
          ends (rw (q, attribute_turn) (rw e refl))
          (attribute-at s g q ∙ ap (Peg.after [] (g.size + (spaces r + 1))) (rw e at h))
      dotted q (deep i) e h f = rw (repeat-done (attribute_turn sub₁) c r (deep (spaces r + 1 + i)) (rw (q, attribute_turn) (rw e refl))) tt

  pub attributes-agree : (s : List ℕ) (g : Gap s) → Attrs 0 s g (get_attributes sub₁ (drop g.size s)) (many (Attribute rust sub₂) s)
  unfolding get_attributes
  attributes-agree s g = attrs-by (suc (length (drop g.size s))) s g 0 (omega arith)

  pub attribute-uses : (s : List ℕ) → Uses (Attribute rust sub₂ s)
  unfolding Attribute ◌>>◌
  attribute-uses s =
      uses-node 10 _ s
      (uses-rest s _ (line-end s)
      (λ x r. uses-rest r _ (blank? r) (λ y t. uses-first t _ (byte 46 t) (uses-byte 46 t))))
