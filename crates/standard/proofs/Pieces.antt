-- The pieces of a resource: entries, blank lines and junk, against the reading's entries.
use Rattle.std.specs.Prelude.{ℕ, zero, suc, ◌+◌, ◌<◌, ◌⊎◌, Bool, true, false, ◌&&◌, drop}
use Rattle.std.proofs.Common.{arith, sym, ◌∙◌, inr, eqb-true}
use Rattle.std.proofs.Math.Path.{◌≡◌, refl, ap}
use Rattle.std.proofs.Math.Logic.{inl}
use mathlib.Core.List.{List, [], ◌∷◌}
use Rattle.std.proofs.Math.Dec.{eqb}
use Rattle.syntax.specs.Bytes.{starts_with, starts, spaces, eol, run, is_letter}
use Rattle.syntax.specs.Marks.{Mark, move_up, text_node}
use Rattle.syntax.specs.declared.errors.ParserError.{ParserError}
use Rattle.syntax.specs.Reader.{Out, ok, bad, deep}
use Rattle.syntax.specs.Expression.{level}
use Rattle.syntax.specs.Core as Core
use Rattle.syntax.specs.Core.{as_message, as_term, fields, term_fields, get_entry, junk_end, to_next_entry}
use Rattle.laws.specs.Bytes.{by_case}
use Rattle.syntax.specs.declared.errors.CharRange.TheVariants.{Letters}
use Rattle.syntax.specs.declared.errors.ErrorKind.TheVariants.{ExpectedCharRange}
use Rattle.syntax.specs.Reader as Reader
use Rattle.syntax.specs.Helper.{get_identifier}
use Rattle.standard.specs.Dialect as Dialect
use Rattle.standard.specs.Dialect.{rust}
use Rattle.standard.specs.Peg as Peg
use Rattle.standard.specs.Peg.{Answer, fits, fails, Parser, pure, many, some, byte, one, given, pick, with_first, ◌>>◌, ◌//◌}
use Rattle.standard.specs.Steps.{then-fits, then-fails, first, second, byte_fits, byte-fails, some-fails, Uses}
use Rattle.standard.specs.Steps.{uses-choice, uses-first, uses-byte}
use Rattle.standard.specs.Abstract as Abstract
use Rattle.standard.specs.Abstract.{Item, Part, Line, A2, A3}
use Rattle.standard.specs.Lexical.{blank-inline?, Identifier, junk-lines}
use Rattle.standard.specs.Grammar.{nesting, Message, Term, entry-end, CommentLine, Entry, blank-lines}
use Rattle.standard.specs.Grammar.{swallowing-junk, Junk, piece, part, as_part, tree_of, ResourceWithin}
use Rattle.standard.specs.Blank.{blank-inline?-is}
use Rattle.standard.specs.Same.{Same, Agree, fits-pure}
use Rattle.standard.proofs.Words.{no_name, uses-name}
use Rattle.standard.specs.Turns.{AtEnd, many-again, many-none, many-still, some-many, Fitting, many-fit}
use Rattle.standard.specs.Texts.{Sign, end, lf, cr-lf, opens, closes, plain, sign_of, plain-eol}
use Rattle.standard.specs.Blocks.{Block, stop, step}
use Rattle.standard.proofs.Messages.{item_of, message-agrees, term-agrees}
use Rattle.standard.specs.Comments.{no-comment, line-comment}

-- Blank lines
-- ---------------------------------------------------------------------------------------------------------------------------------

newline : Parser (Unit {0})
newline = (byte 13 >> byte 10) // byte 10

newline-fits : (s : List ℕ) (e : ℕ) → eol s ≡ suc e → newline s ≡ fits tt [] (suc e)
unfolding newline eol starts_with ◌>>◌ ◌//◌ Peg.next Peg.after byte one starts move_up
newline-fits s e q = go (sign_of s) q
  where
    go : {s : List ℕ} → Sign s → eol s ≡ suc e → newline s ≡ fits tt [] (suc e)
    go end q = absurd (omega arith)
    go (lf t) q = ap (fits tt []) q
    go (cr-lf t) q = ap (fits tt []) q
    go (opens t) q = absurd (omega arith)
    go (closes t) q = absurd (omega arith)
    go (plain b t x y w v) q = absurd (omega (arith, plain-eol b t x v))

newline-fails : (s : List ℕ) → eol s ≡ 0 → newline s ≡ fails
unfolding newline eol starts_with ◌>>◌ ◌//◌ Peg.next Peg.after byte one starts move_up
newline-fails s q = go (sign_of s) q
  where
    after-cr : (b : ℕ) (t : List ℕ) → (eqb b 13 && starts_with 10 t) ≡ false → (byte 13 >> byte 10) (b ∷ t) ≡ fails
    after-cr b t v =
        by_case (eqb b 13)
        (λ r. then-fits (byte 13) (byte 10) (b ∷ t) (byte_fits 13 (b ∷ t) r)
        ∙ ap (Peg.after [] 1) (byte-fails 10 t (rw r at v)))
        (λ r. then-fails (byte 13) (byte 10) (b ∷ t) (byte-fails 13 (b ∷ t) r))

    go : {s : List ℕ} → Sign s → eol s ≡ 0 → newline s ≡ fails
    go end q = refl
    go (lf t) q = absurd (omega arith)
    go (cr-lf t) q = absurd (omega arith)
    go (opens t) q = refl
    go (closes t) q = refl
    go (plain b t x y w v) q = second (byte 13 >> byte 10) (byte 10) (b ∷ t) (after-cr b t v) ∙ byte-fails 10 (b ∷ t) x

gap-line : Parser (Unit {0})
gap-line = blank-inline? >> newline

gap-fits : (s : List ℕ) (e : ℕ) → eol (drop (spaces s) s) ≡ suc e → gap-line s ≡ fits tt [] (spaces s + suc e)
unfolding gap-line Peg.after move_up
gap-fits s e q = then-fits blank-inline? newline s (blank-inline?-is s)
    ∙ ap (Peg.after [] (spaces s)) (newline-fits (drop (spaces s) s) e q)

gap-fails : (s : List ℕ) → eol (drop (spaces s) s) ≡ 0 → gap-line s ≡ fails
unfolding gap-line Peg.after
gap-fails s q = then-fits blank-inline? newline s (blank-inline?-is s) ∙ ap (Peg.after [] (spaces s)) (newline-fails (drop (spaces s) s) q)

gap-end : AtEnd (gap-line [])
unfolding spaces run eol
gap-end = rw (gap-fails [] refl) tt

gaps : {s : List ℕ} {ls : List Line} {u : ℕ} → Block s ls u → (us : List (Unit {0})) × (many gap-line s ≡ fits us [] u)
unfolding with_first Peg.after move_up
gaps {s} (stop q) = ([], many-none gap-line gap-end s (gap-fails s q))
gaps {s} (step {u = u} e q b) = let (us, f) = gaps b in (
  tt ∷ us,
  many-again gap-line gap-end s tt [] (spaces s + suc e) (gap-fits s e q) (omega arith)
      ∙ ap (λ o. with_first tt (Peg.after [] (spaces s + suc e) o)) f,
)

-- the production of blank lines between entries
pub blanks-fit : (n : ℕ) {s : List ℕ} {l : Line} {ls : List Line} {u : ℕ} → Block s (l ∷ ls) u
    → blank-lines rust n s ≡ fits Abstract.blank [] u
unfolding blank-lines pick rust Dialect.all newline gap-line pure
blanks-fit n {s} {u = u} (step {u = v} e q b) = let (us, f) = gaps (step e q b) in
    then-fits (some gap-line) (pure Abstract.blank) s
    (some-many gap-line gap-end s tt [] (spaces s + suc e) (gap-fits s e q) (omega arith) ∙ f)
    ∙ fits-pure Abstract.blank [] (spaces s + suc e + v)

pub blanks-fail : (n : ℕ) (s : List ℕ) → eol (drop (spaces s) s) ≡ 0 → blank-lines rust n s ≡ fails
unfolding blank-lines pick rust Dialect.all newline gap-line
blanks-fail n s q = then-fails (some gap-line) (pure Abstract.blank) s (some-fails gap-line s (gap-fails s q))

-- what a choice or a sequence answers
module _ {A : Type 0} (a : A) (ms : List Mark) (k : ℕ) where
  either : (p q : Parser A) (s : List ℕ) → (p // q) s ≡ fits a ms k → (p s ≡ fits a ms k) ⊎ (q s ≡ fits a ms k)
  either p q s e = go (p s) refl
    where
      go : (o : Answer A) → p s ≡ o → (p s ≡ fits a ms k) ⊎ (q s ≡ fits a ms k)
      go (fits b ns j) f = inl (f ∙ sym (first p q s f) ∙ e)
      go fails f = inr (sym (second p q s f) ∙ e)

  last-value : {B : Type 0} (p : Parser B) (b : A) (s : List ℕ) → (p >> pure b) s ≡ fits a ms k → a ≡ b
  unfolding pure Peg.after
  last-value {B} p b s e = go (p s) refl
    where
      go : (o : Answer B) → p s ≡ o → a ≡ b
      go (fits x ns j) f = let z = then-fits p (pure b) s f in cc
      go fails f = let z = then-fails p (pure b) s f in let y : ◌≡◌ {A = ℕ} 0 1 = cc in absurd (omega arith)

unfoldable pub parts_of : Answer (List Part) → List Part
parts_of (fits ps ms k) = ps
parts_of fails = []

-- Entries
-- -------------------------------------------------------------------------------------------------------------------------------------

module _ (n : ℕ) (agree : Agree (level n) (nesting rust n)) where
  message-branch : Parser Item
  message-branch = Message rust (nesting rust n) >> entry-end rust n >> pure Abstract.message

  term-branch : Parser Item
  term-branch = Term rust (nesting rust n) >> entry-end rust n >> pure Abstract.term

  no-message : (s : List ℕ) → starts is_letter s ≡ false → message-branch s ≡ fails
  unfolding message-branch Message
  no-message s e =
      then-fails (Message rust (nesting rust n) >> entry-end rust n) (pure Abstract.message) s
      (then-fails (Message rust (nesting rust n)) (entry-end rust n) s (then-fails (Identifier 9) _ s (no_name 9 s e)))

  no-term : (s : List ℕ) → starts_with 45 s ≡ false → term-branch s ≡ fails
  unfolding term-branch Term
  no-term s e =
      then-fails (Term rust (nesting rust n) >> entry-end rust n) (pure Abstract.term) s
      (then-fails (Term rust (nesting rust n)) (entry-end rust n) s (then-fails (byte 45) _ s (byte-fails 45 s e)))

  no-letter : (b : ℕ) (s : List ℕ) → starts_with b s ≡ true → is_letter b ≡ false → starts is_letter s ≡ false
  unfolding starts_with starts
  no-letter b [] e h = refl
  no-letter b (x ∷ xs) e h = rw (eqb-true x b e) h

  other_byte : (b c : ℕ) (s : List ℕ) → starts_with b s ≡ true → eqb b c ≡ false → starts_with c s ≡ false
  unfolding starts_with
  other_byte b c [] e h = refl
  other_byte b c (x ∷ xs) e h = rw (eqb-true x b e) h

  pub entry-hash : (s : List ℕ) → starts_with 35 s ≡ true → Entry rust n s ≡ CommentLine rust s
  unfolding Entry message-branch term-branch is_letter
  entry-hash s e = second message-branch (term-branch // CommentLine rust) s (no-message s (no-letter 35 s e refl))
      ∙ second term-branch (CommentLine rust) s (no-term s (other_byte 35 45 s e refl))

  pub entry-agrees : (s : List ℕ) → starts_with 35 s ≡ false → Same item_of (get_entry (level n) s) (Entry rust n s)
  unfolding Entry message-branch term-branch is_letter get_entry
  entry-agrees s e = by_case (starts_with 45 s)
      (λ d. rw (
        e,
        get_entry,
        d,
        second message-branch (term-branch // CommentLine rust) s (no-message s (no-letter 45 s d refl)),
      )
      (or-comment (as_term (term_fields (level n) s)) term-branch (term-agrees (level n) (nesting rust n) agree n s)))
      (λ d. rw (e, get_entry, d) (or-message (as_message (fields (level n) s)) (message-agrees (level n) (nesting rust n) agree n s) d))
    where
      or-comment : (o : Out Core.Entry) (p : Parser Item) → Same item_of o (p s) → Same item_of o ((p // CommentLine rust) s)
      or-comment (ok x ms k) p h = first p (CommentLine rust) s h
      or-comment (bad f k) p h = second p (CommentLine rust) s h ∙ no-comment s e
      or-comment (deep k) p h = tt

      or-message : (o : Out Core.Entry) → Same item_of o (message-branch s) → starts_with 45 s ≡ false
          → Same item_of o ((message-branch // (term-branch // CommentLine rust)) s)
      or-message (ok x ms k) h d = first message-branch (term-branch // CommentLine rust) s h
      or-message (bad f k) h d = second message-branch (term-branch // CommentLine rust) s h
          ∙ second term-branch (CommentLine rust) s (no-term s d) ∙ no-comment s e
      or-message (deep k) h d = tt

  -- an entry uses a byte
  pub entry-uses : (s : List ℕ) → Uses (Entry rust n s)
  unfolding Entry message-branch term-branch Message Term ◌>>◌
  entry-uses s =
      uses-choice message-branch (term-branch // CommentLine rust) s
      (uses-first s _ ((Message rust (nesting rust n) >> entry-end rust n) s)
      (uses-first s _ (Message rust (nesting rust n) s) (uses-first s _ (Identifier 9 s) (uses-name 9 s))))
      (uses-choice term-branch (CommentLine rust) s
      (uses-first s _ ((Term rust (nesting rust n) >> entry-end rust n) s)
      (uses-first s _ (Term rust (nesting rust n) s) (uses-first s _ (byte 45 s) (uses-byte 45 s))))
      (line-uses (CommentLine rust s) refl))
    where
      line-uses : (o : Answer Item) → CommentLine rust s ≡ o → Uses o
      line-uses (fits i ms k) f = let (l, e, z) = line-comment s i ms k f in z
      line-uses fails f = tt

  -- no entry at a blank line
  first-blank : (s : List ℕ) (e : ℕ) → eol (drop (spaces s) s) ≡ suc e → (p : ℕ → Bool) → p 32 ≡ false → p 10 ≡ false
      → p 13 ≡ false → starts p s ≡ false
  unfolding spaces run eol starts
  first-blank [] e q p x y z = refl
  first-blank (b ∷ bs) e q p x y z =
      by_case (eqb b 32) (λ r. rw (eqb-true b 32 r) x)
      (λ r. by_case (eqb b 10) (λ w. rw (eqb-true b 10 w) y)
      (λ w. by_case (eqb b 13) (λ v. rw (eqb-true b 13 v) z) (λ v. absurd (omega (arith, rw (r, run, eol, w, v) at q)))))

  starts-with : (b : ℕ) (s : List ℕ) → starts (λ x. eqb x b) s ≡ starts_with b s
  unfolding starts starts_with
  starts-with b [] = refl
  starts-with b (x ∷ xs) = refl

  entry-blank : (s : List ℕ) (e : ℕ) → eol (drop (spaces s) s) ≡ suc e → Entry rust n s ≡ fails
  unfolding Entry message-branch term-branch is_letter
  entry-blank s e q =
      second message-branch (term-branch // CommentLine rust) s
      (no-message s (first-blank s e q is_letter refl refl refl))
      ∙ second term-branch (CommentLine rust) s
      (no-term s (sym (starts-with 45 s) ∙ first-blank s e q (λ x. eqb x 45) refl refl refl))
      ∙ no-comment s (sym (starts-with 35 s) ∙ first-blank s e q (λ x. eqb x 35) refl refl refl)

  -- Pieces
  -- ------------------------------------------------------------------------------------------------------------------------------------

  abbrev item : Parser Item
  item = Entry rust n // (blank-lines rust n // Junk rust n)

  piece_is : (s : List ℕ) {i : Item} {ms : List Mark} {k : ℕ} → item s ≡ fits i ms k
      → piece rust n s ≡ fits (record { item = i; inside = ms; size = k }) [] k
  unfolding piece part as_part
  piece_is s e = ap as_part e

  pub piece-entry : (s : List ℕ) {i : Item} {ms : List Mark} {k : ℕ} → Entry rust n s ≡ fits i ms k
      → piece rust n s ≡ fits (record { item = i; inside = ms; size = k }) [] k
  piece-entry s e = piece_is s (first (Entry rust n) (blank-lines rust n // Junk rust n) s e)

  pub piece-blank : {s : List ℕ} {l : Line} {ls : List Line} {u : ℕ} → Block s (l ∷ ls) u
      → piece rust n s ≡ fits (record { item = Abstract.blank; inside = []; size = u }) [] u
  piece-blank {s} {u = u} (step {u = v} e q b) =
      piece_is s
      (second (Entry rust n) (blank-lines rust n // Junk rust n) s (entry-blank s e q)
      ∙ first (blank-lines rust n) (Junk rust n) s (blanks-fit n (step e q b)))

  junk-is : (s : List ℕ) (f : ParserError) (k : ℕ) → get_entry (level n) s ≡ bad f k
      → Junk rust n s ≡ fits Abstract.junk (text_node 7 0 (junk_end k s)) (junk_end k s)
  unfolding Junk given rust Dialect.all swallowing-junk
  junk-is s f k e = first (swallowing-junk rust n) _ s (rw (e, swallowing-junk) refl)

  pub piece-junk : (s : List ℕ) (f : ParserError) (k : ℕ) → Entry rust n s ≡ fails → eol (drop (spaces s) s) ≡ 0
      → get_entry (level n) s ≡ bad f k
      → piece rust n s ≡ fits
      (record { item = Abstract.junk; inside = text_node 7 0 (junk_end k s); size = junk_end k s }) [] (junk_end k s)
  piece-junk s f k x q e =
      piece_is s
      (second (Entry rust n) (blank-lines rust n // Junk rust n) s x
      ∙ second (blank-lines rust n) (Junk rust n) s (blanks-fail n s q) ∙ junk-is s f k e)

  nil-bad : get_entry (level n) [] ≡ bad (record { start = 0; end = 1; kind = ExpectedCharRange Letters }) 0
  unfolding get_entry starts_with as_message fields Reader.◌>>=◌ Reader.next get_identifier starts Reader.fail
  nil-bad = refl

  piece-end : AtEnd (piece rust n [])
  unfolding starts_with spaces run eol junk_end to_next_entry
  piece-end = let e : Entry rust n [] ≡ fails = rw nil-bad at (entry-agrees [] refl) in
      rw (piece-junk [] (record { start = 0; end = 1; kind = ExpectedCharRange Letters }) 0 e refl nil-bad) refl

  -- the parts of a source
  unfoldable pub parts : List ℕ → List Part
  parts s = parts_of (many (piece rust n) s)

  pub parts_again : (s : List ℕ) (p : Part) (k : ℕ) → piece rust n s ≡ fits p [] k → 0 < k → parts s ≡ p ∷ parts (drop k s)
  unfolding parts
  parts_again s p k e h = ap parts_of (many-again (piece rust n) piece-end s p [] k e h)
      ∙ go (many (piece rust n) (drop k s)) (many-fit (piece rust n) (drop k s))
    where
      go : (o : Answer (List Part)) → Fitting o → parts_of (with_first p (Peg.after [] k o)) ≡ p ∷ parts_of o
      go (fits ps ms j) f = unfold parts_of with_first Peg.after in refl
      go fails f = absurd f

  pub parts-nil : parts [] ≡ []
  unfolding parts parts_of many Peg.turns
  parts-nil = refl

  pub tree-parts : (s : List ℕ) → ResourceWithin rust n s ≡ A3 (A2 (parts s))
  unfolding ResourceWithin parts
  tree-parts s = go (many (piece rust n) s) (many-fit (piece rust n) s)
    where
      go : (o : Answer (List Part)) → Fitting o → tree_of o ≡ A3 (A2 (parts_of o))
      go (fits ps ms k) f = unfold tree_of parts_of in refl
      go fails f = absurd f

  -- an item has no level, or is a comment line
  item-level : (s : List ℕ) (i : Item) (ms : List Mark) (k : ℕ) → item s ≡ fits i ms k
      → (Abstract.level_of i ≡ 0) ⊎ (CommentLine rust s ≡ fits i ms k)
  unfolding Entry message-branch term-branch blank-lines Junk pick given rust Dialect.all Abstract.level_of junk-lines
  item-level s i ms k e = entry (either i ms k (Entry rust n) (blank-lines rust n // Junk rust n) s e)
    where
      G : Type 0
      G = (Abstract.level_of i ≡ 0) ⊎ (CommentLine rust s ≡ fits i ms k)

      swallowed : (o : Out Core.Entry) → get_entry (level n) s ≡ o → swallowing-junk rust n s ≡ fits i ms k → G
      swallowed (ok x ns j) h f = let w : swallowing-junk rust n s ≡ fails = unfold swallowing-junk in
          (rw (h, swallowing-junk) refl) in let z : ◌≡◌ {A = ℕ} 0 1 = cc in absurd (omega arith)
      swallowed (bad x j) h f =
          let w : swallowing-junk rust n s ≡ fits Abstract.junk (text_node 7 0 (junk_end j s)) (junk_end j s) =
          unfold swallowing-junk in
          (rw (h, swallowing-junk) refl) in let z : i ≡ Abstract.junk = cc in inl (ap Abstract.level_of z)
      swallowed (deep j) h f = let w : swallowing-junk rust n s ≡ fails = unfold swallowing-junk in
          (rw (h, swallowing-junk) refl) in let z : ◌≡◌ {A = ℕ} 0 1 = cc in absurd (omega arith)

      junk : (swallowing-junk rust n s ≡ fits i ms k) ⊎ (junk-lines s ≡ fits i ms k) → G
      junk (inl h) = swallowed (get_entry (level n) s) refl h
      junk (inr h) = inl (ap Abstract.level_of (last-value i ms k _ Abstract.junk s h))

      rest : (blank-lines rust n s ≡ fits i ms k) ⊎ (Junk rust n s ≡ fits i ms k) → G
      rest (inl h) = inl (ap Abstract.level_of (last-value i ms k _ Abstract.blank s h))
      rest (inr h) = junk (either i ms k (swallowing-junk rust n) junk-lines s h)

      named : (term-branch s ≡ fits i ms k) ⊎ (CommentLine rust s ≡ fits i ms k) → G
      named (inl h) = inl (ap Abstract.level_of (last-value i ms k _ Abstract.term s h))
      named (inr h) = inr h

      entered : (message-branch s ≡ fits i ms k) ⊎ ((term-branch // CommentLine rust) s ≡ fits i ms k) → G
      entered (inl h) = inl (ap Abstract.level_of (last-value i ms k _ Abstract.message s h))
      entered (inr h) = named (either i ms k term-branch (CommentLine rust) s h)

      entry : (Entry rust n s ≡ fits i ms k) ⊎ ((blank-lines rust n // Junk rust n) s ≡ fits i ms k) → G
      entry (inl h) = entered (either i ms k message-branch (term-branch // CommentLine rust) s h)
      entry (inr h) = rest (either i ms k (blank-lines rust n) (Junk rust n) s h)

  -- the first part
  pub data Head (s : List ℕ) : Type 0 where
    no_part : parts s ≡ [] → Head s
    a-part : (p : Part) (qs : List Part) → parts s ≡ p ∷ qs
        → (Abstract.level_of p.item ≡ 0) ⊎
        ((l : ℕ) × (ms : List Mark) × (k : ℕ) × (CommentLine rust s ≡ fits (Abstract.comment l) ms k)
        × (Abstract.level_of p.item ≡ l))
        → Head s

  pub head_of : (s : List ℕ) → Head s
  unfolding parts parts_of piece part as_part Abstract.level_of
  head_of s = go (item s) refl
    where
      none : many (piece rust n) s ≡ fits [] [] 0 → Head s
      none e = no_part (ap parts_of e)

      level-of : (i : Item) (ms : List Mark) (k : ℕ) → (Abstract.level_of i ≡ 0) ⊎ (CommentLine rust s ≡ fits i ms k)
          → (Abstract.level_of i ≡ 0) ⊎
          ((l : ℕ) × (ms : List Mark) × (k : ℕ) × (CommentLine rust s ≡ fits (Abstract.comment l) ms k)
          × (Abstract.level_of i ≡ l))
      level-of i ms k (inl h) = inl h
      level-of i ms k (inr h) = let (l, e, z) = line-comment s i ms k h in inr (l, ms, k, rw e at h, ap Abstract.level_of e)

      go : (o : Answer Item) → item s ≡ o → Head s
      go (fits i ms zero) e = none (many-still (piece rust n) piece-end s _ [] (piece_is s e))
      go (fits i ms (suc k)) e =
          a-part (record { item = i; inside = ms; size = suc k }) (parts (drop (suc k) s))
          (parts_again s (record { item = i; inside = ms; size = suc k }) (suc k) (piece_is s e) (omega arith))
          (level-of i ms (suc k) (item-level s i ms (suc k) e))
      go fails e = none (many-none (piece rust n) piece-end s (ap as_part e))
