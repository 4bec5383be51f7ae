-- Messages and terms: the reading's against the grammar's, with the line end and the blank lines behind them.
use Prim.Native.Nat.{ℕ, zero, suc, ◌+◌}
use Rattle.std.proofs.Common.{zero-add, add-zero, arith, sym, ap₂, ◌∙◌, subst, drop-drop, eqb-true, eq-eqb, ne_eqb}
use Rattle.std.proofs.Math.Path.{◌≡◌, refl, ap, fun_ext}
use Rattle.std.specs.Prelude.{Bool, ◌||◌, not, length, eqb}
use Rattle.std.proofs.Math.Bool.{true, false}
use mathlib.Core.List.{List, [], ◌∷◌, ◌++◌, append-nil}
use Rattle.std.proofs.Math.ListN.{drop, take}
use Rattle.syntax.specs.Bytes.{starts_with, spaces, eol}
use Rattle.syntax.specs.Marks.{Mark, move_up}
use Rattle.syntax.specs.Reader as Reader
use Rattle.syntax.specs.Reader.{Out, ok, bad, deep, Reader}
use Rattle.syntax.specs.Helper.{skip_blank_inline, skip_blank_block, expect_byte, get_identifier}
use Rattle.syntax.specs.Pattern as Pattern
use Rattle.syntax.specs.Pattern.{get_pattern, goes_on, is_continuation}
use Rattle.syntax.specs.Core as Core
use Rattle.syntax.specs.Core.{get_attributes, Fields, fields, term_fields, as_message, as_term}
use Rattle.laws.specs.Bytes.{by_case, clash}
use Rattle.laws.specs.Moving.{move_up-twice, move_up-append, move_up-nil}
use Rattle.standard.specs.Dialect as Dialect
use Rattle.standard.specs.Dialect.{rust}
use Rattle.standard.specs.Peg as Peg
use Rattle.standard.specs.Peg.{Answer, fits, fails, Parser, pure, many, some, byte, opt, with_first, void, pick, ◌>>=◌, ◌>>◌, ◌//◌}
use Rattle.standard.specs.Steps.{bind-fits, bind-fails, then-fits, then-fails, first, second, opt-fits, opt-fails}
use Rattle.standard.specs.Steps.{void-fits, void-fails, some_fits, some-fails, next-after, Uses}
use Rattle.standard.specs.Abstract as Abstract
use Rattle.standard.specs.Abstract.{Line}
use Rattle.standard.specs.Lexical.{line-end, blank-inline?, blank-line, blank-block, Identifier}
use Rattle.standard.specs.Grammar as Grammar
use Rattle.standard.specs.Grammar.{Attribute, PatternElement, dedented-pattern, in_pattern, Message, Term, entry-end}
use Rattle.standard.specs.Blank.{is_blank_at, blanks, line_ends, line-end-is, no-line-end, blank-inline?-is, ends-spaces}
use Rattle.standard.specs.Same.{Same, nothing, Agree, whole-pattern, same_byte, same-blank-inline, reads_then, fits-pure}
use Rattle.standard.proofs.Words.{same_name}
use Rattle.standard.specs.BlankLines.{after-zero}
use Rattle.standard.specs.Turns.{Plain, many-plain, many-again, many-none, many-still, some-many}
use Rattle.standard.specs.Blocks.{stop, block_of, skip_block, line-fits, line-at-end}
use Rattle.standard.specs.Elements.{onward, behind, on_line, line_tail, line-off-tail, goes_on-suc, tail, tail-lf, tail-crlf}
use Rattle.standard.specs.Texts.{Sign, end, lf, cr-lf, opens, closes, plain, sign_of, plain-eol}
use Rattle.standard.proofs.WholePattern.{Whole, whole-agrees, line_plain}
use Rattle.standard.proofs.Attributes.{Gap, gap_of, block-blanks, closing-gap, Value, value_of, fit, broken}
use Rattle.standard.proofs.Attributes.{missing, Attrs, attributes-agree, attribute-uses, attribute-not}
use Rattle.standard.proofs.Attributes.{attribute-off, no-attribute}

-- The end of an entry
-- -------------------------------------------------------------------------------------------------------------------------

-- blank lines, or none
opt-block : (r : List ℕ) (a : Answer (List Line)) → many blank-line r ≡ a → (xs : List Line) (q : ℕ) → a ≡ fits xs [] q
    → (ys : List Line) × (opt [] blank-block r ≡ fits ys [] q)
unfolding blank-block move_up
opt-block r a e xs q f = go (blank-line r) refl (line_plain r)
  where
    go : (o : Answer Line) → blank-line r ≡ o → Plain o → (ys : List Line) × (opt [] (some blank-line) r ≡ fits ys [] q)
    go (fits l ms zero) h p = let m : many blank-line r ≡ fits [] [] 0 = many-still blank-line line-at-end r l ms h in
        let z : 0 ≡ q = cc in
        (l ∷ [], opt-fits [] (some blank-line) r (some_fits blank-line r h m ∙ rw p (ap (fits (l ∷ []) []) z)))
    go (fits l ms (suc k)) h p =
        (xs, opt-fits [] (some blank-line) r (some-many blank-line line-at-end r l ms (suc k) h (omega arith) ∙ e ∙ f))
    go fails h p = (
      [],
      opt-fails [] (some blank-line) r (some-fails blank-line r h)
          ∙ (let m : many blank-line r ≡ fits [] [] 0 = many-none blank-line line-at-end r h in let z : 0 ≡ q = cc in
          ap (fits [] []) z),
    )

pub entry-end-fits : (n : ℕ) (s : List ℕ) (g : Gap s) → entry-end rust n s ≡ fits tt [] g.size
unfolding entry-end pick rust Dialect.all Peg.after move_up blank-block some
entry-end-fits n s g = go (many blank-line (drop (eol s) s)) refl (many-plain blank-line line_plain (drop (eol s) s))
  where
    l : Line
    l = record { spaces = 0; ending = eol s }

    line : blank-line s ≡ fits (record { spaces = 0; ending = eol s }) [] (eol s)
    line = let z = ends-spaces s g.ends in
        line-fits s (rw z g.ends) ∙ rw z (ap (fits (record { spaces = 0; ending = eol s }) []) (zero-add (eol s)))

    go : (a : Answer (List Line)) → many blank-line (drop (eol s) s) ≡ a → Plain a → entry-end rust n s ≡ fits tt [] g.size
    go (fits more ns q) e p =
        let (ys, f) = opt-block (drop (eol s) s) (fits more ns q) e more q (ap (λ ms. fits more ms q) p) in
        let b : some blank-line s ≡ fits (l ∷ more) [] (eol s + q) = some_fits blank-line s line e ∙ rw p refl in
        let z : eol s + q ≡ g.size = cc g.block in
        then-fits line-end (void (opt [] blank-block)) s (line-end-is s g.ends)
        ∙ ap (Peg.after [] (eol s)) (void-fits (opt [] blank-block) (drop (eol s) s) f) ∙ ap (fits tt []) z
    go fails e p = let b : some blank-line s ≡ fails =
        bind-fits blank-line (λ a. many blank-line >>= λ more. pure (a ∷ more)) s line
        ∙ ap (Peg.after [] (eol s)) (bind-fails (many blank-line) (λ more. pure (l ∷ more)) (drop (eol s) s) e) in
        let z : ◌≡◌ {A = ℕ} 0 1 = cc g.block in absurd (omega arith)

pub entry-end-fails : (n : ℕ) (s : List ℕ) → line_ends s ≡ false → entry-end rust n s ≡ fails
unfolding entry-end
entry-end-fails n s e = then-fails line-end _ s (no-line-end s e)

-- Fields
-- --------------------------------------------------------------------------------------------------------------------------------------

-- fields that pass a test, against a production
abbrev Held : (Fields → Bool) → Out Fields → Answer (Unit {0}) → Type 0
Held v (ok f ms k) a = (v f ≡ true → a ≡ fits tt ms k) × (v f ≡ false → a ≡ fails)
Held v (bad e k) a = a ≡ fails
Held v (deep k) a = Unit {0}

held_after : (v : Fields → Bool) (ms : List Mark) (k : ℕ) (o : Out Fields) (a : Answer (Unit {0})) → Held v o a
    → Held v (Reader.after ms k o) (Peg.after ms k a)
unfolding Reader.after Peg.after
held_after v ms k (ok f ns j) a h = (λ q. ap (Peg.after ms k) (h.0 q), λ q. ap (Peg.after ms k) (h.1 q))
held_after v ms k (bad e j) a h = ap (Peg.after ms k) h
held_after v ms k (deep j) a h = tt

held_next : {A B : Type 0} (v : Fields → Bool) (f : A → B) (s : List ℕ) (q : A → Reader Fields) (q' : Parser (Unit {0}))
    (o : Out A) (a : Answer B)
    → Same f o a → ((x : A) (r : List ℕ) → Held v (q x r) (q' r)) → Held v (Reader.next s q o) (Peg.next s (λ _. q') a)
unfolding Reader.next Peg.next
held_next v f s q q' (ok x ms k) a h l = rw h (held_after v ms k (q x (drop k s)) (q' (drop k s)) (l x (drop k s)))
held_next v f s q q' (bad e k) a h l = rw h refl
held_next v f s q q' (deep k) a h l = tt

abbrev valued : Fields → Bool
valued f = f.value

abbrev named : Fields → Bool
named f = f.value || not (eqb f.attributes 0)

-- what an entry of the reading is
abbrev pub item_of : Core.Entry → Abstract.Item
item_of (Core.Entry.comment l) = Abstract.comment l
item_of Core.Entry.message = Abstract.message
item_of Core.Entry.term = Abstract.term

module _ (sub₁ : Pattern.Inside) (sub₂ : Grammar.Inside) (agree : Agree sub₁ sub₂) (n : ℕ) where
  rest₁ : ℕ → Reader Fields
  rest₁ m =
      Reader.◌>>=◌ (get_pattern sub₁)
      (λ value. Reader.◌>>◌ skip_blank_block
      (Reader.◌>>=◌ (get_attributes sub₁)
      (λ count. Reader.pure (record { name = m; value = value; attributes = count }))))

  term₂ : Parser (Unit {0})
  term₂ = Grammar.Pattern rust sub₂ >> void (many (Attribute rust sub₂))

  message₂ : Parser (Unit {0})
  message₂ = term₂ // void (some (Attribute rust sub₂))

  rest₂ : Parser (Unit {0}) → Parser (Unit {0})
  rest₂ p = blank-inline? >> (p >> entry-end rust n)

  -- what follows the value, behind the marks ms and K bytes
  more₁ : ℕ → Bool → Reader Fields
  more₁ m value =
      Reader.◌>>◌ skip_blank_block
      (Reader.◌>>=◌ (get_attributes sub₁)
      (λ count. Reader.pure (record { name = m; value = value; attributes = count })))

  -- no blank line is left
  more-is : (m : ℕ) (value : Bool) (r : List ℕ) → eol (drop (spaces r) r) ≡ 0
      → more₁ m value r ≡ Reader.next r (λ count. Reader.pure (record { name = m; value = value; attributes = count }))
      (get_attributes sub₁ r)
  unfolding more₁ Reader.◌>>=◌
  more-is m value r e = reads_then skip_blank_block _ r (skip_block (stop e)) ∙ after-zero _

  -- the production, and the end of the entry
  rest-fits : (p : Parser (Unit {0})) (s : List ℕ) (ms : List Mark) (j : ℕ) → p (drop (spaces s) s) ≡ fits tt ms j
      → (g : Gap (drop j (drop (spaces s) s))) → rest₂ p s ≡ fits tt (move_up (spaces s) ms) (spaces s + (j + g.size))
  unfolding rest₂ Peg.after move_up
  rest-fits p s ms j e g = then-fits blank-inline? (p >> entry-end rust n) s (blank-inline?-is s)
      ∙ ap (Peg.after [] (spaces s))
      (then-fits p (entry-end rust n) (drop (spaces s) s) e
      ∙ ap (Peg.after ms j) (entry-end-fits n (drop j (drop (spaces s) s)) g)
      ∙ ap (λ ns. fits tt ns (j + g.size)) (append-nil ms))

  rest-fails : (p : Parser (Unit {0})) (s : List ℕ) → p (drop (spaces s) s) ≡ fails → rest₂ p s ≡ fails
  unfolding rest₂ Peg.after
  rest-fails p s e = then-fits blank-inline? (p >> entry-end rust n) s (blank-inline?-is s)
      ∙ ap (Peg.after [] (spaces s)) (then-fails p (entry-end rust n) (drop (spaces s) s) e)

  rest-broken : (p : Parser (Unit {0})) (s : List ℕ) (ms : List Mark) (j : ℕ) → p (drop (spaces s) s) ≡ fits tt ms j
      → line_ends (drop j (drop (spaces s) s)) ≡ false → rest₂ p s ≡ fails
  unfolding rest₂ Peg.after
  rest-broken p s ms j e l = then-fits blank-inline? (p >> entry-end rust n) s (blank-inline?-is s)
      ∙ ap (Peg.after [] (spaces s))
      (then-fits p (entry-end rust n) (drop (spaces s) s) e
      ∙ ap (Peg.after ms j) (entry-end-fails n (drop j (drop (spaces s) s)) l))

  -- a pattern and attributes
  term_fits : (s : List ℕ) (ns : List Mark) (j : ℕ) (us : List (Unit {0})) (os : List Mark) (i : ℕ)
      → Grammar.Pattern rust sub₂ s ≡ fits tt ns j → many (Attribute rust sub₂) (drop j s) ≡ fits us os i
      → term₂ s ≡ fits tt (ns ++ move_up j os) (j + i)
  unfolding term₂ Peg.after
  term_fits s ns j us os i e f = then-fits (Grammar.Pattern rust sub₂) (void (many (Attribute rust sub₂))) s e
      ∙ ap (Peg.after ns j) (void-fits (many (Attribute rust sub₂)) (drop j s) f)

  term-fails : (s : List ℕ) → Grammar.Pattern rust sub₂ s ≡ fails → term₂ s ≡ fails
  unfolding term₂
  term-fails s e = then-fails (Grammar.Pattern rust sub₂) (void (many (Attribute rust sub₂))) s e

  message-term : (s : List ℕ) {ms : List Mark} {k : ℕ} → term₂ s ≡ fits tt ms k → message₂ s ≡ fits tt ms k
  unfolding message₂
  message-term s e = first term₂ (void (some (Attribute rust sub₂))) s e

  -- attributes alone
  message-fails : (s : List ℕ) → term₂ s ≡ fails → Attribute rust sub₂ s ≡ fails → message₂ s ≡ fails
  unfolding message₂
  message-fails s e f = second term₂ (void (some (Attribute rust sub₂))) s e
      ∙ void-fails (some (Attribute rust sub₂)) s (some-fails (Attribute rust sub₂) s f)

  message-only : (s : List ℕ) (u : Unit {0}) (us : List (Unit {0})) (os : List Mark) (i : ℕ) → term₂ s ≡ fails
      → many (Attribute rust sub₂) s ≡ fits (u ∷ us) os i → message₂ s ≡ fits tt os i
  unfolding message₂
  message-only s u us os i e f = second term₂ (void (some (Attribute rust sub₂))) s e
      ∙ void-fits (some (Attribute rust sub₂)) s (go (Attribute rust sub₂ s) refl (attribute-uses sub₁ sub₂ agree s))
    where
      go : (o : Answer (Unit {0})) → Attribute rust sub₂ s ≡ o → Uses (Attribute rust sub₂ s)
          → some (Attribute rust sub₂) s ≡ fits (u ∷ us) os i
      go (fits x ms k) h z = some-many (Attribute rust sub₂) (no-attribute sub₁ sub₂ agree) s x ms k h (rw h at z) ∙ f
      go fails h z = let m : many (Attribute rust sub₂) s ≡ fits [] [] 0 =
          many-none (Attribute rust sub₂) (no-attribute sub₁ sub₂ agree) s h in
          let y : ◌≡◌ {A = ℕ} 0 1 = cc in absurd (omega arith)

  -- none
  none-fails : (s : List ℕ) (os : List Mark) (i : ℕ) → many (Attribute rust sub₂) s ≡ fits [] os i → Attribute rust sub₂ s ≡ fails
  unfolding with_first
  none-fails s os i f = go (Attribute rust sub₂ s) refl (attribute-uses sub₁ sub₂ agree s)
    where
      more : (a : Answer (List (Unit {0}))) (x : Unit {0}) → fits [] os i ≡ with_first x a → ◌≡◌ {A = ℕ} 0 1
      more (fits us ms k) x e = cc
      more fails x e = cc

      go : (o : Answer (Unit {0})) → Attribute rust sub₂ s ≡ o → Uses (Attribute rust sub₂ s) → Attribute rust sub₂ s ≡ fails
      go (fits x ms k) h z =
          absurd
          (omega (
            arith,
            more (Peg.after ms k (many (Attribute rust sub₂) (drop k s))) x
                (sym f ∙ many-again (Attribute rust sub₂) (no-attribute sub₁ sub₂ agree) s x ms k h (rw h at z)),
          ))
      go fails h z = h

  pattern-missing : (s : List ℕ) → PatternElement rust sub₂ s ≡ fails → Grammar.Pattern rust sub₂ s ≡ fails
  unfolding Grammar.Pattern dedented-pattern in_pattern
  pattern-missing s e = then-fails (dedented-pattern rust sub₂) _ s (rw (some-fails (PatternElement rust sub₂) s e) refl)

  -- a line that starts with a dot is no error of the pattern
  line-dot : (r : List ℕ) → starts_with 46 (drop (spaces r) r) ≡ true → line_tail sub₂ r ≡ fits [] [] 0
  unfolding on_line
  line-dot r d = go (drop (spaces r) r) refl d
    where
      off : (k : ℕ) → goes_on k 46 ≡ false
      off zero = unfold goes_on in refl
      off (suc k) = goes_on-suc k 46 ∙ (unfold is_continuation in refl)

      go : (q : List ℕ) → drop (spaces r) r ≡ q → starts_with 46 q ≡ true → line_tail sub₂ r ≡ fits [] [] 0
      go [] e h = unfold starts_with in (clash {v = false} h refl)
      go (c ∷ cs) e h = let z : c ≡ 46 = unfold starts_with in (eqb-true c 46 h) in
          let f : drop (spaces r) r ≡ 46 ∷ cs = e ∙ ap (λ x. x ∷ cs) z in
          line-off-tail sub₂ r 46 cs f (rw (on_line, off (spaces r)) refl)

  tail-dot : (s : List ℕ) → line_ends s ≡ true → starts_with 46 (drop (blanks s) s) ≡ true → (rs : List Abstract.Raw)
      × (ms : List Mark) × (k : ℕ) × (tail sub₂ s ≡ fits rs ms k)
  unfolding line_ends eol starts_with onward behind blanks is_blank_at
  tail-dot s l d = go (sign_of s) l d
    where
      go : {s : List ℕ} → Sign s → line_ends s ≡ true → starts_with 46 (drop (blanks s) s) ≡ true
          → (rs : List Abstract.Raw) × (ms : List Mark) × (k : ℕ) × (tail sub₂ s ≡ fits rs ms k)
      go end l d = clash {v = false} d refl
      go (lf t) l d = let (ls, u, b) = block_of t in (
        [],
        [],
        1 + u + 0,
        tail-lf sub₂ agree.no-brace t b
            ∙ rw
            (line-dot (drop u t)
            (subst (λ r. starts_with 46 r ≡ true)
            (sym (drop-drop (spaces (drop u t)) u t ∙ ap (λ i. drop i t) (block-blanks b))) d)) refl,
      )
      go (cr-lf t) l d = let (ls, u, b) = block_of t in (
        [],
        [],
        2 + u + 0,
        tail-crlf sub₂ agree.no-brace t b
            ∙ rw
            (line-dot (drop u t)
            (subst (λ r. starts_with 46 r ≡ true)
            (sym (drop-drop (spaces (drop u t)) u t ∙ ap (λ i. drop i t) (block-blanks b))) d)) refl,
      )
      go (opens t) l d = clash {v = false} l refl
      go (closes t) l d = clash {v = false} l refl
      go (plain b t x y w v) l d = clash l (rw (plain-eol b t x v) refl)

  -- an attribute that is there is no error of the pattern
  attribute-missing : (s : List ℕ) → tail sub₂ s ≡ fails → Attribute rust sub₂ s ≡ fails
  attribute-missing s e = by_case (line_ends s)
      (λ l. let g = gap_of s l in by_case (starts_with 46 (drop (spaces (drop g.size s)) (drop g.size s)))
      (λ d. let (rs, ms, k, f) =
      tail-dot s l
      (subst (λ r. starts_with 46 r ≡ true)
      (drop-drop (spaces (drop g.size s)) g.size s ∙ ap (λ i. drop i s) g.blank) d) in
      let z : ◌≡◌ {A = ℕ} 0 1 = cc in absurd (omega arith))
      (λ d. attribute-not sub₁ sub₂ agree s g d))
      (λ l. attribute-off sub₁ sub₂ agree s l)

  Both : ℕ → List ℕ → Out Fields → Type 0
  Both m s o = Held valued o (rest₂ term₂ s) × Held named o (rest₂ message₂ s)

  rest-held : (m : ℕ) (s : List ℕ) → Both m s (rest₁ m s)
  unfolding Both rest₁ more₁ Reader.◌>>=◌ Reader.next Reader.after Reader.pure
  rest-held m s = go (get_pattern sub₁ s) (whole-agrees sub₁ sub₂ agree s) (value_of sub₂ s)
    where
      moved : (ns : List Mark) (j : ℕ) (os : List Mark) (k x : ℕ)
          → move_up (spaces s) (ns ++ move_up j (move_up x os)) ≡ move_up (spaces s) ns
          ++ move_up (spaces s + (j + x)) (os ++ move_up k [])
      moved ns j os k x = move_up-append (spaces s) ns (move_up j (move_up x os))
          ∙ ap (λ ms. move_up (spaces s) ns ++ ms)
          (ap (move_up (spaces s)) (move_up-twice j x os) ∙ move_up-twice (spaces s) (j + x) os
          ∙ ap (move_up (spaces s + (j + x))) (sym (ap (λ ms. os ++ ms) (move_up-nil k) ∙ append-nil os)))

      -- with a value: the attributes behind it
      valued_rest : (ns : List Mark) (j : ℕ) → Grammar.Pattern rust sub₂ (drop (spaces s) s) ≡ fits tt ns j
          → (g : Gap (drop j (drop (spaces s) s))) → (o : Out ℕ)
          → Attrs sub₁ sub₂ agree 0 (drop j (drop (spaces s) s)) g o
          (many (Attribute rust sub₂) (drop j (drop (spaces s) s)))
          → Both m s
          (Reader.after (move_up (spaces s) ns) (spaces s + (j + g.size))
          (Reader.next (drop g.size (drop j (drop (spaces s) s)))
          (λ count. Reader.pure (record { name = m; value = true; attributes = count })) o))
      valued_rest ns j e g (ok c os k) (us, i, a, dc, h, q) =
          let t = term_fits (drop (spaces s) s) ns j us (move_up g.size os) i e a in
          let g' : Gap (drop (j + i) (drop (spaces s) s)) = subst Gap (drop-drop i j (drop (spaces s) s)) h in (
            (
              λ v. rest-fits term₂ s (ns ++ move_up j (move_up g.size os)) (j + i) t g'
                  ∙ same g os k i h.size q,
              λ v. clash {v = true} refl v,
            ),
            (
              λ v. rest-fits message₂ s (ns ++ move_up j (move_up g.size os)) (j + i)
                  (message-term (drop (spaces s) s) t) g'
                  ∙ same g os k i h.size q,
              λ v. clash {v = true} refl v,
            ),
          )
        where
          same : (g : Gap (drop j (drop (spaces s) s))) (os : List Mark) (k i x : ℕ) → g.size + k ≡ i + x
              → ◌≡◌ {A = Answer (Unit {0})}
              (fits tt (move_up (spaces s) (ns ++ move_up j (move_up g.size os))) (spaces s + (j + i + x)))
              (fits tt (move_up (spaces s) ns ++ move_up (spaces s + (j + g.size)) (os ++ move_up k []))
              (spaces s + (j + g.size) + (k + 0)))
          same g os k i x q = ap₂ (λ ms z. fits tt ms z) (moved ns j os k g.size) (omega arith)
      valued_rest ns j e g (bad x k) h = absurd h
      valued_rest ns j e g (deep k) h = (tt, tt)

      -- without a value: attributes alone
      alone : PatternElement rust sub₂ (drop (spaces s) s) ≡ fails → (g : Gap (drop (spaces s) s)) → (o : Out ℕ)
          → Attrs sub₁ sub₂ agree 0 (drop (spaces s) s) g o (many (Attribute rust sub₂) (drop (spaces s) s))
          → Both m s
          (Reader.after [] (spaces s + g.size)
          (Reader.next (drop g.size (drop (spaces s) s))
          (λ count. Reader.pure (record { name = m; value = false; attributes = count })) o))
      alone el g (ok c os k) (us, i, a, dc, h, q) = (((λ v. clash {v = false} v refl), λ v. rest-fails term₂ s t), attributed us a dc)
        where
          t : term₂ (drop (spaces s) s) ≡ fails
          t = term-fails (drop (spaces s) s) (pattern-missing (drop (spaces s) s) el)

          attributed : (us : List (Unit {0}))
              → many (Attribute rust sub₂) (drop (spaces s) s) ≡ fits us (move_up g.size os) i → c ≡ 0 + length us
              → Held named
              (ok (record { name = m; value = false; attributes = c }) (move_up (spaces s + g.size) (os ++ move_up k []))
              (spaces s + g.size + (k + 0)))
              (rest₂ message₂ s)
          attributed [] a dc = (
            (λ v. clash v (rw (eq-eqb c 0 dc) refl)),
            λ v. rest-fails message₂ s
                (message-fails (drop (spaces s) s) t (none-fails (drop (spaces s) s) (move_up g.size os) i a)),
          )
          attributed (x ∷ xs) a dc = (
            (λ v. rest-fits message₂ s (move_up g.size os) i
                (message-only (drop (spaces s) s) x xs (move_up g.size os) i t a) h
                ∙ ap₂ (λ ms z. fits tt ms z)
                (move_up-twice (spaces s) g.size os
                ∙ ap (move_up (spaces s + g.size)) (sym (ap (λ ms. os ++ ms) (move_up-nil k) ∙ append-nil os)))
                (omega arith)),
            λ v. clash {v = named (record { name = m; value = false; attributes = c })}
                (rw (ne_eqb c 0 (λ z. omega arith)) refl) v,
          )
      alone el g (bad x k) h = absurd h
      alone el g (deep k) h = (tt, tt)

      go : (o : Out Bool) → Whole sub₂ s o (whole-pattern sub₂ s) → Value sub₂ s → Both m s (Reader.next s (λ value. more₁ m value) o)
      go (ok true ms k) w (fit ns j e g h) =
          let x : ms ≡ move_up (spaces s) ns = cc in
          let y : k ≡ spaces s + (j + g.size) = cc in
          let D : drop (spaces s + (j + g.size)) s ≡ drop g.size (drop j (drop (spaces s) s)) =
          sym (drop-drop g.size j (drop (spaces s) s) ∙ drop-drop (j + g.size) (spaces s) s) in
          rw (x, y, D, more-is m true (drop g.size (drop j (drop (spaces s) s))) g.stops)
          (valued_rest ns j e g (get_attributes sub₁ (drop g.size (drop j (drop (spaces s) s))))
          (attributes-agree sub₁ sub₂ agree (drop j (drop (spaces s) s)) g))
      go (ok true ms k) w (broken ns j e l h) = let z : ◌≡◌ {A = ℕ} 0 1 = cc in absurd (omega arith)
      go (ok true ms k) w (missing e h) = let z : ◌≡◌ {A = ℕ} 0 1 = cc in absurd (omega arith)
      go (ok false ms k) w v =
          let (a, el, mz, u, ns, j, c, kq) = w in
          let (g, gq) = closing-gap (drop (spaces s) s) c in
          let y : k ≡ spaces s + g.size = kq ∙ ap (λ i. spaces s + i) (sym gq) in
          rw (
            mz,
            y,
            sym (drop-drop g.size (spaces s) s),
            more-is m false (drop g.size (drop (spaces s) s)) g.stops,
          )
          (alone el g (get_attributes sub₁ (drop g.size (drop (spaces s) s)))
          (attributes-agree sub₁ sub₂ agree (drop (spaces s) s) g))
      go (bad e k) w (fit ns j f g h) = let z : ◌≡◌ {A = ℕ} 0 1 = cc w.0 in absurd (omega arith)
      go (bad e k) w (broken ns j f l h) =
          let t =
          term_fits (drop (spaces s) s) ns j [] [] 0 f
          (many-none (Attribute rust sub₂) (no-attribute sub₁ sub₂ agree) (drop j (drop (spaces s) s))
          (attribute-off sub₁ sub₂ agree (drop j (drop (spaces s) s)) l)) in
          let b : line_ends (drop (j + 0) (drop (spaces s) s)) ≡ false = rw (add-zero j) l in (
            rest-broken term₂ s (ns ++ move_up j []) (j + 0) t b,
            rest-broken message₂ s (ns ++ move_up j []) (j + 0) (message-term (drop (spaces s) s) t) b,
          )
      go (bad e k) w (missing f h) =
          let t = term-fails (drop (spaces s) s) f in
          (rest-fails term₂ s t, rest-fails message₂ s (message-fails (drop (spaces s) s) t (attribute-missing (drop (spaces s) s) w.1)))
      go (deep k) w v = (tt, tt)

  -- from the name on
  message-held : (s : List ℕ) → Held named (fields sub₁ s) ((Identifier 9 >> (blank-inline? >> (byte 61 >> rest₂ message₂))) s)
  unfolding fields ◌>>◌ Reader.◌>>=◌ Reader.◌>>◌ rest₁ Both
  message-held s = held_next named (λ m. take m s) s _ _ (get_identifier 9 s) (Identifier 9 s) (same_name 9 s)
      (λ m r. held_next named nothing r _ _ (skip_blank_inline r) (blank-inline? r) (same-blank-inline.same r)
      (λ x q. held_next named nothing q _ _ (expect_byte 61 q) (byte 61 q) ((same_byte 61).same q) (λ y t. (rest-held m t).1)))

  term-held : (s : List ℕ) → Held valued (term_fields sub₁ s) ((byte 45 >> (Identifier 9 >> (blank-inline? >> (byte 61 >> rest₂ term₂)))) s)
  unfolding term_fields fields ◌>>◌ Reader.◌>>=◌ Reader.◌>>◌ rest₁ Both
  term-held s = held_next valued nothing s _ _ (expect_byte 45 s) (byte 45 s) ((same_byte 45).same s)
      (λ w o. held_next valued (λ m. take m o) o _ _ (get_identifier 9 o) (Identifier 9 o) (same_name 9 o)
      (λ m r. held_next valued nothing r _ _ (skip_blank_inline r) (blank-inline? r) (same-blank-inline.same r)
      (λ x q. held_next valued nothing q _ _ (expect_byte 61 q) (byte 61 q) ((same_byte 61).same q) (λ y t. (rest-held m t).0))))

  -- the productions of entries, regrouped
  then-assoc : {A B C : Type 0} (p : Parser A) (q : Parser B) (w : Parser C) → (p >> q) >> w ≡ p >> (q >> w)
  unfolding ◌>>◌ Peg.next
  then-assoc {A} p q w = fun_ext (λ s. go s (p s))
    where
      go : (s : List ℕ) (o : Answer A) → Peg.next s (λ _. w) (Peg.next s (λ _. q) o) ≡ Peg.next s (λ _ r. Peg.next r (λ _. w) (q r)) o
      go s (fits a ms k) = next-after s (λ _. w) ms k (q (drop k s))
      go s fails = refl

  message-chain : Message rust sub₂ >> entry-end rust n ≡ Identifier 9 >> (blank-inline? >> (byte 61 >> rest₂ message₂))
  unfolding Message message₂ term₂ rest₂
  message-chain = then-assoc (Identifier 9) _ (entry-end rust n)
      ∙ ap (λ p. Identifier 9 >> p)
      (then-assoc blank-inline? _ (entry-end rust n)
      ∙ ap (λ p. blank-inline? >> p)
      (then-assoc (byte 61) _ (entry-end rust n)
      ∙ ap (λ p. byte 61 >> p) (then-assoc blank-inline? _ (entry-end rust n))))

  term-chain : Term rust sub₂ >> entry-end rust n ≡ byte 45 >> (Identifier 9 >> (blank-inline? >> (byte 61 >> rest₂ term₂)))
  unfolding Term term₂ rest₂
  term-chain = then-assoc (byte 45) _ (entry-end rust n)
      ∙ ap (λ p. byte 45 >> p)
      (then-assoc (Identifier 9) _ (entry-end rust n)
      ∙ ap (λ p. Identifier 9 >> p)
      (then-assoc blank-inline? _ (entry-end rust n)
      ∙ ap (λ p. blank-inline? >> p)
      (then-assoc (byte 61) _ (entry-end rust n)
      ∙ ap (λ p. byte 61 >> p) (then-assoc blank-inline? _ (entry-end rust n)))))

  -- as entries
  pub message-agrees : (s : List ℕ)
      → Same item_of (as_message (fields sub₁ s)) ((Message rust sub₂ >> entry-end rust n >> pure Abstract.message) s)
  unfolding as_message pure
  message-agrees s = go (fields sub₁ s) (rw (← message-chain) at (message-held s))
    where
      P : Parser (Unit {0})
      P = Message rust sub₂ >> entry-end rust n

      go : (o : Out Fields) → Held named o ((Message rust sub₂ >> entry-end rust n) s)
          → Same item_of (as_message o) ((Message rust sub₂ >> entry-end rust n >> pure Abstract.message) s)
      go (ok f ms k) h = by_case (f.value || not (eqb f.attributes 0))
          (λ v. rw (v, as_message) (then-fits P (pure Abstract.message) s (h.0 v) ∙ fits-pure Abstract.message ms k))
          (λ v. rw (v, as_message) (then-fails P (pure Abstract.message) s (h.1 v)))
      go (bad e k) h = then-fails P (pure Abstract.message) s h
      go (deep k) h = tt

  pub term-agrees : (s : List ℕ) → Same item_of (as_term (term_fields sub₁ s)) ((Term rust sub₂ >> entry-end rust n >> pure Abstract.term) s)
  unfolding as_term pure
  term-agrees s = go (term_fields sub₁ s) (rw (← term-chain) at (term-held s))
    where
      P : Parser (Unit {0})
      P = Term rust sub₂ >> entry-end rust n

      go : (o : Out Fields) → Held valued o ((Term rust sub₂ >> entry-end rust n) s)
          → Same item_of (as_term o) ((Term rust sub₂ >> entry-end rust n >> pure Abstract.term) s)
      go (ok f ms k) h = by_case f.value
          (λ v. rw (v, as_term) (then-fits P (pure Abstract.term) s (h.0 v) ∙ fits-pure Abstract.term ms k))
          (λ v. rw (v, as_term) (then-fails P (pure Abstract.term) s (h.1 v)))
      go (bad e k) h = then-fails P (pure Abstract.term) s h
      go (deep k) h = tt
