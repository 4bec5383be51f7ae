-- Placeables: the reading's against the grammar's, and hence the agreement at each level of nesting.
use Rattle.std.specs.Prelude.{ℕ, zero, suc, ◌+◌, ◌≡◌, Bool, true, ◌&&◌, drop, eqb}
use Rattle.std.proofs.Common.{arith, ◌∙◌, subst, inl, inr, drop-drop}
use Rattle.std.proofs.Math.Nat.{add-zero}
use Rattle.std.proofs.Math.Path.{refl, sym, ap, ap₂}
use Rattle.std.proofs.Math.Bool.{false}
use mathlib.Core.List.{List, [], ◌∷◌}
use Rattle.syntax.specs.Bytes.{starts, starts_with, second as second_byte, spaces}
use Rattle.syntax.specs.Marks.{Mark, move_up, node}
use Rattle.syntax.specs.Reader as Reader
use Rattle.syntax.specs.Reader.{Out, ok, bad, deep, Reader, wrap}
use Rattle.syntax.specs.Helper.{skip_blank, skip_blank_inline, skip_eol, expect_byte}
use Rattle.syntax.specs.Pattern as Pattern
use Rattle.syntax.specs.Expression as Read
use Rattle.syntax.specs.Expression.{Inline, string, number, variable, function, inner, message, term}
use Rattle.syntax.specs.Expression.{is_term_attribute, no_term_attribute}
use Rattle.syntax.specs.Expression.{get_inline_expression, get_variants, needs_line_end, selector, alone, select_from}
use Rattle.syntax.specs.Expression.{after_inline, in_select, inline_or_select, get_expression, braced, too_deep, level}
use Rattle.laws.specs.Bytes.{by_case, clash}
use Rattle.laws.specs.Attribute.{braced_once, braced-once}
use Rattle.standard.specs.Dialect.{rust}
use Rattle.standard.specs.Peg as Peg
use Rattle.standard.specs.Peg.{Answer, fits, fails, Parser, byte, only, in-node, shared, share, ◌//◌, ◌>>◌, ◌>>=◌}
use Rattle.standard.specs.Abstract.{Form, Content, inline, select, A10, A11}
use Rattle.standard.specs.Lexical.{blank?, blank-inline?}
use Rattle.standard.specs.Grammar as Grammar
use Rattle.standard.specs.Grammar.{InlineExpression, variant-list, SelectExpression, expression, inline-placeable, nesting}
use Rattle.standard.specs.Steps.{byte_fits, byte-fails, then-fits, then-fails, bind-fits, bind-fails, node-fits}
use Rattle.standard.specs.Steps.{node-fails, after-fails, after-skip, only-passes, only-forbids, starts-byte}
use Rattle.standard.specs.Steps.{starts_other, starts_apart, Uses, uses-first, uses-node, uses-byte}
use Rattle.standard.specs.Blank.{behind, blanks, over, drop-over, no-blanks, spaces-blanks, blank-inline?-is}
use Rattle.standard.specs.Blank.{reader-skips, parser-skips}
use Rattle.standard.specs.Same.{Same, nothing, Agree, PatternAgrees, same-skip, same-wrap, same_byte, same-blank}
use Rattle.standard.specs.Same.{then, reads_then, reads-skip, ok-pure, fits-pure, expects, refuses}
use Rattle.standard.specs.Near.{is_opening, Opens, Left, Near, Wrong, wrong-next, wrong-after}
use Rattle.standard.proofs.Words.{form_of}
use Rattle.standard.proofs.Inline.{inline-near}
use Rattle.standard.proofs.Arguments.{arguments-agree, no_arguments}
use Rattle.standard.proofs.Select.{Ended, ended-after, reads_lines, variants-ended}

-- A10 and A11
-- ---------------------------------------------------------------------------------------------------------------------------------

-- an answer without its value
abbrev Passes : {A : Type 0} → A → Bool → Out A → Type 0
Passes x true o = o ≡ ok x [] 0
Passes x false (ok y ms k) = ⊥
Passes x false (bad e k) = Unit {0}
Passes x false (deep k) = ⊥

passes : {A : Type 0} (x : A) (v : Bool) (o : Out A) → Passes x v o → v ≡ true → o ≡ ok x [] 0
passes x true o h e = h
passes x false o h e = clash e refl

stops : {A : Type 0} (x : A) (v : Bool) (o : Out A) → Passes x v o → v ≡ false → Wrong o
stops x true o h e = clash refl e
stops x false (ok y ms k) h e = h
stops x false (bad f k) h e = tt
stops x false (deep k) h e = tt

selects : (x : Inline) (s : List ℕ) → Passes tt (A10 (form_of x)) (selector x s)
unfolding A10 form_of selector Reader.pure Reader.fail
selects string s = refl
selects number s = refl
selects variable s = refl
selects function s = refl
selects inner s = tt
selects (message n true) s = tt
selects (message n false) s = tt
selects (term true) s = refl
selects (term false) s = tt

stands : (x : Inline) (s : List ℕ) → Passes (Read.inline x) (A11 (inline (form_of x))) (alone x s)
unfolding A11 form_of alone no_term_attribute is_term_attribute Reader.◌>>◌ Reader.next Reader.after Reader.pure Reader.fail move_up
stands string s = refl
stands number s = refl
stands variable s = refl
stands function s = refl
stands inner s = refl
stands (message n a) s = refl
stands (term true) s = tt
stands (term false) s = refl

-- The end of a placeable
-- ----------------------------------------------------------------------------------------------------------------------

reads-close : Reader (Unit {0})
reads-close = Reader.◌>>◌ skip_blank_inline (expect_byte 125)

-- with rule A11
close : Content → Parser (Unit {0})
close c = blank? >> (byte 125 >> only (A11 c))

reads-close-is : (s : List ℕ) → reads-close s ≡ Reader.after [] (spaces s) (expect_byte 125 (drop (spaces s) s))
unfolding reads-close skip_blank_inline
reads-close-is s = reads_then skip_blank_inline (expect_byte 125) s refl

close-is : (c : Content) (s : List ℕ) → close c s ≡ Peg.after [] (blanks s) ((byte 125 >> only (A11 c)) (behind s))
unfolding close
close-is c s = parser-skips (byte 125 >> only (A11 c)) s

unclosed : (c : Content) (s : List ℕ) → starts_with 125 (behind s) ≡ false → close c s ≡ fails
unclosed c s e = close-is c s ∙ after-fails [] (blanks s) (then-fails (byte 125) (only (A11 c)) (behind s) (byte-fails 125 (behind s) e))

allowed : (c : Content) (s : List ℕ) → A11 c ≡ true → (byte 125 >> only (A11 c)) s ≡ byte 125 s
unfolding only Peg.pure Peg.after move_up
allowed c s e = by_case (starts_with 125 s)
    (λ q. then-fits (byte 125) (only (A11 c)) s (byte_fits 125 s q) ∙ ap (λ v. Peg.after [] 1 (only v (drop 1 s))) e
    ∙ sym (byte_fits 125 s q))
    (λ q. then-fails (byte 125) (only (A11 c)) s (byte-fails 125 s q) ∙ sym (byte-fails 125 s q))

forbidden : (c : Content) (s : List ℕ) → A11 c ≡ false → close c s ≡ fails
unfolding only Peg.never
forbidden c s e = close-is c s ∙ after-fails [] (blanks s) (by_case (starts_with 125 (behind s))
    (λ q. then-fits (byte 125) (only (A11 c)) (behind s) (byte_fits 125 (behind s) q)
    ∙ after-fails [] 1 (ap (λ v. only v (drop 1 (behind s))) e))
    (λ q. then-fails (byte 125) (only (A11 c)) (behind s) (byte-fails 125 (behind s) q)))

-- from places that the blanks make one
close-same : (c : Content) (s : List ℕ) (ms : List Mark) (k j : ℕ) → A11 c ≡ true → over s j ≡ k + spaces (drop k s)
    → Same nothing (Reader.after ms k (reads-close (drop k s))) (Peg.after ms j (close c (drop j s)))
unfolding over
close-same c s ms k j e h =
    let r : drop (spaces (drop k s)) (drop k s) ≡ behind (drop j s) = drop-drop (spaces (drop k s)) k s
    ∙ ap (λ n. drop n s) (sym h) ∙ sym (drop-over s j) in
    rw (reads-close-is (drop k s), close-is c (drop j s), allowed c (behind (drop j s)) e)
    (same-skip nothing ms k (spaces (drop k s)) j (blanks (drop j s))
    (expect_byte 125 (drop (spaces (drop k s)) (drop k s))) (byte 125 (behind (drop j s))) (sym h)
    (subst (λ t. Same nothing (expect_byte 125 t) (byte 125 (behind (drop j s)))) (sym r) ((same_byte 125).same (behind (drop j s)))))

-- SelectExpression, or what an inline expression leaves
abbrev or : Answer Content → Answer Content → Answer Content
or a b = elim a [ fits x ms k ↦ fits x ms k | fails ↦ b ]

selected : Answer (Unit {0}) → Answer Content
selected (fits u ms k) = fits select ms k
selected fails = fails

select-same : (s : List ℕ) (o : Out (Unit {0})) (a : Answer (Unit {0})) (b : Answer Content) → Ended s o a
    → Peg.next s close b ≡ fails
    → Same nothing (Reader.next s (λ _. reads-close) o) (Peg.next s close (or (selected a) b))
unfolding Reader.next Peg.next selected A11
select-same s (ok u ms k) a b (inl (j, e, h)) f = rw e (close-same select s ms k j refl h)
select-same s (ok u ms k) a b (inr (e, c)) f =
    rw (e, reads-close-is (drop k s), refuses 125 (drop (spaces (drop k s)) (drop k s)) c) (unfold Reader.after in f)
select-same s (bad d k) (fits u ms j) b h f =
    after-fails ms j (unclosed select (drop j s) (subst (λ r. starts_with 125 r ≡ false) (sym (drop-over s j)) h))
select-same s (bad d k) fails b h f = f
select-same s (deep k) a b h f = tt

-- in a node
wrapped : {A : Type 0} → ℕ → Answer A → Answer A
wrapped kind (fits x ms k) = fits x (node kind ms) k
wrapped kind fails = fails

node-is : {A : Type 0} (kind : ℕ) (p : Parser A) (s : List ℕ) (a : Answer A) → p s ≡ a → in-node kind p s ≡ wrapped kind a
unfolding wrapped
node-is kind p s (fits x ms k) e = node-fits kind p s e
node-is kind p s fails e = node-fails kind p s e

ended-wrap : (kind : ℕ) (s : List ℕ) (o : Out (Unit {0})) (a : Answer (Unit {0})) → Ended s o a → Ended s (wrap kind o) (wrapped kind a)
unfolding wrap wrapped
ended-wrap kind s (ok u ms k) a (inl (j, e, h)) = inl (j, ap (wrapped kind) e, h)
ended-wrap kind s (ok u ms k) a (inr (e, c)) = inr (ap (wrapped kind) e, c)
ended-wrap kind s (bad d k) (fits u ms j) h = h
ended-wrap kind s (bad d k) fails h = h
ended-wrap kind s (deep k) a h = tt

-- The expression in a placeable
-- ---------------------------------------------------------------------------------------------------------------

-- "->" stands here
abbrev arrow : List ℕ → Bool
arrow s = starts_with 45 s && second_byte (λ b. eqb b 62) s

arrow-bytes : (s : List ℕ) → arrow s ≡ true → (starts_with 45 s ≡ true) × (starts_with 62 (drop 1 s) ≡ true)
unfolding starts_with second_byte
arrow-bytes [] e = clash e refl
arrow-bytes (b ∷ bs) e =
    by_case (eqb b 45) (λ q. (q, sym (starts-byte 62 bs) ∙ sym (ap (λ v. v && starts (λ x. eqb x 62) bs) q) ∙ e))
    (λ q. clash e (rw q refl))

no-arrow-bytes : (s : List ℕ) → arrow s ≡ false → starts_with 45 s ≡ true → starts_with 62 (drop 1 s) ≡ false
unfolding starts_with second_byte
no-arrow-bytes [] e h = refl
no-arrow-bytes (b ∷ bs) e h = sym (starts-byte 62 bs) ∙ sym (ap (λ v. v && starts (λ x. eqb x 62) bs) h) ∙ e

-- values
selected-after : (ms : List Mark) (k : ℕ) (a : Answer (Unit {0})) → Peg.after ms k (selected a) ≡ selected (Peg.after ms k a)
unfolding selected Peg.after
selected-after ms k (fits u ns j) = refl
selected-after ms k fails = refl

selected-pure : (s : List ℕ) (a : Answer (Unit {0})) → Peg.next s (λ _. Peg.pure select) a ≡ selected a
unfolding selected Peg.next Peg.pure
selected-pure s (fits u ms k) = fits-pure select ms k
selected-pure s fails = refl

chosen : Out (Unit {0}) → Out Read.Expression
chosen (ok u ms k) = ok Read.select ms k
chosen (bad e k) = bad e k
chosen (deep k) = deep k

chosen-after : (ms : List Mark) (k : ℕ) (o : Out (Unit {0})) → Reader.after ms k (chosen o) ≡ chosen (Reader.after ms k o)
unfolding chosen Reader.after
chosen-after ms k (ok u ns j) = refl
chosen-after ms k (bad e j) = refl
chosen-after ms k (deep j) = refl

chosen-pure : (s : List ℕ) (o : Out (Unit {0})) → Reader.next s (λ _. Reader.pure Read.select) o ≡ chosen o
unfolding chosen Reader.next Reader.pure
chosen-pure s (ok u ms k) = ok-pure Read.select ms k
chosen-pure s (bad e k) = refl
chosen-pure s (deep k) = refl

chosen-next : {A : Type 0} (s : List ℕ) (q : A → Reader (Unit {0})) (q' : A → Reader Read.Expression) (o : Out A)
    → ((x : A) (r : List ℕ) → q' x r ≡ chosen (q x r)) → Reader.next s q' o ≡ chosen (Reader.next s q o)
unfolding chosen Reader.next
chosen-next s q q' (ok x ms k) h = ap (Reader.after ms k) (h x (drop k s)) ∙ chosen-after ms k (q x (drop k s))
chosen-next s q q' (bad e k) h = refl
chosen-next s q q' (deep k) h = refl

chosen-before : (s : List ℕ) (q : Reader (Unit {0})) (o : Out (Unit {0}))
    → Reader.next s (λ _. q) (chosen o) ≡ Reader.next s (λ _. q) o
unfolding chosen Reader.next
chosen-before s q (ok u ms k) = refl
chosen-before s q (bad e k) = refl
chosen-before s q (deep k) = refl

wrapped-selected : (kind : ℕ) (a : Answer (Unit {0})) → wrapped kind (selected a) ≡ selected (wrapped kind a)
unfolding wrapped selected
wrapped-selected kind (fits u ms k) = refl
wrapped-selected kind fails = refl

wrong-select : (o : Out Read.Expression) → Wrong o → Wrong (in_select o)
unfolding in_select
wrong-select (ok e ms k) h = absurd h
wrong-select (bad e k) h = tt
wrong-select (deep k) h = tt

over-spaces : (s : List ℕ) (j : ℕ) → spaces (drop (over s j) s) ≡ 0
over-spaces s j = omega (arith, spaces-blanks (drop (over s j) s), subst (λ r. blanks r ≡ 0) (drop-over s j) (no-blanks (drop j s)))

module _ {sub₁ : Pattern.Inside} {sub₂ : Grammar.Inside} (agree : Agree sub₁ sub₂) (patterns : PatternAgrees sub₁ sub₂) where
  -- from "->" on
  arrow-list : Parser Content
  arrow-list = byte 45 >> (byte 62 >> (blank-inline? >> (variant-list rust sub₂ >> Peg.pure select)))

  -- the expression, from what an inline expression answered
  either : Answer Form → Parser Content
  either a s = or (SelectExpression rust sub₂ (λ _. a) s) (((λ _. a) >>= (λ form. Peg.pure (inline form))) s)

  expression-is : (s : List ℕ) → expression rust sub₂ s ≡ either (InlineExpression rust sub₂ s) s
  unfolding expression shared share either ◌//◌
  expression-is s = refl

  select-body : Form → Parser Content
  select-body x = only (A10 x) >> (blank? >> arrow-list)

  select-is : (s : List ℕ) (x : Form) (ms : List Mark) (j : ℕ) → A10 x ≡ true
      → SelectExpression rust sub₂ (λ _. fits x ms j) s ≡ wrapped 14
      (Peg.after ms (over s j) (arrow-list (drop (over s j) s)))
  unfolding SelectExpression select-body arrow-list over
  select-is s x ms j e =
      node-is 14 ((λ _. fits x ms j) >>= select-body) s (Peg.after ms (over s j) (arrow-list (drop (over s j) s)))
      (bind-fits (λ _. fits x ms j) select-body s refl
      ∙ ap (Peg.after ms j)
      (only-passes (A10 x) (blank? >> arrow-list) (drop j s) e ∙ parser-skips arrow-list (drop j s))
      ∙ after-skip ms j (blanks (drop j s)) (arrow-list (behind (drop j s)))
      ∙ ap (λ r. Peg.after ms (over s j) (arrow-list r)) (drop-over s j))

  no-select : (s : List ℕ) (x : Form) (ms : List Mark) (j : ℕ) → A10 x ≡ false → SelectExpression rust sub₂ (λ _. fits x ms j) s ≡ fails
  unfolding SelectExpression select-body arrow-list
  no-select s x ms j e =
      node-fails 14 ((λ _. fits x ms j) >>= select-body) s
      (bind-fits (λ _. fits x ms j) select-body s refl
      ∙ after-fails ms j (only-forbids (A10 x) (blank? >> arrow-list) (drop j s) e))

  inline-is : (s : List ℕ) (x : Form) (ms : List Mark) (j : ℕ)
      → ((λ _. fits x ms j) >>= (λ form. Peg.pure (inline form))) s ≡ fits (inline x) ms j
  unfolding Peg.pure
  inline-is s x ms j = bind-fits (λ _. fits x ms j) (λ form. Peg.pure (inline form)) s refl ∙ fits-pure (inline x) ms j

  -- where the rest starts with no "}"
  no-inline : (s : List ℕ) (x : Form) (ms : List Mark) (j : ℕ) → starts_with 125 (drop (over s j) s) ≡ false
      → Peg.next s close (fits (inline x) ms j) ≡ fails
  unfolding Peg.next
  no-inline s x ms j e = after-fails ms j (unclosed (inline x) (drop j s) (subst (λ r. starts_with 125 r ≡ false) (sym (drop-over s j)) e))

  no-arrow : (s : List ℕ) → arrow s ≡ false → arrow-list s ≡ fails
  unfolding arrow-list
  no-arrow s e =
      by_case (starts_with 45 s)
      (λ q. then-fits (byte 45) _ s (byte_fits 45 s q)
      ∙ after-fails [] 1 (then-fails (byte 62) _ (drop 1 s) (byte-fails 62 (drop 1 s) (no-arrow-bytes s e q))))
      (λ q. then-fails (byte 45) _ s (byte-fails 45 s q))

  -- behind "->" and its spaces
  abbrev list_at : List ℕ → List ℕ
  list_at s = drop (spaces (drop 2 s)) (drop 2 s)

  arrow-is : (s : List ℕ) → arrow s ≡ true
      → arrow-list s ≡ selected (Peg.after [] 2 (Peg.after [] (spaces (drop 2 s)) (variant-list rust sub₂ (list_at s))))
  unfolding arrow-list ◌>>◌
  arrow-is s e =
      let (m, g) = arrow-bytes s e in
      let end = blank-inline? >> (variant-list rust sub₂ >> Peg.pure select) in
      then-fits (byte 45) (byte 62 >> end) s (byte_fits 45 s m)
      ∙ ap (Peg.after [] 1)
      (then-fits (byte 62) end (drop 1 s) (byte_fits 62 (drop 1 s) g)
      ∙ ap (λ r. Peg.after [] 1 (end r)) (drop-drop 1 1 s))
      ∙ after-skip [] 1 1 (end (drop 2 s))
      ∙ ap (Peg.after [] 2)
      (then-fits blank-inline? (variant-list rust sub₂ >> Peg.pure select) (drop 2 s) (blank-inline?-is (drop 2 s))
      ∙ ap (Peg.after [] (spaces (drop 2 s))) (selected-pure (list_at s) (variant-list rust sub₂ (list_at s)))
      ∙ selected-after [] (spaces (drop 2 s)) (variant-list rust sub₂ (list_at s)))
      ∙ selected-after [] 2 (Peg.after [] (spaces (drop 2 s)) (variant-list rust sub₂ (list_at s)))

  -- the reading's
  abbrev lines-chosen : Reader Read.Expression
  lines-chosen =
      Reader.◌>>=◌ skip_eol
      (λ end. Reader.◌>>◌ (needs_line_end end)
      (Reader.◌>>◌ skip_blank (Reader.◌>>◌ (get_variants sub₁) (Reader.pure Read.select))))

  lines_are : (s : List ℕ) → lines-chosen s ≡ chosen (reads_lines patterns s)
  unfolding Reader.◌>>=◌ Reader.◌>>◌
  lines_are s =
      chosen-next s _ _ (skip_eol s)
      (λ e r. chosen-next r _ _ (needs_line_end e r)
      (λ u r. chosen-next r _ _ (skip_blank r) (λ u r. chosen-pure r (get_variants sub₁ r))))

  spaces-read : Reader Read.Expression
  spaces-read = Reader.◌>>◌ skip_blank_inline lines-chosen

  arrow-read : (x : Inline) (s : List ℕ) → arrow s ≡ true → A10 (form_of x) ≡ true
      → after_inline sub₁ x s ≡ chosen
      (Reader.after [] 2 (Reader.after [] (spaces (drop 2 s)) (reads_lines patterns (list_at s))))
  unfolding after_inline select_from spaces-read skip_blank_inline
  arrow-read x s e h =
      let (m, g) = arrow-bytes s e in
      rw (e, after_inline)
      (reads_then (selector x) (Reader.◌>>◌ (expect_byte 45) (Reader.◌>>◌ (expect_byte 62) spaces-read)) s
      (passes tt (A10 (form_of x)) (selector x s) (selects x s) h)
      ∙ ap (Reader.after [] 0) (reads_then (expect_byte 45) (Reader.◌>>◌ (expect_byte 62) spaces-read) s (expects 45 s m)
      ∙ ap (Reader.after [] 1)
      (reads_then (expect_byte 62) spaces-read (drop 1 s) (expects 62 (drop 1 s) g)
      ∙ ap (λ r. Reader.after [] 1 (spaces-read r)) (drop-drop 1 1 s)))
      ∙ reads-skip [] 0 1 (Reader.after [] 1 (spaces-read (drop 2 s))) ∙ reads-skip [] 1 1 (spaces-read (drop 2 s))
      ∙ ap (Reader.after [] 2)
      (reads_then skip_blank_inline lines-chosen (drop 2 s) refl
      ∙ ap (Reader.after [] (spaces (drop 2 s))) (lines_are (list_at s))
      ∙ chosen-after [] (spaces (drop 2 s)) (reads_lines patterns (list_at s)))
      ∙ chosen-after [] 2 (Reader.after [] (spaces (drop 2 s)) (reads_lines patterns (list_at s))))

  -- without "->", and where the selector is none
  alone-read : (x : Inline) (s : List ℕ) → arrow s ≡ false → after_inline sub₁ x s ≡ alone x s
  unfolding after_inline
  alone-read x s e = rw (e, after_inline) refl

  wrong-selector : (x : Inline) (s : List ℕ) → arrow s ≡ true → A10 (form_of x) ≡ false → Wrong (after_inline sub₁ x s)
  unfolding after_inline select_from Reader.◌>>◌
  wrong-selector x s e h =
      rw (e, after_inline)
      (wrong-next s
      (λ _. Reader.◌>>◌ (expect_byte 45) (Reader.◌>>◌ (expect_byte 62) (Reader.◌>>◌ skip_blank_inline lines-chosen)))
      (selector x s) (stops tt (A10 (form_of x)) (selector x s) (selects x s) h))

  -- Expression and end
  -- --------------------------------------------------------------------------------------------------------------------------

  -- in the select's node, if it is one
  select-wrap : (o : Out (Unit {0})) → in_select (chosen o) ≡ chosen (wrap 14 o)
  unfolding in_select chosen wrap
  select-wrap (ok u ms k) = refl
  select-wrap (bad e k) = refl
  select-wrap (deep k) = refl

  -- the reading goes on behind the blanks
  read-on : (s : List ℕ) (x : Inline) (ms : List Mark) (k : ℕ)
      → Reader.next s (λ y. Reader.◌>>◌ skip_blank (after_inline sub₁ y)) (ok x ms k) ≡ Reader.after ms (over s k)
      (after_inline sub₁ x (drop (over s k) s))
  unfolding Reader.next over
  read-on s x ms k = ap (Reader.after ms k) (reader-skips (after_inline sub₁ x) (drop k s))
      ∙ reads-skip ms k (blanks (drop k s)) (after_inline sub₁ x (behind (drop k s)))
      ∙ ap (λ r. Reader.after ms (over s k) (after_inline sub₁ x r)) (drop-over s k)

  abbrev reads_all : Reader (Unit {0})
  reads_all = Reader.◌>>◌ (get_expression sub₁) reads-close

  abbrev parses-all : Parser (Unit {0})
  parses-all = expression rust sub₂ >>= close

  -- an answer that is no answer on the whole
  wrong-same : (o : Out (Unit {0})) (a : Answer (Unit {0})) → Wrong o → a ≡ fails → Same nothing o a
  wrong-same (ok u ms k) a w e = absurd w
  wrong-same (bad f k) a w e = e
  wrong-same (deep k) a w e = tt

  -- the grammar's, from an inline expression's answer
  parses : (s : List ℕ) (f : Form) (ms : List Mark) (j : ℕ) {a : Answer Content}
      → InlineExpression rust sub₂ s ≡ fits f ms j → SelectExpression rust sub₂ (λ _. fits f ms j) s ≡ a
      → parses-all s ≡ Peg.next s close (or a (fits (inline f) ms j))
  unfolding ◌>>=◌ either
  parses s f ms j here e = ap (Peg.next s close) (expression-is s ∙ ap (λ o. either o s) here ∙ ap₂ or e (inline-is s f ms j))

  no-select-at : (s : List ℕ) (f : Form) (ms : List Mark) (j : ℕ) → arrow (drop (over s j) s) ≡ false
      → SelectExpression rust sub₂ (λ _. fits f ms j) s ≡ fails
  unfolding wrapped
  no-select-at s f ms j e =
      by_case (A10 f)
      (λ q. select-is s f ms j q ∙ ap (wrapped 14) (after-fails ms (over s j) (no-arrow (drop (over s j) s) e)))
      (λ q. no-select s f ms j q)

  parses-none : (s : List ℕ) → InlineExpression rust sub₂ s ≡ fails → parses-all s ≡ fails
  unfolding ◌>>=◌ Peg.next either SelectExpression
  parses-none s e =
      ap (Peg.next s close)
      (expression-is s ∙ ap (λ o. either o s) e
      ∙ ap₂ or (node-fails 14 _ s (bind-fails (λ _. fails) select-body s refl))
      (bind-fails (λ _. fails) (λ form. Peg.pure (inline form)) s refl))

  -- an inline expression of the form x, that ends at j for the grammar and at p for the reading
  module _ (s : List ℕ) (x : Inline) (ms : List Mark) (j p : ℕ)
      (here : InlineExpression rust sub₂ s ≡ fits (form_of x) ms j) (there : over s j ≡ p)
      (read : inline_or_select sub₁ s ≡ Reader.after ms p (after_inline sub₁ x (drop p s))) where
    abbrev rest : List ℕ
    rest = drop p s

    wrong-all : Wrong (after_inline sub₁ x rest) → Wrong (reads_all s)
    unfolding Reader.◌>>◌ get_expression
    wrong-all w =
        wrong-next s (λ _. reads-close) (get_expression sub₁ s)
        (wrong-select (inline_or_select sub₁ s) (rw read (wrong-after ms p (after_inline sub₁ x rest) w)))

    -- no "->"
    alone-ok : arrow rest ≡ false → A11 (inline (form_of x)) ≡ true → get_expression sub₁ s ≡ ok (Read.inline x) ms p
    unfolding get_expression in_select
    alone-ok e q =
        ap in_select
        (read
        ∙ ap (Reader.after ms p)
        (alone-read x rest e ∙ passes (Read.inline x) (A11 (inline (form_of x))) (alone x rest) (stands x rest) q)
        ∙ ok-pure (Read.inline x) ms p)

    alone-same : arrow rest ≡ false → Same nothing (reads_all s) (parses-all s)
    unfolding Reader.◌>>◌ Reader.next Peg.next
    alone-same e =
        rw
        (parses s (form_of x) ms j here
        (no-select-at s (form_of x) ms j (subst (λ n. arrow (drop n s) ≡ false) (sym there) e)))
        (by_case (A11 (inline (form_of x)))
        (λ q. rw (alone-ok e q)
        (close-same (inline (form_of x)) s ms p j q
        (there ∙ sym (ap (λ n. p + n) (subst (λ n. spaces (drop n s) ≡ 0) there (over-spaces s j)) ∙ add-zero p))))
        (λ q. wrong-same (reads_all s) _
        (wrong-all
        (rw (alone-read x rest e) (stops (Read.inline x) (A11 (inline (form_of x))) (alone x rest) (stands x rest) q)))
        (after-fails ms j (forbidden (inline (form_of x)) (drop j s) q))))

    -- "->"
    inline-fails : arrow rest ≡ true → Peg.next s close (fits (inline (form_of x)) ms j) ≡ fails
    inline-fails e =
        no-inline s (form_of x) ms j
        (subst (λ n. starts_with 125 (drop n s) ≡ false) (sym there)
        (starts_other 45 125 rest (arrow-bytes rest e).0 refl))

    abbrev reads-list : Out (Unit {0})
    reads-list = Reader.after [] 2 (Reader.after [] (spaces (drop 2 rest)) (reads_lines patterns (list_at rest)))

    abbrev parses-list : Answer (Unit {0})
    parses-list = Peg.after [] 2 (Peg.after [] (spaces (drop 2 rest)) (variant-list rust sub₂ (list_at rest)))

    select_read : arrow rest ≡ true → A10 (form_of x) ≡ true → get_expression sub₁ s ≡ chosen (wrap 14 (Reader.after ms p reads-list))
    unfolding get_expression
    select_read e q = ap in_select (read ∙ ap (Reader.after ms p) (arrow-read x rest e q) ∙ chosen-after ms p reads-list)
        ∙ select-wrap (Reader.after ms p reads-list)

    select-parsed : arrow rest ≡ true → A10 (form_of x) ≡ true
        → SelectExpression rust sub₂ (λ _. fits (form_of x) ms j) s ≡ selected (wrapped 14 (Peg.after ms p parses-list))
    select-parsed e q = select-is s (form_of x) ms j q
        ∙ ap (λ n. wrapped 14 (Peg.after ms n (arrow-list (drop n s)))) there
        ∙ ap (λ a. wrapped 14 (Peg.after ms p a)) (arrow-is rest e)
        ∙ ap (wrapped 14) (selected-after ms p parses-list) ∙ wrapped-selected 14 (Peg.after ms p parses-list)

    select-ended : Ended s (wrap 14 (Reader.after ms p reads-list)) (wrapped 14 (Peg.after ms p parses-list))
    select-ended =
        ended-wrap 14 s (Reader.after ms p reads-list) (Peg.after ms p parses-list)
        (ended-after s ms p reads-list parses-list
        (ended-after rest [] 2 _ _
        (ended-after (drop 2 rest) [] (spaces (drop 2 rest)) _ _ (variants-ended patterns (list_at rest)))))

    select-here : arrow rest ≡ true → Same nothing (reads_all s) (parses-all s)
    unfolding Reader.◌>>◌
    select-here e = by_case (A10 (form_of x))
        (λ q. rw (parses s (form_of x) ms j here (select-parsed e q), select_read e q, chosen-before s reads-close)
        (select-same s (wrap 14 (Reader.after ms p reads-list)) (wrapped 14 (Peg.after ms p parses-list))
        (fits (inline (form_of x)) ms j) select-ended (inline-fails e)))
        (λ q. wrong-same (reads_all s) (parses-all s) (wrong-all (wrong-selector x rest e q))
        (parses s (form_of x) ms j here (no-select s (form_of x) ms j q) ∙ inline-fails e))

  -- where the reading has an error, and the grammar no "}"
  no_minus : (s : List ℕ) → Opens s → arrow s ≡ false
  unfolding is_opening
  no_minus s e = rw (starts_apart is_opening 45 s e refl) refl

  left-fails : (s : List ℕ) (a : Answer Form) → InlineExpression rust sub₂ s ≡ a → Left s a → parses-all s ≡ fails
  unfolding is_opening
  left-fails s (fits f ms j) e l = parses s f ms j e (no-select-at s f ms j (no_minus (drop (over s j) s) l))
      ∙ no-inline s f ms j (starts_apart is_opening 125 (drop (over s j) s) l refl)
  left-fails s fails e l = parses-none s e

  expression-same : (s : List ℕ) → Same nothing (reads_all s) (parses-all s)
  unfolding inline_or_select Reader.◌>>=◌ Reader.◌>>◌ get_expression in_select
  expression-same s = go (get_inline_expression sub₁ false s) refl (inline-near agree s)
    where
      go : (o : Out Inline) → get_inline_expression sub₁ false s ≡ o → Near form_of s o (InlineExpression rust sub₂ s)
          → Same nothing (reads_all s) (parses-all s)
      go (ok x ms k) e (j, here, there) =
          let read : inline_or_select sub₁ s ≡ Reader.after ms (over s k) (after_inline sub₁ x (drop (over s k) s)) =
          ap (Reader.next s (λ y. Reader.◌>>◌ skip_blank (after_inline sub₁ y))) e
          ∙ read-on s x ms k in
          by_case (arrow (drop (over s k) s)) (λ q. select-here s x ms j (over s k) here there read q)
          (λ q. alone-same s x ms j (over s k) here there read q)
      go (bad f k) e l = rw (e, left-fails s (InlineExpression rust sub₂ s) refl l) (unfold Reader.next in refl)
      go (deep k) e l = rw e (unfold Reader.next in tt)

  -- inline_placeable
  placeables-agree : (s : List ℕ) → Same nothing (wrap 13 (braced sub₁ s)) (inline-placeable rust sub₂ s)
  unfolding braced_once inline-placeable reads-close close
  placeables-agree s =
      rw (braced-once sub₁)
      (same-wrap nothing 13 (braced_once sub₁ s) (byte 123 >> (blank? >> parses-all)) s
      ((then (same_byte 123) (then same-blank (record { same = expression-same }))).same s))

  no-placeable : (s : List ℕ) → starts_with 123 s ≡ false → inline-placeable rust sub₂ s ≡ fails
  unfolding inline-placeable
  no-placeable s e = node-fails 13 _ s (then-fails (byte 123) _ s (byte-fails 123 s e))

  uses-placeable : (s : List ℕ) → Uses (inline-placeable rust sub₂ s)
  unfolding inline-placeable ◌>>◌
  uses-placeable s = uses-node 13 _ s (uses-first s _ (byte 123 s) (uses-byte 123 s))

-- Levels
-- --------------------------------------------------------------------------------------------------------------------------------------

-- with n more openings allowed, given that patterns agree where what stands in them does
pub levels-agree : ((sub₁ : Pattern.Inside) (sub₂ : Grammar.Inside) → Agree sub₁ sub₂ → PatternAgrees sub₁ sub₂)
    → (n : ℕ) → Agree (level n) (nesting rust n)
unfolding level nesting too_deep Peg.never wrap
levels-agree patterns zero = record {
  placeables = λ s. tt;
  arguments = λ s. rw (reader-skips too_deep s) (unfold Reader.after in tt);
  uses-brace = λ s. tt;
  no-brace = λ s e. refl;
  no-parenthesis = λ s e. refl;
}
levels-agree patterns (suc n) =
    let agree = levels-agree patterns n in
    let values = patterns (level n) (nesting rust n) agree in
    record {
      placeables = placeables-agree agree values;
      arguments = arguments-agree agree;
      uses-brace = uses-placeable agree values;
      no-brace = no-placeable agree values;
      no-parenthesis = no_arguments agree;
    }
