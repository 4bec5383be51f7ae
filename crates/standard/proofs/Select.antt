-- Select expressions: the reading's against the grammar's.
use Prim.Native.Nat.{ℕ, zero, suc, ◌+◌, ◌≤◌, ◌<◌}
use Rattle.std.proofs.Common.{arith, add-zero, add_assoc, not-suc-le-zero, ◌∙◌, eqb-true}
use Rattle.std.proofs.Math.Path.{◌≡◌, refl, sym, ap, ap₂, subst}
use Rattle.std.specs.Prelude.{◌⊎◌, Bool, ◌||◌, take, eqb, ltb}
use Rattle.std.proofs.Math.Logic.{inl, inr}
use Rattle.std.proofs.Math.Bool.{true, false}
use mathlib.Core.List.{List, [], ◌∷◌, ◌++◌, append-nil}
use Rattle.std.proofs.Math.ListN.{drop, length, length-drop}
use Rattle.std.proofs.Math.Seq.{drop-drop}
use Rattle.syntax.specs.Bytes.{starts, starts_with, run, eol, spaces, is_letter, is_digit}
use Rattle.syntax.specs.Marks.{Mark, move_up, node}
use Rattle.syntax.specs.declared.errors.ParserError.{ParserError}
use Rattle.syntax.specs.Reader as Reader
use Rattle.syntax.specs.Reader.{Out, ok, bad, deep, Reader, Turn, again, done, turn_of, loop, repeat, wrap, in_node}
use Rattle.syntax.specs.Helper.{skip_blank, skip_eol, expect_byte, get_identifier, get_number_literal}
use Rattle.syntax.specs.Pattern as Pattern
use Rattle.syntax.specs.Pattern.{get_pattern}
use Rattle.syntax.specs.Expression as Reading
use Rattle.syntax.specs.Expression.{key_text, get_variant_key, needs_value, variant_kind, end_variants, needs_line_end}
use Rattle.syntax.specs.Expression.{variant_with, after_star, turn_after, variant_turn, get_variants}
use Rattle.laws.specs.Bytes.{by_case, clash}
use Rattle.laws.specs.Moving.{after-after}
use Rattle.standard.specs.Dialect.{rust, all}
use Rattle.standard.specs.Peg as Peg
use Rattle.standard.specs.Peg.{Answer, fits, fails, Parser, many, turns, byte, void, ahead, given, shared, share}
use Rattle.standard.specs.Peg.{with_first, ◌//◌, ◌>>◌, ◌>>=◌}
use Rattle.standard.specs.Abstract.{Line}
use Rattle.standard.specs.Lexical.{Identifier, NumberLiteral, VariantKey, blank?, blank-inline?, blank-block, line-end}
use Rattle.standard.specs.Grammar as Grammar
use Rattle.standard.specs.Grammar.{Variant, DefaultVariant, variants, bare-variants, variant-list}
use Rattle.standard.specs.Steps.{move_up-none, byte_fits, byte-fails, then-fits, then-fails, void-fits, void-fails}
use Rattle.standard.specs.Steps.{second, choice-first, shared-first, node-fits, node-fails, after-fails}
use Rattle.standard.specs.Steps.{after_none, after-skip, next-after, turns_more, turns-end, ahead-fits}
use Rattle.standard.specs.Steps.{ahead-fails, starts_other, starts_apart, Uses, uses-first, uses-byte}
use Rattle.standard.specs.Blank.{behind, blanks, over, drop-over, no-blanks, no-blank-at, blanks-on}
use Rattle.standard.specs.Blank.{spaces-blanks, eol-blanks, line_ends, line-end-is, no-line-end, blank-inline?-is}
use Rattle.standard.specs.Blank.{reader-skips, parser-skips, Blanked, Lines, block-lines, ends-spaces}
use Rattle.standard.specs.Same.{Same, nothing, Matches, PatternAgrees, SamePattern, whole-pattern, node-up}
use Rattle.standard.specs.Same.{same_byte, same-blank, then, reads_then, reads-bind, reads-assoc, reads-skip}
use Rattle.standard.specs.Same.{ok-pure}
use Rattle.standard.specs.Near.{is_opening, Near, nearly-near, same-near, near_next, near_first, near-second, near-pick, over-after}
use Rattle.standard.proofs.Words.{no_number, no_name, same_name, number-void}
use Rattle.standard.proofs.Inline.{digit-no-letter}

-- VariantKey
-- ----------------------------------------------------------------------------------------------------------------------------------

abbrev key : Parser (Unit {0})
key = void (NumberLiteral 17) // void (Identifier 18)

name-void : (s : List ℕ) (o : Out ℕ) → Same (λ n. take n s) o (Identifier 18 s) → Same nothing o (void (Identifier 18) s)
name-void s (ok n ms k) h = void-fits (Identifier 18) s h
name-void s (bad e k) h = void-fails (Identifier 18) s h
name-void s (deep k) h = tt

neither : (p q : Bool) → (p || q) ≡ false → (p ≡ false) × (q ≡ false)
neither true q e = clash refl e
neither false q e = (refl, e)

no-letter : (b : ℕ) → (is_digit b || eqb b 45) ≡ true → is_letter b ≡ false
unfolding is_letter
no-letter b e = by_case (is_digit b) (λ d. digit-no-letter b d) (λ d. ap is_letter (eqb-true b 45 (sym (ap (λ v. v || eqb b 45) d) ∙ e)))

name-near : (s : List ℕ) → NumberLiteral 17 s ≡ fails → Near nothing s (get_identifier 18 s) (key s)
name-near s e =
    near-second nothing s (get_identifier 18 s) (void (NumberLiteral 17)) (void (Identifier 18))
    (void-fails (NumberLiteral 17) s e)
    (same-near nothing s (get_identifier 18 s) (void (Identifier 18) s) (name-void s (get_identifier 18 s) (same_name 18 s)))

key-near : (s : List ℕ) → Near nothing s (key_text s) (key s)
unfolding key_text starts starts_with
key-near [] = name-near [] (no_number 17 [] refl refl)
key-near (b ∷ bs) = near-pick nothing (b ∷ bs) (is_digit b || eqb b 45) _ _ (key (b ∷ bs))
    (λ e. near_first nothing (b ∷ bs) (get_number_literal 17 (b ∷ bs)) (void (NumberLiteral 17)) (void (Identifier 18))
    (nearly-near nothing (b ∷ bs) (get_number_literal 17 (b ∷ bs)) (void (NumberLiteral 17) (b ∷ bs))
    (number-void 17 (b ∷ bs)))
    (void-fails (Identifier 18) (b ∷ bs) (no_name 18 (b ∷ bs) (no-letter b e))))
    (λ e. let (d, m) = neither (is_digit b) (eqb b 45) e in name-near (b ∷ bs) (no_number 17 (b ∷ bs) m d))

key-end : Matches nothing (Reader.◌>>◌ key_text (Reader.◌>>◌ skip_blank (expect_byte 93))) (key >> (blank? >> byte 93))
unfolding Reader.◌>>◌ ◌>>◌ is_opening
key-end =
    record {
      same =
          λ r. near_next nothing nothing r (λ _. expect_byte 93) (λ _. byte 93) (key_text r) (key r) (key-near r)
          (λ x t. (same_byte 93).same t) (λ y t o. byte-fails 93 t (starts_apart is_opening 93 t o refl));
    }

key-same : Matches nothing (Reader.◌>>◌ (expect_byte 91) get_variant_key) VariantKey
unfolding VariantKey get_variant_key
key-same = then (same_byte 91) (then same-blank key-end)

-- Patterns of variants
-- ------------------------------------------------------------------------------------------------------------------------

-- a pattern that ends where a line ends
abbrev Broken : List ℕ → Answer (Unit {0}) → Type 0
Broken s (fits y ms j) = line_ends (drop j s) ≡ false
Broken s fails = Unit {0}

abbrev Valued : List ℕ → Out (Unit {0}) → Answer (Unit {0}) → Type 0
Valued s (ok u ms k) a = (j : ℕ) × (a ≡ fits tt ms j) × (line_ends (drop j s) ≡ true) × (over s j ≡ over s k)
Valued s (bad e k) a = Broken s a
Valued s (deep k) a = Unit {0}

broken-after : (s : List ℕ) (ms : List Mark) (k : ℕ) (a : Answer (Unit {0})) → Broken (drop k s) a → Broken s (Peg.after ms k a)
unfolding Peg.after
broken-after s ms k (fits y ns j) h = subst (λ r. line_ends r ≡ false) (drop-drop j k s) h
broken-after s ms k fails h = tt

valued-after : (s : List ℕ) (ms : List Mark) (k : ℕ) (o : Out (Unit {0})) (a : Answer (Unit {0}))
    → Valued (drop k s) o a → Valued s (Reader.after ms k o) (Peg.after ms k a)
unfolding Reader.after Peg.after
valued-after s ms k (ok u ns i) a (j, e, l, h) = (
  k + j,
  ap (Peg.after ms k) e,
  subst (λ r. line_ends r ≡ true) (drop-drop j k s) l,
  over-after s k j
      ∙ ap (λ n. k + n) h ∙ sym (over-after s k i),
)
valued-after s ms k (bad e i) a h = broken-after s ms k a h
valued-after s ms k (deep i) a h = tt

valued-next : (s : List ℕ) (q : Reader (Unit {0})) (q' : Parser (Unit {0})) (o : Out (Unit {0})) (a : Answer (Unit {0}))
    → Same nothing o a → ((r : List ℕ) → Valued r (q r) (q' r))
    → Valued s (Reader.next s (λ _. q) o) (Peg.next s (λ _. q') a)
unfolding Reader.next Peg.next
valued-next s q q' (ok u ms k) a h l = rw h (valued-after s ms k (q (drop k s)) (q' (drop k s)) (l (drop k s)))
valued-next s q q' (bad e k) a h l = rw h tt
valued-next s q q' (deep k) a h l = tt

-- the line end and the blank lines behind a pattern
abbrev pattern-end : Parser (Unit {0})
pattern-end = ahead line-end >> void blank-block

ends-here : (s : List ℕ) → line_ends s ≡ true → (q : ℕ) × (pattern-end s ≡ fits tt [] q) × Blanked s q
ends-here s e = go (blank-block s) refl (block-lines s (rw (ends-spaces s e) e))
  where
    go : (a : Answer (List Line)) → blank-block s ≡ a → Lines s a → (q : ℕ) × (pattern-end s ≡ fits tt [] q) × Blanked s q
    go (fits ls ms q) h (m, b) = (
      q,
      then-fits (ahead line-end) (void blank-block) s (ahead-fits line-end s (line-end-is s e))
          ∙ after_none (void blank-block s) ∙ void-fits blank-block s (h ∙ ap (λ l. fits ls l q) m),
      b,
    )
    go fails h b = absurd b

ends-not : (s : List ℕ) → line_ends s ≡ false → pattern-end s ≡ fails
ends-not s e = then-fails (ahead line-end) (void blank-block) s (ahead-fails line-end s (no-line-end s e))

over-blanked : (s : List ℕ) (j q : ℕ) → Blanked (drop j s) q → over s (j + q) ≡ over s j
unfolding over
over-blanked s j q b = ap (λ r. j + q + blanks r) (sym (drop-drop q j s)) ∙ add_assoc j q (blanks (drop q (drop j s))) ∙ ap (λ n. j + n) b

-- The end of variants
-- -------------------------------------------------------------------------------------------------------------------------

-- whether only spaces stand before "}"
abbrev closes : List ℕ → Bool
closes r = starts_with 125 (drop (spaces r) r)

-- an answer that "}" can't follow
abbrev Unended : List ℕ → Answer (Unit {0}) → Type 0
Unended s (fits y ms j) = starts_with 125 (drop (over s j) s) ≡ false
Unended s fails = Unit {0}

-- The same up to the blanks before "}", of which the reading skips spaces alone
abbrev pub Ended : List ℕ → Out (Unit {0}) → Answer (Unit {0}) → Type 0
Ended s (ok u ms k) a = ((j : ℕ) × (a ≡ fits tt ms j) × (over s j ≡ k + spaces (drop k s))) ⊎ ((a ≡ fails) × (closes (drop k s) ≡ false))
Ended s (bad e k) a = Unended s a
Ended s (deep k) a = Unit {0}

unended-after : (s : List ℕ) (ms : List Mark) (k : ℕ) (a : Answer (Unit {0})) → Unended (drop k s) a → Unended s (Peg.after ms k a)
unfolding Peg.after
unended-after s ms k (fits y ns j) h =
    subst (λ r. starts_with 125 r ≡ false)
    (drop-drop (over (drop k s) j) k s ∙ ap (λ n. drop n s) (sym (over-after s k j))) h
unended-after s ms k fails h = tt

pub ended-after : (s : List ℕ) (ms : List Mark) (k : ℕ) (o : Out (Unit {0})) (a : Answer (Unit {0}))
    → Ended (drop k s) o a → Ended s (Reader.after ms k o) (Peg.after ms k a)
unfolding Reader.after Peg.after
ended-after s ms k (ok u ns i) a (inl (j, e, h)) =
    inl (
      k + j,
      ap (Peg.after ms k) e,
      over-after s k j ∙ ap (λ n. k + n) h
          ∙ sym (add_assoc k i (spaces (drop i (drop k s)))) ∙ ap (λ r. k + i + spaces r) (drop-drop i k s),
    )
ended-after s ms k (ok u ns i) a (inr (e, c)) = inr (after-fails ms k e, subst (λ r. closes r ≡ false) (drop-drop i k s) c)
ended-after s ms k (bad e i) a h = unended-after s ms k a h
ended-after s ms k (deep i) a h = tt

-- Lines of variants
-- ---------------------------------------------------------------------------------------------------------------------------

-- a line's start behind a line's end
line-start : {A : Type 0} (q : Parser A) (s : List ℕ) → line_ends s ≡ true
    → (line-end >> (blank? >> q)) s ≡ Peg.after [] (blanks s) (q (behind s))
line-start q s e = then-fits line-end (blank? >> q) s (line-end-is s e)
    ∙ ap (Peg.after [] (eol s)) (parser-skips q (drop (eol s) s))
    ∙ after-skip [] (eol s) (blanks (drop (eol s) s)) (q (behind (drop (eol s) s)))
    ∙ ap (λ r. Peg.after [] (eol s + blanks (drop (eol s) s)) (q r)) (drop-drop (blanks (drop (eol s) s)) (eol s) s)
    ∙ ap (λ n. Peg.after [] n (q (drop n s))) (blanks-on (eol s) s (eol-blanks s))

no-line-start : {A : Type 0} (q : Parser A) (s : List ℕ) → line_ends s ≡ false → (line-end >> q) s ≡ fails
no-line-start q s e = then-fails line-end q s (no-line-end s e)

last_line : (s : List ℕ) → line_ends s ≡ true → void line-end s ≡ fits tt [] (eol s)
last_line s e = void-fits line-end s (line-end-is s e)

over-eol : (s : List ℕ) → over s (eol s) ≡ blanks s
unfolding over
over-eol s = blanks-on (eol s) s (eol-blanks s)

module _ {sub₁ : Pattern.Inside} {sub₂ : Grammar.Inside} (patterns : PatternAgrees sub₁ sub₂) where
  abbrev value : Parser (Unit {0})
  value = blank-inline? >> Grammar.Pattern rust sub₂

  whole_is : (r : List ℕ) → whole-pattern sub₂ r ≡ Peg.next r (λ _. pattern-end) (value r)
  unfolding whole-pattern ◌>>◌
  whole_is r = then-fits blank-inline? (Grammar.Pattern rust sub₂ >> pattern-end) r (blank-inline?-is r)
      ∙ sym (next-after r (λ _. pattern-end) [] (spaces r) (Grammar.Pattern rust sub₂ (drop (spaces r) r)))
      ∙ ap (Peg.next r (λ _. pattern-end)) (sym (then-fits blank-inline? (Grammar.Pattern rust sub₂) r (blank-inline?-is r)))

  abbrev reads-value : Reader (Unit {0})
  reads-value = Reader.◌>>=◌ (get_pattern sub₁) needs_value

  -- no pattern
  none-broken : (r : List ℕ) (a : Answer (Unit {0})) → Peg.next r (λ _. pattern-end) a ≡ fails → Broken r a
  unfolding Peg.next Peg.after
  none-broken r (fits u ns j) h = by_case (line_ends (drop j r))
      (λ l. let (q, f, b) = ends-here (drop j r) l in let z : ◌≡◌ {A = ℕ} 0 1 = cc (ap (Peg.after ns j) f) in absurd (omega arith))
      (λ l. l)
  none-broken r fails h = tt

  -- a pattern
  some-valued : (r : List ℕ) (ms : List Mark) (k : ℕ) (a : Answer (Unit {0}))
      → Peg.next r (λ _. pattern-end) a ≡ fits tt ms k → Valued r (ok tt ms k) a
  unfolding Peg.next Peg.after
  some-valued r ms k (fits u ns j) h = by_case (line_ends (drop j r))
      (λ l. let (q, f, b) = ends-here (drop j r) l in
      let m : ns ++ move_up j [] ≡ ms = cc in
      let n : j + q ≡ k = cc in (
        j,
        ap (λ x. fits tt x j) (sym (ap (λ x. ns ++ x) (move_up-none j) ∙ append-nil ns) ∙ m),
        l,
        sym (over-blanked r j q b)
            ∙ ap (over r) n,
      ))
      (λ l. let z : ◌≡◌ {A = ℕ} 0 1 = cc (ap (Peg.after ns j) (ends-not (drop j r) l)) in absurd (omega arith))
  some-valued r ms k fails h = let z : ◌≡◌ {A = ℕ} 0 1 = cc in absurd (omega arith)

  value-valued : (r : List ℕ) → Valued r (reads-value r) (value r)
  unfolding Reader.◌>>=◌ Reader.next needs_value Reader.fail Reader.pure
  value-valued r = go (get_pattern sub₁ r) (subst (SamePattern (get_pattern sub₁ r)) (whole_is r) (patterns.pattern r))
    where
      go : (o : Out Bool) → SamePattern o (Peg.next r (λ _. pattern-end) (value r)) → Valued r (Reader.next r needs_value o) (value r)
      go (ok true ms k) h = rw (ok-pure (tt {0}) ms k) (some-valued r ms k (value r) h)
      go (ok false ms k) h = unfold Reader.after in (none-broken r (value r) h)
      go (bad e k) h = none-broken r (value r) h
      go (deep k) h = tt

  variant-valued : (t : List ℕ) → Valued t (Reading.variant sub₁ t) ((VariantKey >> value) t)
  unfolding Reading.variant
  variant-valued t =
      rw (reads-assoc (expect_byte 91) get_variant_key reads-value t)
      (unfold Reader.◌>>◌ ◌>>◌ in
      (valued-next t reads-value value ((Reader.◌>>◌ (expect_byte 91) get_variant_key) t) (VariantKey t)
      (key-same.same t) value-valued))

  -- Variants
  -- ------------------------------------------------------------------------------------------------------------------------------------

  abbrev body : Parser (Unit {0})
  body = VariantKey >> value

  abbrev bare-star : Parser (Unit {0})
  bare-star = line-end >> (blank? >> (byte 42 >> ahead (blank-inline? >> byte 125)))

  abbrev default-on : Parser (Unit {0})
  default-on = DefaultVariant rust sub₂ >> (many (Variant rust sub₂) >> void line-end)

  -- what follows the variants, by whether there was a default
  ending : Bool → Parser (Unit {0})
  ending true = void line-end
  ending false = default-on // bare-star

  abbrev listed : Bool → ℕ → Parser (Unit {0})
  listed h n s = Peg.next s (λ _. ending h) (turns n (Variant rust sub₂) s)

  abbrev reads : Bool → ℕ → Reader (Unit {0})
  reads h m s = Reader.after [] (blanks s) (loop m (variant_turn sub₁) h (behind s))

  listed-end : (h : Bool) (n : ℕ) (s : List ℕ) → Variant rust sub₂ s ≡ fails → listed h n s ≡ ending h s
  unfolding Peg.next
  listed-end h n s e = rw (turns-end n (Variant rust sub₂) s e) (after_none (ending h s))

  listed-on : (h : Bool) (n : ℕ) (s : List ℕ) {u : Unit {0}} {ms : List Mark} {k : ℕ}
      → Variant rust sub₂ s ≡ fits u ms k → 0 < k → listed h (suc n) s ≡ Peg.after ms k (listed h n (drop k s))
  listed-on h n s {u} {ms} {k} e z = ap (Peg.next s (λ _. ending h)) (turns_more n (Variant rust sub₂) s e z)
      ∙ go (Peg.after ms k (turns n (Variant rust sub₂) (drop k s)))
      ∙ next-after s (λ _. ending h) ms k (turns n (Variant rust sub₂) (drop k s))
    where
      go : (a : Answer (List (Unit {0}))) → Peg.next s (λ _. ending h) (with_first u a) ≡ Peg.next s (λ _. ending h) a
      go (fits us ns j) = unfold with_first Peg.next in refl
      go fails = unfold with_first Peg.next in refl

  -- a variant, from the line end before it
  variant_fits : (s : List ℕ) {ms : List Mark} {j : ℕ} → line_ends s ≡ true → body (behind s) ≡ fits tt ms j
      → Variant rust sub₂ s ≡ fits tt (node 15 (move_up (blanks s) ms)) (blanks s + j)
  unfolding Variant Peg.after
  variant_fits s l e = node-fits 15 (line-end >> (blank? >> body)) s (line-start body s l ∙ ap (Peg.after [] (blanks s)) e)

  variant-fails : (s : List ℕ) → line_ends s ≡ true → body (behind s) ≡ fails → Variant rust sub₂ s ≡ fails
  unfolding Variant
  variant-fails s l e = node-fails 15 (line-end >> (blank? >> body)) s (line-start body s l ∙ after-fails [] (blanks s) e)

  default-fits : (s : List ℕ) {ms : List Mark} {j : ℕ} → line_ends s ≡ true → starts_with 42 (behind s) ≡ true
      → body (drop 1 (behind s)) ≡ fits tt ms j
      → DefaultVariant rust sub₂ s ≡ fits tt (node 16 (move_up (blanks s) (move_up 1 ms))) (blanks s + (1 + j))
  unfolding DefaultVariant Peg.after
  default-fits s l t e =
      node-fits 16 (line-end >> (blank? >> (byte 42 >> body))) s
      (line-start (byte 42 >> body) s l
      ∙ ap (Peg.after [] (blanks s))
      (then-fits (byte 42) body (behind s) (byte_fits 42 (behind s) t) ∙ ap (Peg.after [] 1) e))

  default-fails : (s : List ℕ) → line_ends s ≡ true → (byte 42 >> body) (behind s) ≡ fails → DefaultVariant rust sub₂ s ≡ fails
  unfolding DefaultVariant
  default-fails s l e =
      node-fails 16 (line-end >> (blank? >> (byte 42 >> body))) s
      (line-start (byte 42 >> body) s l ∙ after-fails [] (blanks s) e)

  no_body : (s : List ℕ) → starts_with 91 s ≡ false → body s ≡ fails
  unfolding VariantKey
  no_body s e = then-fails VariantKey value s (then-fails (byte 91) _ s (byte-fails 91 s e))

  no-star : (s : List ℕ) → line_ends s ≡ true → starts_with 42 (behind s) ≡ false → ending false s ≡ fails
  unfolding ending
  no-star s l e =
      second default-on bare-star s
      (then-fails (DefaultVariant rust sub₂) _ s
      (default-fails s l (then-fails (byte 42) body (behind s) (byte-fails 42 (behind s) e))))
      ∙ line-start (byte 42 >> ahead (blank-inline? >> byte 125)) s l
      ∙ after-fails [] (blanks s) (then-fails (byte 42) _ (behind s) (byte-fails 42 (behind s) e))

  -- no line ends here
  listed-broken : (h : Bool) (n : ℕ) (s : List ℕ) → line_ends s ≡ false → listed h n s ≡ fails
  unfolding Variant DefaultVariant ending
  listed-broken h n s e = listed-end h n s (node-fails 15 _ s (no-line-start _ s e)) ∙ go h
    where
      go : (h : Bool) → ending h s ≡ fails
      go true = void-fails line-end s (no-line-end s e)
      go false =
          second default-on bare-star s
          (then-fails (DefaultVariant rust sub₂) _ s (node-fails 16 _ s (no-line-start _ s e)))
          ∙ no-line-start _ s e

  -- the reading of a variant, with the blanks behind it
  with_read : (d h : Bool) (t : List ℕ) {u : Unit {0}} {ms : List Mark} {k : ℕ} → Reading.variant sub₁ t ≡ ok u ms k
      → variant_with sub₁ d h t ≡ ok (d || h) (node (variant_kind d) ms) (over t k)
  unfolding variant_with in_node wrap over Reader.pure
  with_read d h t {u} {ms} {k} e =
      let v : in_node (variant_kind d) (Reading.variant sub₁) t ≡ ok u (node (variant_kind d) ms) k = rw e refl in
      reads_then (in_node (variant_kind d) (Reading.variant sub₁)) (Reader.◌>>◌ skip_blank (Reader.pure (d || h))) t v
      ∙ ap (Reader.after (node (variant_kind d) ms) k) (reader-skips (Reader.pure (d || h)) (drop k t))
      ∙ reads-skip (node (variant_kind d) ms) k (blanks (drop k t)) (ok (d || h) [] 0)
      ∙ ok-pure (d || h) (node (variant_kind d) ms) (k + blanks (drop k t))

  uses-body : (t : List ℕ) → Uses (body t)
  unfolding VariantKey ◌>>◌
  uses-body t = uses-first t _ (VariantKey t) (uses-first t _ (byte 91 t) (uses-byte 91 t))

  abbrev More : ℕ → Type 0
  More m = (n : ℕ) (h : Bool) (s : List ℕ) → line_ends s ≡ true → length s ≤ n → Ended s (reads h m s) (listed h n s)

  -- what a turn gives, with the turns after it
  abbrev turned : ℕ → List ℕ → Turn Bool (Unit {0}) → Out (Unit {0})
  turned m s t = elim t [ again st ms k ↦ Reader.after ms k (loop m (variant_turn sub₁) st (drop k s)) | done o ↦ o ]

  -- from a variant to the next
  on_read : (m : ℕ) (h : Bool) (t : List ℕ) (N : List Mark) (j k : ℕ) → over t j ≡ over t k
      → Reader.after N (over t k) (loop m (variant_turn sub₁) h (drop (over t k) t)) ≡ Reader.after N j
      (reads h m (drop j t))
  unfolding over
  on_read m h t N j k e = ap (λ p. Reader.after N p (loop m (variant_turn sub₁) h (drop p t))) (sym e)
      ∙ ap (λ r. Reader.after N (j + blanks (drop j t)) (loop m (variant_turn sub₁) h r)) (sym (drop-over t j))
      ∙ sym (reads-skip N j (blanks (drop j t)) (loop m (variant_turn sub₁) h (behind (drop j t))))

  with-bad : (d h : Bool) (t : List ℕ) {f : ParserError} {k : ℕ} → Reading.variant sub₁ t ≡ bad f k → variant_with sub₁ d h t ≡ bad f k
  unfolding variant_with in_node wrap Reader.◌>>◌ Reader.next
  with-bad d h t e = rw (e, variant_with, in_node) refl

  with-deep : (d h : Bool) (t : List ℕ) {k : ℕ} → Reading.variant sub₁ t ≡ deep k → variant_with sub₁ d h t ≡ deep k
  unfolding variant_with in_node wrap Reader.◌>>◌ Reader.next
  with-deep d h t e = rw (e, variant_with, in_node) refl

  failed : (s : List ℕ) {a : Answer (Unit {0})} → a ≡ fails → Unended s a
  failed s e = rw e tt

  -- a line that starts with neither a variant nor "}"
  unended-end : (h : Bool) (s : List ℕ) (c : ℕ) → line_ends s ≡ true → starts_with c (behind s) ≡ true → eqb c 125 ≡ false
      → (h ≡ false → starts_with 42 (behind s) ≡ false) → Unended s (ending h s)
  unfolding ending
  unended-end true s c l e z f = rw (last_line s l) (rw (over-eol s) (starts_other c 125 (behind s) e z))
  unended-end false s c l e z f = failed s (no-star s l (f refl))

  variant-wrong : (n : ℕ) (h : Bool) (s : List ℕ) → line_ends s ≡ true → starts_with 91 (behind s) ≡ true
      → (a : Answer (Unit {0})) → body (behind s) ≡ a → Broken (behind s) a → Unended s (listed h (suc n) s)
  variant-wrong n h s l b (fits y ms j) e f =
      let z : 0 < j = subst Uses e (uses-body (behind s)) in
      failed s
      (listed-on h n s (variant_fits s l e) (omega arith)
      ∙ after-fails _ _
      (listed-broken h n (drop (blanks s + j) s) (subst (λ r. line_ends r ≡ false) (drop-drop j (blanks s) s) f)))
  variant-wrong n h s l b fails e f =
      rw (listed-end h (suc n) s (variant-fails s l e))
      (unended-end h s 91 l b refl (λ q. starts_other 91 42 (behind s) b refl))

  variant_step : (m n : ℕ) (h : Bool) (s : List ℕ) → More m → line_ends s ≡ true → length s ≤ suc n
      → starts_with 91 (behind s) ≡ true → (o : Out (Unit {0})) → Reading.variant sub₁ (behind s) ≡ o
      → Valued (behind s) o (body (behind s))
      → Ended s (Reader.after [] (blanks s) (turned m (behind s) (turn_of (variant_with sub₁ false h (behind s)))))
      (listed h (suc n) s)
  unfolding turn_of variant_kind
  variant_step m n h s ih l i b (ok u ms k) e (j, f, g, o) =
      let t = behind s in
      let z : 0 < j = subst Uses f (uses-body t) in
      let d : drop j t ≡ drop (blanks s + j) s = drop-drop j (blanks s) s in
      let q : length (drop j t) ≤ n = rw d (omega (arith, length-drop (blanks s + j) s)) in
      rw (
        with_read false h t e,
        on_read m h t (node 15 ms) j k o,
        after-after [] (blanks s) (node 15 ms) j (reads h m (drop j t)),
        node-up (blanks s) 15 ms,
        listed-on h n s (variant_fits s l f) (omega arith),
        ← d,
      )
      (ended-after s (node 15 (move_up (blanks s) ms)) (blanks s + j) (reads h m (drop j t)) (listed h n (drop j t))
      (subst (λ r. Ended r (reads h m (drop j t)) (listed h n (drop j t))) d (ih n h (drop j t) g q)))
  variant_step m n h s ih l i b (bad d k) e f =
      rw (with-bad false h (behind s) e) (unfold Reader.after in (variant-wrong n h s l b (body (behind s)) refl f))
  variant_step m n h s ih l i b (deep k) e f = rw (with-deep false h (behind s) e) (unfold Reader.after in tt)

  -- "*" with what follows it
  bare-is : (s : List ℕ) → line_ends s ≡ true → starts_with 42 (behind s) ≡ true
      → bare-star s ≡ Peg.after [] (blanks s) (Peg.after [] 1 (ahead (blank-inline? >> byte 125) (drop 1 (behind s))))
  bare-is s l b = line-start (byte 42 >> ahead (blank-inline? >> byte 125)) s l
      ∙ ap (Peg.after [] (blanks s))
      (then-fits (byte 42) (ahead (blank-inline? >> byte 125)) (behind s) (byte_fits 42 (behind s) b))

  bare-fails : (s : List ℕ) → line_ends s ≡ true → starts_with 42 (behind s) ≡ true → closes (drop 1 (behind s)) ≡ false → bare-star s ≡ fails
  bare-fails s l b c =
      let r = drop 1 (behind s) in
      bare-is s l b ∙ after-fails [] (blanks s) (after-fails [] 1 (ahead-fails (blank-inline? >> byte 125) r
      (then-fits blank-inline? (byte 125) r (blank-inline?-is r) ∙ after-fails [] (spaces r) (byte-fails 125 (drop (spaces r) r) c))))

  bracket-opens : (r : List ℕ) → starts_with 91 r ≡ true → closes r ≡ false
  unfolding starts_with spaces run
  bracket-opens [] e = refl
  bracket-opens (b ∷ bs) e = subst (λ x. closes (x ∷ bs) ≡ false) (sym (eqb-true b 91 e)) refl

  default-is : (s : List ℕ) {ms : List Mark} {j : ℕ} → line_ends s ≡ true → starts_with 42 (behind s) ≡ true
      → body (drop 1 (behind s)) ≡ fits tt ms j
      → default-on s ≡ Peg.after (node 16 (move_up (blanks s) (move_up 1 ms))) (blanks s + (1 + j))
      (listed true (length (drop (blanks s + (1 + j)) s)) (drop (blanks s + (1 + j)) s))
  unfolding ending many ◌>>◌
  default-is s l t e = then-fits (DefaultVariant rust sub₂) (many (Variant rust sub₂) >> void line-end) s (default-fits s l t e)

  -- where a "*" stands, the first variants end
  listed-star : (n : ℕ) (s : List ℕ) → line_ends s ≡ true → starts_with 42 (behind s) ≡ true → listed false n s ≡ (default-on // bare-star) s
  unfolding ending
  listed-star n s l b = listed-end false n s (variant-fails s l (no_body (behind s) (starts_other 42 91 (behind s) b refl)))

  default-read : (m : ℕ) (s : List ℕ) (ms : List Mark) (j k : ℕ) → over (drop 1 (behind s)) j ≡ over (drop 1 (behind s)) k
      → Reader.after [] (blanks s)
      (Reader.after (move_up 1 (node 16 ms)) (1 + over (drop 1 (behind s)) k)
      (loop m (variant_turn sub₁) true (drop (1 + over (drop 1 (behind s)) k) (behind s))))
      ≡ Reader.after (node 16 (move_up (blanks s) (move_up 1 ms))) (blanks s + (1 + j)) (reads true m (drop j (drop 1 (behind s))))
  default-read m s ms j k o =
      let t = behind s in
      let r = drop 1 t in
      let p = over r k in
      ap (Reader.after [] (blanks s))
      (ap (λ x. Reader.after (move_up 1 (node 16 ms)) (1 + p) (loop m (variant_turn sub₁) true x))
      (sym (drop-drop p 1 t))
      ∙ sym (after-after [] 1 (node 16 ms) p (loop m (variant_turn sub₁) true (drop p r)))
      ∙ ap (Reader.after [] 1) (on_read m true r (node 16 ms) j k o)
      ∙ after-after [] 1 (node 16 ms) j (reads true m (drop j r)))
      ∙ after-after [] (blanks s) (move_up 1 (node 16 ms)) (1 + j) (reads true m (drop j r))
      ∙ ap (λ ns. Reader.after ns (blanks s + (1 + j)) (reads true m (drop j r)))
      (ap (move_up (blanks s)) (node-up 1 16 ms) ∙ node-up (blanks s) 16 (move_up 1 ms))

  default-wrong : (n : ℕ) (s : List ℕ) → line_ends s ≡ true → starts_with 42 (behind s) ≡ true
      → starts_with 91 (drop 1 (behind s)) ≡ true → (a : Answer (Unit {0})) → body (drop 1 (behind s)) ≡ a
      → Broken (drop 1 (behind s)) a → listed false n s ≡ fails
  default-wrong n s l b c (fits y ms j) e f = listed-star n s l b
      ∙ choice-first default-on bare-star s (bare-fails s l b (bracket-opens (drop 1 (behind s)) c))
      ∙ default-is s l b e
      ∙ after-fails _ _
      (listed-broken true (length (drop (blanks s + (1 + j)) s)) (drop (blanks s + (1 + j)) s)
      (subst (λ r. line_ends r ≡ false) (drop-drop j 1 (behind s) ∙ drop-drop (1 + j) (blanks s) s) f))
  default-wrong n s l b c fails e f = listed-star n s l b
      ∙ choice-first default-on bare-star s (bare-fails s l b (bracket-opens (drop 1 (behind s)) c))
      ∙ then-fails (DefaultVariant rust sub₂) _ s
      (default-fails s l (then-fits (byte 42) body (behind s) (byte_fits 42 (behind s) b) ∙ after-fails [] 1 e))

  default-step : (m n : ℕ) (s : List ℕ) → More m → line_ends s ≡ true → starts_with 42 (behind s) ≡ true
      → starts_with 91 (drop 1 (behind s)) ≡ true → (o : Out (Unit {0})) → Reading.variant sub₁ (drop 1 (behind s)) ≡ o
      → Valued (drop 1 (behind s)) o (body (drop 1 (behind s)))
      → Ended s
      (Reader.after [] (blanks s)
      (turned m (behind s) (turn_after 1 (turn_of (variant_with sub₁ true false (drop 1 (behind s)))))))
      (listed false n s)
  unfolding turn_of turn_after variant_kind
  default-step m n s ih l b c (ok u ms k) e (j, f, g, o) =
      let r = drop 1 (behind s) in
      let p = blanks s + (1 + j) in
      let d : drop j r ≡ drop p s = drop-drop j 1 (behind s) ∙ drop-drop (1 + j) (blanks s) s in
      rw (
        with_read true false r e,
        default-read m s ms j k o,
        listed-star n s l b
            ∙ choice-first default-on bare-star s (bare-fails s l b (bracket-opens r c)) ∙ default-is s l b f,
        d,
      )
      (ended-after s (node 16 (move_up (blanks s) (move_up 1 ms))) p (reads true m (drop p s))
      (listed true (length (drop p s)) (drop p s))
      (ih (length (drop p s)) true (drop p s) (subst (λ x. line_ends x ≡ true) d g) (omega arith)))
  default-step m n s ih l b c (bad d k) e f =
      rw (with-bad true false (drop 1 (behind s)) e)
      (unfold Reader.after in (failed s (default-wrong n s l b c (body (drop 1 (behind s))) refl f)))
  default-step m n s ih l b c (deep k) e f = rw (with-deep true false (drop 1 (behind s)) e) (unfold Reader.after in tt)

  -- "*" before "}"
  closes-blanks : (r : List ℕ) → closes r ≡ true → blanks r ≡ spaces r
  closes-blanks r e = omega (arith, blanks-on (spaces r) r (spaces-blanks r), no-blank-at 125 (drop (spaces r) r) e refl refl refl)

  bare-fits : (s : List ℕ) → line_ends s ≡ true → starts_with 42 (behind s) ≡ true → closes (drop 1 (behind s)) ≡ true
      → bare-star s ≡ fits tt [] (blanks s + 1)
  unfolding Peg.after move_up
  bare-fits s l b c =
      let r = drop 1 (behind s) in
      bare-is s l b ∙ ap (λ a. Peg.after [] (blanks s) (Peg.after [] 1 a))
      (ahead-fits (blank-inline? >> byte 125) r
      (then-fits blank-inline? (byte 125) r (blank-inline?-is r)
      ∙ ap (Peg.after [] (spaces r)) (byte_fits 125 (drop (spaces r) r) c)))

  bare_step : (n : ℕ) (s : List ℕ) → line_ends s ≡ true → starts_with 42 (behind s) ≡ true
      → starts_with 91 (drop 1 (behind s)) ≡ false → Ended s (ok tt [] (blanks s + 1)) (listed false n s)
  unfolding over
  bare_step n s l b c =
      let r = drop 1 (behind s) in
      let d : r ≡ drop (blanks s + 1) s = drop-drop 1 (blanks s) s in
      let e : listed false n s ≡ bare-star s = listed-star n s l b
      ∙ second default-on bare-star s (then-fails (DefaultVariant rust sub₂) _ s
      (default-fails s l (then-fits (byte 42) body (behind s) (byte_fits 42 (behind s) b) ∙ after-fails [] 1 (no_body r c)))) in
      by_case (closes r)
      (λ q. inl (
        blanks s + 1,
        e
            ∙ bare-fits s l b q,
        ap (λ n. blanks s + 1 + n) (closes-blanks (drop (blanks s + 1) s) (subst (λ x. closes x ≡ true) d q)),
      ))
      (λ q. inr (e ∙ bare-fails s l b q, subst (λ x. closes x ≡ false) d q))

  -- neither "*" nor a variant
  end_step : (n : ℕ) (h : Bool) (s : List ℕ) → line_ends s ≡ true → starts_with 42 (behind s) ≡ false
      → starts_with 91 (behind s) ≡ false
      → Ended s (Reader.after [] (blanks s) (end_variants h (behind s))) (listed h n s)
  unfolding end_variants Reader.pure Reader.fail ending
  end_step n true s l b c =
      rw (ok-pure (tt {0}) [] (blanks s))
      (inl (
        eol s,
        listed-end true n s (variant-fails s l (no_body (behind s) c)) ∙ last_line s l,
        over-eol s
            ∙ omega (arith, spaces-blanks (behind s), no-blanks s),
      ))
  end_step n false s l b c = unfold Reader.after in
      (failed s (listed-end false n s (variant-fails s l (no_body (behind s) c)) ∙ no-star s l b))

  bracket-step : (m n : ℕ) (h : Bool) (s : List ℕ) → More m → line_ends s ≡ true → length s ≤ n → starts_with 91 (behind s) ≡ true
      → Ended s (Reader.after [] (blanks s) (turned m (behind s) (turn_of (variant_with sub₁ false h (behind s))))) (listed h n s)
  unfolding starts_with blanks
  bracket-step m zero h [] ih l i c = clash c refl
  bracket-step m zero h (b ∷ bs) ih l i c = absurd (not-suc-le-zero i)
  bracket-step m (suc n) h s ih l i c = variant_step m n h s ih l i c (Reading.variant sub₁ (behind s)) refl (variant-valued (behind s))

  star-step : (m n : ℕ) (h : Bool) (s : List ℕ) → More m → line_ends s ≡ true → starts_with 42 (behind s) ≡ true
      → Ended s (Reader.after [] (blanks s) (turned m (behind s) (turn_after 1 (after_star sub₁ true h (drop 1 (behind s)))))) (listed h n s)
  unfolding after_star end_variants turn_after Reader.pure Reader.fail
  star-step m n true s ih l b = unfold Reader.after in
      (rw (listed-end true n s (variant-fails s l (no_body (behind s) (starts_other 42 91 (behind s) b refl))))
      (unended-end true s 42 l b refl (λ q. clash refl q)))
  star-step m n false s ih l b = by_case (starts_with 91 (drop 1 (behind s)))
      (λ c. rw (c, after_star)
      (default-step m n s ih l b c (Reading.variant sub₁ (drop 1 (behind s))) refl
      (variant-valued (drop 1 (behind s)))))
      (λ c. rw (c, after_star) (rw (ok-pure (tt {0}) [] 1) (unfold Reader.after move_up in (bare_step n s l b c))))

  variants-loop : (m : ℕ) → More m
  unfolding loop variant_turn after_star
  variants-loop zero n h s l i = unfold Reader.after in tt
  variants-loop (suc m) n h s l i = by_case (starts_with 42 (behind s))
      (λ b. rw (b, loop, variant_turn) (star-step m n h s (variants-loop m) l b))
      (λ b. by_case (starts_with 91 (behind s))
      (λ c. rw (b, loop, variant_turn) (rw (c, after_star) (bracket-step m n h s (variants-loop m) l i c)))
      (λ c. rw (b, loop, variant_turn) (rw (c, after_star) (end_step n h s l b c))))

  -- variant-list
  list-is : (s : List ℕ) → variant-list rust sub₂ s ≡ listed false (length s) s
  unfolding variant-list shared share variants bare-variants given rust all many ending
  list-is s = shared-first (many (Variant rust sub₂) s) default-on bare-star s

  -- behind "->" and its spaces
  abbrev pub reads_lines : Reader (Unit {0})
  reads_lines = Reader.◌>>=◌ skip_eol (λ end. Reader.◌>>◌ (needs_line_end end) (Reader.◌>>◌ skip_blank (get_variants sub₁)))

  eol-ends : (s : List ℕ) → ltb 0 (eol s) ≡ true → line_ends s ≡ true
  unfolding line_ends
  eol-ends [] e = refl
  eol-ends (b ∷ bs) e = e

  abbrev after-eol : Bool → Reader (Unit {0})
  after-eol end = Reader.◌>>◌ (needs_line_end end) (Reader.◌>>◌ skip_blank (get_variants sub₁))

  eol-read : (s : List ℕ) {v : Bool} → ltb 0 (eol s) ≡ v → reads_lines s ≡ Reader.after [] (eol s) (after-eol v (drop (eol s) s))
  unfolding skip_eol
  eol-read s e = reads-bind skip_eol after-eol s (ap (λ v. ok v [] (eol s)) e)

  lines_are : (s : List ℕ) → ltb 0 (eol s) ≡ true → reads_lines s ≡ reads false (suc (length (behind s))) s
  unfolding needs_line_end get_variants repeat Reader.pure
  lines_are s e =
      let r = drop (eol s) s in
      eol-read s e ∙ ap (Reader.after [] (eol s)) (reads_then (needs_line_end true) (Reader.◌>>◌ skip_blank (get_variants sub₁)) r refl)
      ∙ reads-skip [] (eol s) 0 ((Reader.◌>>◌ skip_blank (get_variants sub₁)) r)
      ∙ ap₂ (λ n o. Reader.after [] n o) (add-zero (eol s)) (reader-skips (get_variants sub₁) r)
      ∙ reads-skip [] (eol s) (blanks r) (get_variants sub₁ (behind r))
      ∙ ap (λ x. Reader.after [] (eol s + blanks r) (get_variants sub₁ x)) (drop-drop (blanks r) (eol s) s)
      ∙ ap (λ n. Reader.after [] n (get_variants sub₁ (drop n s))) (blanks-on (eol s) s (eol-blanks s))

  no_lines : (s : List ℕ) → ltb 0 (eol s) ≡ false → variant-list rust sub₂ s ≡ fails
  unfolding line_ends starts_with blanks
  no_lines [] e = list-is [] ∙ listed-end false 0 [] (variant-fails [] refl (no_body [] refl)) ∙ no-star [] refl refl
  no_lines (b ∷ bs) e = list-is (b ∷ bs) ∙ listed-broken false (length (b ∷ bs)) (b ∷ bs) e

  pub variants-ended : (s : List ℕ) → Ended s (reads_lines s) (variant-list rust sub₂ s)
  unfolding Reader.after Reader.◌>>◌ Reader.next needs_line_end Reader.fail
  variants-ended s = by_case (ltb 0 (eol s))
      (λ e. rw (lines_are s e, list-is s) (variants-loop (suc (length (behind s))) (length s) false s (eol-ends s e) (omega arith)))
      (λ e. rw (no_lines s e, eol-read s e) tt)
