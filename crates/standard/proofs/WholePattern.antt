-- A whole pattern: get_pattern and the production Pattern, with the spaces before it and the blank lines behind it.
use Rattle.std.specs.Prelude.{ℕ, zero, suc, ◌+◌, ◌<◌, ◌⊎◌, Bool, true, false, length, take}
use Rattle.std.proofs.Common.{not-suc-le-zero, add_assoc, add-zero, arith, ap₂, ◌∙◌, drop-drop}
use Rattle.std.proofs.Math.Nat.{zero-add}
use Rattle.std.proofs.Math.Path.{◌≡◌, refl, sym, ap}
use Rattle.std.proofs.Math.Logic.{inl, inr}
use mathlib.Core.List.{List, [], ◌∷◌, ◌++◌, append-nil}
use Rattle.std.proofs.Math.Option.{Option}
use Rattle.std.proofs.Math.ListN.{drop}
use Rattle.std.proofs.Math.Dec.{eqb-suc-zero}
use borrow.Author.Tests.{lt-ltb}
use Rattle.syntax.specs.Bytes.{starts_with, spaces, eol, run, all}
use Rattle.syntax.specs.Marks.{Mark, move_up, node}
use Rattle.syntax.specs.Reader as Reader
use Rattle.syntax.specs.Reader.{Out, ok, bad, deep, wrap, repeat}
use Rattle.syntax.specs.declared.errors.ParserError.{ParserError}
use Rattle.syntax.specs.Pattern as Pattern
use Rattle.syntax.specs.Pattern.{State, line_start, initial_line_start, is_line_start, is_text_byte, pattern_turn, finish}
use Rattle.syntax.specs.Pattern.{state_at, used_by, first_state, get_pattern}
use Rattle.laws.specs.Bytes.{by_case, clash}
use Rattle.laws.specs.Moving.{after-after}
use Rattle.laws.specs.Stable.{Takes}
use Rattle.standard.specs.Dialect as Dialect
use Rattle.standard.specs.Dialect.{rust}
use Rattle.standard.specs.Peg as Peg
use Rattle.standard.specs.Peg.{Answer, fits, fails, Parser, some, bar, ahead, void, pick, ◌>>◌}
use Rattle.standard.specs.Steps.{then-fits, then-fails, some-fails, void-fits, void-fails, ahead-fits, ahead-fails, after_none, Uses}
use Rattle.standard.specs.Abstract as Abstract
use Rattle.standard.specs.Abstract.{Line, Raw, text, lines, indent, brace-indent, placeable, common, width, A6}
use Rattle.standard.specs.Abstract.{A7, all_pieces, pieces_from, pattern_node, is_space}
use Rattle.standard.specs.Lexical.{line-end, blank-inline?, blank-line, blank-block, block-brace}
use Rattle.standard.specs.Grammar as Grammar
use Rattle.standard.specs.Grammar.{PatternElement, dedented-pattern, in_pattern, flat}
use Rattle.standard.specs.Blank.{line_ends, blank-inline?-is}
use Rattle.standard.specs.Same.{Same, nothing, Agree, whole-pattern, SamePattern, PatternAgrees, node-up}
use Rattle.standard.specs.PatternTurns.{turn-nil}
use Rattle.standard.specs.Turns.{repeat-done, Plain, plain-after, some-plain, some-many, bar-fits, bar-fails}
use Rattle.standard.specs.Texts.{Sign, end, lf, cr-lf, opens, closes, plain, sign_of, is_text_at, text_run, run-plain, plain-eol}
use Rattle.standard.specs.Blocks.{Block, block_of, block-stops, block-many, block-width, lines-many, lines_end}
use Rattle.standard.specs.Blocks.{line-fits, line-fails, skip_block, lf-block, crlf-block}
use Rattle.standard.specs.Elements.{onward, closing, closed, ended, tail, on_line, line_tail, behind, element-text}
use Rattle.standard.specs.Elements.{element-placeable, element-none, element-nil, element-stays, element-line}
use Rattle.standard.specs.Elements.{element-end, tail-again, tail_none, tail-nil, tail-lf, tail-crlf, block-fails}
use Rattle.standard.specs.Dedent.{Shown, Live}
use Rattle.standard.specs.Growth.{both, made, Content, Line-content, Common}
use Rattle.standard.proofs.PatternAgrees.{Rel, rel-step, behind-spaces, Shorter, claims}

-- the node of a pattern with the source s, from its raw elements
unfoldable patterned : List ℕ → Answer (List Raw) → Answer (Unit {0})
patterned s (fits rs ms k) = fits tt (pattern_node rust s rs) k
patterned s fails = fails

pub line_plain : (s : List ℕ) → Plain (blank-line s)
line_plain s = by_case (line_ends (drop (spaces s) s)) (λ h. rw (line-fits s h) refl) (λ h. rw (line-fails s h) tt)

-- what follows the pattern has no marks
unfoldable behind-pattern : Parser (Unit {0})
behind-pattern = ahead line-end >> void blank-block

behind-plain : (s : List ℕ) → Plain (behind-pattern s)
unfolding behind-pattern blank-block
behind-plain s = go (line-end s) refl
  where
    voided : (o : Answer (List Line)) → blank-block s ≡ o → Plain o → Plain (void blank-block s)
    voided (fits ls ms k) e q = rw (void-fits blank-block s e) q
    voided fails e q = rw (void-fails blank-block s e) tt

    go : (o : Answer ℕ) → line-end s ≡ o → Plain ((ahead line-end >> void blank-block) s)
    go (fits a ms k) e =
        rw (then-fits (ahead line-end) (void blank-block) s (ahead-fits line-end s e))
        (plain-after 0 (void blank-block s) (voided (blank-block s) refl (some-plain blank-line line_plain s)))
    go fails e = rw (then-fails (ahead line-end) (void blank-block) s (ahead-fails line-end s e)) tt

module _ (sub : Grammar.Inside) (no-brace : (s : List ℕ) → starts_with 123 s ≡ false → sub.inline-placeable s ≡ fails) where
  unfoldable whole : Parser (Unit {0})
  whole = Grammar.Pattern rust sub >> behind-pattern

  -- no element, no pattern
  whole-fails : (s : List ℕ) → PatternElement rust sub s ≡ fails → whole s ≡ fails
  unfolding whole Grammar.Pattern dedented-pattern in_pattern
  whole-fails s e =
      then-fails (Grammar.Pattern rust sub) behind-pattern s
      (then-fails (dedented-pattern rust sub) _ s (rw (some-fails (PatternElement rust sub) s e) refl))

  whole-fits : (s : List ℕ) (rs : List Raw) (k : ℕ) → PatternElement rust sub s ≡ fits rs [] k → 0 < k → whole s ≡ patterned s (tail sub s)
  unfolding whole tail ended Grammar.Pattern dedented-pattern in_pattern patterned closing closed behind-pattern pick
      rust Dialect.all Peg.after move_up
  whole-fits s rs k e h =
      rw (← some-many (PatternElement rust sub) (element-stays sub no-brace) s rs [] k e h)
      (go (some (PatternElement rust sub) s) refl)
    where
      pat : (o : Answer (List (List Raw))) → some (PatternElement rust sub) s ≡ o → dedented-pattern rust sub s ≡ in_pattern rust s o
      pat o e = ap (in_pattern rust s) e

      last : (N : List Mark) (j : ℕ) (rs : List Raw) → N ≡ pattern_node rust s rs → (o : Answer (Unit {0})) → Plain o
          → Peg.after N j o ≡ patterned s (closed rs j o)
      last N j rs e (fits u ns i) q = rw (q, ← e) (ap (λ ms. fits tt ms (j + i)) (append-nil N))
      last N j rs e fails q = refl

      after-bar : (rss : List (List Raw)) (ms : List Mark) (j : ℕ) (o : Answer (Unit {0})) → block-brace (drop j s) ≡ o
          → some (PatternElement rust sub) s ≡ fits rss ms j
          → whole s ≡ patterned s (closed (flat rss) j (closing (drop j s)))
      after-bar rss ms j (fits u ns i) e f =
          then-fails (Grammar.Pattern rust sub) behind-pattern s
          (then-fits (dedented-pattern rust sub) (bar block-brace) s (pat (fits rss ms j) f)
          ∙ ap (Peg.after (pattern_node rust s (flat rss)) j) (bar-fits block-brace (drop j s) e))
          ∙ rw (then-fails (bar block-brace) behind-pattern (drop j s) (bar-fits block-brace (drop j s) e)) refl
      after-bar rss ms j fails e f =
          let N = pattern_node rust s (flat rss) in
          let p : Grammar.Pattern rust sub s ≡ fits tt N j =
          then-fits (dedented-pattern rust sub) (bar block-brace) s (pat (fits rss ms j) f)
          ∙ ap (Peg.after N j) (bar-fails block-brace (drop j s) e)
          ∙ ap₂ (λ ns i. fits tt ns i) (append-nil N) (add-zero j) in
          then-fits (Grammar.Pattern rust sub) behind-pattern s p
          ∙ rw (
            then-fits (bar block-brace) behind-pattern (drop j s) (bar-fails block-brace (drop j s) e),
            after_none (behind-pattern (drop j s)),
          )
          (last N j (flat rss) refl (behind-pattern (drop j s)) (behind-plain (drop j s)))

      go : (o : Answer (List (List Raw))) → some (PatternElement rust sub) s ≡ o
          → whole s ≡ patterned s (ended s (some (PatternElement rust sub) s))
      go (fits rss ms j) f = rw f (after-bar rss ms j (block-brace (drop j s)) refl f)
      go fails f = rw f (then-fails (Grammar.Pattern rust sub) behind-pattern s (then-fails (dedented-pattern rust sub) _ s (pat fails f)))

  -- the first element, if there is one
  data First (s : List ℕ) : Type 0 where
    no-element : PatternElement rust sub s ≡ fails → First s
    an-element : (r : Raw) (rs : List Raw) (k : ℕ) → PatternElement rust sub s ≡ fits (r ∷ rs) [] k → 0 < k → First s

  -- behind blank lines
  first_block : {s : List ℕ} {l : Line} {ls : List Line} {u : ℕ} → Block s (l ∷ ls) u → text_run s ≡ 0
      → starts_with 123 s ≡ false → 0 < u → First s
  unfolding onward
  first_block {s} {l} {ls} {u} b t q z = go (drop (spaces (drop u s)) (drop u s)) refl
    where
      go : (r : List ℕ) → drop (spaces (drop u s)) (drop u s) ≡ r → First s
      go [] d = let (ks, f) = lines_end b d in
          no-element
          (element-end sub no-brace s ks (u + spaces (drop u s)) (block-many b ∙ f) t q
          (sym (drop-drop (spaces (drop u s)) u s) ∙ d))
      go (c ∷ cs) d = by (on_line sub (spaces (drop u s)) (c ∷ cs)) refl
        where
          el : PatternElement rust sub s ≡ onward (λ rs. lines (l ∷ ls) ∷ rs) u (on_line sub (spaces (drop u s)) (c ∷ cs))
          el = element-line sub no-brace s (l ∷ ls) u (block-many b ∙ lines-many b c cs d) t q c cs d (rw d at (block-stops b))

          by : (o : Answer (List Raw)) → on_line sub (spaces (drop u s)) (c ∷ cs) ≡ o → First s
          by (fits rs ms k) e = an-element (lines (l ∷ ls)) rs (u + k) (el ∙ ap (onward (λ rs. lines (l ∷ ls) ∷ rs) u) e) (omega arith)
          by fails e = no-element (el ∙ ap (onward (λ rs. lines (l ∷ ls) ∷ rs) u) e)

  -- raw elements that follow a first one
  tail-first : (s : List ℕ) (r : Raw) (rs : List Raw) (k : ℕ) → PatternElement rust sub s ≡ fits (r ∷ rs) [] k → 0 < k
      → (all : List Raw) (ms : List Mark) (j : ℕ) → tail sub s ≡ fits all ms j → (more : List Raw) × (all ≡ r ∷ more)
  unfolding onward
  tail-first s r rs k e h all ms j q = go (tail sub (drop k s)) (sym q ∙ tail-again sub no-brace s (r ∷ rs) k e h)
    where
      go : (o : Answer (List Raw)) → fits all ms j ≡ onward (λ more. (r ∷ rs) ++ more) k o → (more : List Raw) × (all ≡ r ∷ more)
      go (fits more ns i) f = (rs ++ more, cc)
      go fails f = let z : ◌≡◌ {A = ℕ} 0 1 = cc in absurd (omega arith)

-- no blank lines first
abbrev Inline : List Raw → Type 0
Inline [] = Unit {0}
Inline (text m ∷ rs) = Unit {0}
Inline (lines ls ∷ rs) = ⊥
Inline (indent n ∷ rs) = Unit {0}
Inline (brace-indent n ∷ rs) = Unit {0}
Inline (placeable ms k ∷ rs) = Unit {0}

pieces-inline : (rs : List Raw) → Inline rs → A6 rust (all_pieces rust rs) ≡ made 0 rs (common rust rs)
unfolding made all_pieces pieces_from Abstract.pieces
pieces-inline [] h = refl
pieces-inline (text m ∷ rs) h = refl
pieces-inline (lines ls ∷ rs) h = absurd h
pieces-inline (indent n ∷ rs) h = refl
pieces-inline (brace-indent n ∷ rs) h = refl
pieces-inline (placeable ms k ∷ rs) h = refl

pieces-lines : (p : ℕ) (L : List Line) (rs : List Raw) (r : Raw) (more : List Raw) → rs ≡ r ∷ more → width L ≡ p
    → made p rs (common rust rs) ≡ A6 rust (all_pieces rust (behind L rs))
unfolding made all_pieces pieces_from behind
pieces-lines p L rs r more z w = rw (z, ← w) refl

rel-with : (G H : State → List Raw → Type 0) (o : Out State) (a : Answer (List Raw))
    → ((st : State) (rs : List Raw) (ms : List Mark) (j : ℕ) → a ≡ fits rs ms j → G st rs → H st rs) → Rel G o a
    → Rel H o a
rel-with G H (ok st ms k) (fits rs ns j) f h = (h.0, h.1, f st rs ns j refl h.2)
rel-with G H (ok st ms k) fails f h = absurd h
rel-with G H (bad e k) (fits rs ns j) f h = absurd h
rel-with G H (bad e k) fails f h = tt
rel-with G H (deep k) a f h = tt

-- the pattern of the source s; where there is none, there is no element, and the reading has passed what may follow a pattern; where
-- there is an error, the elements end where no pattern may end
abbrev pub Whole : Grammar.Inside → List ℕ → Out Bool → Answer (Unit {0}) → Type 0
Whole sub s (ok true ms k) a = a ≡ fits tt ms k
Whole sub s (ok false ms k) a = (a ≡ fails) × (PatternElement rust sub (drop (spaces s) s) ≡ fails) × (ms ≡ [])
    × (u : Unit {0}) × (ns : List Mark) × (j : ℕ) × (closing (drop (spaces s) s) ≡ fits u ns j) × (k ≡ spaces s + j)
Whole sub s (bad e k) a = (a ≡ fails) × (tail sub (drop (spaces s) s) ≡ fails)
Whole sub s (deep k) a = Unit {0}

-- what the loop ends with, for the source s
unfoldable Final : List ℕ → State → List Raw → Type 0
Final s st rs = ((st.kept ≡ 0) × (rs ≡ [])) ⊎ ((n : ℕ) × (r : Raw) × (more : List Raw) × (st.kept ≡ suc n) × (rs ≡ r ∷ more)
    × (Pattern.element_marks s st.common (suc n) st.elements ≡ move_up (spaces s)
    (Abstract.element_marks (A7 rust (drop (spaces s) s) (A6 rust (all_pieces rust rs))))))

module _ (sub₁ : Pattern.Inside) (sub₂ : Grammar.Inside) (agree : Agree sub₁ sub₂) where
  pub takes : (s : List ℕ) → Takes (sub₁.braced s)
  unfolding wrap
  takes s = go (sub₁.braced s) refl (agree.placeables s) (agree.uses-brace s)
    where
      go : (o : Out (Unit {0})) → sub₁.braced s ≡ o
          → Same nothing (wrap 13 (sub₁.braced s)) (sub₂.inline-placeable s) → Uses (sub₂.inline-placeable s)
          → Takes o
      go (ok u ms k) e h z = let f : sub₂.inline-placeable s ≡ fits tt (node 13 ms) k = rw e at h in rw f at z
      go (bad f k) e h z = tt
      go (deep k) e h z = tt

  bad-fails : (G : State → List Raw → Type 0) (e : ParserError) (k : ℕ) (a : Answer (List Raw)) → Rel G (bad e k) a → a ≡ fails
  bad-fails G e k (fits rs ms j) h = absurd h
  bad-fails G e k fails h = refl

  -- no pattern
  finish-none : (s : List ℕ) (st : State) (ms : List Mark) (k : ℕ) → st.kept ≡ 0 → finish s (ok st ms k) ≡ ok false [] k
  unfolding finish
  finish-none s st ms k q = rw (finish, q) refl

  finish-some : (s : List ℕ) (st : State) (ms : List Mark) (k n : ℕ) → st.kept ≡ suc n
      → finish s (ok st ms k) ≡ ok true (node 11 (Pattern.element_marks s st.common (suc n) st.elements)) k
  unfolding finish
  finish-some s st ms k n q = rw (finish, q, eqb-suc-zero) (rw q refl)

  conclude : (s : List ℕ) (o : Out State) → First sub₂ agree.no-brace (drop (spaces s) s)
      → Rel (Final s) o (tail sub₂ (drop (spaces s) s))
      → Whole sub₂ s (finish s (Reader.after [] (spaces s) o))
      (Peg.after [] (spaces s) (whole sub₂ agree.no-brace (drop (spaces s) s)))
  unfolding Reader.after Peg.after Final move_up closed patterned pattern_node
  conclude s (deep k) f r = unfold finish in tt
  conclude s (bad e k) (no-element x) r = unfold finish in
      (rw (whole-fails sub₂ agree.no-brace (drop (spaces s) s) x)
      (refl, bad-fails (Final s) e k (tail sub₂ (drop (spaces s) s)) r))
  conclude s (bad e k) (an-element x rs j y h) r = unfold finish patterned in
      (rw (
        whole-fits sub₂ agree.no-brace (drop (spaces s) s) (x ∷ rs) j y h,
        bad-fails (Final s) e k (tail sub₂ (drop (spaces s) s)) r,
      )
      (refl, refl))
  conclude s (ok st ms k) (no-element x) r =
      rw (whole-fails sub₂ agree.no-brace (drop (spaces s) s) x)
      (go (closing (drop (spaces s) s)) refl (rw (tail_none sub₂ agree.no-brace (drop (spaces s) s) x) at r))
    where
      empty : (u : Unit {0}) (ns : List Mark) (j : ℕ) → closing (drop (spaces s) s) ≡ fits u ns j → k ≡ 0 + j
          → Final s st [] → Whole sub₂ s (finish s (ok st ([] ++ move_up (spaces s) ms) (spaces s + k))) fails
      empty u ns j c w (inl (q, z)) =
          rw (finish-none s st ([] ++ move_up (spaces s) ms) (spaces s + k) q)
          (refl, x, refl, u, ns, j, c, ap (λ i. spaces s + i) (w ∙ zero-add j))
      empty u ns j c w (inr (n, x, more, q, z, v)) = let y : ◌≡◌ {A = ℕ} 0 1 = cc in absurd (omega arith)

      go : (a : Answer (Unit {0})) → closing (drop (spaces s) s) ≡ a → Rel (Final s) (ok st ms k) (closed [] 0 a)
          → Whole sub₂ s (finish s (ok st ([] ++ move_up (spaces s) ms) (spaces s + k))) fails
      go (fits u ns j) c h = empty u ns j c h.1 h.2
      go fails c h = absurd h
  conclude s (ok st ms k) (an-element x rs j y h) r =
      rw (whole-fits sub₂ agree.no-brace (drop (spaces s) s) (x ∷ rs) j y h)
      (go (tail sub₂ (drop (spaces s) s)) refl r)
    where
      go : (a : Answer (List Raw)) → tail sub₂ (drop (spaces s) s) ≡ a → Rel (Final s) (ok st ms k) a
          → Whole sub₂ s (finish s (ok st ([] ++ move_up (spaces s) ms) (spaces s + k)))
          (Peg.after [] (spaces s) (patterned (drop (spaces s) s) a))
      go (fits all ns i) e (z, w, inl v) = let (more, q) =
          tail-first sub₂ agree.no-brace (drop (spaces s) s) x rs j y h all ns i e in
          let y : ◌≡◌ {A = ℕ} 0 1 = cc v.1 in absurd (omega arith)
      go (fits all ns i) e (z, w, inr v) = let (n, b, more, q, p, marks) = v in
          rw (finish-some s st (move_up (spaces s) ms) (spaces s + k) n q)
          (ap₂ (λ o j. fits tt o j)
          (node-up (spaces s) 11 (Abstract.element_marks (A7 rust (drop (spaces s) s) (A6 rust (all_pieces rust all))))
          ∙ ap (node 11) (sym marks))
          (ap (λ j. spaces s + j) (sym w)))
      go fails e v = absurd v

  -- a pattern on the line: the state, and the claim
  module _ (s : List ℕ) where
    all-claims : (n : ℕ) → Shorter sub₁ sub₂ takes agree s (spaces s) n
    all-claims = claims sub₁ sub₂ takes agree s (spaces s)

    -- Live from an empty state
    live-final : (st st' : State) (p : ℕ) (rs : List Raw) → st.elements ≡ [] → Live s (spaces s) st st' (made p rs)
        → (n : ℕ) × (st'.kept ≡ suc n)
        × ((c : Option ℕ)
        → Pattern.element_marks s c (suc n) st'.elements ≡ move_up (spaces s)
        (Abstract.element_marks (A7 rust (drop (spaces s) s) (made p rs c))))
    live-final st st' p rs e h = (
      h.count,
      h.kept
          ∙ rw e (zero-add (suc h.count)),
      λ c. rw (h.elements, e) (shown c (made p rs c) (h.shown c)),
    )
      where
        shown : (c : Option ℕ) (es : List Abstract.Element) → Shown s (spaces s) c h.count h.added es
            → Pattern.element_marks s c (suc h.count) ([] ++ h.added) ≡ move_up (spaces s)
            (Abstract.element_marks (A7 rust (drop (spaces s) s) es))
        shown c [] x = absurd x
        shown c (e ∷ es) x = x

    -- on the line of its start
    inline-final : (st st' : State) (b : ℕ) (t : List ℕ) (rs : List Raw) → st.elements ≡ [] → st.kept ≡ 0
        → st.common ≡ Option.none → drop (spaces s) s ≡ b ∷ t → Inline rs → Common s (spaces s) st st' rs
        → Content s (spaces s) 0 st st' rs → Final s st' rs
    unfolding Final
    inline-final st st' b t rs e k c d i q (Content.nothing z h) = inl (h.kept ∙ k, z)
    inline-final st st' b t rs e k c d i q (Content.blank (zero) z m w h) = absurd (not-suc-le-zero m)
    inline-final st st' b t rs e k c d i q (Content.blank (suc n) z m w h) =
        clash {v = all is_space (take (suc n) (drop (spaces s + 0) s))} w
        (rw (add-zero (spaces s), d) (unfold all is_space in (rw (behind-spaces s b t d) refl)))
    inline-final st st' b t [] e k c d i q (Content.something h) = absurd (unfold made Abstract.pieces A6 in (h.shown Option.none))
    inline-final st st' b t (r ∷ rs) e k c d i q (Content.something h) =
        let (n, x, y) = live-final st st' 0 (r ∷ rs) e h in
        inr (
          n,
          r,
          rs,
          x,
          refl,
          rw (pieces-inline (r ∷ rs) i)
              (ap (λ z. Pattern.element_marks s z (suc n) st'.elements) (q ∙ ap (λ z. both z (common rust (r ∷ rs))) c)
              ∙ y (common rust (r ∷ rs))),
        )

    -- the loop's start
    pattern-from : (st : State) → first_state s ≡ st
        → get_pattern sub₁ s ≡ finish s (Reader.after [] st.used (repeat (pattern_turn sub₁) st (drop st.used s)))
    unfolding get_pattern
    pattern-from st e = ap (λ z. finish s (Reader.after [] z.used (repeat (pattern_turn sub₁) z (drop z.used s)))) e

    first-inline : eol (drop (spaces s) s) ≡ 0 → first_state s ≡ state_at (spaces s) initial_line_start
    unfolding first_state
    first-inline q = rw (q, first_state) refl

    inline-pattern : (b : ℕ) (t : List ℕ) → drop (spaces s) s ≡ b ∷ t → eol (drop (spaces s) s) ≡ 0
        → First sub₂ agree.no-brace (drop (spaces s) s)
        → ((rs : List Raw) (ms : List Mark) (j : ℕ) → tail sub₂ (drop (spaces s) s) ≡ fits rs ms j → Inline rs)
        → Whole sub₂ s (get_pattern sub₁ s) (Peg.after [] (spaces s) (whole sub₂ agree.no-brace (drop (spaces s) s)))
    unfolding state_at is_line_start
    inline-pattern b t d q f i =
        rw (pattern-from (state_at (spaces s) initial_line_start) (first-inline q))
        (conclude s (repeat (pattern_turn sub₁) (state_at (spaces s) initial_line_start) (drop (spaces s) s)) f
        (rel-with (λ st' rs. Common s (spaces s) st st' rs × Content s (spaces s) 0 st st' rs) (Final s)
        (repeat (pattern_turn sub₁) st (drop (spaces s) s)) (tail sub₂ (drop (spaces s) s))
        (λ st' rs ms j e x. inline-final st st' b t rs refl refl refl d (i rs ms j e) x.0 x.1)
        ((all-claims (suc (length (drop (spaces s) s)))).texts st 0 (drop (spaces s) s) (omega arith)
        (record { used = sym (add-zero (spaces s)); here = ap (λ k. drop k s) (add-zero (spaces s)) }) refl)))
      where
        st : State
        st = state_at (spaces s) initial_line_start

    end-pattern : drop (spaces s) s ≡ []
        → Whole sub₂ s (get_pattern sub₁ s) (Peg.after [] (spaces s) (whole sub₂ agree.no-brace (drop (spaces s) s)))
    unfolding state_at eol Final
    end-pattern d =
        rw (pattern-from (state_at (spaces s) initial_line_start) (first-inline (rw d refl)))
        (conclude s (repeat (pattern_turn sub₁) (state_at (spaces s) initial_line_start) (drop (spaces s) s))
        (rw d (no-element (element-nil sub₂ agree.no-brace)))
        (rw (
          d,
          repeat-done (pattern_turn sub₁) (state_at (spaces s) initial_line_start) []
              (ok (state_at (spaces s) initial_line_start) [] 0) (turn-nil sub₁ (state_at (spaces s) initial_line_start)),
          tail-nil sub₂ agree.no-brace,
        )
        (refl, refl, inl (refl, refl))))

    -- on a line of its own
    line-final : (st st' : State) (p : ℕ) (L : List Line) (rs : List Raw) → st.elements ≡ [] → st.kept ≡ 0
        → st.common ≡ Option.none → width L ≡ p → Common s (spaces s) st st' rs → Line-content s (spaces s) p st st' rs
        → Final s st' (behind L rs)
    unfolding Final behind all_pieces pieces_from
    line-final st st' p L rs e k c w q (Line-content.nothing z h) = inl (h.kept ∙ k, rw z refl)
    line-final st st' p L rs e k c w q (Line-content.something r more z h) =
        let (n, x, y) = live-final st st' p rs e h in
        inr (
          n,
          lines L,
          r
              ∷ more,
          x,
          rw z refl,
          ap (λ d. Pattern.element_marks s d (suc n) st'.elements) (q ∙ ap (λ d. both d (common rust rs)) c)
              ∙ y (common rust rs)
              ∙ ap (λ es. move_up (spaces s) (Abstract.element_marks (A7 rust (drop (spaces s) s) es)))
              (pieces-lines p L rs r more z w),
        )

    block-pattern : (p : ℕ) (r : List ℕ) (L : List Line) → first_state s ≡ state_at (spaces s + p) line_start
        → tail sub₂ (drop (spaces s) s) ≡ onward (behind L) p (line_tail sub₂ r) → drop (spaces s + p) s ≡ r
        → eol (drop (spaces r) r) ≡ 0 → width L ≡ p
        → First sub₂ agree.no-brace (drop (spaces s) s)
        → Whole sub₂ s (get_pattern sub₁ s)
        (Peg.after [] (spaces s) (whole sub₂ agree.no-brace (drop (spaces s) s)))
    unfolding state_at is_line_start move_up
    block-pattern p r L e tl d stops w f =
        let st = state_at (spaces s + p) line_start in
        rw (pattern-from st e, d, ← after-after [] (spaces s) [] p (repeat (pattern_turn sub₁) st r))
        (conclude s (Reader.after [] p (repeat (pattern_turn sub₁) st r)) f
        (rw tl (rel-step (λ st' rs. Common s (spaces s) st st' rs × Line-content s (spaces s) p st st' rs) (Final s) (behind L) p p refl
        (λ st' rs x. line-final st st' p L rs refl refl refl w x.0 x.1) (repeat (pattern_turn sub₁) st r) (line_tail sub₂ r)
        ((all-claims (suc (length r))).lines st p r (omega arith) (record { used = refl; here = d }) refl stops))))

    -- the state on the line behind blank lines
    first-line : (e : ℕ) (t : List ℕ) {ls : List Line} {u : ℕ} → eol (drop (spaces s) s) ≡ suc e
        → drop (spaces s + suc e) s ≡ t → Block t ls u → first_state s ≡ state_at (spaces s + (suc e + u)) line_start
    unfolding first_state used_by
    first-line e t {ls} {u} q d b =
        rw (q, first_state, lt-ltb 0 (suc e) (omega arith))
        (rw (q, d, skip_block b) (ap (λ k. state_at k line_start) (add_assoc (spaces s) (suc e) u)))

    -- what starts on the line is inline
    Starts : First sub₂ agree.no-brace (drop (spaces s) s) → Type 0
    Starts (no-element e) = Unit {0}
    Starts (an-element r rs k e h) = Inline (r ∷ [])

    inline-more : (r : Raw) (more : List Raw) → Inline (r ∷ []) → Inline (r ∷ more)
    inline-more (text m) more h = tt
    inline-more (lines ls) more h = h
    inline-more (indent n) more h = tt
    inline-more (brace-indent n) more h = tt
    inline-more (placeable ms k) more h = tt

    starts-inline : (f : First sub₂ agree.no-brace (drop (spaces s) s)) → Starts f
        → (rs : List Raw) (ms : List Mark) (j : ℕ) → tail sub₂ (drop (spaces s) s) ≡ fits rs ms j → Inline rs
    unfolding Starts
    starts-inline (no-element e) h rs ms j q =
        go (closing (drop (spaces s) s)) (sym q ∙ tail_none sub₂ agree.no-brace (drop (spaces s) s) e)
      where
        go : (a : Answer (Unit {0})) → fits rs ms j ≡ closed [] 0 a → Inline rs
        go (fits u ns i) f = let z : rs ≡ [] = unfold closed in cc in rw z tt
        go fails f = let z : ◌≡◌ {A = ℕ} 0 1 = unfold closed in cc in absurd (omega arith)
    starts-inline (an-element r rs k e h) g all ms j q = let (more, z) =
        tail-first sub₂ agree.no-brace (drop (spaces s) s) r rs k e h all ms j q in
        rw z (inline-more r more g)

    from_first : (b : ℕ) (t : List ℕ) → drop (spaces s) s ≡ b ∷ t → eol (drop (spaces s) s) ≡ 0
        → (f : First sub₂ agree.no-brace (drop (spaces s) s)) → Starts f
        → Whole sub₂ s (get_pattern sub₁ s) (Peg.after [] (spaces s) (whole sub₂ agree.no-brace (drop (spaces s) s)))
    from_first b t d q f h = inline-pattern b t d q f (starts-inline f h)

    -- by what the pattern starts with
    agrees-here : Whole sub₂ s (get_pattern sub₁ s) (Peg.after [] (spaces s) (whole sub₂ agree.no-brace (drop (spaces s) s)))
    unfolding eol text_run is_text_at is_text_byte starts_with line_ends spaces run width Starts
    agrees-here = go (sign_of (drop (spaces s) s)) refl
      where
        Goal : Type 0
        Goal = Whole sub₂ s (get_pattern sub₁ s) (Peg.after [] (spaces s) (whole sub₂ agree.no-brace (drop (spaces s) s)))

        go : {r : List ℕ} → Sign r → drop (spaces s) s ≡ r → Goal
        go end d = end-pattern d
        go (lf t) d =
            let (ls, u, b) = block_of t in
            let n : drop (spaces s + 1) s ≡ t = sym (drop-drop 1 (spaces s) s) ∙ ap (drop 1) d in
            block-pattern (1 + u) (drop u t) (record { spaces = 0; ending = 1 } ∷ ls) (first-line 0 t (rw d refl) n b)
            (rw d (tail-lf sub₂ agree.no-brace t b))
            (ap (λ j. drop j s) (sym (add_assoc (spaces s) 1 u)) ∙ sym (drop-drop u (spaces s + 1) s)
            ∙ ap (drop u) n)
            (block-stops b) (ap (λ k. 1 + k) (block-width b))
            (rw d (first_block sub₂ agree.no-brace (lf-block t b) refl refl (omega arith)))
        go (cr-lf t) d =
            let (ls, u, b) = block_of t in
            let n : drop (spaces s + 2) s ≡ t = sym (drop-drop 2 (spaces s) s) ∙ ap (drop 2) d in
            block-pattern (2 + u) (drop u t) (record { spaces = 0; ending = 2 } ∷ ls) (first-line 1 t (rw d refl) n b)
            (rw d (tail-crlf sub₂ agree.no-brace t b))
            (ap (λ j. drop j s) (sym (add_assoc (spaces s) 2 u)) ∙ sym (drop-drop u (spaces s + 2) s)
            ∙ ap (drop u) n)
            (block-stops b) (ap (λ k. 2 + k) (block-width b))
            (rw d (first_block sub₂ agree.no-brace (crlf-block t b) refl refl (omega arith)))
        go (opens t) d = by (sub₂.inline-placeable (123 ∷ t)) refl (agree.uses-brace (123 ∷ t))
          where
            by : (o : Answer (Unit {0})) → sub₂.inline-placeable (123 ∷ t) ≡ o → Uses (sub₂.inline-placeable (123 ∷ t)) → Goal
            by (fits u ms k) e z =
                from_first 123 t d (rw d refl)
                (an-element (placeable ms k) [] k
                (rw d (element-placeable sub₂ agree.no-brace (123 ∷ t) refl (block-fails (123 ∷ t) refl) e))
                (rw e at z)) tt
            by fails e z =
                from_first 123 t d (rw d refl)
                (no-element
                (rw d (element-none sub₂ agree.no-brace (123 ∷ t) refl (block-fails (123 ∷ t) refl) e))) tt
        go (closes t) d =
            from_first 125 t d (rw d refl)
            (no-element
            (rw d
            (element-none sub₂ agree.no-brace (125 ∷ t) refl (block-fails (125 ∷ t) refl)
            (agree.no-brace (125 ∷ t) refl)))) tt
        go (plain b t x y w v) d =
            from_first b t d (rw d (plain-eol b t x v))
            (an-element (text (suc (text_run t))) [] (suc (text_run t))
            (rw d (element-text sub₂ agree.no-brace (b ∷ t) (text_run t) (run-plain b t x y w v))) (omega arith)) tt

  whole_is : (s : List ℕ) → whole-pattern sub₂ s ≡ Peg.after [] (spaces s) (whole sub₂ agree.no-brace (drop (spaces s) s))
  unfolding whole-pattern whole behind-pattern
  whole_is s = then-fits blank-inline? _ s (blank-inline?-is s)

  pub whole-agrees : (s : List ℕ) → Whole sub₂ s (get_pattern sub₁ s) (whole-pattern sub₂ s)
  whole-agrees s = rw (whole_is s) (agrees-here s)

  -- patterns agree
  pub pattern-agrees : PatternAgrees sub₁ sub₂
  pattern-agrees = record { pattern = λ s. go s (get_pattern sub₁ s) (whole-agrees s) }
    where
      go : (s : List ℕ) (o : Out Bool) → Whole sub₂ s o (whole-pattern sub₂ s) → SamePattern o (whole-pattern sub₂ s)
      go s (ok true ms k) h = h
      go s (ok false ms k) h = h.0
      go s (bad e k) h = h.0
      go s (deep k) h = tt
