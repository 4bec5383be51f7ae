-- Comments: a line of the reading against a CommentLine.
use Rattle.std.specs.Prelude.{ℕ, suc, ◌+◌, ◌<◌, min, ◌≡◌, ◌⊎◌, true, false, List, [], ◌∷◌, drop, eqb, ltb}
use Rattle.std.proofs.Common.{add_assoc, add-zero, arith, sym, ap, ap₂, ◌∙◌, subst, inl, inr, append-nil, drop-drop, eqb-true}
use Rattle.std.proofs.Math.Path.{refl}
use Rattle.std.proofs.Math.Dec.{eqb-suc-zero}
use Rattle.std.proofs.lemmas.Bool.{eqb-false}
use Rattle.syntax.specs.Bytes.{starts_with, starts, eol, run}
use Rattle.syntax.specs.Marks.{Mark, placed, move_up, text_node}
use Rattle.syntax.specs.Errors.{up_fault, fault_at}
use Rattle.syntax.specs.declared.errors.ErrorKind.TheVariants.{ExpectedToken}
use Rattle.syntax.specs.declared.errors.ParserError.{ParserError}
use Rattle.syntax.specs.Reader as Reader
use Rattle.syntax.specs.Reader.{ok, bad, again, done}
use Rattle.syntax.specs.Comment.{line_length, level_of, line_end_used, line_read, line_turn, comment_turn}
use Rattle.laws.specs.Bytes.{by_case, clash}
use Rattle.standard.specs.Dialect as Dialect
use Rattle.standard.specs.Dialect.{rust}
use Rattle.standard.specs.Peg as Peg
use Rattle.standard.specs.Peg.{fits, fails, Parser, pure, many, one, byte, bar, void, eof, as-text, given, ◌but◌, ◌>>◌, ◌//◌}
use Rattle.standard.specs.Steps.{bind-fits, bind-fails, then-fits, then-fails, first, second, void-fits}
use Rattle.standard.specs.Steps.{void-fails, text-fits, byte_fits, byte-fails, units}
use Rattle.standard.specs.Abstract as Abstract
use Rattle.standard.specs.Abstract.{A1, empty-line}
use Rattle.standard.specs.Lexical.{line-end, any-char, comment-char, sigil}
use Rattle.standard.specs.Grammar.{CommentLine}
use Rattle.standard.specs.Blank.{line_ends, line-end-is, no-line-end}
use Rattle.standard.specs.Turns.{AtEnd, many-again, many-none, bar-fits, bar-fails}

-- The text of a line
-- --------------------------------------------------------------------------------------------------------------------------

char-end : AtEnd (comment-char [])
unfolding comment-char any-char ◌but◌ bar ◌>>◌ Peg.next Peg.after line-end Peg.sized ◌//◌ byte one starts eof
char-end = tt

char-fits : (b : ℕ) (bs : List ℕ) → line_ends (b ∷ bs) ≡ false → comment-char (b ∷ bs) ≡ fits tt [] 1
unfolding comment-char any-char ◌but◌ one starts Peg.after move_up
char-fits b bs e = then-fits (bar line-end) any-char (b ∷ bs) (bar-fails line-end (b ∷ bs) (no-line-end (b ∷ bs) e))

char-fails : (b : ℕ) (bs : List ℕ) → line_ends (b ∷ bs) ≡ true → comment-char (b ∷ bs) ≡ fails
unfolding comment-char ◌but◌
char-fails b bs e = then-fails (bar line-end) any-char (b ∷ bs) (bar-fits line-end (b ∷ bs) (line-end-is (b ∷ bs) e))

many-char : (s : List ℕ) → many comment-char s ≡ fits (units (line_length s)) [] (line_length s)
unfolding line_length units line_ends Peg.with_first Peg.after move_up
many-char [] = unfold many Peg.turns in refl
many-char (b ∷ bs) = by_case (ltb 0 (eol (b ∷ bs)))
    (λ q. rw (q, line_length) (many-none comment-char char-end (b ∷ bs) (char-fails b bs q)))
    (λ q. rw (q, line_length)
    (many-again comment-char char-end (b ∷ bs) tt [] 1 (char-fits b bs q) (omega arith)
    ∙ rw (many-char bs) (ap (fits (tt ∷ units (line_length bs)) []) (omega arith))))

-- a line ends behind its text
ends-behind : (s : List ℕ) → line_ends (drop (line_length s) s) ≡ true
unfolding line_length line_ends
ends-behind [] = refl
ends-behind (b ∷ bs) = by_case (ltb 0 (eol (b ∷ bs))) (λ q. rw (q, line_length) q) (λ q. rw (q, line_length) (ends-behind bs))

-- The sigil
-- -----------------------------------------------------------------------------------------------------------------------------------

data Hashes : List ℕ → Type 0 where
  three : (s : List ℕ) → Hashes (35 ∷ 35 ∷ 35 ∷ s)
  two : (s : List ℕ) → starts_with 35 s ≡ false → Hashes (35 ∷ 35 ∷ s)
  single : (s : List ℕ) → starts_with 35 s ≡ false → Hashes (35 ∷ s)
  no-hash : {s : List ℕ} → starts_with 35 s ≡ false → Hashes s

hashes-of : (s : List ℕ) → Hashes s
unfolding starts_with
hashes-of [] = no-hash refl
hashes-of (a ∷ s) = by_case (eqb a 35) (λ q. subst (λ x. Hashes (x ∷ s)) (sym (eqb-true a 35 q)) (second-of s)) (λ q. no-hash q)
  where
    third_of : (s : List ℕ) → Hashes (35 ∷ 35 ∷ s)
    third_of [] = two [] refl
    third_of (c ∷ s) = by_case (eqb c 35) (λ q. subst (λ x. Hashes (35 ∷ 35 ∷ x ∷ s)) (sym (eqb-true c 35 q)) (three s)) (λ q. two (c ∷ s) q)

    second-of : (s : List ℕ) → Hashes (35 ∷ s)
    second-of [] = single [] refl
    second-of (b ∷ s) =
        by_case (eqb b 35) (λ q. subst (λ x. Hashes (35 ∷ x ∷ s)) (sym (eqb-true b 35 q)) (third_of s))
        (λ q. single (b ∷ s) q)

no_run : (s : List ℕ) → starts_with 35 s ≡ false → run (λ b. eqb b 35) s ≡ 0
unfolding run starts_with
no_run [] e = refl
no_run (b ∷ bs) e = rw (e, run) refl

-- the level, and the sigil
data Sigil (s : List ℕ) : Type 0 where
  bare : starts_with 35 s ≡ false → level_of s ≡ 0 → sigil s ≡ fails → Sigil s
  hashed : (l : ℕ) → starts_with 35 s ≡ true → level_of s ≡ suc l → sigil s ≡ fits (suc l) [] (suc l) → Sigil s

sigil-of : (s : List ℕ) → Sigil s
unfolding sigil level_of run starts_with ◌>>◌ Peg.next Peg.after ◌//◌ byte one starts pure move_up
sigil-of s = go (hashes-of s)
  where
    least : (n : ℕ) → min 3 (suc (suc (suc n))) ≡ 3
    least n = omega arith

    go : {s : List ℕ} → Hashes s → Sigil s
    go (three s) = hashed 2 refl (least (run (λ b. eqb b 35) s)) refl
    go (two [] e) = hashed 1 refl refl refl
    go (two (b ∷ s) e) = hashed 1 refl (rw (e, run) refl) (rw (sigil, ◌//◌, ◌>>◌, e) refl)
    go (single [] e) = hashed 0 refl refl refl
    go (single (b ∷ s) e) = hashed 0 refl (rw (e, run) refl) (rw (sigil, ◌//◌, ◌>>◌, e) (rw (◌//◌, ◌>>◌, e) refl))
    go {s} (no-hash e) = bare e (rw (no_run s e) refl) (none s e)
      where
        none : (s : List ℕ) → starts_with 35 s ≡ false → sigil s ≡ fails
        none [] e = refl
        none (b ∷ s) e =
            let h = byte-fails 35 (b ∷ s) e in
            let two-fail = then-fails (byte 35) (byte 35) (b ∷ s) h in
            second (byte 35 >> byte 35 >> byte 35 >> pure 3) ((byte 35 >> byte 35 >> pure 2) // (byte 35 >> pure 1))
            (b ∷ s)
            (then-fails (byte 35 >> byte 35 >> byte 35) (pure 3) (b ∷ s)
            (then-fails (byte 35 >> byte 35) (byte 35) (b ∷ s) two-fail))
            ∙ second (byte 35 >> byte 35 >> pure 2) (byte 35 >> pure 1) (b ∷ s)
            (then-fails (byte 35 >> byte 35) (pure 2) (b ∷ s) two-fail)
            ∙ then-fails (byte 35) (pure 1) (b ∷ s) h

-- A comment line
-- ------------------------------------------------------------------------------------------------------------------------------

-- what follows the sigil
content : Parser (Unit {0})
content = void (byte 32 >> as-text 8 (many comment-char)) // A1 rust

unspaced : (s : List ℕ) → starts_with 32 s ≡ false → content s ≡ A1 rust s
unfolding content
unspaced s e =
    second (void (byte 32 >> as-text 8 (many comment-char))) (A1 rust) s
    (void-fails (byte 32 >> as-text 8 (many comment-char)) s
    (then-fails (byte 32) (as-text 8 (many comment-char)) s (byte-fails 32 s e)))

-- a line of the level l, with the marks ms and k bytes before its line end r
line-fits : (s : List ℕ) (l : ℕ) (ms : List Mark) (k : ℕ) → sigil s ≡ fits l [] l → content (drop l s) ≡ fits tt ms k
    → line_ends (drop k (drop l s)) ≡ true
    → CommentLine rust s ≡ fits (Abstract.comment l) (move_up l ms) (l + (k + eol (drop k (drop l s))))
unfolding CommentLine content Peg.after pure move_up
line-fits s l ms k e f h = bind-fits sigil _ s e
    ∙ ap (Peg.after [] l)
    (then-fits content _ (drop l s) f
    ∙ ap (Peg.after ms k)
    (then-fits line-end (pure (Abstract.comment l)) (drop k (drop l s)) (line-end-is (drop k (drop l s)) h)))
    ∙ ap₂ (λ x y. fits (Abstract.comment l) (move_up l x) (l + (k + y))) (append-nil ms)
    (add-zero (eol (drop k (drop l s))))

line-fails : (s : List ℕ) (l : ℕ) (ms : List Mark) (k : ℕ) → sigil s ≡ fits l [] l → content (drop l s) ≡ fits tt ms k
    → line_ends (drop k (drop l s)) ≡ false → CommentLine rust s ≡ fails
unfolding CommentLine content Peg.after
line-fails s l ms k e f h = bind-fits sigil _ s e
    ∙ ap (Peg.after [] l)
    (then-fits content _ (drop l s) f
    ∙ ap (Peg.after ms k)
    (then-fails line-end (pure (Abstract.comment l)) (drop k (drop l s)) (no-line-end (drop k (drop l s)) h)))

no_line : (s : List ℕ) → sigil s ≡ fails → CommentLine rust s ≡ fails
unfolding CommentLine
no_line s e = bind-fails sigil _ s e

content-end : content [] ≡ fits tt [] 0
unfolding A1 given eof rust Dialect.all ◌//◌ starts_with
content-end = unspaced [] refl

content-empty : (b : ℕ) (bs : List ℕ) → eqb b 32 ≡ false → content (b ∷ bs) ≡ fits tt (text_node 8 0 0) 0
unfolding A1 given eof empty-line rust Dialect.all ◌//◌ starts_with
content-empty b bs e = unspaced (b ∷ bs) e

content-text : (bs : List ℕ) → content (32 ∷ bs) ≡ fits tt (move_up 1 (text_node 8 0 (line_length bs))) (1 + line_length bs)
unfolding content starts_with Peg.after
content-text bs =
    first (void (byte 32 >> as-text 8 (many comment-char))) (A1 rust) (32 ∷ bs)
    (void-fits (byte 32 >> as-text 8 (many comment-char)) (32 ∷ bs)
    (then-fits (byte 32) (as-text 8 (many comment-char)) (32 ∷ bs) (byte_fits 32 (32 ∷ bs) refl)
    ∙ ap (Peg.after [] 1) (text-fits 8 (many comment-char) bs (many-char bs))))

-- what follows a sigil always fits, and a line of another level has that level
content-fits : (s : List ℕ) → (ms : List Mark) × (k : ℕ) × (content s ≡ fits tt ms k)
content-fits [] = ([], 0, content-end)
content-fits (b ∷ bs) =
    by_case (eqb b 32)
    (λ q. (move_up 1 (text_node 8 0 (line_length bs)), 1 + line_length bs, rw (eqb-true b 32 q) (content-text bs)))
    (λ q. (text_node 8 0 0, 0, content-empty b bs q))

comment-level : (s : List ℕ) (l m : ℕ) (ms : List Mark) (k : ℕ) → sigil s ≡ fits l [] l
    → CommentLine rust s ≡ fits (Abstract.comment m) ms k → m ≡ l
comment-level s l m ms k e f =
    let (ns, j, c) = content-fits (drop l s) in
    by_case (line_ends (drop j (drop l s)))
    (λ h. let g = line-fits s l ns j e c h in let z : m ≡ l = cc in z)
    (λ h. let g = line-fails s l ns j e c h in let z : ◌≡◌ {A = ℕ} 0 1 = cc in absurd (omega arith))

no-space : (b : ℕ) (bs : List ℕ) → ltb 0 (eol (b ∷ bs)) ≡ true → eqb b 32 ≡ false
unfolding eol
no-space b bs q = by_case (eqb b 32) (λ r. clash {v = false} (subst (λ x. ltb 0 (eol (x ∷ bs)) ≡ true) (eqb-true b 32 r) q) refl) (λ r. r)

end-eol : eol [] ≡ 0
unfolding eol
end-eol = refl

-- A turn of the reading's loop, against a CommentLine: none of this level, an error, a sigil at the end of input, or a line
pub data Turned (c : ℕ) (s : List ℕ) : Type 0 where
  away : (c ≡ 0 → starts_with 35 s ≡ false) → comment_turn c s ≡ done (ok c [] 0)
      → ((l : ℕ) (ms : List Mark) (k : ℕ) → CommentLine rust s ≡ fits (Abstract.comment l) ms k → eqb l c ≡ false)
      → Turned c s
  broken : (f : ParserError) (k : ℕ) → c ≡ 0 → comment_turn c s ≡ done (bad f k) → CommentLine rust s ≡ fails → Turned c s
  ends : (l : ℕ) → comment_turn c s ≡ done (ok (suc l) [] (suc l))
      → CommentLine rust s ≡ fits (Abstract.comment (suc l)) [] (suc l) → drop (suc l) s ≡ [] → (c ≡ 0) ⊎ (c ≡ suc l)
      → Turned c s
  line : (l : ℕ) (ms : List Mark) (k : ℕ) → comment_turn c s ≡ again (suc l) ms (k + line_end_used (drop k s))
      → CommentLine rust s ≡ fits (Abstract.comment (suc l)) ms (k + eol (drop k s)) → line_ends (drop k s) ≡ true
      → 0 < k → (c ≡ 0) ⊎ (c ≡ suc l) → Turned c s

pub turned-of : (c : ℕ) (s : List ℕ) → Turned c s
unfolding comment_turn line_turn line_read line_ends move_up text_node Reader.fail Reader.after
turned-of c s = go (sigil-of s)
  where
    at_level : (l : ℕ) → level_of s ≡ suc l → sigil s ≡ fits (suc l) [] (suc l) → (c ≡ 0) ⊎ (c ≡ suc l)
        → comment_turn c s ≡ line_turn c (suc l) (drop (suc l) s) → Turned c s
    at_level l lv sg w e = by (drop (suc l) s) refl
      where
        by : (r : List ℕ) → drop (suc l) s ≡ r → Turned c s
        by [] d =
            ends l (e ∙ rw d refl)
            (line-fits s (suc l) [] 0 sg (rw d content-end) (rw d refl)
            ∙ rw d (ap (fits (Abstract.comment (suc l)) []) (omega (arith, end-eol)))) d w
        by (b ∷ bs) d = by_case (ltb 0 (eol (b ∷ bs))) (λ q. empty q) (λ q. by_case (eqb b 32) (λ r. text q r) (λ r. other q r))
          where
            zeros : drop (suc l + 0) s ≡ b ∷ bs
            zeros = ap (λ k. drop k s) (add-zero (suc l)) ∙ d

            empty : ltb 0 (eol (b ∷ bs)) ≡ true → Turned c s
            empty q =
                line l (text_node 8 (suc l) (suc l + 0)) (suc l + 0) (e ∙ rw (d, line_turn, q) (rw zeros refl))
                (line-fits s (suc l) (text_node 8 0 0) 0 sg (rw d (content-empty b bs (no-space b bs q))) (rw d q)
                ∙ rw zeros
                (ap₂ (λ x y. fits (Abstract.comment (suc l)) (placed 8 x ∷ placed 108 (suc l + 0) ∷ []) y)
                (add-zero (suc l)) (ap (λ z. suc l + (0 + eol z)) d ∙ omega arith)))
                (rw zeros q) (omega arith) w

            text : ltb 0 (eol (b ∷ bs)) ≡ false → eqb b 32 ≡ true → Turned c s
            text q r =
                let n = line_length bs in
                let f : drop (suc l + 1) s ≡ bs = sym (drop-drop 1 (suc l) s) ∙ ap (drop 1) d in
                let D : drop (suc l + 1 + line_length bs) s ≡ drop (line_length bs) bs = sym (drop-drop n (suc l + 1) s) ∙ ap (drop n) f in
                let E : drop (1 + line_length bs) (drop (suc l) s) ≡ drop (line_length bs) bs = ap (drop (1 + n)) d
                ∙ sym (drop-drop n 1 (b ∷ bs)) in
                line l (text_node 8 (suc l + 1) (suc l + 1 + n)) (suc l + 1 + n) (e ∙ rw (d, line_turn, q, r) (rw D refl))
                (line-fits s (suc l) (move_up 1 (text_node 8 0 n)) (1 + n) sg (rw (d, eqb-true b 32 r) (content-text bs))
                (rw E (ends-behind bs))
                ∙ rw (D, E)
                (ap₂ (λ x y. fits (Abstract.comment (suc l)) (placed 8 (suc l + 1) ∷ placed 108 x ∷ []) y)
                (sym (add_assoc (suc l) 1 n)) (omega arith)))
                (rw D (ends-behind bs)) (omega arith) w

            other : ltb 0 (eol (b ∷ bs)) ≡ false → eqb b 32 ≡ false → Turned c s
            other q r =
                let f = line-fails s (suc l) (text_node 8 0 0) 0 sg (rw d (content-empty b bs r)) (rw d q) in
                by_case (eqb c 0)
                (λ z. broken (up_fault (suc l) (fault_at (ExpectedToken 32) 0)) (suc l + 0) (eqb-true c 0 z)
                (e ∙ rw (d, line_turn, q, r, z) refl) f)
                (λ z. away (λ y. absurd (eqb-false c 0 z y)) (e ∙ rw (d, line_turn, q, r, z) refl)
                (λ m ms k g. let y : ◌≡◌ {A = ℕ} 0 1 = cc in absurd (omega arith)))

    go : Sigil s → Turned c s
    go (bare sw lv sg) =
        away (λ z. sw) (rw (lv, comment_turn) refl)
        (λ l ms k f. let z : ◌≡◌ {A = ℕ} 0 1 = cc (no_line s sg) in absurd (omega arith))
    go (hashed l sw lv sg) =
        by_case (eqb c 0)
        (λ q. at_level l lv sg (inl (eqb-true c 0 q)) (rw (lv, comment_turn, q, eqb-suc-zero) (rw lv refl)))
        (λ q. by_case (eqb (suc l) c)
        (λ r. at_level l lv sg (inr (sym (eqb-true (suc l) c r)))
        (rw (lv, comment_turn, q, r, eqb-suc-zero) (rw lv refl)))
        (λ r. away (λ z. absurd (eqb-false c 0 q z)) (rw (lv, comment_turn, q, r, eqb-suc-zero) refl)
        (λ m ms k f. rw (comment-level s (suc l) m ms k sg f) r)))

-- no comment where there is no sigil, and no level
pub no-comment : (s : List ℕ) → starts_with 35 s ≡ false → CommentLine rust s ≡ fails
no-comment s e = go (sigil-of s)
  where
    go : Sigil s → CommentLine rust s ≡ fails
    go (bare sw lv sg) = no_line s sg
    go (hashed l sw lv sg) = clash sw e

pub no-level : (s : List ℕ) → starts_with 35 s ≡ false → level_of s ≡ 0
no-level s e = go (sigil-of s)
  where
    go : Sigil s → level_of s ≡ 0
    go (bare sw lv sg) = lv
    go (hashed l sw lv sg) = clash sw e

-- a CommentLine answers a comment, and uses a byte
pub line-comment : (s : List ℕ) (i : Abstract.Item) (ms : List Mark) (k : ℕ) → CommentLine rust s ≡ fits i ms k
    → (l : ℕ) × (i ≡ Abstract.comment l) × (0 < k)
line-comment s i ms k f = go (sigil-of s)
  where
    go : Sigil s → (l : ℕ) × (i ≡ Abstract.comment l) × (0 < k)
    go (bare sw lv sg) = let z : ◌≡◌ {A = ℕ} 0 1 = cc (no_line s sg) in absurd (omega arith)
    go (hashed l sw lv sg) =
        let (ns, j, c) = content-fits (drop (suc l) s) in
        by_case (line_ends (drop j (drop (suc l) s)))
        (λ h. let g = line-fits s (suc l) ns j sg c h in let y : suc l + (j + eol (drop j (drop (suc l) s))) ≡ k = cc in
        (suc l, cc, omega arith))
        (λ h. let g = line-fails s (suc l) ns j sg c h in let z : ◌≡◌ {A = ℕ} 0 1 = cc in absurd (omega arith))
