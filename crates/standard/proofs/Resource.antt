-- Resources: the parts of a source against the entries of the reading, given that placeables agree.
use Prim.Native.Nat.{ℕ, zero, suc, ◌+◌, ◌-◌, ◌<◌}
use Rattle.std.proofs.Common.{not-suc-le-zero, add-zero, ◌∙◌, inl, inr, length-drop, drop-drop}
use native.Mathlib.Omega.{arith}
use Rattle.std.proofs.Math.Path.{◌≡◌, refl, sym, ap, ap₂, subst}
use Rattle.std.specs.Prelude.{◌⊎◌, Bool, ◌&&◌, ◌||◌, not, length, ltb}
use Rattle.std.proofs.Math.Bool.{true, false}
use mathlib.Core.List.{List, [], ◌∷◌, ◌++◌}
use Rattle.std.proofs.Math.ListN.{drop}
use Rattle.std.proofs.Math.Dec.{eqb, eqb-suc-zero}
use borrow.Author.Tests.{eqb-true, eqb-false, ne_eqb, eq-eqb, le-ltb}
use Rattle.syntax.specs.Bytes.{starts_with, spaces, eol, run}
use Rattle.syntax.specs.Marks.{Mark, move_up, node, text_node}
use Rattle.syntax.specs.declared.errors.ParserError.{ParserError}
use Rattle.syntax.specs.Reader as Reader
use Rattle.syntax.specs.Reader.{Out, ok, bad, deep, again, done, repeat}
use Rattle.syntax.specs.Helper.{skip_blank_block}
use Rattle.syntax.specs.Comment.{level_of, line_end_used, comment_turn, get_comment}
use Rattle.syntax.specs.Pattern.{used_by}
use Rattle.syntax.specs.Expression.{level}
use Rattle.syntax.specs.Core as Core
use Rattle.syntax.specs.Core.{as_comment, as_message, as_term, fields, term_fields, get_entry, junk_end, Error, Reading, read}
use Rattle.syntax.specs.Core.{refused, following, is_named, kind_of_entry, entries, parse}
use Rattle.laws.specs.Bytes.{by_case, clash}
use Rattle.laws.specs.Moving.{move_up-twice, move_up-zero}
use Rattle.laws.specs.Entries.{entries_with, not-deep, nil-entry, nil-named, entry-comment}
use Rattle.laws.specs.Progress.{junk-moves}
use Rattle.standard.specs.Dialect.{rust}
use Rattle.standard.specs.Peg.{fits, fails}
use Rattle.standard.specs.Abstract as Abstract
use Rattle.standard.specs.Abstract.{Item, Part, Line, A2, A3, beside, named_first, part_marks}
use Rattle.standard.specs.Grammar.{nesting, CommentLine, Entry, ResourceWithin}
use Rattle.standard.specs.Blank.{line_ends}
use Rattle.standard.specs.Same.{Same, Agree, ok-pure}
use Rattle.standard.specs.Turns.{Fitting, Shrinks, repeat-again, repeat-done}
use Rattle.standard.specs.Texts.{Sign, end, lf, cr-lf, opens, closes, plain, sign_of, plain-eol}
use Rattle.standard.specs.Blocks.{Block, stop, step, block_of, block-stops, skip_block, lf-block}
use Rattle.standard.proofs.Messages.{item_of}
use Rattle.standard.specs.Comments.{no-comment, no-level, Turned, away, broken, ends, line, turned-of}
use Rattle.standard.proofs.Pieces.{entry-uses, entry-hash, entry-agrees, piece-entry, piece-blank, piece-junk}
use Rattle.standard.proofs.Pieces.{parts, parts_again, parts-nil, tree-parts, Head, no_part, a-part, head_of}

turn-nil : (c : ℕ) → comment_turn c [] ≡ done (ok c [] 0)
unfolding comment_turn level_of run
turn-nil c = refl

-- Rules A2 and A3
-- -----------------------------------------------------------------------------------------------------------------------------

abbrev head_level : List Part → ℕ
head_level [] = 0
head_level (p ∷ ps) = Abstract.level_of p.item

-- a part that is not joined with what follows
apart : (p : Part) (ps : List Part)
    → (not (eqb (Abstract.level_of p.item) 0) && eqb (Abstract.level_of p.item) (head_level ps)) ≡ false
    → beside p ps ≡ p ∷ ps
unfolding beside
apart p [] h = refl
apart p (q ∷ qs) h = rw (beside, h) refl

head-beside : (p : Part) (ps : List Part) → head_level (beside p ps) ≡ Abstract.level_of p.item
unfolding beside
head-beside p [] = refl
head-beside p (q ∷ qs) =
    by_case (not (eqb (Abstract.level_of p.item) 0) && eqb (Abstract.level_of p.item) (Abstract.level_of q.item))
    (λ h. rw (beside, h) refl) (λ h. rw (beside, h) refl)

head-A2 : (ps : List Part) → head_level (A2 ps) ≡ head_level ps
unfolding A2
head-A2 [] = refl
head-A2 (p ∷ ps) = head-beside p (A2 ps)

-- a part of no level stands by itself
alone : (p : Part) (ps : List Part) → Abstract.level_of p.item ≡ 0 → A2 (p ∷ ps) ≡ p ∷ A2 ps
unfolding A2
alone p ps h = apart p (A2 ps) (rw h refl)

-- Comments
-- ------------------------------------------------------------------------------------------------------------------------------------

module _ (n : ℕ) (agree : Agree (level n) (nesting rust n)) where
  abbrev ps : List ℕ → List Part
  ps s = parts n agree s

  abbrev comment-part : ℕ → List Mark → ℕ → Part
  comment-part l ms k = record { item = Abstract.comment l; inside = ms; size = k }

  comment-shrinks : (c : ℕ) (s : List ℕ) → Shrinks s (comment_turn c s)
  comment-shrinks c [] = rw (turn-nil c) tt
  comment-shrinks c (b ∷ bs) = go (turned-of c (b ∷ bs))
    where
      go : Turned c (b ∷ bs) → Shrinks (b ∷ bs) (comment_turn c (b ∷ bs))
      go (away w e f) = rw e tt
      go (broken f k w e h) = rw e tt
      go (ends l e f d w) = rw e tt
      go (line l ms k e f h z w) = rw e (omega (arith, length-drop (k + line_end_used (drop k (b ∷ bs))) (b ∷ bs)))

  -- where a comment's reading stops: at the end or a '#', or on the newline of its last line
  abbrev Cut : List ℕ → ℕ → ℕ → Type 0
  Cut s k K = ((K ≡ k) × ((drop k s ≡ []) ⊎ (starts_with 35 (drop k s) ≡ true))) ⊎ ((K ≡ k + 1) × ((t : List ℕ) × (drop k s ≡ 10 ∷ t)))

  data Went (c : ℕ) (s : List ℕ) (o : Out ℕ) : Type 0 where
    stopped : (c ≡ 0 → ⊥) → o ≡ ok c [] 0 → eqb c (head_level (ps s)) ≡ false → Went c s o
    went : (l : ℕ) (ms : List Mark) (k K : ℕ) → o ≡ ok (suc l) ms k → 0 < k → (c ≡ 0) ⊎ (c ≡ suc l)
        → A2 (ps s) ≡ comment-part (suc l) ms K ∷ A2 (ps (drop K s)) → Cut s k K → Went c s o
    failed : (f : ParserError) (k : ℕ) → c ≡ 0 → o ≡ bad f k → CommentLine rust s ≡ fails → Went c s o

  hash-of : (s : List ℕ) {i : Item} {ms : List Mark} {k : ℕ} → CommentLine rust s ≡ fits i ms k → starts_with 35 s ≡ true
  hash-of s f = by_case (starts_with 35 s) (λ q. q) (λ q. let e = no-comment s q in let z : ◌≡◌ {A = ℕ} 0 1 = cc in absurd (omega arith))

  hash-some : (s : List ℕ) → starts_with 35 s ≡ true → 0 < length s
  unfolding starts_with
  hash-some [] e = clash {v = false} e refl
  hash-some (b ∷ bs) e = omega arith

  -- the first part is of another level
  other-level : (c : ℕ) (s : List ℕ)
      → ((l : ℕ) (ms : List Mark) (k : ℕ) → CommentLine rust s ≡ fits (Abstract.comment l) ms k → eqb l (suc c) ≡ false)
      → eqb (suc c) (head_level (ps s)) ≡ false
  other-level c s f = go (head_of n agree s)
    where
      go : Head n agree s → eqb (suc c) (head_level (ps s)) ≡ false
      go (no_part e) = rw e (eqb-suc-zero c)
      go (a-part p qs e (inl z)) = rw (e, z) (eqb-suc-zero c)
      go (a-part p qs e (inr (l, ms, k, h, z))) = rw (e, z) (ne_eqb (suc c) l (λ w. eqb-false l (suc c) (f l ms k h) (sym w)))

  line-part : (s : List ℕ) (l : ℕ) (ms : List Mark) (k : ℕ) → CommentLine rust s ≡ fits (Abstract.comment l) ms k
      → 0 < k → A2 (ps s) ≡ beside (comment-part l ms k) (A2 (ps (drop k s)))
  unfolding A2
  line-part s l ms k f z =
      ap A2
      (parts_again n agree s (comment-part l ms k) k (piece-entry n agree s (entry-hash n agree s (hash-of s f) ∙ f)) z)

  not-joined : (s : List ℕ) (l : ℕ) (ms : List Mark) (k : ℕ) → eqb (suc l) (head_level (ps (drop k s))) ≡ false
      → beside (comment-part (suc l) ms k) (A2 (ps (drop k s))) ≡ comment-part (suc l) ms k ∷ A2 (ps (drop k s))
  unfolding Abstract.level_of
  not-joined s l ms k h =
      apart (comment-part (suc l) ms k) (A2 (ps (drop k s)))
      (rw (head-A2 (ps (drop k s)), h) (and-false (not (eqb (suc l) 0))))
    where
      and-false : (v : Bool) → (v && false) ≡ false
      and-false true = refl
      and-false false = refl

  joined-with : (l : ℕ) (ms ns : List Mark) (k j : ℕ) (qs : List Part)
      → beside (comment-part (suc l) ms k) (comment-part (suc l) ns j ∷ qs) ≡ comment-part (suc l) (ms ++ move_up k ns)
      (k + j)
      ∷ qs
  unfolding beside Abstract.level_of
  joined-with l ms ns k j qs = rw (beside, eqb-suc-zero, eq-eqb (suc l) (suc l) refl) refl

  -- the newline before what follows
  feed-before : (r : List ℕ) (e : ℕ) → eol r ≡ suc e → drop e r ≡ 10 ∷ drop (suc e) r
  unfolding eol starts_with
  feed-before r e q = go (sign_of r) q
    where
      go : {r : List ℕ} → Sign r → eol r ≡ suc e → drop e r ≡ 10 ∷ drop (suc e) r
      go end q = absurd (omega arith)
      go (lf t) q = let z : e ≡ 0 = omega arith in rw z refl
      go (cr-lf t) q = let z : e ≡ 1 = omega arith in rw z refl
      go (opens t) q = absurd (omega arith)
      go (closes t) q = absurd (omega arith)
      go (plain b t x y w v) q = absurd (omega (arith, plain-eol b t x v))

  feed-stops : (l : ℕ) (t : List ℕ) → repeat comment_turn (suc l) (10 ∷ t) ≡ ok (suc l) [] 0
  unfolding comment_turn starts_with
  feed-stops l t = repeat-done comment_turn (suc l) (10 ∷ t) (ok (suc l) [] 0) (rw (comment_turn, no-level (10 ∷ t) refl) refl)

  -- how much of a line end is used
  used_all : (r : List ℕ) → drop (eol r) r ≡ [] → line_end_used r ≡ eol r
  unfolding line_end_used
  used_all r e = rw (line_end_used, e) refl

  used-hash : (r : List ℕ) (b : ℕ) (bs : List ℕ) → drop (eol r) r ≡ b ∷ bs → eqb b 35 ≡ true → line_end_used r ≡ eol r
  unfolding line_end_used
  used-hash r b bs e q = rw (line_end_used, e, q) refl

  used-less : (r : List ℕ) (b : ℕ) (bs : List ℕ) → drop (eol r) r ≡ b ∷ bs → eqb b 35 ≡ false → line_end_used r ≡ eol r - 1
  unfolding line_end_used
  used-less r b bs e q = rw (line_end_used, e, q) refl

  ends-nil : (r : List ℕ) → line_ends r ≡ true → eol r ≡ 0 → r ≡ []
  unfolding line_ends
  ends-nil [] h q = refl
  ends-nil (b ∷ bs) h q = clash {v = false} (rw q at h) refl

  cut-after : (s : List ℕ) (F k K : ℕ) → Cut (drop F s) k K → Cut s (F + k) (F + K)
  cut-after s F k K (inl (e, inl d)) = inl (ap (λ x. F + x) e, inl (sym (drop-drop k F s) ∙ d))
  cut-after s F k K (inl (e, inr d)) = inl (ap (λ x. F + x) e, inr (rw (sym (drop-drop k F s)) d))
  cut-after s F k K (inr (e, x)) = inr (omega arith, (x.0, sym (drop-drop k F s) ∙ x.1))

  elsewhere : (s : List ℕ) (c : ℕ) → (c ≡ 0 → starts_with 35 s ≡ true) → (c ≡ 0 → starts_with 35 s ≡ false)
      → ((l : ℕ) (ms : List Mark) (k : ℕ) → CommentLine rust s ≡ fits (Abstract.comment l) ms k → eqb l c ≡ false)
      → eqb c (head_level (ps s)) ≡ false
  elsewhere s zero x y f = clash (x refl) (y refl)
  elsewhere s (suc c) x y f = other-level c s f

  comment-went : (m c : ℕ) (s : List ℕ) → length s < m → (c ≡ 0 → starts_with 35 s ≡ true) → Went c s (repeat comment_turn c s)
  comment-went zero c s short w = absurd (not-suc-le-zero short)
  comment-went (suc m) c s short hash = go (turned-of c s) (λ d t q x. comment-went m d t q x)
    where
      go : Turned c s
          → ((d : ℕ) (t : List ℕ) → length t < m → (d ≡ 0 → starts_with 35 t ≡ true) → Went d t (repeat comment_turn d t))
          → Went c s (repeat comment_turn c s)
      go (away x e f) ih = stopped (λ z. clash (hash z) (x z)) (repeat-done comment_turn c s (ok c [] 0) e) (elsewhere s c hash x f)
      go (broken f k x e h) ih = failed f k x (repeat-done comment_turn c s (bad f k) e) h
      go (ends l e f d x) ih =
          went l [] (suc l) (suc l) (repeat-done comment_turn c s (ok (suc l) [] (suc l)) e) (omega arith) x
          (line-part s (suc l) [] (suc l) f (omega arith)
          ∙ not-joined s l [] (suc l) (rw (d, parts-nil n agree) (eqb-suc-zero l)))
          (inl (refl, inl d))
      go (line l ms k e f h z x) ih = by (drop (eol (drop k s)) (drop k s)) refl
        where
          r : List ℕ
          r = drop k s

          D : drop (eol (drop k s)) (drop k s) ≡ drop (k + eol (drop k s)) s
          D = drop-drop (eol (drop k s)) k s

          -- the loop goes on behind the line
          cont : line_end_used (drop k s) ≡ eol (drop k s)
              → (drop (k + eol (drop k s)) s ≡ []) ⊎ (starts_with 35 (drop (k + eol (drop k s)) s) ≡ true)
              → Went c s (repeat comment_turn c s)
          cont U place =
              on (repeat comment_turn (suc l) (drop (k + eol (drop k s)) s)) refl
              (ih (suc l) (drop (k + eol (drop k s)) s)
              (omega (arith, length-drop (k + eol (drop k s)) s, hash-some s (hash-of s f)))
              (λ q. absurd (omega arith)))
            where
              carry : {a b : ℕ} → (c ≡ 0) ⊎ (c ≡ a) → a ≡ b → (c ≡ 0) ⊎ (c ≡ b)
              carry (inl y) w = inl y
              carry (inr y) w = inr (y ∙ w)

              reads : repeat comment_turn c s ≡ Reader.after ms (k + eol (drop k s))
                  (repeat comment_turn (suc l) (drop (k + eol (drop k s)) s))
              reads =
                  repeat-again comment_turn comment-shrinks c s (suc l) ms (k + eol (drop k s))
                  (e ∙ ap (λ u. again (suc l) ms (k + u)) U)

              on : (o : Out ℕ) → repeat comment_turn (suc l) (drop (k + eol (drop k s)) s) ≡ o
                  → Went (suc l) (drop (k + eol (drop k s)) s)
                  (repeat comment_turn (suc l) (drop (k + eol (drop k s)) s))
                  → Went c s (repeat comment_turn c s)
              on o q (stopped i y v) =
                  went l ms (k + eol (drop k s)) (k + eol (drop k s))
                  (reads ∙ ap (Reader.after ms (k + eol (drop k s))) y ∙ ok_same) (omega arith) x
                  (line-part s (suc l) ms (k + eol (drop k s)) f (omega arith)
                  ∙ not-joined s l ms (k + eol (drop k s)) v)
                  (inl (refl, place))
                where
                  ok_same : Reader.after ms (k + eol (drop k s)) (ok (suc l) [] 0) ≡ ok (suc l) ms (k + eol (drop k s))
                  ok_same = ok-pure (suc l) ms (k + eol (drop k s))
              on o q (went l' ns j J y v (inl w) a cut) = absurd (omega arith)
              on o q (went l' ns j J y v (inr w) a cut) =
                  went l' (ms ++ move_up (k + eol (drop k s)) ns) (k + eol (drop k s) + j) (k + eol (drop k s) + J)
                  (reads ∙ ap (Reader.after ms (k + eol (drop k s))) y ∙ (unfold Reader.after in refl))
                  (omega arith) (carry x w)
                  (line-part s (suc l) ms (k + eol (drop k s)) f (omega arith)
                  ∙ ap (beside (comment-part (suc l) ms (k + eol (drop k s)))) a
                  ∙ ap
                  (λ y. beside (comment-part (suc l) ms (k + eol (drop k s)))
                  (comment-part y ns J ∷ A2 (ps (drop J (drop (k + eol (drop k s)) s)))))
                  (sym w)
                  ∙ joined-with l ms ns (k + eol (drop k s)) J (A2 (ps (drop J (drop (k + eol (drop k s)) s))))
                  ∙ ap₂
                  (λ y t. comment-part y (ms ++ move_up (k + eol (drop k s)) ns) (k + eol (drop k s) + J)
                  ∷ A2 (ps t)) w
                  (drop-drop J (k + eol (drop k s)) s))
                  (cut-after s (k + eol (drop k s)) j J cut)
              on o q (failed g j w y v) = absurd (omega arith)

          -- it stops on the newline
          stop-at : (b : ℕ) (bs : List ℕ) → drop (eol (drop k s)) (drop k s) ≡ b ∷ bs → eqb b 35 ≡ false → (u : ℕ)
              → eol (drop k s) ≡ u → Went c s (repeat comment_turn c s)
          stop-at b bs d q zero v = let y = ends-nil (drop k s) h v in
              let w : ◌≡◌ {A = List ℕ} [] (b ∷ bs) = sym (ap (λ i. drop i (drop k s)) v ∙ y) ∙ d in
              let a : ◌≡◌ {A = ℕ} 0 1 = cc in absurd (omega arith)
          stop-at b bs d q (suc u) v =
              let U : line_end_used (drop k s) ≡ u = used-less (drop k s) b bs d q ∙ ap (λ i. i - 1) v ∙ fewer u in
              let B : drop (suc u) (drop k s) ≡ b ∷ bs = ap (λ i. drop i (drop k s)) (sym v) ∙ d in
              let G : drop (k + u) s ≡ 10 ∷ b ∷ bs = sym (drop-drop u k s) ∙ feed-before (drop k s) u v ∙ ap (λ y. 10 ∷ y) B in
              let E : drop (k + eol (drop k s)) s ≡ b ∷ bs = sym D ∙ d in
              went l ms (k + u) (k + eol (drop k s))
              (repeat-again comment_turn comment-shrinks c s (suc l) ms (k + u)
              (e ∙ ap (λ i. again (suc l) ms (k + i)) U)
              ∙ ap (λ y. Reader.after ms (k + u) (repeat comment_turn (suc l) y)) G
              ∙ ap (Reader.after ms (k + u)) (feed-stops l (b ∷ bs)) ∙ ok-pure (suc l) ms (k + u))
              (omega arith) x
              (line-part s (suc l) ms (k + eol (drop k s)) f (omega arith)
              ∙ not-joined s l ms (k + eol (drop k s))
              (other-level l (drop (k + eol (drop k s)) s)
              (λ i ns j y. let a = no-comment (drop (k + eol (drop k s)) s) (rw E (unfold starts_with in q)) in
              let w : ◌≡◌ {A = ℕ} 0 1 = cc in absurd (omega arith))))
              (inr (omega arith, (b ∷ bs, G)))
            where
              fewer : (u : ℕ) → suc u - 1 ≡ u
              fewer u = omega arith

          by : (t : List ℕ) → drop (eol (drop k s)) (drop k s) ≡ t → Went c s (repeat comment_turn c s)
          by [] d = cont (used_all (drop k s) d) (inl (sym D ∙ d))
          by (b ∷ bs) d =
              by_case (eqb b 35)
              (λ q. cont (used-hash (drop k s) b bs d q) (inr (rw (sym D ∙ d) (unfold starts_with in q))))
              (λ q. stop-at b bs d q (eol (drop k s)) refl)

  -- Entries
  -- -----------------------------------------------------------------------------------------------------------------------------------

  -- blank lines make no marks
  blank_skip : {s : List ℕ} {ls : List Line} {u : ℕ} → Block s ls u → A3 (A2 (ps s)) ≡ move_up u (A3 (A2 (ps (drop u s))))
  unfolding A3 part_marks Abstract.level_of
  blank_skip {s} (stop q) = sym (move_up-zero (A3 (A2 (ps s))))
  blank_skip {s} (step {ls = ls} {u = u} e q b) =
      let p : Part = record { item = Abstract.blank; inside = []; size = spaces s + suc e + u } in
      let w : ps s ≡ p
      ∷ ps (drop (spaces s + suc e + u) s) =
      parts_again n agree s p (spaces s + suc e + u) (piece-blank n agree (step e q b)) (omega arith) in
      ap (λ y. A3 (A2 y)) w ∙ ap A3 (alone p (ps (drop (spaces s + suc e + u) s)) refl)

  not-comment : (s : List ℕ) → starts_with 35 s ≡ false → (l : ℕ) (ms : List Mark) (k : ℕ)
      → get_entry (level n) s ≡ ok (Core.Entry.comment l) ms k → ⊥
  unfolding get_entry as_message as_term
  not-comment s e l ms k h =
      by_case (starts_with 45 s) (λ d. term (term_fields (level n) s) (rw (e, get_entry, d) at h))
      (λ d. message (fields (level n) s) (rw (e, get_entry, d) at h))
    where
      term : (o : Out Core.Fields) → as_term o ≡ ok (Core.Entry.comment l) ms k → ⊥
      term (ok f ns j) h =
          by_case f.value
          (λ v. let a : ◌≡◌ {A = Out Core.Entry} (ok Core.Entry.term ns j) (ok (Core.Entry.comment l) ms k) =
          rw (as_term, v) at h in
          let z : ◌≡◌ {A = ℕ} 0 1 = cc in omega arith)
          (λ v. let a = rw (as_term, v) at h in let z : ◌≡◌ {A = ℕ} 0 1 = cc in omega arith)
      term (bad f j) h = let z : ◌≡◌ {A = ℕ} 0 1 = cc in omega arith
      term (deep j) h = let z : ◌≡◌ {A = ℕ} 0 1 = cc in omega arith

      message : (o : Out Core.Fields) → as_message o ≡ ok (Core.Entry.comment l) ms k → ⊥
      message (ok f ns j) h =
          by_case (f.value || not (eqb f.attributes 0))
          (λ v. let a : ◌≡◌ {A = Out Core.Entry} (ok Core.Entry.message ns j) (ok (Core.Entry.comment l) ms k) =
          rw (as_message, v) at h in
          let z : ◌≡◌ {A = ℕ} 0 1 = cc in omega arith)
          (λ v. let a = rw (as_message, v) at h in let z : ◌≡◌ {A = ℕ} 0 1 = cc in omega arith)
      message (bad f j) h = let z : ◌≡◌ {A = ℕ} 0 1 = cc in omega arith
      message (deep j) h = let z : ◌≡◌ {A = ℕ} 0 1 = cc in omega arith

  -- the first entry, and the parts that it is
  data First (s : List ℕ) : Type 0 where
    junked : (f : ParserError) (k : ℕ) → get_entry (level n) s ≡ bad f k
        → A2 (ps s) ≡ record { item = Abstract.junk; inside = text_node 7 0 (junk_end k s); size = junk_end k s }
        ∷ A2 (ps (drop (junk_end k s) s))
        → First s
    named : (e : Core.Entry) (ms : List Mark) (k : ℕ) → get_entry (level n) s ≡ ok e ms k
        → Abstract.is_named (item_of e) ≡ true
        → A2 (ps s) ≡ record { item = item_of e; inside = ms; size = k } ∷ A2 (ps (drop k s)) → First s
    commented : (l : ℕ) (ms : List Mark) (k K : ℕ) → get_entry (level n) s ≡ ok (Core.Entry.comment (suc l)) ms k
        → A2 (ps s) ≡ comment-part (suc l) ms K ∷ A2 (ps (drop K s)) → Cut s k K → First s

  first_of : (b : ℕ) (bs : List ℕ) → eol (drop (spaces (b ∷ bs)) (b ∷ bs)) ≡ 0
      → ((k : ℕ) → get_entry (level n) (b ∷ bs) ≡ deep k → ⊥) → First (b ∷ bs)
  unfolding starts_with Abstract.level_of Abstract.is_named as_comment get_comment
  first_of b bs q nd =
      by_case (eqb b 35) (λ h. hashed h (comment-went (suc (length (b ∷ bs))) 0 (b ∷ bs) (omega arith) (λ z. h)))
      (λ h. other h (get_entry (level n) (b ∷ bs)) refl (entry-agrees n agree (b ∷ bs) h))
    where
      a-junk : (f : ParserError) (k : ℕ) → get_entry (level n) (b ∷ bs) ≡ bad f k → Entry rust n (b ∷ bs) ≡ fails → First (b ∷ bs)
      a-junk f k e x =
          junked f k e
          (ap A2
          (parts_again n agree (b ∷ bs) _ (junk_end k (b ∷ bs)) (piece-junk n agree (b ∷ bs) f k x q e)
          (junk-moves (level n) b bs e))
          ∙ alone _ (ps (drop (junk_end k (b ∷ bs)) (b ∷ bs))) refl)

      hashed : eqb b 35 ≡ true → Went 0 (b ∷ bs) (repeat comment_turn 0 (b ∷ bs)) → First (b ∷ bs)
      hashed h (stopped i e x) = absurd (i refl)
      hashed h (went l ms k K e z w a cut) = commented l ms k K (entry-comment (level n) b bs h ∙ ap as_comment e) a cut
      hashed h (failed f k z e x) = a-junk f k (entry-comment (level n) b bs h ∙ ap as_comment e) (entry-hash n agree (b ∷ bs) h ∙ x)

      uses-of : {x : Core.Entry} {ms : List Mark} {k : ℕ} → get_entry (level n) (b ∷ bs) ≡ ok x ms k
          → Same item_of (get_entry (level n) (b ∷ bs)) (Entry rust n (b ∷ bs)) → 0 < k
      uses-of {x} {ms} {k} e a = let f : Entry rust n (b ∷ bs) ≡ fits (item_of x) ms k = rw e at a in rw f at (entry-uses n agree (b ∷ bs))

      other : eqb b 35 ≡ false → (o : Out Core.Entry) → get_entry (level n) (b ∷ bs) ≡ o
          → Same item_of (get_entry (level n) (b ∷ bs)) (Entry rust n (b ∷ bs)) → First (b ∷ bs)
      other h (ok (Core.Entry.comment l) ms k) e a = absurd (not-comment (b ∷ bs) h l ms k e)
      other h (ok Core.Entry.message ms k) e a =
          named Core.Entry.message ms k e refl
          (ap A2 (parts_again n agree (b ∷ bs) _ k (piece-entry n agree (b ∷ bs) (rw e at a)) (uses-of e a))
          ∙ alone _ (ps (drop k (b ∷ bs))) refl)
      other h (ok Core.Entry.term ms k) e a =
          named Core.Entry.term ms k e refl
          (ap A2 (parts_again n agree (b ∷ bs) _ k (piece-entry n agree (b ∷ bs) (rw e at a)) (uses-of e a))
          ∙ alone _ (ps (drop k (b ∷ bs))) refl)
      other h (bad f k) e a = a-junk f k e (rw e at a)
      other h (deep k) e a = absurd (nd k e)

  -- whether a message or term comes first
  named-first : (s : List ℕ) → eol (drop (spaces s) s) ≡ 0 → ((k : ℕ) → get_entry (level n) s ≡ deep k → ⊥)
      → named_first (A2 (ps s)) ≡ is_named (get_entry (level n) s)
  unfolding named_first is_named Abstract.is_named A2
  named-first [] q nd = rw (parts-nil n agree) (sym (nil-named (level n)))
  named-first (b ∷ bs) q nd = go (first_of b bs q nd)
    where
      go : First (b ∷ bs) → named_first (A2 (ps (b ∷ bs))) ≡ is_named (get_entry (level n) (b ∷ bs))
      go (junked f k e a) = rw (a, e) refl
      go (named Core.Entry.message ms k e z a) = rw (a, e) refl
      go (named Core.Entry.term ms k e z a) = rw (a, e) refl
      go (named (Core.Entry.comment l) ms k e z a) = clash {v = false} z refl
      go (commented l ms k K e a cut) = rw (a, e) refl

  following-inv : (ms : List Mark) (es : List Error) (k : ℕ) (r : Reading) (ns : List Mark) (fs : List Error)
      → following ms es k r ≡ read ns fs → (ns' : List Mark) × (es' : List Error) × (r ≡ read ns' es')
      × (ms ++ move_up k ns' ≡ ns)
  unfolding following
  following-inv ms es k (read ns' es') ns fs e = (ns', es', refl, cc)
  following-inv ms es k (refused j) ns fs e = let z : ◌≡◌ {A = ℕ} 0 1 = cc in absurd (omega arith)

  -- reading on is not refused, so nothing is too deep
  read-on : (m : ℕ) (s : List ℕ) (ms : List Mark) (es : List Error) → entries m (level n) s ≡ read ms es → (k : ℕ)
      → get_entry (level n) s ≡ deep k → ⊥
  unfolding entries
  read-on zero s ms es e k d = let z : ◌≡◌ {A = ℕ} 0 1 = cc in omega arith
  read-on (suc m) [] ms es e k d = let (f, j, h) = nil-entry (level n) in let z : ◌≡◌ {A = ℕ} 0 1 = cc in omega arith
  read-on (suc m) (b ∷ bs) ms es e k d = not-deep (level n) m b bs ms es k e d

  -- behind an entry of k bytes there are blank lines, then the others
  moved : (s : List ℕ) (k u : ℕ) {ls : List Line} → Block (drop k s) ls u → (ns : List Mark)
      → A3 (A2 (ps (drop (k + u) s))) ≡ ns → move_up k (A3 (A2 (ps (drop k s)))) ≡ move_up (k + u) ns
  moved s k u b ns e =
      ap (move_up k) (blank_skip b ∙ ap (λ r. move_up u (A3 (A2 (ps r)))) (drop-drop u k s) ∙ ap (move_up u) e)
      ∙ move_up-twice k u ns

  entries-junk : (m b : ℕ) (bs : List ℕ) (f : ParserError) (k c u : ℕ) (gs : List Mark)
      → get_entry (level n) (b ∷ bs) ≡ bad f k → skip_blank_block (drop (junk_end k (b ∷ bs)) (b ∷ bs)) ≡ ok c gs u
      → entries (suc m) (level n) (b ∷ bs) ≡ following (text_node 7 0 (junk_end k (b ∷ bs)))
      (record { fault = f; junk_from = 0; junk_till = junk_end k (b ∷ bs) } ∷ []) (junk_end k (b ∷ bs) + u)
      (entries m (level n) (drop (junk_end k (b ∷ bs) + u) (b ∷ bs)))
  unfolding entries used_by
  entries-junk m b bs f k c u gs h g =
      rw (h, entries)
      (ap
      (λ o. following (text_node 7 0 (junk_end k (b ∷ bs)))
      (record { fault = f; junk_from = 0; junk_till = junk_end k (b ∷ bs) } ∷ []) (junk_end k (b ∷ bs) + used_by o)
      (entries m (level n) (drop (junk_end k (b ∷ bs) + used_by o) (b ∷ bs)))) g)

  -- the marks of a comment, by whether it is near
  comment-marks : (l : ℕ) (near near' : Bool) (ns : List Mark) → near' ≡ near
      → part_marks (Abstract.comment l) near' ns ≡ node (kind_of_entry (Core.Entry.comment l) near) ns
  unfolding part_marks kind_of_entry
  comment-marks l near near' ns e = rw e refl

  -- a comment is near what stands on the next line
  near-line : {t : List ℕ} {ls : List Line} {u : ℕ} → Block t ls u → (r : List ℕ) → drop u t ≡ r
      → ((k : ℕ) → get_entry (level n) r ≡ deep k → ⊥)
      → named_first (A2 (ps t)) ≡ (ltb (suc (length ls)) 2 && is_named (get_entry (level n) r))
  unfolding named_first Abstract.is_named Abstract.level_of
  near-line {t} (stop q) r d nd = named-first t q (rw (sym d) at nd) ∙ ap (λ y. is_named (get_entry (level n) y)) d
  near-line {t} (step {ls = ls} {u = u} e q b) r d nd =
      let p : Part = record { item = Abstract.blank; inside = []; size = spaces t + suc e + u } in
      let w : ps t ≡ p
      ∷ ps (drop (spaces t + suc e + u) t) =
      parts_again n agree t p (spaces t + suc e + u) (piece-blank n agree (step e q b)) (omega arith) in
      ap (λ y. named_first (A2 y)) w ∙ ap named_first (alone p (ps (drop (spaces t + suc e + u) t)) refl)
      ∙ rw (le-ltb (suc (suc (length ls))) 2 (omega arith)) refl

  place-stops : (r : List ℕ) → (r ≡ []) ⊎ (starts_with 35 r ≡ true) → eol (drop (spaces r) r) ≡ 0
  unfolding spaces run eol starts_with
  place-stops [] h = refl
  place-stops (x ∷ xs) (inl e) = let z : ◌≡◌ {A = ℕ} 0 1 = cc in absurd (omega arith)
  place-stops (x ∷ xs) (inr e) = rw (eqb-true x 35 e) refl

  claim : (m : ℕ) (s : List ℕ) (ms : List Mark) (es : List Error) → entries m (level n) s ≡ read ms es
      → eol (drop (spaces s) s) ≡ 0 → A3 (A2 (ps s)) ≡ ms
  unfolding entries A3 A2 part_marks kind_of_entry used_by
  claim zero s ms es e q = let z : ◌≡◌ {A = ℕ} 0 1 = cc in absurd (omega arith)
  claim (suc m) [] ms es e q = rw (parts-nil n agree) cc
  claim (suc m) (b ∷ bs) ms es e q = go (first_of b bs q (read-on (suc m) (b ∷ bs) ms es e)) (λ t ns fs f h. claim m t ns fs f h)
    where
      Others : Type 0
      Others = (t : List ℕ) (ns : List Mark) (fs : List Error) → entries m (level n) t ≡ read ns fs
          → eol (drop (spaces t) t) ≡ 0 → A3 (A2 (ps t)) ≡ ns

      stops : (k u : ℕ) {ls : List Line} → Block (drop k (b ∷ bs)) ls u
          → eol (drop (spaces (drop (k + u) (b ∷ bs))) (drop (k + u) (b ∷ bs))) ≡ 0
      stops k u d = subst (λ r. eol (drop (spaces r) r) ≡ 0) (drop-drop u k (b ∷ bs)) (block-stops d)

      -- an entry that no comment of its own level follows
      entered : (en : Core.Entry) (ns : List Mark) (k K : ℕ) (i : Item) → get_entry (level n) (b ∷ bs) ≡ ok en ns k
          → A2 (ps (b ∷ bs)) ≡ record { item = i; inside = ns; size = K } ∷ A2 (ps (drop K (b ∷ bs)))
          → (u : ℕ) {ls vs : List Line} → Block (drop k (b ∷ bs)) ls u → (v : ℕ) → Block (drop K (b ∷ bs)) vs v
          → K + v ≡ k + u → Others
          → ((ns' : List Mark) (fs : List Error) → entries m (level n) (drop (k + u) (b ∷ bs)) ≡ read ns' fs
          → part_marks i (named_first (A2 (ps (drop K (b ∷ bs))))) ns ≡ node
          (kind_of_entry en (ltb (length ls) 2 && is_named (get_entry (level n) (drop (k + u) (b ∷ bs))))) ns)
          → A3 (A2 (ps (b ∷ bs))) ≡ ms
      entered en ns k K i h a u {ls} d v c z ih near =
          let (ns', fs, r, w) =
          following-inv _ [] (k + u) (entries m (level n) (drop (k + u) (b ∷ bs))) ms es
          (sym
          (entries_with (level n) m b bs en ns k (length ls) u [] (drop (k + u) (b ∷ bs)) h (skip_block d) refl)
          ∙ e) in
          let x : A3 (A2 (ps (drop (K + v) (b ∷ bs)))) ≡ ns' = rw z (ih (drop (k + u) (b ∷ bs)) ns' fs r (stops k u d)) in
          ap A3 a ∙ ap₂ (λ y t. y ++ t) (near ns' fs r) (moved (b ∷ bs) K v c ns' x ∙ ap (λ y. move_up y ns') z) ∙ w

      go : First (b ∷ bs) → Others → A3 (A2 (ps (b ∷ bs))) ≡ ms
      go (junked f k h a) ih =
          let j = junk_end k (b ∷ bs) in
          let (ls, u, d) = block_of (drop j (b ∷ bs)) in
          let (ns', fs, r, w) =
          following-inv _ _ (j + u) (entries m (level n) (drop (j + u) (b ∷ bs))) ms es
          (sym (entries-junk m b bs f k (length ls) u [] h (skip_block d)) ∙ e) in
          ap A3 a ∙ ap (λ t. text_node 7 0 j ++ t) (moved (b ∷ bs) j u d ns' (ih (drop (j + u) (b ∷ bs)) ns' fs r (stops j u d))) ∙ w
      go (named Core.Entry.message ns k h z a) ih = let (ls, u, d) = block_of (drop k (b ∷ bs)) in
          entered Core.Entry.message ns k k Abstract.message h a u d u d refl ih (λ ns' fs r. refl)
      go (named Core.Entry.term ns k h z a) ih = let (ls, u, d) = block_of (drop k (b ∷ bs)) in
          entered Core.Entry.term ns k k Abstract.term h a u d u d refl ih (λ ns' fs r. refl)
      go (named (Core.Entry.comment l) ns k h z a) ih = unfold Abstract.is_named in (clash {v = false} z refl)
      go (commented l ns k K h a (inl (y, place))) ih =
          let w : eol (drop (spaces (drop K (b ∷ bs))) (drop K (b ∷ bs))) ≡ 0 = rw y (place-stops (drop k (b ∷ bs)) place) in
          entered (Core.Entry.comment (suc l)) ns k K (Abstract.comment (suc l)) h a 0
          (stop (place-stops (drop k (b ∷ bs)) place)) 0 (stop w) (ap (λ i. i + 0) y) ih
          (λ ns' fs r. let i : K ≡ k + 0 = y ∙ sym (add-zero k) in
          comment-marks (suc l) _ _ ns
          (named-first (drop K (b ∷ bs)) w (rw i (read-on m (drop (k + 0) (b ∷ bs)) ns' fs r))
          ∙ ap (λ j. is_named (get_entry (level n) (drop j (b ∷ bs)))) i))
      go (commented l ns k K h a (inr (y, x))) ih =
          let t = x.0 in
          let (ls, u, bt) = block_of t in
          let T : drop K (b ∷ bs) ≡ x.0 = ap (λ i. drop i (b ∷ bs)) y ∙ sym (drop-drop 1 k (b ∷ bs)) ∙ ap (drop 1) x.1 in
          let c : Block (drop K (b ∷ bs)) ls u = subst (λ r. Block r ls u) (sym T) bt in
          let z : K + u ≡ k + (1 + u) = omega arith in
          entered (Core.Entry.comment (suc l)) ns k K (Abstract.comment (suc l)) h a (1 + u)
          (subst (λ r. Block r (record { spaces = 0; ending = 1 } ∷ ls) (1 + u)) (sym x.1)
          (lf-block t bt)) u c z ih
          (λ ns' fs r. comment-marks (suc l) _ _ ns
          (near-line c (drop (k + (1 + u)) (b ∷ bs)) (drop-drop u K (b ∷ bs) ∙ ap (λ i. drop i (b ∷ bs)) z)
          (read-on m (drop (k + (1 + u)) (b ∷ bs)) ns' fs r)))

  -- The production Entry fits where the reading reads an entry, and nowhere else
  pub unread-fails : (b : ℕ) (bs : List ℕ) (f : ParserError) (k : ℕ) → get_entry (level n) (b ∷ bs) ≡ bad f k → Entry rust n (b ∷ bs) ≡ fails
  unfolding starts_with as_comment get_comment
  unread-fails b bs f k e =
      by_case (eqb b 35) (λ h. hashed h (comment-went (suc (length (b ∷ bs))) 0 (b ∷ bs) (omega arith) (λ z. h)))
      (λ h. rw e at (entry-agrees n agree (b ∷ bs) h))
    where
      hashed : eqb b 35 ≡ true → Went 0 (b ∷ bs) (repeat comment_turn 0 (b ∷ bs)) → Entry rust n (b ∷ bs) ≡ fails
      hashed h (stopped i y x) = absurd (i refl)
      hashed h (went l ms j K y w v a cut) = let c = entry-comment (level n) b bs h ∙ ap as_comment y in
          let z : ◌≡◌ {A = ℕ} 0 1 = cc in absurd (omega arith)
      hashed h (failed g j z y x) = entry-hash n agree (b ∷ bs) h ∙ x

  pub read_fits : (b : ℕ) (bs : List ℕ) (en : Core.Entry) (ms : List Mark) (k : ℕ)
      → get_entry (level n) (b ∷ bs) ≡ ok en ms k → Fitting (Entry rust n (b ∷ bs))
  unfolding starts_with as_comment get_comment
  read_fits b bs en ms k e =
      by_case (eqb b 35) (λ h. hashed h (turned-of 0 (b ∷ bs)))
      (λ h. let a : Entry rust n (b ∷ bs) ≡ fits (item_of en) ms k = rw e at (entry-agrees n agree (b ∷ bs) h) in
      rw a tt)
    where
      hashed : eqb b 35 ≡ true → Turned 0 (b ∷ bs) → Fitting (Entry rust n (b ∷ bs))
      hashed h (away x y f) = clash h (x refl)
      hashed h (broken f j x y c) = let a = entry-comment (level n) b bs h
          ∙ ap as_comment (repeat-done comment_turn 0 (b ∷ bs) (bad f j) y) in
          let z : ◌≡◌ {A = ℕ} 0 1 = cc in absurd (omega arith)
      hashed h (ends l y f d x) = rw (entry-hash n agree (b ∷ bs) h ∙ f) tt
      hashed h (line l ns j y f g z x) = rw (entry-hash n agree (b ∷ bs) h ∙ f) tt

  -- for every source that is read, the tree of the standard with all departures is the tree of the reading
  pub tree-is-standard : (s : List ℕ) (ms : List Mark) (es : List Error) → parse n s ≡ read ms es → ResourceWithin rust n s ≡ ms
  unfolding parse used_by
  tree-is-standard s ms es e =
      let (ls, u, b) = block_of s in
      let (ns, fs, r, z) = following-inv [] [] u (entries (suc (length s)) (level n) (drop u s)) ms es (rw (skip_block b) at e) in
      tree-parts n agree s ∙ blank_skip b ∙ ap (move_up u) (claim (suc (length s)) (drop u s) ns fs r (block-stops b)) ∙ z
