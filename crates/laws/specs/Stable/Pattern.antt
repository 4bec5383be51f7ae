-- pattern.rs at a cut.
use Prim.Native.Nat.{ℕ, zero, suc, ◌+◌, ◌-◌, ◌≤◌, ◌<◌}
use Rattle.std.proofs.Common.{not-suc-le-zero, ◌∙◌, length-take, leb-true, leb-false}
use native.Mathlib.Omega.{arith}
use Rattle.std.specs.Prelude.{◌≡◌, Bool, length, take, eqb, ltb, leb}
use Rattle.std.proofs.Math.Path.{refl, sym, ap, subst}
use Rattle.std.proofs.Math.Bool.{true, false}
use mathlib.Core.List.{List, [], ◌∷◌, ◌++◌, append-nil}
use Rattle.std.proofs.Math.Option.{Option}
use Rattle.std.proofs.Math.ListN.{drop, length-drop}
use Rattle.std.proofs.lemmas.List.{take-append-le}
use Rattle.syntax.specs.Bytes.{is_letter, spaces, eol, run}
use Rattle.syntax.specs.Marks.{Mark, node, text_node}
use Rattle.syntax.specs.Reader.{Out, ok, bad, deep, Turn, again, done, after, repeat, next}
use Rattle.syntax.specs.Helper.{skip_blank_block}
use Rattle.syntax.specs.Pattern.{Inside, initial_line_start, line_start, Slice, is_text_byte, ends_in_cr, line_slice, slice_by}
use Rattle.syntax.specs.Pattern.{get_text_slice, Element, placeable, text, State, is_line_start, role_after, with_placeable}
use Rattle.syntax.specs.Pattern.{with_text, goes_on, line_turn, text_turn, pattern_turn, trimmed, dedented, text_marks}
use Rattle.syntax.specs.Pattern.{element_marks, finish, state_at, used_by, first_state, get_pattern}
use Rattle.laws.specs.Bytes.{Whole, whole_drop, Fresh, Stop, stop-fresh, by_case, clash, drop_app, run-whole}
use Rattle.laws.specs.Bytes.{eol-whole, spaces-whole, fresh-spaces, not-fresh, pick, pick₂}
use Rattle.laws.specs.Answers.{Holds, Sure}
use Rattle.laws.specs.Bounds.Pattern.{InsideBounds, Els, els-more, Grown, pattern-grown}
use Rattle.laws.specs.Stable.{Mode, loose, any, Upto, upto_le, upto-down, upto_rest, Within, Carries, Closes}
use Rattle.laws.specs.Stable.{weaker, next-ok, after-within, TurnWithin, TurnCarries, Turns, repeat-stops}
use Rattle.laws.specs.Stable.{repeat-keeps, Short, Strict, Inner}
use Rattle.laws.specs.Stable.Helper.{Soft, soft-fresh, past-spaces, block_reads, block-sure}

-- the readers of what stands inside
pub record InsideLaw (sub : Inside) : Type 0 where
  pub braced : Closes sub.braced
  pub braced_strict : Strict sub.braced
  pub parenthesised : Closes sub.parenthesised
  pub depth : ℕ
  pub bounds : InsideBounds depth sub

-- a text that is not at a line's start has a byte before it
abbrev pub Ready : State → List ℕ → Type 0
Ready st x = is_line_start st.role ≡ false → 0 < length x

abbrev ReadyAfter : List ℕ → State → ℕ → Type 0
ReadyAfter x st k = Ready st (drop k x)

is_text_byte-end : is_text_byte 10 ≡ false
unfolding is_text_byte
is_text_byte-end = refl

-- what ends a text in a line
pub past-text : (b : ℕ) (bs : List ℕ) → Whole (b ∷ bs) → (d : ℕ) × (ds : List ℕ) × (drop (run is_text_byte (b ∷ bs)) (b ∷ bs) ≡ d ∷ ds)
past-text b bs w = go (drop (run is_text_byte (b ∷ bs)) (b ∷ bs)) refl
  where
    go : (r : List ℕ) → drop (run is_text_byte (b ∷ bs)) (b ∷ bs) ≡ r → (d : ℕ) × (ds : List ℕ)
        × (drop (run is_text_byte (b ∷ bs)) (b ∷ bs) ≡ d ∷ ds)
    go [] e =
        absurd
        (omega (
          arith,
          ap length e,
          length-drop (run is_text_byte (b ∷ bs)) (b ∷ bs),
          (run-whole is_text_byte is_text_byte-end b bs [] w).1,
        ))
    go (d ∷ ds) e = (d, ds, e)

slice_at : (s t r : List ℕ) (n : ℕ) → run is_text_byte s ≡ n → take n s ≡ t → drop n s ≡ r → get_text_slice s ≡ slice_by t r
unfolding get_text_slice
slice_at s t r n e f g = ap (λ k. slice_by (take k s) (drop k s)) e ∙ ap (λ z. slice_by z (drop n s)) f ∙ ap (slice_by t) g

slice_by-cons : (t : List ℕ) (d : ℕ) (ds es : List ℕ) → slice_by t (d ∷ ds) ≡ slice_by t (d ∷ es)
unfolding slice_by
slice_by-cons t d ds es = refl

slice-same : (b : ℕ) (bs y : List ℕ) → Whole (b ∷ bs) → get_text_slice ((b ∷ bs) ++ y) ≡ get_text_slice (b ∷ bs)
slice-same b bs y w =
    let n = run is_text_byte (b ∷ bs) in
    let (d, ds, e) = past-text b bs w in
    let le : n ≤ length (b ∷ bs) = omega (arith, (run-whole is_text_byte is_text_byte-end b bs y w).1) in
    slice_at ((b ∷ bs) ++ y) (take n (b ∷ bs)) (d ∷ (ds ++ y)) n (run-whole is_text_byte is_text_byte-end b bs y w).0
    (take-append-le n (b ∷ bs) y le) (drop_app n (b ∷ bs) y le ∙ ap (λ r. r ++ y) e)
    ∙ slice_by-cons (take n (b ∷ bs)) d (ds ++ y) ds ∙ sym (slice_at (b ∷ bs) (take n (b ∷ bs)) (d ∷ ds) n refl refl e)

-- a text ends with its line, or leaves some of it
abbrev Sliced : ℕ → Out Slice → Type 0
Sliced n o = Holds (λ t ms k. (k ≤ n) × (is_line_start (role_after t.ending) ≡ false → k < n)) o

line_slice-fits : (t : List ℕ) (n : ℕ) → length t < n → Sliced n (line_slice t)
unfolding line_slice is_line_start role_after
line_slice-fits t n h =
    by_case (ends_in_cr t) (λ q. rw (q, line_slice) (omega arith, λ e. clash refl e))
    (λ q. rw (q, line_slice) (omega arith, λ e. clash refl e))

slice_by-fits : (t : List ℕ) (d : ℕ) (ds : List ℕ) (n : ℕ) → length t < n → Sliced n (slice_by t (d ∷ ds))
unfolding slice_by
slice_by-fits t d ds n h =
    by_case (eqb d 125) (λ q. rw (q, slice_by) tt)
    (λ q. rw (q, slice_by) (by_case (eqb d 123) (λ r. rw r (omega arith, λ e. h)) (λ r. rw r (line_slice-fits t n h))))

slice_fits : (b : ℕ) (bs : List ℕ) → Whole (b ∷ bs) → Sliced (suc (length bs)) (get_text_slice (b ∷ bs))
slice_fits b bs w =
    let n = run is_text_byte (b ∷ bs) in
    let (d, ds, e) = past-text b bs w in
    rw (slice_at (b ∷ bs) (take n (b ∷ bs)) (d ∷ ds) n refl refl e)
    (slice_by-fits (take n (b ∷ bs)) d ds (suc (length bs))
    (omega (arith, length-take n (b ∷ bs), (run-whole is_text_byte is_text_byte-end b bs [] w).1)))

with_text-fits : (st : State) (indent n : ℕ) (x : List ℕ) (o : Out Slice) → Sliced n o → n + indent ≡ length x
    → TurnWithin (ReadyAfter x) (length x) (with_text st indent o)
unfolding with_text after
with_text-fits st indent n x (ok t ms k) h e = (omega (arith, h.0), λ q. rw length-drop (omega (arith, h.1 q)))
with_text-fits st indent n x (bad f k) h e = tt
with_text-fits st indent n x (deep k) h e = tt

line_turn-at : (st : State) (k : ℕ) (r s : List ℕ) → is_line_start st.role ≡ true → spaces s ≡ k → drop k s ≡ r
    → text_turn st s ≡ line_turn st k r
unfolding text_turn
line_turn-at st k r s l e d = rw (l, text_turn) (ap (λ j. line_turn st j (drop j s)) e ∙ ap (line_turn st k) d)

line_turn-same : (st : State) (k c : ℕ) (cs y : List ℕ) → Whole (c ∷ cs) → line_turn st k ((c ∷ cs) ++ y) ≡ line_turn st k (c ∷ cs)
unfolding line_turn
line_turn-same st k c cs y w = ap (λ o. elim (goes_on k c) [ true ↦ with_text st k o | false ↦ done (ok st [] 0) ]) (slice-same c cs y w)

line_turn-fits : (st : State) (k c : ℕ) (cs x : List ℕ) → Whole (c ∷ cs) → is_line_start st.role ≡ true → suc (length cs) + k ≡ length x
    → TurnWithin (ReadyAfter x) (length x) (line_turn st k (c ∷ cs))
unfolding line_turn
line_turn-fits st k c cs x w l e = pick (TurnWithin (ReadyAfter x) (length x)) (goes_on k c) _ _
    (λ q. with_text-fits st k (suc (length cs)) x (get_text_slice (c ∷ cs)) (slice_fits c cs w) e) (λ q. omega arith)

text_turn-same : (st : State) (b : ℕ) (bs y : List ℕ) → Whole (b ∷ bs) → text_turn st ((b ∷ bs) ++ y) ≡ text_turn st (b ∷ bs)
unfolding text_turn
text_turn-same st b bs y w =
    let (c, cs, e, v, l) = past-spaces b bs w in
    by_case (is_line_start st.role)
    (λ q. line_turn-at st (spaces (b ∷ bs)) ((c ∷ cs) ++ y) ((b ∷ bs) ++ y) q (spaces-whole b bs y w).0
    (drop_app (spaces (b ∷ bs)) (b ∷ bs) y (omega (arith, (spaces-whole b bs [] w).1)) ∙ ap (λ r. r ++ y) e)
    ∙ line_turn-same st (spaces (b ∷ bs)) c cs y v ∙ sym (line_turn-at st (spaces (b ∷ bs)) (c ∷ cs) (b ∷ bs) q refl e))
    (λ q. rw (q, text_turn) (ap (with_text st 0) (slice-same b bs y w)))

text_turn-fits : (st : State) (b : ℕ) (bs : List ℕ) → Whole (b ∷ bs)
    → TurnWithin (ReadyAfter (b ∷ bs)) (suc (length bs)) (text_turn st (b ∷ bs))
unfolding text_turn
text_turn-fits st b bs w =
    let (c, cs, e, v, l) = past-spaces b bs w in
    by_case (is_line_start st.role)
    (λ q. rw (line_turn-at st (spaces (b ∷ bs)) (c ∷ cs) (b ∷ bs) q refl e) (line_turn-fits st (spaces (b ∷ bs)) c cs (b ∷ bs) v q l))
    (λ q. rw (q, text_turn) (with_text-fits st 0 (suc (length bs)) (b ∷ bs) (get_text_slice (b ∷ bs)) (slice_fits b bs w) (omega arith)))

-- what is fresh does not go on with a pattern
pub pattern_turn-calm : (sub : Inside) (st : State) (y : List ℕ) → is_line_start st.role ≡ true → Fresh y
    → pattern_turn sub st y ≡ done (ok st [] 0)
unfolding pattern_turn is_letter goes_on line_turn
pattern_turn-calm sub st [] l f = refl
pattern_turn-calm sub st (c ∷ cs) l f =
    by_case (eqb c 123) (λ q. clash f (not-fresh c 123 refl q))
    (λ q. by_case (eqb c 13) (λ r. clash f (not-fresh c 13 refl r))
    (λ r. by_case (eqb c 10) (λ t. clash f (not-fresh c 10 refl t))
    (λ t. rw (q, pattern_turn) (line_turn-at st 0 (c ∷ cs) (c ∷ cs) l (fresh-spaces (c ∷ cs) f) refl ∙ rw (r, line_turn, goes_on) (rw t)))))

pub not-ready : (st : State) → Ready st [] → is_line_start st.role ≡ true
not-ready st r = by_case (is_line_start st.role) (λ q. q) (λ q. absurd (not-suc-le-zero (r q)))

module _ (m : Mode) (soft : Soft m) (sub : Inside) (law : InsideLaw sub) where
  with_placeable-within : (st : State) (x : List ℕ) (o : Out (Unit {0})) → Short (length x) o
      → TurnWithin (ReadyAfter x) (length x) (with_placeable st o)
  unfolding with_placeable
  with_placeable-within st x (ok a ms k) h = (omega arith, λ q. rw length-drop (omega arith))
  with_placeable-within st x (bad f k) h = tt
  with_placeable-within st x (deep k) h = tt

  with_placeable-carries : (st : State) (x y : List ℕ) (o o' : Out (Unit {0})) → Short (length x) o → Carries (Upto any y (length x)) o o'
      → TurnCarries (ReadyAfter x) (Upto m y (length x)) (with_placeable st o) (with_placeable st o')
  unfolding with_placeable
  with_placeable-carries st x y (ok a ms k) o' h c =
      λ u. (ap (with_placeable st) (c (upto_le m y (length x) k u)), λ q. rw length-drop (omega arith))
  with_placeable-carries st x y (bad f k) o' h c = tt
  with_placeable-carries st x y (deep k) o' h c = tt

  same_turn : (x : List ℕ) (N : ℕ → Type 0) (w w' : Turn State State) → w' ≡ w → TurnWithin (ReadyAfter x) (length x) w
      → TurnCarries (ReadyAfter x) N w w'
  same_turn x N (again st ms k) w' e h = λ u. (e, h.1)
  same_turn x N (done (ok a ms k)) w' e h = λ u. e
  same_turn x N (done (bad f k)) w' e h = tt
  same_turn x N (done (deep k)) w' e h = tt

  pattern-stops : (st : State) (x y : List ℕ) → Whole x → Ready st x → Stop y
      → TurnWithin (ReadyAfter x) (length x) (pattern_turn sub st (x ++ y))
  unfolding pattern_turn
  pattern-stops st [] y w r s = rw (pattern_turn-calm sub st y (not-ready st r) (stop-fresh y s)) (omega arith)
  pattern-stops st (b ∷ bs) y w r s = pick (TurnWithin (ReadyAfter (b ∷ bs)) (suc (length bs))) (eqb b 123) _ _
      (λ q. with_placeable-within st (b ∷ bs) (sub.braced ((b ∷ bs) ++ y)) (law.braced_strict.short (b ∷ bs) y w s))
      (λ q. subst (TurnWithin (ReadyAfter (b ∷ bs)) (suc (length bs))) (sym (text_turn-same st b bs y w)) (text_turn-fits st b bs w))

  pattern-keeps : (st : State) (x y : List ℕ) → Whole x → Ready st x
      → TurnCarries (ReadyAfter x) (Upto m y (length x)) (pattern_turn sub st x) (pattern_turn sub st (x ++ y))
  unfolding pattern_turn
  pattern-keeps st [] y w r = λ u. pattern_turn-calm sub st y (not-ready st r) (soft-fresh m soft y 0 u)
  pattern-keeps st (b ∷ bs) y w r = pick₂ (TurnCarries (ReadyAfter (b ∷ bs)) (Upto m y (suc (length bs)))) (eqb b 123) _ _ _ _
      (λ q. with_placeable-carries st (b ∷ bs) y (sub.braced (b ∷ bs)) (sub.braced ((b ∷ bs) ++ y))
      (subst (λ z. Short (suc (length bs)) (sub.braced z)) (append-nil (b ∷ bs))
      (law.braced_strict.short (b ∷ bs) [] w tt))
      (law.braced.reads.keeps (b ∷ bs) y w))
      (λ q. same_turn (b ∷ bs) (Upto m y (suc (length bs))) (text_turn st (b ∷ bs)) (text_turn st ((b ∷ bs) ++ y))
      (text_turn-same st b bs y w) (text_turn-fits st b bs w))

  pub pattern-turns : Turns m Ready (pattern_turn sub)
  pattern-turns = record { stops = pattern-stops; keeps = pattern-keeps }

-- a part of x is a part of x and y
pub span_same : (x y : List ℕ) (a e : ℕ) → e ≤ length x → take (e - a) (drop a (x ++ y)) ≡ take (e - a) (drop a x)
span_same x y a e h =
    by_case (leb a (length x))
    (λ q. rw (drop_app a x y (leb-true a (length x) q))
    (take-append-le (e - a) (drop a x) y (rw length-drop (omega (arith, leb-true a (length x) q)))))
    (λ q. let z : e - a ≡ 0 = omega (arith, leb-false a (length x) q) in rw z refl)

text_marks-same : (x y : List ℕ) (v : Bool) (a e : ℕ) → e ≤ length x → text_marks (x ++ y) v a e ≡ text_marks x v a e
unfolding text_marks
text_marks-same x y true a e h = ap (λ t. text_node 12 a (a + trimmed t)) (span_same x y a e h)
text_marks-same x y false a e h = refl

element_marks-same : (x y : List ℕ) (c : Option ℕ) (n : ℕ) (es : List Element) → Els (length x) es
    → element_marks (x ++ y) c n es ≡ element_marks x c n es
unfolding element_marks
element_marks-same x y c zero es p = refl
element_marks-same x y c (suc n) [] p = refl
element_marks-same x y c (suc n) (placeable ms ∷ es) p = ap (λ r. node 13 ms ++ r) (element_marks-same x y c n es p)
element_marks-same x y c (suc n) (text a e i l ∷ es) p =
    ap (λ r. r ++ element_marks (x ++ y) c n es) (text_marks-same x y (eqb n 0) (dedented c a i l) e p.0)
    ∙ ap (λ r. text_marks x (eqb n 0) (dedented c a i l) e ++ r) (element_marks-same x y c n es p.1)

-- where a pattern starts
abbrev first_of : ℕ → ℕ → ℕ → State
first_of k e u = elim (ltb 0 e) [ true ↦ state_at (k + e + u) line_start | false ↦ state_at k initial_line_start ]

first-at : (s r : List ℕ) (k e : ℕ) → spaces s ≡ k → eol (drop k s) ≡ e → drop (k + e) s ≡ r
    → first_state s ≡ first_of k e (used_by (skip_blank_block r))
unfolding first_state
first-at s r k e p q d =
    ap (λ j. first_of j (eol (drop j s)) (used_by (skip_blank_block (drop (j + eol (drop j s)) s)))) p
    ∙ ap (λ i. first_of k i (used_by (skip_blank_block (drop (k + i) s)))) q
    ∙ ap (λ z. first_of k e (used_by (skip_blank_block z))) d

used-within : (n : ℕ) (o : Out ℕ) → Sure o → Within n o → used_by o ≤ n
unfolding used_by
used-within n (ok a ms k) s h = h
used-within n (bad f k) s h = absurd s
used-within n (deep k) s h = absurd s

used-same : (N : ℕ → Type 0) (o o' : Out ℕ) → Sure o → Carries N o o' → N (used_by o) → o' ≡ o
unfolding used_by
used-same N (ok a ms k) o' s c u = c u
used-same N (bad f k) o' s c u = absurd s
used-same N (deep k) o' s c u = absurd s

pub block_within : (x y : List ℕ) → Whole x → Stop y → used_by (skip_blank_block (x ++ y)) ≤ length x
block_within x y w s = used-within (length x) (skip_blank_block (x ++ y)) (block-sure (x ++ y)) ((block_reads loose tt).stops x y w s)

pub block_same : (m : Mode) → Soft m → (x y : List ℕ) → Whole x → Upto m y (length x) (used_by (skip_blank_block x))
    → skip_blank_block (x ++ y) ≡ skip_blank_block x
block_same m soft x y w u =
    used-same (Upto m y (length x)) (skip_blank_block x) (skip_blank_block (x ++ y)) (block-sure x)
    ((block_reads m soft).keeps x y w) u

-- the line end after the spaces of a line
record Start (b : ℕ) (bs : List ℕ) : Type 0 where
  le : spaces (b ∷ bs) + eol (drop (spaces (b ∷ bs)) (b ∷ bs)) ≤ suc (length bs)
  short : spaces (b ∷ bs) < suc (length bs)
  there : (y : List ℕ) → eol (drop (spaces (b ∷ bs)) ((b ∷ bs) ++ y)) ≡ eol (drop (spaces (b ∷ bs)) (b ∷ bs))

start_of : (b : ℕ) (bs : List ℕ) → Whole (b ∷ bs) → Start b bs
start_of b bs w =
    let (c, cs, e, v, l) = past-spaces b bs w in
    record {
      le = rw e (omega (arith, (eol-whole c cs [] v).1));
      short = (spaces-whole b bs [] w).1;
      there =
          λ y. ap eol
          (drop_app (spaces (b ∷ bs)) (b ∷ bs) y (omega (arith, (spaces-whole b bs [] w).1)) ∙ ap (λ r. r ++ y) e)
          ∙ (eol-whole c cs y v).0 ∙ ap eol (sym e);
    }

module _ (b : ℕ) (bs : List ℕ) (w : Whole (b ∷ bs)) where
  sp : ℕ
  sp = spaces (b ∷ bs)

  en : ℕ
  en = eol (drop (spaces (b ∷ bs)) (b ∷ bs))

  first-cut : (y : List ℕ) → first_state ((b ∷ bs) ++ y) ≡ first_of sp en (used_by (skip_blank_block (drop (sp + en) (b ∷ bs) ++ y)))
  unfolding sp en
  first-cut y =
      first-at ((b ∷ bs) ++ y) (drop (sp + en) (b ∷ bs) ++ y) sp en (spaces-whole b bs y w).0
      ((start_of b bs w).there y) (drop_app (sp + en) (b ∷ bs) y (start_of b bs w).le)

  first-whole : first_state (b ∷ bs) ≡ first_of sp en (used_by (skip_blank_block (drop (sp + en) (b ∷ bs))))
  unfolding sp en
  first-whole = first-at (b ∷ bs) (drop (sp + en) (b ∷ bs)) sp en refl refl refl

  ready_of : (k e u n : ℕ) → k < n → k + e + u ≤ n → n ≡ suc (length bs)
      → ((first_of k e u).used ≤ suc (length bs)) × Ready (first_of k e u) (drop (first_of k e u).used (b ∷ bs))
  unfolding state_at is_line_start
  ready_of k e u n h l q =
      by_case (ltb 0 e) (λ r. rw (r, first_of) (omega arith, λ z. clash refl z))
      (λ r. rw (r, first_of) (omega arith, λ z. rw length-drop (omega arith)))

  pub first-ready : (y : List ℕ) → Stop y
      → ((first_state ((b ∷ bs) ++ y)).used ≤ suc (length bs))
      × Ready (first_state ((b ∷ bs) ++ y)) (drop (first_state ((b ∷ bs) ++ y)).used (b ∷ bs))
  unfolding sp en
  first-ready y s = rw (first-cut y)
      (ready_of sp en (used_by (skip_blank_block (drop (sp + en) (b ∷ bs) ++ y))) (suc (length bs)) (start_of b bs w).short
      (omega (
        arith,
        block_within (drop (sp + en) (b ∷ bs)) y (whole_drop (sp + en) (b ∷ bs) w) s,
        length-drop (sp + en) (b ∷ bs),
        (start_of b bs w).le,
      )) refl)

  pub first-same : (m : Mode) → Soft m → (y : List ℕ) → Upto m y (suc (length bs)) (first_state (b ∷ bs)).used
      → first_state ((b ∷ bs) ++ y) ≡ first_state (b ∷ bs)
  unfolding state_at
  first-same m soft y u = first-cut y ∙ by ∙ sym first-whole
    where
      r : List ℕ
      r = drop (sp + en) (b ∷ bs)

      by : first_of sp en (used_by (skip_blank_block (r ++ y))) ≡ first_of sp en (used_by (skip_blank_block r))
      by = by_case (ltb 0 en)
          (λ q. let v : Upto m y (suc (length bs)) (first_of sp en (used_by (skip_blank_block r))).used =
          subst (λ z. Upto m y (suc (length bs)) z.used) first-whole u in
          let t : Upto m y (suc (length bs)) (sp + en + used_by (skip_blank_block r)) = rw (q, first_of) at v in
          ap (λ o. first_of sp en (used_by o))
          (block_same m soft r y (whole_drop (sp + en) (b ∷ bs) w)
          (upto_rest m y (b ∷ bs) (sp + en) (used_by (skip_blank_block r)) t)))
          (λ q. rw (q, first_of) refl)

module _ (m : Mode) (soft : Soft m) (sub : Inside) (law : InsideLaw sub) where
  finish-within : (s : List ℕ) (n : ℕ) (o : Out State) → Within n o → Within n (finish s o)
  unfolding finish
  finish-within s n (ok st ms k) h = pick (Within n) (eqb st.kept 0) _ _ (λ q. h) (λ q. h)
  finish-within s n (bad f k) h = tt
  finish-within s n (deep k) h = tt

  finish-same : (x y : List ℕ) (st : State) (ms : List Mark) (k : ℕ) → Els st.used st.elements → st.used ≤ length x
      → finish (x ++ y) (ok st ms k) ≡ finish x (ok st ms k)
  unfolding finish
  finish-same x y st ms k p h = ap (λ ns. elim (eqb st.kept 0) [ true ↦ ok false [] k | false ↦ ok true (node 11 ns) k ])
      (element_marks-same x y st.common st.kept st.elements (els-more st.used (length x) h st.elements p))

  finish-carries : (x y : List ℕ) (o o' : Out State) → Carries (Upto m y (length x)) o o' → Holds (λ st ms k. Grown st × (st.used ≤ k)) o
      → Carries (Upto m y (length x)) (finish x o) (finish (x ++ y) o')
  unfolding finish
  finish-carries x y (ok st ms k) o' c h =
      pick_ok (eqb st.kept 0) (node 11 (element_marks x st.common st.kept st.elements))
      (λ u. ap (finish (x ++ y)) (c u) ∙ finish-same x y st ms k h.0.els (omega (arith, h.1, upto_le m y (length x) k u)))
    where
      pick_ok : (v : Bool) (ns : List Mark)
          → (Upto m y (length x) k → finish (x ++ y) o' ≡ (elim v [ true ↦ ok false [] k | false ↦ ok true ns k ]))
          → Carries {A = Bool} (Upto m y (length x)) (elim v [ true ↦ ok false [] k | false ↦ ok true ns k ]) (finish (x ++ y) o')
      pick_ok true ns f = f
      pick_ok false ns f = f
  finish-carries x y (bad f k) o' c h = tt
  finish-carries x y (deep k) o' c h = tt

  pub get_pattern-inner : Inner m (get_pattern sub)
  unfolding get_pattern next
  get_pattern-inner = record {
    stops = λ b bs y w s.
        let f = first-ready b bs w y s in
        let st = first_state ((b ∷ bs) ++ y) in
        finish-within ((b ∷ bs) ++ y) (suc (length bs))
        (after [] st.used (repeat (pattern_turn sub) st (drop st.used ((b ∷ bs) ++ y))))
        (rw (drop_app st.used (b ∷ bs) y f.0)
        (after-within (suc (length bs)) st.used [] (repeat (pattern_turn sub) st (drop st.used (b ∷ bs) ++ y)) f.0
        (rw length-drop at (repeat-stops (pattern_turn sub) (pattern-turns m soft sub law) st
        (drop st.used (b ∷ bs)) y (whole_drop st.used (b ∷ bs) w) f.1 s))));
    keeps = λ b bs y w.
        let st = first_state (b ∷ bs) in
        let k = st.used in
        let t = pattern_turn sub in
        let f =
        subst
        (λ z. ((first_state z).used ≤ suc (length bs)) × Ready (first_state z) (drop (first_state z).used (b ∷ bs)))
        (append-nil (b ∷ bs)) (first-ready b bs w [] tt) in
        finish-carries (b ∷ bs) y (after [] k (repeat t st (drop k (b ∷ bs))))
        (after [] (first_state ((b ∷ bs) ++ y)).used
        (repeat t (first_state ((b ∷ bs) ++ y)) (drop (first_state ((b ∷ bs) ++ y)).used ((b ∷ bs) ++ y))))
        (next-ok (Upto m y (suc (length bs))) (b ∷ bs) y (λ z s. repeat t z s) st [] k
        (ok (first_state ((b ∷ bs) ++ y)) [] (first_state ((b ∷ bs) ++ y)).used) (repeat t st (drop k (b ∷ bs)))
        (λ j u. f.0)
        (weaker (Upto m y (length (drop k (b ∷ bs)))) (λ j. Upto m y (suc (length bs)) (k + j))
        (λ j u. upto_rest m y (b ∷ bs) k j u) (repeat t st (drop k (b ∷ bs))) (repeat t st (drop k (b ∷ bs) ++ y))
        (repeat-keeps t (pattern-turns m soft sub law) st (drop k (b ∷ bs)) y (whole_drop k (b ∷ bs) w) f.1))
        (λ c ns j e u. ap (λ z. ok z [] z.used) (first-same b bs w m soft y (upto-down m y (suc (length bs)) k j u))))
        (pattern-grown law.bounds (b ∷ bs));
  }
