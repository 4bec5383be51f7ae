-- pattern.rs: the marks of a pattern.
use Prim.Native.Nat.{ℕ, zero, suc, ◌+◌, ◌-◌, ◌≤◌, ◌<◌, min}
use Rattle.std.proofs.Common.{zero-add, arith, sym, ap, ◌∙◌, subst, take-append-drop, length-take, drop-drop, length-take-le, eqb-true}
use Rattle.std.proofs.Math.Nat.{add-zero}
use Rattle.std.specs.Prelude.{◌≡◌, Bool, ◌&&◌, ◌||◌, length, take, eqb, ltb}
use Rattle.std.proofs.Math.Path.{refl}
use Rattle.std.proofs.Math.Bool.{true, false}
use mathlib.Core.List.{List, [], ◌∷◌, ◌++◌}
use Rattle.std.proofs.Math.Option.{Option, some, none}
use Rattle.std.proofs.Math.ListN.{drop}
use Rattle.std.proofs.lemmas.Bool.{eqb-false, not-false}
use Rattle.syntax.specs.Kind as Kind
use Rattle.syntax.specs.Bytes.{run, eol, spaces}
use Rattle.syntax.specs.Marks.{Mark, plain, move_up, node}
use Rattle.syntax.specs.Reader.{Out, ok, bad, deep, after, in_node, wrap, Turn, again, repeat}
use Rattle.syntax.specs.Helper.{skip_blank_block}
use Rattle.syntax.specs.Shape.{step_in, step_by, final_by, models, among, step, final, opens, Run, stay}
use Rattle.syntax.specs.Pattern.{Inside, Role, line_start, initial_line_start, Slice, is_text_byte, ends_in_cr, line_slice}
use Rattle.syntax.specs.Pattern.{slice_by, get_text_slice, Element, placeable, text, State, is_line_start, with_placeable}
use Rattle.syntax.specs.Pattern.{is_element, with_text, goes_on, line_turn, text_turn, pattern_turn, trimmed, dedented}
use Rattle.syntax.specs.Pattern.{text_marks, element_marks, finish, state_at, used_by, first_state, get_pattern}
use Rattle.laws.specs.Bytes.{by_case, clash, pick, run-le}
use Rattle.laws.specs.Moving.{move_up-append}
use Rattle.laws.specs.Answers.{Holds, TurnHolds, loop-holds}
use Rattle.laws.specs.Bounds.Pattern.{trimmed-le, dedented-le}
use Rattle.laws.specs.Shape.Run.{run-append, run_moved, run-text}
use Rattle.laws.specs.Formed.Edge.{ascii, clear, edge, edge-le, edge-add, edge-past, edge-clear, edge-first}
use Rattle.laws.specs.Formed.Edge.{ascii-of, edge-spaces, edge-eol}
use Rattle.laws.specs.Formed.Reader.{at, by, closes, leads-nil, leads-node, Made, made, stopped, too_deep, Makes}
use Rattle.laws.specs.Formed.Helper.{or-ascii, block-edge}

-- what stands in one more brace or parenthesis, with n openings left, as a child of any node that takes it
pub record InsideFormed (n : ℕ) (sub : Inside) : Type 0 where
  pub braced : (k q r : ℕ) → step k q Kind.placeable ≡ some r → Makes n k (at q) (λ _. at r) (in_node Kind.placeable sub.braced)
  pub parenthesised : (k q r : ℕ) → step k q Kind.arguments ≡ some r → Makes n k (at q) (λ _. at r) sub.parenthesised

-- ---- texts

text-ascii : (b : ℕ) → is_text_byte b ≡ false → ascii b ≡ true
unfolding is_text_byte
text-ascii b q =
    or-ascii (eqb b 10) (eqb b 123 || eqb b 125) (ascii b) (ascii-of 10 refl b)
    (or-ascii (eqb b 123) (eqb b 125) (ascii b) (ascii-of 123 refl b) (ascii-of 125 refl b)) (not-false _ q)

text-clear : (s : List ℕ) → clear (drop (run is_text_byte s) s) ≡ true
unfolding run clear
text-clear [] = refl
text-clear (b ∷ bs) = by_case (is_text_byte b) (λ q. rw (q, run) (text-clear bs)) (λ q. rw (q, run) (text-ascii b q))

-- a '\r' at the end of a text
cr-clear : (t r : List ℕ) → ends_in_cr t ≡ true → clear (drop (length t - 1) (t ++ r)) ≡ true
unfolding ends_in_cr clear
cr-clear [] r q = clash q refl
cr-clear (x ∷ []) r q = ascii-of 13 refl x q
cr-clear (x ∷ y ∷ ys) r q =
    let z : suc (suc (length ys)) - 1 ≡ suc (length ys) = omega arith in
    let i : suc (length ys) - 1 ≡ length ys = omega arith in
    rw z (rw i at (cr-clear (y ∷ ys) r q))

-- a slice's end, and where its reading ends
abbrev Sliced : List ℕ → Out Slice → Type 0
Sliced s o = Holds (λ t ms k. (edge s t.size ≡ true) × (edge s k ≡ true)) o

line_slice-edges : (s t r : List ℕ) → t ++ r ≡ s → edge s (length t) ≡ true → edge s (length t + 1) ≡ true → Sliced s (line_slice t)
unfolding line_slice
line_slice-edges s t r e h g =
    pick (Sliced s) (ends_in_cr t) _ _
    (λ q. (
      edge-clear s (length t - 1) (omega (arith, edge-le s (length t) h))
          (subst (λ z. clear (drop (length t - 1) z) ≡ true) e (cr-clear t r q)),
      h,
    ))
    (λ q. (g, g))

slice_by-edges : (s t r : List ℕ) → t ++ r ≡ s → drop (length t) s ≡ r → edge s (length t) ≡ true → clear r ≡ true → Sliced s (slice_by t r)
unfolding slice_by clear
slice_by-edges s t [] e d h c = (h, h)
slice_by-edges s t (b ∷ bs) e d h c = pick (Sliced s) (eqb b 125) _ _ (λ q. tt)
    (λ q. pick (Sliced s) (eqb b 123) _ _ (λ q. (h, h))
    (λ q. line_slice-edges s t (b ∷ bs) e h (edge-past s (length t) h d 1 (length t + 1) refl (edge-first b bs c))))

slice-edges : (s : List ℕ) → Sliced s (get_text_slice s)
unfolding get_text_slice
slice-edges s =
    let i = run is_text_byte s in
    let z : length (take i s) ≡ i = length-take-le i s (run-le is_text_byte s) in
    slice_by-edges s (take i s) (drop i s) (take-append-drop i s) (ap (λ j. drop j s) z)
    (rw z (edge-clear s i (run-le is_text_byte s) (text-clear s))) (text-clear s)

-- ---- elements

-- of a text: every place in its indent is an edge, and its end
pub record Texted (s : List ℕ) (a e i : ℕ) : Type 0 where
  pub indent : (j : ℕ) → j ≤ i → edge s (a + j) ≡ true
  pub end : edge s e ≡ true
  pub order : a + i ≤ e

trimmed-clear : (m : ℕ) (s : List ℕ) → trimmed (take m s) < m → clear (drop (trimmed (take m s)) s) ≡ true
unfolding trimmed clear
trimmed-clear zero s l = absurd (omega arith)
trimmed-clear (suc m) [] l = refl
trimmed-clear (suc m) (x ∷ xs) l = by_case ((eqb x 32 || (eqb x 13 || eqb x 10)) && eqb (trimmed (take m xs)) 0)
    (λ q. rw (q, trimmed) (blank (eqb x 32 || (eqb x 13 || eqb x 10)) _ refl q))
    (λ q. rw (q, trimmed) (trimmed-clear m xs (omega (arith, rw (q, trimmed) at l))))
  where
    blank : (v w : Bool) → (eqb x 32 || (eqb x 13 || eqb x 10)) ≡ v → (v && w) ≡ true → ascii x ≡ true
    blank true w e q =
        or-ascii (eqb x 32) (eqb x 13 || eqb x 10) (ascii x) (ascii-of 32 refl x)
        (or-ascii (eqb x 13) (eqb x 10) (ascii x) (ascii-of 13 refl x) (ascii-of 10 refl x)) e
    blank false w e q = clash q refl

trimmed-edge : (s : List ℕ) (a e : ℕ) → edge s a ≡ true → edge s e ≡ true → a ≤ e → edge s (a + trimmed (take (e - a) (drop a s))) ≡ true
trimmed-edge s a e f g l =
    let m = e - a in
    let i = trimmed (take m (drop a s)) in
    let h : i ≤ min m (length (drop a s)) = omega (arith, trimmed-le (take m (drop a s)), length-take m (drop a s)) in
    by_case (eqb i m) (λ q. let z : a + i ≡ e = omega (arith, eqb-true i m q) in rw z g)
    (λ q. edge-add s a i f (edge-clear (drop a s) i (omega arith) (trimmed-clear m (drop a s) (omega (arith, eqb-false i m q)))))

module _ (n : ℕ) (s : List ℕ) where
  text_marks-run : (v : Bool) (a e : ℕ) → edge s a ≡ true → edge s e ≡ true → a ≤ e → Run (edge s) n 11 0 0 (text_marks s v a e)
  unfolding text_marks Kind.is_text step step_by step_in models among
  text_marks-run true a e f g l =
      run-text (edge s) 12 a (a + trimmed (take (e - a) (drop a s))) refl refl f (trimmed-edge s a e f g l)
      (omega arith)
  text_marks-run false a e f g l = run-text (edge s) 12 a e refl refl f g l

  dedented-edge : (c : Option ℕ) (a e i : ℕ) (l : Bool) → Texted s a e i → edge s (dedented c a i l) ≡ true
  unfolding dedented
  dedented-edge c a e i false t = rw add-zero at (t.indent 0 (omega arith))
  dedented-edge none a e i true t = t.indent i (omega arith)
  dedented-edge (some c) a e i true t = t.indent (min i c) (omega arith)

  abbrev Els : List Element → Type 0
  Els [] = Unit {0}
  Els (placeable ms ∷ es) = Run (edge s) n 11 0 0 (node 13 ms) × Els es
  Els (text a e i l ∷ es) = Texted s a e i × Els es

  els-snoc : (es : List Element) (e : Element) → Els es → Els (e ∷ []) → Els (es ++ (e ∷ []))
  els-snoc [] e p q = q
  els-snoc (placeable ms ∷ es) e p q = (p.0, els-snoc es e p.1 q)
  els-snoc (text a f i l ∷ es) e p q = (p.0, els-snoc es e p.1 q)

  elements-run : (c : Option ℕ) (m : ℕ) (es : List Element) → Els es → Run (edge s) n 11 0 0 (element_marks s c m es)
  unfolding element_marks
  elements-run c zero es p = stay
  elements-run c (suc m) [] p = stay
  elements-run c (suc m) (placeable ms ∷ es) p = run-append (edge s) p.0 (elements-run c m es p.1)
  elements-run c (suc m) (text a e i l ∷ es) p = run-append (edge s)
      (text_marks-run (eqb m 0) (dedented c a i l) e (dedented-edge c a e i l p.0) p.0.end
      (omega (arith, dedented-le c a i l, p.0.order)))
      (elements-run c m es p.1)

  -- a state of the pattern that s is the source of
  pub record Tidy (st : State) : Type 0 where
    pub els : Els st.elements
    pub place : edge s st.used ≡ true

-- ---- turns

-- whatever the pattern's source is, if the rest s stands in it where the state says
abbrev Tidies : ℕ → State → List ℕ → State → List Mark → ℕ → Type 0
Tidies n st s st' ms k = (z : List ℕ) → drop st.used z ≡ s → Tidy n z st → Tidy n z st' × (edge z (st.used + k) ≡ true)

node-up : (j kind : ℕ) (ms : List Mark) → move_up j (node kind ms) ≡ node kind (move_up j ms)
unfolding move_up node
node-up j kind ms = ap (λ r. plain kind ∷ r) (move_up-append j ms (plain (100 + kind) ∷ []))

module _ (n : ℕ) (sub : Inside) where
  abbrev Turned : State → List ℕ → Turn State State → Type 0
  Turned st s w = TurnHolds (pattern_turn sub) (Tidies n) st s w

  turn-tidy : (st st' : State) (s : List ℕ) (k : ℕ) → st.used + k ≡ st'.used
      → ((z : List ℕ) → drop st.used z ≡ s → Tidy n z st → Tidy n z st') → Turned st s (again st' [] k)
  turn-tidy st st' s k e f = λ a ns j g z d t.
      let (u, h) = g z (ap (λ i. drop i z) (sym e) ∙ sym (drop-drop k st.used z) ∙ ap (drop k) d) (f z d t) in
      let i : st'.used + j ≡ st.used + (k + j) = omega arith in
      (u, subst (λ i. edge z i ≡ true) i h)

  with_text-tidy : (st : State) (s : List ℕ) (indent : ℕ) (o : Out Slice) → ((j : ℕ) → j ≤ indent → edge s j ≡ true)
      → Sliced (drop indent s) o → Turned st s (with_text st indent o)
  unfolding with_text after
  with_text-tidy st s indent (ok t ms k) h (f, g) = turn-tidy st _ s (indent + k) refl (λ z d u. record {
    els = pick (Els n z) (is_element st t) _ _ (λ q. els-snoc n z st.elements _ u.els (added z d u, tt)) (λ q. u.els);
    place = edge-past z st.used u.place d (indent + k) _ refl (edge-add s indent k (h indent (omega arith)) g);
  })
    where
      added : (z : List ℕ) → drop st.used z ≡ s → Tidy n z st → Texted z st.used (st.used + indent + t.size) indent
      added z d u = record {
        indent = λ j l. edge-past z st.used u.place d j (st.used + j) refl (h j l);
        end =
            edge-past z st.used u.place d (indent + t.size) (st.used + indent + t.size) (omega arith)
            (edge-add s indent t.size (h indent (omega arith)) f);
        order = omega arith;
      }
  with_text-tidy st s indent (bad f k) h e = tt
  with_text-tidy st s indent (deep k) h e = tt

  with_placeable-tidy : (st : State) (s : List ℕ) (o : Out (Unit {0})) → Made n 11 (at 0) (λ _. at 0) s (wrap 13 o)
      → Turned st s (with_placeable st o)
  unfolding with_placeable wrap
  with_placeable-tidy st s (ok u ms k) (made e (by w)) = turn-tidy st _ s k refl (λ z d t. record {
    els =
        els-snoc n z st.elements _ t.els (
          rw node-up at (run_moved (edge s) (edge z) st.used
              (λ a g. edge-past z st.used t.place d a (st.used + a) refl g) w),
          tt,
        );
    place = edge-past z st.used t.place d k _ refl e;
  })
  with_placeable-tidy st s (bad f k) m = tt
  with_placeable-tidy st s (deep k) m = tt

  stays-tidy : (st : State) (s : List ℕ) (ms : List Mark) (k : ℕ) → edge s k ≡ true → Tidies n st s st ms k
  stays-tidy st s ms k e = λ z d t. (t, edge-past z st.used t.place d k (st.used + k) refl e)

  line-tidy : (st : State) (s r : List ℕ) → drop (spaces s) s ≡ r → Turned st s (line_turn st (spaces s) r)
  unfolding line_turn edge
  line-tidy st s [] d = stays-tidy st s [] (spaces s) (edge-spaces s (spaces s) (omega arith))
  line-tidy st s (b ∷ bs) d = pick (Turned st s) (goes_on (spaces s) b) _ _
      (λ q. with_text-tidy st s (spaces s) (get_text_slice (b ∷ bs)) (edge-spaces s)
      (subst (λ r. Sliced r (get_text_slice (b ∷ bs))) (sym d) (slice-edges (b ∷ bs))))
      (λ q. stays-tidy st s [] 0 refl)

-- ---- the whole pattern

finish-made : {n k q r : ℕ} (s : List ℕ) (o : Out State) → step k q Kind.pattern ≡ some r
    → Holds (λ st ms j. Tidy n s st × (edge s j ≡ true)) o
    → Made n k (at q) (λ v. at (elim v [ true ↦ r | false ↦ q ])) s (finish s o)
unfolding finish Kind.is_text final final_by models opens among
finish-made {n} {k} {q} {r} s (ok st ms j) z (t, e) =
    pick (Made n k (at q) (λ v. at (elim v [ true ↦ r | false ↦ q ])) s) (eqb st.kept 0) _ _
    (λ h. made {a = false} e (leads-nil (at q)))
    (λ h. made {a = true} e
    (leads-node 11 refl z (zero-add n)
    (closes (elements-run n s st.common st.kept st.elements t.els) refl)))
finish-made s (bad f j) z h = stopped
finish-made s (deep j) z h = too_deep

first-tidy : (n : ℕ) (s : List ℕ) → Tidy n s (first_state s)
unfolding first_state state_at
first-tidy n s = pick (Tidy n s) (ltb 0 e) _ _
    (λ q. empty (k + e + used_by (skip_blank_block (drop (k + e) s))) line_start
    (edge-add s (k + e) _ (edge-add s k e spaced (edge-eol (drop k s) e (omega arith)))
    (block-edge (drop (k + e) s))))
    (λ q. empty k initial_line_start spaced)
  where
    k : ℕ
    k = spaces s

    e : ℕ
    e = eol (drop k s)

    spaced : edge s k ≡ true
    spaced = edge-spaces s k (omega arith)

    empty : (i : ℕ) (r : Role) → edge s i ≡ true → Tidy n s (state_at i r)
    empty i r h = record { els = tt; place = h }

module _ {n : ℕ} {sub : Inside} (law : InsideFormed n sub) where
  turns-tidy : (st : State) (s : List ℕ) → Turned n sub st s (pattern_turn sub st s)
  unfolding pattern_turn text_turn in_node edge step step_by step_in models among
  turns-tidy st [] = stays-tidy n sub st [] [] 0 refl
  turns-tidy st (b ∷ bs) =
      pick (Turned n sub st (b ∷ bs)) (eqb b 123) _ _
      (λ q. with_placeable-tidy n sub st (b ∷ bs) (sub.braced (b ∷ bs)) ((law.braced 11 0 0 refl).on (b ∷ bs)))
      (λ q. pick (Turned n sub st (b ∷ bs)) (is_line_start st.role) _ _
      (λ l. line-tidy n sub st (b ∷ bs) (drop (spaces (b ∷ bs)) (b ∷ bs)) refl)
      (λ l. with_text-tidy n sub st (b ∷ bs) 0 (get_text_slice (b ∷ bs)) (λ j l. edge-spaces (b ∷ bs) j (omega arith)) (slice-edges (b ∷ bs))))

  pub pattern-makes : {k q r : ℕ} → step k q Kind.pattern ≡ some r
      → Makes n k (at q) (λ v. at (elim v [ true ↦ r | false ↦ q ])) (get_pattern sub)
  unfolding get_pattern repeat
  pattern-makes z = record {
    on = λ s. let st = first_state s in let r = drop st.used s in
        finish-made s (after [] st.used (repeat (pattern_turn sub) st r)) z
        (after-tidy s st (repeat (pattern_turn sub) st r) (first-tidy n s)
        (loop-holds (pattern_turn sub) (Tidies n) turns-tidy (suc (length r)) st r));
  }
    where
      after-tidy : (s : List ℕ) (st : State) (o : Out State) → Tidy n s st → Holds (Tidies n st (drop st.used s)) o
          → Holds (λ st' ms j. Tidy n s st' × (edge s j ≡ true)) (after [] st.used o)
      after-tidy s st (ok st' ms k) t h = unfold after in (h s refl t)
      after-tidy s st (bad f k) t h = unfold after in tt
      after-tidy s st (deep k) t h = unfold after in tt
