-- comment.rs at a cut.
use Prim.Native.Nat.{ℕ, zero, suc, ◌+◌, ◌-◌, ◌≤◌, ◌<◌, min, suc-le-suc}
use Rattle.std.proofs.Common.{not-suc-le-zero, le_of_suc-le-suc, add-zero, zero-add, suc-add, ◌∙◌, drop_of_length-le, drop-drop}
use native.Mathlib.Omega.{arith}
use Rattle.std.specs.Prelude.{◌≡◌, Bool, ◌&&◌, ◌||◌, not}
use Rattle.std.proofs.Math.Path.{refl, sym, ap, ap₂, subst}
use Rattle.std.proofs.Math.Bool.{true, false}
use mathlib.Core.List.{List, [], ◌∷◌, ◌++◌, append-nil}
use Rattle.std.proofs.Math.ListN.{drop, length, length-drop, length-append}
use Rattle.std.proofs.Math.Dec.{eqb, ltb}
use borrow.Author.Tests.{eqb-true, ltb-true, ltb-false}
use Rattle.syntax.specs.Bytes.{starts_with, run, eol, line_run}
use Rattle.syntax.specs.declared.errors.ErrorKind.TheVariants as Errors
use Rattle.syntax.specs.Marks.{Mark, move_up, text_node}
use Rattle.syntax.specs.declared.errors.ParserError.{ParserError}
use Rattle.syntax.specs.Reader.{Out, ok, bad, deep, fail, after, Turn, again, done, loop}
use Rattle.syntax.specs.Comment.{line_length, level_of, line_end_used, line_read, line_turn, comment_turn}
use Rattle.syntax.specs.Core.{line_starts_at}
use Rattle.laws.specs.Moving.{after-after}
use Rattle.laws.specs.Lines.{line_run-whole, line_run-on, line_run-at, starts-at, starts-add, eol-line}
use Rattle.laws.specs.Bytes.{Whole, whole_drop, by_case, clash, drop_app, run-whole, eol-whole}

-- a run, after some of it
run_drop : (t : ℕ → Bool) (k : ℕ) (s : List ℕ) → k ≤ run t s → run t s ≡ k + run t (drop k s)
unfolding run
run_drop t zero s h = sym (zero-add (run t s))
run_drop t (suc k) [] h = absurd (not-suc-le-zero h)
run_drop t (suc k) (b ∷ bs) h = by_case (t b)
    (λ q. rw (q, run) (ap suc (run_drop t k bs (le_of_suc-le-suc (rw (q, run) at h))) ∙ sym (suc-add k (run t (drop k bs)))))
    (λ q. absurd (not-suc-le-zero (rw (q, run) at h)))

hash-line : (k : ℕ) (s : List ℕ) → k ≤ run (λ b. eqb b 35) s → line_run s ≡ k + line_run (drop k s)
unfolding run
hash-line zero s h = sym (zero-add (line_run s))
hash-line (suc k) [] h = absurd (not-suc-le-zero h)
hash-line (suc k) (b ∷ bs) h = by_case (eqb b 35)
    (λ q. line_run-on b bs (rw (eqb-true b 35 q) refl) ∙ ap suc (hash-line k bs (le_of_suc-le-suc (rw (q, run) at h)))
    ∙ sym (suc-add k (line_run (drop k bs))))
    (λ q. absurd (not-suc-le-zero (rw (q, run) at h)))

-- a line's text
record Text (b : ℕ) (bs : List ℕ) : Type 0 where
  same : (y : List ℕ) → line_length ((b ∷ bs) ++ y) ≡ line_length (b ∷ bs)
  here : line_length (b ∷ bs) ≤ length (b ∷ bs)
  ends : 0 < eol (drop (line_length (b ∷ bs)) (b ∷ bs))
  line : line_run (b ∷ bs) ≡ line_length (b ∷ bs) + line_run (drop (line_length (b ∷ bs)) (b ∷ bs))

length_at : (b : ℕ) (bs : List ℕ) → ltb 0 (eol (b ∷ bs)) ≡ true → line_length (b ∷ bs) ≡ 0
unfolding line_length
length_at b bs q = rw (q, line_length)

length-on : (b : ℕ) (bs : List ℕ) → ltb 0 (eol (b ∷ bs)) ≡ false → line_length (b ∷ bs) ≡ suc (line_length bs)
unfolding line_length
length-on b bs q = rw (q, line_length)

not_end : (b : ℕ) (bs : List ℕ) → ltb 0 (eol (b ∷ bs)) ≡ false → eqb b 10 ≡ false
unfolding eol
not_end b bs q = by_case (eqb b 10) (λ r. clash (rw (r, eol) refl) q) (λ r. r)

text_at : (b : ℕ) (bs : List ℕ) → Whole (b ∷ bs) → ltb 0 (eol (b ∷ bs)) ≡ true → Text b bs
text_at b bs w q = record {
  same = λ y. length_at b (bs ++ y) (ap (ltb 0) (eol-whole b bs y w).0 ∙ q) ∙ sym (length_at b bs q);
  here = rw (length_at b bs q) (omega arith);
  ends = rw (length_at b bs q) (ltb-true 0 (eol (b ∷ bs)) q);
  line = rw (length_at b bs q) (sym (zero-add (line_run (b ∷ bs))));
}

text_of : (b : ℕ) (bs : List ℕ) → Whole (b ∷ bs) → Text b bs
text_of b [] w = text_at b [] w (unfold eol in rw w refl)
text_of b (c ∷ cs) w = by_case (ltb 0 (eol (b ∷ c ∷ cs))) (λ q. text_at b (c ∷ cs) w q)
    (λ q. let t = text_of c cs w in
    let e = length-on b (c ∷ cs) q in
    record {
      same = λ y. length-on b ((c ∷ cs) ++ y) (ap (ltb 0) (eol-whole b (c ∷ cs) y w).0 ∙ q) ∙ ap suc (t.same y) ∙ sym e;
      here = rw e (suc-le-suc t.here);
      ends = rw e t.ends;
      line =
          rw e
          (line_run-on b (c ∷ cs) (not_end b (c ∷ cs) q) ∙ ap suc t.line
          ∙ sym (suc-add (line_length (c ∷ cs)) (line_run (drop (line_length (c ∷ cs)) (c ∷ cs)))));
    })

-- where a line that ends in a newline j bytes on lets the next start
abbrev pub end_at : List ℕ → ℕ → ℕ
end_at [] j = suc j
end_at (b ∷ bs) j = elim (eqb b 35) [ true ↦ suc j | false ↦ j ]

used-at : (r : List ℕ) (f : ℕ) → 0 < eol r → f + line_end_used r ≡ end_at (drop (eol r) r) (f + (eol r - 1))
unfolding line_end_used
used-at r f h = go (drop (eol r) r)
  where
    go : (d : List ℕ)
        → f + (elim d [ [] ↦ eol r | b ∷ bs ↦ elim (eqb b 35) [ true ↦ eol r | false ↦ eol r - 1 ] ]) ≡ end_at d
        (f + (eol r - 1))
    go [] = omega arith
    go (b ∷ bs) = by_case (eqb b 35) (λ q. rw (q, end_at) (omega arith)) (λ q. rw (q, end_at) refl)

-- what a turn makes of x, whatever follows it
pub data Line (level : ℕ) (x : List ℕ) : Type 0 where
  over : ((y : List ℕ) → comment_turn level (x ++ y) ≡ done (ok level [] 0)) → Line level x
  wrong : (f : ParserError) (k : ℕ) → ((y : List ℕ) → comment_turn level (x ++ y) ≡ done (bad f k)) → Line level x
  line : (l : ℕ) (ms : List Mark) → 0 < l → run (λ b. eqb b 35) x ≡ l
      → ((y : List ℕ) → comment_turn level (x ++ y) ≡ again l ms (end_at (drop (suc (line_run x)) x ++ y) (line_run x))) → Line level x

-- a line end, f bytes on
end-at : (x y : List ℕ) (f c : ℕ) (cs : List ℕ) → drop f x ≡ c ∷ cs → Whole (c ∷ cs) → 0 < eol (c ∷ cs)
    → line_run x ≡ f + line_run (c ∷ cs) → f ≤ length x
    → f + line_end_used ((c ∷ cs) ++ y) ≡ end_at (drop (suc (line_run x)) x ++ y) (line_run x)
end-at x y f c cs d v h r le =
    let e = eol-whole c cs y v in
    let z = eol-line (c ∷ cs) h in
    let j : suc (line_run x) ≡ f + eol (c ∷ cs) = omega arith in
    let i : f + (eol (c ∷ cs) - 1) ≡ line_run x = omega arith in
    let g : drop (suc (line_run x)) x ≡ drop (eol (c ∷ cs)) (c ∷ cs) = ap (λ k. drop k x) j
    ∙ sym (drop-drop (eol (c ∷ cs)) f x) ∙ ap (drop (eol (c ∷ cs))) d in
    used-at ((c ∷ cs) ++ y) f (omega (arith, e.0))
    ∙ ap (λ k. end_at (drop k ((c ∷ cs) ++ y)) (f + (k - 1))) e.0
    ∙ ap (λ t. end_at t (f + (eol (c ∷ cs) - 1))) (drop_app (eol (c ∷ cs)) (c ∷ cs) y e.1 ∙ ap (λ t. t ++ y) (sym g))
    ∙ ap (end_at (drop (suc (line_run x)) x ++ y)) i

abbrev comment_of : ℕ → ℕ → List ℕ → Turn ℕ ℕ
comment_of level l r =
    elim
    (eqb l 0 || (not (eqb level 0) && not (eqb l level))) [ true ↦ done (ok level [] 0) | false ↦ line_turn level l r ]

comment-at : (level l : ℕ) (r s : List ℕ) → level_of s ≡ l → drop l s ≡ r → comment_turn level s ≡ comment_of level l r
unfolding comment_turn
comment-at level l r s e d = ap (λ k. comment_of level k (drop k s)) e ∙ ap (comment_of level l) d

some_of : (k : ℕ) (x : List ℕ) → k < length x → (c : ℕ) × (cs : List ℕ) × (drop k x ≡ c ∷ cs)
some_of k x h = go (drop k x) refl
  where
    go : (r : List ℕ) → drop k x ≡ r → (c : ℕ) × (cs : List ℕ) × (drop k x ≡ c ∷ cs)
    go [] e = absurd (omega (arith, ap length e, length-drop k x))
    go (c ∷ cs) e = (c, cs, e)

some-eol : (k : ℕ) (s : List ℕ) → 0 < eol (drop k s) → k < length s
unfolding eol
some-eol k s h = by_case (ltb k (length s)) (λ z. ltb-true k (length s) z)
    (λ z. absurd (not-suc-le-zero (rw (drop_of_length-le s (ltb-false k (length s) z)) at h)))

eol-not-hash : (c : ℕ) (cs : List ℕ) → 0 < eol (c ∷ cs) → eqb c 35 ≡ false
unfolding eol
eol-not-hash c cs h = by_case (eqb c 35) (λ q. absurd (not-suc-le-zero (rw (eqb-true c 35 q) at h))) (λ q. q)

-- the level is what the line starts with, where something else follows
pub level-run : (x : List ℕ) (c : ℕ) (cs : List ℕ) → drop (level_of x) x ≡ c ∷ cs → eqb c 35 ≡ false → run (λ b. eqb b 35) x ≡ level_of x
unfolding level_of run
level-run x c cs e q =
    let n = run (λ b. eqb b 35) x in
    let z : run (λ b. eqb b 35) (drop (level_of x) x) ≡ 0 = rw e (rw (q, run) refl) in
    omega (arith, run_drop (λ b. eqb b 35) (level_of x) x (omega arith))

module _ (level b : ℕ) (bs : List ℕ) (w : Whole (b ∷ bs)) (hash : eqb b 35 ≡ true) where
  hashes : (run (λ c. eqb c 35) (b ∷ bs) ≡ suc (run (λ c. eqb c 35) bs))
      × ((y : List ℕ) → level_of ((b ∷ bs) ++ y) ≡ level_of (b ∷ bs)) × (level_of (b ∷ bs) < suc (length bs))
  unfolding run level_of
  hashes = let r = run-whole (λ c. eqb c 35) refl b bs in
      (rw (hash, run), λ y. ap (min 3) (r y w).0, omega (arith, (r [] w).1))

  positive : 0 < level_of (b ∷ bs)
  unfolding level_of
  positive = omega (arith, hashes.0)

  module _ (c : ℕ) (cs : List ℕ) (e : drop (level_of (b ∷ bs)) (b ∷ bs) ≡ c ∷ cs) (v : Whole (c ∷ cs))
      (turn : (y : List ℕ) → comment_turn level ((b ∷ bs) ++ y) ≡ line_turn level (level_of (b ∷ bs)) ((c ∷ cs) ++ y)) where
    cut-eol : (y : List ℕ) → ltb 0 (eol ((c ∷ cs) ++ y)) ≡ ltb 0 (eol (c ∷ cs))
    cut-eol y = ap (ltb 0) (eol-whole c cs y v).0

    at-line : line_run (b ∷ bs) ≡ level_of (b ∷ bs) + line_run (c ∷ cs)
    unfolding level_of
    at-line = hash-line (level_of (b ∷ bs)) (b ∷ bs) (omega arith) ∙ ap (λ r. level_of (b ∷ bs) + line_run r) e

    empty-line : ltb 0 (eol (c ∷ cs)) ≡ true → Line level (b ∷ bs)
    unfolding line_turn line_read
    empty-line q =
        line (level_of (b ∷ bs)) (text_node 8 (level_of (b ∷ bs)) (level_of (b ∷ bs) + 0)) positive
        (level-run (b ∷ bs) c cs e (eol-not-hash c cs (ltb-true 0 (eol (c ∷ cs)) q)))
        (λ y. turn y ∙ rw (cut-eol y ∙ q, line_turn) (ap (again (level_of (b ∷ bs)) (text_node 8 (level_of (b ∷ bs)) (level_of (b ∷ bs) + 0)))
        (end-at (b ∷ bs) y (level_of (b ∷ bs) + 0) c cs (rw (add-zero (level_of (b ∷ bs))) e) v
        (ltb-true 0 (eol (c ∷ cs)) q) (rw (add-zero (level_of (b ∷ bs))) at-line) (omega (arith, hashes.2)))))

  module _ (c d : ℕ) (ds : List ℕ) (e : drop (level_of (b ∷ bs)) (b ∷ bs) ≡ c ∷ d ∷ ds) (v : Whole (c ∷ d ∷ ds))
      (turn : (y : List ℕ) → comment_turn level ((b ∷ bs) ++ y) ≡ line_turn level (level_of (b ∷ bs)) ((c ∷ d ∷ ds) ++ y)) where
    text-line : ltb 0 (eol (c ∷ d ∷ ds)) ≡ false → eqb c 32 ≡ true → Line level (b ∷ bs)
    unfolding line_turn
    text-line q t =
        let x = b ∷ bs in
        let l = level_of (b ∷ bs) in
        let n = line_length (d ∷ ds) in
        let T = text_of d ds v in
        let (f, fs, g) = some_of n (d ∷ ds) (some-eol n (d ∷ ds) T.ends) in
        let dr : drop (l + 1 + n) (b ∷ bs) ≡ f ∷ fs = sym (drop-drop n (l + 1) (b ∷ bs))
        ∙ ap (drop n) (sym (drop-drop 1 l (b ∷ bs)) ∙ ap (drop 1) e) ∙ g in
        let len : l + length (c ∷ d ∷ ds) ≡ suc (length bs) = omega (arith, ap length e, length-drop l (b ∷ bs), hashes.2) in
        line l (text_node 8 (l + 1) (l + 1 + n)) positive (level-run (b ∷ bs) c (d ∷ ds) e (rw (eqb-true c 32 t) refl))
        (λ y. turn y ∙ rw (cut-eol c (d ∷ ds) e v turn y ∙ q, line_turn) (rw t
        (ap (λ k. line_read l (l + 1) k (drop k ((d ∷ ds) ++ y))) (T.same y)
        ∙ ap (line_read l (l + 1) n) (drop_app n (d ∷ ds) y T.here ∙ ap (λ r. r ++ y) g)
        ∙ read_at l n f fs y
        (end-at (b ∷ bs) y (l + 1 + n) f fs dr (subst Whole g (whole_drop n (d ∷ ds) v)) (subst (λ r. 0 < eol r) g T.ends)
        (omega
        (arith, at-line c (d ∷ ds) e v turn, line_run-on c (d ∷ ds) (not_end c (d ∷ ds) q), T.line, ap line_run g))
        (omega (arith, T.here))))))
      where
        read_at : (l n f : ℕ) (fs y : List ℕ) → {j : ℕ} → l + 1 + n + line_end_used ((f ∷ fs) ++ y) ≡ j
            → line_read l (l + 1) n ((f ∷ fs) ++ y) ≡ again l (text_node 8 (l + 1) (l + 1 + n)) j
        read_at l n f fs y e = unfold line_read in ap (again l (text_node 8 (l + 1) (l + 1 + n))) e

  line-by : (c : ℕ) (cs : List ℕ) → drop (level_of (b ∷ bs)) (b ∷ bs) ≡ c ∷ cs → Whole (c ∷ cs)
      → ((y : List ℕ) → comment_turn level ((b ∷ bs) ++ y) ≡ line_turn level (level_of (b ∷ bs)) ((c ∷ cs) ++ y)) → Line level (b ∷ bs)
  unfolding line_turn
  line-by c cs e v turn = by_case (ltb 0 (eol (c ∷ cs))) (λ q. empty-line c cs e v turn q)
      (λ q. by_case (eqb c 32) (λ t. texts cs e v turn q t)
      (λ t. by_case (eqb level 0)
      (λ z. wrong (record { start = level_of (b ∷ bs) + 0; end = level_of (b ∷ bs) + 1; kind = Errors.ExpectedToken 32 })
      (level_of (b ∷ bs) + 0)
      (λ y. turn y ∙ rw (cut-eol c cs e v turn y ∙ q, line_turn) (rw t (rw z (unfold after fail in refl)))))
      (λ z. over (λ y. turn y ∙ rw (cut-eol c cs e v turn y ∙ q, line_turn) (rw t (rw z refl))))))
    where
      texts : (cs : List ℕ) → drop (level_of (b ∷ bs)) (b ∷ bs) ≡ c ∷ cs → Whole (c ∷ cs)
          → ((y : List ℕ) → comment_turn level ((b ∷ bs) ++ y) ≡ line_turn level (level_of (b ∷ bs)) ((c ∷ cs) ++ y))
          → ltb 0 (eol (c ∷ cs)) ≡ false → eqb c 32 ≡ true → Line level (b ∷ bs)
      texts [] e v turn q t = absurd (omega (arith, eqb-true c 32 t))
      texts (d ∷ ds) e v turn q t = text-line c d ds e v turn q t

  pub line_of : Line level (b ∷ bs)
  line_of =
      let l = level_of (b ∷ bs) in
      let (c, cs, e) = some_of l (b ∷ bs) hashes.2 in
      let v = subst Whole e (whole_drop l (b ∷ bs) w) in
      let at : (y : List ℕ) → comment_turn level ((b ∷ bs) ++ y) ≡ comment_of level l ((c ∷ cs) ++ y) =
      λ y. comment-at level l ((c ∷ cs) ++ y) ((b ∷ bs) ++ y) (hashes.1 y)
      (drop_app l (b ∷ bs) y (omega (arith, hashes.2)) ∙ ap (λ r. r ++ y) e) in
      by_case (eqb l 0 || (not (eqb level 0) && not (eqb l level))) (λ q. over (λ y. at y ∙ rw (q, comment_of) refl))
      (λ q. line-by c cs e v (λ y. at y ∙ rw (q, comment_of) refl))

-- one line, that ends in a newline
abbrev pub OneLine : List ℕ → Type 0
OneLine s = line_run s + 1 ≡ length s

-- what a comment that uses up x, in the state l, goes on with
abbrev pub GoesBy : Bool → List ℕ → ℕ → List Mark → ℕ → Out ℕ → Type 0
GoesBy true y l ms k o = (m : ℕ) × (length y < m) × (o ≡ after ms k (loop m comment_turn l y))
GoesBy false y l ms k o = o ≡ ok l ms (k - 1)

abbrev pub Goes : List ℕ → ℕ → List Mark → ℕ → Out ℕ → Type 0
Goes [] l ms k o = o ≡ ok l ms k
Goes (c ∷ cs) l ms k o = GoesBy (eqb c 35) (c ∷ cs) l ms k o

-- where a comment ends: at another comment, at the newline of its last line with something after it, or at the end
pub data Cutting (st : ℕ) (x : List ℕ) (l : ℕ) (ms : List Mark) (k : ℕ) : Type 0 where
  before : (c : ℕ) (cs : List ℕ) → drop k x ≡ c ∷ cs → eqb c 35 ≡ true → line_starts_at k x ≡ true
      → ((y : List ℕ) (n : ℕ) → length (x ++ y) < n → loop n comment_turn st (x ++ y) ≡ ok l ms k) → Cutting st x l ms k
  newline : (c : ℕ) (cs : List ℕ) → drop k x ≡ 10 ∷ c ∷ cs
      → ((y : List ℕ) (n : ℕ) → length (x ++ y) < n → loop n comment_turn st (x ++ y) ≡ ok l ms k) → Cutting st x l ms k
  end : k ≡ length x → (i : ℕ) → line_starts_at i x ≡ true → OneLine (drop i x) → starts_with 35 (drop i x) ≡ true
      → run (λ b. eqb b 35) (drop i x) ≡ l
      → ((y : List ℕ) (n : ℕ) → length (x ++ y) < n → Goes y l ms k (loop n comment_turn st (x ++ y))) → Cutting st x l ms k

-- all that n turns read
abbrev Cuttings : ℕ → Type 0
Cuttings n = (st : ℕ) (x : List ℕ) → Whole x → starts_with 35 x ≡ true → (l : ℕ) (ms : List Mark) (k : ℕ)
    → loop n comment_turn st x ≡ ok l ms k → Cutting st x l ms k

pub after-ok : {A : Type 0} (ms : List Mark) (k : ℕ) (o : Out A) (a : A) (ns : List Mark) (j : ℕ) → after ms k o ≡ ok a ns j
    → (ns' : List Mark) × (j' : ℕ) × (o ≡ ok a ns' j') × (ms ++ move_up k ns' ≡ ns) × (k + j' ≡ j)
unfolding after
after-ok ms k (ok b ns' j') a ns j e = (ns', j', cc, cc, cc)
after-ok ms k (bad f j') a ns j e = let z : ◌≡◌ {A = ℕ} 0 1 = cc in absurd (omega arith)
after-ok ms k (deep j') a ns j e = let z : ◌≡◌ {A = ℕ} 0 1 = cc in absurd (omega arith)

loop-again : (n st : ℕ) (s : List ℕ) (l : ℕ) (ms : List Mark) (k : ℕ) → comment_turn st s ≡ again l ms k
    → loop (suc n) comment_turn st s ≡ after ms k (loop n comment_turn l (drop k s))
unfolding loop
loop-again n st s l ms k e = rw (e, loop) refl

loop-done : (n st : ℕ) (s : List ℕ) (o : Out ℕ) → comment_turn st s ≡ done o → loop (suc n) comment_turn st s ≡ o
unfolding loop
loop-done n st s o e = rw (e, loop) refl

-- a turn where no comment is
pub no-comment : (level : ℕ) (s : List ℕ) → starts_with 35 s ≡ false → comment_turn level s ≡ done (ok level [] 0)
unfolding comment_turn level_of run starts_with
no-comment level [] h = refl
no-comment level (b ∷ bs) h = rw (h, run, comment_turn, level_of) refl

ok_ok : {A : Type 0} (o : Out A) (a b : A) (ms ns : List Mark) (k j : ℕ) → o ≡ ok a ms k → o ≡ ok b ns j → (a ≡ b) × (ms ≡ ns) × (k ≡ j)
ok_ok o a b ms ns k j p q = (cc, cc, cc)

-- a loop that is done at once
quiet : (n st : ℕ) (s : List ℕ) (l : ℕ) (ms : List Mark) (k : ℕ) → starts_with 35 s ≡ false
    → loop n comment_turn st s ≡ ok l ms k → (st ≡ l) × ([] ≡ ms) × (0 ≡ k)
unfolding loop
quiet zero st s l ms k h e = let z : ◌≡◌ {A = ℕ} 0 1 = cc in absurd (omega arith)
quiet (suc n) st s l ms k h e = ok_ok (loop (suc n) comment_turn st s) st l [] ms 0 k (loop-done n st s (ok st [] 0) (no-comment st s h)) e

still : (n st : ℕ) (s : List ℕ) → 0 < n → starts_with 35 s ≡ false → loop n comment_turn st s ≡ ok st [] 0
still zero st s p h = absurd (not-suc-le-zero p)
still (suc n) st s p h = loop-done n st s (ok st [] 0) (no-comment st s h)

goes-lift : (y : List ℕ) (l : ℕ) (ms ns : List Mark) (k j : ℕ) (o o' : Out ℕ) → o ≡ after ms k o' → 0 < j
    → Goes y l ns j o' → Goes y l (ms ++ move_up k ns) (k + j) o
unfolding after
goes-lift [] l ms ns k j o o' e h g = e ∙ ap (after ms k) g
goes-lift (c ∷ cs) l ms ns k j o o' e h g = go (eqb c 35) g
  where
    go : (v : Bool) → GoesBy v (c ∷ cs) l ns j o' → GoesBy v (c ∷ cs) l (ms ++ move_up k ns) (k + j) o
    go true t = (t.0, t.1, e ∙ ap (after ms k) t.2 ∙ after-after ms k ns j (loop t.0 comment_turn l (c ∷ cs)))
    go false t = let z : k + (j - 1) ≡ k + j - 1 = omega arith in e ∙ ap (after ms k) t ∙ ap (ok l (ms ++ move_up k ns)) z

drop-rest : (k j : ℕ) (x r : List ℕ) → drop k x ≡ r → drop (k + j) x ≡ drop j r
drop-rest k j x r e = sym (drop-drop j k x) ∙ ap (drop j) e

module _ (st l₁ : ℕ) (ms₁ : List Mark) (x x₁ : List ℕ) (k₁ : ℕ) (d : drop k₁ x ≡ x₁) (le : k₁ ≤ length x) (pos : 0 < k₁)
    (ls : line_starts_at k₁ x ≡ true)
    (turn : (y : List ℕ) → comment_turn st (x ++ y) ≡ again l₁ ms₁ k₁) where
  lifted : (y : List ℕ) (n : ℕ) → length (x ++ y) < suc n
      → (loop (suc n) comment_turn st (x ++ y) ≡ after ms₁ k₁ (loop n comment_turn l₁ (x₁ ++ y))) × (length (x₁ ++ y) < n)
  lifted y n h = (
    loop-again n st (x ++ y) l₁ ms₁ k₁ (turn y)
        ∙ ap (λ r. after ms₁ k₁ (loop n comment_turn l₁ r)) (drop_app k₁ x y le ∙ ap (λ r. r ++ y) d),
    omega (arith, length-append x y, length-append x₁ y, ap length d, length-drop k₁ x),
  )

  lift-ok : (l : ℕ) (ms : List Mark) (k : ℕ) → ((y : List ℕ) (n : ℕ) → length (x₁ ++ y) < n → loop n comment_turn l₁ (x₁ ++ y) ≡ ok l ms k)
      → (y : List ℕ) (n : ℕ) → length (x ++ y) < n → loop n comment_turn st (x ++ y) ≡ ok l (ms₁ ++ move_up k₁ ms) (k₁ + k)
  unfolding after
  lift-ok l ms k f y zero h = absurd (not-suc-le-zero h)
  lift-ok l ms k f y (suc n) h = (lifted y n h).0 ∙ ap (after ms₁ k₁) (f y n (lifted y n h).1)

  lift-goes : (l : ℕ) (ms : List Mark) (k : ℕ) → 0 < k
      → ((y : List ℕ) (n : ℕ) → length (x₁ ++ y) < n → Goes y l ms k (loop n comment_turn l₁ (x₁ ++ y)))
      → (y : List ℕ) (n : ℕ) → length (x ++ y) < n → Goes y l (ms₁ ++ move_up k₁ ms) (k₁ + k) (loop n comment_turn st (x ++ y))
  lift-goes l ms k p f y zero h = absurd (not-suc-le-zero h)
  lift-goes l ms k p f y (suc n) h =
      goes-lift y l ms₁ ms k₁ k (loop (suc n) comment_turn st (x ++ y)) (loop n comment_turn l₁ (x₁ ++ y))
      (lifted y n h).0 p (f y n (lifted y n h).1)

  lift : (l : ℕ) (ms : List Mark) (k : ℕ) → 0 < length x₁ → Cutting l₁ x₁ l ms k → Cutting st x l (ms₁ ++ move_up k₁ ms) (k₁ + k)
  lift l ms k p (before c cs e h s f) = before c cs (drop-rest k₁ k x x₁ d ∙ e) h (starts-add k₁ k x ls (rw d s)) (lift-ok l ms k f)
  lift l ms k p (newline c cs e f) = newline c cs (drop-rest k₁ k x x₁ d ∙ e) (lift-ok l ms k f)
  lift l ms k p (end e i s one hash r f) = end (omega (arith, ap length d, length-drop k₁ x)) (k₁ + i) (starts-add k₁ i x ls (rw d s))
      (rw (drop-rest k₁ i x x₁ d) one) (rw (drop-rest k₁ i x x₁ d) hash) (rw (drop-rest k₁ i x x₁ d) r) (lift-goes l ms k (omega arith) f)

module _ (n st b : ℕ) (bs : List ℕ) (w : Whole (b ∷ bs)) (hash : eqb b 35 ≡ true) (l : ℕ) (ms : List Mark) (k : ℕ)
    (e : loop (suc n) comment_turn st (b ∷ bs) ≡ ok l ms k) where
  over-cut : ((y : List ℕ) → comment_turn st ((b ∷ bs) ++ y) ≡ done (ok st [] 0)) → Cutting st (b ∷ bs) l ms k
  unfolding line_starts_at
  over-cut t =
      let t₀ = subst (λ z. comment_turn st z ≡ done (ok st [] 0)) (append-nil (b ∷ bs)) (t []) in
      let q : ok st [] 0 ≡ ok l ms k = sym (loop-done n st (b ∷ bs) (ok st [] 0) t₀) ∙ e in
      let z : 0 ≡ k = (ok_ok (loop (suc n) comment_turn st (b ∷ bs)) st l [] ms 0 k (loop-done n st (b ∷ bs) (ok st [] 0) t₀) e).2 in
      before b bs (rw (← z) refl) hash (rw (← z) refl) (by q t)
    where
      by : ok st [] 0 ≡ ok l ms k → ((y : List ℕ) → comment_turn st ((b ∷ bs) ++ y) ≡ done (ok st [] 0))
          → (y : List ℕ) (m : ℕ) → length ((b ∷ bs) ++ y) < m
          → loop m comment_turn st ((b ∷ bs) ++ y) ≡ ok l ms k
      by q t y zero h = absurd (not-suc-le-zero h)
      by q t y (suc m) h = loop-done m st ((b ∷ bs) ++ y) (ok st [] 0) (t y) ∙ q

  -- the first line ends j bytes on
  module _ (l₁ : ℕ) (ms₁ : List Mark) (runs : run (λ c. eqb c 35) (b ∷ bs) ≡ l₁)
      (t : (y : List ℕ)
      → comment_turn st ((b ∷ bs) ++ y) ≡ again l₁ ms₁
      (end_at (drop (suc (line_run (b ∷ bs))) (b ∷ bs) ++ y) (line_run (b ∷ bs)))) where
    j : ℕ
    j = line_run (b ∷ bs)

    j-short : j < suc (length bs)
    unfolding j
    j-short = (line_run-whole b bs [] w).1

    turn₀ : (r : List ℕ) → drop (suc j) (b ∷ bs) ≡ r → comment_turn st (b ∷ bs) ≡ again l₁ ms₁ (end_at r j)
    unfolding j
    turn₀ r g =
        subst (λ z. comment_turn st z ≡ again l₁ ms₁ (end_at (drop (suc j) (b ∷ bs) ++ []) j)) (append-nil (b ∷ bs))
        (t [])
        ∙ ap (λ z. again l₁ ms₁ (end_at z j)) (append-nil (drop (suc j) (b ∷ bs)) ∙ g)

    -- it is followed by another
    more_cut : (ih : Cuttings n)
        (d : ℕ) (ds : List ℕ) → drop (suc j) (b ∷ bs) ≡ d ∷ ds → eqb d 35 ≡ true → Cutting st (b ∷ bs) l ms k
    unfolding j starts_with
    more_cut ih d ds g q =
        let f : loop (suc n) comment_turn st (b ∷ bs) ≡ after ms₁ (suc j) (loop n comment_turn l₁ (d ∷ ds)) =
        loop-again n st (b ∷ bs) l₁ ms₁ (suc j) (turn₀ (d ∷ ds) g ∙ rw (q, end_at) refl)
        ∙ ap (λ z. after ms₁ (suc j) (loop n comment_turn l₁ z)) g in
        let (ns, i, o, m, s) = after-ok ms₁ (suc j) (loop n comment_turn l₁ (d ∷ ds)) l ms k (sym f ∙ e) in
        subst (λ z. Cutting st (b ∷ bs) l z k) m (subst (Cutting st (b ∷ bs) l (ms₁ ++ move_up (suc j) ns)) s
        (lift st l₁ ms₁ (b ∷ bs) (d ∷ ds) (suc j) g j-short (omega arith) (starts-at (b ∷ bs) j-short)
        (λ y. t y ∙ ap (λ z. again l₁ ms₁ (end_at (z ++ y) j)) g ∙ rw (q, end_at) refl)
        l ns i (omega arith) (ih l₁ (d ∷ ds) (subst Whole g (whole_drop (suc j) (b ∷ bs) w)) q l ns i o)))

    -- something else follows
    other_cut : (d : ℕ) (ds : List ℕ) → drop (suc j) (b ∷ bs) ≡ d ∷ ds → eqb d 35 ≡ false → Cutting st (b ∷ bs) l ms k
    unfolding j starts_with after
    other_cut d ds g q =
        let at : drop j (b ∷ bs) ≡ 10 ∷ d ∷ ds = line_run-at (b ∷ bs) j-short ∙ ap (λ z. 10 ∷ z) g in
        let f : loop (suc n) comment_turn st (b ∷ bs) ≡ after ms₁ j (loop n comment_turn l₁ (10 ∷ d ∷ ds)) =
        loop-again n st (b ∷ bs) l₁ ms₁ j (turn₀ (d ∷ ds) g ∙ rw (q, end_at) refl) ∙ ap (λ z. after ms₁ j (loop n comment_turn l₁ z)) at in
        let (ns, i, o, m, s) = after-ok ms₁ j (loop n comment_turn l₁ (10 ∷ d ∷ ds)) l ms k (sym f ∙ e) in
        let (u₀, u₁, u₂) = quiet n l₁ (10 ∷ d ∷ ds) l ns i refl o in
        newline d ds (ap (λ z. drop z (b ∷ bs)) (omega-eq i k s u₂) ∙ at) (by at ns i o m s u₀ u₁ u₂)
      where
        omega-eq : (i k : ℕ) → j + i ≡ k → 0 ≡ i → k ≡ j
        omega-eq i k s u = omega arith

        by : drop j (b ∷ bs) ≡ 10 ∷ d ∷ ds → (ns : List Mark) (i : ℕ) → loop n comment_turn l₁ (10 ∷ d ∷ ds) ≡ ok l ns i
            → ms₁ ++ move_up j ns ≡ ms → j + i ≡ k
            → l₁ ≡ l → [] ≡ ns → 0 ≡ i
            → (y : List ℕ) (m : ℕ) → length ((b ∷ bs) ++ y) < m → loop m comment_turn st ((b ∷ bs) ++ y) ≡ ok l ms k
        by at ns i o m s u₀ u₁ u₂ y zero h = absurd (not-suc-le-zero h)
        by at ns i o m s u₀ u₁ u₂ y (suc n') h =
            loop-again n' st ((b ∷ bs) ++ y) l₁ ms₁ j (t y ∙ ap (λ z. again l₁ ms₁ (end_at (z ++ y) j)) g ∙ rw (q, end_at) refl)
            ∙ ap (λ z. after ms₁ j (loop n' comment_turn l₁ z)) (drop_app j (b ∷ bs) y (omega (arith, j-short)) ∙ ap (λ z. z ++ y) at)
            ∙ ap (after ms₁ j)
            (still n' l₁ ((10 ∷ d ∷ ds) ++ y) (omega (arith, length-append (b ∷ bs) y)) refl
            ∙ ap₂ (λ a c. ok l₁ a c) u₁ u₂)
            ∙ ap₂ (λ a c. ok l₁ a c) m s ∙ ap (λ z. ok z ms k) u₀

    -- it is the last
    last-cut : drop (suc j) (b ∷ bs) ≡ [] → Cutting st (b ∷ bs) l ms k
    unfolding j starts_with after line_starts_at move_up
    last-cut g =
        let f : loop (suc n) comment_turn st (b ∷ bs) ≡ after ms₁ (suc j) (loop n comment_turn l₁ []) =
        loop-again n st (b ∷ bs) l₁ ms₁ (suc j) (turn₀ [] g) ∙ ap (λ z. after ms₁ (suc j) (loop n comment_turn l₁ z)) g in
        let (ns, i, o, m, s) = after-ok ms₁ (suc j) (loop n comment_turn l₁ []) l ms k (sym f ∙ e) in
        let (u₀, u₁, u₂) = quiet n l₁ [] l ns i refl o in
        let whole : suc j ≡ length (b ∷ bs) = omega (arith, ap length g, length-drop (suc j) (b ∷ bs), j-short) in
        let kj : k ≡ suc j = omega arith in
        let mm : ms₁ ≡ ms = sym (append-nil ms₁) ∙ ap (λ z. ms₁ ++ move_up (suc j) z) u₁ ∙ m in
        end (kj ∙ whole) 0 refl (omega arith) hash (runs ∙ u₀) (goes kj mm u₀ whole)
      where
        goes : k ≡ suc j → ms₁ ≡ ms → l₁ ≡ l → suc j ≡ length (b ∷ bs) → (y : List ℕ) (m : ℕ) → length ((b ∷ bs) ++ y) < m
            → Goes y l ms k (loop m comment_turn st ((b ∷ bs) ++ y))
        goes kj mm u whole y zero h = absurd (not-suc-le-zero h)
        goes kj mm u whole [] (suc n') h =
            ap (loop (suc n') comment_turn st) (append-nil (b ∷ bs))
            ∙ loop-again n' st (b ∷ bs) l₁ ms₁ (suc j) (turn₀ [] g)
            ∙ ap (λ z. after ms₁ (suc j) (loop n' comment_turn l₁ z)) g
            ∙ ap (after ms₁ (suc j)) (still n' l₁ [] (omega (arith, length-append (b ∷ bs) [])) refl)
            ∙ ap₂ (λ a c. ok l₁ a c) (append-nil ms₁ ∙ mm) (add-zero (suc j) ∙ sym kj) ∙ ap (λ z. ok z ms k) u
        goes kj mm u whole (c ∷ cs) (suc n') h = by (eqb c 35) refl
          where
            here : (i : ℕ) → end_at (c ∷ cs) j ≡ i
                → loop (suc n') comment_turn st ((b ∷ bs) ++ (c ∷ cs)) ≡ after ms₁ i (loop n' comment_turn l₁ (drop i ((b ∷ bs) ++ (c ∷ cs))))
            here i z =
                loop-again n' st ((b ∷ bs) ++ (c ∷ cs)) l₁ ms₁ i
                (t (c ∷ cs) ∙ ap (λ r. again l₁ ms₁ (end_at (r ++ (c ∷ cs)) j)) g ∙ ap (again l₁ ms₁) z)

            by : (v : Bool) → eqb c 35 ≡ v → GoesBy v (c ∷ cs) l ms k (loop (suc n') comment_turn st ((b ∷ bs) ++ (c ∷ cs)))
            by true q = (
              n',
              omega (arith, length-append (b ∷ bs) (c ∷ cs)),
              here (suc j) (rw (q, end_at) refl)
                  ∙ ap (λ z. after ms₁ (suc j) (loop n' comment_turn l₁ z))
                  (drop_app (suc j) (b ∷ bs) (c ∷ cs) (omega arith) ∙ ap (λ z. z ++ (c ∷ cs)) g)
                  ∙ ap₂ (λ a i. after a i (loop n' comment_turn l₁ (c ∷ cs))) mm (sym kj)
                  ∙ ap (λ z. after ms k (loop n' comment_turn z (c ∷ cs))) u,
            )
            by false q =
                here j (rw (q, end_at) refl)
                ∙ ap (λ z. after ms₁ j (loop n' comment_turn l₁ z))
                (drop_app j (b ∷ bs) (c ∷ cs) (omega arith)
                ∙ ap (λ z. z ++ (c ∷ cs)) (line_run-at (b ∷ bs) j-short ∙ ap (λ z. 10 ∷ z) g))
                ∙ ap (after ms₁ j) (still n' l₁ (10 ∷ c ∷ cs) (omega (arith, length-append (b ∷ bs) (c ∷ cs))) refl)
                ∙ ap₂ (λ a i. ok l₁ a i) (append-nil ms₁ ∙ mm) (shorter kj) ∙ ap (λ z. ok z ms (k - 1)) u
              where
                shorter : k ≡ suc j → j + 0 ≡ k - 1
                shorter z = omega arith

  line-cut : (ih : Cuttings n)
      → Line st (b ∷ bs) → Cutting st (b ∷ bs) l ms k
  line-cut ih (over t) = over-cut t
  line-cut ih (wrong f i t) =
      let o : loop (suc n) comment_turn st (b ∷ bs) ≡ bad f i =
      loop-done n st (b ∷ bs) (bad f i)
      (subst (λ z. comment_turn st z ≡ done (bad f i)) (append-nil (b ∷ bs)) (t [])) in
      let z : ◌≡◌ {A = ℕ} 0 1 = cc in absurd (omega arith)
  line-cut ih (line l₁ ms₁ p r t) = go (drop (suc (line_run (b ∷ bs))) (b ∷ bs)) refl
    where
      go : (z : List ℕ) → drop (suc (line_run (b ∷ bs))) (b ∷ bs) ≡ z → Cutting st (b ∷ bs) l ms k
      go [] g = last-cut l₁ ms₁ r t (unfold j in g)
      go (d ∷ ds) g =
          by_case (eqb d 35) (λ q. more_cut l₁ ms₁ r t ih d ds (unfold j in g) q)
          (λ q. other_cut l₁ ms₁ r t d ds (unfold j in g) q)

pub cutting : (n st : ℕ) (x : List ℕ) → Whole x → starts_with 35 x ≡ true → (l : ℕ) (ms : List Mark) (k : ℕ)
    → loop n comment_turn st x ≡ ok l ms k → Cutting st x l ms k
unfolding loop starts_with
cutting zero st x w h l ms k e = let z : ◌≡◌ {A = ℕ} 0 1 = cc in absurd (omega arith)
cutting (suc n) st [] w h l ms k e = clash h refl
cutting (suc n) st (b ∷ bs) w h l ms k e =
    line-cut n st b bs w h l ms k e (λ st' x v g l' ms' k' f. cutting n st' x v g l' ms' k' f) (line_of st b bs w h)
