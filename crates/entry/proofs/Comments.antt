-- Lines of a comment: a turn at places of a source, and the loop over turns with marks.
use Rattle.std.specs.Prelude.{◌≡◌, ℕ, ◌+◌, ◌-◌, ◌*◌, ◌<◌, ◌≤◌, Bool, true, false, not, ◌&&◌, ◌||◌, eqb, ltb, List, [], ◌∷◌, length, take, drop, Result, Ok, Err, Option, Some, None, is_some, IsSome}
use mathlib.Core.Path.{refl, sym, ap, ap₂, ◌∙◌}
use native.Mathlib.Nat.{not-suc-le-zero, add-zero}
use native.Mathlib.Omega.{arith}
use lib.ListN.{length-drop, drop_of_length-le}
use lib.Seq.{drop-drop, take_all}
use Rattle.std.specs.List.{take_while}
use Rattle.std.proofs.lemmas.List.Folds.{length-prefix_len}
use borrow.Author.Tests.{ne_eqb, ltb-true}
use Rattle.syntax.specs.Byte as Byte
use Rattle.syntax.specs.Kind as Kind
use Rattle.syntax.specs.Bytes.{starts_with, run, eol}
use Rattle.syntax.specs.declared.errors.ErrorKind.TheVariants.{ExpectedToken}
use Rattle.syntax.specs.declared.errors.ParserError.{ParserError}
use Rattle.syntax.specs.Errors.{fault_at, up_fault}
use Rattle.syntax.specs.Helper.{take_byte_if, skip_eol}
use Rattle.syntax.specs.Marks.{text_node}
use Rattle.syntax.specs.Reader.{ok, bad, after, fail, Turn, again, done, repeat}
use Rattle.syntax.specs.Comment.{line_length, level_of, line_end_used, line_read, line_turn, comment_turn, get_comment}
use Rattle.laws.specs.Bytes.{by_case, clash, run-le}
use Rattle.laws.specs.Loop.{turn-moves, repeat-done}
use Rattle.laws.specs.Loop.Turns.{comment_turn-moves}
use Rattle.laws.specs.Moving.{up_fault-twice}
use Rattle.entry.specs.declared.source.Source.{Source}
use Rattle.entry.specs.declared.marks.Marks.{Marks}
use Rattle.entry.specs.declared.comment.Level.{Level}
use Rattle.entry.specs.declared.comment.Level.TheVariants.{Regular, Group, Resource}
use Rattle.entry.specs.Level.{number_if}
use Rattle.entry.specs.Place.{Passed, Went, Tests, is_eol}
use Rattle.entry.specs.declared.errors.Stop.{Stop}
use Rattle.entry.specs.declared.errors.Stop.TheVariants.{Error}
use Rattle.entry.specs.declared.parser.Parser.{Parser}
use Rattle.entry.specs.Marks.{Wrote}
use Rattle.entry.specs.Did.{yes, no, told, Did}
use Rattle.entry.specs.Reads.{rest, Counts, Goes, Entered, Frame, ReadsOf}
use Rattle.entry.specs.Tree.{word}
use Rattle.entry.proofs.Tests.{by}
use Rattle.entry.proofs.Run.{run_take}
use Rattle.entry.proofs.Settle.{run-prefix}
use Rattle.entry.proofs.Steps.{step-none}
use Rattle.entry.proofs.Moves.{took, took_one, took-none}
use Rattle.entry.proofs.Lines.{ended, line-ends}
use Rattle.entry.proofs.Chains.{frame-none, frame-then}
use Rattle.entry.proofs.Dids.{fault-here, words-none, text-placed, did-again}

-- ---- the level

abbrev is_hash : ℕ → Bool
is_hash b = eqb b Byte.hash

pub hashes-counted : (s : List ℕ) (at n : ℕ) → at ≤ length s
    → n ≡ length (take_while is_hash (take 3 (take (length s - at) (drop at s)))) → Passed s at (level_of (drop at s)) (at + n) × (n ≡ level_of (drop at s)) × (n ≤ 3)
unfolding level_of
hashes-counted s at n l h =
    let d : length (drop at s) ≡ length s - at = length-drop at s in
    let q : length (drop at s) ≤ length s - at = omega arith in
    let y : take (length s - at) (drop at s) ≡ drop at s = take_all (length s - at) (drop at s) q in
    let k : n ≡ length (take_while is_hash (take 3 (drop at s))) = rw y at h in
    let r : n ≡ run is_hash (take 3 (drop at s)) = k ∙ length-prefix_len is_hash (take 3 (drop at s)) ∙ run-prefix is_hash (take 3 (drop at s)) in
    let t = run_take is_hash 3 (drop at s) in
    let w = run-le is_hash (drop at s) in
    (record { end = omega arith; within = omega arith }, omega arith, omega arith)

pub told-some : (o : Option Level) → 0 < number_if o → IsSome o
told-some (Some l) h = refl
told-some None h = absurd (not-suc-le-zero h)

pub none-level : (o : Option Level) → is_some o ≡ false → number_if o ≡ 0
none-level None h = refl
none-level (Some l) h = clash refl h

pub some-level : (o : Option Level) → is_some o ≡ true → number_if o ≡ 0 → ⊥
some-level None h = clash h refl
some-level (Some Regular) h = λ e. omega (arith, e)
some-level (Some Group) h = λ e. omega (arith, e)
some-level (Some Resource) h = λ e. omega (arith, e)

-- ---- a turn as places

-- a line of the level l, whose text goes from a to e; the next may start at k
pub record LineAt (s : List ℕ) (at : ℕ) (t : Turn ℕ ℕ) (l a e k : ℕ) : Type 0 where
  pub turn : t ≡ again l (text_node Kind.comment_line (a - at) (e - at)) (k - at)
  pub opens : at ≤ a
  pub text : a ≤ e
  pub onward : e ≤ k
  pub within : k ≤ length s

-- a comment of the level l ends at k
pub record EndAt (s : List ℕ) (at : ℕ) (t : Turn ℕ ℕ) (l k : ℕ) : Type 0 where
  pub turn : t ≡ done (ok l [] (k - at))
  pub onward : at ≤ k
  pub within : k ≤ length s

-- it fails with the error f, and reading stopped at k
pub record BadAt (s : List ℕ) (at : ℕ) (t : Turn ℕ ℕ) (f : ParserError) (k : ℕ) : Type 0 where
  pub fault : ParserError
  pub turn : t ≡ done (bad fault (k - at))
  pub moved : f ≡ up_fault at fault
  pub onward : at ≤ k
  pub within : k ≤ length s

-- ---- the end of a line

line-stops : (x : List ℕ) → is_eol (drop (line_length x) x) ≡ true
unfolding is_eol line_length
line-stops [] = refl
line-stops (b ∷ x) = by_case (ltb 0 (eol (b ∷ x))) (λ q. rw (q, line_length) q) (λ q. rw (q, line_length) (line-stops x))

pub passed-line : {s : List ℕ} {at i : ℕ} → Passed s at (line_length (drop at s)) i → is_eol (drop i s) ≡ true
passed-line {s} {at} g = let e = g.end in rw (e, ← drop-drop) (line-stops (drop at s))

eol-some : (x : List ℕ) → is_eol x ≡ true → 0 < length x → 0 < eol x
unfolding is_eol
eol-some [] h l = absurd (not-suc-le-zero l)
eol-some (b ∷ x) h l = ltb-true 0 (eol (b ∷ x)) h

module _ (r : List ℕ) where
  used-end : drop (eol r) r ≡ [] → line_end_used r ≡ eol r
  unfolding line_end_used
  used-end e = rw (e, line_end_used)

  used-hash : (z : List ℕ) → drop (eol r) r ≡ z → starts_with Byte.hash z ≡ true → line_end_used r ≡ eol r
  unfolding line_end_used starts_with
  used-hash [] e h = clash h refl
  used-hash (b ∷ z) e h = rw (e, line_end_used, h)

  used-other : (z : List ℕ) → drop (eol r) r ≡ z → 0 < length z → starts_with Byte.hash z ≡ false → line_end_used r ≡ eol r - 1
  unfolding line_end_used starts_with
  used-other [] e l h = absurd (not-suc-le-zero l)
  used-other (b ∷ z) e l h = rw (e, line_end_used, h)

pub line-over : {s : List ℕ} {at i : ℕ} {r : Bool} → Went s at (skip_eol (drop at s)) r i → Passed s at (eol (drop at s)) i
line-over w = record { end = (ended w).end; within = w.within }

-- where the line end ends at i
module _ {s : List ℕ} {at i : ℕ} (p : Passed s at (eol (drop at s)) i) where
  after-end : drop (eol (drop at s)) (drop at s) ≡ drop i s
  after-end = let e = p.end in rw (drop-drop, e)

  pub used-last : i ≡ length s → Passed s at (line_end_used (drop at s)) i
  used-last h =
      let l : length s ≤ i = omega arith in
      let e = used-end (drop at s) (after-end ∙ drop_of_length-le s l) in
      record { end = omega (arith, p.end); within = p.within }

  pub feed-some : is_eol (drop at s) ≡ true → at ≤ length s → (i ≡ length s → ⊥) → at < i
  feed-some g a n =
      let w = p.within in
      let some = eol-some (drop at s) g (omega (arith, length-drop at s, p.end)) in
      omega (arith, p.end)

  module _ {r : Bool} (t : Tests (starts_with Byte.hash) s i r) where
    pub used-comment : r ≡ true → Passed s at (line_end_used (drop at s)) i
    used-comment h = let e = used-hash (drop at s) (drop i s) after-end (by t.is h) in
        record { end = omega (arith, p.end); within = p.within }

    pub used-feed : is_eol (drop at s) ≡ true → at ≤ length s → (i ≡ length s → ⊥) → r ≡ false
        → Passed s at (line_end_used (drop at s)) (i - 1)
    used-feed g a n h =
        let w = p.within in
        let some = feed-some g a n in
        let e = used-other (drop at s) (drop i s) after-end (omega (arith, length-drop i s)) (by t.is h) in
        record { end = omega (arith, p.end); within = omega arith }

-- ---- a line after its '#'

module _ (level l : ℕ) where
  line-none : (x : List ℕ) → x ≡ [] → line_turn level l x ≡ done (ok l [] l)
  unfolding line_turn
  line-none x e = rw e

  line-empty : (x : List ℕ) → is_eol x ≡ true → 0 < length x → line_turn level l x ≡ line_read l l 0 x
  unfolding line_turn is_eol
  line-empty [] h n = absurd (not-suc-le-zero n)
  line-empty (b ∷ x) h n = rw (h, line_turn)

  line-text : (x : List ℕ) → is_eol x ≡ false → starts_with Byte.space x ≡ true
      → line_turn level l x ≡ line_read l (l + 1) (line_length (drop 1 x)) (drop (line_length (drop 1 x)) (drop 1 x))
  unfolding line_turn is_eol starts_with
  line-text [] f h = clash h refl
  line-text (b ∷ x) f h = rw (f, line_turn, h)

  line-fails : (x : List ℕ) → is_eol x ≡ false → starts_with Byte.space x ≡ false → level ≡ 0
      → line_turn level l x ≡ done (after [] l (fail (ExpectedToken Byte.space) x))
  unfolding line_turn is_eol starts_with
  line-fails [] f h e = clash refl f
  line-fails (b ∷ x) f h e = rw (f, line_turn, h, e)

  line_other : (x : List ℕ) → is_eol x ≡ false → starts_with Byte.space x ≡ false → (level ≡ 0 → ⊥)
      → line_turn level l x ≡ done (ok level [] 0)
  unfolding line_turn is_eol starts_with
  line_other [] f h e = clash refl f
  line_other (b ∷ x) f h e = rw (f, line_turn, h, ne_eqb level 0 e)

-- ---- a turn

abbrev over : ℕ → ℕ → Bool
over level l = eqb l 0 || (not (eqb level 0) && not (eqb l level))

-- a line whose text goes from a to e
line_made : {s : List ℕ} {at l a e k : ℕ} {t : Turn ℕ ℕ} → t ≡ line_read l (a - at) (e - a) (drop e s) → at ≤ a → a ≤ e
    → Passed s e (line_end_used (drop e s)) k → LineAt s at t l a e k
unfolding line_read
line_made {s} {at} {l} {a} {e} {k} h o x p =
    let till : a - at + (e - a) ≡ e - at = omega arith in
    let used : e - at + line_end_used (drop e s) ≡ k - at = omega (arith, p.end) in
    record { turn = h ∙ rw (till, used); opens = o; text = x; onward = omega (arith, p.end); within = p.within }

-- l '#' stand at the place
module _ {s : List ℕ} {at : ℕ} (level l : ℕ) (p : Passed s at (level_of (drop at s)) (at + l)) {r : Bool} (o : r ≡ over level l) where
  same : level_of (drop at s) ≡ l
  same = omega (arith, p.end)

  is : over level (level_of (drop at s)) ≡ r
  is = rw same (sym o)

  pub turn-over : r ≡ true → at ≤ length s → EndAt s at (comment_turn level (drop at s)) level at
  unfolding comment_turn
  turn-over h a = let z : at - at ≡ 0 = omega arith in record { turn = rw (is ∙ h, comment_turn, z); onward = omega arith; within = a }

  module _ (h : r ≡ false) where
    goes : comment_turn level (drop at s) ≡ line_turn level l (drop (at + l) s)
    unfolding comment_turn
    goes = rw (is ∙ h, comment_turn, same, drop-drop)

    pub turn_last : at + l ≡ length s → EndAt s at (comment_turn level (drop at s)) l (at + l)
    turn_last e =
        let z : at + l - at ≡ l = omega arith in
        let g : length s ≤ at + l = omega arith in
        record { turn = goes ∙ line-none level l _ (drop_of_length-le s g) ∙ rw z; onward = omega arith; within = p.within }

    module _ {b : Bool} (u : b ≡ is_eol (drop (at + l) s)) where
      pub turn-empty : {k : ℕ} → b ≡ true → (at + l ≡ length s → ⊥)
          → Passed s (at + l) (line_end_used (drop (at + l) s)) k
          → LineAt s at (comment_turn level (drop at s)) l (at + l) (at + l) k
      turn-empty e n q =
          let w = p.within in
          let z : at + l - at ≡ l = omega arith in
          let y : at + l - (at + l) ≡ 0 = omega arith in
          line_made (goes ∙ line-empty level l _ (by u e) (omega (arith, length-drop (at + l) s)) ∙ rw (z, y)) (omega arith) (omega arith) q

      module _ {d : Bool} (v : Tests (starts_with Byte.space) s (at + l) d) (e : b ≡ false) where
        pub turn-text : {i k : ℕ} → d ≡ true → Passed s (at + l + 1) (line_length (drop (at + l + 1) s)) i
            → Passed s i (line_end_used (drop i s)) k → LineAt s at (comment_turn level (drop at s)) l (at + l + 1) i k
        turn-text {i} g m q =
            let z : at + l + 1 - at ≡ l + 1 = omega arith in
            let y : line_length (drop (at + l + 1) s) ≡ i - (at + l + 1) = omega (arith, m.end) in
            let x : at + l + 1 + (i - (at + l + 1)) ≡ i = omega (arith, m.end) in
            line_made
            (goes ∙ line-text level l _ (by u e) (by v.is g) ∙ rw (drop-drop 1 (at + l) s, drop-drop, y, x, z))
            (omega arith) (omega (arith, m.end)) q

        module _ (g : d ≡ false) where
          pub turn-fails : {f : ParserError} → level ≡ 0 → f ≡ fault_at (ExpectedToken Byte.space) (at + l)
              → BadAt s at (comment_turn level (drop at s)) f (at + l)
          unfolding after fail
          turn-fails n q =
              let z : at + l - at ≡ l + 0 = omega arith in
              record {
                fault = up_fault l (fault_at (ExpectedToken Byte.space) 0);
                turn = goes ∙ line-fails level l _ (by u e) (by v.is g) n ∙ rw z;
                moved = q
                    ∙ sym
                    (up_fault-twice at l (fault_at (ExpectedToken Byte.space) 0)
                    ∙ fault-here (ExpectedToken Byte.space) (at + l) refl);
                onward = omega arith;
                within = p.within;
              }

          pub turn-other : (level ≡ 0 → ⊥) → EndAt s at (comment_turn level (drop at s)) level at
          turn-other n =
              let z : at - at ≡ 0 = omega arith in
              let w = p.within in
              record { turn = goes ∙ line_other level l _ (by u e) (by v.is g) n ∙ rw z; onward = omega arith; within = omega arith }

-- the turn at a source, where l '#' were passed
module _ (s s₁ : Source) (level l : ℕ) (v : Counts s s₁ (level_of (rest s)) l) {r : Bool} (o : r ≡ over level l) where
  start : s₁.ptr ≡ s.ptr + l
  start = v.passes.passed.end ∙ ap (λ (k : ℕ). s.ptr + k) (sym v.told)

  leveled : Passed s.bytes.now s.ptr (level_of (drop s.ptr s.bytes.now)) (s.ptr + l)
  leveled = rw start at v.passes.passed

  pub at-over : r ≡ true → EndAt s.bytes.now s.ptr (comment_turn level (drop s.ptr s.bytes.now)) level s.ptr
  at-over h = turn-over level l leveled o h s.inside

  module _ (h : r ≡ false) where
    pub at-last : s₁.ptr ≡ length s₁.bytes.now → EndAt s.bytes.now s.ptr (comment_turn level (drop s.ptr s.bytes.now)) l s₁.ptr
    at-last e =
        let f : s.ptr + l ≡ length s.bytes.now = rw (start, v.passes.bytes) at e in
        rw start (turn_last level l leveled o h f)

    module _ {b : Bool} (u : b ≡ is_eol (rest s₁)) where
      ending : b ≡ is_eol (drop (s.ptr + l) s.bytes.now)
      ending = rw (start, v.passes.bytes) at u

      pub at-empty : {e k : ℕ} → b ≡ true → (s₁.ptr ≡ length s₁.bytes.now → ⊥) → Passed s₁.bytes.now s₁.ptr (line_length (rest s₁)) e
          → Passed s₁.bytes.now e (line_end_used (drop e s₁.bytes.now)) k
          → LineAt s.bytes.now s.ptr (comment_turn level (drop s.ptr s.bytes.now)) l s₁.ptr e k
      at-empty {e} {k} t n p q =
          let z = line-ends (rest s₁) (by u t) in
          let f : e ≡ s.ptr + l = p.end ∙ rw (z, start) (omega arith) in
          let m : s.ptr + l ≡ length s.bytes.now → ⊥ = rw (start, v.passes.bytes) at n in
          let q' : Passed s.bytes.now (s.ptr + l) (line_end_used (drop (s.ptr + l) s.bytes.now)) k = rw (f, v.passes.bytes) at q in
          rw (f, start) (turn-empty level l leveled o h ending t m q')

      module _ (s₂ : Source) {d : Bool} (f : b ≡ false) (g : Goes s₁ s₂ (take_byte_if Byte.space (rest s₁)) d) where
        space : Went s.bytes.now (s.ptr + l) (take_byte_if Byte.space (drop (s.ptr + l) s.bytes.now)) d s₂.ptr
        space = rw (start, v.passes.bytes) at g.went

        pub at-text : {e k : ℕ} → d ≡ true → Passed s₂.bytes.now s₂.ptr (line_length (rest s₂)) e
            → Passed s₂.bytes.now e (line_end_used (drop e s₂.bytes.now)) k
            → LineAt s.bytes.now s.ptr (comment_turn level (drop s.ptr s.bytes.now)) l s₂.ptr e k
        at-text {e} {k} t p q =
            let a = took_one Byte.space space t in
            let p' : Passed s.bytes.now (s.ptr + l + 1) (line_length (drop (s.ptr + l + 1) s.bytes.now)) e = rw (a, g.bytes, v.passes.bytes) at p in
            let q' : Passed s.bytes.now e (line_end_used (drop e s.bytes.now)) k = rw (g.bytes, v.passes.bytes) at q in
            rw a (turn-text level l leveled o h ending (took Byte.space space) f t p' q')

        pub at-fails : d ≡ false → level ≡ 0
            → BadAt s.bytes.now s.ptr (comment_turn level (drop s.ptr s.bytes.now)) (fault_at (ExpectedToken Byte.space) s₂.ptr) s₂.ptr
        at-fails t n = rw (took-none Byte.space space t) (turn-fails level l leveled o h ending (took Byte.space space) f t n refl)

        pub at-other : d ≡ false → (level ≡ 0 → ⊥) → EndAt s.bytes.now s.ptr (comment_turn level (drop s.ptr s.bytes.now)) level s.ptr
        at-other t n = turn-other level l leveled o h ending (took Byte.space space) f t n

-- ---- the loop: what is read from here on gives what was to be read from the start

pub record Commenting (p₀ p : Parser) (level : ℕ) : Type 0 where
  pub frame : Frame p₀.source p.source p₀.tree.now p.tree.now
  pub spent : p.tree.now.count ≤ 8 * p.source.ptr + 1
  pub rest : (s₂ : Source) (m₂ : Marks) (r : Result ℕ Stop)
      → ReadsOf (λ l. l) p.source s₂ p.tree.now m₂ r (repeat comment_turn level (drop p.source.ptr p.source.bytes.now))
      → ReadsOf (λ l. l) p₀.source s₂ p₀.tree.now m₂ r (get_comment (drop p₀.source.ptr p₀.source.bytes.now))

pub commenting-none : (p : Parser) → Entered p → Commenting p p 0
unfolding get_comment
commenting-none p e = record { frame = frame-none p.source p.tree.now; spent = e.spent; rest = λ s₂ m₂ r d. d }

module _ {p₀ p : Parser} {level : ℕ} (g : Commenting p₀ p level) where
  pub commenting-line : {p' : Parser} {l a e : ℕ} → p'.source.bytes ≡ p.source.bytes
      → LineAt p.source.bytes.now p.source.ptr (comment_turn level (drop p.source.ptr p.source.bytes.now)) l a e p'.source.ptr
      → Wrote p.tree.now p'.tree.now (word Kind.comment_line a ∷ word (Kind.closing Kind.comment_line) e ∷ []) → Commenting p₀ p' l
  unfolding text_node
  commenting-line {p'} {l} {a} {e} b h z =
      let s : List ℕ = p.source.bytes.now in
      let at : ℕ = p.source.ptr in
      let from : a ≡ at + (a - at) = omega (arith, h.opens) in
      let till : e ≡ at + (e - at) = omega (arith, h.opens, h.text) in
      let moved = (turn-moves comment_turn-moves level (drop at s) h.turn).0 in
      let c = z.count in
      record {
        frame = frame-then g.frame (record { bytes = b; tree = z.same });
        spent = omega (arith, g.spent);
        rest =
            λ s₂ m₂ r d.
            let d' : Did (λ l. l) p.tree.now.capacity p'.source.ptr p'.tree.now.count p'.tree.now.words.now m₂.words.now (told r s₂.ptr m₂.count)
            (repeat comment_turn l (drop p'.source.ptr s)) = rw (z.same.capacity, b) at d.did in
            g.rest s₂ m₂ r
            (record {
              frame = frame-then (record { bytes = b; tree = z.same }) d.frame;
              did =
                  did-again comment_turn-moves s level h.turn (omega arith) c
                  (rw (text-placed at a e _ _ Kind.comment_line from till) z.step) d';
            });
      }

  module _ {s' : Source} {m' : Marks} (b : s'.bytes ≡ p.source.bytes) (t : m' ≡ p.tree.now) where
    still : Frame p.source s' p.tree.now m'
    still = record { bytes = b; tree = rw t (record { words = refl; capacity = refl }) }

    pub commenting-end : {l : ℕ} → EndAt p.source.bytes.now p.source.ptr (comment_turn level (drop p.source.ptr p.source.bytes.now)) l s'.ptr
        → ReadsOf (λ l. l) p₀.source s' p₀.tree.now m' (Ok l) (get_comment (drop p₀.source.ptr p₀.source.bytes.now))
    commenting-end {l} h =
        let at : ℕ = p.source.ptr in
        let e : s'.ptr ≡ at + (s'.ptr - at) = omega (arith, h.onward) in
        g.rest s' m' (Ok l)
        (record {
          frame = still;
          did =
              rw (t, repeat-done comment_turn level (drop at p.source.bytes.now) h.turn)
              (record { answers = ap₂ (yes l) e (sym (add-zero p.tree.now.count)); wrote = rw words-none (step-none p.tree.now.capacity p.tree.now.count p.tree.now.words.now) });
        })

    pub commenting-bad : {f : ParserError} → BadAt p.source.bytes.now p.source.ptr (comment_turn level (drop p.source.ptr p.source.bytes.now)) f s'.ptr
        → ReadsOf (λ l. l) p₀.source s' p₀.tree.now m' (Err (Error f)) (get_comment (drop p₀.source.ptr p₀.source.bytes.now))
    commenting-bad {f} h =
        let at : ℕ = p.source.ptr in
        let e : s'.ptr ≡ at + (s'.ptr - at) = omega (arith, h.onward) in
        g.rest s' m' (Err (Error f))
        (record {
          frame = still;
          did =
              rw (t, repeat-done comment_turn level (drop at p.source.bytes.now) h.turn)
              (record { answers = ap₂ no h.moved e; wrote = rw words-none (step-none p.tree.now.capacity p.tree.now.count p.tree.now.words.now) });
        })
