-- What a theorem on a cut needs of a file: its entries where there is no junk, and the blank lines between them.
use Rattle.std.specs.Prelude.{ℕ, zero, suc, ◌+◌, ◌≤◌, ◌<◌, ◌≡◌, false, ◌&&◌, length, ltb}
use Rattle.std.proofs.Common.{not-suc-le-zero, add-zero, zero-add, sym, ◌∙◌, subst}
use native.Mathlib.Omega.{arith}
use Rattle.std.proofs.Math.Path.{refl, ap}
use Rattle.std.proofs.Math.Bool.{true}
use mathlib.Core.List.{List, [], ◌∷◌, ◌++◌, map}
use Rattle.std.proofs.Math.ListN.{drop}
use Rattle.std.proofs.Math.Dec.{eqb}
use borrow.Author.Tests.{eqb-true, le-ltb}
use Rattle.syntax.specs.declared.errors.CharRange.TheVariants.{Letters}
use Rattle.syntax.specs.declared.errors.ErrorKind.TheVariants.{ExpectedCharRange}
use Rattle.syntax.specs.Bytes.{starts_with, starts, is_letter, spaces, eol, run}
use Rattle.syntax.specs.Marks.{Mark, plain, placed, kind_of, move_up, node}
use Rattle.syntax.specs.declared.errors.ParserError.{ParserError}
use Rattle.syntax.specs.Reader.{Out, ok, bad, deep, fail, next, ◌>>=◌, after, loop, repeat}
use Rattle.syntax.specs.Helper.{skip_blank_block, block_turn, get_identifier}
use Rattle.syntax.specs.Comment.{get_comment}
use Rattle.syntax.specs.Pattern.{Inside, used_by}
use Rattle.syntax.specs.Core.{fields, Entry, as_message, as_comment, get_entry, Error, up_error, Reading, read, refused}
use Rattle.syntax.specs.Core.{following, is_named, count, kind_of_entry, entries}
use Rattle.laws.specs.Bytes.{Fresh, by_case, clash, fresh-spaces, fresh-eol}
use Rattle.laws.specs.File.{junk, entries-first, entries_far}
use Rattle.laws.specs.Answers.{Holds, TurnHolds, loop-holds, sure-ok}
use Rattle.laws.specs.Stable.Helper.{block-sure}
use Rattle.laws.specs.Stable.Entry.{dotted}
use Rattle.laws.specs.Stable.Comment.{after-ok}

-- ---- readings

pub following-read : (ms : List Mark) (k : ℕ) (r : Reading) (ns : List Mark) (es : List Error) → following ms [] k r ≡ read ns es
    → (ns' : List Mark) × (es' : List Error) × (r ≡ read ns' es') × (ms ++ move_up k ns' ≡ ns) × (map (up_error k) es' ≡ es)
unfolding following
following-read ms k (read ns' es') ns es e = (ns', es', refl, cc, cc)
following-read ms k (refused j) ns es e = let z : ◌≡◌ {A = ℕ} 0 1 = cc in absurd (omega arith)

pub read-read : (r : Reading) (ms ns : List Mark) (es fs : List Error) → r ≡ read ms es → r ≡ read ns fs → (ms ≡ ns) × (es ≡ fs)
read-read r ms ns es fs p q = (cc, cc)

pub map-nil : (k : ℕ) (es : List Error) → map (up_error k) es ≡ [] → es ≡ []
map-nil k [] e = refl
map-nil k (x ∷ xs) e = let z : ◌≡◌ {A = ℕ} 0 1 = cc in absurd (omega arith)

-- the marks of a reading, weighed
abbrev pub weight : List Mark → ℕ
weight [] = 0
weight (m ∷ ms) = kind_of m + weight ms

pub weight-append : (ms ns : List Mark) → weight (ms ++ ns) ≡ weight ms + weight ns
weight-append [] ns = sym (zero-add (weight ns))
weight-append (m ∷ ms) ns = let h = weight-append ms ns in omega arith

pub weight-up : (k : ℕ) (ms : List Mark) → weight (move_up k ms) ≡ weight ms
unfolding move_up
weight-up k [] = refl
weight-up k (plain i ∷ ms) = ap (λ n. i + n) (weight-up k ms)
weight-up k (placed i p ∷ ms) = ap (λ n. i + n) (weight-up k ms)

pub weight-node : (k : ℕ) (ms : List Mark) → weight (node k ms) ≡ k + k + 100 + weight ms
unfolding node
weight-node k ms = let h = weight-append ms (plain (100 + k) ∷ []) in omega arith

some-error : (ms : List Mark) (x : Error) (k : ℕ) (r : Reading) (ns : List Mark) → following ms (x ∷ []) k r ≡ read ns [] → ⊥
unfolding following
some-error ms x k (read os es) ns h = let z : ◌≡◌ {A = ℕ} 0 1 = cc in omega arith
some-error ms x k (refused j) ns h = let z : ◌≡◌ {A = ℕ} 0 1 = cc in omega arith

module _ (sub : Inside) where
  pub entries_with : (n b : ℕ) (bs : List ℕ) (e : Entry) (ms : List Mark) (k c u : ℕ) (gs : List Mark) (r : List ℕ)
      → get_entry sub (b ∷ bs) ≡ ok e ms k
      → skip_blank_block (drop k (b ∷ bs)) ≡ ok c gs u → drop (k + u) (b ∷ bs) ≡ r
      → entries (suc n) sub (b ∷ bs) ≡ following (node (kind_of_entry e (ltb c 2 && is_named (get_entry sub r))) ms) []
      (k + u) (entries n sub r)
  unfolding entries used_by count
  entries_with n b bs e ms k c u gs r p q d = rw (p, entries)
      (ap
      (λ g. following
      (node (kind_of_entry e (ltb (count g) 2 && is_named (get_entry sub (drop (k + used_by g) (b ∷ bs))))) ms) []
      (k + used_by g) (entries n sub (drop (k + used_by g) (b ∷ bs)))) q
      ∙ ap (λ z. following (node (kind_of_entry e (ltb c 2 && is_named (get_entry sub z))) ms) [] (k + u) (entries n sub z)) d)

  pub junk-free : (n b : ℕ) (bs : List ℕ) (ma : List Mark) (f : ParserError) (k : ℕ)
      → entries (suc n) sub (b ∷ bs) ≡ read ma [] → get_entry sub (b ∷ bs) ≡ bad f k → ⊥
  junk-free n b bs ma f k e p = some-error _ _ _ _ ma (sym (entries-first sub n (junk p)) ∙ e)

  pub not-deep : (n b : ℕ) (bs : List ℕ) (ma : List Mark) (es : List Error) (k : ℕ)
      → entries (suc n) sub (b ∷ bs) ≡ read ma es → get_entry sub (b ∷ bs) ≡ deep k → ⊥
  not-deep n b bs ma es k e p = let q = entries_far sub n b bs p in let z : ◌≡◌ {A = ℕ} 0 1 = cc in omega arith

  -- the first entry of a source that is read without junk
  pub record Step (n : ℕ) (s : List ℕ) (ma : List Mark) : Type 0 where
    pub e : Entry
    pub ms : List Mark
    pub k : ℕ
    pub c : ℕ
    pub gs : List Mark
    pub u : ℕ
    pub mr : List Mark
    pub entry : get_entry sub s ≡ ok e ms k
    pub gap : skip_blank_block (drop k s) ≡ ok c gs u
    pub rest : entries n sub (drop (k + u) s) ≡ read mr []
    pub marks : node (kind_of_entry e (ltb c 2 && is_named (get_entry sub (drop (k + u) s)))) ms ++ move_up (k + u) mr ≡ ma

  pub step_of : (n b : ℕ) (bs : List ℕ) (ma : List Mark) → entries (suc n) sub (b ∷ bs) ≡ read ma [] → Step n (b ∷ bs) ma
  step_of n b bs ma h = go (get_entry sub (b ∷ bs)) refl
    where
      go : (o : Out Entry) → get_entry sub (b ∷ bs) ≡ o → Step n (b ∷ bs) ma
      go (ok e ms k) p =
          let (c, gs, u, g) = sure-ok (skip_blank_block (drop k (b ∷ bs))) (block-sure (drop k (b ∷ bs))) in
          let (mr, er, r, m, x) =
          following-read (node (kind_of_entry e (ltb c 2 && is_named (get_entry sub (drop (k + u) (b ∷ bs))))) ms)
          (k + u) (entries n sub (drop (k + u) (b ∷ bs))) ma []
          (sym (entries_with n b bs e ms k c u gs (drop (k + u) (b ∷ bs)) p g refl) ∙ h) in
          record {
            e = e;
            ms = ms;
            k = k;
            c = c;
            gs = gs;
            u = u;
            mr = mr;
            entry = p;
            gap = g;
            rest = ◌∙◌ {b = read mr er} r (ap (read mr) (map-nil (k + u) er x));
            marks = m;
          }
      go (bad f k) p = absurd (junk-free n b bs ma f k h p)
      go (deep k) p = absurd (not-deep n b bs ma [] k h p)

-- ---- blank blocks

pub block_none : (s : List ℕ) → eol (drop (spaces s) s) ≡ 0 → skip_blank_block s ≡ ok 0 [] 0
unfolding skip_blank_block repeat loop block_turn
block_none s e = rw (e, skip_blank_block, repeat, loop, block_turn) refl

pub block-fresh : (y : List ℕ) → Fresh y → skip_blank_block y ≡ ok 0 [] 0
block-fresh y f = block_none y (rw (fresh-spaces y f) (fresh-eol y f))

pub block-ten : (r : List ℕ) → skip_blank_block (10 ∷ r) ≡ after [] 1 (loop (suc (length r)) block_turn 1 r)
unfolding skip_blank_block repeat loop block_turn spaces run eol
block-ten r = refl

-- how many line ends a block passes: one for each turn
abbrev Counted : ℕ → List ℕ → ℕ → List Mark → ℕ → Type 0
Counted st s a ms k = (st ≤ a) × (0 < k → st < a)

counted : (n st : ℕ) (s : List ℕ) → Holds (Counted st s) (loop n block_turn st s)
counted n st s = loop-holds block_turn Counted turns n st s
  where
    turns : (st : ℕ) (s : List ℕ) → TurnHolds block_turn Counted st s (block_turn st s)
    turns st s = unfold block_turn in by_case (ltb 0 (eol (drop (spaces s) s)))
        (λ q. rw (q, TurnHolds, block_turn) (λ a ns j g. (omega (arith, g.0), λ h. omega (arith, g.0))))
        (λ q. rw (q, TurnHolds, block_turn) (omega arith, λ h. absurd (not-suc-le-zero h)))

-- two line ends at least, where a newline and something more is passed
pub block-two : (c : ℕ) (cs : List ℕ) (a : ℕ) (ms : List Mark) (k : ℕ) → skip_blank_block (10 ∷ c ∷ cs) ≡ ok a ms k → 1 < k → ltb a 2 ≡ false
block-two c cs a ms k e h =
    let (ns, j, o, m, q) = after-ok [] 1 (loop (suc (length (c ∷ cs))) block_turn 1 (c ∷ cs)) a ms k (sym (block-ten (c ∷ cs)) ∙ e) in
    let g = subst (Holds (Counted 1 (c ∷ cs))) o (counted (suc (length (c ∷ cs))) 1 (c ∷ cs)) in
    le-ltb a 2 (g.1 (omega arith))

pub block_one : (y : List ℕ) → Fresh y → skip_blank_block (10 ∷ y) ≡ ok 1 [] 1
unfolding after loop block_turn move_up
block_one y f = block-ten y ∙ rw (fresh-spaces y f, loop, block_turn) (rw (fresh-eol y f) refl)

-- ---- entries

comment-named : (o : Out ℕ) → is_named (as_comment o) ≡ false
unfolding as_comment is_named
comment-named (ok l ms k) = refl
comment-named (bad f k) = refl
comment-named (deep k) = refl

module _ (sub : Inside) where
  pub entry-comment : (c : ℕ) (cs : List ℕ) → eqb c 35 ≡ true → get_entry sub (c ∷ cs) ≡ as_comment (get_comment (c ∷ cs))
  unfolding get_entry starts_with
  entry-comment c cs q = rw (q, get_entry) refl

  pub hash-named : (c : ℕ) (cs : List ℕ) → eqb c 35 ≡ true → is_named (get_entry sub (c ∷ cs)) ≡ false
  hash-named c cs q = ap is_named (entry-comment c cs q) ∙ comment-named (get_comment (c ∷ cs))

  pub nil-entry : (f : ParserError) × (k : ℕ) × (get_entry sub [] ≡ bad f k)
  unfolding get_entry starts_with as_message fields ◌>>=◌ next get_identifier starts fail
  nil-entry = (
    record {
      start = 0;
      end = 1;
      kind = ExpectedCharRange Letters;
    },
    0,
    refl,
  )

  pub nil-named : is_named (get_entry sub []) ≡ false
  unfolding is_named
  nil-named = let (f, k, e) = nil-entry in ap is_named e

  -- what is no letter, '-' or '#' starts no entry
  pub no-entry : (b : ℕ) (bs : List ℕ) → eqb b 35 ≡ false → eqb b 45 ≡ false → is_letter b ≡ false → (f : ParserError)
      × (k : ℕ) × (get_entry sub (b ∷ bs) ≡ bad f k)
  unfolding get_entry starts_with as_message fields ◌>>=◌ next get_identifier starts fail
  no-entry b bs p q r = (
    record {
      start = 0;
      end = 1;
      kind = ExpectedCharRange Letters;
    },
    0,
    rw (p, get_entry) (rw q (rw (r, get_identifier) refl)),
  )

  dotted-bad : (b : ℕ) (bs : List ℕ) → dotted (b ∷ bs) ≡ true → (f : ParserError) × (k : ℕ) × (get_entry sub (b ∷ bs) ≡ bad f k)
  unfolding starts_with spaces run is_letter
  dotted-bad b bs h = by_case (eqb b 32)
      (λ q. let z = eqb-true b 32 q in no-entry b bs (rw z refl) (rw z refl) (rw z refl))
      (λ q. let g : eqb b 46 ≡ true = rw (q, run) at h in let z = eqb-true b 46 g in no-entry b bs (rw z refl) (rw z refl) (rw z refl))

  dotted-block : (r : List ℕ) → dotted r ≡ true → eol (drop (spaces r) r) ≡ 0
  unfolding starts_with eol
  dotted-block r h = go (drop (spaces r) r) h
    where
      go : (z : List ℕ) → starts_with 46 z ≡ true → eol z ≡ 0
      go [] g = refl
      go (c ∷ cs) g = rw (eqb-true c 46 g) refl

  -- after an entry of a source that is read without junk stands no attribute
  pub not-dotted : (n : ℕ) (s : List ℕ) (ma : List Mark) (t : Step sub n s ma) → dotted (drop t.k s) ≡ false
  unfolding starts_with spaces run entries
  not-dotted n s ma t = by_case (dotted (drop t.k s)) (λ q. absurd (no q)) (λ q. q)
    where
      no : dotted (drop t.k s) ≡ true → ⊥
      no q =
          let b = block_none (drop t.k s) (dotted-block (drop t.k s) q) in
          let z : 0 ≡ t.u = zero_of (skip_blank_block (drop t.k s)) b t.gap in
          let d : drop (t.k + t.u) s ≡ drop t.k s = rw (← z) (ap (λ j. drop j s) (add-zero t.k)) in
          go n (drop t.k s) q (sym (ap (entries n sub) d) ∙ t.rest)
        where
          zero_of : (o : Out ℕ) → o ≡ ok 0 [] 0 → o ≡ ok t.c t.gs t.u → 0 ≡ t.u
          zero_of o p r = cc

          go : (n : ℕ) (r : List ℕ) → dotted r ≡ true → entries n sub r ≡ read t.mr [] → ⊥
          go zero r h e = let z : ◌≡◌ {A = ℕ} 0 1 = cc in omega arith
          go (suc n) [] h e = clash h refl
          go (suc n) (b ∷ bs) h e = let (f, k, p) = dotted-bad b bs h in junk-free sub n b bs t.mr f k e p
