-- Settling the marks of a pattern: the indent at a place, the marks that are passed, and the end of a text that is trimmed.
use Rattle.std.specs.Prelude.{◌≡◌, ℕ, suc, Option, Some, is_some, IfSome, ◌⊎◌, zero, not, ◌+◌, ◌-◌, ◌*◌, ◌^◌, ◌<◌, ◌≤◌, min, Bool, true, false, ◌&&◌, eqb, ltb, List, [], ◌∷◌, ◌++◌, map, length, get_or, take, drop, set}
use mathlib.Core.Path.{refl, sym, ap, ap₂, ◌∙◌}
use mathlib.Core.Logic.{⊎_elim}
use mathlib.Core.List.{append_assoc}
use native.Mathlib.Nat.{min-le_left}
use native.Mathlib.Decide.{dec_le}
use native.Mathlib.Omega.{arith}
use borrow.Author.Tests.{eq-eqb, ne_eqb, ltb-true, not-true, not-false}
use denote.Bor.{Bor}
use Rattle.std.proofs.Common.{All}
use Rattle.std.proofs.lemmas.List.Elements.{All-get_or}
use Rattle.std.specs.List.{prefix_len, take_while}
use Rattle.std.proofs.lemmas.List.Folds.{length-prefix_len}
use Rattle.std.proofs.lemmas.Grind.{get_or_default_zero}
use lib.ListN.{length-drop, length-map, drop_of_length-le}
use lib.Seq.{drop-drop, drop-append-le, get_or-set_other, take_all, length-take-le, drop_at, set-get_or}
use Rattle.syntax.specs.Bytes.{run, spaces}
use Rattle.syntax.specs.Pattern.{trimmed, is_continuation, goes_on}
use Rattle.entry.specs.Tree.{Word, word, marks_in, Step}
use Rattle.entry.specs.declared.source.Source.{Source}
use Rattle.entry.specs.declared.parser.Parser.{Parser}
use Rattle.entry.specs.Settle.{settle_word, is_trimmed, trim_words, trimmed_end, Within, NoLines, Remarks, Trimmable, Trimmed}
use Rattle.laws.specs.Bytes.{by_case, spaces-le}
use Rattle.laws.specs.Moving.{map-append}
use Rattle.laws.specs.Bounds.Pattern.{trimmed-le}
use Rattle.entry.proofs.Run.{run_take}
use Rattle.entry.proofs.Steps.{step-put, step_then, step-none, step_same, marks-length, marks-next}

-- ---- the spaces at a place
spaces-end : (s : List ℕ) (i : ℕ) → length s ≤ i → spaces (drop i s) ≡ 0
unfolding spaces run
spaces-end s i h = rw (drop_of_length-le s h)

pub run-prefix : (p : ℕ → Bool) (x : List ℕ) → prefix_len p x ≡ run p x
unfolding run
run-prefix p [] = refl
run-prefix p (b ∷ x) = by_case (p b) (λ q. rw (q, run) (let e = run-prefix p x in omega arith)) (λ q. rw (q, run) refl)

-- the spaces that the code counted
pub indent-counted : (s : List ℕ) (at most n : ℕ) (x : List ℕ) → x ≡ take (length s - at) (drop at s)
    → n ≡ length (take_while (λ b. eqb b 32) (take most x)) → n ≡ min (spaces (drop at s)) most
unfolding spaces
indent-counted s at most n x e h =
    let z = length-drop at s in
    let y : x ≡ drop at s = e ∙ take_all (length s - at) (drop at s) (omega arith) in
    let k : n ≡ run (λ b. eqb b 32) (take most x) = h ∙ length-prefix_len (λ b. eqb b 32) (take most x) ∙ run-prefix (λ b. eqb b 32) (take most x) in
    let t : run (λ b. eqb b 32) (take most x) ≡ min most (run (λ b. eqb b 32) (drop at s)) = rw y (run_take (λ b. eqb b 32) most (drop at s)) in
    omega arith

pub indent-outside : (s : List ℕ) (at most : ℕ) → (length s < at) ⊎ (length s < length s) → 0 ≡ min (spaces (drop at s)) most
indent-outside s at most h =
    let l : length s ≤ at = ⊎_elim (λ q. omega arith) (λ q. absurd (omega arith)) h in
    let e = spaces-end s at l in
    omega arith

-- ---- what the code looked up at a place
pub byte-got : (s : List ℕ) (i : ℕ) (r : Option (Bor ℕ)) (x : Bor ℕ) → is_some r ≡ ltb i (length s)
    → IfSome r (λ x. x.now ≡ get_or s i x.now) → r ≡ Some x → (i < length s) × (x.now ≡ get_or s i 0)
byte-got s i r x k f e =
    let k' : true ≡ ltb i (length s) = rw e at k in
    let f' : x.now ≡ get_or s i x.now = rw e at f in
    let l : i < length s = ltb-true i (length s) (sym k') in
    (l, f' ∙ get_or_default_zero s i x.now l)

-- ---- marks that open no text at the start of a line
pub no_lines-both : (xs ys : List Word) → NoLines xs → NoLines ys → NoLines (xs ++ ys)
no_lines-both [] ys p q = q
no_lines-both (word k i ∷ xs) ys p q = (p.0, no_lines-both xs ys p.1 q)

no_lines-parts : (xs ys : List Word) → NoLines (xs ++ ys) → NoLines xs × NoLines ys
no_lines-parts [] ys p = (tt, p)
no_lines-parts (word k i ∷ xs) ys p = let q = no_lines-parts xs ys p.1 in ((p.0, q.0), q.1)

pub no_lines-drop : (j : ℕ) (xs : List Word) → NoLines xs → NoLines (drop j xs)
no_lines-drop zero xs p = p
no_lines-drop (suc j) [] p = tt
no_lines-drop (suc j) (word k i ∷ xs) p = no_lines-drop j xs p.1

pub no_lines-add : (j : ℕ) (xs ys : List Word) → NoLines (drop j xs) → NoLines ys → NoLines (drop j (xs ++ ys))
no_lines-add zero xs ys p q = no_lines-both xs ys p q
no_lines-add (suc j) [] ys p q = no_lines-drop (suc j) ys q
no_lines-add (suc j) (x ∷ xs) ys p q = no_lines-add j xs ys p q

pub no_lines-less : (j : ℕ) (xs ys : List Word) → NoLines (drop j (xs ++ ys)) → NoLines (drop j xs)
no_lines-less zero xs ys p = (no_lines-parts xs ys p).0
no_lines-less (suc j) [] ys p = tt
no_lines-less (suc j) (x ∷ xs) ys p = no_lines-less j xs ys p

no_line-at : (cap n j : ℕ) (t : List ℕ) → NoLines (drop j (marks_in cap n t)) → (k : ℕ) → j ≤ k → k < n → get_or t (k + 2) 0 ≡ 200 → ⊥
unfolding marks_in
no_line-at cap zero j t h k a b = absurd (omega arith)
no_line-at cap (suc n) j t h k a b = go (dec_le (k + 1) n) (no_line-at cap n j t parts.0 k a)
  where
    parts : NoLines (drop j (marks_in cap n t)) × NoLines (word (get_or t (n + 2) 0) (get_or t (cap + n + 2) 0) ∷ [])
    parts = no_lines-parts (drop j (marks_in cap n t)) _ (rw (drop-append-le j (marks_in cap n t) _ (rw (marks-length cap n t) (omega arith))) at h)

    go : Dec (k + 1 ≤ n) → (k < n → get_or t (k + 2) 0 ≡ 200 → ⊥) → get_or t (k + 2) 0 ≡ 200 → ⊥
    go (yes c) f = f (omega arith)
    go (no c) f = let e : k ≡ n = omega arith in λ q. parts.1.0 (rw e at q)

-- ---- the marks of a settled text
-- a place keeps its width when the spaces there are passed
pub indent-fits : (s : List ℕ) (p most n : ℕ) → p < 2 ^ 32 → length s < 2 ^ 32 → n ≡ min (spaces (drop p s)) most → p + n < 2 ^ 32
indent-fits s p most n h l e = go (dec_le p (length s))
  where
    w : min (spaces (drop p s)) most ≤ spaces (drop p s)
    w = min-le_left (spaces (drop p s)) most

    go : Dec (p ≤ length s) → p + n < 2 ^ 32
    go (yes a) = let q = spaces-le (drop p s) in let r = length-drop p s in omega arith
    go (no a) = let q = spaces-end s p (omega arith) in omega arith

-- ---- the marks from `from` up to i are settled, those from i up to `to` are as they were
pub record Settling (s : List ℕ) (cap from to common : ℕ) (t t' : List ℕ) (i : ℕ) : Type 0 where
  pub order : (from ≤ i) × (i ≤ to)
  pub kinds : (k : ℕ) → i ≤ k → k < to → get_or t' (k + 2) 0 ≡ get_or t (k + 2) 0
  pub places : (k : ℕ) → i ≤ k → k < to → get_or t' (cap + k + 2) 0 ≡ get_or t (cap + k + 2) 0
  pub done : Step cap from t t' (map (settle_word s common) (drop from (marks_in cap i t)))

pub settle-none : (s : List ℕ) (cap from to common : ℕ) (t : List ℕ) → from ≤ to → Settling s cap from to common t t from
settle-none s cap from to common t h =
    record {
      order = (omega arith, h);
      kinds = λ k a b. refl;
      places = λ k a b. refl;
      done = rw (drop_of_length-le (marks_in cap from t) {i = from} (rw (marks-length cap from t) (omega arith))) (step-none cap from t);
    }

-- the next mark, where w is what it is and v what it becomes
settle-next : (s : List ℕ) (cap from to common : ℕ) (t t' t'' : List ℕ) (i : ℕ) → Settling s cap from to common t t' i → i < to
    → Step cap i t' t'' (settle_word s common (word (get_or t' (i + 2) 0) (get_or t' (cap + i + 2) 0)) ∷ [])
    → ((k : ℕ) → i < k → k < to → get_or t'' (k + 2) 0 ≡ get_or t' (k + 2) 0)
    → ((k : ℕ) → i < k → k < to → get_or t'' (cap + k + 2) 0 ≡ get_or t' (cap + k + 2) 0)
    → Settling s cap from to common t t'' (i + 1)
settle-next s cap from to common t t' t'' i g h d f e =
    record {
      order = (omega arith, omega arith);
      kinds = λ k a b. f k (omega arith) b ∙ g.kinds k (omega arith) b;
      places = λ k a b. e k (omega arith) b ∙ g.places k (omega arith) b;
      done = rw grown (step_then g.done count (rw (g.kinds i (omega arith) h, g.places i (omega arith) h) at d));
    }
  where
    w : Word
    w = word (get_or t (i + 2) 0) (get_or t (cap + i + 2) 0)

    count : i ≡ from + length (map (settle_word s common) (drop from (marks_in cap i t)))
    count = simp (length-map, length-drop, marks-length) (omega arith)

    grown : map (settle_word s common) (drop from (marks_in cap (i + 1) t)) ≡ map (settle_word s common)
        (drop from (marks_in cap i t))
        ++ (settle_word s common w ∷ [])
    grown =
        rw marks-next
        (ap (map (settle_word s common)) (drop-append-le from (marks_in cap i t) (w ∷ []) (rw (marks-length cap i t) (omega arith)))
        ∙ map-append (settle_word s common) (drop from (marks_in cap i t)) (w ∷ []))

pub line_word : (s : List ℕ) (common k p : ℕ) → k ≡ 200 → settle_word s common (word k p) ≡ word 12 (p + min (spaces (drop p s)) common)
unfolding settle_word
line_word s common k p e = rw (settle_word, eq-eqb k 200 e)

pub other_word : (s : List ℕ) (common k p : ℕ) → (k ≡ 200 → ⊥) → settle_word s common (word k p) ≡ word k p
unfolding settle_word
other_word s common k p f = rw (settle_word, ne_eqb k 200 f)

pub settle_other : (s : List ℕ) (cap from to common : ℕ) (t t' : List ℕ) (i : ℕ) → Settling s cap from to common t t' i → i < to
    → (get_or t' (i + 2) 0 ≡ 200 → ⊥) → Settling s cap from to common t t' (i + 1)
settle_other s cap from to common t t' i g h f =
    settle-next s cap from to common t t' t' i g h
    (rw (other_word s common (get_or t' (i + 2) 0) (get_or t' (cap + i + 2) 0) f) (step_same cap i t')) (λ k a b. refl)
    (λ k a b. refl)

pub settle-line : (s : List ℕ) (cap from to common : ℕ) (t t' : List ℕ) (i p : ℕ) → to ≤ cap → 2 + 2 * cap ≤ length t
    → Settling s cap from to common t t' i → i < to → get_or t' (i + 2) 0 ≡ 200
    → p ≡ min (spaces (drop (get_or t' (cap + i + 2) 0) s)) common
    → Settling s cap from to common t (set (set t' (i + 2) 12) (cap + i + 2) (get_or t' (cap + i + 2) 0 + p)) (i + 1)
settle-line s cap from to common t t' i p m l g h e q =
    let z = g.done.long in
    settle-next s cap from to common t t' _ i g h
    (rw (line_word s common (get_or t' (i + 2) 0) (get_or t' (cap + i + 2) 0) e, ← q)
    (step-put cap i t' 12 (get_or t' (cap + i + 2) 0 + p) (omega arith) (omega arith)))
    (λ k a b. get_or-set_other (set t' (i + 2) 12) (cap + i + 2) (k + 2) _ 0 (λ w. omega arith)
    ∙ get_or-set_other t' (i + 2) (k + 2) 12 0 (λ w. omega arith))
    (λ k a b. get_or-set_other (set t' (i + 2) 12) (cap + i + 2) (cap + k + 2) _ 0 (λ w. omega arith)
    ∙ get_or-set_other t' (i + 2) (cap + k + 2) 12 0 (λ w. omega arith))

settle-end : (s : List ℕ) (cap from to common : ℕ) (t t' : List ℕ) (i : ℕ) → Settling s cap from to common t t' i → to ≤ i
    → Step cap from t t' (map (settle_word s common) (drop from (marks_in cap to t)))
settle-end s cap from to common t t' i g h = let e : i ≡ to = omega (arith, g.order) in rw e at g.done

-- the marks from i on that open no text at the start of a line
settle-rest : (s : List ℕ) (cap from to common : ℕ) (t t' : List ℕ) (d i : ℕ) → to ≡ i + d → Settling s cap from to common t t' i
    → ((k : ℕ) → i ≤ k → k < to → get_or t (k + 2) 0 ≡ 200 → ⊥)
    → Step cap from t t' (map (settle_word s common) (drop from (marks_in cap to t)))
settle-rest s cap from to common t t' zero i e g f = settle-end s cap from to common t t' i g (omega arith)
settle-rest s cap from to common t t' (suc d) i e g f =
    settle-rest s cap from to common t t' d (i + 1) (omega arith)
    (settle_other s cap from to common t t' i g (omega arith)
    (λ q. f i (omega arith) (omega arith) (sym (g.kinds i (omega arith) (omega arith)) ∙ q)))
    (λ k a b. f k (omega arith) b)

-- where the loop ends, after which no text starts a line
pub settle-all : (s : List ℕ) (cap from to common j i : ℕ) (t t' : List ℕ) → Settling s cap from to common t t' i → min j to ≤ i
    → NoLines (drop (j - from) (drop from (marks_in cap to t)))
    → Step cap from t t' (map (settle_word s common) (drop from (marks_in cap to t)))
settle-all s cap from to common j i t t' g l h =
    settle-rest s cap from to common t t' (to - i) i (omega (arith, g.order)) g
    (λ k a b. no_line-at cap to (from + (j - from)) t (rw drop-drop at h) k (omega (arith, g.order)) b)

-- ---- trimming: the last byte that is not trimmed decides
trimmed-none : (x : List ℕ) → ((k : ℕ) → k < length x → not (is_trimmed (get_or x k 0)) ≡ false) → trimmed x ≡ 0
unfolding trimmed
trimmed-none [] f = refl
trimmed-none (b ∷ x) f =
    ap₂ (λ (v : Bool) (n : ℕ). elim (v && eqb n 0) [ true ↦ 0 | false ↦ suc n ]) (not-false (is_trimmed b) (f zero (omega arith)))
    (trimmed-none x (λ k h. f (suc k) (omega arith)))

trimmed-step : (v : Bool) (n : ℕ) → 0 < n → elim (v && eqb n 0) [ true ↦ 0 | false ↦ suc n ] ≡ suc n
trimmed-step true n h = rw (ne_eqb n 0 (λ e. omega arith))
trimmed-step false n h = refl

pub trimmed-at : (x : List ℕ) (i : ℕ) → i < length x → not (is_trimmed (get_or x i 0)) ≡ true
    → ((k : ℕ) → i + 1 ≤ k → k < length x → not (is_trimmed (get_or x k 0)) ≡ false) → i + 1 ≡ trimmed x
unfolding trimmed
trimmed-at [] i h e f = absurd (omega arith)
trimmed-at (b ∷ x) zero h e f =
    let q : trimmed (b ∷ x) ≡ 1 =
    ap₂ (λ (v : Bool) (n : ℕ). elim (v && eqb n 0) [ true ↦ 0 | false ↦ suc n ]) (not-true (is_trimmed b) e)
    (trimmed-none x (λ k l. f (suc k) (omega arith) (omega arith))) in
    omega arith
trimmed-at (b ∷ x) (suc i) h e f =
    let q = trimmed-at x i (omega arith) e (λ k l m. f (suc k) (omega arith) (omega arith)) in
    let r : trimmed (b ∷ x) ≡ suc (trimmed x) = trimmed-step (is_trimmed b) (trimmed x) (omega arith) in
    omega arith

pub trimmed-all : (x : List ℕ) → All (λ b. not (is_trimmed b) ≡ false) x → 0 ≡ trimmed x
trimmed-all x h = sym (trimmed-none x (λ k l. All-get_or (λ b. not (is_trimmed b) ≡ false) x k 0 l h))

two-marks : (cap n : ℕ) (t : List ℕ)
    → drop n (marks_in cap (n + 2) t) ≡ word (get_or t (n + 2) 0) (get_or t (cap + n + 2) 0)
    ∷ word (get_or t (n + 1 + 2) 0) (get_or t (cap + (n + 1) + 2) 0) ∷ []
two-marks cap n t =
    let e : n + 2 ≡ n + 1 + 1 = omega arith in
    ap (λ (k : ℕ). drop n (marks_in cap k t)) e
    ∙ rw (marks-next cap (n + 1) t, marks-next cap n t, append_assoc)
    (drop_at (marks_in cap n t) _ n (marks-length cap n t))

pub trim-yes : (s : List ℕ) (cap n : ℕ) (t : List ℕ) (e : ℕ) → n + 2 ≤ cap → 2 + 2 * cap ≤ length t → get_or t (n + 1 + 2) 0 ≡ 112
    → e ≡ trimmed_end s (get_or t (cap + n + 2) 0) (get_or t (cap + (n + 1) + 2) 0)
    → Step cap n t (set t (cap + (n + 1) + 2) e) (trim_words s (drop n (marks_in cap (n + 2) t)))
unfolding trim_words
trim-yes s cap n t e h l q r =
    rw (two-marks cap n t, trim_words, eq-eqb (get_or t (n + 1 + 2) 0) 112 q, ← r)
    (step_then (step_same cap n t) refl
    (rw (set-get_or t (n + 1 + 2) 0) at (step-put cap (n + 1) t (get_or t (n + 1 + 2) 0) e (omega arith) l)))

pub trim-no : (s : List ℕ) (cap n : ℕ) (t : List ℕ) → (get_or t (n + 1 + 2) 0 ≡ 112 → ⊥)
    → Step cap n t t (trim_words s (drop n (marks_in cap (n + 2) t)))
unfolding trim_words
trim-no s cap n t f =
    rw (two-marks cap n t, trim_words, ne_eqb (get_or t (n + 1 + 2) 0) 112 f)
    (step_then (step_same cap n t) refl (step_same cap (n + 1) t))

pub within : (s : List ℕ) (cap n : ℕ) (t : List ℕ) → Within s (drop n (marks_in cap (n + 2) t)) → get_or t (n + 1 + 2) 0 ≡ 112
    → (get_or t (cap + n + 2) 0 ≤ get_or t (cap + (n + 1) + 2) 0) × (get_or t (cap + (n + 1) + 2) 0 ≤ length s)
unfolding Within
within s cap n t w e = (rw (two-marks cap n t) at w) e

-- ---- whether a line goes on
pub goes-cr : (i b : ℕ) → i ≡ 0 → b ≡ 13 → eqb b 13 ≡ goes_on i b
unfolding goes_on
goes-cr i b e h = rw (goes_on, eq-eqb i 0 e, eq-eqb b 13 h)

pub goes-lf : (i b : ℕ) → i ≡ 0 → (b ≡ 13 → ⊥) → eqb b 10 ≡ goes_on i b
unfolding goes_on
goes-lf i b e h = rw (goes_on, eq-eqb i 0 e, ne_eqb b 13 h)

pub goes-byte : (i b : ℕ) {v : Bool} → (i ≡ 0 → ⊥) → v ≡ is_continuation b → v ≡ goes_on i b
unfolding goes_on
goes-byte i b e h = rw (goes_on, ne_eqb i 0 e) h

-- ---- the parser's marks
pub still : {p p' : Parser} → p'.source ≡ p.source → p'.tree.now.words.ghost_name ≡ p.tree.now.words.ghost_name
    → p'.tree.now.capacity ≡ p.tree.now.capacity → p'.tree.now.count ≡ p.tree.now.count → Remarks p p'
still s w c n =
    record {
      frame = record { bytes = ap (λ (x : Source). x.bytes) s; tree = record { words = w; capacity = c } };
      place = ap (λ (x : Source). x.ptr) s;
      count = n;
    }

-- the last text
module _ {p : Parser} (t : Trimmable p) where
  kind-at : 2 + (p.tree.now.count - 1) ≡ p.tree.now.count - 2 + 1 + 2
  kind-at = omega (arith, t.some)

  start-at : 2 + p.tree.now.capacity + (p.tree.now.count - 1 - 1) ≡ p.tree.now.capacity + (p.tree.now.count - 2) + 2
  start-at = omega (arith, t.some)

  end-at : 2 + p.tree.now.capacity + (p.tree.now.count - 1) ≡ p.tree.now.capacity + (p.tree.now.count - 2 + 1) + 2
  end-at = omega (arith, t.some)

  module _ {k : ℕ} (ek : k ≡ get_or p.tree.now.words.now (2 + (p.tree.now.count - 1)) 0) where
    pub trim-none-text : {p' : Parser} → Remarks p p' → p'.tree.now.words.now ≡ p.tree.now.words.now → (k ≡ 112 → ⊥) → Trimmed p p'
    trim-none-text r u f =
        record {
          kept = r;
          trimmed =
              rw u
              (trim-no p.source.bytes.now p.tree.now.capacity (p.tree.now.count - 2) p.tree.now.words.now (λ q. f (ek ∙ rw kind-at q)));
        }

    module _ {a b : ℕ} (ea : a ≡ get_or p.tree.now.words.now (2 + p.tree.now.capacity + (p.tree.now.count - 1 - 1)) 0)
        (eb : b ≡ get_or p.tree.now.words.now (2 + p.tree.now.capacity + (p.tree.now.count - 1)) 0) (h : k ≡ 112) where
      closes : get_or p.tree.now.words.now (p.tree.now.count - 2 + 1 + 2) 0 ≡ 112
      closes = rw kind-at at (sym ek ∙ h)

      pub text-within : (a ≤ b) × (b ≤ length p.source.bytes.now)
      text-within =
          rw (ea, eb, start-at, end-at)
          (within p.source.bytes.now p.tree.now.capacity (p.tree.now.count - 2) p.tree.now.words.now t.within closes)

      module _ {n : ℕ} (e : n ≡ trimmed (take (b - a) (drop a p.source.bytes.now))) where
        pub trim-fits : a + n ≤ 1000000
        trim-fits =
            let s = p.source.bytes.now in
            let o = text-within in
            let l = trimmed-le (take (b - a) (drop a s)) in
            let z = length-drop a s in
            let v = length-take-le (b - a) (drop a s) (omega arith) in
            omega (arith, p.source.short)

        pub trim-text : {p' : Parser} → Remarks p p'
            → p'.tree.now.words.now ≡ set p.tree.now.words.now (2 + p.tree.now.capacity + (p.tree.now.count - 1)) (a + n) → Trimmed p p'
        unfolding trimmed_end
        trim-text {p'} r u =
            let w : List ℕ = p.tree.now.words.now in
            let g : a + n ≡ trimmed_end p.source.bytes.now a b = ap (λ (i : ℕ). a + i) e in
            let f : a + n
            ≡ trimmed_end p.source.bytes.now (get_or w (p.tree.now.capacity + (p.tree.now.count - 2) + 2) 0)
            (get_or w (p.tree.now.capacity + (p.tree.now.count - 2 + 1) + 2) 0) =
            g
            ∙ ap₂ (λ (i j : ℕ). trimmed_end p.source.bytes.now i j) (ea ∙ ap (λ (i : ℕ). get_or w i 0) start-at)
            (eb ∙ ap (λ (i : ℕ). get_or w i 0) end-at) in
            record {
              kept = r;
              trimmed =
                  rw (u, end-at)
                  (trim-yes p.source.bytes.now p.tree.now.capacity (p.tree.now.count - 2) w (a + n) (omega (arith, t.some, t.room))
                  p.tree.now.layout closes f);
            }
