-- Line ends and the text of a line at places of a source.
use Rattle.std.specs.Prelude.{◌≡◌, ℕ, zero, suc, ◌+◌, ◌-◌, ◌<◌, ◌≤◌, Bool, true, false, not, eqb, ltb, List, [], ◌∷◌, length, get_or, take, drop}
use mathlib.Core.Path.{refl, sym, ap, ◌∙◌}
use native.Mathlib.Omega.{arith}
use lib.ListN.{length-drop, drop_of_length-le}
use lib.Seq.{drop-cons}
use Rattle.syntax.specs.Byte as Byte
use Rattle.syntax.specs.Bytes.{eol, starts_with}
use Rattle.syntax.specs.Pattern.{ends_in_cr}
use Rattle.syntax.specs.Reader.{ok}
use Rattle.syntax.specs.Comment.{line_length}
use Rattle.syntax.specs.Helper.{skip_eol}
use Rattle.memchr.specs.Find.{Passes, Nowhere, NoneBefore, is_byte}
use Rattle.laws.specs.Bytes.{by_case, eol-le}
use Rattle.std.proofs.lemmas.Bool.{false≢true}
use Rattle.std.proofs.lemmas.List.{get_or-take, get_or-drop, length-take}
use borrow.Author.Tests.{ltb-true, ltb-false}
use Rattle.entry.specs.Place.{Counted, Passed, Went, is_eol}
use Rattle.entry.proofs.Run.{all-left}

-- ---- what skip_eol answered

pub goes-eol : (x : List ℕ) {k : ℕ} → eol x ≡ k → skip_eol x ≡ ok (ltb 0 k) [] k
unfolding skip_eol
goes-eol x h = rw h refl

pub past-eol : (s : List ℕ) (at : ℕ) {n : ℕ} → at ≤ length s → n ≡ eol (drop at s) → at + n ≤ length s
past-eol s at l e = omega (arith, e, eol-le (drop at s), length-drop at s)

pub record Ended (s : List ℕ) (at : ℕ) (r : Bool) (i : ℕ) : Type 0 where
  pub is : r ≡ ltb 0 (eol (drop at s))
  pub end : i ≡ at + eol (drop at s)

pub ended : {s : List ℕ} {at i : ℕ} {r : Bool} → Went s at (skip_eol (drop at s)) r i → Ended s at r i
unfolding skip_eol
ended {s} {at} {i} {r} w =
    let h = w.answers in
    let e : ltb 0 (eol (drop at s)) ≡ r = cc in
    let k : eol (drop at s) ≡ i - at = cc in
    record { is = sym e; end = omega (arith, w.onward) }

-- ---- whether a line ends

pub ends-here : (s : List ℕ) (i : ℕ) → i ≡ length s → true ≡ is_eol (drop i s)
unfolding is_eol
ends-here s i h = let l : length s ≤ i = omega arith in rw (drop_of_length-le s l)

pub ends_by : (s : List ℕ) (i : ℕ) (r : Bool) → i < length s → r ≡ ltb 0 (eol (drop i s)) → r ≡ is_eol (drop i s)
unfolding is_eol
ends_by s i r l h = h ∙ rw (drop-cons s i 0 l) refl

-- ---- the text of a line

pub line-ends : (x : List ℕ) → is_eol x ≡ true → line_length x ≡ 0
unfolding is_eol line_length
line-ends [] h = refl
line-ends (b ∷ x) h = rw (h, line_length)

line-le : (x : List ℕ) → line_length x ≤ length x
unfolding line_length
line-le [] = omega arith
line-le (b ∷ x) = by_case (ltb 0 (eol (b ∷ x))) (λ q. rw (q, line_length) (omega arith)) (λ q. let d = line-le x in rw (q, line_length) (omega arith))

-- up to a line feed; c says that a carriage return stands before it
abbrev up_to : ℕ → Bool → ℕ
up_to n c = elim c [ true ↦ n - 1 | false ↦ n ]

up_to-suc : (n : ℕ) (c : Bool) → suc (up_to (suc n) c) ≡ up_to (suc (suc n)) c
up_to-suc n true = omega arith
up_to-suc n false = refl

no-feed : (b : ℕ) (x : List ℕ) → eqb b Byte.line_feed ≡ false → starts_with Byte.line_feed x ≡ false → eol (b ∷ x) ≡ 0
unfolding eol
no-feed b x h e = by_case (eqb b Byte.carriage_return) (λ q. rw (h, eol, q, e) refl) (λ q. rw (h, eol, q) refl)

feed-here : (b : ℕ) (x : List ℕ) → eqb b Byte.line_feed ≡ true → line_length (b ∷ x) ≡ 0
unfolding line_length eol
feed-here b x h = let e : eol (b ∷ x) ≡ 1 = rw (h, eol) refl in rw (e, line_length) refl

line-whole : (x : List ℕ) → ((j : ℕ) → j < length x → eqb (get_or x j 0) Byte.line_feed ≡ false) → line_length x ≡ length x
unfolding line_length starts_with
line-whole [] h = refl
line-whole (b ∷ []) h = let e = no-feed b [] (h 0 (omega arith)) refl in rw (e, line_length) refl
line-whole (b ∷ c ∷ x) h =
    let e = no-feed b (c ∷ x) (h 0 (omega arith)) (h 1 (omega arith)) in
    rw (e, line_length) (ap suc (line-whole (c ∷ x) (λ j l. h (suc j) (omega (arith, l)))))

line-feed : (x : List ℕ) (n : ℕ) → ((j : ℕ) → j < n → eqb (get_or x j 0) Byte.line_feed ≡ false) → n < length x
    → eqb (get_or x n 0) Byte.line_feed ≡ true → line_length x ≡ up_to n (ends_in_cr (take n x))
unfolding line_length eol starts_with ends_in_cr
line-feed [] n h l e = absurd (omega (arith, l))
line-feed (b ∷ x) zero h l e = feed-here b x e
line-feed (b ∷ []) (suc n) h l e = absurd (omega (arith, l))
line-feed (b ∷ c ∷ x) (suc zero) h l e =
    let a : eqb b Byte.line_feed ≡ false = h 0 (omega arith) in
    let f : eqb c Byte.line_feed ≡ true = e in
    by_case (eqb b Byte.carriage_return)
    (λ q. let z : eol (b ∷ c ∷ x) ≡ 2 = rw (a, eol, q, f) refl in rw (z, line_length, q) refl)
    (λ q. let z : eol (b ∷ c ∷ x) ≡ 0 = rw (a, eol, q) refl in rw (z, line_length, q) (ap suc (feed-here c x f)))
line-feed (b ∷ c ∷ x) (suc (suc n)) h l e =
    let z = no-feed b (c ∷ x) (h 0 (omega arith)) (h 1 (omega arith)) in
    rw (z, line_length)
    (ap suc (line-feed (c ∷ x) (suc n) (λ j k. h (suc j) (omega (arith, k))) (omega (arith, l)) e)
    ∙ up_to-suc n (ends_in_cr (take (suc n) (c ∷ x))))

-- the line feed was looked for
abbrev feed_at : List ℕ → ℕ → Type 0
feed_at x j = Passes (is_byte Byte.line_feed) x j

none-here : (b : Bool) → (b ≡ true → ⊥) → b ≡ false
none-here true h = absurd (h refl)
none-here false h = refl

pub line-unended : (x : List ℕ) → Nowhere (feed_at x) 0 (length x) → length x ≡ line_length x
line-unended x h = sym (line-whole x (λ j l. none-here _ (h j (omega arith) l)))

pub line-found : (x : List ℕ) (n : ℕ) (c : Bool) → NoneBefore (feed_at x) 0 (length x) n × feed_at x n → c ≡ ends_in_cr (take n x)
    → up_to n c ≡ line_length x
line-found x n c h e = rw e (sym (line-feed x n (λ j l. none-here _ (h.0.before j (omega arith) l)) h.0.high h.1))

pub line-passed : {s : List ℕ} {at n : ℕ} → at ≤ length s → n ≡ line_length (take (length s - at) (drop at s))
    → Passed s at (line_length (drop at s)) (at + n)
line-passed {s} {at} {n} l h =
    let d : length (drop at s) ≡ length s - at = length-drop at s in
    let e : n ≡ line_length (drop at s) = h ∙ ap line_length (all-left s at) in
    let w = line-le (drop at s) in
    record { end = omega arith; within = omega arith }

-- ---- a line feed is looked for in the first m bytes, then in the others

is-true : (b : Bool) → not b ≡ false → b ≡ true
is-true true e = refl
is-true false e = absurd (false≢true (sym e))

-- n of the first m bytes stand before a line feed
module _ (x : List ℕ) (m n : ℕ) (l : m ≤ length x) (h : Counted (λ b r. r ≡ not (eqb b Byte.line_feed)) (take m x) n) where
  is-feed : (b : ℕ) → Bool
  is-feed b = eqb b Byte.line_feed

  before-near : (k : ℕ) → k < n → k < m → feed_at x k → ⊥
  unfolding is-feed
  before-near k i j f =
      false≢true (sym (h.passing k i ∙ ap (λ b. not (is-feed b)) (get_or-take m x k 0 j) ∙ ap not f))

  pub feed-near : n < m → NoneBefore (feed_at x) 0 (length x) n × feed_at x n
  unfolding is-feed
  feed-near i =
      let w = length-take m x in (
        record { low = omega arith; high = omega arith; before = λ k a b. before-near k b (omega arith) },
        is-true _ (ap (λ b. not (is-feed b)) (sym (get_or-take m x n 0 i)) ∙ sym (h.stops (omega (arith, w)))),
      )

  none-near : m ≤ n → (k : ℕ) → k < m → feed_at x k → ⊥
  none-near i k j = before-near k (omega arith) j

  later : (k : ℕ) → m ≤ k → feed_at x k → feed_at (drop m x) (k - m)
  unfolding is-feed
  later k i f =
      let e : m + (k - m) ≡ k = omega arith in
      ap is-feed (get_or-drop m x (k - m) 0 ∙ ap (λ j. get_or x j 0) e) ∙ f

  pub feed-nowhere : m ≤ n → Nowhere (feed_at (drop m x)) 0 (length (drop m x)) → Nowhere (feed_at x) 0 (length x)
  feed-nowhere i g k a b f =
      by_case (ltb k m) (λ t. none-near i k (ltb-true k m t) f)
      (λ t. let u = ltb-false k m t in g (k - m) (omega arith) (omega (arith, length-drop m x)) (later k u f))

  pub feed-far : (k : ℕ) → m ≤ n → NoneBefore (feed_at (drop m x)) 0 (length (drop m x)) k × feed_at (drop m x) k
      → NoneBefore (feed_at x) 0 (length x) (m + k) × feed_at x (m + k)
  unfolding is-feed
  feed-far k i g = (
    record {
      low = omega arith;
      high = omega (arith, g.0.high, length-drop m x);
      before =
          λ j a b f.
          by_case (ltb j m) (λ t. none-near i j (ltb-true j m t) f)
          (λ t. let u = ltb-false j m t in g.0.before (j - m) (omega arith) (omega arith) (later j u f));
    },
    ap is-feed (sym (get_or-drop m x k 0)) ∙ g.1,
  )
