-- The named arguments whose marks stand in a tree: what a step makes of them, and a walk over their marks that looks for a name.
use Rattle.std.specs.Prelude.{◌≡◌, ℕ, zero, suc, ◌+◌, ◌-◌, ◌*◌, ◌<◌, ◌≤◌, Bool, true, false, not, ◌&&◌, ◌||◌, eqb, ltb, List, [], ◌∷◌, ◌++◌, length, get_or, take, drop}
use mathlib.Core.Path.{refl, sym, ap, ap₂, subst, ◌∙◌}
use mathlib.Core.List.{append_assoc, append-nil, reverse_aux}
use native.Mathlib.Nat.{add-zero}
use native.Mathlib.Numerals.{add-one, sub-one}
use native.Mathlib.Decide.{dec_lt}
use native.Mathlib.Omega.{arith}
use lib.ListN.{length-append, length-map}
use lib.Seq.{drop-append-le, drop_at}
use borrow.Author.Tests.{lt-ltb, le-ltb, ltb-true, ltb-false, eq-eqb, ne_eqb, eqb-true, eqb-false}
use Rattle.laws.specs.Bytes.{by_case}
use Rattle.syntax.specs.Marks.{Mark, plain, placed, move_up}
use Rattle.syntax.specs.Expression.{same_bytes, is_among, is_none}
use Rattle.laws.specs.Balanced.{Levels, Opened}
use Rattle.entry.specs.Tree.{Word, word, words_at, marks_in, marks_from, Step}
use Rattle.entry.specs.Names.{Nested, named_words, NamedRow, none, more, Names, HasNames, name_at, HasName}
use Rattle.entry.proofs.Steps.{marks-length, step_cut}
use lib.Pointwise.{pointwise}
use Rattle.entry.proofs.MarksFrom.{marks-split, next-from}

-- the bytes from a to b
abbrev pub part : List ℕ → ℕ → ℕ → List ℕ
part s a b = take (b - a) (drop a s)

-- ---- marks in a tree

from-drop : (cap i n : ℕ) (t : List ℕ) → i ≤ n → marks_from cap i (n - i) t ≡ drop i (marks_in cap n t)
from-drop cap i n t h =
    let e : i + (n - i) ≡ n = omega arith in
    sym (drop_at (marks_in cap i t) _ i (marks-length cap i t))
    ∙ ap (drop i) (sym (marks-split cap i (n - i) t) ∙ ap (λ (k : ℕ). marks_in cap k t) e)

from_step : {cap n : ℕ} {t t' : List ℕ} {ws : List Word} (i : ℕ) → i ≤ n → Step cap n t t' ws
    → marks_from cap i (n + length ws - i) t' ≡ marks_from cap i (n - i) t ++ ws
from_step {cap} {n} {t} {t'} {ws} i h s =
    from-drop cap i (n + length ws) t' (omega arith) ∙ ap (drop i) s.marks
    ∙ drop-append-le i (marks_in cap n t) ws (rw (marks-length cap n t) h)
    ∙ ap (λ (l : List Word). l ++ ws) (sym (from-drop cap i n t h))

-- after a mark that opens a node, or closes one
abbrev NestedBy : Bool → ℕ → List Word → Type 0
NestedBy v d ws = elim v [ true ↦ Nested (suc d) ws | false ↦ (0 < d) × Nested (d - 1) ws ]

nested-by : (d : ℕ) (ms : List Mark) (ws : List Word) (v : Bool) → Opened v d ms → ((i : ℕ) → Levels i ms → Nested i ws) → NestedBy v d ws
nested-by d ms ws true l f = f (suc d) l
nested-by d ms ws false l f = (l.0, f (d - 1) l.1)

levels-nested : (at d : ℕ) (ms : List Mark) → Levels d ms → Nested d (words_at at ms)
unfolding words_at move_up
levels-nested at d [] l = l
levels-nested at d (plain k ∷ ms) l = nested-by d ms (words_at at ms) (ltb k 100) l (λ i g. levels-nested at i ms g)
levels-nested at d (placed k p ∷ ms) l = nested-by d ms (words_at at ms) (ltb k 100) l (λ i g. levels-nested at i ms g)

-- ---- the laws

pub names-none : (s t : List ℕ) (cap n : ℕ) → n ≤ cap → 2 + 2 * cap ≤ length t → Names s t cap n n []
unfolding marks_from
names-none s t cap n h l = let e : n - n ≡ 0 = omega arith in record { order = omega arith; room = h; layout = l; row = rw e none }

pub names_more : {s t t' : List ℕ} {cap i n : ℕ} {names : List (List ℕ)} (a e at : ℕ) (ms : List Mark)
    → Names s t cap i n names → a ≤ e → e ≤ length s → Levels 0 ms → n + (4 + length ms) ≤ cap
    → Step cap n t t' (named_words a e (words_at at ms)) → Names s t' cap i (n + (4 + length ms)) (take (e - a) (drop a s) ∷ names)
unfolding words_at move_up
names_more {s} {t} {t'} {cap} {i} {n} {names} a e at ms g h l b r w =
    let c : length (named_words a e (words_at at ms)) ≡ 4 + length ms = rw (length-append, length-map, length-map) (omega arith) in
    let o = g.order in
    record {
      order = omega arith;
      room = r;
      layout = rw w.long g.layout;
      row = rw (← c, from_step i o w) (more a e (words_at at ms) h l (levels-nested at 0 ms b) g.row);
    }

-- marks are kept by what is written after them
pub names-cut : {s t t' : List ℕ} {cap i n : ℕ} {names : List (List ℕ)} {ws : List Word} → Names s t cap i n names
    → Step cap n t t' ws → Names s t' cap i n names
names-cut {s} {t} {t'} {cap} {i} {n} {names} g w =
    let e = from_step i g.order (step_cut w) in
    let q : marks_from cap i (n - i) t' ≡ marks_from cap i (n - i) t = rw (add-zero, append-nil) at e in
    record { order = g.order; room = g.room; layout = rw w.long g.layout; row = rw q g.row }

pub names-some : {s t : List ℕ} {cap i n : ℕ} {names : List (List ℕ)} → Names s t cap i n names → is_none names ≡ not (ltb i n)
unfolding is_none marks_from
names-some {s} {t} {cap} {i} {n} g = go g.row refl
  where
    long : (i c : ℕ) → length (marks_from cap i c t) ≡ c
    long i zero = refl
    long i (suc c) = ap suc (long (i + 1) c)

    go : {ws : List Word} {names : List (List ℕ)} → NamedRow s ws names → ws ≡ marks_from cap i (n - i) t → is_none names ≡ not (ltb i n)
    go none e = rw (le-ltb i n (omega (arith, ap length e, long i (n - i))))
    go (more {ws = ws} a z inner h l b r) e =
        rw (lt-ltb i n (omega (arith, length-append ws (named_words a z inner), ap length e, long i (n - i))))

-- ---- names that are the same
eqb-swap : (a b : ℕ) → eqb a b ≡ eqb b a
eqb-swap a b = by_case (eqb a b) (λ h. h ∙ sym (eq-eqb b a (sym (eqb-true a b h)))) (λ h. h ∙ sym (ne_eqb b a (λ e. eqb-false a b h (sym e))))

pointwise-same : (x y : List ℕ) → pointwise eqb y x ≡ same_bytes x y
unfolding same_bytes
pointwise-same [] [] = refl
pointwise-same [] (b ∷ y) = refl
pointwise-same (a ∷ x) [] = refl
pointwise-same (a ∷ x) (b ∷ y) = ap₂ (λ (u v : Bool). u && v) (eqb-swap b a) (pointwise-same x y)

pub same-name : {r : Bool} {d : ℕ} (x y z : List ℕ) → d ≡ 0 → r ≡ pointwise eqb y x → y ≡ z → r ≡ eqb d 0 && same_bytes x z
same-name {d = d} x y z h e q = e ∙ pointwise-same x y ∙ rw (eq-eqb d 0 h, q)

pub no-name : {d : ℕ} (y : Bool) → (d ≡ 0 → ⊥) → false ≡ eqb d 0 && y
no-name {d} y h = rw (ne_eqb d 0 h)

-- ---- the walk

-- the marks that are left where d nodes are open, with the names in them, the first first
data Left (s : List ℕ) : ℕ → List Word → List (List ℕ) → Type 0 where
  over : Left s 0 [] []
  named : {ws : List Word} {names : List (List ℕ)} (a e : ℕ) → a ≤ e → e ≤ length s
      → Left s 1 (word 9 a ∷ word 109 e ∷ ws) names
      → Left s 0 (word 26 0 ∷ word 9 a ∷ word 109 e ∷ ws) (part s a e ∷ names)
  opens : {d k p : ℕ} {ws : List Word} {names : List (List ℕ)} → k < 100 → Left s (suc (suc d)) ws names
      → Left s (suc d) (word k p ∷ ws) names
  closes : {d k p : ℕ} {ws : List Word} {names : List (List ℕ)} → 100 ≤ k → Left s d ws names → Left s (suc d) (word k p ∷ ws) names

-- the value of a named argument is passed
left-inner : {s : List ℕ} {vs : List Word} {names : List (List ℕ)} (d : ℕ) (ws : List Word) → Nested d ws
    → Left s 1 vs names → Left s (suc d) (ws ++ vs) names
left-inner {s} {vs} {names} d [] l r = subst (λ (k : ℕ). Left s (suc k) vs names) (sym l) r
left-inner {s} {vs} {names} d (word k p ∷ ws) l r = by (ltb k 100) refl l (λ i g. left-inner i ws g r)
  where
    by : (v : Bool) → v ≡ ltb k 100 → NestedBy v d ws → ((i : ℕ) → Nested i ws → Left s (suc i) (ws ++ vs) names)
        → Left s (suc d) (word k p ∷ (ws ++ vs)) names
    by true e l f = opens (ltb-true k 100 (sym e)) (f (suc d) l)
    by false e l f =
        let z : suc (d - 1) ≡ d = omega (arith, l.0) in
        closes (ltb-false k 100 (sym e)) (subst (λ (k : ℕ). Left s k (ws ++ vs) names) z (f (d - 1) l.1))

row-left : {s : List ℕ} {ws vs : List Word} {names rest : List (List ℕ)} → NamedRow s ws names → Left s 0 vs rest
    → Left s 0 (ws ++ vs) (reverse_aux names rest)
row-left none r = r
row-left {s} {vs = vs} {rest = rest} (more {ws} {names} a e inner h l b g) r =
    let q = left-inner 0 inner b (closes {k = 126} {p = 0} (omega arith) r) in
    let n = named a e h l (opens {k = 9} (omega arith) (closes {k = 109} (omega arith) q)) in
    subst (λ (l : List Word). Left s 0 l (reverse_aux names (part s a e ∷ rest))) (sym (joined ws a e inner vs)) (row-left g n)
  where
    joined : (ws : List Word) (a e : ℕ) (inner vs : List Word)
        → (ws ++ named_words a e inner) ++ vs ≡ ws ++ (word 26 0 ∷ word 9 a ∷ word 109 e ∷ (inner ++ (word 126 0 ∷ vs)))
    joined ws a e inner vs = simp append_assoc

among-onto : (x : List ℕ) (names rest : List (List ℕ)) → is_among x (reverse_aux names rest) ≡ is_among x names || is_among x rest
unfolding is_among
among-onto x [] rest = refl
among-onto x (m ∷ ms) rest = among-onto x ms (m ∷ rest) ∙ swap (is_among x ms) (same_bytes x m) (is_among x rest)
  where
    swap : (a b c : Bool) → a || (b || c) ≡ (b || a) || c
    swap true true c = refl
    swap true false c = refl
    swap false true c = refl
    swap false false c = refl

-- the first mark that is left
record First (cap n i : ℕ) (t : List ℕ) (w : Word) (ws : List Word) : Type 0 where
  more : i < n
  here : w ≡ word (get_or t (i + 2) 0) (get_or t (cap + i + 2) 0)
  next : ws ≡ marks_from cap (i + 1) (n - (i + 1)) t

first_of : {w : Word} {ws : List Word} (cap n i : ℕ) (t : List ℕ) → w ∷ ws ≡ marks_from cap i (n - i) t → First cap n i t w ws
unfolding marks_from
first_of {w} {ws} cap n i t e = go (dec_lt i n)
  where
    go : Dec (i < n) → First cap n i t w ws
    go (yes h) = let q = e ∙ next-from cap i n t h in record { more = h; here = cc; next = cc }
    go (no f) =
        let z : n - i ≡ 0 = omega arith in
        let q : w ∷ ws ≡ [] = rw z at e in
        let y : ◌≡◌ {A = ℕ} 0 1 = cc in
        absurd (omega arith)

-- one mark further
record Turn (s t x : List ℕ) (cap n i d : ℕ) (rest : List (List ℕ)) : Type 0 where
  tail : List (List ℕ)
  name : d ≡ 0 → HasName s t cap i
  opened : get_or t (i + 2) 0 < 100 → Left s (d + 1) (marks_from cap (i + 1) (n - (i + 1)) t) tail
  closed : 100 ≤ get_or t (i + 2) 0 → (0 < d) × Left s (d - 1) (marks_from cap (i + 1) (n - (i + 1)) t) tail
  found : is_among x rest ≡ (eqb d 0 && same_bytes x (name_at s t cap i)) || is_among x tail

passed : (d : ℕ) (y : Bool) → eqb (suc d) 0 && y ≡ false
passed d y = rw (ne_eqb (suc d) 0 (λ e. omega arith))

module _ {s t : List ℕ} (x : List ℕ) (cap n i : ℕ) (room : n ≤ cap) (layout : 2 + 2 * cap ≤ length t) (h : i < n) where
  name-turn : (ws : List Word) (names : List (List ℕ)) (a e : ℕ) → a ≤ e → e ≤ length s
      → Left s 1 (word 9 a ∷ word 109 e ∷ ws) names → First cap n i t (word 26 0) (word 9 a ∷ word 109 e ∷ ws)
      → Turn s t x cap n i 0 (part s a e ∷ names)
  unfolding is_among
  name-turn ws names a e o m g f =
      let f₁ = first_of cap n (i + 1) t f.next in
      let f₂ = first_of cap n (i + 1 + 1) t f₁.next in
      let k : get_or t (i + 2) 0 ≡ 26 = cc f.here in
      let z₁ : cap + (i + 1) + 2 ≡ cap + i + 3 = omega arith in
      let z₂ : cap + (i + 1 + 1) + 2 ≡ cap + i + 4 = omega arith in
      let p : get_or t (cap + i + 3) 0 ≡ a = cc (f₁.here, z₁) in
      let q : get_or t (cap + i + 4) 0 ≡ e = cc (f₂.here, z₂) in
      record {
        tail = names;
        name = λ d. record { inside = omega (arith, f₂.more); order = omega arith; within = omega arith };
        opened = λ b. rw (← f.next) g;
        closed = λ b. absurd (omega arith);
        found = rw (p, q);
      }

  open_turn : (d k p : ℕ) (ws : List Word) (names : List (List ℕ)) → k < 100 → Left s (suc (suc d)) ws names
      → First cap n i t (word k p) ws → Turn s t x cap n i (suc d) names
  open_turn d k p ws names b g f =
      let e : get_or t (i + 2) 0 ≡ k = cc f.here in
      record {
        tail = names;
        name = λ z. absurd (omega arith);
        opened = λ b. rw (← f.next) (subst (λ z. Left s z ws names) (sym (add-one (suc d))) g);
        closed = λ c. absurd (omega arith);
        found = rw (passed d (same_bytes x (name_at s t cap i)));
      }

  close-turn : (d k p : ℕ) (ws : List Word) (names : List (List ℕ)) → 100 ≤ k → Left s d ws names
      → First cap n i t (word k p) ws → Turn s t x cap n i (suc d) names
  close-turn d k p ws names b g f =
      let e : get_or t (i + 2) 0 ≡ k = cc f.here in
      record {
        tail = names;
        name = λ z. absurd (omega arith);
        opened = λ c. absurd (omega arith);
        closed = λ b. (omega arith, rw (← f.next) (subst (λ z. Left s z ws names) (sym (sub-one (suc d))) g));
        found = rw (passed d (same_bytes x (name_at s t cap i)));
      }

  turn_on : {d : ℕ} {vs : List Word} {rest : List (List ℕ)} → Left s d vs rest → vs ≡ marks_from cap i (n - i) t → Turn s t x cap n i d rest
  turn_on over e = let q = e ∙ next-from cap i n t h in let y : ◌≡◌ {A = ℕ} 0 1 = cc in absurd (omega arith)
  turn_on (named {ws} {names} a z o m g) e = name-turn ws names a z o m g (first_of cap n i t e)
  turn_on (opens {d} {k} {p} {ws} {names} b g) e = open_turn d k p ws names b g (first_of cap n i t e)
  turn_on (closes {d} {k} {p} {ws} {names} b g) e = close-turn d k p ws names b g (first_of cap n i t e)

-- the names that are left: x is among all of them just where it is among these
record Rest (s t x : List ℕ) (cap n i d : ℕ) (names : List (List ℕ)) : Type 0 where
  rest : List (List ℕ)
  left : Left s d (marks_from cap i (n - i) t) rest
  same : is_among x names ≡ is_among x rest

-- before the i-th mark, with d nodes open
pub record Looking (s t x : List ℕ) (cap from n i d : ℕ) : Type 0 where
  pub order : i ≤ n
  pub small : d ≤ i
  are : (names : List (List ℕ)) → Names s t cap from n names → Rest s t x cap n i d names

pub looking-none : {s t : List ℕ} {cap from n : ℕ} (x : List ℕ) → HasNames s t cap from n → Looking s t x cap from n from 0
unfolding is_among
looking-none {s} {t} {cap} {from} {n} x g =
    record {
      order = g.are.order;
      small = omega arith;
      are =
          λ names h. record {
            rest = reverse_aux names [];
            left = rw append-nil at (row-left h.row over);
            same = sym (among-onto x names [] ∙ none_more (is_among x names));
          };
    }
  where
    none_more : (v : Bool) → v || is_among x [] ≡ v
    none_more true = refl
    none_more false = refl

module _ {s t x : List ℕ} {cap from n i d : ℕ} (g : Looking s t x cap from n i d) (h : i < n) where
  turn : (names : List (List ℕ)) (a : Names s t cap from n names) → Turn s t x cap n i d (g.are names a).rest
  turn names a = turn_on x cap n i a.room a.layout h (g.are names a).left refl

  pub looking-name : HasNames s t cap from n → d ≡ 0 → HasName s t cap i
  looking-name a = (turn a.names a.are).name

  pub looking-deep : HasNames s t cap from n → 100 ≤ get_or t (i + 2) 0 → 0 < d
  looking-deep a b = ((turn a.names a.are).closed b).0

  module _ {r : Bool} (e : r ≡ eqb d 0 && same_bytes x (name_at s t cap i)) where
    pub looking-found : r ≡ true → (names : List (List ℕ)) → Names s t cap from n names → true ≡ is_among x names
    looking-found f names a = sym ((g.are names a).same ∙ (turn names a).found ∙ rw (sym e ∙ f))

    further : r ≡ false → (names : List (List ℕ)) (a : Names s t cap from n names) → is_among x names ≡ is_among x (turn names a).tail
    further f names a = (g.are names a).same ∙ (turn names a).found ∙ rw (sym e ∙ f)

    pub looking-open : r ≡ false → get_or t (i + 2) 0 < 100 → Looking s t x cap from n (i + 1) (d + 1)
    looking-open f b =
        record {
          order = omega arith;
          small = omega arith;
          are = λ names a. record { rest = (turn names a).tail; left = (turn names a).opened b; same = further f names a };
        }

    pub looking-close : r ≡ false → 100 ≤ get_or t (i + 2) 0 → Looking s t x cap from n (i + 1) (d - 1)
    looking-close f b =
        record {
          order = omega arith;
          small = omega arith;
          are =
              λ names a. record { rest = (turn names a).tail; left = ((turn names a).closed b).1; same = further f names a };
        }

pub looking-end : {s t x : List ℕ} {cap from n i d : ℕ} → Looking s t x cap from n i d → n ≤ i → (names : List (List ℕ))
    → Names s t cap from n names → false ≡ is_among x names
unfolding marks_from is_among
looking-end {s} {t} {x} {cap} {n = n} {i} g h names a =
    let z : n - i ≡ 0 = omega arith in
    let e : marks_from cap i (n - i) t ≡ [] = rw z in
    sym ((g.are names a).same ∙ ap (is_among x) (over_none (g.are names a).left e))
  where
    over_none : {d : ℕ} {vs : List Word} {rest : List (List ℕ)} → Left s d vs rest → vs ≡ [] → rest ≡ []
    over_none over e = refl
    over_none (named a z o m l) e = let y : ◌≡◌ {A = ℕ} 0 1 = cc in absurd (omega arith)
    over_none (opens b l) e = let y : ◌≡◌ {A = ℕ} 0 1 = cc in absurd (omega arith)
    over_none (closes b l) e = let y : ◌≡◌ {A = ℕ} 0 1 = cc in absurd (omega arith)
