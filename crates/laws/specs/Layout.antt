-- What stands in the words of a tree and of a list of errors is read back from them.
use Rattle.std.specs.Prelude.{ℕ, ◌+◌, ◌-◌, ◌*◌, ◌≤◌, ◌<◌, ◌≡◌, refl, Bool, true, false, ◌||◌, List, [], ◌∷◌, ◌++◌, map, take, drop, replicate, eqb}
use Rattle.std.proofs.Common.{arith, ap₂, ◌∙◌, append_assoc, take_at, drop_at}
use Rattle.std.proofs.Math.Path.{ap}
use Rattle.std.proofs.Math.Bool.{and-eq-true_iff}
use Rattle.std.proofs.Math.ListN.{length, length-append, length-map}
use Rattle.std.proofs.lemmas.List.{length-replicate}
use Rattle.std.proofs.Math.Seq.{drop-append-add}
use borrow.Author.Tests.{le-leb, ne_eqb}
use Rattle.laws.specs.Shape.Run.{Known, opened, closed, text_opened, text_closed, AllKnown}
use Rattle.syntax.specs.Kind as Kind
use Rattle.syntax.specs.Marks.{Mark, plain, placed, kind_of, place_of}
use Rattle.syntax.specs.Core.{Error}
use Rattle.syntax.specs.Limits.{max_length}
use Rattle.syntax.specs.Tests.{sizes_fit}
use Rattle.syntax.specs.Layout.{array, tree_capacity, tree_words, group_size, group, groups, error_number, error_words}
use Rattle.syntax.specs.Layout.{count, capacity, kinds, places, groups_in, has_place, mark_of, marks_by, marks_in}

array-length : (c : ℕ) (ws : List ℕ) → length ws ≤ c → length (array c ws) ≡ c
unfolding array
array-length c ws h = rw (length-append, length-replicate) (omega arith)

-- two arrays in a row, with what follows them
first-array : (n c : ℕ) (ws vs rest : List ℕ) → length ws ≡ n → take n ((array c ws ++ vs) ++ rest) ≡ ws
unfolding array
first-array n c ws vs rest e =
    ap (take n) (append_assoc (array c ws) vs rest ∙ append_assoc ws (replicate (c - length ws) 0) (vs ++ rest)) ∙ take_at ws _ n e

second-array : (n c d : ℕ) (ws vs rest : List ℕ) → length ws ≤ c → length vs ≡ n → take n (drop c ((array c ws ++ array d vs) ++ rest)) ≡ vs
unfolding array
second-array n c d ws vs rest h e =
    ap (take n)
    (ap (drop c) (append_assoc (array c ws) (array d vs) rest)
    ∙ drop_at (array c ws) (array d vs ++ rest) c (array-length c ws h)
    ∙ append_assoc vs (replicate (d - length vs) 0) rest)
    ∙ take_at vs _ n e

drop-sizes : (c a b : ℕ) (ws : List ℕ) → drop (2 + c) (a ∷ b ∷ ws) ≡ drop c ws
drop-sizes c a b ws = drop-append-add (a ∷ b ∷ []) ws c

module _ (c : ℕ) (ms : List Mark) (rest : List ℕ) where
  pub tree-kinds : kinds (tree_words c ms ++ rest) ≡ map kind_of ms
  unfolding kinds count tree_words
  tree-kinds = first-array (length ms) c (map kind_of ms) (array c (map place_of ms)) rest (length-map ms kind_of)

  pub tree_places : length ms ≤ c → places (tree_words c ms ++ rest) ≡ map place_of ms
  unfolding places count capacity tree_words
  tree_places h =
      ap (take (length ms)) (drop-sizes c (length ms) c ((array c (map kind_of ms) ++ array c (map place_of ms)) ++ rest))
      ∙ second-array (length ms) c c (map kind_of ms) (map place_of ms) rest (rw length-map h) (length-map ms place_of)

  -- the sizes fit, for the writer
  pub tree-fits : length ms ≤ c → c ≤ tree_capacity max_length → sizes_fit (tree_words c ms ++ rest) ≡ true
  unfolding sizes_fit count capacity tree_words
  tree-fits h l =
      let ws = array c (map kind_of ms) ++ array c (map place_of ms) in
      let n = length (tree_words c ms ++ rest) in
      let e = length-append (array c (map kind_of ms)) (array c (map place_of ms)) in
      let f = array-length c (map kind_of ms) (rw length-map h) in
      let g = array-length c (map place_of ms) (rw length-map h) in
      let w : 2 + 2 * c ≤ n = omega (arith, length-append ws rest) in
      (and-eq-true_iff _ _).1 (
        le-leb 2 n (omega arith),
        (and-eq-true_iff _ _).1
            (le-leb c _ l, (and-eq-true_iff _ _).1 (le-leb (length ms) c h, le-leb (2 + 2 * c) n w)),
      )

groups-length : (es : List Error) → length (groups es) ≡ group_size * length es
unfolding groups group
groups-length [] = refl
groups-length (e ∷ es) = omega (arith, length-append (group e) (groups es), groups-length es)

module _ (c : ℕ) (es : List Error) (rest : List ℕ) where
  pub error-kinds : kinds (error_words c es ++ rest) ≡ map error_number es
  unfolding kinds count error_words
  error-kinds = first-array (length es) c (map error_number es) (array (group_size * c) (groups es)) rest (length-map es error_number)

  pub error-groups : length es ≤ c → groups_in (error_words c es ++ rest) ≡ groups es
  unfolding groups_in count capacity error_words
  error-groups h =
      ap (take (group_size * length es))
      (drop-sizes c (length es) c ((array c (map error_number es) ++ array (group_size * c) (groups es)) ++ rest))
      ∙ second-array (group_size * length es) c (group_size * c) (map error_number es) (groups es) rest (rw length-map h) (groups-length es)

-- marks whose T kinds are just those that have a place
abbrev pub Proper : Mark → Type 0
Proper (plain k) = has_place k ≡ false
Proper (placed k p) = has_place k ≡ true

abbrev pub AllProper : List Mark → Type 0
AllProper [] = Unit {0}
AllProper (m ∷ ms) = Proper m × AllProper ms

pub proper-append : (ms ns : List Mark) → AllProper ms → AllProper ns → AllProper (ms ++ ns)
proper-append [] ns p q = q
proper-append (m ∷ ms) ns p q = (p.0, proper-append ms ns p.1 q)

or-false : (v : Bool) → (v || false) ≡ v
or-false true = refl
or-false false = refl

-- no T kind is above 20
text-below : (x : ℕ) → 20 < x → Kind.is_text x ≡ false
unfolding Kind.is_text
text-below x h =
    let no : (k : ℕ) → k ≤ 20 → eqb x k ≡ false = λ k l. ne_eqb x k (λ e. omega arith) in
    rw (
      no 7 (omega arith),
      no 8 (omega arith),
      no 9 (omega arith),
      no 12 (omega arith),
      no 17 (omega arith),
      no 18 (omega arith),
      no 19 (omega arith),
      no 20 (omega arith),
    )

-- a kind has a place if it is a T kind, and so has the kind that closes it
opening-place : (kind : ℕ) (v : Bool) → kind ≤ Kind.named_argument → Kind.is_text kind ≡ v → has_place kind ≡ v
unfolding has_place Kind.is_text
opening-place kind v h e =
    let z : kind - 100 ≡ 0 = omega arith in
    ap₂ (λ (a b : Bool). a || b) e (ap Kind.is_text z) ∙ or-false v

closing-place : (kind : ℕ) (v : Bool) → Kind.is_text kind ≡ v → has_place (100 + kind) ≡ v
unfolding has_place
closing-place kind v e =
    let z : 100 + kind - 100 ≡ kind = omega arith in
    ap₂ (λ (a b : Bool). a || b) (text-below (100 + kind) (omega arith)) (ap Kind.is_text z ∙ e)

known-mark : {m : Mark} → Known m → Proper m
known-mark (opened j l h i) = opening-place j false h i
known-mark (closed j l h i) = closing-place j false i
known-mark (text_opened j a l h i) = opening-place j true h i
known-mark (text_closed j e l h i) = closing-place j true i

pub known-proper : (ms : List Mark) → AllKnown ms → AllProper ms
known-proper [] k = tt
known-proper (m ∷ ms) k = (known-mark k.0, known-proper ms k.1)

proper-mark : (m : Mark) → Proper m → mark_of (kind_of m) (place_of m) ≡ m
unfolding mark_of
proper-mark (plain k) h = rw (h, mark_of)
proper-mark (placed k p) h = rw (h, mark_of)

pub proper-marks : (ms : List Mark) → AllProper ms → marks_by (map kind_of ms) (map place_of ms) ≡ ms
unfolding marks_by
proper-marks [] h = refl
proper-marks (m ∷ ms) h = ap₂ (λ (a : Mark) (b : List Mark). a ∷ b) (proper-mark m h.0) (proper-marks ms h.1)

-- the marks of a tree's words
pub tree-marks : (c : ℕ) (ms : List Mark) (rest : List ℕ) → length ms ≤ c → AllProper ms → marks_in (tree_words c ms ++ rest) ≡ ms
unfolding marks_in
tree-marks c ms rest h p = ap₂ marks_by (tree-kinds c ms rest) (tree_places c ms rest h) ∙ proper-marks ms p
