-- The rows of the words that an accepted reading leaves are the lines of its marks and errors.
use Prim.Native.Nat.{ℕ, zero, suc, ◌+◌, ◌*◌, ◌≤◌, ◌<◌}
use native.Mathlib.Omega.{arith}
use mathlib.Core.Path.{◌≡◌, refl, sym, ap, ap₂, ◌∙◌}
use mathlib.Core.List.{List, [], ◌∷◌, ◌++◌, map, map-append}
use lib.ListN.{length, get_or, take, drop, get_or-append}
use lib.Seq.{take-suc, take-length, get_or-take, get_or-drop, get_or-append-add}
use Rattle.syntax.specs.Marks.{Mark, plain, kind_of, place_of}
use Rattle.syntax.specs.declared.errors.ErrorKind.TheVariants.{ForbiddenCallee}
use Rattle.syntax.specs.Errors.{fault_at}
use Rattle.syntax.specs.Core.{Error, read}
use Rattle.syntax.specs.Layout.{tree_words, error_words, group, groups, error_number, count, capacity, kinds, places, groups_in}
use Rattle.syntax.specs.Listing.{mark_line, error_line, lines_of}
use Rattle.syntax.specs.Reading.{answer_of}
use Rattle.laws.specs.Layout.{tree-kinds, tree_places, error-kinds, error-groups}
use Rattle.marks.specs.Rows.{rows, mark_row, error_row, read_rows}

-- rows that show the items of a list
module _ {A : Type 0} (f : ℕ → List ℕ) (g : A → List ℕ) (d : A) (xs : List A) (h : (i : ℕ) → i < length xs → f i ≡ g (get_or xs i d)) where
  rows_take : (n : ℕ) → n ≤ length xs → rows f n ≡ map g (take n xs)
  unfolding rows
  rows_take zero l = refl
  rows_take (suc n) l =
      ap₂ (λ (a : List (List ℕ)) (b : List ℕ). a ++ (b ∷ [])) (rows_take n (omega arith)) (h n (omega arith))
      ∙ sym (ap (map g) (take-suc xs n d (omega arith)) ∙ map-append g (take n xs) (get_or xs n d ∷ []))

  rows-map : rows f (length xs) ≡ map g xs
  rows-map = rows_take (length xs) (omega arith) ∙ ap (map g) (take-length xs)

-- an element of a part
part_at : (ws vs : List ℕ) (n a i : ℕ) → take n (drop a ws) ≡ vs → i < n → get_or ws (a + i) 0 ≡ get_or vs i 0
part_at ws vs n a i e l = sym (get_or-take n (drop a ws) i 0 l ∙ get_or-drop a ws i 0) ∙ ap (λ z. get_or z i 0) e

map_at : {A : Type 0} (f : A → ℕ) (d : A) (xs : List A) (i : ℕ) → i < length xs → get_or (map f xs) i 0 ≡ f (get_or xs i d)
map_at f d [] i l = absurd (omega arith)
map_at f d (x ∷ xs) zero l = refl
map_at f d (x ∷ xs) (suc i) l = map_at f d xs i (omega arith)

module _ (c : ℕ) (ms : List Mark) (rest : List ℕ) (h : length ms ≤ c) where
  abbrev t : List ℕ
  t = tree_words c ms ++ rest

  pub tree-count : count t ≡ length ms
  unfolding count tree_words
  tree-count = refl

  pub tree-capacity : capacity t ≡ c
  unfolding capacity tree_words
  tree-capacity = refl

  pub mark-rows : rows (mark_row t) (length ms) ≡ map mark_line ms
  mark-rows = rows-map (mark_row t) mark_line (plain 0) ms row
    where
      row : (i : ℕ) → i < length ms → mark_row t i ≡ mark_line (get_or ms i (plain 0))
      row i l =
          unfold mark_row mark_line kinds places count capacity tree_words in
          (ap₂ (λ (a b : ℕ). a ∷ b ∷ [])
          (part_at t (map kind_of ms) (length ms) 2 i (tree-kinds c ms rest) l ∙ map_at kind_of (plain 0) ms i l)
          (part_at t (map place_of ms) (length ms) (2 + c) i (tree_places c ms rest h) l ∙ map_at place_of (plain 0) ms i l))

-- a word of a list of groups
none : Error
none = record { fault = fault_at ForbiddenCallee 0; junk_from = 0; junk_till = 0 }

group-length : (e : Error) → length (group e) ≡ 6
unfolding group
group-length e = refl

group_at : (es : List Error) (i j : ℕ) → i < length es → j < 6 → get_or (groups es) (6 * i + j) 0 ≡ get_or (group (get_or es i none)) j 0
unfolding groups
group_at [] i j l k = absurd (omega arith)
group_at (e ∷ es) zero j l k =
    let z : 6 * 0 + j ≡ j = omega arith in
    ap (λ n. get_or (group e ++ groups es) n 0) z ∙ get_or-append (group e) (groups es) 0 j (omega (arith, group-length e))
group_at (e ∷ es) (suc i) j l k =
    let z : 6 * suc i + j ≡ length (group e) + (6 * i + j) = omega (arith, group-length e) in
    ap (λ n. get_or (group e ++ groups es) n 0) z ∙ get_or-append-add (group e) (groups es) (6 * i + j) 0 ∙ group_at es i j (omega arith) k

module _ (c : ℕ) (es : List Error) (rest : List ℕ) (h : length es ≤ c) where
  abbrev w : List ℕ
  w = error_words c es ++ rest

  pub errors-count : count w ≡ length es
  unfolding count error_words
  errors-count = refl

  pub errors-capacity : capacity w ≡ c
  unfolding capacity error_words
  errors-capacity = refl

  pub error-rows : rows (error_row w) (length es) ≡ map error_line es
  error-rows = rows-map (error_row w) error_line none es row
    where
      at : (i : ℕ) → i < length es → (j : ℕ) → j < 6 → get_or w (2 + c + 6 * i + j) 0 ≡ get_or (group (get_or es i none)) j 0
      at i l j k =
          unfold groups_in count capacity error_words in
          (let z : 2 + c + 6 * i + j ≡ 2 + c + (6 * i + j) = omega arith in
          ap (λ n. get_or w n 0) z
          ∙ part_at w (groups es) (6 * length es) (2 + c) (6 * i + j) (error-groups c es rest h) (omega arith)
          ∙ group_at es i j l k)

      row : (i : ℕ) → i < length es → error_row w i ≡ error_line (get_or es i none)
      row i l =
          unfold error_row error_line kinds count capacity error_words group error_number in
          (let n = part_at w (map error_number es) (length es) 2 i (error-kinds c es rest) l ∙ map_at error_number none es i l in
          let z : 2 + c + 6 * i ≡ 2 + c + 6 * i + 0 = omega arith in
          let a = ap (λ n. get_or w n 0) z ∙ at i l 0 (omega arith) in
          let b = at i l 1 (omega arith) in
          let d = at i l 2 (omega arith) in
          let f = at i l 3 (omega arith) in
          let g = at i l 4 (omega arith) in
          let k = at i l 5 (omega arith) in
          cc)

-- all lines of a reading
pub read-rows : (c n : ℕ) (ms : List Mark) (es : List Error) (x y : List ℕ) → length ms ≤ c → length es ≤ n
    → read_rows (tree_words c ms ++ x) (error_words n es ++ y) ≡ lines_of (read ms es)
unfolding read_rows lines_of answer_of count tree_words error_words
read-rows c n ms es x y h l = ap₂ (λ a b. (0 ∷ length ms ∷ length es ∷ []) ∷ (a ++ b)) (mark-rows c ms x h) (error-rows n es y l)
