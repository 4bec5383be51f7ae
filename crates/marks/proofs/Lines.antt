-- Lines put one after another, and the rows of words that they show.
use Prim.Native.Nat.{ℕ, zero, suc, ◌+◌, ◌-◌, ◌*◌, ◌^◌, ◌≤◌, ◌<◌}
use native.Mathlib.Nat.{mul-suc}
use native.Mathlib.Numerals.{add-one}
use native.Mathlib.Omega.{arith}
use mathlib.Core.Path.{◌≡◌, refl, sym, ap, ap₂, ◌∙◌}
use mathlib.Core.List.{List, [], ◌∷◌, ◌++◌, append_assoc, append-nil}
use lib.ListN.{length, get_or, take, drop, length-append, length-drop}
use lib.Seq.{drop-drop, length-take-le, get_or-take, get_or-drop}
use Rattle.std.specs.Simd.{first_chunks}
use Rattle.syntax.specs.Byte as Byte
use Rattle.syntax.specs.Decimal.{decimal}
use Rattle.syntax.specs.Listing.{line, lines}
use Rattle.syntax.specs.Layout.{count, capacity}
use Rattle.output.specs.declared.text.Output.{Output}
use Rattle.output.specs.Put.{DidPut}
use Rattle.output.proofs.Puts.{put-none, did-length, did_as, did_then}
use Rattle.output.proofs.Lines.{field_room, line-few, line_first, put_first}
use Rattle.marks.specs.Rows.{span, rows, mark_row, error_row, read_rows, Held}

-- two numbers, and a line's others
pub put-after : {o o₁ o₂ : Output} (x y z : ℕ) (zs : List ℕ) → length o.bytes.now < 2 ^ 64 → DidPut o o₁ (span x y)
    → DidPut o₁ o₂ (line (z ∷ zs)) → DidPut o o₂ (line (x ∷ y ∷ z ∷ zs))
unfolding span
put-after x y z zs l h k =
    let first = decimal x ++ (Byte.space ∷ []) in
    let second = decimal y ++ (Byte.space ∷ []) in
    did_as (did_then h l k)
    (append_assoc first second (line (z ∷ zs)) ∙ ap (λ t. first ++ t) (line_first y z zs) ∙ line_first x y (z ∷ zs))

pub lines_then : (xs ys : List (List ℕ)) → lines (xs ++ ys) ≡ lines xs ++ lines ys
unfolding lines
lines_then [] ys = refl
lines_then (x ∷ xs) ys = ap (λ t. line x ++ t) (lines_then xs ys) ∙ sym (append_assoc (line x) (lines xs) (lines ys))

-- no row yet, and one more
pub put-no-row : (f : ℕ → List ℕ) {o : Output} → o.at < 2 ^ 64 → DidPut o o (lines (rows f 0))
unfolding rows lines
put-no-row f l = record { same_reference = refl; put = put-none l }

pub put-row : (f : ℕ → List ℕ) (i : ℕ) {o o₁ o₂ : Output} → length o.bytes.now < 2 ^ 64 → DidPut o o₁ (lines (rows f i))
    → DidPut o₁ o₂ (line (f i)) → DidPut o o₂ (lines (rows f (i + 1)))
unfolding rows lines
put-row f i l g h =
    did_as (did_then g l h)
    (rw add-one (sym (lines_then (rows f i) (f i ∷ []) ∙ ap (λ t. lines (rows f i) ++ t) (append-nil (line (f i))))))

rows_few : (f : ℕ → List ℕ) (size : ℕ) → ((i : ℕ) → length (line (f i)) ≤ size) → (n : ℕ) → length (lines (rows f n)) ≤ size * n
unfolding rows lines
rows_few f size h zero = omega arith
rows_few f size h (suc n) =
    let last = lines_then (rows f n) (f n ∷ []) ∙ ap (λ t. lines (rows f n) ++ t) (append-nil (line (f n))) in
    omega (arith, h n, rows_few f size h n, mul-suc size n, ap length last, length-append (lines (rows f n)) (line (f n)))

-- the words behind the sizes, of which the first array takes as many as the capacity
abbrev pub behind : List ℕ → List ℕ
behind ws = take (length ws - 2) (drop 2 ws)

first_at : (ws : List ℕ) (n c i : ℕ) → i < n → n ≤ c → 2 + c ≤ length ws → get_or (take n (take c (behind ws))) i 0 ≡ get_or ws (2 + i) 0
first_at ws n c i h k l =
    get_or-take n (take c (behind ws)) i 0 h ∙ get_or-take c (behind ws) i 0 (omega arith)
    ∙ get_or-take (length ws - 2) (drop 2 ws) i 0 (omega arith) ∙ get_or-drop 2 ws i 0

second_at : (ws : List ℕ) (c j : ℕ) → 2 + c + j < length ws → get_or (drop c (behind ws)) j 0 ≡ get_or ws (2 + c + j) 0
second_at ws c j l =
    get_or-drop c (behind ws) j 0 ∙ get_or-take (length ws - 2) (drop 2 ws) (c + j) 0 (omega arith) ∙ get_or-drop 2 ws (c + j) 0
    ∙ ap (λ n. get_or ws n 0) (omega arith)

-- the rows by the words that were read
pub mark-row : (t : List ℕ) (i k p : ℕ) → Held 1 t → i < count t → k ≡ get_or (take (get_or t 0 0) (take (get_or t 1 0) (behind t))) i 0
    → p ≡ get_or (drop (get_or t 1 0) (behind t)) i 0 → (k ∷ p ∷ []) ≡ mark_row t i
unfolding mark_row capacity count
mark-row t i k p h l e f =
    ap₂ (λ (a b : ℕ). a ∷ b ∷ [])
    (e ∙ first_at t (get_or t 0 0) (get_or t 1 0) i l h.counted (omega (arith, h.words)))
    (f ∙ second_at t (get_or t 1 0) i (omega (arith, h.words, h.counted)))

pub six : (xs : List ℕ) → length xs ≡ 6
    → (get_or xs 0 0 ∷ get_or xs 1 0 ∷ get_or xs 2 0 ∷ get_or xs 3 0 ∷ get_or xs 4 0 ∷ get_or xs 5 0 ∷ []) ≡ xs
six [] h = absurd (omega (arith, h))
six (a ∷ []) h = absurd (omega (arith, h))
six (a ∷ b ∷ []) h = absurd (omega (arith, h))
six (a ∷ b ∷ c ∷ []) h = absurd (omega (arith, h))
six (a ∷ b ∷ c ∷ d ∷ []) h = absurd (omega (arith, h))
six (a ∷ b ∷ c ∷ d ∷ e ∷ []) h = absurd (omega (arith, h))
six (a ∷ b ∷ c ∷ d ∷ e ∷ f ∷ []) h = refl
six (a ∷ b ∷ c ∷ d ∷ e ∷ f ∷ g ∷ xs) h = absurd (omega (arith, h))

chunk_at : (k i : ℕ) (xs d : List ℕ) → i < k → get_or (first_chunks 6 k xs) i d ≡ take 6 (drop (6 * i) xs)
chunk_at zero i xs d l = absurd (omega arith)
chunk_at (suc k) zero xs d l = ap (λ n. take 6 (drop n xs)) {x = 0} {y = 6 * 0} (omega arith)
chunk_at (suc k) (suc i) xs d l =
    chunk_at k i (drop 6 xs) d (omega arith) ∙ ap (take 6) (drop-drop (6 * i) 6 xs)
    ∙ ap (λ n. take 6 (drop n xs)) {x = 6 + 6 * i} {y = 6 * suc i} (omega arith)

pub error-row : (e : List ℕ) (i n k : ℕ) (g : List ℕ) → Held 6 e → i < count e → i < n
    → k ≡ get_or (take (get_or e 0 0) (take (get_or e 1 0) (behind e))) i 0
    → g ≡ get_or (first_chunks 6 n (drop (get_or e 1 0) (behind e))) i [] → (k ∷ g) ≡ error_row e i
unfolding error_row capacity count
error-row e i n k g h l m f q =
    let c = get_or e 1 0 in
    let start = 2 + c + 6 * i in
    let rest = drop c (behind e) in
    let word : (j : ℕ) → j < 6 → get_or g j 0 ≡ get_or e (start + j) 0 = λ j s.
    ap (λ xs. get_or xs j 0) (q ∙ chunk_at n i rest [] m) ∙ get_or-take 6 (drop (6 * i) rest) j 0 s ∙ get_or-drop (6 * i) rest j 0
    ∙ second_at e c (6 * i + j) (omega (arith, h.words, h.counted)) ∙ ap (λ n. get_or e n 0) (omega arith) in
    let z : start ≡ start + 0 = omega arith in
    let w0 = word 0 (omega arith) ∙ ap (λ n. get_or e n 0) (sym z) in
    let w1 = word 1 (omega arith) in
    let w2 = word 2 (omega arith) in
    let w3 = word 3 (omega arith) in
    let w4 = word 4 (omega arith) in
    let w5 = word 5 (omega arith) in
    let kind = f ∙ first_at e (get_or e 0 0) c i l h.counted (omega (arith, h.words)) in
    let long = length-take-le (length e - 2) (drop 2 e) (omega (arith, length-drop 2 e)) in
    let room : 6 ≤ length (drop (6 * i) rest) =
    omega (arith, h.words, h.counted, long, length-drop c (behind e), length-drop (6 * i) rest) in
    let whole = six g (ap length (q ∙ chunk_at n i rest [] m) ∙ length-take-le 6 (drop (6 * i) rest) room) in
    cc

-- how long all lines are
pub reading-few : (t e : List ℕ) → length (lines (read_rows t e)) ≤ 3 * field_room + 2 * field_room * count t + 7 * field_room * count e
unfolding read_rows lines mark_row error_row
reading-few t e =
    let ms = rows (mark_row t) (count t) in
    let es = rows (error_row e) (count e) in
    let first = line (0 ∷ count t ∷ count e ∷ []) in
    let marks = rows_few (mark_row t) (2 * field_room) (λ i. line-few _ _) (count t) in
    let errors = rows_few (error_row e) (7 * field_room) (λ i. line-few _ _) (count e) in
    let rest = ap length (lines_then ms es) ∙ length-append (lines ms) (lines es) in
    omega (arith, line-few 0 (count t ∷ count e ∷ []), length-append first (lines (ms ++ es)))

-- all lines
pub put-reading : {o o₁ o₂ o₃ o₄ : Output} (t e : List ℕ) {n k : ℕ} → length o.bytes.now < 2 ^ 64 → n ≡ get_or t 0 0 → k ≡ get_or e 0 0
    → DidPut o o₁ (decimal 0 ++ (Byte.space ∷ [])) → DidPut o₁ o₂ (line (n ∷ k ∷ []))
    → DidPut o₂ o₃ (lines (rows (mark_row t) (count t))) → DidPut o₃ o₄ (lines (rows (error_row e) (count e)))
    → DidPut o o₄ (lines (read_rows t e))
unfolding read_rows lines count
put-reading t e s p q f g h l =
    let first = put_first 0 (count t) (count e ∷ []) s f (did_as g (cc)) in
    let rest = did_then h (omega (arith, did-length first)) l in
    did_then first s (did_as rest (sym (lines_then (rows (mark_row t) (count t)) (rows (error_row e) (count e)))))
