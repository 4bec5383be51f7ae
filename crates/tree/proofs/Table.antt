-- The table of the content models is right: one test that antt computes over all of its bytes, and what each byte then says.
use Prim.Native.Nat.{ℕ, zero, suc, ◌+◌, ◌-◌, ◌*◌, ◌≤◌, ◌<◌}
use native.Mathlib.Nat.{add-zero, zero-add, le_of_suc-le-suc, not-suc-le-zero}
use native.Mathlib.Omega.{arith}
use mathlib.Core.Path.{◌≡◌, refl, ◌∙◌}
use mathlib.Core.Bool.{Bool, true, false, ◌&&◌, and-eq-true_iff}
use mathlib.Core.List.{List, [], ◌∷◌}
use mathlib.Core.Option.{Option, some, none}
use lib.Dec.{eqb, leb, ltb}
use lib.ListN.{length, get_or, take, drop}
use lib.Seq.{get_or-drop, get_or-take}
use borrow.Author.Tests.{eqb-true, eqb-false, leb-true, lt-ltb}
use Rattle.syntax.specs.Kind as Kind
use Rattle.syntax.specs.declared.kind.Kind.{Kind}
use Rattle.std.specs.declared.option.Option as Rust
use Rattle.syntax.specs.Shape.{models, step, final}
use Rattle.laws.specs.Bytes.{by_case}
use Rattle.laws.specs.Shape.Run.{rule}
use Rattle.tree.proofs.Numbers.{number_small, parent_small}
use Rattle.tree.specs.Models.{parent, next_of, byte_of, end_byte, Table, entry, Right}
use Rattle.std.specs.Prelude.{Some, None}
use Rattle.tree.specs.declared.models.Next.TheVariants.{Text, Node}

-- the test f passes at each element of the list and its place, counted from i
abbrev every : {A : Type 0} → (ℕ → A → Bool) → ℕ → List A → Bool
every f i [] = true
every f i (x ∷ xs) = f i x && every f (suc i) xs

every-at : {A : Type 0} (d : A) (f : ℕ → A → Bool) (xs : List A) (i k : ℕ) → every f i xs ≡ true → k < length xs
    → f (i + k) (get_or xs k d) ≡ true
every-at d f [] i k t h = absurd (not-suc-le-zero h)
every-at d f (x ∷ xs) i zero t h = rw add-zero ((and-eq-true_iff (f i x) (every f (suc i) xs)).0 t).0
every-at d f (x ∷ xs) i (suc k) t h =
    let e : suc i + k ≡ i + suc k = omega arith in
    rw e at (every-at d f xs (suc i) k ((and-eq-true_iff (f i x) (every f (suc i) xs)).0 t).1 (le_of_suc-le-suc h))

-- the list has n elements, and they pass the test
abbrev filled : {A : Type 0} → ℕ → (ℕ → A → Bool) → List A → Bool
filled n f xs = eqb (length xs) n && every f 0 xs

filled_at : {A : Type 0} (d : A) (n : ℕ) (f : ℕ → A → Bool) (xs : List A) (k : ℕ) → filled n f xs ≡ true → k < n → f k (get_or xs k d) ≡ true
filled_at d n f xs k t h =
    let b = (and-eq-true_iff (eqb (length xs) n) (every f 0 xs)).0 t in
    let l = eqb-true (length xs) n b.0 in
    rw zero-add at (every-at d f xs 0 k b.1 (omega arith))

unfoldable pub byte_at : (k q j : ℕ) → ℕ
byte_at k q j = elim (ltb j 27) [ true ↦ byte_of (Kind.is_text j) (step k q j) | false ↦ end_byte (final k q) ]

unfoldable pub right_row : (k q : ℕ) → List ℕ → Bool
right_row k q row = filled 28 (λ j x. eqb x (byte_at k q j)) row

-- the row of the state q
abbrev row : ℕ → List ℕ → List ℕ
row q bytes = take 28 (drop (28 * q) bytes)

-- the rows of the states below n
unfoldable pub right_rows : (k n : ℕ) → List ℕ → Bool
right_rows k zero bytes = true
right_rows k (suc n) bytes = right_row k n (row n bytes) && right_rows k n bytes

rows_at : (k n : ℕ) (bytes : List ℕ) (q : ℕ) → right_rows k n bytes ≡ true → q < n → right_row k q (row q bytes) ≡ true
unfolding right_rows
rows_at k zero bytes q t h = absurd (not-suc-le-zero h)
rows_at k (suc n) bytes q t h =
    let b = (and-eq-true_iff (right_row k n (row n bytes)) (right_rows k n bytes)).0 t in
    by_case (eqb q n) (λ e. rw (eqb-true q n e) b.0) (λ e. rows_at k n bytes q b.1 (omega (arith, eqb-false q n e)))

unfoldable pub right_kind : ℕ → List ℕ → Bool
right_kind k bytes = right_rows k 4 bytes

unfoldable pub right_table : Table → Bool
right_table t = filled 27 right_kind t

module _ (t : Table) (e : right_table t ≡ true) where
  at : (k q j : ℕ) → k < 27 → q < 4 → j < 28 → entry t k q j ≡ byte_at k q j
  unfolding right_table right_kind right_row
  at k q j x y z =
      let bytes = get_or t k [] in
      let r = filled_at 0 28 (λ j x. eqb x (byte_at k q j)) (row q bytes) j (rows_at k 4 bytes q (filled_at [] 27 right_kind t k e x) y) z in
      rw (get_or-take, get_or-drop) at (eqb-true (get_or (row q bytes) j 0) (byte_at k q j) r)

  pub right : Right t
  unfolding byte_at
  right =
      record {
        next = λ k q j x y z. at k q j (omega arith) (omega arith) (omega arith) ∙ rw (lt-ltb j 27 (omega arith), byte_at);
        end = λ k q x y. at k q 27 (omega arith) (omega arith) (omega arith);
      }

-- what the byte x of a child says: the states that the models lead to are at most 3
next_small : (k q j r : ℕ) → step k q j ≡ some r → r ≤ 3
unfolding models
next_small k q j r s = leb-true _ _ (rule (λ k q j r. leb r 3) refl k q j r s)

reads-none : (text : Bool) (o : Option ℕ) (x : ℕ) → x ≡ byte_of text o → x ≡ 45 → None ≡ next_of text o
unfolding next_of byte_of
reads-none text none x e h = refl
reads-none true (some r) x e h = absurd (omega arith)
reads-none false (some r) x e h = absurd (omega arith)

reads-text : (text : Bool) (o : Option ℕ) (x : ℕ) → x ≡ byte_of text o → (x ≡ 45 → ⊥) → x < 97
    → (48 ≤ x) × (Some (Text (x - 48)) ≡ next_of text o)
unfolding next_of byte_of
reads-text text none x e h l = absurd (h e)
reads-text true (some r) x e h l = let z : x - 48 ≡ r = omega arith in rw z (omega arith, refl)
reads-text false (some r) x e h l = absurd (omega arith)

reads-node : (text : Bool) (o : Option ℕ) (x : ℕ) → ((r : ℕ) → o ≡ some r → r ≤ 3) → x ≡ byte_of text o → 97 ≤ x
    → Some (Node (x - 97)) ≡ next_of text o
unfolding next_of byte_of
reads-node text none x s e l = absurd (omega arith)
reads-node true (some r) x s e l = absurd (omega (arith, s r refl))
reads-node false (some r) x s e l = let z : x - 97 ≡ r = omega arith in rw z

-- the byte at i and j, the numbers of a parent and its child
module _ (t : Table) (w : Right t) {i q j : ℕ} (kind : Rust.Option Kind) (child : Kind) (b : q ≤ 3)
    (x : i ≡ parent kind) (y : j ≡ Kind.number_of child) where
  abbrev text : Bool
  text = Kind.is_text (Kind.number_of child)

  abbrev next : Option ℕ
  next = step (parent kind) q (Kind.number_of child)

  byte : entry t i q j ≡ byte_of text next
  byte = rw (x, y) (w.next (parent kind) q (Kind.number_of child) (parent_small kind) b (number_small child))

  pub step-none : entry t i q j ≡ 45 → None ≡ next_of text next
  step-none h = reads-none text next (entry t i q j) byte h

  pub step-text : (entry t i q j ≡ 45 → ⊥) → entry t i q j < 97 → (48 ≤ entry t i q j)
      × (Some (Text (entry t i q j - 48)) ≡ next_of text next)
  step-text h l = reads-text text next (entry t i q j) byte h l

  pub step-node : 97 ≤ entry t i q j → Some (Node (entry t i q j - 97)) ≡ next_of text next
  step-node l = reads-node text next (entry t i q j) (next_small (parent kind) q (Kind.number_of child)) byte l

pub end_read : (t : Table) → Right t → (k q : ℕ) → k ≤ Kind.named_argument → q ≤ 3 → eqb (entry t k q 27) 43 ≡ final k q
unfolding end_byte
end_read t w k q a b = rw (w.end k q a b) (by_case (final k q) (λ e. rw (e, end_byte)) (λ e. rw (e, end_byte)))

-- what the answer of `step` says of the models
pub next-text : (text : Bool) (o : Option ℕ) (r : ℕ) → Some (Text r) ≡ next_of text o → (text ≡ true) × (o ≡ some r)
unfolding next_of
next-text text none r e = cc
next-text true (some q) r e = (refl, cc)
next-text false (some q) r e = cc

pub next-node : (text : Bool) (o : Option ℕ) (r : ℕ) → Some (Node r) ≡ next_of text o → (text ≡ false) × (o ≡ some r)
unfolding next_of
next-node text none r e = cc
next-node true (some q) r e = cc
next-node false (some q) r e = (refl, cc)

pub next-none : (text : Bool) (o : Option ℕ) → None ≡ next_of text o → o ≡ none
unfolding next_of
next-none text none e = refl
next-none true (some q) e = cc
next-none false (some q) e = cc
