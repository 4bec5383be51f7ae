-- Messages and terms at a cut.
use Prim.Native.Nat.{ℕ, zero, suc, ◌+◌, ◌≤◌, ◌<◌}
use Rattle.std.proofs.Common.{not-suc-le-zero, le_of_suc-le-suc, add-zero, sym, ◌∙◌, subst, drop-drop}
use native.Mathlib.Omega.{arith}
use Rattle.std.specs.Prelude.{◌≡◌, Bool, true, false, ◌||◌, eqb}
use Rattle.std.proofs.Math.Path.{refl, ap}
use Rattle.std.proofs.Math.Bool.{not}
use mathlib.Core.List.{List, [], ◌∷◌, ◌++◌, append-nil}
use Rattle.std.proofs.Math.ListN.{drop, length, length-drop, length-append}
use Rattle.syntax.specs.Bytes.{starts_with, is_letter, spaces}
use Rattle.syntax.specs.Marks.{Mark}
use Rattle.syntax.specs.Reader.{Out, ok, bad, deep, Reader, ◌>>=◌, ◌>>◌, pure, next, after, Turn, again, done, loop, repeat}
use Rattle.syntax.specs.Helper.{skip_blank_inline, skip_blank_block, expect_byte, get_identifier}
use Rattle.syntax.specs.Pattern.{Inside, get_pattern}
use Rattle.syntax.specs.Core.{get_attribute, attribute_by, attribute_turn, get_attributes, Fields, fields, term_fields}
use Rattle.syntax.specs.Core.{as_message, as_term, get_entry}
use Rattle.laws.specs.Bytes.{Whole, whole-tail, whole_drop, Fresh, Stop, stop-fresh, by_case, clash, drop_app}
use Rattle.laws.specs.Bytes.{spaces-whole, fresh-spaces, not-fresh, pick, pick₂}
use Rattle.laws.specs.Answers.{Holds, holds-map}
use Rattle.laws.specs.Stable.{Mode, fresh, none, Upto, Within, Carries, Reads, Short, inner-keeps, from-any, bind}
use Rattle.laws.specs.Stable.{then, strict-then, inner-bind, pure-reads, node-reads, TurnWithin, TurnCarries}
use Rattle.laws.specs.Stable.{Free, repeat-reads, next-ok}
use Rattle.laws.specs.Stable.Helper.{Soft, past-spaces, expect_byte-reads, expect_byte-strict, inline-reads}
use Rattle.laws.specs.Stable.Helper.{identifier-reads, block_reads}
use Rattle.laws.specs.Stable.Pattern.{InsideLaw, get_pattern-inner}
use Rattle.laws.specs.Stable.Expression.{needs_value-reads}

-- the rest does not start with an attribute
abbrev pub dotted : List ℕ → Bool
dotted r = starts_with 46 (drop (spaces r) r)

module _ (m : Mode) (soft : Soft m) (sub : Inside) (law : InsideLaw sub) where
  pub attribute-reads : Reads m (get_attribute sub)
  unfolding get_attribute
  attribute-reads = node-reads 10 (then (from-any m (identifier-reads 9)) (then (inline-reads m soft)
      (strict-then (from-any m (expect_byte-reads 61 (λ e. omega arith)))
      (expect_byte-strict 61 (λ e. omega arith) (λ e. omega arith))
      (inner-bind (get_pattern-inner m soft sub law) (needs_value-reads m)))))

-- the turn of an attribute, by what follows its spaces
abbrev attribute_of : Inside → ℕ → ℕ → Bool → List ℕ → Turn ℕ ℕ
attribute_of sub n k v r = elim v [ true ↦ attribute_by n (k + 1) (get_attribute sub r) | false ↦ done (ok n [] 0) ]

attribute-at : (sub : Inside) (n k : ℕ) (r t s : List ℕ) → spaces s ≡ k → drop k s ≡ r → drop (k + 1) s ≡ t
    → attribute_turn sub n s ≡ attribute_of sub n k (starts_with 46 r) t
unfolding attribute_turn
attribute-at sub n k r t s e d f = ap (λ j. attribute_of sub n j (starts_with 46 (drop j s)) (drop (j + 1) s)) e
    ∙ ap (λ z. attribute_of sub n k (starts_with 46 z) (drop (k + 1) s)) d ∙ ap (attribute_of sub n k (starts_with 46 r)) f

fresh-dot : (y : List ℕ) → Fresh y → starts_with 46 y ≡ false
unfolding starts_with is_letter
fresh-dot [] f = refl
fresh-dot (c ∷ cs) f = by_case (eqb c 46) (λ q. clash f (not-fresh c 46 refl q)) (λ q. q)

attribute-calm : (sub : Inside) (n : ℕ) (y : List ℕ) → Fresh y → attribute_turn sub n y ≡ done (ok n [] 0)
attribute-calm sub n y f = attribute-at sub n 0 y (drop (0 + 1) y) y (fresh-spaces y f) refl refl ∙ rw (fresh-dot y f) refl

attribute_by-within : (n k l : ℕ) (o : Out (Unit {0})) → Within l o → TurnWithin Free (k + l) (attribute_by n k o)
unfolding attribute_by
attribute_by-within n k l (ok a ms j) h = (omega arith, tt)
attribute_by-within n k l (bad f j) h = omega arith
attribute_by-within n k l (deep j) h = tt

none-turn : {S A : Type 0} (y : List ℕ) (n : ℕ) (t t' : Turn S A) → TurnCarries Free (Upto none y n) t t'
none-turn y n (again st ms k) t' = λ u. absurd u
none-turn y n (done (ok a ms k)) t' = λ u. absurd u
none-turn y n (done (bad f k)) t' = tt
none-turn y n (done (deep k)) t' = tt

drop-one : (k c : ℕ) (cs s : List ℕ) → drop k s ≡ c ∷ cs → drop (k + 1) s ≡ cs
drop-one k c cs s e = sym (drop-drop 1 k s) ∙ ap (drop 1) e

module _ (sub : Inside) (law : InsideLaw sub) where
  attribute-cut : (n b : ℕ) (bs y : List ℕ) → Whole (b ∷ bs) → (k c : ℕ) × (cs : List ℕ) × Whole cs
      × (attribute_turn sub n (b ∷ bs) ≡ attribute_of sub n k (eqb c 46) cs)
      × (attribute_turn sub n ((b ∷ bs) ++ y) ≡ attribute_of sub n k (eqb c 46) (cs ++ y))
      × (k + 1 + length cs ≡ suc (length bs)) × (dotted (b ∷ bs) ≡ eqb c 46)
  unfolding starts_with
  attribute-cut n b bs y w =
      let (c, cs, e, v, l) = past-spaces b bs w in
      let k = spaces (b ∷ bs) in
      let le : k ≤ length (b ∷ bs) = omega (arith, (spaces-whole b bs [] w).1) in
      let f : drop k ((b ∷ bs) ++ y) ≡ (c ∷ cs) ++ y = drop_app k (b ∷ bs) y le ∙ ap (λ r. r ++ y) e in (
        k,
        c,
        cs,
        whole-tail c cs v,
        attribute-at sub n k (c ∷ cs) cs (b ∷ bs) refl e (drop-one k c cs (b ∷ bs) e),
        attribute-at sub n k ((c ∷ cs) ++ y) (cs ++ y) ((b ∷ bs) ++ y) (spaces-whole b bs y w).0 f
            (drop-one k c (cs ++ y) ((b ∷ bs) ++ y) f),
        omega arith,
        ap (starts_with 46) e,
      )

  attributes-stops : (n : ℕ) (x y : List ℕ) → Whole x → Unit {0} → Stop y → TurnWithin Free (length x) (attribute_turn sub n (x ++ y))
  attributes-stops n [] y w i s = rw (attribute-calm sub n y (stop-fresh y s)) (omega arith)
  attributes-stops n (b ∷ bs) y w i s =
      let (k, c, cs, v, e, f, l, d) = attribute-cut n b bs y w in
      subst (TurnWithin Free (suc (length bs))) (sym f)
      (pick (TurnWithin Free (suc (length bs))) (eqb c 46) _ _
      (λ q. subst (λ z. TurnWithin Free z (attribute_by n (k + 1) (get_attribute sub (cs ++ y)))) l
      (attribute_by-within n (k + 1) (length cs) (get_attribute sub (cs ++ y))
      ((attribute-reads none tt sub law).stops cs y v s)))
      (λ q. omega arith))

  pub attributes-none : Reads none (get_attributes sub)
  unfolding get_attributes
  attributes-none =
      repeat-reads (attribute_turn sub)
      (record {
        stops = attributes-stops;
        keeps = λ n x y w i. none-turn y (length x) (attribute_turn sub n x) (attribute_turn sub n (x ++ y));
      }) 0

  -- where an entry may end before a cut
  abbrev pub Cut : List ℕ → ℕ → Type 0
  Cut x k = (k ≤ length x) × (dotted (drop k x) ≡ false)

  cut-rest : (x : List ℕ) (k j : ℕ) → Cut x (k + j) → Cut (drop k x) j
  cut-rest x k j u = (rw length-drop (omega (arith, u.0)), rw (drop-drop j k x) u.1)

  abbrev TurnEnds : List ℕ → Turn ℕ ℕ → Turn ℕ ℕ → Type 0
  TurnEnds x (again st ms k) t = k ≤ length x → t ≡ again st ms k
  TurnEnds x (done (ok a ms k)) t = Cut x k → t ≡ done (ok a ms k)
  TurnEnds x (done (bad f k)) t = Unit {0}
  TurnEnds x (done (deep k)) t = Unit {0}

  attribute_by-ends : (n k b : ℕ) (bs cs y : List ℕ) (o o' : Out (Unit {0})) → Fresh y → dotted (b ∷ bs) ≡ true
      → k + length cs ≡ suc (length bs)
      → Carries (Upto fresh y (length cs)) o o'
      → TurnEnds (b ∷ bs) (attribute_by n k o) (attribute_by n k o')
  unfolding attribute_by
  attribute_by-ends n k b bs cs y (ok a ms j) o' f d l c = λ u. ap (attribute_by n k) (c (omega arith, f))
  attribute_by-ends n k b bs cs y (bad e j) o' f d l c = λ u. clash d u.1
  attribute_by-ends n k b bs cs y (deep j) o' f d l c = tt

  pick_ends : (x : List ℕ) (v : Bool) (o u o' u' : Turn ℕ ℕ) → (v ≡ true → TurnEnds x o o') → (v ≡ false → TurnEnds x u u')
      → TurnEnds x (elim v [ true ↦ o | false ↦ u ]) (elim v [ true ↦ o' | false ↦ u' ])
  pick_ends x true o u o' u' f g = f refl
  pick_ends x false o u o' u' f g = g refl

  turn-ends : (n : ℕ) (x y : List ℕ) → Whole x → Fresh y → TurnEnds x (attribute_turn sub n x) (attribute_turn sub n (x ++ y))
  turn-ends n [] y w f =
      subst (λ t. TurnEnds [] t (attribute_turn sub n y)) (sym (attribute-calm sub n [] tt))
      (λ u. attribute-calm sub n y f)
  turn-ends n (b ∷ bs) y w g =
      let (k, c, cs, v, e, f, l, d) = attribute-cut n b bs y w in
      subst (λ t. TurnEnds (b ∷ bs) t (attribute_turn sub n ((b ∷ bs) ++ y))) (sym e)
      (subst (TurnEnds (b ∷ bs) (attribute_of sub n k (eqb c 46) cs)) (sym f)
      (pick_ends (b ∷ bs) (eqb c 46) _ _ _ _
      (λ q. attribute_by-ends n (k + 1) b bs cs y (get_attribute sub cs) (get_attribute sub (cs ++ y)) g (d ∙ q) l
      ((attribute-reads fresh tt sub law).keeps cs y v))
      (λ q u. refl)))

  loop-ends : (n n' st : ℕ) (x y : List ℕ) → n ≤ n' → Whole x → Fresh y
      → Carries (Cut x) (loop n (attribute_turn sub) st x) (loop n' (attribute_turn sub) st (x ++ y))
  unfolding loop after
  loop-ends zero n' st x y le w f = tt
  loop-ends (suc n) zero st x y le w f = absurd (not-suc-le-zero le)
  loop-ends (suc n) (suc n') st x y le w f =
      go (attribute_turn sub st x) (attribute_turn sub st (x ++ y)) (turn-ends st x y w f)
      (λ st' k. loop-ends n n' st' (drop k x) y (le_of_suc-le-suc le) (whole_drop k x w) f)
    where
      inner : (st' : ℕ) (ms : List Mark) (k : ℕ) (t : Turn ℕ ℕ) → (k ≤ length x → t ≡ again st' ms k) → (o : Out ℕ)
          → Carries (Cut (drop k x)) o (loop n' (attribute_turn sub) st' (drop k x ++ y))
          → Carries {A = ℕ} (Cut x) (after ms k o)
          (elim t [ again st' ms k ↦ after ms k (loop n' (attribute_turn sub) st' (drop k (x ++ y))) | done o ↦ o ])
      inner st' ms k t e (ok a ns j) c = λ u.
          let l : k ≤ length x = omega (arith, u.0) in
          rw (e l) (rw (drop_app k x y l) (ap (after ms k) (c (cut-rest x k j u))))
      inner st' ms k t e (bad f j) c = tt
      inner st' ms k t e (deep j) c = tt

      go : (t t' : Turn ℕ ℕ) → TurnEnds x t t'
          → ((st' k : ℕ)
          → Carries (Cut (drop k x)) (loop n (attribute_turn sub) st' (drop k x))
          (loop n' (attribute_turn sub) st' (drop k x ++ y)))
          → Carries {A = ℕ} (Cut x)
          (elim t [ again st' ms k ↦ after ms k (loop n (attribute_turn sub) st' (drop k x)) | done o ↦ o ])
          (elim t' [ again st' ms k ↦ after ms k (loop n' (attribute_turn sub) st' (drop k (x ++ y))) | done o ↦ o ])
      go (again st' ms k) t' e r = inner st' ms k t' e (loop n (attribute_turn sub) st' (drop k x)) (r st' k)
      go (done (ok a ms k)) t' e r = λ u. rw (e u) refl
      go (done (bad d k)) t' e r = tt
      go (done (deep k)) t' e r = tt

  attributes-ends : (x y : List ℕ) → Whole x → Fresh y → Carries (Cut x) (get_attributes sub x) (get_attributes sub (x ++ y))
  unfolding get_attributes repeat
  attributes-ends x y w f = loop-ends (suc (length x)) (suc (length (x ++ y))) 0 x y (omega (arith, length-append x y)) w f

  abbrev EndsAt : {A : Type 0} → Reader A → List ℕ → List ℕ → Type 0
  EndsAt p x y = Carries (Cut x) (p x) (p (x ++ y))

  cut-weaker : {A : Type 0} (x : List ℕ) (k : ℕ) (o o' : Out A) → (k ≤ length x → Carries (Cut (drop k x)) o o')
      → Carries (λ j. Cut x (k + j)) o o'
  cut-weaker x k (ok a ms j) o' c = λ u. c (omega (arith, u.0)) (cut-rest x k j u)
  cut-weaker x k (bad f j) o' c = tt
  cut-weaker x k (deep j) o' c = tt

  ends_next : {A B : Type 0} (x y : List ℕ) (q : A → Reader B) (o o' : Out A) → Fresh y → Carries (Upto fresh y (length x)) o o'
      → Holds (λ a ms k. k ≤ length x → EndsAt (q a) (drop k x) y) o → Carries (Cut x) (next x q o) (next (x ++ y) q o')
  unfolding next
  ends_next x y q (ok a ms k) o' f c h =
      next-ok (Cut x) x y q a ms k o' (q a (drop k x)) (λ j u. omega (arith, u.0))
      (cut-weaker x k (q a (drop k x)) (q a (drop k x ++ y)) h)
      (λ b ns j e u. c (omega (arith, u.0), f))
  ends_next x y q (bad e k) o' f c h = tt
  ends_next x y q (deep k) o' f c h = tt

  holds-all : {A : Type 0} (P : A → List Mark → ℕ → Type 0) → ((a : A) (ms : List Mark) (k : ℕ) → P a ms k) → (o : Out A) → Holds P o
  holds-all P f (ok a ms k) = f a ms k
  holds-all P f (bad e k) = tt
  holds-all P f (deep k) = tt

  last-ends : {A B : Type 0} (x y : List ℕ) (g : A → B) (o o' : Out A) → Carries (Cut x) o o'
      → Carries (Cut x) (next x (λ a. pure (g a)) o) (next (x ++ y) (λ a. pure (g a)) o')
  unfolding next pure after
  last-ends x y g (ok a ms k) o' c = λ u. ap (next (x ++ y) (λ a. pure (g a))) (c (subst (Cut x) (add-zero k) u))
  last-ends x y g (bad f k) o' c = tt
  last-ends x y g (deep k) o' c = tt

  module _ (y : List ℕ) (f : Fresh y) where
    abbrev made : ℕ → Bool → ℕ → Fields
    made n v c = record { name = n; value = v; attributes = c }

    abbrev tail₁ : ℕ → Bool → Reader Fields
    tail₁ n v = skip_blank_block >> (get_attributes sub >>= λ c. pure (made n v c))

    abbrev tail₂ : ℕ → Reader Fields
    tail₂ n = get_pattern sub >>= tail₁ n

    abbrev tail₃ : ℕ → Reader Fields
    tail₃ n = skip_blank_inline >> (expect_byte 61 >> tail₂ n)

    ends₁ : (n : ℕ) (v : Bool) (x : List ℕ) → Whole x → EndsAt (tail₁ n v) x y
    unfolding ◌>>◌ ◌>>=◌
    ends₁ n v x w =
        ends_next x y (λ _. get_attributes sub >>= λ c. pure (made n v c)) (skip_blank_block x) (skip_blank_block (x ++ y)) f
        ((block_reads fresh tt).keeps x y w)
        (holds-all (λ a ms k. k ≤ length x → EndsAt (get_attributes sub >>= λ c. pure (made n v c)) (drop k x) y)
        (λ a ms k h. last-ends (drop k x) y (made n v) (get_attributes sub (drop k x))
        (get_attributes sub (drop k x ++ y)) (attributes-ends (drop k x) y (whole_drop k x w) f))
        (skip_blank_block x))

    ends₂ : (n : ℕ) (x : List ℕ) → Whole x → 0 < length x → EndsAt (tail₂ n) x y
    unfolding ◌>>◌ ◌>>=◌
    ends₂ n x w l =
        ends_next x y (tail₁ n) (get_pattern sub x) (get_pattern sub (x ++ y)) f
        (inner-keeps (get_pattern-inner fresh tt sub law) x y l w)
        (holds-all (λ v ms k. k ≤ length x → EndsAt (tail₁ n v) (drop k x) y)
        (λ v ms k h. ends₁ n v (drop k x) (whole_drop k x w)) (get_pattern sub x))

    ends₃ : (n : ℕ) (x : List ℕ) → Whole x → EndsAt (tail₃ n) x y
    unfolding ◌>>◌
    ends₃ n x w =
        ends_next x y (λ _. expect_byte 61 >> tail₂ n) (skip_blank_inline x) (skip_blank_inline (x ++ y)) f
        ((inline-reads fresh tt).keeps x y w)
        (holds-all (λ a ms k. k ≤ length x → EndsAt (expect_byte 61 >> tail₂ n) (drop k x) y)
        (λ a ms k h. byte (drop k x) (whole_drop k x w)) (skip_blank_inline x))
      where
        byte : (z : List ℕ) → Whole z → EndsAt (expect_byte 61 >> tail₂ n) z y
        byte z v =
            ends_next z y (λ _. tail₂ n) (expect_byte 61 z) (expect_byte 61 (z ++ y)) f
            ((from-any fresh (expect_byte-reads 61 (λ e. omega arith))).keeps z y v)
            (holds-map (λ a ms k. k < length z) (λ a ms k. k ≤ length z → EndsAt (tail₂ n) (drop k z) y)
            (λ (a : Unit {0}) ms k h g. ends₂ n (drop k z) (whole_drop k z v) (rw length-drop (omega arith)))
            (expect_byte 61 z)
            (subst (λ t. Short (length z) (expect_byte 61 t)) (append-nil z)
            ((expect_byte-strict 61 (λ e. omega arith) (λ e. omega arith)).short z [] v tt)))

    fields-ends : (x : List ℕ) → Whole x → EndsAt (fields sub) x y
    unfolding fields ◌>>=◌
    fields-ends x w =
        ends_next x y tail₃ (get_identifier 9 x) (get_identifier 9 (x ++ y)) f
        ((from-any fresh (identifier-reads 9)).keeps x y w)
        (holds-all (λ n ms k. k ≤ length x → EndsAt (tail₃ n) (drop k x) y)
        (λ n ms k h. ends₃ n (drop k x) (whole_drop k x w)) (get_identifier 9 x))

    term_fields-ends : (x : List ℕ) → Whole x → EndsAt (term_fields sub) x y
    unfolding term_fields ◌>>◌
    term_fields-ends x w =
        ends_next x y (λ _. fields sub) (expect_byte 45 x) (expect_byte 45 (x ++ y)) f
        ((from-any fresh (expect_byte-reads 45 (λ e. omega arith))).keeps x y w)
        (holds-all (λ n ms k. k ≤ length x → EndsAt (fields sub) (drop k x) y)
        (λ n ms k h. fields-ends (drop k x) (whole_drop k x w)) (expect_byte 45 x))

  fields-none : Reads none (fields sub)
  unfolding fields
  fields-none =
      bind (from-any none (identifier-reads 9))
      (λ n. then (inline-reads none tt)
      (strict-then (from-any none (expect_byte-reads 61 (λ e. omega arith)))
      (expect_byte-strict 61 (λ e. omega arith) (λ e. omega arith))
      (inner-bind (get_pattern-inner none tt sub law)
      (λ v. then (block_reads none tt)
      (bind attributes-none (λ c. pure-reads none (record { name = n; value = v; attributes = c })))))))

  term_fields-none : Reads none (term_fields sub)
  unfolding term_fields
  term_fields-none = then (from-any none (expect_byte-reads 45 (λ e. omega arith))) fields-none

  message-carries : (N : ℕ → Type 0) (o o' : Out Fields) → Carries N o o' → Carries N (as_message o) (as_message o')
  unfolding as_message
  message-carries N (ok g ms k) o' c =
      by_case (g.value || not (eqb g.attributes 0))
      (λ q. rw (q, as_message) (λ u. ap as_message (c u) ∙ rw (q, as_message) refl)) (λ q. rw (q, as_message) tt)
  message-carries N (bad f k) o' c = tt
  message-carries N (deep k) o' c = tt

  term-carries : (N : ℕ → Type 0) (o o' : Out Fields) → Carries N o o' → Carries N (as_term o) (as_term o')
  unfolding as_term
  term-carries N (ok g ms k) o' c =
      by_case g.value (λ q. rw (q, as_term) (λ u. ap as_term (c u) ∙ rw (q, as_term) refl)) (λ q. rw (q, as_term) tt)
  term-carries N (bad f k) o' c = tt
  term-carries N (deep k) o' c = tt

  message-within : (n : ℕ) (o : Out Fields) → Within n o → Within n (as_message o)
  unfolding as_message
  message-within n (ok g ms k) h = by_case (g.value || not (eqb g.attributes 0)) (λ q. rw (q, as_message) h) (λ q. rw (q, as_message) tt)
  message-within n (bad f k) h = tt
  message-within n (deep k) h = tt

  term-within : (n : ℕ) (o : Out Fields) → Within n o → Within n (as_term o)
  unfolding as_term
  term-within n (ok g ms k) h = by_case g.value (λ q. rw (q, as_term) h) (λ q. rw (q, as_term) tt)
  term-within n (bad f k) h = tt
  term-within n (deep k) h = tt

  pub entry-ends : (b : ℕ) (bs y : List ℕ) → Whole (b ∷ bs) → Fresh y → eqb b 35 ≡ false
      → Carries (Cut (b ∷ bs)) (get_entry sub (b ∷ bs)) (get_entry sub ((b ∷ bs) ++ y))
  unfolding get_entry starts_with
  entry-ends b bs y w f e = rw (e, get_entry) (pick₂ (Carries (Cut (b ∷ bs))) (eqb b 45) _ _ _ _
      (λ q. term-carries (Cut (b ∷ bs)) (term_fields sub (b ∷ bs)) (term_fields sub ((b ∷ bs) ++ y)) (term_fields-ends y f (b ∷ bs) w))
      (λ q. message-carries (Cut (b ∷ bs)) (fields sub (b ∷ bs)) (fields sub ((b ∷ bs) ++ y)) (fields-ends y f (b ∷ bs) w)))

  pub entry-stops : (b : ℕ) (bs y : List ℕ) → Whole (b ∷ bs) → Stop y → eqb b 35 ≡ false
      → Within (suc (length bs)) (get_entry sub ((b ∷ bs) ++ y))
  unfolding get_entry starts_with
  entry-stops b bs y w s e = rw (e, get_entry) (pick (Within (suc (length bs))) (eqb b 45) _ _
      (λ q. term-within (suc (length bs)) (term_fields sub ((b ∷ bs) ++ y)) (term_fields-none.stops (b ∷ bs) y w s))
      (λ q. message-within (suc (length bs)) (fields sub ((b ∷ bs) ++ y)) (fields-none.stops (b ∷ bs) y w s)))
