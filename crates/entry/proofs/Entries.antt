-- Entries: names, values, attributes, and what messages and terms have.
use Rattle.std.specs.Prelude.{◌≡◌, ℕ, ◌+◌, ◌-◌, ◌<◌, ◌≤◌, Bool, true, false, not, ◌||◌, eqb, Ok, Err, List, [], length, drop}
use mathlib.Core.Path.{refl, sym, ap, ap₂, ◌∙◌}
use native.Mathlib.Nat.{add-zero, add_assoc}
use native.Mathlib.Omega.{arith}
use Rattle.syntax.specs.Byte as Byte
use Rattle.syntax.specs.Bytes.{starts_with, starts, run, is_digit, is_letter, is_name_part}
use Rattle.syntax.specs.Kind as Kind
use Rattle.syntax.specs.Marks.{Mark, text_node}
use Rattle.syntax.specs.Reader.{Out, ok, bad, deep, Reader, next, ◌>>=◌, ◌>>◌, pure, fail, after, wrap, in_node}
use Rattle.syntax.specs.Helper.{take_byte_if, expect_byte, get_identifier, skip_blank_inline, skip_blank_block, number, as_text, get_number_literal}
use Rattle.syntax.specs.Pattern.{Inside, get_pattern}
use Rattle.syntax.specs.Expression.{level, needs_value, get_attribute_accessor, key_text}
use Rattle.syntax.specs.Comment.{get_comment}
use Rattle.syntax.specs.Core as Core
use Rattle.syntax.specs.Core.{get_attribute, get_attributes, fields, term_fields, as_message, as_term, as_comment, get_entry}
use Rattle.syntax.specs.Errors.{fault_from_to}
use Rattle.syntax.specs.declared.errors.CharRange.TheVariants.{Letters}
use Rattle.syntax.specs.declared.errors.ErrorKind.TheVariants.{ExpectedCharRange, ExpectedMessageField, ExpectedTermField}
use borrow.Author.Tests.{ne_eqb}
use Rattle.laws.specs.Bytes.{by_case, pick}
use Rattle.laws.specs.Moving.{bind-bind, after_none}
use Rattle.laws.specs.File.{small_of}
use Rattle.laws.specs.Bounds.{Bounds, bind, then, less, pure-bounds, ok-uses}
use Rattle.laws.specs.Bounds.Pattern.{pattern-bounds}
use Rattle.laws.specs.Bounds.Helper.{inline-bounds, expect_byte-bounds, identifier-bounds}
use Rattle.laws.specs.Bounds.Expression.{name-bounds, value-bounds, level-bounds}
use Rattle.entry.specs.declared.errors.Stop.{Stop}
use Rattle.entry.specs.declared.errors.Stop.TheVariants.{Error}
use Rattle.entry.specs.declared.source.Source.{Source}
use Rattle.entry.specs.declared.marks.Marks.{Marks}
use Rattle.entry.specs.Did.{yes, plain, silent, Did}
use Rattle.entry.specs.Reads.{rest, Finds, ReadsOf}
use Rattle.entry.specs.declared.parser_core.Fields.{Fields}
use Rattle.entry.specs.Entry.{fields_of, identifier, get_name, get_value}
use Rattle.entry.proofs.Places.{Read, found_at, expect-yes, expect-no, identifier-some, identifier-none}
use Rattle.entry.proofs.Steps.{step_cut}
use Rattle.entry.proofs.Dids.{Valued, valued, words-none}
use Rattle.entry.proofs.Chains.{reads-finds, Spent, reads-room, Keeps, reads-through}

-- ---- a byte that was taken, or not
pub taken : (b : ℕ) (s : List ℕ) {r : Bool} {k : ℕ} → take_byte_if b s ≡ ok r [] k → starts_with b s ≡ r
unfolding take_byte_if
taken b s {r} {k} e = by_case (starts_with b s) some none
  where
    some : starts_with b s ≡ true → starts_with b s ≡ r
    some h = let q : ◌≡◌ {A = Out Bool} (ok true [] 1) (ok r [] k) = sym (rw (h, take_byte_if)) ∙ e in let z : true ≡ r = cc in h ∙ z

    none : starts_with b s ≡ false → starts_with b s ≡ r
    none h = let q : ◌≡◌ {A = Out Bool} (ok false [] 0) (ok r [] k) = sym (rw (h, take_byte_if)) ∙ e in let z : false ≡ r = cc in h ∙ z

pub taken-one : (b : ℕ) (s : List ℕ) {k : ℕ} → take_byte_if b s ≡ ok true [] k → k ≡ 1
unfolding take_byte_if
taken-one b s {k} e =
    let h = taken b s e in let q : ◌≡◌ {A = Out Bool} (ok true [] 1) (ok true [] k) = sym (rw (h, take_byte_if)) ∙ e in sym cc

-- ---- what definitions answer, by the byte that stands there
pub accessor-none : (s : List ℕ) → starts_with Byte.dot s ≡ false → get_attribute_accessor s ≡ take_byte_if Byte.dot s
unfolding get_attribute_accessor take_byte_if
accessor-none s h = rw (h, get_attribute_accessor, take_byte_if)

pub accessor-some : (s : List ℕ) → starts_with Byte.dot s ≡ true
    → get_attribute_accessor s ≡ ((take_byte_if Byte.dot >> get_identifier Kind.identifier) >> pure true) s
unfolding get_attribute_accessor take_byte_if expect_byte ◌>>◌ next
accessor-some s h =
    let a : get_attribute_accessor s ≡ ((expect_byte Byte.dot >> get_identifier Kind.identifier) >> pure true) s = rw (h, get_attribute_accessor) in
    let e : expect_byte Byte.dot s ≡ ok tt [] 1 = rw (h, expect_byte) in
    let t : take_byte_if Byte.dot s ≡ ok true [] 1 = rw (h, take_byte_if) in
    a ∙ rw (e, t)

pub key-number : (s : List ℕ) → starts (λ b. is_digit b || eqb b Byte.minus) s ≡ true → key_text s ≡ get_number_literal Kind.number_key s
unfolding key_text
key-number s h = rw (h, key_text)

pub key-name : (s : List ℕ) → starts (λ b. is_digit b || eqb b Byte.minus) s ≡ false → key_text s ≡ get_identifier Kind.identifier_key s
unfolding key_text
key-name s h = rw (h, key_text)

-- ---- names
-- what follows a name
pub name-law : {B : Type 0} (q : ℕ → Reader B) (x : List ℕ)
    → (get_identifier 9 >>= λ k. skip_blank_inline >> (expect_byte Byte.equals >> q k)) x ≡ (get_name >>= q) x
unfolding get_name ◌>>◌ ◌>>=◌
name-law {B} q x =
    sym
    (bind-bind (get_identifier 9) (λ k. skip_blank_inline >> (expect_byte Byte.equals >> pure k)) q x
    ∙ λ i. (get_identifier 9 >>= λ k y. blank k y i) x)
  where
    value : (k : ℕ) (y : List ℕ) → (pure k >>= q) y ≡ q k y
    value k y = unfold ◌>>=◌ next pure in after_none (q k y)

    equals : (k : ℕ) (y : List ℕ) → ((expect_byte Byte.equals >> pure k) >>= q) y ≡ (expect_byte Byte.equals >> q k) y
    equals k y = bind-bind (expect_byte Byte.equals) (λ _. pure k) q y ∙ λ i. (expect_byte Byte.equals >>= λ _ z. value k z i) y

    blank : (k : ℕ) (y : List ℕ)
        → ((skip_blank_inline >> (expect_byte Byte.equals >> pure k)) >>= q) y
        ≡ (skip_blank_inline >> (expect_byte Byte.equals >> q k)) y
    blank k y = bind-bind skip_blank_inline (λ _. expect_byte Byte.equals >> pure k) q y ∙ λ i. (skip_blank_inline >>= λ _ z. equals k z i) y

-- ---- numbers
pub keeps-text : (kind : ℕ) → Keeps (as_text kind)
unfolding as_text
keeps-text kind = record { fault = λ g k. refl; far = λ k. refl }

pub number-read : (kind : ℕ) (s : List ℕ) {k : ℕ} → number s ≡ ok tt [] k → get_number_literal kind s ≡ ok k (text_node kind 0 k) k
unfolding get_number_literal as_text
number-read kind s e = rw e

-- ---- identifiers
pub identifier-on : (s : List ℕ) → starts is_letter s ≡ true → identifier s ≡ ok tt [] (run is_name_part s)
unfolding identifier
identifier-on s h = rw (h, identifier)

pub identifier-not : (s : List ℕ) → starts is_letter s ≡ false → identifier s ≡ fail (ExpectedCharRange Letters) s
unfolding identifier
identifier-not s h = rw (h, identifier)

identifier-text : (kind : ℕ) (s : List ℕ) → as_text kind (identifier s) ≡ get_identifier kind s
unfolding as_text fail
identifier-text kind s =
    by_case (starts is_letter s) (λ h. rw (identifier-on s h, identifier-some kind s h)) (λ h. rw (identifier-not s h, identifier-none kind s h))

-- an identifier was passed, up to s₁
pub record Identified (kind : ℕ) (s s₁ : Source) : Type 0 where
  pub is : get_identifier kind (rest s) ≡ ok (s₁.ptr - s.ptr) (text_node kind 0 (s₁.ptr - s.ptr)) (s₁.ptr - s.ptr)
  pub place : s₁.ptr ≡ s.ptr + (s₁.ptr - s.ptr)
  pub onward : s.ptr < s₁.ptr
  pub within : s₁.ptr ≤ length s.bytes.now

pub identified : (kind : ℕ) {s s₁ : Source} → Finds s s₁ (identifier (rest s)) (Ok tt) → Identified kind s s₁
unfolding as_text text_node
identified kind {s} {s₁} f =
    let r = found_at f.found refl in
    let e : r.k ≡ s₁.ptr - s.ptr = omega (arith, r.place) in
    let i : get_identifier kind (rest s) ≡ ok (s₁.ptr - s.ptr) (text_node kind 0 (s₁.ptr - s.ptr)) (s₁.ptr - s.ptr) =
    rw (← identifier-text kind (rest s), r.is, e) in
    let u = ok-uses (identifier-bounds {n = 0} kind) _ i in
    record { is = i; place = omega (arith, r.place); onward = omega (arith, u.room, r.place); within = f.found.within }

pub identifier-stops : {s s₁ : Source} {m : Marks} {e : Stop} (kind : ℕ) → Finds s s₁ (identifier (rest s)) (Err e)
    → ReadsOf plain s s₁ m m (Err e) (get_identifier kind (rest s))
identifier-stops {s} kind f = rw (← identifier-text kind (rest s)) (reads-through (keeps-text kind) _ (reads-finds f))

-- ---- room
pub name-room : {s s₁ : Source} {m m₁ : Marks} {x : ℕ} → ReadsOf plain s s₁ m m₁ (Ok x) (get_name (rest s)) → Spent 14 s s₁ m m₁
name-room {s} d = reads-room (get_name (rest s)) (named.on (rest s)) d
  where
    named : Bounds 0 (λ _. 14) get_name
    named = unfold get_name in bind name-bounds (λ i. then inline-bounds (then (expect_byte-bounds 61) (pure-bounds i)))

pub value-room : {s s₁ : Source} {m m₁ : Marks} (left : ℕ) → ReadsOf silent s s₁ m m₁ (Ok tt) (get_value (level left) (rest s))
    → Spent 4 s s₁ m m₁
unfolding get_value
value-room {s} left d = reads-room _ ((value-bounds (level-bounds left)).on (rest s)) d

-- ---- attributes
pub attribute-law : (sub : Inside) (x : List ℕ) → get_attribute sub x ≡ wrap Kind.attribute ((get_name >> get_value sub) x)
unfolding get_attribute in_node get_value ◌>>◌ ◌>>=◌
attribute-law sub x = ap (wrap Kind.attribute) (name-law (λ _. get_pattern sub >>= needs_value) x)

-- ---- what a message or a term has
pub fields-law : (sub : Inside) (x : List ℕ)
    → fields sub x
    ≡ (get_name
    >>= λ n. get_pattern sub
    >>= λ value. skip_blank_block >> (get_attributes sub >>= λ count. pure (record { name = n; value = value; attributes = count }))) x
unfolding fields
fields-law sub x =
    name-law
    (λ n. get_pattern sub
    >>= λ value. skip_blank_block >> (get_attributes sub >>= λ count. pure (record { name = n; value = value; attributes = count }))) x

pub pattern-room : {s s₁ : Source} {m m₁ : Marks} {x : Bool} (left : ℕ) → ReadsOf plain s s₁ m m₁ (Ok x) (get_pattern (level left) (rest s))
    → Spent 0 s s₁ m m₁
pattern-room {s} left d =
    reads-room _ ((less {d = λ _. 0} (λ v. omega arith) (pattern-bounds (level-bounds left))).on (rest s)) d

-- ---- messages and terms
pub keeps-message : Keeps as_message
unfolding as_message
keeps-message = record { fault = λ g k. refl; far = λ k. refl }

pub keeps-term : Keeps as_term
unfolding as_term
keeps-term = record { fault = λ g k. refl; far = λ k. refl }

pub keeps-comment : Keeps as_comment
unfolding as_comment
keeps-comment = record { fault = λ g k. refl; far = λ k. refl }

module _ {s s₁ : Source} {m m₁ : Marks} {x : Fields} {o : Out Core.Fields} (d : ReadsOf fields_of s s₁ m m₁ (Ok x) o) where
  v : Valued fields_of m.capacity s.ptr m.count x s₁.ptr m₁.count m.words.now m₁.words.now o
  v = valued o d.did refl

  pub message-some : (x.value || not (eqb x.attributes 0)) ≡ true → ReadsOf silent s s₁ m m₁ (Ok tt) (as_message o)
  unfolding as_message
  message-some h =
      let f = v.found in
      let b : (f.value.value || not (eqb f.value.attributes 0)) ≡ true = rw v.told at h in
      rw f.is
      (rw (b, as_message) (record {
        frame = d.frame;
        did = record { answers = ap₂ (yes tt) f.place f.count; wrote = f.wrote };
      }))

  pub message-none : (x.value || not (eqb x.attributes 0)) ≡ false
      → ReadsOf silent s s₁ m m₁ (Err (Error (fault_from_to (ExpectedMessageField s.ptr (s.ptr + x.name)) s.ptr s₁.ptr))) (as_message o)
  unfolding as_message
  message-none h =
      let f = v.found in
      let b : (f.value.value || not (eqb f.value.attributes 0)) ≡ false = rw v.told at h in
      let n : x.name ≡ f.value.name = ap (λ (y : Fields). y.name) v.told in
      rw f.is
      (rw (b, as_message) (record {
        frame = d.frame;
        did =
            record {
              answers = cc (n, f.place, add-zero s.ptr);
              wrote = rw words-none (step_cut f.wrote);
            };
      }))

  pub term-some : x.value ≡ true → ReadsOf silent s s₁ m m₁ (Ok tt) (as_term o)
  unfolding as_term
  term-some h =
      let f = v.found in
      let b : f.value.value ≡ true = rw v.told at h in
      rw f.is
      (rw (b, as_term) (record {
        frame = d.frame;
        did = record { answers = ap₂ (yes tt) f.place f.count; wrote = f.wrote };
      }))

  pub term-none : x.value ≡ false
      → ReadsOf silent s s₁ m m₁ (Err (Error (fault_from_to (ExpectedTermField (s.ptr + 1) (s.ptr + 1 + x.name)) s.ptr s₁.ptr))) (as_term o)
  unfolding as_term
  term-none h =
      let f = v.found in
      let b : f.value.value ≡ false = rw v.told at h in
      let n : x.name ≡ f.value.name = ap (λ (y : Fields). y.name) v.told in
      rw f.is
      (rw (b, as_term) (record {
        frame = d.frame;
        did =
            record {
              answers = cc (n, f.place, add-zero s.ptr, add_assoc s.ptr 1 f.value.name);
              wrote = rw words-none (step_cut f.wrote);
            };
      }))

-- what an entry is
of-entry : {cap at n p i : ℕ} {t t₁ : List ℕ} (e : Core.Entry) (ms : List Mark) (k : ℕ)
    → Did silent cap at n t t₁ (yes tt p i) (ok e ms k) → Did plain cap at n t t₁ (yes e p i) (ok e ms k)
of-entry {at = at} {n} {p} {i} e ms k d =
    let q = d.answers in
    let y : p ≡ at + k = cc in
    let z : i ≡ n + length ms = cc in
    record { answers = ap₂ (yes e) y z; wrote = d.wrote }

module _ {s s₁ : Source} {m m₁ : Marks} where
  pub reads-message : (o : Out Core.Fields) → ReadsOf silent s s₁ m m₁ (Ok tt) (as_message o)
      → ReadsOf plain s s₁ m m₁ (Ok Core.message) (as_message o)
  unfolding as_message
  reads-message o d = record { frame = d.frame; did = go o d.did }
    where
      P : Out Core.Entry → Type 0
      P o = Did silent m.capacity s.ptr m.count m.words.now m₁.words.now (yes tt s₁.ptr m₁.count) o
          → Did plain m.capacity s.ptr m.count m.words.now m₁.words.now (yes Core.message s₁.ptr m₁.count) o

      go : (o : Out Core.Fields) → P (as_message o)
      go (ok x ms k) =
          pick P (x.value || not (eqb x.attributes 0)) _ _ (λ h d. of-entry Core.message ms k d)
          (λ h d. let q = d.answers in let z : ◌≡◌ {A = ℕ} 0 1 = cc in absurd (omega arith))
      go (bad g k) = λ d. let q = d.answers in let z : ◌≡◌ {A = ℕ} 0 1 = cc in absurd (omega arith)
      go (deep k) = λ d. let q = d.answers in let z : ◌≡◌ {A = ℕ} 0 1 = cc in absurd (omega arith)

  pub reads-term : (o : Out Core.Fields) → ReadsOf silent s s₁ m m₁ (Ok tt) (as_term o)
      → ReadsOf plain s s₁ m m₁ (Ok Core.term) (as_term o)
  unfolding as_term
  reads-term o d = record { frame = d.frame; did = go o d.did }
    where
      P : Out Core.Entry → Type 0
      P o = Did silent m.capacity s.ptr m.count m.words.now m₁.words.now (yes tt s₁.ptr m₁.count) o
          → Did plain m.capacity s.ptr m.count m.words.now m₁.words.now (yes Core.term s₁.ptr m₁.count) o

      go : (o : Out Core.Fields) → P (as_term o)
      go (ok x ms k) =
          pick P x.value _ _ (λ h d. of-entry Core.term ms k d)
          (λ h d. let q = d.answers in let z : ◌≡◌ {A = ℕ} 0 1 = cc in absurd (omega arith))
      go (bad g k) = λ d. let q = d.answers in let z : ◌≡◌ {A = ℕ} 0 1 = cc in absurd (omega arith)
      go (deep k) = λ d. let q = d.answers in let z : ◌≡◌ {A = ℕ} 0 1 = cc in absurd (omega arith)

  pub reads-comment : {l : ℕ} (o : Out ℕ) → ReadsOf plain s s₁ m m₁ (Ok l) o → ReadsOf plain s s₁ m m₁ (Ok (Core.comment l)) (as_comment o)
  unfolding as_comment
  reads-comment {l} o d = record { frame = d.frame; did = go o d.did }
    where
      go : (o : Out ℕ) → Did plain m.capacity s.ptr m.count m.words.now m₁.words.now (yes l s₁.ptr m₁.count) o
          → Did plain m.capacity s.ptr m.count m.words.now m₁.words.now (yes (Core.comment l) s₁.ptr m₁.count) (as_comment o)
      go (ok a ms k) d =
          let q = d.answers in
          let e : l ≡ a = cc in
          let y : s₁.ptr ≡ s.ptr + k = cc in
          let z : m₁.count ≡ m.count + length ms = cc in
          record { answers = λ i. yes (Core.comment (e i)) (y i) (z i); wrote = d.wrote }
      go (bad g k) d = let q = d.answers in let z : ◌≡◌ {A = ℕ} 0 1 = cc in absurd (omega arith)
      go (deep k) d = let q = d.answers in let z : ◌≡◌ {A = ℕ} 0 1 = cc in absurd (omega arith)

-- a comment that was read has a level
pub leveled : {s s₁ : Source} {m m₁ : Marks} {l : ℕ} (sub : Inside) → get_entry sub (rest s) ≡ as_comment (get_comment (rest s))
    → ReadsOf plain s s₁ m m₁ (Ok l) (get_comment (rest s)) → 0 < l
unfolding as_comment
leveled {s} sub e d =
    let v = valued _ d.did refl in
    let f = v.found in
    let g : get_entry sub (rest s) ≡ ok (Core.comment f.value) f.ms f.k = e ∙ ap as_comment f.is in
    omega (arith, v.told, (small_of sub (rest s) g).0)

module _ (sub : Inside) (s : List ℕ) where
  pub entry-comment : starts_with Byte.hash s ≡ true → get_entry sub s ≡ as_comment (get_comment s)
  unfolding get_entry
  entry-comment h = rw (h, get_entry)

  pub entry-term : starts_with Byte.hash s ≡ false → starts_with Byte.minus s ≡ true → get_entry sub s ≡ as_term (term_fields sub s)
  unfolding get_entry
  entry-term h e = rw (h, e, get_entry)

  pub entry-message : starts_with Byte.hash s ≡ false → starts_with Byte.minus s ≡ false → get_entry sub s ≡ as_message (fields sub s)
  unfolding get_entry
  entry-message h e = rw (h, e, get_entry)

-- ---- tests
pub field-some : (v : Bool) (n : ℕ) → (n ≡ 0 → ⊥) → (v || not (eqb n 0)) ≡ true
field-some true n h = refl
field-some false n h = rw (ne_eqb n 0 h)

pub field-value : (v : Bool) (n : ℕ) → v ≡ true → (v || not (eqb n 0)) ≡ true
field-value v n h = rw h

pub field-none : (v : Bool) (n : ℕ) → v ≡ false → n ≡ 0 → (v || not (eqb n 0)) ≡ false
field-none v n h e = rw (h, e)

-- ---- the identifier of what was read lies in the source
-- two readers one after the other have answered
record Parts {A B : Type 0} (p : Reader A) (q : A → Reader B) (x : List ℕ) (b : B) (k : ℕ) : Type 0 where
  a : A
  ms : List Mark
  first_used : ℕ
  ns : List Mark
  then_used : ℕ
  first : p x ≡ ok a ms first_used
  second : q a (drop first_used x) ≡ ok b ns then_used
  sum : k ≡ first_used + then_used

parts : {A B : Type 0} (p : Reader A) (q : A → Reader B) (x : List ℕ) {b : B} {ms : List Mark} {k : ℕ} → (p >>= q) x ≡ ok b ms k
    → Parts p q x b k
unfolding ◌>>=◌ next after
parts {A} {B} p q x {b} {ms} {k} e = go (p x) refl e
  where
    inner : (a : A) (ms₁ : List Mark) (k₁ : ℕ) → p x ≡ ok a ms₁ k₁ → (o : Out B) → q a (drop k₁ x) ≡ o → after ms₁ k₁ o ≡ ok b ms k
        → Parts p q x b k
    inner a ms₁ k₁ h (ok c ns j) g e =
        let z : c ≡ b = cc in
        let y : k₁ + j ≡ k = cc in
        record { a = a; ms = ms₁; first_used = k₁; ns = ns; then_used = j; first = h; second = g ∙ ap (λ v. ok v ns j) z; sum = sym y }
    inner a ms₁ k₁ h (bad f j) g e = let z : ◌≡◌ {A = ℕ} 0 1 = cc in absurd (omega arith)
    inner a ms₁ k₁ h (deep j) g e = let z : ◌≡◌ {A = ℕ} 0 1 = cc in absurd (omega arith)

    go : (o : Out A) → p x ≡ o → next x q o ≡ ok b ms k → Parts p q x b k
    go (ok a ms₁ k₁) h e = inner a ms₁ k₁ h (q a (drop k₁ x)) refl e
    go (bad f j) h e = let z : ◌≡◌ {A = ℕ} 0 1 = cc in absurd (omega arith)
    go (deep j) h e = let z : ◌≡◌ {A = ℕ} 0 1 = cc in absurd (omega arith)

pure-value : {A : Type 0} (a : A) (x : List ℕ) {b : A} {ms : List Mark} {k : ℕ} → pure a x ≡ ok b ms k → a ≡ b
unfolding pure
pure-value a x e = cc

identifier-used : (x : List ℕ) {n k : ℕ} {ms : List Mark} → get_identifier 9 x ≡ ok n ms k → k ≡ n
identifier-used x {n} {k} {ms} e =
    by_case (starts is_letter x)
    (λ h. let q = sym (identifier-some 9 x h) ∙ e in let y : run is_name_part x ≡ n = cc in let z : run is_name_part x ≡ k = cc in sym z ∙ y)
    (λ h. unfold fail in (let q = sym (identifier-none 9 x h) ∙ e in let z : ◌≡◌ {A = ℕ} 0 1 = cc in absurd (omega arith)))

name-used : (x : List ℕ) {n k : ℕ} {ms : List Mark} → get_name x ≡ ok n ms k → n ≤ k
unfolding get_name ◌>>◌ ◌>>=◌
name-used x {n} {k} e =
    let p = parts (get_identifier 9) (λ n. skip_blank_inline >> (expect_byte Byte.equals >> pure n)) x e in
    let q = parts skip_blank_inline (λ _. expect_byte Byte.equals >> pure p.a) (drop p.first_used x) p.second in
    let r = parts (expect_byte Byte.equals) (λ _. pure p.a) (drop q.first_used (drop p.first_used x)) q.second in
    let v = pure-value p.a _ r.second in
    omega (arith, identifier-used x p.first, p.sum, v)

pub name-lies : {s s₁ : Source} {m m₁ : Marks} {x : Fields} (left : ℕ) → ReadsOf fields_of s s₁ m m₁ (Ok x) (fields (level left) (rest s))
    → s.ptr + x.name ≤ length s.bytes.now
unfolding ◌>>◌ ◌>>=◌
name-lies {s} {s₁} {x = x} left d =
    let w = valued _ d.did refl in
    let sub = level left in
    let e = sym (fields-law sub (rest s)) ∙ w.found.is in
    let p = parts get_name (λ n. get_pattern sub
    >>= λ value. skip_blank_block >> (get_attributes sub >>= λ count. pure (record { name = n; value = value; attributes = count })))
    (rest s) e in
    let q = parts (get_pattern sub)
    (λ value. skip_blank_block >> (get_attributes sub >>= λ count. pure (record { name = p.a; value = value; attributes = count })))
    (drop p.first_used (rest s)) p.second in
    let r = parts skip_blank_block (λ _. get_attributes sub >>= λ count. pure (record { name = p.a; value = q.a; attributes = count })) _ q.second in
    let t = parts (get_attributes sub) (λ count. pure (record { name = p.a; value = q.a; attributes = count })) _ r.second in
    let v = ap (λ (y : Core.Fields). y.name) (pure-value _ _ t.second) in
    let n : x.name ≡ w.found.value.name = ap (λ (y : Fields). y.name) w.told in
    let b : length s₁.bytes.now ≡ length s.bytes.now = rw d.frame.bytes in
    omega (arith, name-used (rest s) p.first, p.sum, n, v, w.found.place, s₁.inside)

-- ---- a byte that was there
pub expect-one : {s s₁ : Source} (b : ℕ) → Finds s s₁ (expect_byte b (rest s)) (Ok tt) → s₁.ptr ≡ s.ptr + 1
unfolding fail
expect-one {s} {s₁} b f = by_case (starts_with b (rest s)) some none
  where
    r : Read s.ptr s₁.ptr (expect_byte b (rest s))
    r = found_at f.found refl

    some : starts_with b (rest s) ≡ true → s₁.ptr ≡ s.ptr + 1
    some h = let q = sym (expect-yes b (rest s) h) ∙ r.is in let z : 1 ≡ r.k = cc in omega (arith, r.place)

    none : starts_with b (rest s) ≡ false → s₁.ptr ≡ s.ptr + 1
    none h = let q = sym (expect-no b (rest s) h) ∙ r.is in let z : ◌≡◌ {A = ℕ} 0 1 = cc in absurd (omega arith)
