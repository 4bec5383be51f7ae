-- What the members of the cycle share: the nesting, nodes of expressions, and calls.
use Rattle.std.specs.Prelude.{◌≡◌, ℕ, zero, suc, ◌+◌, ◌-◌, ◌<◌, ◌≤◌, Bool, true, false, Result, Ok, Err, List, [], ◌∷◌, length, drop}
use mathlib.Core.Path.{refl, sym, ap, ap₂, subst, ◌∙◌}
use native.Mathlib.Nat.{add-zero}
use native.Mathlib.Numerals.{sub-one}
use native.Mathlib.Omega.{arith}
use native.Mathlib.Decide.{dec_lt}
use lib.ListN.{drop_of_length-le}
use Rattle.std.proofs.Common.{Bor}
use Rattle.syntax.specs.Byte as Byte
use Rattle.syntax.specs.Kind as Kind
use Rattle.syntax.specs.Kind.{closing}
use Rattle.syntax.specs.Bytes.{starts_with, starts, run, is_letter, is_name_part}
use Rattle.syntax.specs.declared.errors.ParserError.{ParserError}
use Rattle.syntax.specs.Marks.{Mark, node, text_node}
use Rattle.syntax.specs.Reader.{Out, ok, bad, deep, pure, wrap}
use Rattle.syntax.specs.Helper.{skip_blank, expect_byte}
use Rattle.syntax.specs.Pattern.{Inside}
use Rattle.syntax.specs.Expression.{Inline, string, number, variable, function, inner, message, term, inline_kind, as_inline}
use Rattle.syntax.specs.Expression.{level, too_deep, braced, parenthesised, call_arguments, get_call_arguments}
use Rattle.laws.specs.Bounds.{Bounded, used}
use Rattle.laws.specs.Bounds.Helper.{identifier-bounds}
use Rattle.laws.specs.Bounds.Expression.{level-bounds}
use Rattle.entry.specs.declared.errors.Stop.{Stop}
use Rattle.entry.specs.declared.errors.Stop.TheVariants.{Error, TooDeep}
use Rattle.entry.specs.declared.source.Source.{Source}
use Rattle.entry.specs.declared.marks.Marks.{Marks}
use Rattle.entry.specs.declared.expression.Expression.{Expression}
use Rattle.entry.specs.declared.expression.Expression.TheVariants.{StringLiteral, NumberLiteral}
use Rattle.entry.specs.declared.expression.Expression.TheVariants.{VariableReference, FunctionReference}
use Rattle.entry.specs.declared.expression.Expression.TheVariants.{MessageReference, TermReference, Placeable}
use Rattle.entry.specs.declared.expression.Expression.TheVariants.{Select}
use Rattle.entry.specs.Tree.{word}
use Rattle.entry.specs.Marks.{Wrote}
use Rattle.entry.specs.Did.{yes, plain, silent}
use Rattle.entry.specs.Reads.{rest, Goes, ReadsOf}
use Rattle.entry.specs.Shape.{shape_at, Fails}
use Rattle.entry.proofs.Steps.{step-none}
use Rattle.entry.proofs.Places.{expect-yes, identifier-some}
use Rattle.entry.proofs.Dids.{did-lost, did-far, far-here, words-none}
use Rattle.entry.proofs.Chains.{frame-none, reads-then, reads-goes, reads-pure, stop-then, reads-node, reads-node-stop}

-- the bytes are as many
pub length-same : {a b : Bor (List ℕ)} → a ≡ b → length a.now ≡ length b.now
length-same e = ap (λ (y : Bor (List ℕ)). length y.now) e

-- ---- a byte stands where a test of the rest succeeds
byte-here : (p : List ℕ → Bool) (s : List ℕ) (i : ℕ) → p [] ≡ false → p (drop i s) ≡ true → i < length s
byte-here p s i e h = go (dec_lt i (length s))
  where
    go : Dec (i < length s) → i < length s
    go (Prim.yes l) = l
    go (Prim.no f) =
        let l : length s ≤ i = omega arith in
        let d = drop_of_length-le s l in
        let z : true ≡ false = cc in
        let y : ◌≡◌ {A = ℕ} 0 1 = cc in
        omega arith

pub with-here : (b : ℕ) (s : Source) → starts_with b (rest s) ≡ true → s.ptr < length s.bytes.now
with-here b s h = byte-here (starts_with b) s.bytes.now s.ptr (unfold starts_with in refl) h

pub letter-here : (s : List ℕ) (i : ℕ) → starts is_letter (drop i s) ≡ true → i < length s
letter-here s i h = byte-here (starts is_letter) s i (unfold starts in refl) h

-- a name takes a byte
pub name-long : (s : List ℕ) (at : ℕ) → starts is_letter (drop at s) ≡ true → 1 ≤ run is_name_part (drop at s)
name-long s at h =
    let k : ℕ = run is_name_part (drop at s) in
    let b : Bounded 0 (λ (_ : ℕ). 6) (drop at s) (ok k (text_node 9 0 k) k) =
    rw (identifier-some 9 (drop at s) h) at ((identifier-bounds {n = 0} 9).on (drop at s)) in
    go k b
  where
    go : (k : ℕ) → Bounded 0 (λ (_ : ℕ). 6) (drop at s) (ok k (text_node 9 0 k) k) → 1 ≤ k
    go k (used u) = omega (arith, u.room)

-- it was passed
pub reads-byte : {s s₁ : Source} {m : Marks} (b : ℕ) → starts_with b (rest s) ≡ true → s₁.bytes ≡ s.bytes → s₁.ptr ≡ s.ptr + 1
    → ReadsOf silent s s₁ m m (Ok tt) (expect_byte b (rest s))
reads-byte {s} {s₁} {m} b h e p =
    record {
      frame = record { bytes = e; tree = record { words = refl; capacity = refl } };
      did =
          rw (expect-yes b (rest s) h)
          (record { answers = ap₂ (yes tt) p (sym (add-zero m.count)); wrote = rw words-none (step-none m.capacity m.count m.words.now) });
    }

-- an error without marks
pub reads-fails : {A T : Type 0} {w : A → T} {s s₁ : Source} {m : Marks} {f : ParserError} {o : Out A} → s₁.bytes ≡ s.bytes
    → Fails s.ptr f s₁.ptr o → ReadsOf w s s₁ m m (Err (Error f)) o
reads-fails {w = w} {m = m} b g =
    record {
      frame = record { bytes = b; tree = record { words = refl; capacity = refl } };
      did =
          did-lost w (record { fault = g.fault; k = g.j; is = g.is; moved = g.moved; place = g.place })
          (step-none m.capacity m.count m.words.now);
    }

-- what failed has no value
pub err-not-ok : {A T : Type 0} {w : A → T} {s s₁ : Source} {m m₁ : Marks} {e : Stop} {a : A} {ms : List Mark} {k : ℕ}
    → ReadsOf w s s₁ m m₁ (Err e) (ok a ms k) → ⊥
err-not-ok {w = w} {s} {s₁} {m} {m₁} {e} {a} {ms} {k} d = go e d
  where
    go : (e : Stop) → ReadsOf w s s₁ m m₁ (Err e) (ok a ms k) → ⊥
    go (Error f) d = let q = d.did.answers in let z : ◌≡◌ {A = ℕ} 0 1 = cc in omega arith
    go TooDeep d = let q = d.did.answers in let z : ◌≡◌ {A = ℕ} 0 1 = cc in omega arith

-- ---- the nesting
module _ {s : Source} {m : Marks} where
  pub braces-deep : (d : ℕ) → d ≡ 0 → ReadsOf silent s s m m (Err TooDeep) ((level d).braced (rest s))
  unfolding level too_deep
  braces-deep zero e = record { frame = frame-none s m; did = did-far silent far-here (step-none m.capacity m.count m.words.now) }
  braces-deep (suc d) e = absurd (omega arith)

  pub calls-deep : (d : ℕ) → d ≡ 0 → ReadsOf silent s s m m (Err TooDeep) ((level d).parenthesised (rest s))
  unfolding level too_deep
  calls-deep zero e = record { frame = frame-none s m; did = did-far silent far-here (step-none m.capacity m.count m.words.now) }
  calls-deep (suc d) e = absurd (omega arith)

module _ {s s₁ : Source} {m m₁ : Marks} {r : Result (Unit {0}) Stop} where
  pub braces-open : (d : ℕ) → (d ≡ 0 → ⊥) → ReadsOf silent s s₁ m m₁ r (braced (level (d - 1)) (rest s))
      → ReadsOf silent s s₁ m m₁ r ((level d).braced (rest s))
  unfolding level
  braces-open zero e h = absurd (e refl)
  braces-open (suc d) e h = subst (λ (k : ℕ). ReadsOf silent s s₁ m m₁ r (braced (level k) (rest s))) (sub-one (suc d)) h

  pub calls-open : (d : ℕ) → (d ≡ 0 → ⊥) → ReadsOf silent s s₁ m m₁ r (parenthesised (level (d - 1)) (rest s))
      → ReadsOf silent s s₁ m m₁ r ((level d).parenthesised (rest s))
  unfolding level
  calls-open zero e h = absurd (e refl)
  calls-open (suc d) e h = subst (λ (k : ℕ). ReadsOf silent s s₁ m m₁ r (parenthesised (level k) (rest s))) (sub-one (suc d)) h

-- what stands in braces lies where it lies
pub braces-bounded : (d : ℕ) (x : List ℕ) → starts_with Byte.open_brace x ≡ true → Bounded d (λ _. 20) x ((level d).braced x)
braces-bounded d [] e = let z : true ≡ false = sym e ∙ (unfold starts_with in refl) in let y : ◌≡◌ {A = ℕ} 0 1 = cc in absurd (omega arith)
braces-bounded d (b ∷ bs) e = (level-bounds d).braced b bs

-- ---- call arguments
module _ {s s₁ : Source} {m : Marks} (sub : Inside) (g : Goes s s₁ (skip_blank (rest s)) tt) where
  pub call_none : starts_with Byte.open_parenthesis (rest s₁) ≡ false
      → ReadsOf plain s s₁ m m (Ok false) (get_call_arguments sub (rest s))
  unfolding get_call_arguments call_arguments
  call_none h =
      reads-then skip_blank (call_arguments sub) (reads-goes g)
      (rw (h, call_arguments) (unfold pure in (reads-pure {w = plain} s₁ m false [])))

  pub call-some : {s₂ : Source} {m₂ : Marks} {u : Unit {0}} → starts_with Byte.open_parenthesis (rest s₁) ≡ true
      → ReadsOf silent s₁ s₂ m m₂ (Ok u) (sub.parenthesised (rest s₁)) → ReadsOf plain s s₂ m m₂ (Ok true) (get_call_arguments sub (rest s))
  unfolding get_call_arguments call_arguments
  call-some h d =
      reads-then skip_blank (call_arguments sub) (reads-goes g)
      (rw (h, call_arguments) (reads-then sub.parenthesised (pure true) d (reads-pure _ _ true _)))

  pub call-stop : {s₂ : Source} {m₂ : Marks} {e : Stop} → starts_with Byte.open_parenthesis (rest s₁) ≡ true
      → ReadsOf silent s₁ s₂ m m₂ (Err e) (sub.parenthesised (rest s₁)) → ReadsOf plain s s₂ m m₂ (Err e) (get_call_arguments sub (rest s))
  unfolding get_call_arguments call_arguments
  call-stop h d =
      reads-then skip_blank (call_arguments sub) (reads-goes g)
      (rw (h, call_arguments) (stop-then sub.parenthesised (pure true) d))

-- ---- the nodes of inline expressions
abbrev pub shape_kind : Expression → ℕ
shape_kind StringLiteral = Kind.string
shape_kind NumberLiteral = Kind.number
shape_kind VariableReference = Kind.variable
shape_kind FunctionReference = Kind.function
shape_kind (MessageReference e a) = Kind.message_reference
shape_kind (TermReference a) = Kind.term_reference
shape_kind Placeable = Kind.placeable
shape_kind Select = Kind.select

kind-same : (b : ℕ) (i : Inline) → shape_kind (shape_at b i) ≡ inline_kind i
unfolding inline_kind
kind-same b string = refl
kind-same b number = refl
kind-same b variable = refl
kind-same b function = refl
kind-same b inner = refl
kind-same b (message n a) = refl
kind-same b (term a) = refl

module _ (b : ℕ) {s s₁ : Source} {m₁ m₂ : Marks} where
  as-wrap : {x : Expression} (o : Out Inline) → ReadsOf (shape_at b) s s₁ m₁ m₂ (Ok x) o → as_inline o ≡ wrap (shape_kind x) o
  unfolding as_inline wrap
  as-wrap {x} (ok i ms k) d =
      let q = d.did.answers in
      let e : x ≡ shape_at b i = cc in
      ap (λ (n : ℕ). ok i (node n ms) k) (sym (ap shape_kind e ∙ kind-same b i))
  as-wrap (bad f k) d = refl
  as-wrap (deep k) d = refl

  as-wrap-stop : {e : Stop} (kind : ℕ) (o : Out Inline) → ReadsOf (shape_at b) s s₁ m₁ m₂ (Err e) o → as_inline o ≡ wrap kind o
  unfolding as_inline wrap
  as-wrap-stop kind (ok i ms k) d = absurd (err-not-ok d)
  as-wrap-stop kind (bad f k) d = refl
  as-wrap-stop kind (deep k) d = refl

  pub reads-inline : {m m₃ : Marks} {x : Expression} (o : Out Inline) → Wrote m m₁ (word (shape_kind x) 0 ∷ [])
      → ReadsOf (shape_at b) s s₁ m₁ m₂ (Ok x) o → Wrote m₂ m₃ (word (closing (shape_kind x)) 0 ∷ [])
      → ReadsOf (shape_at b) s s₁ m m₃ (Ok x) (as_inline o)
  reads-inline {x = x} o a d z = rw (as-wrap o d) (reads-node (shape_kind x) a d z)

  pub reads-inline-stop : {m : Marks} {kind : ℕ} {e : Stop} (o : Out Inline) → Wrote m m₁ (word kind 0 ∷ [])
      → ReadsOf (shape_at b) s s₁ m₁ m₂ (Err e) o → ReadsOf (shape_at b) s s₁ m m₂ (Err e) (as_inline o)
  reads-inline-stop {kind = kind} o a d = rw (as-wrap-stop kind o d) (reads-node-stop kind a d)
