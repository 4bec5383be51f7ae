-- References, with their attributes and calls, and string literals.
use Rattle.std.specs.Prelude.{◌≡◌, ℕ, ◌+◌, ◌-◌, ◌≤◌, Bool, true, false, not, Result, Ok, Err, List, [], ◌∷◌, take, drop}
use mathlib.Core.Path.{refl, sym, ap, ◌∙◌}
use native.Mathlib.Omega.{arith}
use lib.Seq.{drop-drop}
use Rattle.std.proofs.Common.{Bor}
use Rattle.syntax.specs.Byte as Byte
use Rattle.syntax.specs.Kind as Kind
use Rattle.syntax.specs.Kind.{closing}
use Rattle.syntax.specs.Bytes.{starts_with, starts, run, all, is_letter, is_name_part, is_callee_part}
use Rattle.syntax.specs.declared.errors.ErrorKind.{ErrorKind}
use Rattle.syntax.specs.declared.errors.ErrorKind.TheVariants.{ForbiddenCallee}
use Rattle.syntax.specs.Errors.{fault_at}
use Rattle.syntax.specs.Marks.{Mark, text_node}
use Rattle.syntax.specs.Reader.{Out, ok, bad, deep, after, next, ◌>>◌, pure}
use Rattle.syntax.specs.Helper.{skip_blank, get_identifier}
use Rattle.syntax.specs.Pattern.{Inside}
use Rattle.syntax.specs.Expression.{string, message, function, as_string, get_attribute_accessor, call_arguments, get_call_arguments}
use Rattle.syntax.specs.Expression.{function_reference, message_reference, reference_by, reference}
use Rattle.entry.specs.declared.errors.Stop.{Stop}
use Rattle.entry.specs.declared.errors.Stop.TheVariants.{Error}
use Rattle.entry.specs.declared.source.Source.{Source}
use Rattle.entry.specs.declared.marks.Marks.{Marks}
use Rattle.entry.specs.declared.expression.Expression.TheVariants.{StringLiteral, FunctionReference, MessageReference}
use Rattle.entry.specs.Tree.{word}
use Rattle.entry.specs.Marks.{Wrote}
use Rattle.entry.specs.Did.{plain, silent}
use Rattle.entry.specs.Reads.{rest, Goes, ReadsOf}
use Rattle.entry.specs.Shape.{shape_at, refused_if}
use Rattle.entry.proofs.Places.{identifier-some}
use Rattle.entry.proofs.Dids.{valued, did-found, text-placed}
use Rattle.entry.proofs.Chains.{reads-plain, reads-text, reads-pure, reads-fail, reads-stop, stop-bind}
use Rattle.entry.proofs.Cycle.{err-not-ok, call_none}

-- ---- string literals
string-wrap : {s s₁ : Source} {m m₁ : Marks} {e : Stop} (o : Out (Unit {0})) → ReadsOf silent s s₁ m m₁ (Err e) o
    → as_string o ≡ next (rest s) (λ _. pure string) o
unfolding as_string next
string-wrap (ok u ms k) d = absurd (err-not-ok d)
string-wrap (bad f k) d = refl
string-wrap (deep k) d = refl

pub string-stop : (b : ℕ) {s s₁ : Source} {m m₁ : Marks} {e : Stop} (o : Out (Unit {0})) → ReadsOf silent s s₁ m m₁ (Err e) o
    → ReadsOf (shape_at b) s s₁ m m₁ (Err e) (as_string o)
string-stop b o d = rw (string-wrap o d) (reads-stop (λ _. pure string) o d)

pub reads-string : {s s₁ : Source} {m m₁ : Marks} {o : Out (Unit {0})} → Goes s s₁ o tt → s.ptr + 2 ≤ s₁.ptr
    → Wrote m m₁ (word Kind.string (s.ptr + 1) ∷ word (closing Kind.string) (s₁.ptr - 1) ∷ [])
    → ReadsOf (shape_at s.ptr) s s₁ m m₁ (Ok StringLiteral) (as_string o)
unfolding as_string text_node
reads-string {s} {s₁} g l w =
    let k : ℕ = s₁.ptr - s.ptr in
    let e : s₁.ptr - 1 ≡ s.ptr + (k - 1) = omega arith in
    record {
      frame = record { bytes = g.bytes; tree = w.same };
      did =
          did-found (shape_at s.ptr)
          (record {
            value = string;
            ms = text_node Kind.string 1 (k - 1);
            k = k;
            is = rw g.went.answers;
            place = omega arith;
            count = w.count;
            wrote = rw (text-placed s.ptr (s.ptr + 1) (s₁.ptr - 1) 1 (k - 1) Kind.string refl e) w.step;
          });
    }

-- ---- a name, of the source s, up to s₁
module _ {s s₁ : Source} {m m₁ : Marks} (b : s₁.bytes ≡ s.bytes) (h : starts is_letter (rest s) ≡ true)
    (e : s₁.ptr ≡ s.ptr + run is_name_part (rest s)) (w : Wrote m m₁ (word 9 s.ptr ∷ word 109 s₁.ptr ∷ [])) where
  reads-name : ReadsOf plain s s₁ m m₁ (Ok (run is_name_part (rest s))) (get_identifier 9 (rest s))
  reads-name = reads-text {w = plain} 9 b (identifier-some 9 (rest s) h) e w

  -- ---- message references
  module _ {s₂ s₃ : Source} {m₂ : Marks} (sub : Inside) (g : Goes s₁ s₂ (skip_blank (rest s₁)) tt)
      (n : starts_with Byte.open_parenthesis (rest s₂) ≡ false) where
    pub reads-message : {a : Bool} → ReadsOf plain s₂ s₃ m₁ m₂ (Ok a) (get_attribute_accessor (rest s₂))
        → ReadsOf (shape_at s.ptr) s s₃ m m₂ (Ok (MessageReference s₁.ptr a)) (reference sub (rest s))
    unfolding reference reference_by message_reference
    reads-message {a} d =
        let k : ℕ = run is_name_part (rest s) in
        rw e
        (reads-plain (get_identifier 9) _ reads-name
        (reads-plain (get_call_arguments sub) _ (call_none sub g n)
        (reads-plain get_attribute_accessor _ d (reads-pure {w = shape_at s.ptr} s₃ m₂ (message k a) (rest s₃)))))

    pub stop-message : {x : Stop} → ReadsOf plain s₂ s₃ m₁ m₂ (Err x) (get_attribute_accessor (rest s₂))
        → ReadsOf (shape_at s.ptr) s s₃ m m₂ (Err x) (reference sub (rest s))
    unfolding reference reference_by message_reference
    stop-message d =
        reads-plain (get_identifier 9) _ reads-name
        (reads-plain (get_call_arguments sub) _ (call_none sub g n) (stop-bind get_attribute_accessor _ d))

  -- ---- function references
  module _ {s₂ : Source} {m₂ : Marks} (sub : Inside) where
    pub stop-function : {x : Stop} → ReadsOf plain s₁ s₂ m₁ m₂ (Err x) (get_call_arguments sub (rest s₁))
        → ReadsOf (shape_at s.ptr) s s₂ m m₂ (Err x) (reference sub (rest s))
    unfolding reference
    stop-function d = reads-plain (get_identifier 9) _ reads-name (stop-bind (get_call_arguments sub) _ d)

    module _ (d : ReadsOf plain s₁ s₂ m₁ m₂ (Ok true) (get_call_arguments sub (rest s₁))) {v : Bool}
        (c : v ≡ all is_callee_part (take (run is_name_part (rest s)) (rest s))) where
      pub reads-function : v ≡ true → ReadsOf (shape_at s.ptr) s s₂ m m₂ (Ok FunctionReference) (reference sub (rest s))
      unfolding reference reference_by function_reference
      reads-function y =
          reads-plain (get_identifier 9) _ reads-name
          (reads-plain (get_call_arguments sub) _ d
          (rw (sym c ∙ y, function_reference) (reads-pure {w = shape_at s.ptr} s₂ m₂ function (rest s₂))))

      pub forbidden-function : v ≡ false
          → ReadsOf (shape_at s.ptr) s s₂ m m₂ (Err (Error (fault_at ForbiddenCallee s₂.ptr))) (reference sub (rest s))
      unfolding reference reference_by function_reference
      forbidden-function y =
          reads-plain (get_identifier 9) _ reads-name
          (reads-plain (get_call_arguments sub) _ d
          (rw (sym c ∙ y, function_reference) (reads-fail {w = shape_at s.ptr} s₂ m₂ ForbiddenCallee (rest s₂) refl)))

-- where a '(' follows, there are arguments
after-true : (k : ℕ) (x : List ℕ) (o : Out (Unit {0})) (v : Bool) (ms : List Mark) (j : ℕ)
    → after [] k (next x (λ _. pure true) o) ≡ ok v ms j → v ≡ true
unfolding after next pure
after-true k x (ok u ns i) v ms j e = cc
after-true k x (bad f i) v ms j e = let z : ◌≡◌ {A = ℕ} 0 1 = cc in absurd (omega arith)
after-true k x (deep i) v ms j e = let z : ◌≡◌ {A = ℕ} 0 1 = cc in absurd (omega arith)

pub call-true : {s s₁ s₂ : Source} {m m₁ : Marks} {v : Bool} (sub : Inside) → Goes s s₁ (skip_blank (rest s)) tt
    → starts_with Byte.open_parenthesis (rest s₁) ≡ true → ReadsOf plain s s₂ m m₁ (Ok v) (get_call_arguments sub (rest s)) → v ≡ true
call-true {s} {s₁} sub g h d =
    let f = valued (get_call_arguments sub (rest s)) d.did refl in
    f.told ∙ after-true (s₁.ptr - s.ptr) (rest s₁) (sub.parenthesised (rest s₁)) f.found.value f.found.ms f.found.k (sym opened ∙ f.found.is)
  where
    there : drop (s₁.ptr - s.ptr) (rest s) ≡ rest s₁
    there =
        let l = g.went.onward in
        let i : s.ptr + (s₁.ptr - s.ptr) ≡ s₁.ptr = omega arith in
        rw g.bytes (drop-drop (s₁.ptr - s.ptr) s.ptr s.bytes.now ∙ ap (λ (i : ℕ). drop i s.bytes.now) i)

    first : get_call_arguments sub (rest s) ≡ after [] (s₁.ptr - s.ptr) (call_arguments sub (rest s₁))
    first = unfold get_call_arguments ◌>>◌ next in (rw (g.went.answers, there))

    opened : get_call_arguments sub (rest s) ≡ after [] (s₁.ptr - s.ptr) (next (rest s₁) (λ _. pure true) (sub.parenthesised (rest s₁)))
    opened = first ∙ ap (after [] (s₁.ptr - s.ptr)) (unfold call_arguments ◌>>◌ in (rw (h, call_arguments)))

-- the callee's test
pub callee-yes : {r : Result (Unit {0}) Stop} {u : Unit {0}} (at : ℕ) (kind : ErrorKind) (v : Bool) → r ≡ refused_if (not v) at kind
    → r ≡ Ok u → v ≡ true
callee-yes at kind true e h = refl
callee-yes at kind false e h = let z : ◌≡◌ {A = ℕ} 0 1 = cc in absurd (omega arith)

pub callee-no : {r : Result (Unit {0}) Stop} {x : Stop} (at : ℕ) (kind : ErrorKind) (v : Bool) → r ≡ refused_if (not v) at kind
    → r ≡ Err x → (v ≡ false) × (x ≡ Error (fault_at kind at))
callee-no at kind true e h = let z : ◌≡◌ {A = ℕ} 0 1 = cc in absurd (omega arith)
callee-no at kind false e h = (refl, cc)

-- the name's bytes, seen from a later source
pub callee-same : {a b : Bor (List ℕ)} {e : ℕ} (at : ℕ) → a ≡ b → e ≡ at + run is_name_part (drop at b.now)
    → all is_callee_part (take (e - at) (drop at a.now)) ≡ all is_callee_part (take (run is_name_part (drop at b.now)) (drop at b.now))
callee-same {a} {b} {e} at h p =
    let k : e - at ≡ run is_name_part (drop at b.now) = omega arith in
    rw h (ap (λ (n : ℕ). all is_callee_part (take n (drop at b.now))) k)
