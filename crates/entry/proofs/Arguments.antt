-- An argument of a call as it is read: a name, or not.
use Rattle.std.specs.Prelude.{◌≡◌, ℕ, ◌+◌, ◌-◌, ◌≤◌, Bool, true, false, not, Option, Some, None, Result, Ok, Err, List, [], ◌∷◌, length, take, drop}
use mathlib.Core.Path.{refl, sym, ap, ap₂, subst, ◌∙◌}
use native.Mathlib.Nat.{add-zero, add_assoc}
use native.Mathlib.Omega.{arith}
use lib.Seq.{drop-drop}
use Rattle.std.proofs.Common.{Bor}
use Rattle.syntax.specs.Byte as Byte
use Rattle.syntax.specs.Bytes.{starts_with, run, is_name_part}
use Rattle.syntax.specs.declared.errors.ErrorKind.TheVariants.{DuplicatedNamedArgument, PositionalArgumentFollowsNamed}
use Rattle.syntax.specs.Errors.{up_fault, fault_at}
use Rattle.syntax.specs.Marks.{Mark, text_node}
use Rattle.syntax.specs.Reader.{Out, ok, bad, deep, after, next, ◌>>◌, pure, fail, wrap}
use Rattle.syntax.specs.Helper.{skip_blank, take_byte_if, expect_byte}
use Rattle.syntax.specs.Pattern.{Inside}
use Rattle.syntax.specs.Expression.{Inline, string, number, variable, function, inner, message, term, level}
use Rattle.syntax.specs.Expression.{get_inline_expression, is_among, is_none, separator, positional, named_value}
use Rattle.syntax.specs.Expression.{named_argument, after_reference, past_blank, argument_by}
use Rattle.laws.specs.Answers.{Holds, plain-next}
use Rattle.laws.specs.Balanced.{Levels, run-levels}
use Rattle.laws.specs.Formed.Expression.{level-formed}
use Rattle.laws.specs.Formed.Inline.{inline-makes, inline-steps}
use Rattle.laws.specs.Formed.Reader as Formed
use Rattle.laws.specs.Values.{Fits, inline-fits}
use Rattle.entry.specs.declared.errors.Stop.{Stop}
use Rattle.entry.specs.declared.errors.Stop.TheVariants.{Error, TooDeep}
use Rattle.entry.specs.declared.source.Source.{Source}
use Rattle.entry.specs.declared.parser.Parser.{Parser}
use Rattle.entry.specs.declared.marks.Marks.{Marks}
use Rattle.entry.specs.declared.expression.Argument.{Argument}
use Rattle.entry.specs.declared.expression.Argument.TheVariants.{Positional, Named}
use Rattle.entry.specs.declared.expression.Expression.{Expression}
use Rattle.entry.specs.declared.expression.Expression.TheVariants.{StringLiteral, NumberLiteral}
use Rattle.entry.specs.declared.expression.Expression.TheVariants.{VariableReference, FunctionReference}
use Rattle.entry.specs.declared.expression.Expression.TheVariants.{MessageReference, TermReference, Placeable}
use Rattle.entry.specs.declared.expression.Expression.TheVariants.{Select}
use Rattle.entry.specs.Tree.{word, Step, words_at}
use Rattle.entry.specs.Names.{Names, named_words}
use Rattle.entry.specs.Marks.{Wrote, Same}
use Rattle.entry.specs.Did.{silent, told, Did}
use Rattle.entry.specs.Place.{Went}
use Rattle.entry.specs.Reads.{rest, Goes, Room, ReadsOf}
use Rattle.entry.specs.Shape.{shape_at}
use Rattle.entry.specs.Argument.{name_by, NameAs, NameIs, EndsPositional, argument_read, argument_of}
use Rattle.entry.proofs.Steps.{step_cut, step_then}
use Rattle.entry.proofs.Dids.{valued, lost, far, did-found, did-lost, did-far, failed-wrote, text-placed, fault-up, fault-here, words-length}
use Rattle.entry.proofs.Chains.{reads-next, reads-goes, reads-map, reads-then, reads-node, reads-node-stop, reads-stop}
use Rattle.entry.proofs.Cycle.{length-same, with-here, reads-byte}
use Rattle.entry.proofs.NamedBefore.{names_more}

-- ---- blanks that were passed
past-went : {s : List ℕ} {at c : ℕ} → Went s at (skip_blank (drop at s)) tt c → past_blank at s ≡ c
unfolding past_blank
past-went {s} {at} w = let l = w.onward in rw (w.answers, past_blank) (omega arith)

past-moved : (at k : ℕ) (s : List ℕ) → past_blank (at + k) s ≡ at + past_blank k (drop at s)
unfolding past_blank
past-moved at k s = rw (drop-drop, past_blank) (go (skip_blank (drop (at + k) s)))
  where
    go : (o : Out (Unit {0}))
        → (elim o [ ok u ms j ↦ at + k + j | bad f j ↦ at + k | deep j ↦ at + k ])
        ≡ at + (elim o [ ok u ms j ↦ k + j | bad f j ↦ k | deep j ↦ k ])
    go (ok u ms j) = add_assoc at k j
    go (bad f j) = refl
    go (deep j) = refl

-- ---- an argument that failed
module _ {s s₁ : Source} {m m₁ : Marks} (b : ℕ) (sub : Inside) (names : List (List ℕ)) where
  pub argument-stop : {e : Stop} → ReadsOf (shape_at b) s s₁ m m₁ (Err e) (get_inline_expression sub false (rest s))
      → ReadsOf argument_read s s₁ m m₁ (Err e) (argument_of sub names (rest s))
  unfolding argument_by
  argument-stop {e} d = go e d
    where
      go : (e : Stop) → ReadsOf (shape_at b) s s₁ m m₁ (Err e) (get_inline_expression sub false (rest s))
          → ReadsOf argument_read s s₁ m m₁ (Err e) (argument_of sub names (rest s))
      go (Error x) d =
          let l = lost (get_inline_expression sub false (rest s)) d.did refl in
          record {
            frame = d.frame;
            did =
                did-lost argument_read
                (record {
                  fault = l.fault;
                  k = l.k;
                  is = ap (argument_by sub names (rest s)) l.is;
                  moved = l.moved;
                  place = l.place;
                }) (failed-wrote d.did);
          }
      go TooDeep d =
          let l = far (get_inline_expression sub false (rest s)) d.did refl in
          record {
            frame = d.frame;
            did =
                did-far argument_read
                (record { k = l.k; is = ap (argument_by sub names (rest s)) l.is; place = l.place })
                (failed-wrote d.did);
          }

-- ---- names, and what is none
-- a reference that a ':' follows
pub record NamedAt (s s₂ : Source) (end : ℕ) (o : Out Inline) : Type 0 where
  pub size : ℕ
  pub ms : List Mark
  pub k : ℕ
  pub is : o ≡ ok (message size false) ms k
  pub stop : end ≡ s.ptr + size
  pub blank : s₂.ptr ≡ s.ptr + past_blank k (rest s)
  pub colon : starts_with Byte.colon (rest s₂) ≡ true
  pub order : end ≤ s₂.ptr
  pub bytes : s₂.bytes ≡ s.bytes

-- there is room for the marks of a named argument: a byte is left, the ':'
pub argument-room : {p : Parser} {s₂ : Source} {m₁ : Marks} {end : ℕ} {o : Out Inline} → Room p 0 → Same p.tree.now m₁ → NamedAt p.source s₂ end o
    → p.tree.now.count + 8 ≤ m₁.capacity
argument-room {p} {s₂} r f v =
    omega (
      arith,
      f.capacity,
      p.holds,
      length-same v.bytes,
      with-here Byte.colon s₂ v.colon,
      v.order,
      v.stop,
      r.spent,
    )

-- no name, where the blanks were passed or not
pub record UnnamedAt (s s₂ : Source) (m m₁ : Marks) (o : Out Inline) : Type 0 where
  pub ms : List Mark
  pub k : ℕ
  pub is : (sub : Inside) (before : List (List ℕ)) → argument_by sub before (rest s) o ≡ positional before ms k (rest s)
  pub place : s₂.ptr ≡ s.ptr + k
  pub count : m₁.count ≡ m.count + length ms
  pub wrote : Step m.capacity m.count m.words.now m₁.words.now (words_at s.ptr ms)
  pub bytes : s₂.bytes ≡ s.bytes

message-is : {e : ℕ} {a : Bool} (at : ℕ) (v : Inline) → MessageReference e a ≡ shape_at at v → (n : ℕ) × ((v ≡ message n a) × (e ≡ at + n))
message-is at string h = let z : ◌≡◌ {A = ℕ} 0 1 = cc in absurd (omega arith)
message-is at number h = let z : ◌≡◌ {A = ℕ} 0 1 = cc in absurd (omega arith)
message-is at variable h = let z : ◌≡◌ {A = ℕ} 0 1 = cc in absurd (omega arith)
message-is at function h = let z : ◌≡◌ {A = ℕ} 0 1 = cc in absurd (omega arith)
message-is at inner h = let z : ◌≡◌ {A = ℕ} 0 1 = cc in absurd (omega arith)
message-is {e} {a} at (message n c) h = let p : a ≡ c = cc in let q : e ≡ at + n = cc in (n, (ap (message n) (sym p), q))
message-is at (term c) h = let z : ◌≡◌ {A = ℕ} 0 1 = cc in absurd (omega arith)

named-colon : {e x : ℕ} (c : Bool) → Some x ≡ name_by c e → (c ≡ true) × (x ≡ e)
named-colon true h = (refl, cc)
named-colon false h = let z : ◌≡◌ {A = ℕ} 0 1 = cc in absurd (omega arith)

unnamed-colon : (c : Bool) (e : ℕ) → ◌≡◌ {A = Option ℕ} None (name_by c e) → c ≡ false
unnamed-colon true e h = let z : ◌≡◌ {A = ℕ} 0 1 = cc in absurd (omega arith)
unnamed-colon false e h = refl

module _ (s s₁ s₂ : Source) where
  record Unnamed (o : Out Inline) (ms : List Mark) : Type 0 where
    k : ℕ
    place : s₂.ptr ≡ s.ptr + k
    bytes : s₂.bytes ≡ s.bytes
    is : (sub : Inside) (before : List (List ℕ)) → argument_by sub before (rest s) o ≡ positional before ms k (rest s)

  moved : {o : Out Inline} {ms : List Mark} (k : ℕ) → s₂ ≡ s₁ → s₁.ptr ≡ s.ptr + k → s₁.bytes ≡ s.bytes
      → ((sub : Inside) (before : List (List ℕ)) → argument_by sub before (rest s) o ≡ positional before ms k (rest s)) → Unnamed o ms
  moved k e p b h =
      record {
        k = k;
        place = ap (λ (y : Source). y.ptr) e ∙ p;
        bytes = ap (λ (y : Source). y.bytes) e ∙ b;
        is = h;
      }

  no-names : (x : Expression) (v : Inline) → x ≡ shape_at s.ptr v → {ms : List Mark} {k : ℕ} → s₁.ptr ≡ s.ptr + k → s₁.bytes ≡ s.bytes
      → NameAs s₁ s₂ x None → Unnamed (ok v ms k) ms
  unfolding argument_by after_reference
  no-names x string e {k = k} p b n = let q = subst (λ (y : Expression). NameAs s₁ s₂ y None) e n in moved k q.0 p b (λ sub before. refl)
  no-names x number e {k = k} p b n = let q = subst (λ (y : Expression). NameAs s₁ s₂ y None) e n in moved k q.0 p b (λ sub before. refl)
  no-names x variable e {k = k} p b n = let q = subst (λ (y : Expression). NameAs s₁ s₂ y None) e n in moved k q.0 p b (λ sub before. refl)
  no-names x function e {k = k} p b n = let q = subst (λ (y : Expression). NameAs s₁ s₂ y None) e n in moved k q.0 p b (λ sub before. refl)
  no-names x inner e {k = k} p b n = let q = subst (λ (y : Expression). NameAs s₁ s₂ y None) e n in moved k q.0 p b (λ sub before. refl)
  no-names x (term a) e {k = k} p b n = let q = subst (λ (y : Expression). NameAs s₁ s₂ y None) e n in moved k q.0 p b (λ sub before. refl)
  no-names x (message j true) e {k = k} p b n = let q = subst (λ (y : Expression). NameAs s₁ s₂ y None) e n in moved k q.0 p b (λ sub before. refl)
  no-names x (message j false) e {ms} {k} p b n =
      let q : NameAs s₁ s₂ (MessageReference (s.ptr + j) false) None = subst (λ (y : Expression). NameAs s₁ s₂ y None) e n in
      let w : Went s.bytes.now s₁.ptr (skip_blank (drop s₁.ptr s.bytes.now)) tt s₂.ptr = rw b at q.0.went in
      let c : past_blank (s.ptr + k) s.bytes.now ≡ s₂.ptr = rw p at (past-went w) in
      let i : s₂.ptr ≡ s.ptr + past_blank k (rest s) = sym c ∙ past-moved s.ptr k s.bytes.now in
      let y : s₂.bytes ≡ s.bytes = q.0.bytes ∙ b in
      let there : drop (past_blank k (rest s)) (rest s) ≡ rest s₂ =
      drop-drop (past_blank k (rest s)) s.ptr s.bytes.now ∙ ap (λ (i : ℕ). drop i s.bytes.now) (sym i)
      ∙ ap (λ (y : Bor (List ℕ)). drop s₂.ptr y.now) (sym y) in
      record { k = past_blank k (rest s); place = i; bytes = y; is = λ sub before. rw (there, unnamed-colon _ _ q.1, after_reference) }

module _ {s s₁ s₂ : Source} {m m₁ : Marks} (left : ℕ) where
  names-at : {end : ℕ} (x : Expression)
      → ReadsOf (shape_at s.ptr) s s₁ m m₁ (Ok x) (get_inline_expression (level left) false (rest s))
      → NameAs s₁ s₂ x (Some end) → NamedAt s s₂ end (get_inline_expression (level left) false (rest s))
  names-at StringLiteral d n = let z : ◌≡◌ {A = ℕ} 0 1 = cc n.1 in absurd (omega arith)
  names-at NumberLiteral d n = let z : ◌≡◌ {A = ℕ} 0 1 = cc n.1 in absurd (omega arith)
  names-at VariableReference d n = let z : ◌≡◌ {A = ℕ} 0 1 = cc n.1 in absurd (omega arith)
  names-at FunctionReference d n = let z : ◌≡◌ {A = ℕ} 0 1 = cc n.1 in absurd (omega arith)
  names-at (MessageReference e true) d n = let z : ◌≡◌ {A = ℕ} 0 1 = cc n.1 in absurd (omega arith)
  names-at {end} (MessageReference e false) d n =
      let v = valued (get_inline_expression (level left) false (rest s)) d.did refl in
      let f = v.found in
      let q = message-is s.ptr f.value v.told in
      let is : get_inline_expression (level left) false (rest s) ≡ ok (message q.0 false) f.ms f.k =
      f.is ∙ ap (λ (i : Inline). ok i f.ms f.k) q.1.0 in
      let fits : Fits (run is_name_part (rest s)) (ok (message q.0 false) f.ms f.k) =
      subst (Fits (run is_name_part (rest s))) is (inline-fits (level left) false (rest s)) in
      let c = named-colon _ n.1 in
      let w : Went s.bytes.now s₁.ptr (skip_blank (drop s₁.ptr s.bytes.now)) tt s₂.ptr = rw d.frame.bytes at n.0.went in
      let p : past_blank (s.ptr + f.k) s.bytes.now ≡ s₂.ptr = rw f.place at (past-went w) in
      record {
        size = q.0;
        ms = f.ms;
        k = f.k;
        is = is;
        stop = c.1 ∙ q.1.1;
        blank = sym p ∙ past-moved s.ptr f.k s.bytes.now;
        colon = c.0;
        order = omega (arith, c.1, q.1.1, f.place, w.onward, fits.0);
        bytes = n.0.bytes ∙ d.frame.bytes;
      }
  names-at (TermReference a) d n = let z : ◌≡◌ {A = ℕ} 0 1 = cc n.1 in absurd (omega arith)
  names-at Placeable d n = let z : ◌≡◌ {A = ℕ} 0 1 = cc n.1 in absurd (omega arith)
  names-at Select d n = let z : ◌≡◌ {A = ℕ} 0 1 = cc n.1 in absurd (omega arith)

  pub named-at : {end : ℕ} {x : Expression} {r : Option ℕ}
      → ReadsOf (shape_at s.ptr) s s₁ m m₁ (Ok x) (get_inline_expression (level left) false (rest s))
      → NameIs s₁ s₂ x r → r ≡ Some end → NamedAt s s₂ end (get_inline_expression (level left) false (rest s))
  named-at {end} {x} d n e = names-at x d (subst (NameAs s₁ s₂ x) e n.is)

  pub unnamed-at : {x : Expression} {r : Option ℕ}
      → ReadsOf (shape_at s.ptr) s s₁ m m₁ (Ok x) (get_inline_expression (level left) false (rest s))
      → NameIs s₁ s₂ x r → r ≡ None → UnnamedAt s s₂ m m₁ (get_inline_expression (level left) false (rest s))
  unnamed-at {x} d n e =
      let v = valued (get_inline_expression (level left) false (rest s)) d.did refl in
      let f = v.found in
      let q = no-names s s₁ s₂ x f.value v.told {ms = f.ms} {k = f.k} f.place d.frame.bytes (subst (NameAs s₁ s₂ x) e n.is) in
      record {
        ms = f.ms;
        k = q.k;
        is = λ sub before. ap (argument_by sub before (rest s)) f.is ∙ q.is sub before;
        place = q.place;
        count = f.count;
        wrote = f.wrote;
        bytes = q.bytes;
      }

-- ---- a positional argument
late-fault : {c : ℕ} (at k : ℕ) → c ≡ at + k → fault_at PositionalArgumentFollowsNamed c ≡ up_fault at (up_fault k (fault_at PositionalArgumentFollowsNamed 0))
late-fault at k p =
    ap (fault_at PositionalArgumentFollowsNamed) p
    ∙ sym (fault-up at k (fault_at PositionalArgumentFollowsNamed 0) ∙ fault-here PositionalArgumentFollowsNamed (at + k) refl)

module _ {s s₂ : Source} {m m₁ : Marks} (sub : Inside) (before : List (List ℕ)) (o : Out Inline) (v : UnnamedAt s s₂ m m₁ o)
    (same : Same m m₁) where
  passed : ReadsOf silent s s₂ m m₁ (Ok tt) (ok (tt {0}) v.ms v.k)
  passed =
      record {
        frame = record { bytes = v.bytes; tree = same };
        did = did-found silent (record { value = tt; ms = v.ms; k = v.k; is = refl; place = v.place; count = v.count; wrote = v.wrote });
      }

  first-positional : {s₃ : Source} → is_none before ≡ true → Goes s₂ s₃ (separator [] (rest s₂)) []
      → ReadsOf argument_read s s₃ m m₁ (Ok Positional) (argument_by sub before (rest s) o)
  first-positional {s₃} h g = rw (v.is sub before) (go before h)
    where
      whole : ReadsOf argument_read s s₃ m m₁ (Ok Positional) (next (rest s) (λ _. separator []) (ok (tt {0}) v.ms v.k))
      whole = reads-next (λ _. separator []) passed (reads-map argument_read (reads-goes g))

      go : (before : List (List ℕ)) → is_none before ≡ true → ReadsOf argument_read s s₃ m m₁ (Ok Positional) (positional before v.ms v.k (rest s))
      go [] h = unfold positional is_none next in whole
      go (y ∷ ys) h = unfold is_none in (let z : ◌≡◌ {A = ℕ} 0 1 = cc in absurd (omega arith))

  late-positional : is_none before ≡ false
      → ReadsOf argument_read s s₂ m m₁ (Err (Error (fault_at PositionalArgumentFollowsNamed s₂.ptr))) (argument_by sub before (rest s) o)
  late-positional h = rw (v.is sub before) (go before h)
    where
      late : s₂.ptr ≡ s.ptr + v.k → ReadsOf argument_read s s₂ m m₁ (Err (Error (fault_at PositionalArgumentFollowsNamed s₂.ptr)))
          (after [] v.k (fail {A = List (List ℕ)} PositionalArgumentFollowsNamed (drop v.k (rest s))))
      late p =
          record {
            frame = record { bytes = v.bytes; tree = same };
            did =
                did-lost argument_read
                (record {
                  fault = up_fault v.k (fault_at PositionalArgumentFollowsNamed 0);
                  k = v.k + 0;
                  is = unfold fail after in refl;
                  moved = late-fault s.ptr v.k p;
                  place = omega (arith, p);
                }) (step_cut v.wrote);
          }

      go : (before : List (List ℕ)) → is_none before ≡ false
          → ReadsOf argument_read s s₂ m m₁ (Err (Error (fault_at PositionalArgumentFollowsNamed s₂.ptr))) (positional before v.ms v.k (rest s))
      go [] h = unfold is_none in (let z : ◌≡◌ {A = ℕ} 0 1 = cc in absurd (omega arith))
      go (y ∷ ys) h = unfold positional is_none in (late v.place)

  -- by whether a named one stands before it
  pub ends-positional : {s₃ : Source} {r : Result Argument Stop} (named : Bool) → is_none before ≡ not named → EndsPositional named s₂ s₃ r
      → ReadsOf argument_read s s₃ m m₁ r (argument_by sub before (rest s) o)
  ends-positional {s₃} {r} true h e =
      subst (λ (y : Source). ReadsOf argument_read s y m m₁ r (argument_by sub before (rest s) o)) (sym e.is.0)
      (rw e.is.1 (late-positional h))
  ends-positional false h e = rw e.is.1 (first-positional h e.is.0)

pub no-error : {e : Stop} {x : Argument} → Err e ≡ Ok x → ⊥
no-error h = let z : ◌≡◌ {A = ℕ} 0 1 = cc in omega arith

pub not_named : {s₂ s₃ : Source} {r : Result Argument Stop} (named : Bool) → EndsPositional named s₂ s₃ r → r ≡ Ok Named → ⊥
not_named true e h = no-error (sym e.is.1 ∙ h)
not_named {r = r} false e h =
    let q : ◌≡◌ {A = Result Argument Stop} (Ok Positional) (Ok Named) = sym e.is.1 ∙ h in
    let z : ◌≡◌ {A = ℕ} 0 1 = cc in omega arith

-- ---- a named argument
-- marks that were written above the count don't count
reads-cut : {A T : Type 0} {w : A → T} {s s' : Source} {m c m' : Marks} {r : Result T Stop} {o : Out A} → Same m c → c.count ≡ m.count
    → Step m.capacity m.count m.words.now c.words.now [] → ReadsOf w s s' c m' r o → ReadsOf w s s' m m' r o
reads-cut {w = w} {s} {s'} {m} {c} {m'} {r} {o} a e z d =
    let g : Did w m.capacity s.ptr m.count c.words.now m'.words.now (told r s'.ptr m'.count) o = rw (a.capacity, e) at d.did in
    record {
      frame =
          record {
            bytes = d.frame.bytes;
            tree = record { words = d.frame.tree.words ∙ a.words; capacity = d.frame.tree.capacity ∙ a.capacity };
          };
      did = record { answers = g.answers; wrote = step_then z (sym (add-zero m.count)) g.wrote };
    }

inline-levels : (left : ℕ) (v : Bool) (y : List ℕ) {i : Inline} {ms : List Mark} {k : ℕ}
    → get_inline_expression (level left) v y ≡ ok i ms k → Levels 0 ms
inline-levels left v y {i} {ms} {k} e =
    go
    (subst (Formed.Made left 25 (Formed.at 0) (λ _. Formed.at 0) y) e
    ((inline-makes (level-formed left) (λ a. (inline-steps a).2) v).on y))
  where
    go : Formed.Made left 25 (Formed.at 0) (λ _. Formed.at 0) y (ok i ms k) → Levels 0 ms
    go (Formed.made d (Formed.by w)) = run-levels w

separator-value : (names : List (List ℕ)) (y : List ℕ) → Holds (λ v ms k. v ≡ names) (separator names y)
unfolding separator ◌>>◌ pure
separator-value names y = plain-next P y (λ _. take_byte_if Byte.comma >> (skip_blank >> pure names)) (skip_blank y)
    (λ _ z. plain-next P z (λ _. skip_blank >> pure names) (take_byte_if Byte.comma z)
    (λ _ x. plain-next P x (λ _. pure names) (skip_blank x) (λ _ r. refl)))
  where
    P : List (List ℕ) → Type 0
    P v = v ≡ names

once-value : {v : List (List ℕ)} (x : List ℕ) (o : Out Inline) (names : List (List ℕ)) {ms : List Mark} {k : ℕ}
    → next x (λ _. separator names) o ≡ ok v ms k → v ≡ names
once-value x o names e =
    subst (Holds (λ v ms k. v ≡ names)) e
    (plain-next (λ v. v ≡ names) x (λ _. separator names) o (λ _ r. separator-value names r))

module _ (s s₂ : Source) {end : ℕ} (sub : Inside) (before : List (List ℕ)) (o : Out Inline) (v : NamedAt s s₂ end o) where
  abbrev used : ℕ
  used = s₂.ptr - s.ptr

  onward : s₂.ptr ≡ s.ptr + used
  onward = omega (arith, v.order, v.stop)

  there : drop (past_blank v.k (rest s)) (rest s) ≡ rest s₂
  there =
      drop-drop (past_blank v.k (rest s)) s.ptr s.bytes.now ∙ ap (λ (i : ℕ). drop i s.bytes.now) (sym v.blank)
      ∙ ap (λ (y : Bor (List ℕ)). drop s₂.ptr y.now) (sym v.bytes)

  named-is : argument_by sub before (rest s) o ≡ named_argument sub before v.size used (rest s)
  unfolding argument_by after_reference
  named-is =
      let i : past_blank v.k (rest s) ≡ used = omega (arith, v.blank) in
      rw (v.is, there, v.colon, after_reference) (ap (λ (i : ℕ). named_argument sub before v.size i (rest s)) i)

  name-is : take (end - s.ptr) (rest s) ≡ take v.size (rest s)
  name-is = let i : end - s.ptr ≡ v.size = omega (arith, v.stop) in ap (λ (i : ℕ). take i (rest s)) i

  twice-is : is_among (take (end - s.ptr) (rest s)) before ≡ true
      → argument_by sub before (rest s) o ≡ bad (fault_at (DuplicatedNamedArgument 0 v.size) used) used
  unfolding named_argument
  twice-is h = named-is ∙ (rw (sym (ap (λ (l : List ℕ). is_among l before) name-is) ∙ h, named_argument))

  once_is : is_among (take (end - s.ptr) (rest s)) before ≡ false
      → argument_by sub before (rest s) o ≡ next (rest s) (λ _. separator (take v.size (rest s) ∷ before))
      (wrap 26 (after (text_node 9 0 v.size) used (named_value sub (drop used (rest s)))))
  unfolding named_argument ◌>>◌
  once_is h = named-is ∙ (rw (sym (ap (λ (l : List ℕ). is_among l before) name-is) ∙ h, named_argument))

  named-names : is_among (take (end - s.ptr) (rest s)) before ≡ false → {names : List (List ℕ)} {ms : List Mark} {k : ℕ}
      → argument_by sub before (rest s) o ≡ ok names ms k → names ≡ take (end - s.ptr) (rest s) ∷ before
  named-names h is =
      once-value (rest s) _ (take v.size (rest s) ∷ before) (sym (once_is h) ∙ is)
      ∙ ap (λ (l : List ℕ). l ∷ before) (sym name-is)

  -- a name that is there already
  pub reads-twice : {m m₁ : Marks} → Same m m₁ → Step m.capacity m.count m.words.now m₁.words.now []
      → is_among (take (end - s.ptr) (rest s)) before ≡ true
      → ReadsOf argument_read s s₂ m m₁ (Err (Error (fault_at (DuplicatedNamedArgument s.ptr end) s₂.ptr))) (argument_by sub before (rest s) o)
  reads-twice same w h =
      record {
        frame = record { bytes = v.bytes; tree = same };
        did =
            did-lost argument_read
            (record {
              fault = fault_at (DuplicatedNamedArgument 0 v.size) used;
              k = used;
              is = twice-is h;
              moved = fault onward;
              place = onward;
            }) w;
      }
    where
      fault : s₂.ptr ≡ s.ptr + used
          → fault_at (DuplicatedNamedArgument s.ptr end) s₂.ptr ≡ up_fault s.ptr (fault_at (DuplicatedNamedArgument 0 v.size) used)
      fault p i =
          record {
            start = p i;
            end = (ap (λ (j : ℕ). j + 1) p ∙ add_assoc s.ptr used 1) i;
            kind = ap₂ DuplicatedNamedArgument (sym (add-zero s.ptr)) v.stop i;
          }

  -- a name that is not there yet, after what was read of it as an expression is cut off
  module _ (m : Marks) {c a x : Marks} (opens : Wrote c a (word 26 0 ∷ [])) (text : Wrote a x (word 9 s.ptr ∷ word 109 end ∷ [])) (same : Same m c)
      (e : c.count ≡ m.count) (cut : Step m.capacity m.count m.words.now c.words.now [])
      (h : is_among (take (end - s.ptr) (rest s)) before ≡ false) where
    named : ReadsOf silent s s₂ a x (Ok tt) (ok (tt {0}) (text_node 9 0 v.size) used)
    unfolding text_node
    named =
        record {
          frame = record { bytes = v.bytes; tree = text.same };
          did =
              did-found silent
              (record {
                value = tt;
                ms = text_node 9 0 v.size;
                k = used;
                is = refl;
                place = onward;
                count = text.count;
                wrote = rw (text-placed s.ptr s.ptr end 0 v.size 9 (sym (add-zero s.ptr)) v.stop) text.step;
              });
        }

    module _ {s₃ s₄ s₅ : Source} {y : Marks} (b : s₃.bytes ≡ s₂.bytes) (p : s₃.ptr ≡ s₂.ptr + 1) (g : Goes s₃ s₄ (skip_blank (rest s₃)) tt) where
      value : {r : Result Expression Stop} → ReadsOf (shape_at s₄.ptr) s₄ s₅ x y r (get_inline_expression sub true (rest s₄))
          → ReadsOf (shape_at s₄.ptr) s s₅ a y r (after (text_node 9 0 v.size) used (named_value sub (drop used (rest s))))
      unfolding next named_value
      value d =
          reads-next (λ _. named_value sub) named
          (reads-then (expect_byte Byte.colon) _ (reads-byte Byte.colon v.colon b p)
          (reads-then skip_blank (get_inline_expression sub true) (reads-goes g) d))

      pub stop-named : {f : Stop} → ReadsOf (shape_at s₄.ptr) s₄ s₅ x y (Err f) (get_inline_expression sub true (rest s₄))
          → ReadsOf argument_read s s₅ m y (Err f) (argument_by sub before (rest s) o)
      stop-named d =
          rw (once_is h)
          (reads-cut same e cut
          (reads-stop (λ _. separator (take v.size (rest s) ∷ before)) _ (reads-node-stop 26 opens (value d))))

      pub reads-named : {s₆ : Source} {z : Marks} {i : Expression}
          → ReadsOf (shape_at s₄.ptr) s₄ s₅ x y (Ok i) (get_inline_expression sub true (rest s₄)) → Wrote y z (word 126 0 ∷ [])
          → ((names : List (List ℕ)) → Goes s₅ s₆ (separator names (rest s₅)) names)
          → ReadsOf argument_read s s₆ m z (Ok Named) (argument_by sub before (rest s) o)
      reads-named d close sep =
          rw (once_is h)
          (reads-cut same e cut
          (reads-next (λ _. separator (take v.size (rest s) ∷ before)) (reads-node 26 opens (value d) close)
          (reads-map argument_read (reads-goes (sep (take v.size (rest s) ∷ before))))))

      -- its name is among them then
      pub more-names : {z : Marks} {i : Expression} {named j : ℕ} {names : List (List ℕ)} {ms : List Mark} (left : ℕ) → sub ≡ level left
          → (d : ReadsOf (shape_at s₄.ptr) s₄ s₅ x y (Ok i) (get_inline_expression sub true (rest s₄))) → Wrote y z (word 126 0 ∷ [])
          → z.count ≤ z.capacity → end ≤ length s.bytes.now → Names s.bytes.now c.words.now m.capacity named m.count before
          → argument_by sub before (rest s) o ≡ ok names ms j → Names s.bytes.now z.words.now m.capacity named z.count names
      more-names {z} {named = named} {names = names} left l d close room inside held is =
          let f = (valued (get_inline_expression sub true (rest s₄)) d.did refl).found in
          let ca : a.capacity ≡ m.capacity = opens.same.capacity ∙ same.capacity in
          let cx : x.capacity ≡ m.capacity = text.same.capacity ∙ ca in
          let cy : y.capacity ≡ m.capacity = d.frame.tree.capacity ∙ cx in
          let w₁ : Step m.capacity m.count c.words.now a.words.now (word 26 0 ∷ []) = rw (same.capacity, e) at opens.step in
          let w₂ : Step m.capacity a.count a.words.now x.words.now (word 9 s.ptr ∷ word 109 end ∷ []) = rw ca at text.step in
          let w₃ : Step m.capacity x.count x.words.now y.words.now (words_at s₄.ptr f.ms) =
          subst (λ (k : ℕ). Step k x.count x.words.now y.words.now (words_at s₄.ptr f.ms)) cx f.wrote in
          let w₄ : Step m.capacity y.count y.words.now z.words.now (word 126 0 ∷ []) = rw cy at close.step in
          let long : y.count ≡ x.count + length (words_at s₄.ptr f.ms) = f.count ∙ ap (λ (k : ℕ). x.count + k) (sym (words-length s₄.ptr f.ms)) in
          let step : Step m.capacity m.count c.words.now z.words.now (named_words s.ptr end (words_at s₄.ptr f.ms)) =
          step_then w₁ (opens.count ∙ ap (λ (k : ℕ). k + 1) e) (step_then w₂ text.count (step_then w₃ long w₄)) in
          let size : z.count ≡ m.count + (4 + length f.ms) = omega (arith, close.count, f.count, text.count, opens.count, e) in
          let cz : z.capacity ≡ m.capacity = close.same.capacity ∙ cy in
          let fits : m.count + (4 + length f.ms) ≤ m.capacity = omega (arith, room, size, cz) in
          let levels : Levels 0 f.ms = leveled left l f.is in
          let n : Names s.bytes.now z.words.now m.capacity named (m.count + (4 + length f.ms)) (take (end - s.ptr) (rest s) ∷ before) =
          names_more s.ptr end s₄.ptr f.ms held (omega (arith, v.stop)) inside levels fits step in
          subst (λ (k : ℕ). Names s.bytes.now z.words.now m.capacity named k names) (sym size)
          (subst (Names s.bytes.now z.words.now m.capacity named (m.count + (4 + length f.ms))) (sym (named-names h is)) n)
        where
          leveled : {i : Inline} {ms : List Mark} {k : ℕ} (left : ℕ) → sub ≡ level left
              → get_inline_expression sub true (rest s₄) ≡ ok i ms k → Levels 0 ms
          leveled left l q = inline-levels left true (rest s₄) (sym (ap (λ (x : Inside). get_inline_expression x true (rest s₄)) l) ∙ q)

pub among-same : {a b : Bor (List ℕ)} {v : Bool} (n k : ℕ) (names : List (List ℕ)) → a ≡ b → is_among (take n (drop k a.now)) names ≡ v
    → is_among (take n (drop k b.now)) names ≡ v
among-same n k names e h = rw e at h
