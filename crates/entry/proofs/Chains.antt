-- Readers one after the other, as a function's body has them: what its calls ensure, put together to what the definition's `do` answers.
use Rattle.std.specs.Prelude.{◌≡◌, ℕ, ◌+◌, ◌*◌, ◌≤◌, Result, Ok, Err, List, [], ◌∷◌, ◌++◌, length, drop}
use mathlib.Core.Path.{refl, sym, ap₂, ◌∙◌}
use native.Mathlib.Nat.{add-zero}
use native.Mathlib.Omega.{arith}
use Rattle.syntax.specs.Kind.{closing}
use Rattle.syntax.specs.declared.errors.ErrorKind.{ErrorKind}
use Rattle.syntax.specs.declared.errors.ParserError.{ParserError}
use Rattle.syntax.specs.Errors.{up_kind, up_fault, fault_at}
use Rattle.syntax.specs.Marks.{Mark, text_node}
use Rattle.syntax.specs.Reader.{Out, ok, bad, deep, Reader, after, next, ◌>>=◌, ◌>>◌, pure, fail, wrap}
use Rattle.laws.specs.Bounds.{Bounded, used}
use Rattle.entry.specs.declared.errors.Stop.{Stop}
use Rattle.entry.specs.declared.errors.Stop.TheVariants.{Error, TooDeep}
use Rattle.entry.specs.declared.source.Source.{Source}
use Rattle.entry.specs.declared.marks.Marks.{Marks}
use Rattle.entry.specs.Tree.{word, words_at, Step}
use Rattle.entry.specs.Place.{Bare, placed}
use Rattle.entry.specs.Marks.{Wrote}
use Rattle.entry.specs.Did.{yes, no, over, told, plain, silent, Did}
use Rattle.entry.specs.Reads.{rest, Goes, Finds, Frame, ReadsOf, place_of}
use Rattle.entry.proofs.Steps.{step-none}
use Rattle.entry.proofs.Places.{went-ok}
use Rattle.entry.proofs.Dids.{valued, did-next, stopped, did_pure, did-lost, lost-fail, words-none}
use Rattle.entry.proofs.Dids.{found-wrap, found-text, step-failed, did-found}

-- ---- what a call keeps
pub frame-none : (s : Source) (m : Marks) → Frame s s m m
frame-none s m = record { bytes = refl; tree = record { words = refl; capacity = refl } }

pub frame-then : {s s₁ s₂ : Source} {m m₁ m₂ : Marks} → Frame s s₁ m m₁ → Frame s₁ s₂ m₁ m₂ → Frame s s₂ m m₂
frame-then a b =
    record {
      bytes = b.bytes ∙ a.bytes;
      tree = record { words = b.tree.words ∙ a.tree.words; capacity = b.tree.capacity ∙ a.tree.capacity };
    }

-- ---- one reader after the other
module _ {A B T U : Type 0} {w : A → T} {v : B → U} {s s₁ s₂ : Source} {m m₁ m₂ : Marks} {x : T} {r : Result U Stop} where
  pub reads-next : (q : A → Reader B) {o : Out A} (d : ReadsOf w s s₁ m m₁ (Ok x) o)
      → ReadsOf v s₁ s₂ m₁ m₂ r (q (valued o d.did refl).found.value (rest s₁))
      → ReadsOf v s s₂ m m₂ r (next (rest s) q o)
  reads-next q {o} d e =
      let f = (valued o d.did refl).found in
      let g : Did v m.capacity s₁.ptr m₁.count m₁.words.now m₂.words.now (told r s₂.ptr m₂.count) (q f.value (drop s₁.ptr s.bytes.now)) =
      rw (d.frame.tree.capacity, d.frame.bytes) at e.did in
      record { frame = frame-then d.frame e.frame; did = did-next s.bytes.now q f g }

  -- the value of the first is passed on
  pub reads-bind : (f : Reader A) (q : A → Reader B) (d : ReadsOf w s s₁ m m₁ (Ok x) (f (rest s)))
      → ReadsOf v s₁ s₂ m₁ m₂ r (q (valued (f (rest s)) d.did refl).found.value (rest s₁))
      → ReadsOf v s s₂ m m₂ r ((f >>= q) (rest s))
  unfolding ◌>>=◌
  reads-bind f q d e = reads-next q d e

  pub reads-then : (f : Reader A) (g : Reader B) → ReadsOf w s s₁ m m₁ (Ok x) (f (rest s)) → ReadsOf v s₁ s₂ m₁ m₂ r (g (rest s₁))
      → ReadsOf v s s₂ m m₂ r ((f >> g) (rest s))
  unfolding ◌>>◌
  reads-then f g d e = reads-next (λ _. g) d e

-- a value that is told as it is
pub reads-plain : {A B U : Type 0} {v : B → U} {s s₁ s₂ : Source} {m m₁ m₂ : Marks} {x : A} {r : Result U Stop} (f : Reader A)
    (q : A → Reader B)
    → ReadsOf plain s s₁ m m₁ (Ok x) (f (rest s)) → ReadsOf v s₁ s₂ m₁ m₂ r (q x (rest s₁))
    → ReadsOf v s s₂ m m₂ r ((f >>= q) (rest s))
reads-plain {v = v} {s} {s₁} {s₂} {m} {m₁} {m₂} {x} {r} f q d e =
    let h = (valued (f (rest s)) d.did refl).told in
    let g : ReadsOf v s₁ s₂ m₁ m₂ r (q (valued (f (rest s)) d.did refl).found.value (rest s₁)) = rw h at e in
    reads-bind f q d g

-- the first one fails, and so does the whole
module _ {A B T U : Type 0} {w : A → T} {v : B → U} {s s₁ : Source} {m m₁ : Marks} {e : Stop} where
  pub reads-stop : (q : A → Reader B) (o : Out A) → ReadsOf w s s₁ m m₁ (Err e) o → ReadsOf v s s₁ m m₁ (Err e) (next (rest s) q o)
  reads-stop q o d = record { frame = d.frame; did = stopped w v _ _ _ _ m₁.count _ _ _ e (rest s) o q d.did }

  pub stop-bind : (f : Reader A) (q : A → Reader B) → ReadsOf w s s₁ m m₁ (Err e) (f (rest s))
      → ReadsOf v s s₁ m m₁ (Err e) ((f >>= q) (rest s))
  unfolding ◌>>=◌
  stop-bind f q d = reads-stop q (f (rest s)) d

  pub stop-then : (f : Reader A) (g : Reader B) → ReadsOf w s s₁ m m₁ (Err e) (f (rest s))
      → ReadsOf v s s₁ m m₁ (Err e) ((f >> g) (rest s))
  unfolding ◌>>◌
  stop-then f g d = reads-stop (λ _. g) (f (rest s)) d

-- ---- the plain readers
pub reads-pure : {A T : Type 0} {w : A → T} (s : Source) (m : Marks) (a : A) (x : List ℕ) → ReadsOf w s s m m (Ok (w a)) (pure a x)
reads-pure {w = w} s m a x = record { frame = frame-none s m; did = did_pure {w = w} a x }

-- an error of a kind without a span, here
pub reads-fail : {A T : Type 0} {w : A → T} (s : Source) (m : Marks) (kind : ErrorKind) (x : List ℕ) → up_kind s.ptr kind ≡ kind
    → ReadsOf w s s m m (Err (Error (fault_at kind s.ptr))) (fail {A = A} kind x)
reads-fail {w = w} s m kind x u =
    record { frame = frame-none s m; did = did-lost w (lost-fail x u refl) (step-none _ _ m.words.now) }

-- ---- moves over the source alone
module _ {A : Type 0} {s s₁ : Source} {m : Marks} {o : Out A} where
  pub reads-goes : {a : A} → Goes s s₁ o a → ReadsOf plain s s₁ m m (Ok a) o
  reads-goes {a} g =
      record {
        frame = record { bytes = g.bytes; tree = record { words = refl; capacity = refl } };
        did =
            rw g.went.answers (record {
              answers = ap₂ (yes a) (omega (arith, g.went.onward)) (sym (add-zero m.count));
              wrote = rw words-none (step-none m.capacity m.count m.words.now);
            });
      }

  pub reads-finds : {r : Result (Unit {0}) Stop} → Finds s s₁ o r → ReadsOf silent s s₁ m m r o
  reads-finds {r} g =
      record {
        frame = record { bytes = g.bytes; tree = record { words = refl; capacity = refl } };
        did = go r o g.found.answers g.found.bare g.shallow;
      }
    where
      none : (at : ℕ) → Step m.capacity m.count m.words.now m.words.now (words_at at [])
      none at = rw words-none (step-none m.capacity m.count m.words.now)

      go : (r : Result (Unit {0}) Stop) (o : Out A) → place_of r s₁.ptr ≡ placed s.ptr o → Bare o → (r ≡ Err TooDeep → ⊥)
          → Did silent m.capacity s.ptr m.count m.words.now m.words.now (told r s₁.ptr m.count) o
      go (Ok u) (ok a ms k) e b n =
          rw b (record { answers = let z : s₁.ptr ≡ s.ptr + k = cc in ap₂ (yes tt) z (sym (add-zero m.count)); wrote = none _ })
      go (Ok u) (bad f k) e b n = let z : ◌≡◌ {A = ℕ} 0 1 = cc in absurd (omega arith)
      go (Ok u) (deep k) e b n = absurd b
      go (Err (Error f)) (ok a ms k) e b n = let z : ◌≡◌ {A = ℕ} 0 1 = cc in absurd (omega arith)
      go (Err (Error f)) (bad g k) e b n = let x : f ≡ up_fault s.ptr g = cc in let y : s₁.ptr ≡ s.ptr + k = cc in
          record { answers = λ i. no (x i) (y i); wrote = none _ }
      go (Err (Error f)) (deep k) e b n = absurd b
      go (Err TooDeep) o e b n = absurd (n refl)

-- ---- marks
-- a node: its opening mark, what stands in it, and its closing mark
module _ {A T : Type 0} {w : A → T} {s s₁ : Source} {m m₁ m₂ : Marks} (kind : ℕ) {o : Out A} (a : Wrote m m₁ (word kind 0 ∷ [])) where
  pub reads-node : {x : T} {m₃ : Marks} → ReadsOf w s s₁ m₁ m₂ (Ok x) o → Wrote m₂ m₃ (word (closing kind) 0 ∷ [])
      → ReadsOf w s s₁ m m₃ (Ok x) (wrap kind o)
  unfolding found-wrap
  reads-node {x} {m₃} d z =
      let e : Did w m.capacity s.ptr m₁.count m₁.words.now m₂.words.now (told (Ok x) s₁.ptr m₂.count) o = rw a.same.capacity at d.did in
      let v = valued o e refl in
      let c : Step m.capacity m₂.count m₂.words.now m₃.words.now (word (closing kind) 0 ∷ []) =
      rw (d.frame.tree.capacity, a.same.capacity) at z.step in
      let g = found-wrap kind a.step a.count v.found c z.count in
      record {
        frame =
            frame-then (frame-then (record { bytes = refl; tree = a.same }) d.frame)
            (record { bytes = refl; tree = z.same });
        did = rw v.told (did-found w g);
      }

  pub reads-node-stop : {e : Stop} → ReadsOf w s s₁ m₁ m₂ (Err e) o → ReadsOf w s s₁ m m₂ (Err e) (wrap kind o)
  unfolding wrap
  reads-node-stop {e} d =
      let g : Did w m.capacity s.ptr m₁.count m₁.words.now m₂.words.now (told (Err e) s₁.ptr m₂.count) o = rw a.same.capacity at d.did in
      record { frame = frame-then (record { bytes = refl; tree = a.same }) d.frame; did = go e o g }
    where
      go : (e : Stop) (o : Out A) → Did w m.capacity s.ptr m₁.count m₁.words.now m₂.words.now (told (Err e) s₁.ptr m₂.count) o
          → Did w m.capacity s.ptr m.count m.words.now m₂.words.now (told (Err e) s₁.ptr m₂.count) (wrap kind o)
      go (Error f) (ok x ms k) d = let h = d.answers in let z : ◌≡◌ {A = ℕ} 0 1 = cc in absurd (omega arith)
      go (Error f) (bad g k) d = record { answers = d.answers; wrote = rw words-none (step-failed a.step a.count (rw words-none at d.wrote)) }
      go (Error f) (deep k) d = let h = d.answers in let z : ◌≡◌ {A = ℕ} 0 1 = cc in absurd (omega arith)
      go TooDeep (ok x ms k) d = let h = d.answers in let z : ◌≡◌ {A = ℕ} 0 1 = cc in absurd (omega arith)
      go TooDeep (bad g k) d = let h = d.answers in let z : ◌≡◌ {A = ℕ} 0 1 = cc in absurd (omega arith)
      go TooDeep (deep k) d = record { answers = d.answers; wrote = rw words-none (step-failed a.step a.count (rw words-none at d.wrote)) }

-- a text, which was passed
pub reads-text : {A T : Type 0} {w : A → T} {s s₁ : Source} {m m₁ : Marks} {o : Out A} {a : A} {k : ℕ} (kind : ℕ) → s₁.bytes ≡ s.bytes
    → o ≡ ok a (text_node kind 0 k) k → s₁.ptr ≡ s.ptr + k
    → Wrote m m₁ (word kind s.ptr ∷ word (closing kind) s₁.ptr ∷ [])
    → ReadsOf w s s₁ m m₁ (Ok (w a)) o
unfolding found-text
reads-text {w = w} kind b e h z =
    record { frame = record { bytes = b; tree = z.same }; did = did-found w (found-text e h z.count z.step) }

-- ---- values
pub reads-map : {A T U : Type 0} {w : A → T} (g : T → U) {s s₁ : Source} {m m₁ : Marks} {x : T} {o : Out A}
    → ReadsOf w s s₁ m m₁ (Ok x) o → ReadsOf (λ a. g (w a)) s s₁ m m₁ (Ok (g x)) o
reads-map {w = w} g {o = o} d =
    let v = valued o d.did refl in
    record { frame = d.frame; did = rw v.told (did-found (λ a. g (w a)) v.found) }

-- what turns an answer into another, and leaves errors as they are
pub record Keeps {A B : Type 0} (f : Out A → Out B) : Type 0 where
  pub fault : (g : ParserError) (k : ℕ) → f (bad g k) ≡ bad g k
  pub far : (k : ℕ) → f (deep k) ≡ deep k

pub reads-through : {A B T U : Type 0} {w : A → T} {v : B → U} {s s₁ : Source} {m m₁ : Marks} {e : Stop} {f : Out A → Out B} → Keeps f
    → (o : Out A) → ReadsOf w s s₁ m m₁ (Err e) o → ReadsOf v s s₁ m m₁ (Err e) (f o)
reads-through {A} {B} {w = w} {v} {s} {s₁} {m} {m₁} {e} {f} h o d = record { frame = d.frame; did = go e o d.did }
  where
    go : (e : Stop) (o : Out A) → Did w m.capacity s.ptr m.count m.words.now m₁.words.now (told (Err e) s₁.ptr m₁.count) o
        → Did v m.capacity s.ptr m.count m.words.now m₁.words.now (told (Err e) s₁.ptr m₁.count) (f o)
    go (Error x) (ok a ms k) d = let h = d.answers in let z : ◌≡◌ {A = ℕ} 0 1 = cc in absurd (omega arith)
    go (Error x) (bad g k) d = let q = d.answers in let y : x ≡ up_fault s.ptr g = cc in let z : s₁.ptr ≡ s.ptr + k = cc in
        rw (h.fault g k) (record { answers = λ i. no (y i) (z i); wrote = d.wrote })
    go (Error x) (deep k) d = let h = d.answers in let z : ◌≡◌ {A = ℕ} 0 1 = cc in absurd (omega arith)
    go TooDeep (ok a ms k) d = let h = d.answers in let z : ◌≡◌ {A = ℕ} 0 1 = cc in absurd (omega arith)
    go TooDeep (bad g k) d = let h = d.answers in let z : ◌≡◌ {A = ℕ} 0 1 = cc in absurd (omega arith)
    go TooDeep (deep k) d = let q = d.answers in let z : s₁.ptr ≡ s.ptr + k = cc in
        rw (h.far k) (record { answers = λ i. over (z i); wrote = d.wrote })

-- marks before those of an answer
abbrev put : {A : Type 0} → List Mark → Out A → Out A
put ms (ok a ns k) = ok a (ms ++ ns) k
put ms (bad f k) = bad f k
put ms (deep k) = deep k

put-after : {A : Type 0} (ms : List Mark) (k : ℕ) (o : Out A) → put ms (after [] k o) ≡ after ms k o
unfolding after
put-after ms k (ok a ns j) = refl
put-after ms k (bad f j) = refl
put-after ms k (deep j) = refl

-- a reader's marks are not written before the next one fails
pub stop-late : {A B U : Type 0} {v : B → U} {s s₁ s₂ : Source} {m m₁ : Marks} {e : Stop} {a : A} {ms : List Mark} {k : ℕ}
    (f : Reader A) (q : A → Reader B) → f (rest s) ≡ ok a ms k → s₁.bytes ≡ s.bytes → s₁.ptr ≡ s.ptr + k
    → ReadsOf v s₁ s₂ m m₁ (Err e) (q a (rest s₁)) → ReadsOf v s s₂ m m₁ (Err e) ((f >>= q) (rest s))
unfolding ◌>>=◌ next
stop-late {A} {B} {U} {v} {s} {s₁} {s₂} {m} {m₁} {e} {a} {ms} {k} f q h b p d =
    let g : Goes s s₁ (ok a [] k) a = record { bytes = b; went = went-ok refl p (rw b at s₁.inside) } in
    let r : ReadsOf v s s₂ m m₁ (Err e) (next (rest s) q (ok a [] k)) = reads-plain (λ _. ok a [] k) q (reads-goes g) d in
    rw (h, ← put-after ms k (q a (drop k (rest s)))) (reads-through {f = put ms} (record { fault = λ g k. refl; far = λ k. refl }) _ r)

-- an error has no value
pub reads-error : {A T U : Type 0} {w : A → T} {v : A → U} {s s₁ : Source} {m m₁ : Marks} {e : Stop} (o : Out A)
    → ReadsOf w s s₁ m m₁ (Err e) o → ReadsOf v s s₁ m m₁ (Err e) o
reads-error o d = reads-through {f = λ o. o} (record { fault = λ g k. refl; far = λ k. refl }) o d

-- ---- room
-- what a reader answered lies in the source, and its marks and c more are at most eight for each byte used
pub record Spent (c : ℕ) (s s₁ : Source) (m m₁ : Marks) : Type 0 where
  pub onward : s.ptr ≤ s₁.ptr
  pub more : m.count ≤ m₁.count
  pub room : m₁.count + c + 8 * s.ptr ≤ m.count + 8 * s₁.ptr

pub reads-room : {A T : Type 0} {w : A → T} {s s₁ : Source} {m m₁ : Marks} {x : T} {N c : ℕ} (o : Out A)
    → Bounded N (λ _. c) (rest s) o → ReadsOf w s s₁ m m₁ (Ok x) o → Spent c s s₁ m m₁
reads-room {s = s} {s₁} {m} {m₁} (ok a ms k) (used u) d =
    let q = d.did.answers in
    let r = u.room in
    let y : s₁.ptr ≡ s.ptr + k = cc in
    let z : m₁.count ≡ m.count + length ms = cc in
    record { onward = omega arith; more = omega arith; room = omega arith }
reads-room (bad f k) b d = let q = d.did.answers in let z : ◌≡◌ {A = ℕ} 0 1 = cc in absurd (omega arith)
reads-room (deep k) b d = let q = d.did.answers in let z : ◌≡◌ {A = ℕ} 0 1 = cc in absurd (omega arith)
