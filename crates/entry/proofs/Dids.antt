-- Readers at places of the source: one after the other, as the definitions have them.
-- An answer of the code is taken apart into `Found`, `Lost` or `Far` of the definition's answer, and made of one.
use Rattle.std.specs.Prelude.{◌≡◌, ℕ, ◌+◌, Err, List, [], ◌∷◌, ◌++◌, map, length, drop}
use mathlib.Core.Path.{refl, sym, ap, ap₂, ◌∙◌}
use native.Mathlib.Nat.{add-zero, add_assoc}
use native.Mathlib.Omega.{arith}
use lib.ListN.{length-append, length-map}
use lib.Seq.{drop-drop}
use Rattle.syntax.specs.Kind.{closing}
use Rattle.syntax.specs.declared.errors.ErrorKind.{ErrorKind}
use Rattle.syntax.specs.declared.errors.ParserError.{ParserError}
use Rattle.syntax.specs.Errors.{up_kind, up_fault, fault_at}
use Rattle.syntax.specs.Marks.{Mark, plain, move_up, node, text_node}
use Rattle.syntax.specs.Reader.{Out, ok, bad, deep, Reader, after, next, pure, fail, wrap, Turn, again, repeat}
use Rattle.laws.specs.Loop.{Moves, repeat-again}
use Rattle.laws.specs.Moving.{map-append, move_up-append, move_up-twice, after-after}
use Rattle.entry.specs.Tree.{Word, word, word_of, words_at, Step}
use Rattle.entry.specs.declared.errors.Stop.{Stop}
use Rattle.entry.specs.declared.errors.Stop.TheVariants.{Error, TooDeep}
use Rattle.entry.specs.Did.{Told, yes, no, over, told, answer, marks_of, Did}
use Rattle.entry.proofs.Steps.{step-none, step_cut, step_then}

-- ---- moving up
pub fault-up : (at k : ℕ) (f : ParserError) → up_fault at (up_fault k f) ≡ up_fault (at + k) f
unfolding after
fault-up at k f = let q = after-after {A = ℕ} [] at [] k (bad f 0) in cc

pub fault-here : (kind : ErrorKind) (at : ℕ) → up_kind at kind ≡ kind → up_fault at (fault_at kind 0) ≡ fault_at kind at
fault-here kind at e i = record { start = add-zero at i; end = refl {a = at + 1} i; kind = e i }

pub words_up : (at k : ℕ) (ms : List Mark) → words_at at (move_up k ms) ≡ words_at (at + k) ms
unfolding words_at
words_up at k ms = ap (map word_of) (move_up-twice at k ms)

pub words_append : (at : ℕ) (ms ns : List Mark) → words_at at (ms ++ ns) ≡ words_at at ms ++ words_at at ns
unfolding words_at
words_append at ms ns = ap (map word_of) (move_up-append at ms ns) ∙ map-append word_of (move_up at ms) (move_up at ns)

pub words-length : (at : ℕ) (ms : List Mark) → length (words_at at ms) ≡ length ms
unfolding words_at move_up
words-length at ms = simp length-map

moved_length : (k : ℕ) (ms : List Mark) → length (move_up k ms) ≡ length ms
unfolding move_up
moved_length k ms = simp length-map

pub words-none : (at : ℕ) → words_at at [] ≡ []
unfolding words_at move_up
words-none at = refl

pub answer-after : {A T : Type 0} (w : A → T) (at n k : ℕ) (ms : List Mark) (o : Out A)
    → answer w at n (after ms k o) ≡ answer w (at + k) (n + length ms) o
unfolding after
answer-after w at n k ms (ok a ns j) =
    ap₂ (yes (w a)) (sym (add_assoc at k j))
    (ap (λ (i : ℕ). n + i) (length-append ms (move_up k ns) ∙ ap (λ (i : ℕ). length ms + i) (moved_length k ns))
    ∙ sym (add_assoc n (length ms) (length ns)))
answer-after w at n k ms (bad f j) = ap₂ no (fault-up at k f) (sym (add_assoc at k j))
answer-after w at n k ms (deep j) = ap over (sym (add_assoc at k j))

pub did_after : {A T : Type 0} {w : A → T} {cap at n : ℕ} {t t₁ t₂ : List ℕ} {r : Told T} (ms : List Mark) (k : ℕ)
    (o : Out A)
    → Step cap n t t₁ (words_at at ms) → Did w cap (at + k) (n + length ms) t₁ t₂ r o
    → Did w cap at n t t₂ r (after ms k o)
unfolding after
did_after {A} {T} {w} {cap} {at} {n} {t} {t₁} {t₂} {r} ms k o s d =
    record { answers = d.answers ∙ sym (answer-after w at n k ms o); wrote = go o d.wrote }
  where
    len : n + length ms ≡ n + length (words_at at ms)
    len = ap (λ (i : ℕ). n + i) (sym (words-length at ms))

    go : (o : Out A) → Step cap (n + length ms) t₁ t₂ (words_at (at + k) (marks_of o)) → Step cap n t t₂ (words_at at (marks_of (after ms k o)))
    go (ok a ns j) v = rw (words_append, words_up) (step_then s len v)
    go (bad f j) v = rw words-none (step_cut (step_then s len v))
    go (deep j) v = rw words-none (step_cut (step_then s len v))

-- a turn of a loop that goes on, then the loop from there
pub did-again : {S A T : Type 0} {w : A → T} {cap at n a n' : ℕ} {t t₁ t₂ : List ℕ} {r : Told T} {turn : S → List ℕ
    → Turn S A}
    (m : Moves turn) (s : List ℕ) (st : S) {st' : S} {ms : List Mark} {k : ℕ}
    → turn st (drop at s) ≡ again st' ms k → a ≡ at + k → n' ≡ n + length ms → Step cap n t t₁ (words_at at ms)
    → Did w cap a n' t₁ t₂ r (repeat turn st' (drop a s))
    → Did w cap at n t t₂ r (repeat turn st (drop at s))
did-again {w = w} {cap} {at} {n} {t₁ = t₁} {t₂} {r} {turn} m s st {st'} {ms} {k} h e c o d =
    let d' : Did w cap (at + k) (n + length ms) t₁ t₂ r (repeat turn st' (drop (at + k) s)) = rw (e, c) at d in
    rw (repeat-again m st (drop at s) h, drop-drop) (did_after ms k (repeat turn st' (drop (at + k) s)) o d')

-- ---- what the definition answered: the code went on at a with n' marks
pub record Found {A : Type 0} (cap at n a n' : ℕ) (t t₁ : List ℕ) (o : Out A) : Type 0 where
  pub value : A
  pub ms : List Mark
  pub k : ℕ
  pub is : o ≡ ok value ms k
  pub place : a ≡ at + k
  pub count : n' ≡ n + length ms
  pub wrote : Step cap n t t₁ (words_at at ms)

pub record Lost {A : Type 0} (at : ℕ) (f : ParserError) (j : ℕ) (o : Out A) : Type 0 where
  pub fault : ParserError
  pub k : ℕ
  pub is : o ≡ bad fault k
  pub moved : f ≡ up_fault at fault
  pub place : j ≡ at + k

pub record Far {A : Type 0} (at j : ℕ) (o : Out A) : Type 0 where
  pub k : ℕ
  pub is : o ≡ deep k
  pub place : j ≡ at + k

-- ---- made of what was found
pub did-found : {A T : Type 0} (w : A → T) {cap at n a n' : ℕ} {t t₁ : List ℕ} {o : Out A}
    (f : Found cap at n a n' t t₁ o)
    → Did w cap at n t t₁ (yes (w f.value) a n') o
did-found w f = rw f.is (record { answers = ap₂ (yes (w f.value)) f.place f.count; wrote = f.wrote })

pub did-lost : {A T : Type 0} (w : A → T) {cap at n j : ℕ} {t t₁ : List ℕ} {f : ParserError} {o : Out A}
    → Lost at f j o → Step cap n t t₁ [] → Did w cap at n t t₁ (no f j) o
did-lost w {at = at} l s = rw l.is (record { answers = ap₂ no l.moved l.place; wrote = rw words-none s })

pub did-far : {A T : Type 0} (w : A → T) {cap at n j : ℕ} {t t₁ : List ℕ} {o : Out A} → Far at j o
    → Step cap n t t₁ [] → Did w cap at n t t₁ (over j) o
did-far w {at = at} l s = rw l.is (record { answers = ap over l.place; wrote = rw words-none s })

-- ---- taken apart
pub lost : {A T : Type 0} {w : A → T} {cap at n j : ℕ} {t t₁ : List ℕ} {r : Told T} {f : ParserError}
    → (o : Out A) → Did w cap at n t t₁ r o → r ≡ no f j → Lost at f j o
lost (ok x ms k) d e = let q = d.answers in let z : ◌≡◌ {A = ℕ} 0 1 = cc in absurd (omega arith)
lost (bad g k) d e = let q = d.answers in record { fault = g; k = k; is = refl; moved = cc; place = cc }
lost (deep k) d e = let q = d.answers in let z : ◌≡◌ {A = ℕ} 0 1 = cc in absurd (omega arith)

pub far : {A T : Type 0} {w : A → T} {cap at n j : ℕ} {t t₁ : List ℕ} {r : Told T} → (o : Out A)
    → Did w cap at n t t₁ r o → r ≡ over j → Far at j o
far (ok x ms k) d e = let q = d.answers in let z : ◌≡◌ {A = ℕ} 0 1 = cc in absurd (omega arith)
far (bad g k) d e = let q = d.answers in let z : ◌≡◌ {A = ℕ} 0 1 = cc in absurd (omega arith)
far (deep k) d e = let q = d.answers in record { k = k; is = refl; place = cc }

-- what failed has no marks
pub failed-wrote : {A T : Type 0} {w : A → T} {cap at n : ℕ} {t t₁ : List ℕ} {r : Told T} {o : Out A}
    → Did w cap at n t t₁ r o → Step cap n t t₁ []
failed-wrote d = step_cut d.wrote

-- what was found, whose value the code tells as x
pub record Valued {A T : Type 0} (w : A → T) (cap at n : ℕ) (x : T) (a n' : ℕ) (t t₁ : List ℕ) (o : Out A) : Type 0 where
  pub found : Found cap at n a n' t t₁ o
  pub told : x ≡ w found.value

pub valued : {A T : Type 0} {w : A → T} {cap at n a n' : ℕ} {x : T} {t t₁ : List ℕ} {r : Told T} (o : Out A)
    → Did w cap at n t t₁ r o → r ≡ yes x a n' → Valued w cap at n x a n' t t₁ o
valued (ok y ms k) d e =
    let q = d.answers in
    record {
      found = record { value = y; ms = ms; k = k; is = refl; place = cc; count = cc; wrote = d.wrote };
      told = cc;
    }
valued (bad f j) d e = let q = d.answers in let z : ◌≡◌ {A = ℕ} 0 1 = cc in absurd (omega arith)
valued (deep j) d e = let q = d.answers in let z : ◌≡◌ {A = ℕ} 0 1 = cc in absurd (omega arith)

pub found : {A T : Type 0} {w : A → T} {cap at n a n' : ℕ} {x : T} {t t₁ : List ℕ} {r : Told T} (o : Out A)
    → Did w cap at n t t₁ r o → r ≡ yes x a n' → Found cap at n a n' t t₁ o
found o d e = (valued o d e).found

-- ---- sequences: what follows, what failed
pub did-next : {A B T : Type 0} {w : B → T} {cap at n a n' : ℕ} {t t₁ t₂ : List ℕ} {r : Told T} (s : List ℕ)
    (q : A → Reader B) {o : Out A} (f : Found cap at n a n' t t₁ o)
    → Did w cap a n' t₁ t₂ r (q f.value (drop a s))
    → Did w cap at n t t₂ r (next (drop at s) q o)
unfolding next
did-next {w = w} {cap} {at} {n} {a} {n'} {t} {t₁} {t₂} {r} s q f d =
    let d' : Did w cap (at + f.k) (n + length f.ms) t₁ t₂ r (q f.value (drop (at + f.k) s)) = rw (f.place, f.count) at d in
    rw (f.is, drop-drop) (did_after f.ms f.k (q f.value (drop (at + f.k) s)) f.wrote d')

-- the first reader failed, and so does the whole, with the same error
pub stopped : {A B T U : Type 0} (w : A → T) (v : B → U) (cap at n j m m' : ℕ) (t t₁ : List ℕ) (e : Stop) (x : List ℕ)
    (o : Out A) (q : A → Reader B)
    → Did w cap at n t t₁ (told (Err e) j m) o → Did v cap at n t t₁ (told (Err e) j m') (next x q o)
unfolding next
stopped w v cap at n j m m' t t₁ (Error f) x (ok a ms k) q d = let h = d.answers in let z : ◌≡◌ {A = ℕ} 0 1 = cc in absurd (omega arith)
stopped w v cap at n j m m' t t₁ (Error f) x (bad g k) q d = let h = d.answers in let e : f ≡ up_fault at g = cc in let i : j ≡ at + k = cc in
    record { answers = λ y. no (e y) (i y); wrote = d.wrote }
stopped w v cap at n j m m' t t₁ (Error f) x (deep k) q d = let h = d.answers in let z : ◌≡◌ {A = ℕ} 0 1 = cc in absurd (omega arith)
stopped w v cap at n j m m' t t₁ TooDeep x (ok a ms k) q d = let h = d.answers in let z : ◌≡◌ {A = ℕ} 0 1 = cc in absurd (omega arith)
stopped w v cap at n j m m' t t₁ TooDeep x (bad g k) q d = let h = d.answers in let z : ◌≡◌ {A = ℕ} 0 1 = cc in absurd (omega arith)
stopped w v cap at n j m m' t t₁ TooDeep x (deep k) q d = let h = d.answers in let i : j ≡ at + k = cc in
    record { answers = λ y. over (i y); wrote = d.wrote }

-- ---- the plain readers
pub did_pure : {A T : Type 0} {w : A → T} {cap at n : ℕ} {t : List ℕ} (x : A) (s : List ℕ)
    → Did w cap at n t t (yes (w x) at n) (pure x s)
unfolding pure
did_pure {w = w} {cap} {at} {n} {t} x s =
    record {
      answers = ap₂ (yes (w x)) (sym (add-zero at)) (sym (add-zero n));
      wrote = rw words-none (step-none cap n t);
    }

pub lost-fail : {A : Type 0} {at : ℕ} {e : ParserError} {kind : ErrorKind} (x : List ℕ) → up_kind at kind ≡ kind
    → e ≡ fault_at kind at → Lost at e at (fail {A = A} kind x)
unfolding fail
lost-fail {at = at} {kind = kind} x u h =
    record {
      fault = fault_at kind 0;
      k = 0;
      is = refl;
      moved = h ∙ sym (fault-here kind at u);
      place = sym (add-zero at);
    }

pub far-here : {A : Type 0} {at : ℕ} → Far {A = A} at at (deep 0)
far-here {at = at} = record { k = 0; is = refl; place = sym (add-zero at) }

-- ---- texts and nodes
pub text-placed : (at a e from till kind : ℕ) → a ≡ at + from → e ≡ at + till
    → words_at at (text_node kind from till) ≡ word kind a ∷ word (closing kind) e ∷ []
unfolding words_at move_up text_node
text-placed at a e from till kind p q = rw (p, q)

unfoldable pub found-text : {A : Type 0} {cap at n n' a k kind : ℕ} {t t₁ : List ℕ} {o : Out A} {x : A}
    → o ≡ ok x (text_node kind 0 k) k → a ≡ at + k → n' ≡ n + 2
    → Step cap n t t₁ (word kind at ∷ word (closing kind) a ∷ []) → Found cap at n a n' t t₁ o
unfolding text_node
found-text {at = at} {a = a} {k} {kind} {x = x} e h c s =
    record {
      value = x;
      ms = text_node kind 0 k;
      k = k;
      is = e;
      place = h;
      count = c;
      wrote = rw (text-placed at at a 0 k kind (sym (add-zero at)) h) s;
    }

pub node-words : (at kind : ℕ) (ms : List Mark) → words_at at (node kind ms) ≡ word kind 0 ∷ (words_at at ms ++ (word (closing kind) 0 ∷ []))
unfolding words_at move_up node
node-words at kind ms = ap (λ (l : List Word). word kind 0 ∷ l) (words_append at ms (plain (closing kind) ∷ []))

-- an opening mark, what stands in the node, and the closing mark
unfoldable pub found-wrap : {A : Type 0} {cap at n n₁ m m' a : ℕ} {t t₁ t₂ t₃ : List ℕ} (kind : ℕ) {o : Out A}
    → Step cap n t t₁ (word kind 0 ∷ []) → n₁ ≡ n + 1 → Found cap at n₁ a m t₁ t₂ o
    → Step cap m t₂ t₃ (word (closing kind) 0 ∷ []) → m' ≡ m + 1 → Found cap at n a m' t t₃ (wrap kind o)
unfolding wrap node
found-wrap {cap = cap} {at} {n} {n₁} {m} {m'} {a} {t} {t₁} {t₂} {t₃} kind {o} s e f z g =
    let count = f.count in
    let len : length (f.ms ++ (plain (closing kind) ∷ [])) ≡ length f.ms + 1 = length-append f.ms (plain (closing kind) ∷ []) in
    let l = words-length at f.ms in
    let u = step_then s e (step_then f.wrote (count ∙ ap (λ (i : ℕ). n₁ + i) (sym l)) z) in
    record {
      value = f.value;
      ms = node kind f.ms;
      k = f.k;
      is = rw f.is;
      place = f.place;
      count = omega arith;
      wrote = rw (node-words at kind f.ms) u;
    }

-- a failure after an opening mark leaves no mark
pub step-failed : {cap n n₁ : ℕ} {t t₁ t₂ : List ℕ} {ws : List Word} → Step cap n t t₁ ws → n₁ ≡ n + length ws
    → Step cap n₁ t₁ t₂ [] → Step cap n t t₂ []
step-failed s e r = step_cut (step_then s e r)
