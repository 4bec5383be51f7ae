-- The entries of a file at the top: each is a child, and an attached comment stands right before what it is attached to.
use Rattle.std.specs.Prelude.{ℕ, zero, suc, ◌+◌, ◌≤◌, ◌<◌, ◌≡◌, Bool, ◌&&◌, List, [], ◌∷◌, drop, length, eqb, ltb}
use Rattle.std.proofs.Math.Nat.{zero-add}
use Rattle.std.proofs.Common.{arith, sym, ap, ◌∙◌, length-drop}
use Rattle.std.proofs.Math.Path.{refl, subst}
use Rattle.std.proofs.Math.Bool.{true, false, and-eq-true_iff}
use Rattle.std.proofs.Math.Option.{some}
use Rattle.syntax.specs.Kind as Kind
use Rattle.syntax.specs.Marks.{Mark, node}
use Rattle.syntax.specs.Reader.{ok}
use Rattle.syntax.specs.Helper.{skip_blank_block}
use Rattle.syntax.specs.Pattern.{Inside, used_by}
use Rattle.syntax.specs.Core.{Entry, comment, message, term, get_entry, junk_end, Error, is_named, count, kind_of_entry}
use Rattle.syntax.specs.Shape.{top, start, step_in, step_by, final_by, models, among, step, final, opens, Run, stay}
use Rattle.laws.specs.Bytes.{by_case, clash}
use Rattle.laws.specs.Answers.{Holds}
use Rattle.laws.specs.Entries.{nil-named}
use Rattle.laws.specs.Bounds.{bad-within}
use Rattle.laws.specs.Bounds.Pattern.{InsideBounds}
use Rattle.laws.specs.Bounds.Entry.{entry-bounds}
use Rattle.laws.specs.File.{small_of, near, First, entry, junk, Passed, none, more}
use Rattle.laws.specs.Shape.Run.{run-append, run_moved, run-text, run-node}
use Rattle.laws.specs.Formed.Edge.{edge, edge-add}
use Rattle.laws.specs.Formed.Helper.{block-edge}
use Rattle.laws.specs.Formed.Pattern.{InsideFormed}
use Rattle.laws.specs.Formed.Entry.{Inner, entry-formed, junk-edge}

-- a free comment at the top, and its lines
record Commented (k : ℕ) : Type 0 where
  is_node : Kind.is_text k ≡ false
  child : step top start k ≡ some start
  opens_none : opens k ≡ 0
  lines : step k start Kind.comment_line ≡ some start
  ended : final k start ≡ true

commented : (l : ℕ) → 0 < l → l ≤ 3 → Commented (2 + l)
unfolding Kind.is_text opens step step_by step_in final final_by models among
commented zero g h = absurd (omega arith)
commented (suc zero) g h = record { is_node = refl; child = refl; opens_none = refl; lines = refl; ended = refl }
commented (suc (suc zero)) g h = record { is_node = refl; child = refl; opens_none = refl; lines = refl; ended = refl }
commented (suc (suc (suc zero))) g h = record { is_node = refl; child = refl; opens_none = refl; lines = refl; ended = refl }
commented (suc (suc (suc (suc l)))) g h = absurd (omega arith)

-- the top's state, by whether an attached comment waits for what it is attached to
abbrev waiting : Bool → ℕ
waiting true = 1
waiting false = 0

-- past an entry's marks: the next entry is k bytes on
record Ahead (n : ℕ) (sub : Inside) (s : List ℕ) (v : Bool) (ms : List Mark) (k : ℕ) : Type 0 where
  waits : Bool
  named : waits ≡ true → is_named (get_entry sub (drop k s)) ≡ true
  place : edge s k ≡ true
  run : Run (edge s) n top (waiting v) (waiting waits) ms

-- a message or a term may stand anywhere at the top
named-steps : (v : Bool) → (step top (waiting v) Kind.message ≡ some 0) × (step top (waiting v) Kind.term ≡ some 0)
unfolding step step_by step_in models among
named-steps true = (refl, refl)
named-steps false = (refl, refl)

-- nothing waits
free : {n : ℕ} {sub : Inside} {s : List ℕ} {v : Bool} {ms : List Mark} {k : ℕ} → edge s k ≡ true
    → Run (edge s) n top (waiting v) 0 ms → Ahead n sub s v ms k
free p w = record { waits = false; named = λ z. clash z refl; place = p; run = w }

blank-past : (s : List ℕ) (k : ℕ) → edge s k ≡ true → edge s (k + used_by (skip_blank_block (drop k s))) ≡ true
blank-past s k p = edge-add s k (used_by (skip_blank_block (drop k s))) p (block-edge (drop k s))

module _ {n : ℕ} {sub : Inside} (law : InsideFormed n sub) (bounds : InsideBounds n sub) where
  entry-ahead : (s : List ℕ) (v : Bool) → (v ≡ true → is_named (get_entry sub s) ≡ true)
      → (e : Entry) (ms : List Mark) (k : ℕ) → get_entry sub s ≡ ok e ms k → edge s k ≡ true → Inner n s e ms
      → Ahead n sub s v (node (kind_of_entry e (near sub s k)) ms) (k + used_by (skip_blank_block (drop k s)))
  unfolding kind_of_entry Kind.is_text opens step step_by step_in final final_by models among is_named
  entry-ahead s v t message ms k h p c = free (blank-past s k p) (run-node (edge s) refl (named-steps v).0 (zero-add n) c)
  entry-ahead s v t term ms k h p c = free (blank-past s k p) (run-node (edge s) refl (named-steps v).1 (zero-add n) c)
  entry-ahead s true t (comment l) ms k h p c = clash (t refl) (ap is_named h)
  entry-ahead s false t (comment l) ms k h p c = by_case (eqb l 1 && near sub s k)
      (λ q. rw (q, kind_of_entry) (record {
        waits = true;
        named = λ z. ((and-eq-true_iff (ltb (count (skip_blank_block (drop k s))) 2) _).0 ((and-eq-true_iff (eqb l 1) (near sub s k)).0 q).1).1;
        place = blank-past s k p;
        run = run-node (edge s) refl refl (zero-add n) (record { to = 0; run = c 6 refl; ended = refl });
      }))
      (λ q. let m = commented l (small_of sub s h).0 (small_of sub s h).1 in
      rw (q, kind_of_entry)
      (free (blank-past s k p)
      (run-node (edge s) m.is_node m.child (ap (λ i. i + n) m.opens_none ∙ zero-add n)
      (record { to = 0; run = c (2 + l) m.lines; ended = m.ended }))))

  first-ahead : {s : List ℕ} {ms : List Mark} {es : List Error} {k : ℕ} (v : Bool)
      → (v ≡ true → is_named (get_entry sub s) ≡ true) → First sub s ms es k → Ahead n sub s v ms k
  unfolding is_named Kind.is_text edge step step_by step_in models among
  first-ahead {s} v t (entry {e} {ms} {k} h) = let (p, c) =
      subst (Holds (λ e ms j. (edge s j ≡ true) × Inner n s e ms)) h (entry-formed law s) in
      entry-ahead s v t e ms k h p c
  first-ahead true t (junk h) = clash (t refl) (ap is_named h)
  first-ahead {s} false t (junk {k = k} h) =
      let p = junk-edge k s (bad-within (entry-bounds bounds) s h) in
      free (blank-past s (junk_end k s) p) (run-text (edge s) 7 0 (junk_end k s) refl refl refl p (omega arith))

  none-run : (v : Bool) (s : List ℕ) → length s ≡ 0 → (v ≡ true → is_named (get_entry sub s) ≡ true) → Run (edge s) n top (waiting v) 0 []
  none-run true [] e t = clash (t refl) (nil-named sub)
  none-run false [] e t = stay
  none-run v (b ∷ bs) e t = absurd (omega arith)

  -- all entries of a rest
  pub passed-run : {s : List ℕ} {ms : List Mark} {es : List Error} {k : ℕ} (v : Bool)
      → (v ≡ true → is_named (get_entry sub s) ≡ true) → k ≡ length s → Passed sub s ms es k
      → Run (edge s) n top (waiting v) 0 ms
  passed-run {s} v t e none = none-run v s (sym e) t
  passed-run v t e (more {b} {bs} {k = k} {j} f p) =
      let a = first-ahead v t f in
      let z : j ≡ length (drop k (b ∷ bs)) = omega (arith, length-drop k (b ∷ bs)) in
      run-append (edge (b ∷ bs)) a.run
      (run_moved (edge (drop k (b ∷ bs))) (edge (b ∷ bs)) k (λ i g. edge-add (b ∷ bs) k i a.place g)
      (passed-run a.waits a.named z p))
