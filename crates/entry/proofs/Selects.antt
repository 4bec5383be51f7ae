-- What stands in braces: an inline expression alone, or with the variants of a select after it.
use Rattle.std.specs.Prelude.{◌≡◌, ℕ, suc, ◌+◌, ◌-◌, false, true, Result, Ok, Err, List, [], ◌∷◌, ◌++◌, length, drop}
use mathlib.Core.Path.{refl, sym, ap, subst, ◌∙◌}
use mathlib.Core.List.{append-nil, append_assoc}
use native.Mathlib.Nat.{add-zero}
use native.Mathlib.Omega.{arith}
use lib.ListN.{length-append}
use lib.Seq.{drop-drop}
use Rattle.std.proofs.Common.{Bor}
use Rattle.syntax.specs.declared.errors.ParserError.{ParserError}
use Rattle.syntax.specs.Errors.{up_fault}
use Rattle.syntax.specs.Marks.{Mark, plain, move_up, node}
use Rattle.syntax.specs.Reader.{Out, ok, bad, deep, Reader, after, next, ◌>>=◌, ◌>>◌, pure}
use Rattle.syntax.specs.Pattern.{Inside}
use Rattle.syntax.specs.Expression.{Inline, string, number, variable, function, inner, message, term, inline, select}
use Rattle.syntax.specs.Expression.{get_inline_expression, inline_or_select, in_select, get_expression, is_term_attribute}
use Rattle.syntax.specs.Expression.{get_variants, Expression as Content}
use Rattle.laws.specs.Moving.{after-after, move_up-nil, move_up-length}
use Rattle.entry.specs.declared.errors.Stop.{Stop}
use Rattle.entry.specs.declared.errors.Stop.TheVariants.{Error, TooDeep}
use Rattle.entry.specs.declared.source.Source.{Source}
use Rattle.entry.specs.declared.marks.Marks.{Marks}
use Rattle.entry.specs.declared.expression.Expression.{Expression}
use Rattle.entry.specs.declared.expression.Expression.TheVariants.{Select}
use Rattle.entry.specs.Tree.{word, Step, Inserted, words_at}
use Rattle.entry.specs.Marks.{Wrote, Put}
use Rattle.entry.specs.Did.{silent}
use Rattle.entry.specs.Reads.{rest, Goes, Finds, Frame, ReadsOf}
use Rattle.entry.specs.Shape.{shape_at, content_at, is_attribute_of_term, followed_by, Followed, placeable_end}
use Rattle.entry.proofs.Steps.{step_cut, step_then}
use Rattle.entry.proofs.MarksFrom.{inserted-step}
use Rattle.entry.proofs.Dids.{Found, valued, lost, far, did-found, did-lost, did-far, failed-wrote, words_up, words_append}
use Rattle.entry.proofs.Dids.{words-length, node-words, fault-up}
use Rattle.entry.proofs.Chains.{frame-then, reads-bind, reads-map, reads-goes, reads-finds, stop-bind}
use Rattle.entry.proofs.Cycle.{err-not-ok, reads-fails}
use Rattle.entry.proofs.Follows.{attribute-same}

-- ---- the end of a placeable, by what stands in it
pub reads-placeable : {s s₁ s₂ : Source} {m m₁ : Marks} {x : Expression} {r : Result (Unit {0}) Stop} (b : ℕ) (p : Reader Content)
    → ReadsOf (content_at b) s s₁ m m₁ (Ok x) (p (rest s)) → Finds s₁ s₂ (placeable_end (is_attribute_of_term x) (rest s₁)) r
    → ReadsOf silent s s₂ m m₁ r ((p >>= λ c. placeable_end (is_term_attribute c)) (rest s))
reads-placeable {s} {s₁} {s₂} {x = x} {r} b p d g =
    let v = valued (p (rest s)) d.did refl in
    let e : is_attribute_of_term x ≡ is_term_attribute v.found.value = ap is_attribute_of_term v.told ∙ attribute-same b v.found.value in
    let h : Finds s₁ s₂ (placeable_end (is_term_attribute v.found.value) (rest s₁)) r = rw e at g in
    reads-bind p (λ c. placeable_end (is_term_attribute c)) d (reads-finds h)

-- ---- what is no select
no-select : (b : ℕ) (i : Inline) → shape_at b i ≡ Select → ⊥
no-select b string h = let z : ◌≡◌ {A = ℕ} 0 1 = cc in omega arith
no-select b number h = let z : ◌≡◌ {A = ℕ} 0 1 = cc in omega arith
no-select b variable h = let z : ◌≡◌ {A = ℕ} 0 1 = cc in omega arith
no-select b function h = let z : ◌≡◌ {A = ℕ} 0 1 = cc in omega arith
no-select b inner h = let z : ◌≡◌ {A = ℕ} 0 1 = cc in omega arith
no-select b (message n a) h = let z : ◌≡◌ {A = ℕ} 0 1 = cc in omega arith
no-select b (term a) h = let z : ◌≡◌ {A = ℕ} 0 1 = cc in omega arith

in-inline : {s s₁ : Source} {m m₁ : Marks} {x : Expression} (b : ℕ) (i : Inline) (o : Out Content)
    → ReadsOf (content_at b) s s₁ m m₁ (Ok x) o → x ≡ shape_at b i → in_select o ≡ o
unfolding in_select
in-inline b i (ok (inline j) ms k) d e = refl
in-inline {x = x} b i (ok select ms k) d e =
    let q = d.did.answers in let z : x ≡ Select = cc in absurd (no-select b i (sym e ∙ z))
in-inline b i (bad f k) d e = refl
in-inline b i (deep k) d e = refl

select-stop : {s s₁ : Source} {m m₁ : Marks} {e : Stop} (b : ℕ) (o : Out Content) → ReadsOf (content_at b) s s₁ m m₁ (Err e) o
    → ReadsOf (content_at b) s s₁ m m₁ (Err e) (in_select o)
unfolding in_select
select-stop b (ok (inline i) ms k) d = d
select-stop b (ok select ms k) d = absurd (err-not-ok d)
select-stop b (bad f k) d = d
select-stop b (deep k) d = d

pub expression-stop : {s s₁ : Source} {m m₁ : Marks} {e : Stop} (b : ℕ) (sub : Inside)
    → ReadsOf (shape_at b) s s₁ m m₁ (Err e) (get_inline_expression sub false (rest s))
    → ReadsOf (content_at b) s s₁ m m₁ (Err e) (get_expression sub (rest s))
unfolding get_expression inline_or_select followed_by
expression-stop b sub d = select-stop b _ (stop-bind (get_inline_expression sub false) (followed_by sub) d)

alone-reads : {s s₁ : Source} {m : Marks} {x : Expression} {o : Out Content} (b : ℕ) (i : Inline) → x ≡ shape_at b i
    → Goes s s₁ o (inline i) → ReadsOf (content_at b) s s₁ m m (Ok x) o
alone-reads b i e g = rw e (reads-map (content_at b) (reads-goes g))

module _ {s s₁ s₂ : Source} {m m₁ : Marks} {x : Expression} (b : ℕ) (sub : Inside)
    (d : ReadsOf (shape_at b) s s₁ m m₁ (Ok x) (get_inline_expression sub false (rest s))) where
  pub expression-refused : {e : Stop} → Followed s₁ s₂ x (Err e) → ReadsOf (content_at b) s s₂ m m₁ (Err e) (get_expression sub (rest s))
  unfolding get_expression inline_or_select followed_by
  expression-refused {e} g = go e g
    where
      go : (e : Stop) → Followed s₁ s₂ x (Err e) → ReadsOf (content_at b) s s₂ m m₁ (Err e) (get_expression sub (rest s))
      go (Error f) g =
          let v = valued (get_inline_expression sub false (rest s)) d.did refl in
          select-stop b _
          (reads-bind (get_inline_expression sub false) (followed_by sub) d
          (reads-fails g.bytes (g.is sub b v.found.value v.told)))
      go TooDeep g = absurd g.is

  alone-whole : Followed s₁ s₂ x (Ok false) → ReadsOf (content_at b) s s₂ m m₁ (Ok x) (inline_or_select sub (rest s))
  unfolding inline_or_select followed_by
  alone-whole g =
      let v = valued (get_inline_expression sub false (rest s)) d.did refl in
      reads-bind (get_inline_expression sub false) (followed_by sub) d
      (alone-reads b v.found.value v.told (record { bytes = g.bytes; went = g.is sub b v.found.value v.told }))

  pub expression-alone : Followed s₁ s₂ x (Ok false) → ReadsOf (content_at b) s s₂ m m₁ (Ok x) (get_expression sub (rest s))
  unfolding get_expression
  expression-alone g =
      let v = valued (get_inline_expression sub false (rest s)) d.did refl in
      rw (in-inline b v.found.value (inline_or_select sub (rest s)) (alone-whole g) v.told) (alone-whole g)

-- ---- a select
node-long : (ms : List Mark) → length (node 14 ms) ≡ suc (length ms + 1)
unfolding node
node-long ms = ap suc (length-append ms (plain 114 ∷ []))

select-is : (sub : Inside) (x : List ℕ) {ms : List Mark} {k : ℕ} → inline_or_select sub x ≡ ok select ms k
    → get_expression sub x ≡ ok select (node 14 ms) k
unfolding get_expression in_select
select-is sub x e = rw e

bad-is : (sub : Inside) (x : List ℕ) {f : ParserError} {k : ℕ} → inline_or_select sub x ≡ bad f k → get_expression sub x ≡ bad f k
unfolding get_expression in_select
bad-is sub x e = rw e

deep-is : (sub : Inside) (x : List ℕ) {k : ℕ} → inline_or_select sub x ≡ deep k → get_expression sub x ≡ deep k
unfolding get_expression in_select
deep-is sub x e = rw e

module _ {s s₁ s₂ : Source} {m m₁ m₂ : Marks} {x : Expression} (b : ℕ) (sub : Inside)
    (d : ReadsOf (shape_at b) s s₁ m m₁ (Ok x) (get_inline_expression sub false (rest s))) (g : Followed s₁ s₂ x (Ok true))
    (p : Put m.count 14 m₁ m₂) where
  abbrev f : Found m.capacity s.ptr m.count s₁.ptr m₁.count m.words.now m₁.words.now (get_inline_expression sub false (rest s))
  f = (valued (get_inline_expression sub false (rest s)) d.did refl).found

  abbrev k : ℕ
  k = f.k + (s₂.ptr - s₁.ptr)

  place : s₂.ptr ≡ s.ptr + k
  place = omega (arith, f.place, g.is.0)

  there : drop f.k (rest s) ≡ rest s₁
  there =
      drop-drop f.k s.ptr s.bytes.now ∙ ap (λ (i : ℕ). drop i s.bytes.now) (sym f.place)
      ∙ ap (λ (y : Bor (List ℕ)). drop s₁.ptr y.now) (sym d.frame.bytes)

  opened : inline_or_select sub (rest s) ≡ after f.ms f.k (followed_by sub f.value (rest s₁))
  unfolding inline_or_select ◌>>=◌ next followed_by
  opened = rw (f.is, there)

  whole : inline_or_select sub (rest s) ≡ after f.ms k ((get_variants sub >> pure select) (rest s₂))
  whole =
      let o = (get_variants sub >> pure select) (rest s₂) in
      let told = (valued (get_inline_expression sub false (rest s)) d.did refl).told in
      opened ∙ ap (after f.ms f.k) (g.is.1 sub b f.value told) ∙ after-after f.ms f.k [] (s₂.ptr - s₁.ptr) o
      ∙ ap (λ (l : List Mark). after l k o) (ap (λ (l : List Mark). f.ms ++ l) (move_up-nil f.k) ∙ append-nil f.ms)

  whole-ok : {u : Unit {0}} {ms : List Mark} {j : ℕ} → get_variants sub (rest s₂) ≡ ok u ms j
      → inline_or_select sub (rest s) ≡ ok select (f.ms ++ move_up k ms) (k + j)
  unfolding ◌>>◌ next after pure
  whole-ok e = whole ∙ (rw (e, move_up-nil, append-nil, add-zero))

  whole-bad : {x : ParserError} {j : ℕ} → get_variants sub (rest s₂) ≡ bad x j → inline_or_select sub (rest s) ≡ bad (up_fault k x) (k + j)
  unfolding ◌>>◌ next after
  whole-bad e = whole ∙ (rw e)

  whole-deep : {j : ℕ} → get_variants sub (rest s₂) ≡ deep j → inline_or_select sub (rest s) ≡ deep (k + j)
  unfolding ◌>>◌ next after
  whole-deep e = whole ∙ (rw e)

  cap : m₂.capacity ≡ m.capacity
  cap = p.same.capacity ∙ d.frame.tree.capacity

  frame : Frame s s₂ m m₂
  frame = frame-then d.frame (record { bytes = g.bytes; tree = p.same })

  first : Step m.capacity m.count m.words.now m₂.words.now (word 14 0 ∷ words_at s.ptr f.ms)
  first =
      let i : Inserted m.capacity m.count m₁.count m₁.words.now m₂.words.now (word 14 0) = rw d.frame.tree.capacity at p.inserted in
      inserted-step f.wrote (f.count ∙ ap (λ (i : ℕ). m.count + i) (sym (words-length s.ptr f.ms))) i

  count : m₂.count ≡ m.count + length (word 14 0 ∷ words_at s.ptr f.ms)
  count = omega (arith, p.count, f.count, words-length s.ptr f.ms)

  module _ {s₃ : Source} {m₃ : Marks} where
    pub reads-select : {m₄ : Marks} {u : Unit {0}} → ReadsOf silent s₂ s₃ m₂ m₃ (Ok u) (get_variants sub (rest s₂))
        → Wrote m₃ m₄ (word 114 0 ∷ []) → ReadsOf (content_at b) s s₃ m m₄ (Ok Select) (get_expression sub (rest s))
    reads-select {m₄} e z =
        let v = (valued (get_variants sub (rest s₂)) e.did refl).found in
        let a : Step m.capacity m₂.count m₂.words.now m₃.words.now (words_at s₂.ptr v.ms) =
        subst (λ (c : ℕ). Step c m₂.count m₂.words.now m₃.words.now (words_at s₂.ptr v.ms)) cap v.wrote in
        let c : Step m.capacity m₃.count m₃.words.now m₄.words.now (word 114 0 ∷ []) = rw (e.frame.tree.capacity, cap) at z.step in
        let y = step_then first count (step_then a (v.count ∙ ap (λ (i : ℕ). m₂.count + i) (sym (words-length s₂.ptr v.ms))) c) in
        let eq : words_at s.ptr (node 14 (f.ms ++ move_up k v.ms)) ≡ (word 14 0 ∷ words_at s.ptr f.ms)
        ++ (words_at s₂.ptr v.ms ++ (word 114 0 ∷ [])) = node-words s.ptr 14 (f.ms ++ move_up k v.ms)
        ∙ (rw (words_append, words_up, ← place, append_assoc)) in
        let len : length (node 14 (f.ms ++ move_up k v.ms)) ≡ length f.ms + length v.ms + 2 =
        node-long (f.ms ++ move_up k v.ms) ∙ (rw (length-append, move_up-length) (omega arith)) in
        record {
          frame = frame-then (frame-then frame e.frame) (record { bytes = refl; tree = z.same });
          did =
              did-found (content_at b)
              (record {
                value = select;
                ms = node 14 (f.ms ++ move_up k v.ms);
                k = k + v.k;
                is = select-is sub (rest s) (whole-ok v.is);
                place = omega (arith, place, v.place);
                count = omega (arith, len, f.count, p.count, v.count, z.count);
                wrote = rw eq y;
              });
        }

    pub stop-select : {e : Stop} → ReadsOf silent s₂ s₃ m₂ m₃ (Err e) (get_variants sub (rest s₂))
        → ReadsOf (content_at b) s s₃ m m₃ (Err e) (get_expression sub (rest s))
    stop-select {e} v = go e v
      where
        cut : {e : Stop} → ReadsOf silent s₂ s₃ m₂ m₃ (Err e) (get_variants sub (rest s₂)) → Step m.capacity m.count m.words.now m₃.words.now []
        cut v =
            let a : Step m.capacity m₂.count m₂.words.now m₃.words.now [] =
            subst (λ (c : ℕ). Step c m₂.count m₂.words.now m₃.words.now []) cap (failed-wrote v.did) in
            step_cut (step_then first count a)

        go : (e : Stop) → ReadsOf silent s₂ s₃ m₂ m₃ (Err e) (get_variants sub (rest s₂))
            → ReadsOf (content_at b) s s₃ m m₃ (Err e) (get_expression sub (rest s))
        go (Error x) v =
            let l = lost (get_variants sub (rest s₂)) v.did refl in
            record {
              frame = frame-then frame v.frame;
              did =
                  did-lost (content_at b)
                  (record {
                    fault = up_fault k l.fault;
                    k = k + l.k;
                    is = bad-is sub (rest s) (whole-bad l.is);
                    moved = l.moved ∙ ap (λ (i : ℕ). up_fault i l.fault) place ∙ sym (fault-up s.ptr k l.fault);
                    place = omega (arith, place, l.place);
                  }) (cut v);
            }
        go TooDeep v =
            let l = far (get_variants sub (rest s₂)) v.did refl in
            record {
              frame = frame-then frame v.frame;
              did =
                  did-far (content_at b)
                  (record { k = k + l.k; is = deep-is sub (rest s) (whole-deep l.is); place = omega (arith, place, l.place) })
                  (cut v);
            }
