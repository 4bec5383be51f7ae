-- What follows an inline expression, and the end of a placeable.
use Rattle.std.specs.Prelude.{◌≡◌, ℕ, ◌+◌, ◌-◌, ◌≤◌, Bool, true, false, ◌&&◌, eqb, Result, Ok, Err, List, [], ◌∷◌, length, take, drop}
use Rattle.std.specs.Cmp.Lexicographic.{pointwise}
use mathlib.Core.Path.{refl, sym, ap, ◌∙◌}
use mathlib.Core.Bool.{and-true}
use native.Mathlib.Omega.{arith}
use Rattle.syntax.specs.Byte as Byte
use borrow.Author.Tests.{eq-eqb, eqb-true, ne_eqb}
use lib.ListN.{length-drop}
use lib.Seq.{take_all}
use Rattle.syntax.specs.Bytes.{starts_with, starts, second}
use Rattle.syntax.specs.declared.errors.CharRange.TheVariants.{LineEnd}
use Rattle.syntax.specs.declared.errors.ErrorKind.TheVariants.{TermAttributeAsPlaceable, ExpectedCharRange}
use Rattle.syntax.specs.declared.errors.ErrorKind.TheVariants.{MessageAttributeAsSelector, MessageReferenceAsSelector}
use Rattle.syntax.specs.declared.errors.ErrorKind.TheVariants.{TermReferenceAsSelector, ExpectedSimpleExpressionAsSelector}
use Rattle.syntax.specs.Errors.{fault_at}
use Rattle.syntax.specs.Reader.{Reader, ◌>>=◌, ◌>>◌, pure, fail}
use Rattle.syntax.specs.Helper.{skip_blank, skip_blank_inline, skip_eol}
use Rattle.syntax.specs.Pattern.{Inside}
use Rattle.syntax.specs.Expression.{Inline, string, number, variable, function, inner, message, term, selector, alone, needs_line_end}
use Rattle.syntax.specs.Expression.{Expression as Content, inline, select, is_term_attribute, no_term_attribute}
use Rattle.syntax.specs.Expression.{after_inline, select_from, get_variants}
use Rattle.laws.specs.Bytes.{by_case, clash}
use Rattle.entry.specs.declared.errors.Stop.{Stop}
use Rattle.entry.specs.declared.errors.Stop.TheVariants.{Error, TooDeep}
use Rattle.entry.specs.declared.source.Source.{Source}
use Rattle.entry.specs.declared.expression.Expression.{Expression}
use Rattle.entry.specs.declared.expression.Expression.TheVariants.{StringLiteral, NumberLiteral}
use Rattle.entry.specs.declared.expression.Expression.TheVariants.{VariableReference, FunctionReference}
use Rattle.entry.specs.declared.expression.Expression.TheVariants.{MessageReference, TermReference, Placeable}
use Rattle.entry.specs.declared.expression.Expression.TheVariants.{Select}
use Rattle.entry.specs.Reads.{rest, Goes, Finds}
use Rattle.entry.specs.Shape.{shape_at, content_at, selector_at, is_attribute_of_term, refused_if, followed_by, Followed, Fails}
use Rattle.entry.proofs.Tests.{both, starts-with, second-next}
use Rattle.entry.proofs.Moves.{stop-then}
use Rattle.entry.proofs.Sources.{goes-both, goes-pure, finds-ok, fails-here, finds-fails, finds-goes}
use Rattle.entry.proofs.Sources.{Leads, leads-here, leads-then, leads-bind, leads-byte, leads-trans, fails-after}

-- ---- a term's attribute
pub attribute-same : (b : ℕ) (c : Content) → is_attribute_of_term (content_at b c) ≡ is_term_attribute c
unfolding is_term_attribute
attribute-same b (inline string) = refl
attribute-same b (inline number) = refl
attribute-same b (inline variable) = refl
attribute-same b (inline function) = refl
attribute-same b (inline inner) = refl
attribute-same b (inline (message n a)) = refl
attribute-same b (inline (term a)) = refl
attribute-same b select = refl

pub attribute-finds : (s : Source) (v : Bool) → Finds s s (no_term_attribute v (rest s)) (refused_if v s.ptr TermAttributeAsPlaceable)
unfolding no_term_attribute
attribute-finds s true = fails-here s TermAttributeAsPlaceable refl
attribute-finds s false = finds-ok s tt

-- ---- selectors
pub selector-finds : (s : Source) (b : ℕ) (i : Inline) → Finds s s (selector i (rest s)) (selector_at s.ptr (shape_at b i))
unfolding selector
selector-finds s b string = finds-ok s tt
selector-finds s b number = finds-ok s tt
selector-finds s b variable = finds-ok s tt
selector-finds s b function = finds-ok s tt
selector-finds s b inner = fails-here s ExpectedSimpleExpressionAsSelector refl
selector-finds s b (message n true) = fails-here s MessageAttributeAsSelector refl
selector-finds s b (message n false) = fails-here s MessageReferenceAsSelector refl
selector-finds s b (term true) = finds-ok s tt
selector-finds s b (term false) = fails-here s TermReferenceAsSelector refl

selector-shallow : (at : ℕ) (x : Expression) → selector_at at x ≡ Err TooDeep → ⊥
selector-shallow at StringLiteral h = let z : ◌≡◌ {A = ℕ} 0 1 = cc in omega arith
selector-shallow at NumberLiteral h = let z : ◌≡◌ {A = ℕ} 0 1 = cc in omega arith
selector-shallow at VariableReference h = let z : ◌≡◌ {A = ℕ} 0 1 = cc in omega arith
selector-shallow at FunctionReference h = let z : ◌≡◌ {A = ℕ} 0 1 = cc in omega arith
selector-shallow at (MessageReference e true) h = let z : ◌≡◌ {A = ℕ} 0 1 = cc in omega arith
selector-shallow at (MessageReference e false) h = let z : ◌≡◌ {A = ℕ} 0 1 = cc in omega arith
selector-shallow at (TermReference true) h = let z : ◌≡◌ {A = ℕ} 0 1 = cc in omega arith
selector-shallow at (TermReference false) h = let z : ◌≡◌ {A = ℕ} 0 1 = cc in omega arith
selector-shallow at Placeable h = let z : ◌≡◌ {A = ℕ} 0 1 = cc in omega arith
selector-shallow at Select h = let z : ◌≡◌ {A = ℕ} 0 1 = cc in omega arith

-- ---- the arrow
abbrev pub is_arrow : List ℕ → Bool
is_arrow x = starts_with Byte.minus x && second (λ b. eqb b Byte.greater) x

greater_next : (s : List ℕ) (i : ℕ) → second (λ b. eqb b Byte.greater) (drop i s) ≡ starts_with Byte.greater (drop (i + 1) s)
greater_next s i = second-next (λ b. eqb b Byte.greater) s i ∙ sym (starts-with Byte.greater (drop (i + 1) s))

eqb-swap : (a b : ℕ) → eqb a b ≡ eqb b a
eqb-swap a b = by_case (eqb a b) (λ p. p ∙ sym (eq-eqb b a (sym (eqb-true a b p))))
    (λ p. p ∙ sym (ne_eqb b a (λ e. clash (eq-eqb a b (sym e)) p)))

-- the code's test, of a slice's end
pub arrow-tested : (s : Source) {r : Bool} → r ≡ pointwise eqb (45 ∷ 62 ∷ []) (take 2 (take (length s.bytes.now - s.ptr) (rest s)))
    → r ≡ is_arrow (rest s)
unfolding starts_with second starts
arrow-tested s {r} h =
    let d : length (rest s) ≡ length s.bytes.now - s.ptr = length-drop s.ptr s.bytes.now in
    let q : length (rest s) ≤ length s.bytes.now - s.ptr = omega arith in
    h ∙ ap (λ (x : List ℕ). pointwise eqb (45 ∷ 62 ∷ []) (take 2 x)) (take_all (length s.bytes.now - s.ptr) (rest s) q) ∙ go (rest s)
  where
    go : (x : List ℕ) → pointwise eqb (45 ∷ 62 ∷ []) (take 2 x) ≡ is_arrow x
    go [] = refl
    go (a ∷ []) = rw (eqb-swap 45 a) refl
    go (a ∷ b ∷ x) = rw (eqb-swap 45 a, eqb-swap 62 b) (ap (λ (t : Bool). eqb a 45 && t) (and-true (eqb b 62)))

module _ {s s₁ : Source} (x : Expression) (w : Goes s s₁ (skip_blank (rest s)) tt) where
  -- ---- alone
  module _ (h : is_arrow (rest s₁) ≡ false) where
    there : (sub : Inside) (b : ℕ) (i : Inline) → x ≡ shape_at b i
        → after_inline sub i (rest s₁) ≡ (no_term_attribute (is_attribute_of_term x) >> pure (inline i)) (rest s₁)
    unfolding after_inline alone
    there sub b i q =
        let v : is_attribute_of_term x ≡ is_term_attribute (inline i) = ap is_attribute_of_term q ∙ attribute-same b (inline i) in
        rw (h, after_inline, v)

    pub followed-alone : {r : Result (Unit {0}) Stop} {u : Unit {0}} → r ≡ refused_if (is_attribute_of_term x) s₁.ptr TermAttributeAsPlaceable
        → r ≡ Ok u → Followed s s₁ x (Ok false)
    unfolding followed_by
    followed-alone {r} {u} e f =
        record {
          bytes = w.bytes;
          is =
              λ sub b i q.
              let d : Finds s₁ s₁ (no_term_attribute (is_attribute_of_term x) (rest s₁)) (Ok u) =
              rw (sym e ∙ f) at (attribute-finds s₁ (is_attribute_of_term x)) in
              let a : Goes s₁ s₁ (after_inline sub i (rest s₁)) (inline i) =
              rw (there sub b i q)
              (goes-both (no_term_attribute (is_attribute_of_term x)) (pure (inline i)) (finds-goes d) (goes-pure s₁ (inline i))) in
              let z : Goes s s₁ (followed_by sub i (rest s)) (inline i) = goes-both skip_blank (after_inline sub i) w a in
              z.went;
        }

    pub followed-attribute : {r : Result (Unit {0}) Stop} {e : Stop} → r ≡ refused_if (is_attribute_of_term x) s₁.ptr TermAttributeAsPlaceable
        → r ≡ Err e → Followed s s₁ x (Err e)
    unfolding followed_by
    followed-attribute {r} {e} p f =
        let d : Finds s₁ s₁ (no_term_attribute (is_attribute_of_term x) (rest s₁)) (Err e) =
        rw (sym p ∙ f) at (attribute-finds s₁ (is_attribute_of_term x)) in
        go e d
      where
        go : (e : Stop) → Finds s₁ s₁ (no_term_attribute (is_attribute_of_term x) (rest s₁)) (Err e) → Followed s s₁ x (Err e)
        go (Error g) d =
            record {
              bytes = w.bytes;
              is =
                  λ sub b i q.
                  let z : Fails s₁.ptr g s₁.ptr (after_inline sub i (rest s₁)) =
                  rw (there sub b i q) (finds-fails (stop-then (no_term_attribute (is_attribute_of_term x)) (pure (inline i)) d)) in
                  fails-after (leads-then skip_blank (after_inline sub i) w (leads-here s₁.ptr (after_inline sub i (rest s₁)))) z;
            }
        go TooDeep d = absurd (d.shallow refl)

  -- ---- a select
  module _ (h : is_arrow (rest s₁) ≡ true) where
    chosen : (sub : Inside) (i : Inline) → after_inline sub i (rest s₁) ≡ select_from sub i (rest s₁)
    unfolding after_inline
    chosen sub i = rw (h, after_inline)

    pub followed-selector : {c : Result (Unit {0}) Stop} {e : Stop} → c ≡ selector_at s₁.ptr x → c ≡ Err e → Followed s s₁ x (Err e)
    unfolding followed_by select_from
    followed-selector {c} {e} p f = go e (sym p ∙ f)
      where
        go : (e : Stop) → selector_at s₁.ptr x ≡ Err e → Followed s s₁ x (Err e)
        go (Error g) h =
            record {
              bytes = w.bytes;
              is =
                  λ sub b i q.
                  let d : Finds s₁ s₁ (selector i (rest s₁)) (Err (Error g)) =
                  rw (ap (selector_at s₁.ptr) (sym q) ∙ h) at (selector-finds s₁ b i) in
                  let z : Fails s₁.ptr g s₁.ptr (after_inline sub i (rest s₁)) =
                  rw (chosen sub i) (finds-fails (stop-then (selector i) _ d)) in
                  fails-after (leads-then skip_blank (after_inline sub i) w (leads-here s₁.ptr (after_inline sub i (rest s₁)))) z;
            }
        go TooDeep h = absurd (selector-shallow s₁.ptr x h)

    -- from the end of the line on
    line_end : Inside → Reader Content
    line_end sub = do
      end ← skip_eol
      needs_line_end end
      skip_blank
      get_variants sub
      pure select

    module _ {c : Result (Unit {0}) Stop} {u : Unit {0}} {s₂ s₃ : Source} {n : ℕ} (p : c ≡ selector_at s₁.ptr x) (f : c ≡ Ok u)
        (sb : s₂.bytes ≡ s₁.bytes) (sp : s₂.ptr ≡ s₁.ptr + 2) (g : Goes s₂ s₃ (skip_blank_inline (rest s₂)) n) where
      opened : (sub : Inside) (b : ℕ) (i : Inline) → x ≡ shape_at b i
          → Leads s.ptr s₃.ptr (followed_by sub i (rest s)) (line_end sub (rest s₃))
      unfolding followed_by select_from line_end
      opened sub b i q =
          let d : Finds s₁ s₁ (selector i (rest s₁)) (Ok u) = rw (ap (selector_at s₁.ptr) (sym q) ∙ sym p ∙ f) at (selector-finds s₁ b i) in
          let blank : Leads s₂.ptr s₃.ptr ((skip_blank_inline >> line_end sub) (rest s₂)) (line_end sub (rest s₃)) =
          leads-then skip_blank_inline (line_end sub) g (leads-here s₃.ptr _) in
          let two : s₂.ptr ≡ s₁.ptr + 1 + 1 = omega (arith, sp) in
          let next : Leads (s₁.ptr + 1 + 1) s₃.ptr ((skip_blank_inline >> line_end sub) (drop (s₁.ptr + 1 + 1) s₁.bytes.now)) (line_end sub (rest s₃)) =
          rw (two, sb) at blank in
          let t = both _ _ h in
          let greater : starts_with Byte.greater (drop (s₁.ptr + 1) s₁.bytes.now) ≡ true = sym (greater_next s₁.bytes.now s₁.ptr) ∙ t.1 in
          leads-then skip_blank (after_inline sub i) w
          (rw (chosen sub i)
          (leads-then (selector i) _ (finds-goes d)
          (leads-byte s₁.bytes.now s₁.ptr Byte.minus _ t.0 (leads-byte s₁.bytes.now (s₁.ptr + 1) Byte.greater _ greater next))))

      pub followed-unended : {s₄ : Source} → Goes s₃ s₄ (skip_eol (rest s₃)) false → Followed s s₄ x (Err (Error (fault_at (ExpectedCharRange LineEnd) s₄.ptr)))
      unfolding line_end needs_line_end
      followed-unended {s₄} e =
          record {
            bytes = e.bytes ∙ g.bytes ∙ sb ∙ w.bytes;
            is =
                λ sub b i q. fails-after (opened sub b i q)
                (fails-after (leads-bind skip_eol _ e (leads-here s₄.ptr _))
                (finds-fails (stop-then (fail (ExpectedCharRange LineEnd)) _ (fails-here s₄ (ExpectedCharRange LineEnd) refl))));
          }

      pub followed-select : {s₄ s₅ : Source} → Goes s₃ s₄ (skip_eol (rest s₃)) true → Goes s₄ s₅ (skip_blank (rest s₄)) tt
          → Followed s s₅ x (Ok true)
      unfolding line_end needs_line_end
      followed-select {s₄} {s₅} e v =
          record {
            bytes = v.bytes ∙ e.bytes ∙ g.bytes ∙ sb ∙ w.bytes;
            is = (
              omega (arith, v.went.onward, e.went.onward, g.went.onward, sp, w.went.onward),
              λ sub b i q.
                  let z = (get_variants sub >> pure select) (rest s₅) in
                  let l : Leads s₃.ptr s₅.ptr (line_end sub (rest s₃)) z =
                  leads-bind skip_eol _ e
                  (leads-then (pure tt) _ (goes-pure s₄ tt) (leads-then skip_blank _ v (leads-here s₅.ptr z))) in
                  (leads-trans (opened sub b i q) l).is,
            );
          }
