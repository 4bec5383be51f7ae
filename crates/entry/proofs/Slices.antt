-- A text of a pattern, by its length and by what ends it.
use Rattle.std.specs.Prelude.{◌≡◌, ℕ, suc, ◌+◌, ◌-◌, ◌≤◌, Bool, true, false, ◌&&◌, eqb, ltb, List, [], ◌∷◌, length, get_or, take, drop, Option, Some, None, Ok, Err}
use Rattle.std.specs.List.{list_all}
use Rattle.std.specs.Option.{is_some, IfSome}
use denote.Ref.{Bor}
use mathlib.Core.Path.{refl, sym, ap, ◌∙◌}
use native.Mathlib.Nat.{add-zero}
use native.Mathlib.Omega.{arith}
use lib.ListN.{length-take, drop_of_length-le}
use lib.Seq.{drop-cons, take_all}
use borrow.Author.Tests.{ne_eqb, lt-ltb}
use Rattle.memchr.specs.Find.{Passes, Nowhere, NoneBefore, is_byte3}
use Rattle.syntax.specs.Byte as Byte
use Rattle.syntax.specs.Bytes.{starts_with, run, all}
use Rattle.syntax.specs.Pattern.{is_text_byte, is_blank, ends_in_cr, line_slice, slice_by, get_text_slice}
use Rattle.laws.specs.Bytes.{by_case, clash}
use Rattle.entry.specs.Slice.{Sliced, slice_as}
use Rattle.entry.specs.declared.text.TextElementTermination.TheVariants.{LineFeed, Crlf, PlaceableStart, Eof}
use Rattle.entry.specs.declared.text.TextSlice.{TextSlice}
use Rattle.entry.proofs.Tests.{Got, test-got, test-with}
use Rattle.entry.proofs.Run.{run_until}

-- the bytes that end a text
abbrev ends_text : ℕ → Bool
ends_text b = is_byte3 Byte.line_feed Byte.open_brace Byte.close_brace b

text-byte : (b : ℕ) → (ends_text b ≡ true → ⊥) → is_text_byte b ≡ true
unfolding is_text_byte
text-byte b h =
    by_case (eqb b Byte.line_feed) (λ e. absurd (h (rw e refl))) (λ e.
    by_case (eqb b Byte.open_brace) (λ f. absurd (h (rw (e, f) refl))) (λ f.
    by_case (eqb b Byte.close_brace) (λ g. absurd (h (rw (e, f, g) refl))) (λ g. rw (e, f, g) refl)))

end-byte : (b : ℕ) → ends_text b ≡ true → is_text_byte b ≡ false
unfolding is_text_byte
end-byte b h =
    by_case (eqb b Byte.line_feed) (λ e. rw e refl) (λ e.
    by_case (eqb b Byte.open_brace) (λ f. rw (e, f) refl) (λ f.
    by_case (eqb b Byte.close_brace) (λ g. rw (e, f, g) refl) (λ g. clash h (rw (e, f, g) refl))))

-- the text that a rest starts with
record Text (x : List ℕ) (n : ℕ) : Type 0 where
  ends : run is_text_byte x ≡ n
  inside : n ≤ length x

text-whole : {x : List ℕ} → Nowhere (Passes ends_text x) 0 (length x) → Text x (length x)
text-whole {x} h = record {
  ends = run_until is_text_byte x (length x) (omega arith) (λ j m. text-byte _ (h j (omega arith) m)) (λ m. absurd (omega (arith, m)));
  inside = omega arith;
}

text-found : {x : List ℕ} {n : ℕ} → NoneBefore (Passes ends_text x) 0 (length x) n → Passes ends_text x n → Text x n
text-found {x} {n} h e = let l = h.high in record {
  ends = run_until is_text_byte x n (omega arith) (λ j m. text-byte _ (h.before j (omega arith) m)) (λ m. end-byte _ e);
  inside = omega arith;
}

abbrev blank : List ℕ → Bool
blank t = list_all (λ b. eqb b Byte.space) t

is-blank : (t : List ℕ) → is_blank t ≡ blank t
unfolding is_blank all
is-blank [] = refl
is-blank (b ∷ t) = ap (λ (r : Bool). eqb b Byte.space && r) (is-blank t)

-- a carriage return at the end
ends-last : (t : List ℕ) → ends_in_cr t ≡ starts_with Byte.carriage_return (drop (length t - 1) t)
unfolding ends_in_cr starts_with
ends-last [] = refl
ends-last (a ∷ []) = refl
ends-last (a ∷ b ∷ t) =
    let e : length (a ∷ b ∷ t) - 1 ≡ suc (length (b ∷ t) - 1) = omega arith in
    rw e (ends-last (b ∷ t))

pub ends-got : (t : List ℕ) (o : Option (Bor ℕ)) {r : Bool} → is_some o ≡ ltb 0 (length t)
    → IfSome o (λ x. x.now ≡ get_or t (length t - 1) x.now)
    → r ≡ elim o [ None ↦ false | Some x ↦ eqb x.now Byte.carriage_return ] → r ≡ ends_in_cr t
ends-got t o i b e = let g : Got t (length t - 1) o = record { some = i ∙ last t; byte = b } in (test-with Byte.carriage_return (test-got (λ y. eqb y Byte.carriage_return) o g e)).is ∙ sym (ends-last t)
  where
    last : (t : List ℕ) → ltb 0 (length t) ≡ ltb (length t - 1) (length t)
    last [] = refl
    last (b ∷ t) = lt-ltb 0 (suc (length t)) (omega arith) ∙ sym (lt-ltb (suc (length t) - 1) (suc (length t)) (omega arith))

cr-some : (t : List ℕ) → ends_in_cr t ≡ true → 1 ≤ length t
unfolding ends_in_cr
cr-some [] h = clash h refl
cr-some (b ∷ t) h = omega arith

pub slice-eof : {x : List ℕ} {r : TextSlice} → Nowhere (Passes ends_text x) 0 (length x) → r ≡ slice_as (length x) (blank x) Eof → Sliced x (Ok r)
unfolding get_text_slice slice_by
slice-eof {x} h e =
    let w = text-whole h in
    let l : length x ≤ length x = omega arith in
    rw e (record {
      answers = rw (w.ends, drop_of_length-le x l, take_all (length x) x l, is-blank, add-zero) refl;
      within = omega arith;
    })

module _ (x : List ℕ) (n : ℕ) (h : NoneBefore (Passes ends_text x) 0 (length x) n) (p : Passes ends_text x n) where
  long : length (take n x) ≡ n
  long = let l = h.high in length-take n x ∙ omega arith

  text-by : get_text_slice x ≡ slice_by (take n x) (get_or x n 0 ∷ drop (suc n) x)
  unfolding get_text_slice
  text-by = let w = text-found h p in rw (w.ends, drop-cons x n 0 h.high) refl

  pub slice-closing : get_or x n 0 ≡ Byte.close_brace → Sliced x (Err n)
  unfolding slice_by
  slice-closing e = let l = h.high in record { answers = text-by ∙ rw (e, long) refl; within = omega arith }

  module _ (r : TextSlice) where
    pub slice-opening : get_or x n 0 ≡ Byte.open_brace → r ≡ slice_as n (blank (take n x)) PlaceableStart → Sliced x (Ok r)
    unfolding slice_by
    slice-opening e q = let l = h.high in
        rw q (record { answers = text-by ∙ rw (e, long, is-blank, add-zero) refl; within = omega arith })

    module _ (f : get_or x n 0 ≡ Byte.close_brace → ⊥) (g : get_or x n 0 ≡ Byte.open_brace → ⊥) where
      text-line : get_text_slice x ≡ line_slice (take n x)
      unfolding slice_by
      text-line = text-by ∙ rw (ne_eqb (get_or x n 0) Byte.close_brace f, ne_eqb (get_or x n 0) Byte.open_brace g, slice_by)

      pub slice-crlf : true ≡ ends_in_cr (take n x) → r ≡ slice_as (n - 1) (blank (take (n - 1) (take n x))) Crlf → Sliced x (Ok r)
      unfolding line_slice
      slice-crlf e q =
          let l = h.high in
          let c = cr-some (take n x) (sym e) in
          let z : n - 1 + 1 ≡ n = omega (arith, long) in
          rw q (record { answers = text-line ∙ rw (← e, line_slice, long, is-blank, z); within = omega (arith, z) })

      pub slice-feed : false ≡ ends_in_cr (take n x) → r ≡ slice_as (n + 1) (blank (take n x)) LineFeed → Sliced x (Ok r)
      unfolding line_slice
      slice-feed e q = let l = h.high in
          rw q (record { answers = text-line ∙ rw (← e, line_slice, long, is-blank, add-zero); within = omega arith })
