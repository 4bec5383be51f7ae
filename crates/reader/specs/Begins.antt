-- What an entry begins with, at the byte where it starts (`entry-begins`).
use Rattle.std.specs.Prelude.{ℕ, ◌+◌, ◌≡◌, refl, ◌||◌, List, [], ◌++◌, drop, eqb}
use Rattle.std.proofs.Math.Path.{ap}
use Rattle.std.proofs.Common.{◌∙◌}
use Rattle.std.proofs.Math.Bool.{true, not}
use Rattle.syntax.specs.Byte as Byte
use Rattle.syntax.specs.Kind as Kind
use Rattle.syntax.specs.Bytes.{starts_with, starts, run, is_letter, is_name_part}
use Rattle.syntax.specs.Marks.{Mark, move_up, text_node}
use Rattle.syntax.specs.Reader.{Out, ok, bad, deep, Reader, after, next, ◌>>=◌, ◌>>◌, fail}
use Rattle.syntax.specs.Helper.{expect_byte, get_identifier}
use Rattle.syntax.specs.Comment.{get_comment}
use Rattle.syntax.specs.Pattern.{Inside}
use Rattle.syntax.specs.Core.{Fields, fields, term_fields, Entry, comment, message, term, as_message, as_term, as_comment, get_entry}
use Rattle.laws.specs.Answers.{Holds}
use Rattle.laws.specs.Bytes.{pick}
use Rattle.laws.specs.Moving.{move_up-append}
use Rattle.reader.specs.Tree.{text-up}

-- at its first byte a comment has a '#', a term a '-' before its identifier, and a message its identifier
abbrev pub Begun : Entry → List ℕ → List Mark → Type 0
Begun (comment l) r ms = starts_with Byte.hash r ≡ true
Begun term r ms = (starts_with Byte.minus r ≡ true) × (j : ℕ) × (ns : List Mark) × (ms ≡ text_node Kind.identifier 1 (1 + j) ++ ns)
Begun message r ms = (j : ℕ) × (ns : List Mark) × (ms ≡ text_node Kind.identifier 0 j ++ ns)

Named : {A : Type 0} → A → List Mark → ℕ → Type 0
Named a ms k = (j : ℕ) × (ns : List Mark) × (ms ≡ text_node Kind.identifier 0 j ++ ns)

named-after : {A : Type 0} (j : ℕ) (o : Out A) → Holds Named (after (text_node Kind.identifier 0 j) j o)
unfolding after Named
named-after j (ok a ms k) = (j, move_up j ms, refl)
named-after j (bad f k) = tt
named-after j (deep k) = tt

named : {A : Type 0} (q : ℕ → Reader A) (s : List ℕ) → Holds Named ((get_identifier Kind.identifier >>= q) s)
unfolding ◌>>=◌ next get_identifier fail
named q s =
    pick (λ o. Holds Named (next s q o)) (starts is_letter s) _ _
    (λ _. named-after (run is_name_part s) (q (run is_name_part s) (drop (run is_name_part s) s))) (λ _. tt)

messaged : (s : List ℕ) (f : Fields) (ms : List Mark) (k : ℕ) → Holds Named (ok f ms k)
    → Holds (λ e ms k. Begun e s ms) (as_message (ok f ms k))
unfolding as_message Named
messaged s f ms k h = pick (Holds (λ e ms k. Begun e s ms)) (f.value || not (eqb f.attributes 0)) _ _ (λ _. h) (λ _. tt)

termed : (s : List ℕ) → starts_with Byte.minus s ≡ true → (f : Fields) (ms : List Mark) (k : ℕ) → Holds Named (ok f ms k)
    → Holds (λ e ms k. Begun e s ms) (as_term (after [] 1 (ok f ms k)))
unfolding as_term after Named
termed s q f ms k h =
    let (j, ns, e) = h in
    pick (Holds (λ e ms k. Begun e s ms)) f.value _ _
    (λ _. (
      q,
      j,
      move_up 1 ns,
      ap (move_up 1) e ∙ move_up-append 1 (text_node Kind.identifier 0 j) ns
          ∙ ap (λ r. r ++ move_up 1 ns) (text-up 1 Kind.identifier j),
    ))
    (λ _. tt)

module _ (sub : Inside) where
  fields-named : (s : List ℕ) → Holds Named (fields sub s)
  unfolding fields
  fields-named s = named _ s

  term-reads : (s : List ℕ) → starts_with Byte.minus s ≡ true → term_fields sub s ≡ after [] 1 (fields sub (drop 1 s))
  unfolding term_fields ◌>>◌ next expect_byte
  term-reads s q = rw (q, expect_byte)

  pub entry-begins : (s : List ℕ) → Holds (λ e ms k. Begun e s ms) (get_entry sub s)
  unfolding get_entry
  entry-begins s = pick (Holds (λ e ms k. Begun e s ms)) (starts_with Byte.hash s) _ _ (λ q. of_comment q (get_comment s))
      (λ _. pick (Holds (λ e ms k. Begun e s ms)) (starts_with Byte.minus s) _ _
      (λ q. rw (term-reads s q) (of_term q (fields sub (drop 1 s)) (fields-named (drop 1 s))))
      (λ _. of_message (fields sub s) (fields-named s)))
    where
      of_comment : starts_with Byte.hash s ≡ true → (o : Out ℕ) → Holds (λ e ms k. Begun e s ms) (as_comment o)
      of_comment q (ok l ms k) = unfold as_comment in q
      of_comment q (bad f k) = unfold as_comment in tt
      of_comment q (deep k) = unfold as_comment in tt

      of_message : (o : Out Fields) → Holds Named o → Holds (λ e ms k. Begun e s ms) (as_message o)
      of_message (ok f ms k) h = messaged s f ms k h
      of_message (bad f k) h = unfold as_message in tt
      of_message (deep k) h = unfold as_message in tt

      of_term : starts_with Byte.minus s ≡ true → (o : Out Fields) → Holds Named o → Holds (λ e ms k. Begun e s ms) (as_term (after [] 1 o))
      of_term q (ok f ms k) h = termed s q f ms k h
      of_term q (bad f k) h = unfold as_term after in tt
      of_term q (deep k) h = unfold as_term after in tt
