-- A reading without junk has no errors: each error comes with a junk.
use Rattle.std.specs.Prelude.{ℕ, zero, suc, ◌+◌, ◌≡◌, refl, ◌&&◌, List, [], ◌∷◌, ◌++◌, map, length, drop, ltb}
use Rattle.std.proofs.Common.{arith, sym, ap, ◌∙◌, subst}
use Rattle.syntax.specs.Kind as Kind
use Rattle.syntax.specs.Marks.{Mark, kind_of, move_up, node, text_node}
use Rattle.syntax.specs.Reader.{Out, ok, bad, deep}
use Rattle.syntax.specs.Helper.{skip_blank_block}
use Rattle.syntax.specs.Pattern.{Inside, used_by}
use Rattle.syntax.specs.Expression.{level}
use Rattle.syntax.specs.Core.{Entry, get_entry, junk_end, Error, up_error, Reading, read, refused, following, is_named}
use Rattle.syntax.specs.Core.{count, kind_of_entry, entries, parse}
use Rattle.laws.specs.Bytes.{clash}
use Rattle.laws.specs.Moving.{map-append}
use Rattle.laws.specs.Entries.{following-read}
use Rattle.cut.specs.Claim.{Without}
use Rattle.cut.specs.Words.{kinds-up}

without-right : (x : ℕ) (ks js : List ℕ) → Without x (ks ++ js) → Without x js
without-right x [] js w = w
without-right x (k ∷ ks) js w = without-right x ks js w.1

-- what follows marks and k bytes
rest-without : (ms : List Mark) (k : ℕ) (ns : List Mark) → Without Kind.junk (map kind_of (ms ++ move_up k ns))
    → Without Kind.junk (map kind_of ns)
rest-without ms k ns w =
    subst (Without Kind.junk) (kinds-up k ns)
    (without-right Kind.junk (map kind_of ms) (map kind_of (move_up k ns)) (subst (Without Kind.junk) (map-append kind_of ms (move_up k ns)) w))

no-errors : (k : ℕ) (es fs : List Error) → es ≡ [] → map (up_error k) es ≡ fs → fs ≡ []
no-errors k es fs e h = sym h ∙ ap (map (up_error k)) e

clean-entries : (n : ℕ) (sub : Inside) (s : List ℕ) (ms : List Mark) (es : List Error) → entries n sub s ≡ read ms es
    → Without Kind.junk (map kind_of ms) → es ≡ []
unfolding entries following text_node
clean-entries zero sub s ms es h w = let z : ◌≡◌ {A = ℕ} 0 1 = cc in absurd (omega arith)
clean-entries (suc n) sub [] ms es h w = cc
clean-entries (suc n) sub (b ∷ bs) ms es h w = go (get_entry sub (b ∷ bs)) (λ r ns fs. clean-entries n sub r ns fs) h
  where
    body : Out Entry → Reading
    body o = elim o [
      | ok e ns k ↦
          let gap = skip_blank_block (drop k (b ∷ bs)) in
          let rest = drop (k + used_by gap) (b ∷ bs) in
          following (node (kind_of_entry e (ltb (count gap) 2 && is_named (get_entry sub rest))) ns) [] (k + used_by gap) (entries n sub rest)
      | bad f k ↦
          let j = junk_end k (b ∷ bs) in
          let gap = skip_blank_block (drop j (b ∷ bs)) in
          following (text_node Kind.junk 0 j) (record { fault = f; junk_from = 0; junk_till = j } ∷ []) (j + used_by gap)
          (entries n sub (drop (j + used_by gap) (b ∷ bs)))
      | deep k ↦ refused k
    ]

    junk : (k : ℕ) (ns : List Mark) → ms ≡ text_node Kind.junk 0 k ++ ns → es ≡ []
    junk k ns e = clash refl (subst (λ l. Without Kind.junk (map kind_of l)) e w).0

    after-junk : (k j : ℕ) (f : Error) (r : Reading) → following (text_node Kind.junk 0 j) (f ∷ []) k r ≡ read ms es → es ≡ []
    after-junk k j f (read ns fs) e = junk j (move_up k ns) cc
    after-junk k j f (refused i) e = let z : ◌≡◌ {A = ℕ} 0 1 = cc in absurd (omega arith)

    go : (o : Out Entry)
        → ((r : List ℕ) (ns : List Mark) (fs : List Error) → entries n sub r ≡ read ns fs
        → Without Kind.junk (map kind_of ns) → fs ≡ [])
        → body o ≡ read ms es → es ≡ []
    go (ok e ns k) f g =
        let gap = skip_blank_block (drop k (b ∷ bs)) in
        let rest = drop (k + used_by gap) (b ∷ bs) in
        let own = node (kind_of_entry e (ltb (count gap) 2 && is_named (get_entry sub rest))) ns in
        let (mr, er, r, m, x) = following-read own (k + used_by gap) (entries n sub rest) ms es g in
        no-errors (k + used_by gap) er es
        (f rest mr er r
        (rest-without own (k + used_by gap) mr (subst (λ l. Without Kind.junk (map kind_of l)) (sym m) w))) x
    go (bad f k) r g =
        let j = junk_end k (b ∷ bs) in
        let gap = skip_blank_block (drop j (b ∷ bs)) in
        after-junk (j + used_by gap) j (record { fault = f; junk_from = 0; junk_till = j }) (entries n sub (drop (j + used_by gap) (b ∷ bs))) g
    go (deep k) r g = let z : ◌≡◌ {A = ℕ} 0 1 = cc in absurd (omega arith)

pub clean : (n : ℕ) (s : List ℕ) (ms : List Mark) (es : List Error) → parse n s ≡ read ms es → Without Kind.junk (map kind_of ms) → es ≡ []
unfolding parse
clean n s ms es h w =
    let k = used_by (skip_blank_block s) in
    let (mr, er, r, m, x) = following-read [] k (entries (suc (length s)) (level n) (drop k s)) ms es h in
    no-errors k er es
    (clean-entries (suc (length s)) (level n) (drop k s) mr er r
    (rest-without [] k mr (subst (λ l. Without Kind.junk (map kind_of l)) (sym m) w))) x
