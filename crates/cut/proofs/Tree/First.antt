-- The first entry of a part, as it is read and by its part's tree: it joins a comment line by the one exactly if it does by the other.
use Rattle.std.specs.Prelude.{ℕ, zero, suc, ◌+◌, ◌≤◌, ◌<◌, ◌⊎◌, Bool, true, false, drop}
use native.Mathlib.Omega.{arith}
use Rattle.std.proofs.Math.Path.{◌≡◌, refl, sym, ap, subst}
use Rattle.std.proofs.Common.{◌∙◌, inl, inr, eqb-true, ne_eqb}
use mathlib.Core.List.{List, [], ◌∷◌, map}
use Rattle.std.proofs.Math.ListN.{length, length-drop}
use Rattle.std.proofs.Math.Dec.{eqb}
use Rattle.syntax.specs.Bytes.{starts_with, eol}
use Rattle.syntax.specs.Marks.{Mark, kind_of, node, text_node}
use Rattle.syntax.specs.declared.errors.ErrorKind.TheVariants as Errors
use Rattle.syntax.specs.declared.errors.ParserError.{ParserError}
use Rattle.syntax.specs.Reader.{Out, ok, bad, done, after, fail, loop, repeat}
use Rattle.syntax.specs.Comment.{level_of, get_comment, comment_turn, line_turn}
use Rattle.syntax.specs.Pattern.{Inside}
use Rattle.syntax.specs.Expression.{level}
use Rattle.syntax.specs.Core.{Entry, comment, message, term, get_entry, Error, read, kind_of_entry, entries}
use Rattle.laws.specs.Bytes.{by_case, clash, run-le}
use Rattle.laws.specs.Answers.{Holds}
use Rattle.laws.specs.Bounds.Comment.{level_of-some}
use Rattle.laws.specs.Bounds.Expression.{level-bounds}
use Rattle.laws.specs.Stable.Comment.{level-run}
use Rattle.laws.specs.Lines.Join.{Levelled, levelled}
use Rattle.laws.specs.File.{small_of, near, entry, junk, Passed, none, more, entries-read}
use Rattle.laws.specs.Entries.{entry-comment, nil-entry}
use Rattle.cut.specs.Claim as Claim
use Rattle.cut.specs.Claim.{first_entry, hashes, is_named, is_comment}
use Rattle.cut.proofs.Tree.Join.{Joins, as_comment-ok, named-entry}

-- ---- a comment's level is the number of '#' that it starts with

-- a fourth '#' is an error
fourth-hash : (l c : ℕ) (cs : List ℕ) → c ≡ 35 → (f : ParserError) × (k : ℕ) × (line_turn 0 l (c ∷ cs) ≡ done (bad f k))
unfolding line_turn eol starts_with after fail
fourth-hash l c cs e = (record { start = l + 0; end = l + 1; kind = Errors.ExpectedToken 32 }, l + 0, rw e refl)

module _ (s : List ℕ) (hash : starts_with 35 s ≡ true) where
  first-turn : comment_turn 0 s ≡ line_turn 0 (level_of s) (drop (level_of s) s)
  unfolding comment_turn
  first-turn = rw (ne_eqb (level_of s) 0 (λ e. omega (arith, level_of-some s hash)), comment_turn) refl

  line-level : (r : List ℕ) → drop (level_of s) s ≡ r → (l : ℕ) (ms : List Mark) (k : ℕ) → get_comment s ≡ ok l ms k → hashes s ≡ level_of s
  unfolding hashes get_comment repeat loop level_of
  line-level [] d l ms k e = omega (arith, ap length d, length-drop (level_of s) s, run-le (λ b. eqb b 35) s)
  line-level (c ∷ cs) d l ms k e =
      by_case (eqb c 35) (λ q. absurd (no (fourth-hash (level_of s) c cs (eqb-true c 35 q)))) (λ q. level-run s c cs d q)
    where
      no : (f : ParserError) × (j : ℕ) × (line_turn 0 (level_of s) (c ∷ cs) ≡ done (bad f j)) → ⊥
      no (f, j, t) =
          let u : comment_turn 0 s ≡ done (bad f j) = first-turn ∙ ap (line_turn 0 (level_of s)) d ∙ t in
          let g : bad f j ≡ ok l ms k = rw (u, loop) at e in
          let z : ◌≡◌ {A = ℕ} 0 1 = cc in omega arith

  comment-level : (l : ℕ) (ms : List Mark) (k : ℕ) → get_comment s ≡ ok l ms k → hashes s ≡ l
  unfolding get_comment repeat
  comment-level l ms k e =
      line-level (drop (level_of s) s) refl l ms k e
      ∙ sym ((subst (Holds (Levelled 0 s)) e (levelled (suc (length s)) 0 s)).1 refl (level_of-some s hash))

-- ---- the kind of an entry tells what it is

comment-kind : (l : ℕ) (v : Bool) → 0 < l → l ≤ 3 → (is_comment (kind_of_entry (comment l) v) ≡ true)
    × (is_named (kind_of_entry (comment l) v) ≡ false)
unfolding kind_of_entry is_comment is_named
comment-kind zero v p q = absurd (omega arith)
comment-kind (suc zero) true p q = (refl, refl)
comment-kind (suc zero) false p q = (refl, refl)
comment-kind (suc (suc zero)) v p q = (refl, refl)
comment-kind (suc (suc (suc zero))) v p q = (refl, refl)
comment-kind (suc (suc (suc (suc l)))) v p q = absurd (omega arith)

module _ (sub : Inside) where
  entry-level : (b : ℕ) (bs : List ℕ) (l : ℕ) (ms : List Mark) (k : ℕ) → get_entry sub (b ∷ bs) ≡ ok (comment l) ms k → hashes (b ∷ bs) ≡ l
  unfolding starts_with
  entry-level b bs l ms k e = by_case (eqb b 35)
      (λ q. let (i, c, g) = as_comment-ok (get_comment (b ∷ bs)) (comment l) ms k (sym (entry-comment sub b bs q) ∙ e) in
      comment-level (b ∷ bs) q l ms k (g ∙ ap (λ z. ok z ms k) (same i c)))
      (λ q. absurd (no (named-entry sub b bs (comment l) ms k q e)))
    where
      same : (i : ℕ) → comment l ≡ comment i → i ≡ l
      same i c = cc

      no : (comment l ≡ message) ⊎ (comment l ≡ term) → ⊥
      no (inl z) = let y : ◌≡◌ {A = ℕ} 0 1 = cc in omega arith
      no (inr z) = let y : ◌≡◌ {A = ℕ} 0 1 = cc in omega arith

  -- by the kind k of the first entry, and by the entry as it is read
  abbrev Alike : List ℕ → ℕ → Out Entry → Type 0
  Alike s k o = (l : ℕ) → (Claim.Joins l s k → Joins l o) × (Joins l o → Claim.Joins l s k)

  neither : (s : List ℕ) (k : ℕ) (o : Out Entry) → is_comment k ≡ false → is_named k ≡ false → ((l : ℕ) → Joins l o → ⊥) → Alike s k o
  neither s k o p q n l = (by, λ j. absurd (n l j))
    where
      by : Claim.Joins l s k → Joins l o
      by (Claim.level c e) = clash c p
      by (Claim.named c e) = clash c q

  kind-alike : (b : ℕ) (bs : List ℕ) (e : Entry) (ms : List Mark) (k : ℕ) (v : Bool) → get_entry sub (b ∷ bs) ≡ ok e ms k
      → Alike (b ∷ bs) (kind_of_entry e v) (ok e ms k)
  unfolding Joins kind_of_entry is_comment is_named
  kind-alike b bs message ms k v h l = (by, λ j. Claim.named refl j)
    where
      by : Claim.Joins l (b ∷ bs) 1 → l ≡ 1
      by (Claim.level c e) = clash c refl
      by (Claim.named c e) = e
  kind-alike b bs term ms k v h l = (by, λ j. Claim.named refl j)
    where
      by : Claim.Joins l (b ∷ bs) 2 → l ≡ 1
      by (Claim.level c e) = clash c refl
      by (Claim.named c e) = e
  kind-alike b bs (comment i) ms k v h l = (by, λ j. Claim.level kind.0 (lev ∙ j))
    where
      lev : hashes (b ∷ bs) ≡ i
      lev = entry-level b bs i ms k h

      kind : (is_comment (kind_of_entry (comment i) v) ≡ true) × (is_named (kind_of_entry (comment i) v) ≡ false)
      kind = let s = small_of sub (b ∷ bs) h in comment-kind i v s.0 s.1

      by : Claim.Joins l (b ∷ bs) (kind_of_entry (comment i) v) → i ≡ l
      by (Claim.level c e) = sym lev ∙ e
      by (Claim.named c e) = clash c kind.1

  first_alike : {s : List ℕ} {ms : List Mark} {es : List Error} {k : ℕ} → Passed sub s ms es k → length s ≤ k
      → Alike s (first_entry (map kind_of ms)) (get_entry sub s)
  unfolding first_entry node text_node is_comment is_named Joins
  first_alike {s} none z = let (f, k, e) = nil-entry sub in
      subst (λ r. Alike r 0 (get_entry sub r)) (sym (empty s z))
      (neither [] 0 (get_entry sub []) refl refl (λ l j. subst (Joins l) e j))
    where
      empty : (r : List ℕ) → length r ≤ 0 → r ≡ []
      empty [] h = refl
      empty (c ∷ cs) h = absurd (omega arith)
  first_alike (more {b} {bs} (entry {e} {ms} {k} h) p) z =
      subst (Alike (b ∷ bs) (kind_of_entry e (near sub (b ∷ bs) k))) (sym h)
      (kind-alike b bs e ms k (near sub (b ∷ bs) k) h)
  first_alike (more {b} {bs} (junk {f} {k} h) p) z = neither (b ∷ bs) 7 (get_entry sub (b ∷ bs)) refl refl (λ l j. subst (Joins l) h j)

module _ (n : ℕ) (s : List ℕ) (ms : List Mark) (es : List Error) (reads : entries (suc (length s)) (level n) s ≡ read ms es) (l : ℕ) where
  alike : (Claim.Joins l s (first_entry (map kind_of ms)) → Joins l (get_entry (level n) s))
      × (Joins l (get_entry (level n) s) → Claim.Joins l s (first_entry (map kind_of ms)))
  alike = first_alike (level n) (entries-read (level-bounds n) (suc (length s)) s (omega arith) reads) (omega arith) l

  pub joins-entry : Claim.Joins l s (first_entry (map kind_of ms)) → Joins l (get_entry (level n) s)
  joins-entry = alike.0

  pub entry-joins : Joins l (get_entry (level n) s) → Claim.Joins l s (first_entry (map kind_of ms))
  entry-joins = alike.1
