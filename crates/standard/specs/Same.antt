-- An answer of the reading against an answer of the grammar, and the laws of readers and parsers that are put together
-- in the same way. A reader's `deep`
-- says that a whole file is refused, so that nothing is asked of the grammar there.
use Rattle.std.specs.Prelude.{ℕ, ◌+◌, ◌≡◌, Bool, true, false, List, [], ◌∷◌, ◌++◌, drop}
use Rattle.std.proofs.Common.{arith, add-zero, ap₂, ◌∙◌, subst₂, append-nil, drop-drop}
use Rattle.std.proofs.Math.Path.{refl, sym, ap}
use Rattle.syntax.specs.Byte as Byte
use Rattle.syntax.specs.Kind as Kind
use Rattle.syntax.specs.Bytes.{starts_with}
use Rattle.syntax.specs.Marks.{Mark, plain, up, move_up, node}
use Rattle.syntax.specs.declared.errors.ErrorKind.TheVariants.{ExpectedToken}
use Rattle.syntax.specs.Errors.{fault_at}
use Rattle.syntax.specs.Reader as Reader
use Rattle.syntax.specs.Reader.{Out, ok, bad, deep, Reader, wrap}
use Rattle.syntax.specs.Helper.{skip_blank, skip_blank_inline, expect_byte}
use Rattle.syntax.specs.Pattern as Pattern
use Rattle.syntax.specs.Pattern.{get_pattern}
use Rattle.laws.specs.Bytes.{by_case}
use Rattle.laws.specs.Moving.{map-append, after-after, move_up-twice}
use Rattle.standard.specs.Dialect.{rust}
use Rattle.standard.specs.Peg as Peg
use Rattle.standard.specs.Peg.{Answer, fits, fails, Parser, byte, in-node, ahead, void}
use Rattle.standard.specs.Steps.{move_up-none, Uses, byte_fits, byte-fails, node-fits, node-fails}
use Rattle.standard.specs.Lexical.{line-end, blank?, blank-inline?, blank-block}
use Rattle.standard.specs.Grammar as Grammar
use Rattle.standard.specs.Blank.{behind, skip_blank-is, blank?-is, blank-inline?-is}

-- the same value by f, the same marks, the same place
abbrev pub Same : {A B : Type 0} → (A → B) → Out A → Answer B → Type 0
Same f (ok a ms k) o = o ≡ fits (f a) ms k
Same f (bad e k) o = o ≡ fails
Same f (deep k) o = Unit {0}

-- where the value is nothing
abbrev pub nothing : {A : Type 0} → A → Unit {0}
nothing a = tt

-- a reader and a parser that answer the same
pub record Matches {A B : Type 0} (f : A → B) (p : Reader A) (q : Parser B) : Type 0 where
  pub same : (s : List ℕ) → Same f (p s) (q s)

-- Agreement of what stands in one more "{" or "(". Parsers fail where there is none, and use a byte
pub record Agree (sub₁ : Pattern.Inside) (sub₂ : Grammar.Inside) : Type 0 where
  pub placeables : (s : List ℕ) → Same nothing (wrap Kind.placeable (sub₁.braced s)) (sub₂.inline-placeable s)
  pub arguments : (s : List ℕ) → Same nothing ((Reader.◌>>◌ skip_blank sub₁.parenthesised) s) (sub₂.CallArguments s)
  pub uses-brace : (s : List ℕ) → Uses (sub₂.inline-placeable s)
  pub no-brace : (s : List ℕ) → starts_with Byte.open_brace s ≡ false → sub₂.inline-placeable s ≡ fails
  pub no-parenthesis : (s : List ℕ) → starts_with Byte.open_parenthesis (behind s) ≡ false → sub₂.CallArguments s ≡ fails

-- a pattern with the spaces before it, at a line's end, and the blank lines behind it
unfoldable pub whole-pattern : Grammar.Inside → Parser (Unit {0})
whole-pattern sub = Peg.◌>>◌ blank-inline? (Peg.◌>>◌ (Grammar.Pattern rust sub) (Peg.◌>>◌ (ahead line-end) (void blank-block)))

-- an answer that there is no pattern is a failure
abbrev pub SamePattern : Out Bool → Answer (Unit {0}) → Type 0
SamePattern (ok true ms k) o = o ≡ fits tt ms k
SamePattern (ok false ms k) o = o ≡ fails
SamePattern (bad e k) o = o ≡ fails
SamePattern (deep k) o = Unit {0}

pub record PatternAgrees (sub₁ : Pattern.Inside) (sub₂ : Grammar.Inside) : Type 0 where
  pub pattern : (s : List ℕ) → SamePattern (get_pattern sub₁ s) (whole-pattern sub₂ s)

-- Laws
-- ----------------------------------------------------------------------------------------------------------------------------------------

-- reading on
pub same_after : {A B : Type 0} (f : A → B) (ms : List Mark) (k : ℕ) (o : Out A) (a : Answer B) → Same f o a
    → Same f (Reader.after ms k o) (Peg.after ms k a)
unfolding Reader.after Peg.after
same_after f ms k (ok x ns j) a h = ap (Peg.after ms k) h
same_after f ms k (bad e j) a h = ap (Peg.after ms k) h
same_after f ms k (deep j) a h = tt

module _ {A B C D : Type 0} where
  pub same_next : (f : A → B) (g : C → D) (s : List ℕ) (q : A → Reader C) (q' : B → Parser D) (o : Out A) (a : Answer B)
      → Same f o a → ((x : A) (r : List ℕ) → Same g (q x r) (q' (f x) r)) → Same g (Reader.next s q o) (Peg.next s q' a)
  unfolding Reader.next Peg.next
  same_next f g s q q' (ok x ms k) a h l = rw h (same_after g ms k (q x (drop k s)) (q' (f x) (drop k s)) (l x (drop k s)))
  same_next f g s q q' (bad e k) a h l = rw h refl
  same_next f g s q q' (deep k) a h l = tt

  pub bind : {f : A → B} {g : C → D} {p : Reader A} {p' : Parser B} {q : A → Reader C} (q' : B → Parser D)
      → Matches f p p' → ((x : A) → Matches g (q x) (q' (f x))) → Matches g (Reader.◌>>=◌ p q) (Peg.◌>>=◌ p' q')
  unfolding Reader.◌>>=◌ Peg.◌>>=◌
  bind {f} {g} {p} {p'} {q} q' h l = record { same = λ s. same_next f g s q q' (p s) (p' s) (h.same s) (λ x r. (l x).same r) }

  pub then : {f : A → B} {g : C → D} {p : Reader A} {p' : Parser B} {q : Reader C} {q' : Parser D}
      → Matches f p p' → Matches g q q' → Matches g (Reader.◌>>◌ p q) (Peg.◌>>◌ p' q')
  unfolding Reader.◌>>◌ Peg.◌>>◌
  then {f} {g} {p} {p'} {q} {q'} h l = record { same = λ s. same_next f g s (λ _. q) (λ _. q') (p s) (p' s) (h.same s) (λ x r. l.same r) }

-- readers step by step
module _ {A B : Type 0} where
  pub reads_then : (p : Reader A) (q : Reader B) (s : List ℕ) {a : A} {ms : List Mark} {k : ℕ} → p s ≡ ok a ms k
      → (Reader.◌>>◌ p q) s ≡ Reader.after ms k (q (drop k s))
  unfolding Reader.◌>>◌ Reader.next
  reads_then p q s e = rw (e, Reader.◌>>◌) refl

  pub reads-bind : (p : Reader A) (q : A → Reader B) (s : List ℕ) {a : A} {ms : List Mark} {k : ℕ} → p s ≡ ok a ms k
      → (Reader.◌>>=◌ p q) s ≡ Reader.after ms k (q a (drop k s))
  unfolding Reader.◌>>=◌ Reader.next
  reads-bind p q s e = rw (e, Reader.◌>>=◌) refl

  pub reads-after : (s : List ℕ) (q : A → Reader B) (ms : List Mark) (k : ℕ) (o : Out A)
      → Reader.next s q (Reader.after ms k o) ≡ Reader.after ms k (Reader.next (drop k s) q o)
  unfolding Reader.next Reader.after
  reads-after s q ms k (ok a ns j) = ap (λ r. Reader.after (ms ++ move_up k ns) (k + j) (q a r)) (sym (drop-drop j k s))
      ∙ sym (after-after ms k ns j (q a (drop j (drop k s))))
  reads-after s q ms k (bad e j) = refl
  reads-after s q ms k (deep j) = refl

-- which two of three readers are put together first
pub reads-assoc : {A B C : Type 0} (p : Reader A) (q : Reader B) (w : Reader C) (s : List ℕ)
    → (Reader.◌>>◌ p (Reader.◌>>◌ q w)) s ≡ (Reader.◌>>◌ (Reader.◌>>◌ p q) w) s
unfolding Reader.◌>>◌
reads-assoc {A} p q w s = go (p s)
  where
    go : (o : Out A) → Reader.next s (λ _ r. Reader.next r (λ _. w) (q r)) o ≡ Reader.next s (λ _. w) (Reader.next s (λ _. q) o)
    go (ok a ms k) = unfold Reader.next in (sym (reads-after s (λ _. w) ms k (q (drop k s))))
    go (bad e k) = unfold Reader.next in refl
    go (deep k) = unfold Reader.next in refl

pub reads-skip : {A : Type 0} (ms : List Mark) (k j : ℕ) (o : Out A) → Reader.after ms k (Reader.after [] j o) ≡ Reader.after ms (k + j) o
reads-skip ms k j o = after-after ms k [] j o ∙ ap (λ ns. Reader.after (ms ++ ns) (k + j) o) (move_up-none k)
    ∙ ap (λ ns. Reader.after ns (k + j) o) (append-nil ms)

-- another value
pub ok-pure : {A : Type 0} (x : A) (ms : List Mark) (k : ℕ) → Reader.after ms k (ok x [] 0) ≡ ok x ms k
unfolding Reader.after move_up
ok-pure x ms k = ap₂ (ok x) (append-nil ms) (add-zero k)

pub fits-pure : {A : Type 0} (x : A) (ms : List Mark) (k : ℕ) → Peg.after ms k (fits x [] 0) ≡ fits x ms k
unfolding Peg.after move_up
fits-pure x ms k = ap₂ (fits x) (append-nil ms) (add-zero k)

pub expects : (b : ℕ) (s : List ℕ) → starts_with b s ≡ true → expect_byte b s ≡ ok tt [] 1
unfolding expect_byte
expects b s e = rw (e, expect_byte) refl

pub refuses : (b : ℕ) (s : List ℕ) → starts_with b s ≡ false → expect_byte b s ≡ bad (fault_at (ExpectedToken b) 0) 0
unfolding expect_byte Reader.fail
refuses b s e = rw (e, expect_byte) refl

-- a byte that has to be there
pub same_byte : (b : ℕ) → Matches nothing (expect_byte b) (byte b)
same_byte b =
    record {
      same =
          λ s. by_case (starts_with b s) (λ e. rw (expects b s e) (byte_fits b s e))
          (λ e. rw (refuses b s e) (byte-fails b s e));
    }

-- marks put in a node
pub same-wrap : {A B : Type 0} (f : A → B) (kind : ℕ) (o : Out A) (p : Parser B) (s : List ℕ) → Same f o (p s)
    → Same f (wrap kind o) (in-node kind p s)
unfolding wrap
same-wrap f kind (ok x ms k) p s h = node-fits kind p s h
same-wrap f kind (bad e k) p s h = node-fails kind p s h
same-wrap f kind (deep k) p s h = tt

-- a node k bytes on
pub node-up : (k kind : ℕ) (ms : List Mark) → move_up k (node kind ms) ≡ node kind (move_up k ms)
unfolding node move_up
node-up k kind ms = ap (λ r. plain kind ∷ r) (map-append (up k) ms (plain (Kind.closing kind) ∷ []))

pub wrap-after : {A : Type 0} (k kind : ℕ) (o : Out A) → Reader.after [] k (wrap kind o) ≡ wrap kind (Reader.after [] k o)
unfolding Reader.after wrap
wrap-after k kind (ok x ms j) = ap (λ r. ok x r (k + j)) (node-up k kind ms)
wrap-after k kind (bad e j) = refl
wrap-after k kind (deep j) = refl

-- blanks
pub same-blank : Matches nothing skip_blank blank?
same-blank = record { same = λ s. subst₂ (Same nothing) (sym (skip_blank-is s)) (sym (blank?-is s)) refl }

pub same-blank-inline : Matches nothing skip_blank_inline blank-inline?
unfolding skip_blank_inline
same-blank-inline = record { same = λ s. blank-inline?-is s }

-- reading on from places that the blanks behind them make one
pub same-skip : {A B : Type 0} (f : A → B) (ms : List Mark) (k i j l : ℕ) (o : Out A) (a : Answer B) → k + i ≡ j + l → Same f o a
    → Same f (Reader.after ms k (Reader.after [] i o)) (Peg.after ms j (Peg.after [] l a))
unfolding Reader.after Peg.after
same-skip f ms k i j l (ok x ns n) a e h =
    rw h
    (ap₂ (λ r m. fits (f x) (ms ++ r) m)
    (move_up-twice j l ns ∙ ap (λ m. move_up m ns) (sym e) ∙ sym (move_up-twice k i ns)) (omega arith))
same-skip f ms k i j l (bad d n) a e h = rw h refl
same-skip f ms k i j l (deep n) a e h = tt
