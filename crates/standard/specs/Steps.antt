-- What a parser that is put together answers, from what its parts answer.
use Prim.Native.Nat.{ℕ, zero, suc, ◌+◌, ◌≤◌, ◌<◌}
use Rattle.std.proofs.Common.{arith, add_assoc, zero-add, not-suc-le-zero, sym, ◌∙◌, drop-drop, ne_eqb, eqb-true}
use Rattle.std.specs.Prelude.{◌≡◌, Bool, drop, take, eqb}
use Rattle.std.proofs.Math.Path.{refl, ap, ap₂}
use Rattle.std.proofs.Math.Bool.{true, false}
use mathlib.Core.List.{List, [], ◌∷◌, ◌++◌, append-nil}
use Rattle.syntax.specs.Bytes.{run, starts, starts_with}
use Rattle.syntax.specs.Marks.{Mark, move_up, node, text_node}
use Rattle.laws.specs.Bytes.{by_case, clash}
use Rattle.laws.specs.Moving.{marks-after, move_up-twice, move_up-zero}
use Rattle.standard.specs.Peg.{Answer, fits, fails, Parser, many, some, turns, times, one, byte, with_first, after}
use Rattle.standard.specs.Peg.{next, pure, ◌>>=◌, ◌>>◌, ◌//◌, opt, void, in-node, as-text, only, never, ahead}

-- no marks
pub move_up-none : (k : ℕ) → move_up k [] ≡ []
unfolding move_up
move_up-none k = refl

module _ {A B : Type 0} where
  -- sequence
  pub bind-fits : (p : Parser A) (q : A → Parser B) (s : List ℕ) {a : A} {ms : List Mark} {k : ℕ} → p s ≡ fits a ms k
      → (p >>= q) s ≡ after ms k (q a (drop k s))
  unfolding ◌>>=◌ next
  bind-fits p q s e = rw (e, ◌>>=◌) refl

  pub bind-fails : (p : Parser A) (q : A → Parser B) (s : List ℕ) → p s ≡ fails → (p >>= q) s ≡ fails
  unfolding ◌>>=◌ next
  bind-fails p q s e = rw (e, ◌>>=◌) refl

  pub then-fits : (p : Parser A) (q : Parser B) (s : List ℕ) {a : A} {ms : List Mark} {k : ℕ} → p s ≡ fits a ms k
      → (p >> q) s ≡ after ms k (q (drop k s))
  unfolding ◌>>◌ next
  then-fits p q s e = rw (e, ◌>>◌) refl

  pub then-fails : (p : Parser A) (q : Parser B) (s : List ℕ) → p s ≡ fails → (p >> q) s ≡ fails
  unfolding ◌>>◌ next
  then-fails p q s e = rw (e, ◌>>◌) refl

module _ {A : Type 0} where
  -- choice
  pub first : (p q : Parser A) (s : List ℕ) {a : A} {ms : List Mark} {k : ℕ} → p s ≡ fits a ms k → (p // q) s ≡ fits a ms k
  unfolding ◌//◌
  first p q s e = rw (e, ◌//◌) refl

  pub second : (p q : Parser A) (s : List ℕ) → p s ≡ fails → (p // q) s ≡ q s
  unfolding ◌//◌
  second p q s e = rw (e, ◌//◌) refl

  -- where the second fails
  pub choice-first : (p q : Parser A) (s : List ℕ) → q s ≡ fails → (p // q) s ≡ p s
  unfolding ◌//◌
  choice-first p q s e = go (p s)
    where
      or : Answer A → Answer A → Answer A
      or a b = elim a [ fits x ms k ↦ fits x ms k | fails ↦ b ]

      go : (a : Answer A) → or a (q s) ≡ a
      go (fits x ms k) = refl
      go fails = e

  pub choice-assoc : (p q r : Parser A) (s : List ℕ) → (p // (q // r)) s ≡ ((p // q) // r) s
  unfolding ◌//◌
  choice-assoc p q r s = go (p s)
    where
      or : Answer A → Answer A → Answer A
      or a b = elim a [ fits x ms k ↦ fits x ms k | fails ↦ b ]

      go : (a : Answer A) → or a ((q // r) s) ≡ or (or a (q s)) (r s)
      go (fits x ms k) = refl
      go fails = refl

  pub opt-fits : (x : A) (p : Parser A) (s : List ℕ) {a : A} {ms : List Mark} {k : ℕ} → p s ≡ fits a ms k → opt x p s ≡ fits a ms k
  unfolding opt
  opt-fits x p s e = first p (pure x) s e

  pub opt-fails : (x : A) (p : Parser A) (s : List ℕ) → p s ≡ fails → opt x p s ≡ fits x [] 0
  unfolding opt pure
  opt-fails x p s e = second p (pure x) s e

  -- repetition
  pub turns_more : (n : ℕ) (p : Parser A) (s : List ℕ) {a : A} {ms : List Mark} {k : ℕ} → p s ≡ fits a ms k → 0 < k
      → turns (suc n) p s ≡ with_first a (after ms k (turns n p (drop k s)))
  unfolding turns
  turns_more n p s {a} {ms} {k} e z = rw (e, turns) (rw (ne_eqb k 0 (λ y. omega arith)) refl)

  pub turns-on : (n : ℕ) (p : Parser A)
      (s : List ℕ) {a : A} {ms : List Mark} {k : ℕ} {more : List A} {ns : List Mark} {j : ℕ}
      → p s ≡ fits a ms k → 0 < k
      → turns n p (drop k s) ≡ fits more ns j → turns (suc n) p s ≡ fits (a ∷ more) (ms ++ move_up k ns) (k + j)
  unfolding with_first after
  turns-on n p s {a} {ms} {k} e z f = turns_more n p s e z ∙ ap (λ o. with_first a (after ms k o)) f

  pub turns-end : (n : ℕ) (p : Parser A) (s : List ℕ) → p s ≡ fails → turns n p s ≡ fits [] [] 0
  unfolding turns
  turns-end zero p s e = refl
  turns-end (suc n) p s e = rw (e, turns) refl

  pub turns-still : (n : ℕ) (p : Parser A) (s : List ℕ) {a : A} {ms : List Mark} → p s ≡ fits a ms 0 → turns n p s ≡ fits [] [] 0
  unfolding turns
  turns-still zero p s e = refl
  turns-still (suc n) p s e = rw (e, turns) refl

  pub some-fails : (p : Parser A) (s : List ℕ) → p s ≡ fails → some p s ≡ fails
  unfolding some
  some-fails p s e = bind-fails p (λ a. many p >>= λ more. pure (a ∷ more)) s e

  pub some_fits : (p : Parser A) (s : List ℕ) {a : A} {ms : List Mark} {k : ℕ} {more : List A} {ns : List Mark} {j : ℕ} → p s ≡ fits a ms k
      → many p (drop k s) ≡ fits more ns j → some p s ≡ fits (a ∷ more) (ms ++ move_up k ns) (k + j)
  unfolding some ◌>>=◌ next after pure move_up
  some_fits p s {a} {ms} {k} {more} {ns} {j} e f =
      rw (e, some) (rw f (ap₂ (λ r n. fits (a ∷ more) (ms ++ move_up k r) n) (append-nil ns) (omega arith)))

  pub void-fits : (p : Parser A) (s : List ℕ) {a : A} {ms : List Mark} {k : ℕ} → p s ≡ fits a ms k → void p s ≡ fits tt ms k
  unfolding void ◌>>◌ next after pure move_up
  void-fits p s {a} {ms} {k} e = rw (e, void) (ap₂ (λ r n. fits tt r n) (append-nil ms) (omega arith))

  pub void-fails : (p : Parser A) (s : List ℕ) → p s ≡ fails → void p s ≡ fails
  unfolding void
  void-fails p s e = then-fails p (pure tt) s e

  -- marks in a node
  pub node-fits : (kind : ℕ) (p : Parser A) (s : List ℕ) {a : A} {ms : List Mark} {k : ℕ} → p s ≡ fits a ms k
      → in-node kind p s ≡ fits a (node kind ms) k
  unfolding in-node
  node-fits kind p s e = rw (e, in-node) refl

  pub node-fails : (kind : ℕ) (p : Parser A) (s : List ℕ) → p s ≡ fails → in-node kind p s ≡ fails
  unfolding in-node
  node-fails kind p s e = rw (e, in-node) refl

  pub text-fits : (kind : ℕ) (p : Parser A) (s : List ℕ) {a : A} {ms : List Mark} {k : ℕ} → p s ≡ fits a ms k
      → as-text kind p s ≡ fits (take k s) (text_node kind 0 k) k
  unfolding as-text
  text-fits kind p s e = rw (e, as-text) refl

  pub text-fails : (kind : ℕ) (p : Parser A) (s : List ℕ) → p s ≡ fails → as-text kind p s ≡ fails
  unfolding as-text
  text-fails kind p s e = rw (e, as-text) refl

  -- looking ahead
  pub ahead-fits : (p : Parser A) (s : List ℕ) {a : A} {ms : List Mark} {k : ℕ} → p s ≡ fits a ms k → ahead p s ≡ fits tt [] 0
  unfolding ahead
  ahead-fits p s e = rw (e, ahead) refl

  pub ahead-fails : (p : Parser A) (s : List ℕ) → p s ≡ fails → ahead p s ≡ fails
  unfolding ahead
  ahead-fails p s e = rw (e, ahead) refl

  -- answers that follow answers
  pub after-fails : (ms : List Mark) (k : ℕ) {a : Answer A} → a ≡ fails → after ms k a ≡ fails
  unfolding after
  after-fails ms k e = ap (after ms k) e

  pub after-skip : (ms : List Mark) (k j : ℕ) (a : Answer A) → after ms k (after [] j a) ≡ after ms (k + j) a
  unfolding after
  after-skip ms k j (fits a ns i) = ap₂ (λ r n. fits a (ms ++ r) n) (move_up-twice k j ns) (sym (add_assoc k j i))
  after-skip ms k j fails = refl

  pub after_none : (a : Answer A) → after [] 0 a ≡ a
  unfolding after
  after_none (fits a ns i) = ap₂ (λ r n. fits a r n) (move_up-zero ns) (zero-add i)
  after_none fails = refl

  pub after-twice : (ms : List Mark) (k : ℕ) (ns : List Mark) (j : ℕ) (a : Answer A)
      → after ms k (after ns j a) ≡ after (ms ++ move_up k ns) (k + j) a
  unfolding after
  after-twice ms k ns j (fits a os i) = ap₂ (fits a) (marks-after ms k ns j os) (sym (add_assoc k j i))
  after-twice ms k ns j fails = refl

  -- abstract rules
  pub only-passes : (v : Bool) (q : Parser A) (s : List ℕ) → v ≡ true → (only v >> q) s ≡ q s
  unfolding only pure
  only-passes true q s e = then-fits (only true) q s refl ∙ after_none (q s)
  only-passes false q s e = clash e refl

  pub only-forbids : (v : Bool) (q : Parser A) (s : List ℕ) → v ≡ false → (only v >> q) s ≡ fails
  unfolding only never
  only-forbids true q s e = clash refl e
  only-forbids false q s e = then-fails (only false) q s refl

  pub only-fails : (v : Bool) (q : Parser A) (s : List ℕ) → q s ≡ fails → (only v >> q) s ≡ fails
  only-fails true q s e = only-passes true q s refl ∙ e
  only-fails false q s e = only-forbids false q s refl

-- reading on after marks and bytes
pub next-after : {A B : Type 0} (s : List ℕ) (q : A → Parser B) (ms : List Mark) (k : ℕ) (a : Answer A)
    → next s q (after ms k a) ≡ after ms k (next (drop k s) q a)
unfolding next after
next-after s q ms k (fits a ns j) = ap (λ r. after (ms ++ move_up k ns) (k + j) (q a r)) (sym (drop-drop j k s))
    ∙ sym (after-twice ms k ns j (q a (drop j (drop k s))))
next-after s q ms k fails = refl

-- a choice between what follows one answer
pub shared-first : {A B : Type 0} (a : Answer A) (p q : Parser B) (s : List ℕ)
    → (((λ _. a) >> p) // ((λ _. a) >> q)) s ≡ next s (λ _. p // q) a
unfolding ◌//◌ ◌>>◌ next
shared-first {B = B} (fits x ms k) p q s = go (p (drop k s))
  where
    or : Answer B → Answer B → Answer B
    or a b = elim a [ fits y ns j ↦ fits y ns j | fails ↦ b ]

    go : (a : Answer B) → or (after ms k a) (after ms k (q (drop k s))) ≡ after ms k (or a (q (drop k s)))
    go (fits y ns j) = unfold after in refl
    go fails = unfold after in refl
shared-first fails p q s = refl

-- n times nothing
unfoldable pub units : ℕ → List (Unit {0})
units zero = []
units (suc n) = tt ∷ units n

-- p* for a byte class p
pub many-run : (p : ℕ → Bool) (s : List ℕ) → many (one p) s ≡ fits (units (run p s)) [] (run p s)
unfolding many turns run units one starts with_first after move_up
many-run p [] = refl
many-run p (b ∷ bs) = by_case (p b)
    (λ e. rw (turns, one, run, e, many-run p bs) (ap (fits (tt ∷ units (run p bs)) []) (omega arith)))
    (λ e. rw (turns, one, run, e) refl)

-- p+
pub some-run : (p : ℕ → Bool) (s : List ℕ) → starts p s ≡ true → some (one p) s ≡ fits (units (run p s)) [] (run p s)
unfolding some one starts run units ◌>>=◌ next after pure move_up
some-run p [] e = clash e refl
some-run p (b ∷ bs) e = rw (e, one, run) (rw (many-run p bs) (ap (fits (tt ∷ units (run p bs)) []) (omega arith)))

-- p{n}
pub times-fits : (n : ℕ) (p : ℕ → Bool) (s : List ℕ) → n ≤ run p s → times n (one p) s ≡ fits tt [] n
unfolding times run one starts ◌>>◌ next after pure move_up
times-fits zero p s h = refl
times-fits (suc n) p [] h = absurd (not-suc-le-zero h)
times-fits (suc n) p (b ∷ bs) h = by_case (p b)
    (λ e. rw (e, times, one) (rw (times-fits n p bs (omega (arith, rw (e, run) at h))) (ap (fits tt []) (omega arith))))
    (λ e. absurd (not-suc-le-zero (rw (e, run) at h)))

pub times-fails : (n : ℕ) (p : ℕ → Bool) (s : List ℕ) → run p s < n → times n (one p) s ≡ fails
unfolding times run one starts ◌>>◌ next after
times-fails zero p s h = absurd (not-suc-le-zero h)
times-fails (suc n) p [] h = refl
times-fails (suc n) p (b ∷ bs) h = by_case (p b)
    (λ e. rw (e, times, one) (rw (times-fails n p bs (omega (arith, rw (e, run) at h))) refl))
    (λ e. rw (e, times, one) refl)

-- a byte
pub one-fits : (p : ℕ → Bool) (s : List ℕ) → starts p s ≡ true → one p s ≡ fits tt [] 1
unfolding one
one-fits p s e = rw (e, one) refl

pub one-fails : (p : ℕ → Bool) (s : List ℕ) → starts p s ≡ false → one p s ≡ fails
unfolding one
one-fails p s e = rw (e, one) refl

pub starts-byte : (b : ℕ) (s : List ℕ) → starts (λ x. eqb x b) s ≡ starts_with b s
unfolding starts starts_with
starts-byte b [] = refl
starts-byte b (x ∷ xs) = refl

pub byte_fits : (b : ℕ) (s : List ℕ) → starts_with b s ≡ true → byte b s ≡ fits tt [] 1
unfolding byte
byte_fits b s e = one-fits (λ x. eqb x b) s (starts-byte b s ∙ e)

pub byte-fails : (b : ℕ) (s : List ℕ) → starts_with b s ≡ false → byte b s ≡ fails
unfolding byte
byte-fails b s e = one-fails (λ x. eqb x b) s (starts-byte b s ∙ e)

pub starts_apart : (p : ℕ → Bool) (c : ℕ) (s : List ℕ) → starts p s ≡ true → p c ≡ false → starts_with c s ≡ false
unfolding starts starts_with
starts_apart p c [] e h = refl
starts_apart p c (x ∷ xs) e h = by_case (eqb x c) (λ q. clash e (ap p (eqb-true x c q) ∙ h)) (λ q. q)

pub starts_other : (b c : ℕ) (s : List ℕ) → starts_with b s ≡ true → eqb b c ≡ false → starts_with c s ≡ false
unfolding starts_with
starts_other b c [] e h = refl
starts_other b c (x ∷ xs) e h = rw (eqb-true x b e) h

-- Answers that use a byte
-- ---------------------------------------------------------------------------------------------------------------------

abbrev pub Uses : {A : Type 0} → Answer A → Type 0
Uses (fits a ms k) = 0 < k
Uses fails = Unit {0}

pub uses-after : {A : Type 0} (ms : List Mark) (k : ℕ) (a : Answer A) → Uses a → Uses (after ms k a)
unfolding after
uses-after ms k (fits a ns j) h = omega arith
uses-after ms k fails h = tt

pub uses-past : {A : Type 0} (ms : List Mark) (k : ℕ) (a : Answer A) → 0 < k → Uses (after ms k a)
unfolding after
uses-past ms k (fits a ns j) h = omega arith
uses-past ms k fails h = tt

module _ {A B : Type 0} where
  -- the first part of a sequence uses one, or the rest
  pub uses-first : (s : List ℕ) (q : A → Parser B) (a : Answer A) → Uses a → Uses (next s q a)
  unfolding next
  uses-first s q (fits a ms k) h = uses-past ms k (q a (drop k s)) h
  uses-first s q fails h = tt

  pub uses-rest : (s : List ℕ) (q : A → Parser B) (a : Answer A) → ((x : A) (r : List ℕ) → Uses (q x r)) → Uses (next s q a)
  unfolding next
  uses-rest s q (fits a ms k) h = uses-after ms k (q a (drop k s)) (h a (drop k s))
  uses-rest s q fails h = tt

module _ {A : Type 0} where
  pub uses-choice : (p q : Parser A) (s : List ℕ) → Uses (p s) → Uses (q s) → Uses ((p // q) s)
  unfolding ◌//◌
  uses-choice p q s h l = go (p s) h
    where
      go : (a : Answer A) → Uses a → Uses {A = A} (elim a [ fits x ms k ↦ fits x ms k | fails ↦ q s ])
      go (fits x ms k) u = u
      go fails u = l

  pub uses-node : (kind : ℕ) (p : Parser A) (s : List ℕ) → Uses (p s) → Uses (in-node kind p s)
  unfolding in-node
  uses-node kind p s h = go (p s) h
    where
      go : (a : Answer A) → Uses a → Uses {A = A} (elim a [ fits x ms k ↦ fits x (node kind ms) k | fails ↦ fails ])
      go (fits x ms k) u = u
      go fails u = tt

  pub uses-text : (kind : ℕ) (p : Parser A) (s : List ℕ) → Uses (p s) → Uses (as-text kind p s)
  unfolding as-text
  uses-text kind p s h = go (p s) h
    where
      go : (a : Answer A) → Uses a → Uses {A = List ℕ} (elim a [ fits x ms k ↦ fits (take k s) (text_node kind 0 k) k | fails ↦ fails ])
      go (fits x ms k) u = u
      go fails u = tt

pub uses-one : (p : ℕ → Bool) (s : List ℕ) → Uses (one p s)
uses-one p s = by_case (starts p s) (λ e. rw (one-fits p s e) (omega arith)) (λ e. rw (one-fails p s e) tt)

pub uses-byte : (b : ℕ) (s : List ℕ) → Uses (byte b s)
unfolding byte
uses-byte b s = uses-one (λ x. eqb x b) s
