-- Answers that agree up to the blanks that are skipped next. Where the reader gives an error, the grammar may also have
-- left what begins with "(" or ".",
-- behind blanks: nothing that may follow starts so.
use Rattle.std.specs.Prelude.{ℕ, ◌+◌, ◌≡◌, Bool, true, false, ◌||◌, take, eqb}
use Rattle.std.proofs.Common.{add-zero, add_assoc, ◌∙◌, subst, drop-drop, eqb-true}
use Rattle.std.proofs.Math.Path.{refl, sym, ap}
use mathlib.Core.List.{List, [], ◌∷◌, ◌++◌}
use Rattle.std.proofs.Math.ListN.{drop}
use Rattle.syntax.specs.Bytes.{starts, starts_with}
use Rattle.syntax.specs.Marks.{Mark, move_up}
use Rattle.syntax.specs.Reader as Reader
use Rattle.syntax.specs.Reader.{Out, ok, bad, deep, Reader, wrap}
use Rattle.syntax.specs.Helper.{skip_blank, as_text}
use Rattle.standard.specs.Peg as Peg
use Rattle.standard.specs.Peg.{Answer, fits, fails, Parser, ◌//◌, in-node, as-text}
use Rattle.standard.specs.Lexical.{blank?}
use Rattle.standard.specs.Steps.{text-fits, text-fails, node-fits, node-fails, after-fails, first, second}
use Rattle.standard.specs.Blank.{behind, blanks, over, drop-over, reader-skips, parser-skips}
use Rattle.standard.specs.Same.{Same, same-skip, fits-pure}

unfoldable pub is_opening : ℕ → Bool
is_opening b = eqb b 40 || eqb b 46

abbrev pub Opens : List ℕ → Type 0
Opens s = starts is_opening s ≡ true

pub opens_by : (b : ℕ) (s : List ℕ) → is_opening b ≡ true → starts_with b s ≡ true → Opens s
unfolding starts_with starts
opens_by b [] e h = h
opens_by b (x ∷ xs) e h = rw (eqb-true x b h) e

-- a failure, or an answer that leaves such a rest
abbrev pub Left : {B : Type 0} → List ℕ → Answer B → Type 0
Left s (fits y ms j) = Opens (drop (over s j) s)
Left s fails = Unit {0}

-- the same, or an error
abbrev pub Nearly : {A B : Type 0} → (A → B) → List ℕ → Out A → Answer B → Type 0
Nearly f s (ok x ms k) a = a ≡ fits (f x) ms k
Nearly f s (bad e k) a = Left s a
Nearly f s (deep k) a = Unit {0}

-- the same up to blanks, or an error
abbrev pub Near : {A B : Type 0} → (A → B) → List ℕ → Out A → Answer B → Type 0
Near f s (ok x ms k) a = (j : ℕ) × (a ≡ fits (f x) ms j) × (over s j ≡ over s k)
Near f s (bad e k) a = Left s a
Near f s (deep k) a = Unit {0}

module _ {A B : Type 0} (f : A → B) where
  pub nearly-near : (s : List ℕ) (o : Out A) (a : Answer B) → Nearly f s o a → Near f s o a
  nearly-near s (ok x ms k) a h = (k, h, refl)
  nearly-near s (bad e k) a h = h
  nearly-near s (deep k) a h = tt

  pub same-nearly : (s : List ℕ) (o : Out A) (a : Answer B) → Same f o a → Nearly f s o a
  same-nearly s (ok x ms k) a h = h
  same-nearly s (bad e k) a h = rw h tt
  same-nearly s (deep k) a h = tt

  pub same-near : (s : List ℕ) (o : Out A) (a : Answer B) → Same f o a → Near f s o a
  same-near s o a h = nearly-near s o a (same-nearly s o a h)

-- k bytes on
left_after : {B : Type 0} (s : List ℕ) (ms : List Mark) (k : ℕ) (a : Answer B) → Left (drop k s) a → Left s (Peg.after ms k a)
unfolding Peg.after over
left_after s ms k (fits y ns j) h =
    subst Opens
    (drop-drop (j + blanks (drop j (drop k s))) k s
    ∙ ap (λ n. drop n s)
    (sym (add_assoc k j (blanks (drop j (drop k s)))) ∙ ap (λ r. k + j + blanks r) (drop-drop j k s))) h
left_after s ms k fails h = tt

module _ {A B C D : Type 0} (f : A → B) (g : C → D) where
  pub nearly-after : (s : List ℕ) (ms : List Mark) (k : ℕ) (o : Out C) (a : Answer D) → Nearly g (drop k s) o a
      → Nearly g s (Reader.after ms k o) (Peg.after ms k a)
  unfolding Reader.after Peg.after
  nearly-after s ms k (ok x ns j) a h = ap (Peg.after ms k) h
  nearly-after s ms k (bad e j) a h = left_after s ms k a h
  nearly-after s ms k (deep j) a h = tt

  -- a sequence whose last part agrees so
  pub nearly-next : (s : List ℕ) (q : A → Reader C) (q' : B → Parser D) (o : Out A) (a : Answer B)
      → Same f o a → ((x : A) (r : List ℕ) → Nearly g r (q x r) (q' (f x) r)) → Nearly g s (Reader.next s q o) (Peg.next s q' a)
  unfolding Reader.next Peg.next
  nearly-next s q q' (ok x ms k) a h l = rw h (nearly-after s ms k (q x (drop k s)) (q' (f x) (drop k s)) (l x (drop k s)))
  nearly-next s q q' (bad e k) a h l = rw h tt
  nearly-next s q q' (deep k) a h l = tt

  -- blanks, and what fails at such a rest
  pub near_next : (s : List ℕ) (q : A → Reader C) (q' : B → Parser D) (o : Out A) (a : Answer B) → Near f s o a
      → ((x : A) (r : List ℕ) → Same g (q x r) (q' (f x) r)) → ((y : B) (r : List ℕ) → Opens r → q' y r ≡ fails)
      → Same g (Reader.next s (λ x. Reader.◌>>◌ skip_blank (q x)) o) (Peg.next s (λ y. Peg.◌>>◌ blank? (q' y)) a)
  unfolding Reader.next Peg.next Reader.◌>>◌ Peg.◌>>◌ over
  near_next s q q' (ok x ms k) a (j, e, h) l d =
      let r : behind (drop k s) ≡ behind (drop j s) = drop-over s k ∙ ap (λ n. drop n s) (sym h) ∙ sym (drop-over s j) in
      rw (e, reader-skips (q x) (drop k s), parser-skips (q' (f x)) (drop j s))
      (same-skip g ms k (blanks (drop k s)) j (blanks (drop j s)) (q x (behind (drop k s))) (q' (f x) (behind (drop j s))) (sym h)
      (subst (λ z. Same g (q x (behind (drop k s))) (q' (f x) z)) r (l x (behind (drop k s)))))
  near_next s q q' (bad e k) (fits y ms j) h l d =
      after-fails ms j
      (parser-skips (q' y) (drop j s)
      ∙ after-fails [] (blanks (drop j s)) (d y (behind (drop j s)) (subst Opens (sym (drop-over s j)) h)))
  near_next s q q' (bad e k) fails h l d = refl
  near_next s q q' (deep k) a h l d = tt

-- in a node, and as a text
left-node : {B : Type 0} (s : List ℕ) (kind : ℕ) (p : Parser B) (a : Answer B) → p s ≡ a → Left s a → Left s (in-node kind p s)
left-node s kind p (fits y ms j) e h = rw (node-fits kind p s e) h
left-node s kind p fails e h = rw (node-fails kind p s e) tt

left-text : {B : Type 0} (s : List ℕ) (kind : ℕ) (p : Parser B) (a : Answer B) → p s ≡ a → Left s a → Left s (as-text kind p s)
left-text s kind p (fits y ms j) e h = rw (text-fits kind p s e) h
left-text s kind p fails e h = rw (text-fails kind p s e) tt

pub nearly-text : {B : Type 0} (f : Unit {0} → B) (kind : ℕ) (s : List ℕ) (o : Out (Unit {0})) (p : Parser B)
    → Nearly f s o (p s) → Nearly (λ k. take k s) s (as_text kind o) (as-text kind p s)
unfolding as_text
nearly-text f kind s (ok u ms k) p h = text-fits kind p s h
nearly-text f kind s (bad e k) p h = left-text s kind p (p s) refl h
nearly-text f kind s (deep k) p h = tt

-- another value
left-pure : {B D : Type 0} (s : List ℕ) (y : D) (a : Answer B) → Left s a → Left s (Peg.next s (λ _. Peg.pure y) a)
unfolding Peg.next Peg.pure Peg.after
left-pure s y (fits x ms j) h = rw (add-zero j) h
left-pure s y fails h = tt

pub nearly-pure : {A B C D : Type 0} (f : A → B) (g : C → D) (y : C) (s : List ℕ) (o : Out A) (a : Answer B) → Nearly f s o a
    → Nearly g s (Reader.next s (λ _. Reader.pure y) o) (Peg.next s (λ _. Peg.pure (g y)) a)
unfolding Reader.next Reader.pure Reader.after Peg.next Peg.pure Peg.after
nearly-pure f g y s (ok x ms k) a h = rw h refl
nearly-pure f g y s (bad e k) a h = left-pure s (g y) a h
nearly-pure f g y s (deep k) a h = tt

-- another value on the grammar's side alone
pub nearly-void : {A B D : Type 0} (f : A → B) (y : D) (s : List ℕ) (o : Out A) (a : Answer B) → Nearly f s o a
    → Nearly (λ x. y) s o (Peg.next s (λ _. Peg.pure y) a)
unfolding Peg.next Peg.pure
nearly-void f y s (ok x ms k) a h = rw h (fits-pure y ms k)
nearly-void f y s (bad e k) a h = left-pure s y a h
nearly-void f y s (deep k) a h = tt

pub near-pure : {A B C D : Type 0} (f : A → B) (g : C → D) (y : C) (s : List ℕ) (o : Out A) (a : Answer B) → Near f s o a
    → Near g s (Reader.next s (λ _. Reader.pure y) o) (Peg.next s (λ _. Peg.pure (g y)) a)
unfolding Reader.next Reader.pure Reader.after Peg.next Peg.pure Peg.after move_up
near-pure f g y s (ok x ms k) a (j, e, h) = (j, rw e (ap (fits (g y) (ms ++ [])) (add-zero j)), h ∙ ap (over s) (sym (add-zero k)))
near-pure f g y s (bad e k) a h = left-pure s (g y) a h
near-pure f g y s (deep k) a h = tt

-- k bytes on
pub over-after : (s : List ℕ) (k j : ℕ) → over s (k + j) ≡ k + over (drop k s) j
unfolding over
over-after s k j = ap (λ r. k + j + blanks r) (sym (drop-drop j k s)) ∙ add_assoc k j (blanks (drop j (drop k s)))

pub near-after : {A B : Type 0} (f : A → B) (s : List ℕ) (ms : List Mark) (k : ℕ) (o : Out A) (a : Answer B)
    → Near f (drop k s) o a → Near f s (Reader.after ms k o) (Peg.after ms k a)
unfolding Reader.after Peg.after
near-after f s ms k (ok x ns i) a (j, e, h) = (k + j, ap (Peg.after ms k) e, over-after s k j ∙ ap (λ n. k + n) h ∙ sym (over-after s k i))
near-after f s ms k (bad e j) a h = left_after s ms k a h
near-after f s ms k (deep j) a h = tt

module _ {A B C D : Type 0} (f : A → B) (g : C → D) where
  pub near-then : (s : List ℕ) (q : A → Reader C) (q' : B → Parser D) (o : Out A) (a : Answer B)
      → Same f o a → ((x : A) (r : List ℕ) → Near g r (q x r) (q' (f x) r)) → Near g s (Reader.next s q o) (Peg.next s q' a)
  unfolding Reader.next Peg.next
  near-then s q q' (ok x ms k) a h l = rw h (near-after g s ms k (q x (drop k s)) (q' (f x) (drop k s)) (l x (drop k s)))
  near-then s q q' (bad e k) a h l = rw h tt
  near-then s q q' (deep k) a h l = tt

module _ {A B : Type 0} (f : A → B) where
  pub near-wrap : (kind : ℕ) (s : List ℕ) (o : Out A) (p : Parser B) → Near f s o (p s) → Near f s (wrap kind o) (in-node kind p s)
  unfolding wrap
  near-wrap kind s (ok x ms k) p (j, e, h) = (j, node-fits kind p s e, h)
  near-wrap kind s (bad e k) p h = left-node s kind p (p s) refl h
  near-wrap kind s (deep k) p h = tt

  pub near-pick : (s : List ℕ) (v : Bool) (o o' : Out A) (a : Answer B) → (v ≡ true → Near f s o a)
      → (v ≡ false → Near f s o' a) → Near {A = A} f s (elim v [ true ↦ o | false ↦ o' ]) a
  near-pick s true o o' a h l = h refl
  near-pick s false o o' a h l = l refl

  -- choice
  left-first : (s : List ℕ) (p q : Parser B) (a : Answer B) → p s ≡ a → Left s a → q s ≡ fails → Left s ((p // q) s)
  left-first s p q (fits y ms j) e h l = rw (first p q s e) h
  left-first s p q fails e h l = rw (second p q s e, l) tt

  pub near_first : (s : List ℕ) (o : Out A) (p q : Parser B) → Near f s o (p s) → q s ≡ fails → Near f s o ((p // q) s)
  near_first s (ok x ms k) p q (j, e, h) l = (j, first p q s e, h)
  near_first s (bad e k) p q h l = left-first s p q (p s) refl h l
  near_first s (deep k) p q h l = tt

  pub near-second : (s : List ℕ) (o : Out A) (p q : Parser B) → p s ≡ fails → Near f s o (q s) → Near f s o ((p // q) s)
  near-second s o p q e h = subst (Near f s o) (sym (second p q s e)) h

-- an error, and such a rest
abbrev pub Wrong : {A : Type 0} → Out A → Type 0
Wrong (ok x ms k) = ⊥
Wrong (bad e k) = Unit {0}
Wrong (deep k) = Unit {0}

pub wrong-after : {A : Type 0} (ms : List Mark) (k : ℕ) (o : Out A) → Wrong o → Wrong (Reader.after ms k o)
unfolding Reader.after
wrong-after ms k (ok x ns j) h = h
wrong-after ms k (bad e j) h = tt
wrong-after ms k (deep j) h = tt

pub wrong-next : {A B : Type 0} (s : List ℕ) (q : A → Reader B) (o : Out A) → Wrong o → Wrong (Reader.next s q o)
unfolding Reader.next
wrong-next s q (ok x ms k) h = absurd h
wrong-next s q (bad e k) h = tt
wrong-next s q (deep k) h = tt

pub wrong-near : {A B : Type 0} (f : A → B) (s : List ℕ) (o : Out A) (a : Answer B) → Wrong o → Left s a → Near f s o a
wrong-near f s (ok x ms k) a h l = absurd h
wrong-near f s (bad e k) a h l = l
wrong-near f s (deep k) a h l = tt
