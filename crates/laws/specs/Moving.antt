-- Moving up composes and distributes over marks, errors, answers and readings; sequencing of readers associates.
use Rattle.std.specs.Prelude.{ℕ, ◌+◌, ◌≡◌, refl, List, [], ◌∷◌, ◌++◌, map, drop, length}
use Rattle.std.proofs.Common.{add_assoc, zero-add, sym, ap, ap₂, ◌∙◌, append_assoc, drop-drop}
use Rattle.std.proofs.lemmas.List.{length-map}
use Rattle.syntax.specs.declared.errors.ErrorKind.TheVariants as Errors
use Rattle.syntax.specs.Marks.{Mark, plain, placed, up, move_up}
use Rattle.syntax.specs.declared.errors.ErrorKind.{ErrorKind}
use Rattle.syntax.specs.declared.errors.ParserError.{ParserError}
use Rattle.syntax.specs.Errors.{up_kind, up_fault}
use Rattle.syntax.specs.Reader.{Out, ok, bad, deep, Reader, after, next, ◌>>=◌}
use Rattle.syntax.specs.Core.{Error, up_error, Reading, read, refused, following}

pub map-append : {A B : Type 0} (f : A → B) (xs ys : List A) → map f (xs ++ ys) ≡ map f xs ++ map f ys
map-append f [] ys = refl
map-append f (x ∷ xs) ys = ap (λ r. f x ∷ r) (map-append f xs ys)

map-twice : {A : Type 0} (f g h : A → A) → ((a : A) → f (g a) ≡ h a) → (xs : List A) → map f (map g xs) ≡ map h xs
map-twice f g h e [] = refl
map-twice f g h e (x ∷ xs) = ap₂ (λ a r. a ∷ r) (e x) (map-twice f g h e xs)

map_same : {A : Type 0} (f : A → A) → ((a : A) → f a ≡ a) → (xs : List A) → map f xs ≡ xs
map_same f e [] = refl
map_same f e (x ∷ xs) = ap₂ (λ a r. a ∷ r) (e x) (map_same f e xs)

up_up : (k j : ℕ) (m : Mark) → up k (up j m) ≡ up (k + j) m
up_up k j (plain i) = refl
up_up k j (placed i p) = ap (placed i) (sym (add_assoc k j p))

pub move_up-append : (k : ℕ) (ms ns : List Mark) → move_up k (ms ++ ns) ≡ move_up k ms ++ move_up k ns
unfolding move_up
move_up-append k ms ns = map-append (up k) ms ns

pub move_up-twice : (k j : ℕ) (ms : List Mark) → move_up k (move_up j ms) ≡ move_up (k + j) ms
unfolding move_up
move_up-twice k j ms = map-twice (up k) (up j) (up (k + j)) (up_up k j) ms

up-zero : (m : Mark) → up 0 m ≡ m
up-zero (plain i) = refl
up-zero (placed i p) = ap (placed i) (zero-add p)

pub move_up-zero : (ms : List Mark) → move_up 0 ms ≡ ms
unfolding move_up
move_up-zero ms = map_same (up 0) up-zero ms

pub move_up-nil : (k : ℕ) → move_up k [] ≡ []
unfolding move_up
move_up-nil k = refl

pub move_up-length : (k : ℕ) (ms : List Mark) → length (move_up k ms) ≡ length ms
unfolding move_up
move_up-length k ms = length-map ms (up k)

up_kind-twice : (k j : ℕ) (w : ErrorKind) → up_kind k (up_kind j w) ≡ up_kind (k + j) w
up_kind-twice k j (Errors.ExpectedToken b) = refl
up_kind-twice k j (Errors.ExpectedCharRange b) = refl
up_kind-twice k j (Errors.ExpectedMessageField a e) = ap₂ Errors.ExpectedMessageField (sym (add_assoc k j a)) (sym (add_assoc k j e))
up_kind-twice k j (Errors.ExpectedTermField a e) = ap₂ Errors.ExpectedTermField (sym (add_assoc k j a)) (sym (add_assoc k j e))
up_kind-twice k j Errors.ForbiddenCallee = refl
up_kind-twice k j Errors.MissingDefaultVariant = refl
up_kind-twice k j Errors.MissingValue = refl
up_kind-twice k j Errors.MultipleDefaultVariants = refl
up_kind-twice k j Errors.MessageReferenceAsSelector = refl
up_kind-twice k j Errors.TermReferenceAsSelector = refl
up_kind-twice k j Errors.MessageAttributeAsSelector = refl
up_kind-twice k j Errors.TermAttributeAsPlaceable = refl
up_kind-twice k j Errors.UnterminatedStringLiteral = refl
up_kind-twice k j Errors.PositionalArgumentFollowsNamed = refl
up_kind-twice k j (Errors.DuplicatedNamedArgument a e) = ap₂ Errors.DuplicatedNamedArgument (sym (add_assoc k j a)) (sym (add_assoc k j e))
up_kind-twice k j (Errors.UnknownEscapeSequence b) = refl
up_kind-twice k j (Errors.InvalidUnicodeEscapeSequence a e) =
    ap₂ Errors.InvalidUnicodeEscapeSequence (sym (add_assoc k j a)) (sym (add_assoc k j e))
up_kind-twice k j Errors.UnbalancedClosingBrace = refl
up_kind-twice k j Errors.ExpectedInlineExpression = refl
up_kind-twice k j Errors.ExpectedSimpleExpressionAsSelector = refl
up_kind-twice k j Errors.ExpectedLiteral = refl

pub up_fault-twice : (k j : ℕ) (f : ParserError) → up_fault k (up_fault j f) ≡ up_fault (k + j) f
up_fault-twice k j f i =
    record {
      start = sym (add_assoc k j f.start) i;
      end = sym (add_assoc k j f.end) i;
      kind = up_kind-twice k j f.kind i;
    }

up_error-twice : (k j : ℕ) (e : Error) → up_error k (up_error j e) ≡ up_error (k + j) e
unfolding up_error
up_error-twice k j e i =
    record {
      fault = up_fault-twice k j e.fault i;
      junk_from = sym (add_assoc k j e.junk_from) i;
      junk_till = sym (add_assoc k j e.junk_till) i;
    }

pub up_errors-twice : (k j : ℕ) (es : List Error) → map (up_error k) (map (up_error j) es) ≡ map (up_error (k + j)) es
up_errors-twice k j es = map-twice (up_error k) (up_error j) (up_error (k + j)) (up_error-twice k j) es

pub marks-after : (ms : List Mark) (k : ℕ) (ns : List Mark) (j : ℕ) (os : List Mark)
    → ms ++ move_up k (ns ++ move_up j os) ≡ (ms ++ move_up k ns) ++ move_up (k + j) os
marks-after ms k ns j os =
    ap (λ r. ms ++ r) (move_up-append k ns (move_up j os) ∙ ap (λ r. move_up k ns ++ r) (move_up-twice k j os))
    ∙ sym (append_assoc ms (move_up k ns) (move_up (k + j) os))

pub after-after : {A : Type 0} (ms : List Mark) (k : ℕ) (ns : List Mark) (j : ℕ) (o : Out A)
    → after ms k (after ns j o) ≡ after (ms ++ move_up k ns) (k + j) o
unfolding after
after-after ms k ns j (ok a os i) = ap₂ (λ r n. ok a r n) (marks-after ms k ns j os) (sym (add_assoc k j i))
after-after ms k ns j (bad f i) = ap₂ (λ g n. bad g n) (up_fault-twice k j f) (sym (add_assoc k j i))
after-after ms k ns j (deep i) = ap deep (sym (add_assoc k j i))

pub up_kind-zero : (w : ErrorKind) → up_kind 0 w ≡ w
up_kind-zero (Errors.ExpectedToken b) = refl
up_kind-zero (Errors.ExpectedCharRange b) = refl
up_kind-zero (Errors.ExpectedMessageField a e) = ap₂ Errors.ExpectedMessageField (zero-add a) (zero-add e)
up_kind-zero (Errors.ExpectedTermField a e) = ap₂ Errors.ExpectedTermField (zero-add a) (zero-add e)
up_kind-zero Errors.ForbiddenCallee = refl
up_kind-zero Errors.MissingDefaultVariant = refl
up_kind-zero Errors.MissingValue = refl
up_kind-zero Errors.MultipleDefaultVariants = refl
up_kind-zero Errors.MessageReferenceAsSelector = refl
up_kind-zero Errors.TermReferenceAsSelector = refl
up_kind-zero Errors.MessageAttributeAsSelector = refl
up_kind-zero Errors.TermAttributeAsPlaceable = refl
up_kind-zero Errors.UnterminatedStringLiteral = refl
up_kind-zero Errors.PositionalArgumentFollowsNamed = refl
up_kind-zero (Errors.DuplicatedNamedArgument a e) = ap₂ Errors.DuplicatedNamedArgument (zero-add a) (zero-add e)
up_kind-zero (Errors.UnknownEscapeSequence b) = refl
up_kind-zero (Errors.InvalidUnicodeEscapeSequence a e) = ap₂ Errors.InvalidUnicodeEscapeSequence (zero-add a) (zero-add e)
up_kind-zero Errors.UnbalancedClosingBrace = refl
up_kind-zero Errors.ExpectedInlineExpression = refl
up_kind-zero Errors.ExpectedSimpleExpressionAsSelector = refl
up_kind-zero Errors.ExpectedLiteral = refl

pub up_fault-zero : (f : ParserError) → up_fault 0 f ≡ f
up_fault-zero f i = record { start = zero-add f.start i; end = zero-add f.end i; kind = up_kind-zero f.kind i }

up_error-zero : (e : Error) → up_error 0 e ≡ e
unfolding up_error
up_error-zero e i = record { fault = up_fault-zero e.fault i; junk_from = zero-add e.junk_from i; junk_till = zero-add e.junk_till i }

pub up_errors-zero : (es : List Error) → map (up_error 0) es ≡ es
up_errors-zero es = map_same (up_error 0) up_error-zero es

pub after_none : {A : Type 0} (o : Out A) → after [] 0 o ≡ o
unfolding after
after_none (ok a ms k) = ap₂ (ok a) (move_up-zero ms) (zero-add k)
after_none (bad f k) = ap₂ bad (up_fault-zero f) (zero-add k)
after_none (deep k) = ap deep (zero-add k)

errors-after : (es : List Error) (k : ℕ) (fs : List Error) (j : ℕ) (gs : List Error)
    → es ++ map (up_error k) (fs ++ map (up_error j) gs) ≡ (es ++ map (up_error k) fs) ++ map (up_error (k + j)) gs
errors-after es k fs j gs =
    ap (λ r. es ++ r)
    (map-append (up_error k) fs (map (up_error j) gs) ∙ ap (λ r. map (up_error k) fs ++ r) (up_errors-twice k j gs))
    ∙ sym (append_assoc es (map (up_error k) fs) (map (up_error (k + j)) gs))

pub following-twice : (ms : List Mark) (es : List Error) (k : ℕ) (ns : List Mark) (fs : List Error) (j : ℕ) (r : Reading)
    → following ms es k (following ns fs j r) ≡ following (ms ++ move_up k ns) (es ++ map (up_error k) fs) (k + j) r
unfolding following
following-twice ms es k ns fs j (read os gs) = ap₂ (λ a b. read a b) (marks-after ms k ns j os) (errors-after es k fs j gs)
following-twice ms es k ns fs j (refused i) = ap refused (sym (add_assoc k j i))

-- ---- readers

next-after : {A B : Type 0} (s : List ℕ) (ms : List Mark) (k : ℕ) (q : A → Reader B) (o : Out A)
    → next s q (after ms k o) ≡ after ms k (next (drop k s) q o)
unfolding next after
next-after s ms k q (ok a ns j) = ap (λ r. after (ms ++ move_up k ns) (k + j) (q a r)) (sym (drop-drop j k s))
    ∙ sym (after-after ms k ns j (q a (drop j (drop k s))))
next-after s ms k q (bad f j) = refl
next-after s ms k q (deep j) = refl

pub bind-bind : {A B C : Type 0} (p : Reader A) (q : A → Reader B) (r : B → Reader C) (s : List ℕ)
    → ((p >>= q) >>= r) s ≡ (p >>= λ a. q a >>= r) s
unfolding ◌>>=◌ next
bind-bind {A} {B} {C} p q r s = go (p s)
  where
    go : (o : Out A) → next s r (next s q o) ≡ next s (λ a. q a >>= r) o
    go (ok a ms k) = next-after s ms k r (q a (drop k s))
    go (bad f k) = refl
    go (deep k) = refl
