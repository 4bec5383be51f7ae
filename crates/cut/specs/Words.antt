-- Trees and error lists as the claim compares them, from marks and errors: reading them back, moving up and joining.
use Rattle.std.specs.Prelude.{ℕ, ◌+◌, ◌≤◌, ◌≡◌, refl, List, [], ◌∷◌, ◌++◌, map, length}
use Rattle.std.proofs.Common.{sym, ap, ap₂, ◌∙◌, length-append, take_at, drop_at}
use Rattle.std.proofs.lemmas.List.{length-map}
use Rattle.syntax.specs.declared.errors.ErrorKind.{ErrorKind}
use Rattle.syntax.specs.declared.errors.ErrorKind.TheVariants as Kinds
use Rattle.syntax.specs.Marks.{Mark, plain, placed, kind_of, place_of, up, move_up}
use Rattle.syntax.specs.Errors.{words_of, up_kind}
use Rattle.syntax.specs.Core.{Error, up_error}
use Rattle.syntax.specs.Layout.{tree_words, group_size, group, groups, error_number, error_words, marks_by}
use Rattle.laws.specs.Moving.{map-append}
use Rattle.laws.specs.Layout.{tree-kinds, tree_places, error-kinds, error-groups, AllProper, proper-marks}
use Rattle.cut.specs.Claim.{Tree, Errors, move_places, move_tree, has_span, move_group, move_groups, move_errors, join}
use Rattle.cut.specs.Definition.{tree_in, errors_in}

unfoldable pub of_marks : List Mark → Tree
of_marks ms = record { count = length ms; kinds = map kind_of ms; places = map place_of ms }

unfoldable pub of_errors : List Error → Errors
of_errors es = record { count = length es; kinds = map error_number es; groups = groups es }

pub tree-in : (c : ℕ) (ms : List Mark) (rest : List ℕ) → length ms ≤ c → tree_in (tree_words c ms ++ rest) ≡ of_marks ms
unfolding tree_in of_marks tree_words Rattle.syntax.specs.Layout.count
tree-in c ms rest h i = record { count = length ms; kinds = tree-kinds c ms rest i; places = tree_places c ms rest h i }

pub errors-in : (c : ℕ) (es : List Error) (rest : List ℕ) → length es ≤ c → errors_in (error_words c es ++ rest) ≡ of_errors es
unfolding errors_in of_errors error_words Rattle.syntax.specs.Layout.count
errors-in c es rest h i = record { count = length es; kinds = error-kinds c es rest i; groups = error-groups c es rest h i }

-- marks moved up and joined
pub kinds-up : (n : ℕ) (ms : List Mark) → map kind_of (move_up n ms) ≡ map kind_of ms
unfolding move_up
kinds-up n [] = refl
kinds-up n (plain k ∷ ms) = ap (λ (r : List ℕ). k ∷ r) (kinds-up n ms)
kinds-up n (placed k p ∷ ms) = ap (λ (r : List ℕ). k ∷ r) (kinds-up n ms)

places-up : (n : ℕ) (ms : List Mark) → AllProper ms → move_places n (map kind_of ms) (map place_of ms) ≡ map place_of (move_up n ms)
unfolding move_up move_places
places-up n [] h = refl
places-up n (plain k ∷ ms) h = rw (h.0, move_places) (ap (λ (r : List ℕ). 0 ∷ r) (places-up n ms h.1))
places-up n (placed k p ∷ ms) h = rw (h.0, move_places) (ap (λ (r : List ℕ). (n + p) ∷ r) (places-up n ms h.1))

pub join-marks : (n : ℕ) (ma mb : List Mark) → AllProper mb → join (of_marks ma) (move_tree n (of_marks mb)) ≡ of_marks (ma ++ move_up n mb)
unfolding join move_tree of_marks move_up
join-marks n ma mb h i = record {
  count = (sym (length-append ma (move_up n mb) ∙ ap (λ k. length ma + k) (length-map mb (up n)))) i;
  kinds = (sym (map-append kind_of ma (move_up n mb) ∙ ap (λ r. map kind_of ma ++ r) (kinds-up n mb))) i;
  places = (ap (λ r. map place_of ma ++ r) (places-up n mb h) ∙ sym (map-append place_of ma (move_up n mb))) i;
}

-- a tree tells its marks
pub marks-same : (ms ns : List Mark) → AllProper ms → AllProper ns → of_marks ms ≡ of_marks ns → ms ≡ ns
unfolding of_marks
marks-same ms ns p q e = sym (proper-marks ms p) ∙ ap (λ (t : Tree). marks_by t.kinds t.places) e ∙ proper-marks ns q

-- errors moved up
-- moving up keeps an error's number, and moves its group
kind-up : (n : ℕ) (k : ErrorKind) (a b c d : ℕ) → ((words_of (up_kind n k)).number ≡ (words_of k).number)
    × (move_group n (words_of k).number (a ∷ b ∷ c ∷ d ∷ (words_of k).first ∷ (words_of k).second ∷ [])
    ≡ (n + a) ∷ (n + b) ∷ (n + c) ∷ (n + d) ∷ (words_of (up_kind n k)).first ∷ (words_of (up_kind n k)).second ∷ [])
unfolding move_group has_span
kind-up n (Kinds.ExpectedToken x) a b c d = (refl, refl)
kind-up n (Kinds.ExpectedCharRange x) a b c d = (refl, refl)
kind-up n (Kinds.ExpectedMessageField x y) a b c d = (refl, refl)
kind-up n (Kinds.ExpectedTermField x y) a b c d = (refl, refl)
kind-up n Kinds.ForbiddenCallee a b c d = (refl, refl)
kind-up n Kinds.MissingDefaultVariant a b c d = (refl, refl)
kind-up n Kinds.MissingValue a b c d = (refl, refl)
kind-up n Kinds.MultipleDefaultVariants a b c d = (refl, refl)
kind-up n Kinds.MessageReferenceAsSelector a b c d = (refl, refl)
kind-up n Kinds.TermReferenceAsSelector a b c d = (refl, refl)
kind-up n Kinds.MessageAttributeAsSelector a b c d = (refl, refl)
kind-up n Kinds.TermAttributeAsPlaceable a b c d = (refl, refl)
kind-up n Kinds.UnterminatedStringLiteral a b c d = (refl, refl)
kind-up n Kinds.PositionalArgumentFollowsNamed a b c d = (refl, refl)
kind-up n (Kinds.DuplicatedNamedArgument x y) a b c d = (refl, refl)
kind-up n (Kinds.UnknownEscapeSequence x) a b c d = (refl, refl)
kind-up n (Kinds.InvalidUnicodeEscapeSequence x y) a b c d = (refl, refl)
kind-up n Kinds.UnbalancedClosingBrace a b c d = (refl, refl)
kind-up n Kinds.ExpectedInlineExpression a b c d = (refl, refl)
kind-up n Kinds.ExpectedSimpleExpressionAsSelector a b c d = (refl, refl)
kind-up n Kinds.ExpectedLiteral a b c d = (refl, refl)

number_up : (n : ℕ) (e : Error) → error_number (up_error n e) ≡ error_number e
unfolding error_number up_error
number_up n e = (kind-up n e.fault.kind 0 0 0 0).0

group-up : (n : ℕ) (e : Error) → move_group n (error_number e) (group e) ≡ group (up_error n e)
unfolding group up_error error_number
group-up n e = (kind-up n e.fault.kind e.fault.start e.fault.end e.junk_from e.junk_till).1

numbers_up : (n : ℕ) (es : List Error) → map error_number (map (up_error n) es) ≡ map error_number es
numbers_up n [] = refl
numbers_up n (e ∷ es) = ap₂ (λ (a : ℕ) (r : List ℕ). a ∷ r) (number_up n e) (numbers_up n es)

group-length : (e : Error) → length (group e) ≡ group_size
unfolding group
group-length e = refl

groups-up : (n : ℕ) (es : List Error) → move_groups n (map error_number es) (groups es) ≡ groups (map (up_error n) es)
unfolding move_groups groups
groups-up n [] = refl
groups-up n (e ∷ es) =
    ap₂ (λ (a b : List ℕ). a ++ b)
    (ap (move_group n (error_number e)) (take_at (group e) (groups es) group_size (group-length e)) ∙ group-up n e)
    (ap (move_groups n (map error_number es)) (drop_at (group e) (groups es) group_size (group-length e)) ∙ groups-up n es)

pub move-errors : (n : ℕ) (es : List Error) → move_errors n (of_errors es) ≡ of_errors (map (up_error n) es)
unfolding move_errors of_errors
move-errors n es i = record { count = (sym (length-map es (up_error n))) i; kinds = (sym (numbers_up n es)) i; groups = groups-up n es i }
