-- The check's answers on lists for each content model, and at each place where the value of refusal 6 is decided.
-- The source of the rows has its boundaries at 0 to 6.
use Rattle.std.specs.Prelude.{ℕ, ◌≡◌, refl, Bool, List, [], ◌∷◌, ◌++◌, map, leb}
use Rattle.std.proofs.Math.Option.{Option, some, none}
use Rattle.syntax.specs.Kind as Kind
use Rattle.syntax.specs.Marks.{Mark, plain, placed, node, text_node}
use Rattle.syntax.specs.Shape.{top, models, among, step_in, step_by, final_by, step, final, opens, needs, enter}
use Rattle.syntax.specs.Shape.{leave, step_mark, may_end, judge, verdict}

-- a limit on the openings, a list and the answer
pub data Row : Type 0 where
  row : (limit : ℕ) → List Mark → Option ℕ → Row

abbrev boundary : ℕ → Bool
boundary p = leb p 6

abbrev answer : Row → Option ℕ
answer (row limit ms v) = verdict boundary limit ms

abbrev wanted : Row → Option ℕ
wanted (row limit ms v) = v

abbrev t : ℕ → List Mark
t j = text_node j 1 2

abbrev name : List Mark
name = t Kind.identifier

abbrev value : List Mark
value = node Kind.pattern []

abbrev entry : List Mark
entry = node Kind.message name

-- one more than the last kind
abbrev unknown : ℕ
unknown = 27

-- a message that holds the expression, in a placeable
abbrev holding : List Mark → List Mark
holding ms = node Kind.message (name ++ node Kind.pattern (node Kind.placeable ms))

abbrev call : List Mark → List Mark
call ms = node Kind.function (name ++ node Kind.arguments ms)

abbrev pub rows : List Row
rows =
    row 1 [] none
    -- the top
    ∷ row 1 (entry ++ node Kind.term (name ++ value)) none
    ∷ row 1
    (node Kind.comment [] ++ node Kind.group_comment (t Kind.comment_line)
    ++ node Kind.resource_comment (t Kind.comment_line ++ t Kind.comment_line) ++ t Kind.junk) none
    ∷ row 1 (node Kind.attached_comment (t Kind.comment_line) ++ entry) none
    ∷ row 1 (node Kind.attached_comment [] ++ node Kind.term (name ++ value)) none
    ∷ row 1 (node Kind.attached_comment [] ++ node Kind.comment []) (some 2)
    ∷ row 1 (node Kind.attached_comment [] ++ node Kind.attached_comment [] ++ entry) (some 2)
    ∷ row 1 (node Kind.attached_comment [] ++ t Kind.junk) (some 2)
    ∷ row 1 (entry ++ node Kind.attached_comment []) (some 6)
    ∷ row 1 name (some 0)
    ∷ row 1 (entry ++ value) (some 4)
    -- messages, terms, comments
    ∷ row 1 (node Kind.message (name ++ value ++ node Kind.attribute (name ++ value) ++ node Kind.attribute (name ++ value))) none
    ∷ row 1 (node Kind.message (name ++ node Kind.attribute (name ++ value))) none
    ∷ row 1 (node Kind.message (name ++ value ++ value)) (some 5)
    ∷ row 1 (node Kind.message []) (some 1)
    ∷ row 1 (node Kind.term (name ++ value ++ node Kind.attribute (name ++ value))) none
    ∷ row 1 (node Kind.term name) (some 3)
    ∷ row 1 (node Kind.term (name ++ node Kind.attribute (name ++ value))) (some 3)
    ∷ row 1 (node Kind.message (name ++ node Kind.attribute name)) (some 6)
    ∷ row 1 (node Kind.comment name) (some 1)
    -- patterns, placeables, selects
    ∷ row 2
    (node Kind.message
    (name
    ++ node Kind.pattern
    (t Kind.text ++ t Kind.text ++ node Kind.placeable (t Kind.string)
    ++ node Kind.placeable (t Kind.number)))) none
    ∷ row 2 (holding (node Kind.placeable (node Kind.variable name))) none
    ∷ row 1 (holding []) (some 5)
    ∷ row 1 (holding (t Kind.string ++ t Kind.string)) (some 7)
    ∷ row 1 (holding (node Kind.select (t Kind.number))) none
    ∷ row 1
    (holding
    (node Kind.select
    (t Kind.number ++ node Kind.default_variant (t Kind.identifier_key ++ value)
    ++ node Kind.variant (t Kind.number_key ++ value)))) none
    ∷ row 1 (holding (node Kind.select [])) (some 6)
    ∷ row 1 (holding (node Kind.select (node Kind.select (t Kind.number)))) (some 6)
    ∷ row 1 (holding (node Kind.select (t Kind.number ++ node Kind.variant (t Kind.number_key)))) (some 11)
    ∷ row 1 (holding (node Kind.select (t Kind.number ++ node Kind.variant value))) (some 9)
    -- references, arguments
    ∷ row 2 (holding (call (t Kind.string ++ node Kind.variable name ++ node Kind.named_argument (name ++ t Kind.number)))) none
    ∷ row 2 (holding (call (node Kind.named_argument (name ++ t Kind.number) ++ t Kind.number))) (some 15)
    ∷ row 2 (holding (call (node Kind.named_argument name))) (some 12)
    ∷ row 2 (holding (call (node Kind.select (t Kind.number)))) (some 9)
    ∷ row 2 (holding (node Kind.function name)) (some 8)
    ∷ row 1 (holding (node Kind.message_reference name)) none
    ∷ row 1 (holding (node Kind.message_reference (name ++ name))) none
    ∷ row 1 (holding (node Kind.message_reference (name ++ name ++ name))) (some 10)
    ∷ row 2 (holding (node Kind.term_reference (name ++ name ++ node Kind.arguments []))) none
    ∷ row 2 (holding (node Kind.term_reference (name ++ node Kind.arguments []))) none
    ∷ row 2 (holding (node Kind.term_reference name)) none
    ∷ row 2 (holding (node Kind.term_reference (name ++ node Kind.arguments [] ++ name))) (some 10)
    ∷ row 1 (holding (node Kind.variable (name ++ name))) (some 8)
    -- the limit: a placeable, a function and arguments can't begin with no opening left
    ∷ row 0 (holding (t Kind.string)) (some 4)
    ∷ row 1 (holding (node Kind.placeable (t Kind.string))) (some 5)
    ∷ row 1 (holding (call [])) (some 5)
    ∷ row 2 (holding (call (call []))) (some 9)
    ∷ row 1 (holding (node Kind.term_reference (name ++ node Kind.arguments []))) (some 8)
    ∷ row 2 (holding (call []) ++ holding (call [])) none
    -- places
    ∷ row 1 (text_node Kind.junk 6 6) none
    ∷ row 1 (text_node Kind.junk 3 2) (some 1)
    ∷ row 1 (text_node Kind.junk 7 7) (some 0)
    ∷ row 1 (text_node Kind.junk 6 7) (some 1)
    -- marks of no place in a list
    ∷ row 1 (plain Kind.message ∷ name ++ (plain (Kind.closing Kind.term) ∷ [])) (some 3)
    ∷ row 1 (placed Kind.junk 0 ∷ placed (Kind.closing Kind.identifier) 1 ∷ []) (some 1)
    ∷ row 1 (placed Kind.junk 0 ∷ plain (Kind.closing Kind.junk) ∷ []) (some 1)
    ∷ row 1 (entry ++ (plain (Kind.closing Kind.message) ∷ [])) (some 4)
    ∷ row 1 (plain (Kind.closing top) ∷ []) (some 0)
    ∷ row 1 (plain top ∷ []) (some 0)
    ∷ row 1 (plain unknown ∷ []) (some 0)
    ∷ row 1 (plain (Kind.closing unknown) ∷ []) (some 0)
    ∷ row 1 (plain Kind.junk ∷ plain (Kind.closing Kind.junk) ∷ []) (some 0)
    ∷ row 1 (placed Kind.comment 0 ∷ placed (Kind.closing Kind.comment) 0 ∷ []) (some 0)
    -- lists that end early
    ∷ row 1 (plain Kind.message ∷ name) (some 3)
    ∷ row 1 (placed Kind.junk 0 ∷ []) (some 1)
    ∷ []

pub answers : map answer rows ≡ map wanted rows
unfolding node text_node Kind.is_text models among step_in step_by final_by step final opens needs enter leave step_mark may_end judge verdict
answers = refl
