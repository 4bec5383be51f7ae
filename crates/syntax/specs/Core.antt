-- core.rs
use Rattle.std.specs.Prelude.{ℕ, zero, suc, ◌+◌, Bool, true, false, ◌&&◌, ◌||◌, not, List, [], ◌∷◌, ◌++◌, map, drop, length, eqb, ltb}
use Rattle.syntax.specs.Byte as Byte
use Rattle.syntax.specs.Kind as Kind
use Rattle.syntax.specs.Bytes.{starts_with, spaces, is_fresh}
use Rattle.syntax.specs.Errors as Errors
use Rattle.syntax.specs.Marks.{Mark, move_up, text_node, node}
use Rattle.syntax.specs.Errors.{ParserError, up_fault}
use Rattle.syntax.specs.Reader.{Out, ok, bad, deep, Reader, ◌>>=◌, ◌>>◌, pure, in_node, Turn, again, done, repeat}
use Rattle.syntax.specs.Helper.{skip_blank_inline, skip_blank_block, expect_byte, get_identifier}
use Rattle.syntax.specs.Comment.{get_comment}
use Rattle.syntax.specs.Pattern.{Inside, get_pattern, used_by}
use Rattle.syntax.specs.Expression.{level, needs_value}

-- get_attribute, after its '.'
unfoldable pub get_attribute : Inside → Reader (Unit {0})
get_attribute sub = in_node Kind.attribute do
  get_identifier Kind.identifier
  skip_blank_inline
  expect_byte Byte.equals
  value ← get_pattern sub
  needs_value value

-- an attribute k bytes on; one that fails ends the attributes at its line's start
unfoldable pub attribute_by : ℕ → ℕ → Out (Unit {0}) → Turn ℕ ℕ
attribute_by n k (ok u ms j) = again (suc n) (move_up k ms) (k + j)
attribute_by n k (bad f j) = done (ok n [] 0)
attribute_by n k (deep j) = done (deep (k + j))

unfoldable pub attribute_turn : Inside → ℕ → List ℕ → Turn ℕ ℕ
attribute_turn sub n s =
    let k = spaces s in
    elim (starts_with Byte.dot (drop k s)) [ true ↦ attribute_by n (k + 1) (get_attribute sub (drop (k + 1) s)) | false ↦ done (ok n [] 0) ]

-- get_attributes: answers how many
unfoldable pub get_attributes : Inside → Reader ℕ
get_attributes sub = repeat (attribute_turn sub) 0

-- what a message or a term has: its identifier's length, whether it has a pattern, and how many attributes
pub record Fields : Type 0 where
  pub name : ℕ
  pub value : Bool
  pub attributes : ℕ

unfoldable pub fields : Inside → Reader Fields
fields sub = do
  n ← get_identifier Kind.identifier
  skip_blank_inline
  expect_byte Byte.equals
  value ← get_pattern sub
  skip_blank_block
  count ← get_attributes sub
  pure (record { name = n; value = value; attributes = count })

unfoldable pub term_fields : Inside → Reader Fields
term_fields sub = do
  expect_byte Byte.minus
  fields sub

pub data Entry : Type 0 where
  comment : ℕ → Entry
  message term : Entry

unfoldable pub as_message : Out Fields → Out Entry
as_message (ok f ms k) =
    elim
    (f.value || not (eqb f.attributes 0)) [
      | true ↦ ok message ms k
      | false ↦ bad (Errors.fault_from_to (Errors.ExpectedMessageField 0 f.name) 0 k) k
    ]
as_message (bad f k) = bad f k
as_message (deep k) = deep k

unfoldable pub as_term : Out Fields → Out Entry
as_term (ok f ms k) =
    elim
    f.value [
      | true ↦ ok term ms k
      | false ↦ bad (Errors.fault_from_to (Errors.ExpectedTermField 1 (1 + f.name)) 0 k) k
    ]
as_term (bad f k) = bad f k
as_term (deep k) = deep k

unfoldable pub as_comment : Out ℕ → Out Entry
as_comment (ok l ms k) = ok (comment l) ms k
as_comment (bad f k) = bad f k
as_comment (deep k) = deep k

-- get_entry: what the entry is, with the marks inside it
unfoldable pub get_entry : Inside → Reader Entry
get_entry sub s =
    elim (starts_with Byte.hash s) [
      | true ↦ as_comment (get_comment s)
      | false ↦ elim (starts_with Byte.minus s) [ true ↦ as_term (term_fields sub s) | false ↦ as_message (fields sub s) ]
    ]

-- skip_to_next_entry_start: how far; `fresh` says that a line starts here
unfoldable pub to_next_entry : Bool → List ℕ → ℕ
to_next_entry fresh [] = 0
to_next_entry fresh (b ∷ bs) = elim (fresh && (is_fresh b)) [ true ↦ 0 | false ↦ suc (to_next_entry (eqb b Byte.line_feed) bs) ]

-- whether a line starts n bytes on, where one starts here
unfoldable pub line_starts_at : ℕ → List ℕ → Bool
line_starts_at zero s = true
line_starts_at (suc n) [] = false
line_starts_at (suc n) (b ∷ bs) = elim n [ zero ↦ eqb b Byte.line_feed | suc m ↦ line_starts_at n bs ]

-- the end of the junk of an entry whose reading stopped k bytes on
unfoldable pub junk_end : ℕ → List ℕ → ℕ
junk_end k s = k + to_next_entry (line_starts_at k s) (drop k s)

-- an error with its junk
pub record Error : Type 0 where
  pub fault : ParserError
  pub junk_from : ℕ
  pub junk_till : ℕ

unfoldable pub up_error : ℕ → Error → Error
up_error n e = record { fault = up_fault n e.fault; junk_from = n + e.junk_from; junk_till = n + e.junk_till }

-- a reading: the marks and the errors, or the offset of the opening that was one too many
pub data Reading : Type 0 where
  read : List Mark → List Error → Reading
  refused : ℕ → Reading

-- a reading that follows marks, errors and k bytes
unfoldable pub following : List Mark → List Error → ℕ → Reading → Reading
following ms es k (read ns fs) = read (ms ++ move_up k ns) (es ++ map (up_error k) fs)
following ms es k (refused j) = refused (k + j)

-- whether what starts a rest is a message or a term that can be read
unfoldable pub is_named : Out Entry → Bool
is_named (ok (comment l) ms k) = false
is_named (ok message ms k) = true
is_named (ok term ms k) = true
is_named (bad f k) = false
is_named (deep k) = false

unfoldable pub count : Out ℕ → ℕ
count (ok n ms k) = n
count (bad f k) = 0
count (deep k) = 0

-- the kind of an entry; a regular comment is attached to a message or term that follows within fewer than two line ends
unfoldable pub kind_of_entry : Entry → Bool → ℕ
kind_of_entry message near = 1
kind_of_entry term near = 2
kind_of_entry (comment l) near = elim (eqb l 1 && near) [ true ↦ 6 | false ↦ 2 + l ]

-- the entries of a rest that starts at one, at most n - 1 of them: each uses a byte
unfoldable pub entries : ℕ → Inside → List ℕ → Reading
entries zero sub s = refused 0
entries (suc n) sub [] = read [] []
entries (suc n) sub (b ∷ bs) =
    elim (get_entry sub (b ∷ bs)) [
      | ok e ms k ↦
          let gap = skip_blank_block (drop k (b ∷ bs)) in
          let rest = drop (k + used_by gap) (b ∷ bs) in
          following (node (kind_of_entry e (ltb (count gap) 2 && is_named (get_entry sub rest))) ms) [] (k + used_by gap) (entries n sub rest)
      | bad f k ↦
          let j = junk_end k (b ∷ bs) in
          let gap = skip_blank_block (drop j (b ∷ bs)) in
          following (text_node Kind.junk 0 j) (record { fault = f; junk_from = 0; junk_till = j } ∷ []) (j + used_by gap)
          (entries n sub (drop (j + used_by gap) (b ∷ bs)))
      | deep k ↦ refused k
    ]

-- Parser::parse, with at most n openings at a time
unfoldable pub parse : ℕ → List ℕ → Reading
parse n s = let k = used_by (skip_blank_block s) in following [] [] k (entries (suc (length s)) (level n) (drop k s))
