-- The content models as the code's table has them.
use Rattle.std.specs.Prelude.{ℕ, ◌+◌, ◌*◌, ◌≤◌, ◌≡◌, Bool, true, false, List, [], get_or, Some, None}
use Rattle.std.specs.declared.option.Option as Rust
use Rattle.std.proofs.Math.Option.{Option, some, none}
use Rattle.syntax.specs.Kind as Kind
use Rattle.syntax.specs.declared.kind.Kind.{Kind}
use Rattle.syntax.specs.Shape.{top, step, final}
use Rattle.tree.specs.declared.models.Next.{Next}
use Rattle.tree.specs.declared.models.Next.TheVariants.{Text, Node}

-- the number of the kind of a node that has children: the list has no kind
abbrev pub parent : Rust.Option Kind → ℕ
parent None = top
parent (Some k) = Kind.number_of k

-- the answer of the method `step` on a child that is a T kind or not
unfoldable pub next_of : (text : Bool) → Option ℕ → Rust.Option Next
next_of text none = None
next_of true (some r) = Some (Text r)
next_of false (some r) = Some (Node r)

-- its byte in the table
unfoldable pub byte_of : (text : Bool) → Option ℕ → ℕ
byte_of text none = 45
byte_of true (some r) = 48 + r
byte_of false (some r) = 97 + r

-- the byte of a state in which a node may end, or may not
unfoldable pub end_byte : Bool → ℕ
end_byte true = 43
end_byte false = 45

abbrev pub Table : Type 0
Table = List (List ℕ)

-- the byte of the child j in the state q of the kind k: a kind has a row of 28 bytes for each state
abbrev pub entry : Table → (k q j : ℕ) → ℕ
entry t k q j = get_or (get_or t k []) (28 * q + j) 0

-- the table's bytes are those of the content models
pub record Right (t : Table) : Type 0 where
  pub next : (k q j : ℕ) → k ≤ Kind.named_argument → q ≤ 3 → j ≤ Kind.named_argument → entry t k q j ≡ byte_of (Kind.is_text j) (step k q j)
  pub end : (k q : ℕ) → k ≤ Kind.named_argument → q ≤ 3 → entry t k q 27 ≡ end_byte (final k q)
