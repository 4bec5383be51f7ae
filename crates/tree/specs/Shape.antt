-- How the code's states stand for those of the definition, and what it knows of them.
use Rattle.std.specs.Prelude.{ℕ, zero, suc, ◌≡◌, Bool, true, List, [], ◌∷◌, get_or, Some, None, Ok, Err, ⊤}
use Rattle.std.specs.declared.option.Option as Rust
use Rattle.std.specs.declared.result.Result.{Result}
use Rattle.std.proofs.Math.Option.{Option, some, none}
use Rattle.syntax.specs.Kind as Kind
use Rattle.syntax.specs.Limits.{max_open}
use Rattle.syntax.specs.Shape.{top, between, within}
use Rattle.syntax.specs.Shape as Definition
use Rattle.laws.specs.Shape.Check.{Around}
use Rattle.laws.specs.Shape.Bound.{Small}
use Rattle.tree.specs.Models.{parent}
use Rattle.tree.specs.declared.models.Node.{Node}
use Rattle.tree.specs.declared.check.Open.{Open}
use Rattle.tree.specs.declared.check.State.{State}
use Rattle.tree.specs.declared.check.State.TheVariants.{Between, Within}

-- the answer of the function `check_shape`
unfoldable pub shape_of : Option ℕ → Result ⊤ ℕ
shape_of none = Ok tt
shape_of (some v) = Err v

-- an open node as the definition has it
abbrev pub frame_of : Node → Definition.Frame
frame_of f = Definition.frame (parent f.kind) f.state

-- what stands on the stack where no node has been put
abbrev pub unused : Node
unused = record { kind = None; state = 0 }

-- the frames around a node at a depth, innermost first: the last on the stack is the innermost
unfoldable pub frames_in : List Node → (depth : ℕ) → List Definition.Frame
frames_in fs zero = []
frames_in fs (suc d) = frame_of (get_or fs d unused) ∷ frames_in fs d

-- the definition's state
unfoldable pub state_of : List Node → State → Definition.State
state_of fs (Between o) = between o.left (parent o.node.kind) o.node.state (frames_in fs o.depth)
state_of fs (Within j a o) = within (Kind.number_of j) a o.left (parent o.node.kind) o.node.state (frames_in fs o.depth)

-- what the definition answers where a step answers a state, or none
unfoldable pub outcome : List Node → Rust.Option State → Option Definition.State
outcome fs (Some s) = some (state_of fs s)
outcome fs None = none

-- an open node is as small as those that the check reaches, and only the list has no node around it
pub record Sits (left k q depth : ℕ) : Type 0 where
  pub small : Small max_open left k q depth
  pub list : k ≡ top → depth ≡ 0

-- the open nodes are such, the innermost and each around it as it stood there
pub record Fits (fs : List Node) (o : Open) : Type 0 where
  pub inner : Sits o.left (parent o.node.kind) o.node.state o.depth
  pub around : Around Sits o.left (parent o.node.kind) (frames_in fs o.depth)

-- What holds of every state that the check reaches: its open nodes fit, and a T child is of a T kind and starts on a boundary.
abbrev pub Reached : (boundary : ℕ → Bool) → List Node → State → Type 0
Reached boundary fs (Between o) = Fits fs o
Reached boundary fs (Within j a o) = (Kind.is_text (Kind.number_of j) ≡ true) × ((boundary a ≡ true) × Fits fs o)

-- the part of it that needs no stack
abbrev pub Known : State → Type 0
Known (Between o) = Sits o.left (parent o.node.kind) o.node.state o.depth
Known (Within j a o) = Unit {0}
