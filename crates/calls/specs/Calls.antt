-- Reading by the calls: slices of any length and content that are lent to `read`, and what `write` makes of the tree
-- that it leaves. What the calls leave
-- is given by their contracts alone.
use Rattle.std.specs.Prelude.{ℕ, ◌≤◌, ◌≡◌, Bool, List, length, take, Ok}
use Rattle.syntax.specs.Answer.{Answer}
use Rattle.syntax.specs.Limits.{max_open}
use Rattle.syntax.specs.Core as Core
use Rattle.syntax.specs.Core.{parse}
use Rattle.syntax.specs.Reading.{read_answer}
use Rattle.cut.specs.Claim.{View}
use Rattle.cut.specs.Definition.{kinds_of, tree_in, errors_in}
use Rattle.parser.specs.Call.{DidRead}
use Rattle.serializer.specs.Call.{DidWrite}

-- what a contract of a reading call says of a source, the two slices at entry and at exit, and the answer
abbrev pub ReadContract : Type 1
ReadContract = (s tree tree' errors errors' : List ℕ) → Answer → Type 0

-- a call with such a contract: the words that it was lent, what they are at its exit, and its answer
pub record Reading (Did : ReadContract) (s : List ℕ) : Type 0 where
  pub lent_tree : List ℕ
  pub lent_errors : List ℕ
  pub tree : List ℕ
  pub errors : List ℕ
  pub answer : Answer
  pub did : Did s lent_tree tree lent_errors errors answer

-- an accepted call of `write` with a source, a tree and the flag `junk`: its output before and after, and how many
-- bytes it wrote, which are the text
pub record Writing (s tree : List ℕ) (junk : Bool) (text : List ℕ) : Type 0 where
  pub lent : List ℕ
  pub output : List ℕ
  pub size : ℕ
  pub did : DidWrite s tree lent output junk (Ok size)
  pub wrote : text ≡ take size output

-- a view by a reading call and `write`. What is read of a source, and whether a reading is accepted, goes by the
-- definitions, not by what the call answers
abbrev pub called : (parse : List ℕ → Core.Reading) (answer : List ℕ → ℕ → ℕ → Answer) → ReadContract → View
called parse answer Did = record {
  kinds = λ s. kinds_of (parse s);
  Reading = Reading Did;
  Accepted = λ s r. answer s (length r.lent_tree) (length r.lent_errors) ≡ Ok 0;
  tree = λ s r. tree_in r.tree;
  errors = λ s r. errors_in r.errors;
  Text = λ s r. Writing s r.tree;
}

-- by `read`
abbrev pub calls : View
calls = called (parse max_open) read_answer DidRead

-- The tree that an accepted reading left is never refused as ill-formed: for every output there is a text of `size`
-- bytes, and `write` refuses only where
-- the output is shorter. So a view by the calls has the texts that its claim speaks of.
pub record Written (s tree : List ℕ) (junk : Bool) : Type 0 where
  pub size : ℕ
  pub did : (o o' : List ℕ) (answer : Answer) → DidWrite s tree o o' junk answer → size ≤ length o → answer ≡ Ok size

abbrev pub Writable : Type 0
Writable = (s : List ℕ) (r : Reading DidRead s) → calls.Accepted s r → (junk : Bool) → Written s r.tree junk
