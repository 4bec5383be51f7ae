-- `list::put_pair` meets its contract: two stores in a row.
use native.Mathlib.Numerals.{add-one}
use native.Mathlib.Omega.{arith}
use mathlib.Core.Path.{ap}
use lib.ListN.{set, length-set}
use Rattle.parser.proofs.list.put_pair.Goals as goal

pub bounds-list-next : goal.bounds-list-next
bounds-list-next c = simp length-set (omega arith)

pub returns : goal.returns
returns c = (ap (λ k. set (set c.args.list.now c.args.at c.args.a) k c.args.b) (add-one c.args.at), simp length-set)
