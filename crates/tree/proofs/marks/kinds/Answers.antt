-- `marks::kinds` meets its contract.
use native.Mathlib.Omega.{arith}
use mathlib.Core.Path.{sym}
use lib.ListN.{drop_of_length-le}
use lib.Seq.{take-nil}
use Rattle.std.proofs.lemmas.List.{take_min, take_rest}
use Rattle.syntax.specs.Layout.{count, kinds}
use Rattle.tree.proofs.marks.kinds.Goals as goal

pub returns-in_default : goal.returns-in_default
unfolding kinds
returns-in_default c = rw (drop_of_length-le c.args.tree.now {i = 2} (omega arith)) (sym (take-nil _))

pub returns : goal.returns
unfolding kinds count
returns c = rw (c.min.ensures, take_min, take_rest c.args.tree.now 2)
