-- `layout::finish` meets its contract: two sizes, and zeros behind both arrays.
use native.Mathlib.Omega.{arith}
use Prim.Native.Nat.{◌+◌}
use mathlib.Core.Path.{ap, ◌∙◌}
use lib.ListN.{set, length-set}
use Rattle.parser.proofs.Zeros.{zeroed, zero-length, finish-is}
use Rattle.parser.proofs.layout.finish.Goals as goal

pub bounds-slice-1 : goal.bounds-slice-1
bounds-slice-1 c = simp length-set (omega arith)

pub zero-requires : goal.zero-requires
zero-requires c = (omega arith, simp length-set (omega arith))

pub zero-requires-2 : goal.zero-requires-2
zero-requires-2 c =
    let start = c.args in
    let l =
    zero-length (2 + start.n) (2 + start.cap) (set (set start.slice.now 0 start.n) 1 start.cap) c.zero.new.slice
    (omega arith) (simp length-set (omega arith)) c.zero.ensures in
    let k = simp length-set at l in (omega arith, omega arith)

pub shape_of-slice : goal.shape_of-slice
shape_of-slice c =
    let start = c.args in
    let sized = set (set start.slice.now 0 start.n) 1 start.cap in
    let l =
    zero-length (2 + start.n) (2 + start.cap) sized c.zero.new.slice (omega arith)
    (simp length-set (omega arith)) c.zero.ensures in
    let k = simp length-set at l in
    zero-length (2 + start.cap + start.used) (2 + start.cap + start.size) c.zero.new.slice c.zero-2.new.slice
    (omega arith) (omega arith) c.zero-2.ensures
    ∙ k

pub returns : goal.returns
unfolding zeroed
returns c =
    let start = c.args in
    c.zero-2.ensures ∙ ap (zeroed (2 + start.cap + start.used) (2 + start.cap + start.size)) c.zero.ensures
    ∙ finish-is start.slice.now start.cap start.n start.size start.used c.requires
