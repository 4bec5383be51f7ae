-- `text::copy` meets its contract: in the loop the bytes so far have been stored.
use Rattle.std.proofs.Common.{ap, ◌∙◌, arith, zero-add}
use lib.ListN.{set, get_or}
use lib.Seq.{sets, take_all}
use Rattle.output.proofs.Stores.{sets-one, sets_all}
use Rattle.output.proofs.text.copy.Goals as goal

pub loop-i-preserved : goal.loop-i-preserved
loop-i-preserved c =
    let item = c.args.item.now in
    let i = c.loop-i.i in
    ap (λ l. set l i (get_or item i 0)) c.loop-i.invariant ∙ rw zero-add at (sets-one c.args.bytes.now 0 item i c.loop-i-test.true)

pub returns : goal.returns
returns c =
    let item = c.args.item.now in
    c.loop-i.invariant ∙ ap (sets c.args.bytes.now 0) (take_all c.loop-i.i item (omega (arith, c.loop-i-test.false))) ∙ sets_all c.args.bytes.now item c.requires
