-- `Output::store` meets its contract: past the output's end nothing is stored.
use Rattle.std.proofs.Common.{◌-◌, length, sym, ap, ◌∙◌, arith}
use borrow.Rule.Slice.PartMut.{put_mid}
use Rattle.output.proofs.Stores.{sets-past, stored-part, stored-rest}
use Rattle.output.proofs.text.Output.store.Goals as goal

pub returns-then-end-self-clause-stored : goal.returns-then-end-self-clause-stored
returns-then-end-self-clause-stored c =
    let start = c.args.self.now in
    let k = c.saturating_add-end.result - start.at in
    ap (λ xs. put_mid start.at k start.bytes.now xs) c.copy.ensures
    ∙ stored-part start.bytes.now start.at k c.args.item.now (omega (arith, c.saturating_add-end.ensures)) (omega (arith, c.saturating_add-end.ensures))

pub returns-then-self-clause-stored : goal.returns-then-self-clause-stored
returns-then-self-clause-stored c =
    let start = c.args.self.now in
    let k = length start.bytes.now - start.at in
    ap (λ xs. put_mid start.at k start.bytes.now xs) c.copy-then-self.ensures
    ∙ stored-rest start.bytes.now start.at k c.args.item.now (omega arith) (omega (arith, c.saturating_add-end.ensures))

pub returns-else-self-clause-stored : goal.returns-else-self-clause-stored
returns-else-self-clause-stored c =
    let start = c.args.self.now in sym (sets-past start.bytes.now start.at c.args.item.now c.if-self.false)
