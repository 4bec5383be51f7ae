-- `pattern::indent` meets its contract.
use Rattle.std.specs.Prelude.{◌≡◌, length, take, eqb}
use Rattle.std.specs.List.{take_while}
use Rattle.std.proofs.Common.{rules, tests}
use Rattle.std.proofs.lemmas.Iterator.{YieldsList-from_slice, YieldsList-from_take}
use Rattle.std.proofs.lemmas.Iterator.Consumers.{count_from_yields_List}
use Rattle.std.proofs.lemmas.Iterator.Search.{YieldsList-from_take_while}
use Rattle.entry.proofs.Settle.{indent-counted, indent-outside}
use Rattle.entry.proofs.pattern.indent.Goals as goal

pub returns-in_default : goal.returns-in_default
returns-in_default c = indent-outside c.args.bytes.now c.args.at c.args.most (rw c.in_default.is at c.get.ensures.lookup).0

pub returns : goal.returns
returns c =
    let n : c.count.result ≡ length (take_while (λ b. eqb b 32) (take c.args.most c.in-Some.rest.now)) =
    count_from_yields_List c.take_while.result _ c.count.ensures.ran
    (YieldsList-from_take_while _ (λ b. eqb b 32)
    (YieldsList-from_take c.args.most (YieldsList-from_slice c.in-Some.rest.now cc) cc) c.take_while.ensures.closure
    c.take_while.ensures.done (λ x b q k. search (rules, tests))) in
    let l = rw c.in-Some.is at c.get.ensures.lookup in
    indent-counted c.args.bytes.now c.args.at c.args.most c.count.result c.in-Some.rest.now l.0.2 n
