-- `source::Source::get_comment_level` meets its contract.
use Rattle.std.specs.Prelude.{◌≡◌, ◌+◌, ◌-◌, ◌≤◌, length, take, drop, eqb}
use Rattle.std.proofs.Common.{rules, tests}
use Rattle.std.proofs.lemmas.Iterator.{YieldsList-from_slice, YieldsList-from_take}
use Rattle.std.proofs.lemmas.Iterator.Consumers.{count_from_yields_List}
use Rattle.std.proofs.lemmas.Iterator.Search.{YieldsList-from_take_while}
use mathlib.Core.Path.{refl}
use native.Mathlib.Omega.{arith}
use Rattle.syntax.specs.Comment.{level_of}
use Rattle.entry.specs.Place.{Passed}
use Rattle.entry.proofs.Comments.{hashes-counted}
use Rattle.entry.proofs.source.Source.get_comment_level.Goals as goal
use Rattle.entry.proofs.source.Source.get_comment_level.Goals.{After-count-hashes}

counted : (c : After-count-hashes) → let s = c.args.self.now.bytes.now in let at = c.args.self.now.ptr in let n = c.count-hashes.result in
    Passed s at (level_of (drop at s)) (at + n) × (n ≡ level_of (drop at s)) × (n ≤ 3)
counted c =
    let s = c.args.self.now.bytes.now in
    let at = c.args.self.now.ptr in
    hashes-counted s at c.count-hashes.result c.args.self.now.inside
    (count_from_yields_List c.take_while.result _ c.count-hashes.ensures.ran
    (YieldsList-from_take_while _ (λ b. eqb b 35)
    (YieldsList-from_take 3 (YieldsList-from_slice (take (length s - at) (drop at s)) cc) cc) c.take_while.ensures.closure
    c.take_while.ensures.done (λ x b q k. search (rules, tests))))

pub overflow_add-self : goal.overflow_add-self
overflow_add-self c = let w = (counted c).0.within in let s = c.args.self.now.short in omega arith

pub invariant_of-self : goal.invariant_of-self
invariant_of-self c = record { inside = (counted c).0.within; short = c.args.self.now.short }

pub returns-in-0 : goal.returns-in-0
returns-in-0 c =
    let k = counted (goal.at.returns-in-0 c).After-count-hashes in
    record { passes = record { bytes = refl; passed = k.0 }; told = omega (arith, c.in-0.is, k.1) }

pub returns-in-1 : goal.returns-in-1
returns-in-1 c =
    let k = counted (goal.at.returns-in-1 c).After-count-hashes in
    record { passes = record { bytes = refl; passed = k.0 }; told = omega (arith, c.in-1.is, k.1) }

pub returns-in-2 : goal.returns-in-2
returns-in-2 c =
    let k = counted (goal.at.returns-in-2 c).After-count-hashes in
    record { passes = record { bytes = refl; passed = k.0 }; told = omega (arith, c.in-2.is, k.1) }

pub returns-in_default : goal.returns-in_default
returns-in_default c =
    let k = counted (goal.at.returns-in_default c).After-count-hashes in
    record { passes = record { bytes = refl; passed = k.0 }; told = omega (arith, k.1, k.2) }
