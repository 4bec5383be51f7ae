-- `resource::parse` meets its contract: entry by entry.
use Rattle.std.specs.Prelude.{◌≡◌, ◌-◌, length}
use Rattle.parser.specs.Resource.{Same, Framed, Held}
use Rattle.parser.proofs.resource.parse.Given as goal

abbrev pub invariant-loop-resource : goal.invariant-loop-resource
invariant-loop-resource l =
    let x = l.initial.resource in
    let y = l.resource in
    record {
      source : y.source.now ≡ l.source;
      same : Same x y;
      framed : Framed l.source x.tree.now y.tree.now x.errors.now y.errors.now;
      held : Held l.source y;
    }

abbrev pub decreases-loop-resource : goal.decreases-loop-resource
decreases-loop-resource l = length l.source - l.resource.at
