-- `source::Source::is_eol` meets its contract.
use Rattle.std.specs.Prelude.{◌<◌, Bool, length}
use mathlib.Core.Path.{ap, ◌∙◌}
use native.Mathlib.Omega.{arith}
use borrow.Author.Tests.{eq-eqb}
use Rattle.entry.proofs.Lines.{ends-here, ends_by, ended}
use Rattle.entry.proofs.source.Source.is_eol.Goals as goal

pub returns-then-self : goal.returns-then-self
returns-then-self c =
    ap (λ (r : Bool). r) (eq-eqb _ _ c.if-self.true) ∙ ends-here _ _ c.if-self.true

pub returns-else-self : goal.returns-else-self
returns-else-self c =
    let l = c.args.self.inside in
    let h = c.if-self.false in
    let q : c.args.self.ptr < length c.args.self.bytes.now = omega arith in
    let e = ended c.skip_eol.ensures.went in
    ends_by _ _ _ q e.is
