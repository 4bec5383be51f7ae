-- `source::Source::get_comment_line` meets its contract.
use native.Mathlib.Omega.{arith}
use mathlib.Core.Path.{refl}
use Rattle.entry.proofs.Lines.{line-passed}
use Rattle.entry.proofs.source.Source.get_comment_line.Goals as goal

pub overflow_add-self : goal.overflow_add-self
overflow_add-self c =
    let p = line-passed c.args.self.now.inside c.line_length.ensures in
    let w = p.within in
    let s = c.args.self.now.short in
    omega arith

pub invariant_of-self : goal.invariant_of-self
invariant_of-self c =
    let p = line-passed c.args.self.now.inside c.line_length.ensures in
    record { inside = p.within; short = c.args.self.now.short }

pub returns : goal.returns
returns c = record { bytes = refl; passed = line-passed c.args.self.now.inside c.line_length.ensures }
