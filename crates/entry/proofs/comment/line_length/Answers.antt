-- `comment::line_length` meets its contract.
use Rattle.std.specs.Prelude.{◌≡◌, true, false, eqb, take, None, Some}
use Rattle.std.proofs.Common.{rules}
use mathlib.Core.Path.{sym, ◌∙◌}
use Rattle.syntax.specs.Byte as Byte
use Rattle.entry.proofs.Lines.{line-unended, line-found}
use Rattle.entry.proofs.Slices.{ends-got}
use Rattle.entry.proofs.comment.line_length.Goals as goal

pub returns-in-Some : goal.returns-in-Some
returns-in-Some c =
    let e : c.eq.result ≡ elim c.last.result [ None ↦ false | Some x ↦ eqb x.now Byte.carriage_return ] = search rules in
    let r = ends-got (take c.in-Some.end c.args.rest.now) c.last.result c.last.ensures.item.0 c.last.ensures.item.1 e in
    line-found _ _ true c.in-Some.ensures (sym c.if-eq.true ∙ r)

pub returns-in-Some-2 : goal.returns-in-Some-2
returns-in-Some-2 c =
    let e : c.eq.result ≡ elim c.last.result [ None ↦ false | Some x ↦ eqb x.now Byte.carriage_return ] = search rules in
    let r = ends-got (take c.in-Some.end c.args.rest.now) c.last.result c.last.ensures.item.0 c.last.ensures.item.1 e in
    line-found _ _ false c.in-Some.ensures (sym c.if-eq.false ∙ r)

pub returns-in-None : goal.returns-in-None
returns-in-None c = line-unended _ c.in-None.ensures
