-- `text::get_text_slice` meets its contract.
use Rattle.std.specs.Prelude.{◌≡◌, false, eqb, take, None, Some}
use Rattle.std.proofs.Common.{rules}
use mathlib.Core.Path.{sym, ◌∙◌}
use native.Mathlib.Omega.{arith}
use Rattle.syntax.specs.Byte as Byte
use Rattle.entry.proofs.Slices.{slice-eof, slice-closing, slice-opening, slice-crlf, slice-feed, ends-got}
use Rattle.entry.proofs.text.get_text_slice.Goals as goal

pub returns-in_default : goal.returns-in_default
returns-in_default c = slice-eof c.in_default.ensures c.slice.ensures

pub returns-in-125 : goal.returns-in-125
returns-in-125 c = slice-closing _ _ c.in-Some.ensures.0 c.in-Some.ensures.1 c.in-125.is

pub returns-in-123 : goal.returns-in-123
returns-in-123 c = slice-opening _ _ c.in-Some.ensures.0 c.in-Some.ensures.1 _ c.in-123.is c.slice-in-123.ensures

pub returns-in_default-rest : goal.returns-in_default-rest
returns-in_default-rest c =
    let e : c.eq.result ≡ elim c.last.result [ None ↦ false | Some x ↦ eqb x.now Byte.carriage_return ] = search rules in
    let r = ends-got (take c.in-Some.end c.args.rest.now) c.last.result c.last.ensures.item.0 c.last.ensures.item.1 e in
    slice-crlf _ _ c.in-Some.ensures.0 c.in-Some.ensures.1 _ (λ q. omega arith) (λ q. omega arith) (sym c.if-eq.true ∙ r) c.slice-in_default-rest.ensures

pub returns-in_default-2 : goal.returns-in_default-2
returns-in_default-2 c =
    let e : c.eq.result ≡ elim c.last.result [ None ↦ false | Some x ↦ eqb x.now Byte.carriage_return ] = search rules in
    let r = ends-got (take c.in-Some.end c.args.rest.now) c.last.result c.last.ensures.item.0 c.last.ensures.item.1 e in
    slice-feed _ _ c.in-Some.ensures.0 c.in-Some.ensures.1 _ (λ q. omega arith) (λ q. omega arith) (sym c.if-eq.false ∙ r) c.slice-in_default-2.ensures
