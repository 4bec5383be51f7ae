-- `put_error` meets its contract.
use Rattle.std.proofs.Common.{ap, ap₂, ◌∙◌, arith, [], ◌∷◌, get_or}
use Rattle.syntax.specs.Listing.{line}
use Rattle.output.proofs.Puts.{did-length, did_as}
use Rattle.output.proofs.Lines.{put_first}
use Rattle.marks.proofs.Lines.{put-after, six}
use Rattle.marks.proofs.listing.put_error.Goals as goal

pub returns : goal.returns
returns c =
    let kind = c.put_field.ensures in
    let position = c.put_span.ensures in
    let junk = c.put_span-2.ensures in
    let last = put-after _ _ _ _ (omega (arith, did-length kind, did-length position)) junk c.put_pair.ensures in
    let rest = put-after _ _ _ _ (omega (arith, did-length kind)) position last in
    did_as (put_first _ _ _ (omega arith) kind rest) (ap line
    (ap₂ (λ k ws. k ∷ ws) c.from.ensures
    (ap₂
    (λ x y. get_or c.args.group.now 0 0 ∷ get_or c.args.group.now 1 0 ∷ get_or c.args.group.now 2 0
    ∷ get_or c.args.group.now 3 0 ∷ x ∷ y ∷ [])
    c.from-2.ensures c.from-3.ensures
    ∙ six c.args.group.now c.told-group)))
