-- `after_inline` meets its contract.
use mathlib.Core.Path.{refl}
use Rattle.std.proofs.lemmas.Result.{err_from_is_err_and}
use Rattle.entry.proofs.Tests.{by}
use Rattle.entry.proofs.Follows.{arrow-tested, followed-alone, followed-attribute, followed-selector, followed-unended, followed-select}
use Rattle.entry.proofs.source.Source.after_inline.Goals as goal

pub returns-in_err-check_placeable : goal.returns-in_err-check_placeable
returns-in_err-check_placeable c =
    let p = err_from_is_err_and c.from_residual.result c.from_residual.ensures.1 in
    let h = by (arrow-tested c.skip_blank.new.self c.starts_with.ensures.value) c.if-not-starts_with.true in
    rw (p.1, p.2) (followed-attribute c.args.exp c.skip_blank.ensures h c.check_placeable.ensures c.in_err-check_placeable.was)

pub returns-then-not-starts_with : goal.returns-then-not-starts_with
returns-then-not-starts_with c =
    let h = by (arrow-tested c.skip_blank.new.self c.starts_with.ensures.value) c.if-not-starts_with.true in
    followed-alone c.args.exp c.skip_blank.ensures h c.check_placeable.ensures c.in_ok-check_placeable.was

pub returns-in_err-check_selector : goal.returns-in_err-check_selector
returns-in_err-check_selector c =
    let p = err_from_is_err_and c.from_residual-in_err-check_selector.result c.from_residual-in_err-check_selector.ensures.1 in
    let h = by (arrow-tested c.skip_blank.new.self c.starts_with.ensures.value) c.if-not-starts_with.false in
    rw (p.1, p.2) (followed-selector c.args.exp c.skip_blank.ensures h c.check_selector.ensures c.in_err-check_selector.was)

pub returns-then-not-skip_eol : goal.returns-then-not-skip_eol
returns-then-not-skip_eol c =
    let h = by (arrow-tested c.skip_blank.new.self c.starts_with.ensures.value) c.if-not-starts_with.false in
    rw c.error.ensures
    (followed-unended c.args.exp c.skip_blank.ensures h c.check_selector.ensures c.in_ok-check_selector.was refl refl
    c.skip_blank_inline.ensures (rw c.if-not-skip_eol.true at c.skip_eol.ensures))

pub returns : goal.returns
returns c =
    let h = by (arrow-tested c.skip_blank.new.self c.starts_with.ensures.value) c.if-not-starts_with.false in
    followed-select c.args.exp c.skip_blank.ensures h c.check_selector.ensures c.in_ok-check_selector.was refl refl
    c.skip_blank_inline.ensures (rw c.if-not-skip_eol.false at c.skip_eol.ensures) c.skip_blank-2.ensures
