-- `parser::Parser::trim` meets its contract.
use mathlib.Core.Path.{refl, sym, ◌∙◌}
use native.Mathlib.Omega.{arith}
use Rattle.entry.proofs.Settle.{still, text-within, trim-fits, trim-text, trim-none-text}
use Rattle.entry.proofs.parser.Parser.trim.Goals as goal

pub slice_bounds-trimmed_length-count : goal.slice_bounds-trimmed_length-count
slice_bounds-trimmed_length-count c = (text-within c.requires c.kind.ensures c.place-start.ensures c.place-end.ensures (c.if-kind-closing.true ∙ c.closing.ensures)).0

pub slice_bounds-trimmed_length-start : goal.slice_bounds-trimmed_length-start
slice_bounds-trimmed_length-start c = omega (arith, text-within c.requires c.kind.ensures c.place-start.ensures c.place-end.ensures (c.if-kind-closing.true ∙ c.closing.ensures))

pub slice_bounds-trimmed_length-end : goal.slice_bounds-trimmed_length-end
slice_bounds-trimmed_length-end c = omega (arith, text-within c.requires c.kind.ensures c.place-start.ensures c.place-end.ensures (c.if-kind-closing.true ∙ c.closing.ensures))

pub overflow_add-self : goal.overflow_add-self
overflow_add-self c =
    let q = trim-fits c.requires c.kind.ensures c.place-start.ensures c.place-end.ensures (c.if-kind-closing.true ∙ c.closing.ensures) c.trimmed_length-length.ensures in
    record { fits = omega arith }

pub overflow_cast-self : goal.overflow_cast-self
overflow_cast-self c =
    let q = trim-fits c.requires c.kind.ensures c.place-start.ensures c.place-end.ensures (c.if-kind-closing.true ∙ c.closing.ensures) c.trimmed_length-length.ensures in
    record { fits = omega arith }

pub returns-then-kind-closing-clause-reads : goal.returns-then-kind-closing-clause-reads
returns-then-kind-closing-clause-reads c =
    trim-text c.requires c.kind.ensures c.place-start.ensures c.place-end.ensures (c.if-kind-closing.true ∙ c.closing.ensures) c.trimmed_length-length.ensures
    (still refl refl refl refl) refl

pub returns-else-kind-closing-clause-reads : goal.returns-else-kind-closing-clause-reads
returns-else-kind-closing-clause-reads c =
    trim-none-text c.requires c.kind.ensures (still refl refl refl refl) refl (λ e. c.if-kind-closing.false (e ∙ sym c.closing.ensures))
