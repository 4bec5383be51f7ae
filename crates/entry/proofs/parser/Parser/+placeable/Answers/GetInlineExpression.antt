-- `get_inline_expression`, a member of the cycle.
use native.Mathlib.Omega.{arith}
use mathlib.Core.Path.{ap, ◌∙◌}
use Rattle.std.specs.Prelude.{Ok}
use Rattle.std.proofs.lemmas.Result.{err_from_is_err_and}
use Rattle.syntax.specs.Byte as Byte
use Rattle.syntax.specs.Expression.{level, number, number_literal, inner, nested_placeable}
use Rattle.entry.specs.declared.expression.Start.TheVariants.{Reference, Term, Variable, Placeable}
use Rattle.entry.proofs.Chains.{reads-then, reads-pure, reads-fail, reads-room, stop-then}
use Rattle.entry.proofs.Cycle.{with-here, braces-bounded, reads-inline, reads-inline-stop}
use Rattle.entry.proofs.Starts.{starts-as, opens_as, unstarted}
use Rattle.entry.proofs.parser.Parser.+placeable.Goals as goal

pub get_inline_expression-returns-in_err-inline_start-clause-reads : goal.get_inline_expression-returns-in_err-inline_start-clause-reads
get_inline_expression-returns-in_err-inline_start-clause-reads t c =
    let p = err_from_is_err_and c.from_residual.result c.from_residual.ensures.1 in
    let u = unstarted (level c.args.left) c.args.only_literal _ c.inline_start.ensures c.in_err-inline_start.was in
    rw (p.1, p.2, u.error, u.is) (reads-fail _ _ u.kind _ u.up)

pub get_inline_expression-get_number_literal-requires : goal.get_inline_expression-get_number_literal-requires
get_inline_expression-get_number_literal-requires t c = record { spent = omega (arith, c.requires.spent) }

pub get_inline_expression-returns-in_err-get_number_literal-in-Number-clause-reads : goal.get_inline_expression-returns-in_err-get_number_literal-in-Number-clause-reads
unfolding number_literal
get_inline_expression-returns-in_err-get_number_literal-in-Number-clause-reads t c =
    let r = c.from_residual-in_err-get_number_literal-in-Number in
    let p = err_from_is_err_and r.result r.ensures.1 in
    rw (p.1, p.2, starts-as _ (level c.args.left) c.args.only_literal _ c.inline_start.ensures (c.in_ok-inline_start.was ∙ ap Ok c.in-Number.is))
    (stop-then _ _ (rw c.in_err-get_number_literal-in-Number.was at c.get_number_literal.ensures.reads))

pub get_inline_expression-get_reference-requires : goal.get_inline_expression-get_reference-requires
get_inline_expression-get_reference-requires t c =
    (omega (arith, c.decreases), (opens_as _ Reference c.args.only_literal _ c.inline_start.ensures (c.in_ok-inline_start.was ∙ ap Ok c.in-Reference.is), c.requires))

pub get_inline_expression-get_term_reference-requires : goal.get_inline_expression-get_term_reference-requires
get_inline_expression-get_term_reference-requires t c =
    (omega (arith, c.decreases), (opens_as _ Term c.args.only_literal _ c.inline_start.ensures (c.in_ok-inline_start.was ∙ ap Ok c.in-Term.is), c.requires))

pub get_inline_expression-get_variable_reference-requires-clause-begins : goal.get_inline_expression-get_variable_reference-requires-clause-begins
get_inline_expression-get_variable_reference-requires-clause-begins t c =
    opens_as _ Variable c.args.only_literal _ c.inline_start.ensures (c.in_ok-inline_start.was ∙ ap Ok c.in-Variable.is)

pub get_inline_expression-open-requires : goal.get_inline_expression-open-requires
get_inline_expression-open-requires t c =
    let p = c.args.self.now in
    let o = opens_as _ Placeable c.args.only_literal _ c.inline_start.ensures (c.in_ok-inline_start.was ∙ ap Ok c.in-Placeable.is) in
    record { room = omega (arith, with-here Byte.open_brace p.source o, c.requires.spent, p.holds) }

pub get_inline_expression-get_placeable-requires : goal.get_inline_expression-get_placeable-requires
get_inline_expression-get_placeable-requires t c =
    (omega (arith, c.decreases), (opens_as _ Placeable c.args.only_literal _ c.inline_start.ensures (c.in_ok-inline_start.was ∙ ap Ok c.in-Placeable.is), omega (arith, c.open.ensures.count, c.requires.spent)))

pub get_inline_expression-returns-in_err-get_placeable-in-Placeable-clause-reads : goal.get_inline_expression-returns-in_err-get_placeable-in-Placeable-clause-reads
unfolding nested_placeable
get_inline_expression-returns-in_err-get_placeable-in-Placeable-clause-reads t c =
    let r = c.from_residual-in_err-get_placeable-in-Placeable in
    let p = err_from_is_err_and r.result r.ensures.1 in
    rw (p.1, p.2, starts-as _ (level c.args.left) c.args.only_literal _ c.inline_start.ensures (c.in_ok-inline_start.was ∙ ap Ok c.in-Placeable.is))
    (reads-inline-stop _ _ c.open.ensures (stop-then _ _ (rw c.in_err-get_placeable-in-Placeable.was at c.get_placeable.ensures.reads)))

pub get_inline_expression-close-requires : goal.get_inline_expression-close-requires
get_inline_expression-close-requires t c =
    let q = c.get_placeable.new.self in
    let o = opens_as _ Placeable c.args.only_literal _ c.inline_start.ensures (c.in_ok-inline_start.was ∙ ap Ok c.in-Placeable.is) in
    let r = reads-room _ (braces-bounded c.args.left _ o) (rw c.in_ok-get_placeable-in-Placeable.was at c.get_placeable.ensures.reads) in
    record { room = omega (arith, r.room, c.open.ensures.count, c.requires.spent, q.holds, q.source.inside) }

pub get_inline_expression-returns-in-String-clause-reads : goal.get_inline_expression-returns-in-String-clause-reads
get_inline_expression-returns-in-String-clause-reads t c =
    rw (starts-as _ (level c.args.left) c.args.only_literal _ c.inline_start.ensures (c.in_ok-inline_start.was ∙ ap Ok c.in-String.is))
    c.get_string_literal.ensures.reads

pub get_inline_expression-returns-in_ok-get_number_literal-in-Number-clause-reads : goal.get_inline_expression-returns-in_ok-get_number_literal-in-Number-clause-reads
unfolding number_literal
get_inline_expression-returns-in_ok-get_number_literal-in-Number-clause-reads t c =
    rw (starts-as _ (level c.args.left) c.args.only_literal _ c.inline_start.ensures (c.in_ok-inline_start.was ∙ ap Ok c.in-Number.is))
    (reads-then _ _ (rw c.in_ok-get_number_literal-in-Number.was at c.get_number_literal.ensures.reads) (reads-pure _ _ number _))

pub get_inline_expression-returns-in-Reference-clause-reads : goal.get_inline_expression-returns-in-Reference-clause-reads
get_inline_expression-returns-in-Reference-clause-reads t c =
    rw (starts-as _ (level c.args.left) c.args.only_literal _ c.inline_start.ensures (c.in_ok-inline_start.was ∙ ap Ok c.in-Reference.is))
    c.get_reference.ensures.reads

pub get_inline_expression-returns-in-Term-clause-reads : goal.get_inline_expression-returns-in-Term-clause-reads
get_inline_expression-returns-in-Term-clause-reads t c =
    rw (starts-as _ (level c.args.left) c.args.only_literal _ c.inline_start.ensures (c.in_ok-inline_start.was ∙ ap Ok c.in-Term.is))
    c.get_term_reference.ensures.reads

pub get_inline_expression-returns-in-Variable-clause-reads : goal.get_inline_expression-returns-in-Variable-clause-reads
get_inline_expression-returns-in-Variable-clause-reads t c =
    rw (starts-as _ (level c.args.left) c.args.only_literal _ c.inline_start.ensures (c.in_ok-inline_start.was ∙ ap Ok c.in-Variable.is))
    c.get_variable_reference.ensures.reads

pub get_inline_expression-returns-in_ok-get_placeable-in-Placeable-clause-reads : goal.get_inline_expression-returns-in_ok-get_placeable-in-Placeable-clause-reads
unfolding nested_placeable
get_inline_expression-returns-in_ok-get_placeable-in-Placeable-clause-reads t c =
    rw (starts-as _ (level c.args.left) c.args.only_literal _ c.inline_start.ensures (c.in_ok-inline_start.was ∙ ap Ok c.in-Placeable.is))
    (reads-inline _ _ c.open.ensures
    (reads-then _ _ (rw c.in_ok-get_placeable-in-Placeable.was at c.get_placeable.ensures.reads) (reads-pure _ _ inner _)) c.close.ensures)
