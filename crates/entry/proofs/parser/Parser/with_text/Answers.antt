-- `parser::Parser::with_text` meets its contract.
use Rattle.std.specs.Prelude.{◌≡◌}
use mathlib.Core.Path.{refl, sym, ap, ◌∙◌}
use Rattle.std.specs.Prelude.{◌+◌}
use Rattle.entry.specs.Elements.{opening}
use Rattle.entry.specs.Texts.{starts_line}
use Rattle.entry.proofs.TextStates.{line_tested, opens_line, opens_text, text-blank, text-full}
use Rattle.entry.proofs.parser.Parser.with_text.Goals.{then-eq, else-eq}
use Rattle.entry.proofs.parser.Parser.with_text.Goals as goal

pub returns-then-slice-clause-reads : goal.returns-then-slice-clause-reads
returns-then-slice-clause-reads c =
    let o : c.if-eq.opening ≡ opening (starts_line c.args.st.role) =
    elim c.if-eq.branch [
      | then-eq w ↦ opens_line _ (line_tested c.args.st.role c.eq.ensures) w.if-eq.true w.opening-is
      | else-eq w ↦ opens_text _ (line_tested c.args.st.role c.eq.ensures) w.if-eq.false (w.opening-is ∙ w.number-opening.ensures)
    ] in
    text-blank c.args.self.now _ c.args.st c.args.start c.args.slice refl (ap (λ n. c.args.self.now.source.ptr + c.args.slice.size + n) c.crlf_width.ensures)
    (sym c.is_element.ensures ∙ c.if-not-is_element.false) o c.next_position-role.ensures c.lines_with-lines.ensures c.put.ensures c.close_at.ensures c.if-slice.true

pub returns-clause-reads : goal.returns-clause-reads
returns-clause-reads c =
    let o : c.if-eq.opening ≡ opening (starts_line c.args.st.role) =
    elim c.if-eq.branch [
      | then-eq w ↦ opens_line _ (line_tested c.args.st.role c.eq.ensures) w.if-eq.true w.opening-is
      | else-eq w ↦ opens_text _ (line_tested c.args.st.role c.eq.ensures) w.if-eq.false (w.opening-is ∙ w.number-opening.ensures)
    ] in
    text-full c.args.self.now _ c.args.st c.args.start c.args.slice refl (ap (λ n. c.args.self.now.source.ptr + c.args.slice.size + n) c.crlf_width.ensures)
    (sym c.is_element.ensures ∙ c.if-not-is_element.false) o c.next_position-role.ensures c.lines_with-lines.ensures c.put.ensures c.close_at.ensures c.if-slice.false
    c.least_indent.ensures
