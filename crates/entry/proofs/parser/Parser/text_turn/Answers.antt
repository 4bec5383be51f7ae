-- `parser::Parser::text_turn` meets its contract.
use mathlib.Core.Path.{refl, sym, ◌∙◌}
use Rattle.std.proofs.lemmas.Result.{err_from_is_err_and}
use Rattle.entry.proofs.TextStates.{line_tested}
use Rattle.entry.proofs.TextTurns.{AtText, text-here, turn-text, line-end, line-stop, line-on}
use Rattle.entry.proofs.parser.Parser.text_turn.Goals.{then-eq+in-Some+else-not-goes_on, else-eq}
use Rattle.entry.proofs.parser.Parser.text_turn.Goals as goal

pub returns-in_default-clause-reads : goal.returns-in_default-clause-reads
returns-in_default-clause-reads c =
    line-end c.args.self.now c.args.st c.requires.room c.requires.inside c.requires.no_brace
    (sym (line_tested c.args.st.role c.eq.ensures) ∙ c.if-eq.true) c.skip_blank_inline-indent.ensures refl refl refl
    (rw c.in_default.is at c.get.ensures.lookup.3)

pub returns-then-not-goes_on-clause-reads : goal.returns-then-not-goes_on-clause-reads
returns-then-not-goes_on-clause-reads c =
    line-stop c.args.self.now c.args.st c.requires.room c.requires.inside c.requires.no_brace
    (sym (line_tested c.args.st.role c.eq.ensures) ∙ c.if-eq.true) c.skip_blank_inline-indent.ensures
    c.get.ensures.lookup.0 c.get.ensures.lookup.1 c.in-Some.is c.goes_on.ensures c.skip_blank_inline-indent.ensures.bytes refl refl
    c.if-not-goes_on.true

pub get_text-requires : goal.get_text-requires
get_text-requires c =
    let a : AtText c.args.self.now c.if-eq.self c.args.st =
    elim c.if-eq.branch [
      | then-eq+in-Some+else-not-goes_on w ↦ rw w.self-is
          (line-on c.args.self.now c.args.st c.requires.room c.requires.inside c.requires.no_brace
          (sym (line_tested c.args.st.role c.eq.ensures) ∙ w.if-eq.true) w.skip_blank_inline-indent.ensures
          w.get.ensures.lookup.0 w.get.ensures.lookup.1 w.in-Some.is w.goes_on.ensures refl refl refl w.if-not-goes_on.false)
      | else-eq w ↦ rw w.self-is
          (text-here c.args.self.now c.args.st c.requires.room c.requires.inside c.requires.no_brace
          (sym (line_tested c.args.st.role c.eq.ensures) ∙ w.if-eq.false))
    ] in
    a.ready

pub returns-in_err-get_text-clause-reads : goal.returns-in_err-get_text-clause-reads
returns-in_err-get_text-clause-reads c =
    let a : AtText c.args.self.now c.if-eq.self c.args.st =
    elim c.if-eq.branch [
      | then-eq+in-Some+else-not-goes_on w ↦ rw w.self-is
          (line-on c.args.self.now c.args.st c.requires.room c.requires.inside c.requires.no_brace
          (sym (line_tested c.args.st.role c.eq.ensures) ∙ w.if-eq.true) w.skip_blank_inline-indent.ensures
          w.get.ensures.lookup.0 w.get.ensures.lookup.1 w.in-Some.is w.goes_on.ensures refl refl refl w.if-not-goes_on.false)
      | else-eq w ↦ rw w.self-is
          (text-here c.args.self.now c.args.st c.requires.room c.requires.inside c.requires.no_brace
          (sym (line_tested c.args.st.role c.eq.ensures) ∙ w.if-eq.false))
    ] in
    let p = err_from_is_err_and c.from_residual.result c.from_residual.ensures.1 in
    rw (p.1, p.2) (turn-text a (rw c.in_err-get_text.was at c.get_text.ensures.reads))

pub returns-clause-reads : goal.returns-clause-reads
returns-clause-reads c =
    let a : AtText c.args.self.now c.if-eq.self c.args.st =
    elim c.if-eq.branch [
      | then-eq+in-Some+else-not-goes_on w ↦ rw w.self-is
          (line-on c.args.self.now c.args.st c.requires.room c.requires.inside c.requires.no_brace
          (sym (line_tested c.args.st.role c.eq.ensures) ∙ w.if-eq.true) w.skip_blank_inline-indent.ensures
          w.get.ensures.lookup.0 w.get.ensures.lookup.1 w.in-Some.is w.goes_on.ensures refl refl refl w.if-not-goes_on.false)
      | else-eq w ↦ rw w.self-is
          (text-here c.args.self.now c.args.st c.requires.room c.requires.inside c.requires.no_brace
          (sym (line_tested c.args.st.role c.eq.ensures) ∙ w.if-eq.false))
    ] in
    turn-text a (rw c.in_ok-get_text.was at c.get_text.ensures.reads)
