-- `helper::eol_width` meets its contract.
use mathlib.Core.Path.{sym, ap, ◌∙◌}
use lib.Seq.{drop-drop}
use Rattle.syntax.specs.Byte as Byte
use Rattle.syntax.specs.Bytes.{starts_with}
use Rattle.entry.proofs.Blanks.{feed, crlf, lone, no-end}
use Rattle.entry.proofs.helper.eol_width.Goals as goal

pub returns-then-is_byte_at : goal.returns-then-is_byte_at
returns-then-is_byte_at c = sym (feed _ (sym c.is_byte_at.ensures.is ∙ c.if-is_byte_at.true))

pub returns-then-not-is_byte_at : goal.returns-then-not-is_byte_at
returns-then-not-is_byte_at c =
    sym (no-end _ (sym c.is_byte_at.ensures.is ∙ c.if-is_byte_at.false) (sym c.is_byte_at-2.ensures.is ∙ c.if-not-is_byte_at.true))

pub returns-then-is_byte_at-2 : goal.returns-then-is_byte_at-2
returns-then-is_byte_at-2 c =
    sym (crlf _ (sym c.is_byte_at.ensures.is ∙ c.if-is_byte_at.false) (sym c.is_byte_at-2.ensures.is ∙ c.if-not-is_byte_at.false)
    (ap (starts_with Byte.line_feed) (drop-drop 1 c.args.at c.args.source.now) ∙ sym c.is_byte_at-3.ensures.is ∙ c.if-is_byte_at-2.true))

pub returns-else-is_byte_at-2 : goal.returns-else-is_byte_at-2
returns-else-is_byte_at-2 c =
    sym (lone _ (sym c.is_byte_at.ensures.is ∙ c.if-is_byte_at.false)
    (ap (starts_with Byte.line_feed) (drop-drop 1 c.args.at c.args.source.now) ∙ sym c.is_byte_at-3.ensures.is ∙ c.if-is_byte_at-2.false))
