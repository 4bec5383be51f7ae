-- `junk::is_line_start` meets its contract.
use mathlib.Core.Path.{◌∙◌}
use borrow.Author.Tests.{eq-eqb}
use Rattle.parser.proofs.Seeks.{starts_first, starts-after}
use Rattle.parser.proofs.junk.is_line_start.Goals as goal

pub returns-then-at-eq0 : goal.returns-then-at-eq0
returns-then-at-eq0 c = eq-eqb _ _ c.if-at-eq0.true ∙ starts_first _ _ c.if-at-eq0.true

pub returns-else-at-eq0 : goal.returns-else-at-eq0
returns-else-at-eq0 c = starts-after _ _ c.if-at-eq0.false c.requires.inside
