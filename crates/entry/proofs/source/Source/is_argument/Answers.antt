-- `is_argument` meets its contract.
use Rattle.std.proofs.Common.{rules}
use Rattle.std.specs.Prelude.{not, eqb}
use mathlib.Core.Path.{◌∙◌}
use Rattle.entry.proofs.Tests.{starting-tests}
use Rattle.entry.proofs.ArgumentTurns.{argument-starts}
use Rattle.entry.proofs.source.Source.is_argument.Goals as goal

pub returns : goal.returns
returns c = (starting-tests (λ y. not (eqb y 41)) c.args.self.bytes.now c.args.self.ptr (λ b r e. search rules) c.starts.ensures).is ∙ argument-starts _
