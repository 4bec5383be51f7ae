-- `pattern::trimmed_length` meets its contract.
use borrow.Author.Rules.{rules}
use Rattle.entry.proofs.Settle.{trimmed-at, trimmed-all}
use Rattle.entry.proofs.pattern.trimmed_length.Goals as goal

pub returns-in-Some : goal.returns-in-Some
returns-in-Some c = trimmed-at c.args.text.now c.in-Some.last (search rules) (search rules) (search rules)

pub returns-in-None : goal.returns-in-None
returns-in-None c = trimmed-all c.args.text.now (search rules)
