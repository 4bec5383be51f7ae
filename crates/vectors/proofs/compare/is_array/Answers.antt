-- `compare::is_array` meets its contract: the stored words, then the zeros.
use Rattle.vectors.proofs.Rows.{tells-false, tells-same, tells-all, untold, length-shorts, array-yes, array-first, array-rest}
use Rattle.vectors.proofs.compare.is_array.Goals as goal

pub returns-then-are_stored : goal.returns-then-are_stored
returns-then-are_stored c =
    let start = c.args in
    let l = length-shorts _ _ c.requires.0 in
    let stored = rw c.split_at.ensures.front at c.are_stored.ensures in
    let zeros = rw c.split_at.ensures.back at (tells-all 0 c.split_at.result.1.now c.are_all.ensures) in
    tells-same (array-yes start.words.now _ start.n l c.requires.1 (stored.yes c.if-are_stored.true))
    (array-rest start.words.now _ start.n l) zeros

pub returns-else-are_stored : goal.returns-else-are_stored
returns-else-are_stored c =
    let no = c.if-are_stored.false in
    let stored = rw c.split_at.ensures.front at c.are_stored.ensures in
    tells-false no (λ e. untold stored no (array-first c.args.words.now _ c.args.n (length-shorts _ _ c.requires.0) e))
