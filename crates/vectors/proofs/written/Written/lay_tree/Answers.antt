-- `lay_tree` meets its contract: one part, then the other.
use native.Mathlib.Omega.{arith}
use Rattle.vectors.proofs.Longs.{tree-laid}
use Rattle.vectors.proofs.written.Written.lay_tree.Goals as goal

pub returns : goal.returns
returns c =
    let parts = c.split_at_mut-first.ensures in
    tree-laid c.args.self c.args.listing.now _ _ _ _ _ parts.front_len (omega (arith, parts.front_len, parts.back_len, c.requires.tree))
    c.word_bytes-end.ensures c.lay.ensures c.lay-2.ensures
