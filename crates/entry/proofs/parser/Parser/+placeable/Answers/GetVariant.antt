-- `get_variant`, a member of the cycle.
use native.Mathlib.Omega.{arith}
use mathlib.Core.Path.{refl}
use Rattle.std.specs.Prelude.{◌≡◌, [], ◌∷◌}
use Rattle.std.proofs.lemmas.Result.{err_from_is_err_and}
use Rattle.syntax.specs.Byte as Byte
use Rattle.syntax.specs.Kind.{number_of, closing}
use Rattle.syntax.specs.Reader.{in_node}
use Rattle.syntax.specs.Expression.{level, variant, variant_kind, variant_with}
use Rattle.laws.specs.Bounds.Expression.{level-bounds, key-bounds, value-bounds}
use Rattle.entry.specs.Did.{silent}
use Rattle.entry.specs.Entry.{get_value}
use Rattle.entry.specs.Tree.{word}
use Rattle.entry.specs.Marks.{Wrote}
use Rattle.entry.proofs.Chains.{reads-then, reads-goes, reads-pure, reads-room, reads-node, reads-node-stop, stop-then}
use Rattle.entry.proofs.Cycle.{length-same, with-here, reads-byte}
use Rattle.entry.proofs.parser.Parser.+placeable.Goals as goal
use Rattle.entry.proofs.parser.Parser.+placeable.Goals.{get_variant-then-default, get_variant-else-default}

pub get_variant-open-requires : goal.get_variant-open-requires
get_variant-open-requires t c =
    let p = c.args.self.now in
    record { room = omega (arith, with-here Byte.open_bracket p.source c.requires.begins, c.requires.room.spent, p.holds) }

pub get_variant-invariant_of-self : goal.get_variant-invariant_of-self
get_variant-invariant_of-self t c =
    let p = c.args.self.now in
    record { inside = omega (arith, with-here Byte.open_bracket p.source c.requires.begins); short = p.source.short }

pub get_variant-returns-in_err-get_variant_key-clause-reads : goal.get_variant-returns-in_err-get_variant_key-clause-reads
unfolding variant_with variant variant_kind in_node
get_variant-returns-in_err-get_variant_key-clause-reads t c has =
    let p = err_from_is_err_and c.from_residual.result c.from_residual.ensures.1 in
    let k : number_of c.if-default.kind ≡ variant_kind c.args.default =
    elim c.if-default.branch [
      | get_variant-then-default w ↦ rw (w.kind-is, w.if-default.true) refl
      | get_variant-else-default w ↦ rw (w.kind-is, w.if-default.false) refl
    ] in
    let o : Wrote c.args.self.now.tree.now c.open.new.self (word (variant_kind c.args.default) 0 ∷ []) = rw k at c.open.ensures in
    rw (p.1, p.2)
    (stop-then {w = silent} (in_node (variant_kind c.args.default) (variant (level c.args.left))) _
    (reads-node-stop (variant_kind c.args.default) o
    (reads-then _ _ (reads-byte Byte.open_bracket c.requires.begins refl refl)
    (stop-then _ _ (rw c.in_err-get_variant_key.was at c.get_variant_key.ensures.reads)))))

pub get_variant-get_value-requires : goal.get_variant-get_value-requires
get_variant-get_value-requires t c =
    let q = c.get_variant_key.new.self in
    let r = reads-room _ ((key-bounds {n = 0}).on _) (rw c.in_ok-get_variant_key.was at c.get_variant_key.ensures.reads) in
    omega (
      arith,
      r.room,
      r.onward,
      c.open.ensures.count,
      with-here Byte.open_bracket c.args.self.now.source c.requires.begins,
      length-same c.get_variant_key.ensures.reads.frame.bytes,
      c.decreases,
      c.requires.room,
    )

pub get_variant-returns-in_err-get_value-clause-reads : goal.get_variant-returns-in_err-get_value-clause-reads
unfolding variant_with variant variant_kind in_node get_value
get_variant-returns-in_err-get_value-clause-reads t c has =
    let p = err_from_is_err_and c.from_residual-in_err-get_value.result c.from_residual-in_err-get_value.ensures.1 in
    let k : number_of c.if-default.kind ≡ variant_kind c.args.default =
    elim c.if-default.branch [
      | get_variant-then-default w ↦ rw (w.kind-is, w.if-default.true) refl
      | get_variant-else-default w ↦ rw (w.kind-is, w.if-default.false) refl
    ] in
    let o : Wrote c.args.self.now.tree.now c.open.new.self (word (variant_kind c.args.default) 0 ∷ []) = rw k at c.open.ensures in
    rw (p.1, p.2)
    (stop-then {w = silent} (in_node (variant_kind c.args.default) (variant (level c.args.left))) _
    (reads-node-stop (variant_kind c.args.default) o
    (reads-then _ _ (reads-byte Byte.open_bracket c.requires.begins refl refl)
    (reads-then _ _ (rw c.in_ok-get_variant_key.was at c.get_variant_key.ensures.reads)
    (rw c.in_err-get_value.was at c.get_value.ensures.reads)))))

pub get_variant-close-requires : goal.get_variant-close-requires
unfolding get_value
get_variant-close-requires t c =
    let q = c.get_value.new.self in
    let r = reads-room _ ((key-bounds {n = 0}).on _) (rw c.in_ok-get_variant_key.was at c.get_variant_key.ensures.reads) in
    let v = reads-room _ ((value-bounds (level-bounds c.args.left)).on _) (rw c.in_ok-get_value.was at c.get_value.ensures.reads) in
    record { room = omega (arith, r.room, v.room, c.open.ensures.count, c.requires.room.spent, q.holds, q.source.inside) }

pub get_variant-returns-clause-reads : goal.get_variant-returns-clause-reads
unfolding variant_with variant variant_kind in_node get_value
get_variant-returns-clause-reads t c has =
    let k : number_of c.if-default.kind ≡ variant_kind c.args.default =
    elim c.if-default.branch [
      | get_variant-then-default w ↦ rw (w.kind-is, w.if-default.true) refl
      | get_variant-else-default w ↦ rw (w.kind-is, w.if-default.false) refl
    ] in
    let o : Wrote c.args.self.now.tree.now c.open.new.self (word (variant_kind c.args.default) 0 ∷ []) = rw k at c.open.ensures in
    let z : Wrote c.get_value.new.self.tree.now c.close.new.self (word (closing (variant_kind c.args.default)) 0 ∷ []) =
    rw k at c.close.ensures in
    reads-then (in_node (variant_kind c.args.default) (variant (level c.args.left))) _
    (reads-node (variant_kind c.args.default) o
    (reads-then _ _ (reads-byte Byte.open_bracket c.requires.begins refl refl)
    (reads-then _ _ (rw c.in_ok-get_variant_key.was at c.get_variant_key.ensures.reads)
    (rw c.in_ok-get_value.was at c.get_value.ensures.reads))) z)
    (reads-then _ _ (reads-goes c.skip_blank.ensures) (reads-pure _ _ _ _))
