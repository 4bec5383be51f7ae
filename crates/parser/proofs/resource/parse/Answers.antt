-- `resource::parse` meets its contract: entry by entry.
use denote.Ref.{Bor}
use mathlib.Core.Path.{refl, sym, ap, subst, ◌∙◌}
use mathlib.Core.List.{List}
use Prim.Native.Nat.{ℕ}
use Rattle.std.proofs.lemmas.Result.{err_from_is_err_and}
use Rattle.parser.specs.Resource.{Held}
use Rattle.parser.specs.declared.resource.Resource.{Resource}
use Rattle.parser.proofs.Files.{framed-none, framed_then, held_start, did-end, did-deep}
use Rattle.parser.proofs.resource.parse.Goals as goal

pub loop-resource-init : goal.loop-resource-init
loop-resource-init c = record {
  source = rw c.skip_blank_block.ensures refl;
  same = record { source = refl; tree = refl; errors = refl };
  framed = framed-none _ _ _;
  held = rw c.skip_blank_block.ensures (held_start _ c.requires refl refl refl refl);
}

pub parse_entry-requires-clause-held : goal.parse_entry-requires-clause-held
parse_entry-requires-clause-held c =
    let i = c.loop-resource.invariant in subst (λ s. Held s c.loop-resource.resource) (sym i.source) i.held

pub parse_entry-requires-clause-at_in_bounds : goal.parse_entry-requires-clause-at_in_bounds
parse_entry-requires-clause-at_in_bounds c = rw c.loop-resource.invariant.source c.loop-resource-test.true

pub returns-in_err-parse_entry : goal.returns-in_err-parse_entry
returns-in_err-parse_entry c =
    let p = err_from_is_err_and c.from_residual.result c.from_residual.ensures.1 in
    let i = c.loop-resource.invariant in
    let q = c.in_err-parse_entry.ensures in
    let y = rw i.source at q.turned in
    let t = c.in_err-parse_entry.tree-1-own.given.1.1
    (sym (q.same.tree ∙ i.same.tree ∙ ap (λ (x : Resource). x.tree.ghost_name) c.skip_blank_block.ensures)) in
    let e = c.in_err-parse_entry.errors-1-own.given.1.1
    (sym (q.same.errors ∙ i.same.errors ∙ ap (λ (x : Resource). x.errors.ghost_name) c.skip_blank_block.ensures)) in
    rw (p.1, p.2, t, e) (did-deep (rw c.skip_blank_block.ensures at (framed_then i.framed y.0)) y.1)

pub loop-resource-preserved : goal.loop-resource-preserved
loop-resource-preserved c =
    let i = c.loop-resource.invariant in
    let q = c.in_ok-parse_entry.ensures in
    let y = rw i.source at q.turned in
    rw c.skip_blank_block-in-loop-resource.ensures (record {
      source = ap (λ (b : Bor (List ℕ)). b.now) q.same.source ∙ i.source;
      same = record {
        source = q.same.source ∙ i.same.source;
        tree = q.same.tree ∙ i.same.tree;
        errors = q.same.errors ∙ i.same.errors;
      };
      framed = framed_then i.framed y.0;
      held = y.1;
    })

pub returns : goal.returns
returns c =
    let i = c.loop-resource.invariant in
    let t = c.tree-2-1.given.1.1 (sym (i.same.tree ∙ ap (λ (x : Resource). x.tree.ghost_name) c.skip_blank_block.ensures)) in
    let e = c.errors-2-1.given.1.1 (sym (i.same.errors ∙ ap (λ (x : Resource). x.errors.ghost_name) c.skip_blank_block.ensures)) in
    did-end (rw (c.skip_blank_block.ensures, sym t, sym e) at i.framed) i.held (sym t) (sym e) c.loop-resource-test.false
