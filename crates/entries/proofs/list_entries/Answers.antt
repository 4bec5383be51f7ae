-- `list_entries` meets its contract: in the loop the entries so far are listed.
use native.Mathlib.Omega.{arith}
use Rattle.std.proofs.Common.{rules, ℕ, ◌≡◌, Ok, Err, None, sym, ◌∙◌}
use Rattle.entries.proofs.Going.{going_start, found, room, going_next, going_end}
use Rattle.entries.proofs.list_entries.Goals as goal

pub loop-extent-init : goal.loop-extent-init
loop-extent-init c = going_start _ _ c.first_place-at.ensures

pub bounds-list-n : goal.bounds-list-n
bounds-list-n c =
    let loop = c.loop-extent in
    room c.requires loop.invariant loop.auto.tree c.entry_after.ensures.0.same {x = c.in-Ok-Some.extent} (search rules)

pub loop-extent-smaller : goal.loop-extent-smaller
loop-extent-smaller c =
    let loop = c.loop-extent in
    let f = found c.requires loop.invariant loop.auto.tree c.entry_after.ensures.0.same {x = c.in-Ok-Some.extent} (search rules) in
    omega (arith, f.before, f.some, f.within)

pub loop-extent-preserved : goal.loop-extent-preserved
loop-extent-preserved c =
    let loop = c.loop-extent in
    going_next c.requires loop.invariant loop.auto.tree c.entry_after.ensures.0.same {x = c.in-Ok-Some.extent} (search rules)

pub returns-in_default : goal.returns-in_default
returns-in_default c =
    let loop = c.loop-extent in
    let e : c.entry_after.result ≡ Ok None = search rules in
    going_end c.requires loop.invariant loop.auto.tree c.entry_after.ensures.0.same
    (λ x q. let w = sym e ∙ q in let z : ◌≡◌ {A = ℕ} 0 1 = cc in omega arith)

pub returns-in_default-2 : goal.returns-in_default-2
returns-in_default-2 c =
    let loop = c.loop-extent in
    let e : c.entry_after.result ≡ Err c.in_default.field-0 = search rules in
    going_end c.requires loop.invariant loop.auto.tree c.entry_after.ensures.0.same
    (λ x q. let w = sym e ∙ q in let z : ◌≡◌ {A = ℕ} 0 1 = cc in omega arith)
