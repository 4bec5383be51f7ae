-- The tests of the functions that the crate above calls, and what they leave known.
use Rattle.std.specs.Prelude.{◌≡◌, ℕ, ◌+◌, ◌*◌, ◌/◌, ◌<◌, true, ltb, leb, ◌≤◌, List, [], length, drop}
use native.Mathlib.Nat.{add-zero}
use native.Mathlib.Omega.{arith}
use mathlib.Core.Path.{sym, ◌∙◌}
use lib.ListN.{drop_of_length-le}
use borrow.Author.Tests.{leb-true, le-leb, lt-leb, ltb-true, ltb-false}
use Rattle.syntax.specs.Helper.{skip_blank_block}
use Rattle.syntax.specs.Pattern.{used_by}
use Rattle.syntax.specs.Core as Core
use Rattle.laws.specs.Bytes.{by_case}
use Rattle.laws.specs.Entries.{block-fresh}
use Rattle.entry.specs.Place.{Went}
use Rattle.entry.specs.Border.{readable, Skipped, roomy}
use Rattle.entry.specs.declared.border.BlankBlock.{BlankBlock}
use Rattle.entry.proofs.Tests.{both}

-- what an entry's reader asks holds where one can be read
pub record Open (l m at n : ℕ) : Type 0 where
  pub inside : at ≤ l
  pub spent : n ≤ 8 * at + 1
  pub short : l ≤ 1000000
  pub layout : 2 + 2 * (8 * l) ≤ m

pub opened : {l m at n : ℕ} → readable l m at n ≡ true → Open l m at n
unfolding readable
opened h =
    let a = both _ _ h in
    let b = both _ _ a.1 in
    let c = both _ _ b.1 in
    record { inside = leb-true _ _ b.0; spent = leb-true _ _ c.0; short = leb-true _ _ a.0; layout = leb-true _ _ c.1 }

pub skipped : {s : List ℕ} {at : ℕ} (r : BlankBlock) → Went s at (skip_blank_block (drop at s)) r.count r.end → Skipped s at r
unfolding used_by Core.count
skipped r w = record { end = rw w.answers (omega (arith, w.onward)); count = rw w.answers }

pub skipped-none : (s : List ℕ) (at : ℕ) → length s < at → Skipped s at (record { end = at; count = 0 })
unfolding used_by Core.count
skipped-none s at h =
    let e = drop_of_length-le s {i = at} (omega arith) in
    record { end = rw (e, block-fresh [] tt) (sym (add-zero at)); count = rw (e, block-fresh [] tt) }

-- there is room for a mark
pub fits : (m cap n : ℕ) → roomy m cap n ≡ true → (n + 1 ≤ cap) × (2 + 2 * cap ≤ m)
unfolding roomy
fits m cap n h = let a = both _ _ h in (omega (arith, ltb-true n cap a.0), leb-true _ _ a.1)

-- two arrays of `cap` words and the sizes, as the code tests it
pub half : (m cap : ℕ) → ltb cap (m / 2) ≡ leb (2 + 2 * cap) m
half m cap =
    by_case (ltb cap (m / 2))
    (λ q. q ∙ sym (le-leb (2 + 2 * cap) m (omega (arith, ltb-true cap (m / 2) q))))
    (λ q. q ∙ sym (lt-leb (2 + 2 * cap) m (omega (arith, ltb-false cap (m / 2) q))))
