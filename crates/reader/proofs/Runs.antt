-- Calls on a reader one after the other tell the entries of the source in order, and then that none is left (`new-tells`).
use Rattle.std.specs.Prelude.{ℕ, ◌≡◌, refl, List, [], ◌∷◌, length}
use Rattle.std.proofs.Common.{ap, ◌∙◌}
use Rattle.std.specs.Borrow.{Bor}
use Rattle.syntax.specs.Layout.{tree_layout}
use Rattle.syntax.specs.Next.{entries_of, first_place, next_answer, place_after}
use Rattle.reader.specs.Calls.{answers, told, Long}
use Rattle.reader.specs.Runs.{run}
use Rattle.reader.proofs.Calls.{reader-tells}

runs : (source : Bor (List ℕ)) (at : ℕ) (ms : List ℕ) → run (record { source = source; at = at }) ms ≡ answers source.now at ms
unfolding run answers
runs source at [] = refl
runs source at (m ∷ ms) =
    ap (λ r. next_answer source.now at m ∷ r)
    (runs source (place_after source.now at (next_answer source.now at m)) ms)

pub new-tells : (source : Bor (List ℕ)) (ms : List ℕ) → Long (tree_layout (length source.now)) ms
    → run (record { source = source; at = first_place source.now }) ms ≡ told (entries_of source.now) (length ms)
new-tells source ms l = runs source (first_place source.now) ms ∙ reader-tells source.now ms l
