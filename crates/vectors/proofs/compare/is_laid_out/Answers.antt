-- `compare::is_laid_out` meets its contract: the sizes, the two arrays, and what is past them.
use native.Mathlib.Omega.{arith}
use mathlib.Core.Path.{sym, ◌∙◌}
use Rattle.std.proofs.lemmas.Bool.{false≢true, eqb-true, eq-eqb, lt-leb}
use Rattle.vectors.proofs.Rows.{tells-false, tells-same, tells-all, untold}
use Rattle.vectors.proofs.Laid.{is-laid, laid-is}
use Rattle.vectors.proofs.compare.is_laid_out.Goals as goal
use Rattle.vectors.proofs.compare.is_laid_out.Goals.{then-end-slice, else-end-slice, then-slice-a, else-slice-a}
use Rattle.vectors.proofs.compare.is_laid_out.Goals.{then-slice-a-2, else-slice-a-2, then-is_array, else-is_array}

pub returns-then-is_array-2 : goal.returns-then-is_array-2
returns-then-is_array-2 c =
    elim c.if-is_array.branch [
      | then-is_array w4 ↦
          elim c.if-slice-a-2.branch [
            | then-slice-a-2 w3 ↦
                elim c.if-slice-a.branch [
                  | then-slice-a w2 ↦
                      elim c.if-end-slice.branch [
                        | then-end-slice w1 ↦
                            tells-same
                            (λ q. laid-is _ _ _ _ c.requires
                            (record {
                              long = w1.if-end-slice.true;
                              count = eqb-true _ _ (sym w1.value-is ∙ w2.if-slice-a.true);
                              capacity = eqb-true _ _ (sym w2.value-is ∙ w3.if-slice-a-2.true);
                              first = w3.is_array.ensures.yes (sym w3.value-is ∙ w4.if-is_array.true);
                              second = w4.is_array-then-is_array.ensures.yes (sym w4.value-is ∙ c.if-is_array-2.true);
                              rest = q;
                            }))
                            (λ e. (is-laid _ _ _ _ c.requires e).rest) (tells-all _ _ c.are_all.ensures)
                        | else-end-slice w1 ↦ absurd (false≢true (sym (lt-leb _ _ w1.if-end-slice.false) ∙ sym w1.value-is ∙ w2.if-slice-a.true))
                      ]
                  | else-slice-a w2 ↦ absurd (false≢true (sym w2.if-slice-a.false ∙ sym w2.value-is ∙ w3.if-slice-a-2.true))
                ]
            | else-slice-a-2 w3 ↦ absurd (false≢true (sym w3.if-slice-a-2.false ∙ sym w3.value-is ∙ w4.if-is_array.true))
          ]
      | else-is_array w4 ↦ absurd (false≢true (sym w4.if-is_array.false ∙ sym w4.value-is ∙ c.if-is_array-2.true))
    ]

pub returns-else-is_array-2 : goal.returns-else-is_array-2
returns-else-is_array-2 c =
    tells-false c.if-is_array-2.false
    (λ e.
    let p = is-laid _ _ _ _ c.requires e in
    elim c.if-is_array.branch [
      | then-is_array w4 ↦ untold w4.is_array-then-is_array.ensures (sym w4.value-is ∙ c.if-is_array-2.false) p.second
      | else-is_array w4 ↦
          elim c.if-slice-a-2.branch [
            | then-slice-a-2 w3 ↦ untold w3.is_array.ensures (sym w3.value-is ∙ w4.if-is_array.false) p.first
            | else-slice-a-2 w3 ↦
                elim c.if-slice-a.branch [
                  | then-slice-a w2 ↦ false≢true (sym w3.if-slice-a-2.false ∙ w2.value-is ∙ eq-eqb _ _ p.capacity)
                  | else-slice-a w2 ↦
                      elim c.if-end-slice.branch [
                        | then-end-slice w1 ↦ false≢true (sym w2.if-slice-a.false ∙ w1.value-is ∙ eq-eqb _ _ p.count)
                        | else-end-slice w1 ↦ omega (arith, p.long)
                      ]
                ]
          ]
    ])
