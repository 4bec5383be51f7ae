-- `models::models` meets its contract: the test of the table passes.
use mathlib.Core.Path.{refl}
use Rattle.syntax.specs.Kind as Kind
use Rattle.syntax.specs.Shape.{models, among, step_in, step_by, final_by, step, final}
use Rattle.tree.specs.Models.{byte_of, end_byte}
use Rattle.tree.proofs.Table.{byte_at, right_row, right_rows, right_kind, right_table, right}
use Rattle.tree.proofs.models.models.Goals as goal

pub returns : goal.returns
unfolding byte_at right_row right_rows right_kind right_table byte_of end_byte Kind.is_text models among step_in step_by final_by step final
returns c = right _ refl
