-- `utf8::valid_length` meets its contract: the first fault by the table lies where text as std knows it ends.
use Rattle.std.proofs.Common.{refl}
use Rattle.utf8.specs.Utf8.{valid_length}
use Rattle.utf8.proofs.Text.{is-text-by-table}
use Rattle.utf8.proofs.valid_length.Goals as goal

pub returns-in-Ok : goal.returns-in-Ok
unfolding valid_length
returns-in-Ok c = rw ((is-text-by-table _).text.1 c.in-Ok.ensures.cases.1, valid_length) refl

pub returns-in-Err : goal.returns-in-Err
unfolding valid_length
returns-in-Err c = rw (((is-text-by-table _).fault _).1 c.in-Err.ensures.cases.1, valid_length) c.valid_up_to.ensures
