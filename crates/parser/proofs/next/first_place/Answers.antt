-- `next::first_place` meets its contract: it goes by the tests of a source.
use Rattle.parser.proofs.Stops.{first-passed, first-refused}
use Rattle.parser.proofs.next.first_place.Goals as goal

pub returns-in-Ok : goal.returns-in-Ok
returns-in-Ok c = first-passed _ c.in-Ok.ensures.tested

pub returns-in-Err : goal.returns-in-Err
returns-in-Err c = first-refused _ _ c.in-Err.ensures.tested
