-- `resource::Resource::put` meets its contract: there is room.
use mathlib.Core.Path.{refl}
use Rattle.parser.proofs.Granted.{can-put}
use Rattle.parser.proofs.resource.Resource.put.Goals as goal

pub returns : goal.returns
returns c =
    let p = rw (can-put c.requires.room) at c.put_mark-self.ensures in
    record {
      aside = record { same = record { source = refl; tree = refl; errors = refl }; list = refl; at = refl; error_count = refl };
      comment = refl;
      marks = p.0;
      step = p.1;
    }
