-- `resource::Resource::put_error` meets its contract: a kind, and three pairs of words.
use mathlib.Core.Path.{refl}
use Rattle.parser.specs.ErrorList.{with_junk}
use Rattle.parser.proofs.ErrorRows.{error-written}
use Rattle.parser.proofs.resource.Resource.put_error.Goals as goal

pub returns : goal.returns
returns c =
    let a = c.args in
    record {
      same = record { source = refl; tree = refl; errors = refl };
      tree = refl;
      at = refl;
      marks = refl;
      comment = refl;
      error_count = refl;
      list =
          error-written _ _ _ c.requires.spare (with_junk a.e a.junk_start a.junk_end) _ _ _ _ c.words-words.ensures
          c.put_pair.ensures.0 c.put_pair-2.ensures.0 c.put_pair-3.ensures.0;
    }
