-- `get_number_literal` meets its contract.
use native.Mathlib.Omega.{arith}
use mathlib.Core.Path.{refl}
use Rattle.std.proofs.lemmas.Result.{err_from_is_err_and}
use Rattle.syntax.specs.Kind.{number_of}
use Rattle.syntax.specs.Helper.{get_number_literal}
use Rattle.syntax.specs.Marks.{text_node}
use Rattle.laws.specs.Bounds.{ok-uses}
use Rattle.laws.specs.Bounds.Helper.{number_literal-bounds}
use Rattle.entry.proofs.Places.{found_at}
use Rattle.entry.proofs.Entries.{keeps-text, number-read}
use Rattle.entry.proofs.Chains.{reads-finds, reads-text, reads-through}
use Rattle.entry.proofs.parser.Parser.get_number_literal.Goals as goal

pub returns-in_err-skip_number-clause-reads : goal.returns-in_err-skip_number-clause-reads
unfolding get_number_literal
returns-in_err-skip_number-clause-reads c =
    let p = err_from_is_err_and c.from_residual.result c.from_residual.ensures.1 in
    rw (p.1, p.2) (reads-through (keeps-text (number_of c.args.kind)) _ (reads-finds (rw c.in_err-skip_number.was at c.skip_number.ensures)))

pub text-requires : goal.text-requires
unfolding text_node
text-requires c =
    let f = rw c.in_ok-skip_number.was at c.skip_number.ensures in
    let r = found_at f.found refl in
    let u = ok-uses (number_literal-bounds {n = 0} (number_of c.args.kind)) _ (number-read (number_of c.args.kind) _ r.is) in
    record {
      room = record { room = omega (arith, c.requires.spent, c.args.self.now.holds, u.room, r.place, f.found.within) };
      start_bound = omega (arith, c.args.self.now.source.inside, c.args.self.now.source.short);
      end_bound = omega (arith, f.found.within, c.args.self.now.source.short);
    }

pub returns-clause-reads : goal.returns-clause-reads
returns-clause-reads c =
    let f = rw c.in_ok-skip_number.was at c.skip_number.ensures in
    let r = found_at f.found refl in
    reads-text (number_of c.args.kind) f.bytes (number-read (number_of c.args.kind) _ r.is) r.place c.text.ensures
