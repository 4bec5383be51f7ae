-- `source::Source::skip_identifier` meets its contract.
use native.Mathlib.Omega.{arith}
use mathlib.Core.Path.{refl, ap}
use lib.Seq.{drop-drop}
use Rattle.syntax.specs.Bytes.{run, is_name_part}
use Rattle.entry.specs.Reads.{rest}
use Rattle.entry.proofs.Tests.{by}
use Rattle.entry.proofs.Places.{identifier-first}
use Rattle.entry.proofs.Entries.{identifier-on, identifier-not}
use Rattle.entry.proofs.Moves.{finds, finds-fail}
use Rattle.entry.proofs.source.Source.skip_identifier.Goals as goal

pub returns-then-not-is_identifier_start : goal.returns-then-not-is_identifier_start
returns-then-not-is_identifier_start c =
    finds-fail _ _ (identifier-not _ (by c.is_identifier_start.ensures.is c.if-not-is_identifier_start.true)) refl c.error.ensures

pub returns : goal.returns
returns c =
    let h = by c.is_identifier_start.ensures.is c.if-not-is_identifier_start.false in
    let s = c.args.self.now in
    let p = c.skip_name.ensures.passed in
    finds c.skip_name.ensures.bytes (identifier-on _ h)
    (omega (arith, p.end, identifier-first (rest s) h, ap (run is_name_part) (drop-drop 1 s.ptr s.bytes.now))) p.within
