-- `parser::Parser::end_pattern` meets its contract.
use mathlib.Core.Path.{refl}
use native.Mathlib.Omega.{arith}
use Rattle.entry.proofs.Finish.{end_none, ends-order, none-after, ends-trimmable, ends-room, end-some}
use Rattle.entry.proofs.parser.Parser.end_pattern.Goals as goal

pub returns-in_default-clause-reads : goal.returns-in_default-clause-reads
returns-in_default-clause-reads c = end_none c.requires refl refl refl refl c.in_default.is

pub settle-requires : goal.settle-requires
settle-requires c =
    let o = ends-order c.requires c.in-Some.is in
    record { from_le_count = omega (arith, o); room = record { room = omega (arith, o) }; short = c.args.self.now.source.short; none_after = none-after c.requires.holds c.in-Some.is }

pub trim-requires : goal.trim-requires
trim-requires c = ends-trimmable c.requires c.in-Some.is refl refl refl c.unwrap_or-common.ensures _ refl c.settle.ensures

pub close-requires : goal.close-requires
close-requires c =
    record { room = ends-room c.requires c.in-Some.is refl refl refl c.unwrap_or-common.ensures _ refl c.settle.ensures c.trim.ensures.reads }

pub returns-clause-reads : goal.returns-clause-reads
returns-clause-reads c =
    end-some c.requires c.in-Some.is refl refl refl c.unwrap_or-common.ensures _ refl c.settle.ensures c.trim.ensures.reads refl c.close.ensures
