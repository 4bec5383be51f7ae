-- `source::Source::skip_string` meets its contract.
use mathlib.Core.Path.{refl, ◌∙◌}
use native.Mathlib.Omega.{arith}
use Rattle.std.specs.Prelude.{◌≡◌, None, Err}
use Rattle.std.specs.Option.{option_copied}
use Rattle.std.proofs.Common.{rules}
use Rattle.syntax.specs.Expression.{string_turn}
use Rattle.entry.proofs.Tests.{stands, stands-none}
use Rattle.entry.proofs.Turns.{turning-none}
use Rattle.entry.proofs.Strings.{starts-backslash, plain-turn, scan-plain, quote-turn, end-turn, scan-escape, scan-fails, scan-feed, scan-end}
use Rattle.entry.proofs.source.Source.skip_string.Goals as goal

pub loop-b-init : goal.loop-b-init
loop-b-init c = record { bytes = refl; turns = turning-none string_turn _ _ _ c.args.self.now.inside }

pub skip_escape-requires : goal.skip_escape-requires
skip_escape-requires c =
    let n = stands c.get.result (record { some = c.get.ensures.lookup.0; byte = c.get.ensures.lookup.1 }) c.in-Some.ensures in
    starts-backslash n c.in-92.is

pub loop-b-preserved-in-Continue-1 : goal.loop-b-preserved-in-Continue-1
loop-b-preserved-in-Continue-1 c =
    record { bytes = c.skip_escape.ensures.bytes ∙ c.loop-b.invariant.bytes; turns = scan-escape c.args.self.now c.loop-b.self c.loop-b.invariant.bytes c.loop-b.invariant.turns c.in_ok-skip_escape-in-92.ensures }

pub returns-in_err-skip_escape-in-92 : goal.returns-in_err-skip_escape-in-92
returns-in_err-skip_escape-in-92 c =
    let e : c.from_residual.result ≡ Err c.in_err-skip_escape-in-92.field-0.0 = search rules in
    rw e (scan-fails c.args.self.now c.loop-b.self c.loop-b.invariant.bytes c.loop-b.invariant.turns c.in_err-skip_escape-in-92.ensures)

pub returns-in-10 : goal.returns-in-10
returns-in-10 c =
    let n = stands c.get.result (record { some = c.get.ensures.lookup.0; byte = c.get.ensures.lookup.1 }) c.in-Some.ensures in
    scan-feed c.args.self.now c.loop-b.self c.loop-b.invariant.bytes c.loop-b.invariant.turns n c.in-10.is c.error.ensures

pub returns-in-34 : goal.returns-in-34
returns-in-34 c =
    let n = stands c.get.result (record { some = c.get.ensures.lookup.0; byte = c.get.ensures.lookup.1 }) c.in-Some.ensures in
    scan-end c.args.self.now c.loop-b.self c.loop-b.invariant.bytes c.loop-b.invariant.turns (quote-turn n c.in-34.is)

pub returns-in_default : goal.returns-in_default
returns-in_default c =
    let e : None ≡ option_copied c.get.result = search rules in
    scan-end c.args.self.now c.loop-b.self c.loop-b.invariant.bytes c.loop-b.invariant.turns (end-turn _ _ (stands-none c.get.result (record { some = c.get.ensures.lookup.0; byte = c.get.ensures.lookup.1 }) e))

pub loop-b-preserved : goal.loop-b-preserved
loop-b-preserved c =
    let n = stands c.get.result (record { some = c.get.ensures.lookup.0; byte = c.get.ensures.lookup.1 }) c.in-Some.ensures in
    let q = plain-turn n (λ e. omega arith) (λ e. omega arith) (λ e. omega arith) in
    scan-plain c.args.self.now c.loop-b.self c.loop-b.invariant.bytes c.loop-b.invariant.turns n q
