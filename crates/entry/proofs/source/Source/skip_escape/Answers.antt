-- `source::Source::skip_escape` meets its contract.
use mathlib.Core.Path.{refl}
use Rattle.entry.proofs.Tests.{stands, stands-none}
use Rattle.entry.proofs.Moves.{no-stop}
use Rattle.entry.proofs.Strings.{escape-self, escape-lower, escape-upper, escape-unknown, escape_end, escapes-not}
use Rattle.entry.proofs.source.Source.skip_escape.Goals as goal

pub returns-in-Some-eq92 : goal.returns-in-Some-eq92
returns-in-Some-eq92 c =
    let n = stands c.get.result (record { some = c.get.ensures.lookup.0; byte = c.get.ensures.lookup.1 }) c.in-Some-eq92.ensures in
    record { bytes = refl; turned = escape-self _ c.requires n c.in-Some-eq92.field-0-test; shallow = no-stop }

pub returns-in-Some-eq117 : goal.returns-in-Some-eq117
returns-in-Some-eq117 c =
    let n = stands c.get.result (record { some = c.get.ensures.lookup.0; byte = c.get.ensures.lookup.1 }) c.in-Some-eq117.ensures in
    let e = c.skip_unicode_escape_sequence.ensures in
    record { bytes = e.bytes; turned = escape-lower _ c.requires n c.in-Some-eq117.field-0-test e.found; shallow = e.shallow }

pub returns-in-Some-eq85 : goal.returns-in-Some-eq85
returns-in-Some-eq85 c =
    let n = stands c.get.result (record { some = c.get.ensures.lookup.0; byte = c.get.ensures.lookup.1 }) c.in-Some-eq85.ensures in
    let e = c.skip_unicode_escape_sequence-in-Some-eq85.ensures in
    record { bytes = e.bytes; turned = escape-upper _ c.requires n c.in-Some-eq85.field-0-test e.found; shallow = e.shallow }

pub returns-in-Some : goal.returns-in-Some
returns-in-Some c =
    let n = stands c.get.result (record { some = c.get.ensures.lookup.0; byte = c.get.ensures.lookup.1 }) c.in-Some.ensures in let t = c.in-Some.b-test in
    escapes-not (escape-unknown _ c.requires n t.0.0.1 t.0.1 t.1) c.error.ensures

pub returns-in-None : goal.returns-in-None
returns-in-None c =
    let l = stands-none c.get.result (record { some = c.get.ensures.lookup.0; byte = c.get.ensures.lookup.1 }) c.in-None.ensures in
    escapes-not (escape_end _ c.requires c.args.self.now.inside l) c.error-in-None.ensures
