-- `source::Source::skip_unicode_escape_sequence` meets its contract.
use Rattle.std.specs.Prelude.{◌≡◌, ◌+◌, drop, None, Some}
use Rattle.std.specs.Char.{is_ascii_hexdigit}
use Rattle.std.proofs.Common.{rules}
use mathlib.Core.Path.{refl}
use native.Mathlib.Omega.{arith}
use Rattle.utf8.specs.Utf8.{width_of_first}
use Rattle.entry.proofs.Run.{counted-by}
use Rattle.entry.proofs.Strings.{passed-hex, width-got, width-le, unicode-full, found-short}
use Rattle.entry.proofs.Moves.{finds, finds-bad}
use Rattle.entry.proofs.source.Source.skip_unicode_escape_sequence.Goals as goal

pub returns-then-n-length : goal.returns-then-n-length
returns-then-n-length c =
    let p = passed-hex c.args.length _ c.args.self.now.inside (search rules)
    (counted-by is_ascii_hexdigit (λ b r e. search rules) c.count_while-n.ensures) in
    finds refl (unicode-full c.args.length _ c.count_while-n.result (omega (arith, p.end)) c.if-n-length.true) refl p.within

pub overflow_add-end : goal.overflow_add-end
overflow_add-end c =
    let f : c.map_or-wrong.result ≡ elim c.get.result [ None ↦ 0 | Some x ↦ width_of_first x.now ] = search rules in
    let g = width-got c.get.result (record { some = c.get.ensures.lookup.0; byte = c.get.ensures.lookup.1 }) f in
    let p = passed-hex c.args.length _ c.args.self.now.inside (search rules)
    (counted-by is_ascii_hexdigit (λ b r e. search rules) c.count_while-n.ensures) in
    let m = c.args.self.now.short in
    omega (arith, g, p.within, width-le (drop (c.args.self.now.ptr + c.count_while-n.result) c.args.self.now.bytes.now))

pub overflow_cast-end : goal.overflow_cast-end
overflow_cast-end c =
    let f : c.map_or-wrong.result ≡ elim c.get.result [ None ↦ 0 | Some x ↦ width_of_first x.now ] = search rules in
    let g = width-got c.get.result (record { some = c.get.ensures.lookup.0; byte = c.get.ensures.lookup.1 }) f in
    let p = passed-hex c.args.length _ c.args.self.now.inside (search rules)
    (counted-by is_ascii_hexdigit (λ b r e. search rules) c.count_while-n.ensures) in
    let m = c.args.self.now.short in
    omega (arith, g, p.within, width-le (drop (c.args.self.now.ptr + c.count_while-n.result) c.args.self.now.bytes.now))

pub returns : goal.returns
returns c =
    let f : c.map_or-wrong.result ≡ elim c.get.result [ None ↦ 0 | Some x ↦ width_of_first x.now ] = search rules in
    let g = width-got c.get.result (record { some = c.get.ensures.lookup.0; byte = c.get.ensures.lookup.1 }) f in
    let p = passed-hex c.args.length _ c.args.self.now.inside (search rules)
    (counted-by is_ascii_hexdigit (λ b r e. search rules) c.count_while-n.ensures) in
    finds-bad refl (found-short c.args.self.now.bytes.now c.args.self.now.ptr c.args.length _ p _ _ (λ z. c.if-n-length.false (omega (arith, z))) g refl) c.error.ensures
