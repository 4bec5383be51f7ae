-- `Serializer::serialize_resource` meets its contract: in the loop, with the entries that are left the file is written.
use Rattle.std.proofs.Common.{false, [], refl, sym, ap, ◌∙◌, subst, arith}
use Rattle.syntax.specs.Layout.{count, capacity, marks_in}
use Rattle.syntax.specs.Serializer.{nodes, entry, wrote_by, resource}
use Rattle.tree.specs.Walk.{after, entries}
use Rattle.tree.proofs.Sizes.{sizes}
use Rattle.serializer.specs.Writer.{place_of, Wrote}
use Rattle.serializer.specs.Serialize.{State, output_of}
use Rattle.serializer.proofs.TopLevel.{Entries, entries-first, entry_next, entries-done}
use Rattle.serializer.proofs.Loops.{carried-kind, carried-mark, carried-ready, carried-did, carried-on}
use Rattle.serializer.proofs.Numbers.{entry-kind}
use Rattle.serializer.proofs.serializer.Serializer.serialize_resource.Goals as goal

pub bounds-self-0 : goal.bounds-self-0
unfolding count capacity
bounds-self-0 c = omega (arith, sizes _ c.args.self.now.nodes.fit)

pub loop-self-init : goal.loop-self-init
loop-self-init c =
    let s = c.args.self.now in
    let P : State → Type 0 = λ z. Entries s.nodes.source.now s.nodes.tree.now c.args.with_junk (output_of s) (output_of s) z false in (
      record { same_reference = refl; is = refl },
      subst P (sym c.requires.begun)
          (entries-first s.nodes.source.now s.nodes.tree.now c.args.with_junk (output_of s) c.requires.accepted c.requires.room),
    )

pub kind_at-kind-requires : goal.kind_at-kind-requires
unfolding count
kind_at-kind-requires c =
    let s = c.args.self.now in
    let r = c.loop-self.invariant in
    let k = carried-mark r.0 c.loop-self-test.true in
    let n = entry_next s.nodes.source.now s.nodes.tree.now c.args.with_junk c.args.self.now.nodes.fit r.1 c.loop-self-test.true in
    record { mark_bound = k; is_kind = rw (carried-kind r.0) (entry-kind n.ready.node) }

pub serialize_entry-requires : goal.serialize_entry-requires
unfolding count
serialize_entry-requires c =
    let s = c.args.self.now in
    let r = c.loop-self.invariant in
    let n = entry_next s.nodes.source.now s.nodes.tree.now c.args.with_junk c.args.self.now.nodes.fit r.1 c.loop-self-test.true in
    carried-ready r.0 entries (λ source. entry source c.args.with_junk c.loop-self.wrote_non_junk_entry) n.ready

pub loop-self-smaller : goal.loop-self-smaller
unfolding count after
loop-self-smaller c = omega (arith, c.serialize_entry.ensures.went.next, c.loop-self-test.true)

pub loop-self-preserved : goal.loop-self-preserved
unfolding count
loop-self-preserved c =
    let s = c.args.self.now in
    let r = c.loop-self.invariant in
    let wrote = c.loop-self.wrote_non_junk_entry in
    let n = entry_next s.nodes.source.now s.nodes.tree.now c.args.with_junk c.args.self.now.nodes.fit r.1 c.loop-self-test.true in (
      carried-on r.0 c.serialize_entry.ensures,
      n.on _ (carried-did r.0 (λ source. entry source c.args.with_junk wrote) c.serialize_entry.ensures)
          (c.wrote_by-wrote_non_junk_entry.ensures
          ∙ ap (λ k. wrote_by [] wrote k) (c.kind_at-kind.ensures ∙ carried-kind r.0)),
    )

pub returns : goal.returns
unfolding count
returns c =
    let s = c.args.self.now in
    let r = c.loop-self.invariant in
    let P : State → Type 0 =
    λ z. Wrote (output_of s) (output_of c.loop-self.self) z.writer (place_of c.loop-self.self.writer)
    (resource s.nodes.source.now c.args.with_junk false (nodes (marks_in s.nodes.tree.now))) in
    record {
      same_reference = r.0.same_reference;
      wrote = record {
        wrote =
            subst P (sym c.requires.begun)
            (entries-done s.nodes.source.now s.nodes.tree.now c.args.with_junk c.args.self.now.nodes.fit r.1 (omega (arith, c.loop-self-test.false)));
      };
    }
