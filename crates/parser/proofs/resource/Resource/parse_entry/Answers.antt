-- `resource::Resource::parse_entry` meets its contract: what is held at an entry gives what is held at the next.
use denote.Ref.{Bor}
use Prim.Native.Nat.{ℕ, ◌*◌}
use mathlib.Core.Path.{refl, ap}
use mathlib.Core.List.{List, [], ◌∷◌}
use native.Mathlib.Omega.{arith}
use lib.ListN.{length, drop}
use Rattle.syntax.specs.Limits.{max_open}
use Rattle.syntax.specs.Expression.{level}
use Rattle.syntax.specs.Core.{get_entry}
use Rattle.entry.specs.Tree.{word, Step}
use Rattle.entry.specs.Did.{told, result_by, plain, Did}
use Rattle.entry.specs.Entry.{entry_of}
use Rattle.entry.proofs.Dids.{failed-wrote}
use Rattle.parser.proofs.Got.{got, lost-at, far-at}
use Rattle.parser.proofs.Files.{Since, entry-room, entry-fits, entry-attachable, held-entry, lost-inside, lost-long, held-junk, held-far}
use Rattle.parser.proofs.resource.Resource.parse_entry.Goals as goal
use Rattle.parser.proofs.resource.Resource.parse_entry.Goals.{After-get_entry-read}

-- the entry's opening mark was put
put : (c : After-get_entry-read) → Step (8 * length c.args.self.now.source.now) c.args.self.now.marks c.args.self.now.tree.now c.put.new.self.tree.now (word 1 0 ∷ [])
put c = rw c.number.ensures at c.put.ensures.step

-- it was read
read : (c : After-get_entry-read) → let s = c.args.self.now.source.now in let r = c.get_entry-read.result in
    Did plain (8 * length s) c.args.self.now.at c.put.new.self.marks c.put.new.self.tree.now c.get_entry-read.new.tree (told (result_by entry_of r.entry) r.at r.marks)
    (get_entry (level max_open) (drop c.args.self.now.at s))
read c = rw c.put.ensures.aside.same.source at c.get_entry-read.ensures

-- and the rest stayed
since : (c : After-get_entry-read) → Since c.requires.held c.requires.at_in_bounds c.put.new.self
since c =
    let w = c.put.ensures in
    record {
      source = ap (λ (b : Bor (List ℕ)). b.now) w.aside.same.source;
      list = w.aside.list;
      error_count = w.aside.error_count;
      comment = w.comment;
    }

pub close_entry-requires : goal.close_entry-requires
close_entry-requires c =
    let d = (goal.at.close_entry-requires c).After-get_entry-read in
    let h = c.requires.held in
    let l = c.requires.at_in_bounds in
    let q = since d in
    let g = got _ _ (read d) _ c.in-Ok.is in
    record {
      room = rw q.source (entry-fits h l c.put.ensures.marks (put d) g);
      opened = (entry-room h l c.put.ensures.marks (put d) g).0;
      comment = rw q.comment (entry-attachable h l c.put.ensures.marks (put d) g);
    }

pub put_junk-requires : goal.put_junk-requires
put_junk-requires c =
    let d = (goal.at.put_junk-requires c).After-get_entry-read in
    let h = c.requires.held in
    let l = c.requires.at_in_bounds in
    let q = since d in
    let w = failed-wrote (read d) in
    let g = lost-at _ _ (read d) _ c.in-Err-Error.is (rw c.in-Err-Error.is at c.in-Err-Error.field-0-is) in
    let n = lost-long h l c.put.ensures.marks (put d) w g in
    record {
      sized =
          record {
            short = rw q.source h.sized.short;
            tree = rw q.source (omega (arith, n, h.sized.tree));
            errors = rw (q.source, q.list) h.sized.errors;
          };
      inside = rw q.source (lost-inside h l c.put.ensures.marks (put d) w g);
      here = rw (q.source, c.put.ensures.aside.at) l;
      marks = rw c.put.ensures.aside.at h.room;
      error_count = rw (c.put.ensures.aside.at, q.error_count) h.few;
    }

pub returns-in-Ok-clause-turned : goal.returns-in-Ok-clause-turned
returns-in-Ok-clause-turned c =
    let d = (goal.at.returns-in-Ok-clause-turned c).After-get_entry-read in
    let h = c.requires.held in
    let l = c.requires.at_in_bounds in
    let g = got _ _ (read d) _ c.in-Ok.is in
    let q = since d in
    held-entry h l c.put.ensures.marks (put d) g _ _ (record { source = q.source; list = q.list; error_count = q.error_count; comment = q.comment })
    refl refl refl _ refl c.close_entry.ensures

pub returns-in-Err-Error-clause-turned : goal.returns-in-Err-Error-clause-turned
returns-in-Err-Error-clause-turned c =
    let d = (goal.at.returns-in-Err-Error-clause-turned c).After-get_entry-read in
    let h = c.requires.held in
    let l = c.requires.at_in_bounds in
    let w = failed-wrote (read d) in
    let g = lost-at _ _ (read d) _ c.in-Err-Error.is (rw c.in-Err-Error.is at c.in-Err-Error.field-0-is) in
    let q = since d in
    held-junk h l c.put.ensures.marks (put d) w g _ _ (record { source = q.source; list = q.list; error_count = q.error_count; comment = q.comment })
    c.put.ensures.aside.at refl refl c.put_junk.ensures

pub returns-in-Err-TooDeep-clause-turned : goal.returns-in-Err-TooDeep-clause-turned
returns-in-Err-TooDeep-clause-turned c =
    let d = (goal.at.returns-in-Err-TooDeep-clause-turned c).After-get_entry-read in
    let g = far-at _ _ (read d) _ c.in-Err-TooDeep.is (rw c.in-Err-TooDeep.is at c.in-Err-TooDeep.field-0-is) in
    held-far c.requires.held c.requires.at_in_bounds c.put.ensures.marks (put d) (failed-wrote (read d)) c.put.ensures.aside.list g
