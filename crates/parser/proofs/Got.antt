-- What a reader of an entry answered, taken apart.
use Prim.Native.Nat.{ℕ, ◌+◌}
use mathlib.Core.Path.{◌≡◌, ap, sym, ◌∙◌}
use mathlib.Core.List.{List}
use lib.ListN.{length}
use Rattle.std.proofs.Common.{Ok, Err}
use Rattle.syntax.specs.declared.errors.ParserError.{ParserError}
use Rattle.syntax.specs.Marks.{Mark}
use Rattle.syntax.specs.Reader.{Out, ok}
use Rattle.syntax.specs.Core.{Entry}
use Rattle.entry.specs.Tree.{Step, words_at}
use Rattle.entry.specs.Did.{told, result_by, plain, Did}
use Rattle.entry.specs.Entry.{entry_of}
use Rattle.entry.specs.declared.border.EntryRead.{EntryRead}
use Rattle.entry.specs.declared.parser_core.Entry.{Entry as CodeEntry}
use Rattle.entry.specs.declared.errors.Stop.{Stop}
use Rattle.entry.specs.declared.errors.Stop.TheVariants.{Error, TooDeep}
use Rattle.entry.proofs.Dids.{Lost, Far, valued, lost, far}

-- the entry x was read, up to a; n' marks are there
pub record Got (x : Entry) (cap at n a n' : ℕ) (t t₁ : List ℕ) (o : Out Entry) : Type 0 where
  pub ms : List Mark
  pub k : ℕ
  pub is : o ≡ ok x ms k
  pub place : a ≡ at + k
  pub count : n' ≡ n + length ms
  pub wrote : Step cap n t t₁ (words_at at ms)

module _ {cap at n : ℕ} {t t₁ : List ℕ} (r : EntryRead) (o : Out Entry)
    (d : Did plain cap at n t t₁ (told (result_by entry_of r.entry) r.at r.marks) o) where
  pub got : (v : CodeEntry) → r.entry ≡ Ok v → Got (entry_of v) cap at n r.at r.marks t t₁ o
  got v e =
      let w = valued o d (ap (λ i. told (result_by entry_of i) r.at r.marks) e) in
      let f = w.found in
      record { ms = f.ms; k = f.k; is = f.is ∙ ap (λ x. ok x f.ms f.k) (sym w.told); place = f.place; count = f.count; wrote = f.wrote }

  pub lost-at : {f : ParserError} (v : Stop) → r.entry ≡ Err v → v ≡ Error f → Lost at f r.at o
  lost-at v e z = lost o d (ap (λ i. told (result_by entry_of i) r.at r.marks) (e ∙ ap Err z))

  pub far-at : (v : Stop) → r.entry ≡ Err v → v ≡ TooDeep → Far at r.at o
  far-at v e z = far o d (ap (λ i. told (result_by entry_of i) r.at r.marks) (e ∙ ap Err z))
