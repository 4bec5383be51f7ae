-- What the functions of crate entry test holds where it is required.
use Prim.Native.Nat.{ℕ}
use mathlib.Core.Path.{◌≡◌, refl}
use mathlib.Core.Bool.{true}
use mathlib.Core.List.{List}
use native.Mathlib.Omega.{arith}
use lib.ListN.{length}
use borrow.Author.Tests.{le-leb, lt-ltb}
use Rattle.syntax.specs.Layout.{tree_capacity}
use Rattle.entry.specs.Tree.{Fits}
use Rattle.std.specs.Prelude.{Option, Some, None}
use Rattle.std.specs.Option.{IsSome}
use Rattle.entry.specs.Border.{readable, ReadAs, roomy}
use Rattle.entry.specs.declared.border.EntryRead.{EntryRead}
use Rattle.parser.specs.Place.{Entered}

pub can-read : {s t : List ℕ} {at n : ℕ} → Entered s t (tree_capacity (length s)) at n → readable (length s) (length t) at n ≡ true
unfolding readable
can-read e = rw (le-leb _ _ e.short, le-leb _ _ e.inside, le-leb _ _ e.spent, le-leb _ _ e.layout)

pub can-put : {t : List ℕ} {cap n : ℕ} → Fits t cap n 1 → roomy (length t) cap n ≡ true
unfolding roomy
can-put {t} {cap} {n} f = rw (lt-ltb n cap (omega (arith, f.fits)), le-leb _ _ f.layout)

-- an entry was read where it can be
pub is-read : (s : List ℕ) (at left n : ℕ) (t t' : List ℕ) (r : Option EntryRead) → ReadAs s at left n t t' r → IsSome r
is-read s at left n t t' (Some x) d = refl
is-read s at left n t t' None d = absurd d
