-- For every source that is accepted, the tree is that of Project Fluent Syntax 1.0 with all departures on.
use Rattle.std.specs.Prelude.{ℕ, ◌≡◌, List, ◌∷◌, length, drop, leb, Ok}
use Rattle.std.proofs.Common.{sym, ap, ◌∙◌, arith, leb-true, leb-false}
use Rattle.syntax.specs.Limits.{max_open}
use Rattle.syntax.specs.Marks.{Mark}
use Rattle.syntax.specs.Layout.{tree_capacity, tree_layout, marks_in}
use Rattle.syntax.specs.Reading.{read_answer, tree_after}
use Rattle.syntax.specs.declared.errors.ParserError.{ParserError}
use Rattle.syntax.specs.Reader.{ok, bad}
use Rattle.syntax.specs.Expression.{level}
use Rattle.syntax.specs.Core as Core
use Rattle.syntax.specs.Core.{Error, read, parse, get_entry}
use Rattle.standard.specs.Peg.{fails}
use Rattle.standard.specs.Turns.{Fitting}
use Rattle.laws.specs.Bytes.{by_case}
use Rattle.laws.specs.Call.{read_of}
use Rattle.laws.specs.File.{parse-read, parse-reads}
use Rattle.laws.specs.Formed.{proper}
use Rattle.laws.specs.Layout.{tree-marks}
use Rattle.laws.specs.Limit.Readings.{parse-kept}
use Rattle.standard.specs.Dialect.{rust}
use Rattle.standard.specs.Grammar as Grammar
use Rattle.standard.specs.Grammar.{Entry, ResourceWithin}
use Rattle.standard.proofs.WholePattern.{pattern-agrees}
use Rattle.standard.proofs.Placeable.{levels-agree}
use Rattle.standard.proofs.Resource as Resource

-- with at most n "{" and "(" open at a time
pub tree-is-standard : (n : ℕ) (s : List ℕ) (ms : List Mark) (es : List Error) → parse n s ≡ read ms es → ResourceWithin rust n s ≡ ms
tree-is-standard n = Resource.tree-is-standard n (levels-agree pattern-agrees n)

-- with as many as there are bytes, so that none is one too many: a reading that is not refused is the same with more allowed
pub resource-is-standard : (n : ℕ) (s : List ℕ) (ms : List Mark) (es : List Error) → parse n s ≡ read ms es → Grammar.Resource rust s ≡ ms
unfolding Grammar.Resource
resource-is-standard n s ms es e =
    by_case (leb n (length s))
    (λ q. tree-is-standard (length s) s ms es (parse-kept n (length s) s (leb-true n (length s) q) e))
    (λ q. let (ns, fs, r) = parse-reads (length s) s (omega arith) in
    let f : parse n s ≡ read ns fs = parse-kept (length s) n s (omega (arith, leb-false n (length s) q)) r in
    let z : ns ≡ ms = cc in tree-is-standard (length s) s ns fs r ∙ z)

-- for every source that the reading call accepts, whatever slices it is lent
pub accepted-is-standard : (s tree errors : List ℕ) → read_answer s (length tree) (length errors) ≡ Ok 0
    → marks_in (tree_after s tree errors) ≡ Grammar.Resource rust s
accepted-is-standard s t e h =
    let r = read_of s t e h in
    let u = (parse-read max_open s r.reads).0 in
    ap marks_in r.tree
    ∙ tree-marks (tree_capacity (length s)) r.marks (drop (tree_layout (length s)) t) (omega (arith, u.room))
    (proper max_open s r.marks r.errors r.reads)
    ∙ sym (resource-is-standard max_open s r.marks r.errors r.reads)

-- There is junk exactly where no entry can be read: the production Entry fails where the reading finds an error, and
-- fits where it reads an entry
pub unread-fails : (n b : ℕ) (bs : List ℕ) (f : ParserError) (k : ℕ) → get_entry (level n) (b ∷ bs) ≡ bad f k → Entry rust n (b ∷ bs) ≡ fails
unread-fails n = Resource.unread-fails n (levels-agree pattern-agrees n)

pub read_fits : (n b : ℕ) (bs : List ℕ) (e : Core.Entry) (ms : List Mark) (k : ℕ)
    → get_entry (level n) (b ∷ bs) ≡ ok e ms k → Fitting (Entry rust n (b ∷ bs))
read_fits n = Resource.read_fits n (levels-agree pattern-agrees n)
