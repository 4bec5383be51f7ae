-- What the contracts say of moves over a source, and of readers with marks.
use Rattle.std.specs.Prelude.{◌≡◌, ℕ, ◌+◌, ◌≤◌, Bool, Result, Ok, Err, List, drop}
use Rattle.syntax.specs.Layout.{tree_capacity}
use Rattle.syntax.specs.Reader.{Out}
use Rattle.entry.specs.declared.errors.Stop.{Stop}
use Rattle.entry.specs.declared.errors.Stop.TheVariants.{Error, TooDeep}
use Rattle.entry.specs.declared.source.Source.{Source}
use Rattle.entry.specs.declared.parser.Parser.{Parser}
use Rattle.entry.specs.Place.{Place, At, Bad, Counted, Passed, Went, Found}
use Rattle.entry.specs.declared.marks.Marks.{Marks}
use Rattle.entry.specs.Marks.{Same}
use Rattle.entry.specs.Did.{told, Did}

-- ---- without marks

-- what is still to be read
abbrev pub rest : Source → List ℕ
rest s = drop s.ptr s.bytes.now

-- k bytes were passed
pub record Passes (s s' : Source) (k : ℕ) : Type 0 where
  pub bytes : s'.bytes ≡ s.bytes
  pub passed : Passed s.bytes.now s.ptr k s'.ptr

-- the n bytes were passed that pass a test, by what a call of it may answer, and not the byte after them
pub record Skips (answers : ℕ → Bool → Type 0) (s s' : Source) (n : ℕ) : Type 0 where
  pub bytes : s'.bytes ≡ s.bytes
  pub counted : Counted answers (rest s) n
  pub end : s'.ptr ≡ s.ptr + n

-- n bytes were passed, and are told
pub record Counts (s s' : Source) (n r : ℕ) : Type 0 where
  pub passes : Passes s s' n
  pub told : r ≡ n

-- the definition's answer o is the value a
pub record Goes {A : Type 0} (s s' : Source) (o : Out A) (a : A) : Type 0 where
  pub bytes : s'.bytes ≡ s.bytes
  pub went : Went s.bytes.now s.ptr o a s'.ptr

-- a result and the place after it; it is never that an opening nests too deep
abbrev pub place_of : Result (Unit {0}) Stop → ℕ → Place
place_of (Ok u) k = At k
place_of (Err (Error f)) k = Bad f k
place_of (Err TooDeep) k = At k

-- the result is the definition's answer o
pub record Finds {A : Type 0} (s s' : Source) (o : Out A) (r : Result (Unit {0}) Stop) : Type 0 where
  pub bytes : s'.bytes ≡ s.bytes
  pub found : Found s.bytes.now s.ptr o (place_of r s'.ptr)
  pub shallow : r ≡ Err TooDeep → ⊥

-- ---- with marks

-- what a reader asks: the marks so far and k more are at most eight for each byte before
pub record Room (p : Parser) (k : ℕ) : Type 0 where
  pub spent : p.tree.now.count + k ≤ tree_capacity p.source.ptr

-- the same of a reader of an entry, whose opening mark stands already
pub record Entered (p : Parser) : Type 0 where
  pub spent : p.tree.now.count ≤ tree_capacity p.source.ptr + 1

-- the bytes are the same, and so are the tree's words in memory
pub record Frame (s s' : Source) (m m' : Marks) : Type 0 where
  pub bytes : s'.bytes ≡ s.bytes
  pub tree : Same m m'

-- the result is the definition's answer o, and its marks were written
pub record ReadsOf {A T : Type 0} (w : A → T) (s s' : Source) (m m' : Marks) (r : Result T Stop) (o : Out A) : Type 0 where
  pub frame : Frame s s' m m'
  pub did : Did w m.capacity s.ptr m.count m.words.now m'.words.now (told r s'.ptr m'.count) o

-- the same of a parser
abbrev pub Reads : {A T : Type 0} → (A → T) → Parser → Parser → Result T Stop → Out A → Type 0
Reads w p p' r o = ReadsOf w p.source p'.source p.tree.now p'.tree.now r o
