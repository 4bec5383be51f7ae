-- What a case of the writing call holds, and when the call agrees with it.
use Rattle.std.specs.Prelude.{ℕ, ◌+◌, ◌-◌, ◌*◌, ◌≤◌, ◌≡◌, Bool, List, [], ◌∷◌, ◌++◌, eqb, length, replicate, drop}
use Rattle.syntax.specs.Answer.{Answer}
use Rattle.syntax.specs.Layout.{array}
use Rattle.syntax.specs.Writing.{write_answer, output_after}
use Rattle.vectors.specs.Stored.{between, long_at, Repeats}
use Rattle.vectors.specs.Agreement.{Tells, Answers}
use Rattle.vectors.specs.declared.written.Written.{Written}

-- the case whose eleven numbers these are
abbrev pub written_in : List ℕ → Written
written_in h =
    record {
      stored = long_at h 0;
      length = long_at h 4;
      tree = long_at h 8;
      middle = long_at h 12;
      output = long_at h 16;
      junk = eqb (long_at h 20) 1;
      number = long_at h 24;
      value = long_at h 28;
      firsts = long_at h 32;
      seconds = long_at h 36;
      text = long_at h 40;
    }

-- numbers of four bytes in a row
unfoldable pub longs : List ℕ → List ℕ
longs [] = []
longs (a ∷ []) = []
longs (a ∷ b ∷ []) = []
longs (a ∷ b ∷ c ∷ []) = []
longs (a ∷ b ∷ c ∷ d ∷ bytes) = ((a + 256 * b) + 65536 * (c + 256 * d)) ∷ longs bytes

-- what an output holds before the call
abbrev pub filling_byte : ℕ
filling_byte = 170

unfoldable pub filled_bytes : ℕ → List ℕ
filled_bytes n = replicate n filling_byte

-- the bytes of the stored words, and those with the text
abbrev pub word_bytes : Written → ℕ
word_bytes c = 4 * c.firsts + 4 * c.seconds

abbrev pub listed_text : Written → ℕ
listed_text c = 4 * c.firsts + 4 * c.seconds + c.text

-- the tree: what is stored of its two parts, and zeros behind it
unfoldable pub tree_in : Written → List ℕ → List ℕ
tree_in c l =
    array c.middle (longs (between 0 (4 * c.firsts) l)) ++ array (c.tree - c.middle) (longs (between (4 * c.firsts) (word_bytes c) l))

abbrev pub text_in : Written → List ℕ → List ℕ
text_in c l = between (word_bytes c) (length l) l

-- the listing is the case's, and its words fit in a tree of t words
pub record Holds (c : Written) (l : List ℕ) (t : ℕ) : Type 0 where
  pub whole : length l ≡ listed_text c
  pub tree : t ≡ c.tree
  pub middle : c.middle ≤ c.tree
  pub firsts : c.firsts ≤ c.middle
  pub seconds : c.middle + c.seconds ≤ c.tree

-- what the writing call, handed the case's tree and a filled output of o bytes, answers and leaves
pub record WroteFilled (c : Written) (s l : List ℕ) (o : ℕ) (output : List ℕ) (r : Answer) : Type 0 where
  pub answers : r ≡ write_answer s (tree_in c l) o c.junk
  pub leaves : output ≡ output_after s (tree_in c l) (filled_bytes o) c.junk

-- the definition's answer for the source s, the case's tree and a filled output of o bytes is the case's, and so is
-- every byte that it leaves
pub record AgreesText (c : Written) (s l : List ℕ) (o : ℕ) : Type 0 where
  pub answers : Answers c.number c.value (write_answer s (tree_in c l) o c.junk)
  pub output : output_after s (tree_in c l) (filled_bytes o) c.junk ≡ text_in c l ++ drop (length (text_in c l)) (filled_bytes o)

-- a case fits in slices of so many bytes and words
pub record FitsText (c : Written) (s l t o : ℕ) : Type 0 where
  pub stored : c.stored ≤ c.length
  pub source : c.length ≤ s
  pub tree : c.tree ≤ t
  pub middle : c.middle ≤ c.tree
  pub output : c.output ≤ o
  pub firsts : c.firsts ≤ c.middle
  pub seconds : c.middle + c.seconds ≤ c.tree
  pub low : c.tree ≤ 1000000
  pub short : c.text ≤ 1000000
  pub listing : listed_text c ≤ l

-- a case was replayed: its source is what is stored, repeated
pub record Rewritten (c : Written) (before after listing : List ℕ) (r : Bool) : Type 0 where
  pub repeats : Repeats c.stored (between 0 c.length before) (between 0 c.length after)
  pub agrees : Tells r (AgreesText c (between 0 c.length after) (between 0 (listed_text c) listing) c.output)
