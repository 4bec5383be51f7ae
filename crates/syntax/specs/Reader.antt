-- Readers. A reader is given the rest of a source. All that it answers counts from the byte at which it starts, so that what a rest is read
-- as does not depend on what stands before it.
use Rattle.std.specs.Prelude.{ℕ, zero, suc, ◌+◌, List, [], ◌++◌, drop, length}
use Rattle.syntax.specs.Marks.{Mark, move_up, node}
use Rattle.syntax.specs.Errors.{ErrorKind, ParserError, up_fault, fault_at}

-- ok: a value, the marks, the bytes used. bad: the error, and where reading stopped. deep: the opening that is one too many
pub data Out (A : Type 0) : Type 0 where
  ok : A → List Mark → ℕ → Out A
  bad : ParserError → ℕ → Out A
  deep : ℕ → Out A

abbrev pub Reader : Type 0 → Type 0
Reader A = List ℕ → Out A

-- an answer that follows the marks ms and k bytes
unfoldable pub after : {A : Type 0} → List Mark → ℕ → Out A → Out A
after ms k (ok a ns j) = ok a (ms ++ move_up k ns) (k + j)
after ms k (bad f j) = bad (up_fault k f) (k + j)
after ms k (deep j) = deep (k + j)

-- an answer, then what q reads from where it ends
unfoldable pub next : {A B : Type 0} → List ℕ → (A → Reader B) → Out A → Out B
next s q (ok a ms k) = after ms k (q a (drop k s))
next s q (bad f k) = bad f k
next s q (deep k) = deep k

infixl 10 ◌>>=◌ ◌>>◌
-- one reader after the other; `do` is written with these two
unfoldable pub ◌>>=◌ : {A B : Type 0} → Reader A → (A → Reader B) → Reader B
(p >>= q) s = next s q (p s)

unfoldable pub ◌>>◌ : {A B : Type 0} → Reader A → Reader B → Reader B
(p >> q) s = next s (λ _. q) (p s)

unfoldable pub pure : {A : Type 0} → A → Reader A
pure a s = ok a [] 0

unfoldable pub fail : {A : Type 0} → ErrorKind → Reader A
fail kind s = bad (fault_at kind 0) 0

-- an answer's marks put in a node
unfoldable pub wrap : {A : Type 0} → ℕ → Out A → Out A
wrap kind (ok a ms k) = ok a (node kind ms) k
wrap kind (bad f k) = bad f k
wrap kind (deep k) = deep k

unfoldable pub in_node : {A : Type 0} → ℕ → Reader A → Reader A
in_node kind p s = wrap kind (p s)

-- a turn of a loop: go on in a new state past some marks and bytes, or be done
pub data Turn (S A : Type 0) : Type 0 where
  again : S → List Mark → ℕ → Turn S A
  done : Out A → Turn S A

unfoldable pub turn_of : {S A : Type 0} → Out S → Turn S A
turn_of (ok st ms k) = again st ms k
turn_of (bad f k) = done (bad f k)
turn_of (deep k) = done (deep k)

-- at most n turns
unfoldable pub loop : {S A : Type 0} → ℕ → (S → List ℕ → Turn S A) → S → Reader A
loop zero turn st s = deep 0
loop (suc n) turn st s = elim (turn st s) [ again st' ms k ↦ after ms k (loop n turn st' (drop k s)) | done o ↦ o ]

-- turns until one is done. Each uses a byte, so that one more turn than there are bytes is enough
unfoldable pub repeat : {S A : Type 0} → (S → List ℕ → Turn S A) → S → Reader A
repeat turn st s = loop (suc (length s)) turn st s
