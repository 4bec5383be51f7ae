-- Parsers. A parser is given the rest of a source, and answers whether it starts with what the parser describes: a
-- value, the marks and the bytes
-- used, all counted from the rest's start, or that it doesn't. Choice is ordered, repetition is greedy, and nothing is
-- undone once a parser has
-- answered. The end of input is a parser that uses nothing.
use Rattle.std.specs.Prelude.{ℕ, zero, suc, ◌+◌, Bool, true, false, List, [], ◌∷◌, ◌++◌, drop, take, length, eqb}
use Rattle.syntax.specs.Bytes.{starts}
use Rattle.syntax.specs.Marks.{Mark, move_up, node, text_node}

pub data Answer (A : Type 0) : Type 0 where
  fits : A → List Mark → ℕ → Answer A
  fails : Answer A

abbrev pub Parser : Type 0 → Type 0
Parser A = List ℕ → Answer A

unfoldable pub pure : {A : Type 0} → A → Parser A
pure a s = fits a [] 0

unfoldable pub never : {A : Type 0} → Parser A
never s = fails

-- an answer that follows the marks ms and k bytes
unfoldable pub after : {A : Type 0} → List Mark → ℕ → Answer A → Answer A
after ms k (fits a ns j) = fits a (ms ++ move_up k ns) (k + j)
after ms k fails = fails

unfoldable pub next : {A B : Type 0} → List ℕ → (A → Parser B) → Answer A → Answer B
next s q (fits a ms k) = after ms k (q a (drop k s))
next s q fails = fails

infixl 10 ◌>>=◌ ◌>>◌
-- sequence: `do` is written with these two
unfoldable pub ◌>>=◌ : {A B : Type 0} → Parser A → (A → Parser B) → Parser B
(p >>= q) s = next s q (p s)

unfoldable pub ◌>>◌ : {A B : Type 0} → Parser A → Parser B → Parser B
(p >> q) s = next s (λ _. q) (p s)

infixr 5 ◌//◌
-- p / q: ordered choice
unfoldable pub ◌//◌ : {A : Type 0} → Parser A → Parser A → Parser A
(p // q) s = elim (p s) [ fits a ms k ↦ fits a ms k | fails ↦ q s ]

-- p?, with the value where p fails
unfoldable pub opt : {A : Type 0} → A → Parser A → Parser A
opt a p = p // pure a

unfoldable pub with_first : {A : Type 0} → A → Answer (List A) → Answer (List A)
with_first a (fits more ms k) = fits (a ∷ more) ms k
with_first a fails = fails

-- at most n times p. A turn that uses nothing ends the repetition, and is not kept
unfoldable pub turns : {A : Type 0} → ℕ → Parser A → Parser (List A)
turns zero p s = fits [] [] 0
turns (suc n) p s =
    elim (p s) [
      | fits a ms k ↦ elim (eqb k 0) [ true ↦ fits [] [] 0 | false ↦ with_first a (after ms k (turns n p (drop k s))) ]
      | fails ↦ fits [] [] 0
    ]

-- p*. Each turn uses a byte, so that as many turns as there are bytes are enough
unfoldable pub many : {A : Type 0} → Parser A → Parser (List A)
many p s = turns (length s) p s

-- p+
unfoldable pub some : {A : Type 0} → Parser A → Parser (List A)
some p = do
  a ← p
  more ← many p
  pure (a ∷ more)

-- p{n}: n times p
unfoldable pub times : {A : Type 0} → ℕ → Parser A → Parser (Unit {0})
times zero p = pure tt
times (suc n) p = p >> times n p

-- at most n times p, with sep between
unfoldable pub list_turns : {A B : Type 0} → ℕ → Parser A → Parser B → Parser (List A)
list_turns zero p sep s = fits [] [] 0
list_turns (suc n) p sep s =
    elim (p s) [
      | fits a ms k ↦ elim
          (sep (drop k s)) [
            | fits b ns j ↦ with_first a (after ms k (after ns j (list_turns n p sep (drop j (drop k s)))))
            | fails ↦ fits (a ∷ []) ms k
          ]
      | fails ↦ fits [] [] 0
    ]

-- (p sep)* p?, where each p is read once; p uses a byte
unfoldable pub list_of : {A B : Type 0} → Parser A → Parser B → Parser (List A)
list_of p sep s = list_turns (length s) p sep s

-- &p and !p
unfoldable pub ahead : {A : Type 0} → Parser A → Parser (Unit {0})
ahead p s = elim (p s) [ fits a ms k ↦ fits tt [] 0 | fails ↦ fails ]

unfoldable pub bar : {A : Type 0} → Parser A → Parser (Unit {0})
bar p s = elim (p s) [ fits a ms k ↦ fails | fails ↦ fits tt [] 0 ]

infixl 10 ◌but◌
-- p - q: p where q doesn't match
unfoldable pub ◌but◌ : {A B : Type 0} → Parser A → Parser B → Parser A
p but q = bar q >> p

-- a byte that passes the test
unfoldable pub one : (ℕ → Bool) → Parser (Unit {0})
one test s = elim (starts test s) [ true ↦ fits tt [] 1 | false ↦ fails ]

unfoldable pub byte : ℕ → Parser (Unit {0})
byte b = one (λ x. eqb x b)

unfoldable pub eof : Parser (Unit {0})
eof [] = fits tt [] 0
eof (b ∷ bs) = fails

unfoldable pub void : {A : Type 0} → Parser A → Parser (Unit {0})
void p = do
  p
  pure tt

-- p, answering how many bytes it used
unfoldable pub sized : {A : Type 0} → Parser A → Parser ℕ
sized p s = elim (p s) [ fits a ms k ↦ fits k ms k | fails ↦ fails ]

-- p's marks in a node
unfoldable pub in-node : {A : Type 0} → ℕ → Parser A → Parser A
in-node kind p s = elim (p s) [ fits a ms k ↦ fits a (node kind ms) k | fails ↦ fails ]

-- what p matched, as the text of a node
unfoldable pub as-text : {A : Type 0} → ℕ → Parser A → Parser (List ℕ)
as-text kind p s = elim (p s) [ fits a ms k ↦ fits (take k s) (text_node kind 0 k) k | fails ↦ fails ]

-- an abstract rule: forbidden where the test fails
unfoldable pub only : Bool → Parser (Unit {0})
only true = pure tt
only false = never

-- departures: what there is where a switch is on, and p in the place of q
unfoldable pub given : {A : Type 0} → Bool → Parser A → Parser A
given true p = p
given false p = never

unfoldable pub pick : {A : Type 0} → Bool → Parser A → Parser A → Parser A
pick true p q = p
pick false p q = q

-- f p, where f reads p only at its own start: p is read there once
unfoldable pub share : {A B : Type 0} → Answer A → (Parser A → Parser B) → Parser B
share o f s = f (λ _. o) s

unfoldable pub shared : {A B : Type 0} → Parser A → (Parser A → Parser B) → Parser B
shared p f s = share (p s) f s
