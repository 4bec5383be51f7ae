-- The limits on a source.
use Rattle.std.specs.Prelude.{ℕ}

-- bytes
abbrev pub max_length : ℕ
max_length = 1_000_000

-- the most '{' and '(' that may be open at one time
abbrev pub max_open : ℕ
max_open = 64
