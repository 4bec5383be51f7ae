-- What the contracts say of the words of an error list while it is written.
use Rattle.std.specs.Prelude.{ℕ, ◌+◌, ◌*◌, ◌≤◌, ◌<◌, ◌^◌, ◌≡◌, List, ◌++◌, map, length, take, drop}
use Rattle.syntax.specs.Limits.{max_length}
use Rattle.syntax.specs.declared.errors.ParserError.{ParserError}
use Rattle.syntax.specs.Core.{Error}
use Rattle.syntax.specs.Layout.{group_size, groups, error_number}

-- a number that fits a word
abbrev pub Small : ℕ → Type 0
Small x = x < 2 ^ 32

abbrev pub with_junk : ParserError → ℕ → ℕ → Error
with_junk e a z = record { fault = e; junk_from = a; junk_till = z }

-- a list has room for cap errors, and n are there
pub record Spare (t : List ℕ) (cap n : ℕ) : Type 0 where
  pub fits : n < cap
  pub small : cap ≤ max_length
  pub layout : 2 + 7 * cap ≤ length t

-- after the first n errors stand es. The words past the layout are as they were
pub record ErrorStep (cap n : ℕ) (t t' : List ℕ) (es : List Error) : Type 0 where
  pub long : length t' ≡ length t
  pub kinds : take (n + length es) (drop 2 t') ≡ take n (drop 2 t) ++ map error_number es
  pub groups : take (group_size * (n + length es)) (drop (2 + cap) t') ≡ take (group_size * n) (drop (2 + cap) t) ++ groups es
  pub rest : drop (2 + 7 * cap) t' ≡ drop (2 + 7 * cap) t
