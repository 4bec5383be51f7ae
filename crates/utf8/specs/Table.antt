-- Worked examples of `first_ill_formed`: sources, each with the offset at which it goes wrong.
use Rattle.std.specs.Prelude.{ℕ, ◌≡◌, refl, List, [], ◌∷◌, map}
use Rattle.std.proofs.Math.Option.{Option, none, some}
use Rattle.utf8.specs.Utf8.{first_ill_formed, scan, width, width_by, whole, fits, within, table}

pub record Example : Type 0 where
  pub source : List ℕ
  pub expected : Option ℕ

infix 40 ◌gives◌
abbrev pub ◌gives◌ : List ℕ → Option ℕ → Example
source gives expected = record { source = source; expected = expected }

unfoldable pub examples : List Example
examples =
    ([] gives none)
    ∷ (0x61 ∷ 0x7F ∷ [] gives none)
    -- é, €, 𝄞, and the last scalar value
    ∷ (0xC3 ∷ 0xA9 ∷ [] gives none)
    ∷ (0xE2 ∷ 0x82 ∷ 0xAC ∷ [] gives none)
    ∷ (0xF0 ∷ 0x9D ∷ 0x84 ∷ 0x9E ∷ [] gives none)
    ∷ (0xF4 ∷ 0x8F ∷ 0xBF ∷ 0xBF ∷ [] gives none)
    -- cut off
    ∷ (0xC3 ∷ [] gives some 0)
    ∷ (0xE2 ∷ 0x82 ∷ [] gives some 0)
    ∷ (0xF0 ∷ 0x9D ∷ 0x84 ∷ [] gives some 0)
    ∷ (0xC3 ∷ 0xA9 ∷ 0xE2 ∷ 0x82 ∷ 0x61 ∷ [] gives some 2)
    -- overlong forms
    ∷ (0xC0 ∷ 0x80 ∷ [] gives some 0)
    ∷ (0xE0 ∷ 0x80 ∷ 0x80 ∷ [] gives some 0)
    ∷ (0xF0 ∷ 0x8F ∷ 0xBF ∷ 0xBF ∷ [] gives some 0)
    -- a surrogate, and past U+10FFFF
    ∷ (0xED ∷ 0xA0 ∷ 0x80 ∷ [] gives some 0)
    ∷ (0xF4 ∷ 0x90 ∷ 0x80 ∷ 0x80 ∷ [] gives some 0)
    ∷ (0xF5 ∷ [] gives some 0)
    -- no first byte
    ∷ (0x80 ∷ [] gives some 0)
    ∷ (0x61 ∷ 0xFF ∷ [] gives some 1)
    ∷ []

pub each_holds : map (λ (e : Example). first_ill_formed e.source) examples ≡ map (λ (e : Example). e.expected) examples
unfolding examples first_ill_formed scan width width_by whole fits within table
each_holds = refl
