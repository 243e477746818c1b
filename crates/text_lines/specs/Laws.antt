-- This module defines the terms of the laws of lines and fields.
use Rattle.std.specs.Prelude.{◌≡◌, ◌≢◌, ◌≤◌, ◌-◌, ℕ, List, [], ◌∷◌, false, length, drop}
use Rattle.text_lines.specs.Text.{is_blank}

-- This byte is nowhere in the bytes.
abbrev pub HasNo : ℕ → List ℕ → Type 0
HasNo x [] = Unit {0}
HasNo x (b ∷ bytes) = (b ≢ x) × HasNo x bytes

-- A text ends in these bytes.
pub record IsEndOf (rest text : List ℕ) : Type 0 where
  pub within : length rest ≤ length text
  pub bytes : rest ≡ drop (length text - length rest) text

-- The last byte is no CR.
abbrev pub EndsInNoCr : List ℕ → Type 0
EndsInNoCr [] = Unit {0}
EndsInNoCr (b ∷ []) = b ≢ 13
EndsInNoCr (b ∷ c ∷ bytes) = EndsInNoCr (c ∷ bytes)

-- The bytes have neither a space nor a tab.
abbrev pub HasNoBlank : List ℕ → Type 0
HasNoBlank [] = Unit {0}
HasNoBlank (b ∷ bytes) = (is_blank b ≡ false) × HasNoBlank bytes
